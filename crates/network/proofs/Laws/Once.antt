-- Lists that have each of their elements once: two such lists with the same members are each other's permutation, by bringing the one's first to the other's
-- front. Assumes nothing.
use Prim.Native.Nat.{ℕ, zero, suc, ◌<◌}
use mathlib.Core.Path.{◌≡◌, refl, sym}
use mathlib.Core.Bool.{Bool, true, false}
use mathlib.Core.List.{List, [], ◌∷◌}
use mathlib.Core.List.Memᴰ
use mathlib.Core.List.{Memᴰ}
use mathlib.Core.List.Permᴰ
use mathlib.Core.List.{Permᴰ}
use native.Mathlib.Decide.{dec_lt}
use native.Mathlib.Omega.{arith}
use lib.ListN.{length, get_or}
use Rattle.network.specs.Lists.{pick, below}
use Rattle.network.proofs.Laws.Members.{EveryTwo}
use Rattle.network.proofs.Laws.Members.{every_two_of_places, places_of_every_two, every_two_append}
use Rattle.network.proofs.Laws.Permutations.{member_permuted, every_two_permuted}
use Rattle.network.proofs.Laws.Tables.{below_of_member}

module _ {A : Type 0} where
  -- Two elements that differ; a list that has each of its elements once
  abbrev pub Differ : A → A → Type 0
  Differ a b = a ≡ b → ⊥

  abbrev pub EachOnce : List A → Type 0
  EachOnce xs = EveryTwo Differ xs

  pub each_once_of_places : (d : A) (xs : List A)
      → ((i j : ℕ) → i < length xs → j < length xs → get_or xs i d ≡ get_or xs j d → i ≡ j) → EachOnce xs
  each_once_of_places d xs once = every_two_of_places Differ d xs (λ j k l m e. omega (arith, once j k (omega arith) m e))

  pub places_of_each_once : (d : A) (xs : List A) → EachOnce xs → (i j : ℕ) → i < length xs → j < length xs → get_or xs i d ≡ get_or xs j d → i ≡ j
  places_of_each_once d xs once i j h k e = go (dec_lt i j) (dec_lt j i)
    where
      go : Dec (i < j) → Dec (j < i) → i ≡ j
      go (yes l) q = absurd (places_of_every_two Differ d xs once i j l k e)
      go (no l) (yes q) = absurd (places_of_every_two Differ d xs once j i q h (sym e))
      go (no l) (no q) = omega arith

  -- Two lists with the same members, each once, are each other's permutation: the one's first is brought to the other's front
  to_front : {a : A} (xs : List A) → Memᴰ a xs → (rest : List A) × Permᴰ xs (a ∷ rest)
  to_front [] m = elim m [ ]
  to_front (x ∷ xs) (Memᴰ.head e) = (xs, Permᴰ.cons (sym e) (Permᴰ.refl xs))
  to_front (x ∷ xs) (Memᴰ.tail m) =
      let (rest, π) = to_front xs m in (x ∷ rest, Permᴰ.trans (Permᴰ.cons refl π) (Permᴰ.swap refl refl))

  behind_first : {a x : A} {xs : List A} → Differ x a → Memᴰ a (x ∷ xs) → Memᴰ a xs
  behind_first d (Memᴰ.head e) = absurd (d (sym e))
  behind_first d (Memᴰ.tail m) = m

  pub permuted_of_same_members : (xs ys : List A) → EachOnce xs → EachOnce ys → ((a : A) → Memᴰ a xs → Memᴰ a ys)
      → ((a : A) → Memᴰ a ys → Memᴰ a xs) → Permᴰ xs ys
  permuted_of_same_members [] [] f g h k = Permᴰ.nil
  permuted_of_same_members [] (y ∷ ys) f g h k = absurd (Memᴰ.not-nil (k y (Memᴰ.head refl)))
  permuted_of_same_members (x ∷ xs) ys f g h k =
      let (rest, π) = to_front ys (h x (Memᴰ.head refl)) in
      let once : EachOnce (x ∷ rest) = every_two_permuted Differ (λ a b d e. d (sym e)) π g in
      Permᴰ.trans
      (Permᴰ.cons refl
      (permuted_of_same_members xs rest f.1 once.1
      (λ a m. behind_first (f.0 a m) (member_permuted π (h a (Memᴰ.tail m))))
      (λ a m. behind_first (once.0 a m) (k a (member_permuted (Permᴰ.symm π) (Memᴰ.tail m))))))
      (Permᴰ.symm π)

-- The numbers that pass, each once
pub below_once : (p : ℕ → Bool) (n : ℕ) → EachOnce (below p n)
unfolding below
below_once p zero = tt
below_once p (suc n) = every_two_append Differ (below p n) (pick (p n) (n ∷ []) []) (below_once p n) (alone (p n)) (λ x y m k e. differ (p n) x y m k e)
  where
    alone : (t : Bool) → EachOnce (pick t (n ∷ []) [])
    alone true = (λ y m. absurd (Memᴰ.not-nil m), tt)
    alone false = tt

    differ : (t : Bool) (x y : ℕ) → Memᴰ x (below p n) → Memᴰ y (pick t (n ∷ []) []) → x ≡ y → ⊥
    differ true x y m (Memᴰ.head d) e = let r = below_of_member p n m in omega arith
    differ true x y m (Memᴰ.tail k) e = Memᴰ.not-nil k
    differ false x y m k e = Memᴰ.not-nil k
