-- What holds of a list in one order holds of it in every other: its length, its members, what holds of all of them or of every two whichever
-- comes first, and what is kept by a test. By induction on the permutation. Assumes nothing.
use Prim.Native.Nat.{ℕ, suc, ◌+◌, ◌<◌}
use mathlib.Core.Path.{◌≡◌, refl, sym, ap, ap₂, subst, subst₂, ◌∙◌}
use mathlib.Core.Bool.{Bool, true, false, ◌||◌}
use mathlib.Core.List.Memᴰ
use mathlib.Core.List.{List, [], ◌∷◌, ◌++◌, map, append_assoc, Memᴰ}
use mathlib.Core.List.Permᴰ
use mathlib.Core.List.{Permᴰ}
use mathlib.Core.Logic.{◌⊎◌, inl, inr}
use native.Mathlib.Decide.{ℕ_discrete, dec_lt}
use native.Mathlib.Omega.{arith}
use borrow.Author.Tests.{lt-ltb, le-ltb, eq-eqb, ne_eqb}
use lib.Dec.{eqb, ltb}
use lib.ListN.{length}
use Rattle.network.specs.Lists.{pick, any, keep, sum_of, pairs_of}
use Rattle.network.proofs.Laws.Members.{All, AllPairs, EveryTwo, of_all, member_of_place, every_two_of_places, places_of_every_two}

pub length_permuted : {A : Type 0} {xs ys : List A} → Permᴰ xs ys → length xs ≡ length ys
length_permuted Permᴰ.nil = refl
length_permuted (Permᴰ.cons e π) = ap suc (length_permuted π)
length_permuted (Permᴰ.swap e f) = refl
length_permuted (Permᴰ.trans π ρ) = length_permuted π ∙ length_permuted ρ

module _ {A : Type 0} where
  pub member_permuted : {a : A} {xs ys : List A} → Permᴰ xs ys → Memᴰ a xs → Memᴰ a ys
  member_permuted Permᴰ.nil m = m
  member_permuted (Permᴰ.cons e π) (Memᴰ.head d) = Memᴰ.head (d ∙ e)
  member_permuted (Permᴰ.cons e π) (Memᴰ.tail m) = Memᴰ.tail (member_permuted π m)
  member_permuted (Permᴰ.swap e f) (Memᴰ.head d) = Memᴰ.tail (Memᴰ.head (d ∙ e))
  member_permuted (Permᴰ.swap e f) (Memᴰ.tail (Memᴰ.head d)) = Memᴰ.head (d ∙ f)
  member_permuted (Permᴰ.swap e f) (Memᴰ.tail (Memᴰ.tail m)) = Memᴰ.tail (Memᴰ.tail m)
  member_permuted (Permᴰ.trans π ρ) m = member_permuted ρ (member_permuted π m)

  pub every_two_permuted : (R : A → A → Type 0) → ((a b : A) → R a b → R b a) → {xs ys : List A} → Permᴰ xs ys → EveryTwo R xs → EveryTwo R ys
  every_two_permuted R s Permᴰ.nil f = f
  every_two_permuted R s (Permᴰ.cons e π) f =
      (λ y m. subst (λ x. R x y) e (f.0 y (member_permuted (Permᴰ.symm π) m)), every_two_permuted R s π f.1)
  every_two_permuted R s (Permᴰ.swap {a = a} {b = b} {a' = a'} {b' = b'} {l = l} e g) f =
      (λ y m. first y (Memᴰ.cases_cons m), (λ y m. subst (λ x. R x y) e (f.0 y (Memᴰ.tail m)), f.1.1))
    where
      first : (y : A) → (y ≡ b') ⊎ Memᴰ y l → R a' y
      first y (inl d) = subst (λ x. R x y) g (subst (R b) (e ∙ sym d) (s a b (f.0 b (Memᴰ.head refl))))
      first y (inr m) = subst (λ x. R x y) g (f.1.0 y m)
  every_two_permuted R s (Permᴰ.trans π ρ) f = every_two_permuted R s ρ (every_two_permuted R s π f)

module _ {A : Type 0} (d : A) where
  pub all_permuted : (P : A → Type 0) {xs ys : List A} → Permᴰ xs ys → All d P xs → All d P ys
  all_permuted P {xs} {ys} π f i h = of_all P xs d f (member_permuted (Permᴰ.symm π) (member_of_place ys d i h))

  pub pairs_permuted : (R : A → A → Type 0) → ((a b : A) → R a b → R b a) → {xs ys : List A} → Permᴰ xs ys
      → AllPairs d R xs → AllPairs d R ys
  pairs_permuted R s {xs} {ys} π f = places_of_every_two R d ys (every_two_permuted R s π (every_two_of_places R d xs f))

or_swap : (a b c : Bool) → (a || (b || c)) ≡ (b || (a || c))
or_swap true true c = refl
or_swap true false c = refl
or_swap false b c = refl

module _ {A : Type 0} (p : A → Bool) where
  pub any_permuted : {xs ys : List A} → Permᴰ xs ys → any p xs ≡ any p ys
  unfolding any
  any_permuted Permᴰ.nil = refl
  any_permuted (Permᴰ.cons e π) = ap₂ ◌||◌ (ap p e) (any_permuted π)
  any_permuted (Permᴰ.swap {a = a} {b = b} {l = l} e f) =
      rw (ap p (sym e), ap p (sym f)) (or_swap (p a) (p b) (any p l))
  any_permuted (Permᴰ.trans π ρ) = any_permuted π ∙ any_permuted ρ

  pub keep_permuted : {xs ys : List A} → Permᴰ xs ys → Permᴰ (keep p xs) (keep p ys)
  unfolding keep
  keep_permuted Permᴰ.nil = Permᴰ.nil
  keep_permuted (Permᴰ.cons {a = a} {b = b} {l₁ = l₁} {l₂ = l₂} e π) = rw (ap p (sym e)) (go (p a) (keep_permuted π))
    where
      go : (t : Bool) → Permᴰ (keep p l₁) (keep p l₂)
          → Permᴰ (pick t (a ∷ keep p l₁) (keep p l₁)) (pick t (b ∷ keep p l₂) (keep p l₂))
      go true ρ = Permᴰ.cons e ρ
      go false ρ = ρ
  keep_permuted (Permᴰ.swap {a = a} {b = b} {a' = a'} {b' = b'} {l = l} e f) = rw (ap p (sym e), ap p (sym f)) (go (p a) (p b))
    where
      go : (t u : Bool) → Permᴰ (pick t (a ∷ pick u (b ∷ keep p l) (keep p l)) (pick u (b ∷ keep p l) (keep p l)))
          (pick u (a' ∷ pick t (b' ∷ keep p l) (keep p l)) (pick t (b' ∷ keep p l) (keep p l)))
      go true true = Permᴰ.swap e f
      go true false = Permᴰ.cons e (Permᴰ.refl (keep p l))
      go false true = Permᴰ.cons f (Permᴰ.refl (keep p l))
      go false false = Permᴰ.refl (keep p l)
  keep_permuted (Permᴰ.trans π ρ) = Permᴰ.trans (keep_permuted π) (keep_permuted ρ)

-- Of two tests one alone holds, and so does the third, or none of the three
pub data Parted : Bool → Bool → Bool → Type 0 where
  by_first : Parted true false true
  by_second : Parted false true true
  by_none : Parted false false false

module _ {A : Type 0} where
  pub keep_parted_permuted : (p q r : A → Bool) → ((a : A) → Parted (p a) (q a) (r a)) → (xs : List A)
      → Permᴰ (keep p xs ++ keep q xs) (keep r xs)
  unfolding keep
  keep_parted_permuted p q r apart [] = Permᴰ.nil
  keep_parted_permuted p q r apart (x ∷ xs) = go (apart x) (keep_parted_permuted p q r apart xs)
    where
      go : {t u v : Bool} → Parted t u v → Permᴰ (keep p xs ++ keep q xs) (keep r xs)
          → Permᴰ (pick t (x ∷ keep p xs) (keep p xs) ++ pick u (x ∷ keep q xs) (keep q xs)) (pick v (x ∷ keep r xs) (keep r xs))
      go by_first π = Permᴰ.cons refl π
      go by_second π = Permᴰ.trans (Permᴰ.middle x (keep p xs) (keep q xs)) (Permᴰ.cons refl π)
      go by_none π = π

-- Below a number or equal to it is below the next
pub below_next_parted : (i k : ℕ) → Parted (ltb i k) (eqb i k) (ltb i (suc k))
below_next_parted i k = go (dec_lt i k) (ℕ_discrete i k)
  where
    go : Dec (i < k) → Dec (i ≡ k) → Parted (ltb i k) (eqb i k) (ltb i (suc k))
    go (yes h) e = rw (lt-ltb i k h, ne_eqb i k (λ e. omega arith), lt-ltb i (suc k) (omega arith)) by_first
    go (no h) (yes e) = rw (le-ltb i k (omega arith), eq-eqb i k e, lt-ltb i (suc k) (omega arith)) by_second
    go (no h) (no f) = rw (le-ltb i k (omega arith), ne_eqb i k f, le-ltb i (suc k) (omega arith)) by_none

-- One more behind a list is one more before it
pub snoc_permuted : {A : Type 0} (xs : List A) (a : A) → Permᴰ (xs ++ (a ∷ [])) (a ∷ xs)
snoc_permuted [] a = Permᴰ.refl (a ∷ [])
snoc_permuted (x ∷ xs) a = Permᴰ.trans (Permᴰ.cons refl (snoc_permuted xs a)) (Permᴰ.swap refl refl)

-- ---- sums, and the numbers of all pairs

module _ {A : Type 0} where
  pub sum_of_permuted : (f : A → ℕ) {xs ys : List A} → Permᴰ xs ys → sum_of f xs ≡ sum_of f ys
  unfolding sum_of
  sum_of_permuted f Permᴰ.nil = refl
  sum_of_permuted f (Permᴰ.cons e π) = ap₂ ◌+◌ (ap f e) (sum_of_permuted f π)
  sum_of_permuted f (Permᴰ.swap {a = a} {b = b} {l = l} e g) = rw (ap f (sym e), ap f (sym g)) (omega arith)
  sum_of_permuted f (Permᴰ.trans π ρ) = sum_of_permuted f π ∙ sum_of_permuted f ρ

  -- whichever of two comes first
  module _ (f : A → A → ℕ) (symmetric : (a b : A) → f a b ≡ f b a) where
    pub pairs_of_permuted : {xs ys : List A} → Permᴰ xs ys → Permᴰ (pairs_of f xs) (pairs_of f ys)
    unfolding pairs_of
    pairs_of_permuted Permᴰ.nil = Permᴰ.nil
    pairs_of_permuted (Permᴰ.cons {a = a} {b = b} {l₁ = l₁} {l₂ = l₂} e π) =
        subst (λ x. Permᴰ (map (f a) l₁ ++ pairs_of f l₁) (map (f x) l₂ ++ pairs_of f l₂)) e
        (Permᴰ.trans (Permᴰ.append_right (pairs_of f l₁) (Permᴰ.map (f a) π)) (Permᴰ.append_left (map (f a) l₂) (pairs_of_permuted π)))
    pairs_of_permuted (Permᴰ.swap {a = a} {b = b} {l = l} e g) =
        subst₂ (λ x y. Permᴰ (pairs_of f (a ∷ b ∷ l)) (pairs_of f (x ∷ y ∷ l))) g e
        (Permᴰ.cons (symmetric a b)
        (subst₂ (λ x y. Permᴰ x y) (append_assoc (map (f a) l) (map (f b) l) (pairs_of f l))
        (append_assoc (map (f b) l) (map (f a) l) (pairs_of f l))
        (Permᴰ.append_right (pairs_of f l) (Permᴰ.append_comm (map (f a) l) (map (f b) l)))))
    pairs_of_permuted (Permᴰ.trans π ρ) = Permᴰ.trans (pairs_of_permuted π) (pairs_of_permuted ρ)
