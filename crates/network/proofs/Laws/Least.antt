-- The least of a list of numbers is the one member that no other is below, in whatever order they are listed; and the least of a number and
-- a list, by which a pass over the list computes it. Each is one induction on the list. Assumes nothing.
use Prim.Native.Nat.{ℕ, ◌≤◌, ◌<◌, min}
use mathlib.Core.Path.{◌≡◌, refl, sym, ap, ◌∙◌}
use mathlib.Core.List.Memᴰ
use mathlib.Core.List.{List, [], ◌∷◌, ◌++◌, map, map-append, Memᴰ}
use mathlib.Core.List.Permᴰ
use mathlib.Core.List.{Permᴰ}
use native.Mathlib.Nat.{le_antisymm, min_comm, zero-lt-suc}
use native.Mathlib.Omega.{arith, min_cases}
use lib.ListN.{length, length-map}
use Rattle.network.specs.Lists.{least_of, pairs_of, least_from}
use Rattle.network.proofs.Laws.Permutations.{member_permuted}

pub least_of_cons : (x : ℕ) (xs : List ℕ) → 0 < length xs → least_of (x ∷ xs) ≡ min x (least_of xs)
unfolding least_of
least_of_cons x [] h = absurd (omega arith)
least_of_cons x (y ∷ xs) h = refl

pub least_of_member : (xs : List ℕ) → 0 < length xs → Memᴰ (least_of xs) xs
unfolding least_of
least_of_member [] h = absurd (omega arith)
least_of_member (x ∷ []) h = Memᴰ.head refl
least_of_member (x ∷ y ∷ xs) h =
    let m = least_of_member (y ∷ xs) (zero-lt-suc _) in
    min_cases x (least_of (y ∷ xs)) _ (λ _ e. Memᴰ.head e) (λ _ e. Memᴰ.tail (Memᴰ.cast e m))

pub least_of_le : {a : ℕ} (xs : List ℕ) → Memᴰ a xs → least_of xs ≤ a
unfolding least_of
least_of_le [] m = absurd (Memᴰ.not-nil m)
least_of_le {a} (x ∷ []) (Memᴰ.head e) = omega arith
least_of_le {a} (x ∷ []) (Memᴰ.tail m) = absurd (Memᴰ.not-nil m)
least_of_le {a} (x ∷ y ∷ xs) (Memᴰ.head e) = omega arith
least_of_le {a} (x ∷ y ∷ xs) (Memᴰ.tail m) = omega (arith, least_of_le (y ∷ xs) m)

-- The same members, the same least, in whatever order and however often
pub least_of_same_members : (xs ys : List ℕ) → ((a : ℕ) → Memᴰ a xs → Memᴰ a ys) → ((a : ℕ) → Memᴰ a ys → Memᴰ a xs)
    → least_of xs ≡ least_of ys
least_of_same_members [] [] h k = refl
least_of_same_members [] (y ∷ ys) h k = absurd (Memᴰ.not-nil (k y (Memᴰ.head refl)))
least_of_same_members (x ∷ xs) [] h k = absurd (Memᴰ.not-nil (h x (Memᴰ.head refl)))
least_of_same_members (x ∷ xs) (y ∷ ys) h k =
    le_antisymm (least_of_le (x ∷ xs) (k _ (least_of_member (y ∷ ys) (zero-lt-suc _)))) (least_of_le (y ∷ ys) (h _ (least_of_member (x ∷ xs) (zero-lt-suc _))))

pub least_of_permuted : {xs ys : List ℕ} → Permᴰ xs ys → least_of xs ≡ least_of ys
least_of_permuted {xs} {ys} π = least_of_same_members xs ys (λ a. member_permuted π) (λ a. member_permuted (Permᴰ.symm π))

-- The least of a number for each element
module _ {A : Type 0} (f : A → ℕ) where
  pub least_of_map_member : (xs : List A) → 0 < length xs → (a : A) × Memᴰ a xs × (f a ≡ least_of (map f xs))
  least_of_map_member xs h =
      let (a, m, e) = Memᴰ.of_map f xs (least_of_member (map f xs) (rw length-map h)) in (a, m, e)

  pub least_of_map_le : {a : A} (xs : List A) → Memᴰ a xs → least_of (map f xs) ≤ f a
  least_of_map_le xs m = least_of_le (map f xs) (Memᴰ.map f m)

-- Where no number is larger, neither is the least
pub least_of_map_mono : {A : Type 0} (f g : A → ℕ) → ((x : A) → f x ≤ g x) → (xs : List A) → least_of (map f xs) ≤ least_of (map g xs)
unfolding least_of
least_of_map_mono f g h [] = omega arith
least_of_map_mono f g h (x ∷ []) = h x
least_of_map_mono f g h (x ∷ y ∷ xs) = omega (arith, h x, least_of_map_mono f g h (y ∷ xs))

-- ---- the least of a number and a list

pub least_from_nil : (v : ℕ) → least_from v [] ≡ v
unfolding least_from
least_from_nil v = refl

pub least_from_append : (v : ℕ) (xs ys : List ℕ) → least_from v (xs ++ ys) ≡ least_from (least_from v xs) ys
unfolding least_from
least_from_append v [] ys = refl
least_from_append v (x ∷ xs) ys = least_from_append (min v x) xs ys

pub least_from_min : (v x : ℕ) (xs : List ℕ) → least_from (min v x) xs ≡ min (least_from v xs) x
unfolding least_from
least_from_min v x [] = refl
least_from_min v x (y ∷ ys) = ap (λ (w : ℕ). least_from w ys) (omega arith) ∙ least_from_min (min v y) x ys

-- the last is as good as the first
pub least_from_snoc : (v : ℕ) (xs : List ℕ) (x : ℕ) → least_from v (xs ++ (x ∷ [])) ≡ least_from (min v x) xs
unfolding least_from
least_from_snoc v xs x = least_from_append v xs (x ∷ []) ∙ sym (least_from_min v x xs)

pub least_from_le : (v : ℕ) (xs : List ℕ) → least_from v xs ≤ v
unfolding least_from
least_from_le v [] = omega arith
least_from_le v (x ∷ xs) = let h = least_from_le (min v x) xs in omega arith

pub least_of_least_from : (x : ℕ) (xs : List ℕ) → least_of (x ∷ xs) ≡ least_from x xs
unfolding least_of least_from
least_of_least_from x [] = refl
least_of_least_from x (y ∷ ys) =
    ap (min x) (least_of_least_from y ys) ∙ min_comm x (least_from y ys) ∙ sym (least_from_min y x ys) ∙ ap (λ (w : ℕ). least_from w ys) (min_comm y x)

pub least_of_snoc : (x : ℕ) (xs : List ℕ) (y : ℕ) → least_of ((x ∷ xs) ++ (y ∷ [])) ≡ min (least_of (x ∷ xs)) y
least_of_snoc x xs y =
    least_of_least_from x (xs ++ (y ∷ []))
    ∙ least_from_snoc x xs y
    ∙ least_from_min x y xs
    ∙ ap (λ (v : ℕ). min v y) (sym (least_of_least_from x xs))

pub least_from_least_of : (v : ℕ) (xs : List ℕ) → 0 < length xs → least_from v xs ≡ min v (least_of xs)
least_from_least_of v xs h = sym (least_of_least_from v xs) ∙ least_of_cons v xs h

-- ---- one element more, whatever number a pair has

module _ {A : Type 0} (f : A → A → ℕ) where
  pub least_from_pairs_of_snoc :
      (v : ℕ) (xs : List A) (a : A)
      → least_from v (pairs_of f (xs ++ (a ∷ []))) ≡ least_from (least_from v (pairs_of f xs)) (map (λ x. f x a) xs)
  unfolding pairs_of least_from
  least_from_pairs_of_snoc v [] a = refl
  least_from_pairs_of_snoc v (x ∷ xs) a =
      let w = least_from v (map (f x) xs) in
      least_from_append v (map (f x) (xs ++ (a ∷ []))) (pairs_of f (xs ++ (a ∷ [])))
      ∙ ap (λ (u : ℕ). least_from u (pairs_of f (xs ++ (a ∷ []))))
      (ap (least_from v) (map-append _ xs (a ∷ [])) ∙ least_from_append v (map (f x) xs) (f x a ∷ []))
      ∙ least_from_pairs_of_snoc (min w (f x a)) xs a
      ∙ ap (λ (u : ℕ). least_from u (map (λ y. f y a) xs))
      (least_from_min w (f x a) (pairs_of f xs)
      ∙ ap (λ (u : ℕ). min u (f x a)) (sym (least_from_append v (map (f x) xs) (pairs_of f xs))))
