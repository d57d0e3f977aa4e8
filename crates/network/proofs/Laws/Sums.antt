-- Laws of sums over lists, each by one induction on the list, and of sums over the numbers below a bound that pass a test. Assumes nothing.
use Prim.Native.Nat.{ℕ, zero, suc, ◌+◌, ◌*◌, ◌<◌, ◌≤◌}
use mathlib.Core.Path.{◌≡◌, refl, sym, ap, ap₂, ◌∙◌}
use mathlib.Core.Bool.{Bool, true, false}
use mathlib.Core.List.{List, [], ◌∷◌, ◌++◌, map, Memᴰ}
use mathlib.Core.Logic.{◌⊎◌, inl, inr}
use native.Mathlib.Nat.{le_of_suc-le-suc, eq-or-lt_of_le}
use native.Mathlib.Decide.{ℕ_discrete}
use native.Mathlib.Omega.{arith}
use borrow.Author.Tests.{eq-eqb, ne_eqb}
use lib.Dec.{eqb}
use lib.ListN.{length}
use Rattle.network.specs.Lists.{pick, count_below, below, sum_of}
use Rattle.network.proofs.Laws.Members.{EveryTwo}
use Rattle.network.proofs.Laws.Tables.{below_of_member}

module _ {A : Type 0} where
  pub sum_of_append : (f : A → ℕ) (xs ys : List A) → sum_of f (xs ++ ys) ≡ sum_of f xs + sum_of f ys
  unfolding sum_of
  sum_of_append f [] ys = omega arith
  sum_of_append f (x ∷ xs) ys = omega (arith, sum_of_append f xs ys)

  pub sum_of_nil : (f : A → ℕ) → sum_of f [] ≡ 0
  unfolding sum_of
  sum_of_nil f = refl

  pub sum_of_snoc : (f : A → ℕ) (xs : List A) (x : A) → sum_of f (xs ++ (x ∷ [])) ≡ sum_of f xs + f x
  unfolding sum_of
  sum_of_snoc f xs x = sum_of_append f xs (x ∷ []) ∙ omega arith

  pub sum_of_same : (f g : A → ℕ) (xs : List A) → ((x : A) → Memᴰ x xs → f x ≡ g x) → sum_of f xs ≡ sum_of g xs
  unfolding sum_of
  sum_of_same f g [] h = refl
  sum_of_same f g (x ∷ xs) h = ap₂ ◌+◌ (h x (Memᴰ.head refl)) (sum_of_same f g xs (λ y m. h y (Memᴰ.tail m)))

  pub sum_of_add : (f g : A → ℕ) (xs : List A) → sum_of (λ x. f x + g x) xs ≡ sum_of f xs + sum_of g xs
  unfolding sum_of
  sum_of_add f g [] = refl
  sum_of_add f g (x ∷ xs) = omega (arith, sum_of_add f g xs)

  pub sum_of_zero : (f : A → ℕ) (xs : List A) → ((x : A) → Memᴰ x xs → f x ≡ 0) → sum_of f xs ≡ 0
  unfolding sum_of
  sum_of_zero f [] h = refl
  sum_of_zero f (x ∷ xs) h = omega (arith, h x (Memᴰ.head refl), sum_of_zero f xs (λ y m. h y (Memᴰ.tail m)))

  pub sum_of_one : (xs : List A) → sum_of (λ _. 1) xs ≡ length xs
  unfolding sum_of
  sum_of_one [] = refl
  sum_of_one (x ∷ xs) = omega (arith, sum_of_one xs)

  pub sum_of_map : {B : Type 0} (f : A → ℕ) (g : B → A) (xs : List B) → sum_of f (map g xs) ≡ sum_of (λ x. f (g x)) xs
  unfolding sum_of
  sum_of_map f g [] = refl
  sum_of_map f g (x ∷ xs) = ap (λ (k : ℕ). f (g x) + k) (sum_of_map f g xs)

  pub mul_sum_of : (k : ℕ) (f : A → ℕ) (xs : List A) → k * sum_of f xs ≡ sum_of (λ x. k * f x) xs
  unfolding sum_of
  mul_sum_of k f [] = omega arith
  mul_sum_of k f (x ∷ xs) = omega (arith, mul_sum_of k f xs)

  -- ---- bounds of a sum

  pub le_sum_of : {a : A} (f : A → ℕ) (xs : List A) → Memᴰ a xs → f a ≤ sum_of f xs
  unfolding sum_of
  le_sum_of f [] m = elim m [ ]
  le_sum_of f (x ∷ xs) (Memᴰ.head e) = omega (arith, ap f e)
  le_sum_of f (x ∷ xs) (Memᴰ.tail m) = omega (arith, le_sum_of f xs m)

  pub sum_of_le : (f : A → ℕ) (bound : ℕ) (xs : List A) → ((x : A) → Memᴰ x xs → f x ≤ bound) → sum_of f xs ≤ length xs * bound
  unfolding sum_of
  sum_of_le f bound [] h = omega arith
  sum_of_le f bound (x ∷ xs) h = omega (arith, h x (Memᴰ.head refl), sum_of_le f bound xs (λ y m. h y (Memᴰ.tail m)))

  pub sum_of_mono : (f g : A → ℕ) → ((x : A) → f x ≤ g x) → (xs : List A) → sum_of f xs ≤ sum_of g xs
  unfolding sum_of
  sum_of_mono f g h [] = omega arith
  sum_of_mono f g h (x ∷ xs) = omega (arith, h x, sum_of_mono f g h xs)

  -- no two pass
  pub sum_of_passes_le_one : (p : A → Bool) (xs : List A) → EveryTwo (λ x y. p x ≡ true → p y ≡ false) xs → sum_of (λ x. pick (p x) 1 0) xs ≤ 1
  unfolding sum_of
  sum_of_passes_le_one p [] h = omega arith
  sum_of_passes_le_one p (x ∷ xs) h = go (p x) refl (sum_of_passes_le_one p xs h.1)
    where
      go : (b : Bool) → p x ≡ b → sum_of (λ y. pick (p y) 1 0) xs ≤ 1 → pick b 1 0 + sum_of (λ y. pick (p y) 1 0) xs ≤ 1
      go true e ih = omega (arith, sum_of_zero (λ y. pick (p y) 1 0) xs (λ y m. rw (h.0 y m e)))
      go false e ih = omega arith

  -- no two pass at any number of a range, so that all together pass no more often than it is long
  pub sum_of_count_below_le : (p : A → ℕ → Bool) (xs : List A) → ((i : ℕ) → EveryTwo (λ x y. p x i ≡ true → p y i ≡ false) xs)
      → (n : ℕ) → sum_of (λ x. count_below (p x) n) xs ≤ n
  unfolding count_below
  sum_of_count_below_le p xs h zero = omega (arith, sum_of_zero (λ (x : A). 0) xs (λ x m. refl))
  sum_of_count_below_le p xs h (suc n) =
      let e = sum_of_add (λ x. count_below (p x) n) (λ x. pick (p x n) 1 0) xs in
      omega (arith, sum_of_count_below_le p xs h n, sum_of_passes_le_one (λ x. p x n) xs (h n))

-- ---- over the numbers below a bound that pass

-- one number more
pub sum_of_below_next : (f : ℕ → ℕ) (p : ℕ → Bool) (n : ℕ) → sum_of f (below p (suc n)) ≡ sum_of f (below p n) + pick (p n) (f n) 0
unfolding below sum_of
sum_of_below_next f p n = sum_of_append f (below p n) (pick (p n) (n ∷ []) []) ∙ go (p n)
  where
    go : (t : Bool) → sum_of f (below p n) + sum_of f (pick t (n ∷ []) []) ≡ sum_of f (below p n) + pick t (f n) 0
    go true = omega arith
    go false = refl

-- one number alone counts
pub sum_of_below_only : (f : ℕ → ℕ) (p : ℕ → Bool) (n k : ℕ) → k < n → p k ≡ true → sum_of (λ i. pick (eqb k i) (f i) 0) (below p n) ≡ f k
sum_of_below_only f p zero k h e = absurd (omega arith)
sum_of_below_only f p (suc n) k h e =
    sum_of_below_next (λ i. pick (eqb k i) (f i) 0) p n ∙ go (sum_of_below_only f p n k) (eq-or-lt_of_le (le_of_suc-le-suc h))
  where
    others : k ≡ n → (i : ℕ) → Memᴰ i (below p n) → pick (eqb k i) (f i) 0 ≡ 0
    others d i m = let r = below_of_member p n m in rw (ne_eqb k i (λ c. omega arith))

    neither : (t : Bool) → pick t (pick false (f n) 0) 0 ≡ 0
    neither true = refl
    neither false = refl

    go : (k < n → p k ≡ true → sum_of (λ i. pick (eqb k i) (f i) 0) (below p n) ≡ f k) → (k ≡ n) ⊎ (k < n)
        → sum_of (λ i. pick (eqb k i) (f i) 0) (below p n) + pick (p n) (pick (eqb k n) (f n) 0) 0 ≡ f k
    go ih (inl d) =
        let z : sum_of (λ i. pick (eqb k i) (f i) 0) (below p n) ≡ 0 = sum_of_zero _ (below p n) (others d) in
        rw (z, ← d, e, eq-eqb k k refl) (omega arith)
    go ih (inr l) = rw (ih l e, ne_eqb k n (λ c. omega arith)) (omega (arith, neither (p n)))

-- one number has another value
pub sum_of_below_other : (f g : ℕ → ℕ) (s : ℕ) → ((t : ℕ) → (t ≡ s → ⊥) → g t ≡ f t) → (p : ℕ → Bool) (n : ℕ) → s < n → p s ≡ true
    → sum_of g (below p n) + f s ≡ sum_of f (below p n) + g s
sum_of_below_other f g s others p n h e =
    omega (
      arith,
      sum_of_same (λ t. g t + only f t) (λ t. f t + only g t) (below p n) (λ t m. same t (ℕ_discrete t s)),
      sum_of_add g (only f) (below p n),
      sum_of_add f (only g) (below p n),
      sum_of_below_only f p n s h e,
      sum_of_below_only g p n s h e,
    )
  where
    only : (ℕ → ℕ) → ℕ → ℕ
    only v t = pick (eqb s t) (v t) 0

    same : (t : ℕ) → Dec (t ≡ s) → g t + only f t ≡ f t + only g t
    same t (yes d) = rw (eq-eqb s t (sym d)) (omega arith)
    same t (no d) = rw (ne_eqb s t (λ q. d (sym q)), others t d)
