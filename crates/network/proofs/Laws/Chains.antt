-- Tests over a list, as an iterator's `all` and `sum` say them, are those over the numbers below its length; and the rows that an
-- array's methods make with a closure, place by place. Assumes nothing.
use Prim.Native.Nat.{ℕ, zero, suc, ◌+◌, ◌<◌, ◌≤◌}
use mathlib.Core.Path.{◌≡◌, refl, sym, ap, ap₂, subst, ◌∙◌}
use mathlib.Core.Bool.{Bool, true, false, cond, ◌&&◌}
use mathlib.Core.List.{List, [], ◌∷◌}
use mathlib.Core.Logic.{◌⊎◌, inl, inr}
use native.Mathlib.Nat.{zero-add, eq-or-lt_of_le}
use native.Mathlib.Numerals.{add-one}
use native.Mathlib.Omega.{arith}
use lib.ListN.{length, get_or, take}
use lib.Seq.{length-take-le, get_or-take, take-length}
use Rattle.std.specs.List.{list_all, count_by}
use Rattle.std.proofs.lemmas.List.Sums.{sum_by_more}
use Rattle.std.specs.Array.{IsFromFnResult, IsFromFnResultFrom, IsMapOf, MapsFrom}
use Rattle.std.specs.Fn.{Called}
use denote.Param.Members.{Mut}
use Rattle.network.specs.Lists.{pick, all_below, count_below}
use Rattle.network.proofs.Laws.Tables.{all_below_same}

and_assoc : (a b c : Bool) → ((a && b) && c) ≡ (a && (b && c))
and_assoc true b c = refl
and_assoc false b c = refl

and_true : (a : Bool) → a ≡ (a && true)
and_true true = refl
and_true false = refl

all_below_first : (p : ℕ → Bool) (n : ℕ) → (p 0 && all_below (λ i. p (suc i)) n) ≡ all_below p (suc n)
unfolding all_below
all_below_first p zero = sym (and_true (p 0))
all_below_first p (suc n) = sym (and_assoc (p 0) _ _) ∙ ap (λ (t : Bool). t && p (suc n)) (all_below_first p n)

pub all_below_of_list : {A : Type 0} (test : A → Bool) (d : A) (xs : List A) → list_all test xs ≡ all_below (λ i. test (get_or xs i d)) (length xs)
unfolding all_below
all_below_of_list test d [] = refl
all_below_of_list test d (x ∷ xs) =
    ap (λ (t : Bool). test x && t) (all_below_of_list test d xs) ∙ all_below_first (λ i. test (get_or (x ∷ xs) i d)) (length xs)

-- Of the first elements of a list
pub all_below_of_front : {A : Type 0} (test : A → Bool) (d : A) (n : ℕ) (xs : List A) → n ≤ length xs
    → list_all test (take n xs) ≡ all_below (λ i. test (get_or xs i d)) n
all_below_of_front test d n xs h =
    all_below_of_list test d (take n xs)
    ∙ ap (all_below (λ i. test (get_or (take n xs) i d))) (length-take-le n xs h)
    ∙ all_below_same _ _ n (λ i l. ap test (get_or-take n xs i d l))

-- Of the first elements of a list, how many pass
count_below_of_front : {A : Type 0} (test : A → Bool) (d : A) (xs : List A) (n : ℕ) → n ≤ length xs
    → count_by test (take n xs) ≡ count_below (λ i. test (get_or xs i d)) n
unfolding count_below
count_below_of_front test d xs zero h = refl
count_below_of_front test d xs (suc n) h =
    sym (ap (λ (k : ℕ). count_by test (take k xs)) (add-one n))
    ∙ sum_by_more (λ x. cond (test x) 1 0) xs n d h
    ∙ ap₂ ◌+◌ (count_below_of_front test d xs n (omega arith)) (by_test (test (get_or xs n d)))
  where
    by_test : (t : Bool) → ◌≡◌ {A = ℕ} (cond t 1 0) (pick t 1 0)
    by_test true = refl
    by_test false = refl

pub count_below_of_list : {A : Type 0} (test : A → Bool) (d : A) (xs : List A) (n : ℕ) → length xs ≡ n
    → count_by test xs ≡ count_below (λ i. test (get_or xs i d)) n
count_below_of_list test d xs n e =
    sym (ap (count_by test) (ap (λ (k : ℕ). take k xs) (sym e) ∙ take-length xs))
    ∙ count_below_of_front test d xs n (omega (arith, e))

-- What `array::from_fn` makes with a closure that computes a function at each place
module _ {F B : Type 0} (g : Mut F (ℕ × Unit {0}) B) (f : F) (h : ℕ → B) (end : ℕ)
    (computes : (i : ℕ) (y : B) (q : F) → i < end → Called g f (i, tt) y q → (q ≡ f) × (y ≡ h i)) where
  made_from : (ys : List B) (d : B) (n i k : ℕ) → IsFromFnResultFrom g f ys i n → i + n ≡ end → i ≤ k → k < end → get_or ys k d ≡ h k
  made_from ys d zero i k m e low high = absurd (omega (arith, e))
  made_from ys d (suc n) i k (q, y, at, call, rest) e low high = go (eq-or-lt_of_le low) (made_from ys d n (i + 1) k)
    where
      one : (q ≡ f) × (y ≡ h i)
      one = computes i y q (omega (arith, low, high)) call

      go : (i ≡ k) ⊎ (i < k) → (IsFromFnResultFrom g f ys (i + 1) n → i + 1 + n ≡ end → i + 1 ≤ k → k < end → get_or ys k d ≡ h k)
          → get_or ys k d ≡ h k
      go (inl j) ih = subst (λ (t : ℕ). get_or ys t d ≡ h t) j (at.1 d ∙ one.1)
      go (inr l) ih = ih (subst (λ (t : F). IsFromFnResultFrom g t ys (i + 1) n) one.0 rest) (omega (arith, e)) (omega (arith, l)) high

  pub made_at : (ys : List B) (d : B) (k : ℕ) → IsFromFnResult g f ys end → k < end → get_or ys k d ≡ h k
  made_at ys d k m high = made_from ys d end 0 k m.each (zero-add end) (omega arith) high

-- .. and an array's `map`
module _ {F A B : Type 0} (g : Mut F (A × Unit {0}) B) (f : F) (h : A → B)
    (computes : (x : A) (y : B) (q : F) → Called g f (x, tt) y q → (q ≡ f) × (y ≡ h x)) where
  mapped_from : (xs : List A) (ys : List B) (c : A) (d : B) (n i k : ℕ) → MapsFrom g f xs ys i n → i ≤ k → k < i + n
      → get_or ys k d ≡ h (get_or xs k c)
  mapped_from xs ys c d zero i k m low high = absurd (omega arith)
  mapped_from xs ys c d (suc n) i k (q, x, y, at, made, call, rest) low high = go (eq-or-lt_of_le low) (mapped_from xs ys c d n (i + 1) k)
    where
      one : (q ≡ f) × (y ≡ h x)
      one = computes x y q call

      go : (i ≡ k) ⊎ (i < k) → (MapsFrom g f xs ys (i + 1) n → i + 1 ≤ k → k < i + 1 + n → get_or ys k d ≡ h (get_or xs k c))
          → get_or ys k d ≡ h (get_or xs k c)
      go (inl j) ih = subst (λ (t : ℕ). get_or ys t d ≡ h (get_or xs t c)) j (made.1 d ∙ one.1 ∙ sym (ap h (at.1 c)))
      go (inr l) ih = ih (subst (λ (t : F). MapsFrom g t xs ys (i + 1) n) one.0 rest) (omega (arith, l)) (omega (arith, high))

  pub mapped_at : (xs : List A) (ys : List B) (c : A) (d : B) (n k : ℕ) → IsMapOf g f xs ys n → k < n → get_or ys k d ≡ h (get_or xs k c)
  mapped_at xs ys c d n k m high = mapped_from xs ys c d n 0 k m.each (omega arith) (omega (arith, high))
