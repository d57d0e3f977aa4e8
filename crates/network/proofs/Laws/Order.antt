-- The test on two ratings is the order of document 01, first by the least gap and then by the sum: a strict order, with none below every
-- rating; that order turned round; and the tests by one of the two numbers. Assumes nothing.
use Prim.Native.Nat.{ℕ, ◌≤◌, ◌<◌}
use mathlib.Core.Path.{◌≡◌, refl, sym, ap₂, ◌∙◌}
use mathlib.Core.Bool.{Bool, true, false, not, ◌&&◌, ◌||◌, and-true, or-false}
use mathlib.Core.Logic.{◌⊎◌, inl, inr}
use native.Mathlib.Omega.{arith}
use borrow.Author.Tests.{ltb-true, ltb-false, eqb-true, eqb-false, lt-ltb, le-ltb, eq-eqb, ne_eqb}
use lib.Dec.{eqb, ltb, leb}
use Rattle.network.specs.Rating.{Rating}
use Rattle.network.specs.Rating.{no_rating, is_above, is_equal, reaches, is_sum_above}
use Rattle.network.proofs.Laws.Lists.{zero_ne_one}

-- One pair of least and sum is above another
abbrev pub Above : Rating → Rating → Type 0
Above r q = (q.least < r.least) ⊎ ((q.least ≡ r.least) × (q.sum < r.sum))

-- ---- the test on the numbers

abbrev is_more : ℕ → ℕ → ℕ → ℕ → Bool
is_more l s m t = ltb m l || eqb m l && ltb t s

module _ (l s m t : ℕ) where
  is_more_true : is_more l s m t ≡ true → (m < l) ⊎ ((m ≡ l) × (t < s))
  is_more_true = go (ltb m l) (eqb m l) (ltb t s) refl refl refl
    where
      go : (a b c : Bool) → ltb m l ≡ a → eqb m l ≡ b → ltb t s ≡ c → (a || b && c) ≡ true → (m < l) ⊎ ((m ≡ l) × (t < s))
      go true b c e f g h = inl (ltb-true m l e)
      go false true true e f g h = inr (eqb-true m l f, ltb-true t s g)
      go false true false e f g h = absurd (zero_ne_one (cc))
      go false false c e f g h = absurd (zero_ne_one (cc))

  is_more_false : is_more l s m t ≡ false → (l < m) ⊎ ((l ≡ m) × (s ≤ t))
  is_more_false = go (ltb m l) (eqb m l) (ltb t s) refl refl refl
    where
      go : (a b c : Bool) → ltb m l ≡ a → eqb m l ≡ b → ltb t s ≡ c → (a || b && c) ≡ false → (l < m) ⊎ ((l ≡ m) × (s ≤ t))
      go true b c e f g h = absurd (zero_ne_one (cc))
      go false true true e f g h = absurd (zero_ne_one (cc))
      go false true false e f g h = inr (sym (eqb-true m l f), ltb-false t s g)
      go false false c e f g h =
          let ne : m ≡ l → ⊥ = eqb-false m l f in
          let le : l ≤ m = ltb-false m l e in
          inl (omega arith)

  is_more_of : (m < l) ⊎ ((m ≡ l) × (t < s)) → is_more l s m t ≡ true
  is_more_of (inl h) = rw (lt-ltb m l h)
  is_more_of (inr (e, h)) = rw (le-ltb m l (omega arith), eq-eqb m l e, lt-ltb t s h)

-- ---- the test on ratings

module _ (r q : Rating) (some_r : r.some ≡ true) (some_q : q.some ≡ true) where
  is_above_numbers : is_above r q ≡ is_more r.least r.sum q.least q.sum
  unfolding is_above
  is_above_numbers = ap₂ (λ a b. a && (not b || is_more r.least r.sum q.least q.sum)) some_r some_q

  pub above_of_is_above : is_above r q ≡ true → Above r q
  above_of_is_above e = is_more_true _ _ _ _ (sym is_above_numbers ∙ e)

  pub is_above_of_above : Above r q → is_above r q ≡ true
  is_above_of_above a = is_above_numbers ∙ is_more_of _ _ _ _ a

  pub below_of_not_is_above : is_above r q ≡ false → (r.least < q.least) ⊎ ((r.least ≡ q.least) × (r.sum ≤ q.sum))
  below_of_not_is_above e = is_more_false _ _ _ _ (sym is_above_numbers ∙ e)

pub is_above_none : (r : Rating) → is_above r no_rating ≡ r.some
unfolding is_above
is_above_none r = and-true r.some

pub none_is_not_above : (r : Rating) → is_above no_rating r ≡ false
unfolding is_above
none_is_not_above r = refl

-- Two ratings are equal by their numbers
pub is_equal_numbers : (l s m t : ℕ) → is_equal (record { some = true; least = l; sum = s }) (record { some = true; least = m; sum = t }) ≡ (eqb l m && eqb s t)
unfolding is_equal
is_equal_numbers l s m t = refl

above_irreflexive : (r : Rating) → Above r r → ⊥
above_irreflexive r (inl h) = omega arith
above_irreflexive r (inr h) = omega arith

above_transitive : (r q s : Rating) → Above r q → Above q s → Above r s
above_transitive r q s (inl h) (inl k) = inl (omega arith)
above_transitive r q s (inl h) (inr k) = inl (omega arith)
above_transitive r q s (inr h) (inl k) = inl (omega arith)
above_transitive r q s (inr h) (inr k) = inr (omega arith)

-- Only a rating that is some rating is above another
is_above_some : (r q : Rating) → is_above r q ≡ true → r.some ≡ true
unfolding is_above
is_above_some r q = go r.some _
  where
    go : (a b : Bool) → (a && b) ≡ true → a ≡ true
    go true b e = refl
    go false b e = e

pub is_above_irreflexive : (r : Rating) → is_above r r ≡ false
is_above_irreflexive r = go (is_above r r) refl
  where
    go : (t : Bool) → is_above r r ≡ t → t ≡ false
    go true e = let some = is_above_some r r e in absurd (above_irreflexive r (above_of_is_above r r some some e))
    go false e = refl

pub is_above_transitive : (r q s : Rating) → is_above r q ≡ true → is_above q s ≡ true → is_above r s ≡ true
unfolding is_above
is_above_transitive r q s e f = go s.some refl
  where
    some_r : r.some ≡ true
    some_r = is_above_some r q e

    some_q : q.some ≡ true
    some_q = is_above_some q s f

    go : (t : Bool) → s.some ≡ t → is_above r s ≡ true
    go true g =
        is_above_of_above r s some_r g (above_transitive r q s (above_of_is_above r q some_r some_q e) (above_of_is_above q s some_q g f))
    go false g = ap₂ (λ a b. a && (not b || is_more r.least r.sum s.least s.sum)) some_r g

-- ---- the order by its table

module _ (r q : Rating) where
  pub none_above : r.some ≡ false → is_above r q ≡ false
  unfolding is_above
  none_above e = rw e

  pub above_none : r.some ≡ true → q.some ≡ false → is_above r q ≡ true
  unfolding is_above
  above_none e f = rw (e, f)

  pub above_same_least : r.some ≡ true → q.some ≡ true → q.least ≡ r.least → is_above r q ≡ ltb q.sum r.sum
  unfolding is_above
  above_same_least e f g = rw (e, f, eq-eqb q.least r.least g, le-ltb q.least r.least (omega arith))

  pub above_other_least : r.some ≡ true → q.some ≡ true → (q.least ≡ r.least → ⊥) → is_above r q ≡ ltb q.least r.least
  unfolding is_above
  above_other_least e f g = rw (e, f, ne_eqb q.least r.least g) (or-false _)

-- ---- by the least gap alone, and by the sum alone

module _ (r : Rating) (wanted : ℕ) where
  pub none_reaches : r.some ≡ false → reaches r wanted ≡ false
  unfolding reaches
  none_reaches e = rw e

  pub reaches_by_least : r.some ≡ true → reaches r wanted ≡ leb wanted r.least
  unfolding reaches
  reaches_by_least e = rw e

module _ (r q : Rating) where
  pub none_sum_above : r.some ≡ false → is_sum_above r q ≡ false
  unfolding is_sum_above
  none_sum_above e = rw e

  pub sum_above_none : r.some ≡ true → q.some ≡ false → is_sum_above r q ≡ true
  unfolding is_sum_above
  sum_above_none e f = rw (e, f)

  pub sum_above_by_sum : r.some ≡ true → q.some ≡ true → is_sum_above r q ≡ ltb q.sum r.sum
  unfolding is_sum_above
  sum_above_by_sum e f = rw (e, f)

-- ---- what isn't above

pub some_of_not_above : (r q : Rating) → r.some ≡ true → is_above r q ≡ false → q.some ≡ true
unfolding is_above
some_of_not_above r q e f = go q.some refl
  where
    go : (t : Bool) → q.some ≡ t → t ≡ true
    go true g = refl
    go false g = sym f ∙ rw (e, g) refl

module _ (r q s : Rating) where
  pub not_above_of_above : is_above q s ≡ true → is_above r s ≡ false → is_above r q ≡ false
  not_above_of_above e f = go (is_above r q) refl
    where
      go : (t : Bool) → is_above r q ≡ t → t ≡ false
      go true g = sym (is_above_transitive r q s g e) ∙ f
      go false g = refl

  pub not_above_transitive : is_above r q ≡ false → is_above q s ≡ false → is_above r s ≡ false
  unfolding is_above
  not_above_transitive e f = go r.some (is_above r s) refl refl
    where
      go : (a b : Bool) → r.some ≡ a → is_above r s ≡ b → b ≡ false
      go a false x g = refl
      go false true x g = sym g ∙ rw x refl
      go true true x g =
          let y : q.some ≡ true = some_of_not_above r q x e in
          let z : s.some ≡ true = some_of_not_above q s y f in
          absurd (differ (above_of_is_above r s x z g) (below_of_not_is_above r q x y e) (below_of_not_is_above q s y z f))
        where
          differ : Above r s → (r.least < q.least) ⊎ ((r.least ≡ q.least) × (r.sum ≤ q.sum))
              → (q.least < s.least) ⊎ ((q.least ≡ s.least) × (q.sum ≤ s.sum)) → ⊥
          differ (inl h) (inl k) (inl l) = omega arith
          differ (inl h) (inl k) (inr l) = omega arith
          differ (inl h) (inr k) (inl l) = omega arith
          differ (inl h) (inr k) (inr l) = omega arith
          differ (inr h) (inl k) (inl l) = omega arith
          differ (inr h) (inl k) (inr l) = omega arith
          differ (inr h) (inr k) (inl l) = omega arith
          differ (inr h) (inr k) (inr l) = omega arith

pub not_above_of_le : (r q : Rating) → r.some ≡ true → q.some ≡ true → r.least ≤ q.least → r.sum ≤ q.sum → is_above r q ≡ false
not_above_of_le r q some_r some_q h k = go (is_above r q) refl
  where
    never : Above r q → ⊥
    never (inl l) = omega arith
    never (inr l) = omega arith

    go : (t : Bool) → is_above r q ≡ t → t ≡ false
    go true e = absurd (never (above_of_is_above r q some_r some_q e))
    go false e = refl
