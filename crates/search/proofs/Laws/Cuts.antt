-- The cut of each rule drops what the rule does beside the best so far, and what is no larger than something that falls short does too; what a
-- rule doesn't drop is told by comparing ratings. Assumes nothing.
use Prim.Native.Nat.{ℕ, ◌≤◌, ◌<◌}
use mathlib.Core.Path.{◌≡◌, refl, sym, ap, ◌∙◌}
use mathlib.Core.Bool.{Bool, true, false, not, ◌&&◌, ◌||◌, not-not}
use mathlib.Core.Logic.{◌⊎◌, inl, inr}
use native.Mathlib.Omega.{arith}
use borrow.Author.Tests.{ltb-true, leb-true, leb-false, lt-ltb, le-ltb, le-leb, lt-leb}
use lib.Dec.{ltb, leb}
use Rattle.std.specs.Prelude.{Option, Some, None}
use Rattle.network.specs.Rating.{Rating, is_above, reaches, is_sum_above}
use Rattle.network.proofs.Laws.Lists.{zero_ne_one}
use Rattle.network.proofs.Laws.Gaps.{Above, above_of_is_above, below_of_not_is_above}
use Rattle.network.proofs.Laws.Gaps.{above_none, reaches_by_least, sum_above_none, sum_above_by_sum}
use Rattle.network.specs.declared.Rating as held
use Rattle.network.specs.Engine.Rated.{ranked}
use Rattle.std.specs.Option.{is_some}
use Rattle.search.specs.declared.Cut.{Cut}
use Rattle.search.specs.declared.Rule.TheVariants as rules
use Rattle.search.specs.Engine.Representation.{rule_of, rated, is_no_above, is_short, IsCut}
use Rattle.search.specs.Search.{not_above, above_best, by_sum}
use Rattle.search.specs.Wanted.{at_least}

leb_is_not_ltb : (a b : ℕ) → leb a b ≡ not (ltb b a)
leb_is_not_ltb a b = go (leb a b) refl
  where
    go : (t : Bool) → leb a b ≡ t → t ≡ not (ltb b a)
    go true e = sym (rw (le-ltb b a (leb-true a b e)) refl)
    go false e = sym (rw (lt-ltb b a (leb-false a b e)) refl)

-- ---- what is no larger

no_above_below : (beside : Option ℕ) (sum sum' : ℕ) → sum ≤ sum' → is_no_above beside sum' ≡ true → is_no_above beside sum ≡ true
unfolding is_no_above
no_above_below None sum sum' h e = e
no_above_below (Some s) sum sum' h e = le-leb sum s (omega (arith, leb-true sum' s e))

pub short_below : (cut : Cut) (least sum least' sum' : ℕ) → least ≤ least' → sum ≤ sum' → is_short cut least' sum' ≡ true → is_short cut least sum ≡ true
unfolding is_short
short_below cut least sum least' sum' h k e = go (ltb least' cut.floor) cut.anywhere (leb least' cut.floor) (is_no_above cut.sum sum') refl refl refl refl e
  where
    or-true : (a : Bool) {b : Bool} → b ≡ true → (a || b) ≡ true
    or-true true e = refl
    or-true false e = e

    go : (a c d f : Bool) → ltb least' cut.floor ≡ a → cut.anywhere ≡ c → leb least' cut.floor ≡ d → is_no_above cut.sum sum' ≡ f
        → (a || ((c || d) && f)) ≡ true → (ltb least cut.floor || ((cut.anywhere || leb least cut.floor) && is_no_above cut.sum sum)) ≡ true
    go true c d f ea ec ed ef e = rw (lt-ltb least cut.floor (omega (arith, ltb-true least' cut.floor ea))) refl
    go false true d true ea ec ed ef e = or-true (ltb least cut.floor) (rw (ec, no_above_below cut.sum sum sum' k ef) refl)
    go false false true true ea ec ed ef e =
        or-true (ltb least cut.floor)
        (rw (ec, le-leb least cut.floor (omega (arith, leb-true least' cut.floor ed)), no_above_below cut.sum sum sum' k ef) refl)
    go false true d false ea ec ed ef e = absurd (zero_ne_one (cc))
    go false false true false ea ec ed ef e = absurd (zero_ne_one (cc))
    go false false false f ea ec ed ef e = absurd (zero_ne_one (cc))

-- ---- the test, case by case

and-false : (t : Bool) → false ≡ (t && false)
and-false true = refl
and-false false = refl

and-true : (t : Bool) → t ≡ (t && true)
and-true true = refl
and-true false = refl

module _ (cut : Cut) (least sum : ℕ) where
  pub short_below_floor : least < cut.floor → true ≡ is_short cut least sum
  unfolding is_short
  short_below_floor h = rw (lt-ltb least cut.floor h) refl

  module _ (reached : cut.floor ≤ least) where
    module _ {beside : ℕ} (is_beside : cut.sum ≡ Some beside) where
      pub stands_above_sum : beside < sum → leb sum beside ≡ is_short cut least sum
      unfolding is_short is_no_above
      stands_above_sum h = rw (le-ltb least cut.floor reached, is_beside, lt-leb sum beside h) (and-false (cut.anywhere || leb least cut.floor))

      below_beside : sum ≤ beside → (cut.anywhere || leb least cut.floor) ≡ is_short cut least sum
      unfolding is_short is_no_above
      below_beside h = rw (le-ltb least cut.floor reached, is_beside, le-leb sum beside h) (and-true (cut.anywhere || leb least cut.floor))

      pub short_anywhere : sum ≤ beside → cut.anywhere ≡ true → cut.anywhere ≡ is_short cut least sum
      short_anywhere h e = e ∙ sym (ap (λ (t : Bool). t || leb least cut.floor) e) ∙ below_beside h

      pub short_at_floor : sum ≤ beside → cut.anywhere ≡ false → leb least cut.floor ≡ is_short cut least sum
      short_at_floor h e = sym (ap (λ (t : Bool). t || leb least cut.floor) e) ∙ below_beside h

    pub stands_above_floor : cut.anywhere ≡ false → cut.floor < least → false ≡ is_short cut least sum
    unfolding is_short
    stands_above_floor e h = rw (le-ltb least cut.floor reached, e, lt-leb least cut.floor h) refl

    pub stands_alone : cut.sum ≡ None → false ≡ is_short cut least sum
    unfolding is_short is_no_above
    stands_alone e = rw (le-ltb least cut.floor reached, e) (and-false (cut.anywhere || leb least cut.floor))

-- ---- the cut of each rule

module _ (best : Rating) where
  pub above_best_cut : best.some ≡ true → IsCut rules.AboveBest best (record { floor = best.least; sum = Some best.sum; anywhere = false })
  unfolding is_short is_no_above rule_of above_best not_above
  above_best_cut some least sum = go (is_above (rated least sum) best) refl
    where
      over : Above (rated least sum) best → (ltb least best.least || (leb least best.least && leb sum best.sum)) ≡ false
      over (inl h) = rw (le-ltb least best.least (omega arith), lt-leb least best.least h) refl
      over (inr (e, h)) = rw (le-ltb least best.least (omega arith), le-leb least best.least (omega arith), lt-leb sum best.sum h) refl

      under : (least < best.least) ⊎ ((least ≡ best.least) × (sum ≤ best.sum)) → (ltb least best.least || (leb least best.least && leb sum best.sum)) ≡ true
      under (inl h) = rw (lt-ltb least best.least h) refl
      under (inr (e, h)) = rw (le-ltb least best.least (omega arith), le-leb least best.least (omega arith), le-leb sum best.sum h) refl

      go : (t : Bool) → is_above (rated least sum) best ≡ t → (ltb least best.least || (leb least best.least && leb sum best.sum)) ≡ not t
      go true e = over (above_of_is_above (rated least sum) best refl some e)
      go false e = under (below_of_not_is_above (rated least sum) best refl some e)

  pub no_best_cut : best.some ≡ false → IsCut rules.AboveBest best (record { floor = 0; sum = None; anywhere = false })
  unfolding is_short is_no_above rule_of above_best not_above
  no_best_cut none least sum = rw (le-ltb least 0 (omega arith), above_none (rated least sum) best refl none) (sym (and-false (leb least 0)))

  pub at_least_cut : (wanted : ℕ) → IsCut (rules.AtLeast wanted) best (record { floor = wanted; sum = None; anywhere = false })
  unfolding is_short is_no_above rule_of at_least
  at_least_cut wanted least sum = go (ltb least wanted)
    where
      go : (t : Bool) → (t || (leb least wanted && false)) ≡ t
      go true = refl
      go false = sym (and-false (leb least wanted))

  module _ (floor : ℕ) where
    pub by_sum_cut : best.some ≡ true → IsCut (rules.BySum floor) best (record { floor = floor; sum = Some best.sum; anywhere = true })
    unfolding is_short is_no_above rule_of by_sum
    by_sum_cut some least sum = rw some (ap (λ (t : Bool). ltb least floor || t) (leb_is_not_ltb sum best.sum))

    pub by_sum_alone_cut : best.some ≡ false → IsCut (rules.BySum floor) best (record { floor = floor; sum = None; anywhere = true })
    unfolding is_short is_no_above rule_of by_sum
    by_sum_alone_cut none least sum = rw none refl

-- ---- what stands by each rule

module _ (upper best : Rating) where
  pub stands_above_best : is_above upper best ≡ not ((rule_of rules.AboveBest).drops upper best)
  unfolding rule_of above_best not_above
  stands_above_best = sym (not-not (is_above upper best))

  module _ (some : upper.some ≡ true) where
    pub stands_at_least : (wanted : ℕ) → reaches upper wanted ≡ not ((rule_of (rules.AtLeast wanted)).drops upper best)
    unfolding rule_of at_least
    stands_at_least wanted = reaches_by_least upper wanted some ∙ leb_is_not_ltb wanted upper.least

    module _ (floor : ℕ) where
      pub falls_below_floor : reaches upper floor ≡ false → false ≡ not ((rule_of (rules.BySum floor)).drops upper best)
      unfolding rule_of by_sum
      falls_below_floor e = rw (lt-ltb upper.least floor (leb-false floor upper.least (sym (reaches_by_least upper floor some) ∙ e))) refl

      pub stands_by_sum : reaches upper floor ≡ true → is_sum_above upper best ≡ not ((rule_of (rules.BySum floor)).drops upper best)
      unfolding rule_of by_sum
      stands_by_sum e =
          rw (le-ltb upper.least floor (leb-true floor upper.least (sym (reaches_by_least upper floor some) ∙ e)))
          (go best.some refl)
        where
          go : (t : Bool) → best.some ≡ t → is_sum_above upper best ≡ not (t && not (ltb best.sum upper.sum))
          go true f = sum_above_by_sum upper best some f ∙ sym (not-not (ltb best.sum upper.sum))
          go false f = sum_above_none upper best some f

-- ---- a rating, or none

pub some_is : (best : Option held.Rating) → is_some best ≡ (ranked best).some
some_is None = refl
some_is (Some r) = refl
