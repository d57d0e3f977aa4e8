-- Which of two sheets is the better, by their ratings over all trips: the first unless the second is rated above it, and one that fits before one
-- that doesn't. Assumes nothing.
use Prim.Native.Nat.{ℕ, ◌<◌, ◌≤◌}
use mathlib.Core.Path.{◌≡◌, refl}
use mathlib.Core.Bool.{Bool, true, false}
use mathlib.Core.List.{List}
use mathlib.Core.Logic.{◌⊎◌}
use borrow.Author.Tests.{eq-eqb, ne_eqb}
use lib.IntN.{ℤ}
use lib.ListN.{length}
use Rattle.network.specs.Lists.{pick}
use Rattle.network.specs.Network.{Net}
use Rattle.network.specs.Rating.{IsRating, rating, is_above}
use Rattle.network.specs.Reading.{Reading, accepted, refused}
use Rattle.network.specs.Refusals.{Unfit}
use Rattle.network.specs.Valid.{Valid}
use Rattle.network.proofs.Laws.Gaps.{IsRating-unique, above_of_is_above, below_of_not_is_above, rating_some}
use Rattle.examination.specs.Sheets.{Better, first, second, neither, fits, better_by, better_of}

-- Which sheet is chosen: the first, not rated below the second; or the second, rated above the first
pub data Chosen (least sum least' sum' : ℕ) : Better → Type 0 where
  first_not_below : (least' < least) ⊎ ((least' ≡ least) × (sum' ≤ sum)) → Chosen least sum least' sum' first
  second_above : (least < least') ⊎ ((least ≡ least') × (sum < sum')) → Chosen least sum least' sum' second

module _ {read : Reading} {n : Net} (reads : read ≡ accepted n) (one other : List ℤ) where
  by_fit : {a b : Bool} → fits n one ≡ a → fits n other ≡ b → better_of read one other ≡ better_by a b (rating n one) (rating n other)
  unfolding better_of
  by_fit e f = rw (reads, e, f) refl

  fit_is : (sheet : List ℤ) → length sheet ≡ length n.periods → fits n sheet ≡ true
  unfolding fits
  fit_is sheet e = eq-eqb _ _ e

  unfit_is : (sheet : List ℤ) → Unfit sheet n → fits n sheet ≡ false
  unfolding fits
  unfit_is sheet differ = ne_eqb _ _ differ

  pub only_first : length one ≡ length n.periods → Unfit other n → better_of read one other ≡ first
  unfolding better_by
  only_first e f = by_fit (fit_is one e) (unfit_is other f)

  pub only_second : Unfit one n → length other ≡ length n.periods → better_of read one other ≡ second
  unfolding better_by
  only_second e f = by_fit (unfit_is one e) (fit_is other f)

  pub no_fit : Unfit one n → Unfit other n → better_of read one other ≡ neither
  unfolding better_by
  no_fit e f = by_fit (unfit_is one e) (unfit_is other f)

  module _ (valid : Valid n) {least sum least' sum' : ℕ} (p : IsRating n one least sum) (q : IsRating n other least' sum') where
    chosen_by : (b : Bool) → is_above (rating n other) (rating n one) ≡ b → Chosen least sum least' sum' (pick b second first)
    chosen_by true e =
        let (l, s) = IsRating-unique valid p in
        let (l', s') = IsRating-unique valid q in
        second_above (rw (l, s, l', s') (above_of_is_above (rating n other) (rating n one) (rating_some n other) (rating_some n one) e))
    chosen_by false e =
        let (l, s) = IsRating-unique valid p in
        let (l', s') = IsRating-unique valid q in
        first_not_below (rw (l, s, l', s') (below_of_not_is_above (rating n other) (rating n one) (rating_some n other) (rating_some n one) e))

    pub both_fit : length one ≡ length n.periods → length other ≡ length n.periods → Chosen least sum least' sum' (better_of read one other)
    unfolding better_by
    both_fit e f = rw (by_fit (fit_is one e) (fit_is other f)) (chosen_by (is_above (rating n other) (rating n one)) refl)

pub refused_neither : {read : Reading} {number place : ℕ} → read ≡ refused number place → (one other : List ℤ)
    → better_of read one other ≡ neither
unfolding better_of
refused_neither e one other = rw e refl
