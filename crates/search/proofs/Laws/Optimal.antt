-- The search of an accepted network: at its end it has a best, and no whole-number starts are rated above it; and it stops with none exactly where
-- there isn't a try for each line. Assumes nothing.
use Prim.Native.Nat.{ℕ, ◌≤◌, ◌<◌}
use mathlib.Core.Path.{◌≡◌, sym, ap, ◌∙◌}
use mathlib.Core.Bool.{true, false}
use mathlib.Core.List.{List}
use mathlib.Core.Logic.{◌⊎◌, ◌↔◌}
use native.Mathlib.Omega.{arith}
use lib.IntN.{ℤ}
use lib.ListN.{length}
use Rattle.network.specs.Rating.{Rating}
use Rattle.network.specs.Network.{Net}
use Rattle.network.specs.Valid.{Valid}
use Rattle.network.specs.Rating.{IsRating, rating, is_above}
use Rattle.network.proofs.Laws.Gaps.{IsRating-unique, below_of_not_is_above, rating_some}
use Rattle.network.proofs.Laws.Lists.{zero_ne_one}
use Rattle.search.specs.Caps.{cap, upper_rating}
use Rattle.search.specs.Search.{start_counts, walked, searched}
use Rattle.search.proofs.Laws.Upper.{upper_is_upper, upper_full, upper_rating_some}
use Rattle.search.proofs.Laws.Reduced.{reduced, reduced_length, reduced_chosen, reduced_rating}
use Rattle.search.proofs.Laws.Walk.{ChosenBelow-exists}
use Rattle.search.proofs.Laws.OnNetwork.{start_counts_pos}
use Rattle.search.proofs.Laws.Rules.{none_above_best, above_best_has_best, above_best_reaches, above_best_cut_short}
use Rattle.search.proofs.Laws.Tries.{length_start_counts}

module _ {n : Net} (valid : Valid n) (budget : ℕ) (ended : (searched n budget).stopped ≡ false) where
  pub searched_some : (searched n budget).best.some ≡ true
  unfolding walked
  searched_some =
      let (starts, c) = ChosenBelow-exists (start_counts n.periods) (start_counts_pos n.periods valid.period_pos) in
      above_best_has_best (upper_rating n (cap n)) budget (start_counts n.periods) (upper_rating_some n (cap n))
      (upper_is_upper n (cap n) (start_counts n.periods)) ended starts c

  -- No starts are rated above it
  searched_none_above : (starts : List ℤ) → length starts ≡ length n.periods → is_above (rating n starts) (searched n budget).best ≡ false
  unfolding walked
  searched_none_above starts e =
      ap (λ (r : Rating). is_above r (searched n budget).best)
      (sym (upper_full valid (reduced n.periods starts) (reduced_length valid starts e) ∙ reduced_rating valid starts e))
      ∙ none_above_best (upper_rating n (cap n)) budget (start_counts n.periods) (upper_rating_some n (cap n))
      (upper_is_upper n (cap n) (start_counts n.periods)) ended (reduced n.periods starts)
      (reduced_chosen valid starts e)

  pub searched_best : (starts : List ℤ) → length starts ≡ length n.periods → {least sum : ℕ} → IsRating n starts least sum
      → (least < (searched n budget).best.least) ⊎ ((least ≡ (searched n budget).best.least) × (sum ≤ (searched n budget).best.sum))
  searched_best starts e r =
      let (l, s) = IsRating-unique valid r in
      rw (l, s) (below_of_not_is_above (rating n starts) (searched n budget).best (rating_some n starts) searched_some (searched_none_above starts e))

-- Before the first full timetable every rating is above, so that each try places a line: the search stops with none exactly where the budget is below
-- the number of lines
module _ {n : Net} (valid : Valid n) (budget : ℕ) where
  pub searched_none_exactly : (((searched n budget).stopped ≡ true) × ((searched n budget).best.some ≡ false)) ↔ (budget < length n.periods)
  unfolding walked
  searched_none_exactly =
      let tried = start_counts_pos n.periods valid.period_pos in
      let reaches = above_best_reaches (upper_rating n (cap n)) budget (start_counts n.periods) (upper_rating_some n (cap n)) tried in
      let cut_short = above_best_cut_short (upper_rating n (cap n)) budget (start_counts n.periods) (upper_rating_some n (cap n)) tried in (
        λ (stops, none).
            let few : length n.periods ≤ budget → ⊥ = λ enough. zero_ne_one (cc (reaches (rw length_start_counts enough))) in omega arith,
        λ few. cut_short (rw length_start_counts few),
      )
