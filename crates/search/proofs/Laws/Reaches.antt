-- The walk on an accepted network by request A.3's rule: a timetable that it has reaches the wanted gap; without one, and unstopped, no
-- whole-number starts reach it; and what it gives where 0 is wanted, or more than a cap, or nothing may be tried. Assumes nothing.
use Prim.Native.Nat.{ℕ, ◌≤◌, ◌<◌}
use mathlib.Core.Path.{◌≡◌, ap, ◌∙◌}
use mathlib.Core.Bool.{true, false}
use mathlib.Core.List.{List, [], ◌∷◌}
use native.Mathlib.Omega.{arith}
use borrow.Author.Tests.{lt-ltb}
use lib.IntN.{ℤ, pos}
use lib.ListN.{length}
use Rattle.network.specs.Rating.{Rating}
use Rattle.network.specs.Network.{Net, is_served, max_period}
use Rattle.network.specs.Valid.{Valid}
use Rattle.network.specs.Rating.{IsRating, rating}
use Rattle.network.proofs.Laws.Gaps.{IsRating-unique}
use Rattle.search.specs.Caps.{cap, upper_rating}
use Rattle.search.specs.Walk.{at_first, try_made}
use Rattle.search.specs.Search.{start_counts, walked}
use Rattle.search.specs.Wanted.{at_least}
use Rattle.search.proofs.Laws.CapScan.{cap_le}
use Rattle.search.proofs.Laws.OnNetwork.{start_counts_pos, walked_first_dropped}
use Rattle.search.proofs.Laws.Reduced.{reduced, reduced_length, reduced_chosen, reduced_rating}
use Rattle.search.proofs.Laws.Rules.{at_least_best_reaches, at_least_none_reaches, at_least_0_first_descent}
use Rattle.search.proofs.Laws.Tries.{length_start_counts}
use Rattle.search.proofs.Laws.Upper.{upper_bounds_each, upper_full, upper_rating_some, upper_least_le_cap, upper_least_le}

module _ {n : Net} (valid : Valid n) (wanted budget : ℕ) where
  some_count : 0 < length (start_counts n.periods)
  some_count = rw length_start_counts valid.some_line

  -- A timetable that it has reaches the wanted gap, and then it hasn't stopped
  pub reached_by_best : (walked n (at_least wanted) budget).best.some ≡ true
      → (wanted ≤ (walked n (at_least wanted) budget).best.least) × ((walked n (at_least wanted) budget).stopped ≡ false)
  unfolding walked
  reached_by_best =
      at_least_best_reaches (upper_rating n (cap n)) wanted budget (start_counts n.periods) (upper_rating_some n (cap n)) some_count

  -- At its end without one, no whole-number starts reach it
  pub reached_by_none : (walked n (at_least wanted) budget).stopped ≡ false → (walked n (at_least wanted) budget).best.some ≡ false
      → (starts : List ℤ) → length starts ≡ length n.periods → {least sum : ℕ} → IsRating n starts least sum → least < wanted
  unfolding walked
  reached_by_none ends none starts e {least} r =
      let (l, s) = IsRating-unique valid r in
      let same : upper_rating n (cap n) (reduced n.periods starts) ≡ rating n starts
      = upper_full valid (reduced n.periods starts) (reduced_length valid starts e) ∙ reduced_rating valid starts e in
      omega (
        arith,
        l,
        ap (λ (q : Rating). q.least) same,
        at_least_none_reaches (upper_rating n (cap n)) wanted budget (start_counts n.periods) (upper_rating_some n (cap n))
            (upper_bounds_each n (cap n) (start_counts n.periods)) ends none (reduced n.periods starts) (reduced_chosen valid starts e),
      )

  -- Where 0 is wanted and there is a try for each line, it has a timetable after as many tries
  pub reached_at_once : wanted ≡ 0 → length n.periods ≤ budget
      → ((walked n (at_least wanted) budget).best.some ≡ true) × ((walked n (at_least wanted) budget).tries ≡ length n.periods)
  unfolding walked
  reached_at_once zero enough =
      let (some, tries) = at_least_0_first_descent (upper_rating n (cap n)) wanted budget (start_counts n.periods) (upper_rating_some n (cap n)) zero
      (start_counts_pos n.periods valid.period_pos) (rw length_start_counts enough) in
      (some, tries ∙ length_start_counts n.periods)

  -- Where more is wanted than the first try's upper least gap, that try is all
  dropped_at_once : 0 < budget → (upper_rating n (cap n) (pos 0 ∷ [])).least < wanted → walked n (at_least wanted) budget ≡ try_made at_first
  unfolding at_least
  dropped_at_once some short = walked_first_dropped n valid.some_line (at_least wanted) budget some (lt-ltb _ wanted short)

  pub above_cap : 0 < budget → (stop : ℕ) → is_served stop n.calls ≡ true → cap n stop < wanted → walked n (at_least wanted) budget ≡ try_made at_first
  above_cap some stop served above =
      dropped_at_once some (omega (arith, above, upper_least_le_cap valid (cap n) (pos 0 ∷ []) stop served))

  pub above_period : 0 < budget → max_period < wanted → walked n (at_least wanted) budget ≡ try_made at_first
  above_period some above = dropped_at_once some (omega (arith, above, upper_least_le valid (cap n) (pos 0 ∷ []) max_period (cap_le n valid)))
