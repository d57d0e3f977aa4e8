-- The cases P1 to P9 of document 01, as one theorem over a list of cases; and as one each, cases with a wanted gap (document 02, A.3), caps by the
-- tries they lead to, one line alone, demand 3's bounds, and start rows that both calls refuse: by the definitions, from the files' bytes. Each side
-- computes. And every call answers and leaves what is evaluated here, by its contract. Assumes nothing.
use Prim.Native.Nat.{ℕ}
use mathlib.Core.Path.{◌≡◌, refl, ◌∙◌}
use mathlib.Core.List.{List, [], ◌∷◌}
use borrow.Fn.World.{ArgsD, ResD}
use borrow.Fn.Kinds.{ended_of}
use contract.Lifetimes.{Lfts}
use denote.Triple.Clauses.{AtExit}
use lib.IntN.{ℤ, pos, negsuc}
use lib.ListN.{take, replicate, length}
use Rattle.network.specs.Lists.{any, keep, all_below, count_below, below, table, sum_of, least_of, pairs_of, least_from}
use Rattle.network.specs.Divisor.{gcd, gcd_within, lcm, common_cycle, cycle_from}
use Rattle.network.specs.Network.{cycle, calls_at, how_often_at, calls_anywhere, is_served, served_stops, latest_offset, word, command, operand_bytes, line_operand}
use Rattle.network.specs.Network.{stop_operand, stated_offset, ride_offset, with_line, with_call, call_of, extend}
use Rattle.network.specs.Grounds.{first, cut_off, period_out_of_range, some_line_silent, call_grounds, grounds}
use Rattle.network.specs.Reading.{proceed, read_from, read_file, read_outcome, Reading, accepted, refused, values}
use Rattle.network.specs.Gap.{residue, fold, gap_of}
use Rattle.network.specs.Rating.{arrival_of, period_of, gap_of_calls, pair_gaps, gap_of_stop, calls_of_stop, stop_gap, each_once, served_list, counted, rating_by, rating_over, rating, is_above}
use Rattle.network.specs.Rate.{rating_values, on_sheet, rate_outcome}
use Rattle.network.specs.Tidy.{insert_by, sort_by, not_after, tidy}
use Rattle.network.specs.Classes.{ordered, remainder, same_line, same_remainder, is_alike, first_below, lowest_alike, is_lowest, class_row, weight_row, class_count}
use Rattle.network.specs.Loops.{own_gap}
use Rattle.search.specs.Caps.{half_of, pair_cap, pair_caps, even_spacing, cap_of_calls, cap, placed_calls, upper_value, upper_rating}
use Rattle.search.specs.Walk.{is_over, try_made, stop, becomes_best, unless, stop_if, one_try, each_start, walk, most_tries}
use Rattle.search.specs.Search.{SearchOutcome, finished, stopped, stopped_with_none, refusal, demanded_bound, start_counts, not_above, above_best, walked, tries_bound, walk_outcome, outcome_of}
use Rattle.search.specs.Search.{on_start_row, row_after_walk, search_outcome, start_row_after, search_answer}
use Rattle.search.specs.Wanted.{WantedOutcome, at_least, reached_by, reached_of, wanted_outcome, wanted_row_after, wanted_answer}
use Rattle.search.specs.Wanted as wanted
use Rattle.search.specs.contracts.entry.search as search
use Rattle.search.proofs.entry.search.Kinds as search_kinds
use Rattle.search.proofs.entry.search.Reads as search_contract
use Rattle.search.specs.contracts.wanted.wanted as wanting
use Rattle.search.proofs.wanted.wanted.Kinds as wanted_kinds
use Rattle.search.proofs.wanted.wanted.Reads as wanted_contract

-- Opens every definition
opened : ℕ
unfolding any keep all_below count_below below sum_of least_of gcd gcd_within lcm common_cycle cycle_from cycle calls_at how_often_at calls_anywhere is_served served_stops latest_offset word command operand_bytes line_operand stop_operand stated_offset ride_offset with_line with_call call_of extend first cut_off period_out_of_range some_line_silent call_grounds grounds proceed read_from read_file read_outcome residue fold gap_of arrival_of period_of gap_of_calls pair_gaps gap_of_stop calls_of_stop stop_gap each_once counted rating_by served_list rating_over rating is_above rating_values on_sheet rate_outcome insert_by sort_by not_after tidy ordered remainder same_line same_remainder is_alike first_below lowest_alike is_lowest table class_row weight_row class_count least_from half_of own_gap pair_cap pair_caps even_spacing cap_of_calls cap placed_calls upper_value upper_rating is_over try_made stop becomes_best unless stop_if one_try each_start walk most_tries start_counts not_above above_best walked tries_bound walk_outcome outcome_of on_start_row row_after_walk search_outcome start_row_after at_least reached_by reached_of wanted_outcome wanted_row_after pairs_of
opened = 0

-- The files
pub p1 : List ℕ
p1 = 0x4C ∷ 0 ∷ 15 ∷ 0x4C ∷ 0 ∷ 20 ∷ 0x43 ∷ 0 ∷ 0 ∷ 0 ∷ 8 ∷ 0x43 ∷ 1 ∷ 0 ∷ 0 ∷ 17 ∷ 0x45 ∷ []

pub p7 : List ℕ
p7 = 0x4C ∷ 0 ∷ 10 ∷ 0x4C ∷ 0 ∷ 10 ∷ 0x4C ∷ 0 ∷ 10 ∷ 0x43 ∷ 0 ∷ 0 ∷ 0 ∷ 0 ∷ 0x43 ∷ 1 ∷ 0 ∷ 0 ∷ 0 ∷ 0x43 ∷ 2 ∷ 0 ∷ 0 ∷ 0 ∷ 0x45 ∷ []

pub p8 : List ℕ
p8 = 0x4C ∷ 0 ∷ 60 ∷ 0x4C ∷ 0 ∷ 60 ∷ 0x4C ∷ 0 ∷ 12 ∷ 0x43 ∷ 0 ∷ 0 ∷ 0 ∷ 0 ∷ 0x43 ∷ 1 ∷ 0 ∷ 0 ∷ 0 ∷ 0x43 ∷ 2 ∷ 1 ∷ 0 ∷ 0 ∷ 0x45 ∷ []

pub p9 : List ℕ
p9 = 0x4C ∷ 0 ∷ 20 ∷ 0x4C ∷ 0 ∷ 30 ∷ 0x43 ∷ 0 ∷ 0 ∷ 0 ∷ 0 ∷ 0x43 ∷ 1 ∷ 0 ∷ 0 ∷ 0 ∷ 0x43 ∷ 0 ∷ 1 ∷ 0 ∷ 7 ∷ 0x43 ∷ 1 ∷ 1 ∷ 0 ∷ 17 ∷ 0x43 ∷ 0 ∷ 2 ∷ 0 ∷ 5 ∷ 0x43 ∷ 1 ∷ 2 ∷ 0 ∷ 8 ∷ 0x45 ∷ []

-- Two lines of 4, at stop 0 with offsets 0 and 0, at stop 1 with 0 and 1
pub two_stops : List ℕ
two_stops = 0x4C ∷ 0 ∷ 4 ∷ 0x4C ∷ 0 ∷ 4 ∷ 0x43 ∷ 0 ∷ 0 ∷ 0 ∷ 0 ∷ 0x43 ∷ 1 ∷ 0 ∷ 0 ∷ 0 ∷ 0x43 ∷ 0 ∷ 1 ∷ 0 ∷ 0 ∷ 0x43 ∷ 1 ∷ 1 ∷ 0 ∷ 1 ∷ 0x45 ∷ []

-- Periods 15, 20, 4 at one stop, offsets 0
pub three_lines : List ℕ
three_lines = 0x4C ∷ 0 ∷ 15 ∷ 0x4C ∷ 0 ∷ 20 ∷ 0x4C ∷ 0 ∷ 4 ∷ 0x43 ∷ 0 ∷ 0 ∷ 0 ∷ 0 ∷ 0x43 ∷ 1 ∷ 0 ∷ 0 ∷ 0 ∷ 0x43 ∷ 2 ∷ 0 ∷ 0 ∷ 0 ∷ 0x45 ∷ []

-- Three lines of 6: two at stop 1, the third alone at stop 0, twice, a minute apart
pub loop_alone : List ℕ
loop_alone = 0x4C ∷ 0 ∷ 6 ∷ 0x4C ∷ 0 ∷ 6 ∷ 0x4C ∷ 0 ∷ 6 ∷ 0x43 ∷ 0 ∷ 1 ∷ 0 ∷ 0 ∷ 0x43 ∷ 1 ∷ 1 ∷ 0 ∷ 0 ∷ 0x43 ∷ 2 ∷ 0 ∷ 0 ∷ 0 ∷ 0x43 ∷ 2 ∷ 0 ∷ 0 ∷ 1 ∷ 0x45 ∷ []

-- Periods 12, 3, 4: at stop 0 the first and, twice, the third, at stop 1 the first and the second
pub loop_beside : List ℕ
loop_beside =
    0x4C ∷ 0 ∷ 12 ∷ 0x4C ∷ 0 ∷ 3 ∷ 0x4C ∷ 0 ∷ 4 ∷ 0x43 ∷ 0 ∷ 0 ∷ 0 ∷ 0 ∷ 0x43 ∷ 0 ∷ 1 ∷ 0 ∷ 0 ∷ 0x43 ∷ 1 ∷ 1 ∷ 0 ∷ 0 ∷ 0x43 ∷ 2 ∷ 0 ∷ 0 ∷ 0 ∷ 0x43 ∷ 2 ∷ 0 ∷ 0 ∷ 2 ∷ 0x45 ∷ []

-- Four lines of 60 at one stop
pub four_of60 : List ℕ
four_of60 =
    0x4C ∷ 0 ∷ 60 ∷ 0x4C ∷ 0 ∷ 60 ∷ 0x4C ∷ 0 ∷ 60 ∷ 0x4C ∷ 0 ∷ 60 ∷ 0x43 ∷ 0 ∷ 0 ∷ 0 ∷ 0 ∷ 0x43 ∷ 1 ∷ 0 ∷ 0 ∷ 0 ∷ 0x43 ∷ 2 ∷ 0 ∷ 0 ∷ 0 ∷ 0x43 ∷ 3 ∷ 0 ∷ 0 ∷ 0 ∷ 0x45 ∷ []

-- One line of 15
pub one_line : List ℕ
one_line = 0x4C ∷ 0 ∷ 15 ∷ 0x43 ∷ 0 ∷ 0 ∷ 0 ∷ 8 ∷ 0x45 ∷ []

-- P1 without its last byte
pub unended : List ℕ
unended = 0x4C ∷ 0 ∷ 15 ∷ 0x4C ∷ 0 ∷ 20 ∷ 0x43 ∷ 0 ∷ 0 ∷ 0 ∷ 8 ∷ 0x43 ∷ 1 ∷ 0 ∷ 0 ∷ 17 ∷ []

-- A case: a sheet that is rated, a search with its budget, a wanted gap with its budget, the classes and weights of the first stops, and demand 3's
-- bound
pub data Case : Type 0 where
  rates : List ℕ → List ℤ → ℕ → ℕ → Case
  searches : List ℕ → ℕ → SearchOutcome → List ℤ → Case
  wants : List ℕ → ℕ → ℕ → WantedOutcome → List ℤ → Case
  classes : List ℕ → List ℕ → List ℕ → ℕ → Case
  bounds : List ℕ → ℕ → Case

pub rows_of : Reading → ℕ → List ℕ × (List ℕ × ℕ)
rows_of (refused number place) k = ([], ([], 0))
rows_of (accepted n) k = (take k (class_row n), (take k (weight_row n), class_count n))

-- Of the network that a file reads to
pub bound_of : Reading → ℕ
bound_of (refused number place) = 0
bound_of (accepted n) = demanded_bound n

pub Holds : Case → Type 0
Holds (rates file sheet least sum) = rate_outcome (read_file file) sheet ≡ values (least ∷ sum ∷ [])
Holds (searches file budget outcome starts) =
    (search_outcome (read_file file) (length starts) budget ≡ outcome) × (start_row_after (read_file file) budget (replicate (length starts) (pos 77)) ≡ starts)
Holds (wants file gap budget outcome starts) =
    (wanted_outcome (read_file file) (length starts) gap budget ≡ outcome) × (wanted_row_after (read_file file) gap budget (replicate (length starts) (pos 77)) ≡ starts)
Holds (classes file cs ws count) = rows_of (read_file file) (length cs) ≡ (cs, (ws, count))
Holds (bounds file most) = bound_of (read_file file) ≡ most

pub Every : List Case → Type 0
Every [] = Unit {0}
Every (c ∷ cs) = Holds c × Every cs

pub cases : List Case
cases =
    rates p1 (pos 0 ∷ pos 0 ∷ []) 1 1 ∷
    rates p1 (pos 0 ∷ negsuc 16 ∷ []) 2 2 ∷
    searches p1 21 (finished 2 2 21) (pos 0 ∷ pos 3 ∷ []) ∷
    searches p1 20 (stopped 2 2 20) (pos 0 ∷ pos 3 ∷ []) ∷
    searches p1 2 (stopped 1 1 2) (pos 0 ∷ pos 0 ∷ []) ∷
    searches p1 1 (stopped_with_none 1) (pos 77 ∷ pos 77 ∷ []) ∷
    searches p7 1000000 (finished 3 3 51) (pos 0 ∷ pos 3 ∷ pos 6 ∷ []) ∷
    searches p8 1000000 (finished 12 42 433) (pos 0 ∷ pos 30 ∷ pos 0 ∷ []) ∷
    classes p9 (0 ∷ 0 ∷ 2 ∷ []) (2 ∷ 0 ∷ 1 ∷ []) 2 ∷
    searches p9 1000000 (finished 3 11 31) (pos 0 ∷ pos 4 ∷ []) ∷
    []

pub P1-to-P9 : Every cases
unfolding opened p1 p7 p8 p9 rows_of Holds Every cases
P1-to-P9 =
    (refl, (refl, ((refl, refl), ((refl, refl), ((refl, refl), ((refl, refl), ((refl, refl), ((refl, refl), (refl, ((refl, refl), tt))))))))))

-- With a wanted gap: found, none and stopped, and budgets just at and below what they take
pub wanted_cases : List Case
wanted_cases =
    wants p1 2 5 (wanted.found 5) (pos 0 ∷ pos 3 ∷ []) ∷
    wants p1 2 4 (wanted.stopped 4) (pos 77 ∷ pos 77 ∷ []) ∷
    wants p1 1 1000000 (wanted.found 2) (pos 0 ∷ pos 0 ∷ []) ∷
    wants p1 3 1 (wanted.none 1) (pos 77 ∷ pos 77 ∷ []) ∷
    wants p1 3 0 (wanted.stopped 0) (pos 77 ∷ pos 77 ∷ []) ∷
    wants p1 0 1 (wanted.stopped 1) (pos 77 ∷ pos 77 ∷ []) ∷
    wants p1 0 2 (wanted.found 2) (pos 0 ∷ pos 0 ∷ []) ∷
    wants p1 65535 1 (wanted.none 1) (pos 77 ∷ pos 77 ∷ []) ∷
    wants p9 3 1000000 (wanted.found 5) (pos 0 ∷ pos 3 ∷ []) ∷
    wants p9 4 1000000 (wanted.none 31) (pos 77 ∷ pos 77 ∷ []) ∷
    wants p8 13 1000000 (wanted.none 1) (pos 77 ∷ pos 77 ∷ pos 77 ∷ []) ∷
    wants p8 12 1000000 (wanted.found 15) (pos 0 ∷ pos 12 ∷ pos 0 ∷ []) ∷
    wants two_stops 2 1000000 (wanted.none 5) (pos 77 ∷ pos 77 ∷ []) ∷
    wants two_stops 2 5 (wanted.none 5) (pos 77 ∷ pos 77 ∷ []) ∷
    wants two_stops 2 4 (wanted.stopped 4) (pos 77 ∷ pos 77 ∷ []) ∷
    wants p1 2 1000000 (wanted.refusal 16 0) (pos 77 ∷ []) ∷
    []

pub wanted_cases_hold : Every wanted_cases
unfolding opened p1 p8 p9 two_stops rows_of Holds Every wanted_cases
wanted_cases_hold =
    ((refl, refl), ((refl, refl), ((refl, refl), ((refl, refl), ((refl, refl), ((refl, refl), ((refl, refl), ((refl, refl), ((refl, refl), ((refl, refl), ((refl, refl), ((refl, refl), ((refl, refl), ((refl, refl), ((refl, refl), ((refl, refl), tt))))))))))))))))

-- Caps, by the tries of a finished search. Half of g rounded down, where the whole g, or the half rounded up, takes 89; an own pair's exact gap, where
-- half the period takes 37; one term for each call, where one for each line takes 16
pub cap_cases : List Case
cap_cases =
    searches three_lines 1000000 (finished 0 0 25) (pos 0 ∷ pos 0 ∷ pos 0 ∷ []) ∷
    searches loop_alone 1000000 (finished 1 4 31) (pos 0 ∷ pos 3 ∷ pos 0 ∷ []) ∷
    searches loop_beside 1000000 (finished 1 2 12) (pos 0 ∷ pos 1 ∷ pos 1 ∷ []) ∷
    []

pub caps_by_tries : Every cap_cases
unfolding opened three_lines loop_alone loop_beside Holds Every cap_cases
caps_by_tries = ((refl, refl), ((refl, refl), ((refl, refl), tt)))

-- One line: one try, at start 0, and without a budget none. And P8 a try short of its end, which stops with the best that it ends with
pub budget_cases : List Case
budget_cases =
    searches one_line 1 (finished 15 15 1) (pos 0 ∷ []) ∷
    searches one_line 0 (stopped_with_none 0) (pos 77 ∷ []) ∷
    wants one_line 15 1 (wanted.found 1) (pos 0 ∷ []) ∷
    wants one_line 16 1 (wanted.none 1) (pos 77 ∷ []) ∷
    wants one_line 15 0 (wanted.stopped 0) (pos 77 ∷ []) ∷
    searches p8 432 (stopped 12 42 432) (pos 0 ∷ pos 30 ∷ pos 0 ∷ []) ∷
    []

pub budgets_by_tries : Every budget_cases
unfolding opened one_line p8 Holds Every budget_cases
budgets_by_tries = ((refl, refl), ((refl, refl), ((refl, refl), ((refl, refl), ((refl, refl), ((refl, refl), tt))))))

-- Demand 3's bound, 1 + T1 + T1×T2 + .. over the periods after the first; 1 for one line
pub bound_cases : List Case
bound_cases = bounds one_line 1 ∷ bounds p1 21 ∷ bounds p7 111 ∷ bounds p8 781 ∷ bounds four_of60 219661 ∷ []

pub bounds_by_periods : Every bound_cases
unfolding opened one_line p1 p7 p8 four_of60 bound_of Holds Every bound_cases
bounds_by_periods = (refl, (refl, (refl, (refl, (refl, tt)))))

-- Ground 16 at place 0 where the start row hasn't one place for each line, and a refused file's own ground before it; the row is as found
pub refused_cases : List Case
refused_cases =
    searches p1 1000000 (refusal 16 0) (pos 77 ∷ []) ∷
    searches p1 1000000 (refusal 16 0) (pos 77 ∷ pos 77 ∷ pos 77 ∷ []) ∷
    searches p1 0 (refusal 16 0) [] ∷
    searches unended 1000000 (refusal 1 16) (pos 77 ∷ []) ∷
    searches unended 1000000 (refusal 1 16) (pos 77 ∷ pos 77 ∷ []) ∷
    searches unended 1000000 (refusal 1 16) (pos 77 ∷ pos 77 ∷ pos 77 ∷ []) ∷
    wants p1 2 1000000 (wanted.refusal 16 0) (pos 77 ∷ []) ∷
    wants p1 2 1000000 (wanted.refusal 16 0) (pos 77 ∷ pos 77 ∷ pos 77 ∷ []) ∷
    wants p1 0 0 (wanted.refusal 16 0) [] ∷
    wants unended 2 1000000 (wanted.refusal 1 16) (pos 77 ∷ []) ∷
    wants unended 2 1000000 (wanted.refusal 1 16) (pos 77 ∷ pos 77 ∷ []) ∷
    wants unended 2 1000000 (wanted.refusal 1 16) (pos 77 ∷ pos 77 ∷ pos 77 ∷ []) ∷
    []

pub start_rows_refused : Every refused_cases
unfolding opened p1 unended Holds Every refused_cases
start_rows_refused =
    ((refl, refl), ((refl, refl), ((refl, refl), ((refl, refl), ((refl, refl), ((refl, refl), ((refl, refl), ((refl, refl), ((refl, refl), ((refl, refl), ((refl, refl), ((refl, refl), tt))))))))))))

-- ---- Every call: what is evaluated of what is lent to it, it answers and leaves in the row

module _ (κs : Lfts 2) (a : ArgsD search.signature κs) (r : ResD search.signature κs)
    (s : AtExit (ended_of 2 search_kinds.ps search_kinds.r) κs) (kept : search_contract.Post κs a r s) where
  pub search_as_case : {outcome : SearchOutcome} {starts : List ℤ}
      → (search_outcome (read_file a.0.now) (length a.1.0.now) a.1.1.0 ≡ outcome)
      × (start_row_after (read_file a.0.now) a.1.1.0 a.1.0.now ≡ starts)
      → (search_answer r ≡ outcome) × (s.1.0.now ≡ starts)
  search_as_case h = (kept.0 ∙ h.0, kept.1.0 ∙ h.1)

module _ (κs : Lfts 2) (a : ArgsD wanting.signature κs) (r : ResD wanting.signature κs)
    (s : AtExit (ended_of 2 wanted_kinds.ps wanted_kinds.r) κs) (kept : wanted_contract.Post κs a r s) where
  pub wanted_as_case : {outcome : WantedOutcome} {starts : List ℤ}
      → (wanted_outcome (read_file a.0.now) (length a.1.0.now) a.1.1.0 a.1.1.1.0 ≡ outcome)
      × (wanted_row_after (read_file a.0.now) a.1.1.0 a.1.1.1.0 a.1.0.now ≡ starts)
      → (wanted_answer r ≡ outcome) × (s.1.0.now ≡ starts)
  wanted_as_case h = (kept.0 ∙ h.0, kept.1.0 ∙ h.1)
