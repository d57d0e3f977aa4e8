-- Document 01, "Sheets": better-of-two and mark, on a file and sheets of starts. (A sheet is a candidate's timetable. Better-of-two is the
-- greater of two by the lexicographic order of ratings; a mark sets a timetable's objective value beside the optimum.)
use Rattle.std.specs.Prelude.{ℕ, Bool, true, false, ◌&&◌, List, eqb, ℤ, length, Result, Ok, Err}
use Rattle.network.specs.declared.grounds.Refusal.{Refusal}
use Rattle.network.specs.Numbers.{number_of}
use Rattle.network.specs.Rating.{Rating}
use Rattle.network.specs.Lists.{pick}
use Rattle.network.specs.Network.{Net}
use Rattle.network.specs.Rating.{rating, is_above}
use Rattle.network.specs.Rate.{on_sheet}
use Rattle.network.specs.Reading.{Reading, accepted, refused}
use Rattle.search.specs.Search.{SearchOutcome, search_outcome}
use Rattle.search.specs.Search as search
use Rattle.examination.specs.Hundred.{mark_of, remainder_of}
use Rattle.examination.specs.declared.Choice.{Choice}
use Rattle.examination.specs.declared.Choice.TheVariants as choice
use Rattle.examination.specs.declared.MarkAnswer.{MarkAnswer}
use Rattle.examination.specs.declared.MarkAnswer.TheVariants as answer

-- ---- Better-of-two

-- Which of two sheets is handed back: the first, the second, or the empty part
pub data Better : Type 0 where
  first : Better
  second : Better
  neither : Better

-- The better-of-two's enum, case by case
unfoldable pub choice_of : Choice → Better
choice_of choice.First = first
choice_of choice.Second = second
choice_of choice.Neither = neither

-- The sheet has one start for each line
unfoldable pub fits : Net → List ℤ → Bool
fits n sheet = eqb (length sheet) (length n.periods)

-- By whether each of them fits, and by their ratings: the better; the first if equal; a sheet of the wrong length loses to one that fits; none
-- if neither fits
unfoldable pub better_by : Bool → Bool → Rating → Rating → Better
better_by true true one other = pick (is_above other one) second first
better_by true false one other = first
better_by false true one other = second
better_by false false one other = neither

-- Which of two sheets is the better on a file; none if the file is refused
unfoldable pub better_of : Reading → List ℤ → List ℤ → Better
better_of (refused number place) one other = neither
better_of (accepted n) one other = better_by (fits n one) (fits n other) (rating n one) (rating n other)

-- ---- Mark

-- What a marking answers, as the papers have it: decided, with the sheet's rating, the best rating, whether they are equal, document 02's mark and
-- remainder, and the tries; undecided, with the sheet's rating and the tries; or the number and place of a refusal
pub data MarkOutcome : Type 0 where
  decided : (least sum best_least best_sum : ℕ) (equal : Bool) (mark remainder tries : ℕ) → MarkOutcome
  undecided : (least sum tries : ℕ) → MarkOutcome
  refusal : (number place : ℕ) → MarkOutcome

-- The mark call's answer, case by case
unfoldable pub mark_answer : Result MarkAnswer Refusal → MarkOutcome
mark_answer (Ok (answer.Decided sheet best equal hundred tries)) =
    decided sheet.least sheet.sum best.least best.sum equal hundred.mark hundred.remainder tries
mark_answer (Ok (answer.Undecided sheet tries)) = undecided sheet.least sheet.sum tries
mark_answer (Err r) = refusal (number_of r.reason) r.place

-- A sheet of this rating beside what the search answers: if the search stops, undecided ("an undecided marking has no mark")
unfoldable pub marked : (least sum : ℕ) → SearchOutcome → MarkOutcome
marked least sum (search.finished best_least best_sum tries) =
    decided
    least
    sum
    best_least
    best_sum
    (eqb least best_least && eqb sum best_sum)
    (mark_of least best_least)
    (remainder_of least best_least)
    tries
marked least sum (search.stopped best_least best_sum tries) = undecided least sum tries
marked least sum (search.stopped_with_none tries) = undecided least sum tries
marked least sum (search.refusal number place) = refusal number place

-- What the mark call has to answer: it refuses as rate; otherwise the sheet's rating beside the search with a start row of the sheet's length
unfoldable pub mark_outcome : Reading → List ℤ → ℕ → MarkOutcome
mark_outcome read sheet budget =
    on_sheet
    (λ (n : Net) (starts : List ℤ).
    marked (rating n starts).least (rating n starts).sum (search_outcome (accepted n) (length starts) budget))
    refusal
    read
    sheet
