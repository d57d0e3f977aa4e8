-- Document 02, A.3: from a wanted gap to a timetable. The walk is the usual one by another rule, and its answer says whether any whole-number
-- starts reach the wanted gap. (The wanted gap is a lower bound set to the objective; found and none decide whether that is feasible.)
use Rattle.std.specs.Prelude.{ℕ, Bool, true, false, List, ltb, ℤ, length, Result, Ok, Err}
use Rattle.network.specs.declared.grounds.Refusal.{Refusal}
use Rattle.network.specs.Network.{Net}
use Rattle.network.specs.Numbers.{number_of}
use Rattle.network.specs.Rating.{Rating}
use Rattle.network.specs.Reading.{Reading}
use Rattle.search.specs.declared.WantedAnswer.{WantedAnswer}
use Rattle.search.specs.declared.WantedAnswer.TheVariants as answer
use Rattle.search.specs.Walk.{State, Rule}
use Rattle.search.specs.Search.{walked, on_start_row, row_after_walk}

-- The rule: a try whose upper least gap is below the wanted one is dropped, and the first full timetable ends the walk
unfoldable pub at_least : ℕ → Rule
at_least wanted = record { drops = λ (upper best : Rating). ltb upper.least wanted; ends_at_first = true }

-- What the call answers, as the paper has it: a timetable is found, there is none, or the walk stopped, each with the tries; or the number
-- and place of a refusal
pub data WantedOutcome : Type 0 where
  found : (tries : ℕ) → WantedOutcome
  none : (tries : ℕ) → WantedOutcome
  stopped : (tries : ℕ) → WantedOutcome
  refusal : (number place : ℕ) → WantedOutcome

-- The tries that an answer reports; a refusal reports none
abbrev pub tries_of : WantedOutcome → ℕ
tries_of (found tries) = tries
tries_of (none tries) = tries
tries_of (stopped tries) = tries
tries_of (refusal number place) = 0

-- The call's answer, case by case; or the refusal
unfoldable pub wanted_answer : Result WantedAnswer Refusal → WantedOutcome
wanted_answer (Ok (answer.Found tries)) = found tries
wanted_answer (Ok (answer.None tries)) = none tries
wanted_answer (Ok (answer.Stopped tries)) = stopped tries
wanted_answer (Err r) = refusal (number_of r.reason) r.place

-- What a walk by this rule gives at its end, by whether it has a timetable and whether it stopped
unfoldable pub reached_by : Bool → Bool → State → WantedOutcome
reached_by true stops s = found s.tries
reached_by false false s = none s.tries
reached_by false true s = stopped s.tries

unfoldable pub reached_of : State → WantedOutcome
reached_of s = reached_by s.best.some s.stopped s

-- What the call has to answer on a file, a start row of this length, a wanted gap and a budget: the file's ground, then ground 16, then the
-- walk's
unfoldable pub wanted_outcome : Reading → ℕ → ℕ → ℕ → WantedOutcome
wanted_outcome read row wanted budget = on_start_row (λ (n : Net). reached_of (walked n (at_least wanted) budget)) refusal read row

-- What the start row holds afterwards: the timetable's starts, or where there is none what it held
unfoldable pub wanted_row_after : Reading → ℕ → ℕ → List ℤ → List ℤ
wanted_row_after read wanted budget row =
    on_start_row (λ (n : Net). row_after_walk (walked n (at_least wanted) budget) row) (λ (number place : ℕ). row) read (length row)
