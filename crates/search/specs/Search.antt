-- Document 01, "The walk": the walk on a network, the search, and what the search call answers and leaves in the start row. Beside its rule
-- stands that by which request A.11 of document 02 walks; A.3's stands in Wanted.antt.
use Rattle.std.specs.Prelude.{ℕ, ◌+◌, ◌*◌, Bool, true, false, not, ◌&&◌, ◌||◌, List, [], ◌∷◌, eqb, ltb, ℤ, length, drop, Result, Ok, Err}
use Rattle.network.specs.declared.grounds.Refusal.{Refusal}
use Rattle.network.specs.Lists.{pick}
use Rattle.network.specs.Network.{Net}
use Rattle.network.specs.Numbers.{number_of}
use Rattle.network.specs.Rating.{Rating, is_above}
use Rattle.network.specs.Reading.{Reading, accepted, refused}
use Rattle.search.specs.declared.SearchAnswer.{SearchAnswer}
use Rattle.search.specs.declared.SearchAnswer.TheVariants as answer
use Rattle.search.specs.Caps.{cap, upper_rating}
use Rattle.search.specs.Walk.{State, Rule, at_first, walk, most_tries}

-- Line 0 is tried at 0 only, each other line at 0 up to its period less 1
unfoldable pub start_counts : List ℕ → List ℕ
start_counts [] = []
start_counts (first ∷ rest) = 1 ∷ rest

-- A try whose upper rating isn't above the best so far is dropped
unfoldable pub not_above : Rating → Rating → Bool
not_above upper best = not (is_above upper best)

-- The rule of document 01, which goes on to the end
unfoldable pub above_best : Rule
above_best = record { drops = not_above; ends_at_first = false }

-- The rule of request A.11's second pass: a try whose upper least gap is below the floor is dropped and, once there is a best, one whose
-- upper sum isn't above the best sum; it goes on to the end
unfoldable pub by_sum : ℕ → Rule
by_sum floor =
    record {
      drops = λ (upper best : Rating). ltb upper.least floor || (best.some && not (ltb best.sum upper.sum));
      ends_at_first = false;
    }

-- The walk on a network by a rule
unfoldable pub walked : Net → Rule → ℕ → State
walked n rule budget = walk (upper_rating n (cap n)) rule budget (start_counts n.periods) [] at_first

-- The search: by document 01's rule
abbrev pub searched : Net → ℕ → State
searched n budget = walked n above_best budget

-- k×T1 + k×T1×T2 + ..
abbrev pub products_from : ℕ → List ℕ → ℕ
products_from k [] = 0
products_from k (t ∷ rest) = k * t + products_from (k * t) rest

-- Demand 3's bound, 1 + T1 + T1×T2 + .. over the periods after the first
abbrev pub demanded_bound : Net → ℕ
demanded_bound n = 1 + products_from 1 (drop 1 n.periods)

-- How many tries the walk can make; it is demand 3's bound, `tries_bound_products` of proofs/Laws/OnNetwork.antt
unfoldable pub tries_bound : Net → ℕ
tries_bound n = most_tries (start_counts n.periods)

-- What the search answers, as the paper has it: finished with the best rating and the tries; stopped with a best, the same; stopped with
-- none, the tries; or the number and place of a refusal
pub data SearchOutcome : Type 0 where
  finished : (least sum tries : ℕ) → SearchOutcome
  stopped : (least sum tries : ℕ) → SearchOutcome
  stopped_with_none : (tries : ℕ) → SearchOutcome
  refusal : (number place : ℕ) → SearchOutcome

-- The tries that an answer reports; a refusal reports none
abbrev pub tries_of : SearchOutcome → ℕ
tries_of (finished least sum tries) = tries
tries_of (stopped least sum tries) = tries
tries_of (stopped_with_none tries) = tries
tries_of (refusal number place) = 0

-- The search call's answer, case by case; or the refusal
unfoldable pub search_answer : Result SearchAnswer Refusal → SearchOutcome
search_answer (Ok (answer.Finished best tries)) = finished best.least best.sum tries
search_answer (Ok (answer.Stopped best tries)) = stopped best.least best.sum tries
search_answer (Ok (answer.StoppedWithNone tries)) = stopped_with_none tries
search_answer (Err r) = refusal (number_of r.reason) r.place

-- What a walk at its end gives
unfoldable pub walk_outcome : Bool → Bool → State → SearchOutcome
walk_outcome false some s = finished s.best.least s.best.sum s.tries
walk_outcome true true s = stopped s.best.least s.best.sum s.tries
walk_outcome true false s = stopped_with_none s.tries

unfoldable pub outcome_of : State → SearchOutcome
outcome_of s = walk_outcome s.stopped s.best.some s

-- A call that is lent a start row, of this length: the file's ground, then ground 16 where the row hasn't one place for each line, then what
-- the call gives on the network
unfoldable pub on_start_row : {A : Type 0} → (Net → A) → (ℕ → ℕ → A) → Reading → ℕ → A
on_start_row call refuses (refused number place) row = refuses number place
on_start_row call refuses (accepted n) row = pick (eqb row (length n.periods)) (call n) (refuses 16 0)

-- What a walk leaves in a row: the starts of its best, or where there is none what it held
unfoldable pub row_after_walk : State → List ℤ → List ℤ
row_after_walk s row = pick s.best.some s.starts row

-- What the search call has to answer on a file, a start row of this length and a budget
unfoldable pub search_outcome : Reading → ℕ → ℕ → SearchOutcome
search_outcome read row budget = on_start_row (λ (n : Net). outcome_of (searched n budget)) refusal read row

-- What the start row holds afterwards; a refusal leaves it as it was
unfoldable pub start_row_after : Reading → ℕ → List ℤ → List ℤ
start_row_after read budget row =
    on_start_row (λ (n : Net). row_after_walk (searched n budget) row) (λ (number place : ℕ). row) read (length row)
