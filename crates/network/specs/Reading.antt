-- Document 01, "The network file": a file is read command by command, and gives a network or the number and place of a refusal; and what
-- the read call answers.
use Rattle.std.specs.Prelude.{ℕ, zero, suc, ◌+◌, List, [], ◌∷◌, length, Result, Ok, Err}
use Rattle.network.specs.declared.Accepted.{Accepted}
use Rattle.network.specs.declared.grounds.Refusal.{Refusal}
use Rattle.network.specs.Network.{Net, SoFar, nothing_read, Command, states_line, calls_by_offset, calls_by_ride, ends, states_edition, unknown}
use Rattle.network.specs.Network.{command, operand_bytes, extend, cycle, served_stops}
use Rattle.network.specs.Grounds.{Check, Passes, Refused, first, grounds}
use Rattle.network.specs.Numbers.{number_of}

-- What reading a file gives
pub data Reading : Type 0 where
  accepted : Net → Reading
  refused : (number place : ℕ) → Reading

-- A refusal stands; where no ground applies, 45 ends the reading and any other command hands on to what stands behind it
unfoldable pub proceed : Check → Command → SoFar → Reading → Reading
proceed (Refused number place) c f onward = refused number place
proceed Passes states_line f onward = onward
proceed Passes calls_by_offset f onward = onward
proceed Passes calls_by_ride f onward = onward
proceed Passes ends f onward = accepted f.network
proceed Passes states_edition f onward = onward
proceed Passes unknown f onward = onward

-- The file from place `p` on, of which `f` has been read before it; `operands` bytes belong to the command before and are passed over.
-- Ground 1: no byte where a command is due
unfoldable pub read_from : SoFar → ℕ → ℕ → List ℕ → Reading
read_from f p operands [] = refused 1 p
read_from f p (suc operands) (b ∷ behind) = read_from f (p + 1) operands behind
read_from f p zero (b ∷ behind) =
    proceed (first (grounds (command b) f p behind)) (command b) f
    (read_from (extend (command b) f behind) (p + 1) (operand_bytes (command b)) behind)

-- What a file gives: a file is accepted when no ground of its author applies
unfoldable pub read_file : List ℕ → Reading
read_file file = read_from nothing_read 0 0 file

-- An answer of any call as the paper has it: its values in the paper's order, or the number and place of the refusal
pub data Outcome : Type 0 where
  values : List ℕ → Outcome
  refusal : (number place : ℕ) → Outcome

-- The read call's answer: the numbers of lines, served stops and calls, and the common cycle; or the refusal
unfoldable pub read_answer : Result Accepted Refusal → Outcome
read_answer (Ok a) = values (a.lines ∷ a.stops ∷ a.calls ∷ a.cycle ∷ [])
read_answer (Err r) = refusal (number_of r.reason) r.place

-- What the read call has to answer
unfoldable pub read_outcome : Reading → Outcome
read_outcome (accepted n) = values (length n.periods ∷ served_stops n ∷ length n.calls ∷ cycle n ∷ [])
read_outcome (refused number place) = refusal number place
