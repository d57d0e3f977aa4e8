-- Document 02, A.6, "Following calls retired": the edition that opens a file, the commands that reading meets, and reading as it was before A.6, which
-- knew no 56 and no ground but document 01's fourteen, 9 as A.2 has it.
use Rattle.std.specs.Prelude.{ℕ, zero, suc, ◌+◌, ◌≡◌, true, not, ◌||◌, List, [], ◌∷◌, ◌++◌, eqb, leb, ltb, length, get_or}
use Rattle.network.specs.Divisor.{lcm}
use Rattle.network.specs.Lists.{pick}
use Rattle.network.specs.Network.{SoFar, nothing_read, Command, states_line, calls_by_offset, calls_by_ride, ends, states_edition, unknown}
use Rattle.network.specs.Network.{first_edition, max_lines, max_cycle, max_offset, cycle, calls_anywhere, word, line_operand, ride_offset}
use Rattle.network.specs.Network.{with_edition, command, operand_bytes, extend}
use Rattle.network.specs.Grounds.{Ground, ◌at◌when◌, first, cut_off, period_out_of_range, some_line_silent, call_grounds}
use Rattle.network.specs.Reading.{Reading, accepted, refused, proceed}
use Rattle.network.specs.Gives.{Reached}

-- "A new command 56 with one byte, the edition, may open a file; without it the edition is 1"
unfoldable pub opening_edition : List ℕ → ℕ
opening_edition file = pick (eqb (get_or file 0 0) 0x56) (get_or file 1 0) first_edition

-- Reading a file meets a command: it comes to a place where the command's byte stands. An operand that is such a byte is not met
pub record Meets (file : List ℕ) (c : Command) : Type 0 where
  pub read_so_far : SoFar
  pub place : ℕ
  pub byte : ℕ
  pub behind : List ℕ
  pub comes_there : Reached file read_so_far place (byte ∷ behind)
  pub is_command : command byte ≡ c

-- A reading of the same bytes so many places on: a refusal names the place where they stand then
unfoldable pub moved : ℕ → Reading → Reading
moved by (accepted n) = accepted n
moved by (refused number place) = refused number (by + place)

-- A reading in another edition: the network that it gives is in that one
unfoldable pub in_edition : ℕ → Reading → Reading
in_edition edition (accepted n) = accepted (with_edition n edition)
in_edition edition (refused number place) = refused number place

-- ---- Reading before A.6: its commands and each command's grounds written out as they stood; what says nothing of 56 (`call_grounds`, `extend`,
-- `proceed`, `operand_bytes` and the tests) is today's

-- 56 was an unknown command
unfoldable pub command_before : ℕ → Command
command_before b =
    pick (eqb b 0x4C) states_line
    (pick (eqb b 0x43) calls_by_offset (pick (eqb b 0x46) calls_by_ride (pick (eqb b 0x45) ends unknown)))

-- The grounds of each command
unfoldable pub grounds_before : Command → SoFar → ℕ → List ℕ → List Ground
grounds_before states_line f p behind =
    (3 at p when cut_off states_line behind) ∷
    (4 at p when leb max_lines (length f.network.periods)) ∷
    (5 at p when period_out_of_range (word behind 0)) ∷
    (6 at p when ltb max_cycle (lcm (cycle f.network) (word behind 0))) ∷
    []
grounds_before calls_by_offset f p behind = (3 at p when cut_off calls_by_offset behind) ∷ call_grounds f p behind
grounds_before calls_by_ride f p behind =
    (3 at p when cut_off calls_by_ride behind) ∷
    call_grounds f p behind ++
    (11 at p when not (calls_anywhere (line_operand behind) f.network.calls)) ∷
    (12 at p when ltb max_offset (ride_offset f.network behind)) ∷
    []
grounds_before ends f p behind =
    (13 at p when eqb (length f.network.periods) 0 || some_line_silent f.network) ∷
    (14 at p + 1 when leb 1 (length behind)) ∷
    []
grounds_before states_edition f p behind = (2 at p when true) ∷ []
grounds_before unknown f p behind = (2 at p when true) ∷ []

-- The file from place `p` on, as by `read_from`
unfoldable pub read_from_before : SoFar → ℕ → ℕ → List ℕ → Reading
read_from_before f p operands [] = refused 1 p
read_from_before f p (suc operands) (b ∷ behind) = read_from_before f (p + 1) operands behind
read_from_before f p zero (b ∷ behind) =
    proceed (first (grounds_before (command_before b) f p behind)) (command_before b) f
    (read_from_before (extend (command_before b) f behind) (p + 1) (operand_bytes (command_before b)) behind)

-- What a file gave
unfoldable pub read_file_before : List ℕ → Reading
read_file_before file = read_from_before nothing_read 0 0 file
