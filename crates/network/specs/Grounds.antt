-- Document 01, "Grounds for refusing", the file's author, with grounds 19 to 21 of document 02, A.6: each command's grounds, in the order in which they
-- are tried.
use Rattle.std.specs.Prelude.{ℕ, ◌+◌, Bool, true, false, not, ◌||◌, List, [], ◌∷◌, ◌++◌, eqb, leb, ltb, length}
use Rattle.network.specs.Divisor.{lcm}
use Rattle.network.specs.Lists.{all_below}
use Rattle.network.specs.Network.{Net, SoFar, Command, states_line, calls_by_offset, calls_by_ride, ends, states_edition, unknown}
use Rattle.network.specs.Network.{first_edition, latest_edition, max_lines, max_period, max_cycle, max_stop, max_offset, max_calls, max_calls_at_stop}
use Rattle.network.specs.Network.{cycle, how_often_at, calls_anywhere, word, operand_bytes, line_operand, stop_operand, edition_operand, ride_offset}

-- A ground has its number, the place that a refusal names, and the test by which it applies
infix 1 ◌at◌when◌
pub data Ground : Type 0 where
  ◌at◌when◌ : ℕ → ℕ → Bool → Ground

-- Whether a ground applies: its number, and the place of the file that a refusal names
pub data Check : Type 0 where
  Passes : Check
  Refused : (number place : ℕ) → Check

-- The first ground that applies
unfoldable pub first : List Ground → Check
first [] = Passes
first ((number at place when true) ∷ gs) = Refused number place
first ((number at place when false) ∷ gs) = first gs

-- In what follows a command's byte is at place `p`, `f` is what has been read before it, and `behind` is what stands in the file behind that
-- byte.

-- The operands are cut off
unfoldable pub cut_off : Command → List ℕ → Bool
cut_off c behind = ltb (length behind) (operand_bytes c)

unfoldable pub period_out_of_range : ℕ → Bool
period_out_of_range period = ltb period 1 || ltb max_period period

unfoldable pub edition_unknown : ℕ → Bool
edition_unknown edition = ltb edition first_edition || ltb latest_edition edition

-- A line without call
unfoldable pub some_line_silent : Net → Bool
some_line_silent n = not (all_below (λ line. calls_anywhere line n.calls) (length n.periods))

-- The grounds that 43 and 46 share, where their operands aren't cut off
unfoldable pub call_grounds : SoFar → ℕ → List ℕ → List Ground
call_grounds f p behind =
    (7 at p when leb (length f.network.periods) (line_operand behind)) ∷
    (8 at p when ltb max_stop (stop_operand behind)) ∷
    (9 at p when leb max_calls_at_stop (how_often_at (line_operand behind) (stop_operand behind) f.network.calls)) ∷
    (10 at p when leb max_calls (length f.network.calls)) ∷
    []

-- The grounds of a command
unfoldable pub grounds : Command → SoFar → ℕ → List ℕ → List Ground
grounds unknown f p behind = (2 at p when true) ∷ []
grounds states_line f p behind =
    (3 at p when cut_off states_line behind) ∷
    (4 at p when leb max_lines (length f.network.periods)) ∷
    (5 at p when period_out_of_range (word behind 0)) ∷
    (6 at p when ltb max_cycle (lcm (cycle f.network) (word behind 0))) ∷
    []
grounds calls_by_offset f p behind = (3 at p when cut_off calls_by_offset behind) ∷ call_grounds f p behind
grounds calls_by_ride f p behind =
    (3 at p when cut_off calls_by_ride behind) ∷
    (19 at p when ltb first_edition f.network.edition) ∷
    call_grounds f p behind ++
    (11 at p when not (calls_anywhere (line_operand behind) f.network.calls)) ∷
    (12 at p when ltb max_offset (ride_offset f.network behind)) ∷
    []
grounds ends f p behind =
    (13 at p when eqb (length f.network.periods) 0 || some_line_silent f.network) ∷
    (14 at p + 1 when leb 1 (length behind)) ∷
    []
grounds states_edition f p behind =
    (3 at p when cut_off states_edition behind) ∷
    (20 at p when ltb 0 p) ∷
    (21 at p when edition_unknown (edition_operand behind)) ∷
    []
