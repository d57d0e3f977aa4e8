-- Laws of the unknown commands, of how often a line calls at a stop, and of the common cycle and the latest offset where one line or call more is read. Assumes nothing.
use Prim.Native.Nat.{ℕ}
use mathlib.Core.Path.{◌≡◌, refl}
use mathlib.Core.Bool.{Bool, true, false}
use mathlib.Core.List.{List, [], ◌∷◌, ◌++◌}
use borrow.Author.Tests.{ne_eqb}
use lib.Dec.{eqb}
use Rattle.network.specs.declared.Call.{Call}
use Rattle.network.specs.Lists.{pick}
use Rattle.network.specs.Divisor.{lcm}
use Rattle.network.specs.Network.{Net, ends, unknown, command, operand_bytes, cycle, with_line, latest_offset}
use Rattle.network.proofs.Laws.Divisor.{common_cycle_snoc}

-- A byte that is no command with operands
module _ (b : ℕ) (not_line : b ≡ 0x4C → ⊥) (not_call : b ≡ 0x43 → ⊥) (not_ride : b ≡ 0x46 → ⊥) (not_edition : b ≡ 0x56 → ⊥) where
  pub command_unknown : (b ≡ 0x45 → ⊥) → command b ≡ unknown
  unfolding command
  command_unknown f =
      rw (ne_eqb b 0x4C not_line, ne_eqb b 0x43 not_call, ne_eqb b 0x46 not_ride, ne_eqb b 0x45 f, ne_eqb b 0x56 not_edition)

  -- neither 45 nor an unknown command has operands
  pub operand_bytes_others : operand_bytes (command b) ≡ 0
  unfolding command operand_bytes
  operand_bytes_others =
      rw (ne_eqb b 0x4C not_line, ne_eqb b 0x43 not_call, ne_eqb b 0x46 not_ride, ne_eqb b 0x56 not_edition) (go (eqb b 0x45))
    where
      go : (t : Bool) → operand_bytes (pick t ends unknown) ≡ 0
      go true = refl
      go false = refl

-- The common cycle with one line more
pub cycle_with_line : (n : Net) (period : ℕ) → cycle (with_line n period) ≡ lcm (cycle n) period
unfolding cycle with_line
cycle_with_line n period = common_cycle_snoc n.periods period

pub latest_append : (line before : ℕ) (xs ys : List Call) → latest_offset line before (xs ++ ys) ≡ latest_offset line (latest_offset line before xs) ys
unfolding latest_offset
latest_append line before [] ys = refl
latest_append line before (x ∷ xs) ys = latest_append line (pick (eqb x.line line) x.offset before) xs ys
