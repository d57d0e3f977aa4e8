-- `network::reader::part_behind` meets its contract: all that stands behind the operands. Assumes nothing.
use Prim.Native.Nat.{ℕ}
use mathlib.Core.Path.{ap, ◌∙◌}
use lib.ListN.{drop}
use Rattle.network.proofs.Laws.Lists.{take_rest}
use Rattle.network.proofs.reader.part_behind.Goals as goal

pub returns : goal.returns
returns c = take_rest c.operand_bytes.result c.args.behind.now ∙ ap (λ (k : ℕ). drop k c.args.behind.now) c.operand_bytes.ensures
