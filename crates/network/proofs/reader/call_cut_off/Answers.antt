-- `network::reader::call_cut_off` meets its contract: a call has four bytes of operands. Assumes nothing.
use mathlib.Core.Path.{refl}
use Rattle.network.specs.Network.{operand_bytes}
use Rattle.network.specs.Grounds.{cut_off}
use Rattle.network.proofs.reader.call_cut_off.Goals as goal

pub returns : goal.returns
unfolding cut_off operand_bytes
returns c = refl
