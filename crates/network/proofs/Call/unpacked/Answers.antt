-- `network::Call::unpacked` meets its contract: the quotients and remainders are those of the definition. Assumes nothing.
use mathlib.Core.Path.{refl}
use Rattle.network.specs.Engine.Stored.{call_in}
use Rattle.network.proofs.Call.unpacked.Goals as goal

pub returns : goal.returns
unfolding call_in
returns c = refl
