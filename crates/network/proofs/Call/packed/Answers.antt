-- `network::Call::packed` meets its contract: within the limits each part stays below the unit of the next. Assumes nothing.
use mathlib.Core.Path.{refl}
use native.Mathlib.Omega.{arith}
use Rattle.network.specs.Engine.Stored.{packed}
use Rattle.network.proofs.Laws.Packed.{call_in_packed}
use Rattle.network.proofs.Call.packed.Goals as goal

pub returns : goal.returns
unfolding packed
returns c = (refl, call_in_packed c.args.self (record { line = c.requires.0; stop = c.requires.1; offset = omega (arith, c.struct_known-3-1.given) }))
