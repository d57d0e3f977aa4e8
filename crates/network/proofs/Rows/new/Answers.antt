-- `network::Rows::new` meets its contract: rows of which no place counts yet. Assumes nothing.
use mathlib.Core.Path.{refl}
use native.Mathlib.Omega.{arith}
use Rattle.network.specs.Divisor.{common_cycle, cycle_from}
use Rattle.network.specs.Network.{cycle}
use Rattle.network.specs.Engine.Stored.{net_of}
use Rattle.network.proofs.Rows.new.Goals as goal

pub returns : goal.returns
unfolding net_of cycle common_cycle cycle_from
returns c = (record { periods_row = refl; list_row = refl; lines = omega arith; calls = omega arith; packs = λ i h. absurd (omega (arith, h)); cycle_is = refl; cycle_pos = omega arith; cycle_le = omega arith }, refl)
