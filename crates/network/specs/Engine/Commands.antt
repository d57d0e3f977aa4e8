-- Which command of the paper the engine's is; none is an unknown one.
use Rattle.std.specs.Prelude.{Option, Some, None}
use Rattle.network.specs.declared.command.Command.{Command}
use Rattle.network.specs.declared.command.Command.TheVariants as held
use Rattle.network.specs.Network as net

unfoldable pub kind_of : Option Command → net.Command
kind_of None = net.unknown
kind_of (Some held.Line) = net.states_line
kind_of (Some held.Call) = net.calls_by_offset
kind_of (Some held.Ride) = net.calls_by_ride
kind_of (Some held.End) = net.ends
kind_of (Some held.Edition) = net.states_edition
