-- `network::places::StopCalls::same_lines` meets its contract. The loop's invariant: every place passed has the same line at both stops. Assumes nothing.
use mathlib.Core.Path.{◌≡◌}
use mathlib.Core.Bool.{true}
use Rattle.network.specs.Lists.{all_below}
use Rattle.network.specs.Engine.Placed.{same_line_in}
use Rattle.network.proofs.places.StopCalls.same_lines.Given as goal

abbrev pub invariant-loop-place : goal.invariant-loop-place
invariant-loop-place l = all_below (same_line_in l.self.codes l.first l.second) l.place ≡ true
