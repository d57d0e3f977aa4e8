-- `network::places::StopCalls::class_of` meets its contract. The loop's invariant: no stop passed is alike. Assumes nothing.
use Prim.Native.Nat.{ℕ, ◌<◌}
use mathlib.Core.Path.{◌≡◌}
use mathlib.Core.Bool.{false}
use Rattle.network.specs.Classes.{is_alike}
use Rattle.network.specs.Engine.Stored.{net_of}
use Rattle.network.proofs.places.StopCalls.class_of.Given as goal

abbrev pub invariant-loop-other : goal.invariant-loop-other
invariant-loop-other l = (i : ℕ) → i < l.other → is_alike (net_of l.self.network.now.rows) i l.stop ≡ false
