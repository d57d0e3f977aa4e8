-- `network::ratings::served_stops` meets its contract. The loop's invariant: the row flags the stops of the calls passed. Assumes nothing.
use Prim.Native.Nat.{ℕ, ◌<◌}
use mathlib.Core.Bool.{false}
use mathlib.Core.Path.{◌≡◌}
use lib.ListN.{length, get_or, take}
use Rattle.network.specs.Network.{is_served}
use Rattle.network.specs.Engine.Stored.{calls_in}
use Rattle.network.proofs.ratings.served_stops.Given as goal

abbrev pub invariant-loop-code : goal.invariant-loop-code
invariant-loop-code l =
    (length l.row ≡ 64)
    × ((stop : ℕ) → stop < 64 → get_or l.row stop false ≡ is_served stop (take l.code-index (calls_in l.code-items)))
