-- `network::ratings::counted` meets its contract. The loop's invariant: of the stops passed, each that counts is flagged. Assumes nothing.
use Prim.Native.Nat.{ℕ, ◌<◌}
use mathlib.Core.Bool.{true, false}
use mathlib.Core.Path.{◌≡◌}
use lib.ListN.{length, get_or}
use Rattle.network.proofs.ratings.counted.Given as goal

abbrev pub invariant-loop-stop : goal.invariant-loop-stop
invariant-loop-stop l =
    (length l.flags ≡ 64) × ((k : ℕ) → k < l.stop → 0 < get_or l.counts k 0 → get_or l.flags k false ≡ true)
