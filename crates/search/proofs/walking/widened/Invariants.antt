-- `search::walking::widened` meets its contract. The loop's invariant: the places passed hold their caps. Assumes nothing.
use Prim.Native.Nat.{ℕ, ◌<◌}
use mathlib.Core.Path.{◌≡◌}
use lib.ListN.{length, get_or}
use Rattle.search.proofs.walking.widened.Given as goal

abbrev pub invariant-loop-stop : goal.invariant-loop-stop
invariant-loop-stop l = (length l.wide ≡ 64) × ((k : ℕ) → k < l.stop → get_or l.wide k 0 ≡ get_or l.row k 0)
