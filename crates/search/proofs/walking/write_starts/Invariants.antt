-- `search::walking::write_starts` meets its contract. The loop's invariant: the places passed hold the starts. Assumes nothing.
use Prim.Native.Nat.{ℕ, ◌<◌}
use mathlib.Core.Path.{◌≡◌}
use lib.IntN.{ℤ, pos}
use lib.ListN.{get_or}
use Rattle.search.proofs.walking.write_starts.Given as goal

abbrev pub invariant-loop-i : goal.invariant-loop-i
invariant-loop-i l = (j : ℕ) → j < l.i → ◌≡◌ {A = ℤ} (get_or l.row j (pos 0)) (pos (get_or l.starts j 0))
