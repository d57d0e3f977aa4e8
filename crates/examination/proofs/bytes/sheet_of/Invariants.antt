-- `examination::bytes::sheet_of` meets its contract. The loop's invariant: the places passed hold the starts that begin at every fourth byte.
-- Assumes nothing.
use Prim.Native.Nat.{ℕ, ◌*◌, ◌-◌, ◌<◌, ◌≤◌}
use mathlib.Core.Path.{◌≡◌}
use lib.IntN.{ℤ, pos}
use lib.ListN.{length, get_or}
use Rattle.examination.specs.Engine.Taken.{start_at}
use Rattle.examination.proofs.bytes.sheet_of.Given as goal

abbrev pub invariant-loop-i : goal.invariant-loop-i
invariant-loop-i l = (l.i ≤ l.count) × (length l.row ≡ 17) × ((j : ℕ) → j < l.i → ◌≡◌ {A = ℤ} (get_or l.row j (pos 0)) (start_at l.bytes (j * 4)))

abbrev pub decreases-loop-i : goal.decreases-loop-i
decreases-loop-i l = l.count - l.i
