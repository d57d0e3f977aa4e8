-- `network::gaps::write_divisors` meets its contract. The loop's invariant: the row holds the greatest common divisors of the pairs passed, in
-- both orders, which have the same divisor. Assumes nothing.
use Prim.Native.Nat.{◌*◌, ◌-◌, ◌≤◌}
use mathlib.Core.Path.{◌≡◌}
use lib.ListN.{get_or}
use Rattle.network.specs.Divisor as divisor
use Rattle.network.proofs.Laws.Paired.{Paired}
use Rattle.network.proofs.gaps.write_divisors.Given as goal

abbrev pub invariant-loop-k : goal.invariant-loop-k
invariant-loop-k l = (l.k ≤ l.places) × (l.places ≡ l.lines * 16) × Paired (λ i j. divisor.gcd (get_or l.periods i 0) (get_or l.periods j 0)) l.row l.k

abbrev pub decreases-loop-k : goal.decreases-loop-k
decreases-loop-k l = l.places - l.k
