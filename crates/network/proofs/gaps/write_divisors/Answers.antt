-- `network::gaps::write_divisors` meets its contract. The loop's invariant: the row holds the greatest common divisors of the pairs passed, in
-- both orders, which have the same divisor. Assumes nothing.
use Prim.Native.Nat.{◌+◌, ◌*◌, ◌<◌}
use mathlib.Core.Path.{◌≡◌, refl, ◌∙◌}
use mathlib.Core.Bool.{Bool, true, false}
use native.Mathlib.Omega.{arith}
use borrow.Author.Tests.{leb-true, leb-false}
use lib.Dec.{leb}
use lib.ListN.{get_or}
use Rattle.network.specs.Divisor as divisor
use Rattle.network.proofs.Laws.Divisor.{gcd_comm}
use Rattle.network.proofs.Laws.Paired.{paired_next, paired_passed}
use Rattle.network.proofs.gaps.write_divisors.Goals as goal
use Rattle.network.proofs.gaps.write_divisors.Goals.{In-loop-k, else-other-line, then-other-line}

-- Every place is one of the row
small : (t : In-loop-k) → t.loop-k.k < 256
small t = omega (arith, t.loop-k-test.true, t.loop-k.invariant.1, t.requires.0)

pub loop-k-preserved : goal.loop-k-preserved
loop-k-preserved c = let l = c.loop-k in (
  omega (arith, c.loop-k-test.true),
  l.invariant.1,
  elim c.if-other-line.branch [
    | then-other-line w ↦ rw w.row-is (paired_next _ l.row l.k _ (small (goal.at.loop-k-preserved c).In-loop-k) w.if-other-line.true w.divisor_of-g.ensures l.invariant.2)
    | else-other-line w ↦ rw w.row-is (paired_passed _ l.row l.k w.if-other-line.false l.invariant.2)
  ],
)

pub returns : goal.returns
returns c i j h l = ordered (leb j i) refl
  where
    ordered : (t : Bool) → leb j i ≡ t → get_or c.loop-k.row (i * 16 + j) 0 ≡ divisor.gcd (get_or c.args.periods.now i 0) (get_or c.args.periods.now j 0)
    ordered true e = (c.loop-k.invariant.2.both i j (omega (arith, h, c.requires.0)) (leb-true j i e) (omega (arith, h, leb-true j i e, c.loop-k-test.false, c.loop-k.invariant.1))).0
    ordered false e =
        (c.loop-k.invariant.2.both j i (omega (arith, l, c.requires.0)) (omega (arith, leb-false j i e)) (omega (arith, l, leb-false j i e, c.loop-k-test.false, c.loop-k.invariant.1, c.requires.0))).1
        ∙ gcd_comm _ _
