-- `network::alike::same_remainder` meets its contract: differences of numbers of 16 bits are far from the ends of 64 bits. Assumes nothing.
use Prim.Native.Nat.{ℕ, ◌<◌}
use mathlib.Core.Path.{◌≡◌, ap, ap₂, ◌∙◌}
use native.Mathlib.Omega.{arith}
use lib.Dec.{eqb}
use lib.IntN.{ℤ, pos, ◌-ℤ◌}
use mir.Syntax.{w16, w64}
use mir.Val.{Fits, SFits, to_z, of_z}
use mir.Facts.{to_z-of_z, to_z_pos}
use Rattle.network.specs.Divisor as divisor
use Rattle.network.specs.Gap as gaps
use Rattle.network.proofs.Laws.Divisor.{gcd_pos_left}
use Rattle.network.proofs.Laws.Integers.{nat_abs_sub_le, sfits_of_nat_abs}
use Rattle.network.proofs.alike.same_remainder.Goals as goal
use Rattle.network.proofs.alike.same_remainder.Goals.{Start}

-- What the code subtracts is the difference of the two numbers
module _ (x y : ℕ) (fx : Fits w16 x) (fy : Fits w16 y) where
  fits : SFits w64 (pos x -ℤ pos y)
  fits = sfits_of_nat_abs (pos x -ℤ pos y) (omega (arith, nat_abs_sub_le (pos x) (pos y)))

  subtracted : to_z w64 x -ℤ to_z w64 y ≡ pos x -ℤ pos y
  subtracted = ap₂ ◌-ℤ◌ (to_z_pos w64 {n = x} (omega arith)) (to_z_pos w64 {n = y} (omega arith))

  subtracted_fits : SFits w64 (to_z w64 x -ℤ to_z w64 y)
  subtracted_fits = rw subtracted fits

  read : to_z w64 (of_z w64 (to_z w64 x -ℤ to_z w64 y)) ≡ pos x -ℤ pos y
  read = ap (λ (z : ℤ). to_z w64 (of_z w64 z)) subtracted ∙ to_z-of_z fits

divisor_pos : (s : Start) → 0 < divisor.gcd s.args.period s.args.other
divisor_pos s = gcd_pos_left s.args.period s.args.other s.requires

pub overflow_sub-a : goal.overflow_sub-a
overflow_sub-a c = subtracted_fits c.args.a c.args.b c.ranges.a c.ranges.b

pub residue-requires : goal.residue-requires
residue-requires c = omega (arith, c.gcd-g.ensures, divisor_pos (goal.at.residue-requires c).Start)

pub overflow_sub-c : goal.overflow_sub-c
overflow_sub-c c = subtracted_fits c.args.c c.args.d c.ranges.c c.ranges.d

pub residue-requires-2 : goal.residue-requires-2
residue-requires-2 c = omega (arith, c.gcd-g.ensures, divisor_pos (goal.at.residue-requires-2 c).Start)

pub returns : goal.returns
returns c = let g = c.gcd-g.ensures in
    ap₂ eqb
    (c.residue.ensures ∙ ap₂ gaps.residue (read c.args.a c.args.b c.ranges.a c.ranges.b) g)
    (c.residue-2.ensures ∙ ap₂ gaps.residue (read c.args.c c.args.d c.ranges.c c.ranges.d) g)
