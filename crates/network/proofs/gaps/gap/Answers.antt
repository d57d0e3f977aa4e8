-- `network::gaps::gap` meets its contract: the formula of theorem 3.1.2, the lesser of the two by a test. Assumes nothing.
use Prim.Native.Nat.{ℕ, ◌-◌, ◌<◌, min}
use mathlib.Core.Path.{◌≡◌, ap, ap₂, ◌∙◌}
use native.Mathlib.Omega.{arith}
use lib.IntN.{ℤ, ◌-ℤ◌}
use mir.Syntax.{w64}
use mir.Val.{SFits, to_z, of_z}
use mir.Facts.{to_z-of_z}
use Rattle.network.specs.Gap as gaps
use Rattle.network.proofs.Laws.Gap.{residue_lt}
use Rattle.network.proofs.Laws.Integers.{nat_abs_sub_le, sfits_of_nat_abs}
use Rattle.network.proofs.gaps.gap.Goals as goal
use Rattle.network.proofs.gaps.gap.Goals.{After-residue-d, Start}

-- What the code subtracts is the difference of the two arrivals
module _ (s : Start) where
  abbrev difference : ℤ
  difference = s.args.a -ℤ s.args.b

  fits : SFits w64 difference
  fits = sfits_of_nat_abs difference (omega (arith, nat_abs_sub_le s.args.a s.args.b, s.requires))

  subtracted : to_z w64 (of_z w64 s.args.a) -ℤ to_z w64 (of_z w64 s.args.b) ≡ difference
  subtracted = ap₂ ◌-ℤ◌ (to_z-of_z s.ranges.a) (to_z-of_z s.ranges.b)

reduced : (c : After-residue-d) → c.residue-d.result ≡ gaps.residue (difference (goal.at.After-residue-d c).Start) c.args.g
reduced c =
    c.residue-d.ensures ∙ ap (λ (z : ℤ). gaps.residue z c.args.g) (ap (λ (z : ℤ). to_z w64 (of_z w64 z)) (subtracted (goal.at.After-residue-d c).Start) ∙ to_z-of_z (fits (goal.at.After-residue-d c).Start))

below : (c : After-residue-d) → c.residue-d.result < c.args.g
below c = omega (arith, reduced c, residue_lt (difference (goal.at.After-residue-d c).Start) c.args.g c.requires.2)

pub overflow_sub-a : goal.overflow_sub-a
overflow_sub-a c = rw (subtracted c) (fits c)

pub residue-d-requires : goal.residue-d-requires
residue-d-requires c = c.requires.2

pub overflow_sub-g : goal.overflow_sub-g
overflow_sub-g c = omega (arith, below c)

pub overflow_sub-result : goal.overflow_sub-result
overflow_sub-result c = omega (arith, below (goal.at.overflow_sub-result c).After-residue-d)

pub returns-then-d-g : goal.returns-then-d-g
unfolding gaps.fold
returns-then-d-g c = let g = c.args.g in
    let lesser : c.residue-d.result ≡ min c.residue-d.result (g - c.residue-d.result) = omega arith in
    lesser ∙ ap (λ (d : ℕ). min d (g - d)) (reduced (goal.at.returns-then-d-g c).After-residue-d)

pub returns-else-d-g : goal.returns-else-d-g
unfolding gaps.fold
returns-else-d-g c = let g = c.args.g in
    let lesser : g - c.residue-d.result ≡ min c.residue-d.result (g - c.residue-d.result) = omega arith in
    lesser ∙ ap (λ (d : ℕ). min d (g - d)) (reduced (goal.at.returns-else-d-g c).After-residue-d)
