-- `network::gaps::residue` meets its contract: of a negative number -1 - x is a natural number, of any other x itself. Assumes nothing.
use Prim.Native.Nat.{ℕ, ◌-◌, ◌%◌, ◌^◌, ◌<◌}
use mathlib.Core.Path.{◌≡◌, refl, sym, ap, subst, ◌∙◌}
use mathlib.Core.Bool.{true, false}
use native.Mathlib.Omega.{arith}
use borrow.Author.Tests.{ltb-true}
use lib.IntN.{ℤ, pos, negsuc, nat_abs, ◌-ℤ◌}
use lib.Signed.{lt_z}
use mir.Syntax.{w64}
use mir.Val.{SFits, to_z, of_z}
use mir.Facts.{to_z-of_z, to_z_pos}
use Rattle.network.specs.Gap as gaps
use Rattle.network.proofs.Laws.Lists.{zero_ne_one}
use Rattle.network.proofs.Laws.Integers.{minus_one_sub}
use Rattle.network.proofs.gaps.residue.Goals as goal
use Rattle.network.proofs.gaps.residue.Goals.{Else-x-lt0, Then-x-lt0}

-- What the test tells of a number of 64 bits, and what the code then computes with
record Negative (x : ℤ) : Type 0 where
  k : ℕ
  is : x ≡ negsuc k
  bound : k < 2 ^ 63
  moved : negsuc 0 -ℤ to_z w64 (of_z w64 x) ≡ pos k
  read : to_z w64 (of_z w64 (negsuc 0 -ℤ to_z w64 (of_z w64 x))) ≡ pos k

negative : (x : ℤ) → SFits w64 x → lt_z (to_z w64 (of_z w64 x)) (pos 0) ≡ true → Negative x
negative x f e = go x f (sym (ap (λ (z : ℤ). lt_z z (pos 0)) (to_z-of_z f)) ∙ e)
  where
    go : (y : ℤ) → SFits w64 y → lt_z y (pos 0) ≡ true → Negative y
    go (pos n) g t = absurd (omega (arith, ltb-true n 0 t))
    go (negsuc n) g t =
        let m : negsuc 0 -ℤ to_z w64 (of_z w64 (negsuc n)) ≡ pos n = ap (λ (z : ℤ). negsuc 0 -ℤ z) (to_z-of_z g) ∙ minus_one_sub n in
        record { k = n; is = refl; bound = g.sfits; moved = m; read = ap (λ (z : ℤ). to_z w64 (of_z w64 z)) m ∙ to_z_pos w64 g.sfits }

record Natural (x : ℤ) : Type 0 where
  k : ℕ
  is : x ≡ pos k
  bound : k < 2 ^ 63
  read : to_z w64 (of_z w64 x) ≡ pos k

natural : (x : ℤ) → SFits w64 x → lt_z (to_z w64 (of_z w64 x)) (pos 0) ≡ false → Natural x
natural x f e = go x f (sym (ap (λ (z : ℤ). lt_z z (pos 0)) (to_z-of_z f)) ∙ e)
  where
    go : (y : ℤ) → SFits w64 y → lt_z y (pos 0) ≡ false → Natural y
    go (pos n) g t = record { k = n; is = refl; bound = g.sfits; read = to_z-of_z g }
    go (negsuc n) g t = absurd (zero_ne_one (cc))

below_zero : (c : Then-x-lt0) → Negative c.args.x
below_zero c = negative c.args.x c.ranges.x c.if-x-lt0.true

from_zero : (c : Else-x-lt0) → Natural c.args.x
from_zero c = natural c.args.x c.ranges.x c.if-x-lt0.false

pub overflow_sub-below : goal.overflow_sub-below
overflow_sub-below c = rw (below_zero c).moved (record { sfits = (below_zero c).bound })

pub overflow_cast-below : goal.overflow_cast-below
overflow_cast-below c = rw (below_zero c).read (tt, omega (arith, (below_zero c).bound))

pub overflow_cast-above : goal.overflow_cast-above
overflow_cast-above c = rw (from_zero c).read (tt, omega (arith, (from_zero c).bound))

pub returns-then-x-lt0 : goal.returns-then-x-lt0
unfolding gaps.residue
returns-then-x-lt0 c = let b = below_zero c in
    let g = c.args.g in
    subst (λ (z : ℤ). g - 1 - nat_abs z % g ≡ gaps.residue c.args.x g) (sym b.read)
    (subst (λ (z : ℤ). g - 1 - b.k % g ≡ gaps.residue z g) (sym b.is) (omega arith))

pub returns-else-x-lt0 : goal.returns-else-x-lt0
unfolding gaps.residue
returns-else-x-lt0 c = let b = from_zero c in
    let g = c.args.g in
    subst (λ (z : ℤ). nat_abs z % g ≡ gaps.residue c.args.x g) (sym b.read)
    (subst (λ (z : ℤ). b.k % g ≡ gaps.residue z g) (sym b.is) refl)
