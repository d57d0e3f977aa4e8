-- `search::caps::pair_cap` meets its contract: offsets are far from the ends of 64 bits. Assumes nothing.
use Prim.Native.Nat.{ℕ, ◌/◌, ◌≤◌, ◌^◌}
use mathlib.Core.Path.{◌≡◌, ap, ap₂, subst, sym, ◌∙◌}
use mathlib.Core.Bool.{Bool}
use native.Mathlib.Omega.{arith}
use lib.IntN.{ℤ, pos, nat_abs, ◌-ℤ◌}
use mir.Syntax.{w16, w64}
use mir.Val.{Fits, to_z}
use mir.Facts.{to_z_pos}
use Rattle.network.specs.Divisor as divisor
use Rattle.network.specs.Gap as gaps
use Rattle.network.specs.Lists.{pick}
use Rattle.search.proofs.caps.pair_cap.Goals as goal
use Rattle.search.proofs.caps.pair_cap.Goals.{Start}

module _ (offset : ℕ) (fits : Fits w16 offset) where
  widened : to_z w64 offset ≡ pos offset
  widened = to_z_pos w64 {n = offset} (omega arith)

  small : nat_abs (to_z w64 offset) ≤ 2 ^ 32
  small = subst (λ (z : ℤ). nat_abs z ≤ 2 ^ 32) (sym widened) (omega arith)

-- The two numbers of which it gives one
apart : Start → ℤ → ℕ
apart s z = gaps.fold s.args.period (gaps.residue z s.args.period)

half : Start → ℕ
half s = divisor.gcd s.args.period s.args.other / 2

pub gap-requires : goal.gap-requires
gap-requires c = (small c.args.first c.ranges.first, small c.args.second c.ranges.second, c.requires)

pub returns-then-own : goal.returns-then-own
unfolding apart half
returns-then-own c =
    let u = (goal.at.returns-then-own c).Start in
    c.gap.ensures
    ∙ ap (apart u) (ap₂ ◌-ℤ◌ (widened c.args.first c.ranges.first) (widened c.args.second c.ranges.second))
    ∙ sym (ap (λ (t : Bool). pick t (apart u (pos c.args.first -ℤ pos c.args.second)) (half u)) c.if-own.true)

pub returns : goal.returns
unfolding apart half
returns c =
    let u = (goal.at.returns c).Start in
    ap (λ (g : ℕ). g / 2) c.gcd.ensures
    ∙ sym (ap (λ (t : Bool). pick t (apart u (pos c.args.first -ℤ pos c.args.second)) (half u)) c.if-own.false)
