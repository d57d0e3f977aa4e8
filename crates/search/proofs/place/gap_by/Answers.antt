-- `search::place::gap_by` meets its contract: the formula of theorem 3.1.2, its difference made a natural number by a multiple of the
-- divisor, and the whole part that a remainder leaves out found by the law of the reciprocal. Assumes nothing.
use Prim.Native.Nat.{ℕ, ◌+◌, ◌*◌, ◌-◌, ◌/◌, ◌%◌, ◌<◌, ◌≤◌, min}
use mathlib.Core.Path.{◌≡◌, sym, ap, ◌∙◌}
use native.Mathlib.Nat.{mod-lt, mod-add-div', mul-le-mul, mul-le-mul_right}
use native.Mathlib.Decide.{dec_lt}
use native.Mathlib.Omega.{arith}
use lib.IntN.{pos, ◌-ℤ◌}
use Rattle.network.specs.Gap as gaps
use Rattle.network.proofs.Laws.Gaps.{fold_is}
use Rattle.search.proofs.Laws.CallRows.{residue_of_difference}
use Rattle.search.proofs.Laws.Reciprocal.{div_by_reciprocal}
use Rattle.search.proofs.place.gap_by.Goals as goal
use Rattle.search.proofs.place.gap_by.Goals.{Start}

module _ (s : Start) where
  abbrev g : ℕ
  g = s.args.divisor

  abbrev apart : ℕ
  apart = s.args.earlier + g * 67000 - s.args.later

  abbrev times : ℕ
  times = (apart * s.args.reciprocal) / 1099511627776

  apart_low : apart < 67000 + g * 67000
  apart_low = omega (arith, s.requires.earlier_lt_arrival_limit.0)

  product_low : apart * g < 1099511627776
  product_low = omega (arith, mul-le-mul {n₁ = apart} {m₁ = g} {n₂ = 96547000} {m₂ = 1440} (omega (arith, apart_low, s.requires.divisor_nonzero.1)) s.requires.divisor_nonzero.1)

  times_is : times ≡ apart / g
  times_is = ap (λ (m : ℕ). (apart * m) / 1099511627776) s.requires.divisor_nonzero.2 ∙ div_by_reciprocal g apart s.requires.divisor_nonzero.0 product_low

  parts : apart % g + times * g ≡ apart
  parts = ap (λ (q : ℕ). apart % g + q * g) times_is ∙ mod-add-div' apart g

  times_few : times < 134000
  times_few = go (dec_lt times 134000)
    where
      go : Dec (times < 134000) → times < 134000
      go (yes h) = h
      go (no h) =
          let many : 134000 ≤ times = omega (arith, h) in
          absurd (omega (arith, mul-le-mul_right g many, parts, apart_low, s.requires.divisor_nonzero.0))

  reduced_is : apart - times * g ≡ apart % g
  reduced_is = omega (arith, parts)

  below : apart - times * g < g
  below = rw reduced_is (mod-lt apart s.requires.divisor_nonzero.0)

  reduced_residue : apart - times * g ≡ gaps.residue (pos s.args.earlier -ℤ pos s.args.later) g
  reduced_residue = reduced_is ∙ residue_of_difference g s.args.earlier s.args.later 67000 (omega (arith, s.requires.divisor_nonzero.0, s.requires.earlier_lt_arrival_limit.1))

pub overflow_mul-times : goal.overflow_mul-times
overflow_mul-times c = omega (arith, times_few c)

pub overflow_cast-d : goal.overflow_cast-d
overflow_cast-d c = omega (arith, times_few c)

pub overflow_mul-d : goal.overflow_mul-d
overflow_mul-d c = omega (arith, parts c, apart_low c, c.requires.divisor_nonzero.1)

pub overflow_sub-d : goal.overflow_sub-d
overflow_sub-d c = omega (arith, parts c)

pub overflow_sub-divisor : goal.overflow_sub-divisor
overflow_sub-divisor c = omega (arith, below c)

pub overflow_sub-result : goal.overflow_sub-result
overflow_sub-result c = omega (arith, below (goal.at.overflow_sub-result c).Start)

pub returns-then-d-divisor : goal.returns-then-d-divisor
returns-then-d-divisor c =
    let u = (goal.at.returns-then-d-divisor c).Start in
    let d = apart u - times u * g u in
    let lesser : d ≡ min d (g u - d) = omega arith in
    lesser ∙ ap (λ (d : ℕ). min d (g u - d)) (reduced_residue u) ∙ sym (fold_is (g u) _)

pub returns-else-d-divisor : goal.returns-else-d-divisor
returns-else-d-divisor c =
    let u = (goal.at.returns-else-d-divisor c).Start in
    let d = apart u - times u * g u in
    let lesser : g u - d ≡ min d (g u - d) = omega arith in
    lesser ∙ ap (λ (d : ℕ). min d (g u - d)) (reduced_residue u) ∙ sym (fold_is (g u) _)
