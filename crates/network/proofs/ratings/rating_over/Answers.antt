-- `network::ratings::rating_over` meets its contract. The loop's invariant: the rating is that of the stops passed, and its sum is small.
-- Assumes nothing.
use Prim.Native.Nat.{ℕ, ◌+◌, ◌*◌, ◌<◌, ◌≤◌}
use mathlib.Core.Bool.{true, false}
use mathlib.Core.Path.{◌≡◌, refl, sym, ap, ◌∙◌}
use native.Mathlib.Nat.{mul-le-mul}
use native.Mathlib.Omega.{arith}
use lib.ListN.{get_or}
use Rattle.std.proofs.Common.{Option, None, Some}
use Rattle.std.specs.Option.{unwrap_or}
use Rattle.network.specs.declared.Rating as held
use Rattle.network.specs.Rating.{Rating}
use Rattle.network.specs.Engine.Rated.{rated, ranked}
use Rattle.network.specs.Lists.{below}
use Rattle.network.specs.Engine.Scan.{rating_so_far, counted_stops, with_stop}
use Rattle.network.proofs.Laws.Scan.{counted_below, rating_counted, rating_passed, rating_of_so_far}
use Rattle.network.proofs.ratings.rating_over.Goals as goal
use Rattle.network.proofs.ratings.rating_over.Goals.{Start, else-counts-stop, then-counts-stop}

with_stop_sum : (r : Rating) (gap weight : ℕ) → (with_stop r gap weight).sum ≡ r.sum + weight * gap
unfolding with_stop
with_stop_sum r gap weight = refl

-- A stop that counts adds little to the sum
adds_little :
    (s : Start) (stop : ℕ)
    → stop < 64
    → get_or s.args.counts.now stop false ≡ true
    → get_or s.args.weights.now stop 0 * get_or s.args.gaps.now stop 0 ≤ 2880000
adds_little s stop h k = mul-le-mul (s.requires stop h k).1 (s.requires stop h k).0

pub loop-stop-init : goal.loop-stop-init
unfolding rating_so_far below
loop-stop-init c = (omega arith, refl, omega arith)

pub with_stop-requires : goal.with_stop-requires
with_stop-requires c = let l = c.loop-stop in
    omega (arith, l.invariant.2, adds_little (goal.at.with_stop-requires c).Start l.stop c.loop-stop-test.true c.if-counts-stop.true)

pub loop-stop-preserved : goal.loop-stop-preserved
loop-stop-preserved c = let l = c.loop-stop in
    let t = c.loop-stop-test.true in
    let gap : ℕ → ℕ = λ k. get_or c.args.gaps.now k 0 in (
      omega arith,
      elim c.if-counts-stop.branch [
        | then-counts-stop w ↦ ap ranked w.rating-is
            ∙ w.with_stop.ensures
            ∙ ap (λ (r : Rating). with_stop r (get_or c.args.gaps.now l.stop 0) (get_or c.args.weights.now l.stop 0)) l.invariant.1
            ∙ sym (rating_counted c.args.counts.now c.args.weights.now l.stop gap w.if-counts-stop.true)
        | else-counts-stop w ↦ ap ranked w.rating-is ∙ l.invariant.1 ∙ sym (rating_passed c.args.counts.now c.args.weights.now l.stop gap w.if-counts-stop.false)
      ],
      elim c.if-counts-stop.branch [
        | then-counts-stop w ↦ omega (
          arith,
          ap (λ (r : Rating). r.sum) (ap ranked w.rating-is ∙ w.with_stop.ensures),
          with_stop_sum (ranked l.rating) (get_or c.args.gaps.now l.stop 0) (get_or c.args.weights.now l.stop 0),
          l.invariant.2,
          adds_little (goal.at.loop-stop-preserved c).Start l.stop t w.if-counts-stop.true,
        )
        | else-counts-stop w ↦ omega (arith, ap (λ (o : Option held.Rating). (ranked o).sum) w.rating-is, l.invariant.2)
      ],
    )

-- Where no stop counts, both numbers are 0
rated_or_zeros : (o : Option held.Rating)
    → rated (unwrap_or o (record { least = 0; sum = 0 })) ≡ record { some = true; least = (ranked o).least; sum = (ranked o).sum }
rated_or_zeros None = refl
rated_or_zeros (Some r) = refl

pub returns : goal.returns
unfolding counted_stops
returns c = let at_end : c.loop-stop.stop ≡ 64 = omega arith in
    ap rated c.unwrap_or.ensures
    ∙ rated_or_zeros c.loop-stop.rating
    ∙ ap (λ (r : Rating). record { some = true; least = r.least; sum = r.sum })
    (c.loop-stop.invariant.1
    ∙ ap (λ (k : ℕ). rating_so_far (λ j. get_or c.args.gaps.now j 0) (counted_below c.args.counts.now c.args.weights.now k)) at_end)
    ∙ rating_of_so_far _ _
