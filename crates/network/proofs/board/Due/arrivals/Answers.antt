-- `network::board::Due::arrivals` meets its contract: of the calls gone over, each has no more arrivals than minutes and its period together. Assumes
-- nothing.
use Prim.Native.Nat.{ℕ, zero, suc, ◌+◌, ◌*◌, ◌/◌, ◌<◌, ◌≤◌}
use mathlib.Core.Path.{◌≡◌, refl, sym, ap, ap₂, ◌∙◌}
use mathlib.Core.List.{List}
use native.Mathlib.Nat.{div-le_self}
use native.Mathlib.Numerals.{add-one}
use native.Mathlib.Omega.{arith}
use lib.ListN.{length, get_or, take}
use lib.Seq.{length-take-le, get_or-take, take-length}
use Rattle.std.specs.List.{zip, sum_by}
use Rattle.std.proofs.Common.{rules, tests, Iter}
use Rattle.std.specs.declared.iter.Zip.{Zip}
use Rattle.std.specs.Slice.Iter.{iter_rest}
use Rattle.std.specs.Iterator.Adapters.{zip_first, zip_second}
use Rattle.std.proofs.lemmas.Fn.{fronts}
use Rattle.std.proofs.lemmas.List.{get_or_default}
use Rattle.std.proofs.lemmas.List.Sums.{sum_by_more}
use Rattle.std.proofs.lemmas.Slice.Zip.{get_or-zip, length-zip}
use Rattle.std.proofs.lemmas.Iterator.{YieldsList, YieldsList-from_slice, YieldsList-from_zip, YieldsList-from_map, zips}
use Rattle.std.proofs.lemmas.Iterator.Adapters.{serves_from_places}
use Rattle.std.proofs.lemmas.Iterator.Consumers.{sum_by_from_yields_List, fits_by_from_yields_list}
use Rattle.network.specs.Engine.Due.{arrivals_in, WithinPeriods}
use Rattle.network.proofs.board.Due.arrivals.Goals as goal

-- The rows of so many calls, side by side
abbrev rows : ℕ → List ℕ → List ℕ → List (ℕ × ℕ)
rows count periods since = zip (take count since) periods

-- The arrivals of a call by its two numbers
abbrev arrivals : ℕ → ℕ × ℕ → ℕ
arrivals minutes r = (minutes + r.0) / r.1

module _ (count : ℕ) (periods since : List ℕ) (minutes : ℕ) (within : WithinPeriods count periods since) (long : length periods ≡ 32) (few : minutes ≤ 10080) where
  long_since : length (take count since) ≡ count
  long_since = length-take-le count since (omega (arith, within.few, within.since_row))

  length_rows : length (rows count periods since) ≡ count
  length_rows = omega (arith, length-zip (take count since) periods, long_since, long, within.few)

  row_is : (j : ℕ) (d : ℕ × ℕ) → j < count → get_or (rows count periods since) j d ≡ (get_or since j d.0, get_or periods j d.1)
  row_is j d low =
      get_or-zip (take count since) periods j d (omega (arith, low, long_since)) (omega (arith, low, long, within.few))
      ∙ ap (λ (a : ℕ). (a, get_or periods j d.1)) (get_or-take count since j d.0 low)

  summed : (j : ℕ) → j ≤ count → (sum_by (arrivals minutes) (take j (rows count periods since)) ≡ arrivals_in periods since minutes j) × (arrivals_in periods since minutes j ≤ j * 12000)
  unfolding arrivals_in
  summed zero low = (refl, omega arith)
  summed (suc j) low =
      let before = summed j (omega arith) in
      let passed = minutes + get_or since j 0 in
      let here : passed < 12000 = omega (arith, within.since_low j low, within.period_low j low, few) in (
        sym (ap (λ (k : ℕ). sum_by (arrivals minutes) (take k (rows count periods since))) (add-one j))
            ∙ sum_by_more (arrivals minutes) (rows count periods since) j (0, 0) (omega (arith, low, length_rows))
            ∙ ap₂ ◌+◌ before.0 (ap (arrivals minutes) (row_is j (0, 0) low)),
        omega (arith, before.1, here, div-le_self passed (get_or periods j 0)),
      )

  all_summed : sum_by (arrivals minutes) (rows count periods since) ≡ arrivals_in periods since minutes count
  all_summed = sym (ap (sum_by (arrivals minutes)) (ap (λ (k : ℕ). take k (rows count periods since)) (sym length_rows) ∙ take-length (rows count periods since))) ∙ (summed count (omega arith)).0

  fits : sum_by (arrivals minutes) (rows count periods since) < 4294967296
  fits = omega (arith, all_summed, (summed count (omega arith)).1, within.few)

-- The iterator over two rows gives their numbers, two by two
side_by_side : {s : Zip (Iter ℕ) (Iter ℕ)} (xs ys : List ℕ) → iter_rest (zip_first s) ≡ xs → iter_rest (zip_second s) ≡ ys
    → YieldsList (zips fronts fronts) (λ p. (p.0.now, p.1.now)) s (zip xs ys)
side_by_side xs ys first second = YieldsList-from_zip (YieldsList-from_slice xs first) (YieldsList-from_slice ys second)

-- Each of them is of a call: its number of minutes is small, and its period is not 0
module _ (count : ℕ) (periods since : List ℕ) (minutes : ℕ) (within : WithinPeriods count periods since) (long : length periods ≡ 32) (few : minutes ≤ 10080) where
  of_call : (a b j : ℕ) → j < length (rows count periods since) → ◌≡◌ {A = ℕ × ℕ} (a, b) (get_or (rows count periods since) j (a, b)) → (minutes + a < 4294967296) × (0 < b)
  of_call a b j l e =
      let low : j < count = omega (arith, l, length_rows count periods since minutes within long few) in
      let is = e ∙ row_is count periods since minutes within long few j (a, b) low in
      let first : a ≡ get_or since j 0 = ap (λ (r : ℕ × ℕ). r.0) is ∙ get_or_default since j a 0 (omega (arith, low, within.few, within.since_row)) in
      let second : b ≡ get_or periods j 0 = ap (λ (r : ℕ × ℕ). r.1) is ∙ get_or_default periods j b 0 (omega (arith, low, within.few, long)) in
      (omega (arith, first, few, within.since_low j low, within.period_low j low), omega (arith, second, within.since_low j low))

pub sum-requires-clause-can : goal.sum-requires-clause-can
sum-requires-clause-can c =
    let s = c.args.self.now in (
      (tt, tt),
      serves_from_places (side_by_side (take s.count s.since) s.periods (cc) (cc)) (λ x q h. search rules)
          (λ x k low at.
          let call = of_call s.count s.periods s.since c.args.minutes c.requires.0 (omega arith) c.requires.1 x.0.now x.1.now k low at in
          let captured : c.map.result.f.0.now ≡ c.args.minutes = search (rules, c.map.ensures.closure) in
          (λ _ _ _ _ _ _ _. omega (arith, call.0, captured), λ _ _ _ _ _ _ _ _. call.1)),
    )

pub sum-requires-clause-fits : goal.sum-requires-clause-fits
sum-requires-clause-fits c =
    let s = c.args.self.now in
    fits_by_from_yields_list (arrivals c.args.minutes) (rows s.count s.periods s.since) c.map.result 4294967296
    (YieldsList-from_map _ (arrivals c.args.minutes) (side_by_side (take s.count s.since) s.periods (cc) (cc)) c.map.ensures.closure (λ x r q k. search (rules, tests)))
    (fits s.count s.periods s.since c.args.minutes c.requires.0 (omega arith) c.requires.1)

pub returns : goal.returns
returns c =
    let s = c.args.self.now in
    sum_by_from_yields_List (arrivals c.args.minutes) (rows s.count s.periods s.since) c.map.result c.sum.result c.sum.ensures.ran
    (YieldsList-from_map _ (arrivals c.args.minutes) (side_by_side (take s.count s.since) s.periods (cc) (cc)) c.map.ensures.closure (λ x r q k. search (rules, tests)))
    ∙ all_summed s.count s.periods s.since c.args.minutes c.requires.0 (omega arith) c.requires.1
