-- `search::layout::Layout::lowered` meets its contract. The loop's invariant: the least of `least` and the gaps to the calls up to `from` is that of
-- `value` and the gaps to all before. Assumes nothing.
use Prim.Native.Nat.{ℕ, ◌-◌, ◌<◌, ◌≤◌, min}
use mathlib.Core.Path.{◌≡◌, sym, ap, ◌∙◌}
use mathlib.Core.List.{List, map}
use native.Mathlib.Omega.{arith}
use lib.ListN.{length, get_or}
use Rattle.network.specs.Lists.{least_from}
use Rattle.network.specs.Network.{Net}
use Rattle.network.specs.Engine.Scan.{last_at, calls_before}
use Rattle.network.specs.Engine.Stored.{net_of}
use Rattle.network.specs.Valid.{no_call}
use Rattle.network.proofs.Laws.Least.{least_from_le}
use Rattle.network.proofs.Laws.Gaps.{last_at_le, last_at_landed, calls_before_last_at, step_back}
use Rattle.search.specs.declared.layout.Layout.{Layout}
use Rattle.search.specs.Engine.Representation.{NetworkRows, calls_by_line}
use Rattle.search.proofs.Laws.CapScan.{least_none}
use Rattle.search.proofs.Laws.Codes.{line_in}
use Rattle.search.proofs.Laws.CallRows.{length_calls_by_line, calls_few, line_row_lt_16, divisor_pos, divisor_le, reciprocal_is, gap_of_rows}
use Rattle.search.proofs.layout.Layout.lowered.Invariants.{to, Lowers}
use Rattle.search.proofs.layout.Layout.lowered.Goals as goal
use Rattle.search.proofs.layout.Layout.lowered.Goals.{In-loop-from, else-between-least, then-between-least}

least_from_zero : (v : ℕ) (xs : List ℕ) → v ≡ 0 → 0 ≡ least_from v xs
least_from_zero v xs e = omega (arith, least_from_le v xs)

-- Where the row leads from a call, it leads to the one before at its stop
module _ {n : Net} {codes previous divisors lines : List ℕ} (l : NetworkRows n codes previous divisors lines) where
  led_le : (j : ℕ) → j < length n.calls → get_or previous j 0 ≤ j
  led_le j h = omega (arith, l.leads j h, last_at_le (get_or (calls_by_line n) j no_call).stop (calls_by_line n) j)

  module _ (starts : List ℕ) (at value : ℕ) (h : at < length n.calls) where
    abbrev stop : ℕ
    stop = (get_or (calls_by_line n) at no_call).stop

    -- before the first turn
    first_turn : Lowers n starts at value (get_or previous at 0) value
    first_turn =
        record {
          from_le = led_le at h;
          least_le = omega arith;
          landed = last_at_landed (calls_by_line n) stop at (get_or previous at 0) (l.leads at h);
          lowers =
              ap (λ cs. least_from value (map (to n starts at) cs))
              (ap (calls_before stop (calls_by_line n)) (l.leads at h)
              ∙ sym (calls_before_last_at stop (calls_by_line n) at (omega (arith, h, length_calls_by_line l))));
        }

    -- one turn: from a call at the stop back to the one before
    one_turn : (from least lesser : ℕ) → 0 < from → Lowers n starts at value from least
        → lesser ≡ min least (to n starts at (get_or (calls_by_line n) (from - 1) no_call))
        → Lowers n starts at value (get_or previous (from - 1) 0) lesser
    one_turn from least lesser k now e =
        let before : from - 1 < length n.calls = omega (arith, k, h, now.from_le) in
        let back : get_or previous (from - 1) 0 ≡ last_at stop (calls_by_line n) (from - 1)
        = l.leads (from - 1) before ∙ ap (λ (t : ℕ). last_at t (calls_by_line n) (from - 1)) (now.landed k) in record {
          from_le = omega (arith, led_le (from - 1) before, now.from_le);
          least_le = omega (arith, e, now.least_le);
          landed = last_at_landed (calls_by_line n) stop (from - 1) (get_or previous (from - 1) 0) back;
          lowers =
              ap (λ (v : ℕ). least_from v (map (to n starts at) (calls_before stop (calls_by_line n) (get_or previous (from - 1) 0)))) e
              ∙ ap (λ (j : ℕ). least_from (min least (to n starts at (get_or (calls_by_line n) (from - 1) no_call))) (map (to n starts at) (calls_before stop (calls_by_line n) j))) back
              ∙ step_back (to n starts at) stop (calls_by_line n) (from - 1) least (omega (arith, before, length_calls_by_line l)) (now.landed k)
              ∙ ap (λ (j : ℕ). least_from least (map (to n starts at) (calls_before stop (calls_by_line n) j))) (omega (arith, k))
              ∙ now.lowers;
        }

-- Calls that are looked at
module _ (l : Layout) where
  abbrev net : Net
  net = net_of l.network.now.rows

  module _ (i : ℕ) (h : i < length net.calls) where
    call_small : i < 256
    call_small = omega (arith, h, calls_few l.holds)

    line_small : line_in (get_or l.codes i 0) < 16
    line_small = line_row_lt_16 l.holds i h

before_low : (t : In-loop-from) → t.loop-from.from - 1 < length (net t.args.self.now).calls
before_low t = omega (arith, t.loop-from.invariant.from_le, t.requires.at_in_bounds, t.loop-from-test.true)

pub bounds-starts-line : goal.bounds-starts-line
bounds-starts-line c = line_small c.args.self.now c.args.at c.requires.at_in_bounds

pub loop-from-init : goal.loop-from-init
loop-from-init c = first_turn c.args.self.now.holds c.args.starts.now c.args.at c.args.value c.requires.at_in_bounds

-- at 0 the rest counts for nothing
pub returns-then-least-eq0 : goal.returns-then-least-eq0
returns-then-least-eq0 c = least_from_zero _ _ c.if-least-eq0.true ∙ c.loop-from.invariant.lowers

pub bounds-self-before : goal.bounds-self-before
bounds-self-before c = call_small c.args.self.now (c.loop-from.from - 1) (before_low (goal.at.bounds-self-before c).In-loop-from)

pub bounds-self-row : goal.bounds-self-row
bounds-self-row c =
    omega (
      arith,
      line_small c.args.self.now c.args.at c.requires.at_in_bounds,
      line_small c.args.self.now (c.loop-from.from - 1) (before_low (goal.at.bounds-self-row c).In-loop-from),
    )

pub bounds-starts-other_line : goal.bounds-starts-other_line
bounds-starts-other_line c = line_small c.args.self.now (c.loop-from.from - 1) (before_low (goal.at.bounds-starts-other_line c).In-loop-from)

pub gap_by-between-requires-clause-divisor_nonzero : goal.gap_by-between-requires-clause-divisor_nonzero
gap_by-between-requires-clause-divisor_nonzero c =
    let l = c.args.self.now in
    let low = before_low (goal.at.gap_by-between-requires-clause-divisor_nonzero c).In-loop-from in (
      divisor_pos l.holds c.args.at (c.loop-from.from - 1) c.requires.at_in_bounds low,
      divisor_le l.holds c.args.at (c.loop-from.from - 1) c.requires.at_in_bounds low,
      reciprocal_is l.holds c.args.at (c.loop-from.from - 1) c.requires.at_in_bounds low,
    )

pub bounds-self-before-in-loop-from : goal.bounds-self-before-in-loop-from
bounds-self-before-in-loop-from c =
    call_small c.args.self.now (c.loop-from.from - 1) (before_low (goal.at.bounds-self-before-in-loop-from c).In-loop-from)

pub loop-from-smaller : goal.loop-from-smaller
loop-from-smaller c =
    omega (
      arith,
      led_le c.args.self.now.holds (c.loop-from.from - 1) (before_low (goal.at.loop-from-smaller c).In-loop-from),
      c.loop-from-test.true,
    )

pub loop-from-preserved : goal.loop-from-preserved
loop-from-preserved c =
    let l = c.args.self.now in
    let at_low = c.requires.at_in_bounds in
    let is = c.gap_by-between.ensures ∙ gap_of_rows l.holds c.args.at (c.loop-from.from - 1) at_low (before_low (goal.at.loop-from-preserved c).In-loop-from) c.args.starts.now in
    one_turn l.holds c.args.starts.now c.args.at c.args.value at_low c.loop-from.from c.loop-from.least c.if-between-least.least c.loop-from-test.true
    c.loop-from.invariant
    (elim c.if-between-least.branch [
      | then-between-least w ↦ omega (arith, is, w.least-is, w.if-between-least.true)
      | else-between-least w ↦ omega (arith, is, w.least-is, w.if-between-least.false)
    ])

pub returns : goal.returns
returns c =
    let n = net_of c.args.self.now.network.now.rows in
    let p = c.loop-from in
    let stop = (get_or (calls_by_line n) c.args.at no_call).stop in
    let none : 0 ≡ p.from = omega (arith, c.loop-from-test.false) in
    sym (least_none (to n c.args.starts.now c.args.at) p.least stop (calls_by_line n))
    ∙ ap (λ (k : ℕ). least_from p.least (map (to n c.args.starts.now c.args.at) (calls_before stop (calls_by_line n) k))) none
    ∙ p.invariant.lowers
