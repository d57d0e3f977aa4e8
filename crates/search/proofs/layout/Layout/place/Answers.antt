-- `search::layout::Layout::place` meets its contract. The loop's invariant: values and rating are those after the calls passed. Assumes nothing.
use Prim.Native.Nat.{ℕ, ◌+◌, ◌-◌, ◌<◌, ◌≤◌, min}
use mathlib.Core.Path.{◌≡◌, refl, sym, ap, ap₂, subst, ◌∙◌}
use mathlib.Core.List.{List, map}
use mathlib.Core.Logic.{inl, inr}
use native.Mathlib.Nat.{le_antisymm}
use native.Mathlib.Omega.{arith}
use lib.IntN.{pos}
use lib.ListN.{length, get_or, set, length-set}
use mathlib.Core.Bool.{true}
use Rattle.network.specs.Network.{Net, is_served, max_period}
use Rattle.network.specs.Rating.{gap_of_calls}
use Rattle.network.specs.Lists.{least_from}
use Rattle.network.specs.Engine.Scan.{calls_before}
use Rattle.network.specs.Engine.Stored.{net_of}
use Rattle.network.specs.Valid.{no_call}
use Rattle.search.specs.declared.layout.Layout.{Layout}
use Rattle.search.specs.declared.Placed.{Placed}
use Rattle.search.specs.declared.Try.{Try}
use Rattle.search.specs.Engine.Layout.{by_line}
use Rattle.search.specs.Engine.Representation.{first_in, calls_by_line, lowered_at, is_short, CanPlace, starts_of, Represents}
use Rattle.search.proofs.Laws.Codes.{stop_in}
use Rattle.search.proofs.Laws.Layout.{length_by_line_le}
use Rattle.search.proofs.Laws.CallRows.{length_calls_by_line, calls_few, stop_of, stop_low}
use Rattle.search.proofs.Laws.Placing.{Lowering, lowering_first, lowering_next, lowering_last, given_up, starts_of_next, stop_served, set_low, old_le_sum, length_by_line_grows}
use Rattle.search.proofs.layout.Layout.place.Goals as goal
use Rattle.search.proofs.layout.Layout.place.Goals.{else-value-next, then-value-next}

-- The line that is placed, at its start, beside the lines before it
module _ (l : Layout) (due : Try) (p : Placed) (can : CanPlace (net_of l.network.now.rows) due.line due.start p) where
  abbrev net : Net
  net = net_of l.network.now.rows

  line_low : due.line < 16
  line_low = omega (arith, can.stated, l.holds.valid.lines)

  abbrev starts : List ℕ
  starts = set p.starts due.line due.start

  abbrev begin : ℕ
  begin = first_in (get_or l.lines due.line 0)

  abbrev end : ℕ
  end = first_in (get_or l.lines (due.line + 1) 0)

  begin_is : begin ≡ length (by_line net.calls due.line)
  begin_is = l.holds.first_of due.line (omega (arith, can.stated))

  end_is : end ≡ length (by_line net.calls (due.line + 1))
  end_is = l.holds.first_of (due.line + 1) (omega (arith, can.stated))

  end_low : end ≤ length net.calls
  end_low = rw end_is (length_by_line_le net.calls (due.line + 1))

  begin_end : begin ≤ end
  begin_end = rw (begin_is, end_is) (length_by_line_grows net.calls due.line)

  begins : Lowering net (map pos starts) p.values p.upper.least p.upper.sum begin
  begins = rw begin_is (lowering_first net l.holds.valid due.line due.start p can.stated can.before)

  starts_low : (k : ℕ) → get_or starts k 0 < max_period
  starts_low = set_low p.starts due.line due.start can.before.starts_row line_low can.start_low can.before.starts_low

  -- A call of the line that is looked at, where the values and the rating are those after the calls before it
  module _ (i : ℕ) (h : i < end) where
    abbrev stop : ℕ
    stop = stop_in (get_or l.codes i 0)

    in_file : i < length net.calls
    in_file = omega (arith, h, end_low)

    small : i < 256
    small = omega (arith, in_file, calls_few l.holds)

    in_order : i < length (calls_by_line net)
    in_order = omega (arith, in_file, length_calls_by_line l.holds)

    here : (get_or (calls_by_line net) i no_call).stop ≡ stop
    here = sym (stop_of l.holds i in_file)

    low : stop < 64
    low = rw (stop_of l.holds i in_file) (stop_low l.holds i in_file)

    served : is_served stop net.calls ≡ true
    served = rw here at (stop_served net l.holds.valid i in_order)

    module _ (next : Placed) (same : next.starts ≡ starts) (now : Lowering net (map pos starts) next.values next.upper.least next.upper.sum i) where
      old_le : get_or next.values stop 0 ≤ next.upper.sum
      old_le = old_le_sum net l.holds.valid (map pos starts) next.values next.upper.least next.upper.sum i now in_order stop here low served

      lowered_here :
          (value : ℕ)
          → value ≡ lowered_at net next.starts i (get_or next.values stop 0)
          → Lowering net (map pos starts) (set next.values stop value) (min next.upper.least value) (next.upper.sum + value - get_or next.values stop 0) (i + 1)
      lowered_here value e =
          lowering_next net l.holds.valid (map pos starts) next.values next.upper.least next.upper.sum i now in_order stop here low served value
          (e
          ∙ ap₂ (λ (st : List ℕ) (k : ℕ). least_from (get_or next.values stop 0)
          (map (λ d. gap_of_calls net (map pos st) d (get_or (calls_by_line net) i no_call)) (calls_before k (calls_by_line net) i)))
          same
          here)

pub loop-i-init : goal.loop-i-init
loop-i-init c =
    let l = c.args.self.now in
    (begin_end l c.args.due c.args.placed c.requires, refl, begins l c.args.due c.args.placed c.requires)

-- given up
pub returns-then-falls_short : goal.returns-then-falls_short
returns-then-falls_short c =
    let l = c.args.self.now in
    let can = c.requires in
    let next = c.loop-i.next in
    let short : is_short c.args.cut next.upper.least next.upper.sum ≡ true = sym c.falls_short.ensures ∙ c.if-falls_short.true in
    inr (record {
      come_to = short;
      upper =
          given_up c.args.cut (net l c.args.due c.args.placed can) l.holds.valid c.args.due.line c.args.due.start c.args.placed can.stated can.before
          next.values next.upper.least next.upper.sum c.loop-i.i c.loop-i.invariant.2
          (omega (arith, c.loop-i.invariant.0, end_is l c.args.due c.args.placed can)) short;
    })

pub bounds-self-i : goal.bounds-self-i
bounds-self-i c = small c.args.self.now c.args.due c.args.placed c.requires c.loop-i.i c.loop-i-test.true

pub lowered-value-requires-clause-at_in_bounds : goal.lowered-value-requires-clause-at_in_bounds
lowered-value-requires-clause-at_in_bounds c = in_file c.args.self.now c.args.due c.args.placed c.requires c.loop-i.i c.loop-i-test.true

pub lowered-value-requires-clause-by_index : goal.lowered-value-requires-clause-by_index
lowered-value-requires-clause-by_index c k = rw c.loop-i.invariant.1 (starts_low c.args.self.now c.args.due c.args.placed c.requires k)

pub overflow_sub-next : goal.overflow_sub-next
overflow_sub-next c =
    let l = c.args.self.now in
    let p = c.loop-i in
    omega (arith, old_le l c.args.due c.args.placed c.requires p.i c.loop-i-test.true p.next p.invariant.1 p.invariant.2)

pub loop-i-preserved : goal.loop-i-preserved
loop-i-preserved c =
    let l = c.args.self.now in
    let p = c.loop-i in
    let at = stop l c.args.due c.args.placed c.requires p.i c.loop-i-test.true in
    let value = c.lowered-value.result in
    let lowered = lowered_here l c.args.due c.args.placed c.requires p.i c.loop-i-test.true p.next p.invariant.1 p.invariant.2 value c.lowered-value.ensures in
    let Now : ℕ → Type 0 = λ v. Lowering (net l c.args.due c.args.placed c.requires) (map pos (starts l c.args.due c.args.placed c.requires))
    (set p.next.values at value) v (p.next.upper.sum + value - get_or p.next.values at 0) (p.i + 1) in (
      omega (arith, c.loop-i-test.true),
      elim c.if-value-next.branch [
        | then-value-next w ↦ ap (λ (q : Placed). q.starts) w.next-is ∙ p.invariant.1
        | else-value-next w ↦ ap (λ (q : Placed). q.starts) w.next-is ∙ p.invariant.1
      ],
      elim c.if-value-next.branch [
        | then-value-next w ↦ rw w.next-is (subst Now (omega (arith, w.if-value-next.true)) lowered)
        | else-value-next w ↦ rw w.next-is (subst Now (omega (arith, w.if-value-next.false)) lowered)
      ],
    )

pub returns : goal.returns
returns c =
    let l = c.args.self.now in
    let due = c.args.due in
    let placed = c.args.placed in
    let can = c.requires in
    let n = net l due placed can in
    let p = c.loop-i in
    let last : p.i ≡ length (by_line n.calls (due.line + 1)) = le_antisymm p.invariant.0 c.loop-i-test.false ∙ end_is l due placed can in
    inl (record {
      one_more =
          subst (λ (st : List ℕ). Represents n (due.line + 1) (record { starts = st; values = p.next.values; upper = p.next.upper }))
          (sym p.invariant.1)
          (lowering_last n l.holds.valid due.line (starts l due placed can) p.next.values p.next.upper.least p.next.upper.sum can.stated
          (length-set placed.starts _ _ ∙ can.before.starts_row) (starts_low l due placed can)
          (subst (Lowering n (map pos (starts l due placed can)) p.next.values p.next.upper.least p.next.upper.sum) last p.invariant.2));
      appended =
          ap (starts_of (due.line + 1)) p.invariant.1
          ∙ starts_of_next placed.starts due.line due.start (omega (arith, can.before.starts_row, line_low l due placed can));
    })
