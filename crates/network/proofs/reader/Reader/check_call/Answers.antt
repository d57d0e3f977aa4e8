-- `network::reader::Reader::check_call` meets its contract: at each return the tests that led there say which ground applies first.
-- Assumes nothing.
use Prim.Native.Nat.{ℕ, ◌*◌, ◌+◌, ◌<◌, ◌≤◌}
use mathlib.Core.Path.{◌≡◌, sym, ap, ◌∙◌}
use native.Mathlib.Omega.{arith}
use borrow.Author.Tests.{lt-ltb, le-ltb, le-leb, lt-leb}
use lib.Dec.{leb}
use lib.ListN.{get_or}
use Rattle.network.specs.declared.reader.Reader.{Reader}
use Rattle.network.specs.Network.{max_lines, max_stop, max_calls, max_calls_at_stop, how_often_at, line_operand, stop_operand}
use Rattle.network.specs.Numbers.{number_of}
use Rattle.network.specs.Grounds.{call_grounds}
use Rattle.network.specs.Engine.Stored.{net_of, check_of, HasTotals}
use Rattle.network.proofs.Laws.Grounds.{first_none, first_hit, first_miss}
use Rattle.network.proofs.Laws.Stored.{has_totals}
use Rattle.network.proofs.reader.Reader.check_call.Goals as goal

-- The table's number for the line at the stop says whether ground 9 applies
counted : (r : Reader) (line stop count : ℕ) → line < r.rows.lines → stop ≤ max_stop → count ≡ get_or r.often (stop * max_lines + line) 0
    → leb max_calls_at_stop (how_often_at line stop (net_of r.rows).calls) ≡ leb max_calls_at_stop count
counted r line stop count h k e =
    ap (leb max_calls_at_stop) (sym (e ∙ r.in_step.often_is line stop (omega (arith, h, r.in_step.sound.lines)) k))

totals : (r : Reader) → HasTotals (net_of r.rows) r.rows
totals r = has_totals r.rows r.in_step.sound

pub returns-then-self-line-clause-value : goal.returns-then-self-line-clause-value
unfolding check_of number_of call_grounds line_operand stop_operand
returns-then-self-line-clause-value c =
    let b = c.args.behind.now in
    let h = totals c.args.self.now in
    rw c.at.ensures (sym (first_hit _ _ _ _ (le-leb _ (get_or b 0 0) (omega (arith, h.lines)))))

pub returns-then-stop-gt-MAX_STOP-clause-value : goal.returns-then-stop-gt-MAX_STOP-clause-value
unfolding check_of number_of call_grounds line_operand stop_operand
returns-then-stop-gt-MAX_STOP-clause-value c =
    let b = c.args.behind.now in
    let h = totals c.args.self.now in
    rw c.at-then-stop-gt-MAX_STOP.ensures
    (sym
    (first_miss _ _ _ _ (lt-leb _ (get_or b 0 0) (omega (arith, h.lines)))
    ∙ first_hit _ _ _ _ (lt-ltb max_stop (get_or b 1 0) (omega arith))))

pub returns-then-often_at-ge-MAX_CALLS_AT_STOP-clause-value :
    goal.returns-then-often_at-ge-MAX_CALLS_AT_STOP-clause-value
unfolding check_of number_of call_grounds line_operand stop_operand
returns-then-often_at-ge-MAX_CALLS_AT_STOP-clause-value c =
    let b = c.args.behind.now in
    let h = totals c.args.self.now in
    rw c.at-then-often_at-ge-MAX_CALLS_AT_STOP.ensures
    (sym
    (first_miss _ _ _ _ (lt-leb _ (get_or b 0 0) (omega (arith, h.lines)))
    ∙ first_miss _ _ _ _ (le-ltb max_stop (get_or b 1 0) (omega arith))
    ∙ first_hit _ _ _ _ (counted c.args.self.now (get_or b 0 0) (get_or b 1 0) c.often_at.result (omega arith) (omega arith) c.often_at.ensures ∙ le-leb max_calls_at_stop c.often_at.result (omega arith))))

pub returns-then-self-ge-MAX_CALLS-clause-value : goal.returns-then-self-ge-MAX_CALLS-clause-value
unfolding check_of number_of call_grounds line_operand stop_operand
returns-then-self-ge-MAX_CALLS-clause-value c =
    let b = c.args.behind.now in
    let h = totals c.args.self.now in
    rw c.at-then-self-ge-MAX_CALLS.ensures
    (sym
    (first_miss _ _ _ _ (lt-leb _ (get_or b 0 0) (omega (arith, h.lines)))
    ∙ first_miss _ _ _ _ (le-ltb max_stop (get_or b 1 0) (omega arith))
    ∙ first_miss _ _ _ _ (counted c.args.self.now (get_or b 0 0) (get_or b 1 0) c.often_at.result (omega arith) (omega arith) c.often_at.ensures ∙ lt-leb max_calls_at_stop c.often_at.result (omega (arith, c.if-often_at-ge-MAX_CALLS_AT_STOP.false)))
    ∙ first_hit _ _ _ _ (le-leb max_calls _ (omega (arith, h.calls)))))

pub returns-clause-value : goal.returns-clause-value
unfolding check_of call_grounds line_operand stop_operand
returns-clause-value c =
    let b = c.args.behind.now in
    let h = totals c.args.self.now in
    sym
    (first_miss _ _ _ _ (lt-leb _ (get_or b 0 0) (omega (arith, h.lines)))
    ∙ first_miss _ _ _ _ (le-ltb max_stop (get_or b 1 0) (omega arith))
    ∙ first_miss _ _ _ _ (counted c.args.self.now (get_or b 0 0) (get_or b 1 0) c.often_at.result (omega arith) (omega arith) c.often_at.ensures ∙ lt-leb max_calls_at_stop c.often_at.result (omega (arith, c.if-often_at-ge-MAX_CALLS_AT_STOP.false)))
    ∙ first_miss _ _ _ _ (lt-leb max_calls _ (omega (arith, h.calls)))
    ∙ first_none)
