-- One try, and a line's starts by halves, meet their contracts, whatever the rule. What falls: the lines left, then the starts left. Assumes nothing.
use Prim.Native.Nat.{ℕ, ◌+◌, ◌<◌, ◌≤◌, ◌/◌}
use mathlib.Core.Path.{◌≡◌, sym, ◌∙◌}
use native.Mathlib.Omega.{arith}
use borrow.Author.Tests.{not-true, not-false}
use lib.ListN.{length, get_or}
use Rattle.network.specs.Engine.Stored.{net_of}
use Rattle.network.specs.Network.{max_period}
use Rattle.network.proofs.Laws.Stored.{held_lines}
use Rattle.search.specs.declared.layout.Layout.{Layout}
use Rattle.search.specs.Engine.Representation.{count_in}
use Rattle.search.specs.Search.{start_counts}
use Rattle.search.proofs.Laws.Tries.{start_counts_low, try_stopped, try_ended, try_at_budget, can_place, can_try_next, placed_of_stands, dropped_or_given_up}
use Rattle.search.proofs.Laws.Tries.{judged_next, judged_best, two_halves, none_left, one_left}
use Rattle.search.proofs.tries.+judge_try_starts.Goals as goal

-- ---- one try

pub judge-returns-then-walk-clause-tried : goal.judge-returns-then-walk-clause-tried
judge-returns-then-walk-clause-tried t c = try_stopped _ _ _ _ _ _ c.args.walk c.if-walk.true

pub judge-returns-then-has_ended-clause-tried : goal.judge-returns-then-has_ended-clause-tried
judge-returns-then-has_ended-clause-tried t c =
    try_ended _ _ _ _ _ _ c.args.walk c.if-walk.false (sym c.has_ended.ensures ∙ c.if-has_ended.true)

pub judge-returns-then-walk-task-clause-tried : goal.judge-returns-then-walk-task-clause-tried
judge-returns-then-walk-task-clause-tried t c =
    try_at_budget _ _ _ _ _ _ c.args.walk c.if-walk.false (sym c.has_ended.ensures ∙ c.if-has_ended.false) c.if-walk-task.true

pub judge-place-made-requires : goal.judge-place-made-requires
judge-place-made-requires t c = can_place c.requires.may_try _ c.requires.start_lt_max_period.0

-- The next line, where there is one: the number of its starts is in its row
next_line : (l : Layout) (line : ℕ) → line < l.network.now.rows.lines → line < length (net_of l.network.now.rows).periods
next_line l line h = rw (held_lines l.network.now.rows l.network.now.sound) h

counts : (l : Layout) (line : ℕ) → line < l.network.now.rows.lines
    → count_in (get_or l.lines line 0) ≡ get_or (start_counts (net_of l.network.now.rows).periods) line 0
counts l line h = l.holds.count_of line (next_line l line h)

few : (l : Layout) (line : ℕ) → line < l.network.now.rows.lines → count_in (get_or l.lines line 0) ≤ max_period
few l line h = rw (counts l line h) (start_counts_low (net_of l.network.now.rows) l.network.now.valid line (next_line l line h))

pub judge-overflow_cast-starts : goal.judge-overflow_cast-starts
judge-overflow_cast-starts t c = omega (arith, few c.args.layout.now (c.args.due.line + 1) c.if-line-layout.true)

pub judge-try_starts-requires : goal.judge-try_starts-requires
judge-try_starts-requires t c =
    let l = c.args.layout.now in
    let more = placed_of_stands c.args.task c.args.walk c.cut_of-cut.ensures c.place-made.ensures
    (not-true _ (sym c.stands.ensures ∙ c.if-stands.true)) in
    let count = few l (c.args.due.line + 1) c.if-line-layout.true in (
      omega (arith, c.decreases, count, c.if-line-layout.true),
      (
        can_try_next more (next_line l (c.args.due.line + 1) c.if-line-layout.true),
        (omega (arith, count), omega (arith, c.requires.start_lt_max_period.1, c.if-walk-task.false)),
      ),
    )

pub judge-returns-then-line-layout-clause-tried : goal.judge-returns-then-line-layout-clause-tried
judge-returns-then-line-layout-clause-tried t c =
    let l = c.args.layout.now in
    let stands = not-true _ (sym c.stands.ensures ∙ c.if-stands.true) in
    let more = placed_of_stands c.args.task c.args.walk c.cut_of-cut.ensures c.place-made.ensures stands in
    judged_next c.args.task more c.args.walk c.if-walk.false (sym c.has_ended.ensures ∙ c.if-has_ended.false) c.if-walk-task.false
    stands (next_line l (c.args.due.line + 1) c.if-line-layout.true)
    (count_in (get_or l.lines (c.args.due.line + 1) 0)) (counts l (c.args.due.line + 1) c.if-line-layout.true)
    c.try_starts.result
    c.try_starts.ensures.tried

pub judge-returns-then-stands-clause-tried : goal.judge-returns-then-stands-clause-tried
judge-returns-then-stands-clause-tried t c =
    let n = c.args.layout.now.network.now in
    let stands = not-true _ (sym c.stands.ensures ∙ c.if-stands.true) in
    let more = placed_of_stands c.args.task c.args.walk c.cut_of-cut.ensures c.place-made.ensures stands in
    judged_best c.args.task more c.args.walk c.if-walk.false (sym c.has_ended.ensures ∙ c.if-has_ended.false) c.if-walk-task.false
    stands c.requires.may_try.stated (rw (held_lines n.rows n.sound) c.if-line-layout.false)

pub judge-returns-clause-tried : goal.judge-returns-clause-tried
judge-returns-clause-tried t c =
    dropped_or_given_up c.args.task c.args.walk c.cut_of-cut.ensures c.if-walk.false (sym c.has_ended.ensures ∙ c.if-has_ended.false)
    c.if-walk-task.false c.place-made.ensures (not-false _ (sym c.stands.ensures ∙ c.if-stands.false))

-- ---- a line's starts

pub try_starts-returns-then-starts-eq0-clause-tried : goal.try_starts-returns-then-starts-eq0-clause-tried
try_starts-returns-then-starts-eq0-clause-tried t c =
    sym (none_left _ c.args.starts.from c.args.starts.count _ c.if-starts-eq0.true)

pub try_starts-judge-requires : goal.try_starts-judge-requires
try_starts-judge-requires t c = (
  omega (arith, c.decreases, c.if-starts-eq1.true),
  (c.requires.may_try, (omega (arith, c.requires.count_bound.0, c.if-starts-eq1.true), c.requires.count_bound.1)),
)

pub try_starts-returns-then-starts-eq1-clause-tried : goal.try_starts-returns-then-starts-eq1-clause-tried
try_starts-returns-then-starts-eq1-clause-tried t c =
    c.judge.ensures.tried ∙ sym (one_left _ c.args.starts.from c.args.starts.count _ c.if-starts-eq1.true)

pub try_starts-try_starts-next-requires : goal.try_starts-try_starts-next-requires
try_starts-try_starts-next-requires t c = (
  omega (arith, c.decreases, c.if-starts-eq0.false, c.if-starts-eq1.false),
  (c.requires.may_try, (omega (arith, c.requires.count_bound.0), c.requires.count_bound.1)),
)

pub try_starts-try_starts-requires : goal.try_starts-try_starts-requires
try_starts-try_starts-requires t c = (
  omega (arith, c.decreases, c.if-starts-eq0.false, c.if-starts-eq1.false),
  (c.requires.may_try, (omega (arith, c.requires.count_bound.0), c.try_starts-next.ensures.within)),
)

pub try_starts-returns-clause-tried : goal.try_starts-returns-clause-tried
try_starts-returns-clause-tried t c =
    two_halves _ c.args.starts.from (c.args.starts.count / 2) c.args.starts.count _ _ _ (omega arith)
    c.try_starts-next.ensures.tried c.try_starts.ensures.tried
