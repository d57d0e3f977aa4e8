-- `network::timetable::Timetable::list` meets its contract: what is counted is the board's length, and where both rows have room for it, each minute's arrivals are
-- written behind those before. The loop's invariant: so many minutes are listed. Assumes nothing.
use Prim.Native.Nat.{ℕ}
use mathlib.Core.Path.{◌≡◌, ap, ap₂, subst, ◌∙◌}
use mathlib.Core.List.{List, ◌++◌}
use native.Mathlib.Nat.{le_antisymm}
use native.Mathlib.Omega.{arith}
use lib.IntN.{ℤ}
use lib.ListN.{length, drop}
use mir.Syntax.{w32, w64}
use mir.Val.{to_z, of_z}
use mir.Facts.{to_z-of_z}
use Rattle.std.specs.Prelude.{Ok, Err}
use Rattle.network.specs.declared.grounds.Ground.TheVariants.{BoardRowTooShort}
use Rattle.network.specs.Network.{Net}
use Rattle.network.specs.Numbers.{by_ground}
use Rattle.network.specs.Board.{Arrival, window, board_from, board, times, lines}
use Rattle.network.specs.Engine.Due.{due_in, listed_in}
use Rattle.network.specs.Engine.Stored.{net_of}
use Rattle.network.proofs.Laws.Alike.{ordered_period_pos}
use Rattle.network.proofs.Laws.Due.{arrivals_counted, ready_within}
use Rattle.network.proofs.Laws.Listed.{listed_none, listed_next, room_for_minute, Answered, short_of_times, short_of_lines, room_for_both}
use Rattle.network.proofs.timetable.Timetable.list.Goals as goal
use Rattle.network.proofs.timetable.Timetable.list.Goals.{After-arrivals-total}

-- Once the arrivals are counted: so many has the board
module _ (k : After-arrivals-total) where
  abbrev n : Net
  n = net_of k.args.self.now.network.now.rows

  abbrev sheet : List ℤ
  sheet = k.args.self.now.starts.now

  abbrev from : ℤ
  from = to_z w32 (of_z w32 k.args.from)

  abbrev list : List Arrival
  list = board_from n sheet k.args.stop from k.args.minutes

  list_is : list ≡ board n sheet (window k.args.stop k.args.from k.args.minutes)
  unfolding board
  list_is = ap (λ (x : ℤ). board_from n sheet k.args.stop x k.args.minutes) (to_z-of_z k.ranges.from)

  total_is : k.arrivals-total.result ≡ length list
  total_is =
      k.arrivals-total.ensures
      ∙ arrivals_counted n k.args.stop sheet from (ordered_period_pos k.args.self.now.network.now.valid k.args.stop) k.due_before-due.ensures k.args.minutes

pub arrivals-total-requires : goal.arrivals-total-requires
arrivals-total-requires c = (ready_within c.args.self.now.network.now.valid c.due_before-due.ensures, c.requires.1)

pub returns-then-time_row-total : goal.returns-then-time_row-total
returns-then-time_row-total c =
    let u = (goal.at.returns-then-time_row-total c).After-arrivals-total in
    let times_before = c.args.time_row.now in
    let lines_before = c.args.line_row.now in
    let told = subst (λ (l : List Arrival). Answered (n u) l times_before lines_before (Err (by_ground BoardRowTooShort 0)) times_before lines_before) (list_is u)
    (short_of_times (n u) (list u) times_before lines_before (omega (arith, c.if-time_row-total.true, total_is u))) in
    record { answer = rw c.at.ensures told.0; times = told.1.0; lines = told.1.1 }

pub returns-then-line_row-total : goal.returns-then-line_row-total
returns-then-line_row-total c =
    let u = (goal.at.returns-then-line_row-total c).After-arrivals-total in
    let times_before = c.args.time_row.now in
    let lines_before = c.args.line_row.now in
    let told = subst (λ (l : List Arrival). Answered (n u) l times_before lines_before (Err (by_ground BoardRowTooShort 0)) times_before lines_before) (list_is u)
    (short_of_lines (n u) (list u) times_before lines_before (omega (arith, c.if-line_row-total.true, total_is u))) in
    record { answer = rw c.at-then-line_row-total.ensures told.0; times = told.1.0; lines = told.1.1 }

pub loop-minute-init : goal.loop-minute-init
loop-minute-init c = listed_none c.due_before-due.ensures _ _

pub list_minute-at-requires : goal.list_minute-at-requires
list_minute-at-requires c =
    let u = (goal.at.list_minute-at-requires c).After-arrivals-total in
    let valid = c.args.self.now.network.now.valid in
    let listed = c.loop-minute.invariant in
    record {
      within_periods = ready_within valid listed.ready;
      count_in_bounds = room_for_minute listed c.args.minutes c.loop-minute.auto.minute-end (omega (arith, c.if-time_row-total.false, total_is u))
          (omega (arith, c.if-line_row-total.false, total_is u)) (ordered_period_pos valid c.args.stop) c.loop-minute-test.true;
    }

pub loop-minute-preserved : goal.loop-minute-preserved
loop-minute-preserved c =
    let time_is = to_z-of_z {w = w64} (record { sfits = c.minute_after.type_inv }) ∙ c.minute_after.ensures in
    let d = c.loop-minute.due in
    let told = c.list_minute-at.ensures in
    let (count_is, lines_are, periods_are) = told.calls in
    rw (count_is, lines_are, periods_are)
    (listed_next (ordered_period_pos c.args.self.now.network.now.valid c.args.stop) c.loop-minute.invariant told.next
    (told.times ∙ ap (λ (x : ℤ). listed_in c.loop-minute.time_row c.loop-minute.at (λ (j : ℕ). x) (due_in d.periods d.since) d.count) time_is) told.lines told.since.0
    told.since.1)

pub returns : goal.returns
returns c =
    let u = (goal.at.returns c).After-arrivals-total in
    let l = c.loop-minute in
    let listed = l.invariant in
    let all : l.minute ≡ c.args.minutes = le_antisymm l.auto.minute-end c.loop-minute-test.false in
    let end : l.at ≡ length (list u) = listed.at_is ∙ ap (λ (m : ℕ). length (board_from (n u) (sheet u) c.args.stop (from u) m)) all in
    let told = subst (λ (b : List Arrival). Answered (n u) b c.args.time_row.now c.args.line_row.now (Ok c.arrivals-total.result) l.time_row l.line_row) (list_is u)
    (room_for_both (n u) (list u) c.args.time_row.now c.args.line_row.now (omega (arith, c.if-time_row-total.false, total_is u))
    (omega (arith, c.if-line_row-total.false, total_is u)) (total_is u)
    (listed.times_are ∙ ap₂ (λ (m e : ℕ). times (board_from (n u) (sheet u) c.args.stop (from u) m) ++ drop e c.args.time_row.now) all end)
    (listed.lines_are ∙ ap₂ (λ (m e : ℕ). lines (n u) (board_from (n u) (sheet u) c.args.stop (from u) m) ++ drop e c.args.line_row.now) all end)) in
    record { answer = told.0; times = told.1.0; lines = told.1.1 }
