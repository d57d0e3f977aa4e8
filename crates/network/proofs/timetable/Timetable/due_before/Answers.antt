-- `network::timetable::Timetable::due_before` meets its contract. The loop's invariant: the rows hold what is known of the calls passed. Assumes nothing.
use Prim.Native.Nat.{ℕ, ◌+◌, ◌*◌, ◌<◌, ◌≤◌}
use mathlib.Core.Path.{◌≡◌, ap, ap₂, subst, ◌∙◌}
use native.Mathlib.Nat.{le_antisymm}
use native.Mathlib.Omega.{arith}
use lib.IntN.{ℤ, pos, ◌+ℤ◌, ◌-ℤ◌}
use lib.ListN.{length, get_or}
use borrow.Author.Rules.{rules}
use mir.Syntax.{w32}
use mir.Val.{to_z, of_z}
use mir.Facts.{to_z-of_z}
use Rattle.network.specs.declared.Call.{Call}
use Rattle.network.specs.declared.Network.{Network}
use Rattle.network.specs.declared.places.StopCalls.{StopCalls}
use Rattle.network.specs.Network.{Net}
use Rattle.network.specs.Gap.{residue}
use Rattle.network.specs.Rating.{arrival_of, period_of}
use Rattle.network.specs.Classes.{ordered, ordered_call}
use Rattle.network.specs.Engine.Due.{Ready}
use Rattle.network.specs.Engine.Stored.{net_of, call_in}
use Rattle.network.proofs.Laws.Alike.{ordered_line_lt}
use Rattle.network.proofs.Laws.Filled.{filled_next}
use Rattle.network.proofs.Laws.Placed.{ordered_le_max_at_stop, period_there}
use Rattle.network.proofs.timetable.Timetable.due_before.Invariants.{since_at}
use Rattle.network.proofs.timetable.Timetable.due_before.Goals as goal
use Rattle.network.proofs.timetable.Timetable.due_before.Goals.{After-call_at-call}

-- The calls placed of a network are its calls
module _ (k : StopCalls) (w : Network) (e : k.network.now ≡ w) (stop : ℕ) (low : stop < 64) where
  count_of : get_or k.counts stop 0 ≡ length (ordered (net_of w.rows) stop)
  count_of = subst (λ (v : Network). get_or k.counts stop 0 ≡ length (ordered (net_of v.rows) stop)) e (k.counts_are stop (omega arith))

  call_of : (j : ℕ) → j < length (ordered (net_of w.rows) stop) → call_in (get_or k.codes (stop * 32 + j) 0) ≡ ordered_call (net_of w.rows) stop j
  call_of j =
      subst (λ (v : Network). j < length (ordered (net_of v.rows) stop) → call_in (get_or k.codes (stop * 32 + j) 0) ≡ ordered_call (net_of v.rows) stop j) e
      (k.codes_are stop j (omega arith))

  few : get_or k.counts stop 0 ≤ 32
  few = omega (arith, count_of, ordered_le_max_at_stop w.valid stop)

pub call_at-call-requires : goal.call_at-call-requires
call_at-call-requires c =
    let k = c.place_calls-placed in
    (c.requires, omega (arith, c.loop-j-test.true, few k.result c.args.self.now.network.now k.ensures c.args.stop c.requires))

-- At a turn of the loop: the call that is looked at
module _ (t : After-call_at-call) where
  abbrev network : Network
  network = t.args.self.now.network.now

  abbrev n : Net
  n = net_of network.rows

  abbrev stop : ℕ
  stop = t.args.stop

  abbrev j : ℕ
  j = t.loop-j.j

  small : j < 32
  small = omega (arith, t.loop-j-test.true, few t.place_calls-placed.result network t.place_calls-placed.ensures stop t.requires)

  there : j < length (ordered n stop)
  there = omega (arith, t.loop-j-test.true, count_of t.place_calls-placed.result network t.place_calls-placed.ensures stop t.requires)

  call_is : t.call_at-call.result ≡ ordered_call n stop j
  call_is = t.call_at-call.ensures ∙ call_of t.place_calls-placed.result network t.place_calls-placed.ensures stop t.requires j there

  line_is : t.call_at-call.result.line ≡ (ordered_call n stop j).line
  line_is = ap (λ (c : Call). c.line) call_is

  period_here : (get_or network.rows.periods t.call_at-call.result.line 0 ≡ period_of n (ordered_call n stop j))
      × (0 < get_or network.rows.periods t.call_at-call.result.line 0)
      × (t.call_at-call.result.line < 16)
  period_here = period_there network.rows network.sound network.valid stop j t.call_at-call.result call_is there

  on_sheet : t.call_at-call.result.line < length t.args.self.now.starts.now
  on_sheet = omega (arith, line_is, ordered_line_lt network.valid stop j there, t.args.self.now.fits)

pub bounds-self-line : goal.bounds-self-line
bounds-self-line c = (period_here (goal.at.bounds-self-line c).After-call_at-call).2

pub bounds-lines-j : goal.bounds-lines-j
bounds-lines-j c = small (goal.at.bounds-lines-j c).After-call_at-call

pub bounds-periods-j : goal.bounds-periods-j
bounds-periods-j c = small (goal.at.bounds-periods-j c).After-call_at-call

pub bounds-self-line-in-loop-j : goal.bounds-self-line-in-loop-j
bounds-self-line-in-loop-j c = on_sheet (goal.at.bounds-self-line-in-loop-j c).After-call_at-call

pub minutes_since-requires : goal.minutes_since-requires
minutes_since-requires c = (period_here (goal.at.minutes_since-requires c).After-call_at-call).1

pub bounds-since-j : goal.bounds-since-j
bounds-since-j c = small (goal.at.bounds-since-j c).After-call_at-call

pub loop-j-preserved : goal.loop-j-preserved
unfolding arrival_of
loop-j-preserved c =
    let u = (goal.at.loop-j-preserved c).After-call_at-call in
    let inv = c.loop-j.invariant in
    let start : to_z w32 (of_z w32 (get_or c.args.self.now.starts.now c.call_at-call.result.line (pos 0))) ≡ get_or c.args.self.now.starts.now c.call_at-call.result.line (pos 0) =
    to_z-of_z {w = w32} (search rules) in
    let since : c.minutes_since.result ≡ since_at (n u) c.args.self.now.starts.now (stop u) (to_z w32 (of_z w32 c.args.from)) (j u) =
    c.minutes_since.ensures
    ∙ ap₂ (λ (a : ℤ) (t : ℕ). residue (to_z w32 (of_z w32 c.args.from) -ℤ pos 1 -ℤ a) t)
    (ap₂ (λ (x : ℤ) (k : ℕ). x +ℤ pos k) (start ∙ ap (λ (l : ℕ). get_or c.args.self.now.starts.now l (pos 0)) (line_is u)) (ap (λ (d : Call). d.offset) (call_is u)))
    (period_here u).0 in (
      filled_next _ 32 _ (j u) _ (small u) (line_is u) inv.0,
      filled_next _ 32 _ (j u) _ (small u) (period_here u).0 inv.1,
      filled_next _ 32 _ (j u) _ (small u) since inv.2,
    )

pub returns : goal.returns
returns c =
    let k = c.place_calls-placed in
    let l = c.loop-j in
    let all : l.j ≡ get_or k.result.counts c.args.stop 0 = le_antisymm l.auto.j-end c.loop-j-test.false in
    subst (λ (from : ℤ). Ready (net_of c.args.self.now.network.now.rows) c.args.self.now.starts.now c.args.stop from (get_or k.result.counts c.args.stop 0) l.lines l.periods l.since) (to_z-of_z c.ranges.from)
    (record {
      since_row = l.invariant.2.row_length;
      count_is = count_of k.result c.args.self.now.network.now k.ensures c.args.stop c.requires;
      line_is = λ k h. l.invariant.0.filled k (omega (arith, h, all));
      period_is = λ k h. l.invariant.1.filled k (omega (arith, h, all));
      since_is = λ k h. l.invariant.2.filled k (omega (arith, h, all));
    })
