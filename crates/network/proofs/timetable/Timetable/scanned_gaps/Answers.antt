-- `network::timetable::Timetable::scanned_gaps` meets its contract. The loop's invariant: the rows are those after the calls passed. Assumes nothing.
use Prim.Native.Nat.{ℕ, ◌+◌, ◌<◌, ◌≤◌}
use mathlib.Core.Path.{◌≡◌, sym, ap, subst, ◌∙◌}
use mathlib.Core.Bool.{Bool, true, false}
use mathlib.Core.List.{List, [], ◌∷◌, ◌++◌}
use native.Mathlib.Nat.{le_antisymm}
use native.Mathlib.Omega.{arith}
use lib.IntN.{ℤ}
use lib.ListN.{length, get_or, set, take}
use lib.Seq.{length-take-le, get_or-take}
use Rattle.network.specs.declared.Call.{Call}
use Rattle.network.specs.declared.Rows.{Rows}
use Rattle.network.specs.Rating.{gap_of_stop, calls_of_stop, stop_gap}
use Rattle.network.specs.Engine.Scan.{last_at, calls_before, LeadsBack, WaysBack, Beside}
use Rattle.network.specs.Engine.Stored.{net_of, call_in, calls_in, Sound}
use Rattle.network.specs.Valid.{no_call}
use Rattle.network.proofs.Laws.Packed.{call_in_row, call_in_stop}
use Rattle.network.proofs.Laws.Scan.{Scanned, scanned_none, scanned_counted, scanned_passed, last_at_le, last_at_landed, calls_before_last_at}
use Rattle.network.proofs.Laws.Stored.{length_held, held_lines, held_call_line}
use Rattle.network.proofs.timetable.Timetable.scanned_gaps.Goals as goal
use Rattle.network.proofs.timetable.Timetable.scanned_gaps.Goals.{After-unpacked-call, else-counts-stop, then-counts-stop}

-- The part of the row that is gone over has a place for each call
calls_long : (n : Rows) → Sound n → length (take n.count n.list) ≡ n.count
calls_long n sound = length-take-le n.count n.list (omega (arith, sound.calls, sound.list_row))

stop_low : (u : After-unpacked-call) → u.unpacked-call.result.stop < 64
stop_low u =
    subst (λ (k : Call). k.stop < 64) (sym u.unpacked-call.ensures)
    (omega (arith, call_in_stop (get_or (take u.args.self.now.network.now.rows.count u.args.self.now.network.now.rows.list) u.loop-i.i 0)))

-- At a turn of the loop: the call that is looked at, and the latest before it at its stop
module _ (u : After-unpacked-call) where
  abbrev n : Rows
  n = u.args.self.now.network.now.rows

  abbrev sound : Sound n
  sound = u.args.self.now.network.now.sound

  abbrev sheet : List ℤ
  sheet = u.args.self.now.starts.now

  abbrev counts : List Bool
  counts = u.args.counts.now

  abbrev held : List Call
  held = calls_in n.list

  abbrev i : ℕ
  i = u.loop-i.i

  abbrev call : Call
  call = u.unpacked-call.result

  abbrev before : ℕ
  before = get_or u.loop-i.last call.stop 0

  abbrev scanned : Scanned (net_of n) sheet held counts u.loop-i.gaps u.loop-i.last u.loop-i.previous i
  scanned = u.loop-i.invariant

  in_file : i < n.count
  in_file = omega (arith, u.loop-i-test.true, calls_long n sound)

  call_is : call ≡ get_or held i no_call
  call_is = u.unpacked-call.ensures ∙ ap call_in (get_or-take n.count n.list i 0 in_file) ∙ sym (call_in_row n.list i)

  stated : i < length held
  stated = omega (arith, in_file, sound.calls, length_held n sound)

  line_low : call.line < n.lines
  line_low = subst (λ (k : Call). k.line < n.lines) (sym call_is) (held_call_line n sound u.args.self.now.network.now.valid i in_file)

  before_is : before ≡ last_at call.stop held i
  before_is = scanned.last_is call.stop (stop_low u)

  before_le : before ≤ i
  before_le = omega (arith, before_is, last_at_le call.stop held i)

  before_same : calls_before call.stop held i ≡ calls_before call.stop held before
  before_same =
      calls_before_last_at call.stop held i (omega (arith, stated))
      ∙ ap (calls_before call.stop held) (sym before_is)

  leads_before : LeadsBack u.loop-i.previous held before
  unfolding LeadsBack
  leads_before j k = scanned.leads j (omega (arith, before_le, k))

  -- what is lent on
  ways : WaysBack n u.args.divisors.now u.loop-i.previous before
  ways = record { divisors_are = u.requires; leads = leads_before }

  beside : Beside n sheet call before
  beside =
      record {
        fits = u.args.self.now.fits;
        own_line = omega (arith, line_low, held_lines n sound);
        within = omega (arith, before_le, in_file);
        lands = last_at_landed held call.stop i before before_is;
      }

  held_low : (get_or held i no_call).stop < 64
  held_low = subst (λ (k : Call). k.stop < 64) call_is (stop_low u)

  -- the rows after this turn, where the stop of the call counts and where it doesn't
  abbrev Next : Call → List ℕ → Type 0
  Next k gaps =
      Scanned (net_of n) sheet held counts gaps (set u.loop-i.last k.stop (i + 1))
      (set u.loop-i.previous i (get_or u.loop-i.last k.stop 0)) (i + 1)

  next_counted :
      (value : ℕ)
      → value ≡ gap_of_stop (net_of n) sheet (calls_before call.stop held i ++ (call ∷ []))
      → Next call (set u.loop-i.gaps call.stop value)
  next_counted =
      let l = u.loop-i in
      subst
      (λ (k : Call). (value : ℕ) → value ≡ gap_of_stop (net_of n) sheet (calls_before k.stop held i ++ (k ∷ [])) → Next k (set l.gaps k.stop value))
      (sym call_is)
      (λ value v.
      scanned_counted (net_of n) sheet held counts l.gaps l.last l.previous i scanned (omega (arith, in_file, sound.calls)) stated held_low _ value
      (scanned.last_is _ held_low) v)

  next_passed : get_or counts call.stop false ≡ false → Next call u.loop-i.gaps
  next_passed =
      let l = u.loop-i in
      subst (λ (k : Call). get_or counts k.stop false ≡ false → Next k l.gaps) (sym call_is)
      (λ z.
      scanned_passed (net_of n) sheet held counts l.gaps l.last l.previous i scanned (omega (arith, in_file, sound.calls)) stated held_low _
      (scanned.last_is _ held_low) z)

pub loop-i-init : goal.loop-i-init
loop-i-init c = scanned_none (net_of c.args.self.now.network.now.rows) c.args.self.now.starts.now (calls_in c.args.self.now.network.now.rows.list) c.args.counts.now

pub bounds-last-stop : goal.bounds-last-stop
bounds-last-stop c = omega (arith, stop_low (goal.at.bounds-last-stop c).After-unpacked-call)

pub bounds-counts-stop : goal.bounds-counts-stop
bounds-counts-stop c = omega (arith, stop_low (goal.at.bounds-counts-stop c).After-unpacked-call)

pub bounds-gaps-stop : goal.bounds-gaps-stop
bounds-gaps-stop c = omega (arith, stop_low (goal.at.bounds-gaps-stop c).After-unpacked-call)

-- What the gap was, before this call
before_gap : (u : After-unpacked-call) → get_or u.args.counts.now u.unpacked-call.result.stop false ≡ true
    → get_or u.loop-i.gaps u.unpacked-call.result.stop 0 ≡ gap_of_stop (net_of (n u)) (sheet u) (calls_before (call u).stop (held u) (before u))
before_gap u counts = (scanned u).gaps_are (call u).stop (stop_low u) counts ∙ ap (gap_of_stop (net_of (n u)) (sheet u)) (before_same u)

pub gap_with-requires : goal.gap_with-requires
gap_with-requires c =
    let u = (goal.at.gap_with-requires c).After-unpacked-call in
    (ways u, beside u)

pub bounds-last-stop-in-loop-i : goal.bounds-last-stop-in-loop-i
bounds-last-stop-in-loop-i c = omega (arith, stop_low (goal.at.bounds-last-stop-in-loop-i c).After-unpacked-call)

pub loop-i-preserved : goal.loop-i-preserved
loop-i-preserved c =
    let u = (goal.at.loop-i-preserved c).After-unpacked-call in
    elim c.if-counts-stop.branch [
      | then-counts-stop w ↦ rw w.gaps-is
          (next_counted u w.gap_with.result
          (w.gap_with.ensures (before_gap u w.if-counts-stop.true) ∙ ap (λ (cs : List Call). gap_of_stop (net_of (n u)) (sheet u) (cs ++ (call u ∷ []))) (sym (before_same u))))
      | else-counts-stop w ↦ rw w.gaps-is (next_passed u w.if-counts-stop.false)
    ]

pub returns : goal.returns
unfolding stop_gap calls_of_stop calls_before net_of
returns c stop low counts = let n = c.args.self.now.network.now.rows in
    let long = calls_long n c.args.self.now.network.now.sound in
    c.loop-i.invariant.gaps_are stop low counts
    ∙ ap (λ (j : ℕ). gap_of_stop (net_of n) c.args.self.now.starts.now (calls_before stop (calls_in n.list) j))
    (le_antisymm (omega (arith, long, c.loop-i.auto.i-end)) (omega (arith, long, c.loop-i-test.false)))
