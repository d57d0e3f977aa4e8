-- `network::timetable::Timetable::least_gap` meets its contract. The loop's invariant: the least of `lesser` and the gaps to the calls up to `from` is
-- that of `least` and the gaps to all. Assumes nothing.
use Prim.Native.Nat.{ℕ, ◌+◌, ◌*◌, ◌-◌, ◌<◌, ◌≤◌, min}
use mathlib.Core.Path.{◌≡◌, sym, ap, subst, ◌∙◌}
use mathlib.Core.List.{List, map}
use native.Mathlib.Omega.{arith}
use lib.IntN.{ℤ}
use lib.ListN.{length, get_or}
use Rattle.network.specs.declared.Call.{Call}
use Rattle.network.specs.declared.Rows.{Rows}
use Rattle.network.specs.Lists.{keep, least_from}
use Rattle.network.specs.Divisor.{gcd}
use Rattle.network.specs.Gap.{gap_of}
use Rattle.network.specs.Rating.{period_of, gap_of_calls}
use Rattle.network.specs.Engine.Scan.{last_at, calls_before, LeadsBack, DivisorsOf, gap_by}
use Rattle.network.specs.Engine.Stored.{net_of, call_in, calls_in, Sound}
use Rattle.network.specs.Valid.{Valid, no_call}
use Rattle.network.proofs.Laws.Divisor.{gcd_pos_left}
use Rattle.network.proofs.Laws.Packed.{call_in_row}
use Rattle.network.proofs.Laws.Scan.{last_at_le, last_at_landed, step_back}
use Rattle.network.proofs.Laws.Stored.{length_held, held_lines, held_call_line}
use Rattle.network.proofs.timetable.Timetable.least_gap.Invariants.{to}
use Rattle.network.proofs.timetable.Timetable.least_gap.Goals as goal
use Rattle.network.proofs.timetable.Timetable.least_gap.Goals.{In-loop-from}

-- At a turn of the loop
module _ (c : In-loop-from) where
  abbrev at : ℕ
  at = c.loop-from.from - 1

  abbrev n : Rows
  n = c.args.self.now.network.now.rows

  abbrev sheet : List ℤ
  sheet = c.args.self.now.starts.now

  abbrev held : List Call
  held = calls_in n.list

  abbrev sound : Sound n
  sound = c.args.self.now.network.now.sound

  abbrev valid : Valid (net_of n)
  valid = c.args.self.now.network.now.valid

  -- the call that is looked at
  abbrev other : Call
  other = call_in (get_or n.list at 0)

  -- the divisor for a call and this one, the gap as the code computes it, and what that asks of the call
  abbrev divisor : Call → ℕ
  divisor k = get_or c.args.divisors.now (k.line * 16 + c.args.call.line) 0

  abbrev between : Call → ℕ
  between k = gap_by (divisor k) sheet k c.args.call

  abbrev Asked : Call → Type 0
  Asked k = (k.line < 16) × (k.line < length sheet) × (0 < divisor k)

  in_file : at < n.count
  in_file = omega (arith, c.loop-from-test.true, c.loop-from.invariant.within, c.requires.1.within)

  landed : (get_or held at no_call).stop ≡ c.args.call.stop
  landed = c.loop-from.invariant.lands c.loop-from-test.true

  -- it is one of the calls that count
  other_is : other ≡ get_or held at no_call
  other_is = sym (call_in_row n.list at)

  other_line : other.line < n.lines
  other_line = subst (λ (k : Call). k.line < n.lines) (sym other_is) (held_call_line n sound valid at in_file)

  own_line : c.args.call.line < n.lines
  own_line = omega (arith, c.requires.1.own_line, held_lines n sound)

  sheet_length : length sheet ≡ n.lines
  sheet_length = c.requires.1.fits ∙ held_lines n sound

  period_pos : 0 < get_or (net_of n).periods other.line 0
  period_pos = valid.period_pos other.line (omega (arith, other_line, held_lines n sound))

  divisor_is : divisor other ≡ gcd (get_or (net_of n).periods other.line 0) (get_or (net_of n).periods c.args.call.line 0)
  unfolding DivisorsOf
  divisor_is = c.requires.0.divisors_are other.line c.args.call.line (omega (arith, other_line, held_lines n sound)) c.requires.1.own_line

  asked : Asked other
  asked = (
    omega (arith, other_line, sound.lines),
    omega (arith, other_line, sheet_length),
    rw divisor_is (gcd_pos_left _ _ period_pos),
  )

  gap_is : between other ≡ to n sheet c.args.call other
  unfolding gap_of_calls gap_of gap_by period_of
  gap_is = ap (λ (g : ℕ). gap_by g sheet other c.args.call) divisor_is

  led_back : get_or c.args.previous.now at 0 ≡ last_at c.args.call.stop held at
  unfolding LeadsBack
  led_back =
      c.requires.0.leads at (omega (arith, c.loop-from-test.true, c.loop-from.invariant.within)) ∙ ap (λ (s : ℕ). last_at s held at) landed

  led_lower : get_or c.args.previous.now at 0 ≤ at
  led_lower = omega (arith, led_back, last_at_le c.args.call.stop held at)

  -- one call further back
  onward :
      least_from (min c.loop-from.lesser (to n sheet c.args.call other))
      (map (to n sheet c.args.call) (calls_before c.args.call.stop held (get_or c.args.previous.now at 0)))
      ≡ least_from c.args.least (map (to n sheet c.args.call) (calls_before c.args.call.stop held c.args.next))
  onward =
      let g = to n sheet c.args.call in
      let s = c.args.call.stop in
      ap (λ (o : Call). least_from (min c.loop-from.lesser (g o)) (map g (calls_before s held (get_or c.args.previous.now at 0)))) other_is
      ∙ ap (λ (k : ℕ). least_from (min c.loop-from.lesser (g (get_or held at no_call))) (map g (calls_before s held k))) led_back
      ∙ step_back g s held at c.loop-from.lesser (omega (arith, in_file, sound.calls, length_held n sound)) landed
      ∙ ap (λ (k : ℕ). least_from c.loop-from.lesser (map g (calls_before s held k))) (omega (arith, c.loop-from-test.true))
      ∙ c.loop-from.invariant.whole

pub call_gap-requires : goal.call_gap-requires
call_gap-requires c =
    let u = (goal.at.call_gap-requires c).In-loop-from in
    record {
      line_lt_max_lines = subst (Asked u) (sym c.unpacked-other.ensures) (asked u);
      line_lt_max_lines_2 = (omega (arith, own_line u, u.args.self.now.network.now.sound.lines), omega (arith, own_line u, sheet_length u));
    }

pub loop-from-smaller : goal.loop-from-smaller
loop-from-smaller c = omega (arith, led_lower (goal.at.loop-from-smaller c).In-loop-from, c.loop-from-test.true)

pub loop-from-preserved : goal.loop-from-preserved
loop-from-preserved c =
    let u = (goal.at.loop-from-preserved c).In-loop-from in
    let back = get_or c.args.previous.now (at u) 0 in
    let g = to (n u) (sheet u) c.args.call in
    let is = c.call_gap.ensures ∙ ap (between u) c.unpacked-other.ensures ∙ gap_is u in
    record {
      within = omega (arith, led_lower u, c.loop-from.invariant.within);
      lands = last_at_landed (held u) c.args.call.stop (at u) back (led_back u);
      whole =
          ap (λ (v : ℕ). least_from v (map g (calls_before c.args.call.stop (held u) back)))
          (c.min-lesser.ensures ∙ ap (min c.loop-from.lesser) is)
          ∙ onward u;
    }

pub returns : goal.returns
unfolding least_from calls_before keep
returns c = let l = c.loop-from in
    let none : 0 ≡ l.from = omega (arith, c.loop-from-test.false) in
    ap (λ (k : ℕ). least_from l.lesser (map (to c.args.self.now.network.now.rows c.args.self.now.starts.now c.args.call) (calls_before c.args.call.stop (calls_in c.args.self.now.network.now.rows.list) k))) none
    ∙ l.invariant.whole
