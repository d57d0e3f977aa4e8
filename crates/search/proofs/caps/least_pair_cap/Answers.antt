-- `search::caps::least_pair_cap` meets its contract. The loop's invariant: `lesser` is the least of `least` and what the pairs with the calls passed give.
-- Assumes nothing.
use Prim.Native.Nat.{ℕ, ◌+◌, ◌/◌, ◌<◌, ◌≤◌, min}
use mathlib.Core.Path.{◌≡◌, refl, sym, ap, ap₂, subst, ◌∙◌}
use mathlib.Core.List.{List}
use native.Mathlib.Omega.{arith}
use lib.Dec.{eqb}
use lib.IntN.{pos, ◌-ℤ◌}
use lib.ListN.{length, get_or, take}
use lib.Seq.{length-take-le, get_or-take}
use Rattle.network.specs.declared.Call.{Call}
use Rattle.network.specs.declared.Network.{Network}
use Rattle.network.specs.declared.Rows.{Rows}
use Rattle.network.specs.Divisor as divisor
use Rattle.network.specs.Gap as gaps
use Rattle.network.specs.Lists.{pick}
use Rattle.network.specs.Engine.Stored.{net_of, calls_in, call_in}
use Rattle.network.specs.Valid.{no_call}
use Rattle.network.proofs.Laws.Packed.{call_in_row}
use Rattle.network.proofs.Laws.Stored.{length_held, held_lines, held_period, held_call_line}
use Rattle.network.proofs.Laws.Gaps.{period_of_is, own_gap_is_fold}
use Rattle.search.specs.Caps.{half_of, pair_cap}
use Rattle.search.proofs.Laws.CapScan.{least_none, least_hit, least_miss}
use Rattle.search.proofs.caps.least_pair_cap.Invariants.{least_to}
use Rattle.search.proofs.caps.least_pair_cap.Goals as goal
use Rattle.search.proofs.caps.least_pair_cap.Goals.{After-unpacked-other, else-other-call, then-other-call}

-- The part of the row that is gone over
length_part : (rows : Rows) (at : ℕ) → at ≤ rows.count → rows.count ≤ 256 → length rows.list ≡ 256 → length (take at rows.list) ≡ at
length_part rows at h k e = length-take-le at rows.list (omega (arith, h, k, e))

-- At a turn of the loop: the call that is looked at is one of the calls that count
module _ (u : After-unpacked-other) where
  abbrev network : Network
  network = u.args.network.now

  abbrev rows : Rows
  rows = network.rows

  abbrev held : List Call
  held = calls_in rows.list

  abbrev call : Call
  call = u.args.call

  abbrev i : ℕ
  i = u.loop-code.code-index

  abbrev other : Call
  other = u.unpacked-other.result

  low : i < u.args.at
  low = omega (arith, u.loop-code-test.true, length_part rows u.args.at u.requires.1 network.sound.calls network.sound.list_row)

  other_is : other ≡ get_or held i no_call
  other_is = u.unpacked-other.ensures ∙ ap call_in (get_or-take u.args.at rows.list i 0 low) ∙ sym (call_in_row rows.list i)

  stated : i < length held
  stated = omega (arith, low, u.requires.1, network.sound.calls, length_held rows network.sound)

  other_line : other.line < rows.lines
  other_line =
      subst (λ (k : Call). k.line < rows.lines) (sym other_is)
      (held_call_line rows network.sound network.valid i (omega (arith, low, u.requires.1)))

  other_small : other.line < 16
  other_small = omega (arith, other_line, network.sound.lines)

  other_period_pos : 0 < get_or rows.periods other.line 0
  other_period_pos =
      rw (held_period rows other.line other_line) at (network.valid.period_pos other.line (omega (arith, other_line, held_lines rows network.sound)))

  own_line : call.line < rows.lines
  own_line = omega (arith, u.requires.0, held_lines rows network.sound)

  -- what the code takes of the pair
  given : ℕ → ℕ → ℕ
  given a b =
      pick (eqb other.line call.line) (gaps.fold a (gaps.residue (pos other.offset -ℤ pos call.offset) a)) (divisor.gcd a b / 2)

  abbrev taken : ℕ
  taken = given (get_or rows.periods other.line 0) (get_or rows.periods call.line 0)

  taken_is : taken ≡ pair_cap (net_of rows) other call
  unfolding given pair_cap half_of
  taken_is =
      let own = period_of_is (net_of rows) other ∙ held_period rows other.line other_line in
      let own2 = period_of_is (net_of rows) call ∙ held_period rows call.line own_line in
      ap₂ given (sym own) (sym own2)
      ∙ ap (λ (v : ℕ). pick (eqb other.line call.line) v (half_of (net_of rows) other call)) (own_gap_is_fold (net_of rows) other call _ refl)

  abbrev next : ℕ
  next = least_to rows call u.args.least (i + 1)

  at_stop : (lesser : ℕ) → other.stop ≡ call.stop → lesser ≡ min u.loop-code.lesser taken → lesser ≡ next
  at_stop lesser e f =
      f
      ∙ ap₂ min u.loop-code.invariant (taken_is ∙ ap (λ (k : Call). pair_cap (net_of rows) k call) other_is)
      ∙ sym
      (least_hit (λ d. pair_cap (net_of rows) d call) u.args.least call.stop held i stated (ap (λ (k : Call). k.stop) (sym other_is) ∙ e))

  elsewhere : (lesser : ℕ) → (other.stop ≡ call.stop → ⊥) → lesser ≡ u.loop-code.lesser → lesser ≡ next
  elsewhere lesser g f =
      f
      ∙ u.loop-code.invariant
      ∙ sym
      (least_miss (λ d. pair_cap (net_of rows) d call) u.args.least call.stop held i stated (λ e. g (ap (λ (k : Call). k.stop) other_is ∙ e)))

pub loop-code-init : goal.loop-code-init
loop-code-init c = sym (least_none (λ d. pair_cap (net_of c.args.network.now.rows) d c.args.call) _ _ _)

pub bounds-rows-other : goal.bounds-rows-other
bounds-rows-other c = other_small (goal.at.bounds-rows-other c).After-unpacked-other

pub pair_cap-requires : goal.pair_cap-requires
pair_cap-requires c = other_period_pos (goal.at.pair_cap-requires c).After-unpacked-other

pub loop-code-preserved : goal.loop-code-preserved
unfolding given
loop-code-preserved c =
    let u = (goal.at.loop-code-preserved c).After-unpacked-other in
    elim c.if-other-call.branch [
      | then-other-call w ↦
          let got : w.pair_cap.result ≡ taken u = w.pair_cap.ensures in
          at_stop u _ w.if-other-call.true (omega (arith, w.lesser-is, w.min-lesser.ensures, got))
      | else-other-call w ↦ elsewhere u _ w.if-other-call.false w.lesser-is
    ]

pub returns : goal.returns
returns c =
    let n = c.args.network.now in
    c.loop-code.invariant
    ∙ ap (least_to n.rows c.args.call c.args.least)
    (omega (arith, c.loop-code-test.false, length_part n.rows c.args.at c.requires.1 n.sound.calls n.sound.list_row))
