-- `search::caps::bounds_of` meets its contract. The loop's invariant: the bounds are those of the calls passed. Assumes nothing.
use Prim.Native.Nat.{ℕ, ◌+◌, ◌<◌}
use mathlib.Core.Path.{◌≡◌, sym, ap, ap₂, subst, ◌∙◌}
use mathlib.Core.List.{List, [], ◌∷◌, ◌++◌}
use native.Mathlib.Nat.{le_antisymm}
use native.Mathlib.Omega.{arith}
use lib.ListN.{length, get_or, take}
use lib.Seq.{length-take-le, get_or-take}
use Rattle.network.specs.declared.Call.{Call}
use Rattle.network.specs.declared.Network.{Network}
use Rattle.network.specs.declared.Rows.{Rows}
use Rattle.network.specs.Engine.Scan.{calls_before}
use Rattle.network.specs.Engine.Stored.{net_of, call_in, calls_in}
use Rattle.network.specs.Valid.{no_call}
use Rattle.network.proofs.Laws.Packed.{call_in_row}
use Rattle.network.proofs.Laws.Stored.{length_held, held_lines, held_call_line}
use Rattle.network.proofs.Laws.Gaps.{calls_before_hit, calls_before_miss, calls_before_none, calls_of_stop_held}
use Rattle.search.specs.Engine.CapScan.{bounds_of}
use Rattle.search.proofs.Laws.CapScan.{bounds_of_none}
use Rattle.search.proofs.caps.bounds_of.Goals as goal
use Rattle.search.proofs.caps.bounds_of.Goals.{After-unpacked-call, else-call-stop, then-call-stop}

-- At a turn of the loop: the call that is looked at is one of the calls that count
module _ (u : After-unpacked-call) where
  abbrev network : Network
  network = u.args.network.now

  abbrev rows : Rows
  rows = network.rows

  abbrev held : List Call
  held = calls_in rows.list

  abbrev i : ℕ
  i = u.loop-i.i

  abbrev call : Call
  call = u.unpacked-call.result

  low : i < rows.count
  low = omega (arith, u.loop-i-test.true, length-take-le rows.count rows.list (omega (arith, network.sound.calls, network.sound.list_row)))

  call_is : call ≡ get_or held i no_call
  call_is = u.unpacked-call.ensures ∙ ap call_in (get_or-take rows.count rows.list i 0 low) ∙ sym (call_in_row rows.list i)

  stated : i < length held
  stated = omega (arith, network.sound.calls, low, length_held rows network.sound)

  own_line : call.line < length (net_of rows).periods
  own_line =
      subst (λ (k : Call). k.line < length (net_of rows).periods) (sym call_is)
      (omega (arith, held_call_line rows network.sound network.valid i low, held_lines rows network.sound))

  -- a call at the stop is one more of its calls, and any other is none of them
  hit : call.stop ≡ u.args.stop → calls_before call.stop held i ++ (call ∷ []) ≡ calls_before u.args.stop held (i + 1)
  hit e =
      ap₂ (λ (s : ℕ) (k : Call). calls_before s held i ++ (k ∷ [])) e call_is
      ∙ sym (calls_before_hit u.args.stop held i stated (ap (λ (k : Call). k.stop) (sym call_is) ∙ e))

  miss : (call.stop ≡ u.args.stop → ⊥) → calls_before u.args.stop held i ≡ calls_before u.args.stop held (i + 1)
  miss f = sym (calls_before_miss u.args.stop held i stated (λ e. f (ap (λ (k : Call). k.stop) call_is ∙ e)))

pub loop-i-init : goal.loop-i-init
loop-i-init c = sym (ap (bounds_of (net_of c.args.network.now.rows)) (calls_before_none c.args.stop (calls_in c.args.network.now.rows.list)) ∙ bounds_of_none (net_of c.args.network.now.rows))

pub with_call-bounds-requires : goal.with_call-bounds-requires
with_call-bounds-requires c =
    let u = (goal.at.with_call-bounds-requires c).After-unpacked-call in
    let l = c.loop-i in record {
      line_in_bounds = (own_line u, omega (arith, low u));
      bounds_value = l.invariant ∙ ap (λ (s : ℕ). bounds_of (net_of (rows u)) (calls_before s (held u) (i u))) (sym c.if-call-stop.true);
    }

pub loop-i-preserved : goal.loop-i-preserved
loop-i-preserved c =
    let u = (goal.at.loop-i-preserved c).After-unpacked-call in
    elim c.if-call-stop.branch [
      | then-call-stop w ↦ w.bounds-is ∙ w.with_call-bounds.ensures ∙ ap (bounds_of (net_of (rows u))) (hit u w.if-call-stop.true)
      | else-call-stop w ↦ w.bounds-is ∙ c.loop-i.invariant ∙ ap (bounds_of (net_of (rows u))) (miss u w.if-call-stop.false)
    ]

pub returns : goal.returns
returns c =
    let n = c.args.network.now in
    let all : length (take n.rows.count n.rows.list) ≡ n.rows.count =
    length-take-le n.rows.count n.rows.list (omega (arith, n.sound.calls, n.sound.list_row)) in
    c.loop-i.invariant
    ∙ ap (λ (k : ℕ). bounds_of (net_of c.args.network.now.rows) (calls_before c.args.stop (calls_in c.args.network.now.rows.list) k))
    (le_antisymm (omega (arith, all, c.loop-i.auto.i-end)) (omega (arith, all, c.loop-i-test.false)))
    ∙ ap (bounds_of (net_of c.args.network.now.rows)) (sym (calls_of_stop_held c.args.network.now.rows c.args.stop))
