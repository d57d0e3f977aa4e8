-- `network::ratings::served_stops` meets its contract. The loop's invariant: the row flags the stops of the calls passed. Assumes nothing.
use Prim.Native.Nat.{ℕ, ◌+◌, ◌<◌}
use mathlib.Core.Path.{◌≡◌, refl, sym, ap, subst, ◌∙◌}
use mathlib.Core.Bool.{Bool, true, false, ◌||◌, or-false}
use mathlib.Core.List.{List}
use native.Mathlib.Decide.{ℕ_discrete}
use native.Mathlib.Omega.{arith}
use borrow.Author.Tests.{eq-eqb, ne_eqb}
use lib.Dec.{eqb}
use lib.ListN.{length, get_or, take, set, length-set, length-map, get_or-replicate}
use lib.Seq.{get_or-set_same, get_or-set_other, take_all}
use Rattle.std.proofs.lemmas.List.{take-map}
use Rattle.network.specs.declared.Call.{Call}
use Rattle.network.specs.Lists.{any}
use Rattle.network.specs.Network.{is_served}
use Rattle.network.specs.Engine.Stored.{net_of, call_in, calls_in}
use Rattle.network.specs.Valid.{no_call}
use Rattle.network.proofs.Laws.Lists.{any_take_next, or_right}
use Rattle.network.proofs.Laws.Packed.{call_in_row, call_in_stop}
use Rattle.network.proofs.ratings.served_stops.Goals as goal

-- One call more flags its stop
flagged :
    (row : List Bool) (l : List Call) (i stop : ℕ)
    → length row ≡ 64
    → i < length l
    → (get_or l i no_call).stop < 64
    → get_or row stop false ≡ is_served stop (take i l)
    → Dec (stop ≡ (get_or l i no_call).stop)
    → get_or (set row (get_or l i no_call).stop true) stop false ≡ is_served stop (take (i + 1) l)
unfolding is_served
flagged row l i stop r h low e (yes q) =
    ap (λ (k : ℕ). get_or (set row (get_or l i no_call).stop true) k false) q
    ∙ get_or-set_same row (get_or l i no_call).stop true false (rw r low)
    ∙ sym (any_take_next (λ (c : Call). eqb c.stop stop) l i no_call h ∙ or_right (any (λ (c : Call). eqb c.stop stop) (take i l)) _ (eq-eqb _ _ (sym q)))
flagged row l i stop r h low e (no f) =
    get_or-set_other row (get_or l i no_call).stop stop true false f
    ∙ e
    ∙ sym
    (any_take_next (λ (c : Call). eqb c.stop stop) l i no_call h
    ∙ ap (λ t. any (λ (c : Call). eqb c.stop stop) (take i l) || t) (ne_eqb _ _ (λ q. f (sym q)))
    ∙ or-false _)

-- One number of the row more
passed :
    (row : List Bool) (list : List ℕ) (i : ℕ) (call : Call)
    → length row ≡ 64
    → i < length list
    → call ≡ call_in (get_or list i 0)
    → ((stop : ℕ) → stop < 64 → get_or row stop false ≡ is_served stop (take i (calls_in list)))
    → (stop : ℕ) → stop < 64 → get_or (set row call.stop true) stop false ≡ is_served stop (take (i + 1) (calls_in list))
passed row list i call r h e f stop low =
    let is : call ≡ get_or (calls_in list) i no_call = e ∙ sym (call_in_row list i) in
    subst (λ (k : Call). get_or (set row k.stop true) stop false ≡ is_served stop (take (i + 1) (calls_in list))) (sym is)
    (flagged row (calls_in list) i stop r (omega (arith, length-map list call_in))
    (subst (λ (k : Call). k.stop < 64) (sym (call_in_row list i)) (omega (arith, call_in_stop (get_or list i 0)))) (f stop low) (ℕ_discrete stop _))

pub loop-code-init : goal.loop-code-init
unfolding is_served any
loop-code-init c = (refl, λ stop h. get_or-replicate 64 stop false false h)

pub bounds-row-call : goal.bounds-row-call
bounds-row-call c = subst (λ (k : Call). k.stop < 64) (sym c.unpacked-call.ensures) (omega (arith, call_in_stop (get_or (take c.args.rows.now.count c.args.rows.now.list) c.loop-code.code-index 0)))

pub loop-code-preserved : goal.loop-code-preserved
loop-code-preserved c = let l = c.loop-code in (
  length-set l.row _ true ∙ l.invariant.0,
  passed l.row (take c.args.rows.now.count c.args.rows.now.list) l.code-index c.unpacked-call.result l.invariant.0 c.loop-code-test.true
      c.unpacked-call.ensures l.invariant.1,
)

pub returns : goal.returns
unfolding net_of
returns c stop h = let n = c.args.rows.now in
    c.loop-code.invariant.1 stop h
    ∙ ap (is_served stop) (take_all _ _ (omega (arith, c.loop-code-test.false, length-map (take n.count n.list) call_in)) ∙ sym (take-map call_in n.count n.list))
