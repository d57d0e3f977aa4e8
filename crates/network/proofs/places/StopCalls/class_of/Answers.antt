-- `network::places::StopCalls::class_of` meets its contract. The loop's invariant: no stop passed is alike. Assumes nothing.
use Prim.Native.Nat.{ℕ, ◌<◌}
use mathlib.Core.Path.{◌≡◌, refl, sym, ◌∙◌}
use mathlib.Core.Bool.{true, false}
use native.Mathlib.Omega.{arith}
use borrow.Author.Tests.{le-leb, lt-leb}
use lib.ListN.{length, get_or}
use Rattle.network.specs.declared.places.StopCalls.{StopCalls}
use Rattle.network.specs.Network.{Net, is_served}
use Rattle.network.specs.Classes.{ordered}
use Rattle.network.specs.Engine.Stored.{net_of}
use Rattle.network.proofs.Laws.ClassRows.{lowest_alike_found, lowest_alike_none}
use Rattle.network.proofs.Laws.Placed.{served_of_length}
use Rattle.network.proofs.places.StopCalls.class_of.Goals as goal

-- A stop of a network by its rows
module _ (k : StopCalls) (s : ℕ) (h : s < 64) where
  abbrev n : Net
  n = net_of k.network.now.rows

  calls_here : get_or k.counts s 0 ≡ length (ordered n s)
  calls_here = k.counts_are s (omega arith)

  served : (get_or k.counts s 0 ≡ 0 → ⊥) → is_served s n.calls ≡ true
  served f = sym (served_of_length n s) ∙ le-leb 1 (length (ordered n s)) (omega (arith, f, calls_here))

  counted : (get_or k.counts s 0 ≡ 0 → ⊥) → 0 < get_or k.counts s 0
  counted f = omega (arith, f)

  not_served : get_or k.counts s 0 ≡ 0 → is_served s n.calls ≡ false
  not_served e = sym (served_of_length n s) ∙ lt-leb 1 (length (ordered n s)) (omega (arith, e, calls_here))

pub returns-then-self-stop-eq0 : goal.returns-then-self-stop-eq0
returns-then-self-stop-eq0 c = rw (not_served c.args.self.now c.args.stop c.requires c.if-self-stop-eq0.true) refl

pub returns-then-alike : goal.returns-then-alike
returns-then-alike c =
    let k = c.args.self.now in
    rw (served k c.args.stop c.requires c.if-self-stop-eq0.false)
    (lowest_alike_found (net_of k.network.now.rows) c.args.stop c.loop-other.other (omega (arith, c.loop-other-test.true, c.requires))
    (sym (c.alike.ensures (counted k c.args.stop c.requires c.if-self-stop-eq0.false)) ∙ c.if-alike.true) c.loop-other.invariant)

pub returns : goal.returns
returns c =
    let k = c.args.self.now in
    let here = served k c.args.stop c.requires c.if-self-stop-eq0.false in
    rw here
    (lowest_alike_none k.network.now.valid c.args.stop c.requires here (λ i l. c.loop-other.invariant i (omega (arith, l, c.loop-other-test.false))))
