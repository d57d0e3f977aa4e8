-- `network::classes::fill_rows` meets its contract. The loop's invariant: of the stops passed the rows hold the classes and their sizes so
-- far. Assumes nothing.
use Prim.Native.Nat.{ℕ, ◌+◌, ◌<◌, ◌≤◌}
use mathlib.Core.Path.{◌≡◌, sym, subst, ◌∙◌}
use mathlib.Core.Bool.{true, false}
use native.Mathlib.Nat.{le_antisymm, add-zero}
use native.Mathlib.Omega.{arith}
use borrow.Author.Tests.{eq-eqb, ne_eqb}
use lib.ListN.{get_or, set}
use Rattle.network.specs.declared.Network.{Network}
use Rattle.network.specs.Lists.{count_below}
use Rattle.network.specs.Network.{Net}
use Rattle.network.specs.Classes.{is_lowest}
use Rattle.network.specs.Engine.Stored.{net_of}
use Rattle.network.specs.Valid.{Valid}
use Rattle.network.proofs.Laws.Tables.{count_below_le}
use Rattle.network.proofs.Laws.Classes.{is_in_class_of}
use Rattle.network.proofs.Laws.ClassRows.{class_at, ClassesFilled, classes_filled_none, zeroed_is, at_le, count_next}
use Rattle.network.proofs.Laws.ClassRows.{filled_served, filled_unserved, filled_classes, filled_weights, filled_count}
use Rattle.network.proofs.classes.fill_rows.Goals as goal
use Rattle.network.proofs.classes.fill_rows.Goals.{After-loop-stop, After-class_of-lowest, else-at-lt-STOPS, else-at-stop, then-at-lt-STOPS, then-at-stop}

pub loop-stop-init : goal.loop-stop-init
loop-stop-init c = classes_filled_none _ _ _ c.requires.0 c.requires.1

-- At a turn of the loop, with the stop's class
module _ (k : After-class_of-lowest) where
  abbrev n : Net
  n = net_of k.args.network.now.rows

  valid : Valid n
  valid = k.args.network.now.valid

  abbrev at : ℕ
  at = k.class_of-lowest.result

  abbrev stop : ℕ
  stop = k.loop-stop.stop

  filled : ClassesFilled n k.loop-stop.class_row k.loop-stop.weight_row k.loop-stop.count stop
  filled = k.loop-stop.invariant

  is : at ≡ class_at n stop
  is = subst (λ (w : Network). at ≡ class_at (net_of w.rows) stop) k.place_calls-placed.ensures k.class_of-lowest.ensures

  few : k.loop-stop.count ≤ stop
  few = omega (arith, filled.count_is, count_below_le (is_lowest n) stop)

  size_small : at < 64 → get_or (set k.loop-stop.weight_row stop 0) at 0 ≤ stop
  size_small l =
      let e = zeroed_is valid k.loop-stop.class_row k.loop-stop.weight_row k.loop-stop.count stop filled k.loop-stop-test.true at
      (at_le valid k.loop-stop.class_row k.loop-stop.weight_row k.loop-stop.count stop filled k.loop-stop-test.true at is l) in
      omega (arith, e, count_below_le (is_in_class_of n at) stop)

pub overflow_add-weight_row : goal.overflow_add-weight_row
overflow_add-weight_row c = omega (arith, size_small (goal.at.overflow_add-weight_row c).After-class_of-lowest c.if-at-lt-STOPS.true, c.loop-stop-test.true)

pub overflow_add-count : goal.overflow_add-count
overflow_add-count c = omega (arith, few (goal.at.overflow_add-count c).After-class_of-lowest, c.loop-stop-test.true)

pub loop-stop-preserved : goal.loop-stop-preserved
loop-stop-preserved c =
    let u = (goal.at.loop-stop-preserved c).After-class_of-lowest in
    let v = valid u in
    let l = c.loop-stop in
    let low = c.loop-stop-test.true in
    let e : c.if-at-stop.count ≡ count_below (is_lowest (n u)) (l.stop + 1) =
    elim c.if-at-stop.branch [
      | then-at-stop w ↦ w.count-is ∙ count_next v l.class_row l.weight_row l.count l.stop (filled u) low (at u) (is u) true (eq-eqb _ _ w.if-at-stop.true)
      | else-at-stop w ↦ w.count-is
          ∙ sym (add-zero _)
          ∙ count_next v l.class_row l.weight_row l.count l.stop (filled u) low (at u) (is u) false (ne_eqb _ _ w.if-at-stop.false)
    ] in
    elim c.if-at-lt-STOPS.branch [
      | then-at-lt-STOPS w ↦ rw w.weight_row-is (filled_served v l.class_row l.weight_row l.count l.stop (filled u) low (at u) (is u) c.if-at-stop.count e w.if-at-lt-STOPS.true)
      | else-at-lt-STOPS w ↦ rw w.weight_row-is (filled_unserved v l.class_row l.weight_row l.count l.stop (filled u) low (at u) (is u) c.if-at-stop.count e w.if-at-lt-STOPS.false)
    ]

-- Behind the loop all stops are passed
all_filled : (c : After-loop-stop) → ClassesFilled (net_of c.args.network.now.rows) c.loop-stop.class_row c.loop-stop.weight_row c.loop-stop.count 64
all_filled c =
    let l = c.loop-stop in
    subst (ClassesFilled (net_of c.args.network.now.rows) l.class_row l.weight_row l.count) (le_antisymm l.auto.stop-end c.loop-stop-test.false) l.invariant

pub returns : goal.returns
returns c =
    let v = c.args.network.now.valid in
    let l = c.loop-stop in
    record {
      value = filled_count v l.class_row l.weight_row l.count (all_filled c);
      class_row_after = filled_classes v l.class_row l.weight_row l.count (all_filled c);
      weight_row_after = filled_weights v l.class_row l.weight_row l.count (all_filled c);
    }
