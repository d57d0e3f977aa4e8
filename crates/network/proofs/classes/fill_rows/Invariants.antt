-- `network::classes::fill_rows` meets its contract. The loop's invariant: of the stops passed the rows hold the classes and their sizes so
-- far. Assumes nothing.
use Rattle.network.specs.Engine.Stored.{net_of}
use Rattle.network.proofs.Laws.ClassRows.{ClassesFilled}
use Rattle.network.proofs.classes.fill_rows.Given as goal

abbrev pub invariant-loop-stop : goal.invariant-loop-stop
invariant-loop-stop l = ClassesFilled (net_of l.network.rows) l.class_row l.weight_row l.count l.stop
