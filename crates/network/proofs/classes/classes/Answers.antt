-- `network::classes::classes` meets its contract: it answers the file's refusal, then ground 17, and then fills the rows. Assumes nothing.
use borrow.Author.Tests.{eq-eqb, ne_eqb}
use lib.Dec.{eqb}
use lib.ListN.{length}
use Rattle.std.proofs.lemmas.Result.{err_from_is_err_and}
use Rattle.network.specs.Reading.{read_file}
use Rattle.network.specs.ClassCall.{class_answer, rows_fit}
use Rattle.network.specs.Engine.Stored.{net_of}
use Rattle.network.specs.Numbers.{number_of}
use Rattle.network.proofs.Laws.Lists.{and_both, and_not_left, and_not_right}
use Rattle.network.proofs.Laws.Stored.{bytes_of, reads_network, reads_refusal}
use Rattle.network.proofs.Laws.Weighted.{answered_refused, answered_unfit, answered_filled}
use Rattle.network.proofs.classes.classes.Goals as goal

pub returns-in_err-network : goal.returns-in_err-network
unfolding class_answer
returns-in_err-network c =
    let (_, is, gives) = err_from_is_err_and c.from_residual.result c.from_residual.ensures.1 in
    let told = answered_refused (read_file c.args.file.now) c.args.class_row.now c.args.weight_row.now _ _
    (reads_refusal c.in_err-network.ensures.value c.read_network-read.ensures.1) in
    record {
      answer = rw (is, gives) told.0;
      classes = told.1.0;
      weights = told.1.1;
      bytes = bytes_of _ (λ i. (c.type_inv.file i).fits);
    }

pub returns-then-class_row-ne-STOPS : goal.returns-then-class_row-ne-STOPS
unfolding class_answer rows_fit number_of
returns-then-class_row-ne-STOPS c =
    let n = c.in_ok-network.network.now in
    let told = answered_unfit (read_file c.args.file.now) c.args.class_row.now c.args.weight_row.now (net_of n.rows)
    (reads_network c.in_ok-network.ensures.value c.read_network-read.ensures.1) (and_not_left _ _ (ne_eqb _ _ c.if-class_row-ne-STOPS.true)) in
    record {
      answer = rw c.at.ensures told.0;
      classes = told.1.0;
      weights = told.1.1;
      bytes = bytes_of _ (λ i. (c.type_inv.file i).fits);
    }

pub returns-then-weight_row-ne-STOPS : goal.returns-then-weight_row-ne-STOPS
unfolding class_answer rows_fit number_of
returns-then-weight_row-ne-STOPS c =
    let n = c.in_ok-network.network.now in
    let told = answered_unfit (read_file c.args.file.now) c.args.class_row.now c.args.weight_row.now (net_of n.rows)
    (reads_network c.in_ok-network.ensures.value c.read_network-read.ensures.1) (and_not_right (eqb (length c.args.class_row.now) 64) _ (ne_eqb _ _ c.if-weight_row-ne-STOPS.true)) in
    record {
      answer = rw c.at-then-weight_row-ne-STOPS.ensures told.0;
      classes = told.1.0;
      weights = told.1.1;
      bytes = bytes_of _ (λ i. (c.type_inv.file i).fits);
    }

pub returns : goal.returns
unfolding class_answer rows_fit
returns c =
    let n = c.in_ok-network.network.now in
    let filled = c.fill_rows in
    let told = answered_filled (read_file c.args.file.now) c.args.class_row.now c.args.weight_row.now (net_of n.rows)
    filled.result filled.new.class_row filled.new.weight_row (reads_network c.in_ok-network.ensures.value c.read_network-read.ensures.1)
    (and_both _ _ (eq-eqb _ _ c.if-class_row-ne-STOPS.false) (eq-eqb _ _ c.if-weight_row-ne-STOPS.false))
    filled.ensures.value filled.ensures.class_row_after filled.ensures.weight_row_after in
    record {
      answer = told.0;
      classes = told.1.0;
      weights = told.1.1;
      bytes = bytes_of _ (λ i. (c.type_inv.file i).fits);
    }
