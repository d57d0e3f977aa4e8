-- `network::gap_row::gaps` meets its contract: it answers the file's refusal or ground 15 and leaves the row, or it writes the gap row and answers the rating.
-- Assumes nothing.
use mathlib.Core.Path.{sym, ap, ◌∙◌}
use Prim.Native.Nat.{ℕ}
use Rattle.std.proofs.lemmas.Result.{err_from_is_err_and}
use Rattle.network.specs.GapRow.{gap_row_after}
use Rattle.network.specs.Numbers.{number_of}
use Rattle.network.specs.Reading.{Reading, refusal}
use Rattle.network.specs.Rate.{rate_answer, rating_values, on_sheet, rate_outcome}
use Rattle.network.specs.Engine.Stored.{net_of}
use Rattle.network.proofs.Laws.Refusals.{rate_refused, on_sheet_fits, on_sheet_unfit}
use Rattle.network.proofs.Laws.Stored.{bytes_of, reads_network, reads_refusal}
use Rattle.network.proofs.gap_row.gaps.Goals as goal

pub returns-in_err-network : goal.returns-in_err-network
unfolding gap_row_after on_sheet
returns-in_err-network c = let u = c.in_err-network.field-0.0.now in
    let refuses = reads_refusal c.in_err-network.ensures.value c.read_network-read.ensures.1 in
    let p = err_from_is_err_and c.from_residual.result c.from_residual.ensures.1 in record {
      answer = rw (p.1, p.2) (rate_refused c.args.file.now c.args.sheet.now u.refusal refuses);
      row = sym (ap (λ (k : Reading). gap_row_after c.args.row.now k c.args.sheet.now) refuses);
      bytes = bytes_of c.args.file.now (λ i. (c.type_inv.file i).fits);
    }

pub returns-in_err-timetable_of : goal.returns-in_err-timetable_of
unfolding rate_answer rate_outcome number_of gap_row_after
returns-in_err-timetable_of c = let n = net_of c.in_ok-network.network.now.rows in
    let sheet = c.args.sheet.now in
    let reads = reads_network c.in_ok-network.ensures.value c.read_network-read.ensures.1 in
    let p = err_from_is_err_and c.from_residual-in_err-timetable_of.result c.from_residual-in_err-timetable_of.ensures.1 in
    let (e, differ) = c.in_err-timetable_of.ensures.err in record {
      answer = rw (p.1, p.2, e) (sym (ap (λ (k : Reading). rate_outcome k sheet) reads ∙ on_sheet_unfit _ refusal n sheet differ));
      row = sym (ap (λ (k : Reading). gap_row_after c.args.row.now k sheet) reads ∙ on_sheet_unfit _ (λ (number place : ℕ). c.args.row.now) n sheet differ);
      bytes = bytes_of c.args.file.now (λ i. (c.type_inv.file i).fits);
    }

pub returns : goal.returns
unfolding rate_answer rating_values rate_outcome gap_row_after
returns c = let n = net_of c.in_ok-network.network.now.rows in
    let sheet = c.args.sheet.now in
    let reads = reads_network c.in_ok-network.ensures.value c.read_network-read.ensures.1 in
    let (same, starts) = c.in_ok-timetable_of.ensures.ok in
    let fits = c.in_ok-timetable_of.ensures.fits in record {
      answer = ap rating_values (rw (same, starts) at c.put_gaps.ensures.answer) ∙ sym (ap (λ (k : Reading). rate_outcome k sheet) reads ∙ on_sheet_fits _ refusal n sheet fits);
      row = (rw (same, starts) at c.put_gaps.ensures.row)
          ∙ sym (ap (λ (k : Reading). gap_row_after c.args.row.now k sheet) reads ∙ on_sheet_fits _ (λ (number place : ℕ). c.args.row.now) n sheet fits);
      bytes = bytes_of c.args.file.now (λ i. (c.type_inv.file i).fits);
    }
