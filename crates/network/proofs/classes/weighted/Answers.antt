-- `network::classes::weighted` meets its contract: it answers the file's refusal, then ground 15, then the weighted rating. Assumes nothing.
use mathlib.Core.Path.{sym, ap, ◌∙◌}
use borrow.Author.Tests.{eq-eqb, ne_eqb}
use Rattle.std.proofs.lemmas.Result.{err_from_is_err_and}
use Rattle.network.specs.Lists.{pick}
use Rattle.network.specs.Reading.{Reading, refusal}
use Rattle.network.specs.Rate.{rate_answer, rating_values, on_sheet, rated_on_sheet}
use Rattle.network.specs.ClassCall.{weighted_rating, weighted_outcome}
use Rattle.network.specs.Engine.Stored.{net_of}
use Rattle.network.specs.Numbers.{number_of}
use Rattle.network.proofs.Laws.Stored.{bytes_of, reads_network, reads_refusal}
use Rattle.network.proofs.classes.weighted.Goals as goal

pub returns-in_err-network : goal.returns-in_err-network
unfolding rate_answer weighted_outcome on_sheet
returns-in_err-network c =
    let (_, is, gives) = err_from_is_err_and c.from_residual.result c.from_residual.ensures.1 in
    record {
      answer = rw (is, gives)
          (sym
          (ap (λ (k : Reading). rated_on_sheet weighted_rating k c.args.sheet.now)
          (reads_refusal c.in_err-network.ensures.value c.read_network-read.ensures.1)));
      bytes = bytes_of _ (λ i. (c.type_inv.file i).fits);
    }

pub returns-in_err-timetable_of : goal.returns-in_err-timetable_of
unfolding rate_answer weighted_outcome on_sheet number_of
returns-in_err-timetable_of c =
    let (_, is, gives) = err_from_is_err_and c.from_residual-in_err-timetable_of.result c.from_residual-in_err-timetable_of.ensures.1 in
    let (sheet, unfit) = c.in_err-timetable_of.ensures.err in
    let n = net_of c.in_ok-network.network.now.rows in
    let reads = reads_network c.in_ok-network.ensures.value c.read_network-read.ensures.1 in
    record {
      answer = rw (is, gives, sheet)
          (sym
          (ap (λ (k : Reading). rated_on_sheet weighted_rating k c.args.sheet.now) reads
          ∙ ap (λ b. pick b (rating_values (weighted_rating n c.args.sheet.now)) (refusal 15 0)) (ne_eqb _ _ unfit)));
      bytes = bytes_of _ (λ i. (c.type_inv.file i).fits);
    }

pub returns : goal.returns
unfolding rate_answer rating_values weighted_outcome on_sheet
returns c =
    let n = net_of c.in_ok-network.network.now.rows in
    let reads = reads_network c.in_ok-network.ensures.value c.read_network-read.ensures.1 in
    let (same, starts) = c.in_ok-timetable_of.ensures.ok in
    record {
      answer = ap rating_values (rw (same, starts) at c.weighted_rating.ensures)
          ∙ sym
          (ap (λ (k : Reading). rated_on_sheet weighted_rating k c.args.sheet.now) reads
          ∙ ap (λ b. pick b (rating_values (weighted_rating n c.args.sheet.now)) (refusal 15 0)) (eq-eqb _ _ c.in_ok-timetable_of.ensures.fits));
      bytes = bytes_of _ (λ i. (c.type_inv.file i).fits);
    }
