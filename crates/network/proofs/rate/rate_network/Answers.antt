-- `network::rate::rate_network` meets its contract: it answers ground 15, or the rating. Assumes nothing.
use mathlib.Core.Path.{sym, ap, ◌∙◌}
use Rattle.std.proofs.lemmas.Result.{err_from_is_err_and}
use Rattle.network.specs.Numbers.{number_of}
use Rattle.network.specs.Reading.{refusal}
use Rattle.network.specs.Rate.{rate_answer, rating_values, rate_outcome}
use Rattle.network.specs.Engine.Stored.{net_of}
use Rattle.network.proofs.Laws.Refusals.{on_sheet_fits, on_sheet_unfit}
use Rattle.network.proofs.rate.rate_network.Goals as goal

pub returns-in_err-timetable_of : goal.returns-in_err-timetable_of
unfolding rate_answer rate_outcome number_of
returns-in_err-timetable_of c = let n = net_of c.args.network.now.rows in
    let p = err_from_is_err_and c.from_residual.result c.from_residual.ensures.1 in
    let (e, differ) = c.in_err-timetable_of.ensures.err in
    rw (p.1, p.2, e) (sym (on_sheet_unfit _ refusal n c.args.sheet.now differ))

pub returns : goal.returns
unfolding rate_answer rating_values rate_outcome
returns c = let n = net_of c.args.network.now.rows in
    let (same, starts) = c.in_ok-timetable_of.ensures.ok in
    ap rating_values (rw (same, starts) at c.rating.ensures)
    ∙ sym (on_sheet_fits _ refusal n c.args.sheet.now c.in_ok-timetable_of.ensures.fits)
