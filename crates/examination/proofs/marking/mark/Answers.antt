-- `examination::marking::mark` meets its contract: it refuses as rate does, and otherwise sets the rating beside what the search answers with a
-- start row of the sheet's length. Assumes nothing.
use mathlib.Core.Path.{sym, ap, ◌∙◌}
use Rattle.std.proofs.lemmas.Result.{err_from_is_err_and}
use Rattle.network.specs.Rate.{rate_answer}
use Rattle.network.specs.Reading.{read_file}
use Rattle.search.specs.Search.{SearchOutcome, search_answer}
use Rattle.search.proofs.Demands.{search_answer_refused}
use Rattle.examination.specs.Sheets as sheets
use Rattle.examination.proofs.Laws.Chosen.{RatedOn, rated_on, rated_least, mark_refused, mark_rated}
use Rattle.examination.proofs.marking.mark.Goals as goal
use Rattle.examination.proofs.marking.mark.Goals.{In_ok-rating}

-- A sheet that is rated fits the file's network
sheet_rated : (c : In_ok-rating)
    → RatedOn (read_file c.args.file.now) c.args.sheet.now c.in_ok-rating.rating.least c.in_ok-rating.rating.sum
unfolding rate_answer
sheet_rated c = rated_on _ _ (sym (ap rate_answer c.in_ok-rating.was) ∙ c.rate_and_search-both.ensures.rated)

-- Least gaps of accepted networks fit
pub marked-requires : goal.marked-requires
marked-requires c = rated_least c.args.file.now c.rate_and_search-both.ensures.bytes (sheet_rated (goal.at.marked-requires c).In_ok-rating)

pub returns-in_err-rating : goal.returns-in_err-rating
unfolding sheets.mark_answer rate_answer
returns-in_err-rating c =
    let both = c.rate_and_search-both in
    let (_, is, gives) = err_from_is_err_and c.from_residual.result c.from_residual.ensures.1 in
    record {
      answer = rw (is, gives) (mark_refused (read_file c.args.file.now) c.args.sheet.now c.args.budget (sym (ap rate_answer c.in_err-rating.was) ∙ both.ensures.rated));
      bytes = both.ensures.bytes;
    }

-- The search's refusal is mark's
pub returns-in_err-found : goal.returns-in_err-found
unfolding sheets.mark_answer sheets.marked
returns-in_err-found c =
    let both = c.rate_and_search-both in
    let rating = c.in_ok-rating.rating in
    let (_, is, gives) = err_from_is_err_and c.from_residual-in_err-found.result c.from_residual-in_err-found.ensures.1 in
    record {
      answer = rw (is, gives)
          (ap (λ (o : SearchOutcome). sheets.marked rating.least rating.sum o)
          (sym (search_answer_refused _) ∙ sym (ap search_answer c.in_err-found.was) ∙ both.ensures.found)
          ∙ mark_rated (read_file c.args.file.now) c.args.sheet.now c.args.budget (sheet_rated (goal.at.returns-in_err-found c).In_ok-rating));
      bytes = both.ensures.bytes;
    }

pub returns : goal.returns
returns c = let both = c.rate_and_search-both in
    let rating = c.in_ok-rating.rating in
    record {
      answer = c.marked.ensures
          ∙ ap (λ (o : SearchOutcome). sheets.marked rating.least rating.sum o) (sym (ap search_answer c.in_ok-found.was) ∙ both.ensures.found)
          ∙ mark_rated (read_file c.args.file.now) c.args.sheet.now c.args.budget (sheet_rated (goal.at.returns c).In_ok-rating);
      bytes = both.ensures.bytes;
    }
