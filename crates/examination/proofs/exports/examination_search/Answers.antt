-- `examination::exports::examination_search` meets its contract: it hands on what the search call answers and leaves in the start row.
-- Assumes nothing.
use mathlib.Core.Path.{sym, ap, ◌∙◌}
use Rattle.std.specs.Prelude.{Ok}
use Rattle.search.specs.Search.{SearchOutcome, search_answer}
use Rattle.search.proofs.Demands.{search_answer_finished, search_answer_stopped, search_answer_none, search_answer_refused}
use Rattle.examination.specs.Exports.{search_status, search_row}
use Rattle.examination.proofs.Laws.Refusals.{search_low}
use Rattle.examination.proofs.exports.examination_search.Goals as goal

pub refusal_code-requires : goal.refusal_code-requires
refusal_code-requires c = search_low c.args.file.now c.search.ensures.bytes c.args.start_row.now c.args.budget (sym c.search.ensures.answer ∙ ap search_answer c.in-Err.is ∙ search_answer_refused _)

pub returns-in-Err : goal.returns-in-Err
unfolding search_status search_row
returns-in-Err c = let told = sym (ap search_answer c.in-Err.is ∙ search_answer_refused _) ∙ c.search.ensures.answer in
    record {
      returned = c.refusal_code.ensures ∙ ap search_status told;
      row = ap (λ (o : SearchOutcome). search_row o c.args.answer.now) told;
      starts = c.search.ensures.starts;
      bytes = c.search.ensures.bytes;
    }

pub returns-in-Ok-Finished : goal.returns-in-Ok-Finished
unfolding search_status search_row
returns-in-Ok-Finished c = let told = sym (ap search_answer (c.in-Ok-Finished.is ∙ ap Ok c.in-Ok-Finished.field-0-is) ∙ search_answer_finished c.in-Ok-Finished.best.least c.in-Ok-Finished.best.sum c.in-Ok-Finished.tries) ∙ c.search.ensures.answer in
    record {
      returned = ap search_status told;
      row = ap (λ (o : SearchOutcome). search_row o c.args.answer.now) told;
      starts = c.search.ensures.starts;
      bytes = c.search.ensures.bytes;
    }

pub returns-in-Ok-Stopped : goal.returns-in-Ok-Stopped
unfolding search_status search_row
returns-in-Ok-Stopped c = let told = sym (ap search_answer (c.in-Ok-Stopped.is ∙ ap Ok c.in-Ok-Stopped.field-0-is) ∙ search_answer_stopped c.in-Ok-Stopped.best.least c.in-Ok-Stopped.best.sum c.in-Ok-Stopped.tries) ∙ c.search.ensures.answer in
    record {
      returned = ap search_status told;
      row = ap (λ (o : SearchOutcome). search_row o c.args.answer.now) told;
      starts = c.search.ensures.starts;
      bytes = c.search.ensures.bytes;
    }

pub returns-in-Ok-StoppedWithNone : goal.returns-in-Ok-StoppedWithNone
unfolding search_status search_row
returns-in-Ok-StoppedWithNone c = let told = sym (ap search_answer (c.in-Ok-StoppedWithNone.is ∙ ap Ok c.in-Ok-StoppedWithNone.field-0-is) ∙ search_answer_none _) ∙ c.search.ensures.answer in
    record {
      returned = ap search_status told;
      row = ap (λ (o : SearchOutcome). search_row o c.args.answer.now) told;
      starts = c.search.ensures.starts;
      bytes = c.search.ensures.bytes;
    }
