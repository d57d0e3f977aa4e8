-- `examination::exports::examination_wanted` meets its contract: it hands on what the call with a wanted gap answers and leaves in the start row.
-- Assumes nothing.
use mathlib.Core.Path.{sym, ap, ◌∙◌}
use Rattle.std.specs.Prelude.{Ok}
use Rattle.search.specs.Wanted.{WantedOutcome, wanted_answer}
use Rattle.search.proofs.WantedGap.{wanted_answer_found, wanted_answer_none, wanted_answer_stopped, wanted_answer_refused}
use Rattle.examination.specs.Exports.{wanted_status, wanted_row}
use Rattle.examination.proofs.Laws.Refusals.{wanted_low}
use Rattle.examination.proofs.exports.examination_wanted.Goals as goal

pub refusal_code-requires : goal.refusal_code-requires
refusal_code-requires c = wanted_low c.args.file.now c.wanted.ensures.bytes c.args.start_row.now c.args.gap c.args.budget (sym c.wanted.ensures.answer ∙ ap wanted_answer c.in-Err.is ∙ wanted_answer_refused _)

pub returns-in-Err : goal.returns-in-Err
unfolding wanted_status wanted_row
returns-in-Err c = let told = sym (ap wanted_answer c.in-Err.is ∙ wanted_answer_refused _) ∙ c.wanted.ensures.answer in
    record {
      returned = c.refusal_code.ensures ∙ ap wanted_status told;
      row = ap (λ (o : WantedOutcome). wanted_row o c.args.answer.now) told;
      starts = c.wanted.ensures.starts;
      bytes = c.wanted.ensures.bytes;
    }

pub returns-in-Ok-Found : goal.returns-in-Ok-Found
unfolding wanted_status wanted_row
returns-in-Ok-Found c = let told = sym (ap wanted_answer (c.in-Ok-Found.is ∙ ap Ok c.in-Ok-Found.field-0-is) ∙ wanted_answer_found _) ∙ c.wanted.ensures.answer in
    record {
      returned = ap wanted_status told;
      row = ap (λ (o : WantedOutcome). wanted_row o c.args.answer.now) told;
      starts = c.wanted.ensures.starts;
      bytes = c.wanted.ensures.bytes;
    }

pub returns-in-Ok-None : goal.returns-in-Ok-None
unfolding wanted_status wanted_row
returns-in-Ok-None c = let told = sym (ap wanted_answer (c.in-Ok-None.is ∙ ap Ok c.in-Ok-None.field-0-is) ∙ wanted_answer_none _) ∙ c.wanted.ensures.answer in
    record {
      returned = ap wanted_status told;
      row = ap (λ (o : WantedOutcome). wanted_row o c.args.answer.now) told;
      starts = c.wanted.ensures.starts;
      bytes = c.wanted.ensures.bytes;
    }

pub returns-in-Ok-Stopped : goal.returns-in-Ok-Stopped
unfolding wanted_status wanted_row
returns-in-Ok-Stopped c = let told = sym (ap wanted_answer (c.in-Ok-Stopped.is ∙ ap Ok c.in-Ok-Stopped.field-0-is) ∙ wanted_answer_stopped _) ∙ c.wanted.ensures.answer in
    record {
      returned = ap wanted_status told;
      row = ap (λ (o : WantedOutcome). wanted_row o c.args.answer.now) told;
      starts = c.wanted.ensures.starts;
      bytes = c.wanted.ensures.bytes;
    }
