-- `examination::exports::examination_read` meets its contract: it hands on what the read call answers. Assumes nothing.
use mathlib.Core.Path.{sym, ap, ◌∙◌}
use Rattle.network.specs.Reading.{Outcome, read_answer}
use Rattle.examination.specs.Exports.{status, row_after}
use Rattle.examination.proofs.Laws.Refusals.{read_low}
use Rattle.examination.proofs.exports.examination_read.Goals as goal

pub refusal_code-requires : goal.refusal_code-requires
unfolding read_answer
refusal_code-requires c = read_low c.args.file.now (sym c.read.ensures.answer ∙ ap read_answer c.in-Err.is)

pub returns-in-Err : goal.returns-in-Err
unfolding status row_after read_answer
returns-in-Err c = let told = sym (ap read_answer c.in-Err.is) ∙ c.read.ensures.answer in
    record {
      returned = c.refusal_code.ensures ∙ ap status told;
      row = ap (λ (o : Outcome). row_after o c.args.answer.now) told;
      bytes = c.read.ensures.bytes;
    }

pub returns-in-Ok : goal.returns-in-Ok
unfolding status row_after read_answer
returns-in-Ok c = let told = sym (ap read_answer c.in-Ok.is) ∙ c.read.ensures.answer in
    record {
      returned = ap status told;
      row = ap (λ (o : Outcome). row_after o c.args.answer.now) told;
      bytes = c.read.ensures.bytes;
    }
