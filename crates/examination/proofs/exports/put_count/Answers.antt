-- `examination::exports::put_count` meets its contract, case by case. Assumes nothing.
use mathlib.Core.Path.{sym, ap, ◌∙◌}
use Rattle.network.specs.ClassCall.{class_answer}
use Rattle.network.specs.Reading.{Outcome}
use Rattle.examination.specs.Exports.{status, row_after}
use Rattle.examination.proofs.exports.put_count.Goals as goal

pub refusal_code-requires : goal.refusal_code-requires
unfolding class_answer
refusal_code-requires c = c.requires _ _ (ap class_answer c.in-Err.is)

pub returns-in-Err : goal.returns-in-Err
unfolding status row_after class_answer
returns-in-Err c = let told = sym (ap class_answer c.in-Err.is) in
    record {
      returned = c.refusal_code.ensures ∙ ap status told;
      row = ap (λ (o : Outcome). row_after o c.args.answer.now) told;
    }

pub returns-in-Ok : goal.returns-in-Ok
unfolding status row_after class_answer
returns-in-Ok c = let told = sym (ap class_answer c.in-Ok.is) in
    record {
      returned = ap status told;
      row = ap (λ (o : Outcome). row_after o c.args.answer.now) told;
    }
