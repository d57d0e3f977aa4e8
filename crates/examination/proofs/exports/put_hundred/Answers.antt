-- `examination::exports::put_hundred` meets its contract, case by case. Assumes nothing.
use mathlib.Core.Path.{sym, ap, ◌∙◌}
use Rattle.std.specs.Prelude.{Ok}
use Rattle.examination.specs.Exports.{hundred_row}
use Rattle.examination.specs.Sheets.{MarkOutcome, mark_answer}
use Rattle.examination.proofs.Laws.Answers.{mark_answer_decided, mark_answer_undecided, mark_answer_refused}
use Rattle.examination.proofs.exports.put_hundred.Goals as goal

pub returns-in-Err : goal.returns-in-Err
unfolding hundred_row
returns-in-Err c = sym (ap (λ (o : MarkOutcome). hundred_row o c.args.hundred.now) (ap mark_answer c.in-Err.is ∙ mark_answer_refused _))

pub returns-in-Ok-Undecided : goal.returns-in-Ok-Undecided
unfolding hundred_row
returns-in-Ok-Undecided c = let u = c.in-Ok-Undecided in
    sym (ap (λ (o : MarkOutcome). hundred_row o c.args.hundred.now) (ap mark_answer (u.is ∙ ap Ok (rw u.is at u.field-0-is)) ∙ mark_answer_undecided _ _))

pub returns-in-Ok-Decided : goal.returns-in-Ok-Decided
unfolding hundred_row
returns-in-Ok-Decided c = let d = c.in-Ok-Decided in
    sym (ap (λ (o : MarkOutcome). hundred_row o c.args.hundred.now) (ap mark_answer (d.is ∙ ap Ok (rw d.is at d.field-0-is)) ∙ mark_answer_decided _ _ _ _ _))
