-- `examination::exports::put_mark` meets its contract, case by case. Assumes nothing.
use Prim.Native.Nat.{ℕ}
use mathlib.Core.Path.{◌≡◌, refl, sym, ap, ◌∙◌}
use mathlib.Core.Bool.{Bool, true, false}
use mathlib.Core.List.{[], ◌∷◌}
use Rattle.std.specs.Prelude.{Ok}
use Rattle.std.specs.Int.{from_bool}
use Rattle.examination.specs.Exports.{mark_status, mark_row, one_if}
use Rattle.examination.specs.Sheets.{MarkOutcome, mark_answer}
use Rattle.examination.proofs.Laws.Answers.{mark_answer_decided, mark_answer_undecided, mark_answer_refused}
use Rattle.examination.proofs.exports.put_mark.Goals as goal

-- A test as a number
one_if_is : (b : Bool) → from_bool b ≡ one_if b
unfolding one_if
one_if_is true = refl
one_if_is false = refl

pub refusal_code-requires : goal.refusal_code-requires
refusal_code-requires c = c.requires _ _ (ap mark_answer c.in-Err.is ∙ mark_answer_refused _)

pub returns-in-Err : goal.returns-in-Err
unfolding mark_status mark_row
returns-in-Err c = let told = sym (ap mark_answer c.in-Err.is ∙ mark_answer_refused _) in
    record {
      returned = c.refusal_code.ensures ∙ ap mark_status told;
      row = ap (λ (o : MarkOutcome). mark_row o c.args.answer.now) told;
    }

pub returns-in-Ok-Undecided : goal.returns-in-Ok-Undecided
unfolding mark_status mark_row
returns-in-Ok-Undecided c = let u = c.in-Ok-Undecided in
    let told = sym (ap mark_answer (u.is ∙ ap Ok (rw u.is at u.field-0-is)) ∙ mark_answer_undecided u.sheet u.tries) in
    record {
      returned = ap mark_status told;
      row = ap (λ (o : MarkOutcome). mark_row o c.args.answer.now) told;
    }

pub returns-in-Ok-Decided : goal.returns-in-Ok-Decided
unfolding mark_status mark_row
returns-in-Ok-Decided c = let d = c.in-Ok-Decided in
    let told = sym (ap mark_answer (d.is ∙ ap Ok (rw d.is at d.field-0-is)) ∙ mark_answer_decided d.sheet d.best d.equal _ d.tries) in
    record {
      returned = ap mark_status told;
      row = ap (λ (same : ℕ). d.sheet.least ∷ d.sheet.sum ∷ d.best.least ∷ d.best.sum ∷ same ∷ d.tries ∷ []) (c.from.ensures ∙ one_if_is d.equal)
          ∙ ap (λ (o : MarkOutcome). mark_row o c.args.answer.now) told;
    }
