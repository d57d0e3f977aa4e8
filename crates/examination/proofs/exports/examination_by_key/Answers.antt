-- `examination::exports::examination_by_key` meets its contract: it hands on what the call by a key answers on the sheets that the bytes stand
-- for. Assumes nothing.
use mathlib.Core.Path.{◌≡◌, sym, ap, ap₂, ◌∙◌}
use mathlib.Core.List.{List}
use lib.IntN.{ℤ}
use Rattle.network.specs.Reading.{Outcome, read_file}
use Rattle.network.specs.Valid.{IsBytes}
use Rattle.examination.specs.Bytes.{key_bytes}
use Rattle.examination.specs.Exports.{status, row_after}
use Rattle.examination.specs.ByKey.{key_answer, key_outcome}
use Rattle.examination.proofs.Laws.Bytes.{key_on_bytes}
use Rattle.examination.proofs.Laws.Refusals.{key_bytes_low}
use Rattle.examination.proofs.exports.examination_by_key.Goals as goal
use Rattle.examination.proofs.exports.examination_by_key.Goals.{After-by_key, After-sheet_of-taken}

-- What is answered on the starts is due on the bytes
answered : (c : After-by_key) → key_answer c.by_key.result ≡ key_bytes (read_file c.args.file.now) c.args.sheet.now c.args.key.now
answered c =
    c.by_key.ensures.answer
    ∙ ap₂ (λ (sheet key : List ℤ). key_outcome (read_file c.args.file.now) sheet key) (c.starts.ensures ∙ c.sheet_of-taken.ensures)
    (c.starts-2.ensures ∙ c.sheet_of-best.ensures)
    ∙ key_on_bytes c.args.file.now c.by_key.ensures.bytes c.args.sheet.now c.args.key.now

-- What was lent as sheet and key are bytes
sheet_bytes : (c : After-sheet_of-taken) → IsBytes c.args.sheet.now
unfolding IsBytes
sheet_bytes c i = (c.type_inv.sheet i).fits

keys_bytes : (c : After-sheet_of-taken) → IsBytes c.args.key.now
unfolding IsBytes
keys_bytes c i = (c.type_inv.key i).fits

pub refusal_code-requires : goal.refusal_code-requires
unfolding key_answer
refusal_code-requires c =
    key_bytes_low c.args.file.now c.by_key.ensures.bytes c.args.sheet.now c.args.key.now
    (sym (answered (goal.at.refusal_code-requires c).After-by_key) ∙ ap key_answer c.in-Err.is)

pub returns-in-Err : goal.returns-in-Err
unfolding status row_after key_answer
returns-in-Err c =
    let told = sym (ap key_answer c.in-Err.is) ∙ answered (goal.at.returns-in-Err c).After-by_key in
    let lent = (goal.at.returns-in-Err c).After-sheet_of-taken in
    record {
      returned = c.refusal_code.ensures ∙ ap status told;
      row = ap (λ (o : Outcome). row_after o c.args.hundred.now) told;
      bytes = c.by_key.ensures.bytes;
      sheet = sheet_bytes lent;
      key = keys_bytes lent;
    }

pub returns-in-Ok : goal.returns-in-Ok
unfolding status row_after key_answer
returns-in-Ok c =
    let told = sym (ap key_answer c.in-Ok.is) ∙ answered (goal.at.returns-in-Ok c).After-by_key in
    let lent = (goal.at.returns-in-Ok c).After-sheet_of-taken in
    record {
      returned = ap status told;
      row = ap (λ (o : Outcome). row_after o c.args.hundred.now) told;
      bytes = c.by_key.ensures.bytes;
      sheet = sheet_bytes lent;
      key = keys_bytes lent;
    }
