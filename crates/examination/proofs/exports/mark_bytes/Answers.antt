-- `examination::exports::mark_bytes` meets its contract: what mark answers on the starts is due on the bytes. Assumes nothing.
use mathlib.Core.Path.{ap, ◌∙◌}
use mathlib.Core.List.{List}
use lib.IntN.{ℤ}
use Rattle.network.specs.Reading.{read_file}
use Rattle.examination.specs.Sheets.{mark_outcome}
use Rattle.examination.proofs.Laws.Bytes.{mark_on_bytes}
use Rattle.examination.proofs.exports.mark_bytes.Goals as goal

pub returns : goal.returns
returns c = record {
  answer = c.mark.ensures.answer
      ∙ ap (λ (sheet : List ℤ). mark_outcome (read_file c.args.file.now) sheet c.args.budget) (c.starts.ensures ∙ c.sheet_of-taken.ensures)
      ∙ mark_on_bytes c.args.budget c.args.file.now c.mark.ensures.bytes c.args.sheet.now;
  bytes = c.mark.ensures.bytes;
}
