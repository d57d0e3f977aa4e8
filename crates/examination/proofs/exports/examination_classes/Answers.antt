-- `examination::exports::examination_classes` meets its contract: it hands on what the class call answers and leaves in the rows.
-- Assumes nothing.
use mathlib.Core.Path.{sym, ap, ◌∙◌}
use Rattle.network.specs.Reading.{Outcome}
use Rattle.examination.specs.Exports.{status, row_after}
use Rattle.examination.proofs.Laws.Refusals.{class_low}
use Rattle.examination.proofs.exports.examination_classes.Goals as goal

pub put_count-requires : goal.put_count-requires
put_count-requires c number place e = class_low c.args.file.now c.args.class_row.now c.args.weight_row.now (sym c.classes.ensures.answer ∙ e)

pub returns : goal.returns
returns c = let told = c.classes.ensures.answer in
    record {
      returned = c.put_count.ensures.returned ∙ ap status told;
      row = c.put_count.ensures.row ∙ ap (λ (o : Outcome). row_after o c.args.answer.now) told;
      classes = c.classes.ensures.classes;
      weights = c.classes.ensures.weights;
      bytes = c.classes.ensures.bytes;
    }
