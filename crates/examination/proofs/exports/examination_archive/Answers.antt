-- `examination::exports::examination_archive` meets its contract: it hands on what the archive call answers and leaves in the row. Assumes nothing.
use mathlib.Core.Path.{sym, ap, ◌∙◌}
use Rattle.network.specs.Archive.{archive_answer}
use Rattle.examination.specs.Exports.{archive_status}
use Rattle.examination.proofs.Laws.Refusals.{archive_low}
use Rattle.examination.proofs.exports.examination_archive.Goals as goal

pub refusal_code-requires : goal.refusal_code-requires
unfolding archive_answer
refusal_code-requires c = archive_low c.args.file.now c.args.row.now (sym c.archive.ensures.answer ∙ ap archive_answer c.in-Err.is)

pub returns-in-Err : goal.returns-in-Err
unfolding archive_status archive_answer
returns-in-Err c = record {
  returned = c.refusal_code.ensures ∙ ap archive_status (sym (ap archive_answer c.in-Err.is) ∙ c.archive.ensures.answer);
  row = c.archive.ensures.row;
  bytes = c.archive.ensures.bytes;
}

pub returns-in-Ok : goal.returns-in-Ok
unfolding archive_status archive_answer
returns-in-Ok c = record {
  returned = ap archive_status (sym (ap archive_answer c.in-Ok.is) ∙ c.archive.ensures.answer);
  row = c.archive.ensures.row;
  bytes = c.archive.ensures.bytes;
}
