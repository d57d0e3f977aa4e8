-- `examination::exports::examination_better` meets its contract: it answers by number which of the two sheets that the bytes stand for is the
-- better. Assumes nothing.
use mathlib.Core.Path.{◌≡◌, sym, ap, ap₂, ◌∙◌}
use mathlib.Core.List.{List}
use lib.IntN.{ℤ}
use Rattle.network.specs.Reading.{read_file}
use Rattle.network.specs.Valid.{IsBytes}
use Rattle.examination.specs.Bytes.{better_bytes}
use Rattle.examination.specs.Exports.{better_status}
use Rattle.examination.specs.Sheets.{choice_of, better_of}
use Rattle.examination.proofs.Laws.Bytes.{better_on_bytes}
use Rattle.examination.proofs.exports.examination_better.Goals as goal
use Rattle.examination.proofs.exports.examination_better.Goals.{After-choose, After-sheet_of-one}

-- What was chosen between the starts is due on the bytes
chosen : (c : After-choose) → choice_of c.choose.result ≡ better_bytes (read_file c.args.file.now) c.args.first.now c.args.second.now
chosen c =
    c.choose.ensures.choice
    ∙ ap₂ (λ (one other : List ℤ). better_of (read_file c.args.file.now) one other) (c.starts.ensures ∙ c.sheet_of-one.ensures) (c.starts-2.ensures ∙ c.sheet_of-other.ensures)
    ∙ better_on_bytes c.args.file.now c.choose.ensures.bytes c.args.first.now c.args.second.now

-- What was lent as sheets are bytes
first_bytes : (c : After-sheet_of-one) → IsBytes c.args.first.now
unfolding IsBytes
first_bytes c i = (c.type_inv.first i).fits

second_bytes : (c : After-sheet_of-one) → IsBytes c.args.second.now
unfolding IsBytes
second_bytes c i = (c.type_inv.second i).fits

pub returns-in-First : goal.returns-in-First
unfolding better_status choice_of
returns-in-First c =
    let lent = (goal.at.returns-in-First c).After-sheet_of-one in
    record {
      returned = ap better_status (sym (ap choice_of c.in-First.is) ∙ chosen (goal.at.returns-in-First c).After-choose);
      bytes = c.choose.ensures.bytes;
      first = first_bytes lent;
      second = second_bytes lent;
    }

pub returns-in-Second : goal.returns-in-Second
unfolding better_status choice_of
returns-in-Second c =
    let lent = (goal.at.returns-in-Second c).After-sheet_of-one in
    record {
      returned = ap better_status (sym (ap choice_of c.in-Second.is) ∙ chosen (goal.at.returns-in-Second c).After-choose);
      bytes = c.choose.ensures.bytes;
      first = first_bytes lent;
      second = second_bytes lent;
    }

pub returns-in-Neither : goal.returns-in-Neither
unfolding better_status choice_of
returns-in-Neither c =
    let lent = (goal.at.returns-in-Neither c).After-sheet_of-one in
    record {
      returned = ap better_status (sym (ap choice_of c.in-Neither.is) ∙ chosen (goal.at.returns-in-Neither c).After-choose);
      bytes = c.choose.ensures.bytes;
      first = first_bytes lent;
      second = second_bytes lent;
    }
