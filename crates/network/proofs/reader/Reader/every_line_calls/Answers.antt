-- `network::reader::Reader::every_line_calls` meets its contract: the part of the row that is gone over has a place for each line. Assumes nothing.
use native.Mathlib.Omega.{arith}
use lib.Dec.{ltb}
use lib.ListN.{take}
use mathlib.Core.Path.{◌∙◌}
use Rattle.std.proofs.Common.{rules, tests}
use Rattle.std.proofs.lemmas.Iterator.{YieldsList-from_slice}
use Rattle.std.proofs.lemmas.Iterator.Search.{all_from_yields_List}
use Rattle.network.proofs.Laws.Chains.{all_below_of_front}
use Rattle.network.proofs.reader.Reader.every_line_calls.Goals as goal

pub returns : goal.returns
returns c =
    let r = c.args.self.now in
    all_from_yields_List (ltb 0) _ _ _ c.all.ensures.ran (YieldsList-from_slice (take r.rows.lines r.latest) cc) (λ x b q k. search (rules, tests))
    ∙ all_below_of_front (ltb 0) 0 r.rows.lines r.latest (omega (arith, r.in_step.latest_row, r.in_step.sound.lines))
