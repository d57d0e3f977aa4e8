-- `examination::marking::marked` meets its contract, case by case. Assumes nothing.
use mathlib.Core.Path.{sym, ap, ap₂, ◌∙◌}
use mathlib.Core.Bool.{Bool}
use Prim.Native.Nat.{ℕ}
use Rattle.std.specs.Prelude.{Ok}
use Rattle.network.proofs.Laws.Gaps.{is_equal_numbers}
use Rattle.search.specs.Search.{SearchOutcome, search_answer}
use Rattle.search.proofs.Demands.{search_answer_finished, search_answer_stopped, search_answer_none}
use Rattle.examination.specs.Sheets as sheets
use Rattle.examination.proofs.marking.marked.Goals as goal

pub returns-in-Finished : goal.returns-in-Finished
unfolding sheets.mark_answer sheets.marked
returns-in-Finished c =
    let sheet = c.args.sheet in
    let best = c.in-Finished.best in
    let answers : Bool → ℕ → ℕ → sheets.MarkOutcome =
    λ equal mark remainder. sheets.decided sheet.least sheet.sum best.least best.sum equal mark remainder c.in-Finished.tries in
    ap (λ (b : Bool). answers b c.out_of_hundred.result.mark c.out_of_hundred.result.remainder)
    (c.is_equal.ensures ∙ is_equal_numbers sheet.least sheet.sum best.least best.sum)
    ∙ ap₂ (answers _) c.out_of_hundred.ensures.mark c.out_of_hundred.ensures.remainder
    ∙ sym (ap (λ (o : SearchOutcome). sheets.marked sheet.least sheet.sum o) (ap (λ a. search_answer (Ok a)) c.in-Finished.is ∙ search_answer_finished best.least best.sum c.in-Finished.tries))

pub returns-in-Stopped : goal.returns-in-Stopped
unfolding sheets.mark_answer sheets.marked
returns-in-Stopped c =
    sym (ap (λ (o : SearchOutcome). sheets.marked c.args.sheet.least c.args.sheet.sum o) (ap (λ a. search_answer (Ok a)) c.in-Stopped.is ∙ search_answer_stopped c.in-Stopped.best.least c.in-Stopped.best.sum c.in-Stopped.tries))

pub returns-in-StoppedWithNone : goal.returns-in-StoppedWithNone
unfolding sheets.mark_answer sheets.marked
returns-in-StoppedWithNone c =
    sym (ap (λ (o : SearchOutcome). sheets.marked c.args.sheet.least c.args.sheet.sum o) (ap (λ a. search_answer (Ok a)) c.in-StoppedWithNone.is ∙ search_answer_none _))
