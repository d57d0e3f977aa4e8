-- `network::timetable::timetable_of` meets its contract: a network has as many periods as its rows count. Assumes nothing.
use mathlib.Core.Path.{sym, ◌∙◌}
use Rattle.network.proofs.Laws.Stored.{held_lines}
use Rattle.network.proofs.timetable.timetable_of.Goals as goal

pub invariant_of-result : goal.invariant_of-result
invariant_of-result c = let n = c.args.network.now in
    record { fits = c.if-sheet-network.true ∙ sym (held_lines n.rows n.sound) }

pub returns-then-sheet-network-clause-fits : goal.returns-then-sheet-network-clause-fits
returns-then-sheet-network-clause-fits c = let n = c.args.network.now in
    c.if-sheet-network.true ∙ sym (held_lines n.rows n.sound)

pub returns-else-sheet-network-clause-err : goal.returns-else-sheet-network-clause-err
returns-else-sheet-network-clause-err c = let n = c.args.network.now in
    (c.at.ensures, λ e. c.if-sheet-network.false (e ∙ held_lines n.rows n.sound))
