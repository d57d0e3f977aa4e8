-- `search::walking::walk_held` meets its contract: the walk where the row has one place for each line, and ground 16 otherwise. Assumes nothing.
use mathlib.Core.Path.{◌≡◌, sym, ap, ◌∙◌}
use Prim.Native.Nat.{ℕ}
use lib.ListN.{length}
use Rattle.network.specs.Network.{Net}
use Rattle.network.specs.Engine.Stored.{net_of}
use Rattle.network.proofs.Laws.Stored.{held_lines, number_of_start_row}
use Rattle.search.specs.Engine.Representation.{state_by, state_of, rule_of, ended, refusal, ending_of}
use Rattle.search.specs.Search.{walked}
use Rattle.search.proofs.Laws.StartRow.{on_start_row_fit, on_start_row_unfit}
use Rattle.search.proofs.walking.walk_held.Goals as goal

pub returns-then-places-network-clause-ended : goal.returns-then-places-network-clause-ended
unfolding ending_of state_of
returns-then-places-network-clause-ended c =
    let n = c.args.network.now in
    let fits : c.args.places ≡ length (net_of n.rows).periods = c.if-places-network.true ∙ sym (held_lines n.rows n.sound) in
    ap (λ (k : ℕ). ended (state_by k c.walked.result)) fits
    ∙ ap ended c.walked.ensures
    ∙ sym (on_start_row_fit (λ (m : Net). ended (walked m (rule_of c.args.rule) c.args.budget)) refusal (net_of n.rows) c.args.places fits)

pub returns-else-places-network-clause-ended : goal.returns-else-places-network-clause-ended
unfolding ending_of
returns-else-places-network-clause-ended c =
    let n = c.args.network.now in
    rw (c.at.ensures, number_of_start_row)
    (sym (on_start_row_unfit (λ (m : Net). ended (walked m (rule_of c.args.rule) c.args.budget)) refusal (net_of n.rows) c.args.places
    (λ e. c.if-places-network.false (e ∙ held_lines n.rows n.sound))))

pub returns-then-places-network-clause-fits : goal.returns-then-places-network-clause-fits
returns-then-places-network-clause-fits c = c.if-places-network.true ∙ sym (held_lines c.args.network.now.rows c.args.network.now.sound)
