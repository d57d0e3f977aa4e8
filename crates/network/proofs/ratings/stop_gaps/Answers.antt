-- `network::ratings::stop_gaps` meets its contract: the gaps are those of the network in the first edition, and no gap goes by the edition.
-- Assumes nothing.
use mathlib.Core.Path.{sym, ap, ◌∙◌}
use lib.ListN.{length}
use Rattle.network.specs.Network.{Net}
use Rattle.network.specs.Rating.{stop_gap}
use Rattle.network.specs.Engine.Stored.{net_of}
use Rattle.network.proofs.Laws.Lent.{stop_gap_in_edition}
use Rattle.network.proofs.ratings.stop_gaps.Goals as goal

pub invariant_of-timetable : goal.invariant_of-timetable
invariant_of-timetable c =
    record { fits = c.requires.lines_are ∙ ap (λ (n : Net). length n.periods) (sym (c.lent-network.ensures c.requires)) }

pub returns : goal.returns
returns c h stop low counts =
    c.stop_gaps.ensures stop low (c.counted-flags.ensures stop low counts)
    ∙ ap (λ (n : Net). stop_gap n c.args.sheet.now stop) (c.lent-network.ensures h)
    ∙ stop_gap_in_edition (net_of h.network) 1 c.args.sheet.now stop
