-- `network::rate::rate_held` meets its contract: it answers as rate does on the network in the first edition, and no rating goes by the edition.
-- Assumes nothing.
use mathlib.Core.Path.{ap, ◌∙◌}
use Rattle.network.specs.Network.{Net}
use Rattle.network.specs.Rate.{rate_outcome}
use Rattle.network.specs.Reading.{accepted}
use Rattle.network.specs.Engine.Stored.{net_of}
use Rattle.network.proofs.Laws.Lent.{rate_in_edition}
use Rattle.network.proofs.rate.rate_held.Goals as goal

pub returns : goal.returns
returns c h =
    c.rate_network.ensures
    ∙ ap (λ (n : Net). rate_outcome (accepted n) c.args.sheet.now) (c.lent-network.ensures h)
    ∙ rate_in_edition (net_of h.network) 1 c.args.sheet.now
