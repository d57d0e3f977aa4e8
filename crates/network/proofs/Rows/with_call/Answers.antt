-- `network::Rows::with_call` meets its contract: the place behind the calls is written, and counts from then on.
-- Assumes nothing.
use mathlib.Core.Path.{sym, ap, ◌∙◌}
use Rattle.network.specs.Engine.Stored.{packed}
use Rattle.network.proofs.Laws.Stored.{call_added_lem, sound_call}
use Rattle.network.proofs.Rows.with_call.Goals as goal

pub returns : goal.returns
returns c = let n = c.args.self in (
  sound_call n c.requires.0 c.packed.result c.requires.1 (ap packed c.packed.ensures.1 ∙ sym c.packed.ensures.0),
  call_added_lem n c.requires.0 c.packed.result c.requires.1 c.args.call c.packed.ensures.1,
)
