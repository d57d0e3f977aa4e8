-- `network::reader::read` meets its contract: it answers what `read_network` read. Assumes nothing.
use Prim.Native.Nat.{ℕ}
use mathlib.Core.Path.{◌≡◌, ap, ◌∙◌}
use mathlib.Core.List.{[], ◌∷◌}
use lib.ListN.{length}
use Rattle.network.specs.declared.Rows.{Rows}
use Rattle.network.specs.Network.{served_stops, cycle}
use Rattle.network.specs.Reading.{values, read_answer, read_outcome}
use Rattle.network.specs.Engine.Read.{reading_of}
use Rattle.network.specs.Engine.Stored.{net_of, Sound}
use Rattle.network.proofs.Laws.Results.{error_is}
use Rattle.network.proofs.Laws.Stored.{held_lines, held_calls}
use Rattle.network.proofs.reader.read.Goals as goal

values_are :
    (n : Rows) (stops : ℕ)
    → Sound n
    → stops ≡ served_stops (net_of n)
    → values (n.lines ∷ stops ∷ n.count ∷ n.cycle ∷ [])
    ≡ values (length (net_of n).periods ∷ served_stops (net_of n) ∷ length (net_of n).calls ∷ cycle (net_of n) ∷ [])
values_are n stops s e = cc (held_lines n s, held_calls n s, s.cycle_is)

pub returns-in_err-network-clause-answer : goal.returns-in_err-network-clause-answer
unfolding read_answer read_outcome reading_of
returns-in_err-network-clause-answer c =
    rw (error_is c.from_residual.result c.from_residual.ensures.1) (ap read_outcome (ap reading_of c.in_err-network.ensures.value ∙ c.read_network-read.ensures.1))

pub returns-clause-answer : goal.returns-clause-answer
unfolding read_answer read_outcome reading_of
returns-clause-answer c =
    let n = c.in_ok-network.network.now in
    values_are n.rows c.count_served.result n.sound c.count_served.ensures ∙ ap read_outcome (ap reading_of c.in_ok-network.ensures.value ∙ c.read_network-read.ensures.1)
