-- `search::caps::held_cap` meets its contract. Assumes nothing.
use mathlib.Core.Path.{sym, ◌∙◌}
use native.Mathlib.Omega.{arith}
use Rattle.network.specs.Engine.Stored.{net_of}
use Rattle.search.proofs.Laws.CapScan.{cap_le, cap_unserved}
use Rattle.search.proofs.caps.held_cap.Goals as goal

pub overflow_cast-result : goal.overflow_cast-result
overflow_cast-result c = omega (arith, c.cap_of.ensures, cap_le (net_of c.args.network.now.rows) c.args.network.now.valid c.args.stop)

pub returns-else-served : goal.returns-else-served
returns-else-served c = sym (cap_unserved (net_of c.args.network.now.rows) c.args.stop (sym c.requires ∙ c.if-served.false))
