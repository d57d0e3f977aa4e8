-- `network::divisor::gcd` meets its contract: its measure is the second number, which a remainder by it is below.
-- Assumes nothing.
use mathlib.Core.Path.{sym, ap, ◌∙◌}
use native.Mathlib.Nat.{pos_of_ne-zero}
use Rattle.network.specs.Divisor as divisor
use Rattle.network.proofs.Laws.Divisor.{gcd_zero, gcd_step_pos}
use Rattle.network.proofs.divisor.+gcd.Goals as goal

pub returns-then-b-eq0 : goal.returns-then-b-eq0
returns-then-b-eq0 t c = sym (ap (divisor.gcd c.args.a) c.if-b-eq0.true ∙ gcd_zero c.args.a)

pub returns-else-b-eq0 : goal.returns-else-b-eq0
returns-else-b-eq0 t c = c.gcd.ensures ∙ sym (gcd_step_pos c.args.a c.args.b (pos_of_ne-zero c.if-b-eq0.false))
