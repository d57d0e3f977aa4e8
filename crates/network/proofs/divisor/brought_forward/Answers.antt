-- `network::divisor::brought_forward` meets its contract: the divisor of a positive number is positive, a quotient is at most what was divided,
-- and what is computed is the least common multiple. Assumes nothing.
use native.Mathlib.Nat.{div-le_self, mul-le-mul, lt_of_le_of_lt, le_trans}
use lib.Dec.{lit<}
use Rattle.network.specs.Divisor as divisor
use Rattle.network.proofs.Laws.Divisor.{gcd_pos_left, lcm_is_least_common_multiple}
use Rattle.network.proofs.divisor.brought_forward.Goals as goal

pub nonzero_div-result : goal.nonzero_div-result
nonzero_div-result c = rw c.gcd.ensures (gcd_pos_left c.args.cycle c.args.period c.requires.0)

pub overflow_mul-result : goal.overflow_mul-result
overflow_mul-result c = record {
  fits = lt_of_le_of_lt
      (mul-le-mul (le_trans (div-le_self c.args.cycle c.gcd.result) c.requires.1) c.requires.3)
      (lit< tt);
}

pub returns : goal.returns
unfolding divisor.lcm
returns c = rw c.gcd.ensures (lcm_is_least_common_multiple c.args.cycle c.args.period c.requires.0 c.requires.2)
