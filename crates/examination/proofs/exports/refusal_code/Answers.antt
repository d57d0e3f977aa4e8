-- `examination::exports::refusal_code` meets its contract by arithmetic. Assumes nothing.
use native.Mathlib.Omega.{arith}
use Rattle.examination.specs.Exports.{refusal_code}
use Rattle.examination.proofs.exports.refusal_code.Goals as goal

pub returns : goal.returns
unfolding refusal_code
returns c = omega (arith, c.number.ensures)
