-- `network::divisor::gcd`: its measure is the second number, which a remainder by it is below.
use Rattle.network.proofs.divisor.+gcd.Given as goal

abbrev pub decreases-gcd : goal.decreases-gcd
decreases-gcd l = l.b
