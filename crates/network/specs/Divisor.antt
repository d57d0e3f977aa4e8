-- Document 01, "Gap and rating" and "The network file": the greatest common divisor, by repeated remainder, the least common
-- multiple, and the common cycle of a list of periods; and document 02, A.4: the least common multiple by what it is.
use Rattle.std.specs.Prelude.{ℕ, zero, suc, ◌*◌, ◌/◌, ◌%◌, ◌<◌, ◌≡◌, List, [], ◌∷◌, length, get_or}

-- `d` divides `n`: `n` is `k` times `d` for some `k`
unfoldable pub Divides : ℕ → ℕ → Type 0
Divides d n = (k : ℕ) × (n ≡ k * d)

-- Repeated remainder, at most so many times. The second number falls each time, so that many as it says are enough
unfoldable pub gcd_within : ℕ → ℕ → ℕ → ℕ
gcd_within zero a b = a
gcd_within (suc k) a zero = a
gcd_within (suc k) a (suc b) = gcd_within k (suc b) (a % suc b)

-- The greatest common divisor
unfoldable pub gcd : ℕ → ℕ → ℕ
gcd a b = gcd_within b a b

-- The least common multiple
unfoldable pub lcm : ℕ → ℕ → ℕ
lcm a b = a / gcd a b * b

-- The least common multiple of a number and a list of numbers
unfoldable pub cycle_from : ℕ → List ℕ → ℕ
cycle_from c [] = c
cycle_from c (p ∷ ps) = cycle_from (lcm c p) ps

-- The common cycle: the least common multiple of all periods
unfoldable pub common_cycle : List ℕ → ℕ
common_cycle ps = cycle_from 1 ps

-- The least common multiple of a list of numbers by what it is, whichever way it is computed: it is positive, each of them divides it, and it
-- divides whatever each of them divides
pub record IsLeastCommonMultiple (numbers : List ℕ) (m : ℕ) : Type 0 where
  pub positive : 0 < m
  pub multiple : (i : ℕ) → i < length numbers → Divides (get_or numbers i 0) m
  pub least : (k : ℕ) → ((i : ℕ) → i < length numbers → Divides (get_or numbers i 0) k) → Divides m k
