-- Document 01, "Gap and rating": arrivals over all trips, past and future, the gap of two lines at a stop over all of them
-- (source 000, definition 2.1.4), and the formula of theorem 3.1.2. Starts and arrivals are integers of any size.
use Rattle.std.specs.Prelude.{ℕ, suc, ◌-◌, ◌%◌, ◌≤◌, min, ◌≡◌, ℤ, pos, negsuc, nat_abs, ◌+ℤ◌, ◌-ℤ◌, ◌*ℤ◌}
use Rattle.network.specs.Divisor.{gcd}

-- One trip's arrival: one arrival of the line (equation 2.1.1), plus a whole multiple of its period, negative ones included
unfoldable pub trip : ℤ → ℕ → ℤ → ℤ
trip a period k = a +ℤ k *ℤ pos period

-- The minutes between two arrivals
unfoldable pub distance : ℤ → ℤ → ℕ
distance x y = nat_abs (x -ℤ y)

-- The gap ("Sicherheitsabstand", safety distance) of two lines at a stop, one of which arrives at `a` with period `t` and the other at
-- `b` with period `u`: some trip of each attains it, and no two trips are closer (definition 2.1.4, over all integers)
pub record IsGap (a : ℤ) (t : ℕ) (b : ℤ) (u : ℕ) (gap : ℕ) : Type 0 where
  pub attained : (j : ℤ) × (k : ℤ) × (distance (trip a t j) (trip b u k) ≡ gap)
  pub least : (j k : ℤ) → gap ≤ distance (trip a t j) (trip b u k)

-- The same over the trips counted from 0 on alone, as the source writes it (equation 2.1.2)
pub record IsGapFromZero (a : ℤ) (t : ℕ) (b : ℤ) (u : ℕ) (gap : ℕ) : Type 0 where
  pub attained : (j : ℕ) × (k : ℕ) × (distance (trip a t (pos j)) (trip b u (pos k)) ≡ gap)
  pub least : (j k : ℕ) → gap ≤ distance (trip a t (pos j)) (trip b u (pos k))

-- An integer reduced to 0..g-1
unfoldable pub residue : ℤ → ℕ → ℕ
residue (pos n) g = n % g
residue (negsuc n) g = g - suc (n % g)

-- The lesser of d and g-d
unfoldable pub fold : ℕ → ℕ → ℕ
fold g d = min d (g - d)

-- The gap by theorem 3.1.2: g the greatest common divisor of the periods, d the difference of two arrivals reduced to 0..g-1
unfoldable pub gap_of : ℤ → ℕ → ℤ → ℕ → ℕ
gap_of a t b u = fold (gcd t u) (residue (a -ℤ b) (gcd t u))
