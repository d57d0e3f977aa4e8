-- The parts of a packed number stand above each other, each below the next one's unit, so that the first call and the number of starts of a
-- line come out again. Assumes nothing.
use Prim.Native.Nat.{ℕ, ◌+◌, ◌*◌, ◌/◌, ◌%◌, ◌≤◌, ◌<◌}
use mathlib.Core.Path.{◌≡◌}
use mathlib.Core.Bool.{Bool, true, false}
use mathlib.Core.List.{List}
use native.Mathlib.Omega.{arith}
use borrow.Author.Tests.{lt-ltb}
use lib.Dec.{ltb}
use lib.ListN.{get_or}
use Rattle.network.specs.Lists.{pick}
use Rattle.search.specs.Engine.Representation.{first_in, count_in}

-- Line, stop and offset of a packed call
abbrev pub line_in : ℕ → ℕ
line_in code = code / 4194304

abbrev pub stop_in : ℕ → ℕ
stop_in code = code / 65536 % 64

abbrev pub offset_in : ℕ → ℕ
offset_in code = code % 65536

-- ---- a line

-- The number of line `k`; behind the last line the place alone
abbrev pub line_code : (first counts : List ℕ) → ℕ → ℕ → ℕ
line_code first counts lines k = pick (ltb k lines) (get_or counts k 0 * 512) 0 + get_or first k 0

module _ (first counts : List ℕ) (lines k : ℕ) (low : get_or first k 0 ≤ 256) where
  pub first_of_code : first_in (line_code first counts lines k) ≡ get_or first k 0
  first_of_code = go (ltb k lines)
    where
      go : (t : Bool) → (pick t (get_or counts k 0 * 512) 0 + get_or first k 0) % 512 ≡ get_or first k 0
      go true = omega (arith, low)
      go false = omega (arith, low)

  pub count_of_code : k < lines → count_in (line_code first counts lines k) ≡ get_or counts k 0
  count_of_code h = rw (lt-ltb k lines h) (omega (arith, low))
