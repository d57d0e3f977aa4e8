-- Upper ratings that bound the least gap and the sum each bound the rating. Assumes nothing.
use Prim.Native.Nat.{ℕ, ◌≤◌}
use mathlib.Core.Path.{◌≡◌}
use mathlib.Core.Bool.{true, false}
use mathlib.Core.List.{List, ◌++◌}
use lib.IntN.{ℤ}
use Rattle.network.specs.Rating.{Rating}
use Rattle.network.specs.Rating.{is_above}
use Rattle.network.proofs.Laws.Gaps.{not_above_of_le}
use Rattle.search.proofs.Laws.Walk.{ChosenBelow}

-- An upper rating is never below a completion's
abbrev pub IsUpper : (List ℤ → Rating) → List ℕ → Type 0
IsUpper upper counts = (placed tail : List ℤ) → ChosenBelow counts (placed ++ tail) → is_above (upper (placed ++ tail)) (upper placed) ≡ false

-- Its least gap and its sum are each not below a completion's
pub record BoundsEach (upper : List ℤ → Rating) (counts : List ℕ) : Type 0 where
  pub least_bounded : (placed tail : List ℤ) → ChosenBelow counts (placed ++ tail) → (upper (placed ++ tail)).least ≤ (upper placed).least
  pub sum_bounded : (placed tail : List ℤ) → ChosenBelow counts (placed ++ tail) → (upper (placed ++ tail)).sum ≤ (upper placed).sum

pub upper_of_bounds_each : (upper : List ℤ → Rating) (counts : List ℕ) → ((starts : List ℤ) → (upper starts).some ≡ true) → BoundsEach upper counts
    → IsUpper upper counts
upper_of_bounds_each upper counts rates bounds placed tail c =
    not_above_of_le (upper (placed ++ tail)) (upper placed) (rates _) (rates _) (bounds.least_bounded placed tail c) (bounds.sum_bounded placed tail c)
