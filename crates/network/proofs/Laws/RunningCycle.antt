-- Laws of the running common cycle: at every place to which reading comes all periods so far are positive, so that the cycle is their least common
-- multiple, and a line that passes brings it forward. Each follows from the grounds of one command. Assumes nothing.
use Prim.Native.Nat.{ℕ, ◌<◌, ◌≤◌}
use mathlib.Core.Path.{◌≡◌, refl}
use mathlib.Core.List.{List, [], ◌∷◌, ◌++◌}
use native.Mathlib.Omega.{arith}
use lib.ListN.{length, get_or}
use Rattle.network.specs.Grounds.{Passes}
use Rattle.network.specs.Divisor.{IsLeastCommonMultiple}
use Rattle.network.specs.Network.{SoFar, Command, states_line, calls_by_offset, calls_by_ride, ends, states_edition, unknown, word, cycle, max_cycle, with_line, with_call, command, extend}
use Rattle.network.specs.Grounds.{first, grounds}
use Rattle.network.specs.Gives.{Reached, start, next}
use Rattle.network.proofs.Laws.Members.{all_snoc}
use Rattle.network.proofs.Laws.Divisor.{lcm_is_least_common_multiple, common_cycle_is_least_common_multiple}
use Rattle.network.proofs.Laws.Network.{cycle_with_line}
use Rattle.network.proofs.Laws.Grounds.{line_passes}

abbrev pub Positive : List ℕ → Type 0
Positive periods = (i : ℕ) → i < length periods → 0 < get_or periods i 0

positive_next : (c : Command) (f : SoFar) (p : ℕ) (behind : List ℕ) → first (grounds c f p behind) ≡ Passes → Positive f.network.periods
    → Positive (extend c f behind).network.periods
unfolding extend with_line with_call
positive_next states_line f p behind e h = all_snoc 0 (λ q. 0 < q) f.network.periods h (line_passes f p behind e).period_pos
positive_next calls_by_offset f p behind e h = h
positive_next calls_by_ride f p behind e h = h
positive_next ends f p behind e h = h
positive_next states_edition f p behind e h = h
positive_next unknown f p behind e h = h

module _ {file : List ℕ} where
  pub reached_positive : {f : SoFar} {p : ℕ} {rest : List ℕ} → Reached file f p rest → Positive f.network.periods
  reached_positive start = λ i h. absurd (omega arith)
  reached_positive (next {f = f} {p = p} {b = b} {behind = behind} r e c) = positive_next (command b) f p behind e (reached_positive r)

  pub reached_cycle : {f : SoFar} {p : ℕ} {rest : List ℕ} → Reached file f p rest → IsLeastCommonMultiple f.network.periods (cycle f.network)
  unfolding cycle
  reached_cycle {f = f} r = common_cycle_is_least_common_multiple f.network.periods (reached_positive r)

module _ (f : SoFar) (behind : List ℕ) where
  pub periods_of_line : (extend states_line f behind).network.periods ≡ f.network.periods ++ (word behind 0 ∷ [])
  unfolding extend with_line
  periods_of_line = refl

  pub cycle_of_line : (p : ℕ) → 0 < cycle f.network → first (grounds states_line f p behind) ≡ Passes
      → IsLeastCommonMultiple (cycle f.network ∷ word behind 0 ∷ []) (cycle (extend states_line f behind).network)
  unfolding extend
  cycle_of_line p h e =
      rw (cycle_with_line f.network (word behind 0))
      (lcm_is_least_common_multiple (cycle f.network) (word behind 0) h (line_passes f p behind e).period_pos)

  pub cycle_of_line_le : (p : ℕ) → first (grounds states_line f p behind) ≡ Passes → cycle (extend states_line f behind).network ≤ max_cycle
  unfolding extend
  cycle_of_line_le p e = rw (cycle_with_line f.network (word behind 0)) (line_passes f p behind e).cycle_max

  -- no other command states a line
  pub others_state_no_line : (c : Command) → (c ≡ states_line → ⊥)
      → ((extend c f behind).network.periods ≡ f.network.periods) × (cycle (extend c f behind).network ≡ cycle f.network)
  unfolding extend with_call cycle
  others_state_no_line states_line h = absurd (h refl)
  others_state_no_line calls_by_offset h = (refl, refl)
  others_state_no_line calls_by_ride h = (refl, refl)
  others_state_no_line ends h = (refl, refl)
  others_state_no_line states_edition h = (refl, refl)
  others_state_no_line unknown h = (refl, refl)
