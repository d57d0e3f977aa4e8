-- A rating with the value of one stop lowered: its least is the least of what it was and the new value, and its sum has the new value in
-- place of the old, since the stop is served and counts once. Assumes nothing.
use Prim.Native.Nat.{ℕ, ◌+◌, ◌-◌, ◌≤◌, min}
use mathlib.Core.Path.{◌≡◌, refl, sym, ap, ap₂, ◌∙◌}
use mathlib.Core.Bool.{true}
use mathlib.Core.List.{List, map, Memᴰ}
use native.Mathlib.Decide.{ℕ_discrete}
use native.Mathlib.Omega.{arith}
use borrow.Author.Tests.{eq-eqb, ne_eqb}
use lib.Dec.{eqb}
use Rattle.network.specs.Rating.{Rating}
use Rattle.network.specs.Lists.{pick, least_of}
use Rattle.network.specs.Network.{Net, is_served}
use Rattle.network.specs.Valid.{Valid}
use Rattle.network.specs.Rating.{served_list, counted, rating_by}
use Rattle.network.proofs.Laws.Members.{place_of_member}
use Rattle.network.proofs.Laws.Least.{least_of_map_le, least_of_map_member}
use Rattle.network.proofs.Laws.Gaps.{rating_by_counted, served_list_member, sum_of_served_other}

module _ (f g : ℕ → ℕ) (s : ℕ) (others : (t : ℕ) → (t ≡ s → ⊥) → g t ≡ f t) where
  least_of_one_lower : g s ≤ f s → (xs : List ℕ) → Memᴰ s xs → least_of (map g xs) ≡ min (least_of (map f xs)) (g s)
  least_of_one_lower lower xs m =
      let (k, some, c) = place_of_member xs 0 m in
      let (i, h, e) = least_of_map_member f xs (omega arith) in
      let (j, l, d) = least_of_map_member g xs (omega arith) in
      omega (
        arith,
        least_of_map_le g xs m,
        least_of_map_le g xs h,
        least_of_map_le f xs l,
        between i (ℕ_discrete i s),
        between j (ℕ_discrete j s),
      )
    where
      between : (t : ℕ) → Dec (t ≡ s) → (g t ≤ f t) × (min (f t) (g s) ≤ g t)
      between t (yes d) = omega (arith, ap f d, ap g d)
      between t (no d) = omega (arith, others t d)

-- ---- the rating over the stops that count, each once

module _ (n : Net) (valid : Valid n) (f : ℕ → ℕ) (s : ℕ) (served : is_served s n.calls ≡ true) where
  pub value_le_sum : f s ≤ (rating_by f (counted n)).sum
  value_le_sum =
      let e = sum_of_served_other n valid f s served (λ t. pick (eqb t s) 0 (f t)) (λ t d. rw (ne_eqb t s d)) in
      omega (arith, rw (eq-eqb s s refl) at e, ap (λ (r : Rating). r.sum) (rating_by_counted f n))

  pub rating_lowered :
      (g : ℕ → ℕ)
      → ((t : ℕ) → (t ≡ s → ⊥) → g t ≡ f t)
      → g s ≤ f s
      → rating_by g (counted n)
      ≡ record {
        some = true;
        least = min (rating_by f (counted n)).least (g s);
        sum = ((rating_by f (counted n)).sum + g s) - f s;
      }
  rating_lowered g others lower =
      rating_by_counted g n
      ∙ ap₂ (λ (l v : ℕ). record { some = true; least = l; sum = v })
      (least_of_one_lower f g s others lower (served_list n) (served_list_member valid s served)
      ∙ ap (λ (r : Rating). min r.least (g s)) (sym (rating_by_counted f n)))
      (omega (arith, sum_of_served_other n valid f s served g others, ap (λ (r : Rating). r.sum) (rating_by_counted f n)))
