-- Every timetable rates as one of those that the walk tries, line 0 at 0 and each other line below its period: all starts are moved
-- together, by minus the first, and each is then reduced by its line's period. Assumes nothing.
use Prim.Native.Nat.{ℕ, zero, suc, ◌<◌}
use mathlib.Core.Path.{◌≡◌, refl, sym, ap, ◌∙◌}
use mathlib.Core.List.{List, [], ◌∷◌, map}
use native.Mathlib.Nat.{zero-lt-suc, le_of_suc-le-suc, zero-mod}
use native.Mathlib.Omega.{arith}
use lib.IntN.{ℤ, pos, neg_ℤ, ◌+ℤ◌, +ℤ_invr}
use lib.ListN.{length, get_or, length-map}
use Rattle.network.specs.Network.{Net}
use Rattle.network.specs.Valid.{Valid}
use Rattle.network.specs.Gap.{residue}
use Rattle.network.specs.Rating.{rating}
use Rattle.network.proofs.Laws.Members.{All, all_tail}
use Rattle.network.proofs.Laws.Gaps.{residue_lt, rating_residues, rating_moved_together, residue_of_residue, residue_pos}
use Rattle.search.specs.Search.{start_counts}
use Rattle.search.proofs.Laws.Walk.{ChosenBelow, none_left, next}

-- Each start reduced by its line's period
residues : List ℕ → List ℤ → List ℤ
residues [] starts = []
residues (t ∷ periods) [] = []
residues (t ∷ periods) (x ∷ starts) = pos (residue x t) ∷ residues periods starts

-- All starts moved together, so that the first is 0
from_first : List ℤ → List ℤ
from_first starts = map (λ x. x +ℤ neg_ℤ (get_or starts 0 (pos 0))) starts

pub reduced : List ℕ → List ℤ → List ℤ
reduced periods starts = residues periods (from_first starts)

length_residues : (periods : List ℕ) (starts : List ℤ) → length starts ≡ length periods → length (residues periods starts) ≡ length periods
unfolding residues
length_residues [] starts e = refl
length_residues (t ∷ periods) [] e = absurd (omega arith)
length_residues (t ∷ periods) (x ∷ starts) e = ap suc (length_residues periods starts (omega arith))

residues_same : (periods : List ℕ) (starts : List ℤ) → All 0 (λ t. 0 < t) periods → length starts ≡ length periods
    → (i : ℕ) → i < length periods
    → residue (get_or (residues periods starts) i (pos 0)) (get_or periods i 0) ≡ residue (get_or starts i (pos 0)) (get_or periods i 0)
unfolding residues
residues_same [] starts f e i h = absurd (omega arith)
residues_same (t ∷ periods) [] f e i h = absurd (omega arith)
residues_same (t ∷ periods) (x ∷ starts) f e zero h = sym (residue_of_residue x t (f 0 h))
residues_same (t ∷ periods) (x ∷ starts) f e (suc i) h =
    residues_same periods starts (all_tail 0 (λ t. 0 < t) t periods f) (omega arith) i (le_of_suc-le-suc h)

chosen_residues : (periods : List ℕ) (starts : List ℤ) → All 0 (λ t. 0 < t) periods → length starts ≡ length periods
    → ChosenBelow periods (residues periods starts)
unfolding residues
chosen_residues [] starts f e = none_left
chosen_residues (t ∷ periods) [] f e = absurd (omega arith)
chosen_residues (t ∷ periods) (x ∷ starts) f e =
    next (residue_lt x t (f 0 (zero-lt-suc _))) (chosen_residues periods starts (all_tail 0 (λ t. 0 < t) t periods f) (omega arith))

chosen_reduced : (periods : List ℕ) (starts : List ℤ) → All 0 (λ t. 0 < t) periods → length starts ≡ length periods
    → ChosenBelow (start_counts periods) (reduced periods starts)
unfolding reduced from_first residues start_counts
chosen_reduced [] starts f e = none_left
chosen_reduced (t ∷ periods) [] f e = absurd (omega arith)
chosen_reduced (t ∷ periods) (x ∷ starts) f e =
    let first = ap (λ y. residue y t) (+ℤ_invr x) ∙ residue_pos 0 t in
    next {x = residue (x +ℤ neg_ℤ x) t} {count = 1} (omega (arith, first, zero-mod t))
    (chosen_residues periods (map (λ y. y +ℤ neg_ℤ x) starts) (all_tail 0 (λ t. 0 < t) t periods f) (rw length-map (omega arith)))

module _ {n : Net} (valid : Valid n) (starts : List ℤ) (fits : length starts ≡ length n.periods) where
  fits_moved : length (from_first starts) ≡ length n.periods
  unfolding from_first
  fits_moved = rw length-map fits

  pub reduced_length : length (reduced n.periods starts) ≡ length n.periods
  unfolding reduced
  reduced_length = length_residues n.periods (from_first starts) fits_moved

  pub reduced_chosen : ChosenBelow (start_counts n.periods) (reduced n.periods starts)
  reduced_chosen = chosen_reduced n.periods starts valid.period_pos fits

  pub reduced_rating : rating n (reduced n.periods starts) ≡ rating n starts
  unfolding reduced from_first
  reduced_rating =
      rating_residues valid _ (from_first starts) (residues_same n.periods (from_first starts) valid.period_pos fits_moved)
      ∙ rating_moved_together valid starts fits _
