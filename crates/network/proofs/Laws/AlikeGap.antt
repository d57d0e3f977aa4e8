-- Stops that are alike have the same gap: place by place their calls are of the same lines, and two of them arrive there apart by the difference
-- of their starts and that of their offsets, which leaves the same remainder, so the gaps of the pairs are the same. Assumes nothing.
use Prim.Native.Nat.{ℕ, ◌<◌}
use mathlib.Core.Path.{◌≡◌, sym, ap, ap₂, ◌∙◌}
use mathlib.Core.List.{List}
use native.Mathlib.Omega.{arith}
use lib.IntN.{ℤ, pos, ◌+ℤ◌, ◌-ℤ◌}
use lib.ListN.{length, get_or}
use Rattle.network.specs.declared.Call.{Call}
use Rattle.network.specs.Divisor.{gcd}
use Rattle.network.specs.Network.{Net}
use Rattle.network.specs.Valid.{Valid}
use Rattle.network.specs.Gap.{residue, gap_of}
use Rattle.network.specs.Rating.{arrival_of, period_of, gap_of_calls, gap_of_stop, calls_of_stop, stop_gap}
use Rattle.network.specs.Classes.{ordered, ordered_call, remainder, Alike}
use Rattle.network.proofs.Laws.Divisor.{gcd_pos_left}
use Rattle.network.proofs.Laws.Integers.{difference, difference_add, difference_sub, eq_of_difference}
use Rattle.network.proofs.Laws.Gap.{residue_of_add, gap_of_residue}
use Rattle.network.proofs.Laws.Pairs.{gap_of_stop_same_places}
use Rattle.network.proofs.Laws.Permuted.{gap_of_stop_permuted}
use Rattle.network.proofs.Laws.Tidy.{tidy_is_permutation}
use Rattle.network.proofs.Laws.Alike.{ordered_period_pos, same_length, same_line_at}

-- Beside the starts `x` and `y`, the gap of two arrivals hangs on the remainder of their offsets' difference alone
gap_of_offsets : (x y a b c d : ℤ) (t u : ℕ) → 0 < gcd t u → residue (a -ℤ b) (gcd t u) ≡ residue (c -ℤ d) (gcd t u)
    → gap_of (x +ℤ a) t (y +ℤ b) u ≡ gap_of (x +ℤ c) t (y +ℤ d) u
gap_of_offsets x y a b c d t u h e =
    gap_of_residue (x +ℤ a) (y +ℤ b) (x +ℤ c) (y +ℤ d) t u
    (ap by (parts a b) ∙ residue_of_add (a -ℤ b) (c -ℤ d) (x -ℤ y) (gcd t u) h e ∙ sym (ap by (parts c d)))
  where
    by : ℤ → ℕ
    by z = residue z (gcd t u)

    parts : (a b : ℤ) → (x +ℤ a) -ℤ (y +ℤ b) ≡ (a -ℤ b) +ℤ (x -ℤ y)
    parts a b =
        eq_of_difference (difference_sub (difference_add (difference x) (difference a)) (difference_add (difference y) (difference b)))
        (difference_add (difference_sub (difference a) (difference b)) (difference_sub (difference x) (difference y))) (omega arith)

module _ {n : Net} (v : Valid n) where
  module _ {s t : ℕ} (a : Alike n s t) where
    line_is : (j : ℕ) → j < length (ordered n s) → (ordered_call n s j).line ≡ (ordered_call n t j).line
    line_is = same_line_at n s t a.same_lines

    period_is : (j : ℕ) → j < length (ordered n s) → period_of n (ordered_call n s j) ≡ period_of n (ordered_call n t j)
    unfolding period_of
    period_is j h = ap (λ (i : ℕ). get_or n.periods i 0) (line_is j h)

    same_gap : (starts : List ℤ) (j k : ℕ) → j < length (ordered n s) → k < length (ordered n s)
        → gap_of_calls n starts (ordered_call n s j) (ordered_call n s k) ≡ gap_of_calls n starts (ordered_call n t j) (ordered_call n t k)
    unfolding gap_of_calls arrival_of remainder
    same_gap starts j k h l =
        let start : Call → ℤ = λ c. get_or starts c.line (pos 0) in
        let p = period_of n (ordered_call n s j) in
        let q = period_of n (ordered_call n s k) in
        let at : ℕ → ℕ → ℤ = λ stop place. pos (ordered_call n stop place).offset in
        gap_of_offsets (start (ordered_call n s j)) (start (ordered_call n s k)) (at s j) (at s k) (at t j) (at t k) p q
        (gcd_pos_left _ _ (ordered_period_pos v s j h))
        (a.same_remainders j k h l ∙ ap (residue (at t j -ℤ at t k)) (sym (ap₂ gcd (period_is j h) (period_is k l))))
        ∙ ap₂ (λ (x y : ℤ). gap_of (x +ℤ at t j) p (y +ℤ at t k) q)
        (ap (λ (i : ℕ). get_or starts i (pos 0)) (line_is j h)) (ap (λ (i : ℕ). get_or starts i (pos 0)) (line_is k l))
        ∙ ap₂ (λ (x y : ℕ). gap_of (start (ordered_call n t j) +ℤ at t j) x (start (ordered_call n t k) +ℤ at t k) y) (period_is j h) (period_is k l)

  -- The gap of a stop by its calls in order
  stop_gap_ordered : (starts : List ℤ) (s : ℕ) → gap_of_stop n starts (ordered n s) ≡ stop_gap n starts s
  unfolding stop_gap ordered
  stop_gap_ordered starts s = gap_of_stop_permuted n starts (tidy_is_permutation (calls_of_stop n s)) (ordered_period_pos v s)

  pub alike_same_gap : {s t : ℕ} → Alike n s t → (starts : List ℤ) → stop_gap n starts s ≡ stop_gap n starts t
  alike_same_gap {s} {t} a starts =
      sym (stop_gap_ordered starts s)
      ∙ gap_of_stop_same_places n n starts starts (ordered n s) (ordered n t) (same_length n s t a.same_lines) (period_is a)
      (λ j k h l. same_gap a starts j k (omega (arith, h, l)) l)
      ∙ stop_gap_ordered starts t
