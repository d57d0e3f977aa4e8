-- Where every two of a list of arrivals with periods keep a gap of δ or more, δ times the sum of C / period is at most C, a common
-- multiple of the periods: the δ minutes that begin with an arrival of one never meet those of another (theorem 3.1.2), and of C minutes
-- each takes up δ * (C / period). Assumes nothing.
use Prim.Native.Nat.{ℕ, ◌+◌, ◌*◌, ◌/◌, ◌%◌, ◌≤◌, ◌<◌}
use native.Mathlib.Nat.{add-mod_left}
use native.Mathlib.Omega.{arith}
use mathlib.Core.Path.{◌≡◌, ap, fun_ext, ◌∙◌}
use mathlib.Core.Bool.{Bool, true, false}
use mathlib.Core.List.{List, Memᴰ}
use lib.Dec.{ltb}
use lib.IntN.{ℤ, pos, neg_ℤ, ◌-ℤ◌, +ℤ_comm}
use borrow.Author.Tests.{ltb-true, le-ltb}
use Rattle.network.specs.declared.Call.{Call}
use Rattle.network.specs.Lists.{count_below, sum_of}
use Rattle.network.specs.Divisor.{Divides}
use Rattle.network.specs.Network.{Net}
use Rattle.network.specs.Gap.{trip, residue, gap_of}
use Rattle.network.specs.Rating.{arrival_of, period_of, gap_of_calls}
use Rattle.network.proofs.Laws.Members.{EveryTwo, every_two_of_implied}
use Rattle.network.proofs.Laws.Tables.{count_below_periods_from, count_below_remainder_lt}
use Rattle.network.proofs.Laws.Sums.{sum_of_same, mul_sum_of, sum_of_count_below_le}
use Rattle.network.proofs.Laws.Divisor.{div_mul_of_divides, pos_of_divides}
use Rattle.network.proofs.Laws.Integers.{IsDifference, difference, difference_pos, difference_sub, difference_add_multiple}
use Rattle.network.proofs.Laws.Integers.{difference_of_eq}
use Rattle.network.proofs.Laws.Gaps.{residue_of_add, multiple_of_residue_eq, theorem_3_1_2, difference_trip, distance_of_difference}
use Rattle.network.proofs.Laws.Gaps.{gap_of_calls_is_gap_of, residue_of_residue, residue_pos}

-- ---- arrivals at `a` and at every multiple of `t` minutes from there

-- Minute `m` is one of the δ minutes that begin with some arrival
abbrev soon : ℕ → ℤ → ℕ → ℕ → Bool
soon δ a t m = ltb (residue (pos m -ℤ a) t) δ

module _ (a : ℤ) (t : ℕ) (t_pos : 0 < t) where
  residue_of_minute : (m : ℕ) → residue (pos m -ℤ a) t ≡ (residue (neg_ℤ a) t + m) % t
  residue_of_minute m =
      ap (λ (x : ℤ). residue x t) (+ℤ_comm (pos m) (neg_ℤ a))
      ∙ residue_of_add (neg_ℤ a) (pos (residue (neg_ℤ a) t)) (pos m) t t_pos (residue_of_residue (neg_ℤ a) t t_pos)
      ∙ residue_pos (residue (neg_ℤ a) t + m) t

  trip_before_minute : (m : ℕ) → (k : ℤ) × IsDifference (trip a t k) m (residue (pos m -ℤ a) t)
  trip_before_minute m =
      let r : ℕ = residue (pos m -ℤ a) t in
      let (k, e) = multiple_of_residue_eq (pos m -ℤ a) (pos r) t t_pos (residue_of_residue (pos m -ℤ a) t t_pos) in
      let minute = difference_sub (difference_pos m) (difference a) in
      let f = difference_of_eq minute (difference_add_multiple (difference_pos r) (difference k) t) e in
      (k, record { balance = omega (arith, difference_trip (difference a) (difference k) t) })

  count_below_soon : (δ C : ℕ) → δ ≤ t → Divides t C → count_below (soon δ a t) C ≡ δ * (C / t)
  count_below_soon δ C h d =
      let c : ℕ = residue (neg_ℤ a) t in
      let p : ℕ → Bool = λ i. ltb (i % t) δ in
      let e = ap (λ (q : ℕ → Bool). count_below q C) (fun_ext λ m. ap (λ (r : ℕ). ltb r δ) (residue_of_minute m)) in
      let f = ap (count_below (λ m. p (c + m))) (div_mul_of_divides t C d) in
      let g = count_below_periods_from p t (λ i. ap (λ (r : ℕ). ltb r δ) (add-mod_left t i)) (C / t) c in
      let k : count_below p t ≡ δ = count_below_remainder_lt t δ t (omega arith) ∙ omega arith in
      omega (arith, ap (λ (n : ℕ). C / t * n) k)

not_soon_of_soon : (δ : ℕ) (a : ℤ) (t : ℕ) (b : ℤ) (u m : ℕ) → 0 < t → 0 < u → δ ≤ gap_of a t b u
    → soon δ a t m ≡ true → soon δ b u m ≡ false
not_soon_of_soon δ a t b u m t_pos u_pos h e =
    let (j, d) = trip_before_minute a t t_pos m in
    let (k, f) = trip_before_minute b u u_pos m in
    let nearest = (theorem_3_1_2 a t b u t_pos u_pos).least j k in
    le-ltb _ δ (omega (arith, ltb-true _ δ e, distance_of_difference d f))

-- ---- a list of arrivals with periods

module _ {A : Type 0} (at : A → ℤ) (period : A → ℕ) (C δ : ℕ) (xs : List A) (C-pos : 0 < C)
    (divides : (x : A) → Memᴰ x xs → Divides (period x) C) (fits : (x : A) → Memᴰ x xs → δ ≤ period x)
    (apart : EveryTwo (λ x y. δ ≤ gap_of (at x) (period x) (at y) (period y)) xs) where
  cover : δ * sum_of (λ x. C / period x) xs ≤ C
  cover = omega (arith, mul_sum_of δ (λ x. C / period x) xs, sum_of_same _ _ xs counted, sum_of_count_below_le near xs alone C)
    where
      near : A → ℕ → Bool
      near x = soon δ (at x) (period x)

      positive : (x : A) → Memᴰ x xs → 0 < period x
      positive x m = pos_of_divides (period x) C (divides x m) C-pos

      counted : (x : A) → Memᴰ x xs → count_below (near x) C ≡ δ * (C / period x)
      counted x m = count_below_soon (at x) (period x) (positive x m) δ C (fits x m) (divides x m)

      alone : (m : ℕ) → EveryTwo (λ x y. near x m ≡ true → near y m ≡ false) xs
      alone m = every_two_of_implied (λ x y. δ ≤ gap_of (at x) (period x) (at y) (period y)) _ xs
          (λ x y k l. not_soon_of_soon δ (at x) (period x) (at y) (period y) m (positive x k) (positive y l)) apart

-- ---- the calls of a network

pub cover_calls : (n : Net) (starts : List ℤ) (C δ : ℕ) (cs : List Call) → 0 < C
    → ((c : Call) → Memᴰ c cs → Divides (period_of n c) C) → ((c : Call) → Memᴰ c cs → δ ≤ period_of n c)
    → EveryTwo (λ c d. δ ≤ gap_of_calls n starts c d) cs → δ * sum_of (λ c. C / period_of n c) cs ≤ C
cover_calls n starts C δ cs C-pos divides fits apart =
    cover (arrival_of starts) (period_of n) C δ cs C-pos divides fits
    (every_two_of_implied (λ c d. δ ≤ gap_of_calls n starts c d) _ cs (λ c d _ _ h. rw gap_of_calls_is_gap_of at h) apart)
