-- Which stops are alike: it is an equivalence of served stops, and the test of each place beside those before it tells it, since a remainder
-- settles that of the difference the other way round. Assumes nothing.
use Prim.Native.Nat.{ℕ, ◌<◌, ◌≤◌}
use mathlib.Core.Path.{◌≡◌, refl, sym, ap, ap₂, subst, ◌∙◌}
use mathlib.Core.Bool.{true, and-eq-true_iff}
use mathlib.Core.Logic.{◌↔◌}
use mathlib.Core.List.Permᴰ
use mathlib.Core.List.{List, map}
use native.Mathlib.Decide.{dec_lt}
use native.Mathlib.Omega.{arith}
use lib.IntN.{ℤ, pos, ◌-ℤ◌, +ℤ_invr}
use lib.ListN.{length, get_or, length-map}
use borrow.Author.Tests.{eqb-true, eq-eqb}
use Rattle.network.specs.declared.Call.{Call}
use Rattle.network.specs.Lists.{all_below}
use Rattle.network.specs.Divisor.{gcd}
use Rattle.network.specs.Network.{Net, max_stop, is_served}
use Rattle.network.specs.Valid.{no_call, Valid}
use Rattle.network.specs.Gap.{residue}
use Rattle.network.specs.Rating.{CallsThere, period_of, calls_of_stop}
use Rattle.network.specs.Classes.{ordered, ordered_call, remainder, Alike, same_line, same_remainder, is_alike}
use Rattle.network.proofs.Laws.Lists.{and_both, get_d_map, map_same_places}
use Rattle.network.proofs.Laws.Members.{All, member_of_any, place_of_member}
use Rattle.network.proofs.Laws.Permutations.{all_permuted}
use Rattle.network.proofs.Laws.Tables.{all_below_at, all_below_of_each}
use Rattle.network.proofs.Laws.Divisor.{gcd_comm, gcd_pos_left}
use Rattle.network.proofs.Laws.Integers.{difference, difference_sub, difference_add_multiple, difference_of_eq, eq_of_difference}
use Rattle.network.proofs.Laws.Gap.{multiple_of_residue_eq, residue_eq_of_multiple}
use Rattle.network.proofs.Laws.StopGap.{calls_of_stop_all}
use Rattle.network.proofs.Laws.Tidy.{tidy_is_permutation}

-- ---- a served stop

pub served_le_max_stop : {n : Net} → Valid n → (s : ℕ) → is_served s n.calls ≡ true → s ≤ max_stop
unfolding is_served
served_le_max_stop {n} v s e =
    let (c, m, f) = member_of_any _ n.calls e in
    let (k, h, q) = place_of_member n.calls no_call m in
    rw (eqb-true c.stop s f) at (rw q at (v.call_stop k h))

-- ---- its calls in order

-- What holds of each call of the file at the stop holds of each in order
pub ordered_all : (n : Net) (s : ℕ) (P : Call → Type 0) → ((k : ℕ) → CallsThere n s k → P (get_or n.calls k no_call)) → All no_call P (ordered n s)
unfolding ordered
ordered_all n s P f =
    all_permuted no_call P (Permᴰ.symm (tidy_is_permutation (calls_of_stop n s)))
    (λ i h. let (k, (c, e)) = calls_of_stop_all n s i h in subst P e (f k c))

pub ordered_period_pos : {n : Net} → Valid n → (s : ℕ) → All no_call (λ c. 0 < period_of n c) (ordered n s)
unfolding period_of
ordered_period_pos {n} v s =
    ordered_all n s (λ c. 0 < period_of n c) (λ k c. v.period_pos (get_or n.calls k no_call).line (v.call_line k c.stated))

pub ordered_line_lt : {n : Net} → Valid n → (s : ℕ) → All no_call (λ c. c.line < length n.periods) (ordered n s)
ordered_line_lt {n} v s = ordered_all n s (λ c. c.line < length n.periods) (λ k c. v.call_line k c.stated)

-- Stops with the same lines place by place
module _ (n : Net) (s t : ℕ) (e : map (λ (c : Call). c.line) (ordered n s) ≡ map (λ (c : Call). c.line) (ordered n t)) where
  pub same_length : length (ordered n s) ≡ length (ordered n t)
  same_length = sym (length-map (ordered n s) _) ∙ ap length e ∙ length-map (ordered n t) _

  pub same_line_at : (j : ℕ) → j < length (ordered n s) → (ordered_call n s j).line ≡ (ordered_call n t j).line
  same_line_at j h =
      sym (get_d_map (λ (c : Call). c.line) (ordered n s) j no_call 0 h)
      ∙ ap (λ (ls : List ℕ). get_or ls j 0) e
      ∙ get_d_map (λ (c : Call). c.line) (ordered n t) j no_call 0 (omega (arith, same_length))

-- ---- an equivalence

pub alike_refl : (n : Net) (s : ℕ) → is_served s n.calls ≡ true → Alike n s s
alike_refl n s e = record { first_served = e; second_served = e; same_lines = refl; same_remainders = λ j k h l. refl }

pub alike_sym : {n : Net} {s t : ℕ} → Alike n s t → Alike n t s
alike_sym {n} {s} {t} a =
    record {
      first_served = a.second_served;
      second_served = a.first_served;
      same_lines = sym a.same_lines;
      same_remainders = λ j k h l.
          let m = same_length n s t a.same_lines in sym (a.same_remainders j k (omega (arith, h, m)) (omega (arith, l, m)));
    }

pub alike_trans : {n : Net} {s t u : ℕ} → Alike n s t → Alike n t u → Alike n s u
alike_trans {n} {s} {t} {u} a b =
    record {
      first_served = a.first_served;
      second_served = b.second_served;
      same_lines = a.same_lines ∙ b.same_lines;
      same_remainders = λ j k h l.
          let m = same_length n s t a.same_lines in
          a.same_remainders j k h l ∙ b.same_remainders j k (omega (arith, h, m)) (omega (arith, l, m));
    }

-- ---- the test

-- The remainder of a difference settles that of the difference the other way round
residue_of_swapped : (a b c d : ℤ) (g : ℕ) → 0 < g → residue (a -ℤ b) g ≡ residue (c -ℤ d) g → residue (b -ℤ a) g ≡ residue (d -ℤ c) g
residue_of_swapped a b c d g h e =
    let (k, f) = multiple_of_residue_eq (c -ℤ d) (a -ℤ b) g h (sym e) in
    let i = difference_of_eq (difference_sub (difference c) (difference d))
    (difference_add_multiple (difference_sub (difference a) (difference b)) (difference k) g) f in
    residue_eq_of_multiple (b -ℤ a) (d -ℤ c) k g
    (eq_of_difference (difference_sub (difference b) (difference a))
    (difference_add_multiple (difference_sub (difference d) (difference c)) (difference k) g) (omega arith))

module _ {n : Net} (v : Valid n) where
  gcd_pos : (s j : ℕ) (d : Call) → j < length (ordered n s) → 0 < gcd (period_of n (ordered_call n s j)) (period_of n d)
  gcd_pos s j d h = gcd_pos_left _ _ (ordered_period_pos v s j h)

  module _ (s t : ℕ) (lines : all_below (same_line n s t) (length (ordered n s)) ≡ true)
      (test : all_below (λ j. all_below (same_remainder n s t j) j) (length (ordered n s)) ≡ true) where
    line_of_test : (j : ℕ) → j < length (ordered n s) → (ordered_call n s j).line ≡ (ordered_call n t j).line
    unfolding same_line
    line_of_test j h = eqb-true _ _ (all_below_at (same_line n s t) (length (ordered n s)) j lines h)

    period_of_test : (j : ℕ) → j < length (ordered n s) → period_of n (ordered_call n s j) ≡ period_of n (ordered_call n t j)
    unfolding period_of
    period_of_test j h = ap (λ (i : ℕ). get_or n.periods i 0) (line_of_test j h)

    abbrev Same : ℕ → ℕ → Type 0
    Same j k = remainder n (ordered_call n s j) (ordered_call n s k) ≡ remainder n (ordered_call n t j) (ordered_call n t k)

    same_before : (j k : ℕ) → k < j → j < length (ordered n s) → Same j k
    unfolding same_remainder
    same_before j k h l = eqb-true _ _ (all_below_at (same_remainder n s t j) j k (all_below_at _ (length (ordered n s)) j test l) h)

    same_behind : (j k : ℕ) → j < k → k < length (ordered n s) → Same j k
    unfolding remainder
    same_behind j k h l =
        let at : ℕ → ℕ → ℤ = λ stop place. pos (ordered_call n stop place).offset in
        let there : j < length (ordered n s) = omega (arith, h, l) in
        let g = gcd (period_of n (ordered_call n s k)) (period_of n (ordered_call n s j)) in
        let turned = same_before k j h l in
        ap (residue (at s j -ℤ at s k)) (gcd_comm _ _)
        ∙ residue_of_swapped (at s k) (at s j) (at t k) (at t j) g (gcd_pos s k (ordered_call n s j) l)
        (turned ∙ ap (residue (at t k -ℤ at t j)) (sym (ap₂ gcd (period_of_test k l) (period_of_test j there))))
        ∙ ap (residue (at t j -ℤ at t k)) (gcd_comm _ _ ∙ ap₂ gcd (period_of_test j there) (period_of_test k l))

    same_itself : (j k : ℕ) → j ≡ k → j < length (ordered n s) → Same j k
    unfolding remainder
    same_itself j k e l =
        rw (← e)
        (ap₂ residue (+ℤ_invr (pos (ordered_call n s j).offset) ∙ sym (+ℤ_invr (pos (ordered_call n t j).offset)))
        (ap₂ gcd (period_of_test j l) (period_of_test j l)))

    same_of_test : (j k : ℕ) → j < length (ordered n s) → k < length (ordered n s) → Same j k
    same_of_test j k h l = go (dec_lt k j) (dec_lt j k)
      where
        go : Dec (k < j) → Dec (j < k) → Same j k
        go (yes q) p = same_before j k q h
        go (no q) (yes p) = same_behind j k p l
        go (no q) (no p) = same_itself j k (omega arith) h

  alike_of_is_alike : (s t : ℕ) → is_alike n s t ≡ true → Alike n s t
  unfolding is_alike
  alike_of_is_alike s t e =
      let (abcd, test) = (and-eq-true_iff _ _).0 e in
      let (abc, lines) = (and-eq-true_iff _ _).0 abcd in
      let (ab, long) = (and-eq-true_iff _ _).0 abc in
      let (first, second) = (and-eq-true_iff _ _).0 ab in
      record {
        first_served = first;
        second_served = second;
        same_lines = map_same_places _ _ (ordered n s) (ordered n t) no_call no_call (eqb-true _ _ long) (line_of_test s t lines test);
        same_remainders = same_of_test s t lines test;
      }

is_alike_of_alike : {n : Net} {s t : ℕ} → Alike n s t → is_alike n s t ≡ true
unfolding is_alike same_line same_remainder
is_alike_of_alike {n} {s} {t} a =
    and_both _ _
    (and_both _ _
    (and_both _ _ (and_both _ _ a.first_served a.second_served) (eq-eqb _ _ (same_length n s t a.same_lines)))
    (all_below_of_each _ (length (ordered n s)) (λ j h. eq-eqb _ _ (same_line_at n s t a.same_lines j h))))
    (all_below_of_each _ (length (ordered n s))
    (λ j h. all_below_of_each _ j (λ k l. eq-eqb _ _ (a.same_remainders j k h (omega (arith, h, l))))))

pub alike_is_alike : {n : Net} → Valid n → (s t : ℕ) → (is_alike n s t ≡ true) ↔ Alike n s t
alike_is_alike v s t = (alike_of_is_alike v s t, is_alike_of_alike)
