-- The formula of theorem 3.1.2 gives the gap of two lines, over all trips and over those from 0 on, and the laws of that formula and of
-- residues: the differences of two trips are all the integers of one residue by the periods' greatest common divisor. Assumes nothing.
use Prim.Native.Nat.{ℕ, suc, ◌+◌, ◌*◌, ◌-◌, ◌/◌, ◌%◌, ◌≤◌, ◌<◌, min}
use native.Mathlib.Nat.{mod-lt, mod-le, mod-eq_of_lt, div-add-mod', add-mul-mod_self_right}
use native.Mathlib.Nat.{eq-zero-or-pos, le_antisymm, le-mul_of_pos_right, eq_of_mul-eq-mul_right}
use native.Mathlib.Omega.{arith, min_cases}
use mathlib.Core.Path.{◌≡◌, refl, sym, ap, subst, ◌∙◌}
use mathlib.Core.Bool.{Bool, true, false}
use mathlib.Core.Logic.{◌⊎◌, inl, inr}
use borrow.Author.Tests.{eq-eqb, ne_eqb}
use lib.Dec.{eqb}
use lib.IntN.{ℤ, pos, negsuc, nat_abs, sub_ℕ, ◌+ℤ◌, ◌-ℤ◌, ◌*ℤ◌, zero-*ℤ, +ℤ_idr}
use Rattle.network.specs.Lists.{pick}
use Rattle.network.specs.Divisor.{gcd}
use Rattle.network.specs.Gap.{trip, distance, IsGap, IsGapFromZero, residue, fold, gap_of}
use Rattle.network.proofs.Laws.Divisor.{div_mul_of_divides, gcd_divides_left, gcd_divides_right, gcd_combination, gcd_pos_left}
use Rattle.network.proofs.Laws.Divisor.{mod_next}
use Rattle.network.proofs.Laws.Integers.{up, dn, IsDifference, difference, difference_pos, difference_subℕ, difference_add}
use Rattle.network.proofs.Laws.Integers.{difference_sub, difference_add_multiple, difference_of_eq, eq_of_difference}
use Rattle.network.proofs.Laws.Integers.{nat_abs_of_difference}

-- ---- residues

pub residue_pos : (n g : ℕ) → residue (pos n) g ≡ n % g
unfolding residue
residue_pos n g = refl

pub residue_lt : (x : ℤ) (g : ℕ) → 0 < g → residue x g < g
unfolding residue
residue_lt (pos n) g h = mod-lt n h
residue_lt (negsuc n) g h = omega arith

pub residue_of_residue : (x : ℤ) (t : ℕ) → 0 < t → residue x t ≡ residue (pos (residue x t)) t
residue_of_residue x t h = sym (residue_pos (residue x t) t ∙ mod-eq_of_lt (residue_lt x t h))

-- x is its residue and some multiple of g
residue_balance : (x : ℤ) (g : ℕ) → 0 < g → (k : ℕ) × (l : ℕ) × (up x + l * g ≡ residue x g + k * g + dn x)
unfolding residue
residue_balance (pos n) g h = (n / g, 0, omega (arith, div-add-mod' n g))
residue_balance (negsuc n) g h = (0, suc (n / g), omega (arith, div-add-mod' n g, mod-lt n h))

remainder_unique : {r s g : ℕ} → r < g → s < g → (k l : ℕ) → r + k * g ≡ s + l * g → r ≡ s
remainder_unique {r} {s} {g} h i k l e =
    sym (mod-eq_of_lt h) ∙ sym (add-mul-mod_self_right r k g) ∙ ap (λ (n : ℕ). n % g) e ∙ add-mul-mod_self_right s l g ∙ mod-eq_of_lt i

pub multiple_of_residue_eq : (x y : ℤ) (g : ℕ) → 0 < g → residue x g ≡ residue y g → (k : ℤ) × (x ≡ y +ℤ k *ℤ pos g)
multiple_of_residue_eq x y g h e =
    let (k, l, i) = residue_balance x g h in
    let (m, n, j) = residue_balance y g h in
    let q = difference_subℕ (k + n) (l + m) in
    (sub_ℕ (k + n) (l + m), eq_of_difference (difference x) (difference_add_multiple (difference y) q g) (omega arith))

pub residue_eq_of_multiple : (x y k : ℤ) (g : ℕ) → x ≡ y +ℤ k *ℤ pos g → residue x g ≡ residue y g
residue_eq_of_multiple x y k g e = go (eq-zero-or-pos g)
  where
    y+kg : IsDifference (y +ℤ k *ℤ pos g) (up y + up k * g) (dn y + dn k * g)
    y+kg = difference_add_multiple (difference y) (difference k) g

    go : (g ≡ 0) ⊎ (0 < g) → residue x g ≡ residue y g
    go (inl z) = ap (λ (w : ℤ). residue w g)
        (e ∙ eq_of_difference y+kg (difference y) (omega (arith, ap (λ (n : ℕ). up k * n) z, ap (λ (n : ℕ). dn k * n) z)))
    go (inr h) =
        let (p, q, i) = residue_balance x g h in
        let (m, n, j) = residue_balance y g h in
        remainder_unique (residue_lt x g h) (residue_lt y g h) (p + n + dn k) (q + m + up k)
        (omega (arith, difference_of_eq (difference x) y+kg e))

pub residue_of_add : (x y z : ℤ) (g : ℕ) → 0 < g → residue x g ≡ residue y g → residue (x +ℤ z) g ≡ residue (y +ℤ z) g
residue_of_add x y z g h e =
    let (k, f) = multiple_of_residue_eq x y g h e in
    let l = difference_add (difference_add_multiple (difference y) (difference k) g) (difference z) in
    let r = difference_add_multiple (difference_add (difference y) (difference z)) (difference k) g in
    residue_eq_of_multiple (x +ℤ z) (y +ℤ z) k g (ap (λ (w : ℤ). w +ℤ z) f ∙ eq_of_difference l r (omega arith))

-- The residue of a number so much higher, and of the next
pub residue_later : (x : ℤ) (k t : ℕ) → 0 < t → residue (x +ℤ pos k) t ≡ (residue x t + k) % t
residue_later x k t positive =
    residue_of_add x (pos (residue x t)) (pos k) t positive (residue_of_residue x t positive) ∙ residue_pos (residue x t + k) t

pub residue_next : (x : ℤ) (t : ℕ) → 0 < t → residue (x +ℤ pos 1) t ≡ pick (eqb (residue x t + 1) t) 0 (residue x t + 1)
residue_next x t positive =
    residue_later x 1 t positive
    ∙ mod_next (residue x t) t positive
    ∙ ap (λ (k : ℕ). pick (eqb (k + 1) t) 0 (k + 1)) (mod-eq_of_lt (residue_lt x t positive))

-- .. which is 0 exactly where the modulus is reached
pub residue_next_zero : (x : ℤ) (t : ℕ) → 0 < t → eqb (residue (x +ℤ pos 1) t) 0 ≡ eqb (residue x t + 1) t
residue_next_zero x t positive = ap (λ (k : ℕ). eqb k 0) (residue_next x t positive) ∙ go (eqb (residue x t + 1) t)
  where
    go : (b : Bool) → eqb (pick b 0 (residue x t + 1)) 0 ≡ b
    go true = eq-eqb 0 0 refl
    go false = ne_eqb (residue x t + 1) 0 (λ e. omega (arith, e))

pub gap_of_residue : (a b c d : ℤ) (t u : ℕ) → residue (a -ℤ b) (gcd t u) ≡ residue (c -ℤ d) (gcd t u) → gap_of a t b u ≡ gap_of c t d u
unfolding gap_of
gap_of_residue a b c d t u e = ap (fold (gcd t u)) e

-- ---- the least magnitude of the integers of one residue

pub fold_is : (g d : ℕ) → fold g d ≡ min d (g - d)
unfolding fold
fold_is g d = refl

fold_residue_le : (x : ℤ) (g : ℕ) → fold g (residue x g) ≤ nat_abs x
unfolding fold residue
fold_residue_le (pos n) g = omega (arith, mod-le n g)
fold_residue_le (negsuc n) g = omega (arith, mod-le n g)

fold_residue_attained : (x : ℤ) (g : ℕ) → 0 < g → (m : ℤ) × (nat_abs (x +ℤ m *ℤ pos g) ≡ fold g (residue x g))
unfolding fold
fold_residue_attained x g h =
    let (k, l, i) = residue_balance x g h in
    let r : residue x g < g = residue_lt x g h in
    min_cases (residue x g) (g - residue x g) _
    (λ _ e. (sub_ℕ l k, nat_abs_of_difference (x+mg l k) ∙ omega arith))
    (λ _ e. (sub_ℕ l (suc k), nat_abs_of_difference (x+mg l (suc k)) ∙ omega arith))
  where
    x+mg : (l k : ℕ) → IsDifference (x +ℤ sub_ℕ l k *ℤ pos g) (up x + l * g) (dn x + k * g)
    x+mg l k = difference_add_multiple (difference x) (difference_subℕ l k) g

-- ---- trips as differences of naturals

pub difference_trip : {a k : ℤ} {p n q m : ℕ} → IsDifference a p n → IsDifference k q m → (t : ℕ) → IsDifference (trip a t k) (p + q * t) (n + m * t)
unfolding trip
difference_trip h i t = difference_add_multiple h i t

-- Different trips arrive at different minutes
pub trip_injective : (a : ℤ) (t : ℕ) → 0 < t → (j k : ℤ) → trip a t j ≡ trip a t k → j ≡ k
trip_injective a t positive j k e =
    let same = difference_of_eq (difference_trip (difference a) (difference j) t) (difference_trip (difference a) (difference k) t) e in
    let times : (up j + dn k) * t ≡ (up k + dn j) * t = omega (arith, same) in
    eq_of_difference (difference j) (difference k) (eq_of_mul-eq-mul_right t positive (up j + dn k) (up k + dn j) times)

pub distance_of_difference : {x y : ℤ} {p n q m : ℕ} → IsDifference x p n → IsDifference y q m → distance x y ≡ (p + m - (n + q)) + (n + q - (p + m))
unfolding distance
distance_of_difference h i = nat_abs_of_difference (difference_sub h i)

-- ---- the differences of two trips

module _ (a : ℤ) (t : ℕ) (b : ℤ) (u : ℕ) where
  difference_trips : {j k : ℤ} {p n q m : ℕ} → IsDifference j p n → IsDifference k q m
      → IsDifference (trip a t j -ℤ trip b u k) (up a + p * t + (dn b + m * u)) (dn a + n * t + (up b + q * u))
  difference_trips h i = difference_sub (difference_trip (difference a) h t) (difference_trip (difference b) i u)

  difference_multiple : {m : ℤ} {p n : ℕ} → IsDifference m p n
      → IsDifference (a -ℤ b +ℤ m *ℤ pos (gcd t u)) (up a + dn b + p * gcd t u) (dn a + up b + n * gcd t u)
  difference_multiple h = difference_add_multiple (difference_sub (difference a) (difference b)) h (gcd t u)

  trips_residue : (j k : ℤ) → residue (trip a t j -ℤ trip b u k) (gcd t u) ≡ residue (a -ℤ b) (gcd t u)
  trips_residue j k =
      let g : ℕ = gcd t u in
      let t/g = div_mul_of_divides g t (gcd_divides_left t u) in
      let u/g = div_mul_of_divides g u (gcd_divides_right t u) in
      let up_j = ap (λ (c : ℕ). up j * c) t/g in
      let dn_j = ap (λ (c : ℕ). dn j * c) t/g in
      let up_k = ap (λ (c : ℕ). up k * c) u/g in
      let dn_k = ap (λ (c : ℕ). dn k * c) u/g in
      let p = up j * (t / g) + dn k * (u / g) in
      let n = dn j * (t / g) + up k * (u / g) in
      let e = eq_of_difference (difference_trips (difference j) (difference k)) (difference_multiple (difference_subℕ p n)) (omega arith) in
      residue_eq_of_multiple (trip a t j -ℤ trip b u k) (a -ℤ b) (sub_ℕ p n) g e

  trips_reach : (m : ℤ) → (j : ℤ) × (k : ℤ) × (trip a t j -ℤ trip b u k ≡ a -ℤ b +ℤ m *ℤ pos (gcd t u))
  trips_reach m =
      let (p, r, q, s, e) = gcd_combination t u in
      let times : ℕ → ℕ → ℕ = λ x y. up m * x + dn m * y in
      let j = difference_subℕ (times p q) (times q p) in
      let k = difference_subℕ (times s r) (times r s) in
      let up_e = ap (λ (c : ℕ). up m * c) e in
      let dn_e = ap (λ (c : ℕ). dn m * c) e in
      let f = eq_of_difference (difference_trips j k) (difference_multiple (difference m)) (omega arith) in
      (sub_ℕ (times p q) (times q p), sub_ℕ (times s r) (times r s), f)

  pub gap_of_trips : (j k : ℤ) → gap_of (trip a t j) t (trip b u k) u ≡ gap_of a t b u
  gap_of_trips j k = gap_of_residue (trip a t j) (trip b u k) a b t u (trips_residue j k)

-- ---- theorem 3.1.2

gap_of_le_distance : (a : ℤ) (t : ℕ) (b : ℤ) (u : ℕ) → gap_of a t b u ≤ distance a b
unfolding gap_of distance
gap_of_le_distance a t b u = fold_residue_le (a -ℤ b) (gcd t u)

pub theorem_3_1_2 : (a : ℤ) (t : ℕ) (b : ℤ) (u : ℕ) → 0 < t → 0 < u → IsGap a t b u (gap_of a t b u)
unfolding gap_of distance
theorem_3_1_2 a t b u ht hu =
    let (m, e) = fold_residue_attained (a -ℤ b) (gcd t u) (gcd_pos_left t u ht) in
    let (j, k, f) = trips_reach a t b u m in
    record {
      attained = (j, k, ap nat_abs f ∙ e);
      least = λ j k. subst (λ (v : ℕ). v ≤ distance (trip a t j) (trip b u k)) (gap_of_trips a t b u j k)
          (gap_of_le_distance (trip a t j) t (trip b u k) u);
    }

-- Both trips move by a common multiple of the periods, to 0 or later
pub IsGapFromZero-of-IsGap : {a : ℤ} {t : ℕ} {b : ℤ} {u v : ℕ} → 0 < t → 0 < u → IsGap a t b u v → IsGapFromZero a t b u v
unfolding distance
IsGapFromZero-of-IsGap {a} {t} {b} {u} ht hu g =
    let (j, k, e) = g.attained in
    let m : ℕ = dn j + dn k in
    let mt : m ≤ m * t = le-mul_of_pos_right m ht in
    let mu : m ≤ m * u = le-mul_of_pos_right m hu in
    let j₀ : ℕ = up j + m * u - dn j in
    let k₀ : ℕ = up k + m * t - dn k in
    let ej : j₀ + dn j ≡ up j + m * u = omega arith in
    let ek : k₀ + dn k ≡ up k + m * t = omega arith in
    let ejt = ap (λ (c : ℕ). c * t) ej in
    let eku = ap (λ (c : ℕ). c * u) ek in
    let moved = difference_trips a t b u (difference_pos j₀) (difference_pos k₀) in
    let found = difference_trips a t b u (difference j) (difference k) in
    record {
      attained = (j₀, k₀, ap nat_abs (eq_of_difference moved found (omega arith)) ∙ e);
      least = λ j k. g.least (pos j) (pos k);
    }

pub theorem_3_1_2_from_zero : (a : ℤ) (t : ℕ) (b : ℤ) (u : ℕ) → 0 < t → 0 < u → IsGapFromZero a t b u (gap_of a t b u)
theorem_3_1_2_from_zero a t b u ht hu = IsGapFromZero-of-IsGap ht hu (theorem_3_1_2 a t b u ht hu)

least_le_attained : {J : Type 0} {f : J → J → ℕ} {v w : ℕ} → ((j k : J) → v ≤ f j k) → (j : J) × (k : J) × (f j k ≡ w) → v ≤ w
least_le_attained {v} l (j, k, e) = subst (λ (n : ℕ). v ≤ n) e (l j k)

pub IsGap-unique : {a : ℤ} {t : ℕ} {b : ℤ} {u v w : ℕ} → IsGap a t b u v → IsGap a t b u w → v ≡ w
IsGap-unique g h = le_antisymm (least_le_attained g.least h.attained) (least_le_attained h.least g.attained)

pub IsGapFromZero-unique : {a : ℤ} {t : ℕ} {b : ℤ} {u v w : ℕ} → IsGapFromZero a t b u v → IsGapFromZero a t b u w → v ≡ w
IsGapFromZero-unique g h = le_antisymm (least_le_attained g.least h.attained) (least_le_attained h.least g.attained)

-- ---- laws of the formula

pub distance_comm : (x y : ℤ) → distance x y ≡ distance y x
distance_comm x y =
    omega (arith, distance_of_difference (difference x) (difference y), distance_of_difference (difference y) (difference x))

pub IsGap-symmetric : {a : ℤ} {t : ℕ} {b : ℤ} {u v : ℕ} → IsGap a t b u v → IsGap b u a t v
IsGap-symmetric {a} {t} {b} {u} g =
    let (j, k, e) = g.attained in
    record {
      attained = (k, j, distance_comm (trip b u k) (trip a t j) ∙ e);
      least = λ k j. rw (distance_comm (trip b u k) (trip a t j)) (g.least j k);
    }

pub gap_of_symmetric : (a : ℤ) (t : ℕ) (b : ℤ) (u : ℕ) → 0 < t → 0 < u → gap_of a t b u ≡ gap_of b u a t
gap_of_symmetric a t b u ht hu = IsGap-unique (theorem_3_1_2 a t b u ht hu) (IsGap-symmetric (theorem_3_1_2 b u a t hu ht))

trip_zero : (a : ℤ) (t : ℕ) → trip a t (pos 0) ≡ a
unfolding trip
trip_zero a t = ap (λ (x : ℤ). a +ℤ x) (zero-*ℤ (pos t)) ∙ +ℤ_idr a

pub gap_of_period_left : (a : ℤ) (t : ℕ) (b : ℤ) (u : ℕ) (k : ℤ) → gap_of (a +ℤ k *ℤ pos t) t b u ≡ gap_of a t b u
unfolding trip
gap_of_period_left a t b u k = rw (trip_zero b u) at (gap_of_trips a t b u k (pos 0))

pub gap_of_period_right : (a : ℤ) (t : ℕ) (b : ℤ) (u : ℕ) (k : ℤ) → gap_of a t (b +ℤ k *ℤ pos u) u ≡ gap_of a t b u
unfolding trip
gap_of_period_right a t b u k = rw (trip_zero a t) at (gap_of_trips a t b u (pos 0) k)

pub gap_of_shift : (a : ℤ) (t : ℕ) (b : ℤ) (u : ℕ) (c : ℤ) → gap_of (a +ℤ c) t (b +ℤ c) u ≡ gap_of a t b u
gap_of_shift a t b u c =
    let shifted = difference_sub (difference_add (difference a) (difference c)) (difference_add (difference b) (difference c)) in
    let e = eq_of_difference shifted (difference_sub (difference a) (difference b)) (omega arith) in
    gap_of_residue (a +ℤ c) (b +ℤ c) a b t u (ap (λ (x : ℤ). residue x (gcd t u)) e)

pub gap_of_half : (a : ℤ) (t : ℕ) (b : ℤ) (u : ℕ) → gap_of a t b u ≤ gcd t u / 2
unfolding gap_of fold
gap_of_half a t b u = omega arith
