-- The laws of divisibility, the greatest common divisor, the least common multiple and the common cycle: by one induction along the
-- repeated remainder, each step of which keeps a common divisor that is a combination of the two numbers; and how quotient and remainder go
-- on from a number to the next. Assumes nothing.
use Prim.Native.Nat.{ℕ, zero, suc, ◌+◌, ◌*◌, ◌/◌, ◌%◌, ◌≤◌, ◌<◌, ◌∣◌, suc-le-suc}
use native.Mathlib.Nat.{dvd_trans, dvd-mul_left, dvd-add, dvd-add_iff_right, dvd_antisymm, dvd_of_mul-dvd-mul_right, mul-dvd-mul_left}
use native.Mathlib.Nat.{div-mul_cancel, le_of_dvd, pos_of_dvd_of_pos, eq-zero-or-pos, div-add-mod', mod-lt, mul-pos, mul_comm, mul-one}
use native.Mathlib.Nat.{le-div_iff_mul-le, zero-lt-suc, le_refl, le_of_suc-le-suc, not-suc-le-zero}
use native.Mathlib.Nat.{mod-eq_of_lt, mod_self, add-mul-mod_self_right, add-mul-div_right, div-eq_of_lt}
use native.Mathlib.Numerals.{add-one}
use native.Mathlib.Omega.{arith}
use mathlib.Core.Path.{◌≡◌, refl, sym, ap, subst, ◌∙◌}
use mathlib.Core.Bool.{Bool, true, false}
use mathlib.Core.Logic.{◌⊎◌, inl, inr}
use mathlib.Core.List.{List, [], ◌∷◌, ◌++◌}
use borrow.Author.Tests.{eqb-true, eqb-false}
use lib.Dec.{eqb}
use lib.ListN.{length, get_or, take, drop, length-append, length-take, get_or-append, take-append-drop}
use lib.Seq.{take-suc, get_or-take}
use Rattle.network.specs.Lists.{pick}
use Rattle.network.specs.Divisor.{Divides, gcd_within, gcd, lcm, cycle_from, common_cycle, IsLeastCommonMultiple}

-- ---- divisibility. The library's is truncated; the quotient is its witness

dvd_of_divides : (d n : ℕ) → Divides d n → d ∣ n
unfolding Divides
dvd_of_divides d n (k, e) = subst (λ (m : ℕ). d ∣ m) (sym e) (dvd-mul_left d k)

divides_of_dvd : (d n : ℕ) → d ∣ n → Divides d n
unfolding Divides
divides_of_dvd d n h = (n / d, sym (div-mul_cancel d h))

pub div_mul_of_divides : (d n : ℕ) → Divides d n → n / d * d ≡ n
div_mul_of_divides d n h = div-mul_cancel d (dvd_of_divides d n h)

pub le_of_divides : (d n : ℕ) → Divides d n → 0 < n → d ≤ n
le_of_divides d n h p = le_of_dvd p (dvd_of_divides d n h)

pub pos_of_divides : (d n : ℕ) → Divides d n → 0 < n → 0 < d
pos_of_divides d n h p = pos_of_dvd_of_pos (dvd_of_divides d n h) p

pub quotient_pos : (d n : ℕ) → Divides d n → 0 < n → 0 < n / d
quotient_pos d n h k = (le-div_iff_mul-le (pos_of_divides d n h k)).1 (omega (arith, le_of_divides d n h k))

pub divides_refl : (d : ℕ) → Divides d d
unfolding Divides
divides_refl d = (1, omega arith)

pub divides_zero : (d : ℕ) → Divides d 0
unfolding Divides
divides_zero d = (0, omega arith)

pub one_divides : (n : ℕ) → Divides 1 n
unfolding Divides
one_divides n = (n, omega arith)

pub divides_mul : (d k : ℕ) → Divides d (k * d)
unfolding Divides
divides_mul d k = (k, refl)

pub divides_trans : (d m n : ℕ) → Divides d m → Divides m n → Divides d n
divides_trans d m n h k = divides_of_dvd d n (dvd_trans d (dvd_of_divides d m h) (dvd_of_divides m n k))

pub divides_antisymm : (d n : ℕ) → Divides d n → Divides n d → d ≡ n
divides_antisymm d n h k = dvd_antisymm (dvd_of_divides d n h) (dvd_of_divides n d k)

pub divides_mul_mul : (k d n : ℕ) → Divides d n → Divides (k * d) (k * n)
divides_mul_mul k d n h = divides_of_dvd (k * d) (k * n) (mul-dvd-mul_left d k (dvd_of_divides d n h))

pub divides_of_mul_divides_mul : (k d n : ℕ) → 0 < k → Divides (d * k) (n * k) → Divides d n
divides_of_mul_divides_mul k d n p h = divides_of_dvd d n (dvd_of_mul-dvd-mul_right d p (dvd_of_divides (d * k) (n * k) h))

pub divides_add : (d m n : ℕ) → Divides d m → Divides d n → Divides d (m + n)
divides_add d m n h k = divides_of_dvd d (m + n) (dvd-add d (dvd_of_divides d m h) (dvd_of_divides d n k))

pub divides_of_divides_add : (d m n : ℕ) → Divides d m → Divides d (m + n) → Divides d n
divides_of_divides_add d m n h k = divides_of_dvd d n ((dvd-add_iff_right d (dvd_of_divides d m h)).1 (dvd_of_divides d (m + n) k))

pub divides_combination : (d a b p r : ℕ) → Divides d a → Divides d b → Divides d (p * a + r * b)
divides_combination d a b p r h k =
    divides_add d (p * a) (r * b) (divides_trans d a (p * a) h (divides_mul a p)) (divides_trans d b (r * b) k (divides_mul b r))

-- ---- the greatest common divisor

-- How many steps are allowed does not matter, once they are as many as the second number
gcd_within_enough : (k l a b : ℕ) → b ≤ k → b ≤ l → gcd_within k a b ≡ gcd_within l a b
unfolding gcd_within
gcd_within_enough zero zero a b h i = refl
gcd_within_enough zero (suc l) a zero h i = refl
gcd_within_enough zero (suc l) a (suc b) h i = absurd (not-suc-le-zero h)
gcd_within_enough (suc k) zero a zero h i = refl
gcd_within_enough (suc k) zero a (suc b) h i = absurd (not-suc-le-zero i)
gcd_within_enough (suc k) (suc l) a zero h i = refl
gcd_within_enough (suc k) (suc l) a (suc b) h i =
    let r : a % suc b < suc b = mod-lt a (zero-lt-suc b) in
    gcd_within_enough k l (suc b) (a % suc b) (omega arith) (omega arith)

pub gcd_zero : (a : ℕ) → gcd a 0 ≡ a
unfolding gcd gcd_within
gcd_zero a = refl

pub gcd_step : (a b : ℕ) → gcd a (suc b) ≡ gcd (suc b) (a % suc b)
unfolding gcd gcd_within
gcd_step a b =
    gcd_within_enough b (a % suc b) (suc b) (a % suc b) (le_of_suc-le-suc (mod-lt a (zero-lt-suc b))) (le_refl (a % suc b))

pub gcd_step_pos : (a b : ℕ) → 0 < b → gcd a b ≡ gcd b (a % b)
gcd_step_pos a zero h = absurd (omega arith)
gcd_step_pos a (suc b) h = gcd_step a b

-- g divides a and b, and is a combination of them
record IsDivisor (a b g : ℕ) : Type 0 where
  left : Divides g a
  right : Divides g b
  combination : (p : ℕ) × (r : ℕ) × (q : ℕ) × (s : ℕ) × (p * a + r * b ≡ q * a + s * b + g)

is_divisor_zero : (a : ℕ) → IsDivisor a 0 a
is_divisor_zero a = record { left = divides_refl a; right = divides_zero a; combination = (1, 0, 0, 0, omega arith) }

is_divisor_step : (a b g : ℕ) → IsDivisor b (a % b) g → IsDivisor a b g
is_divisor_step a b g d =
    let t : ℕ = a / b in
    let (p, r, q, s, e) = d.combination in
    let split : t * b + a % b ≡ a = div-add-mod' a b in
    record {
      left = subst (Divides g) (omega arith) (divides_combination g b (a % b) t 1 d.left d.right);
      right = d.left;
      combination = (r, p + s * t, s, q + r * t, omega (arith, ap (λ (n : ℕ). r * n) split, ap (λ (n : ℕ). s * n) split));
    }

is_divisor_gcd_within : (k a b : ℕ) → b ≤ k → IsDivisor a b (gcd_within k a b)
unfolding gcd_within
is_divisor_gcd_within zero a zero h = is_divisor_zero a
is_divisor_gcd_within zero a (suc b) h = absurd (not-suc-le-zero h)
is_divisor_gcd_within (suc k) a zero h = is_divisor_zero a
is_divisor_gcd_within (suc k) a (suc b) h =
    let r : a % suc b < suc b = mod-lt a (zero-lt-suc b) in
    is_divisor_step a (suc b) _ (is_divisor_gcd_within k (suc b) (a % suc b) (omega arith))

is_divisor_gcd : (a b : ℕ) → IsDivisor a b (gcd a b)
unfolding gcd
is_divisor_gcd a b = is_divisor_gcd_within b a b (le_refl b)

pub gcd_divides_left : (a b : ℕ) → Divides (gcd a b) a
gcd_divides_left a b = (is_divisor_gcd a b).left

pub gcd_divides_right : (a b : ℕ) → Divides (gcd a b) b
gcd_divides_right a b = (is_divisor_gcd a b).right

pub gcd_combination : (a b : ℕ) → (p : ℕ) × (r : ℕ) × (q : ℕ) × (s : ℕ) × (p * a + r * b ≡ q * a + s * b + gcd a b)
gcd_combination a b = (is_divisor_gcd a b).combination

divides_gcd_mul : (d a b m : ℕ) → Divides d (a * m) → Divides d (b * m) → Divides d (gcd a b * m)
divides_gcd_mul d a b m h k =
    let (p, r, q, s, e) = gcd_combination a b in
    divides_of_divides_add d (q * (a * m) + s * (b * m)) (gcd a b * m) (divides_combination d (a * m) (b * m) q s h k)
    (subst (Divides d) (omega (arith, ap (λ (n : ℕ). n * m) e)) (divides_combination d (a * m) (b * m) p r h k))

pub gcd_greatest : (d a b : ℕ) → Divides d a → Divides d b → Divides d (gcd a b)
gcd_greatest d a b h k = simp mul-one at (divides_gcd_mul d a b 1 (simp mul-one h) (simp mul-one k))

pub gcd_comm : (a b : ℕ) → gcd a b ≡ gcd b a
gcd_comm a b = divides_antisymm (gcd a b) (gcd b a) (swap a b) (swap b a)
  where
    swap : (a b : ℕ) → Divides (gcd a b) (gcd b a)
    swap a b = gcd_greatest (gcd a b) b a (gcd_divides_right a b) (gcd_divides_left a b)

pub gcd_self : (a : ℕ) → gcd a a ≡ a
gcd_self a = divides_antisymm (gcd a a) a (gcd_divides_left a a) (gcd_greatest a a a (divides_refl a) (divides_refl a))

pub gcd_pos_left : (a b : ℕ) → 0 < a → 0 < gcd a b
gcd_pos_left a b = pos_of_divides (gcd a b) a (gcd_divides_left a b)

pub gcd_le_left : (a b : ℕ) → 0 < a → gcd a b ≤ a
gcd_le_left a b = le_of_divides (gcd a b) a (gcd_divides_left a b)

-- ---- the least common multiple. Only `lcm_pos` asks that the numbers be positive

pub lcm_mul_gcd : (a b : ℕ) → lcm a b * gcd a b ≡ a * b
unfolding lcm
lcm_mul_gcd a b = omega (arith, ap (λ (n : ℕ). n * b) (div_mul_of_divides (gcd a b) a (gcd_divides_left a b)))

pub divides_lcm_left : (a b : ℕ) → Divides a (lcm a b)
unfolding lcm
divides_lcm_left a b =
    let g : ℕ = gcd a b in
    let e : a / g * g ≡ a = div_mul_of_divides g a (gcd_divides_left a b) in
    let f : b / g * g ≡ b = div_mul_of_divides g b (gcd_divides_right a b) in
    subst (Divides a) (omega (arith, ap (λ (n : ℕ). b / g * n) e, ap (λ (n : ℕ). a / g * n) f)) (divides_mul a (b / g))

pub divides_lcm_right : (a b : ℕ) → Divides b (lcm a b)
unfolding lcm
divides_lcm_right a b = divides_mul b (a / gcd a b)

pub lcm_least : (a b m : ℕ) → Divides a m → Divides b m → Divides (lcm a b) m
lcm_least a b m h k = go (eq-zero-or-pos (gcd a b))
  where
    product : Divides (a * b) (gcd a b * m)
    product = divides_gcd_mul (a * b) a b m (divides_mul_mul a b m k) (rw (mul_comm b a) at (divides_mul_mul b a m h))

    go : (gcd a b ≡ 0) ⊎ (0 < gcd a b) → Divides (lcm a b) m
    go (inl e) =
        let f : m / gcd a b * gcd a b ≡ m = div_mul_of_divides (gcd a b) m (divides_trans _ _ _ (gcd_divides_left a b) h) in
        subst (Divides (lcm a b)) (omega (arith, ap (λ (g : ℕ). m / gcd a b * g) e)) (divides_zero (lcm a b))
    go (inr p) = divides_of_mul_divides_mul (gcd a b) (lcm a b) m p (rw (lcm_mul_gcd, mul_comm m) product)

pub lcm_pos : (a b : ℕ) → 0 < a → 0 < b → 0 < lcm a b
lcm_pos a b h k =
    pos_of_divides (lcm a b) (a * b) (subst (Divides (lcm a b)) (omega (arith, lcm_mul_gcd a b)) (divides_mul (lcm a b) (gcd a b)))
    (mul-pos h k)

-- It is one by what it is, and there is no other
pub lcm_is_least_common_multiple : (a b : ℕ) → 0 < a → 0 < b → IsLeastCommonMultiple (a ∷ b ∷ []) (lcm a b)
lcm_is_least_common_multiple a b h k =
    record { positive = lcm_pos a b h k; multiple = both; least = λ m d. lcm_least a b m (d 0 (omega arith)) (d 1 (omega arith)) }
  where
    both : (i : ℕ) → i < 2 → Divides (get_or (a ∷ b ∷ []) i 0) (lcm a b)
    both zero l = divides_lcm_left a b
    both (suc zero) l = divides_lcm_right a b
    both (suc (suc i)) l = absurd (omega arith)

pub least_common_multiple_unique : {ps : List ℕ} {m n : ℕ} → IsLeastCommonMultiple ps m → IsLeastCommonMultiple ps n → m ≡ n
least_common_multiple_unique {m = m} {n = n} h k = divides_antisymm m n (h.least n k.multiple) (k.least m h.multiple)

pub lcm_of_least_common_multiple : {a b m : ℕ} → IsLeastCommonMultiple (a ∷ b ∷ []) m → m ≡ lcm a b
lcm_of_least_common_multiple {a} {b} {m} h =
    least_common_multiple_unique h
    (lcm_is_least_common_multiple a b (pos_of_divides a m (h.multiple 0 (omega arith)) h.positive)
    (pos_of_divides b m (h.multiple 1 (omega arith)) h.positive))

-- ---- the common cycle: by induction on the periods, for a cycle that starts at any number

cycle_from_snoc : (c : ℕ) (ps : List ℕ) (p : ℕ) → cycle_from c (ps ++ (p ∷ [])) ≡ lcm (cycle_from c ps) p
unfolding cycle_from
cycle_from_snoc c [] p = refl
cycle_from_snoc c (q ∷ ps) p = cycle_from_snoc (lcm c q) ps p

divides_cycle_from : (c : ℕ) (ps : List ℕ) → Divides c (cycle_from c ps)
unfolding cycle_from
divides_cycle_from c [] = divides_refl c
divides_cycle_from c (p ∷ ps) = divides_trans _ _ _ (divides_lcm_left c p) (divides_cycle_from (lcm c p) ps)

period_divides_cycle_from : (c : ℕ) (ps : List ℕ) (i : ℕ) → i < length ps → Divides (get_or ps i 0) (cycle_from c ps)
unfolding cycle_from
period_divides_cycle_from c [] i h = absurd (not-suc-le-zero h)
period_divides_cycle_from c (p ∷ ps) zero h = divides_trans _ _ _ (divides_lcm_right c p) (divides_cycle_from (lcm c p) ps)
period_divides_cycle_from c (p ∷ ps) (suc i) h = period_divides_cycle_from (lcm c p) ps i (le_of_suc-le-suc h)

cycle_from_least : (c : ℕ) (ps : List ℕ) (m : ℕ) → Divides c m → ((i : ℕ) → i < length ps → Divides (get_or ps i 0) m)
    → Divides (cycle_from c ps) m
unfolding cycle_from
cycle_from_least c [] m d h = d
cycle_from_least c (p ∷ ps) m d h =
    cycle_from_least (lcm c p) ps m (lcm_least c p m d (h 0 (zero-lt-suc _))) (λ i l. h (suc i) (suc-le-suc l))

cycle_from_pos : (c : ℕ) (ps : List ℕ) → 0 < c → ((i : ℕ) → i < length ps → 0 < get_or ps i 0) → 0 < cycle_from c ps
unfolding cycle_from
cycle_from_pos c [] d h = d
cycle_from_pos c (p ∷ ps) d h =
    cycle_from_pos (lcm c p) ps (lcm_pos c p d (h 0 (zero-lt-suc _))) (λ i l. h (suc i) (suc-le-suc l))

pub common_cycle_snoc : (ps : List ℕ) (p : ℕ) → common_cycle (ps ++ (p ∷ [])) ≡ lcm (common_cycle ps) p
unfolding common_cycle
common_cycle_snoc = cycle_from_snoc 1

pub period_divides_common_cycle : (ps : List ℕ) (i : ℕ) → i < length ps → Divides (get_or ps i 0) (common_cycle ps)
unfolding common_cycle
period_divides_common_cycle = period_divides_cycle_from 1

pub common_cycle_least : (ps : List ℕ) (m : ℕ) → ((i : ℕ) → i < length ps → Divides (get_or ps i 0) m) → Divides (common_cycle ps) m
unfolding common_cycle
common_cycle_least ps m = cycle_from_least 1 ps m (one_divides m)

pub common_cycle_pos : (ps : List ℕ) → ((i : ℕ) → i < length ps → 0 < get_or ps i 0) → 0 < common_cycle ps
unfolding common_cycle
common_cycle_pos ps = cycle_from_pos 1 ps (zero-lt-suc 0)

pub common_cycle_is_least_common_multiple : (ps : List ℕ) → ((i : ℕ) → i < length ps → 0 < get_or ps i 0) → IsLeastCommonMultiple ps (common_cycle ps)
common_cycle_is_least_common_multiple ps positive =
    record { positive = common_cycle_pos ps positive; multiple = period_divides_common_cycle ps; least = common_cycle_least ps }

-- the first of the periods alone have no longer cycle than all
pub common_cycle_prefix_le : (ps qs all : List ℕ) → ps ++ qs ≡ all → ((i : ℕ) → i < length all → 0 < get_or all i 0) → common_cycle ps ≤ common_cycle all
common_cycle_prefix_le ps qs all e positive =
    le_of_divides (common_cycle ps) (common_cycle all)
    (common_cycle_least ps (common_cycle all)
    (λ i h.
    subst (λ (t : ℕ). Divides t (common_cycle all)) (ap (λ (l : List ℕ). get_or l i 0) (sym e) ∙ get_or-append ps qs 0 i h)
    (period_divides_common_cycle all i (omega (arith, h, ap length e, length-append ps qs)))))
    (common_cycle_pos all positive)

-- the common cycle of the first so many periods: it is positive, no longer than that of all, and brought forward by the next period
module _ (periods : List ℕ) (positive : (i : ℕ) → i < length periods → 0 < get_or periods i 0) (i : ℕ) where
  pub first_cycle_pos : 0 < common_cycle (take i periods)
  first_cycle_pos =
      common_cycle_pos (take i periods)
      (λ j h.
      let low : j < i = omega (arith, length-take i periods) in
      rw (get_or-take i periods j 0 low) (positive j (omega (arith, length-take i periods))))

  pub first_cycle_le : common_cycle (take i periods) ≤ common_cycle periods
  first_cycle_le = common_cycle_prefix_le (take i periods) (drop i periods) periods (take-append-drop i periods) positive

pub first_cycle_next : (periods : List ℕ) (i : ℕ) → i < length periods
    → common_cycle (take (i + 1) periods) ≡ lcm (common_cycle (take i periods)) (get_or periods i 0)
first_cycle_next periods i h =
    ap common_cycle (ap (λ (k : ℕ). take k periods) (add-one i) ∙ take-suc periods i 0 h)
    ∙ common_cycle_snoc (take i periods) (get_or periods i 0)

-- ---- a number and one more, divided by a number

module _ (m t : ℕ) (positive : 0 < t) where
  abbrev q : ℕ
  q = m / t

  abbrev r : ℕ
  r = m % t

  low : r < t
  low = mod-lt m positive

  whole : m ≡ q * t + r
  whole = sym (div-add-mod' m t)

  -- the remainder of one more by a number
  pub mod_next : (m + 1) % t ≡ pick (eqb (m % t + 1) t) 0 (m % t + 1)
  mod_next = go (eqb (r + 1) t) refl
    where
      go : (b : Bool) → eqb (r + 1) t ≡ b → (m + 1) % t ≡ pick b 0 (r + 1)
      go true e =
          let all : r + 1 ≡ t = eqb-true (r + 1) t e in
          let more : m + 1 ≡ t + q * t = omega (arith, whole, all) in
          ap (λ (k : ℕ). k % t) more ∙ add-mul-mod_self_right t q t ∙ mod_self t
      go false e =
          let more : m + 1 ≡ r + 1 + q * t = omega (arith, whole) in
          let within : r + 1 < t = omega (arith, low, eqb-false (r + 1) t e) in
          ap (λ (k : ℕ). k % t) more ∙ add-mul-mod_self_right (r + 1) q t ∙ mod-eq_of_lt within

  -- .. and how often that fits
  pub div_next : (m + 1) / t ≡ m / t + pick (eqb (m % t + 1) t) 1 0
  div_next = go (eqb (r + 1) t) refl
    where
      go : (b : Bool) → eqb (r + 1) t ≡ b → (m + 1) / t ≡ q + pick b 1 0
      go true e =
          let all : r + 1 ≡ t = eqb-true (r + 1) t e in
          let more : m + 1 ≡ 0 + (q + 1) * t = omega (arith, whole, all) in
          ap (λ (k : ℕ). k / t) more ∙ add-mul-div_right 0 (q + 1) positive ∙ omega (arith, div-eq_of_lt positive)
      go false e =
          let more : m + 1 ≡ r + 1 + q * t = omega (arith, whole) in
          let within : r + 1 < t = omega (arith, low, eqb-false (r + 1) t e) in
          ap (λ (k : ℕ). k / t) more ∙ add-mul-div_right (r + 1) q positive ∙ omega (arith, div-eq_of_lt within)
