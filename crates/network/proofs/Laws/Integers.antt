-- Integers as differences of naturals: sums, negations and products are differences again, by cases on the signs, so that an equation or
-- a magnitude of integers becomes one of naturals, which `omega` reads. Assumes nothing.
use Prim.Native.Nat.{ℕ, zero, suc, ◌+◌, ◌*◌, ◌-◌, ◌^◌, ◌<◌, ◌≤◌}
use native.Mathlib.Nat.{lt_of_le_of_lt}
use native.Mathlib.Omega.{arith}
use mathlib.Core.Path.{◌≡◌, ap, ap₂, ◌∙◌}
use mathlib.Core.Bool.{Bool, true, false, not, cond}
use lib.Dec.{T, ltb, ltb→lt, nltb→le}
use lib.Signed.{mag}
use mir.Syntax.{Width, w32, w64}
use mir.Val.{hbits, SFits, to_z, of_z}
use mir.Facts.{to_z-of_z, to_z_pos, sfits_widen}
use lib.IntN.{ℤ, pos, negsuc, nat_abs, neg_ℤ, sub_ℕ, ◌+ℤ◌, ◌-ℤ◌, ◌*ℤ◌}

-- How far an integer lies above 0, and how far below
abbrev pub up : ℤ → ℕ
up (pos n) = n
up (negsuc n) = 0

abbrev pub dn : ℤ → ℕ
dn (pos n) = 0
dn (negsuc n) = suc n

-- `x` is `p - n`
pub record IsDifference (x : ℤ) (p n : ℕ) : Type 0 where
  pub balance : up x + n ≡ dn x + p

-- ---- what is a difference

pub difference : (x : ℤ) → IsDifference x (up x) (dn x)
difference x = record { balance = omega arith }

pub difference_pos : (n : ℕ) → IsDifference (pos n) n 0
difference_pos n = record { balance = omega arith }

difference_cond : (c : Bool) {x y : ℤ} {p n : ℕ} → (T c → IsDifference x p n) → (T (not c) → IsDifference y p n)
    → IsDifference (cond c x y) p n
difference_cond true f g = f tt
difference_cond false f g = g tt

pub difference_subℕ : (p n : ℕ) → IsDifference (sub_ℕ p n) p n
difference_subℕ p n =
    difference_cond (ltb p n) (λ t. record { balance = omega (arith, ltb→lt) }) (λ t. record { balance = omega (arith, nltb→le) })

pub difference_neg : {x : ℤ} {p n : ℕ} → IsDifference x p n → IsDifference (neg_ℤ x) n p
difference_neg {x = pos zero} h = record { balance = omega arith }
difference_neg {x = pos (suc a)} h = record { balance = omega arith }
difference_neg {x = negsuc a} h = record { balance = omega arith }

pub difference_add : {x y : ℤ} {p n q m : ℕ} → IsDifference x p n → IsDifference y q m → IsDifference (x +ℤ y) (p + q) (n + m)
difference_add {x = pos a} {y = pos b} h k = record { balance = omega arith }
difference_add {x = pos a} {y = negsuc b} h k = record { balance = omega (arith, difference_subℕ a (suc b)) }
difference_add {x = negsuc a} {y = pos b} h k = record { balance = omega (arith, difference_subℕ b (suc a)) }
difference_add {x = negsuc a} {y = negsuc b} h k = record { balance = omega arith }

pub difference_sub : {x y : ℤ} {p n q m : ℕ} → IsDifference x p n → IsDifference y q m → IsDifference (x -ℤ y) (p + m) (n + q)
difference_sub h k = difference_add h (difference_neg k)

-- the product by the two signs, and then by any two differences
difference_mul_signs : (x y : ℤ) → IsDifference (x *ℤ y) (up x * up y + dn x * dn y) (up x * dn y + dn x * up y)
difference_mul_signs (pos a) (pos b) = record { balance = omega arith }
difference_mul_signs (pos a) (negsuc b) = record { balance = omega (arith, difference_neg (difference_pos (a * suc b))) }
difference_mul_signs (negsuc a) (pos b) = record { balance = omega (arith, difference_neg (difference_pos (suc a * b))) }
difference_mul_signs (negsuc a) (negsuc b) = record { balance = omega arith }

pub difference_mul : {x y : ℤ} {p n q m : ℕ} → IsDifference x p n → IsDifference y q m
    → IsDifference (x *ℤ y) (p * q + n * m) (p * m + n * q)
difference_mul {x} {y} {p} {n} h k =
    let hu : (up x + n) * up y ≡ (dn x + p) * up y = ap (λ (c : ℕ). c * up y) h.balance in
    let hd : (up x + n) * dn y ≡ (dn x + p) * dn y = ap (λ (c : ℕ). c * dn y) h.balance in
    record { balance = omega (arith, difference_mul_signs x y, ap (λ (c : ℕ). p * c) k.balance, ap (λ (c : ℕ). n * c) k.balance) }

pub difference_add_multiple : {x k : ℤ} {p n q m : ℕ} → IsDifference x p n → IsDifference k q m → (g : ℕ)
    → IsDifference (x +ℤ k *ℤ pos g) (p + q * g) (n + m * g)
difference_add_multiple h k g = record { balance = omega (arith, difference_add h (difference_mul k (difference_pos g))) }

-- ---- what a difference tells

pub nat_abs_of_difference : {x : ℤ} {p n : ℕ} → IsDifference x p n → nat_abs x ≡ (p - n) + (n - p)
nat_abs_of_difference {x = pos a} h = omega arith
nat_abs_of_difference {x = negsuc a} h = omega arith

pub eq_of_difference : {x y : ℤ} {p n q m : ℕ} → IsDifference x p n → IsDifference y q m → p + m ≡ q + n → x ≡ y
eq_of_difference {x = pos a} {y = pos b} h k e = ap pos (omega arith)
eq_of_difference {x = pos a} {y = negsuc b} h k e = absurd (omega arith)
eq_of_difference {x = negsuc a} {y = pos b} h k e = absurd (omega arith)
eq_of_difference {x = negsuc a} {y = negsuc b} h k e = ap negsuc (omega arith)

pub difference_of_eq : {x y : ℤ} {p n q m : ℕ} → IsDifference x p n → IsDifference y q m → x ≡ y → p + m ≡ q + n
difference_of_eq h k e = omega (arith, ap up e, ap dn e)

-- ---- bounds

pub nat_abs_add_le : (x y : ℤ) → nat_abs (x +ℤ y) ≤ nat_abs x + nat_abs y
nat_abs_add_le x y =
    omega
    (arith, nat_abs_of_difference (difference_add (difference x) (difference y)), nat_abs_of_difference (difference x), nat_abs_of_difference (difference y))

pub nat_abs_sub_le : (x y : ℤ) → nat_abs (x -ℤ y) ≤ nat_abs x + nat_abs y
nat_abs_sub_le x y =
    omega
    (arith, nat_abs_of_difference (difference_sub (difference x) (difference y)), nat_abs_of_difference (difference x), nat_abs_of_difference (difference y))

-- `mag`, by which a machine's signed number is bounded, is the magnitude, less one below zero
pub mag_le_nat_abs : (x : ℤ) → mag x ≤ nat_abs x
mag_le_nat_abs (pos n) = omega arith
mag_le_nat_abs (negsuc n) = omega arith

pub nat_abs_le_mag : (x : ℤ) → nat_abs x ≤ mag x + 1
nat_abs_le_mag (pos n) = omega arith
nat_abs_le_mag (negsuc n) = omega arith

-- a number within half of the range, so that no sum of two leaves it
pub sfits_of_nat_abs : {w : Width} (x : ℤ) → nat_abs x < 2 ^ hbits w → SFits w x
sfits_of_nat_abs x h = record { sfits = lt_of_le_of_lt (mag_le_nat_abs x) h }

pub minus_one_sub : (k : ℕ) → negsuc 0 -ℤ negsuc k ≡ pos k
minus_one_sub k = eq_of_difference (difference_sub (difference (negsuc 0)) (difference (negsuc k))) (difference_pos k) (omega arith)

-- ---- a number of 32 signed bits in 64: the machine reads it as it is, and a sum with a number below 2^32 is far from the ends

module _ {x : ℤ} (fits : SFits w32 x) where
  pub widened : to_z w64 (of_z w64 (to_z w32 (of_z w32 x))) ≡ x
  widened = ap (λ (z : ℤ). to_z w64 (of_z w64 z)) (to_z-of_z {w = w32} fits) ∙ to_z-of_z {w = w64} (sfits_widen tt fits)

  pub widens : SFits w64 (to_z w32 (of_z w32 x))
  widens = rw (to_z-of_z {w = w32} fits) (sfits_widen tt fits)

  module _ (k : ℕ) (low : k < 2 ^ 32) where
    pub widened_sum : to_z w64 (of_z w64 (to_z w32 (of_z w32 x))) +ℤ to_z w64 k ≡ x +ℤ pos k
    widened_sum = ap₂ ◌+ℤ◌ widened (to_z_pos w64 (omega (arith, low)))

    pub sum_fits : SFits w64 (x +ℤ pos k)
    sum_fits = sfits_of_nat_abs (x +ℤ pos k) (omega (arith, nat_abs_add_le x (pos k), nat_abs_le_mag x, fits.sfits, low))
