-- A division by a product: the whole part of x / g is that of x times the reciprocal of g over 2^40, since the reciprocal is rounded up by
-- less than 1 and x times g is below 2^40. Beside it: a divisor and its reciprocal are read from the number that holds both. Assumes nothing.
use Prim.Native.Nat.{ℕ, zero, suc, ◌+◌, ◌*◌, ◌-◌, ◌/◌, ◌%◌, ◌<◌, ◌≤◌}
use mathlib.Core.Path.{◌≡◌, refl, ap}
use native.Mathlib.Nat.{mod-lt, div-add-mod, mul-le-mul_left}
use native.Mathlib.Decide.{dec_lt}
use native.Mathlib.Omega.{arith}
use Rattle.search.specs.Engine.Representation.{reciprocal, with_reciprocal}

-- ---- the law

module _ (g m e x : ℕ) (rounded_up : m * g ≡ 1099511627776 + e) (little : e < g) (low : x * g < 1099511627776) where
  abbrev q : ℕ
  q = x / g

  abbrev r : ℕ
  r = x % g

  parts : g * q + r ≡ x
  parts = div-add-mod x g

  -- what is left of the product beside the whole part
  abbrev rest : ℕ
  rest = q * e + r * m

  product_is : x * m ≡ q * 1099511627776 + rest
  product_is = omega (arith, ap (λ (k : ℕ). k * m) parts, ap (λ (k : ℕ). q * k) rounded_up)

  rest_low : rest < 1099511627776
  rest_low = go (dec_lt rest 1099511627776)
    where
      go : Dec (rest < 1099511627776) → rest < 1099511627776
      go (yes h) = h
      go (no h) =
          let much : 1099511627776 ≤ rest = omega (arith, h) in
          absurd
          (omega (
            arith,
            mul-le-mul_left g much,
            ap (λ (k : ℕ). k * e) parts,
            ap (λ (k : ℕ). r * k) rounded_up,
            mul-le-mul_left x little,
            mod-lt x {m = g} (omega (arith, little)),
          ))

  div_by_product : (x * m) / 1099511627776 ≡ q
  div_by_product = omega (arith, product_is, rest_low)

pub div_by_reciprocal : (g x : ℕ) → 0 < g → x * g < 1099511627776 → (x * reciprocal g) / 1099511627776 ≡ x / g
unfolding reciprocal
div_by_reciprocal g x h low =
    div_by_product g (1099511627775 / g + 1) (g - 1 - 1099511627775 % g) x
    (omega (arith, div-add-mod 1099511627775 g, mod-lt 1099511627775 h))
    (omega (arith, h))
    low

-- ---- both in one number

pub with_reciprocal_pos : (g : ℕ) → 0 < g → with_reciprocal g ≡ reciprocal g * 2048 + g
unfolding with_reciprocal
with_reciprocal_pos zero h = absurd (omega (arith, h))
with_reciprocal_pos (suc g) h = refl

pub divisor_part : (g : ℕ) → 0 < g → g < 2048 → with_reciprocal g % 2048 ≡ g
divisor_part g h low = omega (arith, with_reciprocal_pos g h)

pub reciprocal_part : (g : ℕ) → 0 < g → g < 2048 → with_reciprocal g / 2048 ≡ reciprocal g
reciprocal_part g h low = omega (arith, with_reciprocal_pos g h)
