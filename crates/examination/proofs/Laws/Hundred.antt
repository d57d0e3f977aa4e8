-- Marks out of a hundred as a division with remainder: mark times best plus remainder is a hundred times the least gap, the remainder is
-- below a best above 0, no other pair is so, and the pairs are in the order of the least gaps. Assumes nothing.
use Prim.Native.Nat.{ℕ, zero, suc, ◌+◌, ◌*◌, ◌/◌, ◌%◌, ◌<◌, ◌≤◌}
use mathlib.Core.Path.{◌≡◌, refl, ap}
use mathlib.Core.Bool.{Bool, true, false}
use mathlib.Core.Logic.{inl, inr, ◌↔◌}
use native.Mathlib.Nat.{div-add-mod', div-le_self, mod-lt, mul-le-mul_right, le_of_mul-le-mul_right}
use native.Mathlib.Omega.{arith}
use borrow.Author.Tests.{ne_eqb, eqb-true, eqb-false, ltb-true, ltb-false}
use lib.Dec.{eqb, ltb}
use Rattle.network.specs.Network.{max_period}
use Rattle.examination.specs.Hundred.{mark_of, remainder_of, PairBelow}

-- ---- beside a best of 0, and beside one above 0

pub mark_of_beside_zero : (least : ℕ) {best : ℕ} → best ≡ 0 → mark_of least best ≡ 100
unfolding mark_of
mark_of_beside_zero least e = rw e refl

pub remainder_of_beside_zero : (least : ℕ) {best : ℕ} → best ≡ 0 → remainder_of least best ≡ 0
unfolding remainder_of
remainder_of_beside_zero least e = rw e refl

pub mark_of_above_zero : (least : ℕ) {best : ℕ} → (best ≡ 0 → ⊥) → mark_of least best ≡ (100 * least) / best
unfolding mark_of
mark_of_above_zero least {best} some = rw (ne_eqb best 0 some) refl

pub remainder_of_above_zero : (least : ℕ) {best : ℕ} → (best ≡ 0 → ⊥) → remainder_of least best ≡ (100 * least) % best
unfolding remainder_of
remainder_of_above_zero least {best} some = rw (ne_eqb best 0 some) refl

-- ---- the division

pub remainder_below : (least : ℕ) {best : ℕ} → 0 < best → remainder_of least best < best
remainder_below least {best} h = rw (remainder_of_above_zero least {best = best} (λ e. omega (arith, e, h))) (mod-lt (100 * least) h)

-- above 0 for every least gap; beside 0 for one that isn't above it
pub gives_back_above_zero : (least : ℕ) {best : ℕ} → 0 < best → mark_of least best * best + remainder_of least best ≡ 100 * least
gives_back_above_zero least {best} h =
    rw (mark_of_above_zero least {best = best} (λ e. omega (arith, e, h)), remainder_of_above_zero least {best = best} (λ e. omega (arith, e, h))) (div-add-mod' (100 * least) best)

pub gives_back : (least best : ℕ) → least ≤ best → mark_of least best * best + remainder_of least best ≡ 100 * least
gives_back least zero h = rw (mark_of_beside_zero least {best = 0} refl, remainder_of_beside_zero least {best = 0} refl) (omega (arith, h))
gives_back least (suc best) h = gives_back_above_zero least (omega arith)

-- ---- two divisions by one number

-- The order of what is divided is the lexicographic order of quotients and remainders
module _ {best m r m' r' : ℕ} (below : r < best) (below' : r' < best) where
  smaller_of_pair : PairBelow m r m' r' → m * best + r < m' * best + r'
  smaller_of_pair (inl h) = omega (arith, mul-le-mul_right best h, below)
  smaller_of_pair (inr h) = rw h.0 (omega (arith, h.1))

  pair_of_smaller : m * best + r < m' * best + r' → PairBelow m r m' r'
  pair_of_smaller h = go (ltb m m') (eqb m m') refl refl
    where
      go : (x y : Bool) → ltb m m' ≡ x → eqb m m' ≡ y → PairBelow m r m' r'
      go true y e f = inl (ltb-true m m' e)
      go false true e f =
          let same = eqb-true m m' f in
          inr (same, omega (arith, h, ap (λ (k : ℕ). k * best) same))
      go false false e f =
          let above : m' < m = omega (arith, ltb-false m m' e, eqb-false m m' f) in
          absurd (omega (arith, h, mul-le-mul_right best above, below'))

-- One division has one result
pub one_pair : {best m r m' r' : ℕ} → r < best → r' < best → m * best + r ≡ m' * best + r' → (m ≡ m') × (r ≡ r')
one_pair {best} {m} {r} {m'} {r'} below below' same = go (ltb m m') (ltb m' m) refl refl
  where
    go : (x y : Bool) → ltb m m' ≡ x → ltb m' m ≡ y → (m ≡ m') × (r ≡ r')
    go true y e f = absurd (omega (arith, smaller_of_pair below below' (inl (ltb-true m m' e)), same))
    go false true e f = absurd (omega (arith, smaller_of_pair below' below (inl (ltb-true m' m f)), same))
    go false false e f =
        let q : m ≡ m' = omega (arith, ltb-false m m' e, ltb-false m' m f) in (q, omega (arith, same, ap (λ (k : ℕ). k * best) q))

-- ---- the mark

-- A least gap that isn't above the best has at most 100
pub mark_at_most_100 : (least best : ℕ) → least ≤ best → mark_of least best ≤ 100
mark_at_most_100 least zero h = rw (mark_of_beside_zero least {best = 0} refl) (omega arith)
mark_at_most_100 least (suc best) h =
    le_of_mul-le-mul_right {k = suc best} (omega (arith, gives_back least (suc best) h, h)) (omega arith)

-- .. and exactly 100 where it is the best
pub mark_100_is_best : (least best : ℕ) → least ≤ best → mark_of least best ≡ 100 → least ≡ best
mark_100_is_best least best le e = omega (arith, gives_back least best le, ap (λ (k : ℕ). k * best) e, le)

pub best_has_100 : (best : ℕ) → (mark_of best best ≡ 100) × (remainder_of best best ≡ 0)
best_has_100 zero = (mark_of_beside_zero 0 {best = 0} refl, remainder_of_beside_zero 0 {best = 0} refl)
best_has_100 (suc best) =
    let h : 0 < suc best = omega arith in one_pair {m' = 100} (remainder_below (suc best) h) h (omega (arith, gives_back_above_zero (suc best) h))

-- Beside one best, which none is above, the order of the least gaps is the lexicographic order of marks and remainders; beside 0 all are equal
pub ranks : (least least' best : ℕ) → least ≤ best → least' ≤ best
    → (least < least') ↔ PairBelow (mark_of least best) (remainder_of least best) (mark_of least' best) (remainder_of least' best)
ranks least least' zero le le' =
    rw (mark_of_beside_zero least {best = 0} refl, remainder_of_beside_zero least {best = 0} refl)
    (rw (mark_of_beside_zero least' {best = 0} refl, remainder_of_beside_zero least' {best = 0} refl) (λ e. absurd (omega (arith, e, le')), none))
  where
    none : PairBelow 100 0 100 0 → least < least'
    none (inl h) = absurd (omega (arith, h))
    none (inr h) = absurd (omega (arith, h.1))
ranks least least' (suc best) le le' =
    let h : 0 < suc best = omega arith in
    let d = gives_back_above_zero least h in
    let d' = gives_back_above_zero least' h in
    let r = remainder_below least h in
    let r' = remainder_below least' h in
    (λ e. pair_of_smaller r r' (omega (arith, d, d', e)), λ p. omega (arith, d, d', smaller_of_pair r r' p))

-- Of least gaps up to 1,440 both numbers fit many times over
pub mark_range : (least best : ℕ) → least ≤ max_period → best ≤ max_period → (mark_of least best ≤ 144000) × (remainder_of least best < max_period)
mark_range least zero l b = rw (mark_of_beside_zero least {best = 0} refl, remainder_of_beside_zero least {best = 0} refl) (omega arith, omega arith)
mark_range least (suc best) l b = (
  rw (mark_of_above_zero least {best = suc best} (λ e. omega (arith, e))) (omega (arith, div-le_self (100 * least) (suc best), l)),
  omega (arith, remainder_below least {best = suc best} (omega arith), b),
)
