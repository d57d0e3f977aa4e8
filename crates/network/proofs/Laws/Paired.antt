-- A row for pairs of lines, written for both orders of each pair, holds a pair more after each turn: of two pairs the places differ, since
-- each line is below 16. Assumes nothing.
use Prim.Native.Nat.{ℕ, ◌+◌, ◌*◌, ◌/◌, ◌%◌, ◌<◌, ◌≤◌}
use mathlib.Core.Path.{◌≡◌, ap, ap₂, ◌∙◌}
use mathlib.Core.List.{List}
use native.Mathlib.Decide.{ℕ_discrete}
use native.Mathlib.Nat.{le_antisymm}
use native.Mathlib.Omega.{arith}
use lib.ListN.{length, get_or, set, length-set}
use lib.Seq.{get_or-set_same, get_or-set_other}

-- The pairs below place `k` of a row hold what `f` gives, at the places of both orders
pub record Paired (f : ℕ → ℕ → ℕ) (row : List ℕ) (k : ℕ) : Type 0 where
  pub row_length : length row ≡ 256
  pub both : (i j : ℕ) → i < 16 → j ≤ i → i * 16 + j < k → (get_or row (i * 16 + j) 0 ≡ f i j) × (get_or row (j * 16 + i) 0 ≡ f i j)

-- The place of a place's pair in the other order
abbrev pub mirror : ℕ → ℕ
mirror k = k % 16 * 16 + k / 16

-- A place is of one pair only
same_pair : (i j a b : ℕ) → j < 16 → b < 16 → i * 16 + j ≡ a * 16 + b → (i ≡ a) × (j ≡ b)
same_pair i j a b h k e =
    let first : i ≡ a = le_antisymm (omega arith) (omega arith) in
    (first, omega (arith, first, e))

-- What stands at a place stays there where the same is written somewhere
kept : (row : List ℕ) (m v k : ℕ) → m < length row → get_or row k 0 ≡ v → get_or (set row m v) k 0 ≡ v
kept row m v k h e = go (ℕ_discrete k m)
  where
    go : Dec (k ≡ m) → get_or (set row m v) k 0 ≡ v
    go (yes s) = ap (λ (n : ℕ). get_or (set row m v) n 0) s ∙ get_or-set_same row m v 0 h
    go (no f) = get_or-set_other row m k v 0 f ∙ e

module _ (f : ℕ → ℕ → ℕ) where
  pub paired_none : (row : List ℕ) → length row ≡ 256 → Paired f row 0
  paired_none row e = record { row_length = e; both = λ i j h l k. absurd (omega arith) }

  -- one pair more
  pub paired_next :
      (row : List ℕ) (k v : ℕ)
      → k < 256
      → k % 16 ≤ k / 16
      → v ≡ f (k / 16) (k % 16)
      → Paired f row k
      → Paired f (set (set row k v) (mirror k) v) (k + 1)
  paired_next row k v small order e r =
      record { row_length = length-set (set row k v) (mirror k) v ∙ length-set row k v ∙ r.row_length; both = λ i j h l b. go i j h l b (ℕ_discrete (i * 16 + j) k) }
    where
      inside : mirror k < length (set row k v)
      inside = rw (length-set row k v ∙ r.row_length) (omega arith)

      untouched : (n : ℕ) → (n ≡ k → ⊥) → (n ≡ mirror k → ⊥) → get_or (set (set row k v) (mirror k) v) n 0 ≡ get_or row n 0
      untouched n a b = get_or-set_other (set row k v) (mirror k) n v 0 b ∙ get_or-set_other row k n v 0 a

      go :
          (i j : ℕ)
          → i < 16
          → j ≤ i
          → i * 16 + j < k + 1
          → Dec (i * 16 + j ≡ k)
          → (get_or (set (set row k v) (mirror k) v) (i * 16 + j) 0 ≡ f i j) × (get_or (set (set row k v) (mirror k) v) (j * 16 + i) 0 ≡ f i j)
      go i j h l b (yes s) =
          let value : v ≡ f i j = e ∙ ap₂ f (omega arith) (omega arith) in (
            ap (λ (n : ℕ). get_or (set (set row k v) (mirror k) v) n 0) s
                ∙ kept (set row k v) (mirror k) v k inside (get_or-set_same row k v 0 (rw r.row_length small))
                ∙ value,
            ap (λ (n : ℕ). get_or (set (set row k v) (mirror k) v) n 0) (omega arith) ∙ get_or-set_same (set row k v) (mirror k) v 0 inside ∙ value,
          )
      go i j h l b (no a) =
          let (there, mirrored) = r.both i j h l (omega arith) in (
            untouched (i * 16 + j) a (λ q. a (let (m, n) = same_pair i j (k % 16) (k / 16) (omega arith) (omega arith) q in omega (arith, m, n))) ∙ there,
            untouched (j * 16 + i) (λ q. a (let (m, n) = same_pair j i (k / 16) (k % 16) h (omega arith) (q ∙ omega arith) in omega (arith, m, n)))
                (λ q. a (let (m, n) = same_pair j i (k % 16) (k / 16) h (omega arith) q in omega (arith, m, n)))
                ∙ mirrored,
          )

  -- a place that is of no pair in this order
  pub paired_passed : (row : List ℕ) (k : ℕ) → k / 16 < k % 16 → Paired f row k → Paired f row (k + 1)
  paired_passed row k order r =
      record { row_length = r.row_length; both = λ i j h l b. r.both i j h l (omega arith) }
