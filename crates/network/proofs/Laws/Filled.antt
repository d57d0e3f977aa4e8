-- A row filled from the front holds a place more after each turn, and is a table in the end. Assumes nothing.
use Prim.Native.Nat.{ℕ, ◌+◌, ◌<◌}
use mathlib.Core.Path.{◌≡◌, sym, ◌∙◌}
use mathlib.Core.List.{List}
use native.Mathlib.Omega.{arith}
use borrow.Author.Count.{below_none, below_more}
use lib.ListN.{length, get_or, set, length-set, replicate, length-replicate}
use lib.Seq.{get_or-set_same, get_or-set_other, ext_get_or}
use Rattle.network.specs.Lists.{table}
use Rattle.network.proofs.Laws.Tables.{length_table, get_d_table}

-- The first `i` places of a row hold what `f` gives
pub record Filled (f : ℕ → ℕ) (size : ℕ) (row : List ℕ) (i : ℕ) : Type 0 where
  pub row_length : length row ≡ size
  pub filled : (j : ℕ) → j < i → get_or row j 0 ≡ f j

module _ (f : ℕ → ℕ) (size : ℕ) where
  pub filled_none : Filled f size (replicate size 0) 0
  filled_none = record { row_length = length-replicate {A = ℕ} size 0; filled = below_none (λ j. get_or (replicate size 0) j 0 ≡ f j) }

  -- one place more
  pub filled_next : (row : List ℕ) (i v : ℕ) → i < size → v ≡ f i → Filled f size row i → Filled f size (set row i v) (i + 1)
  filled_next row i v h e r =
      record {
        row_length = length-set row i v ∙ r.row_length;
        filled =
            below_more (λ j. get_or (set row i v) j 0 ≡ f j) i
            (λ j k. get_or-set_other row i j v 0 (λ q. omega arith) ∙ r.filled j k)
            (get_or-set_same row i v 0 (rw r.row_length h) ∙ e);
      }

  -- all places
  pub filled_all : (row : List ℕ) → Filled f size row size → row ≡ table f size
  filled_all row r =
      ext_get_or 0 row (table f size) (r.row_length ∙ sym (length_table f size))
      (λ i h.
      let low : i < size = rw r.row_length at h in
      r.filled i low ∙ sym (get_d_table f size i 0 low))
