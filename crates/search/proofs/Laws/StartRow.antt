-- Laws of a call that is lent a start row, whatever it gives on a network: by whether the file is accepted and the row has one place for each
-- line, and when it refuses. Assumes nothing.
use Prim.Native.Nat.{ℕ}
use mathlib.Core.Path.{◌≡◌, refl, ap, ap₂, ◌∙◌}
use mathlib.Core.Bool.{Bool, true, false}
use mathlib.Core.List.{List}
use borrow.Author.Tests.{eqb-true, eqb-false, eq-eqb, ne_eqb}
use lib.Dec.{eqb}
use lib.IntN.{ℤ}
use lib.ListN.{length}
use Rattle.network.specs.Archive.{SameOffsets}
use Rattle.network.specs.Lists.{pick}
use Rattle.network.specs.Network.{Net}
use Rattle.network.specs.Reading.{Reading, accepted, refused, read_file}
use Rattle.network.specs.Refusals.{Refuses, by_file, after_file, Unfit}
use Rattle.search.specs.Search.{on_start_row}

module _ {A : Type 0} (call : Net → A) (refuses : ℕ → ℕ → A) where
  pub on_start_row_refused : (number place row : ℕ) → on_start_row call refuses (refused number place) row ≡ refuses number place
  unfolding on_start_row
  on_start_row_refused number place row = refl

  module _ (n : Net) (row : ℕ) where
    pub on_start_row_fit : row ≡ length n.periods → on_start_row call refuses (accepted n) row ≡ call n
    unfolding on_start_row
    on_start_row_fit fits = ap (λ (b : Bool). pick b (call n) (refuses 16 0)) (eq-eqb _ _ fits)

    pub on_start_row_unfit : (row ≡ length n.periods → ⊥) → on_start_row call refuses (accepted n) row ≡ refuses 16 0
    unfolding on_start_row
    on_start_row_unfit unfit = ap (λ (b : Bool). pick b (call n) (refuses 16 0)) (ne_eqb _ _ unfit)

    pub on_start_row_cases : (P : A → Type 0) → ((row ≡ length n.periods → ⊥) → P (refuses 16 0)) → (row ≡ length n.periods → P (call n))
        → P (on_start_row call refuses (accepted n) row)
    unfolding on_start_row
    on_start_row_cases P f g = go (eqb row (length n.periods)) refl
      where
        go : (t : Bool) → eqb row (length n.periods) ≡ t → P (pick t (call n) (refuses 16 0))
        go false e = f (eqb-false _ _ e)
        go true e = g (eqb-true _ _ e)

  -- Two networks with as many lines on which it gives the same
  pub on_start_row_same : {m n : Net} → SameOffsets m n → call m ≡ call n → (row : ℕ)
      → on_start_row call refuses (accepted m) row ≡ on_start_row call refuses (accepted n) row
  unfolding on_start_row
  on_start_row_same same e row = ap₂ (λ (lines : ℕ) (a : A). pick (eqb row lines) a (refuses 16 0)) (ap length same.same_periods) e

  -- ---- when it refuses

  module _ (file : List ℕ) (row : List ℤ) where
    pub on_start_row_refuses : {number place : ℕ} → Refuses file 16 (Unfit row) number place
        → on_start_row call refuses (read_file file) (length row) ≡ refuses number place
    on_start_row_refuses (by_file e) = ap (λ (k : Reading). on_start_row call refuses k (length row)) e ∙ on_start_row_refused _ _ (length row)
    on_start_row_refuses (after_file {n = n} e differ) =
        ap (λ (k : Reading). on_start_row call refuses k (length row)) e ∙ on_start_row_unfit n (length row) differ

    -- Where no other answer is a refusal, and a refusal tells its number and place
    module _ (answers : (n : Net) (number place : ℕ) → call n ≡ refuses number place → ⊥)
        (tells : (number place number' place' : ℕ) → refuses number place ≡ refuses number' place' → refused number place ≡ refused number' place') where
      refuses_only : {number place : ℕ} (read : Reading) → read_file file ≡ read → on_start_row call refuses read (length row) ≡ refuses number place
          → Refuses file 16 (Unfit row) number place
      unfolding on_start_row
      refuses_only (refused number' place') e h = by_file (e ∙ tells number' place' _ _ h)
      refuses_only {number} {place} (accepted n) e h =
          on_start_row_cases n (length row) (λ a. a ≡ refuses number place → Refuses file 16 (Unfit row) number place)
          (λ unfit f.
          let number_is : 16 ≡ number = cc (tells 16 0 number place f) in
          let place_is : 0 ≡ place = cc (tells 16 0 number place f) in
          rw (← number_is, ← place_is) (after_file e unfit))
          (λ fits f. absurd (answers n number place f)) h

      pub on_start_row_refuses_only : {number place : ℕ} → on_start_row call refuses (read_file file) (length row) ≡ refuses number place
          → Refuses file 16 (Unfit row) number place
      on_start_row_refuses_only = refuses_only (read_file file) refl

-- What is made of its answer
pub on_start_row_made : {A B : Type 0} (f : A → B) (call : Net → A) (refuses : ℕ → ℕ → A) (read : Reading) (row : ℕ)
    → f (on_start_row call refuses read row) ≡ on_start_row (λ n. f (call n)) (λ number place. f (refuses number place)) read row
unfolding on_start_row
on_start_row_made f call refuses (refused number place) row = refl
on_start_row_made f call refuses (accepted n) row = go (eqb row (length n.periods))
  where
    go : (t : Bool) → f (pick t (call n) (refuses 16 0)) ≡ pick t (f (call n)) (f (refuses 16 0))
    go true = refl
    go false = refl
