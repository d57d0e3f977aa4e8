-- When the network's calls refuse, both ways: each answer's definition goes by the reading and by one test of what else was lent. Assumes
-- nothing.
use Prim.Native.Nat.{ℕ}
use mathlib.Core.Path.{◌≡◌, refl, sym, ap, ap₂, ◌∙◌}
use mathlib.Core.Bool.{Bool, true, false, ◌&&◌}
use mathlib.Core.List.{List, [], ◌∷◌}
use mathlib.Core.Logic.{inl, inr}
use borrow.Author.Tests.{eqb-true, eqb-false, eq-eqb, ne_eqb}
use lib.Dec.{eqb}
use lib.IntN.{ℤ}
use lib.ListN.{length}
use Rattle.std.specs.Prelude.{Err}
use Rattle.network.specs.declared.grounds.Refusal.{Refusal}
use Rattle.network.specs.Numbers.{number_of}
use Rattle.network.specs.Rating.{Rating}
use Rattle.network.specs.Lists.{pick}
use Rattle.network.specs.Network.{Net, stop_count}
use Rattle.network.specs.Reading.{Reading, accepted, refused, values, refusal, read_file, read_outcome}
use Rattle.network.specs.Gives.{Gives}
use Rattle.network.specs.Refusals.{Refuses, by_file, after_file, Unfit, Not64}
use Rattle.network.specs.Rating.{rating}
use Rattle.network.specs.Rate.{rate_answer, rating_values, on_sheet, rated_on_sheet, rate_outcome}
use Rattle.network.specs.Classes.{class_count, class_row, weight_row}
use Rattle.network.specs.ClassCall.{rows_fit, class_outcome, class_row_after, weight_row_after}
use Rattle.network.proofs.Laws.Lists.{zero_ne_one, and_both, and_not_left, and_not_right}
use Rattle.network.proofs.Laws.Reading.{gives_what_is_read, read_file_gives}

-- ---- a test that a call makes of what is lent

-- Where the test fails, the call refuses by its own ground
picked_unfit : {A : Type 0} (b : Bool) (answer other : A) → b ≡ false → pick b answer other ≡ other
picked_unfit b answer other e = rw e

-- Two refusals that are one
pub same_refusal : {number place number' place' : ℕ} → refusal number place ≡ refusal number' place' → refused number place ≡ refused number' place'
same_refusal e = ap₂ refused (cc) (cc)

-- ---- the read call

module _ (file : List ℕ) {number place : ℕ} where
  read_refused_by : (read : Reading) → read_file file ≡ read → read_outcome read ≡ refusal number place → read_file file ≡ refused number place
  unfolding read_outcome
  read_refused_by (accepted n) e f = absurd (zero_ne_one (cc))
  read_refused_by (refused number' place') e f = e ∙ same_refusal f

  pub read_refuses : Gives file (refused number place) → read_outcome (read_file file) ≡ refusal number place
  unfolding read_outcome
  read_refuses g = ap read_outcome (gives_what_is_read g)

  pub read_refused_as : read_outcome (read_file file) ≡ refusal number place → read_file file ≡ refused number place
  read_refused_as = read_refused_by (read_file file) refl

  pub read_refuses_only : read_outcome (read_file file) ≡ refusal number place → Gives file (refused number place)
  read_refuses_only e = rw (read_refused_as e) at (read_file_gives file)

-- ---- a call on a sheet

-- What it answers is no refusal, and two refusals are told apart by number and place
pub record TellsApart {A : Type 0} (answers : Net → List ℤ → A) (refuses : ℕ → ℕ → A) (file : List ℕ) (sheet : List ℤ) : Type 0 where
  pub no_refusal : (n : Net) → read_file file ≡ accepted n → length sheet ≡ length n.periods → (number place : ℕ) → answers n sheet ≡ refuses number place → ⊥
  pub same_number : (number place number' place' : ℕ) → refuses number place ≡ refuses number' place' → (number ≡ number') × (place ≡ place')

-- On a network it answers where the sheet fits ..
pub on_sheet_fits : {A : Type 0} (answers : Net → List ℤ → A) (refuses : ℕ → ℕ → A) (n : Net) (sheet : List ℤ) → length sheet ≡ length n.periods
    → on_sheet answers refuses (accepted n) sheet ≡ answers n sheet
unfolding on_sheet
on_sheet_fits answers refuses n sheet fits = ap (λ (b : Bool). pick b (answers n sheet) (refuses 15 0)) (eq-eqb _ _ fits)

-- .. and refuses by 15 where it doesn't
pub on_sheet_unfit : {A : Type 0} (answers : Net → List ℤ → A) (refuses : ℕ → ℕ → A) (n : Net) (sheet : List ℤ) → (length sheet ≡ length n.periods → ⊥)
    → on_sheet answers refuses (accepted n) sheet ≡ refuses 15 0
unfolding on_sheet
on_sheet_unfit answers refuses n sheet differ = picked_unfit _ (answers n sheet) (refuses 15 0) (ne_eqb _ _ differ)

module _ {A : Type 0} (answers : Net → List ℤ → A) (refuses : ℕ → ℕ → A) (file : List ℕ) (sheet : List ℤ) where
  pub on_sheet_refuses : {number place : ℕ} → Refuses file 15 (Unfit sheet) number place → on_sheet answers refuses (read_file file) sheet ≡ refuses number place
  unfolding on_sheet
  on_sheet_refuses (by_file e) = ap (λ (k : Reading). on_sheet answers refuses k sheet) e
  on_sheet_refuses (after_file {n = n} e differ) = ap (λ (k : Reading). on_sheet answers refuses k sheet) e ∙ on_sheet_unfit answers refuses n sheet differ

  pub on_sheet_refuses_only : TellsApart answers refuses file sheet → {number place : ℕ} → on_sheet answers refuses (read_file file) sheet ≡ refuses number place
      → Refuses file 15 (Unfit sheet) number place
  unfolding on_sheet
  on_sheet_refuses_only apart {number} {place} = go (read_file file) refl
    where
      at : (n : Net) → read_file file ≡ accepted n → (b : Bool) → eqb (length sheet) (length n.periods) ≡ b
          → pick b (answers n sheet) (refuses 15 0) ≡ refuses number place
          → Refuses file 15 (Unfit sheet) number place
      at n e true f h = absurd (apart.no_refusal n e (eqb-true _ _ f) number place h)
      at n e false f h =
          let (number_is, place_is) = apart.same_number 15 0 number place h in
          rw (← number_is, ← place_is) (after_file e (eqb-false _ _ f))

      go : (read : Reading) → read_file file ≡ read → on_sheet answers refuses read sheet ≡ refuses number place → Refuses file 15 (Unfit sheet) number place
      go (refused number' place') e h =
          let (number_is, place_is) = apart.same_number number' place' number place h in
          by_file (e ∙ ap₂ refused number_is place_is)
      go (accepted n) e h = at n e (eqb (length sheet) (length n.periods)) refl h

  -- .. and otherwise it answers
  pub on_sheet_answers : {n : Net} → read_file file ≡ accepted n → length sheet ≡ length n.periods
      → on_sheet answers refuses (read_file file) sheet ≡ answers n sheet
  on_sheet_answers {n} e fits = ap (λ (k : Reading). on_sheet answers refuses k sheet) e ∙ on_sheet_fits answers refuses n sheet fits

-- ---- a call that rates a sheet

module _ (rates : Net → List ℤ → Rating) (file : List ℕ) (sheet : List ℤ) where
  rated_apart : TellsApart (λ (n : Net) (starts : List ℤ). rating_values (rates n starts)) refusal file sheet
  unfolding rating_values
  rated_apart =
      record {
        no_refusal = λ n reads fit number place e. absurd (zero_ne_one (cc));
        same_number = λ number place number' place' e. (cc, cc);
      }

  pub sheet_refuses : {number place : ℕ} → Refuses file 15 (Unfit sheet) number place → rated_on_sheet rates (read_file file) sheet ≡ refusal number place
  sheet_refuses = on_sheet_refuses _ refusal file sheet

  pub sheet_refuses_only : {number place : ℕ} → rated_on_sheet rates (read_file file) sheet ≡ refusal number place → Refuses file 15 (Unfit sheet) number place
  sheet_refuses_only = on_sheet_refuses_only _ refusal file sheet rated_apart

  pub sheet_answers : {n : Net} → read_file file ≡ accepted n → length sheet ≡ length n.periods
      → rated_on_sheet rates (read_file file) sheet ≡ values ((rates n sheet).least ∷ (rates n sheet).sum ∷ [])
  unfolding rating_values
  sheet_answers = on_sheet_answers _ refusal file sheet

-- What rate answers where the file is refused
pub rate_refused : (file : List ℕ) (sheet : List ℤ) (r : Refusal) → read_file file ≡ refused (number_of r.reason) r.place
    → rate_answer (Err r) ≡ rate_outcome (read_file file) sheet
unfolding rate_answer rate_outcome
rate_refused file sheet r e = sym (sheet_refuses rating file sheet (by_file e))

-- ---- the class call

module _ (file classes weights : List ℕ) where
  unfit_rows : (n : Net) → Not64 classes weights n → rows_fit (length classes) (length weights) ≡ false
  unfolding rows_fit
  unfit_rows n (inl differ) = and_not_left _ _ (ne_eqb _ _ differ)
  unfit_rows n (inr differ) = and_not_right (eqb (length classes) stop_count) _ (ne_eqb _ _ differ)

  rows_unfit : (n : Net) → rows_fit (length classes) (length weights) ≡ false → Not64 classes weights n
  unfolding rows_fit
  rows_unfit n = go (eqb (length classes) stop_count) (eqb (length weights) stop_count) refl refl
    where
      go : (a b : Bool) → eqb (length classes) stop_count ≡ a → eqb (length weights) stop_count ≡ b → (a && b) ≡ false → Not64 classes weights n
      go true true e f h = absurd (zero_ne_one (cc))
      go true false e f h = inr (eqb-false _ _ f)
      go false b e f h = inl (eqb-false _ _ e)

  pub class_refuses : {number place : ℕ} → Refuses file 17 (Not64 classes weights) number place
      → class_outcome (read_file file) (length classes) (length weights) ≡ refusal number place
  unfolding class_outcome
  class_refuses (by_file e) = ap (λ (k : Reading). class_outcome k (length classes) (length weights)) e
  class_refuses (after_file {n = n} e unfit) =
      ap (λ (k : Reading). class_outcome k (length classes) (length weights)) e
      ∙ picked_unfit _ (values (class_count n ∷ [])) (refusal 17 0) (unfit_rows n unfit)

  -- A refusal is by the file or by a row, and leaves both rows
  class_refused : {number place : ℕ} → (read : Reading) → read_file file ≡ read
      → class_outcome read (length classes) (length weights) ≡ refusal number place
      → Refuses file 17 (Not64 classes weights) number place
      × (class_row_after read classes weights ≡ classes)
      × (weight_row_after read classes weights ≡ weights)
  unfolding class_outcome class_row_after weight_row_after
  class_refused (refused number' place') e h = (by_file (e ∙ same_refusal h), refl, refl)
  class_refused {number} {place} (accepted n) e h = at (rows_fit (length classes) (length weights)) refl h
    where
      at : (b : Bool) → rows_fit (length classes) (length weights) ≡ b → pick b (values (class_count n ∷ [])) (refusal 17 0) ≡ refusal number place
          → Refuses file 17 (Not64 classes weights) number place
          × (pick b (class_row n) classes ≡ classes)
          × (pick b (weight_row n) weights ≡ weights)
      at true f h = absurd (zero_ne_one (cc))
      at false f h =
          let number_is : 17 ≡ number = cc in
          let place_is : 0 ≡ place = cc in
          (rw (← number_is, ← place_is) (after_file e (rows_unfit n f)), refl, refl)

  module _ {number place : ℕ} (h : class_outcome (read_file file) (length classes) (length weights) ≡ refusal number place) where
    pub class_refuses_only : Refuses file 17 (Not64 classes weights) number place
    class_refuses_only = (class_refused (read_file file) refl h).0

    pub classes_as_found : class_row_after (read_file file) classes weights ≡ classes
    classes_as_found = (class_refused (read_file file) refl h).1

    pub weights_as_found : weight_row_after (read_file file) classes weights ≡ weights
    weights_as_found = (class_refused (read_file file) refl h).2

  -- Rows of 64 places are filled
  pub class_answers : {n : Net} → read_file file ≡ accepted n → length classes ≡ stop_count → length weights ≡ stop_count
      → (class_outcome (read_file file) (length classes) (length weights) ≡ values (class_count n ∷ []))
      × (class_row_after (read_file file) classes weights ≡ class_row n)
      × (weight_row_after (read_file file) classes weights ≡ weight_row n)
  unfolding class_outcome class_row_after weight_row_after rows_fit
  class_answers e c w = rw (e, and_both _ _ (eq-eqb _ _ c) (eq-eqb _ _ w)) (refl, refl, refl)
