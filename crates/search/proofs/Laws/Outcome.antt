-- What each answer of the search tells of the walk that it comes from, and of the start row. Assumes nothing.
use Prim.Native.Nat.{ℕ, ◌≤◌}
use mathlib.Core.Path.{◌≡◌, refl, ap, ap₂, ◌∙◌}
use mathlib.Core.Bool.{Bool, true, false}
use mathlib.Core.List.{List}
use native.Mathlib.Omega.{arith}
use lib.IntN.{ℤ}
use lib.ListN.{length}
use Rattle.network.specs.Archive.{SameOffsets}
use Rattle.network.specs.Lists.{pick}
use Rattle.network.specs.Network.{Net}
use Rattle.network.specs.Reading.{accepted, refused, read_file}
use Rattle.network.specs.Refusals.{Refuses, Unfit}
use Rattle.network.specs.Valid.{Valid}
use Rattle.network.proofs.Laws.Lists.{zero_ne_one}
use Rattle.search.specs.Walk.{State}
use Rattle.search.specs.Search.{above_best, searched, tries_bound, walk_outcome, outcome_of, row_after_walk, search_outcome, start_row_after}
use Rattle.search.specs.Search.{SearchOutcome, finished, stopped, stopped_with_none, refusal, tries_of}
use Rattle.search.proofs.Laws.OnNetwork.{walked_tries_le, walked_tries_le_budget, walked_finishes}
use Rattle.search.proofs.Laws.Reordered.{walked_same}
use Rattle.search.proofs.Laws.StartRow.{on_start_row_fit, on_start_row_cases, on_start_row_same, on_start_row_refuses, on_start_row_refuses_only}

-- ---- what a walk at its end gives

module _ (s : State) where
  pub outcome_of_finished : s.stopped ≡ false → outcome_of s ≡ finished s.best.least s.best.sum s.tries
  unfolding outcome_of walk_outcome
  outcome_of_finished e = ap (λ (a : Bool). walk_outcome a s.best.some s) e

  pub outcome_of_stopped : s.stopped ≡ true → s.best.some ≡ true → outcome_of s ≡ stopped s.best.least s.best.sum s.tries
  unfolding outcome_of walk_outcome
  outcome_of_stopped e f = ap₂ (λ (a b : Bool). walk_outcome a b s) e f

  pub outcome_of_none : s.stopped ≡ true → s.best.some ≡ false → outcome_of s ≡ stopped_with_none s.tries
  unfolding outcome_of walk_outcome
  outcome_of_none e f = ap₂ (λ (a b : Bool). walk_outcome a b s) e f

-- ---- a row that fits

module _ (n : Net) (row : List ℤ) (budget : ℕ) (fits : length row ≡ length n.periods) where
  pub fit_outcome : search_outcome (accepted n) (length row) budget ≡ outcome_of (searched n budget)
  unfolding search_outcome
  fit_outcome = on_start_row_fit (λ (m : Net). outcome_of (searched m budget)) refusal n (length row) fits

  pub fit_row : start_row_after (accepted n) budget row ≡ pick (searched n budget).best.some (searched n budget).starts row
  unfolding start_row_after row_after_walk
  fit_row = on_start_row_fit (λ (m : Net). row_after_walk (searched m budget) row) (λ number place. row) n (length row) fits

-- ---- two files with the same periods and offsets

module _ {m n : Net} (v : Valid m) (w : Valid n) (same : SameOffsets m n) where
  pub search_outcome_same : (row budget : ℕ) → search_outcome (accepted m) row budget ≡ search_outcome (accepted n) row budget
  unfolding search_outcome
  search_outcome_same row budget =
      on_start_row_same (λ (k : Net). outcome_of (searched k budget)) refusal same (ap outcome_of (walked_same v w same above_best budget)) row

  pub start_row_after_same : (budget : ℕ) (row : List ℤ) → start_row_after (accepted m) budget row ≡ start_row_after (accepted n) budget row
  unfolding start_row_after
  start_row_after_same budget row =
      on_start_row_same (λ (k : Net). row_after_walk (searched k budget) row) (λ number place. row) same
      (ap (λ (s : State). row_after_walk s row) (walked_same v w same above_best budget)) (length row)

-- ---- what an answer with a best tells

pub record AnswerTells (n : Net) (row budget least sum tries : ℕ) (ends : Bool) : Type 0 where
  pub fits : row ≡ length n.periods
  pub stops : (searched n budget).stopped ≡ ends
  pub its_least : (searched n budget).best.least ≡ least
  pub its_sum : (searched n budget).best.sum ≡ sum
  pub its_tries : (searched n budget).tries ≡ tries

module _ (n : Net) (row budget : ℕ) where
  -- By the tests that the answer goes by: the row fits, the walk stopped, it has a best
  outcome_cases : (P : SearchOutcome → Type 0)
      → ((row ≡ length n.periods → ⊥) → P (refusal 16 0))
      → ((a b : Bool) → row ≡ length n.periods → (searched n budget).stopped ≡ a → (searched n budget).best.some ≡ b → P (walk_outcome a b (searched n budget)))
      → P (search_outcome (accepted n) row budget)
  unfolding search_outcome outcome_of
  outcome_cases P f g = on_start_row_cases (λ (m : Net). outcome_of (searched m budget)) refusal n row P f (λ e. g _ _ e refl refl)

  pub told_of_finished : {least sum tries : ℕ} → search_outcome (accepted n) row budget ≡ finished least sum tries
      → AnswerTells n row budget least sum tries false
  unfolding walk_outcome
  told_of_finished {least} {sum} {tries} =
      outcome_cases (λ o. o ≡ finished least sum tries → AnswerTells n row budget least sum tries false) (λ f e. absurd (zero_ne_one (cc))) go
    where
      go : (a b : Bool) → row ≡ length n.periods → (searched n budget).stopped ≡ a → (searched n budget).best.some ≡ b
          → walk_outcome a b (searched n budget) ≡ finished least sum tries → AnswerTells n row budget least sum tries false
      go true true f x y e = absurd (zero_ne_one (cc))
      go true false f x y e = absurd (zero_ne_one (cc))
      go false b f x y e = record { fits = f; stops = x; its_least = cc; its_sum = cc; its_tries = cc }

  pub told_of_stopped : {least sum tries : ℕ} → search_outcome (accepted n) row budget ≡ stopped least sum tries
      → AnswerTells n row budget least sum tries true × ((searched n budget).best.some ≡ true)
  unfolding walk_outcome
  told_of_stopped {least} {sum} {tries} =
      outcome_cases (λ o. o ≡ stopped least sum tries → AnswerTells n row budget least sum tries true × ((searched n budget).best.some ≡ true))
      (λ f e. absurd (zero_ne_one (cc))) go
    where
      go : (a b : Bool) → row ≡ length n.periods → (searched n budget).stopped ≡ a → (searched n budget).best.some ≡ b
          → walk_outcome a b (searched n budget) ≡ stopped least sum tries
          → AnswerTells n row budget least sum tries true × ((searched n budget).best.some ≡ true)
      go true true f x y e = (record { fits = f; stops = x; its_least = cc; its_sum = cc; its_tries = cc }, y)
      go true false f x y e = absurd (zero_ne_one (cc))
      go false b f x y e = absurd (zero_ne_one (cc))

  -- Stopped with none
  pub told_of_none : {tries : ℕ} → search_outcome (accepted n) row budget ≡ stopped_with_none tries
      → (row ≡ length n.periods) × ((searched n budget).stopped ≡ true) × ((searched n budget).best.some ≡ false) × ((searched n budget).tries ≡ tries)
  unfolding walk_outcome
  told_of_none {tries} =
      outcome_cases (λ o. o ≡ stopped_with_none tries → (row ≡ length n.periods) × ((searched n budget).stopped ≡ true) × ((searched n budget).best.some ≡ false) × ((searched n budget).tries ≡ tries))
      (λ f e. absurd (zero_ne_one (cc))) go
    where
      go : (a b : Bool) → row ≡ length n.periods → (searched n budget).stopped ≡ a → (searched n budget).best.some ≡ b
          → walk_outcome a b (searched n budget) ≡ stopped_with_none tries
          → (row ≡ length n.periods) × ((searched n budget).stopped ≡ true) × ((searched n budget).best.some ≡ false) × ((searched n budget).tries ≡ tries)
      go true true f x y e = absurd (zero_ne_one (cc))
      go true false f x y e = (f, x, y, cc)
      go false b f x y e = absurd (zero_ne_one (cc))

  -- ---- the tries

  -- An answer reports the walk's tries, a refusal none
  reported : (P : ℕ → Type 0) → P 0 → P (searched n budget).tries → P (tries_of (search_outcome (accepted n) row budget))
  unfolding walk_outcome
  reported P none some = outcome_cases (λ o. P (tries_of o)) (λ f. none) go
    where
      go : (a b : Bool) → row ≡ length n.periods → (searched n budget).stopped ≡ a → (searched n budget).best.some ≡ b
          → P (tries_of (walk_outcome a b (searched n budget)))
      go true true f x y = some
      go true false f x y = some
      go false b f x y = some

  pub outcome_tries_le : tries_of (search_outcome (accepted n) row budget) ≤ tries_bound n
  outcome_tries_le = reported (λ k. k ≤ tries_bound n) (omega arith) (walked_tries_le n above_best budget)

  pub outcome_tries_le_budget : tries_of (search_outcome (accepted n) row budget) ≤ budget
  outcome_tries_le_budget = reported (λ k. k ≤ budget) (omega arith) (walked_tries_le_budget n above_best budget)

  pub outcome_finished : row ≡ length n.periods → tries_bound n ≤ budget
      → (least : ℕ) × (sum : ℕ) × (tries : ℕ) × (search_outcome (accepted n) row budget ≡ finished least sum tries)
  unfolding search_outcome outcome_of walk_outcome
  outcome_finished e h = (
    (searched n budget).best.least,
    (searched n budget).best.sum,
    (searched n budget).tries,
    on_start_row_fit (λ (m : Net). outcome_of (searched m budget)) refusal n row e
        ∙ ap (λ (stops : Bool). walk_outcome stops (searched n budget).best.some (searched n budget)) (walked_finishes n above_best budget h),
  )

-- ---- when it refuses

walk_answers : (a b : Bool) (s : State) (number place : ℕ) → walk_outcome a b s ≡ refusal number place → ⊥
unfolding walk_outcome
walk_answers true true s number place e = zero_ne_one (cc)
walk_answers true false s number place e = zero_ne_one (cc)
walk_answers false b s number place e = zero_ne_one (cc)

refused_of_refusal : (number place number' place' : ℕ) → refusal number place ≡ refusal number' place' → refused number place ≡ refused number' place'
refused_of_refusal number place number' place' e = ap₂ refused (cc) (cc)

module _ (file : List ℕ) (row : List ℤ) (budget : ℕ) where
  pub search_refuses : {number place : ℕ} → Refuses file 16 (Unfit row) number place
      → search_outcome (read_file file) (length row) budget ≡ refusal number place
  unfolding search_outcome
  search_refuses = on_start_row_refuses (λ (n : Net). outcome_of (searched n budget)) refusal file row

  pub search_refuses_only : {number place : ℕ} → search_outcome (read_file file) (length row) budget ≡ refusal number place
      → Refuses file 16 (Unfit row) number place
  unfolding search_outcome outcome_of
  search_refuses_only =
      on_start_row_refuses_only (λ (n : Net). outcome_of (searched n budget)) refusal file row (λ n. walk_answers _ _ (searched n budget)) refused_of_refusal

  pub row_as_found : {number place : ℕ} → search_outcome (read_file file) (length row) budget ≡ refusal number place
      → start_row_after (read_file file) budget row ≡ row
  unfolding start_row_after
  row_as_found h =
      on_start_row_refuses (λ (n : Net). row_after_walk (searched n budget) row) (λ number place. row) file row (search_refuses_only h)
