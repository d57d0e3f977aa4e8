-- What each answer of the call with a wanted gap tells of the walk that it comes from, and of the start row. Assumes nothing.
use Prim.Native.Nat.{ℕ, ◌≤◌}
use mathlib.Core.Path.{◌≡◌, refl, ap, ap₂}
use mathlib.Core.Bool.{Bool, true, false}
use mathlib.Core.List.{List}
use native.Mathlib.Omega.{arith}
use lib.IntN.{ℤ}
use lib.ListN.{length}
use Rattle.std.specs.Prelude.{Ok, Err}
use Rattle.network.specs.declared.grounds.Refusal.{Refusal}
use Rattle.network.specs.Numbers.{number_of}
use Rattle.network.specs.Archive.{SameOffsets}
use Rattle.network.specs.Lists.{pick}
use Rattle.network.specs.Network.{Net}
use Rattle.network.specs.Reading.{accepted, refused, read_file}
use Rattle.network.specs.Refusals.{Refuses, Unfit}
use Rattle.network.specs.Valid.{Valid}
use Rattle.network.proofs.Laws.Lists.{zero_ne_one}
use Rattle.search.specs.declared.WantedAnswer.TheVariants as answer
use Rattle.search.specs.Walk.{State}
use Rattle.search.specs.Search.{tries_bound, walked, row_after_walk}
use Rattle.search.specs.Wanted.{at_least, WantedOutcome, found, none, stopped, refusal, tries_of, wanted_answer, reached_by, reached_of}
use Rattle.search.specs.Wanted.{wanted_outcome, wanted_row_after}
use Rattle.search.proofs.Laws.OnNetwork.{walked_tries_le, walked_tries_le_budget}
use Rattle.search.proofs.Laws.Reordered.{walked_same}
use Rattle.search.proofs.Laws.StartRow.{on_start_row_fit, on_start_row_cases, on_start_row_same, on_start_row_refuses, on_start_row_refuses_only}

-- ---- the call's answer

module _ (tries : ℕ) where
  pub wanted_answer_found : wanted_answer (Ok (answer.Found tries)) ≡ found tries
  unfolding wanted_answer
  wanted_answer_found = refl

  pub wanted_answer_none : wanted_answer (Ok (answer.None tries)) ≡ none tries
  unfolding wanted_answer
  wanted_answer_none = refl

  pub wanted_answer_stopped : wanted_answer (Ok (answer.Stopped tries)) ≡ stopped tries
  unfolding wanted_answer
  wanted_answer_stopped = refl

pub wanted_answer_refused : (r : Refusal) → wanted_answer (Err r) ≡ refusal (number_of r.reason) r.place
unfolding wanted_answer
wanted_answer_refused r = refl

-- ---- what a walk at its end gives

module _ (s : State) where
  pub reached_of_found : s.best.some ≡ true → reached_of s ≡ found s.tries
  unfolding reached_of reached_by
  reached_of_found e = ap (λ (b : Bool). reached_by b s.stopped s) e

  pub reached_of_none : s.best.some ≡ false → s.stopped ≡ false → reached_of s ≡ none s.tries
  unfolding reached_of reached_by
  reached_of_none e f = ap₂ (λ (b c : Bool). reached_by b c s) e f

  pub reached_of_stopped : s.best.some ≡ false → s.stopped ≡ true → reached_of s ≡ stopped s.tries
  unfolding reached_of reached_by
  reached_of_stopped e f = ap₂ (λ (b c : Bool). reached_by b c s) e f

-- ---- a row that fits

module _ (n : Net) (row : List ℤ) (wanted budget : ℕ) (fits : length row ≡ length n.periods) where
  pub fit_reached : wanted_outcome (accepted n) (length row) wanted budget ≡ reached_of (walked n (at_least wanted) budget)
  unfolding wanted_outcome
  fit_reached = on_start_row_fit (λ (m : Net). reached_of (walked m (at_least wanted) budget)) refusal n (length row) fits

  pub fit_reached_row : wanted_row_after (accepted n) wanted budget row
      ≡ pick (walked n (at_least wanted) budget).best.some (walked n (at_least wanted) budget).starts row
  unfolding wanted_row_after row_after_walk
  fit_reached_row = on_start_row_fit (λ (m : Net). row_after_walk (walked m (at_least wanted) budget) row) (λ number place. row) n (length row) fits

-- ---- two files with the same periods and offsets

module _ {m n : Net} (v : Valid m) (w : Valid n) (same : SameOffsets m n) (wanted budget : ℕ) where
  pub wanted_outcome_same : (row : ℕ) → wanted_outcome (accepted m) row wanted budget ≡ wanted_outcome (accepted n) row wanted budget
  unfolding wanted_outcome
  wanted_outcome_same row =
      on_start_row_same (λ (k : Net). reached_of (walked k (at_least wanted) budget)) refusal same (ap reached_of (walked_same v w same (at_least wanted) budget)) row

  pub wanted_row_after_same : (row : List ℤ) → wanted_row_after (accepted m) wanted budget row ≡ wanted_row_after (accepted n) wanted budget row
  unfolding wanted_row_after
  wanted_row_after_same row =
      on_start_row_same (λ (k : Net). row_after_walk (walked k (at_least wanted) budget) row) (λ number place. row) same
      (ap (λ (s : State). row_after_walk s row) (walked_same v w same (at_least wanted) budget)) (length row)

-- ---- what an answer tells

pub record ReachedTells (n : Net) (row wanted budget tries : ℕ) (has : Bool) : Type 0 where
  pub fits : row ≡ length n.periods
  pub some : (walked n (at_least wanted) budget).best.some ≡ has
  pub its_tries : (walked n (at_least wanted) budget).tries ≡ tries

module _ (n : Net) (row wanted budget : ℕ) where
  -- By the tests that the answer goes by: the row fits, the walk has a timetable, it stopped
  reached_cases : (P : WantedOutcome → Type 0)
      → ((row ≡ length n.periods → ⊥) → P (refusal 16 0))
      → ((a b : Bool) → row ≡ length n.periods → (walked n (at_least wanted) budget).best.some ≡ a → (walked n (at_least wanted) budget).stopped ≡ b → P (reached_by a b (walked n (at_least wanted) budget)))
      → P (wanted_outcome (accepted n) row wanted budget)
  unfolding wanted_outcome reached_of
  reached_cases P f g = on_start_row_cases (λ (m : Net). reached_of (walked m (at_least wanted) budget)) refusal n row P f (λ e. g _ _ e refl refl)

  pub told_of_found : {tries : ℕ} → wanted_outcome (accepted n) row wanted budget ≡ found tries → ReachedTells n row wanted budget tries true
  unfolding reached_by
  told_of_found {tries} =
      reached_cases (λ o. o ≡ found tries → ReachedTells n row wanted budget tries true) (λ f e. absurd (zero_ne_one (cc))) go
    where
      go : (a b : Bool) → row ≡ length n.periods → (walked n (at_least wanted) budget).best.some ≡ a → (walked n (at_least wanted) budget).stopped ≡ b
          → reached_by a b (walked n (at_least wanted) budget) ≡ found tries → ReachedTells n row wanted budget tries true
      go true b f x y e = record { fits = f; some = x; its_tries = cc }
      go false true f x y e = absurd (zero_ne_one (cc))
      go false false f x y e = absurd (zero_ne_one (cc))

  pub told_of_none : {tries : ℕ} → wanted_outcome (accepted n) row wanted budget ≡ none tries
      → ReachedTells n row wanted budget tries false × ((walked n (at_least wanted) budget).stopped ≡ false)
  unfolding reached_by
  told_of_none {tries} =
      reached_cases (λ o. o ≡ none tries → ReachedTells n row wanted budget tries false × ((walked n (at_least wanted) budget).stopped ≡ false))
      (λ f e. absurd (zero_ne_one (cc))) go
    where
      go : (a b : Bool) → row ≡ length n.periods → (walked n (at_least wanted) budget).best.some ≡ a → (walked n (at_least wanted) budget).stopped ≡ b
          → reached_by a b (walked n (at_least wanted) budget) ≡ none tries
          → ReachedTells n row wanted budget tries false × ((walked n (at_least wanted) budget).stopped ≡ false)
      go true b f x y e = absurd (zero_ne_one (cc))
      go false true f x y e = absurd (zero_ne_one (cc))
      go false false f x y e = (record { fits = f; some = x; its_tries = cc }, y)

  pub told_of_stopped : {tries : ℕ} → wanted_outcome (accepted n) row wanted budget ≡ stopped tries
      → ReachedTells n row wanted budget tries false × ((walked n (at_least wanted) budget).stopped ≡ true)
  unfolding reached_by
  told_of_stopped {tries} =
      reached_cases (λ o. o ≡ stopped tries → ReachedTells n row wanted budget tries false × ((walked n (at_least wanted) budget).stopped ≡ true))
      (λ f e. absurd (zero_ne_one (cc))) go
    where
      go : (a b : Bool) → row ≡ length n.periods → (walked n (at_least wanted) budget).best.some ≡ a → (walked n (at_least wanted) budget).stopped ≡ b
          → reached_by a b (walked n (at_least wanted) budget) ≡ stopped tries
          → ReachedTells n row wanted budget tries false × ((walked n (at_least wanted) budget).stopped ≡ true)
      go true b f x y e = absurd (zero_ne_one (cc))
      go false true f x y e = (record { fits = f; some = x; its_tries = cc }, y)
      go false false f x y e = absurd (zero_ne_one (cc))

  -- ---- the tries

  -- An answer reports the walk's tries, a refusal none
  reported : (P : ℕ → Type 0) → P 0 → P (walked n (at_least wanted) budget).tries → P (tries_of (wanted_outcome (accepted n) row wanted budget))
  unfolding reached_by
  reported P nothing some = reached_cases (λ o. P (tries_of o)) (λ f. nothing) go
    where
      go : (a b : Bool) → row ≡ length n.periods → (walked n (at_least wanted) budget).best.some ≡ a → (walked n (at_least wanted) budget).stopped ≡ b
          → P (tries_of (reached_by a b (walked n (at_least wanted) budget)))
      go true b f x y = some
      go false true f x y = some
      go false false f x y = some

  pub reached_tries_le : tries_of (wanted_outcome (accepted n) row wanted budget) ≤ tries_bound n
  reached_tries_le = reported (λ k. k ≤ tries_bound n) (omega arith) (walked_tries_le n (at_least wanted) budget)

  pub reached_tries_le_budget : tries_of (wanted_outcome (accepted n) row wanted budget) ≤ budget
  reached_tries_le_budget = reported (λ k. k ≤ budget) (omega arith) (walked_tries_le_budget n (at_least wanted) budget)

-- ---- when it refuses

reached_answers : (a b : Bool) (s : State) (number place : ℕ) → reached_by a b s ≡ refusal number place → ⊥
unfolding reached_by
reached_answers true b s number place e = zero_ne_one (cc)
reached_answers false true s number place e = zero_ne_one (cc)
reached_answers false false s number place e = zero_ne_one (cc)

refused_of_refusal : (number place number' place' : ℕ) → refusal number place ≡ refusal number' place' → refused number place ≡ refused number' place'
refused_of_refusal number place number' place' e = ap₂ refused (cc) (cc)

module _ (file : List ℕ) (row : List ℤ) (wanted budget : ℕ) where
  pub wanted_refuses : {number place : ℕ} → Refuses file 16 (Unfit row) number place
      → wanted_outcome (read_file file) (length row) wanted budget ≡ refusal number place
  unfolding wanted_outcome
  wanted_refuses = on_start_row_refuses (λ (n : Net). reached_of (walked n (at_least wanted) budget)) refusal file row

  pub wanted_refuses_only : {number place : ℕ} → wanted_outcome (read_file file) (length row) wanted budget ≡ refusal number place
      → Refuses file 16 (Unfit row) number place
  unfolding wanted_outcome reached_of
  wanted_refuses_only =
      on_start_row_refuses_only (λ (n : Net). reached_of (walked n (at_least wanted) budget)) refusal file row
      (λ n. reached_answers _ _ (walked n (at_least wanted) budget)) refused_of_refusal

  pub row_as_found : {number place : ℕ} → wanted_outcome (read_file file) (length row) wanted budget ≡ refusal number place
      → wanted_row_after (read_file file) wanted budget row ≡ row
  unfolding wanted_row_after
  row_as_found h =
      on_start_row_refuses (λ (n : Net). row_after_walk (walked n (at_least wanted) budget) row) (λ number place. row) file row (wanted_refuses_only h)
