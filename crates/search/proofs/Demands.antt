-- The order's demands on the search call: when it refuses, that it answers what document 01's walk does, that a finished search can't be beaten, and
-- when it stops with none. Each theorem at the end holds of every call that has returned: of what was lent, `a`, its answer, `r`, and the row at its
-- exit, `s`, where they keep the contract in src/, which every call does. Assumes nothing.
use Prim.Native.Nat.{ℕ, ◌≤◌, ◌<◌}
use mathlib.Core.Path.{◌≡◌, sym, ap, ap₂, ◌∙◌}
use mathlib.Core.Bool.{Bool, true, false}
use mathlib.Core.List.{List, ◌∷◌}
use mathlib.Core.Logic.{◌⊎◌, ◌↔◌}
use borrow.Fn.World.{ArgsD, ResD}
use borrow.Fn.Kinds.{ended_of}
use contract.Lifetimes.{Lfts}
use denote.Triple.Clauses.{AtExit}
use lib.IntN.{ℤ, pos}
use lib.ListN.{length, get_or}
use Rattle.network.specs.Archive.{SameOffsets}
use Rattle.network.specs.Lists.{pick}
use Rattle.network.specs.Network.{Net, max_period}
use Rattle.network.specs.Reading.{Reading, read_file, accepted}
use Rattle.network.specs.Refusals.{Refuses, Unfit, Demand1}
use Rattle.network.specs.Valid.{IsBytes, Valid, no_call}
use Rattle.network.specs.Rating.{IsStopGap, IsRating, gap_of_calls, calls_of_stop, rating}
use Rattle.network.proofs.Laws.Gaps.{accepted_valid, rating_is_rating, IsRating-range, IsStopGap-unique}
use Rattle.search.specs.Caps.{cap}
use Rattle.search.specs.Walk.{State}
use Rattle.search.specs.Search.{SearchOutcome, finished, stopped, stopped_with_none, refusal, search_answer, tries_of}
use Rattle.search.specs.Search.{above_best, searched, outcome_of, search_outcome, start_row_after}
use Rattle.search.proofs.Laws.Caps.{cap_sound, cap_le_own_gap}
use Rattle.search.proofs.Laws.MoreTries.{walked_with_more, walked_was_due}
use Rattle.search.proofs.Laws.OnNetwork.{tries_bound_products, walked_length, walked_first, walked_below, walked_rating, walked_stopped}
use Rattle.search.proofs.Laws.Optimal.{searched_best}
use Rattle.search.proofs.Laws.Outcome.{outcome_of_finished, outcome_of_stopped, outcome_of_none}
use Rattle.search.proofs.Laws.Outcome.{fit_outcome, fit_row, AnswerTells, told_of_finished, told_of_stopped, told_of_none}
use Rattle.search.proofs.Laws.Outcome.{outcome_tries_le, outcome_tries_le_budget, outcome_finished}
use Rattle.search.proofs.Laws.Outcome.{search_refuses, search_refuses_only, row_as_found}
use Rattle.search.specs.contracts.entry.search as search
use Rattle.search.proofs.entry.search.Kinds as search_kinds
use Rattle.search.proofs.entry.search.Reads as search_contract
-- ---- What other pages use: demand 3's bound, that the walk has a best at its end, when it stops with none, and what each answer of the call tells

pub use Rattle.search.specs.Search.{demanded_bound}
pub use Rattle.search.proofs.Laws.Optimal.{searched_some, searched_none_exactly}
pub use Rattle.search.proofs.Laws.Answers.{search_answer_finished, search_answer_stopped, search_answer_none, search_answer_refused}
-- ---- What it answers and leaves on two networks with the same periods and offsets

pub use Rattle.search.proofs.Laws.Outcome.{search_outcome_same, start_row_after_same}

-- ---- What is demanded, of an accepted network, the start row and the budget as lent, the answer, and the row afterwards

-- "The search answers one of": what a walk answers at its end, with the walk's own numbers and no definition between
pub record AnswersByCase (w : State) (answer : SearchOutcome) : Type 0 where
  -- "finished (best rating, tries)", exactly where the walk hasn't stopped
  pub finished_exactly : (least sum tries : ℕ)
      → (answer ≡ finished least sum tries) ↔ ((w.stopped ≡ false) × (w.best.least ≡ least) × (w.best.sum ≡ sum) × (w.tries ≡ tries))
  -- "stopped with a best (the same)", exactly where it has stopped and has a best
  pub stopped_exactly : (least sum tries : ℕ)
      → (answer ≡ stopped least sum tries)
      ↔ ((w.stopped ≡ true) × (w.best.some ≡ true) × (w.best.least ≡ least) × (w.best.sum ≡ sum) × (w.tries ≡ tries))
  -- "stopped with none (tries)", exactly where it has stopped and has none
  pub none_exactly : (tries : ℕ)
      → (answer ≡ stopped_with_none tries) ↔ ((w.stopped ≡ true) × (w.best.some ≡ false) × (w.tries ≡ tries))

-- Demand 2, its second half, of a start row with one place for each line: the search's answer, starts and number of tries are those of the walk
pub record Demand2 (n : Net) (row : List ℤ) (budget : ℕ) (answer : SearchOutcome) (exit : List ℤ) : Type 0 where
  pub answers_the_walk : answer ≡ outcome_of (searched n budget)
  pub case_by_case : AnswersByCase (searched n budget) answer
  -- the best starts are written; without a best the row is untouched
  pub writes_the_best : exit ≡ pick (searched n budget).best.some (searched n budget).starts row

-- Demand 3
pub record Demand3 (n : Net) (row : List ℤ) (budget : ℕ) (answer : SearchOutcome) (exit : List ℤ) : Type 0 where
  -- (1) Whenever the search finishes, with whichever budget, the starts it wrote, one for each line, have the rating it reports
  pub finished_has_its_rating : {least sum tries : ℕ} → answer ≡ finished least sum tries
      → (length exit ≡ length n.periods) × IsRating n exit least sum
  -- (2) .. and every other choice of one whole-number start for each line has a rating, with a smaller least gap, or the same least gap and a
  -- sum no larger
  pub choice_has_a_rating : (starts : List ℤ) → length starts ≡ length n.periods → (least : ℕ) × (sum : ℕ) × IsRating n starts least sum
  pub finished_is_best : {least sum tries : ℕ} → answer ≡ finished least sum tries
      → (starts : List ℤ) → length starts ≡ length n.periods → {least' sum' : ℕ} → IsRating n starts least' sum'
      → (least' < least) ⊎ ((least' ≡ least) × (sum' ≤ sum))
  -- (3) Whether it finished or stopped, the tries it reports are at most the bound
  pub tries_at_most : tries_of answer ≤ demanded_bound n
  -- (4) It finishes under every budget of at least the bound, the start row having one place for each line
  pub finishes : length row ≡ length n.periods → demanded_bound n ≤ budget
      → (least : ℕ) × (sum : ℕ) × (tries : ℕ) × (answer ≡ finished least sum tries)

-- Starts that the walk tries, one for each line: "Line 0 is tried at 0 only, each other line at 0 up to its period less 1"; a period is at most
-- 1,440
pub record WalkedStarts (n : Net) (starts : List ℤ) : Type 0 where
  pub one_for_each_line : length starts ≡ length n.periods
  pub first_at_0 : (others : List ℤ) × (starts ≡ pos 0 ∷ others)
  pub below_period : (i : ℕ) → i < length n.periods
      → (x : ℕ) × (get_or starts i (pos 0) ≡ pos x) × (x < get_or n.periods i 0) × (get_or n.periods i 0 ≤ max_period)

-- What else document 01, "The walk", says of the answers
pub record Answers (n : Net) (row : List ℤ) (budget : ℕ) (answer : SearchOutcome) (exit : List ℤ) : Type 0 where
  -- it stops only where a try is due and the tries made equal the budget
  pub stopped_at_budget : {least sum tries : ℕ} → answer ≡ stopped least sum tries → tries ≡ budget
  pub none_at_budget : {tries : ℕ} → answer ≡ stopped_with_none tries → (tries ≡ budget) × (exit ≡ row)
  pub tries_within : tries_of answer ≤ budget
  -- "Stopped is answered only when the walk had a further try due": under every larger budget it makes more tries
  pub stopped_was_due : {least sum tries : ℕ} → answer ≡ stopped least sum tries → (more : ℕ) → budget < more → budget < (searched n more).tries
  pub none_was_due : {tries : ℕ} → answer ≡ stopped_with_none tries → (more : ℕ) → budget < more → budget < (searched n more).tries
  -- stopped with a best: the starts it wrote have the rating it reports
  pub stopped_has_its_rating : {least sum tries : ℕ} → answer ≡ stopped least sum tries
      → (length exit ≡ length n.periods) × IsRating n exit least sum
  -- a best's starts
  pub finished_starts : {least sum tries : ℕ} → answer ≡ finished least sum tries → WalkedStarts n exit
  pub stopped_starts : {least sum tries : ℕ} → answer ≡ stopped least sum tries → WalkedStarts n exit
  -- a best rating's numbers
  pub finished_range : {least sum tries : ℕ} → answer ≡ finished least sum tries → (least ≤ max_period) × (sum ≤ 92160)
  pub stopped_range : {least sum tries : ℕ} → answer ≡ stopped least sum tries → (least ≤ max_period) × (sum ≤ 92160)

-- ---- A search by its definition

-- What the contract in src/entry.rt says
pub record Searches (file : List ℕ) (row : List ℤ) (budget : ℕ) (answer : SearchOutcome) (exit : List ℤ) : Type 0 where
  pub bytes : IsBytes file
  pub answered : answer ≡ search_outcome (read_file file) (length row) budget
  pub left : exit ≡ start_row_after (read_file file) budget row

module _ {file : List ℕ} {row : List ℤ} {budget : ℕ} {answer : SearchOutcome} {exit : List ℤ} (call : Searches file row budget answer exit) where
  pub demand_1 : Demand1 (λ number place. answer ≡ refusal number place) (Refuses file 16 (Unfit row)) (exit ≡ row)
  demand_1 =
      record {
        faulty_is_refused = λ number place f. call.answered ∙ search_refuses file row budget f;
        no_other_is_refused = λ number place e. search_refuses_only file row budget (sym call.answered ∙ e);
        rows_as_found = λ number place e. call.left ∙ row_as_found file row budget (sym call.answered ∙ e);
      }

  module _ {n : Net} (reads : read_file file ≡ accepted n) where
    valid : Valid n
    valid = accepted_valid file n call.bytes reads

    answer_is : {o : SearchOutcome} → answer ≡ o → search_outcome (accepted n) (length row) budget ≡ o
    answer_is e = sym (ap (λ (k : Reading). search_outcome k (length row) budget) reads) ∙ sym call.answered ∙ e

    -- An answer with a best: its starts are in the row, are such that the walk tries, and have its rating
    module _ {least sum tries : ℕ} {ends : Bool} (t : AnswerTells n (length row) budget least sum tries ends) (some : (searched n budget).best.some ≡ true) where
      written : exit ≡ (searched n budget).starts
      written =
          call.left
          ∙ ap (λ (k : Reading). start_row_after k budget row) reads
          ∙ fit_row n row budget t.fits
          ∙ ap (λ (b : Bool). pick b (searched n budget).starts row) some

      are_walked : WalkedStarts n exit
      are_walked =
          record {
            one_for_each_line = rw written (walked_length valid above_best budget some);
            first_at_0 = rw written (walked_first valid above_best budget some);
            below_period = λ i h.
                let (x, e, l) = walked_below valid above_best budget some i h in
                (x, ap (λ (starts : List ℤ). get_or starts i (pos 0)) written ∙ e, l, valid.period i h);
          }

      has_its_rating : IsRating n exit least sum
      has_its_rating = rw (written, ← t.its_least, ← t.its_sum) (walked_rating valid above_best budget some)

    finished_rated : {least sum tries : ℕ} → answer ≡ finished least sum tries → WalkedStarts n exit × IsRating n exit least sum
    finished_rated e =
        let t = told_of_finished n (length row) budget (answer_is e) in
        let some = searched_some valid budget t.stops in
        (are_walked t some, has_its_rating t some)

    stopped_rated : {least sum tries : ℕ} → answer ≡ stopped least sum tries → WalkedStarts n exit × IsRating n exit least sum
    stopped_rated e =
        let (t, some) = told_of_stopped n (length row) budget (answer_is e) in (are_walked t some, has_its_rating t some)

    answers_walk : length row ≡ length n.periods → answer ≡ outcome_of (searched n budget)
    answers_walk fits = call.answered ∙ ap (λ (k : Reading). search_outcome k (length row) budget) reads ∙ fit_outcome n row budget fits

    pub answers_by_case : length row ≡ length n.periods → AnswersByCase (searched n budget) answer
    answers_by_case fits =
        record {
          finished_exactly = λ least sum tries. (
            λ e. let t = told_of_finished n (length row) budget (answer_is e) in (t.stops, t.its_least, t.its_sum, t.its_tries),
            λ (stops, l, s, t). answers_walk fits ∙ outcome_of_finished (searched n budget) stops ∙ (cc),
          );
          stopped_exactly = λ least sum tries. (
            λ e. let (t, some) = told_of_stopped n (length row) budget (answer_is e) in (t.stops, some, t.its_least, t.its_sum, t.its_tries),
            λ (stops, some, l, s, t). answers_walk fits ∙ outcome_of_stopped (searched n budget) stops some ∙ (cc),
          );
          none_exactly = λ tries. (
            λ e. let (f, stops, none, t) = told_of_none n (length row) budget (answer_is e) in (stops, none, t),
            λ (stops, none, t). answers_walk fits ∙ outcome_of_none (searched n budget) stops none ∙ ap stopped_with_none t,
          );
        }

    pub demand_2 : length row ≡ length n.periods → Demand2 n row budget answer exit
    demand_2 fits =
        record {
          answers_the_walk = answers_walk fits;
          case_by_case = answers_by_case fits;
          writes_the_best = call.left ∙ ap (λ (k : Reading). start_row_after k budget row) reads ∙ fit_row n row budget fits;
        }

    -- Stopped with none, after as many tries as the budget has, exactly where there isn't one for each line
    pub stopped_with_none_exactly : length row ≡ length n.periods → (tries : ℕ)
        → (answer ≡ stopped_with_none tries) ↔ ((budget < length n.periods) × (budget ≡ tries))
    stopped_with_none_exactly fits tries =
        let cases = (answers_by_case fits).none_exactly tries in (
          λ e.
              let (stops, none, made) = cases.0 e in
              ((searched_none_exactly valid budget).0 (stops, none), sym (walked_stopped n above_best budget stops) ∙ made),
          λ (few, made).
              let (stops, none) = (searched_none_exactly valid budget).1 few in cases.1 (stops, none, walked_stopped n above_best budget stops ∙ made),
        )

    pub demand_3 : Demand3 n row budget answer exit
    demand_3 =
        record {
          finished_has_its_rating = λ e. ((finished_rated e).0.one_for_each_line, (finished_rated e).1);
          choice_has_a_rating = λ starts f. ((rating n starts).least, (rating n starts).sum, rating_is_rating n valid starts);
          finished_is_best = λ e starts f q.
              let t = told_of_finished n (length row) budget (answer_is e) in
              rw (← t.its_least, ← t.its_sum) (searched_best valid budget t.stops starts f q);
          tries_at_most = rw (call.answered, reads, ← tries_bound_products n valid.some_line) (outcome_tries_le n (length row) budget);
          finishes = λ fits enough.
              rw (call.answered, reads)
              (outcome_finished n (length row) budget fits (rw (tries_bound_products n valid.some_line) enough));
        }

    pub answers : Answers n row budget answer exit
    answers =
        record {
          stopped_at_budget = λ e.
              let t = (told_of_stopped n (length row) budget (answer_is e)).0 in
              sym t.its_tries ∙ walked_stopped n above_best budget t.stops;
          none_at_budget = λ e.
              let (fits, stops, none, tries) = told_of_none n (length row) budget (answer_is e) in (
                sym tries ∙ walked_stopped n above_best budget stops,
                call.left
                    ∙ ap (λ (k : Reading). start_row_after k budget row) reads
                    ∙ fit_row n row budget fits
                    ∙ ap (λ (b : Bool). pick b (searched n budget).starts row) none,
              );
          tries_within = rw (call.answered, reads) (outcome_tries_le_budget n (length row) budget);
          stopped_was_due = λ e more left.
              walked_was_due n above_best budget more left (told_of_stopped n (length row) budget (answer_is e)).0.stops;
          none_was_due = λ e more left.
              let (fits, stops, none, tries) = told_of_none n (length row) budget (answer_is e) in
              walked_was_due n above_best budget more left stops;
          stopped_has_its_rating = λ e. ((stopped_rated e).0.one_for_each_line, (stopped_rated e).1);
          finished_starts = λ e. (finished_rated e).0;
          stopped_starts = λ e. (stopped_rated e).0;
          finished_range = λ e. IsRating-range valid (finished_rated e).1;
          stopped_range = λ e. IsRating-range valid (stopped_rated e).1;
        }

-- ---- Every search call

-- It asks nothing of what is lent
pub search_asks_nothing : (κs : Lfts 2) (a : ArgsD search.signature κs) → search_contract.Pre κs a
search_asks_nothing κs a = tt

-- What is lent to a call, its answer, the row at its exit, and that they keep the contract: by names, for a theorem on calls of this crate and another
abbrev pub SearchLent : Lfts 2 → Type 0
SearchLent κs = ArgsD search.signature κs

abbrev pub SearchTold : Lfts 2 → Type 0
SearchTold κs = ResD search.signature κs

abbrev pub SearchExit : Lfts 2 → Type 0
SearchExit κs = AtExit (ended_of 2 search_kinds.ps search_kinds.r) κs

abbrev pub SearchKept : (κs : Lfts 2) → SearchLent κs → SearchTold κs → SearchExit κs → Type 0
SearchKept κs a r s = search_contract.Post κs a r s

module _ (κs : Lfts 2) (a : ArgsD search.signature κs) (r : ResD search.signature κs)
    (s : AtExit (ended_of 2 search_kinds.ps search_kinds.r) κs) (kept : search_contract.Post κs a r s) where
  pub searches : Searches a.0.now a.1.0.now a.1.1.0 (search_answer r) s.1.0.now
  searches = record { bytes = kept.1.1; answered = kept.0; left = kept.1.0 }

  pub search_demand_1 : Demand1 (λ number place. search_answer r ≡ refusal number place) (Refuses a.0.now 16 (Unfit a.1.0.now))
      (s.1.0.now ≡ a.1.0.now)
  search_demand_1 = demand_1 searches

  module _ {n : Net} (reads : read_file a.0.now ≡ accepted n) where
    pub search_demand_2 : length a.1.0.now ≡ length n.periods
        → Demand2 n a.1.0.now a.1.1.0 (search_answer r) s.1.0.now
    search_demand_2 = demand_2 searches reads

    -- Document 01 on `best`: "stopped with none can't occur here, since the first 16 tries or fewer reach a full timetable"
    pub search_none_exactly : length a.1.0.now ≡ length n.periods → (tries : ℕ)
        → (search_answer r ≡ stopped_with_none tries) ↔ ((a.1.1.0 < length n.periods) × (a.1.1.0 ≡ tries))
    search_none_exactly = stopped_with_none_exactly searches reads

    pub search_demand_3 : Demand3 n a.1.0.now a.1.1.0 (search_answer r) s.1.0.now
    search_demand_3 = demand_3 searches reads

    pub search_answers : Answers n a.1.0.now a.1.1.0 (search_answer r) s.1.0.now
    search_answers = answers searches reads

-- ---- Two files with the same periods and offsets, in either edition, a file and its archive form among them (document 02, A.1)

-- Searched with the same budget and start row, they have the same answer with the same tries, and the same starts
module _ (κs : Lfts 2) (a : ArgsD search.signature κs) (r : ResD search.signature κs)
    (s : AtExit (ended_of 2 search_kinds.ps search_kinds.r) κs) (kept : search_contract.Post κs a r s) (κs' : Lfts 2) (a' : ArgsD search.signature κs')
    (r' : ResD search.signature κs') (s' : AtExit (ended_of 2 search_kinds.ps search_kinds.r) κs') (kept' : search_contract.Post κs' a' r' s') where
  pub same_network_searched_alike : {m n : Net} → read_file a.0.now ≡ accepted m → read_file a'.0.now ≡ accepted n → SameOffsets m n
      → a.1.0.now ≡ a'.1.0.now → a.1.1.0 ≡ a'.1.1.0 → (search_answer r ≡ search_answer r') × (s.1.0.now ≡ s'.1.0.now)
  same_network_searched_alike {m} {n} reads reads' same rows budgets =
      let v = accepted_valid a.0.now m kept.1.1 reads in
      let w = accepted_valid a'.0.now n kept'.1.1 reads' in (
        kept.0
            ∙ ap (λ (k : Reading). search_outcome k (length a.1.0.now) a.1.1.0) reads
            ∙ search_outcome_same v w same (length a.1.0.now) a.1.1.0
            ∙ ap₂ (λ (row : List ℤ) (budget : ℕ). search_outcome (accepted n) (length row) budget) rows budgets
            ∙ ap (λ (k : Reading). search_outcome k (length a'.1.0.now) a'.1.1.0) (sym reads')
            ∙ sym kept'.0,
        kept.1.0
            ∙ ap (λ (k : Reading). start_row_after k a.1.1.0 a.1.0.now) reads
            ∙ start_row_after_same v w same a.1.1.0 a.1.0.now
            ∙ ap₂ (λ (row : List ℤ) (budget : ℕ). start_row_after (accepted n) budget row) rows budgets
            ∙ ap (λ (k : Reading). start_row_after k a'.1.1.0 a'.1.0.now) (sym reads')
            ∙ sym kept'.1.0,
      )

-- ---- A finished search has the same answer, tries and starts under every larger budget

module _ {file : List ℕ} {row row' : List ℤ} {budget more : ℕ} {answer answer' : SearchOutcome} {exit exit' : List ℤ}
    (call : Searches file row budget answer exit) (other : Searches file row' more answer' exit') {n : Net} (reads : read_file file ≡ accepted n)
    (rows : length row ≡ length row') (larger : budget ≤ more) {least sum tries : ℕ} (ends : answer ≡ finished least sum tries) where
  told : AnswerTells n (length row) budget least sum tries false
  told = told_of_finished n (length row) budget (answer_is call reads ends)

  walked_alike : searched n more ≡ searched n budget
  walked_alike = walked_with_more n above_best budget more larger told.stops

  some_best : (searched n budget).best.some ≡ true
  some_best = searched_some (accepted_valid file n call.bytes reads) budget told.stops

  pub answered_alike : answer' ≡ finished least sum tries
  answered_alike =
      other.answered
      ∙ ap (λ (k : Reading). search_outcome k (length row') more) reads
      ∙ fit_outcome n row' more (sym rows ∙ told.fits)
      ∙ ap outcome_of walked_alike
      ∙ sym (fit_outcome n row budget told.fits)
      ∙ answer_is call reads ends

  pub left_alike : exit' ≡ exit
  left_alike =
      other.left
      ∙ ap (λ (k : Reading). start_row_after k more row') reads
      ∙ fit_row n row' more (sym rows ∙ told.fits)
      ∙ ap (λ (s : State). pick s.best.some s.starts row') walked_alike
      ∙ ap (λ (b : Bool). pick b (searched n budget).starts row') some_best
      ∙ sym (written call reads told some_best)

-- Of two calls on one file with rows of the same length
module _ (κs : Lfts 2) (a : ArgsD search.signature κs) (r : ResD search.signature κs)
    (s : AtExit (ended_of 2 search_kinds.ps search_kinds.r) κs) (kept : search_contract.Post κs a r s) (κs' : Lfts 2) (a' : ArgsD search.signature κs')
    (r' : ResD search.signature κs') (s' : AtExit (ended_of 2 search_kinds.ps search_kinds.r) κs') (kept' : search_contract.Post κs' a' r' s') where
  pub finished_with_more_tries : a.0.now ≡ a'.0.now → {n : Net} → read_file a.0.now ≡ accepted n
      → length a.1.0.now ≡ length a'.1.0.now → a.1.1.0 ≤ a'.1.1.0 → {least sum tries : ℕ} → search_answer r ≡ finished least sum tries
      → (search_answer r' ≡ finished least sum tries) × (s'.1.0.now ≡ s.1.0.now)
  finished_with_more_tries file reads rows larger ends =
      let call : Searches a.0.now a.1.0.now a.1.1.0 (search_answer r) s.1.0.now = searches κs a r s kept in
      let other : Searches a.0.now a'.1.0.now a'.1.1.0 (search_answer r') s'.1.0.now = rw file (searches κs' a' r' s' kept') in (
        answered_alike call other reads rows larger ends,
        left_alike call other reads rows larger ends,
      )

-- ---- Caps, with loop routes (document 02, A.2), of every file that a search call accepts

pub record Capped (n : Net) : Type 0 where
  -- no starts give a stop a gap above its cap
  pub is_cap : (starts : List ℤ) {stop gap : ℕ} → IsStopGap n starts stop gap → gap ≤ cap n stop
  -- a line's own pair is already in the cap: its gap is never below it
  pub own_pair : (starts : List ℤ) (stop j k : ℕ) → j < k → k < length (calls_of_stop n stop)
      → (get_or (calls_of_stop n stop) j no_call).line ≡ (get_or (calls_of_stop n stop) k no_call).line
      → cap n stop ≤ gap_of_calls n starts (get_or (calls_of_stop n stop) j no_call) (get_or (calls_of_stop n stop) k no_call)

module _ (κs : Lfts 2) (a : ArgsD search.signature κs) (r : ResD search.signature κs)
    (s : AtExit (ended_of 2 search_kinds.ps search_kinds.r) κs) (kept : search_contract.Post κs a r s) where
  pub caps_bound : {n : Net} → read_file a.0.now ≡ accepted n → Capped n
  caps_bound {n} reads =
      let valid = accepted_valid a.0.now n kept.1.1 reads in
      record {
        is_cap = λ starts {stop} g. rw (IsStopGap-unique valid g) (cap_sound valid starts stop);
        own_pair = cap_le_own_gap n;
      }
