-- What a mark means: decided and equal, no choice of whole-number starts rates above the sheet; decided and not equal, some choice does, and the
-- best rating is its rating; mark and remainder are those of the two least gaps. Which of both it is, the best rating and the tries are those of the
-- search with this budget: undecided only where that stops, and so only where the budget was too small. Of the search's proofs it cites the page of
-- its demands alone. Assumes nothing.
use Prim.Native.Nat.{ℕ, ◌<◌, ◌≤◌}
use mathlib.Core.Path.{◌≡◌, refl, sym, ap, ◌∙◌}
use mathlib.Core.Bool.{Bool, true, false, ◌&&◌}
use mathlib.Core.List.{List}
use mathlib.Core.Logic.{◌⊎◌, inl, inr}
use native.Mathlib.Omega.{arith}
use borrow.Author.Tests.{eqb-true, eqb-false, eq-eqb}
use lib.Dec.{eqb}
use lib.IntN.{ℤ}
use lib.ListN.{length}
use Rattle.network.specs.Lists.{pick}
use Rattle.network.specs.Network.{Net, max_period}
use Rattle.network.specs.Rating.{IsRating, rating}
use Rattle.network.specs.Rate.{on_sheet}
use Rattle.network.specs.Reading.{Reading, accepted, read_file}
use Rattle.network.specs.Valid.{IsBytes, Valid}
use Rattle.network.proofs.Laws.Gaps.{accepted_valid, rating_is_rating, IsRating-range}
use Rattle.network.proofs.Laws.Lists.{zero_ne_one}
use Rattle.search.specs.Search.{SearchOutcome, finished, stopped, stopped_with_none, tries_of, searched, search_outcome, start_row_after}
use Rattle.search.specs.Search as search
use Rattle.search.proofs.Demands.{Searches, demanded_bound, AnswersByCase, Demand3, Answers, demand_2, demand_3, answers}
use Rattle.examination.specs.Hundred.{mark_of, remainder_of}
use Rattle.examination.specs.Sheets.{MarkOutcome, decided, undecided, refusal, fits, marked, mark_outcome}

-- ---- What is demanded, of an accepted network, the sheet and the budget as lent, and the answer

pub record MarkMeans (n : Net) (sheet : List ℤ) (budget : ℕ) (answer : MarkOutcome) : Type 0 where
  -- the sheet's rating is its own
  pub decided_rating : {least sum best_least best_sum : ℕ} {equal : Bool} {mark remainder tries : ℕ} → answer ≡ decided least sum best_least best_sum equal mark remainder tries
      → IsRating n sheet least sum
  pub undecided_rating : {least sum tries : ℕ} → answer ≡ undecided least sum tries → IsRating n sheet least sum
  -- a sheet that is decided on has one start for each line
  pub decided_fits : {least sum best_least best_sum : ℕ} {equal : Bool} {mark remainder tries : ℕ} → answer ≡ decided least sum best_least best_sum equal mark remainder tries
      → length sheet ≡ length n.periods
  -- the best rating is that of some whole-number starts, and of no choice of them is the rating above it
  pub best_is_attained : {least sum best_least best_sum : ℕ} {equal : Bool} {mark remainder tries : ℕ} → answer ≡ decided least sum best_least best_sum equal mark remainder tries
      → (starts : List ℤ) × (length starts ≡ length n.periods) × IsRating n starts best_least best_sum
  pub best_is_unbeaten : {least sum best_least best_sum : ℕ} {equal : Bool} {mark remainder tries : ℕ} → answer ≡ decided least sum best_least best_sum equal mark remainder tries
      → (starts : List ℤ) → length starts ≡ length n.periods → {least' sum' : ℕ} → IsRating n starts least' sum'
      → (least' < best_least) ⊎ ((least' ≡ best_least) × (sum' ≤ best_sum))
  -- .. so that the sheet's own least gap isn't above the best one
  pub not_above_best : {least sum best_least best_sum : ℕ} {equal : Bool} {mark remainder tries : ℕ} → answer ≡ decided least sum best_least best_sum equal mark remainder tries
      → least ≤ best_least
  -- equal: no choice of whole-number starts rates above this sheet
  pub equal_is_unbeaten : {least sum best_least best_sum mark remainder tries : ℕ} → answer ≡ decided least sum best_least best_sum true mark remainder tries
      → (starts : List ℤ) → length starts ≡ length n.periods → {least' sum' : ℕ} → IsRating n starts least' sum'
      → (least' < least) ⊎ ((least' ≡ least) × (sum' ≤ sum))
  -- not equal: some do, and the best rating is theirs
  pub unequal_is_beaten : {least sum best_least best_sum mark remainder tries : ℕ} → answer ≡ decided least sum best_least best_sum false mark remainder tries
      → (least < best_least) ⊎ ((least ≡ best_least) × (sum < best_sum))
  -- mark and remainder are document 02's, of these two least gaps
  pub mark_is : {least sum best_least best_sum : ℕ} {equal : Bool} {mark remainder tries : ℕ} → answer ≡ decided least sum best_least best_sum equal mark remainder tries
      → (mark ≡ mark_of least best_least) × (remainder ≡ remainder_of least best_least)
  -- the tries are within demand 3's bound and the budget; undecided, they are the budget
  pub decided_tries : {least sum best_least best_sum : ℕ} {equal : Bool} {mark remainder tries : ℕ} → answer ≡ decided least sum best_least best_sum equal mark remainder tries
      → (tries ≤ demanded_bound n) × (tries ≤ budget)
  pub undecided_tries : {least sum tries : ℕ} → answer ≡ undecided least sum tries → (tries ≤ demanded_bound n) × (tries ≡ budget)
  -- the ratings' numbers
  pub decided_range : {least sum best_least best_sum : ℕ} {equal : Bool} {mark remainder tries : ℕ} → answer ≡ decided least sum best_least best_sum equal mark remainder tries
      → ((least ≤ max_period) × (sum ≤ 92160)) × ((best_least ≤ max_period) × (best_sum ≤ 92160))
  pub undecided_range : {least sum tries : ℕ} → answer ≡ undecided least sum tries → (least ≤ max_period) × (sum ≤ 92160)
  -- By the search's walk under this budget, of a sheet with one start for each line: decided where it comes to its end, with its best rating and its
  -- tries; undecided where it stops, with its tries; and so exactly there
  pub finished_is_decided : length sheet ≡ length n.periods → (searched n budget).stopped ≡ false
      → (least : ℕ) × (sum : ℕ) × (equal : Bool) × (mark : ℕ) × (remainder : ℕ)
      × (answer ≡ decided least sum (searched n budget).best.least (searched n budget).best.sum equal mark remainder (searched n budget).tries)
  pub stopped_is_undecided : length sheet ≡ length n.periods → (searched n budget).stopped ≡ true
      → (least : ℕ) × (sum : ℕ) × (answer ≡ undecided least sum (searched n budget).tries)
  pub decided_is_finished : {least sum best_least best_sum : ℕ} {equal : Bool} {mark remainder tries : ℕ}
      → answer ≡ decided least sum best_least best_sum equal mark remainder tries
      → ((searched n budget).stopped ≡ false)
      × (best_least ≡ (searched n budget).best.least)
      × (best_sum ≡ (searched n budget).best.sum)
      × (tries ≡ (searched n budget).tries)
  pub undecided_is_stopped : {least sum tries : ℕ} → answer ≡ undecided least sum tries
      → ((searched n budget).stopped ≡ true) × (tries ≡ (searched n budget).tries)
  -- .. only where the budget was too small: a further try was due, which is made under every larger budget
  pub undecided_was_due : {least sum tries : ℕ} → answer ≡ undecided least sum tries → (more : ℕ) → budget < more → budget < (searched n more).tries
  -- under a budget of at least the bound it is never undecided
  pub decides : length sheet ≡ length n.periods → demanded_bound n ≤ budget
      → (least : ℕ) × (sum : ℕ) × (best_least : ℕ) × (best_sum : ℕ) × (equal : Bool) × (mark : ℕ) × (remainder : ℕ) × (tries : ℕ)
      × (answer ≡ decided least sum best_least best_sum equal mark remainder tries)

-- ---- A mark by its definition

-- What the contract in src/marking.rt says
pub record Marks (file : List ℕ) (sheet : List ℤ) (budget : ℕ) (answer : MarkOutcome) : Type 0 where
  pub bytes : IsBytes file
  pub answered : answer ≡ mark_outcome (read_file file) sheet budget

-- What a mark that isn't a refusal tells of the sheet and of the search
record SearchTells (n : Net) (sheet : List ℤ) (budget least sum : ℕ) (o : SearchOutcome) : Type 0 where
  fit : length sheet ≡ length n.periods
  its_least : (rating n sheet).least ≡ least
  its_sum : (rating n sheet).sum ≡ sum
  found : search_outcome (accepted n) (length sheet) budget ≡ o

abbrev ToldDecided : Net → List ℤ → ℕ → ℕ → ℕ → ℕ → ℕ → Bool → ℕ → ℕ → ℕ → Type 0
ToldDecided n sheet budget least sum best_least best_sum equal mark remainder tries =
    SearchTells n sheet budget least sum (finished best_least best_sum tries)
    × ((eqb least best_least && eqb sum best_sum) ≡ equal)
    × (mark ≡ mark_of least best_least)
    × (remainder ≡ remainder_of least best_least)

abbrev ToldUndecided : Net → List ℤ → ℕ → ℕ → ℕ → ℕ → Type 0
ToldUndecided n sheet budget least sum tries =
    ((l : ℕ) × (s : ℕ) × SearchTells n sheet budget least sum (stopped l s tries)) ⊎ SearchTells n sheet budget least sum (stopped_with_none tries)

module _ (n : Net) (sheet : List ℤ) (budget : ℕ) where
  -- By whether the sheet fits, and by what the search answers
  mark_cases : (P : MarkOutcome → Type 0)
      → P (refusal 15 0)
      → (length sheet ≡ length n.periods → (o : SearchOutcome) → search_outcome (accepted n) (length sheet) budget ≡ o
      → P (marked (rating n sheet).least (rating n sheet).sum o))
      → P (mark_outcome (accepted n) sheet budget)
  unfolding mark_outcome fits on_sheet
  mark_cases P unfit fit = go (eqb (length sheet) (length n.periods)) refl
    where
      go : (b : Bool) → eqb (length sheet) (length n.periods) ≡ b
          → P (pick b (marked (rating n sheet).least (rating n sheet).sum (search_outcome (accepted n) (length sheet) budget)) (refusal 15 0))
      go true f = fit (eqb-true _ _ f) _ refl
      go false f = unfit

  told_of_decided : {least sum best_least best_sum : ℕ} {equal : Bool} {mark remainder tries : ℕ}
      → mark_outcome (accepted n) sheet budget ≡ decided least sum best_least best_sum equal mark remainder tries
      → ToldDecided n sheet budget least sum best_least best_sum equal mark remainder tries
  unfolding marked
  told_of_decided {least} {sum} {best_least} {best_sum} {equal} {mark} {remainder} {tries} =
      mark_cases
      (λ m. m ≡ decided least sum best_least best_sum equal mark remainder tries → ToldDecided n sheet budget least sum best_least best_sum equal mark remainder tries)
      (λ e. absurd (zero_ne_one (cc))) go
    where
      go : length sheet ≡ length n.periods → (o : SearchOutcome) → search_outcome (accepted n) (length sheet) budget ≡ o
          → marked (rating n sheet).least (rating n sheet).sum o ≡ decided least sum best_least best_sum equal mark remainder tries
          → ToldDecided n sheet budget least sum best_least best_sum equal mark remainder tries
      go f (finished l s t) q e = (record { fit = f; its_least = cc; its_sum = cc; found = q ∙ cc }, cc, cc, cc)
      go f (stopped l s t) q e = absurd (zero_ne_one (cc))
      go f (stopped_with_none t) q e = absurd (zero_ne_one (cc))
      go f (search.refusal k p) q e = absurd (zero_ne_one (cc))

  told_of_undecided : {least sum tries : ℕ} → mark_outcome (accepted n) sheet budget ≡ undecided least sum tries
      → ToldUndecided n sheet budget least sum tries
  unfolding marked
  told_of_undecided {least} {sum} {tries} =
      mark_cases (λ m. m ≡ undecided least sum tries → ToldUndecided n sheet budget least sum tries) (λ e. absurd (zero_ne_one (cc))) go
    where
      go : length sheet ≡ length n.periods → (o : SearchOutcome) → search_outcome (accepted n) (length sheet) budget ≡ o
          → marked (rating n sheet).least (rating n sheet).sum o ≡ undecided least sum tries
          → ToldUndecided n sheet budget least sum tries
      go f (finished l s t) q e = absurd (zero_ne_one (cc))
      go f (stopped l s t) q e = inl (l, s, record { fit = f; its_least = cc; its_sum = cc; found = q ∙ cc })
      go f (stopped_with_none t) q e = inr (record { fit = f; its_least = cc; its_sum = cc; found = q ∙ cc })
      go f (search.refusal k p) q e = absurd (zero_ne_one (cc))

-- Two ratings of which the one isn't above the other are equal, or the one is below
below_or_equal : (least sum best_least best_sum : ℕ) → (eqb least best_least && eqb sum best_sum) ≡ false
    → (least < best_least) ⊎ ((least ≡ best_least) × (sum ≤ best_sum)) → (least < best_least) ⊎ ((least ≡ best_least) × (sum < best_sum))
below_or_equal least sum best_least best_sum e (inl h) = inl h
below_or_equal least sum best_least best_sum e (inr h) =
    inr (h.0, omega (arith, h.1, eqb-false sum best_sum (sym (ap (λ (b : Bool). b && eqb sum best_sum) (eq-eqb _ _ h.0)) ∙ e)))

-- Two ratings of which none is above the other are equal
pub neither_above : {l u m v : ℕ} → (l < m) ⊎ ((l ≡ m) × (u ≤ v)) → (m < l) ⊎ ((m ≡ l) × (v ≤ u)) → (l ≡ m) × (u ≡ v)
neither_above (inl p) (inl q) = absurd (omega (arith, p, q))
neither_above (inl p) (inr q) = absurd (omega (arith, p, q.0))
neither_above (inr p) (inl q) = absurd (omega (arith, p.0, q))
neither_above (inr p) (inr q) = (p.0, omega (arith, p.1, q.1))

pub least_not_above : {least sum best_least best_sum : ℕ} → (least < best_least) ⊎ ((least ≡ best_least) × (sum ≤ best_sum)) → least ≤ best_least
least_not_above (inl h) = omega (arith, h)
least_not_above (inr h) = omega (arith, h.0)

and_eq : (a b c d : ℕ) → (eqb a b && eqb c d) ≡ true → (a ≡ b) × (c ≡ d)
and_eq a b c d = go (eqb a b) (eqb c d) refl refl
  where
    go : (x y : Bool) → eqb a b ≡ x → eqb c d ≡ y → (x && y) ≡ true → (a ≡ b) × (c ≡ d)
    go true true p q e = (eqb-true a b p, eqb-true c d q)
    go true false p q e = absurd (zero_ne_one (cc))
    go false y p q e = absurd (zero_ne_one (cc))

-- A mark of a sheet on an accepted file
module _ {file : List ℕ} {sheet : List ℤ} {budget : ℕ} {answer : MarkOutcome} (call : Marks file sheet budget answer)
    {n : Net} (reads : read_file file ≡ accepted n) where
  -- The search that it rests on, with the sheet for a start row
  searches : Searches file sheet budget (search_outcome (read_file file) (length sheet) budget) (start_row_after (read_file file) budget sheet)
  searches = record { bytes = call.bytes; answered = refl; left = refl }

  of_search : Demand3 n sheet budget (search_outcome (read_file file) (length sheet) budget) (start_row_after (read_file file) budget sheet)
  of_search = demand_3 searches reads

  its_answers : Answers n sheet budget (search_outcome (read_file file) (length sheet) budget) (start_row_after (read_file file) budget sheet)
  its_answers = answers searches reads

  answer_is : {m : MarkOutcome} → answer ≡ m → mark_outcome (accepted n) sheet budget ≡ m
  answer_is e = sym (ap (λ (read : Reading). mark_outcome read sheet budget) reads) ∙ sym call.answered ∙ e

  found_is : {o : SearchOutcome} → search_outcome (accepted n) (length sheet) budget ≡ o → search_outcome (read_file file) (length sheet) budget ≡ o
  found_is e = ap (λ (read : Reading). search_outcome read (length sheet) budget) reads ∙ e

  valid : Valid n
  valid = accepted_valid file n call.bytes reads

  rated : {least sum : ℕ} {o : SearchOutcome} → SearchTells n sheet budget least sum o → IsRating n sheet least sum
  rated t = rw (← t.its_least, ← t.its_sum) (rating_is_rating n valid sheet)

  tries_are : {o : SearchOutcome} → search_outcome (accepted n) (length sheet) budget ≡ o
      → (tries_of o ≤ demanded_bound n) × (tries_of o ≤ budget)
  tries_are e = (rw (found_is e) at of_search.tries_at_most, rw (found_is e) at its_answers.tries_within)

  module _ {least sum tries : ℕ} (is : answer ≡ undecided least sum tries) where
    undecided_told : ToldUndecided n sheet budget least sum tries
    undecided_told = told_of_undecided n sheet budget (answer_is is)

    undecided_is_rated : IsRating n sheet least sum
    undecided_is_rated = go undecided_told
      where
        go : ToldUndecided n sheet budget least sum tries → IsRating n sheet least sum
        go (inl t) = rated t.2
        go (inr t) = rated t

    undecided_at_budget : (tries ≤ demanded_bound n) × (tries ≡ budget)
    undecided_at_budget = go undecided_told
      where
        go : ToldUndecided n sheet budget least sum tries → (tries ≤ demanded_bound n) × (tries ≡ budget)
        go (inl t) = ((tries_are t.2.found).0, its_answers.stopped_at_budget (found_is t.2.found))
        go (inr t) = ((tries_are t.found).0, (its_answers.none_at_budget (found_is t.found)).0)

    undecided_due : (more : ℕ) → budget < more → budget < (searched n more).tries
    undecided_due = go undecided_told
      where
        go : ToldUndecided n sheet budget least sum tries → (more : ℕ) → budget < more → budget < (searched n more).tries
        go (inl t) = its_answers.stopped_was_due (found_is t.2.found)
        go (inr t) = its_answers.none_was_due (found_is t.found)

    undecided_fits : length sheet ≡ length n.periods
    undecided_fits = go undecided_told
      where
        go : ToldUndecided n sheet budget least sum tries → length sheet ≡ length n.periods
        go (inl t) = t.2.fit
        go (inr t) = t.fit

  -- Of a sheet that fits: its rating beside what the search answers
  module _ (fit : length sheet ≡ length n.periods) where
    beside : {o : SearchOutcome} → search_outcome (read_file file) (length sheet) budget ≡ o
        → answer ≡ marked (rating n sheet).least (rating n sheet).sum o
    unfolding mark_outcome fits on_sheet
    beside e =
        call.answered
        ∙ rw (reads, eq-eqb _ _ fit, sym (ap (λ (read : Reading). search_outcome read (length sheet) budget) reads) ∙ e) refl

    -- Where the search finishes, the mark is decided
    decided_of_finished : {best_least best_sum tries : ℕ} → search_outcome (read_file file) (length sheet) budget ≡ finished best_least best_sum tries
        → (least : ℕ) × (sum : ℕ) × (equal : Bool) × (mark : ℕ) × (remainder : ℕ)
        × (answer ≡ decided least sum best_least best_sum equal mark remainder tries)
    unfolding marked
    decided_of_finished {best_least} {best_sum} {tries} e = (
      (rating n sheet).least,
      (rating n sheet).sum,
      eqb (rating n sheet).least best_least && eqb (rating n sheet).sum best_sum,
      mark_of (rating n sheet).least best_least,
      remainder_of (rating n sheet).least best_least,
      beside e,
    )

    -- .. and where it stops, undecided
    undecided_of_stopped : {l s tries : ℕ} → search_outcome (read_file file) (length sheet) budget ≡ stopped l s tries
        → (least : ℕ) × (sum : ℕ) × (answer ≡ undecided least sum tries)
    unfolding marked
    undecided_of_stopped e = ((rating n sheet).least, (rating n sheet).sum, beside e)

    undecided_of_none : {tries : ℕ} → search_outcome (read_file file) (length sheet) budget ≡ stopped_with_none tries
        → (least : ℕ) × (sum : ℕ) × (answer ≡ undecided least sum tries)
    unfolding marked
    undecided_of_none e = ((rating n sheet).least, (rating n sheet).sum, beside e)

    -- By how the search's walk ends
    by_the_walk : AnswersByCase (searched n budget) (search_outcome (read_file file) (length sheet) budget)
    by_the_walk = (demand_2 searches reads fit).case_by_case

    decided_of_end : (searched n budget).stopped ≡ false
        → (least : ℕ) × (sum : ℕ) × (equal : Bool) × (mark : ℕ) × (remainder : ℕ)
        × (answer ≡ decided least sum (searched n budget).best.least (searched n budget).best.sum equal mark remainder (searched n budget).tries)
    decided_of_end ends = decided_of_finished ((by_the_walk.finished_exactly _ _ _).1 (ends, refl, refl, refl))

    undecided_of_stop : (searched n budget).stopped ≡ true → (least : ℕ) × (sum : ℕ) × (answer ≡ undecided least sum (searched n budget).tries)
    undecided_of_stop stops = go (searched n budget).best.some refl
      where
        go : (b : Bool) → (searched n budget).best.some ≡ b → (least : ℕ) × (sum : ℕ) × (answer ≡ undecided least sum (searched n budget).tries)
        go true some = undecided_of_stopped ((by_the_walk.stopped_exactly _ _ _).1 (stops, some, refl, refl, refl))
        go false none = undecided_of_none ((by_the_walk.none_exactly _).1 (stops, none, refl))

  end_of_decided : {least sum best_least best_sum : ℕ} {equal : Bool} {mark remainder tries : ℕ}
      → answer ≡ decided least sum best_least best_sum equal mark remainder tries
      → ((searched n budget).stopped ≡ false)
      × (best_least ≡ (searched n budget).best.least)
      × (best_sum ≡ (searched n budget).best.sum)
      × (tries ≡ (searched n budget).tries)
  end_of_decided {least} {sum} {best_least} {best_sum} {equal} {mark} {remainder} {tries} is = go (searched n budget).stopped refl
    where
      fit : length sheet ≡ length n.periods
      fit = (told_of_decided n sheet budget (answer_is is)).0.fit

      go : (b : Bool) → (searched n budget).stopped ≡ b
          → ((searched n budget).stopped ≡ false)
          × (best_least ≡ (searched n budget).best.least)
          × (best_sum ≡ (searched n budget).best.sum)
          × (tries ≡ (searched n budget).tries)
      go false ends = let (l, u, b, q, p, e) = decided_of_end fit ends in (ends, cc, cc, cc)
      go true stops = let (l, u, e) = undecided_of_stop fit stops in absurd (zero_ne_one (cc))

  stop_of_undecided : {least sum tries : ℕ} → answer ≡ undecided least sum tries → ((searched n budget).stopped ≡ true) × (tries ≡ (searched n budget).tries)
  stop_of_undecided {least} {sum} {tries} is = go (searched n budget).stopped refl
    where
      go : (b : Bool) → (searched n budget).stopped ≡ b → ((searched n budget).stopped ≡ true) × (tries ≡ (searched n budget).tries)
      go false ends = let (l, u, b, q, p, e) = decided_of_end (undecided_fits is) ends in absurd (zero_ne_one (cc))
      go true stops = let (l, u, e) = undecided_of_stop (undecided_fits is) stops in (stops, cc)

  pub mark_means : MarkMeans n sheet budget answer
  mark_means =
      record {
        decided_rating = λ e. rated (told_of_decided n sheet budget (answer_is e)).0;
        undecided_rating = undecided_is_rated;
        decided_fits = λ e. (told_of_decided n sheet budget (answer_is e)).0.fit;
        best_is_attained = λ e.
            let q = of_search.finished_has_its_rating (found_is (told_of_decided n sheet budget (answer_is e)).0.found) in
            (start_row_after (read_file file) budget sheet, q.0, q.1);
        best_is_unbeaten = λ e. of_search.finished_is_best (found_is (told_of_decided n sheet budget (answer_is e)).0.found);
        not_above_best = λ {least} {sum} {best_least} {best_sum} e.
            let t = told_of_decided n sheet budget (answer_is e) in
            least_not_above (of_search.finished_is_best (found_is t.0.found) sheet t.0.fit (rated t.0));
        equal_is_unbeaten = λ {least} {sum} {best_least} {best_sum} e starts f q.
            let t = told_of_decided n sheet budget (answer_is e) in
            let same = and_eq least best_least sum best_sum t.1 in
            rw (same.0, same.1) (of_search.finished_is_best (found_is t.0.found) starts f q);
        unequal_is_beaten = λ {least} {sum} {best_least} {best_sum} e.
            let t = told_of_decided n sheet budget (answer_is e) in
            below_or_equal least sum best_least best_sum t.1 (of_search.finished_is_best (found_is t.0.found) sheet t.0.fit (rated t.0));
        mark_is = λ e. let t = told_of_decided n sheet budget (answer_is e) in (t.2, t.3);
        decided_tries = λ e. tries_are (told_of_decided n sheet budget (answer_is e)).0.found;
        undecided_tries = undecided_at_budget;
        decided_range = λ e.
            let t = (told_of_decided n sheet budget (answer_is e)).0 in
            (IsRating-range valid (rated t), IsRating-range valid (of_search.finished_has_its_rating (found_is t.found)).1);
        undecided_range = λ e. IsRating-range valid (undecided_is_rated e);
        finished_is_decided = decided_of_end;
        stopped_is_undecided = undecided_of_stop;
        decided_is_finished = end_of_decided;
        undecided_is_stopped = stop_of_undecided;
        undecided_was_due = undecided_due;
        decides = λ fit enough.
            let (best_least, best_sum, tries, e) = of_search.finishes fit enough in
            let (least, sum, equal, mark, remainder, is) = decided_of_finished fit e in
            (least, sum, best_least, best_sum, equal, mark, remainder, tries, is);
      }

-- ---- Beside a search of the file with this budget

-- A mark and a search: decided exactly where the search finishes, with its rating and tries; undecided exactly where it stops, with its tries
pub record MarkBesideSearch (answer : MarkOutcome) (o : SearchOutcome) : Type 0 where
  pub decided_where_finished : {best_least best_sum tries : ℕ} → o ≡ finished best_least best_sum tries
      → (least : ℕ) × (sum : ℕ) × (equal : Bool) × (mark : ℕ) × (remainder : ℕ)
      × (answer ≡ decided least sum best_least best_sum equal mark remainder tries)
  pub finished_where_decided : {least sum best_least best_sum : ℕ} {equal : Bool} {mark remainder tries : ℕ}
      → answer ≡ decided least sum best_least best_sum equal mark remainder tries → o ≡ finished best_least best_sum tries
  pub undecided_where_stopped : {least sum tries : ℕ} → o ≡ stopped least sum tries → (l : ℕ) × (u : ℕ) × (answer ≡ undecided l u tries)
  pub undecided_where_none : {tries : ℕ} → o ≡ stopped_with_none tries → (l : ℕ) × (u : ℕ) × (answer ≡ undecided l u tries)
  pub stopped_where_undecided : {least sum tries : ℕ} → answer ≡ undecided least sum tries
      → ((l : ℕ) × (u : ℕ) × (o ≡ stopped l u tries)) ⊎ (o ≡ stopped_with_none tries)

module _ {file : List ℕ} {sheet row : List ℤ} {budget : ℕ} {answer : MarkOutcome} {o : SearchOutcome} {exit : List ℤ}
    (call : Marks file sheet budget answer) (found : Searches file row budget o exit) {n : Net} (reads : read_file file ≡ accepted n) (fit : length sheet ≡ length n.periods)
    (row_fits : length row ≡ length n.periods) where
  -- Both answers are those of one walk
  one_search : search_outcome (read_file file) (length sheet) budget ≡ o
  one_search = (demand_2 (searches call reads) reads fit).answers_the_walk ∙ sym (demand_2 found reads row_fits).answers_the_walk

  found_was : {q : SearchOutcome} → search_outcome (accepted n) (length sheet) budget ≡ q → o ≡ q
  found_was e = sym one_search ∙ found_is call reads e

  pub beside_search : MarkBesideSearch answer o
  beside_search =
      record {
        decided_where_finished = λ e. decided_of_finished call reads fit (one_search ∙ e);
        finished_where_decided = λ e. found_was (told_of_decided n sheet budget (answer_is call reads e)).0.found;
        undecided_where_stopped = λ e. undecided_of_stopped call reads fit (one_search ∙ e);
        undecided_where_none = λ e. undecided_of_none call reads fit (one_search ∙ e);
        stopped_where_undecided = λ e. go (undecided_told call reads e);
      }
    where
      go : {least sum tries : ℕ} → ToldUndecided n sheet budget least sum tries
          → ((l : ℕ) × (u : ℕ) × (o ≡ stopped l u tries)) ⊎ (o ≡ stopped_with_none tries)
      go (inl (l, u, t)) = inl (l, u, found_was t.found)
      go (inr t) = inr (found_was t.found)
