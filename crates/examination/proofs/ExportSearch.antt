-- The order's demands on the exports of the search and of mark, said of what a host sees, as ExportDemands.antt says those of the network's calls: what a
-- search and a mark mean by their return value and numbers, that a search's are those of the walk, and a mark's those of the search. Each theorem holds
-- of every call that has returned, where it keeps the contract in src/exports.rt, which every call does. Assumes nothing.
use Prim.Native.Nat.{ℕ, ◌*◌, ◌<◌, ◌≤◌}
use mathlib.Core.Path.{◌≡◌, refl, sym, ap, ◌∙◌}
use mathlib.Core.Bool.{Bool, true, false}
use mathlib.Core.List.{List}
use mathlib.Core.Logic.{◌⊎◌, inl, inr, ◌↔◌}
use native.Mathlib.Omega.{arith}
use borrow.Fn.World.{ArgsD, ResD}
use borrow.Fn.Kinds.{ended_of}
use contract.Lifetimes.{Lfts}
use denote.Triple.Clauses.{AtExit}
use lib.IntN.{ℤ}
use lib.ListN.{length, get_or}
use Rattle.network.specs.Lists.{pick}
use Rattle.network.specs.Network.{Net, max_period}
use Rattle.network.specs.Reading.{Reading, accepted, read_file}
use Rattle.network.specs.Refusals.{Refuses, by_file, after_file, Unfit, Demand1}
use Rattle.network.specs.Rating.{IsRating}
use Rattle.network.specs.Valid.{IsBytes, Valid}
use Rattle.network.proofs.Laws.Gaps.{accepted_valid}
use Rattle.network.proofs.Laws.Lists.{zero_ne_one}
use Rattle.search.specs.Walk.{State}
use Rattle.search.specs.Search.{SearchOutcome, finished, stopped, stopped_with_none, searched, search_outcome}
use Rattle.search.specs.Search as search
use Rattle.search.proofs.Demands.{Searches, demanded_bound, AnswersByCase, Demand3, WalkedStarts, Answers, demand_1, demand_2, demand_3, answers}
use Rattle.search.proofs.Demands.{searched_some, searched_none_exactly, answered_alike, left_alike}
use Rattle.examination.specs.Bytes.{starts, IsSheet, mark_bytes, BytesFit, BytesUnfit}
use Rattle.examination.specs.Exports.{TellsRefusal, search_status, search_row, one_if, mark_status, mark_row}
use Rattle.examination.specs.Sheets.{MarkOutcome, decided, undecided, mark_outcome}
use Rattle.examination.specs.Sheets as sheets
use Rattle.examination.proofs.Codes.{export_demand_1, search_status_tells, search_status_code, mark_status_tells, mark_status_code}
use Rattle.examination.proofs.Laws.Bytes.{length_starts_fit}
use Rattle.examination.proofs.Laws.Refusals.{mark_bytes_refuse, mark_bytes_refuse_only, mark_refuses_only}
use Rattle.examination.proofs.Mark.{MarkMeans, mark_means}
use Rattle.examination.proofs.SheetBytes.{bytes_are_a_sheet}
use Rattle.examination.specs.contracts.exports.examination_search as searching
use Rattle.examination.proofs.exports.examination_search.Kinds as search_kinds
use Rattle.examination.proofs.exports.examination_search.Reads as search_contract
use Rattle.examination.specs.contracts.exports.examination_mark as mark
use Rattle.examination.proofs.exports.examination_mark.Kinds as mark_kinds
use Rattle.examination.proofs.exports.examination_mark.Reads as mark_contract
use Rattle.examination.proofs.ExportDemands.{own_ground_range, on_its_bytes}

-- ---- Both exports may be called: neither asks anything of what is lent

pub search_export_asks_nothing : (κs : Lfts 3) (a : ArgsD searching.signature κs) → search_contract.Pre κs a
search_export_asks_nothing κs a = tt

pub mark_export_asks_nothing : (κs : Lfts 3) (a : ArgsD mark.signature κs) → mark_contract.Pre κs a
mark_export_asks_nothing κs a = tt

-- ---- The search

-- Demand 2 of what a host sees on an accepted file, with a start row of one place for each line, of document 01's walk, `w`
pub record HallWalk (w : State) (row : List ℤ) (returned : ℕ) (answer : List ℕ) (exit : List ℤ) : Type 0 where
  -- it returns 0 exactly where the walk comes to its end, 1 exactly where it stops with a best, 2 exactly where it stops with none
  pub finished_exactly : (returned ≡ 0) ↔ (w.stopped ≡ false)
  pub stopped_exactly : (returned ≡ 1) ↔ ((w.stopped ≡ true) × (w.best.some ≡ true))
  pub none_exactly : (returned ≡ 2) ↔ ((w.stopped ≡ true) × (w.best.some ≡ false))
  -- a walk that comes to its end has a best
  pub ends_with_a_best : w.stopped ≡ false → w.best.some ≡ true
  -- three numbers: the best's rating, 0 and 0 where there is none, and the walk's tries
  pub three_numbers : length answer ≡ 3
  pub best_numbers : w.best.some ≡ true → (get_or answer 0 0 ≡ w.best.least) × (get_or answer 1 0 ≡ w.best.sum)
  pub no_numbers : w.best.some ≡ false → (get_or answer 0 0 ≡ 0) × (get_or answer 1 0 ≡ 0)
  pub its_tries : get_or answer 2 0 ≡ w.tries
  -- the best's starts are written; where there is none the row is as it was lent
  pub writes_the_best : exit ≡ pick w.best.some w.starts row

module _ {w : State} {o : SearchOutcome} {row exit : List ℤ} (before : List ℕ) (cases : AnswersByCase w o)
    (has_best : w.stopped ≡ false → w.best.some ≡ true) (left : exit ≡ pick w.best.some w.starts row) where
  hall_walk : (a b : Bool) → w.stopped ≡ a → w.best.some ≡ b → HallWalk w row (search_status o) (search_row o before) exit
  unfolding search_status search_row
  hall_walk false b ends some =
      rw ((cases.finished_exactly w.best.least w.best.sum w.tries).1 (ends, refl, refl, refl))
      record {
        finished_exactly = (λ e. ends, λ e. refl);
        stopped_exactly = (λ e. absurd (omega (arith, e)), λ e. absurd (zero_ne_one (cc e.0)));
        none_exactly = (λ e. absurd (omega (arith, e)), λ e. absurd (zero_ne_one (cc e.0)));
        ends_with_a_best = has_best;
        three_numbers = refl;
        best_numbers = λ e. (refl, refl);
        no_numbers = λ e. absurd (zero_ne_one (cc (has_best ends)));
        its_tries = refl;
        writes_the_best = left;
      }
  hall_walk true true stops some =
      rw ((cases.stopped_exactly w.best.least w.best.sum w.tries).1 (stops, some, refl, refl, refl))
      record {
        finished_exactly = (λ e. absurd (omega (arith, e)), λ e. absurd (zero_ne_one (cc)));
        stopped_exactly = (λ e. (stops, some), λ e. refl);
        none_exactly = (λ e. absurd (omega (arith, e)), λ e. absurd (zero_ne_one (cc e.1)));
        ends_with_a_best = has_best;
        three_numbers = refl;
        best_numbers = λ e. (refl, refl);
        no_numbers = λ e. absurd (zero_ne_one (cc));
        its_tries = refl;
        writes_the_best = left;
      }
  hall_walk true false stops none =
      rw ((cases.none_exactly w.tries).1 (stops, none, refl))
      record {
        finished_exactly = (λ e. absurd (omega (arith, e)), λ e. absurd (zero_ne_one (cc)));
        stopped_exactly = (λ e. absurd (omega (arith, e)), λ e. absurd (zero_ne_one (cc e.1)));
        none_exactly = (λ e. (stops, none), λ e. refl);
        ends_with_a_best = has_best;
        three_numbers = refl;
        best_numbers = λ e. absurd (zero_ne_one (cc));
        no_numbers = λ e. (refl, refl);
        its_tries = refl;
        writes_the_best = left;
      }

-- What a host sees of a search on an accepted file, with a start row of one place for each line
pub record HallSearch (n : Net) (row : List ℤ) (budget returned : ℕ) (answer : List ℕ) (exit : List ℤ) : Type 0 where
  pub returns : (returned ≡ 0) ⊎ ((returned ≡ 1) ⊎ (returned ≡ 2))
  -- (1) finished: the starts it wrote have the rating it reports
  pub finished_has_its_rating : returned ≡ 0 → (length exit ≡ length n.periods) × IsRating n exit (get_or answer 0 0) (get_or answer 1 0)
  -- (2) .. and no choice of whole-number starts is better
  pub finished_is_best : returned ≡ 0 → (starts : List ℤ) → length starts ≡ length n.periods → {least sum : ℕ} → IsRating n starts least sum
      → (least < get_or answer 0 0) ⊎ ((least ≡ get_or answer 0 0) × (sum ≤ get_or answer 1 0))
  -- (3) the tries are at most the bound, and the budget
  pub tries_at_most : (get_or answer 2 0 ≤ demanded_bound n) × (get_or answer 2 0 ≤ budget)
  -- (4) it finishes under every budget of at least the bound
  pub finishes : demanded_bound n ≤ budget → returned ≡ 0
  -- stopped with a best, whose starts it wrote, or with none; the tries are the budget
  pub stopped_has_its_rating : returned ≡ 1 → (length exit ≡ length n.periods) × IsRating n exit (get_or answer 0 0) (get_or answer 1 0)
  pub none_leaves_the_row : returned ≡ 2 → exit ≡ row
  pub stopped_at_budget : (returned ≡ 1) ⊎ (returned ≡ 2) → get_or answer 2 0 ≡ budget
  -- the starts it wrote: line 0's is 0, each is 0 up to its line's period less 1
  pub starts_in_range : (returned ≡ 0) ⊎ (returned ≡ 1) → WalkedStarts n exit
  -- the rating's numbers; without a best they are 0
  pub ranges : (get_or answer 0 0 ≤ max_period) × (get_or answer 1 0 ≤ 92160)
  pub none_has_zeros : returned ≡ 2 → (get_or answer 0 0 ≡ 0) × (get_or answer 1 0 ≡ 0)

module _ {n : Net} {row : List ℤ} {budget : ℕ} {exit : List ℤ} (fit : length row ≡ length n.periods) where
  hall_search : (o : SearchOutcome) (before : List ℕ) → ((number place : ℕ) → o ≡ search.refusal number place → ⊥)
      → Demand3 n row budget o exit → Answers n row budget o exit → HallSearch n row budget (search_status o) (search_row o before) exit
  unfolding search_status search_row
  hall_search (finished l u t) before answers d b =
      record {
        returns = inl refl;
        finished_has_its_rating = λ e. d.finished_has_its_rating refl;
        finished_is_best = λ e. d.finished_is_best refl;
        tries_at_most = (d.tries_at_most, b.tries_within);
        finishes = λ h. refl;
        stopped_has_its_rating = λ e. absurd (omega (arith, e));
        none_leaves_the_row = λ e. absurd (omega (arith, e));
        stopped_at_budget = λ e. absurd (neither_of e);
        starts_in_range = λ e. b.finished_starts refl;
        ranges = b.finished_range refl;
        none_has_zeros = λ e. absurd (omega (arith, e));
      }
    where
      neither_of : (◌≡◌ {A = ℕ} 0 1) ⊎ (◌≡◌ {A = ℕ} 0 2) → ⊥
      neither_of (inl e) = omega (arith, e)
      neither_of (inr e) = omega (arith, e)
  hall_search (stopped l u t) before answers d b =
      record {
        returns = inr (inl refl);
        finished_has_its_rating = λ e. absurd (omega (arith, e));
        finished_is_best = λ e. absurd (omega (arith, e));
        tries_at_most = (d.tries_at_most, b.tries_within);
        finishes = λ h. let (x, y, z, e) = d.finishes fit h in absurd (zero_ne_one (cc));
        stopped_has_its_rating = λ e. b.stopped_has_its_rating refl;
        none_leaves_the_row = λ e. absurd (omega (arith, e));
        stopped_at_budget = λ e. b.stopped_at_budget refl;
        starts_in_range = λ e. b.stopped_starts refl;
        ranges = b.stopped_range refl;
        none_has_zeros = λ e. absurd (omega (arith, e));
      }
  hall_search (stopped_with_none t) before answers d b =
      record {
        returns = inr (inr refl);
        finished_has_its_rating = λ e. absurd (omega (arith, e));
        finished_is_best = λ e. absurd (omega (arith, e));
        tries_at_most = (d.tries_at_most, b.tries_within);
        finishes = λ h. let (x, y, z, e) = d.finishes fit h in absurd (zero_ne_one (cc));
        stopped_has_its_rating = λ e. absurd (omega (arith, e));
        none_leaves_the_row = λ e. (b.none_at_budget refl).1;
        stopped_at_budget = λ e. (b.none_at_budget refl).0;
        starts_in_range = λ e. absurd (neither_of e);
        ranges = (omega arith, omega arith);
        none_has_zeros = λ e. (refl, refl);
      }
    where
      neither_of : (◌≡◌ {A = ℕ} 2 0) ⊎ (◌≡◌ {A = ℕ} 2 1) → ⊥
      neither_of (inl e) = omega (arith, e)
      neither_of (inr e) = omega (arith, e)
  hall_search (search.refusal number place) before answers d b = absurd (answers number place refl)

-- A start row that fits is no ground
pub fit_answers : {file : List ℕ} (row : List ℤ) {n : Net} {number place : ℕ} → read_file file ≡ accepted n → length row ≡ length n.periods → {ground : ℕ}
    → Refuses file ground (Unfit row) number place → ⊥
fit_answers row reads fit (by_file is) = zero_ne_one (cc)
fit_answers row {n = n} reads fit (after_file {n = m} is differ) = let same : n ≡ m = cc in differ (fit ∙ ap (λ (k : Net). length k.periods) same)

search_row_as_found : {o : SearchOutcome} {number place : ℕ} (row : List ℕ) → o ≡ search.refusal number place → search_row o row ≡ row
unfolding search_row
search_row_as_found row e = rw e refl

module _ (κs : Lfts 3) (a : ArgsD searching.signature κs) (r : ResD searching.signature κs)
    (s : AtExit (ended_of 3 search_kinds.ps search_kinds.r) κs) (kept : search_contract.Post κs a r s) where
  searches : Searches a.0.now a.1.0.now a.1.1.0 (search_outcome (read_file a.0.now) (length a.1.0.now) a.1.1.0) s.1.0.now
  searches = record { bytes = kept.1.1.1; answered = refl; left = kept.1.1.0 }

  valid : {n : Net} → read_file a.0.now ≡ accepted n → Valid n
  valid {n} reads = accepted_valid a.0.now n kept.1.1.1 reads

  pub search_export_demand_1 : Demand1 (TellsRefusal r) (Refuses a.0.now 16 (Unfit a.1.0.now))
      ((s.1.0.now ≡ a.1.0.now) × (s.1.1.1.0.now ≡ a.1.1.1.0.now))
  search_export_demand_1 =
      export_demand_1
      (record {
        faulty_is_refused = (demand_1 searches).faulty_is_refused;
        no_other_is_refused = (demand_1 searches).no_other_is_refused;
        rows_as_found = λ number place e. ((demand_1 searches).rows_as_found number place e, kept.1.0 ∙ search_row_as_found a.1.1.1.0.now e);
      })
      (own_ground_range (omega arith) (omega arith)) (search_status_code kept.0) (search_status_tells _ kept.0)

  pub search_export_demand_2 : {n : Net} → read_file a.0.now ≡ accepted n → length a.1.0.now ≡ length n.periods
      → HallWalk (searched n a.1.1.0) a.1.0.now r s.1.1.1.0.now s.1.0.now
  search_export_demand_2 {n} reads fit =
      let d = demand_2 searches reads fit in
      rw (kept.0, kept.1.0)
      (hall_walk a.1.1.1.0.now d.case_by_case (searched_some (valid reads) a.1.1.0) d.writes_the_best _ _ refl refl)

  -- Document 01 on `best`, "the first 16 tries or fewer reach a full timetable": stopped with none exactly where there isn't a try for each line
  pub search_export_none_exactly : {n : Net} → read_file a.0.now ≡ accepted n → length a.1.0.now ≡ length n.periods
      → (r ≡ 2) ↔ (a.1.1.0 < length n.periods)
  search_export_none_exactly reads fit =
      let walk = (search_export_demand_2 reads fit).none_exactly in
      let none = searched_none_exactly (valid reads) a.1.1.0 in
      (λ e. none.0 (walk.0 e), λ few. walk.1 (none.1 few))

  pub search_export_demand_3 : {n : Net} → read_file a.0.now ≡ accepted n → length a.1.0.now ≡ length n.periods
      → HallSearch n a.1.0.now a.1.1.0 r s.1.1.1.0.now s.1.0.now
  search_export_demand_3 {n} reads fit =
      rw (kept.0, kept.1.0)
      (hall_search fit (search_outcome (read_file a.0.now) (length a.1.0.now) a.1.1.0) a.1.1.1.0.now
      (λ number place e. fit_answers a.1.0.now reads fit ((demand_1 searches).no_other_is_refused number place e)) (demand_3 searches reads) (answers searches reads))

-- ---- A finished search has the same answer, tries and starts under every larger budget

finished_of_status : (o : SearchOutcome) → ((number place : ℕ) → o ≡ search.refusal number place → ⊥) → search_status o ≡ 0
    → (least : ℕ) × (sum : ℕ) × (tries : ℕ) × (o ≡ finished least sum tries)
unfolding search_status
finished_of_status (finished l u t) answers e = (l, u, t, refl)
finished_of_status (stopped l u t) answers e = absurd (omega (arith, e))
finished_of_status (stopped_with_none t) answers e = absurd (omega (arith, e))
finished_of_status (search.refusal number place) answers e = absurd (answers number place refl)

search_told : {o : SearchOutcome} {least sum tries : ℕ} (before : List ℕ) → o ≡ finished least sum tries
    → (search_status o ≡ 0) × (search_row o before ≡ search_row (finished least sum tries) before)
unfolding search_status
search_told before e = (ap search_status e, ap (λ (k : SearchOutcome). search_row k before) e)

finished_row : (least sum tries : ℕ) (before before' : List ℕ) → search_row (finished least sum tries) before ≡ search_row (finished least sum tries) before'
unfolding search_row
finished_row least sum tries before before' = refl

module _ (κs : Lfts 3) (a : ArgsD searching.signature κs) (r : ResD searching.signature κs)
    (s : AtExit (ended_of 3 search_kinds.ps search_kinds.r) κs) (kept : search_contract.Post κs a r s) (κs' : Lfts 3) (a' : ArgsD searching.signature κs')
    (r' : ResD searching.signature κs') (s' : AtExit (ended_of 3 search_kinds.ps search_kinds.r) κs') (kept' : search_contract.Post κs' a' r' s') where
  -- On one file with rows of one place for each line
  pub search_export_with_more_tries : a.0.now ≡ a'.0.now → {n : Net} → read_file a.0.now ≡ accepted n
      → length a.1.0.now ≡ length n.periods → length a.1.0.now ≡ length a'.1.0.now → a.1.1.0 ≤ a'.1.1.0 → r ≡ 0
      → (r' ≡ 0) × (s'.1.1.1.0.now ≡ s.1.1.1.0.now) × (s'.1.0.now ≡ s.1.0.now)
  search_export_with_more_tries file {n} reads fit rows larger ends =
      let call = searches κs a r s kept in
      let other : Searches a.0.now a'.1.0.now a'.1.1.0 (search_outcome (read_file a'.0.now) (length a'.1.0.now) a'.1.1.0) s'.1.0.now
      = rw file (searches κs' a' r' s' kept') in
      let (l, u, t, is) = finished_of_status (search_outcome (read_file a.0.now) (length a.1.0.now) a.1.1.0)
      (λ number place e. fit_answers a.1.0.now reads fit ((demand_1 call).no_other_is_refused number place e)) (sym kept.0 ∙ ends) in
      let alike = answered_alike call other reads rows larger is in (
        kept'.0 ∙ (search_told a'.1.1.1.0.now alike).0,
        kept'.1.0
            ∙ (search_told a'.1.1.1.0.now alike).1
            ∙ finished_row l u t a'.1.1.1.0.now a.1.1.1.0.now
            ∙ sym (kept.1.0 ∙ (search_told a.1.1.1.0.now is).1),
        left_alike call other reads rows larger is,
      )

-- ---- Mark, on a sheet's bytes

-- What the hall sees of a mark on an accepted file and a sheet with one start for each line
pub record HallMark (n : Net) (sheet : List ℤ) (budget returned : ℕ) (answer : List ℕ) : Type 0 where
  -- decided or undecided
  pub returns : (returned ≡ 0) ⊎ (returned ≡ 1)
  -- the sheet's rating is its own
  pub its_rating : IsRating n sheet (get_or answer 0 0) (get_or answer 1 0)
  -- decided: the best rating is that of some starts, and of no whole-number starts is the rating above it
  pub best_is_attained : returned ≡ 0 → (starts : List ℤ) × (length starts ≡ length n.periods) × IsRating n starts (get_or answer 2 0) (get_or answer 3 0)
  pub best_is_unbeaten : returned ≡ 0 → (starts : List ℤ) → length starts ≡ length n.periods → {least sum : ℕ} → IsRating n starts least sum
      → (least < get_or answer 2 0) ⊎ ((least ≡ get_or answer 2 0) × (sum ≤ get_or answer 3 0))
  -- equal, 1, and no whole-number starts rate above the sheet; or not, 0, and the best rating is above the sheet's
  pub equal_or_not : returned ≡ 0 → (get_or answer 4 0 ≡ 1) ⊎ (get_or answer 4 0 ≡ 0)
  pub equal_is_unbeaten : returned ≡ 0 → get_or answer 4 0 ≡ 1 → (starts : List ℤ) → length starts ≡ length n.periods → {least sum : ℕ}
      → IsRating n starts least sum → (least < get_or answer 0 0) ⊎ ((least ≡ get_or answer 0 0) × (sum ≤ get_or answer 1 0))
  pub unequal_is_beaten : returned ≡ 0 → get_or answer 4 0 ≡ 0
      → (get_or answer 0 0 < get_or answer 2 0) ⊎ ((get_or answer 0 0 ≡ get_or answer 2 0) × (get_or answer 1 0 < get_or answer 3 0))
  -- the tries are within the bound and the budget; undecided, they are the budget
  pub tries_at_most : (get_or answer 5 0 ≤ demanded_bound n) × (get_or answer 5 0 ≤ budget)
  pub undecided_at_budget : returned ≡ 1 → get_or answer 5 0 ≡ budget
  -- by the search's walk under this budget: decided exactly where it comes to its end, undecided exactly where it stops; its tries and, decided, its
  -- best rating
  pub decided_exactly : (returned ≡ 0) ↔ ((searched n budget).stopped ≡ false)
  pub undecided_exactly : (returned ≡ 1) ↔ ((searched n budget).stopped ≡ true)
  pub six_numbers : length answer ≡ 6
  pub its_tries : get_or answer 5 0 ≡ (searched n budget).tries
  pub its_best : returned ≡ 0 → (get_or answer 2 0 ≡ (searched n budget).best.least) × (get_or answer 3 0 ≡ (searched n budget).best.sum)
  -- .. undecided only where the budget was too small: a further try was due, which is made under every larger budget
  pub undecided_was_due : returned ≡ 1 → (more : ℕ) → budget < more → budget < (searched n more).tries
  -- under a budget of at least the bound it is decided
  pub decides : demanded_bound n ≤ budget → returned ≡ 0
  -- the ratings' numbers; undecided, what is not known is 0
  pub ranges : ((get_or answer 0 0 ≤ max_period) × (get_or answer 1 0 ≤ 92160)) × ((get_or answer 2 0 ≤ max_period) × (get_or answer 3 0 ≤ 92160))
  pub undecided_has_zeros : returned ≡ 1 → (get_or answer 2 0 ≡ 0) × (get_or answer 3 0 ≡ 0) × (get_or answer 4 0 ≡ 0)

module _ {n : Net} {sheet : List ℤ} {budget : ℕ} (fit : length sheet ≡ length n.periods) where
  hall_mark : (o : MarkOutcome) (before : List ℕ) → ((number place : ℕ) → o ≡ sheets.refusal number place → ⊥)
      → MarkMeans n sheet budget o → HallMark n sheet budget (mark_status o) (mark_row o before)
  unfolding mark_status mark_row one_if
  hall_mark (decided l u m v true q r t) before answers d =
      let (ends, least_is, sum_is_lem, tries_are) = d.decided_is_finished refl in
      record {
        returns = inl refl;
        its_rating = d.decided_rating refl;
        best_is_attained = λ e. d.best_is_attained refl;
        best_is_unbeaten = λ e. d.best_is_unbeaten refl;
        equal_or_not = λ e. inl refl;
        equal_is_unbeaten = λ e f. d.equal_is_unbeaten refl;
        unequal_is_beaten = λ e f. absurd (omega (arith, f));
        tries_at_most = d.decided_tries refl;
        undecided_at_budget = λ e. absurd (omega (arith, e));
        decided_exactly = (λ e. ends, λ e. refl);
        undecided_exactly = (λ e. absurd (omega (arith, e)), λ e. absurd (zero_ne_one (cc)));
        six_numbers = refl;
        its_tries = tries_are;
        its_best = λ e. (least_is, sum_is_lem);
        undecided_was_due = λ e. absurd (omega (arith, e));
        decides = λ h. refl;
        ranges = d.decided_range refl;
        undecided_has_zeros = λ e. absurd (omega (arith, e));
      }
  hall_mark (decided l u m v false q r t) before answers d =
      let (ends, least_is, sum_is_lem, tries_are) = d.decided_is_finished refl in
      record {
        returns = inl refl;
        its_rating = d.decided_rating refl;
        best_is_attained = λ e. d.best_is_attained refl;
        best_is_unbeaten = λ e. d.best_is_unbeaten refl;
        equal_or_not = λ e. inr refl;
        equal_is_unbeaten = λ e f. absurd (omega (arith, f));
        unequal_is_beaten = λ e f. d.unequal_is_beaten refl;
        tries_at_most = d.decided_tries refl;
        undecided_at_budget = λ e. absurd (omega (arith, e));
        decided_exactly = (λ e. ends, λ e. refl);
        undecided_exactly = (λ e. absurd (omega (arith, e)), λ e. absurd (zero_ne_one (cc)));
        six_numbers = refl;
        its_tries = tries_are;
        its_best = λ e. (least_is, sum_is_lem);
        undecided_was_due = λ e. absurd (omega (arith, e));
        decides = λ h. refl;
        ranges = d.decided_range refl;
        undecided_has_zeros = λ e. absurd (omega (arith, e));
      }
  hall_mark (undecided l u t) before answers d =
      let q = d.undecided_tries refl in
      let (stops, tries_are) = d.undecided_is_stopped refl in
      record {
        returns = inr refl;
        its_rating = d.undecided_rating refl;
        best_is_attained = λ e. absurd (omega (arith, e));
        best_is_unbeaten = λ e. absurd (omega (arith, e));
        equal_or_not = λ e. absurd (omega (arith, e));
        equal_is_unbeaten = λ e. absurd (omega (arith, e));
        unequal_is_beaten = λ e. absurd (omega (arith, e));
        tries_at_most = (q.0, omega (arith, q.1));
        undecided_at_budget = λ e. q.1;
        decided_exactly = (λ e. absurd (omega (arith, e)), λ e. absurd (zero_ne_one (cc)));
        undecided_exactly = (λ e. stops, λ e. refl);
        six_numbers = refl;
        its_tries = tries_are;
        its_best = λ e. absurd (omega (arith, e));
        undecided_was_due = λ e. d.undecided_was_due refl;
        decides = λ h. let (a, b, c, x, y, q, r, z, e) = d.decides fit h in absurd (zero_ne_one (cc));
        ranges = (d.undecided_range refl, (omega arith, omega arith));
        undecided_has_zeros = λ e. (refl, refl, refl);
      }
  hall_mark (sheets.refusal number place) before answers d = absurd (answers number place refl)

pub mark_row_as_found : {o : MarkOutcome} {number place : ℕ} (row : List ℕ) → o ≡ sheets.refusal number place → mark_row o row ≡ row
unfolding mark_row
mark_row_as_found row e = rw e refl

-- On 4 bytes for each line the answer is that on the starts that they mean
pub mark_told : (file : List ℕ) {n : Net} → read_file file ≡ accepted n → (bytes : List ℕ) → BytesFit bytes n → (budget : ℕ)
    → mark_bytes budget (read_file file) bytes ≡ mark_outcome (read_file file) (starts bytes) budget
mark_told file reads bytes fit budget =
    on_its_bytes (λ (read : Reading) (sheet : List ℤ). mark_outcome read sheet budget) sheets.refusal (read_file file) reads bytes fit

-- Of every export that returns a mark's status and leaves its row
pub hall_mark_of : (file : List ℕ) → IsBytes file → {n : Net} → read_file file ≡ accepted n → (bytes : List ℕ) → BytesFit bytes n
    → (budget : ℕ) (before : List ℕ) {returned : ℕ} {answer : List ℕ}
    → returned ≡ mark_status (mark_bytes budget (read_file file) bytes) → answer ≡ mark_row (mark_bytes budget (read_file file) bytes) before
    → HallMark n (starts bytes) budget returned answer
hall_mark_of file is_bytes {n} reads bytes fit budget before e f =
    let told = mark_told file reads bytes fit budget in
    let one_for_each : length (starts bytes) ≡ length n.periods = length_starts_fit bytes fit in
    rw (e ∙ ap mark_status told, f ∙ ap (λ (o : MarkOutcome). mark_row o before) told)
    (hall_mark one_for_each (mark_outcome (read_file file) (starts bytes) budget) before
    (λ number place g. fit_answers (starts bytes) reads one_for_each (mark_refuses_only file (starts bytes) budget is_bytes g))
    (mark_means (record { bytes = is_bytes; answered = refl }) reads))

module _ (κs : Lfts 3) (a : ArgsD mark.signature κs) (r : ResD mark.signature κs) (s : AtExit (ended_of 3 mark_kinds.ps mark_kinds.r) κs)
    (kept : mark_contract.Post κs a r s) where
  pub mark_export_demand_1 : Demand1 (TellsRefusal r) (Refuses a.0.now 15 (BytesUnfit a.1.0.now)) (s.1.1.1.0.now ≡ a.1.1.1.0.now)
  mark_export_demand_1 =
      export_demand_1
      (record {
        faulty_is_refused = λ number place f. mark_bytes_refuse a.0.now kept.1.1.0 a.1.0.now a.1.1.0 f;
        no_other_is_refused = λ number place e. mark_bytes_refuse_only a.0.now kept.1.1.0 a.1.0.now a.1.1.0 e;
        rows_as_found = λ number place e. kept.1.0 ∙ mark_row_as_found a.1.1.1.0.now e;
      })
      (own_ground_range (omega arith) (omega arith)) (mark_status_code kept.0) (mark_status_tells _ kept.0)

  -- Whatever 4 bytes for each line are lent, they are a sheet's
  pub mark_export_sheet : {lines : ℕ} → length a.1.0.now ≡ 4 * lines → IsSheet lines a.1.0.now
  mark_export_sheet = bytes_are_a_sheet kept.1.1.1

  -- What a mark means, of the sheet whose bytes are lent
  pub mark_export_means : {n : Net} → read_file a.0.now ≡ accepted n → BytesFit a.1.0.now n
      → HallMark n (starts a.1.0.now) a.1.1.0 r s.1.1.1.0.now
  mark_export_means reads fit =
      hall_mark_of a.0.now kept.1.1.0 reads a.1.0.now fit a.1.1.0 a.1.1.1.0.now kept.0 kept.1.0

-- ---- Mark beside the search

-- A mark's return value and six numbers beside a search's return value and three, of one file and budget: decided exactly where the search finishes,
-- with its rating; undecided exactly where it stops; with its tries
pub record HallBeside (returned : ℕ) (answer : List ℕ) (found : ℕ) (numbers : List ℕ) : Type 0 where
  pub decided_exactly : (returned ≡ 0) ↔ (found ≡ 0)
  pub undecided_exactly : (returned ≡ 1) ↔ ((found ≡ 1) ⊎ (found ≡ 2))
  pub same_best : returned ≡ 0 → (get_or answer 2 0 ≡ get_or numbers 0 0) × (get_or answer 3 0 ≡ get_or numbers 1 0)
  pub same_tries : get_or answer 5 0 ≡ get_or numbers 2 0

pub hall_beside : {n : Net} {sheet row exit : List ℤ} {budget returned found : ℕ} {answer numbers : List ℕ} → HallMark n sheet budget returned answer
    → HallWalk (searched n budget) row found numbers exit → HallBeside returned answer found numbers
hall_beside {n} {budget = budget} {returned} {found} m w =
    record {
      decided_exactly = (λ e. w.finished_exactly.1 (m.decided_exactly.0 e), λ e. m.decided_exactly.1 (w.finished_exactly.0 e));
      undecided_exactly = (λ e. stopped_either (searched n budget).best.some refl (m.undecided_exactly.0 e), λ e. m.undecided_exactly.1 (stops e));
      same_best = λ e.
          let (l, u) = m.its_best e in
          let (l', u') = w.best_numbers (w.ends_with_a_best (m.decided_exactly.0 e)) in
          (l ∙ sym l', u ∙ sym u');
      same_tries = m.its_tries ∙ sym w.its_tries;
    }
  where
    stopped_either : (b : Bool) → (searched n budget).best.some ≡ b → (searched n budget).stopped ≡ true → (found ≡ 1) ⊎ (found ≡ 2)
    stopped_either true some stops = inl (w.stopped_exactly.1 (stops, some))
    stopped_either false some stops = inr (w.none_exactly.1 (stops, some))

    stops : (found ≡ 1) ⊎ (found ≡ 2) → (searched n budget).stopped ≡ true
    stops (inl e) = (w.stopped_exactly.0 e).0
    stops (inr e) = (w.none_exactly.0 e).0

module _ (κs : Lfts 3) (a : ArgsD mark.signature κs) (r : ResD mark.signature κs) (s : AtExit (ended_of 3 mark_kinds.ps mark_kinds.r) κs)
    (kept : mark_contract.Post κs a r s) (κs' : Lfts 3) (a' : ArgsD searching.signature κs') (r' : ResD searching.signature κs')
    (s' : AtExit (ended_of 3 search_kinds.ps search_kinds.r) κs') (kept' : search_contract.Post κs' a' r' s') where
  -- Of two calls on one file with one budget, with four bytes of a sheet and one place of the start row for each line
  pub mark_export_beside_search : a.0.now ≡ a'.0.now → a.1.1.0 ≡ a'.1.1.0 → {n : Net} → read_file a.0.now ≡ accepted n
      → BytesFit a.1.0.now n → length a'.1.0.now ≡ length n.periods → HallBeside r s.1.1.1.0.now r' s'.1.1.1.0.now
  mark_export_beside_search file budget {n} reads fits row_fits =
      let found : HallWalk (searched n a.1.1.0) a'.1.0.now r' s'.1.1.1.0.now s'.1.0.now
      = rw budget (search_export_demand_2 κs' a' r' s' kept' (ap read_file (sym file) ∙ reads) row_fits) in
      hall_beside (mark_export_means κs a r s kept reads fits) found
