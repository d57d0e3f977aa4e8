-- Document 02, A.3, on the call with a wanted gap: when it refuses, that it answers what the walk by its rule does, that a timetable found has at
-- least the wanted gap, and that none is answered only if no whole-number starts reach it. Each theorem at the end holds of every call that has
-- returned: of what was lent, `a`, its answer, `r`, and the row at its exit, `s`, where they keep the contract in src/, which every call does.
-- Assumes nothing.
use Prim.Native.Nat.{ℕ, ◌≤◌, ◌<◌}
use mathlib.Core.Path.{◌≡◌, refl, sym, ap, ◌∙◌}
use mathlib.Core.Bool.{Bool, true, false}
use mathlib.Core.List.{List}
use mathlib.Core.Logic.{◌⊎◌, inl, inr, ◌↔◌}
use native.Mathlib.Omega.{arith}
use borrow.Fn.World.{ArgsD, ResD}
use borrow.Fn.Kinds.{ended_of}
use contract.Lifetimes.{Lfts}
use denote.Triple.Clauses.{AtExit}
use lib.IntN.{ℤ, pos}
use lib.ListN.{length, get_or}
use Rattle.network.specs.Archive.{SameOffsets}
use Rattle.network.specs.Lists.{pick}
use Rattle.network.specs.Network.{Net, is_served, max_period}
use Rattle.network.specs.Reading.{Reading, read_file, accepted}
use Rattle.network.specs.Refusals.{Refuses, Unfit, Demand1}
use Rattle.network.specs.Valid.{IsBytes, Valid}
use Rattle.network.specs.Rating.{IsRating, rating}
use Rattle.network.proofs.Laws.Gaps.{accepted_valid, rating_is_rating}
use Rattle.network.proofs.Laws.Lists.{zero_ne_one}
use Rattle.search.specs.Caps.{cap}
use Rattle.search.specs.Walk.{State, at_first, try_made, stop}
use Rattle.search.specs.Search.{finished, search_answer, demanded_bound, walked}
use Rattle.search.specs.Wanted.{at_least, WantedOutcome, found, none, stopped, refusal, tries_of, wanted_answer, reached_of, wanted_outcome, wanted_row_after}
use Rattle.search.proofs.Demands.{WalkedStarts, searches, demand_3}
use Rattle.search.proofs.Laws.MoreTries.{walked_with_more, walked_was_due}
use Rattle.search.proofs.Laws.OnNetwork.{tries_bound_products, walked_length, walked_first, walked_below, walked_rating, walked_stopped, walked_finishes, walked_without_budget}
use Rattle.search.proofs.Laws.Reaches.{reached_by_best, reached_by_none, reached_at_once, above_cap, above_period}
use Rattle.search.proofs.Laws.Reached.{reached_of_found, reached_of_none, reached_of_stopped, fit_reached, fit_reached_row}
use Rattle.search.proofs.Laws.Reached.{ReachedTells, told_of_found, told_of_none, told_of_stopped, reached_tries_le, reached_tries_le_budget}
use Rattle.search.proofs.Laws.Reached.{wanted_refuses, wanted_refuses_only, row_as_found}
use Rattle.search.specs.contracts.entry.search as search
use Rattle.search.proofs.entry.search.Kinds as search_kinds
use Rattle.search.proofs.entry.search.Reads as search_contract
use Rattle.search.specs.contracts.wanted.wanted as wanting
use Rattle.search.proofs.wanted.wanted.Kinds as wanted_kinds
use Rattle.search.proofs.wanted.wanted.Reads as wanted_contract
-- ---- What each answer of the call tells

pub use Rattle.search.proofs.Laws.Reached.{wanted_answer_found, wanted_answer_none, wanted_answer_stopped, wanted_answer_refused}
-- ---- What it answers and leaves on two networks with the same periods and offsets

pub use Rattle.search.proofs.Laws.Reached.{wanted_outcome_same, wanted_row_after_same}

-- ---- What is asked, of an accepted network, the start row, the wanted gap and the budget as lent, the answer, and the row afterwards

-- What a walk by this rule answers at its end, with the walk's own tries and no definition between: found exactly where it has a timetable, none
-- exactly where it has none and hasn't stopped, stopped exactly where it has none and has
pub record ReachesByCase (w : State) (answer : WantedOutcome) : Type 0 where
  pub found_exactly : (tries : ℕ) → (answer ≡ found tries) ↔ ((w.best.some ≡ true) × (w.tries ≡ tries))
  pub none_exactly : (tries : ℕ) → (answer ≡ none tries) ↔ ((w.best.some ≡ false) × (w.stopped ≡ false) × (w.tries ≡ tries))
  pub stopped_exactly : (tries : ℕ) → (answer ≡ stopped tries) ↔ ((w.best.some ≡ false) × (w.stopped ≡ true) × (w.tries ≡ tries))

-- With a start row of one place for each line, answer and row are those of the usual walk with another cut: a try is dropped if its upper least
-- gap is below the wanted one, and the first full timetable ends it (`at_least` of specs/Wanted.antt)
pub record WalksTo (n : Net) (row : List ℤ) (wanted budget : ℕ) (answer : WantedOutcome) (exit : List ℤ) : Type 0 where
  pub answers_the_walk : answer ≡ reached_of (walked n (at_least wanted) budget)
  pub case_by_case : ReachesByCase (walked n (at_least wanted) budget) answer
  -- the timetable's starts are written; without one the row is untouched
  pub writes_the_first : exit ≡ pick (walked n (at_least wanted) budget).best.some (walked n (at_least wanted) budget).starts row

pub record WantedGap (n : Net) (row : List ℤ) (wanted budget : ℕ) (answer : WantedOutcome) (exit : List ℤ) : Type 0 where
  -- "return a timetable with at least that gap": the row has one start for each line, and their rating's least gap is at least the wanted one
  pub found_reaches : {tries : ℕ} → answer ≡ found tries
      → (length exit ≡ length n.periods) × ((least : ℕ) × (sum : ℕ) × IsRating n exit least sum × (wanted ≤ least))
  -- .. such starts as the walk tries
  pub found_starts : {tries : ℕ} → answer ≡ found tries → WalkedStarts n exit
  -- "None is answered only if no whole-number starts reach the gap": every choice of one for each line has a rating, with a smaller least gap
  pub choice_has_a_rating : (starts : List ℤ) → length starts ≡ length n.periods → (least : ℕ) × (sum : ℕ) × IsRating n starts least sum
  pub none_reaches : {tries : ℕ} → answer ≡ none tries → (starts : List ℤ) → length starts ≡ length n.periods → {least sum : ℕ}
      → IsRating n starts least sum → least < wanted
  -- "None and stopped leave the row untouched"
  pub none_leaves : {tries : ℕ} → answer ≡ none tries → exit ≡ row
  pub stopped_leaves : {tries : ℕ} → answer ≡ stopped tries → exit ≡ row
  -- The tries are at most demand 3's bound and the budget; it stops only where they are the budget and a further try is due, which under every
  -- larger budget is made; and under a budget of at least the bound it doesn't
  pub tries_at_most : tries_of answer ≤ demanded_bound n
  pub tries_within : tries_of answer ≤ budget
  pub stopped_at_budget : {tries : ℕ} → answer ≡ stopped tries → tries ≡ budget
  pub stopped_was_due : {tries : ℕ} → answer ≡ stopped tries → (more : ℕ) → budget < more → budget < (walked n (at_least wanted) more).tries
  pub decides : demanded_bound n ≤ budget → {tries : ℕ} → answer ≡ stopped tries → ⊥
  -- "A wanted gap of 0 yields a timetable whenever the budget is at least the number of lines", and as many tries
  pub zero_is_found : length row ≡ length n.periods → wanted ≡ 0 → length n.periods ≤ budget → answer ≡ found (length n.periods)
  -- Nothing may be tried: stopped, whatever is wanted
  pub no_budget : length row ≡ length n.periods → budget ≡ 0 → answer ≡ stopped 0
  -- More is wanted than the cap of some served stop, or than any period: none after one try
  pub above_a_cap : length row ≡ length n.periods → 0 < budget → (stop : ℕ) → is_served stop n.calls ≡ true → cap n stop < wanted
      → answer ≡ none 1
  pub above_every_period : length row ≡ length n.periods → 0 < budget → max_period < wanted → answer ≡ none 1

-- ---- A call by its definition

-- What the contract in src/wanted.rt says
pub record Wants (file : List ℕ) (row : List ℤ) (wanted budget : ℕ) (answer : WantedOutcome) (exit : List ℤ) : Type 0 where
  pub bytes : IsBytes file
  pub answered : answer ≡ wanted_outcome (read_file file) (length row) wanted budget
  pub left : exit ≡ wanted_row_after (read_file file) wanted budget row

module _ {file : List ℕ} {row : List ℤ} {wanted budget : ℕ} {answer : WantedOutcome} {exit : List ℤ} (call : Wants file row wanted budget answer exit) where
  pub demand_1 : Demand1 (λ number place. answer ≡ refusal number place) (Refuses file 16 (Unfit row)) (exit ≡ row)
  demand_1 =
      record {
        faulty_is_refused = λ number place f. call.answered ∙ wanted_refuses file row wanted budget f;
        no_other_is_refused = λ number place e. wanted_refuses_only file row wanted budget (sym call.answered ∙ e);
        rows_as_found = λ number place e. call.left ∙ row_as_found file row wanted budget (sym call.answered ∙ e);
      }

  module _ {n : Net} (reads : read_file file ≡ accepted n) where
    abbrev the-walk : State
    the-walk = walked n (at_least wanted) budget

    valid : Valid n
    valid = accepted_valid file n call.bytes reads

    answer_is : {o : WantedOutcome} → answer ≡ o → wanted_outcome (accepted n) (length row) wanted budget ≡ o
    answer_is e = sym (ap (λ (k : Reading). wanted_outcome k (length row) wanted budget) reads) ∙ sym call.answered ∙ e

    answers_walk : length row ≡ length n.periods → answer ≡ reached_of the-walk
    answers_walk fits =
        call.answered ∙ ap (λ (k : Reading). wanted_outcome k (length row) wanted budget) reads ∙ fit_reached n row wanted budget fits

    pub reaches_by_case : length row ≡ length n.periods → ReachesByCase the-walk answer
    reaches_by_case fits =
        record {
          found_exactly = λ tries. (
            λ e. let t = told_of_found n (length row) wanted budget (answer_is e) in (t.some, t.its_tries),
            λ (some, t). answers_walk fits ∙ reached_of_found the-walk some ∙ ap found t,
          );
          none_exactly = λ tries. (
            λ e. let (t, ends) = told_of_none n (length row) wanted budget (answer_is e) in (t.some, ends, t.its_tries),
            λ (some, ends, t). answers_walk fits ∙ reached_of_none the-walk some ends ∙ ap none t,
          );
          stopped_exactly = λ tries. (
            λ e. let (t, ends) = told_of_stopped n (length row) wanted budget (answer_is e) in (t.some, ends, t.its_tries),
            λ (some, ends, t). answers_walk fits ∙ reached_of_stopped the-walk some ends ∙ ap stopped t,
          );
        }

    pub walks_to : length row ≡ length n.periods → WalksTo n row wanted budget answer exit
    walks_to fits =
        record {
          answers_the_walk = answers_walk fits;
          case_by_case = reaches_by_case fits;
          writes_the_first = call.left ∙ ap (λ (k : Reading). wanted_row_after k wanted budget row) reads ∙ fit_reached_row n row wanted budget fits;
        }

    -- What the row holds, by whether the walk has a timetable
    row_is : {tries : ℕ} {has : Bool} → ReachedTells n (length row) wanted budget tries has → exit ≡ pick has the-walk.starts row
    row_is t = (walks_to t.fits).writes_the_first ∙ ap (λ (b : Bool). pick b the-walk.starts row) t.some

    module _ {tries : ℕ} (is : answer ≡ found tries) where
      told : ReachedTells n (length row) wanted budget tries true
      told = told_of_found n (length row) wanted budget (answer_is is)

      are_walked : WalkedStarts n exit
      are_walked =
          record {
            one_for_each_line = rw (row_is told) (walked_length valid (at_least wanted) budget told.some);
            first_at_0 = rw (row_is told) (walked_first valid (at_least wanted) budget told.some);
            below_period = λ i h.
                let (x, e, l) = walked_below valid (at_least wanted) budget told.some i h in
                (x, ap (λ (starts : List ℤ). get_or starts i (pos 0)) (row_is told) ∙ e, l, valid.period i h);
          }

      reaches : (least : ℕ) × (sum : ℕ) × IsRating n exit least sum × (wanted ≤ least)
      reaches = (
        the-walk.best.least,
        the-walk.best.sum,
        rw (row_is told) (walked_rating valid (at_least wanted) budget told.some),
        (reached_by_best valid wanted budget told.some).0,
      )

    -- Where a row that fits has its answer by what the walk is
    answered_by : length row ≡ length n.periods → {s : State} → the-walk ≡ s → answer ≡ reached_of s
    answered_by fits e = (walks_to fits).answers_the_walk ∙ ap reached_of e

    pub wanted_gap : WantedGap n row wanted budget answer exit
    unfolding stop try_made
    wanted_gap =
        record {
          found_reaches = λ e. ((are_walked e).one_for_each_line, reaches e);
          found_starts = λ e. are_walked e;
          choice_has_a_rating = λ starts f. ((rating n starts).least, (rating n starts).sum, rating_is_rating n valid starts);
          none_reaches = λ e starts f r.
              let (t, ends) = told_of_none n (length row) wanted budget (answer_is e) in
              reached_by_none valid wanted budget ends t.some starts f r;
          none_leaves = λ e. row_is (told_of_none n (length row) wanted budget (answer_is e)).0;
          stopped_leaves = λ e. row_is (told_of_stopped n (length row) wanted budget (answer_is e)).0;
          tries_at_most = rw (call.answered, reads, ← tries_bound_products n valid.some_line) (reached_tries_le n (length row) wanted budget);
          tries_within = rw (call.answered, reads) (reached_tries_le_budget n (length row) wanted budget);
          stopped_at_budget = λ e.
              let (t, ends) = told_of_stopped n (length row) wanted budget (answer_is e) in
              sym t.its_tries ∙ walked_stopped n (at_least wanted) budget ends;
          stopped_was_due = λ e more left.
              walked_was_due n (at_least wanted) budget more left (told_of_stopped n (length row) wanted budget (answer_is e)).1;
          decides = λ enough e.
              let (t, ends) = told_of_stopped n (length row) wanted budget (answer_is e) in
              zero_ne_one (cc (walked_finishes n (at_least wanted) budget (rw (tries_bound_products n valid.some_line) enough)));
          zero_is_found = λ fits zero enough.
              let (some, tries) = reached_at_once valid wanted budget zero enough in
              (walks_to fits).answers_the_walk ∙ reached_of_found the-walk some ∙ ap found tries;
          no_budget = λ fits zero.
              answered_by fits (walked_without_budget n valid.some_line (at_least wanted) budget zero) ∙ reached_of_stopped (stop at_first) refl refl;
          above_a_cap = λ fits some stop served above.
              answered_by fits (above_cap valid wanted budget some stop served above) ∙ reached_of_none (try_made at_first) refl refl;
          above_every_period = λ fits some above.
              answered_by fits (above_period valid wanted budget some above) ∙ reached_of_none (try_made at_first) refl refl;
        }

-- ---- Every call

-- It asks nothing of what is lent
pub wanted_asks_nothing : (κs : Lfts 2) (a : ArgsD wanting.signature κs) → wanted_contract.Pre κs a
wanted_asks_nothing κs a = tt

module _ (κs : Lfts 2) (a : ArgsD wanting.signature κs) (r : ResD wanting.signature κs)
    (s : AtExit (ended_of 2 wanted_kinds.ps wanted_kinds.r) κs) (kept : wanted_contract.Post κs a r s) where
  wants : Wants a.0.now a.1.0.now a.1.1.0 a.1.1.1.0 (wanted_answer r) s.1.0.now
  wants = record { bytes = kept.1.1; answered = kept.0; left = kept.1.0 }

  pub wanted_demand_1 : Demand1 (λ number place. wanted_answer r ≡ refusal number place) (Refuses a.0.now 16 (Unfit a.1.0.now))
      (s.1.0.now ≡ a.1.0.now)
  wanted_demand_1 = demand_1 wants

  module _ {n : Net} (reads : read_file a.0.now ≡ accepted n) where
    pub wanted_walks : length a.1.0.now ≡ length n.periods
        → WalksTo n a.1.0.now a.1.1.0 a.1.1.1.0 (wanted_answer r) s.1.0.now
    wanted_walks = walks_to wants reads

    pub wanted_means : WantedGap n a.1.0.now a.1.1.0 a.1.1.1.0 (wanted_answer r) s.1.0.now
    wanted_means = wanted_gap wants reads

-- ---- Beside a finished search of the same file, whatever either budget

-- A least gap that reaches what is above the best isn't the best's nor below it
pub reaches_above : {best least sum largest wanted : ℕ} → best < wanted → wanted ≤ least → (least < best) ⊎ ((least ≡ best) × (sum ≤ largest)) → ⊥
reaches_above high reach (inl h) = omega arith
reaches_above high reach (inr (e, h)) = omega (arith, e)

-- A wanted gap up to the best least gap is never answered none, a larger one never found
pub record BesideSearch (wanted least : ℕ) (answer : WantedOutcome) : Type 0 where
  pub up_to_the_best : wanted ≤ least → {tries : ℕ} → answer ≡ none tries → ⊥
  pub above_the_best : least < wanted → {tries : ℕ} → answer ≡ found tries → ⊥

module _ (κs : Lfts 2) (a : ArgsD wanting.signature κs) (r : ResD wanting.signature κs)
    (s : AtExit (ended_of 2 wanted_kinds.ps wanted_kinds.r) κs) (kept : wanted_contract.Post κs a r s) (κs' : Lfts 2) (a' : ArgsD search.signature κs')
    (r' : ResD search.signature κs') (s' : AtExit (ended_of 2 search_kinds.ps search_kinds.r) κs') (kept' : search_contract.Post κs' a' r' s') where
  pub wanted_beside_search : a.0.now ≡ a'.0.now → {n : Net} → read_file a.0.now ≡ accepted n → {least sum tries : ℕ}
      → search_answer r' ≡ finished least sum tries → BesideSearch a.1.1.0 least (wanted_answer r)
  wanted_beside_search file {n} reads {least} ends =
      let asked = wanted_gap (wants κs a r s kept) reads in
      let best = demand_3 (searches κs' a' r' s' kept') (ap read_file (sym file) ∙ reads) in
      record {
        up_to_the_best = λ low is.
            let (fits, rated) = best.finished_has_its_rating ends in
            omega (arith, low, asked.none_reaches is s'.1.0.now fits rated);
        above_the_best = λ high is.
            let (fits, (l, u, rated, reach)) = asked.found_reaches is in
            reaches_above high reach (best.finished_is_best ends s.1.0.now fits rated);
      }

-- ---- Two calls with the same wanted gap

-- Found and none stay so under every larger budget, with the same tries; and found has the same starts
pub record WithMoreTries (answer answer' : WantedOutcome) (exit exit' : List ℤ) : Type 0 where
  pub stays_found : {tries : ℕ} → answer ≡ found tries → (answer' ≡ found tries) × (exit' ≡ exit)
  pub stays_none : {tries : ℕ} → answer ≡ none tries → answer' ≡ none tries

module _ {file : List ℕ} {row row' : List ℤ} {wanted budget more : ℕ} {answer answer' : WantedOutcome} {exit exit' : List ℤ}
    (call : Wants file row wanted budget answer exit) (other : Wants file row' wanted more answer' exit') {n : Net} (reads : read_file file ≡ accepted n)
    (rows : length row ≡ length row') (larger : budget ≤ more) where
  module _ (fits : length row ≡ length n.periods) (ends : (walked n (at_least wanted) budget).stopped ≡ false) where
    walks_alike : walked n (at_least wanted) more ≡ walked n (at_least wanted) budget
    walks_alike = walked_with_more n (at_least wanted) budget more larger ends

    answers_alike : answer' ≡ answer
    answers_alike = answered_by other reads (sym rows ∙ fits) walks_alike ∙ sym (walks_to call reads fits).answers_the_walk

    leaves_alike : (walked n (at_least wanted) budget).best.some ≡ true → exit' ≡ exit
    leaves_alike some =
        (walks_to other reads (sym rows ∙ fits)).writes_the_first
        ∙ ap (λ (s : State). pick s.best.some s.starts row') walks_alike
        ∙ ap (λ (b : Bool). pick b (walked n (at_least wanted) budget).starts row') some
        ∙ ap (λ (b : Bool). pick b (walked n (at_least wanted) budget).starts row) (sym some)
        ∙ sym (walks_to call reads fits).writes_the_first

  pub with_more_tries : WithMoreTries answer answer' exit exit'
  with_more_tries =
      record {
        stays_found = λ e.
            let t = told_of_found n (length row) wanted budget (answer_is call reads e) in
            let ends = (reached_by_best (valid call reads) wanted budget t.some).1 in
            (answers_alike t.fits ends ∙ e, leaves_alike t.fits ends t.some);
        stays_none = λ e. let (t, ends) = told_of_none n (length row) wanted budget (answer_is call reads e) in answers_alike t.fits ends ∙ e;
      }

module _ (κs : Lfts 2) (a : ArgsD wanting.signature κs) (r : ResD wanting.signature κs)
    (s : AtExit (ended_of 2 wanted_kinds.ps wanted_kinds.r) κs) (kept : wanted_contract.Post κs a r s) (κs' : Lfts 2) (a' : ArgsD wanting.signature κs')
    (r' : ResD wanting.signature κs') (s' : AtExit (ended_of 2 wanted_kinds.ps wanted_kinds.r) κs') (kept' : wanted_contract.Post κs' a' r' s') where
  -- On one file, with rows of the same length
  pub wanted_with_more_tries : a.0.now ≡ a'.0.now → {n : Net} → read_file a.0.now ≡ accepted n
      → length a.1.0.now ≡ length a'.1.0.now → a.1.1.0 ≡ a'.1.1.0 → a.1.1.1.0 ≤ a'.1.1.1.0
      → WithMoreTries (wanted_answer r) (wanted_answer r') s.1.0.now s'.1.0.now
  wanted_with_more_tries file reads rows gaps larger =
      let other : Wants a.0.now a'.1.0.now a.1.1.0 a'.1.1.1.0 (wanted_answer r') s'.1.0.now
      = rw (file, gaps) (wants κs' a' r' s' kept') in
      with_more_tries (wants κs a r s kept) other reads rows larger

  -- Two files with the same periods and offsets, in either edition, a file and its archive form among them: the same answer with the same tries, and
  -- the same row
  pub same_network_wanted_alike : {m n : Net} → read_file a.0.now ≡ accepted m → read_file a'.0.now ≡ accepted n → SameOffsets m n
      → a.1.0.now ≡ a'.1.0.now → a.1.1.0 ≡ a'.1.1.0 → a.1.1.1.0 ≡ a'.1.1.1.0
      → (wanted_answer r ≡ wanted_answer r') × (s.1.0.now ≡ s'.1.0.now)
  same_network_wanted_alike {m} {n} reads reads' same rows gaps budgets =
      let v = accepted_valid a.0.now m kept.1.1 reads in
      let w = accepted_valid a'.0.now n kept'.1.1 reads' in (
        kept.0
            ∙ ap (λ (k : Reading). wanted_outcome k (length a.1.0.now) a.1.1.0 a.1.1.1.0) reads
            ∙ wanted_outcome_same v w same a.1.1.0 a.1.1.1.0 (length a.1.0.now)
            ∙ rw (rows, gaps, budgets, reads') refl
            ∙ sym kept'.0,
        kept.1.0
            ∙ ap (λ (k : Reading). wanted_row_after k a.1.1.0 a.1.1.1.0 a.1.0.now) reads
            ∙ wanted_row_after_same v w same a.1.1.0 a.1.1.1.0 a.1.0.now
            ∙ rw (rows, gaps, budgets, reads') refl
            ∙ sym kept'.1.0,
      )
