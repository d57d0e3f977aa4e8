-- Document 02, A.3, on the export of the call with a wanted gap, said of what a host sees: what its return value, its number and the start row mean,
-- and that they are those of the walk. Each theorem holds of every call that has returned, where it keeps the contract in src/exports.rt, which every
-- call does. Assumes nothing.
use Prim.Native.Nat.{ℕ, ◌<◌, ◌≤◌}
use mathlib.Core.Path.{◌≡◌, refl, sym, ap, ◌∙◌}
use mathlib.Core.Bool.{Bool, true, false}
use mathlib.Core.List.{List}
use mathlib.Core.Logic.{◌⊎◌, inl, inr, ◌↔◌}
use native.Mathlib.Omega.{arith}
use borrow.Fn.World.{ArgsD, ResD}
use borrow.Fn.Kinds.{ended_of}
use contract.Lifetimes.{Lfts}
use denote.Triple.Clauses.{AtExit}
use lib.IntN.{ℤ}
use lib.ListN.{length, get_or}
use Rattle.network.specs.Lists.{pick}
use Rattle.network.specs.Network.{Net, is_served, max_period}
use Rattle.network.specs.Reading.{accepted, read_file}
use Rattle.network.specs.Refusals.{Refuses, Unfit, Demand1}
use Rattle.network.specs.Rating.{IsRating}
use Rattle.network.proofs.Laws.Lists.{zero_ne_one}
use Rattle.search.specs.Caps.{cap}
use Rattle.search.specs.Walk.{State}
use Rattle.search.specs.Search.{walked}
use Rattle.search.specs.Wanted.{WantedOutcome, found, none, stopped, at_least, wanted_outcome}
use Rattle.search.specs.Wanted as wanted
use Rattle.search.proofs.Demands.{demanded_bound, WalkedStarts}
use Rattle.search.proofs.WantedGap.{Wants, ReachesByCase, WantedGap, WithMoreTries, demand_1, walks_to, wanted_gap, reaches_above, with_more_tries}
use Rattle.examination.specs.Exports.{TellsRefusal, wanted_status, wanted_row}
use Rattle.examination.proofs.Codes.{export_demand_1, wanted_status_tells, wanted_status_code}
use Rattle.examination.proofs.ExportDemands.{own_ground_range}
use Rattle.examination.proofs.ExportSearch.{HallSearch, fit_answers, search_export_demand_3}
use Rattle.examination.specs.contracts.exports.examination_search as searching
use Rattle.examination.proofs.exports.examination_search.Kinds as search_kinds
use Rattle.examination.proofs.exports.examination_search.Reads as search_contract
use Rattle.examination.specs.contracts.exports.examination_wanted as wanting
use Rattle.examination.proofs.exports.examination_wanted.Kinds as wanted_kinds
use Rattle.examination.proofs.exports.examination_wanted.Reads as wanted_contract

-- ---- It may be called: it asks nothing of what is lent

pub wanted_export_asks_nothing : (κs : Lfts 3) (a : ArgsD wanting.signature κs) → wanted_contract.Pre κs a
wanted_export_asks_nothing κs a = tt

-- ---- What a host sees of it on an accepted file, with a start row of one place for each line

pub record HallWanted (n : Net) (row : List ℤ) (gap budget returned : ℕ) (answer : List ℕ) (exit : List ℤ) : Type 0 where
  -- found, none or stopped
  pub returns : (returned ≡ 0) ⊎ ((returned ≡ 1) ⊎ (returned ≡ 2))
  -- found: the row has one start for each line, as the walk tries them, and their rating's least gap is at least the wanted one
  pub found_reaches : returned ≡ 0 → WalkedStarts n exit × ((least : ℕ) × (sum : ℕ) × IsRating n exit least sum × (gap ≤ least))
  -- none: no whole-number starts reach it; every choice of them has a rating
  pub choice_has_a_rating : (starts : List ℤ) → length starts ≡ length n.periods → (least : ℕ) × (sum : ℕ) × IsRating n starts least sum
  pub none_reaches : returned ≡ 1 → (starts : List ℤ) → length starts ≡ length n.periods → {least sum : ℕ} → IsRating n starts least sum → least < gap
  -- none and stopped leave the row
  pub others_leave : (returned ≡ 1) ⊎ (returned ≡ 2) → exit ≡ row
  -- the tries are at most demand 3's bound and the budget; stopped, they are the budget; and under a budget of at least the bound it doesn't stop
  pub tries_at_most : (get_or answer 0 0 ≤ demanded_bound n) × (get_or answer 0 0 ≤ budget)
  pub stopped_at_budget : returned ≡ 2 → get_or answer 0 0 ≡ budget
  pub decides : demanded_bound n ≤ budget → returned ≡ 2 → ⊥
  -- .. and a further try was due, which is made under every larger budget
  pub stopped_was_due : returned ≡ 2 → (more : ℕ) → budget < more → budget < (walked n (at_least gap) more).tries
  -- nothing may be tried: stopped, whatever is wanted
  pub no_budget : budget ≡ 0 → returned ≡ 2
  -- 0 is wanted: found, with a try for each line, where the budget has as many
  pub zero_is_found : gap ≡ 0 → length n.periods ≤ budget → (returned ≡ 0) × (get_or answer 0 0 ≡ length n.periods)
  -- more is wanted than the cap of some served stop, or than any period: none after one try, where there may be one
  pub above_a_cap : (stop : ℕ) → is_served stop n.calls ≡ true → cap n stop < gap → 0 < budget → (returned ≡ 1) × (get_or answer 0 0 ≡ 1)
  pub above_every_period : max_period < gap → 0 < budget → (returned ≡ 1) × (get_or answer 0 0 ≡ 1)

neither_of : (◌≡◌ {A = ℕ} 0 1) ⊎ (◌≡◌ {A = ℕ} 0 2) → ⊥
neither_of (inl e) = omega (arith, e)
neither_of (inr e) = omega (arith, e)

tries_of_found : {t k : ℕ} → found t ≡ found k → t ≡ k
tries_of_found e = cc

tries_of_none : {t k : ℕ} → none t ≡ none k → t ≡ k
tries_of_none e = cc

module _ {n : Net} {row : List ℤ} {gap budget : ℕ} {exit : List ℤ} (fit : length row ≡ length n.periods) where
  hall_wanted : (o : WantedOutcome) (before : List ℕ) → ((number place : ℕ) → o ≡ wanted.refusal number place → ⊥)
      → WantedGap n row gap budget o exit → HallWanted n row gap budget (wanted_status o) (wanted_row o before) exit
  unfolding wanted_status wanted_row
  hall_wanted (found t) before answers w =
      record {
        returns = inl refl;
        found_reaches = λ e. (w.found_starts refl, (w.found_reaches refl).1);
        choice_has_a_rating = w.choice_has_a_rating;
        none_reaches = λ e. absurd (omega (arith, e));
        others_leave = λ e. absurd (neither_of e);
        tries_at_most = (w.tries_at_most, w.tries_within);
        stopped_at_budget = λ e. absurd (omega (arith, e));
        decides = λ h e. omega (arith, e);
        stopped_was_due = λ e. absurd (omega (arith, e));
        no_budget = λ z. absurd (zero_ne_one (cc (w.no_budget fit z)));
        zero_is_found = λ z h. (refl, tries_of_found (w.zero_is_found fit z h));
        above_a_cap = λ stop served h b. absurd (zero_ne_one (cc (w.above_a_cap fit b stop served h)));
        above_every_period = λ h b. absurd (zero_ne_one (cc (w.above_every_period fit b h)));
      }
  hall_wanted (none t) before answers w =
      record {
        returns = inr (inl refl);
        found_reaches = λ e. absurd (omega (arith, e));
        choice_has_a_rating = w.choice_has_a_rating;
        none_reaches = λ e. w.none_reaches refl;
        others_leave = λ e. w.none_leaves refl;
        tries_at_most = (w.tries_at_most, w.tries_within);
        stopped_at_budget = λ e. absurd (omega (arith, e));
        decides = λ h e. omega (arith, e);
        stopped_was_due = λ e. absurd (omega (arith, e));
        no_budget = λ z. absurd (zero_ne_one (cc (w.no_budget fit z)));
        zero_is_found = λ z h. absurd (zero_ne_one (cc (w.zero_is_found fit z h)));
        above_a_cap = λ stop served h b. (refl, tries_of_none (w.above_a_cap fit b stop served h));
        above_every_period = λ h b. (refl, tries_of_none (w.above_every_period fit b h));
      }
  hall_wanted (stopped t) before answers w =
      record {
        returns = inr (inr refl);
        found_reaches = λ e. absurd (omega (arith, e));
        choice_has_a_rating = w.choice_has_a_rating;
        none_reaches = λ e. absurd (omega (arith, e));
        others_leave = λ e. w.stopped_leaves refl;
        tries_at_most = (w.tries_at_most, w.tries_within);
        stopped_at_budget = λ e. w.stopped_at_budget refl;
        decides = λ h e. w.decides h refl;
        stopped_was_due = λ e. w.stopped_was_due refl;
        no_budget = λ z. refl;
        zero_is_found = λ z h. absurd (zero_ne_one (cc (w.zero_is_found fit z h)));
        above_a_cap = λ stop served h b. absurd (zero_ne_one (cc (w.above_a_cap fit b stop served h)));
        above_every_period = λ h b. absurd (zero_ne_one (cc (w.above_every_period fit b h)));
      }
  hall_wanted (wanted.refusal number place) before answers w = absurd (answers number place refl)

-- ---- .. of the walk by its rule, `w`

pub record HallReach (w : State) (row : List ℤ) (returned : ℕ) (answer : List ℕ) (exit : List ℤ) : Type 0 where
  -- it returns 0 exactly where the walk has a timetable; without one 1 exactly where the walk comes to its end, 2 exactly where it stops
  pub found_exactly : (returned ≡ 0) ↔ (w.best.some ≡ true)
  pub none_exactly : (returned ≡ 1) ↔ ((w.best.some ≡ false) × (w.stopped ≡ false))
  pub stopped_exactly : (returned ≡ 2) ↔ ((w.best.some ≡ false) × (w.stopped ≡ true))
  -- one number, the walk's tries
  pub one_number : length answer ≡ 1
  pub its_tries : get_or answer 0 0 ≡ w.tries
  -- the timetable's starts are written; where there is none the row is as it was lent
  pub writes_the_first : exit ≡ pick w.best.some w.starts row

module _ {w : State} {o : WantedOutcome} {row exit : List ℤ} (before : List ℕ) (cases : ReachesByCase w o)
    (left : exit ≡ pick w.best.some w.starts row) where
  hall_reach : (a b : Bool) → w.best.some ≡ a → w.stopped ≡ b → HallReach w row (wanted_status o) (wanted_row o before) exit
  unfolding wanted_status wanted_row
  hall_reach true b some ends =
      rw ((cases.found_exactly w.tries).1 (some, refl))
      record {
        found_exactly = (λ e. some, λ e. refl);
        none_exactly = (λ e. absurd (omega (arith, e)), λ e. absurd (zero_ne_one (cc e.0)));
        stopped_exactly = (λ e. absurd (omega (arith, e)), λ e. absurd (zero_ne_one (cc e.0)));
        one_number = refl;
        its_tries = refl;
        writes_the_first = left;
      }
  hall_reach false false without ends =
      rw ((cases.none_exactly w.tries).1 (without, ends, refl))
      record {
        found_exactly = (λ e. absurd (omega (arith, e)), λ e. absurd (zero_ne_one (cc)));
        none_exactly = (λ e. (without, ends), λ e. refl);
        stopped_exactly = (λ e. absurd (omega (arith, e)), λ e. absurd (zero_ne_one (cc e.1)));
        one_number = refl;
        its_tries = refl;
        writes_the_first = left;
      }
  hall_reach false true without stops =
      rw ((cases.stopped_exactly w.tries).1 (without, stops, refl))
      record {
        found_exactly = (λ e. absurd (omega (arith, e)), λ e. absurd (zero_ne_one (cc)));
        none_exactly = (λ e. absurd (omega (arith, e)), λ e. absurd (zero_ne_one (cc e.1)));
        stopped_exactly = (λ e. (without, stops), λ e. refl);
        one_number = refl;
        its_tries = refl;
        writes_the_first = left;
      }

wanted_row_as_found : {o : WantedOutcome} {number place : ℕ} (row : List ℕ) → o ≡ wanted.refusal number place → wanted_row o row ≡ row
unfolding wanted_row
wanted_row_as_found row e = rw e refl

-- ---- Every call

module _ (κs : Lfts 3) (a : ArgsD wanting.signature κs) (r : ResD wanting.signature κs)
    (s : AtExit (ended_of 3 wanted_kinds.ps wanted_kinds.r) κs) (kept : wanted_contract.Post κs a r s) where
  abbrev due : WantedOutcome
  due = wanted_outcome (read_file a.0.now) (length a.1.0.now) a.1.1.0 a.1.1.1.0

  wants : Wants a.0.now a.1.0.now a.1.1.0 a.1.1.1.0 due s.1.0.now
  wants = record { bytes = kept.1.1.1; answered = refl; left = kept.1.1.0 }

  pub wanted_export_demand_1 : Demand1 (TellsRefusal r) (Refuses a.0.now 16 (Unfit a.1.0.now))
      ((s.1.0.now ≡ a.1.0.now) × (s.1.1.1.1.0.now ≡ a.1.1.1.1.0.now))
  wanted_export_demand_1 =
      export_demand_1
      (record {
        faulty_is_refused = (demand_1 wants).faulty_is_refused;
        no_other_is_refused = (demand_1 wants).no_other_is_refused;
        rows_as_found = λ number place e. ((demand_1 wants).rows_as_found number place e, kept.1.0 ∙ wanted_row_as_found a.1.1.1.1.0.now e);
      })
      (own_ground_range (omega arith) (omega arith)) (wanted_status_code kept.0) (wanted_status_tells _ kept.0)

  pub wanted_export_means : {n : Net} → read_file a.0.now ≡ accepted n → length a.1.0.now ≡ length n.periods
      → HallWanted n a.1.0.now a.1.1.0 a.1.1.1.0 r s.1.1.1.1.0.now s.1.0.now
  wanted_export_means {n} reads fit =
      rw (kept.0, kept.1.0)
      (hall_wanted fit due a.1.1.1.1.0.now
      (λ number place e. fit_answers a.1.0.now reads fit ((demand_1 wants).no_other_is_refused number place e)) (wanted_gap wants reads))

  -- Return value, tries and row are those of the walk: the row has its first full timetable
  pub wanted_export_walks : {n : Net} → read_file a.0.now ≡ accepted n → length a.1.0.now ≡ length n.periods
      → HallReach (walked n (at_least a.1.1.0) a.1.1.1.0) a.1.0.now r s.1.1.1.1.0.now s.1.0.now
  wanted_export_walks reads fit =
      let w = walks_to wants reads fit in
      rw (kept.0, kept.1.0) (hall_reach a.1.1.1.1.0.now w.case_by_case w.writes_the_first _ _ refl refl)

-- ---- Beside a finished search of the same file, whatever either budget

module _ (κs : Lfts 3) (a : ArgsD wanting.signature κs) (r : ResD wanting.signature κs)
    (s : AtExit (ended_of 3 wanted_kinds.ps wanted_kinds.r) κs) (kept : wanted_contract.Post κs a r s) (κs' : Lfts 3) (a' : ArgsD searching.signature κs')
    (r' : ResD searching.signature κs') (s' : AtExit (ended_of 3 search_kinds.ps search_kinds.r) κs') (kept' : search_contract.Post κs' a' r' s') where
  -- A wanted gap up to the best least gap isn't answered none, a larger one not found
  pub wanted_export_beside_search : a.0.now ≡ a'.0.now → {n : Net} → read_file a.0.now ≡ accepted n
      → length a.1.0.now ≡ length n.periods → length a'.1.0.now ≡ length n.periods → r' ≡ 0
      → (a.1.1.0 ≤ get_or s'.1.1.1.0.now 0 0 → r ≡ 1 → ⊥) × (get_or s'.1.1.1.0.now 0 0 < a.1.1.0 → r ≡ 0 → ⊥)
  wanted_export_beside_search file {n} reads fit fit' ends =
      let asked : HallWanted n a.1.0.now a.1.1.0 a.1.1.1.0 r s.1.1.1.1.0.now s.1.0.now
      = wanted_export_means κs a r s kept reads fit in
      let best : HallSearch n a'.1.0.now a'.1.1.0 r' s'.1.1.1.0.now s'.1.0.now
      = search_export_demand_3 κs' a' r' s' kept' (ap read_file (sym file) ∙ reads) fit' in (
        λ low is. let (fits, rated) = best.finished_has_its_rating ends in omega (arith, low, asked.none_reaches is s'.1.0.now fits rated),
        λ high is.
            let (starts, (l, u, rated, reach)) = asked.found_reaches is in
            reaches_above high reach (best.finished_is_best ends s.1.0.now starts.one_for_each_line rated),
      )

-- ---- Found and none stay so under every larger budget

-- By the return value and the tries
stays : {o q : WantedOutcome} (before before' : List ℕ) → ((number place : ℕ) → o ≡ wanted.refusal number place → ⊥) → {exit exit' : List ℤ}
    → WithMoreTries o q exit exit'
    → (wanted_status o ≡ 0 → (wanted_status q ≡ 0) × (wanted_row q before' ≡ wanted_row o before) × (exit' ≡ exit))
    × (wanted_status o ≡ 1 → (wanted_status q ≡ 1) × (wanted_row q before' ≡ wanted_row o before))
unfolding wanted_status wanted_row
stays {o = found t} {q} before before' answers w =
    (λ e. let (f, g) = w.stays_found refl in (ap wanted_status f, ap (λ (k : WantedOutcome). wanted_row k before') f, g), λ e. absurd (omega (arith, e)))
stays {o = none t} {q} before before' answers w =
    (λ e. absurd (omega (arith, e)), λ e. let f = w.stays_none refl in (ap wanted_status f, ap (λ (k : WantedOutcome). wanted_row k before') f))
stays {o = stopped t} {q} before before' answers w = (λ e. absurd (omega (arith, e)), λ e. absurd (omega (arith, e)))
stays {o = wanted.refusal number place} {q} before before' answers w = absurd (answers number place refl)

module _ (κs : Lfts 3) (a : ArgsD wanting.signature κs) (r : ResD wanting.signature κs)
    (s : AtExit (ended_of 3 wanted_kinds.ps wanted_kinds.r) κs) (kept : wanted_contract.Post κs a r s) (κs' : Lfts 3) (a' : ArgsD wanting.signature κs')
    (r' : ResD wanting.signature κs') (s' : AtExit (ended_of 3 wanted_kinds.ps wanted_kinds.r) κs') (kept' : wanted_contract.Post κs' a' r' s') where
  -- On one file with the same wanted gap and rows of one place for each line: with the same tries, and found with the same starts
  pub wanted_export_with_more_tries : a.0.now ≡ a'.0.now → {n : Net} → read_file a.0.now ≡ accepted n
      → length a.1.0.now ≡ length n.periods → length a.1.0.now ≡ length a'.1.0.now → a.1.1.0 ≡ a'.1.1.0
      → a.1.1.1.0 ≤ a'.1.1.1.0
      → (r ≡ 0 → (r' ≡ 0) × (s'.1.1.1.1.0.now ≡ s.1.1.1.1.0.now) × (s'.1.0.now ≡ s.1.0.now))
      × (r ≡ 1 → (r' ≡ 1) × (s'.1.1.1.1.0.now ≡ s.1.1.1.1.0.now))
  wanted_export_with_more_tries file {n} reads fit rows gaps larger =
      let other : Wants a.0.now a'.1.0.now a.1.1.0 a'.1.1.1.0 (due κs' a' r' s' kept') s'.1.0.now
      = rw (file, gaps) (wants κs' a' r' s' kept') in
      rw (kept.0, kept.1.0, kept'.0, kept'.1.0)
      (stays a.1.1.1.1.0.now a'.1.1.1.1.0.now
      (λ number place e. fit_answers a.1.0.now reads fit ((demand_1 (wants κs a r s kept)).no_other_is_refused number place e))
      (with_more_tries (wants κs a r s kept) other reads rows larger))
