-- The order's demands on better-of-two and mark. Each theorem holds of every call that has returned: of what was lent, `a`, its answer, `r`, and
-- the rows at its exit, `s`, where they keep the contract in src/, which every call does. Assumes nothing.
use Prim.Native.Nat.{ℕ, ◌<◌, ◌≤◌}
use mathlib.Core.Path.{◌≡◌, refl, sym, ◌∙◌}
use mathlib.Core.List.{[]}
use mathlib.Core.Logic.{◌⊎◌, inl, inr}
use borrow.Fn.World.{ArgsD, ResD}
use borrow.Fn.Kinds.{ended_of}
use contract.Lifetimes.{Lfts}
use denote.Triple.Clauses.{AtExit}
use lib.ListN.{length}
use Rattle.network.specs.Network.{Net}
use Rattle.network.specs.Rating.{IsRating}
use Rattle.network.specs.Reading.{accepted, refused, read_file}
use Rattle.network.specs.Refusals.{Refuses, Unfit, Demand1}
use Rattle.network.proofs.Laws.Gaps.{accepted_valid}
use Rattle.search.specs.Search.{search_answer}
use Rattle.search.proofs.Demands.{SearchLent, SearchTold, SearchExit, SearchKept, Searches, searches}
use Rattle.examination.specs.Sheets.{Better, first, second, neither, better_of, mark_answer, refusal}
use Rattle.examination.proofs.Laws.Refusals.{mark_refuses, mark_refuses_only}
use Rattle.examination.proofs.BetterSheet.{Chosen, first_not_below, second_above, both_fit, only_first, only_second, no_fit, refused_neither}
use Rattle.examination.proofs.Mark.{MarkMeans, Marks, mark_means, MarkBesideSearch, beside_search}
use Rattle.examination.specs.contracts.better.better as better
use Rattle.examination.proofs.better.better.Kinds as better_kinds
use Rattle.examination.proofs.better.better.Reads as better_contract
use Rattle.examination.specs.contracts.marking.mark as mark
use Rattle.examination.proofs.marking.mark.Kinds as mark_kinds
use Rattle.examination.proofs.marking.mark.Reads as mark_contract
-- ---- What each answer of mark tells, and each choice between two sheets

pub use Rattle.examination.proofs.Laws.Answers.{mark_answer_decided, mark_answer_undecided, mark_answer_refused}
pub use Rattle.examination.proofs.Laws.Answers.{choice_of_first, choice_of_second, choice_of_neither}

-- ---- Every call may be made: none asks anything of what is lent

pub better_asks_nothing : (κs : Lfts 2) (a : ArgsD better.signature κs) → better_contract.Pre κs a
better_asks_nothing κs a = tt

pub mark_asks_nothing : (κs : Lfts 2) (a : ArgsD mark.signature κs) → mark_contract.Pre κs a
mark_asks_nothing κs a = tt

-- ---- Better-of-two: the part that is handed back

module _ (κs : Lfts 2) (a : ArgsD better.signature κs) (r : ResD better.signature κs) (s : AtExit (ended_of 2 better_kinds.ps better_kinds.r) κs)
    (kept : better_contract.Post κs a r s) where
  -- if the file is refused, the empty part at the first one's beginning
  pub better_file_refused : {number place : ℕ} → read_file a.0.now ≡ refused number place → (r.ref_ptr ≡ a.1.0.ref_ptr) × (r.now ≡ [])
  better_file_refused e = kept.1.1.0 (refused_neither e a.1.0.now a.1.1.0.now)

  module _ {n : Net} (reads : read_file a.0.now ≡ accepted n) where
    -- if neither fits, the same
    pub better_neither_fits : Unfit a.1.0.now n → Unfit a.1.1.0.now n → (r.ref_ptr ≡ a.1.0.ref_ptr) × (r.now ≡ [])
    better_neither_fits e f = kept.1.1.0 (no_fit reads a.1.0.now a.1.1.0.now e f)

    -- a sheet of the wrong length loses to one that fits: the part is that one's own row
    pub better_only_first_fits : length a.1.0.now ≡ length n.periods → Unfit a.1.1.0.now n → r ≡ a.1.0
    better_only_first_fits e f = kept.0 (only_first reads a.1.0.now a.1.1.0.now e f)

    pub better_only_second_fits : Unfit a.1.0.now n → length a.1.1.0.now ≡ length n.periods → r ≡ a.1.1.0
    better_only_second_fits e f = kept.1.0 (only_second reads a.1.0.now a.1.1.0.now e f)

    -- both fit: the better, the first if equal. The part handed back is not rated below the other
    pub better_both_fit : length a.1.0.now ≡ length n.periods → length a.1.1.0.now ≡ length n.periods
        → {least sum least' sum' : ℕ} → IsRating n a.1.0.now least sum → IsRating n a.1.1.0.now least' sum'
        → ((r ≡ a.1.0) × ((least' < least) ⊎ ((least' ≡ least) × (sum' ≤ sum))))
        ⊎ ((r ≡ a.1.1.0) × ((least < least') ⊎ ((least ≡ least') × (sum < sum'))))
    better_both_fit e f {least} {sum} {least'} {sum'} p q =
        go (better_of (read_file a.0.now) a.1.0.now a.1.1.0.now) refl
        (both_fit reads a.1.0.now a.1.1.0.now (accepted_valid a.0.now n kept.1.1.1 reads) p q e f)
      where
        go : (b : Better) → better_of (read_file a.0.now) a.1.0.now a.1.1.0.now ≡ b → Chosen least sum least' sum' b
            → ((r ≡ a.1.0) × ((least' < least) ⊎ ((least' ≡ least) × (sum' ≤ sum))))
            ⊎ ((r ≡ a.1.1.0) × ((least < least') ⊎ ((least ≡ least') × (sum < sum'))))
        go first is (first_not_below c) = inl (kept.0 is, c)
        go second is (second_above c) = inr (kept.1.0 is, c)
        go neither is x = elim x [ ]

-- ---- Mark

module _ (κs : Lfts 2) (a : ArgsD mark.signature κs) (r : ResD mark.signature κs) (s : AtExit (ended_of 2 mark_kinds.ps mark_kinds.r) κs)
    (kept : mark_contract.Post κs a r s) where
  -- It refuses as rate does
  pub mark_demand_1 : Demand1 (λ number place. mark_answer r ≡ refusal number place) (Refuses a.0.now 15 (Unfit a.1.0.now)) Unit
  mark_demand_1 =
      record {
        faulty_is_refused = λ number place f. kept.0 ∙ mark_refuses a.0.now a.1.0.now a.1.1.0 f;
        no_other_is_refused = λ number place e. mark_refuses_only a.0.now a.1.0.now a.1.1.0 kept.1 (sym kept.0 ∙ e);
        rows_as_found = λ number place e. tt;
      }

  -- What it means
  pub mark_means_what_it_says : {n : Net} → read_file a.0.now ≡ accepted n → MarkMeans n a.1.0.now a.1.1.0 (mark_answer r)
  mark_means_what_it_says = mark_means (record { bytes = kept.1; answered = kept.0 })

-- Beside a search of the same file with the same budget, the sheet and the start row having one place for each line: decided exactly where the
-- search finishes, with its rating and tries; undecided exactly where it stops, with its tries
module _ (κs : Lfts 2) (a : ArgsD mark.signature κs) (r : ResD mark.signature κs) (s : AtExit (ended_of 2 mark_kinds.ps mark_kinds.r) κs)
    (kept : mark_contract.Post κs a r s) (κs' : Lfts 2) (a' : SearchLent κs') (r' : SearchTold κs') (s' : SearchExit κs')
    (kept' : SearchKept κs' a' r' s') where
  pub mark_beside_search : a.0.now ≡ a'.0.now → a.1.1.0 ≡ a'.1.1.0 → {n : Net} → read_file a.0.now ≡ accepted n
      → length a.1.0.now ≡ length n.periods → length a'.1.0.now ≡ length n.periods
      → MarkBesideSearch (mark_answer r) (search_answer r')
  mark_beside_search file budget reads fit row_fits =
      let marks : Marks a.0.now a.1.0.now a.1.1.0 (mark_answer r) = record { bytes = kept.1; answered = kept.0 } in
      let found : Searches a.0.now a'.1.0.now a.1.1.0 (search_answer r') s'.1.0.now = rw (file, budget) (searches κs' a' r' s' kept') in
      beside_search marks found reads fit row_fits
