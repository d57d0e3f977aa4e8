-- What is promised of the gap of each stop, of every accepted file that is lent to a gaps call and all integer starts: the computed row has the gaps over all
-- trips, past and future, it is the only one, and the rating is the least of its gaps and their sum. It holds since each stop's computed gap is its gap:
-- Laws/GapRow.antt; the cases compute. And what the order demands of the gaps call. The theorems on calls are about every one that has returned, where it keeps
-- the contract in src/, which every call does. Assumes nothing.
use Prim.Native.Nat.{ℕ, ◌≤◌}
use mathlib.Core.Path.{◌≡◌, refl, sym, ap, ap₂, subst₂, ◌∙◌}
use mathlib.Core.Bool.{true}
use mathlib.Core.List.{List, [], ◌∷◌}
use borrow.Fn.World.{ArgsD, ResD}
use borrow.Fn.Kinds.{ended_of}
use contract.Lifetimes.{Lfts}
use denote.Triple.Clauses.{AtExit}
use lib.IntN.{ℤ, pos, negsuc}
use lib.ListN.{length, get_or, take}
use Rattle.network.specs.declared.Call.{Call}
use Rattle.network.specs.Lists.{any, keep, table, least_of, sum_of, pairs_of}
use Rattle.network.specs.Divisor.{gcd_within, gcd}
use Rattle.network.specs.Network.{Net, net_with, max_period, max_stop, is_served}
use Rattle.network.specs.Valid.{Valid}
use Rattle.network.specs.Archive.{SameOffsets}
use Rattle.network.specs.Gap.{residue, fold, gap_of}
use Rattle.network.specs.Rating.{IsRating, arrival_of, period_of, gap_of_calls, pair_gaps, gap_of_stop, calls_of_stop, stop_gap, rating}
use Rattle.network.specs.Rate.{rate_answer, rate_outcome}
use Rattle.network.specs.GapRow.{IsGapRow, gaps_in, gap_row, gap_row_after}
use Rattle.network.specs.Reading.{Outcome, values, refusal, read_file, accepted}
use Rattle.network.specs.Refusals.{Refuses, Unfit, Demand1}
use Rattle.network.proofs.Laws.GapRow as law
use Rattle.network.proofs.Laws.Rating.{rating_is_rating}
use Rattle.network.proofs.Laws.Refusals.{on_sheet_refuses, on_sheet_answers, sheet_refuses, sheet_refuses_only, sheet_answers}
use Rattle.network.proofs.Laws.Valid.{accepted_valid}
use Rattle.network.proofs.Demands.{RatedAs, rated_as, alike_of_bytes}
use Rattle.network.specs.contracts.gap_row.gaps as gaps
use Rattle.network.proofs.gap_row.gaps.Kinds as gaps_kinds
use Rattle.network.proofs.gap_row.gaps.Reads as gaps_contract
use Rattle.network.specs.contracts.rate.rate as rate
use Rattle.network.proofs.rate.rate.Kinds as rate_kinds
use Rattle.network.proofs.rate.rate.Reads as rate_contract

-- ---- The gap row, of every accepted file that is lent

module _ (κs : Lfts 3) (a : ArgsD gaps.signature κs) (r : ResD gaps.signature κs) (s : AtExit (ended_of 3 gaps_kinds.ps gaps_kinds.r) κs)
    (kept : gaps_contract.Post κs a r s) {n : Net} (reads : read_file a.0.now ≡ accepted n) where
  valid : Valid n
  valid = accepted_valid a.0.now n kept.1.1 reads

  -- The computed row has each served stop's gap over all trips, and 65,535 for the others
  pub gap_row_is_gap_row : (starts : List ℤ) → IsGapRow n starts (gap_row n starts)
  gap_row_is_gap_row = law.gap_row_is_gap_row valid

  -- No other row has
  pub gap_row_only : {starts : List ℤ} {row : List ℕ} → IsGapRow n starts row → row ≡ gap_row n starts
  gap_row_only = law.IsGapRow-unique valid

  -- The rating is the least of the row's gaps and their sum
  pub rating_of_gap_row : {starts : List ℤ} {row : List ℕ} → IsGapRow n starts row
      → IsRating n starts (least_of (gaps_in row)) (sum_of (λ (gap : ℕ). gap) (gaps_in row))
  rating_of_gap_row {starts} is =
      let (least_is, sum_is_lem) = law.rating_of_gap_row valid starts in
      rw (law.IsGapRow-unique valid is) (subst₂ (IsRating n starts) least_is sum_is_lem (rating_is_rating n valid starts))

-- ---- The gaps call

pub gaps_asks_nothing : (κs : Lfts 3) (a : ArgsD gaps.signature κs) → gaps_contract.Pre κs a
gaps_asks_nothing κs a = tt

-- The least of a row's gaps and their sum, as rate's two values
abbrev pub rated_by_row : List ℕ → Outcome
rated_by_row row = values (least_of (gaps_in row) ∷ sum_of (λ (gap : ℕ). gap) (gaps_in row) ∷ [])

-- What it answers and leaves in the row where no ground applies
pub record FillsGaps (n : Net) (sheet : List ℤ) (answer : Outcome) (after : List ℕ) : Type 0 where
  -- the row has each served stop's gap over all trips, 65,535 for the others, and no other row has
  pub is_gap_row : IsGapRow n sheet after
  pub only_row : (row : List ℕ) → IsGapRow n sheet row → after ≡ row
  -- the answer is the rating, and its least gap and sum are those of the row
  pub rated : RatedAs n sheet answer
  pub rated_by_row_is : answer ≡ rated_by_row after
  -- a gap is at most 1,440, so that 65,535 is none
  pub gap_range : (stop : ℕ) → stop ≤ max_stop → is_served stop n.calls ≡ true → get_or after stop 0 ≤ max_period

pub fills_gaps : {n : Net} → Valid n → (sheet : List ℤ) → FillsGaps n sheet (values ((rating n sheet).least ∷ (rating n sheet).sum ∷ [])) (gap_row n sheet)
fills_gaps {n} valid sheet =
    let is = law.gap_row_is_gap_row valid sheet in
    let (least_is, sum_is_lem) = law.rating_of_gap_row valid sheet in
    record {
      is_gap_row = is;
      only_row = λ row other. sym (law.IsGapRow-unique valid other);
      rated = rated_as valid sheet;
      rated_by_row_is = ap₂ (λ (least sum : ℕ). values (least ∷ sum ∷ [])) least_is sum_is_lem;
      gap_range = λ stop low served. law.gap_in_row valid is stop low served;
    }

module _ (κs : Lfts 3) (a : ArgsD gaps.signature κs) (r : ResD gaps.signature κs) (s : AtExit (ended_of 3 gaps_kinds.ps gaps_kinds.r) κs)
    (kept : gaps_contract.Post κs a r s) where
  abbrev file : List ℕ
  file = a.0.now

  abbrev sheet : List ℤ
  sheet = a.1.0.now

  abbrev row : List ℕ
  row = a.1.1.0.now

  abbrev after : List ℕ
  after = s.1.1.0.now

  -- It refuses as rate does, and then the row is as it was
  pub gaps_demand_1 : Demand1 (λ number place. rate_answer r ≡ refusal number place) (Refuses file 15 (Unfit sheet)) (after ≡ row)
  unfolding rate_outcome gap_row_after
  gaps_demand_1 =
      record {
        faulty_is_refused = λ number place f. kept.0 ∙ sheet_refuses rating file sheet f;
        no_other_is_refused = λ number place e. sheet_refuses_only rating file sheet (sym kept.0 ∙ e);
        rows_as_found = λ number place e.
            kept.1.0 ∙ on_sheet_refuses gap_row (λ (number place : ℕ). row) file sheet (sheet_refuses_only rating file sheet (sym kept.0 ∙ e));
      }

  -- Each stop's gap, on an accepted file and a sheet that fits
  pub gaps_fills : {n : Net} → read_file file ≡ accepted n → length sheet ≡ length n.periods → FillsGaps n sheet (rate_answer r) after
  unfolding rate_outcome gap_row_after
  gaps_fills {n} reads fits =
      rw (kept.0 ∙ sheet_answers rating file sheet reads fits, kept.1.0 ∙ on_sheet_answers gap_row (λ (number place : ℕ). row) file sheet reads fits)
      (fills_gaps (accepted_valid file n kept.1.1 reads) sheet)

  -- Beside the rate call, on the same file and sheet
  module _ (κs' : Lfts 2) (a' : ArgsD rate.signature κs') (r' : ResD rate.signature κs')
      (s' : AtExit (ended_of 2 rate_kinds.ps rate_kinds.r) κs') (kept' : rate_contract.Post κs' a' r' s')
      (files : file ≡ a'.0.now) (sheets : sheet ≡ a'.1.0.now) where
    -- both answer alike, whatever is lent
    pub gaps_answers_as_rate : rate_answer r ≡ rate_answer r'
    gaps_answers_as_rate =
        kept.0 ∙ ap₂ (λ (f : List ℕ) (starts : List ℤ). rate_outcome (read_file f) starts) files sheets ∙ sym kept'.0

    -- rate's least gap and sum are those of the row
    pub rate_of_gap_row : {n : Net} → read_file file ≡ accepted n → length sheet ≡ length n.periods → rate_answer r' ≡ rated_by_row after
    rate_of_gap_row reads fits = sym gaps_answers_as_rate ∙ (gaps_fills reads fits).rated_by_row_is

-- Two files with the same periods and offsets, in either edition, have one gap row: rows of the same content before have the same content afterwards
module _ (κs : Lfts 3) (a : ArgsD gaps.signature κs) (r : ResD gaps.signature κs) (s : AtExit (ended_of 3 gaps_kinds.ps gaps_kinds.r) κs)
    (kept : gaps_contract.Post κs a r s) (κs' : Lfts 3) (a' : ArgsD gaps.signature κs') (r' : ResD gaps.signature κs')
    (s' : AtExit (ended_of 3 gaps_kinds.ps gaps_kinds.r) κs') (kept' : gaps_contract.Post κs' a' r' s') where
  pub same_network_gaps_alike : {m n : Net} → read_file a.0.now ≡ accepted m → read_file a'.0.now ≡ accepted n → SameOffsets m n
      → a.1.0.now ≡ a'.1.0.now → a.1.1.0.now ≡ a'.1.1.0.now
      → (rate_answer r ≡ rate_answer r') × (s.1.1.0.now ≡ s'.1.1.0.now)
  same_network_gaps_alike reads reads' same sheets rows =
      let alike = alike_of_bytes a.0.now a'.0.now kept.1.1 kept'.1.1 reads reads' same in
      let there = read_file a'.0.now in (
        kept.0 ∙ alike.rate_alike a.1.0.now ∙ ap (rate_outcome there) sheets ∙ sym kept'.0,
        kept.1.0
            ∙ alike.gap_row_alike a.1.1.0.now a.1.0.now
            ∙ ap₂ (λ (row : List ℕ) (starts : List ℤ). gap_row_after row there starts) rows sheets
            ∙ sym kept'.1.0,
      )

-- ---- Gap rows of some networks, by the definitions: each side computes

-- A call of a line at a stop, so many minutes after its start
abbrev call_after : ℕ → ℕ → ℕ → Call
call_after line stop offset = record { line = line; stop = stop; offset = offset }

-- Lines every 15 and 20 minutes, which call at stop 0 after 8 and 17 minutes (document 01, P1)
abbrev two : Net
two = net_with 1 (15 ∷ 20 ∷ []) (call_after 0 0 8 ∷ call_after 1 0 17 ∷ [])

-- Lines of 60 minutes at stop 0, and one of 12 alone at stop 1 (P8)
abbrev alone : Net
alone = net_with 1 (60 ∷ 60 ∷ 12 ∷ []) (call_after 0 0 0 ∷ call_after 1 0 0 ∷ call_after 2 1 0 ∷ [])

-- One line every 10 minutes, which calls twice at stop 2
abbrev loop : Net
loop = net_with 1 (10 ∷ []) (call_after 0 2 3 ∷ call_after 0 2 7 ∷ [])

-- One row for each: P1 and P2; P8's best starts; a line's own pair, the stops below it being unserved
pub gap_rows : (take 2 (gap_row two (pos 0 ∷ pos 0 ∷ [])) ≡ 1 ∷ 65535 ∷ [])
    × (take 2 (gap_row two (pos 0 ∷ negsuc 16 ∷ [])) ≡ 2 ∷ 65535 ∷ [])
    × (take 3 (gap_row alone (pos 0 ∷ pos 30 ∷ pos 0 ∷ [])) ≡ 30 ∷ 12 ∷ 65535 ∷ [])
    × (take 4 (gap_row loop (pos 5 ∷ [])) ≡ 65535 ∷ 65535 ∷ 4 ∷ 65535 ∷ [])
unfolding gap_row table is_served any stop_gap gap_of_stop calls_of_stop keep pair_gaps pairs_of gap_of_calls gap_of arrival_of period_of fold residue gcd_within gcd least_of
gap_rows = (refl, refl, refl, refl)
