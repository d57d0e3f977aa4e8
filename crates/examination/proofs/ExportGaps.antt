-- The gap of each stop, on the export of the gaps call, said of what a host sees: what its return value, its two numbers and the gap row mean. Each theorem
-- holds of every call that has returned, where it keeps the contract in src/exports.rt, which every call does. Assumes nothing.
use Prim.Native.Nat.{ℕ, ◌*◌}
use mathlib.Core.Path.{◌≡◌, sym, ap, ap₂, ◌∙◌}
use mathlib.Core.List.{List, [], ◌∷◌}
use native.Mathlib.Omega.{arith}
use borrow.Fn.World.{ArgsD, ResD}
use borrow.Fn.Kinds.{ended_of}
use contract.Lifetimes.{Lfts}
use denote.Triple.Clauses.{AtExit}
use lib.ListN.{length}
use Rattle.network.specs.Network.{Net}
use Rattle.network.specs.Rating.{rating}
use Rattle.network.specs.Rate.{rated_on_sheet, rate_outcome}
use Rattle.network.specs.GapRow.{gap_row, gap_row_after}
use Rattle.network.specs.Reading.{refusal, values, accepted, read_file}
use Rattle.network.specs.Refusals.{Refuses, Demand1}
use Rattle.network.proofs.StopGaps.{FillsGaps, fills_gaps, rated_by_row}
use Rattle.network.proofs.Laws.Gaps.{accepted_valid}
use Rattle.network.proofs.Laws.Refusals.{on_sheet_answers, sheet_answers}
use Rattle.examination.specs.Bytes.{starts, IsSheet, by_bytes, BytesFit, BytesUnfit}
use Rattle.examination.specs.Exports.{TellsRefusal, status, row_after}
use Rattle.examination.proofs.Codes.{export_demand_1, status_tells, status_code}
use Rattle.examination.proofs.ExportDemands.{row_as_found, answered, own_ground_range, on_its_bytes}
use Rattle.examination.proofs.Laws.Bytes.{length_starts_fit}
use Rattle.examination.proofs.Laws.Refusals.{sheet_bytes_refuse, sheet_bytes_refuse_only, gap_row_bytes_as_found}
use Rattle.examination.proofs.SheetBytes.{bytes_are_a_sheet}
use Rattle.examination.specs.contracts.exports.examination_gaps as gaps
use Rattle.examination.proofs.exports.examination_gaps.Kinds as gaps_kinds
use Rattle.examination.proofs.exports.examination_gaps.Reads as gaps_contract
use Rattle.examination.specs.contracts.exports.examination_rate as rate
use Rattle.examination.proofs.exports.examination_rate.Kinds as rate_kinds
use Rattle.examination.proofs.exports.examination_rate.Reads as rate_contract

-- ---- It may be called: it asks nothing of what is lent

pub gaps_export_asks_nothing : (κs : Lfts 4) (a : ArgsD gaps.signature κs) → gaps_contract.Pre κs a
gaps_export_asks_nothing κs a = tt

module _ (κs : Lfts 4) (a : ArgsD gaps.signature κs) (r : ResD gaps.signature κs) (s : AtExit (ended_of 4 gaps_kinds.ps gaps_kinds.r) κs)
    (kept : gaps_contract.Post κs a r s) where
  abbrev file : List ℕ
  file = a.0.now

  abbrev bytes : List ℕ
  bytes = a.1.0.now

  abbrev row : List ℕ
  row = a.1.1.0.now

  abbrev row_at_exit : List ℕ
  row_at_exit = s.1.1.0.now

  abbrev answer : List ℕ
  answer = a.1.1.1.0.now

  abbrev answer_at_exit : List ℕ
  answer_at_exit = s.1.1.1.0.now

  -- Faulty input and no other is refused, as by the export of rate, and both rows are then as they were
  pub gaps_export_demand_1 : Demand1 (TellsRefusal r) (Refuses file 15 (BytesUnfit bytes)) ((row_at_exit ≡ row) × (answer_at_exit ≡ answer))
  unfolding rate_outcome
  gaps_export_demand_1 =
      let is_bytes = kept.1.1.1.0 in
      export_demand_1
      (record {
        faulty_is_refused = λ number place f. sheet_bytes_refuse file is_bytes bytes rating f;
        no_other_is_refused = λ number place e. sheet_bytes_refuse_only file is_bytes bytes rating e;
        rows_as_found = λ number place e. (
          kept.1.1.0 ∙ gap_row_bytes_as_found file is_bytes bytes row (sheet_bytes_refuse_only file is_bytes bytes rating e),
          kept.1.0 ∙ row_as_found answer e,
        );
      })
      (own_ground_range (omega arith) (omega arith)) (status_code kept.0) (status_tells _ kept.0)

  -- Whatever 4 bytes for each line are lent, they are a sheet's
  pub gaps_export_sheet : {lines : ℕ} → length bytes ≡ 4 * lines → IsSheet lines bytes
  gaps_export_sheet = bytes_are_a_sheet kept.1.1.1.1

  told : {n : Net} → read_file file ≡ accepted n → BytesFit bytes n
      → by_bytes (rated_on_sheet rating) refusal (read_file file) bytes ≡ values ((rating n (starts bytes)).least ∷ (rating n (starts bytes)).sum ∷ [])
  told reads fit =
      on_its_bytes (rated_on_sheet rating) refusal (read_file file) reads bytes fit
      ∙ sheet_answers rating file (starts bytes) reads (length_starts_fit bytes fit)

  -- Each stop's gap under the sheet whose bytes are lent, and the rating that the gaps make
  pub gaps_export_fills : {n : Net} → read_file file ≡ accepted n → BytesFit bytes n → (r ≡ 0) × FillsGaps n (starts bytes) (values answer_at_exit) row_at_exit
  unfolding rate_outcome gap_row_after
  gaps_export_fills {n} reads fit =
      let q = answered answer kept.0 kept.1.0 (told reads fit) in
      let left = kept.1.1.0
      ∙ on_its_bytes (gap_row_after row) (λ (number place : ℕ). row) (read_file file) reads bytes fit
      ∙ on_sheet_answers gap_row (λ (number place : ℕ). row) file (starts bytes) reads (length_starts_fit bytes fit) in
      (q.0, rw (q.1 ∙ told reads fit, left) (fills_gaps (accepted_valid file n kept.1.1.1.0 reads) (starts bytes)))

  -- Beside the export of rate, on the same file and bytes
  module _ (κs' : Lfts 3) (a' : ArgsD rate.signature κs') (r' : ResD rate.signature κs')
      (s' : AtExit (ended_of 3 rate_kinds.ps rate_kinds.r) κs') (kept' : rate_contract.Post κs' a' r' s')
      (files : file ≡ a'.0.now) (sheets : bytes ≡ a'.1.0.now) where
    -- both return the same, whatever is lent, and leave the same in answer rows that were the same
    pub gaps_export_as_rate : answer ≡ a'.1.1.0.now → (r ≡ r') × (answer_at_exit ≡ s'.1.1.0.now)
    gaps_export_as_rate rows =
        let same = ap₂ (λ (f b : List ℕ). by_bytes rate_outcome refusal (read_file f) b) files sheets in
        (kept.0 ∙ ap status same ∙ sym kept'.0, kept.1.0 ∙ ap₂ row_after same rows ∙ sym kept'.1.0)

    -- rate's least gap and sum are those of the row
    pub rate_export_of_gap_row : {n : Net} → read_file file ≡ accepted n → BytesFit bytes n → values s'.1.1.0.now ≡ rated_by_row row_at_exit
    unfolding rate_outcome
    rate_export_of_gap_row reads fit =
        let same = ap₂ (λ (f b : List ℕ). by_bytes rate_outcome refusal (read_file f) b) files sheets in
        let mine = answered answer kept.0 kept.1.0 (told reads fit) in
        let other = answered a'.1.1.0.now kept'.0 kept'.1.0 (sym same ∙ told reads fit) in
        other.1 ∙ sym same ∙ sym mine.1 ∙ (gaps_export_fills reads fit).1.rated_by_row_is
