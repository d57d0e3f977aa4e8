-- Two files with the same periods and offsets, in either edition, a file and its archive form among them, have one answer by every export but the
-- archive's, said of what a host sees: with the rest lent alike, answer rows too, they return the same and leave the same in every row. It holds since the
-- calls behind them answer alike. Each theorem holds of every two calls that have returned, where they keep the contract in src/exports.rt, which every
-- call does. Assumes nothing.
use Prim.Native.Nat.{ℕ}
use mathlib.Core.Path.{◌≡◌, refl, sym, ap, ap₂, ◌∙◌}
use mathlib.Core.List.{List}
use borrow.Fn.World.{ArgsD, ResD}
use borrow.Fn.Kinds.{ended_of}
use contract.Lifetimes.{Lfts}
use denote.Triple.Clauses.{AtExit}
use lib.ListN.{length}
use Rattle.network.specs.Archive.{SameOffsets}
use Rattle.network.specs.Network.{Net}
use Rattle.network.specs.Reading.{Reading, accepted, read_file, read_outcome}
use Rattle.network.proofs.Demands.{alike_of_bytes}
use Rattle.examination.specs.Bytes.{mark_bytes, better_bytes}
use Rattle.examination.specs.Exports.{status, row_after, search_status, search_row, wanted_status, wanted_row, better_status, mark_status, mark_row}
use Rattle.examination.specs.Exports.{hundred_row}
use Rattle.examination.proofs.ExportBoard.{file, bytes, asked, time_row, line_row, answer_row, times_after, lines_after, answer_after}
use Rattle.examination.proofs.Laws.Alike.{examined_alike, one_answer}
use Rattle.examination.specs.contracts.exports.examination_read as reading
use Rattle.examination.proofs.exports.examination_read.Kinds as read_kinds
use Rattle.examination.proofs.exports.examination_read.Reads as read_contract
use Rattle.examination.specs.contracts.exports.examination_rate as rate
use Rattle.examination.proofs.exports.examination_rate.Kinds as rate_kinds
use Rattle.examination.proofs.exports.examination_rate.Reads as rate_contract
use Rattle.examination.specs.contracts.exports.examination_weighted as weighted
use Rattle.examination.proofs.exports.examination_weighted.Kinds as weighted_kinds
use Rattle.examination.proofs.exports.examination_weighted.Reads as weighted_contract
use Rattle.examination.specs.contracts.exports.examination_gaps as gaps
use Rattle.examination.proofs.exports.examination_gaps.Kinds as gaps_kinds
use Rattle.examination.proofs.exports.examination_gaps.Reads as gaps_contract
use Rattle.examination.specs.contracts.exports.examination_classes as classes
use Rattle.examination.proofs.exports.examination_classes.Kinds as classes_kinds
use Rattle.examination.proofs.exports.examination_classes.Reads as classes_contract
use Rattle.examination.specs.contracts.exports.examination_board as boarding
use Rattle.examination.proofs.exports.examination_board.Kinds as board_kinds
use Rattle.examination.proofs.exports.examination_board.Reads as board_contract
use Rattle.examination.specs.contracts.exports.examination_search as searching
use Rattle.examination.proofs.exports.examination_search.Kinds as search_kinds
use Rattle.examination.proofs.exports.examination_search.Reads as search_contract
use Rattle.examination.specs.contracts.exports.examination_wanted as wanting
use Rattle.examination.proofs.exports.examination_wanted.Kinds as wanted_kinds
use Rattle.examination.proofs.exports.examination_wanted.Reads as wanted_contract
use Rattle.examination.specs.contracts.exports.examination_better as better
use Rattle.examination.proofs.exports.examination_better.Kinds as better_kinds
use Rattle.examination.proofs.exports.examination_better.Reads as better_contract
use Rattle.examination.specs.contracts.exports.examination_mark as mark
use Rattle.examination.proofs.exports.examination_mark.Kinds as mark_kinds
use Rattle.examination.proofs.exports.examination_mark.Reads as mark_contract
use Rattle.examination.specs.contracts.exports.examination_hundred as hundred
use Rattle.examination.proofs.exports.examination_hundred.Kinds as hundred_kinds
use Rattle.examination.proofs.exports.examination_hundred.Reads as hundred_contract
use Rattle.examination.specs.contracts.exports.examination_by_key as by_key
use Rattle.examination.proofs.exports.examination_by_key.Kinds as by_key_kinds
use Rattle.examination.proofs.exports.examination_by_key.Reads as by_key_contract

-- ---- Read: whatever the answer rows held

values_stand : {read : Reading} {n : Net} → read ≡ accepted n → (row row' : List ℕ) → row_after (read_outcome read) row ≡ row_after (read_outcome read) row'
unfolding read_outcome row_after
values_stand reads row row' = rw reads refl

module _ (κs : Lfts 2) (a : ArgsD reading.signature κs) (r : ResD reading.signature κs) (s : AtExit (ended_of 2 read_kinds.ps read_kinds.r) κs)
    (kept : read_contract.Post κs a r s) (κs' : Lfts 2) (a' : ArgsD reading.signature κs') (r' : ResD reading.signature κs')
    (s' : AtExit (ended_of 2 read_kinds.ps read_kinds.r) κs') (kept' : read_contract.Post κs' a' r' s') where
  pub same_network_read_export_alike : {m n : Net} → read_file a.0.now ≡ accepted m → read_file a'.0.now ≡ accepted n → SameOffsets m n
      → (r ≡ r') × (s.1.0.now ≡ s'.1.0.now)
  same_network_read_export_alike reads reads' same =
      one_answer status row_after kept.0 kept.1.0 kept'.0 (kept'.1.0 ∙ values_stand reads' a'.1.0.now a.1.0.now)
      (alike_of_bytes a.0.now a'.0.now kept.1.1 kept'.1.1 reads reads' same).read_alike refl

-- ---- Rate, the weighted rating and the gaps call, on a sheet's bytes

module _ (κs : Lfts 3) (a : ArgsD rate.signature κs) (r : ResD rate.signature κs) (s : AtExit (ended_of 3 rate_kinds.ps rate_kinds.r) κs)
    (kept : rate_contract.Post κs a r s) (κs' : Lfts 3) (a' : ArgsD rate.signature κs') (r' : ResD rate.signature κs')
    (s' : AtExit (ended_of 3 rate_kinds.ps rate_kinds.r) κs') (kept' : rate_contract.Post κs' a' r' s') where
  pub same_network_rate_export_alike : {m n : Net} → read_file a.0.now ≡ accepted m → read_file a'.0.now ≡ accepted n → SameOffsets m n
      → a.1.0.now ≡ a'.1.0.now → a.1.1.0.now ≡ a'.1.1.0.now → (r ≡ r') × (s.1.1.0.now ≡ s'.1.1.0.now)
  same_network_rate_export_alike reads reads' same sheets rows =
      one_answer status row_after kept.0 kept.1.0 kept'.0 kept'.1.0
      ((examined_alike a.0.now a'.0.now kept.1.1.0 kept'.1.1.0 reads reads' same).rate_bytes_alike a.1.0.now ∙ (cc)) rows

module _ (κs : Lfts 3) (a : ArgsD weighted.signature κs) (r : ResD weighted.signature κs) (s : AtExit (ended_of 3 weighted_kinds.ps weighted_kinds.r) κs)
    (kept : weighted_contract.Post κs a r s) (κs' : Lfts 3) (a' : ArgsD weighted.signature κs') (r' : ResD weighted.signature κs')
    (s' : AtExit (ended_of 3 weighted_kinds.ps weighted_kinds.r) κs') (kept' : weighted_contract.Post κs' a' r' s') where
  pub same_network_weighted_export_alike : {m n : Net} → read_file a.0.now ≡ accepted m → read_file a'.0.now ≡ accepted n → SameOffsets m n
      → a.1.0.now ≡ a'.1.0.now → a.1.1.0.now ≡ a'.1.1.0.now → (r ≡ r') × (s.1.1.0.now ≡ s'.1.1.0.now)
  same_network_weighted_export_alike reads reads' same sheets rows =
      one_answer status row_after kept.0 kept.1.0 kept'.0 kept'.1.0
      ((examined_alike a.0.now a'.0.now kept.1.1.0 kept'.1.1.0 reads reads' same).weighted_bytes_alike a.1.0.now ∙ (cc)) rows

module _ (κs : Lfts 4) (a : ArgsD gaps.signature κs) (r : ResD gaps.signature κs) (s : AtExit (ended_of 4 gaps_kinds.ps gaps_kinds.r) κs)
    (kept : gaps_contract.Post κs a r s) (κs' : Lfts 4) (a' : ArgsD gaps.signature κs') (r' : ResD gaps.signature κs')
    (s' : AtExit (ended_of 4 gaps_kinds.ps gaps_kinds.r) κs') (kept' : gaps_contract.Post κs' a' r' s') where
  pub same_network_gaps_export_alike : {m n : Net} → read_file a.0.now ≡ accepted m → read_file a'.0.now ≡ accepted n → SameOffsets m n
      → a.1.0.now ≡ a'.1.0.now → a.1.1.0.now ≡ a'.1.1.0.now → a.1.1.1.0.now ≡ a'.1.1.1.0.now
      → ((r ≡ r') × (s.1.1.1.0.now ≡ s'.1.1.1.0.now)) × (s.1.1.0.now ≡ s'.1.1.0.now)
  same_network_gaps_export_alike reads reads' same sheets gap_rows rows =
      let alike = examined_alike a.0.now a'.0.now kept.1.1.1.0 kept'.1.1.1.0 reads reads' same in (
        one_answer status row_after kept.0 kept.1.0 kept'.0 kept'.1.0 (alike.rate_bytes_alike a.1.0.now ∙ (cc)) rows,
        kept.1.1.0 ∙ alike.gap_row_bytes_alike a.1.1.0.now a.1.0.now ∙ (cc) ∙ sym kept'.1.1.0,
      )

-- ---- The class call

module _ (κs : Lfts 4) (a : ArgsD classes.signature κs) (r : ResD classes.signature κs) (s : AtExit (ended_of 4 classes_kinds.ps classes_kinds.r) κs)
    (kept : classes_contract.Post κs a r s) (κs' : Lfts 4) (a' : ArgsD classes.signature κs') (r' : ResD classes.signature κs')
    (s' : AtExit (ended_of 4 classes_kinds.ps classes_kinds.r) κs') (kept' : classes_contract.Post κs' a' r' s') where
  pub same_network_classes_export_alike : {m n : Net} → read_file a.0.now ≡ accepted m → read_file a'.0.now ≡ accepted n → SameOffsets m n
      → a.1.0.now ≡ a'.1.0.now → a.1.1.0.now ≡ a'.1.1.0.now → a.1.1.1.0.now ≡ a'.1.1.1.0.now
      → ((r ≡ r') × (s.1.1.1.0.now ≡ s'.1.1.1.0.now)) × (s.1.0.now ≡ s'.1.0.now) × (s.1.1.0.now ≡ s'.1.1.0.now)
  same_network_classes_export_alike reads reads' same class_rows weight_rows rows =
      let alike = alike_of_bytes a.0.now a'.0.now kept.1.1.1.1 kept'.1.1.1.1 reads reads' same in (
        one_answer status row_after kept.0 kept.1.0 kept'.0 kept'.1.0
            (alike.classes_alike (length a.1.0.now) (length a.1.1.0.now) ∙ (cc)) rows,
        kept.1.1.0 ∙ alike.class_row_alike a.1.0.now a.1.1.0.now ∙ (cc) ∙ sym kept'.1.1.0,
        kept.1.1.1.0 ∙ alike.weight_row_alike a.1.0.now a.1.1.0.now ∙ (cc) ∙ sym kept'.1.1.1.0,
      )

-- ---- The board of a stop, on a sheet's bytes

module _ (κs : Lfts 5) (a : ArgsD boarding.signature κs) (r : ResD boarding.signature κs) (s : AtExit (ended_of 5 board_kinds.ps board_kinds.r) κs)
    (kept : board_contract.Post κs a r s) (κs' : Lfts 5) (a' : ArgsD boarding.signature κs') (r' : ResD boarding.signature κs')
    (s' : AtExit (ended_of 5 board_kinds.ps board_kinds.r) κs') (kept' : board_contract.Post κs' a' r' s') where
  pub same_network_board_export_alike : {m n : Net} → read_file (file κs a) ≡ accepted m → read_file (file κs' a') ≡ accepted n → SameOffsets m n
      → bytes κs a ≡ bytes κs' a' → asked κs a ≡ asked κs' a' → time_row κs a ≡ time_row κs' a' → line_row κs a ≡ line_row κs' a'
      → answer_row κs a ≡ answer_row κs' a'
      → ((r ≡ r') × (answer_after κs s ≡ answer_after κs' s')) × (times_after κs s ≡ times_after κs' s') × (lines_after κs s ≡ lines_after κs' s')
  same_network_board_export_alike reads reads' same sheets windows time_rows line_rows rows =
      let alike = examined_alike (file κs a) (file κs' a') kept.1.1.1.1.0 kept'.1.1.1.1.0 reads reads' same in
      let (answers, times_are, lines_are) = alike.board_bytes_alike (asked κs a) (time_row κs a) (line_row κs a) (bytes κs a) in (
        one_answer status row_after kept.0 kept.1.0 kept'.0 kept'.1.0 (answers ∙ (cc)) rows,
        kept.1.1.0 ∙ times_are ∙ (cc) ∙ sym kept'.1.1.0,
        kept.1.1.1.0 ∙ lines_are ∙ (cc) ∙ sym kept'.1.1.1.0,
      )

-- ---- The search, and with a wanted gap

module _ (κs : Lfts 3) (a : ArgsD searching.signature κs) (r : ResD searching.signature κs) (s : AtExit (ended_of 3 search_kinds.ps search_kinds.r) κs)
    (kept : search_contract.Post κs a r s) (κs' : Lfts 3) (a' : ArgsD searching.signature κs') (r' : ResD searching.signature κs')
    (s' : AtExit (ended_of 3 search_kinds.ps search_kinds.r) κs') (kept' : search_contract.Post κs' a' r' s') where
  pub same_network_search_export_alike : {m n : Net} → read_file a.0.now ≡ accepted m → read_file a'.0.now ≡ accepted n → SameOffsets m n
      → a.1.0.now ≡ a'.1.0.now → a.1.1.0 ≡ a'.1.1.0 → a.1.1.1.0.now ≡ a'.1.1.1.0.now
      → ((r ≡ r') × (s.1.1.1.0.now ≡ s'.1.1.1.0.now)) × (s.1.0.now ≡ s'.1.0.now)
  same_network_search_export_alike reads reads' same start_rows budgets rows =
      let alike = examined_alike a.0.now a'.0.now kept.1.1.1 kept'.1.1.1 reads reads' same in (
        one_answer search_status search_row kept.0 kept.1.0 kept'.0 kept'.1.0
            (alike.search_alike (length a.1.0.now) a.1.1.0 ∙ (cc)) rows,
        kept.1.1.0 ∙ alike.start_row_alike a.1.1.0 a.1.0.now ∙ (cc) ∙ sym kept'.1.1.0,
      )

module _ (κs : Lfts 3) (a : ArgsD wanting.signature κs) (r : ResD wanting.signature κs) (s : AtExit (ended_of 3 wanted_kinds.ps wanted_kinds.r) κs)
    (kept : wanted_contract.Post κs a r s) (κs' : Lfts 3) (a' : ArgsD wanting.signature κs') (r' : ResD wanting.signature κs')
    (s' : AtExit (ended_of 3 wanted_kinds.ps wanted_kinds.r) κs') (kept' : wanted_contract.Post κs' a' r' s') where
  pub same_network_wanted_export_alike : {m n : Net} → read_file a.0.now ≡ accepted m → read_file a'.0.now ≡ accepted n → SameOffsets m n
      → a.1.0.now ≡ a'.1.0.now → a.1.1.0 ≡ a'.1.1.0 → a.1.1.1.0 ≡ a'.1.1.1.0 → a.1.1.1.1.0.now ≡ a'.1.1.1.1.0.now
      → ((r ≡ r') × (s.1.1.1.1.0.now ≡ s'.1.1.1.1.0.now)) × (s.1.0.now ≡ s'.1.0.now)
  same_network_wanted_export_alike reads reads' same start_rows wanted budgets rows =
      let alike = examined_alike a.0.now a'.0.now kept.1.1.1 kept'.1.1.1 reads reads' same in (
        one_answer wanted_status wanted_row kept.0 kept.1.0 kept'.0 kept'.1.0
            (alike.wanted_alike (length a.1.0.now) a.1.1.0 a.1.1.1.0 ∙ (cc)) rows,
        kept.1.1.0 ∙ alike.wanted_row_alike a.1.1.0 a.1.1.1.0 a.1.0.now ∙ (cc) ∙ sym kept'.1.1.0,
      )

-- ---- Better-of-two, on two sheets' bytes

module _ (κs : Lfts 3) (a : ArgsD better.signature κs) (r : ResD better.signature κs) (s : AtExit (ended_of 3 better_kinds.ps better_kinds.r) κs)
    (kept : better_contract.Post κs a r s) (κs' : Lfts 3) (a' : ArgsD better.signature κs') (r' : ResD better.signature κs')
    (s' : AtExit (ended_of 3 better_kinds.ps better_kinds.r) κs') (kept' : better_contract.Post κs' a' r' s') where
  pub same_network_better_export_alike : {m n : Net} → read_file a.0.now ≡ accepted m → read_file a'.0.now ≡ accepted n → SameOffsets m n
      → a.1.0.now ≡ a'.1.0.now → a.1.1.0.now ≡ a'.1.1.0.now → r ≡ r'
  same_network_better_export_alike reads reads' same sheets sheets' =
      kept.0
      ∙ ap better_status
      ((examined_alike a.0.now a'.0.now kept.1.0 kept'.1.0 reads reads' same).better_bytes_alike a.1.0.now a.1.1.0.now
      ∙ ap₂ (better_bytes (read_file a'.0.now)) sheets sheets')
      ∙ sym kept'.0

-- ---- Mark, also out of a hundred, and by a key, on a sheet's bytes

module _ (κs : Lfts 3) (a : ArgsD mark.signature κs) (r : ResD mark.signature κs) (s : AtExit (ended_of 3 mark_kinds.ps mark_kinds.r) κs)
    (kept : mark_contract.Post κs a r s) (κs' : Lfts 3) (a' : ArgsD mark.signature κs') (r' : ResD mark.signature κs')
    (s' : AtExit (ended_of 3 mark_kinds.ps mark_kinds.r) κs') (kept' : mark_contract.Post κs' a' r' s') where
  pub same_network_mark_export_alike : {m n : Net} → read_file a.0.now ≡ accepted m → read_file a'.0.now ≡ accepted n → SameOffsets m n
      → a.1.0.now ≡ a'.1.0.now → a.1.1.0 ≡ a'.1.1.0 → a.1.1.1.0.now ≡ a'.1.1.1.0.now
      → (r ≡ r') × (s.1.1.1.0.now ≡ s'.1.1.1.0.now)
  same_network_mark_export_alike reads reads' same sheets budgets rows =
      one_answer mark_status mark_row kept.0 kept.1.0 kept'.0 kept'.1.0
      ((examined_alike a.0.now a'.0.now kept.1.1.0 kept'.1.1.0 reads reads' same).mark_bytes_alike a.1.1.0 a.1.0.now ∙ (cc)) rows

module _ (κs : Lfts 4) (a : ArgsD hundred.signature κs) (r : ResD hundred.signature κs) (s : AtExit (ended_of 4 hundred_kinds.ps hundred_kinds.r) κs)
    (kept : hundred_contract.Post κs a r s) (κs' : Lfts 4) (a' : ArgsD hundred.signature κs') (r' : ResD hundred.signature κs')
    (s' : AtExit (ended_of 4 hundred_kinds.ps hundred_kinds.r) κs') (kept' : hundred_contract.Post κs' a' r' s') where
  pub same_network_hundred_export_alike : {m n : Net} → read_file a.0.now ≡ accepted m → read_file a'.0.now ≡ accepted n → SameOffsets m n
      → a.1.0.now ≡ a'.1.0.now → a.1.1.0 ≡ a'.1.1.0 → a.1.1.1.0.now ≡ a'.1.1.1.0.now → a.1.1.1.1.0.now ≡ a'.1.1.1.1.0.now
      → ((r ≡ r') × (s.1.1.1.0.now ≡ s'.1.1.1.0.now)) × (s.1.1.1.1.0.now ≡ s'.1.1.1.1.0.now)
  same_network_hundred_export_alike reads reads' same sheets budgets rows pairs =
      let told = (examined_alike a.0.now a'.0.now kept.1.1.1.0 kept'.1.1.1.0 reads reads' same).mark_bytes_alike a.1.1.0 a.1.0.now
      ∙ ap₂ (λ (budget : ℕ) (sheet : List ℕ). mark_bytes budget (read_file a'.0.now) sheet) budgets sheets in (
        one_answer mark_status mark_row kept.0 kept.1.0 kept'.0 kept'.1.0 told rows,
        kept.1.1.0 ∙ ap₂ hundred_row told pairs ∙ sym kept'.1.1.0,
      )

module _ (κs : Lfts 4) (a : ArgsD by_key.signature κs) (r : ResD by_key.signature κs) (s : AtExit (ended_of 4 by_key_kinds.ps by_key_kinds.r) κs)
    (kept : by_key_contract.Post κs a r s) (κs' : Lfts 4) (a' : ArgsD by_key.signature κs') (r' : ResD by_key.signature κs')
    (s' : AtExit (ended_of 4 by_key_kinds.ps by_key_kinds.r) κs') (kept' : by_key_contract.Post κs' a' r' s') where
  pub same_network_by_key_export_alike : {m n : Net} → read_file a.0.now ≡ accepted m → read_file a'.0.now ≡ accepted n → SameOffsets m n
      → a.1.0.now ≡ a'.1.0.now → a.1.1.0.now ≡ a'.1.1.0.now → a.1.1.1.0.now ≡ a'.1.1.1.0.now
      → (r ≡ r') × (s.1.1.1.0.now ≡ s'.1.1.1.0.now)
  same_network_by_key_export_alike reads reads' same sheets keys pairs =
      one_answer status row_after kept.0 kept.1.0 kept'.0 kept'.1.0
      ((examined_alike a.0.now a'.0.now kept.1.1.0 kept'.1.1.0 reads reads' same).key_bytes_alike a.1.0.now a.1.1.0.now ∙ (cc)) pairs
