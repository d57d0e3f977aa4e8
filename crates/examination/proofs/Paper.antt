-- The papers' numbers as a host sees them: what each export returns and leaves in its rows on document 01's cases P1 to P9 and on what it refuses, from
-- bytes and by evaluation, since each side computes. Every number is written out, so that a definition and the code that meets it can't be changed
-- together at these numbers. And every call of an export returns and leaves what is evaluated here, where it keeps the contract in src/exports.rt, which
-- every call does. Assumes nothing.
use Prim.Native.Nat.{ℕ, zero, suc}
use mathlib.Core.Path.{◌≡◌, refl, sym, ap₂}
use mathlib.Core.List.{List, [], ◌∷◌, ◌++◌}
use borrow.Fn.World.{ArgsD, ResD}
use borrow.Fn.Kinds.{ended_of}
use contract.Lifetimes.{Lfts}
use denote.Triple.Clauses.{AtExit}
use lib.IntN.{ℤ, pos, negsuc}
use lib.ListN.{length, replicate}
use Rattle.network.specs.Lists.{any, keep, all_below, count_below, below, table, sum_of, least_of, least_from, pairs_of, joined}
use Rattle.network.specs.Divisor.{gcd, gcd_within, lcm, common_cycle, cycle_from}
use Rattle.network.specs.Network.{cycle, calls_at, how_often_at, calls_anywhere, is_served, served_stops, latest_offset, word, command, operand_bytes, line_operand}
use Rattle.network.specs.Network.{stop_operand, edition_operand, stated_offset, ride_offset, with_line, with_call, call_of, extend}
use Rattle.network.specs.Grounds.{first, cut_off, period_out_of_range, edition_unknown, some_line_silent, call_grounds, grounds}
use Rattle.network.specs.Reading.{Outcome, refusal, proceed, read_from, read_file, read_outcome}
use Rattle.network.specs.Gap.{residue, fold, gap_of}
use Rattle.network.specs.Rating.{arrival_of, period_of, gap_of_calls, pair_gaps, gap_of_stop, calls_of_stop, stop_gap, each_once, served_list, counted}
use Rattle.network.specs.Rating.{rating_by, rating_over, rating, is_above}
use Rattle.network.specs.Rate.{rating_values, on_sheet, rate_outcome}
use Rattle.network.specs.GapRow.{gap_row, gap_row_after}
use Rattle.network.specs.Tidy.{insert_by, sort_by, not_after, tidy}
use Rattle.network.specs.Archive.{word_bytes, edition_bytes, line_bytes, call_bytes, file_of, tidied, archive, archive_length, archive_outcome, archive_row_after}
use Rattle.network.specs.Classes.{ordered, remainder, same_line, same_remainder, is_alike, first_below, lowest_alike, is_lowest, class_row, weight_row}
use Rattle.network.specs.Classes.{class_count, lowest_stops}
use Rattle.network.specs.ClassCall.{rows_fit, class_outcome, class_row_after, weight_row_after, weighted_rating, weighted_outcome}
use Rattle.network.specs.Board.{window, arrives, board_calls, board_at, board_from, board, times, lines, board_grounds, refused_or, board_outcome}
use Rattle.network.specs.Board.{time_row_after, line_row_after}
use Rattle.network.specs.Loops.{own_gap}
use Rattle.search.specs.Caps.{half_of, pair_cap, pair_caps, even_spacing, cap_of_calls, cap, placed_calls, upper_value, upper_rating}
use Rattle.search.specs.Walk.{is_over, try_made, stop, becomes_best, unless, stop_if, one_try, each_start, walk}
use Rattle.search.specs.Search.{start_counts, not_above, above_best, walked, walk_outcome, outcome_of, on_start_row, row_after_walk, search_outcome, start_row_after}
use Rattle.search.specs.Wanted.{at_least, reached_by, reached_of, wanted_outcome, wanted_row_after}
use Rattle.examination.specs.Hundred.{mark_of, remainder_of}
use Rattle.examination.specs.ByKey.{beside_key}
use Rattle.examination.specs.Bytes.{signed, starts, bytes_fit, by_bytes, mark_bytes, better_bytes, key_bytes, gap_row_bytes, board_bytes, time_row_bytes}
use Rattle.examination.specs.Bytes.{line_row_bytes}
use Rattle.examination.specs.Sheets.{better_by, marked, mark_outcome}
use Rattle.examination.specs.Exports.{refusal_code, status, row_after, archive_status, search_status, search_row, wanted_status, wanted_row, better_status}
use Rattle.examination.specs.Exports.{mark_status, one_if, mark_row, hundred_row}
use Rattle.examination.specs.contracts.exports.examination_read as reading
use Rattle.examination.proofs.exports.examination_read.Kinds as read_kinds
use Rattle.examination.proofs.exports.examination_read.Reads as read_contract
use Rattle.examination.specs.contracts.exports.examination_rate as rate
use Rattle.examination.proofs.exports.examination_rate.Kinds as rate_kinds
use Rattle.examination.proofs.exports.examination_rate.Reads as rate_contract
use Rattle.examination.specs.contracts.exports.examination_weighted as weighted
use Rattle.examination.proofs.exports.examination_weighted.Kinds as weighted_kinds
use Rattle.examination.proofs.exports.examination_weighted.Reads as weighted_contract
use Rattle.examination.specs.contracts.exports.examination_gaps as gaps
use Rattle.examination.proofs.exports.examination_gaps.Kinds as gaps_kinds
use Rattle.examination.proofs.exports.examination_gaps.Reads as gaps_contract
use Rattle.examination.specs.contracts.exports.examination_classes as classes
use Rattle.examination.proofs.exports.examination_classes.Kinds as classes_kinds
use Rattle.examination.proofs.exports.examination_classes.Reads as classes_contract
use Rattle.examination.specs.contracts.exports.examination_archive as archiving
use Rattle.examination.proofs.exports.examination_archive.Kinds as archive_kinds
use Rattle.examination.proofs.exports.examination_archive.Reads as archive_contract
use Rattle.examination.specs.contracts.exports.examination_board as boarding
use Rattle.examination.proofs.exports.examination_board.Kinds as board_kinds
use Rattle.examination.proofs.exports.examination_board.Reads as board_contract
use Rattle.examination.specs.contracts.exports.examination_search as searching
use Rattle.examination.proofs.exports.examination_search.Kinds as search_kinds
use Rattle.examination.proofs.exports.examination_search.Reads as search_contract
use Rattle.examination.specs.contracts.exports.examination_wanted as wanting
use Rattle.examination.proofs.exports.examination_wanted.Kinds as wanted_kinds
use Rattle.examination.proofs.exports.examination_wanted.Reads as wanted_contract
use Rattle.examination.specs.contracts.exports.examination_better as better
use Rattle.examination.proofs.exports.examination_better.Kinds as better_kinds
use Rattle.examination.proofs.exports.examination_better.Reads as better_contract
use Rattle.examination.specs.contracts.exports.examination_mark as mark
use Rattle.examination.proofs.exports.examination_mark.Kinds as mark_kinds
use Rattle.examination.proofs.exports.examination_mark.Reads as mark_contract
use Rattle.examination.specs.contracts.exports.examination_hundred as hundred
use Rattle.examination.proofs.exports.examination_hundred.Kinds as hundred_kinds
use Rattle.examination.proofs.exports.examination_hundred.Reads as hundred_contract
use Rattle.examination.specs.contracts.exports.examination_by_key as by_key
use Rattle.examination.proofs.exports.examination_by_key.Kinds as by_key_kinds
use Rattle.examination.proofs.exports.examination_by_key.Reads as by_key_contract

-- ---- What an export returns and leaves in its rows, the answer row first, given what is lent in the order of its parameters

abbrev answers : Outcome → List ℕ → ℕ × List ℕ
answers told answer = (status told, row_after told answer)

abbrev pub of_read : List ℕ → List ℕ → ℕ × List ℕ
of_read file answer = answers (read_outcome (read_file file)) answer

abbrev pub of_rate : List ℕ → List ℕ → List ℕ → ℕ × List ℕ
of_rate file sheet answer = answers (by_bytes rate_outcome refusal (read_file file) sheet) answer

abbrev pub of_weighted : List ℕ → List ℕ → List ℕ → ℕ × List ℕ
of_weighted file sheet answer = answers (by_bytes weighted_outcome refusal (read_file file) sheet) answer

abbrev pub of_gaps : List ℕ → List ℕ → List ℕ → List ℕ → (ℕ × List ℕ) × List ℕ
of_gaps file sheet row answer = (of_rate file sheet answer, gap_row_bytes row (read_file file) sheet)

abbrev pub of_classes : List ℕ → List ℕ → List ℕ → List ℕ → (ℕ × List ℕ) × (List ℕ × List ℕ)
of_classes file classes weights answer = (
  answers (class_outcome (read_file file) (length classes) (length weights)) answer,
  (class_row_after (read_file file) classes weights, weight_row_after (read_file file) classes weights),
)

abbrev pub of_archive : List ℕ → List ℕ → ℕ × List ℕ
of_archive file row = (archive_status (archive_outcome (read_file file) (length row)), archive_row_after (read_file file) row)

abbrev pub of_board : List ℕ → List ℕ → ℕ → ℤ → ℕ → List ℤ → List ℕ → List ℕ → (ℕ × List ℕ) × (List ℤ × List ℕ)
of_board file sheet stop from minutes time_row line_row answer = (
  answers (board_bytes (window stop from minutes) (length time_row) (length line_row) (read_file file) sheet) answer,
  (
    time_row_bytes (window stop from minutes) time_row line_row (read_file file) sheet,
    line_row_bytes (window stop from minutes) time_row line_row (read_file file) sheet,
  ),
)

abbrev pub of_search : List ℕ → List ℤ → ℕ → List ℕ → (ℕ × List ℕ) × List ℤ
of_search file row budget answer = (
  (search_status (search_outcome (read_file file) (length row) budget), search_row (search_outcome (read_file file) (length row) budget) answer),
  start_row_after (read_file file) budget row,
)

abbrev pub of_wanted : List ℕ → List ℤ → ℕ → ℕ → List ℕ → (ℕ × List ℕ) × List ℤ
of_wanted file row gap budget answer = (
  (wanted_status (wanted_outcome (read_file file) (length row) gap budget), wanted_row (wanted_outcome (read_file file) (length row) gap budget) answer),
  wanted_row_after (read_file file) gap budget row,
)

abbrev pub of_better : List ℕ → List ℕ → List ℕ → ℕ
of_better file one other = better_status (better_bytes (read_file file) one other)

abbrev pub of_mark : List ℕ → List ℕ → ℕ → List ℕ → ℕ × List ℕ
of_mark file sheet budget answer = (mark_status (mark_bytes budget (read_file file) sheet), mark_row (mark_bytes budget (read_file file) sheet) answer)

abbrev pub of_hundred : List ℕ → List ℕ → ℕ → List ℕ → List ℕ → (ℕ × List ℕ) × List ℕ
of_hundred file sheet budget answer pair = (of_mark file sheet budget answer, hundred_row (mark_bytes budget (read_file file) sheet) pair)

abbrev pub of_key : List ℕ → List ℕ → List ℕ → List ℕ → ℕ × List ℕ
of_key file sheet key pair = answers (key_bytes (read_file file) sheet key) pair

-- ---- Every call of an export returns and leaves these, given what is lent to it

both : {A B : Type 0} {x x' : A} {y y' : B} → x ≡ x' → y ≡ y' → ◌≡◌ {A = A × B} (x, y) (x', y')
both {A} {B} e f = ap₂ {C = A × B} (λ (x : A) (y : B). (x, y)) e f

module _ (κs : Lfts 2) (a : ArgsD reading.signature κs) (r : ResD reading.signature κs)
    (s : AtExit (ended_of 2 read_kinds.ps read_kinds.r) κs) (kept : read_contract.Post κs a r s) where
  pub read_export_told : of_read a.0.now a.1.0.now ≡ (r, s.1.0.now)
  read_export_told = sym (both kept.0 kept.1.0)

module _ (κs : Lfts 3) (a : ArgsD rate.signature κs) (r : ResD rate.signature κs)
    (s : AtExit (ended_of 3 rate_kinds.ps rate_kinds.r) κs) (kept : rate_contract.Post κs a r s) where
  pub rate_export_told : of_rate a.0.now a.1.0.now a.1.1.0.now ≡ (r, s.1.1.0.now)
  rate_export_told = sym (both kept.0 kept.1.0)

module _ (κs : Lfts 3) (a : ArgsD weighted.signature κs) (r : ResD weighted.signature κs)
    (s : AtExit (ended_of 3 weighted_kinds.ps weighted_kinds.r) κs) (kept : weighted_contract.Post κs a r s) where
  pub weighted_export_told : of_weighted a.0.now a.1.0.now a.1.1.0.now ≡ (r, s.1.1.0.now)
  weighted_export_told = sym (both kept.0 kept.1.0)

module _ (κs : Lfts 4) (a : ArgsD gaps.signature κs) (r : ResD gaps.signature κs)
    (s : AtExit (ended_of 4 gaps_kinds.ps gaps_kinds.r) κs) (kept : gaps_contract.Post κs a r s) where
  pub gaps_export_told : of_gaps a.0.now a.1.0.now a.1.1.0.now a.1.1.1.0.now ≡ ((r, s.1.1.1.0.now), s.1.1.0.now)
  gaps_export_told = sym (both (both kept.0 kept.1.0) kept.1.1.0)

module _ (κs : Lfts 4) (a : ArgsD classes.signature κs) (r : ResD classes.signature κs)
    (s : AtExit (ended_of 4 classes_kinds.ps classes_kinds.r) κs) (kept : classes_contract.Post κs a r s) where
  pub classes_export_told : of_classes a.0.now a.1.0.now a.1.1.0.now a.1.1.1.0.now
      ≡ ((r, s.1.1.1.0.now), (s.1.0.now, s.1.1.0.now))
  classes_export_told = sym (both (both kept.0 kept.1.0) (both kept.1.1.0 kept.1.1.1.0))

module _ (κs : Lfts 2) (a : ArgsD archiving.signature κs) (r : ResD archiving.signature κs)
    (s : AtExit (ended_of 2 archive_kinds.ps archive_kinds.r) κs) (kept : archive_contract.Post κs a r s) where
  pub archive_export_told : of_archive a.0.now a.1.0.now ≡ (r, s.1.0.now)
  archive_export_told = sym (both kept.0 kept.1.0)

module _ (κs : Lfts 5) (a : ArgsD boarding.signature κs) (r : ResD boarding.signature κs)
    (s : AtExit (ended_of 5 board_kinds.ps board_kinds.r) κs) (kept : board_contract.Post κs a r s) where
  pub board_export_told : of_board a.0.now a.1.0.now a.1.1.0 a.1.1.1.0 a.1.1.1.1.0 a.1.1.1.1.1.0.now
      a.1.1.1.1.1.1.0.now a.1.1.1.1.1.1.1.0.now
      ≡ ((r, s.1.1.1.1.1.1.1.0.now), (s.1.1.1.1.1.0.now, s.1.1.1.1.1.1.0.now))
  board_export_told = sym (both (both kept.0 kept.1.0) (both kept.1.1.0 kept.1.1.1.0))

module _ (κs : Lfts 3) (a : ArgsD searching.signature κs) (r : ResD searching.signature κs)
    (s : AtExit (ended_of 3 search_kinds.ps search_kinds.r) κs) (kept : search_contract.Post κs a r s) where
  pub search_export_told : of_search a.0.now a.1.0.now a.1.1.0 a.1.1.1.0.now ≡ ((r, s.1.1.1.0.now), s.1.0.now)
  search_export_told = sym (both (both kept.0 kept.1.0) kept.1.1.0)

module _ (κs : Lfts 3) (a : ArgsD wanting.signature κs) (r : ResD wanting.signature κs)
    (s : AtExit (ended_of 3 wanted_kinds.ps wanted_kinds.r) κs) (kept : wanted_contract.Post κs a r s) where
  pub wanted_export_told : of_wanted a.0.now a.1.0.now a.1.1.0 a.1.1.1.0 a.1.1.1.1.0.now
      ≡ ((r, s.1.1.1.1.0.now), s.1.0.now)
  wanted_export_told = sym (both (both kept.0 kept.1.0) kept.1.1.0)

module _ (κs : Lfts 3) (a : ArgsD better.signature κs) (r : ResD better.signature κs)
    (s : AtExit (ended_of 3 better_kinds.ps better_kinds.r) κs) (kept : better_contract.Post κs a r s) where
  pub better_export_told : r ≡ of_better a.0.now a.1.0.now a.1.1.0.now
  better_export_told = kept.0

module _ (κs : Lfts 3) (a : ArgsD mark.signature κs) (r : ResD mark.signature κs)
    (s : AtExit (ended_of 3 mark_kinds.ps mark_kinds.r) κs) (kept : mark_contract.Post κs a r s) where
  pub mark_export_told : of_mark a.0.now a.1.0.now a.1.1.0 a.1.1.1.0.now ≡ (r, s.1.1.1.0.now)
  mark_export_told = sym (both kept.0 kept.1.0)

module _ (κs : Lfts 4) (a : ArgsD hundred.signature κs) (r : ResD hundred.signature κs)
    (s : AtExit (ended_of 4 hundred_kinds.ps hundred_kinds.r) κs) (kept : hundred_contract.Post κs a r s) where
  pub hundred_export_told : of_hundred a.0.now a.1.0.now a.1.1.0 a.1.1.1.0.now a.1.1.1.1.0.now
      ≡ ((r, s.1.1.1.0.now), s.1.1.1.1.0.now)
  hundred_export_told = sym (both (both kept.0 kept.1.0) kept.1.1.0)

module _ (κs : Lfts 4) (a : ArgsD by_key.signature κs) (r : ResD by_key.signature κs)
    (s : AtExit (ended_of 4 by_key_kinds.ps by_key_kinds.r) κs) (kept : by_key_contract.Post κs a r s) where
  pub by_key_export_told : of_key a.0.now a.1.0.now a.1.1.0.now a.1.1.1.0.now ≡ (r, s.1.1.1.0.now)
  by_key_export_told = sym (both kept.0 kept.1.0)

-- Opens every definition
opened : ℕ
unfolding any keep all_below count_below below table sum_of least_of least_from pairs_of joined gcd gcd_within lcm common_cycle cycle_from cycle calls_at how_often_at calls_anywhere is_served served_stops latest_offset word command operand_bytes line_operand stop_operand edition_operand stated_offset ride_offset with_line with_call call_of extend first cut_off period_out_of_range edition_unknown some_line_silent call_grounds grounds proceed read_from read_file read_outcome residue fold gap_of arrival_of period_of gap_of_calls pair_gaps gap_of_stop calls_of_stop stop_gap each_once served_list counted rating_by rating_over rating is_above rating_values on_sheet rate_outcome gap_row gap_row_after insert_by sort_by not_after tidy word_bytes edition_bytes line_bytes call_bytes file_of tidied archive archive_length archive_outcome archive_row_after ordered remainder same_line same_remainder is_alike first_below lowest_alike is_lowest class_row weight_row class_count lowest_stops rows_fit class_outcome class_row_after weight_row_after weighted_rating weighted_outcome arrives board_calls board_at board_from board times lines board_grounds refused_or board_outcome time_row_after line_row_after own_gap half_of pair_cap pair_caps even_spacing cap_of_calls cap placed_calls upper_value upper_rating is_over try_made stop becomes_best unless stop_if one_try each_start walk start_counts not_above above_best walked walk_outcome outcome_of on_start_row row_after_walk search_outcome start_row_after at_least reached_by reached_of wanted_outcome wanted_row_after mark_of remainder_of beside_key signed starts bytes_fit by_bytes better_bytes key_bytes better_by marked mark_outcome refusal_code status row_after archive_status search_status search_row wanted_status wanted_row better_status mark_status one_if mark_row hundred_row
opened = 0

-- ---- The files, and starts below 256 as four bytes each

abbrev pub p1 : List ℕ
p1 = 0x4C ∷ 0 ∷ 15 ∷ 0x4C ∷ 0 ∷ 20 ∷ 0x43 ∷ 0 ∷ 0 ∷ 0 ∷ 8 ∷ 0x43 ∷ 1 ∷ 0 ∷ 0 ∷ 17 ∷ 0x45 ∷ []

abbrev pub p7 : List ℕ
p7 = 0x4C ∷ 0 ∷ 10 ∷ 0x4C ∷ 0 ∷ 10 ∷ 0x4C ∷ 0 ∷ 10 ∷ 0x43 ∷ 0 ∷ 0 ∷ 0 ∷ 0 ∷ 0x43 ∷ 1 ∷ 0 ∷ 0 ∷ 0 ∷ 0x43 ∷ 2 ∷ 0 ∷ 0 ∷ 0 ∷ 0x45 ∷ []

abbrev pub p8 : List ℕ
p8 = 0x4C ∷ 0 ∷ 60 ∷ 0x4C ∷ 0 ∷ 60 ∷ 0x4C ∷ 0 ∷ 12 ∷ 0x43 ∷ 0 ∷ 0 ∷ 0 ∷ 0 ∷ 0x43 ∷ 1 ∷ 0 ∷ 0 ∷ 0 ∷ 0x43 ∷ 2 ∷ 1 ∷ 0 ∷ 0 ∷ 0x45 ∷ []

abbrev pub p9 : List ℕ
p9 = 0x4C ∷ 0 ∷ 20 ∷ 0x4C ∷ 0 ∷ 30 ∷ 0x43 ∷ 0 ∷ 0 ∷ 0 ∷ 0 ∷ 0x43 ∷ 1 ∷ 0 ∷ 0 ∷ 0 ∷ 0x43 ∷ 0 ∷ 1 ∷ 0 ∷ 7 ∷ 0x43 ∷ 1 ∷ 1 ∷ 0 ∷ 17 ∷ 0x43 ∷ 0 ∷ 2 ∷ 0 ∷ 5 ∷ 0x43 ∷ 1 ∷ 2 ∷ 0 ∷ 8 ∷ 0x45 ∷ []

-- Two lines of every minute at one stop: the best least gap is 0
abbrev pub every_minute : List ℕ
every_minute = 0x4C ∷ 0 ∷ 1 ∷ 0x4C ∷ 0 ∷ 1 ∷ 0x43 ∷ 0 ∷ 0 ∷ 0 ∷ 0 ∷ 0x43 ∷ 1 ∷ 0 ∷ 0 ∷ 0 ∷ 0x45 ∷ []

-- A line of period 0: 5 at 0
abbrev pub no_period : List ℕ
no_period = 0x4C ∷ 0 ∷ 0 ∷ []

abbrev at : ℕ → List ℕ → List ℕ
at start rest = 0 ∷ 0 ∷ 0 ∷ start ∷ rest

-- What is given for each number below `k`, one behind the other, the highest first; so many lines of one minute; four of them, each once at each stop
pub for_each : (ℕ → List ℕ) → ℕ → List ℕ
for_each f zero = []
for_each f (suc k) = f k ++ for_each f k

abbrev pub lines_of1 : ℕ → List ℕ
lines_of1 k = for_each (λ line. 0x4C ∷ 0 ∷ 1 ∷ []) k

abbrev pub four_lines : List ℕ
four_lines = lines_of1 4 ++ for_each (λ line. for_each (λ stop. 0x43 ∷ line ∷ stop ∷ 0 ∷ 0 ∷ []) 64) 4

-- ---- Read: 0 and lines, stops, calls and common cycle; a refusal is its number times 65,536 plus its place, and the row stays

pub read_numbers : (of_read p1 (9 ∷ 9 ∷ 9 ∷ 9 ∷ []) ≡ (0, 2 ∷ 1 ∷ 2 ∷ 60 ∷ []))
    × (of_read p7 (9 ∷ 9 ∷ 9 ∷ 9 ∷ []) ≡ (0, 3 ∷ 1 ∷ 3 ∷ 10 ∷ []))
    × (of_read p8 (9 ∷ 9 ∷ 9 ∷ 9 ∷ []) ≡ (0, 3 ∷ 2 ∷ 3 ∷ 60 ∷ []))
    × (of_read p9 (9 ∷ 9 ∷ 9 ∷ 9 ∷ []) ≡ (0, 2 ∷ 3 ∷ 6 ∷ 60 ∷ []))
    × (of_read (0x4C ∷ 0 ∷ 15 ∷ 0x43 ∷ 0 ∷ 0 ∷ 0 ∷ 8 ∷ 0x45 ∷ []) (9 ∷ 9 ∷ 9 ∷ 9 ∷ []) ≡ (0, 1 ∷ 1 ∷ 1 ∷ 15 ∷ []))
    × (of_read (0x4C ∷ 0 ∷ 15 ∷ 0x43 ∷ 0 ∷ 0 ∷ 0 ∷ 8 ∷ []) (9 ∷ 9 ∷ 9 ∷ 9 ∷ []) ≡ (65544, 9 ∷ 9 ∷ 9 ∷ 9 ∷ []))
    × (of_read (0x4C ∷ 0 ∷ 15 ∷ 0x43 ∷ 0 ∷ 0 ∷ 0 ∷ 8 ∷ 0x45 ∷ 0 ∷ []) (9 ∷ 9 ∷ 9 ∷ 9 ∷ []) ≡ (917513, 9 ∷ 9 ∷ 9 ∷ 9 ∷ []))
    × (of_read [] (9 ∷ 9 ∷ 9 ∷ 9 ∷ []) ≡ (65536, 9 ∷ 9 ∷ 9 ∷ 9 ∷ []))
    × (of_read no_period (9 ∷ 9 ∷ 9 ∷ 9 ∷ []) ≡ (327680, 9 ∷ 9 ∷ 9 ∷ 9 ∷ []))
unfolding opened
read_numbers = (refl, refl, refl, refl, refl, refl, refl, refl, refl)

-- The other grounds of a file as one number: 2, 3, 4, 6, 7, 8, 9, 10, 11, 12, 13, 19, 20 and 21; with 1, 5 and 14 above and 15 to 18, 22 and 23 below
-- every ground is here
pub refusal_numbers : (of_read (0 ∷ []) (replicate 4 9) ≡ (131072, replicate 4 9))
    × (of_read (0x4C ∷ 0 ∷ []) (replicate 4 9) ≡ (196608, replicate 4 9))
    × (of_read (lines_of1 17) (replicate 4 9) ≡ (262192, replicate 4 9))
    × (of_read (0x4C ∷ 5 ∷ 0xA0 ∷ 0x4C ∷ 0 ∷ 11 ∷ []) (replicate 4 9) ≡ (393219, replicate 4 9))
    × (of_read (0x43 ∷ 0 ∷ 0 ∷ 0 ∷ 0 ∷ []) (replicate 4 9) ≡ (458752, replicate 4 9))
    × (of_read (0x4C ∷ 0 ∷ 15 ∷ 0x43 ∷ 0 ∷ 64 ∷ 0 ∷ 0 ∷ []) (replicate 4 9) ≡ (524291, replicate 4 9))
    × (of_read (0x4C ∷ 0 ∷ 15 ∷ 0x43 ∷ 0 ∷ 0 ∷ 0 ∷ 0 ∷ 0x43 ∷ 0 ∷ 0 ∷ 0 ∷ 0 ∷ 0x43 ∷ 0 ∷ 0 ∷ 0 ∷ 0 ∷ []) (replicate 4 9) ≡ (589837, replicate 4 9))
    × (of_read (four_lines ++ (0x43 ∷ 0 ∷ 0 ∷ 0 ∷ 0 ∷ [])) (replicate 4 9) ≡ (656652, replicate 4 9))
    × (of_read (0x4C ∷ 0 ∷ 15 ∷ 0x46 ∷ 0 ∷ 0 ∷ 0 ∷ 0 ∷ []) (replicate 4 9) ≡ (720899, replicate 4 9))
    × (of_read (0x4C ∷ 0 ∷ 15 ∷ 0x43 ∷ 0 ∷ 0 ∷ 0xFF ∷ 0xFF ∷ 0x46 ∷ 0 ∷ 0 ∷ 0 ∷ 1 ∷ []) (replicate 4 9) ≡ (786440, replicate 4 9))
    × (of_read (0x45 ∷ []) (replicate 4 9) ≡ (851968, replicate 4 9))
    × (of_read (0x56 ∷ 2 ∷ 0x46 ∷ 9 ∷ 9 ∷ 0 ∷ 0 ∷ 0x45 ∷ []) (replicate 4 9) ≡ (1245186, replicate 4 9))
    × (of_read (0x4C ∷ 0 ∷ 15 ∷ 0x56 ∷ 2 ∷ []) (replicate 4 9) ≡ (1310723, replicate 4 9))
    × (of_read (0x56 ∷ 3 ∷ []) (replicate 4 9) ≡ (1376256, replicate 4 9))
unfolding opened for_each
refusal_numbers = (refl, refl, refl, refl, refl, refl, refl, refl, refl, refl, refl, refl, refl, refl)

-- ---- Rate: P1, also with a least gap of 0, and P2, whose -17 is FF FF FF EF; the best starts; 15 at 0 for 0, 4, 7, 9 and 12 bytes beside two lines

pub rate_numbers : (starts (0 ∷ 0 ∷ 0 ∷ 0 ∷ 0xFF ∷ 0xFF ∷ 0xFF ∷ 0xEF ∷ []) ≡ pos 0 ∷ negsuc 16 ∷ [])
    × (of_rate p1 (at 0 (at 0 [])) (9 ∷ 9 ∷ []) ≡ (0, 1 ∷ 1 ∷ []))
    × (of_rate p1 (at 0 (at 1 [])) (9 ∷ 9 ∷ []) ≡ (0, 0 ∷ 0 ∷ []))
    × (of_rate p1 (0 ∷ 0 ∷ 0 ∷ 0 ∷ 0xFF ∷ 0xFF ∷ 0xFF ∷ 0xEF ∷ []) (9 ∷ 9 ∷ []) ≡ (0, 2 ∷ 2 ∷ []))
    × (of_rate p7 (at 0 (at 3 (at 6 []))) (9 ∷ 9 ∷ []) ≡ (0, 3 ∷ 3 ∷ []))
    × (of_rate p8 (at 0 (at 30 (at 0 []))) (9 ∷ 9 ∷ []) ≡ (0, 12 ∷ 42 ∷ []))
    × (of_rate p9 (at 0 (at 4 [])) (9 ∷ 9 ∷ []) ≡ (0, 3 ∷ 11 ∷ []))
    × (of_rate p1 [] (9 ∷ 9 ∷ []) ≡ (983040, 9 ∷ 9 ∷ []))
    × (of_rate p1 (at 0 []) (9 ∷ 9 ∷ []) ≡ (983040, 9 ∷ 9 ∷ []))
    × (of_rate p1 (at 0 (0 ∷ 0 ∷ 0 ∷ [])) (9 ∷ 9 ∷ []) ≡ (983040, 9 ∷ 9 ∷ []))
    × (of_rate p1 (at 0 (at 0 (0 ∷ []))) (9 ∷ 9 ∷ []) ≡ (983040, 9 ∷ 9 ∷ []))
    × (of_rate p1 (at 0 (at 0 (at 0 []))) (9 ∷ 9 ∷ []) ≡ (983040, 9 ∷ 9 ∷ []))
unfolding opened
rate_numbers = (refl, refl, refl, refl, refl, refl, refl, refl, refl, refl, refl, refl)

-- The weighted rating: as rate
pub weighted_numbers : (of_weighted p1 (at 0 (at 0 [])) (9 ∷ 9 ∷ []) ≡ (0, 1 ∷ 1 ∷ []))
    × (of_weighted p8 (at 0 (at 30 (at 0 []))) (9 ∷ 9 ∷ []) ≡ (0, 12 ∷ 42 ∷ []))
    × (of_weighted p9 (at 0 (at 4 [])) (9 ∷ 9 ∷ []) ≡ (0, 3 ∷ 11 ∷ []))
    × (of_weighted p1 (at 0 (0 ∷ 0 ∷ 0 ∷ [])) (9 ∷ 9 ∷ []) ≡ (983040, 9 ∷ 9 ∷ []))
    × (of_weighted p1 (at 0 (at 0 (0 ∷ []))) (9 ∷ 9 ∷ []) ≡ (983040, 9 ∷ 9 ∷ []))
unfolding opened
weighted_numbers = (refl, refl, refl, refl, refl)

-- ---- The gap of each stop: 65,535 for those that aren't served

pub gaps_numbers : (of_gaps p1 (at 0 (at 0 [])) (replicate 64 9) (9 ∷ 9 ∷ []) ≡ ((0, 1 ∷ 1 ∷ []), 1 ∷ replicate 63 65535))
    × (of_gaps p9 (at 0 (at 4 [])) (replicate 64 9) (9 ∷ 9 ∷ []) ≡ ((0, 3 ∷ 11 ∷ []), 4 ∷ 4 ∷ 3 ∷ replicate 61 65535))
    × (of_gaps p1 (at 0 (at 0 (0 ∷ []))) (replicate 64 9) (9 ∷ 9 ∷ []) ≡ ((983040, 9 ∷ 9 ∷ []), replicate 64 9))
unfolding opened
gaps_numbers = (refl, refl, refl)

-- ---- The class call: P9's classes and weights, 255 and 0 for stops that aren't served; 17 at 0 beside a row that isn't 64 long

pub classes_numbers : (of_classes p9 (replicate 64 9) (replicate 64 9) (9 ∷ []) ≡ ((0, 2 ∷ []), (0 ∷ 0 ∷ 2 ∷ replicate 61 255, 2 ∷ 0 ∷ 1 ∷ replicate 61 0)))
    × (of_classes p9 (replicate 63 9) (replicate 64 9) (9 ∷ []) ≡ ((1114112, 9 ∷ []), (replicate 63 9, replicate 64 9)))
    × (of_classes p9 (replicate 64 9) (replicate 65 9) (9 ∷ []) ≡ ((1114112, 9 ∷ []), (replicate 64 9, replicate 65 9)))
unfolding opened
classes_numbers = (refl, refl, refl)

-- ---- The archive call: P1's 17 bytes, a byte behind them stays; 18 at 0 beside 16

pub archive_numbers : (of_archive p1 (replicate 17 9) ≡ (17, 0x4C ∷ 0 ∷ 15 ∷ 0x4C ∷ 0 ∷ 20 ∷ 0x43 ∷ 0 ∷ 0 ∷ 0 ∷ 8 ∷ 0x43 ∷ 1 ∷ 0 ∷ 0 ∷ 17 ∷ 0x45 ∷ []))
    × (of_archive p1 (replicate 18 9) ≡ (17, 0x4C ∷ 0 ∷ 15 ∷ 0x4C ∷ 0 ∷ 20 ∷ 0x43 ∷ 0 ∷ 0 ∷ 0 ∷ 8 ∷ 0x43 ∷ 1 ∷ 0 ∷ 0 ∷ 17 ∷ 0x45 ∷ 9 ∷ []))
    × (of_archive p1 (replicate 16 9) ≡ (1179648, replicate 16 9))
unfolding opened
archive_numbers = (refl, refl, refl)

-- ---- The board of a stop: an hour of P1's, in rows of the length and of one place more; 15, 8, 22 and 23 at 0, each before the next where both apply

pub board_numbers : (of_board p1 (at 0 (at 0 [])) 0 (pos 0) 60 (replicate 7 (pos 9)) (replicate 8 9) (9 ∷ [])
    ≡ ((0, 7 ∷ []), (pos 8 ∷ pos 17 ∷ pos 23 ∷ pos 37 ∷ pos 38 ∷ pos 53 ∷ pos 57 ∷ [], 0 ∷ 1 ∷ 0 ∷ 1 ∷ 0 ∷ 0 ∷ 1 ∷ 9 ∷ [])))
    × (of_board p1 (at 0 (at 0 [])) 63 (negsuc 0) 60 [] [] (9 ∷ []) ≡ ((0, 0 ∷ []), ([], [])))
    × (of_board p1 (at 0 []) 64 (pos 0) 10081 [] [] (9 ∷ []) ≡ ((983040, 9 ∷ []), ([], [])))
    × (of_board p1 (at 0 (at 0 [])) 64 (pos 0) 10081 [] [] (9 ∷ []) ≡ ((524288, 9 ∷ []), ([], [])))
    × (of_board p1 (at 0 (at 0 [])) 0 (pos 0) 10081 [] [] (9 ∷ []) ≡ ((1441792, 9 ∷ []), ([], [])))
    × (of_board p1 (at 0 (at 0 [])) 0 (pos 0) 60 (replicate 6 (pos 9)) (replicate 7 9) (9 ∷ []) ≡ ((1507328, 9 ∷ []), (replicate 6 (pos 9), replicate 7 9)))
    × (of_board p1 (at 0 (at 0 [])) 0 (pos 0) 60 (replicate 7 (pos 9)) (replicate 6 9) (9 ∷ []) ≡ ((1507328, 9 ∷ []), (replicate 7 (pos 9), replicate 6 9)))
unfolding opened
board_numbers = (refl, refl, refl, refl, refl, refl, refl)

-- ---- The search: P3 to P9, and the last budget under which each stops; 16 at 0 for rows of 1 and 3 places beside two lines

pub search_numbers : (of_search p1 (pos 77 ∷ pos 77 ∷ []) 21 (9 ∷ 9 ∷ 9 ∷ []) ≡ ((0, 2 ∷ 2 ∷ 21 ∷ []), pos 0 ∷ pos 3 ∷ []))
    × (of_search p1 (pos 77 ∷ pos 77 ∷ []) 20 (9 ∷ 9 ∷ 9 ∷ []) ≡ ((1, 2 ∷ 2 ∷ 20 ∷ []), pos 0 ∷ pos 3 ∷ []))
    × (of_search p1 (pos 77 ∷ pos 77 ∷ []) 2 (9 ∷ 9 ∷ 9 ∷ []) ≡ ((1, 1 ∷ 1 ∷ 2 ∷ []), pos 0 ∷ pos 0 ∷ []))
    × (of_search p1 (pos 77 ∷ pos 77 ∷ []) 1 (9 ∷ 9 ∷ 9 ∷ []) ≡ ((2, 0 ∷ 0 ∷ 1 ∷ []), pos 77 ∷ pos 77 ∷ []))
    × (of_search p1 (pos 77 ∷ pos 77 ∷ []) 0 (9 ∷ 9 ∷ 9 ∷ []) ≡ ((2, 0 ∷ 0 ∷ 0 ∷ []), pos 77 ∷ pos 77 ∷ []))
    × (of_search p7 (pos 77 ∷ pos 77 ∷ pos 77 ∷ []) 1000000 (9 ∷ 9 ∷ 9 ∷ []) ≡ ((0, 3 ∷ 3 ∷ 51 ∷ []), pos 0 ∷ pos 3 ∷ pos 6 ∷ []))
    × (of_search p7 (pos 77 ∷ pos 77 ∷ pos 77 ∷ []) 50 (9 ∷ 9 ∷ 9 ∷ []) ≡ ((1, 3 ∷ 3 ∷ 50 ∷ []), pos 0 ∷ pos 3 ∷ pos 6 ∷ []))
    × (of_search p8 (pos 77 ∷ pos 77 ∷ pos 77 ∷ []) 1000000 (9 ∷ 9 ∷ 9 ∷ []) ≡ ((0, 12 ∷ 42 ∷ 433 ∷ []), pos 0 ∷ pos 30 ∷ pos 0 ∷ []))
    × (of_search p8 (pos 77 ∷ pos 77 ∷ pos 77 ∷ []) 432 (9 ∷ 9 ∷ 9 ∷ []) ≡ ((1, 12 ∷ 42 ∷ 432 ∷ []), pos 0 ∷ pos 30 ∷ pos 0 ∷ []))
    × (of_search p8 (pos 77 ∷ pos 77 ∷ pos 77 ∷ []) 2 (9 ∷ 9 ∷ 9 ∷ []) ≡ ((2, 0 ∷ 0 ∷ 2 ∷ []), pos 77 ∷ pos 77 ∷ pos 77 ∷ []))
    × (of_search p9 (pos 77 ∷ pos 77 ∷ []) 1000000 (9 ∷ 9 ∷ 9 ∷ []) ≡ ((0, 3 ∷ 11 ∷ 31 ∷ []), pos 0 ∷ pos 4 ∷ []))
    × (of_search p9 (pos 77 ∷ pos 77 ∷ []) 30 (9 ∷ 9 ∷ 9 ∷ []) ≡ ((1, 3 ∷ 11 ∷ 30 ∷ []), pos 0 ∷ pos 4 ∷ []))
    × (of_search p1 (pos 77 ∷ []) 21 (9 ∷ 9 ∷ 9 ∷ []) ≡ ((1048576, 9 ∷ 9 ∷ 9 ∷ []), pos 77 ∷ []))
    × (of_search p1 (pos 77 ∷ pos 77 ∷ pos 77 ∷ []) 21 (9 ∷ 9 ∷ 9 ∷ []) ≡ ((1048576, 9 ∷ 9 ∷ 9 ∷ []), pos 77 ∷ pos 77 ∷ pos 77 ∷ []))
unfolding opened
search_numbers = (refl, refl, refl, refl, refl, refl, refl, refl, refl, refl, refl, refl, refl, refl)

-- ---- With a wanted gap: 0 found, 1 none, 2 stopped, with the tries; 16 at 0

pub wanted_numbers : (of_wanted p1 (pos 77 ∷ pos 77 ∷ []) 2 5 (9 ∷ []) ≡ ((0, 5 ∷ []), pos 0 ∷ pos 3 ∷ []))
    × (of_wanted p1 (pos 77 ∷ pos 77 ∷ []) 2 4 (9 ∷ []) ≡ ((2, 4 ∷ []), pos 77 ∷ pos 77 ∷ []))
    × (of_wanted p1 (pos 77 ∷ pos 77 ∷ []) 3 1 (9 ∷ []) ≡ ((1, 1 ∷ []), pos 77 ∷ pos 77 ∷ []))
    × (of_wanted p1 (pos 77 ∷ pos 77 ∷ []) 3 0 (9 ∷ []) ≡ ((2, 0 ∷ []), pos 77 ∷ pos 77 ∷ []))
    × (of_wanted p1 (pos 77 ∷ pos 77 ∷ []) 0 2 (9 ∷ []) ≡ ((0, 2 ∷ []), pos 0 ∷ pos 0 ∷ []))
    × (of_wanted p8 (pos 77 ∷ pos 77 ∷ pos 77 ∷ []) 12 1000000 (9 ∷ []) ≡ ((0, 15 ∷ []), pos 0 ∷ pos 12 ∷ pos 0 ∷ []))
    × (of_wanted p9 (pos 77 ∷ pos 77 ∷ []) 4 1000000 (9 ∷ []) ≡ ((1, 31 ∷ []), pos 77 ∷ pos 77 ∷ []))
    × (of_wanted p1 (pos 77 ∷ []) 2 5 (9 ∷ []) ≡ ((1048576, 9 ∷ []), pos 77 ∷ []))
    × (of_wanted p1 (pos 77 ∷ pos 77 ∷ pos 77 ∷ []) 2 5 (9 ∷ []) ≡ ((1048576, 9 ∷ []), pos 77 ∷ pos 77 ∷ pos 77 ∷ []))
unfolding opened
wanted_numbers = (refl, refl, refl, refl, refl, refl, refl, refl, refl)

-- ---- Better-of-two: 1 the first, 2 the second, 0 neither. By the least gap, then by the sum (P9's 0, 3 has (3, 10), its 0, 5 has (2, 12)), the first if
-- equal; one that fits before one that doesn't; neither where neither fits or the file is refused

pub better_numbers : (of_better p1 (at 0 (at 3 [])) (at 0 (at 0 [])) ≡ 1)
    × (of_better p1 (at 0 (at 0 [])) (at 0 (at 3 [])) ≡ 2)
    × (of_better p1 (0 ∷ 0 ∷ 0 ∷ 0 ∷ 0xFF ∷ 0xFF ∷ 0xFF ∷ 0xEF ∷ []) (at 0 (at 3 [])) ≡ 1)
    × (of_better p9 (at 0 (at 3 [])) (at 0 (at 5 [])) ≡ 1)
    × (of_better p9 (at 0 (at 3 [])) (at 0 (at 4 [])) ≡ 2)
    × (of_better p1 (at 0 (at 0 [])) (at 0 (at 3 (0 ∷ []))) ≡ 1)
    × (of_better p1 (at 0 (0 ∷ 0 ∷ 0 ∷ [])) (at 0 (at 0 [])) ≡ 2)
    × (of_better p1 (at 0 []) (at 0 (at 0 (at 0 []))) ≡ 0)
    × (of_better no_period (at 0 (at 3 [])) (at 0 (at 0 [])) ≡ 0)
unfolding opened
better_numbers = (refl, refl, refl, refl, refl, refl, refl, refl, refl)

-- ---- Mark, and out of a hundred: 0 decided, 1 undecided; the sheet's rating, the best one, 1 if they are equal, the tries; mark and remainder

pub mark_numbers : (of_hundred p1 (at 0 (at 0 [])) 21 (replicate 6 9) (9 ∷ 9 ∷ []) ≡ ((0, 1 ∷ 1 ∷ 2 ∷ 2 ∷ 0 ∷ 21 ∷ []), 50 ∷ 0 ∷ []))
    × (of_hundred p1 (at 0 (at 0 [])) 20 (replicate 6 9) (9 ∷ 9 ∷ []) ≡ ((1, 1 ∷ 1 ∷ 0 ∷ 0 ∷ 0 ∷ 20 ∷ []), 0 ∷ 0 ∷ []))
    × (of_hundred p1 (at 0 (at 0 [])) 2 (replicate 6 9) (9 ∷ 9 ∷ []) ≡ ((1, 1 ∷ 1 ∷ 0 ∷ 0 ∷ 0 ∷ 2 ∷ []), 0 ∷ 0 ∷ []))
    × (of_hundred p1 (at 0 (at 3 [])) 1 (replicate 6 9) (9 ∷ 9 ∷ []) ≡ ((1, 2 ∷ 2 ∷ 0 ∷ 0 ∷ 0 ∷ 1 ∷ []), 0 ∷ 0 ∷ []))
    × (of_hundred p1 (at 0 (at 3 [])) 21 (replicate 6 9) (9 ∷ 9 ∷ []) ≡ ((0, 2 ∷ 2 ∷ 2 ∷ 2 ∷ 1 ∷ 21 ∷ []), 100 ∷ 0 ∷ []))
    × (of_hundred p1 (0 ∷ 0 ∷ 0 ∷ 0 ∷ 0xFF ∷ 0xFF ∷ 0xFF ∷ 0xEF ∷ []) 21 (replicate 6 9) (9 ∷ 9 ∷ []) ≡ ((0, 2 ∷ 2 ∷ 2 ∷ 2 ∷ 1 ∷ 21 ∷ []), 100 ∷ 0 ∷ []))
    × (of_hundred p7 (at 0 (at 1 (at 2 []))) 1000000 (replicate 6 9) (9 ∷ 9 ∷ []) ≡ ((0, 1 ∷ 1 ∷ 3 ∷ 3 ∷ 0 ∷ 51 ∷ []), 33 ∷ 1 ∷ []))
    × (of_hundred p7 (at 0 (at 3 (at 6 []))) 1000000 (replicate 6 9) (9 ∷ 9 ∷ []) ≡ ((0, 3 ∷ 3 ∷ 3 ∷ 3 ∷ 1 ∷ 51 ∷ []), 100 ∷ 0 ∷ []))
    × (of_hundred p8 (at 0 (at 12 (at 0 []))) 1000000 (replicate 6 9) (9 ∷ 9 ∷ []) ≡ ((0, 12 ∷ 24 ∷ 12 ∷ 42 ∷ 0 ∷ 433 ∷ []), 100 ∷ 0 ∷ []))
    × (of_hundred p9 (at 0 (at 5 [])) 1000000 (replicate 6 9) (9 ∷ 9 ∷ []) ≡ ((0, 2 ∷ 12 ∷ 3 ∷ 11 ∷ 0 ∷ 31 ∷ []), 66 ∷ 2 ∷ []))
    × (of_hundred p9 (at 0 (at 4 [])) 1000000 (replicate 6 9) (9 ∷ 9 ∷ []) ≡ ((0, 3 ∷ 11 ∷ 3 ∷ 11 ∷ 1 ∷ 31 ∷ []), 100 ∷ 0 ∷ []))
    × (of_hundred every_minute (at 0 (at 0 [])) 2 (replicate 6 9) (9 ∷ 9 ∷ []) ≡ ((0, 0 ∷ 0 ∷ 0 ∷ 0 ∷ 1 ∷ 2 ∷ []), 100 ∷ 0 ∷ []))
    × (of_hundred p1 (at 0 (0 ∷ 0 ∷ 0 ∷ [])) 21 (replicate 6 9) (9 ∷ 9 ∷ []) ≡ ((983040, replicate 6 9), 9 ∷ 9 ∷ []))
    × (of_hundred p1 (at 0 (at 0 (0 ∷ []))) 21 (replicate 6 9) (9 ∷ 9 ∷ []) ≡ ((983040, replicate 6 9), 9 ∷ 9 ∷ []))
unfolding opened
mark_numbers = (refl, refl, refl, refl, refl, refl, refl, refl, refl, refl, refl, refl, refl, refl)

-- ---- By a key: 0, mark and remainder, which beside a key that isn't the best may be above 100, and beside one of least gap 0 is 100; 15 at 0 where the sheet or the key doesn't fit

pub key_numbers : (of_key p1 (at 0 (at 0 [])) (at 0 (at 3 [])) (9 ∷ 9 ∷ []) ≡ (0, 50 ∷ 0 ∷ []))
    × (of_key p1 (at 0 (at 3 [])) (at 0 (at 0 [])) (9 ∷ 9 ∷ []) ≡ (0, 200 ∷ 0 ∷ []))
    × (of_key p7 (at 0 (at 1 (at 2 []))) (at 0 (at 3 (at 6 []))) (9 ∷ 9 ∷ []) ≡ (0, 33 ∷ 1 ∷ []))
    × (of_key p9 (at 0 (at 5 [])) (at 0 (at 4 [])) (9 ∷ 9 ∷ []) ≡ (0, 66 ∷ 2 ∷ []))
    × (of_key every_minute (at 0 (at 0 [])) (at 0 (at 0 [])) (9 ∷ 9 ∷ []) ≡ (0, 100 ∷ 0 ∷ []))
    × (of_key p1 (at 0 (at 3 [])) (at 0 (at 1 [])) (9 ∷ 9 ∷ []) ≡ (0, 100 ∷ 0 ∷ []))
    × (of_key p1 (at 0 (0 ∷ 0 ∷ 0 ∷ [])) (at 0 (at 3 [])) (9 ∷ 9 ∷ []) ≡ (983040, 9 ∷ 9 ∷ []))
    × (of_key p1 (at 0 (at 0 [])) (at 0 (at 3 (0 ∷ []))) (9 ∷ 9 ∷ []) ≡ (983040, 9 ∷ 9 ∷ []))
unfolding opened
key_numbers = (refl, refl, refl, refl, refl, refl, refl, refl)

-- ---- A refused file's ground before all, whatever else is lent: 5 at 0, and every row stays

pub file_before_all : (of_rate no_period (0 ∷ []) (9 ∷ 9 ∷ []) ≡ (327680, 9 ∷ 9 ∷ []))
    × (of_weighted no_period (0 ∷ []) (9 ∷ 9 ∷ []) ≡ (327680, 9 ∷ 9 ∷ []))
    × (of_gaps no_period (0 ∷ []) (replicate 64 9) (9 ∷ 9 ∷ []) ≡ ((327680, 9 ∷ 9 ∷ []), replicate 64 9))
    × (of_classes no_period (9 ∷ []) (8 ∷ []) (9 ∷ []) ≡ ((327680, 9 ∷ []), (9 ∷ [], 8 ∷ [])))
    × (of_archive no_period [] ≡ (327680, []))
    × (of_board no_period (0 ∷ []) 64 (pos 0) 10081 [] [] (9 ∷ []) ≡ ((327680, 9 ∷ []), ([], [])))
    × (of_search no_period [] 0 (9 ∷ 9 ∷ 9 ∷ []) ≡ ((327680, 9 ∷ 9 ∷ 9 ∷ []), []))
    × (of_wanted no_period [] 3 0 (9 ∷ []) ≡ ((327680, 9 ∷ []), []))
    × (of_hundred no_period (0 ∷ []) 0 (replicate 6 9) (9 ∷ 9 ∷ []) ≡ ((327680, replicate 6 9), 9 ∷ 9 ∷ []))
    × (of_key no_period (0 ∷ []) (0 ∷ []) (9 ∷ 9 ∷ []) ≡ (327680, 9 ∷ 9 ∷ []))
unfolding opened
file_before_all = (refl, refl, refl, refl, refl, refl, refl, refl, refl, refl)
