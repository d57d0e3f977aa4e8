-- The paper's numbers: what each call has to answer and to leave in its rows, from the bytes of files, at the limits that documents 01 and 02 set, and by which
-- ground, at which place, and before which other. Both sides of a case compute, and each of its numbers is written out, with no name for it, so that at these
-- numbers a definition and the code that changed together are refused at the case. And every call answers so, by its contract. Assumes nothing.
use Prim.Native.Nat.{ℕ, zero, suc}
use mathlib.Core.Path.{◌≡◌, refl, ◌∙◌}
use mathlib.Core.List.{List, [], ◌∷◌, ◌++◌}
use borrow.Fn.World.{ArgsD, ResD}
use borrow.Fn.Kinds.{ended_of}
use contract.Lifetimes.{Lfts}
use denote.Triple.Clauses.{AtExit}
use lib.IntN.{ℤ, pos, negsuc}
use lib.ListN.{length, replicate}
use Rattle.network.specs.Lists.{any, keep, all_below, count_below, below, table, sum_of, least_of, pairs_of, joined}
use Rattle.network.specs.Divisor.{gcd_within, gcd, lcm, cycle_from, common_cycle}
use Rattle.network.specs.Network.{cycle, how_often_at, calls_anywhere, is_served, served_stops, latest_offset, word, command, operand_bytes, line_operand}
use Rattle.network.specs.Network.{stop_operand, stated_offset, ride_offset, edition_operand, with_line, with_call, call_of, extend}
use Rattle.network.specs.Grounds.{first, cut_off, period_out_of_range, edition_unknown, some_line_silent, call_grounds, grounds}
use Rattle.network.specs.Reading.{proceed, read_from, read_file, Outcome, values, refusal, read_answer, read_outcome}
use Rattle.network.specs.Gap.{residue, fold, gap_of}
use Rattle.network.specs.Rating.{arrival_of, period_of, gap_of_calls, pair_gaps, gap_of_stop, calls_of_stop, stop_gap, each_once, served_list, counted}
use Rattle.network.specs.Rating.{rating_by, rating_over, rating}
use Rattle.network.specs.Rate.{rating_values, on_sheet, rate_answer, rate_outcome}
use Rattle.network.specs.GapRow.{gap_row, gap_row_after}
use Rattle.network.specs.Tidy.{insert_by, sort_by, not_after, tidy}
use Rattle.network.specs.Classes.{ordered, remainder, same_line, same_remainder, is_alike, first_below, lowest_alike, is_lowest, class_row, weight_row}
use Rattle.network.specs.Classes.{class_count, lowest_stops}
use Rattle.network.specs.ClassCall.{rows_fit, class_answer, class_outcome, class_row_after, weight_row_after, weighted_rating, weighted_outcome}
use Rattle.network.specs.Archive.{word_bytes, edition_bytes, line_bytes, call_bytes, file_of, tidied, archive, archive_length, archive_answer}
use Rattle.network.specs.Archive.{archive_outcome, archive_row_after}
use Rattle.network.specs.Board.{Window, window, arrives, board_calls, board_at, board_from, board, times, lines, board_grounds, board_answer, refused_or}
use Rattle.network.specs.Board.{board_outcome, time_row_after, line_row_after}
use Rattle.network.specs.contracts.reader.read as read
use Rattle.network.proofs.reader.read.Kinds as read_kinds
use Rattle.network.proofs.reader.read.Reads as read_contract
use Rattle.network.specs.contracts.rate.rate as rate
use Rattle.network.proofs.rate.rate.Kinds as rate_kinds
use Rattle.network.proofs.rate.rate.Reads as rate_contract
use Rattle.network.specs.contracts.classes.weighted as weighted
use Rattle.network.proofs.classes.weighted.Kinds as weighted_kinds
use Rattle.network.proofs.classes.weighted.Reads as weighted_contract
use Rattle.network.specs.contracts.gap_row.gaps as gaps_call
use Rattle.network.proofs.gap_row.gaps.Kinds as gaps_kinds
use Rattle.network.proofs.gap_row.gaps.Reads as gaps_contract
use Rattle.network.specs.contracts.classes.classes as classes_call
use Rattle.network.proofs.classes.classes.Kinds as classes_kinds
use Rattle.network.proofs.classes.classes.Reads as classes_contract
use Rattle.network.specs.contracts.archive.archive as archive_call
use Rattle.network.proofs.archive.archive.Kinds as archive_kinds
use Rattle.network.proofs.archive.archive.Reads as archive_contract
use Rattle.network.specs.contracts.board.board as board_call
use Rattle.network.proofs.board.board.Kinds as board_kinds
use Rattle.network.proofs.board.board.Reads as board_contract

-- Opens every definition
opened : ℕ
unfolding any keep all_below count_below below table sum_of least_of pairs_of joined gcd_within gcd lcm cycle_from common_cycle cycle how_often_at calls_anywhere is_served served_stops latest_offset word command operand_bytes line_operand stop_operand stated_offset ride_offset edition_operand with_line with_call call_of extend first cut_off period_out_of_range edition_unknown some_line_silent call_grounds grounds proceed read_from read_file read_outcome residue fold gap_of arrival_of period_of gap_of_calls pair_gaps gap_of_stop calls_of_stop stop_gap each_once served_list counted rating_by rating_over rating rating_values on_sheet rate_outcome gap_row gap_row_after insert_by sort_by not_after tidy ordered remainder same_line same_remainder is_alike first_below lowest_alike is_lowest class_row weight_row class_count lowest_stops rows_fit class_outcome class_row_after weight_row_after weighted_rating weighted_outcome word_bytes edition_bytes line_bytes call_bytes file_of tidied archive archive_length archive_outcome archive_row_after arrives board_calls board_at board_from board times lines board_grounds refused_or board_outcome time_row_after line_row_after
opened = 0

-- ---- Cases

-- What is lent to a call, then its answer and its rows afterwards. Rate and the weighted rating answer alike
pub data Case : Type 0 where
  reads : List ℕ → Outcome → Case
  rates : List ℕ → List ℤ → Outcome → Case
  gaps : List ℕ → List ℤ → List ℕ → Outcome → List ℕ → Case
  classifies : List ℕ → List ℕ → List ℕ → Outcome → List ℕ → List ℕ → Case
  archives : List ℕ → List ℕ → Outcome → List ℕ → Case
  boards : List ℕ → List ℤ → Window → List ℤ → List ℕ → Outcome → List ℤ → List ℕ → Case

pub Holds : Case → Type 0
Holds (reads file answer) = read_outcome (read_file file) ≡ answer
Holds (rates file sheet answer) = (rate_outcome (read_file file) sheet ≡ answer) × (weighted_outcome (read_file file) sheet ≡ answer)
Holds (gaps file sheet row answer after) = (rate_outcome (read_file file) sheet ≡ answer) × (gap_row_after row (read_file file) sheet ≡ after)
Holds (classifies file classes weights answer classes_after weights_after) =
    (class_outcome (read_file file) (length classes) (length weights) ≡ answer)
    × (class_row_after (read_file file) classes weights ≡ classes_after)
    × (weight_row_after (read_file file) classes weights ≡ weights_after)
Holds (archives file row answer after) = (archive_outcome (read_file file) (length row) ≡ answer) × (archive_row_after (read_file file) row ≡ after)
Holds (boards file sheet w time_row line_row answer times_after lines_after) =
    (board_outcome w (length time_row) (length line_row) (read_file file) sheet ≡ answer)
    × (time_row_after w time_row line_row (read_file file) sheet ≡ times_after)
    × (line_row_after w time_row line_row (read_file file) sheet ≡ lines_after)

pub Every : List Case → Type 0
Every [] = Unit {0}
Every (c ∷ cs) = Holds c × Every cs

-- Rows of so many places, and a sheet of so many starts
pub row : ℕ → List ℕ
row k = replicate k 77

pub time_row : ℕ → List ℤ
time_row k = replicate k (pos 77)

pub zeros : ℕ → List ℤ
zeros k = replicate k (pos 0)

-- Cases in which rows of so many places stay as they were
pub classes_stay : List ℕ → ℕ → ℕ → Outcome → Case
classes_stay file classes weights answer = classifies file (row classes) (row weights) answer (row classes) (row weights)

pub archive_stays : List ℕ → ℕ → Outcome → Case
archive_stays file places answer = archives file (row places) answer (row places)

pub board_stays : List ℕ → List ℤ → Window → ℕ → ℕ → Outcome → Case
board_stays file sheet w places others answer = boards file sheet w (time_row places) (row others) answer (time_row places) (row others)

-- ---- Files

-- What is given for each number below `k`, one behind the other, the highest first
pub for_each : (ℕ → List ℕ) → ℕ → List ℕ
for_each f zero = []
for_each f (suc k) = f k ++ for_each f k

-- So many lines of one minute
pub lines_of1 : ℕ → List ℕ
lines_of1 k = for_each (λ line. 0x4C ∷ 0 ∷ 1 ∷ []) k

-- One call of each of so many lines at stop 0
pub one_call_each : ℕ → List ℕ
one_call_each k = for_each (λ line. 0x43 ∷ line ∷ 0 ∷ 0 ∷ 0 ∷ []) k

-- One call of the line at each of the 64 stops, with the offset of these two bytes
pub everywhere : ℕ → ℕ → ℕ → List ℕ
everywhere line high low = for_each (λ stop. 0x43 ∷ line ∷ stop ∷ high ∷ low ∷ []) 64

-- Four lines, each once at each stop; and two lines, each twice there
pub four_lines : ℕ → ℕ → List ℕ
four_lines high low = everywhere 0 high low ++ everywhere 1 high low ++ everywhere 2 high low ++ everywhere 3 high low

pub two_lines : List ℕ
two_lines = lines_of1 2 ++ everywhere 0 0 0 ++ everywhere 1 0 0 ++ everywhere 0 0 0 ++ everywhere 1 0 0

-- One line every 15 minutes
pub line15 : List ℕ
line15 = 0x4C ∷ 0x00 ∷ 0x0F ∷ []

-- Document 01's P1 and P9
pub p1 : List ℕ
p1 = 0x4C ∷ 0x00 ∷ 0x0F ∷ 0x4C ∷ 0x00 ∷ 0x14 ∷ 0x43 ∷ 0x00 ∷ 0x00 ∷ 0x00 ∷ 0x08 ∷ 0x43 ∷ 0x01 ∷ 0x00 ∷ 0x00 ∷ 0x11 ∷ 0x45 ∷ []

pub p9 : List ℕ
p9 = 0x4C ∷ 0 ∷ 20 ∷ 0x4C ∷ 0 ∷ 30 ∷ 0x43 ∷ 0 ∷ 0 ∷ 0 ∷ 0 ∷ 0x43 ∷ 1 ∷ 0 ∷ 0 ∷ 0 ∷ 0x43 ∷ 0 ∷ 1 ∷ 0 ∷ 7 ∷ 0x43 ∷ 1 ∷ 1 ∷ 0 ∷ 17 ∷ 0x43 ∷ 0 ∷ 2 ∷ 0 ∷ 5 ∷ 0x43 ∷ 1 ∷ 2 ∷ 0 ∷ 8 ∷ 0x45 ∷ []

-- One line every 10 minutes, which calls twice at three stops, and once at a fourth
pub loops : List ℕ
loops = 0x4C ∷ 0 ∷ 10 ∷ 0x43 ∷ 0 ∷ 0 ∷ 0 ∷ 2 ∷ 0x43 ∷ 0 ∷ 0 ∷ 0 ∷ 5 ∷ 0x43 ∷ 0 ∷ 1 ∷ 0 ∷ 15 ∷ 0x43 ∷ 0 ∷ 1 ∷ 0 ∷ 12 ∷ 0x43 ∷ 0 ∷ 2 ∷ 0 ∷ 12 ∷ 0x43 ∷ 0 ∷ 2 ∷ 0 ∷ 5 ∷ 0x43 ∷ 0 ∷ 3 ∷ 0 ∷ 0 ∷ 0x45 ∷ []

-- One line every 10 minutes, at stop 0 after 0 and 3 minutes, at stop 1 after 0 and 7: one gap, and two classes
pub same_gap : List ℕ
same_gap = 0x4C ∷ 0 ∷ 10 ∷ 0x43 ∷ 0 ∷ 0 ∷ 0 ∷ 0 ∷ 0x43 ∷ 0 ∷ 0 ∷ 0 ∷ 3 ∷ 0x43 ∷ 0 ∷ 1 ∷ 0 ∷ 0 ∷ 0x43 ∷ 0 ∷ 1 ∷ 0 ∷ 7 ∷ 0x45 ∷ []

-- Two lines every 10 minutes, both at stops 0 and 1, where the file states them in one order and then in the other; line 0 alone at stop 2, line 1 at stop 3
pub mixed : List ℕ
mixed = 0x4C ∷ 0 ∷ 10 ∷ 0x4C ∷ 0 ∷ 10 ∷ 0x43 ∷ 0 ∷ 0 ∷ 0 ∷ 0 ∷ 0x43 ∷ 1 ∷ 0 ∷ 0 ∷ 3 ∷ 0x43 ∷ 1 ∷ 1 ∷ 0 ∷ 13 ∷ 0x43 ∷ 0 ∷ 1 ∷ 0 ∷ 0 ∷ 0x43 ∷ 0 ∷ 2 ∷ 0 ∷ 0 ∷ 0x43 ∷ 1 ∷ 3 ∷ 0 ∷ 0 ∷ 0x45 ∷ []

-- One line every 15 minutes, at stop 63 alone
pub last_stop : List ℕ
last_stop = 0x4C ∷ 0x00 ∷ 0x0F ∷ 0x43 ∷ 0x00 ∷ 0x3F ∷ 0x00 ∷ 0x00 ∷ 0x45 ∷ []

-- Lines every 15 and 20 minutes, and calls of line 1 at stop 0 after 17 minutes, of line 0 at stop 1 after 3, at stop 0 after 8 and after 2; and their
-- archive form
pub untidy : List ℕ
untidy = 0x4C ∷ 0x00 ∷ 0x0F ∷ 0x4C ∷ 0x00 ∷ 0x14 ∷ 0x43 ∷ 0x01 ∷ 0x00 ∷ 0x00 ∷ 0x11 ∷ 0x43 ∷ 0x00 ∷ 0x01 ∷ 0x00 ∷ 0x03 ∷ 0x43 ∷ 0x00 ∷ 0x00 ∷ 0x00 ∷ 0x08 ∷ 0x43 ∷ 0x00 ∷ 0x00 ∷ 0x00 ∷ 0x02 ∷ 0x45 ∷ []

pub tidy_form : List ℕ
tidy_form = 0x4C ∷ 0x00 ∷ 0x0F ∷ 0x4C ∷ 0x00 ∷ 0x14 ∷ 0x43 ∷ 0x00 ∷ 0x00 ∷ 0x00 ∷ 0x02 ∷ 0x43 ∷ 0x00 ∷ 0x00 ∷ 0x00 ∷ 0x08 ∷ 0x43 ∷ 0x00 ∷ 0x01 ∷ 0x00 ∷ 0x03 ∷ 0x43 ∷ 0x01 ∷ 0x00 ∷ 0x00 ∷ 0x11 ∷ 0x45 ∷ []

-- Lines every 15 and 20 minutes again, with rides of 3, 5 and 1 minutes, each from its own line's latest call; and their archive form
pub rides : List ℕ
rides = 0x4C ∷ 0x00 ∷ 0x0F ∷ 0x4C ∷ 0x00 ∷ 0x14 ∷ 0x43 ∷ 0x00 ∷ 0x00 ∷ 0x00 ∷ 0x08 ∷ 0x43 ∷ 0x01 ∷ 0x00 ∷ 0x00 ∷ 0x11 ∷ 0x46 ∷ 0x00 ∷ 0x01 ∷ 0x00 ∷ 0x03 ∷ 0x46 ∷ 0x01 ∷ 0x01 ∷ 0x00 ∷ 0x05 ∷ 0x46 ∷ 0x00 ∷ 0x02 ∷ 0x00 ∷ 0x01 ∷ 0x45 ∷ []

pub rides_form : List ℕ
rides_form = 0x4C ∷ 0x00 ∷ 0x0F ∷ 0x4C ∷ 0x00 ∷ 0x14 ∷ 0x43 ∷ 0x00 ∷ 0x00 ∷ 0x00 ∷ 0x08 ∷ 0x43 ∷ 0x00 ∷ 0x01 ∷ 0x00 ∷ 0x0B ∷ 0x43 ∷ 0x00 ∷ 0x02 ∷ 0x00 ∷ 0x0C ∷ 0x43 ∷ 0x01 ∷ 0x00 ∷ 0x00 ∷ 0x11 ∷ 0x43 ∷ 0x01 ∷ 0x01 ∷ 0x00 ∷ 0x16 ∷ 0x45 ∷ []

-- One line every 15 minutes, with calls after 20 and then after 3 minutes, and a ride of 1 minute from the latest, not from the highest offset; and its
-- archive form
pub drops : List ℕ
drops = 0x4C ∷ 0x00 ∷ 0x0F ∷ 0x43 ∷ 0x00 ∷ 0x00 ∷ 0x00 ∷ 0x14 ∷ 0x43 ∷ 0x00 ∷ 0x01 ∷ 0x00 ∷ 0x03 ∷ 0x46 ∷ 0x00 ∷ 0x02 ∷ 0x00 ∷ 0x01 ∷ 0x45 ∷ []

pub drops_form : List ℕ
drops_form = 0x4C ∷ 0x00 ∷ 0x0F ∷ 0x43 ∷ 0x00 ∷ 0x00 ∷ 0x00 ∷ 0x14 ∷ 0x43 ∷ 0x00 ∷ 0x01 ∷ 0x00 ∷ 0x03 ∷ 0x43 ∷ 0x00 ∷ 0x02 ∷ 0x00 ∷ 0x04 ∷ 0x45 ∷ []

-- ---- Read

-- 1, 2, 3, 7, 13 and 14 where the first commands stand: a file with one call and its cuts, an unknown command, operands that are cut off, a call before any
-- line, an end before any line, also with a byte behind it
pub command_cases : List Case
command_cases =
    reads [] (refusal 1 0) ∷
    reads (0x4C ∷ 0x00 ∷ 0x0F ∷ 0x43 ∷ 0x00 ∷ 0x00 ∷ 0x00 ∷ 0x08 ∷ []) (refusal 1 8) ∷
    reads (0x4C ∷ 0x00 ∷ 0x0F ∷ 0x43 ∷ 0x00 ∷ 0x00 ∷ 0x00 ∷ 0x08 ∷ 0x45 ∷ []) (values (1 ∷ 1 ∷ 1 ∷ 15 ∷ [])) ∷
    reads (0x4C ∷ 0x00 ∷ 0x0F ∷ 0x43 ∷ 0x00 ∷ 0x00 ∷ 0x00 ∷ 0x08 ∷ 0x45 ∷ 0x00 ∷ []) (refusal 14 9) ∷
    reads (0x00 ∷ []) (refusal 2 0) ∷
    reads (0x4C ∷ 0x00 ∷ 0x0F ∷ 0xFF ∷ []) (refusal 2 3) ∷
    reads (0x4C ∷ 0x00 ∷ []) (refusal 3 0) ∷
    reads (0x43 ∷ 0x00 ∷ 0x00 ∷ 0x00 ∷ []) (refusal 3 0) ∷
    reads (0x46 ∷ 0x00 ∷ 0x00 ∷ 0x00 ∷ []) (refusal 3 0) ∷
    reads (0x43 ∷ 0x00 ∷ 0x00 ∷ 0x00 ∷ 0x00 ∷ []) (refusal 7 0) ∷
    reads (0x45 ∷ []) (refusal 13 0) ∷
    reads (0x45 ∷ 0x45 ∷ []) (refusal 13 0) ∷
    []

pub command_cases_hold : Every command_cases
unfolding opened Holds Every command_cases
command_cases_hold =
    (refl, (refl, (refl, (refl, (refl, (refl, (refl, (refl, (refl, (refl, (refl, (refl, tt))))))))))))

-- 3 before 4 before 5 before 6: sixteen lines are accepted and a seventeenth isn't, also with period 0 or with its operands cut off; periods 1 to 1,440;
-- cycles up to 10,080
pub line_cases : List Case
line_cases =
    reads (lines_of1 16 ++ one_call_each 16 ++ (0x45 ∷ [])) (values (16 ∷ 1 ∷ 16 ∷ 1 ∷ [])) ∷
    reads (lines_of1 17) (refusal 4 48) ∷
    reads (lines_of1 16 ++ (0x4C ∷ 0x00 ∷ 0x00 ∷ [])) (refusal 4 48) ∷
    reads (lines_of1 16 ++ (0x4C ∷ 0x00 ∷ [])) (refusal 3 48) ∷
    reads (0x4C ∷ 0x00 ∷ 0x00 ∷ []) (refusal 5 0) ∷
    reads (0x4C ∷ 0x05 ∷ 0xA1 ∷ []) (refusal 5 0) ∷
    reads (0x4C ∷ 0x00 ∷ 0x07 ∷ 0x4C ∷ 0x05 ∷ 0xA1 ∷ []) (refusal 5 3) ∷
    reads (0x4C ∷ 0x05 ∷ 0xA0 ∷ one_call_each 1 ++ (0x45 ∷ [])) (values (1 ∷ 1 ∷ 1 ∷ 1440 ∷ [])) ∷
    reads (0x4C ∷ 0x05 ∷ 0xA0 ∷ 0x4C ∷ 0x00 ∷ 0x07 ∷ one_call_each 2 ++ (0x45 ∷ [])) (values (2 ∷ 1 ∷ 2 ∷ 10080 ∷ [])) ∷
    reads (0x4C ∷ 0x05 ∷ 0xA0 ∷ 0x4C ∷ 0x00 ∷ 0x0B ∷ []) (refusal 6 3) ∷
    reads (0x4C ∷ 0x02 ∷ 0x51 ∷ 0x4C ∷ 0x00 ∷ 0x11 ∷ []) (refusal 6 3) ∷
    []

pub line_cases_hold : Every line_cases
unfolding opened for_each lines_of1 one_call_each Holds Every line_cases
line_cases_hold =
    (refl, (refl, (refl, (refl, (refl, (refl, (refl, (refl, (refl, (refl, (refl, tt)))))))))))

-- 7 before 8, 8 before 11, 9 before 12, 13 before 14, behind a line: stops 0 to 63; two calls at a stop and the third; offsets up to 65,535; a ride of a
-- line without call, also where another line has one; an end with a line without call
pub call_cases : List Case
call_cases =
    reads (line15 ++ (0x43 ∷ 0x01 ∷ 0x00 ∷ 0x00 ∷ 0x00 ∷ [])) (refusal 7 3) ∷
    reads (line15 ++ (0x43 ∷ 0x01 ∷ 0x40 ∷ 0x00 ∷ 0x00 ∷ [])) (refusal 7 3) ∷
    reads (line15 ++ (0x46 ∷ 0x01 ∷ 0x00 ∷ 0x00 ∷ 0x00 ∷ [])) (refusal 7 3) ∷
    reads (line15 ++ (0x43 ∷ 0x00 ∷ 0x3F ∷ 0x00 ∷ 0x00 ∷ 0x45 ∷ [])) (values (1 ∷ 1 ∷ 1 ∷ 15 ∷ [])) ∷
    reads (line15 ++ (0x43 ∷ 0x00 ∷ 0x40 ∷ 0x00 ∷ 0x00 ∷ [])) (refusal 8 3) ∷
    reads (line15 ++ (0x46 ∷ 0x00 ∷ 0x40 ∷ 0x00 ∷ 0x00 ∷ [])) (refusal 8 3) ∷
    reads (line15 ++ (0x43 ∷ 0x00 ∷ 0x00 ∷ 0x00 ∷ 0x00 ∷ 0x43 ∷ 0x00 ∷ 0x00 ∷ 0x00 ∷ 0x00 ∷ 0x45 ∷ [])) (values (1 ∷ 1 ∷ 2 ∷ 15 ∷ [])) ∷
    reads (line15 ++ (0x43 ∷ 0x00 ∷ 0x00 ∷ 0x00 ∷ 0x00 ∷ 0x43 ∷ 0x00 ∷ 0x00 ∷ 0x00 ∷ 0x00 ∷ 0x43 ∷ 0x00 ∷ 0x00 ∷ 0x00 ∷ 0x00 ∷ [])) (refusal 9 13) ∷
    reads (line15 ++ (0x43 ∷ 0x00 ∷ 0x00 ∷ 0x00 ∷ 0x00 ∷ 0x43 ∷ 0x00 ∷ 0x00 ∷ 0xFF ∷ 0xFF ∷ 0x46 ∷ 0x00 ∷ 0x00 ∷ 0x00 ∷ 0x01 ∷ [])) (refusal 9 13) ∷
    reads (line15 ++ (0x46 ∷ 0x00 ∷ 0x00 ∷ 0x00 ∷ 0x00 ∷ [])) (refusal 11 3) ∷
    reads (line15 ++ (0x43 ∷ 0x00 ∷ 0x00 ∷ 0xFF ∷ 0xFE ∷ 0x46 ∷ 0x00 ∷ 0x00 ∷ 0x00 ∷ 0x01 ∷ 0x45 ∷ [])) (values (1 ∷ 1 ∷ 2 ∷ 15 ∷ [])) ∷
    reads (line15 ++ (0x43 ∷ 0x00 ∷ 0x00 ∷ 0xFF ∷ 0xFF ∷ 0x46 ∷ 0x00 ∷ 0x00 ∷ 0x00 ∷ 0x01 ∷ [])) (refusal 12 8) ∷
    reads (line15 ++ (0x45 ∷ 0x45 ∷ [])) (refusal 13 3) ∷
    reads (line15 ++ (0x4C ∷ 0x00 ∷ 0x0F ∷ 0x43 ∷ 0x00 ∷ 0x00 ∷ 0x00 ∷ 0x00 ∷ 0x46 ∷ 0x01 ∷ 0x00 ∷ 0x00 ∷ 0x00 ∷ [])) (refusal 11 11) ∷
    reads (line15 ++ (0x4C ∷ 0x00 ∷ 0x14 ∷ 0x43 ∷ 0x00 ∷ 0x00 ∷ 0x00 ∷ 0x00 ∷ 0x45 ∷ [])) (refusal 13 11) ∷
    []

pub call_cases_hold : Every call_cases
unfolding opened line15 Holds Every call_cases
call_cases_hold =
    (refl, (refl, (refl, (refl, (refl, (refl, (refl, (refl, (refl, (refl, (refl, (refl, (refl, (refl, (refl, tt)))))))))))))))

-- 256 calls are accepted and the 257th isn't: 10 after 7, 8 and 9, before 11 and 12
pub full_cases : List Case
full_cases =
    reads (lines_of1 4 ++ four_lines 0 0 ++ (0x45 ∷ [])) (values (4 ∷ 64 ∷ 256 ∷ 1 ∷ [])) ∷
    reads (lines_of1 4 ++ four_lines 0 0 ++ (0x43 ∷ 0 ∷ 0 ∷ 0 ∷ 0 ∷ [])) (refusal 10 1292) ∷
    reads (lines_of1 4 ++ four_lines 0 0 ++ (0x43 ∷ 4 ∷ 0 ∷ 0 ∷ 0 ∷ [])) (refusal 7 1292) ∷
    reads (lines_of1 4 ++ four_lines 0 0 ++ (0x43 ∷ 0 ∷ 64 ∷ 0 ∷ 0 ∷ [])) (refusal 8 1292) ∷
    reads (lines_of1 4 ++ four_lines 255 255 ++ (0x46 ∷ 0 ∷ 0 ∷ 0 ∷ 1 ∷ [])) (refusal 10 1292) ∷
    reads (two_lines ++ (0x43 ∷ 0 ∷ 0 ∷ 0 ∷ 0 ∷ [])) (refusal 9 1286) ∷
    reads (lines_of1 5 ++ four_lines 0 0 ++ (0x46 ∷ 4 ∷ 0 ∷ 0 ∷ 0 ∷ [])) (refusal 10 1295) ∷
    []

pub full_cases_hold : Every full_cases
unfolding opened for_each lines_of1 everywhere four_lines two_lines Holds Every full_cases
full_cases_hold =
    (refl, (refl, (refl, (refl, (refl, (refl, (refl, tt)))))))

-- ---- Rate, the weighted rating and the gaps call

-- 15 for P1's sheets of 0, 1 and 3 starts, and after the file's own ground; the ratings of P1 and P2, and P9's best; P1's gap row, 65,535 for each
-- unserved stop; and stop 63 counts
pub sheet_cases : List Case
sheet_cases =
    rates p1 (zeros 0) (refusal 15 0) ∷
    rates p1 (zeros 1) (refusal 15 0) ∷
    rates p1 (zeros 3) (refusal 15 0) ∷
    rates p1 (zeros 2) (values (1 ∷ 1 ∷ [])) ∷
    rates p1 (pos 0 ∷ negsuc 16 ∷ []) (values (2 ∷ 2 ∷ [])) ∷
    rates p9 (pos 0 ∷ pos 4 ∷ []) (values (3 ∷ 11 ∷ [])) ∷
    rates last_stop (zeros 1) (values (15 ∷ 15 ∷ [])) ∷
    rates (0x4C ∷ 0x00 ∷ 0x0F ∷ []) (zeros 0) (refusal 1 3) ∷
    gaps p1 (zeros 3) (row 64) (refusal 15 0) (row 64) ∷
    gaps p1 (zeros 2) (row 64) (values (1 ∷ 1 ∷ [])) (1 ∷ replicate 63 65535) ∷
    gaps last_stop (zeros 1) (row 64) (values (15 ∷ 15 ∷ [])) (replicate 63 65535 ++ (15 ∷ [])) ∷
    gaps (0x4C ∷ 0x00 ∷ 0x0F ∷ []) (zeros 0) (row 64) (refusal 1 3) (row 64) ∷
    []

pub sheet_cases_hold : Every sheet_cases
unfolding opened p1 p9 last_stop row zeros Holds Every sheet_cases
sheet_cases_hold =
    ((refl, refl), ((refl, refl), ((refl, refl), ((refl, refl), ((refl, refl), ((refl, refl), ((refl, refl), ((refl, refl), ((refl, refl), ((refl, refl), ((refl, refl), ((refl, refl), tt))))))))))))

-- ---- The class call

-- 17 for rows of 63 and 64 places, and of 64 and 65, and after the file's own ground; P9's rows, 255 and 0 for each unserved stop; with loops, stops
-- matched in order of offset; alike only where the same lines call, in whatever order the file states them; and stop 63 counts
pub class_cases : List Case
class_cases =
    classes_stay p1 63 64 (refusal 17 0) ∷
    classes_stay p1 64 63 (refusal 17 0) ∷
    classes_stay p1 64 65 (refusal 17 0) ∷
    classes_stay p1 65 64 (refusal 17 0) ∷
    classes_stay (0x4C ∷ 0x00 ∷ 0x0F ∷ []) 63 65 (refusal 1 3) ∷
    classifies p9 (row 64) (row 64) (values (2 ∷ [])) (0 ∷ 0 ∷ 2 ∷ replicate 61 255) (2 ∷ 0 ∷ 1 ∷ replicate 61 0) ∷
    classifies loops (row 64) (row 64) (values (3 ∷ [])) (0 ∷ 0 ∷ 2 ∷ 3 ∷ replicate 60 255) (2 ∷ 0 ∷ 1 ∷ 1 ∷ replicate 60 0) ∷
    classifies same_gap (row 64) (row 64) (values (2 ∷ [])) (0 ∷ 1 ∷ replicate 62 255) (1 ∷ 1 ∷ replicate 62 0) ∷
    classifies mixed (row 64) (row 64) (values (3 ∷ [])) (0 ∷ 0 ∷ 2 ∷ 3 ∷ replicate 60 255) (2 ∷ 0 ∷ 1 ∷ 1 ∷ replicate 60 0) ∷
    classifies last_stop (row 64) (row 64) (values (1 ∷ [])) (replicate 63 255 ++ (63 ∷ [])) (replicate 63 0 ++ (1 ∷ [])) ∷
    []

pub class_cases_hold : Every class_cases
unfolding opened p1 p9 loops same_gap mixed last_stop row classes_stay Holds Every class_cases
class_cases_hold =
    ((refl, refl, refl), ((refl, refl, refl), ((refl, refl, refl), ((refl, refl, refl), ((refl, refl, refl), ((refl, refl, refl), ((refl, refl, refl), ((refl, refl, refl), ((refl, refl, refl), ((refl, refl, refl), tt))))))))))

-- ---- The archive call

-- 18 for a row of 16 places, where P1 takes 17, and after the file's own ground; lines in order, then calls by line, then stop, then offset, as 43, then 45,
-- 27 bytes; calls by rides as calls by offset, each from its line's latest call; in edition 2 its 56 first, 29 bytes; what lies behind stays
pub archive_cases : List Case
archive_cases =
    archive_stays p1 16 (refusal 18 0) ∷
    archives p1 (row 17) (values (17 ∷ [])) p1 ∷
    archive_stays (0x4C ∷ 0x00 ∷ 0x0F ∷ []) 0 (refusal 1 3) ∷
    archive_stays untidy 26 (refusal 18 0) ∷
    archives untidy (row 28) (values (27 ∷ [])) (tidy_form ++ (77 ∷ [])) ∷
    archive_stays (0x56 ∷ 0x02 ∷ untidy) 28 (refusal 18 0) ∷
    archives rides (row 32) (values (32 ∷ [])) rides_form ∷
    archives drops (row 19) (values (19 ∷ [])) drops_form ∷
    archives (0x56 ∷ 0x02 ∷ untidy) (row 30) (values (29 ∷ [])) (0x56 ∷ 0x02 ∷ tidy_form ++ (77 ∷ [])) ∷
    []

pub archive_cases_hold : Every archive_cases
unfolding opened p1 untidy tidy_form rides rides_form drops drops_form row archive_stays Holds Every archive_cases
archive_cases_hold =
    ((refl, refl), ((refl, refl), ((refl, refl), ((refl, refl), ((refl, refl), ((refl, refl), ((refl, refl), ((refl, refl), ((refl, refl), tt)))))))))

-- ---- The board call

-- The file's own ground, then 15, 8, 22 and 23, each before the next where both apply: stops 0 to 63, 10,080 minutes, rows as long as the list; P1's hour by
-- time, and what lies behind stays
pub board_cases : List Case
board_cases =
    board_stays (0x4C ∷ 0x00 ∷ 0x0F ∷ []) (zeros 3) (window 64 (pos 0) 10081) 0 0 (refusal 1 3) ∷
    board_stays p1 (zeros 0) (window 0 (pos 0) 60) 7 7 (refusal 15 0) ∷
    board_stays p1 (zeros 1) (window 0 (pos 0) 60) 7 7 (refusal 15 0) ∷
    board_stays p1 (zeros 3) (window 0 (pos 0) 60) 7 7 (refusal 15 0) ∷
    board_stays p1 (zeros 1) (window 64 (pos 0) 60) 7 7 (refusal 15 0) ∷
    board_stays p1 (zeros 2) (window 64 (pos 0) 60) 7 7 (refusal 8 0) ∷
    board_stays p1 (zeros 2) (window 64 (pos 0) 10081) 7 7 (refusal 8 0) ∷
    board_stays p1 (zeros 2) (window 5 (pos 0) 10081) 7 7 (refusal 22 0) ∷
    board_stays p1 (zeros 2) (window 0 (pos 0) 10081) 0 0 (refusal 22 0) ∷
    board_stays p1 (zeros 2) (window 0 (pos 0) 60) 6 7 (refusal 23 0) ∷
    board_stays p1 (zeros 2) (window 0 (pos 0) 60) 7 6 (refusal 23 0) ∷
    board_stays p1 (zeros 2) (window 63 (pos 0) 10080) 0 0 (values (0 ∷ [])) ∷
    boards p1 (zeros 2) (window 0 (pos 0) 60) (time_row 8) (row 7) (values (7 ∷ [])) (pos 8 ∷ pos 17 ∷ pos 23 ∷ pos 37 ∷ pos 38 ∷ pos 53 ∷ pos 57 ∷ pos 77 ∷ []) (0 ∷ 1 ∷ 0 ∷ 1 ∷ 0 ∷ 0 ∷ 1 ∷ []) ∷
    []

pub board_cases_hold : Every board_cases
unfolding opened p1 row time_row zeros board_stays Holds Every board_cases
board_cases_hold =
    ((refl, refl, refl), ((refl, refl, refl), ((refl, refl, refl), ((refl, refl, refl), ((refl, refl, refl), ((refl, refl, refl), ((refl, refl, refl), ((refl, refl, refl), ((refl, refl, refl), ((refl, refl, refl), ((refl, refl, refl), ((refl, refl, refl), ((refl, refl, refl), tt)))))))))))))

-- ---- Every call: what is lent to it makes a case of it, and where the case holds, it answers and leaves so

module _ (κs : Lfts 1) (a : ArgsD read.signature κs) (r : ResD read.signature κs) (s : AtExit (ended_of 1 read_kinds.ps read_kinds.r) κs)
    (kept : read_contract.Post κs a r s) where
  pub read_as_case : {answer : Outcome} → Holds (reads a.0.now answer) → read_answer r ≡ answer
  unfolding Holds
  read_as_case h = kept.0 ∙ h

module _ (κs : Lfts 2) (a : ArgsD rate.signature κs) (r : ResD rate.signature κs) (s : AtExit (ended_of 2 rate_kinds.ps rate_kinds.r) κs)
    (kept : rate_contract.Post κs a r s) where
  pub rate_as_case : {answer : Outcome} → Holds (rates a.0.now a.1.0.now answer) → rate_answer r ≡ answer
  unfolding Holds
  rate_as_case h = kept.0 ∙ h.0

module _ (κs : Lfts 2) (a : ArgsD weighted.signature κs) (r : ResD weighted.signature κs)
    (s : AtExit (ended_of 2 weighted_kinds.ps weighted_kinds.r) κs) (kept : weighted_contract.Post κs a r s) where
  pub weighted_as_case : {answer : Outcome} → Holds (rates a.0.now a.1.0.now answer) → rate_answer r ≡ answer
  unfolding Holds
  weighted_as_case h = kept.0 ∙ h.1

module _ (κs : Lfts 3) (a : ArgsD gaps_call.signature κs) (r : ResD gaps_call.signature κs)
    (s : AtExit (ended_of 3 gaps_kinds.ps gaps_kinds.r) κs) (kept : gaps_contract.Post κs a r s) where
  pub gaps_as_case : {answer : Outcome} {after : List ℕ} → Holds (gaps a.0.now a.1.0.now a.1.1.0.now answer after)
      → (rate_answer r ≡ answer) × (s.1.1.0.now ≡ after)
  unfolding Holds
  gaps_as_case h = (kept.0 ∙ h.0, kept.1.0 ∙ h.1)

module _ (κs : Lfts 3) (a : ArgsD classes_call.signature κs) (r : ResD classes_call.signature κs)
    (s : AtExit (ended_of 3 classes_kinds.ps classes_kinds.r) κs) (kept : classes_contract.Post κs a r s) where
  pub classes_as_case : {answer : Outcome} {classes weights : List ℕ}
      → Holds (classifies a.0.now a.1.0.now a.1.1.0.now answer classes weights)
      → (class_answer r ≡ answer) × (s.1.0.now ≡ classes) × (s.1.1.0.now ≡ weights)
  unfolding Holds
  classes_as_case h = (kept.0 ∙ h.0, kept.1.0 ∙ h.1, kept.1.1.0 ∙ h.2)

module _ (κs : Lfts 2) (a : ArgsD archive_call.signature κs) (r : ResD archive_call.signature κs)
    (s : AtExit (ended_of 2 archive_kinds.ps archive_kinds.r) κs) (kept : archive_contract.Post κs a r s) where
  pub archive_as_case : {answer : Outcome} {after : List ℕ} → Holds (archives a.0.now a.1.0.now answer after)
      → (archive_answer r ≡ answer) × (s.1.0.now ≡ after)
  unfolding Holds
  archive_as_case h = (kept.0 ∙ h.0, kept.1.0 ∙ h.1)

module _ (κs : Lfts 4) (a : ArgsD board_call.signature κs) (r : ResD board_call.signature κs)
    (s : AtExit (ended_of 4 board_kinds.ps board_kinds.r) κs) (kept : board_contract.Post κs a r s) where
  pub board_as_case : {answer : Outcome} {times_after : List ℤ} {lines_after : List ℕ}
      → Holds (boards a.0.now a.1.0.now (window a.1.1.0 a.1.1.1.0 a.1.1.1.1.0) a.1.1.1.1.1.0.now a.1.1.1.1.1.1.0.now answer times_after lines_after)
      → (board_answer r ≡ answer) × (s.1.1.1.1.1.0.now ≡ times_after) × (s.1.1.1.1.1.1.0.now ≡ lines_after)
  unfolding Holds
  board_as_case h = (kept.0 ∙ h.0, kept.1.0 ∙ h.1, kept.1.1.0 ∙ h.2)
