-- The order, clause by clause: each line names the theorems that show the clause. They stand on the pages of the three crates. A theorem is about every
-- call that keeps the contract in src/, which every call does, since every function is proved to meet its contract and to return; or, where its words name
-- no call, about the definitions of specs/ by which contracts answer (`every_turn`: about the invariant of the reader's loop). Assumes nothing.

-- ---- Demand 1

-- "Every file, sheet and row lent to a call may hold any content and have any length: the call returns"
pub use Rattle.network.proofs.Demands.{read_asks_nothing, rate_asks_nothing, weighted_asks_nothing, classes_asks_nothing, archive_asks_nothing}
pub use Rattle.network.proofs.StopBoard.{board_asks_nothing}
pub use Rattle.network.proofs.StopGaps.{gaps_asks_nothing}
pub use Rattle.search.proofs.Demands.{search_asks_nothing}
pub use Rattle.search.proofs.WantedGap.{wanted_asks_nothing}
pub use Rattle.examination.proofs.Demands.{better_asks_nothing, mark_asks_nothing}
pub use Rattle.examination.proofs.ExportDemands.{read_export_asks_nothing, rate_export_asks_nothing, weighted_export_asks_nothing}
pub use Rattle.examination.proofs.ExportDemands.{classes_export_asks_nothing, archive_export_asks_nothing}
pub use Rattle.examination.proofs.ExportSearch.{search_export_asks_nothing, mark_export_asks_nothing}
pub use Rattle.examination.proofs.ExportWanted.{wanted_export_asks_nothing}
pub use Rattle.examination.proofs.ExportBetter.{better_export_asks_nothing}
pub use Rattle.examination.proofs.HundredMark.{by_key_asks_nothing}
pub use Rattle.examination.proofs.ExportHundred.{hundred_export_asks_nothing, by_key_export_asks_nothing}
pub use Rattle.examination.proofs.ExportBoard.{board_export_asks_nothing}
pub use Rattle.examination.proofs.ExportGaps.{gaps_export_asks_nothing}
-- "faulty input and no other gets the refusal number and place that document 01 sets ..., and a refused call leaves each lent row exactly as it
-- found it"
pub use Rattle.network.proofs.Demands.{read_demand_1, file_gives, file_gives_no_other, rate_demand_1, weighted_demand_1, classes_demand_1, archive_demand_1}
pub use Rattle.network.proofs.StopBoard.{board_demand_1}
pub use Rattle.network.proofs.StopGaps.{gaps_demand_1}
pub use Rattle.search.proofs.Demands.{search_demand_1}
pub use Rattle.search.proofs.WantedGap.{wanted_demand_1}
pub use Rattle.examination.proofs.Demands.{mark_demand_1}
pub use Rattle.examination.proofs.ExportDemands.{read_export_demand_1, rate_export_demand_1, weighted_export_demand_1}
pub use Rattle.examination.proofs.ExportDemands.{classes_export_demand_1, archive_export_demand_1}
pub use Rattle.examination.proofs.ExportSearch.{search_export_demand_1, mark_export_demand_1}
pub use Rattle.examination.proofs.ExportWanted.{wanted_export_demand_1}
pub use Rattle.examination.proofs.HundredMark.{by_key_demand_1}
pub use Rattle.examination.proofs.ExportHundred.{hundred_export_demand_1, by_key_export_demand_1}
pub use Rattle.examination.proofs.ExportBoard.{board_export_demand_1}
pub use Rattle.examination.proofs.ExportGaps.{gaps_export_demand_1}
-- .. what each answer of the network's calls tells, and 2 wherever reading comes to a byte that is no command
pub use Rattle.network.proofs.Demands.{read_answer_accepted, read_answer_refused, rate_answer_rated, rate_answer_refused, ground_numbers}
pub use Rattle.network.proofs.Demands.{class_answer_classes, class_answer_refused, archive_answer_archived, archive_answer_refused}
pub use Rattle.network.proofs.StopBoard.{board_answer_listed, board_answer_refused}
pub use Rattle.network.proofs.Demands.{unknown_is_2}
-- .. by evaluation from bytes, every number written out: grounds 1 to 14 at their places, each before the next where both can apply, and the limits of
-- files; 15 after the file's own ground; and every call of the network answers and leaves its rows as a case of it says
pub use Rattle.network.proofs.Paper.{command_cases_hold, line_cases_hold, call_cases_hold, full_cases_hold, sheet_cases_hold}
pub use Rattle.network.proofs.Paper.{read_as_case, rate_as_case, weighted_as_case, gaps_as_case, classes_as_case, archive_as_case, board_as_case}
-- .. of start rows 16 at 0, and a refused file's own ground before it; and every call of the search and with a wanted gap answers and leaves its row so
pub use Rattle.search.proofs.Cases.{start_rows_refused, search_as_case, wanted_as_case}
-- "(better-of-two answers by its part alone)"
pub use Rattle.examination.proofs.Demands.{better_file_refused, better_neither_fits, better_only_first_fits, better_only_second_fits}
pub use Rattle.examination.proofs.Demands.{better_both_fit}
pub use Rattle.examination.proofs.Demands.{choice_of_first, choice_of_second, choice_of_neither}
pub use Rattle.examination.proofs.ExportBetter.{better_export_file_refused, better_export_neither_fits, better_export_only_first_fits}
pub use Rattle.examination.proofs.ExportBetter.{better_export_only_second_fits, better_export_both_fit}
pub use Rattle.examination.proofs.ExportBetter.{better_export_returns, better_export_names_the_part}
-- Document 01, "It hands a sheet over as 4 bytes per start, two's complement, most significant first; a byte count other than 4×lines is ground 15": a sheet
-- comes back from its bytes, both ends included, and every row of 4×lines bytes is a sheet's, of every call of an export that takes one
pub use Rattle.examination.proofs.SheetBytes.{starts_of_bytes, sheet_of_bytes, ends}
pub use Rattle.examination.proofs.ExportDemands.{rate_export_sheet, weighted_export_sheet}
pub use Rattle.examination.proofs.ExportSearch.{mark_export_sheet}
pub use Rattle.examination.proofs.ExportBetter.{better_export_sheets}
pub use Rattle.examination.proofs.ExportHundred.{hundred_export_sheet, by_key_export_sheets}
pub use Rattle.examination.proofs.ExportBoard.{board_export_sheet}
pub use Rattle.examination.proofs.ExportGaps.{gaps_export_sheet}
-- Document 01, "The read call returns the numbers of lines, served stops and calls, and the common cycle"
pub use Rattle.network.proofs.Demands.{read_answers}
pub use Rattle.examination.proofs.ExportDemands.{read_export_answers}
-- ---- Demand 2

-- "The rating of a timetable is the one defined over all trips of all lines, past and future, in source document 000, for every accepted network
-- and every sheet of whole-number start times"
pub use Rattle.network.proofs.Demands.{rate_demand_2, every_choice_has_one_rating}
pub use Rattle.examination.proofs.ExportDemands.{rate_export_demand_2, weighted_export_demand_2}
-- .. and stop by stop: the gap row has each served stop's gap over all trips, no other row has, and rate's least gap and sum are those of the row
pub use Rattle.network.proofs.StopGaps.{gap_row_is_gap_row, gap_row_only, rating_of_gap_row, gaps_fills, gaps_answers_as_rate, rate_of_gap_row, gap_rows}
pub use Rattle.examination.proofs.ExportGaps.{gaps_export_fills, gaps_export_as_rate, rate_export_of_gap_row}
-- "the search's answer, starts and number of tries are those of the walk in document 01"
pub use Rattle.search.proofs.Demands.{search_demand_2, search_answers}
pub use Rattle.search.proofs.Demands.{search_answer_finished, search_answer_stopped, search_answer_none, search_answer_refused}
pub use Rattle.examination.proofs.ExportSearch.{search_export_demand_2}
-- .. P1 to P9, one line alone, and P8 a try short of its end, by evaluation
pub use Rattle.search.proofs.Cases.{P1-to-P9, budgets_by_tries}
-- Document 01 on `best`, "stopped with none can't occur here, since the first 16 tries or fewer reach a full timetable": it does exactly where the budget is
-- below the number of lines, with the budget for its tries
pub use Rattle.search.proofs.Demands.{search_none_exactly}
pub use Rattle.examination.proofs.ExportSearch.{search_export_none_exactly}
-- Document 01, "Caps", "the smallest half of g, rounded down, over its pairs; and the whole part of C / (sum of C/T over its lines)", and A.2's caps, by the
-- tries that they lead to
pub use Rattle.search.proofs.Cases.{caps_by_tries}
-- The papers' numbers as a host sees them, by evaluation from bytes: P1 to P9, their marks, and each ground as one number; and every call of an export returns
-- and leaves what is evaluated there
pub use Rattle.examination.proofs.Paper.{read_numbers, refusal_numbers, rate_numbers, weighted_numbers, gaps_numbers}
pub use Rattle.examination.proofs.Paper.{classes_numbers, archive_numbers, board_numbers, search_numbers, wanted_numbers}
pub use Rattle.examination.proofs.Paper.{better_numbers, mark_numbers, key_numbers, file_before_all}
pub use Rattle.examination.proofs.Paper.{read_export_told, rate_export_told, weighted_export_told, gaps_export_told, classes_export_told}
pub use Rattle.examination.proofs.Paper.{archive_export_told, board_export_told, search_export_told, wanted_export_told, better_export_told}
pub use Rattle.examination.proofs.Paper.{mark_export_told, hundred_export_told, by_key_export_told}
-- ---- Demand 3

-- "Whenever the search finishes, with whichever budget, the starts it wrote have the rating it reports, and every other choice of one whole-number
-- start for each line, negative or large, has a smaller least gap, or the same least gap and a sum no larger. Whether it finished or stopped, the
-- tries it reports are at most 1 + T1 + T1×T2 + .. over the periods after the first. It finishes under every 32-bit budget of at least that sum,
-- where one exists"
pub use Rattle.search.proofs.Demands.{search_demand_3}
-- .. and that sum of one line, P1, P7, P8 and four lines of 60, by evaluation
pub use Rattle.search.proofs.Cases.{bounds_by_periods}
-- "with whichever budget": a finished search has the same answer, tries and starts under every larger one
pub use Rattle.search.proofs.Demands.{finished_with_more_tries}
pub use Rattle.examination.proofs.ExportSearch.{search_export_with_more_tries}
pub use Rattle.examination.proofs.ExportSearch.{search_export_demand_3}
-- "Every choice of whole-number starts rates the same over the lowest stops alone, with their weights, as over all stops, lowest stops and weights
-- being those in the rows that the class call fills by document 01"
pub use Rattle.network.proofs.Demands.{classes_demand_3}
pub use Rattle.examination.proofs.ExportDemands.{classes_export_demand_3}
-- .. 17, P9's two rows and rows with loops by evaluation
pub use Rattle.network.proofs.Paper.{class_cases_hold}
-- "And on every file and sheet, accepted or refused, the weighted rating and rate answer alike, with the same least gap and sum or the same refusal"
pub use Rattle.network.proofs.Demands.{weighted_answers_as_rate}
pub use Rattle.examination.proofs.ExportDemands.{weighted_export_as_rate}
-- ---- The marking of a candidate's sheet

-- Document 01, "Mark takes a sheet and a budget: the sheet's rating, the best rating, whether they are equal, and the tries; if the search stops, undecided, with
-- the sheet's rating and the tries": decided exactly where the walk comes to its end, with its best and its tries, and undecided exactly where it stops, with a
-- further try due. Decided and equal, no whole-number starts rate above the sheet; decided and not equal, some do
pub use Rattle.examination.proofs.Demands.{mark_means_what_it_says}
pub use Rattle.examination.proofs.Demands.{mark_answer_decided, mark_answer_undecided, mark_answer_refused}
pub use Rattle.examination.proofs.ExportSearch.{mark_export_means}
-- .. and so beside any search of one file and budget: decided exactly where it finishes, with its rating and tries, undecided exactly where it stops, with its tries
pub use Rattle.examination.proofs.Demands.{mark_beside_search}
pub use Rattle.examination.proofs.ExportSearch.{mark_export_beside_search}
pub use Rattle.examination.proofs.ExportHundred.{hundred_export_beside_search}
-- Many sheets by one search: beside the key better-of-two answers the sheet exactly where both have one rating
pub use Rattle.examination.proofs.ExportBetter.{better_export_beside_key}
-- ---- Document 02, A.1

-- "A writer is to produce the archive form of an accepted file into a lent row: lines in order, then calls by line and then stop, all as 43, then
-- 45. Reading the archive form gives the same periods and offsets. .. The answer is its length; bytes behind it stay, and a short row is untouched": which
-- byte stands at which place, and the order of any two calls, in plain numbers
pub use Rattle.network.proofs.Demands.{archive_writes}
pub use Rattle.examination.proofs.ExportDemands.{archive_export_writes}
-- .. 18 and the bytes of both editions by evaluation
pub use Rattle.network.proofs.Paper.{archive_cases_hold}
-- "the archive form of an archive form is itself": lent what a first call wrote, a second answers the same length and writes the same bytes
pub use Rattle.network.proofs.Demands.{archive_again}
pub use Rattle.examination.proofs.ExportDemands.{archive_export_again}
-- "Two files have equal archive bytes exactly when their periods and offsets are equal"; A.6: "archive bytes are from then on equal exactly when periods,
-- offsets and edition are"
pub use Rattle.network.proofs.Demands.{equal_archives}
pub use Rattle.examination.proofs.ExportDemands.{archive_export_equal}
-- Two files with the same periods and offsets, in either edition, a file and its archive form among them, are answered alike
pub use Rattle.network.proofs.Demands.{same_network_read_alike, same_network_rated_alike, same_network_weighted_alike, same_network_classified_alike}
pub use Rattle.network.proofs.StopBoard.{same_network_board_alike}
pub use Rattle.network.proofs.StopGaps.{same_network_gaps_alike}
pub use Rattle.search.proofs.Demands.{same_network_searched_alike}
pub use Rattle.search.proofs.WantedGap.{same_network_wanted_alike}
pub use Rattle.examination.proofs.SameNetwork.{same_network_better_alike, same_network_marked_alike, same_network_by_key_alike}
-- .. and by every export but the archive's: the same return value, and the same in every row
pub use Rattle.examination.proofs.ExportSameNetwork.{same_network_read_export_alike, same_network_rate_export_alike}
pub use Rattle.examination.proofs.ExportSameNetwork.{same_network_weighted_export_alike, same_network_gaps_export_alike}
pub use Rattle.examination.proofs.ExportSameNetwork.{same_network_classes_export_alike, same_network_board_export_alike}
pub use Rattle.examination.proofs.ExportSameNetwork.{same_network_search_export_alike, same_network_wanted_export_alike}
pub use Rattle.examination.proofs.ExportSameNetwork.{same_network_better_export_alike, same_network_mark_export_alike}
pub use Rattle.examination.proofs.ExportSameNetwork.{same_network_hundred_export_alike, same_network_by_key_export_alike}
-- ---- Document 02, A.2

-- "A line may now call twice at a stop; ground 9 is for the third. A gap is taken over pairs of different calls, also of one line, whose g is its period. A stop
-- counts as lone only with one call. .. Alike stops have equally many calls of each line, matched in order of offset, and are compared over every pair of calls,
-- also of one line": of every accepted file; ground 9 by `read_demand_1` and `call_cases_hold`, ratings and classes by demands 2 and 3, under these words too;
-- without loops gaps, ratings and alike stops are as before
pub use Rattle.network.proofs.LoopRoutes.{loop-routes}
-- "A line's own pair caps its stop at its exact gap, and the cap's sum has one term per call": under demand 2 by the tries that they lead to, `caps_by_tries`
pub use Rattle.search.proofs.Demands.{caps_bound}
-- "the archive form orders them so": `archive_writes` and `archive_export_writes`, under A.1 above, by which a line's calls at a stop stand in order of offset
-- "The certificate's best answer is from then on best under this wider gap": `search_demand_3`, `search_export_demand_3` and what a mark means, by `IsRating`,
-- which is over pairs of different calls

-- ---- Document 02, A.3

-- "Given a wanted gap (16 bits) and a budget, return a timetable with at least that gap, or none, or stopped, each with the tries. .. None is
-- answered only if no whole-number starts reach the gap. A wanted gap of 0 yields a timetable whenever the budget is at least the number of lines.
-- None and stopped leave the row untouched"; that "its length is tested as in the search" is under demand 1
pub use Rattle.search.proofs.WantedGap.{wanted_means}
pub use Rattle.examination.proofs.ExportWanted.{wanted_export_means}
-- "The walk is the usual one with another cut: a try is dropped if its upper least gap is below the wanted one, and the first full timetable ends it"
pub use Rattle.search.proofs.WantedGap.{wanted_walks}
pub use Rattle.search.proofs.WantedGap.{wanted_answer_found, wanted_answer_none, wanted_answer_stopped, wanted_answer_refused}
pub use Rattle.examination.proofs.ExportWanted.{wanted_export_walks}
pub use Rattle.search.proofs.Cases.{wanted_cases_hold}
-- Beside a finished search: a wanted gap up to the best least gap is never answered none, a larger one never found
pub use Rattle.search.proofs.WantedGap.{wanted_beside_search}
pub use Rattle.examination.proofs.ExportWanted.{wanted_export_beside_search}
-- Found and none are the same under every larger budget
pub use Rattle.search.proofs.WantedGap.{wanted_with_more_tries}
pub use Rattle.examination.proofs.ExportWanted.{wanted_export_with_more_tries}
-- ---- Document 02, A.4

-- "it is to keep a running value, brought forward at each `4C` from that value and the new period alone. After each accepted `4C` it is the least common
-- multiple of all periods so far": by divisibility, at every place to which reading comes; and so is the number that the reader keeps, at every turn
-- of its loop and when it returns. "Every answer is as before": the demands above, in the words they had
pub use Rattle.network.proofs.RunningCycle.{running_cycle, no_other_cycle, one_before_the_first, line_brings_forward, others_keep_it}
pub use Rattle.network.proofs.RunningCycle.{refused_line_keeps_nothing, every_turn, every_return}
pub use Rattle.network.proofs.RunningCycle.{cycles_on_the_way, eleven_is_refused, line_behind_calls}
-- ---- Document 02, A.5

-- "The mark is the whole part of 100×(sheet's least gap) / (best least gap), with the remainder. Where the best least gap is 0, the mark is 100,
-- remainder 0. .. Mark times best plus remainder gives back 100 times the sheet's gap, the remainder being smaller than a best above 0"; and the mark
-- is at most 100, exactly 100 where the least gaps are equal, and no other pair is so
pub use Rattle.examination.proofs.HundredMark.{mark_out_of_hundred}
-- .. so that a least gap of 1 beside a best of 3 has 33 remainder 1, and other cases by evaluation
pub use Rattle.examination.proofs.HundredMark.{cases_out_of_hundred}
-- "An undecided marking has no mark": the answer has no place for one, and the export 0 in both; the six places of `examination_mark` are as before
pub use Rattle.examination.proofs.ExportHundred.{hundred_export_means, hundred_export_as_mark, hundred_export_returns}
-- "borderline sheets are ranked by it": of two on one file the smaller least gap has the smaller mark, or the same and the smaller remainder
pub use Rattle.examination.proofs.HundredMark.{marks_have_one_best, marks_rank}
pub use Rattle.examination.proofs.ExportHundred.{hundred_export_ranks}
-- Many sheets by one search: beside its starts the call by a key has the same two numbers, by which sheets are ranked alike
pub use Rattle.examination.proofs.HundredMark.{by_key_divides, by_key_as_mark, key_answer_marked, key_answer_refused}
pub use Rattle.examination.proofs.ExportHundred.{by_key_export_returns, by_key_export_divides, by_key_export_of_search, by_key_export_ranks}
pub use Rattle.examination.proofs.ExportHundred.{by_key_export_as_mark}
-- ---- Document 02, A.6

-- "A new command 56 with one byte, the edition, may open a file; without it the edition is 1. Edition 2 has no 46": the edition of an accepted file is
-- the one that opens it, 1 or 2, and 2 exactly where the file begins with 56 02; in edition 2 reading meets no 46
pub use Rattle.network.proofs.Editions.{edition_of_accepted}
-- "Files without the command 56 are read as ever": as by the reading before, whole and place by place, and every file that was accepted still is, as the
-- same network; and what 56 01 or 56 02 before such a file changes
pub use Rattle.network.proofs.Editions.{read_as_ever, accepted_as_ever, edition_1_throughout, grounds_as_ever, edition_1_stated, edition_2_stated}
-- "edition 1's archive form has neither 46 nor 56. Edition 2 is archived with its 56 first, which adds two bytes to the length that ground 18 tests":
-- of the row that the archive call has written, under A.1 above, whose length has the two bytes
pub use Rattle.network.proofs.Editions.{archived_edition}
-- "The edition is part of the network: archive bytes are from then on equal exactly when periods, offsets and edition are": `equal_archives`, under A.1
-- above

-- "(19: 46 in edition 2, between grounds 3 and 7; 20: 56 not first, after ground 3; 21: edition unknown, after 20.)": with every other ground under
-- demand 1; the numbers and places of a file's refusals, and files of the request by evaluation
pub use Rattle.network.proofs.Editions.{retired_is_19, not_first_is_20, unknown_is_21, refusal_names, first_bytes_decide}
pub use Rattle.network.proofs.Editions.{edition_cases_refused, ride_cases_refused, accepted_cases, before_cases, archived_cases}
-- ---- Document 02, A.7

-- "Given a sheet, a stop, a first minute in 32 signed bits and a length in 32 bits, list every arrival from that minute until before minute plus length, by
-- time, then line, then offset. Each arrival stands there as often as calls produce it": the list over all trips, past and future, has one place for each
-- call of the file at the stop and each of its trips in the window, and no other; only one pair of rows is left
pub use Rattle.network.proofs.StopBoard.{board_is_board, trips_apart, IsBoard-rows, board_rows_only}
-- "Two lent rows take times (64 signed bits) and lines (bytes); what lies behind the list stays unchanged, and the answer is its count"
pub use Rattle.network.proofs.StopBoard.{board_lists, board_rows_length, board_times_in_window, board_lines_stated}
pub use Rattle.examination.proofs.ExportBoard.{board_export_lists, board_export_room}
-- "An unserved stop gives an empty list", which rows of any length, 0 too, take as found, and so has a length of 0
pub use Rattle.network.proofs.StopBoard.{board_call_unserved, board_call_no_minutes}
pub use Rattle.examination.proofs.ExportBoard.{board_export_unserved, board_export_no_minutes}
-- At most 32 arrivals for each minute, windows side by side, and starts and window moved together
pub use Rattle.network.proofs.StopBoard.{board_unserved, board_no_minutes, board_length_le, board_side_by_side, board_moved, board_rows_moved}
-- "Ground 15 precedes ground 8, which here has place 0. (22: length above 10,080, after 8; 23: a row shorter than the list, after 22; both at place 0.)": with
-- every other ground under demand 1, in this order (`BoardRefuses` of network/specs/Refusals.antt); 8 at place 0 is never a file's own, and of the export,
-- on an accepted file, 524,288 exactly where the sheet fits and the stop is above 63
pub use Rattle.network.proofs.StopBoard.{board_eight_at_zero}
pub use Rattle.examination.proofs.ExportBoard.{board_export_eight_at_zero}
-- The request's boards by evaluation; its grounds, each before the next, and P1's hour
pub use Rattle.network.proofs.Paper.{board_cases_hold}
pub use Rattle.network.proofs.StopBoard.{two_lines, half_open, one_minute, far_apart}
