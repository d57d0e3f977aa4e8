-- Each export keeps the contract of the library's function of its name, and asks nothing of what is lent: so what the pages of `examination` say of
-- a call of the function, they say of a call of the export. Assumes nothing.
use borrow.Fn.World.{ArgsD, ResD}
use borrow.Fn.Kinds.{ended_of}
use contract.Lifetimes.{Lfts}
use denote.Triple.Clauses.{AtExit}
use Rattle.examination_c.specs.contracts.examination_read as read_call
use Rattle.examination_c.proofs.examination_read.Kinds as read_kinds
use Rattle.examination_c.proofs.examination_read.Reads as read_export
use Rattle.examination.proofs.exports.examination_read.Reads as read_library
use Rattle.examination_c.specs.contracts.examination_rate as rate_call
use Rattle.examination_c.proofs.examination_rate.Kinds as rate_kinds
use Rattle.examination_c.proofs.examination_rate.Reads as rate_export
use Rattle.examination.proofs.exports.examination_rate.Reads as rate_library
use Rattle.examination_c.specs.contracts.examination_weighted as weighted_call
use Rattle.examination_c.proofs.examination_weighted.Kinds as weighted_kinds
use Rattle.examination_c.proofs.examination_weighted.Reads as weighted_export
use Rattle.examination.proofs.exports.examination_weighted.Reads as weighted_library
use Rattle.examination_c.specs.contracts.examination_gaps as gaps_call
use Rattle.examination_c.proofs.examination_gaps.Kinds as gaps_kinds
use Rattle.examination_c.proofs.examination_gaps.Reads as gaps_export
use Rattle.examination.proofs.exports.examination_gaps.Reads as gaps_library
use Rattle.examination_c.specs.contracts.examination_classes as classes_call
use Rattle.examination_c.proofs.examination_classes.Kinds as classes_kinds
use Rattle.examination_c.proofs.examination_classes.Reads as classes_export
use Rattle.examination.proofs.exports.examination_classes.Reads as classes_library
use Rattle.examination_c.specs.contracts.examination_archive as archive_call
use Rattle.examination_c.proofs.examination_archive.Kinds as archive_kinds
use Rattle.examination_c.proofs.examination_archive.Reads as archive_export
use Rattle.examination.proofs.exports.examination_archive.Reads as archive_library
use Rattle.examination_c.specs.contracts.examination_board as board_call
use Rattle.examination_c.proofs.examination_board.Kinds as board_kinds
use Rattle.examination_c.proofs.examination_board.Reads as board_export
use Rattle.examination.proofs.exports.examination_board.Reads as board_library
use Rattle.examination_c.specs.contracts.examination_search as search_call
use Rattle.examination_c.proofs.examination_search.Kinds as search_kinds
use Rattle.examination_c.proofs.examination_search.Reads as search_export
use Rattle.examination.proofs.exports.examination_search.Reads as search_library
use Rattle.examination_c.specs.contracts.examination_wanted as wanted_call
use Rattle.examination_c.proofs.examination_wanted.Kinds as wanted_kinds
use Rattle.examination_c.proofs.examination_wanted.Reads as wanted_export
use Rattle.examination.proofs.exports.examination_wanted.Reads as wanted_library
use Rattle.examination_c.specs.contracts.examination_better as better_call
use Rattle.examination_c.proofs.examination_better.Kinds as better_kinds
use Rattle.examination_c.proofs.examination_better.Reads as better_export
use Rattle.examination.proofs.exports.examination_better.Reads as better_library
use Rattle.examination_c.specs.contracts.examination_mark as mark_call
use Rattle.examination_c.proofs.examination_mark.Kinds as mark_kinds
use Rattle.examination_c.proofs.examination_mark.Reads as mark_export
use Rattle.examination.proofs.exports.examination_mark.Reads as mark_library
use Rattle.examination_c.specs.contracts.examination_hundred as hundred_call
use Rattle.examination_c.proofs.examination_hundred.Kinds as hundred_kinds
use Rattle.examination_c.proofs.examination_hundred.Reads as hundred_export
use Rattle.examination.proofs.exports.examination_hundred.Reads as hundred_library
use Rattle.examination_c.specs.contracts.examination_by_key as by_key_call
use Rattle.examination_c.proofs.examination_by_key.Kinds as by_key_kinds
use Rattle.examination_c.proofs.examination_by_key.Reads as by_key_export
use Rattle.examination.proofs.exports.examination_by_key.Reads as by_key_library

pub read_asks_nothing : (κs : Lfts 2) (a : ArgsD read_call.signature κs) → read_export.Pre κs a
read_asks_nothing κs a = tt

pub read_keeps : (κs : Lfts 2) (a : ArgsD read_call.signature κs) (r : ResD read_call.signature κs)
    (s : AtExit (ended_of 2 read_kinds.ps read_kinds.r) κs) → read_export.Post κs a r s → read_library.Post κs a r s
read_keeps κs a r s kept = kept

pub rate_asks_nothing : (κs : Lfts 3) (a : ArgsD rate_call.signature κs) → rate_export.Pre κs a
rate_asks_nothing κs a = tt

pub rate_keeps : (κs : Lfts 3) (a : ArgsD rate_call.signature κs) (r : ResD rate_call.signature κs)
    (s : AtExit (ended_of 3 rate_kinds.ps rate_kinds.r) κs) → rate_export.Post κs a r s → rate_library.Post κs a r s
rate_keeps κs a r s kept = kept

pub weighted_asks_nothing : (κs : Lfts 3) (a : ArgsD weighted_call.signature κs) → weighted_export.Pre κs a
weighted_asks_nothing κs a = tt

pub weighted_keeps : (κs : Lfts 3) (a : ArgsD weighted_call.signature κs) (r : ResD weighted_call.signature κs)
    (s : AtExit (ended_of 3 weighted_kinds.ps weighted_kinds.r) κs) → weighted_export.Post κs a r s → weighted_library.Post κs a r s
weighted_keeps κs a r s kept = kept

pub gaps_asks_nothing : (κs : Lfts 4) (a : ArgsD gaps_call.signature κs) → gaps_export.Pre κs a
gaps_asks_nothing κs a = tt

pub gaps_keeps : (κs : Lfts 4) (a : ArgsD gaps_call.signature κs) (r : ResD gaps_call.signature κs)
    (s : AtExit (ended_of 4 gaps_kinds.ps gaps_kinds.r) κs) → gaps_export.Post κs a r s → gaps_library.Post κs a r s
gaps_keeps κs a r s kept = kept

pub classes_asks_nothing : (κs : Lfts 4) (a : ArgsD classes_call.signature κs) → classes_export.Pre κs a
classes_asks_nothing κs a = tt

pub classes_keeps : (κs : Lfts 4) (a : ArgsD classes_call.signature κs) (r : ResD classes_call.signature κs)
    (s : AtExit (ended_of 4 classes_kinds.ps classes_kinds.r) κs) → classes_export.Post κs a r s → classes_library.Post κs a r s
classes_keeps κs a r s kept = kept

pub archive_asks_nothing : (κs : Lfts 2) (a : ArgsD archive_call.signature κs) → archive_export.Pre κs a
archive_asks_nothing κs a = tt

pub archive_keeps : (κs : Lfts 2) (a : ArgsD archive_call.signature κs) (r : ResD archive_call.signature κs)
    (s : AtExit (ended_of 2 archive_kinds.ps archive_kinds.r) κs) → archive_export.Post κs a r s → archive_library.Post κs a r s
archive_keeps κs a r s kept = kept

pub board_asks_nothing : (κs : Lfts 5) (a : ArgsD board_call.signature κs) → board_export.Pre κs a
board_asks_nothing κs a = tt

pub board_keeps : (κs : Lfts 5) (a : ArgsD board_call.signature κs) (r : ResD board_call.signature κs)
    (s : AtExit (ended_of 5 board_kinds.ps board_kinds.r) κs) → board_export.Post κs a r s → board_library.Post κs a r s
board_keeps κs a r s kept = kept

pub search_asks_nothing : (κs : Lfts 3) (a : ArgsD search_call.signature κs) → search_export.Pre κs a
search_asks_nothing κs a = tt

pub search_keeps : (κs : Lfts 3) (a : ArgsD search_call.signature κs) (r : ResD search_call.signature κs)
    (s : AtExit (ended_of 3 search_kinds.ps search_kinds.r) κs) → search_export.Post κs a r s → search_library.Post κs a r s
search_keeps κs a r s kept = kept

pub wanted_asks_nothing : (κs : Lfts 3) (a : ArgsD wanted_call.signature κs) → wanted_export.Pre κs a
wanted_asks_nothing κs a = tt

pub wanted_keeps : (κs : Lfts 3) (a : ArgsD wanted_call.signature κs) (r : ResD wanted_call.signature κs)
    (s : AtExit (ended_of 3 wanted_kinds.ps wanted_kinds.r) κs) → wanted_export.Post κs a r s → wanted_library.Post κs a r s
wanted_keeps κs a r s kept = kept

pub better_asks_nothing : (κs : Lfts 3) (a : ArgsD better_call.signature κs) → better_export.Pre κs a
better_asks_nothing κs a = tt

pub better_keeps : (κs : Lfts 3) (a : ArgsD better_call.signature κs) (r : ResD better_call.signature κs)
    (s : AtExit (ended_of 3 better_kinds.ps better_kinds.r) κs) → better_export.Post κs a r s → better_library.Post κs a r s
better_keeps κs a r s kept = kept

pub mark_asks_nothing : (κs : Lfts 3) (a : ArgsD mark_call.signature κs) → mark_export.Pre κs a
mark_asks_nothing κs a = tt

pub mark_keeps : (κs : Lfts 3) (a : ArgsD mark_call.signature κs) (r : ResD mark_call.signature κs)
    (s : AtExit (ended_of 3 mark_kinds.ps mark_kinds.r) κs) → mark_export.Post κs a r s → mark_library.Post κs a r s
mark_keeps κs a r s kept = kept

pub hundred_asks_nothing : (κs : Lfts 4) (a : ArgsD hundred_call.signature κs) → hundred_export.Pre κs a
hundred_asks_nothing κs a = tt

pub hundred_keeps : (κs : Lfts 4) (a : ArgsD hundred_call.signature κs) (r : ResD hundred_call.signature κs)
    (s : AtExit (ended_of 4 hundred_kinds.ps hundred_kinds.r) κs) → hundred_export.Post κs a r s → hundred_library.Post κs a r s
hundred_keeps κs a r s kept = kept

pub by_key_asks_nothing : (κs : Lfts 4) (a : ArgsD by_key_call.signature κs) → by_key_export.Pre κs a
by_key_asks_nothing κs a = tt

pub by_key_keeps : (κs : Lfts 4) (a : ArgsD by_key_call.signature κs) (r : ResD by_key_call.signature κs)
    (s : AtExit (ended_of 4 by_key_kinds.ps by_key_kinds.r) κs) → by_key_export.Post κs a r s → by_key_library.Post κs a r s
by_key_keeps κs a r s kept = kept
