-- `network::board::board` meets its contract: it answers the file's refusal, then the grounds that need no list, and then lists. Assumes nothing.
use mathlib.Core.Path.{sym}
use native.Mathlib.Omega.{arith}
use mir.Facts.{to_z-of_z}
use Rattle.std.proofs.lemmas.Result.{err_from_is_err_and}
use Rattle.network.specs.Board.{board_answer}
use Rattle.network.specs.Engine.Stored.{check_of}
use Rattle.network.proofs.Laws.BoardCall.{asked_pass, called_refused, called_asked, called_listed, called_from}
use Rattle.network.proofs.Laws.Stored.{bytes_of, reads_network, reads_refusal}
use Rattle.network.proofs.board.board.Goals as goal

pub list-requires : goal.list-requires
unfolding check_of
list-requires c = let (fits, low, short) = asked_pass _ _ _ _ (sym c.in_ok-timetable.ensures.grounds) in
    (omega (arith, low), short)

pub returns-in_err-network : goal.returns-in_err-network
unfolding board_answer
returns-in_err-network c =
    let (_, is, gives) = err_from_is_err_and c.from_residual.result c.from_residual.ensures.1 in
    let told = called_refused _ _ _ _ _ (reads_refusal c.in_err-network.ensures.value c.read_network-read.ensures.1) in
    record {
      answer = rw (is, gives) told.0;
      times = told.1.0;
      lines = told.1.1;
      bytes = bytes_of _ (λ i. (c.type_inv.file i).fits);
    }

pub returns-in_err-timetable : goal.returns-in_err-timetable
unfolding board_answer check_of
returns-in_err-timetable c =
    let (_, is, gives) = err_from_is_err_and c.from_residual-in_err-timetable.result c.from_residual-in_err-timetable.ensures.1 in
    let told = called_asked _ _ _ _ _ (reads_network c.in_ok-network.ensures.value c.read_network-read.ensures.1) (sym c.in_err-timetable.ensures.grounds) in
    record {
      answer = rw (is, gives) told.0;
      times = told.1.0;
      lines = told.1.1;
      bytes = bytes_of _ (λ i. (c.type_inv.file i).fits);
    }

pub returns : goal.returns
unfolding check_of
returns c =
    let (same, starts) = c.in_ok-timetable.ensures.ok in
    let told = called_from _ _ _ _ _ _ _ _ _ _ _ (to_z-of_z c.ranges.from)
    (called_listed _ _ _ _ _ (reads_network c.in_ok-network.ensures.value c.read_network-read.ensures.1) (sym c.in_ok-timetable.ensures.grounds)
    (rw (same, starts) at c.list.ensures.answer) (rw (same, starts) at c.list.ensures.times) (rw (same, starts) at c.list.ensures.lines)) in
    record {
      answer = told.0;
      times = told.1.0;
      lines = told.1.1;
      bytes = bytes_of _ (λ i. (c.type_inv.file i).fits);
    }
