-- `network::board::check_asked` meets its contract: the grounds are tried in their order. Assumes nothing.
use mathlib.Core.Path.{refl}
use borrow.Author.Tests.{eq-eqb, ne_eqb, lt-ltb, le-ltb}
use Rattle.std.proofs.lemmas.Result.{err_from_is_err_and}
use Rattle.network.specs.Grounds.{first}
use Rattle.network.specs.Numbers.{number_of}
use Rattle.network.specs.Engine.Due.{asked_grounds}
use Rattle.network.specs.Engine.Stored.{check_of}
use Rattle.network.proofs.board.check_asked.Goals as goal

pub returns-in_err-timetable-clause-grounds : goal.returns-in_err-timetable-clause-grounds
unfolding asked_grounds first check_of number_of
returns-in_err-timetable-clause-grounds c =
    let (_, is, gives) = err_from_is_err_and c.from_residual.result c.from_residual.ensures.1 in
    let (sheet, unfit) = c.in_err-timetable.ensures.err in
    rw (is, gives, sheet, ne_eqb _ _ unfit) refl

pub returns-then-stop-clause-grounds : goal.returns-then-stop-clause-grounds
unfolding asked_grounds first check_of number_of
returns-then-stop-clause-grounds c = rw (c.at.ensures, eq-eqb _ _ c.in_ok-timetable.ensures.fits, lt-ltb 63 c.args.stop c.if-stop.true) refl

pub returns-then-minutes-gt-MAX_MINUTES-clause-grounds : goal.returns-then-minutes-gt-MAX_MINUTES-clause-grounds
unfolding asked_grounds first check_of number_of
returns-then-minutes-gt-MAX_MINUTES-clause-grounds c = rw (
  c.at-then-minutes-gt-MAX_MINUTES.ensures,
  eq-eqb _ _ c.in_ok-timetable.ensures.fits,
  le-ltb 63 c.args.stop c.if-stop.false,
  lt-ltb 10080 c.args.minutes c.if-minutes-gt-MAX_MINUTES.true,
) refl

pub returns-clause-grounds : goal.returns-clause-grounds
unfolding asked_grounds first check_of
returns-clause-grounds c = rw (
  eq-eqb _ _ c.in_ok-timetable.ensures.fits,
  le-ltb 63 c.args.stop c.if-stop.false,
  le-ltb 10080 c.args.minutes c.if-minutes-gt-MAX_MINUTES.false,
) refl
