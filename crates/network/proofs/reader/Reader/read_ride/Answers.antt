-- `network::reader::Reader::read_ride` meets its contract: behind ground 19 a ground of a call refuses 46 as it does 43, and the rest is
-- `read_following_call`'s. Assumes nothing.
use Prim.Native.Nat.{◌≤◌}
use mathlib.Core.Path.{◌≡◌, refl, sym, ap, ◌∙◌}
use mathlib.Core.Bool.{false}
use native.Mathlib.Omega.{arith}
use borrow.Author.Tests.{lt-ltb, le-ltb}
use Rattle.network.specs.Network.{so_far, first_edition, calls_by_offset}
use Rattle.network.specs.Numbers.{number_of}
use Rattle.network.specs.Grounds.{Passes, first, grounds, call_grounds, cut_off}
use Rattle.network.specs.Engine.Stored.{net_of, IsParsed, check_of}
use Rattle.network.proofs.Laws.Grounds.{cut_off_alike, not_cut_off_call, first_hit, first_miss, first_append_hit}
use Rattle.network.proofs.Laws.Results.{error_is}
use Rattle.network.proofs.Laws.Stored.{has_totals}
use Rattle.network.proofs.reader.Reader.read_ride.Goals as goal
use Rattle.network.proofs.reader.Reader.read_ride.Goals.{Else-call_cut_off, Else-self-gt-FIRST_EDITION, In_ok-check_call}

pub returns-then-call_cut_off : goal.returns-then-call_cut_off
unfolding IsParsed grounds number_of
returns-then-call_cut_off c = rw c.at.ensures (first_hit _ _ _ _ (cut_off_alike _ ∙ sym c.call_cut_off.ensures ∙ c.if-call_cut_off.true))

-- Where ground 3 doesn't apply the operands are there
not_cut : (c : Else-call_cut_off) → cut_off calls_by_offset c.args.behind.now ≡ false
not_cut c = sym c.call_cut_off.ensures ∙ c.if-call_cut_off.false

pub returns-then-self-gt-FIRST_EDITION : goal.returns-then-self-gt-FIRST_EDITION
unfolding IsParsed grounds number_of
returns-then-self-gt-FIRST_EDITION c =
    let r = c.args.self.now in
    rw c.at-then-self-gt-FIRST_EDITION.ensures
    (first_miss _ _ _ _ (cut_off_alike _ ∙ not_cut (goal.at.returns-then-self-gt-FIRST_EDITION c).Else-call_cut_off)
    ∙ first_hit _ _ _ _ (lt-ltb first_edition _ (omega (arith, (has_totals r.rows r.in_step.sound).edition, c.if-self-gt-FIRST_EDITION.true))))

-- Where ground 19 doesn't apply the edition is the first
first_here : (c : Else-self-gt-FIRST_EDITION) → (net_of c.args.self.now.rows).edition ≤ first_edition
first_here c = let r = c.args.self.now in omega (arith, (has_totals r.rows r.in_step.sound).edition, c.if-self-gt-FIRST_EDITION.false)

pub check_call-requires : goal.check_call-requires
check_call-requires c = not_cut_off_call _ (not_cut (goal.at.check_call-requires c).Else-call_cut_off)

pub returns-in_err-check_call : goal.returns-in_err-check_call
unfolding IsParsed grounds check_of
returns-in_err-check_call c =
    rw (error_is c.from_residual.result c.from_residual.ensures.1)
    (first_miss _ _ _ _ (cut_off_alike _ ∙ not_cut (goal.at.returns-in_err-check_call c).Else-call_cut_off)
    ∙ first_miss _ _ _ _ (le-ltb first_edition _ (first_here (goal.at.returns-in_err-check_call c).Else-self-gt-FIRST_EDITION))
    ∙ first_append_hit (call_grounds _ _ _) _ _ _ (sym c.check_call.ensures.value ∙ ap check_of c.in_err-check_call.was))

-- Where the grounds of a call are passed
passed : (c : In_ok-check_call) → first (call_grounds (so_far (net_of c.args.self.now.rows)) c.args.at c.args.behind.now) ≡ Passes
unfolding check_of
passed c = sym c.check_call.ensures.value ∙ ap check_of c.in_ok-check_call.was

pub read_following_call-requires : goal.read_following_call-requires
read_following_call-requires c = (
  not_cut_off_call _ (not_cut (goal.at.read_following_call-requires c).Else-call_cut_off),
  omega (arith, c.in_ok-check_call.ensures.line_stated refl, c.args.self.now.in_step.sound.lines),
)

pub returns : goal.returns
returns c = c.read_following_call.ensures (omega (arith, c.if-self-gt-FIRST_EDITION.false)) (passed (goal.at.returns c).In_ok-check_call)
