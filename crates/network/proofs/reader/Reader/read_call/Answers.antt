-- `network::reader::Reader::read_call` meets its contract: `check_call` has tried the grounds, and a call that passes has its operands.
-- Assumes nothing.
use Prim.Native.Nat.{◌≤◌}
use mathlib.Core.Path.{◌≡◌, refl, sym, ap, ◌∙◌}
use mathlib.Core.Logic.{inl}
use native.Mathlib.Omega.{arith}
use lib.ListN.{length}
use Rattle.network.specs.Network.{so_far, calls_by_offset, call_of, line_operand, stop_operand, stated_offset}
use Rattle.network.specs.Numbers.{number_of}
use Rattle.network.specs.Grounds.{first, grounds}
use Rattle.network.specs.Engine.Stored.{net_of, IsParsed, check_of}
use Rattle.network.proofs.Laws.Grounds.{first_hit, first_miss, not_cut_off_call}
use Rattle.network.proofs.Laws.Results.{error_is}
use Rattle.network.proofs.reader.Reader.read_call.Goals as goal
use Rattle.network.proofs.reader.Reader.read_call.Goals.{After-check_call, Else-call_cut_off}

-- Where ground 3 doesn't apply the operands are there
four : (c : Else-call_cut_off) → 4 ≤ length c.args.behind.now
four c = not_cut_off_call _ (sym c.call_cut_off.ensures ∙ c.if-call_cut_off.false)

pub returns-then-call_cut_off : goal.returns-then-call_cut_off
unfolding IsParsed grounds number_of
returns-then-call_cut_off c = rw c.at.ensures (first_hit _ _ _ _ (sym c.call_cut_off.ensures ∙ c.if-call_cut_off.true))

pub check_call-requires : goal.check_call-requires
check_call-requires c = four c

pub bounds-behind-0 : goal.bounds-behind-0
bounds-behind-0 c = omega (arith, four (goal.at.bounds-behind-0 c).Else-call_cut_off)

pub bounds-behind-1 : goal.bounds-behind-1
bounds-behind-1 c = omega (arith, four (goal.at.bounds-behind-1 c).Else-call_cut_off)

pub word-requires : goal.word-requires
word-requires c = omega (arith, four (goal.at.word-requires c).Else-call_cut_off)

-- The grounds, where 3 doesn't apply, are those that `check_call` has tried
tried : (c : After-check_call) → first (grounds calls_by_offset (so_far (net_of c.args.self.now.rows)) c.args.at c.args.behind.now) ≡ check_of c.check_call.result
unfolding grounds
tried c =
    first_miss _ _ _ _ (sym c.call_cut_off.ensures ∙ c.if-call_cut_off.false) ∙ sym c.check_call.ensures.value

pub returns-in_err-check_call : goal.returns-in_err-check_call
unfolding IsParsed check_of
returns-in_err-check_call c =
    rw (error_is c.from_residual.result c.from_residual.ensures.1)
    (tried (goal.at.returns-in_err-check_call c).After-check_call ∙ ap check_of c.in_err-check_call.was)

pub returns : goal.returns
unfolding IsParsed check_of call_of line_operand stop_operand stated_offset
returns c = (
  tried (goal.at.returns c).After-check_call ∙ ap check_of c.in_ok-check_call.was,
  inl (refl, ap (call_of c.args.behind.now) c.word.ensures),
)
