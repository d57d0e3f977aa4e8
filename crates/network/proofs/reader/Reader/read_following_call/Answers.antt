-- `network::reader::Reader::read_following_call` meets its contract: ground 19 and the grounds of a call are passed, so 11 and 12 are left, and the offset is
-- that of the line's latest call plus the ride. Assumes nothing.
use Prim.Native.Nat.{ℕ, ◌+◌, ◌-◌, ◌<◌, ◌≤◌}
use mathlib.Core.Path.{◌≡◌, refl, sym, ap, ◌∙◌}
use mathlib.Core.Bool.{true, false, not}
use mathlib.Core.List.{List, ◌∷◌, ◌++◌}
use mathlib.Core.Logic.{inr}
use native.Mathlib.Omega.{arith}
use borrow.Author.Tests.{lt-ltb, le-ltb}
use lib.Dec.{ltb}
use lib.ListN.{length, get_or}
use Rattle.network.specs.Grounds.{Passes}
use Rattle.network.specs.declared.reader.Reader.{Reader}
use Rattle.network.specs.Numbers.{number_of}
use Rattle.network.specs.Network.{SoFar, so_far, first_edition, max_lines, max_offset, calls_by_ride, operand_bytes, calls_anywhere, word, call_of, line_operand, stop_operand, ride_offset}
use Rattle.network.specs.Grounds.{Ground, ◌at◌when◌, first, grounds, call_grounds, cut_off}
use Rattle.network.specs.Engine.Stored.{net_of, Latest, IsParsed}
use Rattle.network.proofs.Laws.Grounds.{first_append_miss, first_none, first_hit, first_miss}
use Rattle.network.proofs.Laws.Stored.{has_totals}
use Rattle.network.proofs.Laws.Latest.{latest_calls, latest_offset_is}
use Rattle.network.proofs.reader.Reader.read_following_call.Goals as goal

-- What the row's place says of the line that the operands name
module _ (f : SoFar) (p : ℕ) (behind latest : List ℕ) (l : Latest latest f.network.calls) (low : get_or behind 0 0 < max_lines)
    (enough : 4 ≤ length behind) (old : f.network.edition ≤ first_edition) (passes : first (call_grounds f p behind) ≡ Passes) (before : ℕ) (is : before ≡ get_or latest (get_or behind 0 0) 0) where
  -- Grounds 3 and 19 and those that 46 shares with 43 are passed
  passed : (hs : List Ground)
      → first ((3 at p when cut_off calls_by_ride behind) ∷ (19 at p when ltb first_edition f.network.edition) ∷ call_grounds f p behind ++ hs) ≡ first hs
  unfolding cut_off operand_bytes
  passed hs =
      first_miss _ _ _ _ (le-ltb (length behind) 4 enough)
      ∙ first_miss _ _ _ _ (le-ltb first_edition f.network.edition old)
      ∙ first_append_miss (call_grounds f p behind) hs passes

  none : before ≡ 0 → calls_anywhere (line_operand behind) f.network.calls ≡ false
  unfolding line_operand
  none e = sym (latest_calls latest f.network.calls l (get_or behind 0 0) low) ∙ le-ltb 0 (get_or latest (get_or behind 0 0) 0) (omega arith)

  some : 0 < before → calls_anywhere (line_operand behind) f.network.calls ≡ true
  unfolding line_operand
  some h = sym (latest_calls latest f.network.calls l (get_or behind 0 0) low) ∙ lt-ltb 0 (get_or latest (get_or behind 0 0) 0) (omega arith)

  ride : 0 < before → ride_offset f.network behind ≡ before - 1 + word behind 2
  unfolding ride_offset line_operand
  ride h = omega (arith, latest_offset_is latest f.network.calls l (get_or behind 0 0) low (some h))

-- The same of the reader, whose row has for each line one more than its latest call's offset
module _ (r : Reader) (p : ℕ) (behind : List ℕ) (low : get_or behind 0 0 < max_lines) (enough : 4 ≤ length behind) (old : r.rows.edition ≤ first_edition)
    (passes : first (call_grounds (so_far (net_of r.rows)) p behind) ≡ Passes) where
  abbrev f : SoFar
  f = so_far (net_of r.rows)

  abbrev before : ℕ
  before = get_or r.latest (get_or behind 0 0) 0

  first_here : f.network.edition ≤ first_edition
  first_here = omega (arith, (has_totals r.rows r.in_step.sound).edition)

  passed_here : (hs : List Ground)
      → first ((3 at p when cut_off calls_by_ride behind) ∷ (19 at p when ltb first_edition f.network.edition) ∷ call_grounds f p behind ++ hs) ≡ first hs
  passed_here hs = passed f p behind r.latest r.in_step.latest_is low enough first_here passes before refl hs

  none_here : before ≡ 0 → calls_anywhere (line_operand behind) f.network.calls ≡ false
  none_here = none f p behind r.latest r.in_step.latest_is low enough first_here passes before refl

  some_here : 0 < before → calls_anywhere (line_operand behind) f.network.calls ≡ true
  some_here = some f p behind r.latest r.in_step.latest_is low enough first_here passes before refl

  made : {ride : ℕ} → 0 < before → ride ≡ word behind 2 → ride_offset f.network behind ≡ before - 1 + ride
  made above is = ride f p behind r.latest r.in_step.latest_is low enough first_here passes before refl above ∙ ap (λ (o : ℕ). before - 1 + o) (sym is)

pub returns-then-before-eq0 : goal.returns-then-before-eq0
unfolding IsParsed grounds number_of
returns-then-before-eq0 c old q =
    let (enough, low) = c.requires in
    let r = c.args.self.now in
    let b = c.args.behind.now in
    rw c.at.ensures (passed_here r c.args.at b low enough old q _ ∙ first_hit _ _ _ _ (ap not (none_here r c.args.at b low enough old q c.if-before-eq0.true)))

pub returns-then-offset : goal.returns-then-offset
unfolding IsParsed grounds number_of
returns-then-offset c old q =
    let (enough, low) = c.requires in
    let r = c.args.self.now in
    let b = c.args.behind.now in
    let above : 0 < before r c.args.at b low enough old q = omega (arith, c.if-before-eq0.false) in
    rw c.at-then-offset.ensures
    (passed_here r c.args.at b low enough old q _
    ∙ first_miss _ _ _ _ (ap not (some_here r c.args.at b low enough old q above))
    ∙ first_hit _ _ _ _ (lt-ltb max_offset _ (rw (made r c.args.at b low enough old q above c.word.ensures) (omega (arith, c.if-offset.true)))))

pub returns : goal.returns
unfolding IsParsed grounds call_of line_operand stop_operand
returns c old q =
    let (enough, low) = c.requires in
    let r = c.args.self.now in
    let b = c.args.behind.now in
    let above : 0 < before r c.args.at b low enough old q = omega (arith, c.if-before-eq0.false) in (
      passed_here r c.args.at b low enough old q _
          ∙ first_miss _ _ _ _ (ap not (some_here r c.args.at b low enough old q above))
          ∙ first_miss _ _ _ _ (le-ltb max_offset _ (rw (made r c.args.at b low enough old q above c.word.ensures) (omega (arith, c.if-offset.false))))
          ∙ first_none,
      inr (refl, ap (call_of b) (sym (made r c.args.at b low enough old q above c.word.ensures))),
    )
