-- `network::reader::Reader::read_end` meets its contract: at each return the tests that led there say which ground applies first.
-- Assumes nothing.
use Prim.Native.Nat.{ℕ, ◌≤◌}
use mathlib.Core.Path.{◌≡◌, refl, sym, ap, ◌∙◌}
use mathlib.Core.Bool.{false, not, ◌||◌}
use mathlib.Core.List.{List}
use native.Mathlib.Omega.{arith}
use borrow.Author.Tests.{eqb-true, eqb-false, le-leb, lt-leb, eq-eqb, ne_eqb}
use lib.Dec.{eqb, ltb}
use lib.ListN.{length, get_or}
use Rattle.network.specs.Lists.{all_below}
use Rattle.network.specs.declared.reader.Reader.{Reader}
use Rattle.network.specs.Numbers.{number_of}
use Rattle.network.specs.Network.{Net, max_lines, calls_anywhere}
use Rattle.network.specs.Grounds.{grounds, some_line_silent}
use Rattle.network.specs.Engine.Stored.{net_of, Latest, IsParsed}
use Rattle.network.proofs.Laws.Lists.{or_left, or_right, or_none}
use Rattle.network.proofs.Laws.Tables.{all_below_same}
use Rattle.network.proofs.Laws.Grounds.{first_none, first_hit, first_miss}
use Rattle.network.proofs.Laws.Stored.{held_lines}
use Rattle.network.proofs.Laws.Latest.{latest_calls}
use Rattle.network.proofs.reader.Reader.read_end.Goals as goal
use Rattle.network.proofs.reader.Reader.read_end.Goals.{Else-not-every_line_calls}

-- The row says whether a line is silent
silent : (n : Net) (lines : ℕ) (latest : List ℕ) → lines ≤ max_lines → lines ≡ length n.periods → Latest latest n.calls
    → some_line_silent n ≡ not (all_below (λ line. ltb 0 (get_or latest line 0)) lines)
unfolding some_line_silent
silent n lines latest low is l =
    ap not
    (ap (all_below (λ line. calls_anywhere line n.calls)) (sym is)
    ∙ sym (all_below_same _ _ lines (λ line h. latest_calls latest n.calls l line (omega arith))))

-- The same of the reader
silent_here : (r : Reader) → some_line_silent (net_of r.rows) ≡ not (all_below (λ line. ltb 0 (get_or r.latest line 0)) r.rows.lines)
silent_here r = silent (net_of r.rows) r.rows.lines r.latest r.in_step.sound.lines (sym (held_lines r.rows r.in_step.sound)) r.in_step.latest_is

pub returns-then-self-eq0 : goal.returns-then-self-eq0
unfolding IsParsed grounds number_of
returns-then-self-eq0 c =
    let r = c.args.self.now in
    rw c.at.ensures (first_hit _ _ _ _ (or_left _ _ (eq-eqb (length (net_of r.rows).periods) 0 (omega (arith, held_lines r.rows r.in_step.sound)))))

pub returns-then-not-every_line_calls : goal.returns-then-not-every_line_calls
unfolding IsParsed grounds number_of
returns-then-not-every_line_calls c =
    let r = c.args.self.now in
    rw c.at-then-not-every_line_calls.ensures
    (first_hit _ _ _ _ (or_right (eqb (length (net_of r.rows).periods) 0) _ (silent_here r ∙ ap not (sym c.every_line_calls.ensures ∙ c.if-not-every_line_calls.true))))

-- Where there are lines and each has a call, ground 13 is passed
calls_here : (c : Else-not-every_line_calls) → (eqb (length (net_of c.args.self.now.rows).periods) 0 || some_line_silent (net_of c.args.self.now.rows)) ≡ false
calls_here c =
    let r = c.args.self.now in
    or_none _ _ (ne_eqb (length (net_of r.rows).periods) 0 (omega (arith, c.if-self-eq0.false, held_lines r.rows r.in_step.sound)))
    (silent_here r ∙ ap not (sym c.every_line_calls.ensures ∙ c.if-not-every_line_calls.false))

pub returns-then-not-is_empty : goal.returns-then-not-is_empty
unfolding IsParsed grounds number_of
returns-then-not-is_empty c =
    rw c.at-then-not-is_empty.ensures
    (first_miss _ _ _ _ (calls_here (goal.at.returns-then-not-is_empty c).Else-not-every_line_calls) ∙ first_hit _ _ _ _ (le-leb 1 (length c.args.behind.now) (omega (arith, eqb-false (length c.args.behind.now) 0 (sym c.is_empty.ensures ∙ c.if-not-is_empty.true)))))

pub returns : goal.returns
unfolding IsParsed grounds
returns c = (
  first_miss _ _ _ _ (calls_here (goal.at.returns c).Else-not-every_line_calls) ∙ first_miss _ _ _ _ (lt-leb 1 (length c.args.behind.now) (omega (arith, eqb-true (length c.args.behind.now) 0 (sym c.is_empty.ensures ∙ c.if-not-is_empty.false))))
      ∙ first_none,
  refl,
)
