-- `network::reader::Reader::read_line` meets its contract: at each return the tests that led there say which ground applies first, and where
-- none does the line is parsed with the cycle that it makes. Assumes nothing.
use mathlib.Core.Path.{◌≡◌, refl, ap₂, ◌∙◌}
use native.Mathlib.Omega.{arith}
use borrow.Author.Tests.{lt-ltb, le-ltb, le-leb, lt-leb}
use lib.ListN.{length}
use Rattle.network.specs.Divisor.{lcm}
use Rattle.network.specs.Network.{max_lines, max_cycle, operand_bytes, word, cycle}
use Rattle.network.specs.Grounds.{grounds, cut_off}
use Rattle.network.specs.Engine.Stored.{IsParsed}
use Rattle.network.specs.Network.{so_far}
use Rattle.network.specs.Numbers.{number_of}
use Rattle.network.specs.Engine.Stored.{net_of}
use Rattle.network.proofs.Laws.Stored.{has_totals}
use Rattle.network.proofs.Laws.Divisor.{lcm_of_least_common_multiple}
use Rattle.network.proofs.Laws.Grounds.{first_none, first_hit, first_miss, period_too_short, period_too_long, period_in_range}
use Rattle.network.proofs.reader.Reader.read_line.Goals as goal

pub returns-then-behind-lt2 : goal.returns-then-behind-lt2
unfolding IsParsed grounds cut_off operand_bytes number_of
returns-then-behind-lt2 c = let b = c.args.behind.now in
    let f = so_far (net_of c.args.self.now.rows) in
    let h = has_totals c.args.self.now.rows c.args.self.now.in_step.sound in
    rw c.at.ensures
    (first_hit _ _ _ _ (lt-ltb (length b) 2 (omega arith)))

pub returns-then-self-ge-MAX_LINES : goal.returns-then-self-ge-MAX_LINES
unfolding IsParsed grounds cut_off operand_bytes number_of
returns-then-self-ge-MAX_LINES c = let b = c.args.behind.now in
    let f = so_far (net_of c.args.self.now.rows) in
    let h = has_totals c.args.self.now.rows c.args.self.now.in_step.sound in
    rw c.at-then-self-ge-MAX_LINES.ensures
    (first_miss _ _ _ _ (le-ltb (length b) 2 (omega arith))
    ∙ first_hit _ _ _ _ (le-leb max_lines (length f.network.periods) (omega (arith, h.lines))))

pub returns-then-period-lt1 : goal.returns-then-period-lt1
unfolding IsParsed grounds cut_off operand_bytes number_of
returns-then-period-lt1 c = let b = c.args.behind.now in
    let w = c.word-period in
    let f = so_far (net_of c.args.self.now.rows) in
    let h = has_totals c.args.self.now.rows c.args.self.now.in_step.sound in
    rw c.at-then-period-lt1.ensures
    (first_miss _ _ _ _ (le-ltb (length b) 2 (omega arith))
    ∙ first_miss _ _ _ _ (lt-leb max_lines (length f.network.periods) (omega (arith, h.lines)))
    ∙ first_hit _ _ _ _ (period_too_short (word b 0) (omega (arith, w.ensures))))

pub returns-then-period-gt-MAX_PERIOD : goal.returns-then-period-gt-MAX_PERIOD
unfolding IsParsed grounds cut_off operand_bytes number_of
returns-then-period-gt-MAX_PERIOD c = let b = c.args.behind.now in
    let w = c.word-period in
    let f = so_far (net_of c.args.self.now.rows) in
    let h = has_totals c.args.self.now.rows c.args.self.now.in_step.sound in
    rw c.at-then-period-gt-MAX_PERIOD.ensures
    (first_miss _ _ _ _ (le-ltb (length b) 2 (omega arith))
    ∙ first_miss _ _ _ _ (lt-leb max_lines (length f.network.periods) (omega (arith, h.lines)))
    ∙ first_hit _ _ _ _ (period_too_long (word b 0) (omega (arith, w.ensures))))

pub returns-then-cycle-gt-MAX_CYCLE : goal.returns-then-cycle-gt-MAX_CYCLE
unfolding IsParsed grounds cut_off operand_bytes number_of
returns-then-cycle-gt-MAX_CYCLE c = let b = c.args.behind.now in
    let w = c.word-period in
    let l = c.brought_forward-cycle in
    let f = so_far (net_of c.args.self.now.rows) in
    let h = has_totals c.args.self.now.rows c.args.self.now.in_step.sound in
    let made : l.result ≡ lcm (cycle f.network) (word b 0) = lcm_of_least_common_multiple l.ensures ∙ ap₂ lcm h.cycle_is w.ensures in
    rw c.at-then-cycle-gt-MAX_CYCLE.ensures
    (first_miss _ _ _ _ (le-ltb (length b) 2 (omega arith))
    ∙ first_miss _ _ _ _ (lt-leb max_lines (length f.network.periods) (omega (arith, h.lines)))
    ∙ first_miss _ _ _ _ (period_in_range (word b 0) (omega (arith, w.ensures)) (omega (arith, w.ensures)))
    ∙ first_hit _ _ _ _ (lt-ltb max_cycle (lcm (cycle f.network) (word b 0)) (rw (← made) (omega arith))))

pub returns : goal.returns
unfolding IsParsed grounds cut_off operand_bytes
returns c = let b = c.args.behind.now in
    let w = c.word-period in
    let l = c.brought_forward-cycle in
    let f = so_far (net_of c.args.self.now.rows) in
    let h = has_totals c.args.self.now.rows c.args.self.now.in_step.sound in
    let made : l.result ≡ lcm (cycle f.network) (word b 0) = lcm_of_least_common_multiple l.ensures ∙ ap₂ lcm h.cycle_is w.ensures in (
      first_miss _ _ _ _ (le-ltb (length b) 2 (omega arith))
          ∙ first_miss _ _ _ _ (lt-leb max_lines (length f.network.periods) (omega (arith, h.lines)))
          ∙ first_miss _ _ _ _ (period_in_range (word b 0) (omega (arith, w.ensures)) (omega (arith, w.ensures)))
          ∙ first_miss _ _ _ _ (le-ltb max_cycle (lcm (cycle f.network) (word b 0)) (rw (← made) (omega arith)))
          ∙ first_none,
      refl,
      w.ensures,
      made,
    )
