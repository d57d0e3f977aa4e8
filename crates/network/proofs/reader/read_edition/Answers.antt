-- `network::reader::read_edition` meets its contract: at each return the tests that led there say which ground applies first. Assumes nothing.
use Prim.Native.Nat.{◌≤◌}
use mathlib.Core.Path.{refl, sym, ◌∙◌}
use native.Mathlib.Omega.{arith}
use borrow.Author.Tests.{eqb-true, eqb-false, lt-ltb, le-ltb}
use lib.ListN.{length}
use Rattle.network.specs.Network.{operand_bytes, edition_operand}
use Rattle.network.specs.Numbers.{number_of}
use Rattle.network.specs.Grounds.{grounds, cut_off}
use Rattle.network.specs.Engine.Stored.{IsParsed}
use Rattle.network.proofs.Laws.Grounds.{first_hit, first_miss, edition_too_low, edition_too_high, edition_fits_passes}
use Rattle.network.proofs.reader.read_edition.Goals as goal
use Rattle.network.proofs.reader.read_edition.Goals.{Else-is_empty}

-- Ground 3 is passed where the operand is there
some_behind : (c : Else-is_empty) → 1 ≤ length c.args.behind.now
some_behind c = let h = eqb-false (length c.args.behind.now) 0 (sym c.is_empty.ensures ∙ c.if-is_empty.false) in omega (arith, h)

pub returns-then-is_empty : goal.returns-then-is_empty
unfolding IsParsed grounds cut_off operand_bytes number_of
returns-then-is_empty c f =
    let h = eqb-true (length c.args.behind.now) 0 (sym c.is_empty.ensures ∙ c.if-is_empty.true) in
    rw c.at.ensures (first_hit _ _ _ _ (lt-ltb (length c.args.behind.now) 1 (omega (arith, h))))

pub returns-then-at-gt0 : goal.returns-then-at-gt0
unfolding IsParsed grounds cut_off operand_bytes number_of
returns-then-at-gt0 c f =
    rw c.at-then-at-gt0.ensures
    (first_miss _ _ _ _ (le-ltb (length c.args.behind.now) 1 (some_behind (goal.at.returns-then-at-gt0 c).Else-is_empty))
    ∙ first_hit _ _ _ _ (lt-ltb 0 c.args.at (omega (arith, c.if-at-gt0.true))))

pub returns-then-edition-lt-FIRST_EDITION : goal.returns-then-edition-lt-FIRST_EDITION
unfolding IsParsed grounds cut_off operand_bytes edition_operand number_of
returns-then-edition-lt-FIRST_EDITION c f =
    rw c.at-then-edition-lt-FIRST_EDITION.ensures
    (first_miss _ _ _ _ (le-ltb (length c.args.behind.now) 1 (some_behind (goal.at.returns-then-edition-lt-FIRST_EDITION c).Else-is_empty))
    ∙ first_miss _ _ _ _ (le-ltb 0 c.args.at (omega (arith, c.if-at-gt0.false)))
    ∙ first_hit _ _ _ _ (edition_too_low _ (omega (arith, c.if-edition-lt-FIRST_EDITION.true))))

pub returns-then-edition-gt-LATEST_EDITION : goal.returns-then-edition-gt-LATEST_EDITION
unfolding IsParsed grounds cut_off operand_bytes edition_operand number_of
returns-then-edition-gt-LATEST_EDITION c f =
    rw c.at-then-edition-gt-LATEST_EDITION.ensures
    (first_miss _ _ _ _ (le-ltb (length c.args.behind.now) 1 (some_behind (goal.at.returns-then-edition-gt-LATEST_EDITION c).Else-is_empty))
    ∙ first_miss _ _ _ _ (le-ltb 0 c.args.at (omega (arith, c.if-at-gt0.false)))
    ∙ first_hit _ _ _ _ (edition_too_high _ (omega (arith, c.if-edition-gt-LATEST_EDITION.true))))

pub returns : goal.returns
unfolding IsParsed edition_operand
returns c f = (
  edition_fits_passes f c.args.at c.args.behind.now
      (record {
        operands = some_behind (goal.at.returns c).Else-is_empty;
        opens = omega (arith, c.if-at-gt0.false);
        from = omega (arith, c.if-edition-lt-FIRST_EDITION.false);
        to = omega (arith, c.if-edition-gt-LATEST_EDITION.false);
      }),
  refl,
  refl,
)
