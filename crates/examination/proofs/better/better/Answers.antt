-- `examination::better::better` meets its contract: of the three cases only the one that was chosen can be the definition's, and there the
-- reference is the first, the second, or the empty part of the first. Assumes nothing.
use Prim.Native.Nat.{ℕ, ◌+◌}
use mathlib.Core.Path.{◌≡◌, refl, sym, ap, ◌∙◌}
use native.Mathlib.Omega.{arith}
use Rattle.network.specs.Reading.{read_file}
use Rattle.examination.specs.Sheets.{Better, first, second, neither, choice_of, better_of}
use Rattle.examination.proofs.better.better.Goals as goal
use Rattle.examination.proofs.better.better.Goals.{After-choose, Start}

-- The three differ
order : Better → ℕ
order first = 0
order second = 1
order neither = 2

-- What was chosen is what the definition says
chosen : (c : After-choose) → better_of (read_file c.args.file.now) c.args.first.now c.args.second.now ≡ choice_of c.choose.result
chosen c = sym c.choose.ensures.choice

-- A part from 0 on begins where the whole begins
same_place : (s : Start) → (s.args.first.ref_ptr.0, 0 + s.args.first.ref_ptr.1) ≡ s.args.first.ref_ptr
same_place s = ap (λ (k : ℕ). (s.args.first.ref_ptr.0, k)) (omega arith)

pub returns-in-First : goal.returns-in-First
unfolding choice_of order
returns-in-First c = let is = chosen (goal.at.returns-in-First c).After-choose ∙ ap choice_of c.in-First.is in
    record {
      first = λ e. refl;
      second = λ e. absurd (omega (arith, ap order (sym is ∙ e)));
      neither = λ e. absurd (omega (arith, ap order (sym is ∙ e)));
      bytes = c.choose.ensures.bytes;
    }

pub returns-in-Second : goal.returns-in-Second
unfolding choice_of order
returns-in-Second c = let is = chosen (goal.at.returns-in-Second c).After-choose ∙ ap choice_of c.in-Second.is in
    record {
      first = λ e. absurd (omega (arith, ap order (sym is ∙ e)));
      second = λ e. refl;
      neither = λ e. absurd (omega (arith, ap order (sym is ∙ e)));
      bytes = c.choose.ensures.bytes;
    }

pub returns-in-Neither : goal.returns-in-Neither
unfolding choice_of order
returns-in-Neither c = let is = chosen (goal.at.returns-in-Neither c).After-choose ∙ ap choice_of c.in-Neither.is in
    record {
      first = λ e. absurd (omega (arith, ap order (sym is ∙ e)));
      second = λ e. absurd (omega (arith, ap order (sym is ∙ e)));
      neither = λ e. (same_place (goal.at.returns-in-Neither c).Start, refl);
      bytes = c.choose.ensures.bytes;
    }
