-- The gap of a line's two calls at a stop is the same whatever the line's start, since a start moves both, and by its period, which is its own
-- greatest divisor. Assumes nothing.
use Prim.Native.Nat.{ℕ, ◌/◌, ◌<◌, ◌≤◌}
use mathlib.Core.Path.{◌≡◌, sym, ap, ap₂, ◌∙◌}
use mathlib.Core.List.{List, []}
use native.Mathlib.Decide.{dec_lt}
use native.Mathlib.Omega.{arith}
use lib.IntN.{ℤ, pos, ◌-ℤ◌, ◌+ℤ◌, +ℤ_comm}
use lib.ListN.{get_or}
use Rattle.network.specs.declared.Call.{Call}
use Rattle.network.specs.Divisor.{gcd}
use Rattle.network.specs.Network.{Net}
use Rattle.network.specs.Gap.{residue, fold, gap_of}
use Rattle.network.specs.Rating.{arrival_of, period_of, gap_of_calls}
use Rattle.network.specs.Loops.{own_gap}
use Rattle.network.proofs.Laws.Divisor.{gcd_self}
use Rattle.network.proofs.Laws.Gap.{gap_of_shift}
use Rattle.network.proofs.Laws.Pairs.{gap_of_calls_symmetric}

module _ (n : Net) (c d : Call) where
  -- By any number that is the period
  pub own_gap_is_fold : (period : ℕ) → period ≡ period_of n c → fold period (residue (pos c.offset -ℤ pos d.offset) period) ≡ own_gap n c d
  unfolding own_gap
  own_gap_is_fold period e = ap (λ (t : ℕ). fold t (residue (pos c.offset -ℤ pos d.offset) t)) e

  pub own_gap_half : own_gap n c d ≤ period_of n c / 2
  unfolding own_gap fold
  own_gap_half = omega arith

  module _ (same : c.line ≡ d.line) where
    same_period : period_of n c ≡ period_of n d
    unfolding period_of
    same_period = ap (λ (line : ℕ). get_or n.periods line 0) same

    -- Both arrive at the same start plus an offset
    pub gap_of_calls_own : (starts : List ℤ) → gap_of_calls n starts c d ≡ own_gap n c d
    unfolding gap_of_calls gap_of own_gap arrival_of
    gap_of_calls_own starts =
        ap₂ (λ (x y : ℤ). gap_of x (period_of n c) y (period_of n d)) (+ℤ_comm start (pos c.offset))
        (ap (λ (line : ℕ). get_or starts line (pos 0) +ℤ pos d.offset) (sym same) ∙ +ℤ_comm start (pos d.offset))
        ∙ gap_of_shift (pos c.offset) (period_of n c) (pos d.offset) (period_of n d) start
        ∙ ap (λ (g : ℕ). fold g (residue (pos c.offset -ℤ pos d.offset) g)) (ap (gcd (period_of n c)) (sym same_period) ∙ gcd_self (period_of n c))
      where
        start : ℤ
        start = get_or starts c.line (pos 0)

  -- without a period there is no gap
  own_gap_none : period_of n c ≡ 0 → own_gap n c d ≡ 0
  unfolding own_gap fold
  own_gap_none e = omega (arith, e)

pub own_gap_symmetric : (n : Net) (c d : Call) → c.line ≡ d.line → own_gap n c d ≡ own_gap n d c
own_gap_symmetric n c d same = go (dec_lt 0 (period_of n c))
  where
    equal : period_of n c ≡ period_of n d
    equal = same_period n c d same

    go : Dec (0 < period_of n c) → own_gap n c d ≡ own_gap n d c
    go (yes some) =
        sym (gap_of_calls_own n c d same [])
        ∙ gap_of_calls_symmetric n [] c d some (omega (arith, some, equal))
        ∙ gap_of_calls_own n d c (sym same) []
    go (no none) = own_gap_none n c d (omega (arith, none)) ∙ sym (own_gap_none n d c (omega (arith, none, equal)))
