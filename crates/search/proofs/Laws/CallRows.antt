-- What the rows of the walk tell of the network that they hold: the lines, divisors and gaps of its calls. Assumes nothing.
use Prim.Native.Nat.{ℕ, zero, suc, ◌+◌, ◌*◌, ◌-◌, ◌/◌, ◌%◌, ◌<◌, ◌≤◌}
use mathlib.Core.Path.{◌≡◌, sym, ap, ap₂, ◌∙◌}
use mathlib.Core.List.{List, map}
use native.Mathlib.Nat.{le_trans}
use native.Mathlib.Omega.{arith}
use lib.Dec.{eqb}
use lib.IntN.{ℤ, pos, ◌-ℤ◌}
use lib.ListN.{length, get_or}
use Rattle.network.specs.declared.Call.{Call}
use Rattle.network.specs.Divisor.{gcd}
use Rattle.network.specs.Network.{Net, max_period, max_stop, max_offset}
use Rattle.network.specs.Valid.{no_call}
use Rattle.network.specs.Gap.{fold, residue}
use Rattle.network.specs.Rating.{arrival_of, period_of, gap_of_calls}
use Rattle.network.proofs.Laws.Members.{All, all_append, keep_all}
use Rattle.network.proofs.Laws.Divisor.{gcd_pos_left, gcd_le_left}
use Rattle.network.proofs.Laws.Integers.{difference_pos, difference_sub, difference_add_multiple, eq_of_difference}
use Rattle.network.proofs.Laws.Packed.{InLimits, packed_line, packed_offset, packed_stop}
use Rattle.network.proofs.Laws.Gaps.{residue_eq_of_multiple, arrival_of_pos, gap_of_calls_is_fold, period_of_is, period_of_le, period_of_pos}
use Rattle.network.proofs.Laws.Gaps.{residue_pos}
use Rattle.search.specs.Engine.Layout.{by_line}
use Rattle.search.specs.Engine.Representation.{NetworkRows, calls_by_line, reciprocal, with_reciprocal}
use Rattle.search.proofs.Laws.Layout.{length_by_line_all, by_line_line_lt}
use Rattle.search.proofs.Laws.Codes.{line_in, stop_in, offset_in}
use Rattle.search.proofs.Laws.Reciprocal.{divisor_part, reciprocal_part}

-- What holds of every call holds of every call in line order
pub by_line_all : (P : Call → Type 0) (calls : List Call) → All no_call P calls → (k : ℕ) → All no_call P (by_line calls k)
unfolding by_line
by_line_all P calls h zero = λ i j. absurd (omega arith)
by_line_all P calls h (suc k) = all_append no_call P (by_line calls k) _ (by_line_all P calls h k) (keep_all no_call (λ (c : Call). eqb c.line k) P calls (λ i b e. h i b))

-- A difference reduced by a divisor, computed with naturals
pub residue_of_difference : (g a b m : ℕ) → b ≤ g * m → (a + g * m - b) % g ≡ residue (pos a -ℤ pos b) g
residue_of_difference g a b m h =
    sym (residue_pos (a + g * m - b) g)
    ∙ residue_eq_of_multiple (pos (a + g * m - b)) (pos a -ℤ pos b) (pos m) g
    (eq_of_difference (difference_pos (a + g * m - b)) (difference_add_multiple (difference_sub (difference_pos a) (difference_pos b)) (difference_pos m) g)
    (omega arith))

arrival_of_lem : (starts : List ℕ) (line offset : ℕ) (c : Call) → line ≡ c.line → offset ≡ c.offset → pos (get_or starts line 0 + offset) ≡ arrival_of (map pos starts) c
arrival_of_lem starts line offset c e f = ap₂ (λ (a b : ℕ). pos (get_or starts a 0 + b)) e f ∙ sym (arrival_of_pos starts c)

module _ {net : Net} {codes previous divisors lines : List ℕ} (l : NetworkRows net codes previous divisors lines) where
  -- all calls are in line order
  pub length_calls_by_line : length (calls_by_line net) ≡ length net.calls
  length_calls_by_line = length_by_line_all net.calls (length net.periods) l.valid.call_line

  pub calls_few : length net.calls ≤ 256
  calls_few = l.valid.calls

  module _ (i : ℕ) (h : i < length net.calls) where
    pub line_low : (get_or (calls_by_line net) i no_call).line < length net.periods
    line_low = by_line_line_lt net.calls (length net.periods) (length net.periods) i (omega arith) (omega (arith, length_calls_by_line))

    pub stop_low : (get_or (calls_by_line net) i no_call).stop < 64
    stop_low =
        omega
        (arith, by_line_all (λ (c : Call). c.stop ≤ max_stop) net.calls l.valid.call_stop (length net.periods) i (omega (arith, length_calls_by_line)))

    in-limits : InLimits (get_or (calls_by_line net) i no_call)
    in-limits =
        record {
          line = omega (arith, line_low, l.valid.lines);
          stop = omega (arith, stop_low);
          offset = by_line_all (λ (c : Call). c.offset ≤ max_offset) net.calls l.valid.call_offset (length net.periods) i (omega (arith, length_calls_by_line));
        }

    pub line_of : line_in (get_or codes i 0) ≡ (get_or (calls_by_line net) i no_call).line
    line_of = ap line_in (l.code_of i h) ∙ packed_line _ in-limits

    pub stop_of : stop_in (get_or codes i 0) ≡ (get_or (calls_by_line net) i no_call).stop
    stop_of = ap stop_in (l.code_of i h) ∙ packed_stop _ in-limits

    offset_of : offset_in (get_or codes i 0) ≡ (get_or (calls_by_line net) i no_call).offset
    offset_of = ap offset_in (l.code_of i h) ∙ packed_offset _ in-limits

    line_row_low : line_in (get_or codes i 0) < length net.periods
    line_row_low = rw line_of line_low

    pub line_row_lt_16 : line_in (get_or codes i 0) < 16
    line_row_lt_16 = omega (arith, line_row_low, l.valid.lines)

  -- the divisor of two calls
  module _ (i j : ℕ) (hi : i < length net.calls) (hj : j < length net.calls) where
    word_is :
        get_or divisors (line_in (get_or codes i 0) * 16 + line_in (get_or codes j 0)) 0
        ≡ with_reciprocal (gcd (period_of net (get_or (calls_by_line net) j no_call)) (period_of net (get_or (calls_by_line net) i no_call)))
    word_is =
        l.divisor_of (line_in (get_or codes i 0)) (line_in (get_or codes j 0)) (line_row_low i hi) (line_row_low j hj)
        ∙ ap₂ (λ (a b : ℕ). with_reciprocal (gcd (get_or net.periods a 0) (get_or net.periods b 0))) (line_of j hj) (line_of i hi)
        ∙ sym (ap₂ (λ (a b : ℕ). with_reciprocal (gcd a b)) (period_of_is net _) (period_of_is net _))

    period_pos : 0 < period_of net (get_or (calls_by_line net) j no_call)
    period_pos = period_of_pos l.valid _ (line_low j hj)

    period_le : period_of net (get_or (calls_by_line net) j no_call) ≤ max_period
    period_le = period_of_le l.valid _ (line_low j hj)

    divisor_of_calls_pos : 0 < gcd (period_of net (get_or (calls_by_line net) j no_call)) (period_of net (get_or (calls_by_line net) i no_call))
    divisor_of_calls_pos = gcd_pos_left _ _ period_pos

    gcd_low : gcd (period_of net (get_or (calls_by_line net) j no_call)) (period_of net (get_or (calls_by_line net) i no_call)) ≤ 1440
    gcd_low = le_trans (gcd_le_left _ _ period_pos) period_le

    divisor_is :
        get_or divisors (line_in (get_or codes i 0) * 16 + line_in (get_or codes j 0)) 0 % 2048
        ≡ gcd (period_of net (get_or (calls_by_line net) j no_call)) (period_of net (get_or (calls_by_line net) i no_call))
    divisor_is = ap (λ (w : ℕ). w % 2048) word_is ∙ divisor_part _ divisor_of_calls_pos (omega (arith, gcd_low))

    pub divisor_pos : 0 < get_or divisors (line_in (get_or codes i 0) * 16 + line_in (get_or codes j 0)) 0 % 2048
    divisor_pos = rw divisor_is divisor_of_calls_pos

    pub divisor_le : get_or divisors (line_in (get_or codes i 0) * 16 + line_in (get_or codes j 0)) 0 % 2048 ≤ 1440
    divisor_le = rw divisor_is gcd_low

    pub reciprocal_is :
        get_or divisors (line_in (get_or codes i 0) * 16 + line_in (get_or codes j 0)) 0 / 2048 ≡ reciprocal (get_or divisors (line_in (get_or codes i 0) * 16 + line_in (get_or codes j 0)) 0 % 2048)
    reciprocal_is = ap (λ (w : ℕ). w / 2048) word_is ∙ reciprocal_part _ divisor_of_calls_pos (omega (arith, gcd_low)) ∙ ap reciprocal (sym divisor_is)

    -- the gap of two calls, by their arrivals and that divisor
    pub gap_of_rows :
        (starts : List ℕ)
        → fold (get_or divisors (line_in (get_or codes i 0) * 16 + line_in (get_or codes j 0)) 0 % 2048)
        (residue (pos (get_or starts (line_in (get_or codes j 0)) 0 + offset_in (get_or codes j 0)) -ℤ pos (get_or starts (line_in (get_or codes i 0)) 0 + offset_in (get_or codes i 0)))
        (get_or divisors (line_in (get_or codes i 0) * 16 + line_in (get_or codes j 0)) 0 % 2048))
        ≡ gap_of_calls net (map pos starts) (get_or (calls_by_line net) j no_call) (get_or (calls_by_line net) i no_call)
    gap_of_rows starts =
        ap₂ (λ (a b : ℤ). fold (get_or divisors (line_in (get_or codes i 0) * 16 + line_in (get_or codes j 0)) 0 % 2048) (residue (a -ℤ b) (get_or divisors (line_in (get_or codes i 0) * 16 + line_in (get_or codes j 0)) 0 % 2048)))
        (arrives j hj)
        (arrives i hi)
        ∙ gap_of_calls_is_fold net (map pos starts) (get_or (calls_by_line net) j no_call) (get_or (calls_by_line net) i no_call) _ divisor_is
      where
        arrives : (k : ℕ) → k < length net.calls → pos (get_or starts (line_in (get_or codes k 0)) 0 + offset_in (get_or codes k 0)) ≡ arrival_of (map pos starts) (get_or (calls_by_line net) k no_call)
        arrives k h = arrival_of_lem starts (line_in (get_or codes k 0)) (offset_in (get_or codes k 0)) (get_or (calls_by_line net) k no_call) (line_of k h) (offset_of k h)
