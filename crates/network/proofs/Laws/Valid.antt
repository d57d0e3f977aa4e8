-- Every network that the reader accepts is within the limits of document 01, in an edition that is known: each command that passes keeps them, and
-- the last shows what only a whole network has. And the laws of its common cycle, which are those of a least common multiple. Assumes nothing.
use Prim.Native.Nat.{ℕ, suc, ◌+◌, ◌≤◌, ◌<◌}
use mathlib.Core.Path.{◌≡◌, refl, sym, ap, subst}
use mathlib.Core.List.{List, [], ◌∷◌}
use native.Mathlib.Omega.{arith}
use lib.ListN.{length, get_or, length-append}
use lib.Seq.{get_or-drop}
use Rattle.network.specs.declared.Call.{Call}
use Rattle.network.specs.Grounds.{Passes}
use Rattle.network.specs.Divisor.{Divides, cycle_from, common_cycle}
use Rattle.network.specs.Lists.{keep}
use Rattle.network.specs.Network.{Net, SoFar, empty_net, Command, states_line, calls_by_offset, calls_by_ride, ends, states_edition, unknown}
use Rattle.network.specs.Network.{max_lines, max_period, max_cycle, max_stop, max_offset, max_calls_at_stop, cycle, how_often_at, command, operand_bytes}
use Rattle.network.specs.Network.{word, stated_offset, with_edition, with_line, with_call, call_of, extend}
use Rattle.network.specs.Grounds.{first, grounds}
use Rattle.network.specs.Reading.{Reading, read_file, accepted, refused, Outcome, values, refusal, read_outcome}
use Rattle.network.specs.Gives.{Reached, start, next, Gives, accepts}
use Rattle.network.specs.Valid.{IsBytes, no_call, Valid}
use Rattle.network.proofs.Laws.Lists.{zero_ne_one}
use Rattle.network.proofs.Laws.Members.{all_snoc}
use Rattle.network.proofs.Laws.Divisor.{common_cycle_snoc, period_divides_common_cycle, common_cycle_least, common_cycle_pos}
use Rattle.network.proofs.Laws.Editions.{reached_known}
use Rattle.network.proofs.Laws.Grounds.{LineFits, CallFits, line_passes, offset_passes, ride_passes, end_passes}
use Rattle.network.proofs.Laws.Reading.{reached_within, read_file_gives}
use Rattle.network.proofs.Laws.RunningCycle.{reached_positive}
use Rattle.network.proofs.Laws.Often.{often_more}

-- What `Valid` asks of a network on the way, besides its edition, the numbers of lines and calls, and that periods are positive
record ValidSoFar (n : Net) : Type 0 where
  period : (i : ℕ) → i < length n.periods → get_or n.periods i 0 ≤ max_period
  cycle_max : cycle n ≤ max_cycle
  call_line : (k : ℕ) → k < length n.calls → (get_or n.calls k no_call).line < length n.periods
  call_stop : (k : ℕ) → k < length n.calls → (get_or n.calls k no_call).stop ≤ max_stop
  call_offset : (k : ℕ) → k < length n.calls → (get_or n.calls k no_call).offset ≤ max_offset
  often : (line stop : ℕ) → how_often_at line stop n.calls ≤ max_calls_at_stop

valid_so_far_empty : ValidSoFar empty_net
unfolding cycle common_cycle cycle_from how_often_at keep
valid_so_far_empty = omega arith

valid_so_far_edition : (n : Net) (edition : ℕ) → ValidSoFar n → ValidSoFar (with_edition n edition)
unfolding cycle
valid_so_far_edition n edition s =
    record {
      period = s.period;
      cycle_max = s.cycle_max;
      call_line = s.call_line;
      call_stop = s.call_stop;
      call_offset = s.call_offset;
      often = s.often;
    }

valid_so_far_line : (n : Net) (behind : List ℕ) → LineFits n behind → ValidSoFar n → ValidSoFar (with_line n (word behind 0))
unfolding with_line cycle
valid_so_far_line n behind f s =
    let t : ℕ = word behind 0 in
    record {
      period = all_snoc 0 (λ q. q ≤ max_period) n.periods s.period f.period;
      cycle_max = rw (common_cycle_snoc n.periods t) f.cycle_max;
      call_line = λ k h. omega (arith, s.call_line k h, length-append n.periods (t ∷ []));
      call_stop = s.call_stop;
      call_offset = s.call_offset;
      often = s.often;
    }

valid_so_far_call : (c : Command) (n : Net) (behind : List ℕ) (offset : ℕ) → CallFits c n behind → offset ≤ max_offset → ValidSoFar n
    → ValidSoFar (with_call n (call_of behind offset))
unfolding with_call call_of cycle
valid_so_far_call c n behind offset f o s =
    let call : Call = call_of behind offset in
    record {
      period = s.period;
      cycle_max = s.cycle_max;
      call_line = all_snoc no_call (λ d. d.line < length n.periods) n.calls s.call_line f.line;
      call_stop = all_snoc no_call (λ d. d.stop ≤ max_stop) n.calls s.call_stop f.stop;
      call_offset = all_snoc no_call (λ d. d.offset ≤ max_offset) n.calls s.call_offset o;
      often = λ line stop. often_more line stop n.calls call (s.often line stop) f.often;
    }

stated_max : (bs : List ℕ) → IsBytes bs → stated_offset bs ≤ max_offset
unfolding IsBytes stated_offset word
stated_max bs h = omega (arith, h 2, h 3)

valid_so_far_next : (c : Command) (f : SoFar) (p : ℕ) (behind : List ℕ) → first (grounds c f p behind) ≡ Passes → (c ≡ ends → ⊥)
    → IsBytes behind → ValidSoFar f.network → ValidSoFar (extend c f behind).network
unfolding extend grounds first
valid_so_far_next states_line f p behind e h b s = valid_so_far_line f.network behind (line_passes f p behind e) s
valid_so_far_next calls_by_offset f p behind e h b s =
    valid_so_far_call calls_by_offset f.network behind _ (offset_passes f p behind e) (stated_max behind b) s
valid_so_far_next calls_by_ride f p behind e h b s = let fits = ride_passes f p behind e in valid_so_far_call calls_by_ride f.network behind _ fits.0 fits.1 s
valid_so_far_next ends f p behind e h b s = absurd (h refl)
valid_so_far_next states_edition f p behind e h b s = valid_so_far_edition f.network _ s
valid_so_far_next unknown f p behind e h b s = absurd (zero_ne_one (cc))

module _ {file : List ℕ} (bytes : IsBytes file) where
  reached_bytes : {f : SoFar} {p : ℕ} {rest : List ℕ} → Reached file f p rest → IsBytes rest
  unfolding IsBytes
  reached_bytes start = bytes
  reached_bytes (next {b = b} {behind = behind} r e c) =
      λ i. rw (get_or-drop (operand_bytes (command b)) behind i 0) (reached_bytes r (suc (operand_bytes (command b) + i)))

  reached_valid_so_far : {f : SoFar} {p : ℕ} {rest : List ℕ} → Reached file f p rest → ValidSoFar f.network
  unfolding IsBytes
  reached_valid_so_far start = valid_so_far_empty
  reached_valid_so_far (next {f = f} {p = p} {b = b} {behind = behind} r e c) =
      valid_so_far_next (command b) f p behind e c (λ i. reached_bytes r (suc i)) (reached_valid_so_far r)

  gives_valid : {n : Net} → Gives file (accepted n) → Valid n
  gives_valid (accepts {f = f} {p = p} {behind = behind} r i e) =
      let s : ValidSoFar f.network = reached_valid_so_far r in
      let end = end_passes f p behind (rw i at e) in
      record {
        edition_from = (reached_known r).0;
        edition_to = (reached_known r).1;
        some_line = end.some_line;
        lines = (reached_within r).lines;
        period_pos = reached_positive r;
        period = s.period;
        cycle_max = s.cycle_max;
        calls = (reached_within r).calls;
        call_line = s.call_line;
        call_stop = s.call_stop;
        call_offset = s.call_offset;
        often = s.often;
        every_line_calls = end.every_line_calls;
      }

pub accepted_valid : (file : List ℕ) (n : Net) → IsBytes file → read_file file ≡ accepted n → Valid n
accepted_valid file n bytes e = gives_valid bytes (rw e at (read_file_gives file))

-- ---- the lines that the read call answers

first_value : Outcome → ℕ
first_value (values []) = 0
first_value (values (v ∷ vs)) = v
first_value (refusal number place) = 0

read_lines : (file : List ℕ) → IsBytes file → (read : Reading) → read_file file ≡ read → first_value (read_outcome read) ≤ max_lines
unfolding read_outcome first_value
read_lines file bytes (accepted n) e = (accepted_valid file n bytes e).lines
read_lines file bytes (refused number place) e = omega arith

pub answered_lines : (file : List ℕ) → IsBytes file → (lines : ℕ) (others : List ℕ)
    → values (lines ∷ others) ≡ read_outcome (read_file file) → lines ≤ max_lines
unfolding first_value
answered_lines file bytes lines others e =
    subst (λ (k : ℕ). k ≤ max_lines) (sym (ap first_value e)) (read_lines file bytes (read_file file) refl)

-- ---- the common cycle of a network

pub cycle_multiple : (n : Net) (i : ℕ) → i < length n.periods → Divides (get_or n.periods i 0) (cycle n)
unfolding cycle
cycle_multiple n = period_divides_common_cycle n.periods

pub cycle_least : (n : Net) (m : ℕ) → ((i : ℕ) → i < length n.periods → Divides (get_or n.periods i 0) m) → Divides (cycle n) m
unfolding cycle
cycle_least n = common_cycle_least n.periods

pub cycle_pos : {n : Net} → Valid n → 0 < cycle n
unfolding cycle
cycle_pos {n} v = common_cycle_pos n.periods v.period_pos
