-- The rows by which the engine lists a board are right from minute to minute: the minutes since a call's latest arrival are a residue by its period, which
-- grows by one each minute and is 0 where the call arrives; and how often a period fits counts these arrivals. Assumes nothing.
use Prim.Native.Nat.{ℕ, zero, suc, ◌+◌, ◌/◌, ◌%◌, ◌<◌, ◌≤◌}
use mathlib.Core.Path.{◌≡◌, refl, sym, ap, ap₂, subst, ◌∙◌}
use mathlib.Core.Bool.{Bool}
use mathlib.Core.List.{List, map, map-map}
use native.Mathlib.Nat.{div-eq_of_lt}
use native.Mathlib.Omega.{arith}
use lib.Dec.{eqb}
use lib.IntN.{ℤ, pos, ◌+ℤ◌, ◌-ℤ◌}
use lib.ListN.{length, get_or, length-append, length-map}
use Rattle.network.specs.declared.Call.{Call}
use Rattle.network.specs.Lists.{pick, count_below, below}
use Rattle.network.specs.Network.{Net, max_period, max_at_stop}
use Rattle.network.specs.Valid.{Valid, no_call}
use Rattle.network.specs.Gap.{residue}
use Rattle.network.specs.Rating.{arrival_of, period_of}
use Rattle.network.specs.Classes.{ordered, ordered_call}
use Rattle.network.specs.Board.{Arrival, call_at, arrives, board_at, board_from, times, lines}
use Rattle.network.specs.Engine.Due.{due_in, one_later, arrivals_in, WithinPeriods, Ready}
use Rattle.network.proofs.Laws.Lists.{map_same}
use Rattle.network.proofs.Laws.Members.{map_below_all}
use Rattle.network.proofs.Laws.Tables.{below_same, below_of_member, count_below_length, count_below_same}
use Rattle.network.proofs.Laws.Integers.{difference, difference_pos, difference_add, difference_sub, eq_of_difference}
use Rattle.network.proofs.Laws.Divisor.{div_next}
use Rattle.network.proofs.Laws.Gap.{residue_lt, residue_later, residue_next, residue_next_zero}
use Rattle.network.proofs.Laws.Alike.{ordered_period_pos, ordered_line_lt}
use Rattle.network.proofs.Laws.Placed.{ordered_le_max_at_stop}
use Rattle.network.proofs.Laws.BoardRows.{arriving, board_at_by, board_at_lines, board_at_times}

-- ---- minutes before and after

minute_before : (time a : ℤ) → time -ℤ a ≡ time -ℤ pos 1 -ℤ a +ℤ pos 1
minute_before time a =
    eq_of_difference (difference_sub (difference time) (difference a))
    (difference_add (difference_sub (difference_sub (difference time) (difference_pos 1)) (difference a)) (difference_pos 1))
    (omega arith)

minute_after : (time a : ℤ) → time +ℤ pos 1 -ℤ pos 1 -ℤ a ≡ time -ℤ pos 1 -ℤ a +ℤ pos 1
minute_after time a =
    eq_of_difference
    (difference_sub (difference_sub (difference_add (difference time) (difference_pos 1)) (difference_pos 1)) (difference a))
    (difference_add (difference_sub (difference_sub (difference time) (difference_pos 1)) (difference a)) (difference_pos 1))
    (omega arith)

minutes_after : (from a : ℤ) (m : ℕ) → from +ℤ pos m -ℤ pos 1 -ℤ a ≡ from -ℤ pos 1 -ℤ a +ℤ pos m
minutes_after from a m =
    eq_of_difference
    (difference_sub (difference_sub (difference_add (difference from) (difference_pos m)) (difference_pos 1)) (difference a))
    (difference_add (difference_sub (difference_sub (difference from) (difference_pos 1)) (difference a)) (difference_pos m))
    (omega arith)

-- ---- the calls of a stop that arrive at a minute, by their places in the order

module _ (n : Net) (stop : ℕ) (starts : List ℤ) (time : ℤ) where
  abbrev arrives_there : ℕ → Bool
  arrives_there j = arrives n starts time (ordered_call n stop j)

  arriving_by_places : arriving n stop starts time ≡ map (ordered_call n stop) (below arrives_there (length (ordered n stop)))
  arriving_by_places = sym (map_below_all no_call (arrives n starts time) (ordered n stop))

  pub length_board_at : length (board_at n starts stop time) ≡ count_below arrives_there (length (ordered n stop))
  length_board_at =
      sym (length-map (board_at n starts stop time) (λ (a : Arrival). call_at n a.call))
      ∙ ap length (board_at_by n stop starts time (λ (c : Call). c))
      ∙ length-map (arriving n stop starts time) (λ (c : Call). c)
      ∙ ap length arriving_by_places
      ∙ length-map (below arrives_there (length (ordered n stop))) (ordered_call n stop)
      ∙ sym (count_below_length arrives_there (length (ordered n stop)))

  -- ---- by the rows

  module _ (positive : (j : ℕ) → j < length (ordered n stop) → 0 < period_of n (ordered_call n stop j)) {count : ℕ} {line_of periods since : List ℕ}
      (ready : Ready n starts stop time count line_of periods since) where
    abbrev before : ℕ → ℤ
    before j = time -ℤ pos 1 -ℤ arrival_of starts (ordered_call n stop j)

    positive_here : (j : ℕ) → j < count → 0 < period_of n (ordered_call n stop j)
    positive_here j h = positive j (subst (λ (k : ℕ). j < k) ready.count_is h)

    -- the minutes since the latest arrival are fewer than the period
    pub since_low : (j : ℕ) → j < count → get_or since j 0 < get_or periods j 0
    since_low j h = rw (ready.since_is j h, ready.period_is j h) (residue_lt (before j) _ (positive_here j h))

    due_by_residue : (j : ℕ) → j < count
        → due_in periods since j ≡ eqb (residue (before j) (period_of n (ordered_call n stop j)) + 1) (period_of n (ordered_call n stop j))
    unfolding due_in
    due_by_residue j h = rw (ready.since_is j h, ready.period_is j h)

    -- the calls that are due arrive
    pub due_arrives : (j : ℕ) → j < count → due_in periods since j ≡ arrives_there j
    unfolding arrives
    due_arrives j h =
        due_by_residue j h
        ∙ sym (residue_next_zero (before j) _ (positive_here j h))
        ∙ ap (λ (x : ℤ). eqb (residue x (period_of n (ordered_call n stop j))) 0) (sym (minute_before time (arrival_of starts (ordered_call n stop j))))

    pub ready_next : (later : List ℕ) → length later ≡ max_at_stop → ((j : ℕ) → j < count → get_or later j 0 ≡ one_later periods since j)
        → Ready n starts stop (time +ℤ pos 1) count line_of periods later
    unfolding one_later
    ready_next later row forward =
        record {
          since_row = row;
          count_is = ready.count_is;
          line_is = ready.line_is;
          period_is = ready.period_is;
          since_is = λ j h.
              let t = period_of n (ordered_call n stop j) in
              forward j h
              ∙ ap₂ (λ (b : Bool) (s : ℕ). pick b 0 (s + 1)) (due_by_residue j h) (ready.since_is j h)
              ∙ sym (residue_next (before j) t (positive_here j h))
              ∙ ap (λ (x : ℤ). residue x t) (sym (minute_after time (arrival_of starts (ordered_call n stop j))));
        }

    due_places : below (due_in periods since) count ≡ below arrives_there (length (ordered n stop))
    due_places = below_same (due_in periods since) arrives_there count due_arrives ∙ ap (below arrives_there) ready.count_is

    pub due_count : count_below (due_in periods since) count ≡ length (board_at n starts stop time)
    due_count =
        count_below_same (due_in periods since) arrives_there count due_arrives ∙ ap (count_below arrives_there) ready.count_is ∙ sym length_board_at

    pub due_times : map (λ (j : ℕ). time) (below (due_in periods since) count) ≡ times (board_at n starts stop time)
    due_times =
        ap (map (λ (j : ℕ). time)) due_places
        ∙ sym (map-map (λ (c : Call). time) (ordered_call n stop) (below arrives_there (length (ordered n stop))))
        ∙ ap (map (λ (c : Call). time)) (sym arriving_by_places)
        ∙ sym (board_at_times n stop starts time)

    pub due_lines : map (λ (j : ℕ). get_or line_of j 0) (below (due_in periods since) count) ≡ lines n (board_at n starts stop time)
    due_lines =
        map_same (λ (j : ℕ). get_or line_of j 0) (λ (j : ℕ). (ordered_call n stop j).line) (below (due_in periods since) count)
        (λ j m. ready.line_is j (below_of_member (due_in periods since) count m).0)
        ∙ ap (map (λ (j : ℕ). (ordered_call n stop j).line)) due_places
        ∙ sym (map-map (λ (c : Call). c.line) (ordered_call n stop) (below arrives_there (length (ordered n stop))))
        ∙ ap (map (λ (c : Call). c.line)) (sym arriving_by_places)
        ∙ sym (board_at_lines n stop starts time)

-- ---- how many arrivals a window has

-- No call arrives in no minutes
arrivals_in_none : (periods since : List ℕ) (count : ℕ) → ((j : ℕ) → j < count → get_or since j 0 < get_or periods j 0) → arrivals_in periods since 0 count ≡ 0
unfolding arrivals_in
arrivals_in_none periods since zero low = refl
arrivals_in_none periods since (suc j) low =
    let here : get_or since j 0 < get_or periods j 0 = low j (omega arith) in
    let none : (0 + get_or since j 0) / get_or periods j 0 ≡ 0 = div-eq_of_lt (omega (arith, here)) in
    omega (arith, arrivals_in_none periods since j (λ i h. low i (omega arith)), none)

-- .. and in one minute more those arrive of which the period has passed
arrivals_in_next : (periods since : List ℕ) (m count : ℕ) → ((j : ℕ) → j < count → 0 < get_or periods j 0)
    → arrivals_in periods since (suc m) count
    ≡ arrivals_in periods since m count + count_below (λ j. eqb ((m + get_or since j 0) % get_or periods j 0 + 1) (get_or periods j 0)) count
unfolding arrivals_in count_below
arrivals_in_next periods since m zero positive = refl
arrivals_in_next periods since m (suc j) positive =
    let more : (suc m + get_or since j 0) / get_or periods j 0 ≡ (m + get_or since j 0 + 1) / get_or periods j 0 =
    ap (λ (k : ℕ). k / get_or periods j 0) (omega arith) in
    omega
    (arith, arrivals_in_next periods since m j (λ i h. positive i (omega arith)), more, div_next (m + get_or since j 0) (get_or periods j 0) (positive j (omega arith)))

module _ (n : Net) (stop : ℕ) (starts : List ℤ) (from : ℤ) (positive : (j : ℕ) → j < length (ordered n stop) → 0 < period_of n (ordered_call n stop j))
    {count : ℕ} {line_of periods since : List ℕ} (ready : Ready n starts stop from count line_of periods since) where
  period_pos : (j : ℕ) → j < count → 0 < get_or periods j 0
  period_pos j h = omega (arith, since_low n stop starts from positive ready j h)

  -- a call arrives so many minutes later
  later_arrives : (m j : ℕ) → j < count
      → eqb ((m + get_or since j 0) % get_or periods j 0 + 1) (get_or periods j 0) ≡ arrives n starts (from +ℤ pos m) (ordered_call n stop j)
  unfolding arrives
  later_arrives m j h =
      let c = ordered_call n stop j in
      let t = period_of n c in
      let a = arrival_of starts c in
      let p : 0 < t = subst (λ (k : ℕ). 0 < k) (ready.period_is j h) (period_pos j h) in
      let passed : (m + get_or since j 0) % get_or periods j 0 ≡ residue (from +ℤ pos m -ℤ pos 1 -ℤ a) t =
      ap₂ (λ (s k : ℕ). (m + s) % k) (ready.since_is j h) (ready.period_is j h)
      ∙ ap (λ (k : ℕ). k % t) (omega arith)
      ∙ sym (residue_later (from -ℤ pos 1 -ℤ a) m t p)
      ∙ ap (λ (x : ℤ). residue x t) (sym (minutes_after from a m)) in
      ap₂ (λ (s k : ℕ). eqb (s + 1) k) passed (ready.period_is j h)
      ∙ sym (residue_next_zero (from +ℤ pos m -ℤ pos 1 -ℤ a) t p)
      ∙ ap (λ (x : ℤ). eqb (residue x t) 0) (sym (minute_before (from +ℤ pos m) a))

  pub arrivals_counted : (m : ℕ) → arrivals_in periods since m count ≡ length (board_from n starts stop from m)
  unfolding board_from
  arrivals_counted zero = arrivals_in_none periods since count (since_low n stop starts from positive ready)
  arrivals_counted (suc m) =
      arrivals_in_next periods since m count period_pos
      ∙ ap₂ ◌+◌ (arrivals_counted m)
      (count_below_same _ (λ j. arrives n starts (from +ℤ pos m) (ordered_call n stop j)) count (later_arrives m)
      ∙ ap (count_below (λ j. arrives n starts (from +ℤ pos m) (ordered_call n stop j))) ready.count_is
      ∙ sym (length_board_at n stop starts (from +ℤ pos m)))
      ∙ sym (length-append (board_from n starts stop from m) (board_at n starts stop (from +ℤ pos m)))

-- ---- the rows of a valid network's stop

module _ {n : Net} (valid : Valid n) {stop : ℕ} {starts : List ℤ} {time : ℤ} {count : ℕ} {line_of periods since : List ℕ}
    (ready : Ready n starts stop time count line_of periods since) where
  there : (j : ℕ) → j < count → j < length (ordered n stop)
  there j h = subst (λ (k : ℕ). j < k) ready.count_is h

  period_le : (j : ℕ) → j < count → period_of n (ordered_call n stop j) ≤ max_period
  unfolding period_of
  period_le j h = valid.period (ordered_call n stop j).line (ordered_line_lt valid stop j (there j h))

  pub ready_within : WithinPeriods count periods since
  ready_within =
      record {
        few = omega (arith, ready.count_is, ordered_le_max_at_stop valid stop);
        since_row = ready.since_row;
        since_low = since_low n stop starts time (ordered_period_pos valid stop) ready;
        period_low = λ j h. rw (ready.period_is j h) (period_le j h);
      }
