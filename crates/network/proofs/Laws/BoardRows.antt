-- The arrivals of a board by the calls at its stop in their order: the calls that a board goes through, by their places in the file, are those, so that a
-- minute's rows are what the calls that arrive then give. Assumes nothing.
use Prim.Native.Nat.{ℕ, zero, suc}
use mathlib.Core.Path.{◌≡◌, refl, sym, ap, ap₂, ◌∙◌}
use mathlib.Core.Bool.{Bool}
use mathlib.Core.List.{List, ◌++◌, map, map-map, map-append}
use lib.Dec.{eqb}
use lib.IntN.{ℤ, pos, ◌+ℤ◌, ◌-ℤ◌}
use lib.ListN.{length, get_or, length-map}
use Rattle.network.specs.declared.Call.{Call}
use Rattle.network.specs.Lists.{keep, below}
use Rattle.network.specs.Network.{Net}
use Rattle.network.specs.Valid.{no_call}
use Rattle.network.specs.Gap.{residue}
use Rattle.network.specs.Rating.{arrival_of, period_of, calls_of_stop}
use Rattle.network.specs.Classes.{ordered}
use Rattle.network.specs.Tidy.{sort_by, not_after, tidy}
use Rattle.network.specs.Board.{Window, Arrival, call_at, arrives, board_calls, board_at, board_from, board, times, lines}
use Rattle.network.proofs.Laws.Members.{map_keep, map_below_all}
use Rattle.network.proofs.Laws.Sorted.{each_has_of_all, map_sort_by}

-- ---- the calls of a board

module _ (n : Net) (stop : ℕ) where
  abbrev order : ℕ → ℕ → Bool
  order c d = not_after (call_at n c) (call_at n d)

  abbrev there : List ℕ
  there = below (λ c. eqb (call_at n c).stop stop) (length n.calls)

  -- They are the calls at the stop in their order
  pub board_calls_ordered : map (call_at n) (board_calls n stop) ≡ ordered n stop
  unfolding board_calls ordered tidy calls_of_stop
  board_calls_ordered =
      map_sort_by order not_after (call_at n) (λ _. Unit {0}) (λ a b _ _. refl) there
      (each_has_of_all order not_after (call_at n) (λ _. Unit {0}) (λ a b _ _. refl) 0 there (λ i h. tt))
      ∙ ap (sort_by not_after) (map_below_all no_call (λ (c : Call). eqb c.stop stop) n.calls)

  module _ (starts : List ℤ) (time : ℤ) where
    -- The calls that arrive at a minute
    abbrev pub arriving : List Call
    arriving = keep (arrives n starts time) (ordered n stop)

    arriving_by_place : map (call_at n) (keep (λ c. arrives n starts time (call_at n c)) (board_calls n stop)) ≡ arriving
    arriving_by_place = map_keep (call_at n) (arrives n starts time) (board_calls n stop) ∙ ap (keep (arrives n starts time)) board_calls_ordered

    pub board_at_by : {A : Type 0} (f : Call → A) → map (λ (a : Arrival). f (call_at n a.call)) (board_at n starts stop time) ≡ map f arriving
    unfolding board_at
    board_at_by f =
        map-map (λ (a : Arrival). f (call_at n a.call)) _ (keep (λ c. arrives n starts time (call_at n c)) (board_calls n stop))
        ∙ sym (map-map f (call_at n) (keep (λ c. arrives n starts time (call_at n c)) (board_calls n stop)))
        ∙ ap (map f) arriving_by_place

    pub board_at_lines : lines n (board_at n starts stop time) ≡ map (λ (c : Call). c.line) arriving
    unfolding lines
    board_at_lines = board_at_by (λ (c : Call). c.line)

    pub board_at_times : times (board_at n starts stop time) ≡ map (λ (c : Call). time) arriving
    unfolding times board_at
    board_at_times =
        map-map (λ (a : Arrival). a.time) _ (keep (λ c. arrives n starts time (call_at n c)) (board_calls n stop))
        ∙ sym (map-map (λ (a : Arrival). time) _ (keep (λ c. arrives n starts time (call_at n c)) (board_calls n stop)))
        ∙ board_at_by (λ (c : Call). time)

-- ---- whole boards

module _ (n : Net) (starts : List ℤ) (stop : ℕ) (from : ℤ) (m : ℕ) where
  -- one minute more
  times_next : times (board_from n starts stop from (suc m)) ≡ times (board_from n starts stop from m) ++ times (board_at n starts stop (from +ℤ pos m))
  unfolding board_from times
  times_next = map-append (λ (a : Arrival). a.time) (board_from n starts stop from m) (board_at n starts stop (from +ℤ pos m))

  lines_next : lines n (board_from n starts stop from (suc m)) ≡ lines n (board_from n starts stop from m) ++ lines n (board_at n starts stop (from +ℤ pos m))
  unfolding board_from lines
  lines_next = map-append (λ (a : Arrival). (call_at n a.call).line) (board_from n starts stop from m) (board_at n starts stop (from +ℤ pos m))

-- Networks with the same periods and the same calls at a stop, whatever order their files have, have the same rows there
module _ (n k : Net) (stop : ℕ) (same_periods : n.periods ≡ k.periods) (same_calls : ordered n stop ≡ ordered k stop) (starts : List ℤ) where
  arriving_same : (time : ℤ) → arriving n stop starts time ≡ arriving k stop starts time
  unfolding arrives period_of
  arriving_same time =
      ap₂ (λ (periods : List ℕ) (calls : List Call). keep (λ (c : Call). eqb (residue (time -ℤ arrival_of starts c) (get_or periods c.line 0)) 0) calls)
      same_periods same_calls

  times_same : (from : ℤ) (m : ℕ) → times (board_from n starts stop from m) ≡ times (board_from k starts stop from m)
  unfolding board_from times
  times_same from zero = refl
  times_same from (suc m) =
      times_next n starts stop from m
      ∙ ap₂ ◌++◌ (times_same from m)
      (board_at_times n stop starts (from +ℤ pos m)
      ∙ ap (map (λ (c : Call). from +ℤ pos m)) (arriving_same (from +ℤ pos m))
      ∙ sym (board_at_times k stop starts (from +ℤ pos m)))
      ∙ sym (times_next k starts stop from m)

  lines_same : (from : ℤ) (m : ℕ) → lines n (board_from n starts stop from m) ≡ lines k (board_from k starts stop from m)
  unfolding board_from lines
  lines_same from zero = refl
  lines_same from (suc m) =
      lines_next n starts stop from m
      ∙ ap₂ ◌++◌ (lines_same from m)
      (board_at_lines n stop starts (from +ℤ pos m)
      ∙ ap (map (λ (c : Call). c.line)) (arriving_same (from +ℤ pos m))
      ∙ sym (board_at_lines k stop starts (from +ℤ pos m)))
      ∙ sym (lines_next k starts stop from m)

pub board_rows_same : (n k : Net) (starts : List ℤ) (w : Window) → n.periods ≡ k.periods → ordered n w.stop ≡ ordered k w.stop
    → (length (board n starts w) ≡ length (board k starts w)) × (times (board n starts w) ≡ times (board k starts w)) × (lines n (board n starts w) ≡ lines k (board k starts w))
unfolding board times
board_rows_same n k starts w periods calls =
    let one = board_from n starts w.stop w.from w.minutes in
    let other = board_from k starts w.stop w.from w.minutes in
    let same = times_same n k w.stop periods calls starts w.from w.minutes in (
      sym (length-map one (λ (a : Arrival). a.time)) ∙ ap length same ∙ length-map other (λ (a : Arrival). a.time),
      same,
      lines_same n k w.stop periods calls starts w.from w.minutes,
    )
