-- Document 01, "Classes of stops", and document 02, A.2: which served stops are alike, the class row and the weight row, and the lowest stops with their weights
-- as the rows give them. (A class is an equivalence class of stops, and its lowest stop its representative.)
use Rattle.std.specs.Prelude.{ℕ, zero, suc, ◌<◌, ◌≡◌, Bool, true, ◌&&◌, List, map, eqb, pos, ◌-ℤ◌, length, get_or}
use Rattle.network.specs.declared.Call.{Call}
use Rattle.network.specs.Lists.{pick, all_below, count_below, below, table}
use Rattle.network.specs.Divisor.{gcd}
use Rattle.network.specs.Network.{Net, max_stop, is_served}
use Rattle.network.specs.Valid.{no_call}
use Rattle.network.specs.Gap.{residue}
use Rattle.network.specs.Rating.{Counted, period_of, calls_of_stop}
use Rattle.network.specs.Tidy.{tidy}

-- The calls at a stop in their order: by line, and those of one line by offset
unfoldable pub ordered : Net → ℕ → List Call
ordered n s = tidy (calls_of_stop n s)

-- The call at a place of that order
abbrev pub ordered_call : Net → ℕ → ℕ → Call
ordered_call n s place = get_or (ordered n s) place no_call

-- The remainder by g of the difference of two calls' offsets
unfoldable pub remainder : Net → Call → Call → ℕ
remainder n c d = residue (pos c.offset -ℤ pos d.offset) (gcd (period_of n c) (period_of n d))

-- Alike: the same lines call at both, place by place, and for each two places the differences of the offsets leave the same remainder by g. Document
-- 02, A.2, says it over lines and each line's calls in order of offset: specs/Loops.antt has it in those words, and `alike_by_calls` of
-- proofs/Laws/AlikeByCalls.antt says that they agree. Without loops it is document 01's test over lines and pairs of lines: specs/ByLines.antt,
-- `alike_by_lines` of proofs/Laws/AlikeByLines.antt
pub record Alike (n : Net) (s t : ℕ) : Type 0 where
  pub first_served : is_served s n.calls ≡ true
  pub second_served : is_served t n.calls ≡ true
  pub same_lines : map (λ (c : Call). c.line) (ordered n s) ≡ map (λ (c : Call). c.line) (ordered n t)
  pub same_remainders :
      (j k : ℕ)
      → j < length (ordered n s)
      → k < length (ordered n s)
      → remainder n (ordered_call n s j) (ordered_call n s k) ≡ remainder n (ordered_call n t j) (ordered_call n t k)

-- The same as a test: a place, two places ..
unfoldable pub same_line : Net → ℕ → ℕ → ℕ → Bool
same_line n s t j = eqb (ordered_call n s j).line (ordered_call n t j).line

unfoldable pub same_remainder : Net → ℕ → ℕ → ℕ → ℕ → Bool
same_remainder n s t j k = eqb (remainder n (ordered_call n s j) (ordered_call n s k)) (remainder n (ordered_call n t j) (ordered_call n t k))

-- .. and all places, each with those before it
unfoldable pub is_alike : Net → ℕ → ℕ → Bool
is_alike n s t =
    is_served s n.calls
    && is_served t n.calls
    && eqb (length (ordered n s)) (length (ordered n t))
    && all_below (same_line n s t) (length (ordered n s))
    && all_below (λ j. all_below (same_remainder n s t j) j) (length (ordered n s))

-- The first number below `bound` that passes, or `bound` where none does
unfoldable pub first_below : (ℕ → Bool) → ℕ → ℕ
first_below p zero = zero
first_below p (suc bound) = pick (eqb (first_below p bound) bound) (pick (p bound) bound (suc bound)) (first_below p bound)

-- The lowest stop alike to a served stop
unfoldable pub lowest_alike : Net → ℕ → ℕ
lowest_alike n s = first_below (λ t. is_alike n t s) (suc max_stop)

-- A stop that is the lowest of its class
unfoldable pub is_lowest : Net → ℕ → Bool
is_lowest n s = is_served s n.calls && eqb (lowest_alike n s) s

-- What the class row holds for an unserved stop
abbrev pub unserved : ℕ
unserved = 255

-- The class row: for each stop the lowest stop alike to it, 255 if unserved
unfoldable pub class_row : Net → List ℕ
class_row n = table (λ s. pick (is_served s n.calls) (lowest_alike n s) unserved) (suc max_stop)

-- The weight row: the size of the class at its lowest stop, 0 elsewhere
unfoldable pub weight_row : Net → List ℕ
weight_row n = table (λ s. pick (is_lowest n s) (count_below (λ t. is_served t n.calls && eqb (lowest_alike n t) s) (suc max_stop)) 0) (suc max_stop)

-- The number of classes
unfoldable pub class_count : Net → ℕ
class_count n = count_below (λ s. is_lowest n s) (suc max_stop)

-- The lowest stops with their weights, as two rows give them: those that the class row names as their own lowest
unfoldable pub lowest_stops : List ℕ → List ℕ → List Counted
lowest_stops classes weights =
    map (λ (s : ℕ). record { stop = s; weight = get_or weights s 0 }) (below (λ s. eqb (get_or classes s unserved) s) (suc max_stop))
