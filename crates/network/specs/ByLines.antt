-- Document 01, "Gap and rating" and "Classes of stops", in its own words: the gap of two lines at a stop, the gap of a stop as the least over its
-- pairs of different lines (source 000, definitions 2.1.4 and 2.1.5), the rating by these, and stops that are alike over lines and pairs of lines.
-- On a network without loops no line calls twice at a stop, so that these are the gap by calls of specs/Rating.antt, the rating there, and the
-- stops alike by places of specs/Classes.antt.
use Rattle.std.specs.Prelude.{ℕ, ◌*◌, ◌<◌, ◌≤◌, ◌≡◌, true, ◌&&◌, eqb, ℤ, pos, ◌-ℤ◌, length, get_or}
use mathlib.Core.List.{List, [], ◌∷◌, Memᴰ}
use Rattle.network.specs.declared.Call.{Call}
use Rattle.network.specs.Lists.{pick, sum_of}
use Rattle.network.specs.Divisor.{gcd}
use Rattle.network.specs.Network.{Net, calls_at, is_served}
use Rattle.network.specs.Valid.{no_call}
use Rattle.network.specs.Gap.{trip, distance, residue}
use Rattle.network.specs.Rating.{Counted, counted, arrival_of}

-- ---- Gap and rating

-- The file has a call of the line at the stop: its `call`th
pub record LineCallsThere (n : Net) (line stop call : ℕ) : Type 0 where
  pub stated : call < length n.calls
  pub of_line : (get_or n.calls call no_call).line ≡ line
  pub at_stop : (get_or n.calls call no_call).stop ≡ stop

-- The line reaches the stop at that minute: at its start plus its offset there, plus some whole multiple of its period
pub record Reaches (n : Net) (starts : List ℤ) (line stop : ℕ) (minute : ℤ) : Type 0 where
  pub call : ℕ
  pub there : LineCallsThere n line stop call
  pub turn : ℤ
  pub on_time : minute ≡ trip (arrival_of starts (get_or n.calls call no_call)) (get_or n.periods line 0) turn

-- The gap ("Sicherheitsabstand", safety distance) of two lines at a stop: the smallest distance between an arrival of one and an arrival
-- of the other (definition 2.1.4)
pub record IsLinesGap (n : Net) (starts : List ℤ) (stop i j : ℕ) (gap : ℕ) : Type 0 where
  pub attained : (x : ℤ) × (y : ℤ) × Reaches n starts i stop x × Reaches n starts j stop y × (distance x y ≡ gap)
  pub least : (x y : ℤ) → Reaches n starts i stop x → Reaches n starts j stop y → gap ≤ distance x y

-- The gap of a stop (definition 2.1.5)
pub data IsStopGapOfLines (n : Net) (starts : List ℤ) (stop : ℕ) : ℕ → Type 0 where
  -- the least over its pairs of different lines
  least_of_lines :
      {gap : ℕ} (i j : ℕ)
      → (i ≡ j → ⊥)
      → IsLinesGap n starts stop i j gap
      → ((k l v : ℕ) → (k ≡ l → ⊥) → IsLinesGap n starts stop k l v → gap ≤ v)
      → IsStopGapOfLines n starts stop gap
  -- with one line only, that line's period
  period_of_line :
      (i : ℕ)
      → ((call : ℕ) × LineCallsThere n i stop call)
      → ((j call : ℕ) → LineCallsThere n j stop call → j ≡ i)
      → IsStopGapOfLines n starts stop (get_or n.periods i 0)

-- The rating by these gaps (definition 2.1.6)
pub record IsRatingOfLines (n : Net) (starts : List ℤ) (least sum : ℕ) : Type 0 where
  pub gap : ℕ → ℕ
  pub is_gap : (s : Counted) → Memᴰ s (counted n) → IsStopGapOfLines n starts s.stop (gap s.stop)
  pub attained : (s : Counted) × Memᴰ s (counted n) × (gap s.stop ≡ least)
  pub is_least : (s : Counted) → Memᴰ s (counted n) → least ≤ gap s.stop
  pub is_sum : sum ≡ sum_of (λ (s : Counted). s.weight * gap s.stop) (counted n)

-- ---- Classes of stops

-- The offset of the line's call at the stop, 0 where there is none
unfoldable pub offset_at : ℕ → ℕ → List Call → ℕ
offset_at line stop [] = 0
offset_at line stop (c ∷ cs) = pick (eqb c.line line && eqb c.stop stop) c.offset (offset_at line stop cs)

-- The remainder by g of the difference of two lines' offsets at a stop
unfoldable pub offset_difference : Net → ℕ → ℕ → ℕ → ℕ
offset_difference n stop i j =
    residue (pos (offset_at i stop n.calls) -ℤ pos (offset_at j stop n.calls)) (gcd (get_or n.periods i 0) (get_or n.periods j 0))

-- Two served stops are alike if the same lines call at both, and for each pair of those lines the differences of their offsets leave the same
-- remainder by g
pub record AlikeOfLines (n : Net) (s t : ℕ) : Type 0 where
  pub first_served : is_served s n.calls ≡ true
  pub second_served : is_served t n.calls ≡ true
  pub same_lines : (line : ℕ) → calls_at line s n.calls ≡ calls_at line t n.calls
  pub same_differences :
      (i j : ℕ)
      → calls_at i s n.calls ≡ true
      → calls_at j s n.calls ≡ true
      → offset_difference n s i j ≡ offset_difference n t i j
