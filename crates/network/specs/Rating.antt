-- Document 01, "Gap and rating": the gap of two calls, the gap of a stop and the rating, over all trips of all lines (source 000,
-- definitions 2.1.4 to 2.1.6); beside them the numbers computed by theorem 3.1.2; and the order of ratings (definition 2.4.1). A timetable is
-- a list of starts, integers of any size, one for each line.
use Rattle.std.specs.Prelude.{ℕ, suc, ◌*◌, ◌<◌, ◌≤◌, ◌≡◌, Bool, true, false, not, ◌&&◌, ◌||◌, eqb, ltb, leb, ℤ, pos, ◌+ℤ◌, length, get_or}
use mathlib.Core.List.{List, [], ◌∷◌, map, Memᴰ}
use Rattle.network.specs.declared.Call.{Call}
use Rattle.network.specs.Lists.{pick, keep, below, sum_of, least_of, pairs_of}
use Rattle.network.specs.Network.{Net, max_stop, is_served}
use Rattle.network.specs.Valid.{no_call}
use Rattle.network.specs.Gap.{IsGap, gap_of}

-- One arrival of a call: its line's start plus its offset (equation 2.1.1)
unfoldable pub arrival_of : List ℤ → Call → ℤ
arrival_of starts c = get_or starts c.line (pos 0) +ℤ pos c.offset

-- The period of a call's line
unfoldable pub period_of : Net → Call → ℕ
period_of n c = get_or n.periods c.line 0

-- ---- Over all trips

-- The file's `call`th call is at the stop
pub record CallsThere (n : Net) (stop call : ℕ) : Type 0 where
  pub stated : call < length n.calls
  pub at_stop : (get_or n.calls call no_call).stop ≡ stop

-- The gap ("Sicherheitsabstand", safety distance) of two calls of the file: the smallest distance between a trip of the one and a trip of the
-- other (definition 2.1.4)
abbrev pub IsCallsGap : Net → List ℤ → ℕ → ℕ → ℕ → Type 0
IsCallsGap n starts c d gap =
    IsGap (arrival_of starts (get_or n.calls c no_call)) (period_of n (get_or n.calls c no_call)) (arrival_of starts (get_or n.calls d no_call))
    (period_of n (get_or n.calls d no_call)) gap

-- The gap of a stop (definition 2.1.5), over pairs of different calls, of one line too (document 02, A.2). Without loops it is document 01's gap over
-- pairs of different lines: specs/ByLines.antt has it in those words, and `stop_gap_by_lines` of proofs/Laws/ByLines.antt says that they agree
pub data IsStopGap (n : Net) (starts : List ℤ) (stop : ℕ) : ℕ → Type 0 where
  -- the least over its pairs of different calls
  least_of_calls :
      {gap : ℕ} (c d : ℕ)
      → (c ≡ d → ⊥)
      → CallsThere n stop c
      → CallsThere n stop d
      → IsCallsGap n starts c d gap
      → ((e f v : ℕ) → (e ≡ f → ⊥) → CallsThere n stop e → CallsThere n stop f → IsCallsGap n starts e f v → gap ≤ v)
      → IsStopGap n starts stop gap
  -- with one call only, its line's period
  period_of_call :
      (c : ℕ)
      → CallsThere n stop c
      → ((d : ℕ) → CallsThere n stop d → d ≡ c)
      → IsStopGap n starts stop (period_of n (get_or n.calls c no_call))

-- A rating, its least gap and its sum; or none
pub record Rating : Type 0 where
  pub some : Bool
  pub least : ℕ
  pub sum : ℕ

-- A stop that counts in a rating, and how often in its sum
pub record Counted : Type 0 where
  pub stop : ℕ
  pub weight : ℕ

-- The served stops, ascending
unfoldable pub served_list : Net → List ℕ
served_list n = below (λ stop. is_served stop n.calls) (suc max_stop)

-- Each of these stops once
unfoldable pub each_once : List ℕ → List Counted
each_once stops = map (λ (s : ℕ). record { stop = s; weight = 1 }) stops

-- The stops that count in the rating of a network: all served stops, each once
unfoldable pub counted : Net → List Counted
counted n = each_once (served_list n)

-- The rating over these stops: their least gap, and the sum of their gaps, each with its weight (definition 2.1.6, equations 2.1.5 and 2.1.6)
pub record IsRatingOver (n : Net) (starts : List ℤ) (stops : List Counted) (least sum : ℕ) : Type 0 where
  pub gap : ℕ → ℕ
  pub is_gap : (s : Counted) → Memᴰ s stops → IsStopGap n starts s.stop (gap s.stop)
  pub attained : (s : Counted) × Memᴰ s stops × (gap s.stop ≡ least)
  pub is_least : (s : Counted) → Memᴰ s stops → least ≤ gap s.stop
  pub is_sum : sum ≡ sum_of (λ (s : Counted). s.weight * gap s.stop) stops

-- The rating of a network: over the stops that count
abbrev pub IsRating : Net → List ℤ → ℕ → ℕ → Type 0
IsRating n starts least sum = IsRatingOver n starts (counted n) least sum

-- ---- The computed numbers

-- The gap of two calls by theorem 3.1.2
unfoldable pub gap_of_calls : Net → List ℤ → Call → Call → ℕ
gap_of_calls n starts c d = gap_of (arrival_of starts c) (period_of n c) (arrival_of starts d) (period_of n d)

-- The gaps of all pairs of different calls
unfoldable pub pair_gaps : Net → List ℤ → List Call → List ℕ
pair_gaps n starts cs = pairs_of (gap_of_calls n starts) cs

-- The gap of a stop with these calls: the least over its pairs; with one call only, its line's period
unfoldable pub gap_of_stop : Net → List ℤ → List Call → ℕ
gap_of_stop n starts [] = 0
gap_of_stop n starts (c ∷ []) = period_of n c
gap_of_stop n starts (c ∷ d ∷ cs) = least_of (pair_gaps n starts (c ∷ d ∷ cs))

-- The calls at a stop, in file order
unfoldable pub calls_of_stop : Net → ℕ → List Call
calls_of_stop n stop = keep (λ (c : Call). eqb c.stop stop) n.calls

unfoldable pub stop_gap : Net → List ℤ → ℕ → ℕ
stop_gap n starts stop = gap_of_stop n starts (calls_of_stop n stop)

-- The rating of stops with these gaps
unfoldable pub rating_by : (ℕ → ℕ) → List Counted → Rating
rating_by gap stops =
    record {
      some = true;
      least = least_of (map (λ (s : Counted). gap s.stop) stops);
      sum = sum_of (λ (s : Counted). s.weight * gap s.stop) stops;
    }

-- The rating over these stops, and of a network
unfoldable pub rating_over : Net → List ℤ → List Counted → Rating
rating_over n starts stops = rating_by (stop_gap n starts) stops

unfoldable pub rating : Net → List ℤ → Rating
rating n starts = rating_over n starts (counted n)

-- ---- The order of ratings

-- None is below every rating: before the first full timetable
abbrev pub no_rating : Rating
no_rating = record { some = false; least = 0; sum = 0 }

-- One rating is above another if its least gap is larger, or that is equal and its sum is larger (definition 2.4.1)
unfoldable pub is_above : Rating → Rating → Bool
is_above r q =
    r.some && (not q.some || (ltb q.least r.least || eqb q.least r.least && ltb q.sum r.sum))

-- Two ratings are equal if their least gaps are and their sums are; none is equal to none alone
unfoldable pub is_equal : Rating → Rating → Bool
is_equal r q = pick r.some (q.some && (eqb r.least q.least && eqb r.sum q.sum)) (not q.some)

-- ---- By one number of the two, as document 02 compares them

-- A rating reaches a wanted gap if its least gap is that or larger (A.3, A.11); none reaches nothing
unfoldable pub reaches : Rating → ℕ → Bool
reaches r wanted = r.some && leb wanted r.least

-- The sum of a rating is above another's (A.11); beside none every rating's is
unfoldable pub is_sum_above : Rating → Rating → Bool
is_sum_above r q = r.some && (not q.some || ltb q.sum r.sum)
