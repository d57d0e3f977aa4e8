-- Document 02, A.2, "Loop routes": a line may call at a stop as often as `max_calls_at_stop` says. Networks without loops, of which document 01's words
-- over lines and pairs of lines stand (specs/ByLines.antt); the gap of a line's own pair; and the request's words on stops that are alike, over
-- lines and each line's calls in order of offset, of which specs/Classes.antt has the same by places.
use Rattle.std.specs.Prelude.{ℕ, ◌<◌, ◌≤◌, ◌≡◌, true, ◌&&◌, List, map, eqb, leb, pos, ◌-ℤ◌, get_or}
use Rattle.network.specs.declared.Call.{Call}
use Rattle.network.specs.Lists.{keep}
use Rattle.network.specs.Divisor.{gcd}
use Rattle.network.specs.Network.{Net, how_often_at, is_served}
use Rattle.network.specs.Tidy.{sort_by}
use Rattle.network.specs.Gap.{residue, fold}
use Rattle.network.specs.Rating.{period_of}

-- Without loops: no line calls twice at a stop
pub record WithoutLoops (n : Net) : Type 0 where
  pub once : (line stop : ℕ) → how_often_at line stop n.calls ≤ 1

-- The gap of a line's two calls at a stop. Its g is the line's period, and of the line's start nothing is left (`gap_of_calls_own` of
-- proofs/Laws/Loops.antt)
unfoldable pub own_gap : Net → Call → Call → ℕ
own_gap n c d = fold (period_of n c) (residue (pos c.offset -ℤ pos d.offset) (period_of n c))

-- The offsets, as stated, of the line's calls at the stop, ascending
unfoldable pub offsets_at : ℕ → ℕ → List Call → List ℕ
offsets_at line stop cs = sort_by leb (map (λ (c : Call). c.offset) (keep (λ (c : Call). eqb c.line line && eqb c.stop stop) cs))

-- The remainder by g of the difference of two calls' offsets at a stop: of line i's call at place a of that order and line j's at place b. Of one
-- line g is its period
unfoldable pub matched_difference : Net → (stop i a j b : ℕ) → ℕ
matched_difference n stop i a j b =
    residue (pos (get_or (offsets_at i stop n.calls) a 0) -ℤ pos (get_or (offsets_at j stop n.calls) b 0))
    (gcd (get_or n.periods i 0) (get_or n.periods j 0))

-- Two served stops are alike if they have equally many calls of each line, matched in order of offset, and for every pair of calls, also of one
-- line, the differences of their offsets leave the same remainder by g
pub record AlikeOfCalls (n : Net) (s t : ℕ) : Type 0 where
  pub first_served : is_served s n.calls ≡ true
  pub second_served : is_served t n.calls ≡ true
  pub equally_many : (line : ℕ) → how_often_at line s n.calls ≡ how_often_at line t n.calls
  pub same_differences :
      (i a j b : ℕ)
      → a < how_often_at i s n.calls
      → b < how_often_at j s n.calls
      → matched_difference n s i a j b ≡ matched_difference n t i a j b
