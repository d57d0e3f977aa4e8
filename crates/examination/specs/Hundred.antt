-- Document 02, A.5: marks out of a hundred. (Mark and remainder are the quotient and the remainder of a division with remainder, of a hundred
-- times a timetable's least gap by that of the optimum. Sums don't enter.)
use Rattle.std.specs.Prelude.{ℕ, ◌*◌, ◌/◌, ◌%◌, ◌<◌, ◌≡◌, ◌⊎◌, eqb}
use Rattle.network.specs.Lists.{pick}

-- "The mark is the whole part of 100×(sheet's least gap) / (best least gap)"; "where the best least gap is 0, the mark is 100"
unfoldable pub mark_of : (least best : ℕ) → ℕ
mark_of least best = pick (eqb best 0) 100 ((100 * least) / best)

-- ".. with the remainder"; where the best least gap is 0, "remainder 0"
unfoldable pub remainder_of : (least best : ℕ) → ℕ
remainder_of least best = pick (eqb best 0) 0 ((100 * least) % best)

-- "borderline sheets are ranked by it": a mark with its remainder below another, lexicographically
abbrev pub PairBelow : (mark remainder mark' remainder' : ℕ) → Type 0
PairBelow mark remainder mark' remainder' = (mark < mark') ⊎ ((mark ≡ mark') × (remainder < remainder'))
