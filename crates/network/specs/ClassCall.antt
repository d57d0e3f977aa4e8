-- Document 01, "Classes of stops" and "Grounds for refusing", the host program: what the class call answers and leaves in the lent rows,
-- and what the weighted rating answers on a file and a sheet.
use Rattle.std.specs.Prelude.{ℕ, Bool, ◌&&◌, List, [], ◌∷◌, eqb, ℤ, length, Result, Ok, Err}
use Rattle.network.specs.declared.grounds.Refusal.{Refusal}
use Rattle.network.specs.Lists.{pick}
use Rattle.network.specs.Network.{Net, stop_count}
use Rattle.network.specs.Reading.{Reading, accepted, refused, Outcome, values, refusal}
use Rattle.network.specs.Numbers.{number_of}
use Rattle.network.specs.Rating.{Rating, rating_over}
use Rattle.network.specs.Rate.{rated_on_sheet}
use Rattle.network.specs.Classes.{class_row, weight_row, class_count, lowest_stops}

-- The class call's answer: the number of classes; or the refusal ("Classes of stops")
unfoldable pub class_answer : Result ℕ Refusal → Outcome
class_answer (Ok count) = values (count ∷ [])
class_answer (Err r) = refusal (number_of r.reason) r.place

-- Class and weight row are both 64 long ("Grounds for refusing", 17)
unfoldable pub rows_fit : ℕ → ℕ → Bool
rows_fit classes weights = eqb classes stop_count && eqb weights stop_count

-- What the class call has to answer, given how long the rows are: the file's refusal, then ground 17, then the number of classes
unfoldable pub class_outcome : Reading → ℕ → ℕ → Outcome
class_outcome (refused number place) classes weights = refusal number place
class_outcome (accepted n) classes weights = pick (rows_fit classes weights) (values (class_count n ∷ [])) (refusal 17 0)

-- What the lent class row holds afterwards, given both rows as they were: the class row where the call doesn't refuse, else what it held
-- ("Classes of stops"; "Grounds for refusing": rows stay untouched)
unfoldable pub class_row_after : Reading → List ℕ → List ℕ → List ℕ
class_row_after (refused number place) classes weights = classes
class_row_after (accepted n) classes weights = pick (rows_fit (length classes) (length weights)) (class_row n) classes

-- The same of the lent weight row
unfoldable pub weight_row_after : Reading → List ℕ → List ℕ → List ℕ
weight_row_after (refused number place) classes weights = weights
weight_row_after (accepted n) classes weights = pick (rows_fit (length classes) (length weights)) (weight_row n) weights

-- The weighted rating: lowest stops only, each gap times its weight in the sum ("Classes of stops")
unfoldable pub weighted_rating : Net → List ℤ → Rating
weighted_rating n starts = rating_over n starts (lowest_stops (class_row n) (weight_row n))

-- What the weighted rating has to answer: it refuses as rate does ("Classes of stops")
unfoldable pub weighted_outcome : Reading → List ℤ → Outcome
weighted_outcome read sheet = rated_on_sheet weighted_rating read sheet
