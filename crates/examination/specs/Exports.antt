-- docs/ABI.md: what an export returns, and what it leaves in its answer row.
use Rattle.std.specs.Prelude.{ℕ, ◌+◌, ◌*◌, ◌/◌, ◌%◌, ◌≤◌, ◌≡◌, Bool, true, false, List, [], ◌∷◌}
use Rattle.network.specs.Reading.{Outcome, values, refusal}
use Rattle.search.specs.Search.{SearchOutcome}
use Rattle.search.specs.Search as search
use Rattle.search.specs.Wanted.{WantedOutcome}
use Rattle.search.specs.Wanted as wanted
use Rattle.examination.specs.Sheets.{Better, first, second, neither, MarkOutcome, decided, undecided}
use Rattle.examination.specs.Sheets as sheets

-- More than any place that a refusal names
abbrev pub place_limit : ℕ
place_limit = 65536

-- A refusal as one number
unfoldable pub refusal_code : ℕ → ℕ → ℕ
refusal_code number place = place_limit * number + place

-- A return value that tells a refusal, with its number and place
abbrev pub TellsRefusal : ℕ → ℕ → ℕ → Type 0
TellsRefusal returned number place = (place_limit ≤ returned) × (returned / place_limit ≡ number) × (returned % place_limit ≡ place)

-- Read, rate, the weighted rating, the gaps call, the class call, the board and the mark by a key: 0, and the answer's values in the row; a refusal leaves
-- the row as it was
unfoldable pub status : Outcome → ℕ
status (values vs) = 0
status (refusal number place) = refusal_code number place

unfoldable pub row_after : Outcome → List ℕ → List ℕ
row_after (values vs) row = vs
row_after (refusal number place) row = row

-- The archive call: the length of the archive form, which is its answer's one value
unfoldable pub archive_status : Outcome → ℕ
archive_status (values []) = 0
archive_status (values (bytes ∷ others)) = bytes
archive_status (refusal number place) = refusal_code number place

-- The search: 0 finished, 1 stopped with a best, 2 stopped with none; the best rating, 0 and 0 where there is none, and the tries
unfoldable pub search_status : SearchOutcome → ℕ
search_status (search.finished least sum tries) = 0
search_status (search.stopped least sum tries) = 1
search_status (search.stopped_with_none tries) = 2
search_status (search.refusal number place) = refusal_code number place

unfoldable pub search_row : SearchOutcome → List ℕ → List ℕ
search_row (search.finished least sum tries) row = least ∷ sum ∷ tries ∷ []
search_row (search.stopped least sum tries) row = least ∷ sum ∷ tries ∷ []
search_row (search.stopped_with_none tries) row = 0 ∷ 0 ∷ tries ∷ []
search_row (search.refusal number place) row = row

-- From a wanted gap to a timetable: 0 found, 1 none, 2 stopped; the tries
unfoldable pub wanted_status : WantedOutcome → ℕ
wanted_status (wanted.found tries) = 0
wanted_status (wanted.none tries) = 1
wanted_status (wanted.stopped tries) = 2
wanted_status (wanted.refusal number place) = refusal_code number place

unfoldable pub wanted_row : WantedOutcome → List ℕ → List ℕ
wanted_row (wanted.found tries) row = tries ∷ []
wanted_row (wanted.none tries) row = tries ∷ []
wanted_row (wanted.stopped tries) row = tries ∷ []
wanted_row (wanted.refusal number place) row = row

-- Better-of-two: 1 the first, 2 the second, 0 neither
unfoldable pub better_status : Better → ℕ
better_status first = 1
better_status second = 2
better_status neither = 0

-- A marking: 0 decided, 1 undecided; the sheet's rating, the best rating, 1 if they are equal and 0 if not, and the tries; undecided has 0 in
-- the places of what is not known
unfoldable pub mark_status : MarkOutcome → ℕ
mark_status (decided least sum best_least best_sum equal mark remainder tries) = 0
mark_status (undecided least sum tries) = 1
mark_status (sheets.refusal number place) = refusal_code number place

unfoldable pub one_if : Bool → ℕ
one_if true = 1
one_if false = 0

unfoldable pub mark_row : MarkOutcome → List ℕ → List ℕ
mark_row (decided least sum best_least best_sum equal mark remainder tries) row =
    least ∷ sum ∷ best_least ∷ best_sum ∷ one_if equal ∷ tries ∷ []
mark_row (undecided least sum tries) row = least ∷ sum ∷ 0 ∷ 0 ∷ 0 ∷ tries ∷ []
mark_row (sheets.refusal number place) row = row

-- Document 02, A.5: the mark out of a hundred and its remainder, in a row of their own; undecided has 0 in both places
unfoldable pub hundred_row : MarkOutcome → List ℕ → List ℕ
hundred_row (decided least sum best_least best_sum equal mark remainder tries) row = mark ∷ remainder ∷ []
hundred_row (undecided least sum tries) row = 0 ∷ 0 ∷ []
hundred_row (sheets.refusal number place) row = row
