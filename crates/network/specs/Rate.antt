-- Document 01, "Sheets" and "Grounds for refusing", the candidate: what rate answers on a file and a sheet.
use Rattle.std.specs.Prelude.{ℕ, List, [], ◌∷◌, eqb, ℤ, length, Result, Ok, Err}
use Rattle.network.specs.declared.Rating as held
use Rattle.network.specs.declared.grounds.Refusal.{Refusal}
use Rattle.network.specs.Lists.{pick}
use Rattle.network.specs.Network.{Net}
use Rattle.network.specs.Reading.{Reading, accepted, refused, Outcome, values, refusal}
use Rattle.network.specs.Rating.{Rating, rating}
use Rattle.network.specs.Numbers.{number_of}

-- The rate call's answer: the rating, least gap and then sum; or the refusal
unfoldable pub rate_answer : Result held.Rating Refusal → Outcome
rate_answer (Ok r) = values (r.least ∷ r.sum ∷ [])
rate_answer (Err r) = refusal (number_of r.reason) r.place

-- A rating's numbers
unfoldable pub rating_values : Rating → Outcome
rating_values r = values (r.least ∷ r.sum ∷ [])

-- What a call on a file and a sheet of starts answers, given what it answers of a network and a sheet that fits, and how it refuses: the file's
-- refusal, then ground 15, then the answer
unfoldable pub on_sheet : {A : Type 0} → (Net → List ℤ → A) → (ℕ → ℕ → A) → Reading → List ℤ → A
on_sheet answers refuses (refused number place) sheet = refuses number place
on_sheet answers refuses (accepted n) sheet = pick (eqb (length sheet) (length n.periods)) (answers n sheet) (refuses 15 0)

-- A call that answers a rating, given how a network rates a sheet
abbrev pub rated_on_sheet : (Net → List ℤ → Rating) → Reading → List ℤ → Outcome
rated_on_sheet rates read sheet = on_sheet (λ (n : Net) (starts : List ℤ). rating_values (rates n starts)) refusal read sheet

-- What the rate call has to answer
unfoldable pub rate_outcome : Reading → List ℤ → Outcome
rate_outcome read sheet = rated_on_sheet rating read sheet
