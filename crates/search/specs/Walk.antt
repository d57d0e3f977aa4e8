-- Document 01, "The walk": a depth-first branch and bound over its parts, which are how many starts each line is tried at, the upper rating
-- of a partial timetable, and the rule it goes by.
use Rattle.std.specs.Prelude.{ℕ, zero, suc, ◌+◌, ◌*◌, Bool, true, false, ◌&&◌, ◌||◌, List, [], ◌∷◌, ◌++◌, eqb, ℤ, pos}
use Rattle.network.specs.Rating.{Rating, no_rating}

-- A walk on its way: the tries made, whether it has stopped, and the best so far with its starts
pub record State : Type 0 where
  pub tries : ℕ
  pub stopped : Bool
  pub best : Rating
  pub starts : List ℤ

-- Before the first try: no rating, which is below every rating
abbrev pub at_first : State
at_first = record { tries = 0; stopped = false; best = no_rating; starts = [] }

-- What a walk goes by: whether an upper rating is dropped beside the best so far, and whether the first full timetable ends the walk
pub record Rule : Type 0 where
  pub drops : Rating → Rating → Bool
  pub ends_at_first : Bool

-- A walk is over where it has stopped or, by a rule that ends at the first full timetable, has one
unfoldable pub is_over : Rule → State → Bool
is_over rule s = s.stopped || (rule.ends_at_first && s.best.some)

-- One more try made; the walk stopped; a full timetable become the best
unfoldable pub try_made : State → State
try_made s = record { tries = s.tries + 1; stopped = s.stopped; best = s.best; starts = s.starts }

unfoldable pub stop : State → State
stop s = record { tries = s.tries; stopped = true; best = s.best; starts = s.starts }

unfoldable pub becomes_best : Rating → List ℤ → State → State
becomes_best r starts s = record { tries = s.tries; stopped = s.stopped; best = r; starts = starts }

-- A step of the walk, or nothing where the test holds
unfoldable pub unless : Bool → (State → State) → State → State
unless true step s = s
unless false step s = step s

-- The walk stops where the test holds
unfoldable pub stop_if : Bool → (State → State) → State → State
stop_if true step s = stop s
stop_if false step s = step s

-- One try, due unless the walk is over. If the tries made equal the budget, the walk stops. Otherwise the try is made; its upper rating is
-- dropped, beside the best so far, or stands and sends the walk onward
unfoldable pub one_try : Rule → ℕ → Rating → (State → State) → State → State
one_try rule budget upper onward s =
    unless (is_over rule s) (λ t. stop_if (eqb t.tries budget) (λ u. unless (rule.drops upper u.best) onward (try_made u)) t) s

-- A step for each of `count` starts from `from` on, ascending
unfoldable pub each_start : (ℕ → State → State) → ℕ → ℕ → State → State
each_start step from zero s = s
each_start step from (suc count) s = step (from + count) (each_start step from count s)

-- The walk from a partial timetable on: each line that is left is tried at its starts, and past the last line the timetable is the best
unfoldable pub walk : (List ℤ → Rating) → Rule → ℕ → List ℕ → List ℤ → State → State
walk upper rule budget [] placed s = becomes_best (upper placed) placed s
walk upper rule budget (count ∷ rest) placed s =
    each_start
    (λ x t.
    one_try rule budget (upper (placed ++ (pos x ∷ []))) (walk upper rule budget rest (placed ++ (pos x ∷ []))) t)
    0
    count
    s

-- How many tries a walk can make: c + c×d + .. over the numbers of starts
unfoldable pub most_tries : List ℕ → ℕ
most_tries [] = 0
most_tries (count ∷ rest) = count * (1 + most_tries rest)
