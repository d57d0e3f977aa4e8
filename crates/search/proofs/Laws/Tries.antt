-- One try of the code is one try of the walk, whatever its rule: where the walk is over, where the budget is used up, where the try is
-- dropped and where it stands; and the walk from a partial timetable on is the next line's tries, or past the last line the best. Assumes
-- nothing.
use Prim.Native.Nat.{ℕ, zero, suc, ◌+◌, ◌-◌, ◌<◌, ◌≤◌}
use mathlib.Core.Path.{◌≡◌, refl, sym, ap, subst, ◌∙◌}
use mathlib.Core.Bool.{Bool, true, false, ◌&&◌}
use mathlib.Core.List.{List, [], ◌∷◌, ◌++◌}
use mathlib.Core.Logic.{◌⊎◌, inl, inr}
use borrow.Author.Tests.{eq-eqb, ne_eqb}
use native.Mathlib.Numerals.{add-one}
use native.Mathlib.Omega.{arith}
use lib.IntN.{ℤ, pos}
use Rattle.std.specs.Prelude.{Some}
use lib.ListN.{length, get_or, drop}
use Rattle.network.specs.Rating.{Rating}
use Rattle.network.specs.Network.{Net, max_period}
use Rattle.network.specs.declared.Rating as held
use Rattle.network.specs.Engine.Rated.{ranked}
use Rattle.network.specs.Valid.{Valid}
use Rattle.network.proofs.Laws.Lists.{zero_ne_one}
use Rattle.search.specs.declared.Walk as code
use Rattle.search.specs.Caps.{cap, upper_rating}
use Rattle.search.specs.Walk.{State, Rule, is_over, try_made, stop, becomes_best, unless, stop_if, one_try, each_start, walk}
use Rattle.search.specs.Search.{start_counts}
use Rattle.search.specs.Engine.Representation.{rule_of, rated, IsCut, starts_of, with_start, state_by, state_of, walk_from, try_at, CanTry, CanPlace, PlacedMore, GivenUp}
use Rattle.search.specs.declared.Cut.{Cut}
use Rattle.search.specs.declared.Placed.{Placed}
use Rattle.search.specs.declared.Task.{Task}
use Rattle.search.proofs.Laws.Walk.{each_start_split, each_start_one}
use Rattle.search.proofs.Laws.Upper.{upper_rating_numbers}

-- ---- the numbers of starts

pub length_start_counts : (periods : List ℕ) → length (start_counts periods) ≡ length periods
unfolding start_counts
length_start_counts [] = refl
length_start_counts (p ∷ ps) = refl

counts_low : (periods : List ℕ) → ((i : ℕ) → i < length periods → get_or periods i 0 ≤ max_period)
    → (i : ℕ) → i < length periods → get_or (start_counts periods) i 0 ≤ max_period
unfolding start_counts
counts_low [] h i l = absurd (omega (arith, l))
counts_low (p ∷ ps) h zero l = omega (arith)
counts_low (p ∷ ps) h (suc i) l = h (suc i) l

pub start_counts_low : (n : Net) → Valid n → (i : ℕ) → i < length n.periods → get_or (start_counts n.periods) i 0 ≤ max_period
start_counts_low n v = counts_low n.periods v.period

-- ---- the walk from a partial timetable on

cons_drop : (xs : List ℕ) (k : ℕ) → k < length xs → drop k xs ≡ get_or xs k 0 ∷ drop (suc k) xs
cons_drop [] k l = absurd (omega (arith, l))
cons_drop (x ∷ xs) zero l = refl
cons_drop (x ∷ xs) (suc k) l = cons_drop xs k (omega (arith, l))

drop_all : (xs : List ℕ) (k : ℕ) → length xs ≤ k → drop k xs ≡ []
drop_all [] zero l = refl
drop_all [] (suc k) l = refl
drop_all (x ∷ xs) zero l = absurd (omega (arith, l))
drop_all (x ∷ xs) (suc k) l = drop_all xs k (omega (arith, l))

module _ (n : Net) (rule : Rule) (budget : ℕ) where
  pub walk_from_next : (k : ℕ) (placed : List ℤ) (s : State) → k < length n.periods
      → walk_from n rule budget k placed s ≡ each_start (try_at n rule budget k placed) 0 (get_or (start_counts n.periods) k 0) s
  unfolding walk_from try_at walk
  walk_from_next k placed s l =
      ap (λ (cs : List ℕ). walk (upper_rating n (cap n)) rule budget cs placed s)
      (cons_drop (start_counts n.periods) k (rw length_start_counts l))

  pub walk_from_last : (k : ℕ) (placed : List ℤ) (s : State) → length n.periods ≤ k
      → walk_from n rule budget k placed s ≡ becomes_best (upper_rating n (cap n) placed) placed s
  unfolding walk_from walk
  walk_from_last k placed s l =
      ap (λ (cs : List ℕ). walk (upper_rating n (cap n)) rule budget cs placed s)
      (drop_all (start_counts n.periods) k (rw length_start_counts l))

  -- ---- one try

  module _ (k : ℕ) (placed : List ℤ) (x : ℕ) (w : code.Walk) where
    abbrev upper : Rating
    upper = upper_rating n (cap n) (placed ++ (pos x ∷ []))

    pub try_stopped : w.stopped ≡ true → state_of n w ≡ try_at n rule budget k placed x (state_of n w)
    unfolding try_at one_try is_over state_of state_by unless
    try_stopped e = rw e refl

    -- a walk that hasn't stopped
    module _ (e : w.stopped ≡ false) where
      pub try_ended : (rule.ends_at_first && (ranked w.best).some) ≡ true → state_of n w ≡ try_at n rule budget k placed x (state_of n w)
      unfolding try_at one_try is_over state_of state_by unless
      try_ended o = rw (e, o) refl

      -- and hasn't ended
      module _ (o : (rule.ends_at_first && (ranked w.best).some) ≡ false) where
        pub try_at_budget : w.tries ≡ budget
            → state_of n (record { tries = w.tries; stopped = true; best = w.best; starts = w.starts }) ≡ try_at n rule budget k placed x (state_of n w)
        unfolding try_at one_try is_over state_of state_by unless stop_if stop
        try_at_budget b = rw (e, o, eq-eqb w.tries budget b) refl

        -- a try that is made
        module _ (b : w.tries ≡ budget → ⊥) where
          abbrev more : code.Walk
          more = record { tries = w.tries + 1; stopped = w.stopped; best = w.best; starts = w.starts }

          pub try_dropped : rule.drops upper (ranked w.best) ≡ true → state_of n more ≡ try_at n rule budget k placed x (state_of n w)
          unfolding try_at one_try is_over state_of state_by unless stop_if try_made
          try_dropped f = rw (e, o, ne_eqb w.tries budget b, f) refl

          pub try_onward : rule.drops upper (ranked w.best) ≡ false
              → walk_from n rule budget (suc k) (placed ++ (pos x ∷ [])) (state_of n more) ≡ try_at n rule budget k placed x (state_of n w)
          unfolding try_at one_try is_over state_of state_by unless stop_if try_made
          try_onward f = rw (e, o, ne_eqb w.tries budget b, f) refl

          -- on the last line
          module _ (last : suc k ≡ length n.periods) (starts : List ℕ) (given : starts_of (suc k) starts ≡ placed ++ (pos x ∷ [])) (r : held.Rating)
              (is_upper : ranked (Some r) ≡ upper) where
            some : upper.some ≡ true
            some = ap (λ (q : Rating). q.some) (sym is_upper)

            best_state :
                state_of n (record { tries = w.tries + 1; stopped = w.stopped; best = Some r; starts = starts })
                ≡ becomes_best upper (placed ++ (pos x ∷ [])) (state_of n more)
            unfolding state_of state_by becomes_best
            best_state = rw (← last, is_upper, some, given) refl

            pub try_best : rule.drops upper (ranked w.best) ≡ false
                → state_of n (record { tries = w.tries + 1; stopped = w.stopped; best = Some r; starts = starts }) ≡ try_at n rule budget k placed x (state_of n w)
            try_best f =
                best_state
                ∙ sym (walk_from_last (suc k) (placed ++ (pos x ∷ [])) (state_of n more) (omega (arith, last)))
                ∙ try_onward f

-- ---- the code's try, by the partial timetable that it makes

pub can_place : {n : Net} {line : ℕ} {p : Placed} → CanTry n line p
    → (start : ℕ) → start < max_period → CanPlace n line start p
can_place can start low = record { stated = can.stated; start_low = low; before = can.before }

pub can_try_next : {n : Net} {line : ℕ} {p : Placed} {start : ℕ} {r : Placed} → PlacedMore n line start p r → line + 1 < length n.periods
    → CanTry n (line + 1) r
can_try_next more_placed l = record { stated = l; before = more_placed.one_more }

module _ {n : Net} (task : Task) {line : ℕ} {p : Placed} {start : ℕ} {r : Placed} (more_placed : PlacedMore n line start p r) where
  abbrev rule : Rule
  rule = rule_of task.rule

  made_is : rated r.upper.least r.upper.sum ≡ upper_rating n (cap n) (with_start line start p)
  made_is = more_placed.one_more.rating_of ∙ ap (upper_rating n (cap n)) more_placed.appended

  module _ (w : code.Walk) (e : w.stopped ≡ false) (o : (rule.ends_at_first && (ranked w.best).some) ≡ false) (b : w.tries ≡ task.budget → ⊥) where
    abbrev made : code.Walk
    made = record { tries = w.tries + 1; stopped = w.stopped; best = w.best; starts = w.starts }

    test_is : {q : Bool} → rule.drops (rated r.upper.least r.upper.sum) (ranked w.best) ≡ q → rule.drops (upper_rating n (cap n) (with_start line start p)) (ranked w.best) ≡ q
    test_is f = ap (λ (u : Rating). rule.drops u (ranked w.best)) (sym made_is) ∙ f

    -- dropped
    pub judged_dropped : rule.drops (rated r.upper.least r.upper.sum) (ranked w.best) ≡ true
        → state_of n made ≡ try_at n rule task.budget line (starts_of line p.starts) start (state_of n w)
    judged_dropped f = try_dropped n rule task.budget line (starts_of line p.starts) start w e o b (test_is f)

    -- sent to the next line
    pub judged_next : rule.drops (rated r.upper.least r.upper.sum) (ranked w.best) ≡ false → line + 1 < length n.periods
        → (count : ℕ) → count ≡ get_or (start_counts n.periods) (line + 1) 0
        → (res : code.Walk)
        → state_of n res ≡ each_start (try_at n rule task.budget (line + 1) (starts_of (line + 1) r.starts)) 0 count (state_of n made)
        → state_of n res ≡ try_at n rule task.budget line (starts_of line p.starts) start (state_of n w)
    judged_next f l count count_is res h =
        h
        ∙ ap (λ (count : ℕ). each_start (try_at n rule task.budget (line + 1) (starts_of (line + 1) r.starts)) 0 count (state_of n made)) count_is
        ∙ sym (walk_from_next n rule task.budget (line + 1) (starts_of (line + 1) r.starts) (state_of n made) l)
        ∙ ap (λ (starts : List ℤ). walk_from n rule task.budget (line + 1) starts (state_of n made)) more_placed.appended
        ∙ ap (λ (k : ℕ). walk_from n rule task.budget k (with_start line start p) (state_of n made)) (add-one line)
        ∙ try_onward n rule task.budget line (starts_of line p.starts) start w e o b (test_is f)

    -- the best
    pub judged_best : rule.drops (rated r.upper.least r.upper.sum) (ranked w.best) ≡ false → line < length n.periods → length n.periods ≤ line + 1
        → state_of n (record { tries = w.tries + 1; stopped = w.stopped; best = Some r.upper; starts = r.starts }) ≡ try_at n rule task.budget line (starts_of line p.starts) start (state_of n w)
    judged_best f stated l =
        try_best n rule task.budget line (starts_of line p.starts) start w e o b (omega (arith, l, stated)) r.starts
        (subst (λ (k : ℕ). starts_of k r.starts ≡ with_start line start p) (add-one line) more_placed.appended)
        r.upper
        made_is
        (test_is f)

-- ---- the same where a placing may have been given up

module _ {n : Net} (task : Task) {line : ℕ} {p : Placed}
    {cut : Cut} {start : ℕ} {r : Placed} (w : code.Walk) (is_cut : IsCut task.rule (ranked w.best) cut) where
  -- what a placing that is given up has come to is not kept
  pub given_up_is_dropped : GivenUp n cut line start p r → (rule_of task.rule).drops (rated r.upper.least r.upper.sum) (ranked w.best) ≡ true
  given_up_is_dropped given_up = sym (is_cut r.upper.least r.upper.sum) ∙ given_up.come_to

  -- so that a placing that stands was not given up
  pub placed_of_stands : PlacedMore n line start p r ⊎ GivenUp n cut line start p r
      → (rule_of task.rule).drops (rated r.upper.least r.upper.sum) (ranked w.best) ≡ false → PlacedMore n line start p r
  placed_of_stands (inl more_placed) e = more_placed
  placed_of_stands (inr given_up) e = absurd (zero_ne_one (cc (given_up_is_dropped given_up)))

  pub dropped_or_given_up : w.stopped ≡ false → ((rule_of task.rule).ends_at_first && (ranked w.best).some) ≡ false
      → (w.tries ≡ task.budget → ⊥)
      → PlacedMore n line start p r ⊎ GivenUp n cut line start p r
      → (rule_of task.rule).drops (rated r.upper.least r.upper.sum) (ranked w.best) ≡ true
      → state_of n (record { tries = w.tries + 1; stopped = w.stopped; best = w.best; starts = w.starts })
      ≡ try_at n (rule_of task.rule) task.budget line (starts_of line p.starts) start (state_of n w)
  dropped_or_given_up e o b (inl more_placed) f = judged_dropped task more_placed w e o b f
  dropped_or_given_up e o b (inr given_up) f =
      try_dropped n (rule_of task.rule) task.budget line (starts_of line p.starts) start w e o b
      (sym (ap (λ (q : Rating). (rule_of task.rule).drops q (ranked w.best)) (upper_rating_numbers n (cap n) (with_start line start p))) ∙ sym (is_cut _ _) ∙ given_up.upper)

-- ---- a line's starts in two halves

pub none_left : (step : ℕ → State → State) (from count : ℕ) (s : State) → count ≡ 0 → each_start step from count s ≡ s
unfolding each_start
none_left step from count s e = rw e refl

pub one_left : (step : ℕ → State → State) (from count : ℕ) (s : State) → count ≡ 1 → each_start step from count s ≡ step from s
one_left step from count s e = ap (λ (k : ℕ). each_start step from k s) e ∙ each_start_one step from s

pub two_halves : (step : ℕ → State → State) (from a count : ℕ) (s t u : State) → a ≤ count → t ≡ each_start step from a s
    → u ≡ each_start step (from + a) (count - a) t → u ≡ each_start step from count s
two_halves step from a count s t u l e f =
    f
    ∙ ap (each_start step (from + a) (count - a)) e
    ∙ sym (each_start_split step from a (count - a) s)
    ∙ ap (λ (k : ℕ). each_start step from k s) (omega (arith, l))

-- one start more
pub one_more : (step : ℕ → State → State) (from start : ℕ) (s t u : State) → from ≤ start → t ≡ each_start step from (start - from) s → u ≡ step start t
    → u ≡ each_start step from (start + 1 - from) s
one_more step from start s t u l e f =
    two_halves step from (start - from) (start + 1 - from) s t u (omega (arith, l)) e
    (f ∙ ap (λ (k : ℕ). step k t) (omega (arith, l)) ∙ sym (one_left step (from + (start - from)) (start + 1 - from - (start - from)) t (omega (arith, l))))
