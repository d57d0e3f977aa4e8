-- The walk over any parts, by whatever rule: how many tries it makes, when it stops, and what it keeps. Each is one induction over the lines,
-- and over the starts of a line. Assumes nothing.
use Prim.Native.Nat.{ℕ, zero, suc, ◌+◌, ◌*◌, ◌≤◌, ◌<◌}
use mathlib.Core.Path.{◌≡◌, refl, ap}
use mathlib.Core.Bool.{Bool, true, false, ◌&&◌, ◌||◌}
use mathlib.Core.List.{List, [], ◌∷◌, ◌++◌, append-nil, append_assoc}
use mathlib.Core.Logic.{◌⊎◌, inl, inr}
use native.Mathlib.Nat.{zero-add, add-zero, add-suc, add_assoc, le_refl, le_of_suc-le-suc, zero-lt-suc}
use native.Mathlib.Omega.{arith}
use borrow.Author.Tests.{eqb-true, eqb-false}
use lib.Dec.{eqb}
use lib.IntN.{ℤ, pos}
use lib.ListN.{length, get_or}
use Rattle.network.specs.Rating.{Rating}
use Rattle.network.proofs.Laws.Lists.{zero_ne_one}
use Rattle.network.proofs.Laws.Members.{All}
use Rattle.search.specs.Walk.{State, Rule, is_over, try_made, stop, becomes_best, unless, stop_if, one_try, each_start, walk, most_tries}

-- One start for each line that is left, below the number it is tried at
pub data ChosenBelow : List ℕ → List ℤ → Type 0 where
  none_left : ChosenBelow [] []
  next : {x count : ℕ} {counts : List ℕ} {starts : List ℤ} → x < count → ChosenBelow counts starts → ChosenBelow (count ∷ counts) (pos x ∷ starts)

pub ChosenBelow-length : {counts : List ℕ} {starts : List ℤ} → ChosenBelow counts starts → length starts ≡ length counts
ChosenBelow-length none_left = refl
ChosenBelow-length (next h c) = ap suc (ChosenBelow-length c)

pub ChosenBelow-at : {counts : List ℕ} {starts : List ℤ} → ChosenBelow counts starts → (i : ℕ) → i < length counts
    → (x : ℕ) × (get_or starts i (pos 0) ≡ pos x) × (x < get_or counts i 0)
ChosenBelow-at none_left i h = absurd (omega arith)
ChosenBelow-at (next {x = x} l c) zero h = (x, refl, l)
ChosenBelow-at (next l c) (suc i) h = ChosenBelow-at c i (le_of_suc-le-suc h)

-- Where every line has a start, there is a choice
pub ChosenBelow-exists : (counts : List ℕ) → All 0 (λ count. 0 < count) counts → (starts : List ℤ) × ChosenBelow counts starts
ChosenBelow-exists [] f = ([], none_left)
ChosenBelow-exists (count ∷ rest) f =
    let c = ChosenBelow-exists rest (λ i h. f (suc i) (omega arith)) in
    (pos 0 ∷ c.0, next (f 0 (zero-lt-suc _)) c.1)

-- ---- a line's starts

module _ (step : ℕ → State → State) where
  -- The starts of one part of the range, then those of the other
  pub each_start_split : (from a b : ℕ) (s : State) → each_start step from (a + b) s ≡ each_start step (from + a) b (each_start step from a s)
  unfolding each_start
  each_start_split from a zero s = rw add-zero
  each_start_split from a (suc b) s =
      rw (add-suc, ← add_assoc) (ap (step (from + a + b)) (each_start_split from a b s))

  pub each_start_one : (from : ℕ) (s : State) → each_start step from 1 s ≡ step from s
  unfolding each_start
  each_start_one from s = rw add-zero

  -- What each step carries on
  pub each_start_holds : (P : ℕ → State → Type 0) (count : ℕ) (s : State) → P 0 s
      → ((x : ℕ) → x < count → (t : State) → P x t → P (suc x) (step x t)) → P count (each_start step 0 count s)
  unfolding each_start
  each_start_holds P zero s h f = h
  each_start_holds P (suc count) s h f =
      rw zero-add (f count (le_refl _) _ (each_start_holds P count s h (λ x l. f x (omega arith))))

  -- What the first step brings and each further one carries on
  pub each_start_after_first : (P : State → Type 0) (count : ℕ) (s : State) → 0 < count → P (step 0 s)
      → ((x : ℕ) (t : State) → P t → P (step x t)) → P (each_start step 0 count s)
  unfolding each_start
  each_start_after_first P zero s h f g = absurd (omega arith)
  each_start_after_first P (suc zero) s h f g = f
  each_start_after_first P (suc (suc count)) s h f g = g (0 + suc count) _ (each_start_after_first P (suc count) s (zero-lt-suc count) f g)

-- ---- one try

-- A try is due: the walk hasn't stopped, nor ended at its first full timetable
pub record Due (rule : Rule) (s : State) : Type 0 where
  pub unstopped : s.stopped ≡ false
  pub unended : rule.ends_at_first ≡ true → s.best.some ≡ false

-- The walk is over or a try is due
module _ (rule : Rule) (s : State) where
  over_by : is_over rule s ≡ true → (s.stopped ≡ true) ⊎ ((rule.ends_at_first ≡ true) × (s.best.some ≡ true))
  unfolding is_over
  over_by = go s.stopped rule.ends_at_first s.best.some refl refl refl
    where
      go : (a b c : Bool) → s.stopped ≡ a → rule.ends_at_first ≡ b → s.best.some ≡ c → (a || (b && c)) ≡ true
          → (s.stopped ≡ true) ⊎ ((rule.ends_at_first ≡ true) × (s.best.some ≡ true))
      go true b c e f g h = inl e
      go false true true e f g h = inr (f, g)
      go false true false e f g h = absurd (zero_ne_one (cc))
      go false false c e f g h = absurd (zero_ne_one (cc))

  due_of_not_over : is_over rule s ≡ false → Due rule s
  unfolding is_over
  due_of_not_over = go s.stopped rule.ends_at_first s.best.some refl refl refl
    where
      go : (a b c : Bool) → s.stopped ≡ a → rule.ends_at_first ≡ b → s.best.some ≡ c → (a || (b && c)) ≡ false → Due rule s
      go true b c e f g h = absurd (zero_ne_one (cc))
      go false true true e f g h = absurd (zero_ne_one (cc))
      go false true false e f g h = record { unstopped = e; unended = λ x. g }
      go false false c e f g h = record { unstopped = e; unended = λ x. absurd (zero_ne_one (cc)) }

  pub over_of_stopped : s.stopped ≡ true → is_over rule s ≡ true
  unfolding is_over
  over_of_stopped e = ap (λ (a : Bool). a || (rule.ends_at_first && s.best.some)) e

  pub over_of_ended : rule.ends_at_first ≡ true → s.best.some ≡ true → is_over rule s ≡ true
  unfolding is_over
  over_of_ended e f = go s.stopped
    where
      go : (a : Bool) → (a || (rule.ends_at_first && s.best.some)) ≡ true
      go true = refl
      go false = rw (e, f) refl

unless_cases : (Q : State → Type 0) (a : Bool) (step : State → State) (s : State) → (a ≡ true → Q s) → (a ≡ false → Q (step s))
    → Q (unless a step s)
unfolding unless
unless_cases Q true step s f g = f refl
unless_cases Q false step s f g = g refl

stop_if_cases : (Q : State → Type 0) (a : Bool) (step : State → State) (s : State) → (a ≡ true → Q (stop s)) → (a ≡ false → Q (step s))
    → Q (stop_if a step s)
unfolding stop_if
stop_if_cases Q true step s f g = f refl
stop_if_cases Q false step s f g = g refl

module _ (rule : Rule) (budget : ℕ) where
  -- A try finds the walk stopped, finds it ended at its first full timetable, stops it, is dropped, or stands
  pub one_try_cases : (Q : State → Type 0) (upper : Rating) (onward : State → State) (s : State)
      → (s.stopped ≡ true → Q s)
      → (rule.ends_at_first ≡ true → s.best.some ≡ true → Q s)
      → (Due rule s → s.tries ≡ budget → Q (stop s))
      → (Due rule s → (s.tries ≡ budget → ⊥) → rule.drops upper s.best ≡ true → Q (try_made s))
      → (Due rule s → (s.tries ≡ budget → ⊥) → rule.drops upper s.best ≡ false → Q (onward (try_made s)))
      → Q (one_try rule budget upper onward s)
  unfolding one_try
  one_try_cases Q upper onward s f f' g h k =
      unless_cases Q (is_over rule s) _ s (λ e. either (over_by rule s e)) (λ e.
      let due = due_of_not_over rule s e in
      stop_if_cases Q (eqb s.tries budget) _ s (λ e'. g due (eqb-true _ _ e')) (λ e'.
      unless_cases Q (rule.drops upper s.best) onward (try_made s) (h due (eqb-false _ _ e')) (k due (eqb-false _ _ e'))))
    where
      either : (s.stopped ≡ true) ⊎ ((rule.ends_at_first ≡ true) × (s.best.some ≡ true)) → Q s
      either (inl e) = f e
      either (inr (e, e')) = f' e e'

  -- A try that is made
  module _ (upper : Rating) (onward : State → State) (s : State) (due : Due rule s) (left : s.tries ≡ budget → ⊥) where
    pub made_dropped : rule.drops upper s.best ≡ true → one_try rule budget upper onward s ≡ try_made s
    made_dropped d =
        one_try_cases (λ t. t ≡ try_made s) upper onward s
        (λ e. absurd (zero_ne_one (cc due.unstopped)))
        (λ e f. absurd (zero_ne_one (cc (due.unended e))))
        (λ e f. absurd (left f))
        (λ e f g. refl)
        (λ e f g. absurd (zero_ne_one (cc)))

    pub made_onward : rule.drops upper s.best ≡ false → one_try rule budget upper onward s ≡ onward (try_made s)
    made_onward d =
        one_try_cases (λ t. t ≡ onward (try_made s)) upper onward s
        (λ e. absurd (zero_ne_one (cc due.unstopped)))
        (λ e f. absurd (zero_ne_one (cc (due.unended e))))
        (λ e f. absurd (left f))
        (λ e f g. absurd (zero_ne_one (cc)))
        (λ e f g. refl)

  -- ---- a walk that is over stays as it is

  pub one_try_over : (upper : Rating) (onward : State → State) (s : State) → is_over rule s ≡ true → one_try rule budget upper onward s ≡ s
  unfolding one_try
  one_try_over upper onward s e = unless_cases (λ t. t ≡ s) (is_over rule s) _ s (λ f. refl) (λ f. absurd (zero_ne_one (cc)))

-- ---- the tries

-- The tries from one state of the walk to another are at most so many, and under a budget that leaves so many it doesn't stop between
record TriesWithin (budget most : ℕ) (s t : State) : Type 0 where
  few : t.tries ≤ s.tries + most
  enough : s.stopped ≡ false → s.tries + most ≤ budget → t.stopped ≡ false

module _ (upper : List ℤ → Rating) (rule : Rule) (budget : ℕ) where
  walk_within : (counts : List ℕ) (placed : List ℤ) (s : State)
      → TriesWithin budget (most_tries counts) s (walk upper rule budget counts placed s)
  unfolding walk most_tries becomes_best stop try_made
  walk_within [] placed s = record { few = omega arith; enough = λ e h. e }
  walk_within (count ∷ rest) placed s =
      each_start_holds _ (λ x. TriesWithin budget (x * (1 + most_tries rest)) s) count s
      (record { few = omega arith; enough = λ e h. e })
      (λ x l t w. one_try_cases rule budget (TriesWithin budget (suc x * (1 + most_tries rest)) s) _ _ t
      (λ e. record { few = omega arith; enough = λ f h. w.enough f (omega arith) })
      (λ e e'. record { few = omega arith; enough = λ f h. w.enough f (omega arith) })
      (λ e e'. record { few = omega arith; enough = λ f h. absurd (omega arith) })
      (λ e e' d. record { few = omega arith; enough = λ f h. e.unstopped })
      (λ e e' d.
      let v = walk_within rest (placed ++ (pos x ∷ [])) (try_made t) in
      record { few = omega (arith, v.few); enough = λ f h. v.enough e.unstopped (omega arith) }))

  pub walk_tries_le : (counts : List ℕ) (placed : List ℤ) (s : State)
      → (walk upper rule budget counts placed s).tries ≤ s.tries + most_tries counts
  walk_tries_le counts placed s = (walk_within counts placed s).few

  pub walk_finishes : (counts : List ℕ) (placed : List ℤ) (s : State) → s.stopped ≡ false → s.tries + most_tries counts ≤ budget
      → (walk upper rule budget counts placed s).stopped ≡ false
  walk_finishes counts placed s = (walk_within counts placed s).enough

  -- What a stop, a try that is made and a full choice keep, the walk keeps; of a full choice holds what a try that stands brings along
  module _ (I : State → Type 0) (Brought : List ℤ → State → Type 0)
      (over : (s : State) → Due rule s → s.tries ≡ budget → I s → I (stop s))
      (made : (s : State) → Due rule s → (s.tries ≡ budget → ⊥) → I s → I (try_made s))
      (stands : (placed : List ℤ) (s : State) → Due rule s → rule.drops (upper placed) s.best ≡ false → Brought placed (try_made s)) where
    pub walk_keeps : (counts : List ℕ) (placed : List ℤ)
        → ((tail : List ℤ) → ChosenBelow counts tail → (s : State) → Brought (placed ++ tail) s → I s → I (becomes_best (upper (placed ++ tail)) (placed ++ tail) s))
        → (s : State) → (length counts ≡ 0 → Brought placed s) → I s → I (walk upper rule budget counts placed s)
    unfolding walk
    walk_keeps [] placed full s b i =
        let here : Brought placed s → I s → I (becomes_best (upper placed) placed s) = rw append-nil at (full [] none_left s) in here (b refl) i
    walk_keeps (count ∷ rest) placed full s b i =
        each_start_holds _ (λ x. I) count s i
        (λ x l t j. one_try_cases rule budget I _ _ t (λ e. j) (λ e f. j) (λ e f. over t e f j) (λ e f d. made t e f j)
        (λ e f d. walk_keeps rest (placed ++ (pos x ∷ [])) (λ tail c. rw append_assoc (full (pos x ∷ tail) (next l c)))
        (try_made t) (λ z. stands (placed ++ (pos x ∷ [])) t e d) (made t e f j)))

  pub walk_tries_le_budget : (counts : List ℕ) (placed : List ℤ) (s : State) → s.tries ≤ budget
      → (walk upper rule budget counts placed s).tries ≤ budget
  unfolding becomes_best stop try_made
  walk_tries_le_budget counts placed s =
      walk_keeps (λ s. s.tries ≤ budget) (λ p s. Unit {0}) (λ s e f h. h) (λ s e f h. omega arith) (λ p s e d. tt) counts placed
      (λ tail c s b h. h) s (λ z. tt)

  -- Tries are made and never taken back
  pub walk_tries_rise : (counts : List ℕ) (placed : List ℤ) (s : State) → s.tries ≤ (walk upper rule budget counts placed s).tries
  unfolding becomes_best stop try_made
  walk_tries_rise counts placed s =
      walk_keeps (λ t. s.tries ≤ t.tries) (λ p t. Unit {0}) (λ t e f h. h) (λ t e f h. omega arith) (λ p t e d. tt) counts placed
      (λ tail c t b h. h) s (λ z. tt) (le_refl s.tries)

  -- A walk that ends stopped has made all its tries
  pub walk_stopped_at_budget : (counts : List ℕ) (placed : List ℤ) (s : State) → s.stopped ≡ false
      → (walk upper rule budget counts placed s).stopped ≡ true → (walk upper rule budget counts placed s).tries ≡ budget
  unfolding becomes_best stop try_made
  walk_stopped_at_budget counts placed s e =
      walk_keeps (λ t. t.stopped ≡ true → t.tries ≡ budget) (λ p s. Unit {0}) (λ t f g h f'. g) (λ t f g h f'. absurd (zero_ne_one (cc)))
      (λ p s e d. tt) counts placed (λ tail c t b h. h) s (λ z. tt) (λ f. absurd (zero_ne_one (cc)))
