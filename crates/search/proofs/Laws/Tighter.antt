-- A tighter upper rating never changes what a walk at its end has found, whatever its rule, and makes it no more tries: a try that only the
-- tighter one drops has no completion that the other would take. One induction over both walks, over the lines and the starts of a line.
-- Assumes nothing.
use Prim.Native.Nat.{ℕ, zero, suc, ◌≤◌, ◌<◌}
use mathlib.Core.Path.{◌≡◌, refl, sym, ◌∙◌}
use mathlib.Core.Bool.{true, false}
use mathlib.Core.List.{List, [], ◌∷◌, ◌++◌, append-nil, append_assoc}
use native.Mathlib.Nat.{zero-add, le_refl}
use native.Mathlib.Omega.{arith}
use borrow.Author.Tests.{not-true, ltb-true, lt-ltb}
use lib.IntN.{ℤ, pos}
use Rattle.network.specs.Rating.{Rating}
use Rattle.network.specs.Rating.{is_above}
use Rattle.network.proofs.Laws.Lists.{zero_ne_one}
use Rattle.network.proofs.Laws.Gaps.{not_above_transitive}
use Rattle.search.specs.Walk.{State, Rule, at_first, try_made, stop, becomes_best, one_try, each_start, walk}
use Rattle.search.specs.Search.{not_above, above_best, by_sum}
use Rattle.search.specs.Wanted.{at_least}
use Rattle.search.proofs.Laws.Walk.{ChosenBelow, none_left, next, Due, each_start_holds, over_of_ended, one_try_cases, one_try_over, walk_tries_le_budget}
use Rattle.search.proofs.Laws.Bounds.{IsUpper, BoundsEach}
use Rattle.search.proofs.Laws.Best.{DropsCompletions}
use Rattle.search.proofs.Laws.Rules.{above_best_cuts, at_least_drops_completions, by_sum_cuts, by_sum_drops_below}

-- ---- two walks step by step

-- What each step of both carries on
each_start_both : (first second : ℕ → State → State) (P : State → State → Type 0) (count : ℕ) (t s : State) → P t s
    → ((x : ℕ) → x < count → (t s : State) → P t s → P (first x t) (second x s))
    → P (each_start first 0 count t) (each_start second 0 count s)
unfolding each_start
each_start_both first second P zero t s h f = h
each_start_both first second P (suc count) t s h f =
    rw zero-add (f count (le_refl _) _ _ (each_start_both first second P count t s h (λ x l. f x (omega arith))))

-- A try that is due and within the budget is dropped or stands
one_try_made : (rule : Rule) (budget : ℕ) (Q : State → Type 0) (upper : Rating) (onward : State → State) (s : State)
    → Due rule s → (s.tries ≡ budget → ⊥) → (rule.drops upper s.best ≡ true → Q (try_made s))
    → (rule.drops upper s.best ≡ false → Q (onward (try_made s))) → Q (one_try rule budget upper onward s)
one_try_made rule budget Q upper onward s e f h k =
    one_try_cases rule budget Q upper onward s (λ e'. absurd (zero_ne_one (cc))) (λ e' f'. absurd (zero_ne_one (cc (e.unended e'))))
    (λ e' f'. absurd (f f')) (λ e' f'. h) (λ e' f'. k)

-- ---- a walk that meets nothing better

-- From one state of the walk to another only tries were made
record OnlyTries (t u : State) : Type 0 where
  best_kept : u.best ≡ t.best
  starts_kept : u.starts ≡ t.starts
  tries_made : t.tries ≤ u.tries

module _ (upper : List ℤ → Rating) (rule : Rule) (budget : ℕ) where
  -- A walk all of whose completions are dropped beside the best makes only tries
  walk_only_tries : (counts : List ℕ) (placed : List ℤ) (t : State)
      → ((tail : List ℤ) → ChosenBelow counts tail → rule.drops (upper (placed ++ tail)) t.best ≡ true)
      → rule.drops (upper placed) t.best ≡ false → OnlyTries t (walk upper rule budget counts placed t)
  unfolding walk stop try_made
  walk_only_tries [] placed t below stands = absurd (zero_ne_one (cc (rw append-nil at (below [] none_left))))
  walk_only_tries (count ∷ rest) placed t below stands =
      each_start_holds _ (λ x. OnlyTries t) count t (record { best_kept = refl; starts_kept = refl; tries_made = le_refl _ })
      (λ x l u o. one_try_cases rule budget (OnlyTries t) _ _ u
      (λ e. o)
      (λ e f. o)
      (λ e f. record { best_kept = o.best_kept; starts_kept = o.starts_kept; tries_made = o.tries_made })
      (λ e f d. record { best_kept = o.best_kept; starts_kept = o.starts_kept; tries_made = omega arith })
      (λ e f d.
      let placed' : List ℤ = placed ++ (pos x ∷ []) in
      let v : OnlyTries (try_made u) (walk upper rule budget rest placed' (try_made u)) =
      walk_only_tries rest placed' (try_made u) (λ tail c. rw (append_assoc, o.best_kept) (below (pos x ∷ tail) (next l c))) d in
      record {
        best_kept = v.best_kept ∙ o.best_kept;
        starts_kept = v.starts_kept ∙ o.starts_kept;
        tries_made = omega (arith, v.tries_made);
      }))

-- ---- a walk beside a tighter one

-- The tighter walk hasn't stopped, and has the other's best and starts with no more tries
pub record SameWithNoMoreTries (tighter other : State) : Type 0 where
  pub unstopped : tighter.stopped ≡ false
  pub same_best : tighter.best ≡ other.best
  pub same_starts : tighter.starts ≡ other.starts
  pub no_more_tries : tighter.tries ≤ other.tries

-- As long as the other hasn't stopped, the tighter walk is so beside it, within the budget
abbrev StandsBeside : ℕ → State → State → Type 0
StandsBeside budget t s = t.stopped ≡ false → SameWithNoMoreTries s t × (t.tries ≤ budget)

-- A try that both make
beside_made : (budget : ℕ) (t s : State) → (t.tries ≡ budget → ⊥) → StandsBeside budget t s → StandsBeside budget (try_made t) (try_made s)
unfolding try_made
beside_made budget t s n f e =
    let h = f e in (
      record {
        unstopped = h.0.unstopped;
        same_best = h.0.same_best;
        same_starts = h.0.same_starts;
        no_more_tries = omega arith;
      },
      omega arith,
    )

-- A try that is due in the one walk is due in the other
beside_due : (rule : Rule) (budget : ℕ) (t s : State) → Due rule t → StandsBeside budget t s → Due rule s
beside_due rule budget t s e f =
    let h = f e.unstopped in
    record { unstopped = h.0.unstopped; unended = λ ends. rw h.0.same_best (e.unended ends) }

module _ (tight loose : List ℤ → Rating) (rule : Rule) (budget : ℕ) (all : List ℕ) (completions : DropsCompletions tight rule all)
    (sooner : (placed : List ℤ) (b : Rating) → rule.drops (loose placed) b ≡ true → rule.drops (tight placed) b ≡ true)
    (agree : (starts : List ℤ) → ChosenBelow all starts → tight starts ≡ loose starts) where
  -- Both walks are over, both drop a try, both go on below it, or only the tighter walk drops it, where the other makes only tries
  walk_beside : (counts : List ℕ) (placed : List ℤ) → ((tail : List ℤ) → ChosenBelow counts tail → ChosenBelow all (placed ++ tail))
      → (t s : State) → StandsBeside budget t s
      → StandsBeside budget (walk loose rule budget counts placed t) (walk tight rule budget counts placed s)
  unfolding walk becomes_best stop try_made
  walk_beside [] placed fits t s f =
      let full : ChosenBelow all placed = rw append-nil at (fits [] none_left) in
      λ e. (
        record {
          unstopped = (f e).0.unstopped;
          same_best = agree placed full;
          same_starts = refl;
          no_more_tries = (f e).0.no_more_tries;
        },
        (f e).1,
      )
  walk_beside (count ∷ rest) placed fits t₀ s₀ f₀ =
      each_start_both _ _ (StandsBeside budget) count t₀ s₀ f₀
      (λ x l t s f.
      let placed' : List ℤ = placed ++ (pos x ∷ []) in
      let fits' : (tail : List ℤ) → ChosenBelow rest tail → ChosenBelow all (placed' ++ tail)
      = λ tail c. rw append_assoc (fits (pos x ∷ tail) (next l c)) in
      one_try_cases rule budget (λ u. StandsBeside budget u (one_try rule budget (tight placed') (walk tight rule budget rest placed') s)) _ _ t
      (λ e g. absurd (zero_ne_one (cc)))
      (λ e e' g. rw (one_try_over rule budget (tight placed') (walk tight rule budget rest placed') s (over_of_ended rule s e (rw (f g).0.same_best e'))) (f g))
      (λ e n g. absurd (zero_ne_one (cc)))
      (λ e n d.
      let h = f e.unstopped in
      one_try_made rule budget (StandsBeside budget (try_made t)) _ _ s (beside_due rule budget t s e f) (omega arith)
      (λ d'. beside_made budget t s n f)
      (λ d'. absurd (zero_ne_one (cc (sooner placed' t.best d)))))
      (λ e n d.
      let h = f e.unstopped in
      let u : State = walk loose rule budget rest placed' (try_made t) in
      one_try_made rule budget (StandsBeside budget u) _ _ s (beside_due rule budget t s e f) (omega arith)
      (λ d' g.
      let d'' : rule.drops (tight placed') t.best ≡ true = cc in
      let o : OnlyTries (try_made t) u
      = walk_only_tries loose rule budget rest placed' (try_made t)
      (λ tail c. rw (agree _ (fits' tail c)) at (completions placed' tail (fits' tail c) t.best d'')) d in (
        record {
          unstopped = h.0.unstopped;
          same_best = h.0.same_best ∙ sym o.best_kept;
          same_starts = h.0.same_starts ∙ sym o.starts_kept;
          no_more_tries = omega (arith, o.tries_made);
        },
        walk_tries_le_budget loose rule budget rest placed' (try_made t) (omega arith),
      ))
      (λ d'. walk_beside rest placed' fits' (try_made t) (try_made s) (beside_made budget t s n f))))

  -- By whatever rule, if it drops the tighter rating wherever it drops the other
  pub tighter_walk_same : (walk loose rule budget all [] at_first).stopped ≡ false
      → SameWithNoMoreTries (walk tight rule budget all [] at_first) (walk loose rule budget all [] at_first)
  tighter_walk_same e =
      (walk_beside all [] (λ tail c. c) at_first at_first
      (λ f. (record { unstopped = refl; same_best = refl; same_starts = refl; no_more_tries = le_refl _ }, omega arith)) e).0

-- ---- by each rule

module _ (tight loose : List ℤ → Rating) (budget : ℕ) (all : List ℕ) (agree : (starts : List ℤ) → ChosenBelow all starts → tight starts ≡ loose starts) where
  -- A tighter upper rating, sound and equal on full timetables, changes nothing of a finished search but its tries
  pub tighter_upper_same : ((placed : List ℤ) → is_above (tight placed) (loose placed) ≡ false)
      → IsUpper tight all
      → (walk loose above_best budget all [] at_first).stopped ≡ false
      → SameWithNoMoreTries (walk tight above_best budget all [] at_first) (walk loose above_best budget all [] at_first)
  unfolding above_best not_above
  tighter_upper_same below sound =
      tighter_walk_same tight loose above_best budget all (above_best_cuts tight all sound).completions
      (λ placed b d. rw (not_above_transitive _ (loose placed) b (below placed) (not-true _ d)) refl) agree

  -- The same by the other rules, for one that is tighter in its least gap and in its sum
  module _ (bounds : BoundsEach tight all) (least_le : (placed : List ℤ) → (tight placed).least ≤ (loose placed).least) where
    pub tighter_at_least_same : (wanted : ℕ) → (walk loose (at_least wanted) budget all [] at_first).stopped ≡ false
        → SameWithNoMoreTries (walk tight (at_least wanted) budget all [] at_first) (walk loose (at_least wanted) budget all [] at_first)
    unfolding at_least
    tighter_at_least_same wanted =
        tighter_walk_same tight loose (at_least wanted) budget all (at_least_drops_completions tight wanted all bounds)
        (λ placed b d. lt-ltb (tight placed).least wanted (omega (arith, least_le placed, ltb-true (loose placed).least wanted d))) agree

    pub tighter_by_sum_same : ((placed : List ℤ) → (tight placed).sum ≤ (loose placed).sum) → ((starts : List ℤ) → (tight starts).some ≡ true)
        → (floor : ℕ) → (walk loose (by_sum floor) budget all [] at_first).stopped ≡ false
        → SameWithNoMoreTries (walk tight (by_sum floor) budget all [] at_first) (walk loose (by_sum floor) budget all [] at_first)
    tighter_by_sum_same sum_le rates floor =
        tighter_walk_same tight loose (by_sum floor) budget all (by_sum_cuts tight floor all rates bounds).completions
        (λ placed b. by_sum_drops_below floor _ _ b (least_le placed) (sum_le placed)) agree
