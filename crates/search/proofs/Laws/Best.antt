-- The best of a walk over any parts, by what a law needs of its rule: a best is a choice that wasn't dropped; a walk at its end without a best
-- has dropped every choice; one that goes on to the end drops every choice beside its best; and where nothing is dropped before the first, there
-- is one after a try for each line, and none before. Each is one induction over the lines, and over the starts of a line. Assumes nothing.
use Prim.Native.Nat.{ℕ, suc, ◌+◌, ◌≤◌, ◌<◌}
use mathlib.Core.Path.{◌≡◌, refl, sym, ap, ◌∙◌}
use mathlib.Core.Bool.{Bool, true, false}
use mathlib.Core.List.{List, [], ◌∷◌, ◌++◌, append-nil, append_assoc}
use mathlib.Core.Logic.{◌⊎◌, inl, inr}
use native.Mathlib.Nat.{le_of_suc-le-suc, eq-or-lt_of_le, zero-lt-suc}
use native.Mathlib.Omega.{arith}
use lib.IntN.{ℤ, pos}
use lib.ListN.{length}
use Rattle.network.specs.Rating.{Rating}
use Rattle.network.specs.Rating.{no_rating}
use Rattle.network.proofs.Laws.Lists.{zero_ne_one}
use Rattle.network.proofs.Laws.Members.{All}
use Rattle.search.specs.Walk.{State, Rule, at_first, try_made, stop, becomes_best, one_try, walk}
use Rattle.search.proofs.Laws.Walk.{ChosenBelow, none_left, next, each_start_holds, each_start_after_first, one_try_cases, made_onward}
use Rattle.search.proofs.Laws.Walk.{one_try_over, over_of_stopped, over_of_ended, walk_keeps}

-- ---- what a rule keeps

-- A try that is dropped has no completion that isn't
abbrev pub DropsCompletions : (List ℤ → Rating) → Rule → List ℕ → Type 0
DropsCompletions upper rule all =
    (placed tail : List ℤ) → ChosenBelow all (placed ++ tail) → (b : Rating) → rule.drops (upper placed) b ≡ true → rule.drops (upper (placed ++ tail)) b ≡ true

-- Of a rule that goes on to the end besides: what is dropped beside a best is dropped beside a full timetable that isn't; and a full timetable
-- is dropped beside itself
pub record Cuts (upper : List ℤ → Rating) (rule : Rule) (all : List ℕ) : Type 0 where
  pub goes_on : rule.ends_at_first ≡ false
  pub completions : DropsCompletions upper rule all
  pub better : (starts : List ℤ) → ChosenBelow all starts → (r b : Rating)
      → rule.drops (upper starts) b ≡ false → rule.drops r b ≡ true → rule.drops r (upper starts) ≡ true
  pub itself : (starts : List ℤ) → ChosenBelow all starts → rule.drops (upper starts) (upper starts) ≡ true

-- ---- what holds of a partial timetable's completions, by the line that is next

module _ (N : List ℤ → Type 0) (placed : List ℤ) where
  completions_none_left : N placed → (tail : List ℤ) → ChosenBelow [] tail → N (placed ++ tail)
  completions_none_left h _ none_left = rw append-nil h

  completions_none_tried : (rest : List ℕ) (tail : List ℤ) → ChosenBelow (0 ∷ rest) tail → N (placed ++ tail)
  completions_none_tried rest _ (next h c) = absurd (omega arith)

  completions_next : (x : ℕ) (rest : List ℕ) → ((tail : List ℤ) → ChosenBelow (x ∷ rest) tail → N (placed ++ tail))
      → ((tail : List ℤ) → ChosenBelow rest tail → N (placed ++ (pos x ∷ []) ++ tail))
      → (tail : List ℤ) → ChosenBelow (suc x ∷ rest) tail → N (placed ++ tail)
  completions_next x rest f g _ (next {x = y} {starts = tail} h c) = go (eq-or-lt_of_le (le_of_suc-le-suc h))
    where
      go : (y ≡ x) ⊎ (y < x) → N (placed ++ (pos y ∷ tail))
      go (inl e) = rw e (rw append_assoc at (g tail c))
      go (inr l) = f (pos y ∷ tail) (next l c)

-- ---- a walk without a best

-- From one state of the walk to another, if it has no best: it has none as before and, if it hasn't stopped, every completion was dropped
record Unmet (upper : List ℤ → Rating) (rule : Rule) (counts : List ℕ) (placed : List ℤ) (s t : State) : Type 0 where
  kept : t.best.some ≡ false → t.best ≡ s.best
  met : t.stopped ≡ false → t.best.some ≡ false → (tail : List ℤ) → ChosenBelow counts tail → rule.drops (upper (placed ++ tail)) s.best ≡ true

module _ (upper : List ℤ → Rating) (rule : Rule) (budget : ℕ) (all : List ℕ) (rates : (starts : List ℤ) → (upper starts).some ≡ true)
    (completions : DropsCompletions upper rule all) where
  walk_unmet : (counts : List ℕ) (placed : List ℤ) → ((tail : List ℤ) → ChosenBelow counts tail → ChosenBelow all (placed ++ tail))
      → (s : State) → Unmet upper rule counts placed s (walk upper rule budget counts placed s)
  unfolding walk becomes_best stop try_made
  walk_unmet [] placed fits s =
      record { kept = λ n. absurd (zero_ne_one (cc (rates placed))); met = λ e n. absurd (zero_ne_one (cc (rates placed))) }
  walk_unmet (count ∷ rest) placed fits s =
      each_start_holds _ (λ x. Unmet upper rule (x ∷ rest) placed s) count s
      (record { kept = λ n. refl; met = λ e n. completions_none_tried (λ starts. rule.drops (upper starts) s.best ≡ true) placed rest })
      (λ x l t w.
      let placed' : List ℤ = placed ++ (pos x ∷ []) in
      let fits' : (tail : List ℤ) → ChosenBelow rest tail → ChosenBelow all (placed' ++ tail)
      = λ tail c. rw append_assoc (fits (pos x ∷ tail) (next l c)) in
      one_try_cases rule budget (Unmet upper rule (suc x ∷ rest) placed s) _ _ t
      (λ e. record { kept = w.kept; met = λ f n. absurd (zero_ne_one (cc)) })
      (λ e e'. record { kept = w.kept; met = λ f n. absurd (zero_ne_one (cc)) })
      (λ e e'. record { kept = w.kept; met = λ f n. absurd (zero_ne_one (cc)) })
      (λ e e' d.
      record {
        kept = w.kept;
        met = λ f n. completions_next (λ starts. rule.drops (upper starts) s.best ≡ true) placed x rest (w.met e.unstopped n)
            (λ tail c. rw (w.kept n) at (completions placed' tail (fits' tail c) t.best d));
      })
      (λ e e' d.
      let u : State = walk upper rule budget rest placed' (try_made t) in
      let v : Unmet upper rule rest placed' (try_made t) u = walk_unmet rest placed' fits' (try_made t) in
      let none : u.best.some ≡ false → t.best.some ≡ false = λ n. sym (ap (λ (b : Rating). b.some) (v.kept n)) ∙ n in
      record {
        kept = λ n. v.kept n ∙ w.kept (none n);
        met = λ f n.
            let same : t.best ≡ s.best = w.kept (none n) in
            completions_next (λ starts. rule.drops (upper starts) s.best ≡ true) placed x rest (w.met e.unstopped (none n))
            (λ tail c. rw same at (v.met f n tail c));
      }))

  -- A walk that hasn't stopped and has no best has dropped every choice ..
  pub finished_none_stands : (walk upper rule budget all [] at_first).stopped ≡ false → (walk upper rule budget all [] at_first).best.some ≡ false
      → (starts : List ℤ) → ChosenBelow all starts → rule.drops (upper starts) no_rating ≡ true
  finished_none_stands = (walk_unmet all [] (λ tail c. c) at_first).met

  -- .. so that with a choice that stands it has a best
  pub finished_has_best : (walk upper rule budget all [] at_first).stopped ≡ false
      → (starts : List ℤ) → ChosenBelow all starts → rule.drops (upper starts) no_rating ≡ false
      → (walk upper rule budget all [] at_first).best.some ≡ true
  finished_has_best finished starts c stands = go (walk upper rule budget all [] at_first).best.some refl
    where
      go : (t : Bool) → (walk upper rule budget all [] at_first).best.some ≡ t → t ≡ true
      go true e = refl
      go false e = absurd (zero_ne_one (cc (finished_none_stands finished e starts c)))

-- ---- a walk that goes on to the end

-- From one state of the walk to another what was dropped stays so; and if the walk hasn't stopped, every completion is dropped beside the best
record CoveredBy (upper : List ℤ → Rating) (rule : Rule) (counts : List ℕ) (placed : List ℤ) (s t : State) : Type 0 where
  kept : (r : Rating) → rule.drops r s.best ≡ true → rule.drops r t.best ≡ true
  met : t.stopped ≡ false → (tail : List ℤ) → ChosenBelow counts tail → rule.drops (upper (placed ++ tail)) t.best ≡ true

module _ (upper : List ℤ → Rating) (rule : Rule) (budget : ℕ) (all : List ℕ) (cuts : Cuts upper rule all) where
  walk_covers : (counts : List ℕ) (placed : List ℤ) → ((tail : List ℤ) → ChosenBelow counts tail → ChosenBelow all (placed ++ tail))
      → (s : State) → (length counts ≡ 0 → rule.drops (upper placed) s.best ≡ false)
      → CoveredBy upper rule counts placed s (walk upper rule budget counts placed s)
  unfolding walk becomes_best stop try_made
  walk_covers [] placed fits s stands =
      let full : ChosenBelow all placed = rw append-nil at (fits [] none_left) in
      record {
        kept = λ r h. cuts.better placed full r s.best (stands refl) h;
        met = λ e. completions_none_left (λ starts. rule.drops (upper starts) (upper placed) ≡ true) placed (cuts.itself placed full);
      }
  walk_covers (count ∷ rest) placed fits s stands =
      each_start_holds _ (λ x. CoveredBy upper rule (x ∷ rest) placed s) count s
      (record { kept = λ r h. h; met = λ e. completions_none_tried (λ starts. rule.drops (upper starts) s.best ≡ true) placed rest })
      (λ x l t w.
      let placed' : List ℤ = placed ++ (pos x ∷ []) in
      let fits' : (tail : List ℤ) → ChosenBelow rest tail → ChosenBelow all (placed' ++ tail)
      = λ tail c. rw append_assoc (fits (pos x ∷ tail) (next l c)) in
      one_try_cases rule budget (CoveredBy upper rule (suc x ∷ rest) placed s) _ _ t
      (λ e. record { kept = w.kept; met = λ f. absurd (zero_ne_one (cc)) })
      (λ e e'. absurd (zero_ne_one (cc cuts.goes_on)))
      (λ e e'. record { kept = w.kept; met = λ f. absurd (zero_ne_one (cc)) })
      (λ e e' d.
      record {
        kept = w.kept;
        met = λ f. completions_next (λ starts. rule.drops (upper starts) t.best ≡ true) placed x rest (w.met e.unstopped)
            (λ tail c. cuts.completions placed' tail (fits' tail c) t.best d);
      })
      (λ e e' d.
      let u : State = walk upper rule budget rest placed' (try_made t) in
      let v : CoveredBy upper rule rest placed' (try_made t) u = walk_covers rest placed' fits' (try_made t) (λ z. d) in
      record {
        kept = λ r h. v.kept r (w.kept r h);
        met = λ f. completions_next (λ starts. rule.drops (upper starts) u.best ≡ true) placed x rest
            (λ tail c. v.kept _ (w.met e.unstopped tail c)) (v.met f);
      }))

  -- After such a walk that hasn't stopped every choice is dropped beside the best
  pub finished_drops_all : (length all ≡ 0 → rule.drops (upper []) no_rating ≡ false) → (walk upper rule budget all [] at_first).stopped ≡ false
      → (starts : List ℤ) → ChosenBelow all starts → rule.drops (upper starts) (walk upper rule budget all [] at_first).best ≡ true
  finished_drops_all stands = (walk_covers all [] (λ tail c. c) at_first stands).met

-- ---- the best

-- A best is the upper rating of the starts beside it, which are a choice; without a best there are no starts
pub record BestIsChosen (upper : List ℤ → Rating) (counts : List ℕ) (best : Rating) (starts : List ℤ) : Type 0 where
  pub rated : best.some ≡ true → best ≡ upper starts
  pub chosen : best.some ≡ true → ChosenBelow counts starts
  pub none : best.some ≡ false → starts ≡ []

module _ (upper : List ℤ → Rating) (rule : Rule) (budget : ℕ) (rates : (starts : List ℤ) → (upper starts).some ≡ true) where
  -- A best stays, or a later one is in its place
  walk_keeps_best : (counts : List ℕ) (placed : List ℤ) (s : State) → s.best.some ≡ true → (walk upper rule budget counts placed s).best.some ≡ true
  unfolding becomes_best stop try_made
  walk_keeps_best counts placed s =
      walk_keeps upper rule budget (λ t. t.best.some ≡ true) (λ p t. Unit {0}) (λ t e f h. h) (λ t e f h. h) (λ p t e d. tt) counts placed
      (λ tail c t b h. rates (placed ++ tail)) s (λ z. tt)

  -- By a rule that drops nothing before the first full timetable the walk first places one line after the other, each with one try
  module _ (free : (starts : List ℤ) → rule.drops (upper starts) no_rating ≡ false) where
    first_stands : (placed : List ℤ) (onward : State → State) (s : State) → s.stopped ≡ false → s.best ≡ no_rating → s.tries < budget
        → one_try rule budget (upper placed) onward s ≡ onward (try_made s)
    first_stands placed onward s unstopped none left =
        made_onward rule budget (upper placed) onward s (record { unstopped = unstopped; unended = λ e. ap (λ (b : Rating). b.some) none })
        (λ e. omega arith) (ap (λ (b : Rating). rule.drops (upper placed) b) none ∙ free placed)

    -- With a try for each line that is left it has a best ..
    walk_descends : (counts : List ℕ) → All 0 (λ count. 0 < count) counts → (placed : List ℤ) (s : State) → s.stopped ≡ false
        → s.best ≡ no_rating → s.tries + length counts ≤ budget → (walk upper rule budget counts placed s).best.some ≡ true
    unfolding walk becomes_best stop try_made
    walk_descends [] positive placed s unstopped none enough = rates placed
    walk_descends (count ∷ rest) positive placed s unstopped none enough =
        let placed' : List ℤ = placed ++ (pos 0 ∷ []) in
        each_start_after_first _ (λ t. t.best.some ≡ true) count s (positive 0 (zero-lt-suc _))
        (rw (first_stands placed' (walk upper rule budget rest placed') s unstopped none (omega arith))
        (walk_descends rest (λ i h. positive (suc i) (omega arith)) placed' (try_made s) unstopped none (omega arith)))
        (λ x t some. one_try_cases rule budget (λ u. u.best.some ≡ true) _ _ t (λ e. some) (λ e f. some) (λ e f. some) (λ e f d. some)
        (λ e f d. walk_keeps_best rest (placed ++ (pos x ∷ [])) (try_made t) some))

    -- .. and with fewer it stops on the way and has none
    walk_stops_short : (counts : List ℕ) → All 0 (λ count. 0 < count) counts → (placed : List ℤ) (s : State) → s.stopped ≡ false
        → s.best ≡ no_rating → s.tries ≤ budget → budget < s.tries + length counts
        → ((walk upper rule budget counts placed s).stopped ≡ true) × ((walk upper rule budget counts placed s).best.some ≡ false)
    unfolding walk stop try_made
    walk_stops_short [] positive placed s unstopped none within few = absurd (omega arith)
    walk_stops_short (count ∷ rest) positive placed s unstopped none within few =
        let placed' : List ℤ = placed ++ (pos 0 ∷ []) in
        let without : s.best.some ≡ false = ap (λ (b : Rating). b.some) none in
        each_start_after_first _ (λ t. (t.stopped ≡ true) × (t.best.some ≡ false)) count s (positive 0 (zero-lt-suc _))
        (one_try_cases rule budget (λ t. (t.stopped ≡ true) × (t.best.some ≡ false)) (upper placed') (walk upper rule budget rest placed') s
        (λ e. absurd (zero_ne_one (cc)))
        (λ e f. absurd (zero_ne_one (cc)))
        (λ e f. (refl, without))
        (λ e f d. absurd (zero_ne_one (cc (ap (λ (b : Rating). rule.drops (upper placed') b) none ∙ free placed'))))
        (λ e f d. walk_stops_short rest (λ i h. positive (suc i) (omega arith)) placed' (try_made s) unstopped none (omega arith) (omega arith)))
        (λ x t h. rw (one_try_over rule budget, over_of_stopped rule t h.0) h)

    -- on the whole
    module _ (counts : List ℕ) (positive : All 0 (λ count. 0 < count) counts) where
      pub first_descent_reaches : length counts ≤ budget → (walk upper rule budget counts [] at_first).best.some ≡ true
      first_descent_reaches enough = walk_descends counts positive [] at_first refl refl (omega arith)

      pub first_descent_cut_short : budget < length counts
          → ((walk upper rule budget counts [] at_first).stopped ≡ true) × ((walk upper rule budget counts [] at_first).best.some ≡ false)
      first_descent_cut_short few = walk_stops_short counts positive [] at_first refl refl (omega arith) (omega arith)

    -- Where the rule ends at its first full timetable, these tries are all
    module _ (ends : rule.ends_at_first ≡ true) where
      walk_descends_once : (counts : List ℕ) → All 0 (λ count. 0 < count) counts → (placed : List ℤ) (s : State) → s.stopped ≡ false
          → s.best ≡ no_rating → s.tries + length counts ≤ budget
          → ((walk upper rule budget counts placed s).best.some ≡ true) × ((walk upper rule budget counts placed s).tries ≡ s.tries + length counts)
      unfolding walk becomes_best try_made
      walk_descends_once [] positive placed s unstopped none enough = (rates placed, omega arith)
      walk_descends_once (count ∷ rest) positive placed s unstopped none enough =
          let placed' : List ℤ = placed ++ (pos 0 ∷ []) in
          let (some, tries) = walk_descends_once rest (λ i h. positive (suc i) (omega arith)) placed' (try_made s) unstopped none (omega arith) in
          each_start_after_first _ (λ t. (t.best.some ≡ true) × (t.tries ≡ s.tries + length (count ∷ rest))) count s (positive 0 (zero-lt-suc _))
          (rw (first_stands placed' (walk upper rule budget rest placed') s unstopped none (omega arith)) (some, omega (arith, tries)))
          (λ x t h. rw (one_try_over rule budget, over_of_ended rule t ends h.0) h)

      pub first_descent_is_all : (counts : List ℕ) → All 0 (λ count. 0 < count) counts → length counts ≤ budget
          → ((walk upper rule budget counts [] at_first).best.some ≡ true) × ((walk upper rule budget counts [] at_first).tries ≡ length counts)
      first_descent_is_all counts positive enough =
          let (some, tries) = walk_descends_once counts positive [] at_first refl refl (omega arith) in (some, omega (arith, tries))

  module _ (counts : List ℕ) where
    -- Whether the walk stopped or not, and whatever its rule, its best is a choice ..
    pub best_is_chosen : BestIsChosen upper counts (walk upper rule budget counts [] at_first).best (walk upper rule budget counts [] at_first).starts
    unfolding becomes_best stop try_made
    best_is_chosen =
        walk_keeps upper rule budget (λ s. BestIsChosen upper counts s.best s.starts) (λ p s. Unit {0}) (λ s e f b. b) (λ s e f b. b)
        (λ p s e d. tt) counts []
        (λ tail c s z b. record { rated = λ e. refl; chosen = λ e. c; none = λ e. absurd (zero_ne_one (cc (rates tail))) }) at_first (λ z. tt)
        (record { rated = λ e. absurd (zero_ne_one (cc)); chosen = λ e. absurd (zero_ne_one (cc)); none = λ e. refl })

    -- .. that wasn't dropped beside the best before it
    pub best_stood : (length counts ≡ 0 → rule.drops (upper []) no_rating ≡ false) → (walk upper rule budget counts [] at_first).best.some ≡ true
        → (b : Rating) × (rule.drops (walk upper rule budget counts [] at_first).best b ≡ false)
    unfolding becomes_best stop try_made
    best_stood stands =
        walk_keeps upper rule budget (λ s. s.best.some ≡ true → (b : Rating) × (rule.drops s.best b ≡ false))
        (λ p s. rule.drops (upper p) s.best ≡ false) (λ s e f h. h) (λ s e f h. h) (λ p s e d. d) counts []
        (λ tail c s d h e. (s.best, d)) at_first stands (λ e. absurd (zero_ne_one (cc)))

    -- A walk that ends at its first full timetable and has it hasn't stopped
    pub ended_unstopped : rule.ends_at_first ≡ true → (walk upper rule budget counts [] at_first).best.some ≡ true
        → (walk upper rule budget counts [] at_first).stopped ≡ false
    unfolding becomes_best stop try_made
    ended_unstopped ends =
        walk_keeps upper rule budget (λ s. s.best.some ≡ true → s.stopped ≡ false) (λ p s. s.stopped ≡ false)
        (λ s e f h some. absurd (zero_ne_one (cc (e.unended ends)))) (λ s e f h some. e.unstopped) (λ p s e d. e.unstopped) counts []
        (λ tail c s d h e. d) at_first (λ z. refl) (λ e. refl)
