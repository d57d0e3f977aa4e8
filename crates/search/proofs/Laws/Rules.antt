-- The three rules keep what the laws of the walk ask, so that a walk by each finds what it is for: document 01's the best rating, request A.3's
-- a timetable with the wanted gap, and the second pass of request A.11 the largest sum among those that reach the floor. Assumes nothing.
use Prim.Native.Nat.{ℕ, ◌≤◌, ◌<◌}
use mathlib.Core.Path.{◌≡◌, refl, ◌∙◌}
use mathlib.Core.Bool.{Bool, true, false, not, ◌&&◌, ◌||◌}
use mathlib.Core.List.{List, [], ◌++◌}
use mathlib.Core.Logic.{◌⊎◌, inl, inr}
use native.Mathlib.Omega.{arith}
use borrow.Author.Tests.{ltb-true, ltb-false, lt-ltb, le-ltb, not-true, not-false}
use lib.Dec.{ltb}
use lib.IntN.{ℤ}
use lib.ListN.{length}
use Rattle.network.specs.Rating.{Rating}
use Rattle.network.specs.Rating.{no_rating, is_above}
use Rattle.network.proofs.Laws.Lists.{zero_ne_one}
use Rattle.network.proofs.Laws.Members.{All}
use Rattle.network.proofs.Laws.Gaps.{is_above_none, is_above_irreflexive, not_above_of_above, not_above_transitive}
use Rattle.search.specs.Walk.{State, at_first, walk}
use Rattle.search.specs.Search.{not_above, above_best, by_sum}
use Rattle.search.specs.Wanted.{at_least}
use Rattle.search.proofs.Laws.Walk.{ChosenBelow}
use Rattle.search.proofs.Laws.Bounds.{IsUpper, BoundsEach}
use Rattle.search.proofs.Laws.Best.{DropsCompletions, Cuts, finished_none_stands, finished_has_best, finished_drops_all}
use Rattle.search.proofs.Laws.Best.{first_descent_reaches, first_descent_cut_short, first_descent_is_all, best_stood, ended_unstopped}

-- ---- document 01's rule

pub above_best_cuts : (upper : List ℤ → Rating) (all : List ℕ) → IsUpper upper all → Cuts upper above_best all
unfolding above_best not_above
above_best_cuts upper all sound =
    record {
      goes_on = refl;
      completions = λ placed tail c b d. rw (not_above_transitive _ _ b (sound placed tail c) (not-true _ d)) refl;
      better = λ starts c r b e f. rw (not_above_of_above r (upper starts) b (not-false _ e) (not-true _ f)) refl;
      itself = λ starts c. rw (is_above_irreflexive (upper starts)) refl;
    }

module _ (upper : List ℤ → Rating) (budget : ℕ) (counts : List ℕ) (rates : (starts : List ℤ) → (upper starts).some ≡ true) where
  abbrev walked : State
  walked = walk upper above_best budget counts [] at_first

  -- Nothing is dropped beside no best
  above_best_stands : (starts : List ℤ) → above_best.drops (upper starts) no_rating ≡ false
  unfolding above_best not_above
  above_best_stands starts = rw (is_above_none (upper starts) ∙ rates starts) refl

  -- With a try for each line there is a best, with fewer the walk stops without one
  module _ (positive : All 0 (λ count. 0 < count) counts) where
    pub above_best_reaches : length counts ≤ budget → walked.best.some ≡ true
    above_best_reaches = first_descent_reaches upper above_best budget rates above_best_stands counts positive

    pub above_best_cut_short : budget < length counts → (walked.stopped ≡ true) × (walked.best.some ≡ false)
    above_best_cut_short = first_descent_cut_short upper above_best budget rates above_best_stands counts positive

  -- After a walk that hasn't stopped no choice is above the best; and if there is a choice, there is a best
  module _ (sound : IsUpper upper counts) (finished : walked.stopped ≡ false) (starts : List ℤ) (choice : ChosenBelow counts starts) where
    pub none_above_best : is_above (upper starts) walked.best ≡ false
    unfolding above_best not_above
    none_above_best =
        not-true _ (finished_drops_all upper above_best budget counts (above_best_cuts upper counts sound) (λ z. above_best_stands []) finished starts choice)

    pub above_best_has_best : walked.best.some ≡ true
    above_best_has_best =
        finished_has_best upper above_best budget counts rates (above_best_cuts upper counts sound).completions finished starts choice (above_best_stands starts)

-- ---- request A.3's rule

pub at_least_drops_completions : (upper : List ℤ → Rating) (wanted : ℕ) (all : List ℕ) → BoundsEach upper all → DropsCompletions upper (at_least wanted) all
unfolding at_least
at_least_drops_completions upper wanted all bounds placed tail c b d =
    lt-ltb (upper (placed ++ tail)).least wanted (omega (arith, bounds.least_bounded placed tail c, ltb-true (upper placed).least wanted d))

module _ (upper : List ℤ → Rating) (wanted budget : ℕ) (counts : List ℕ) (rates : (starts : List ℤ) → (upper starts).some ≡ true) where
  abbrev found : State
  found = walk upper (at_least wanted) budget counts [] at_first

  -- A best reaches the wanted gap, and then the walk hasn't stopped
  pub at_least_best_reaches : 0 < length counts → found.best.some ≡ true → (wanted ≤ found.best.least) × (found.stopped ≡ false)
  unfolding at_least
  at_least_best_reaches some e = (
    ltb-false _ _ (best_stood upper (at_least wanted) budget rates counts (λ z. absurd (omega arith)) e).1,
    ended_unstopped upper (at_least wanted) budget rates counts refl e,
  )

  -- A walk that hasn't stopped and has none tells that no choice reaches it
  pub at_least_none_reaches : BoundsEach upper counts → found.stopped ≡ false → found.best.some ≡ false
      → (starts : List ℤ) → ChosenBelow counts starts → (upper starts).least < wanted
  unfolding at_least
  at_least_none_reaches bounds finished none starts c =
      ltb-true _ _
      (finished_none_stands upper (at_least wanted) budget counts rates (at_least_drops_completions upper wanted counts bounds) finished none starts c)

  -- Where 0 is wanted, the first tries, one for each line, reach a best
  pub at_least_0_first_descent : wanted ≡ 0 → All 0 (λ count. 0 < count) counts → length counts ≤ budget
      → (found.best.some ≡ true) × (found.tries ≡ length counts)
  unfolding at_least
  at_least_0_first_descent e =
      first_descent_is_all upper (at_least wanted) budget rates (λ starts. le-ltb (upper starts).least wanted (omega arith)) refl counts

-- ---- the rule of request A.11's second pass

module _ (floor : ℕ) (upper best : Rating) where
  by_sum_dropped : (by_sum floor).drops upper best ≡ true → (upper.least < floor) ⊎ ((best.some ≡ true) × (upper.sum ≤ best.sum))
  unfolding by_sum
  by_sum_dropped = go (ltb upper.least floor) best.some (ltb best.sum upper.sum) refl refl refl
    where
      go : (a b c : Bool) → ltb upper.least floor ≡ a → best.some ≡ b → ltb best.sum upper.sum ≡ c → (a || (b && not c)) ≡ true
          → (upper.least < floor) ⊎ ((best.some ≡ true) × (upper.sum ≤ best.sum))
      go true b c e f g h = inl (ltb-true _ _ e)
      go false true false e f g h = inr (f, ltb-false _ _ g)
      go false true true e f g h = absurd (zero_ne_one (cc))
      go false false c e f g h = absurd (zero_ne_one (cc))

  by_sum_stands : (by_sum floor).drops upper best ≡ false → (floor ≤ upper.least) × (best.some ≡ true → best.sum < upper.sum)
  unfolding by_sum
  by_sum_stands = go (ltb upper.least floor) best.some (ltb best.sum upper.sum) refl refl refl
    where
      go : (a b c : Bool) → ltb upper.least floor ≡ a → best.some ≡ b → ltb best.sum upper.sum ≡ c → (a || (b && not c)) ≡ false
          → (floor ≤ upper.least) × (best.some ≡ true → best.sum < upper.sum)
      go true b c e f g h = absurd (zero_ne_one (cc))
      go false true true e f g h = (ltb-false _ _ e, λ z. ltb-true _ _ g)
      go false true false e f g h = absurd (zero_ne_one (cc))
      go false false c e f g h = (ltb-false _ _ e, λ z. absurd (zero_ne_one (cc)))

  by_sum_drops : (upper.least < floor) ⊎ ((best.some ≡ true) × (upper.sum ≤ best.sum)) → (by_sum floor).drops upper best ≡ true
  unfolding by_sum
  by_sum_drops (inl h) = rw (lt-ltb _ _ h) refl
  by_sum_drops (inr (e, h)) = go (ltb upper.least floor)
    where
      go : (a : Bool) → (a || (best.some && not (ltb best.sum upper.sum))) ≡ true
      go true = refl
      go false = rw (e, le-ltb _ _ h) refl

by_sum_goes_on : (floor : ℕ) → (by_sum floor).ends_at_first ≡ false
unfolding by_sum
by_sum_goes_on floor = refl

-- Where least gap and sum are no larger, what is dropped stays so
pub by_sum_drops_below : (floor : ℕ) (r q best : Rating) → r.least ≤ q.least → r.sum ≤ q.sum → (by_sum floor).drops q best ≡ true
    → (by_sum floor).drops r best ≡ true
by_sum_drops_below floor r q best h k d = by_sum_drops floor r best (go (by_sum_dropped floor q best d))
  where
    go : (q.least < floor) ⊎ ((best.some ≡ true) × (q.sum ≤ best.sum)) → (r.least < floor) ⊎ ((best.some ≡ true) × (r.sum ≤ best.sum))
    go (inl l) = inl (omega arith)
    go (inr (e, l)) = inr (e, omega arith)

pub by_sum_cuts : (upper : List ℤ → Rating) (floor : ℕ) (all : List ℕ) → ((starts : List ℤ) → (upper starts).some ≡ true) → BoundsEach upper all
    → Cuts upper (by_sum floor) all
by_sum_cuts upper floor all rates bounds =
    record {
      goes_on = by_sum_goes_on floor;
      completions = λ placed tail c b. by_sum_drops_below floor _ _ b (bounds.least_bounded placed tail c) (bounds.sum_bounded placed tail c);
      better = λ starts c r b e f. by_sum_drops floor r (upper starts) (sooner starts r b (by_sum_stands floor (upper starts) b e) (by_sum_dropped floor r b f));
      itself = λ starts c. by_sum_drops floor (upper starts) (upper starts) (inr (rates starts, omega arith));
    }
  where
    sooner : (starts : List ℤ) (r b : Rating) → (floor ≤ (upper starts).least) × (b.some ≡ true → b.sum < (upper starts).sum)
        → (r.least < floor) ⊎ ((b.some ≡ true) × (r.sum ≤ b.sum)) → (r.least < floor) ⊎ (((upper starts).some ≡ true) × (r.sum ≤ (upper starts).sum))
    sooner starts r b stands (inl l) = inl l
    sooner starts r b stands (inr (e, l)) = inr (rates starts, omega (arith, stands.1 e))

module _ (upper : List ℤ → Rating) (floor budget : ℕ) (counts : List ℕ) (rates : (starts : List ℤ) → (upper starts).some ≡ true) where
  abbrev summed : State
  summed = walk upper (by_sum floor) budget counts [] at_first

  -- A best reaches the floor
  pub by_sum_best_reaches : 0 < length counts → summed.best.some ≡ true → floor ≤ summed.best.least
  by_sum_best_reaches some e =
      let (b, d) = best_stood upper (by_sum floor) budget rates counts (λ z. absurd (omega arith)) e in (by_sum_stands floor summed.best b d).0

  module _ (bounds : BoundsEach upper counts) (finished : summed.stopped ≡ false) where
    -- After a walk that hasn't stopped no choice that reaches the floor has a larger sum than the best ..
    pub by_sum_largest_sum : 0 < length counts → (starts : List ℤ) → ChosenBelow counts starts → floor ≤ (upper starts).least
        → (summed.best.some ≡ true) × ((upper starts).sum ≤ summed.best.sum)
    by_sum_largest_sum some starts c h =
        go (by_sum_dropped floor (upper starts) summed.best
        (finished_drops_all upper (by_sum floor) budget counts (by_sum_cuts upper floor counts rates bounds) (λ z. absurd (omega arith)) finished starts c))
      where
        go : ((upper starts).least < floor) ⊎ ((summed.best.some ≡ true) × ((upper starts).sum ≤ summed.best.sum))
            → (summed.best.some ≡ true) × ((upper starts).sum ≤ summed.best.sum)
        go (inl l) = absurd (omega arith)
        go (inr r) = r

    -- .. and without a best none reaches it
    pub by_sum_none_reaches : summed.best.some ≡ false → (starts : List ℤ) → ChosenBelow counts starts → (upper starts).least < floor
    by_sum_none_reaches none starts c =
        go (by_sum_dropped floor (upper starts) no_rating
        (finished_none_stands upper (by_sum floor) budget counts rates (by_sum_cuts upper floor counts rates bounds).completions finished none starts c))
      where
        go : ((upper starts).least < floor) ⊎ ((no_rating.some ≡ true) × ((upper starts).sum ≤ no_rating.sum)) → (upper starts).least < floor
        go (inl l) = l
        go (inr (e, l)) = absurd (zero_ne_one (cc))
