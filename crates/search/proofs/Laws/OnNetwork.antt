-- The walk on an accepted network by whatever rule, from the laws of the walk and of upper ratings: how many tries it makes, when it stops, and
-- that its best is the rating of the starts beside it. Assumes nothing.
use Prim.Native.Nat.{ℕ, zero, suc, ◌+◌, ◌*◌, ◌≤◌, ◌<◌}
use mathlib.Core.Path.{◌≡◌, refl, sym, ap, ◌∙◌}
use mathlib.Core.Bool.{true, false}
use mathlib.Core.List.{List, [], ◌∷◌}
use native.Mathlib.Omega.{arith}
use lib.IntN.{ℤ, pos}
use lib.ListN.{length, get_or, drop}
use Rattle.network.specs.Rating.{Rating}
use Rattle.network.specs.Network.{Net}
use Rattle.network.specs.Valid.{Valid}
use Rattle.network.specs.Rating.{IsRating, no_rating, rating}
use Rattle.network.proofs.Laws.Lists.{zero_ne_one}
use Rattle.network.proofs.Laws.Members.{All}
use Rattle.network.proofs.Laws.Gaps.{rating_is_rating}
use Rattle.search.specs.Caps.{cap, upper_rating}
use Rattle.search.specs.Walk.{State, Rule, at_first, try_made, stop, one_try, walk, most_tries}
use Rattle.search.specs.Search.{start_counts, walked, tries_bound, products_from, demanded_bound}
use Rattle.search.proofs.Laws.Upper.{upper_full, upper_rating_some}
use Rattle.search.proofs.Laws.Tries.{length_start_counts}
use Rattle.search.proofs.Laws.Walk.{ChosenBelow, next, ChosenBelow-length, ChosenBelow-at, each_start_one, one_try_cases}
use Rattle.search.proofs.Laws.Walk.{walk_tries_le, walk_tries_le_budget, walk_stopped_at_budget, walk_finishes}
use Rattle.search.proofs.Laws.Best.{best_is_chosen}

-- ---- the choices of the walk

pub start_counts_pos : (periods : List ℕ) → All 0 (λ t. 0 < t) periods → All 0 (λ t. 0 < t) (start_counts periods)
unfolding start_counts
start_counts_pos [] f i h = f i h
start_counts_pos (t ∷ periods) f zero h = omega arith
start_counts_pos (t ∷ periods) f (suc i) h = f (suc i) h

start_counts_le : (periods : List ℕ) → All 0 (λ t. 0 < t) periods → (i : ℕ) → i < length periods → get_or (start_counts periods) i 0 ≤ get_or periods i 0
unfolding start_counts
start_counts_le [] f i h = absurd (omega arith)
start_counts_le (t ∷ periods) f zero h = f 0 h
start_counts_le (t ∷ periods) f (suc i) h = omega arith

-- Line 0 is tried at 0 only
chosen_first : (periods : List ℕ) (starts : List ℤ) → 0 < length periods → ChosenBelow (start_counts periods) starts
    → (others : List ℤ) × (starts ≡ pos 0 ∷ others)
unfolding start_counts
chosen_first [] starts h c = absurd (omega arith)
chosen_first (t ∷ periods) _ h (next {x = x} {starts = others} l c) = (others, ap (λ (k : ℕ). pos k ∷ others) (omega (arith, l)))

-- ---- the walk on a network

pub walked_tries_le : (n : Net) (rule : Rule) (budget : ℕ) → (walked n rule budget).tries ≤ tries_bound n
unfolding walked tries_bound
walked_tries_le n rule budget =
    omega (arith, walk_tries_le (upper_rating n (cap n)) rule budget (start_counts n.periods) [] at_first)

pub walked_finishes : (n : Net) (rule : Rule) (budget : ℕ) → tries_bound n ≤ budget → (walked n rule budget).stopped ≡ false
unfolding walked tries_bound
walked_finishes n rule budget h =
    walk_finishes (upper_rating n (cap n)) rule budget (start_counts n.periods) [] at_first refl (omega arith)

pub walked_stopped : (n : Net) (rule : Rule) (budget : ℕ) → (walked n rule budget).stopped ≡ true → (walked n rule budget).tries ≡ budget
unfolding walked
walked_stopped n rule budget =
    walk_stopped_at_budget (upper_rating n (cap n)) rule budget (start_counts n.periods) [] at_first refl

pub walked_tries_le_budget : (n : Net) (rule : Rule) (budget : ℕ) → (walked n rule budget).tries ≤ budget
unfolding walked
walked_tries_le_budget n rule budget =
    walk_tries_le_budget (upper_rating n (cap n)) rule budget (start_counts n.periods) [] at_first (omega arith)

-- The first try is line 0 at 0
module _ (n : Net) (some_line : 0 < length n.periods) (rule : Rule) (budget : ℕ) where
  abbrev first_upper : Rating
  first_upper = upper_rating n (cap n) (pos 0 ∷ [])

  abbrev after_first : State → State
  after_first = walk (upper_rating n (cap n)) rule budget (drop 1 n.periods) (pos 0 ∷ [])

  walked_first_try : walked n rule budget ≡ one_try rule budget first_upper after_first at_first
  unfolding walked start_counts walk
  walked_first_try = go n.periods some_line
    where
      upper : List ℤ → Rating
      upper = upper_rating n (cap n)

      go : (periods : List ℕ) → 0 < length periods
          → walk upper rule budget (start_counts periods) [] at_first ≡ one_try rule budget (upper (pos 0 ∷ [])) (walk upper rule budget (drop 1 periods) (pos 0 ∷ [])) at_first
      go [] h = absurd (omega arith)
      go (t ∷ rest) h = each_start_one (λ x t. one_try rule budget (upper (pos x ∷ [])) (walk upper rule budget rest (pos x ∷ [])) t) 0 at_first

  -- Without a budget it isn't made
  pub walked_without_budget : budget ≡ 0 → walked n rule budget ≡ stop at_first
  walked_without_budget none =
      walked_first_try
      ∙ one_try_cases rule budget (λ t. t ≡ stop at_first) first_upper after_first at_first
      (λ e. absurd (zero_ne_one (cc)))
      (λ e f. absurd (zero_ne_one (cc)))
      (λ e f. refl)
      (λ e f d. absurd (f (sym none)))
      (λ e f d. absurd (f (sym none)))

  -- Dropped, it is all
  pub walked_first_dropped : 0 < budget → rule.drops first_upper no_rating ≡ true → walked n rule budget ≡ try_made at_first
  walked_first_dropped some dropped =
      walked_first_try
      ∙ one_try_cases rule budget (λ t. t ≡ try_made at_first) first_upper after_first at_first
      (λ e. absurd (zero_ne_one (cc)))
      (λ e f. absurd (zero_ne_one (cc)))
      (λ e f. absurd (omega (arith, f)))
      (λ e f d. refl)
      (λ e f d. absurd (zero_ne_one (cc)))

-- A best, whether the walk ended or stopped
module _ {n : Net} (valid : Valid n) (rule : Rule) (budget : ℕ) (some : (walked n rule budget).best.some ≡ true) where
  -- has starts beside it that the walk tries: one for each line, line 0's at 0, each below its line's period
  walked_chosen : ChosenBelow (start_counts n.periods) (walked n rule budget).starts
  unfolding walked
  walked_chosen =
      (best_is_chosen (upper_rating n (cap n)) rule budget (upper_rating_some n (cap n)) (start_counts n.periods)).chosen some

  pub walked_length : length (walked n rule budget).starts ≡ length n.periods
  walked_length = ChosenBelow-length walked_chosen ∙ length_start_counts n.periods

  pub walked_first : (others : List ℤ) × ((walked n rule budget).starts ≡ pos 0 ∷ others)
  walked_first = chosen_first n.periods (walked n rule budget).starts valid.some_line walked_chosen

  pub walked_below : (i : ℕ) → i < length n.periods → (x : ℕ) × (get_or (walked n rule budget).starts i (pos 0) ≡ pos x) × (x < get_or n.periods i 0)
  walked_below i h =
      let (x, e, l) = ChosenBelow-at walked_chosen i (rw length_start_counts h) in
      (x, e, omega (arith, l, start_counts_le n.periods valid.period_pos i h))

  -- is their rating
  walked_rated : (walked n rule budget).best ≡ rating n (walked n rule budget).starts
  unfolding walked
  walked_rated =
      (best_is_chosen (upper_rating n (cap n)) rule budget (upper_rating_some n (cap n)) (start_counts n.periods)).rated some
      ∙ upper_full valid _ walked_length

  pub walked_rating : IsRating n (walked n rule budget).starts (walked n rule budget).best.least (walked n rule budget).best.sum
  walked_rating = rw walked_rated (rating_is_rating n valid (walked n rule budget).starts)

-- ---- the bound

products_from_most_tries : (k : ℕ) (counts : List ℕ) → products_from k counts ≡ k * most_tries counts
unfolding most_tries
products_from_most_tries k [] = omega arith
products_from_most_tries k (t ∷ rest) = omega (arith, products_from_most_tries (k * t) rest)

pub tries_bound_products : (n : Net) → 0 < length n.periods → tries_bound n ≡ demanded_bound n
unfolding tries_bound start_counts most_tries
tries_bound_products n = go n.periods
  where
    go : (periods : List ℕ) → 0 < length periods → most_tries (start_counts periods) ≡ 1 + products_from 1 (drop 1 periods)
    go [] h = absurd (omega arith)
    go (t ∷ rest) h = omega (arith, products_from_most_tries 1 rest)
