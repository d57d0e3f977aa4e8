-- A walk that isn't stopped by its budget is the same under every larger one, whatever its rule: it looks at the budget only to stop, and a try that
-- is due below the one budget is due below the other. One that is stopped makes more tries under every larger one: a try was due. By induction
-- over the lines and the starts of a line. Assumes nothing.
use Prim.Native.Nat.{ℕ, zero, suc, ◌+◌, ◌≤◌, ◌<◌}
use mathlib.Core.Path.{◌≡◌, refl, ap, ◌∙◌}
use mathlib.Core.Bool.{true, false}
use mathlib.Core.List.{List, [], ◌∷◌, ◌++◌}
use mathlib.Core.Logic.{◌⊎◌, inl, inr}
use native.Mathlib.Nat.{le_refl}
use native.Mathlib.Omega.{arith}
use lib.IntN.{ℤ, pos}
use Rattle.network.specs.Rating.{Rating}
use Rattle.network.specs.Network.{Net}
use Rattle.network.proofs.Laws.Lists.{zero_ne_one}
use Rattle.search.specs.Walk.{State, Rule, at_first, try_made, stop, becomes_best, one_try, each_start, walk}
use Rattle.search.specs.Search.{walked}
use Rattle.search.proofs.Laws.OnNetwork.{walked_stopped}
use Rattle.search.proofs.Laws.Walk.{Due, one_try_cases, made_dropped, made_onward, one_try_over, over_of_stopped, over_of_ended, walk_tries_rise}

-- ---- two budgets

module _ (rule : Rule) (budget more : ℕ) (larger : budget ≤ more) where
  -- A state under the one budget, within it, and one under the other: the first has stopped, and the other has made more tries if it might; or they
  -- are the same
  abbrev Same : State → State → Type 0
  Same s t = ((s.stopped ≡ true) × (budget < more → budget < t.tries)) ⊎ (t ≡ s)

  record Alike (s t : State) : Type 0 where
    within : s.tries ≤ budget
    same : Same s t

  -- What goes on from a try: under both budgets alike, and under the larger it takes back no try
  record Onward (onward onward' : State → State) : Type 0 where
    alike : (s : State) → s.tries ≤ budget → Alike (onward s) (onward' s)
    rises : (s : State) → s.tries ≤ (onward' s).tries

  module _ (upper : Rating) (onward onward' : State → State) (below : Onward onward onward') where
    one_try_rises : (s : State) → s.tries ≤ (one_try rule more upper onward' s).tries
    unfolding stop try_made
    one_try_rises s =
        one_try_cases rule more (λ t. s.tries ≤ t.tries) upper onward' s (λ e. le_refl _) (λ e f. le_refl _) (λ e f. le_refl _) (λ e f d. omega arith)
        (λ e f d. omega (arith, below.rises (try_made s)))

    -- A try that stops the one is made under the other
    due_is_made : (s : State) → Due rule s → s.tries ≡ budget → budget < more → budget < (one_try rule more upper onward' s).tries
    unfolding stop try_made
    due_is_made s due at left =
        one_try_cases rule more (λ t. budget < t.tries) upper onward' s
        (λ e. absurd (zero_ne_one (cc due.unstopped)))
        (λ e f. absurd (zero_ne_one (cc (due.unended e))))
        (λ e f. absurd (omega arith))
        (λ e f d. omega arith)
        (λ e f d. omega (arith, below.rises (try_made s)))

    one_try_alike : (s : State) → s.tries ≤ budget → Alike (one_try rule budget upper onward s) (one_try rule more upper onward' s)
    unfolding stop try_made
    one_try_alike s h =
        one_try_cases rule budget (λ t. Alike t (one_try rule more upper onward' s)) upper onward s
        (λ e. record { within = h; same = inr (one_try_over rule more upper onward' s (over_of_stopped rule s e)) })
        (λ e f. record { within = h; same = inr (one_try_over rule more upper onward' s (over_of_ended rule s e f)) })
        (λ e f. record { within = h; same = inl (refl, due_is_made s e f) })
        (λ e f d. record { within = omega (arith, h, f); same = inr (made_dropped rule more upper onward' s e (λ g. f (omega arith)) d) })
        (λ e f d.
        let low : (try_made s).tries ≤ budget = omega (arith, h, f) in
        let rest = below.alike (try_made s) low in
        record { within = rest.within; same = onward_same (made_onward rule more upper onward' s e (λ g. f (omega arith)) d) rest.same })
      where
        onward_same : {t u v : State} → t ≡ u → Same v u → Same v t
        onward_same e (inl (f, g)) = inl (f, λ left. rw e (g left))
        onward_same e (inr f) = inr (e ∙ f)

    -- a further try, from two such states
    further_alike : {s t : State} → Alike s t → Alike (one_try rule budget upper onward s) (one_try rule more upper onward' t)
    further_alike {s} {t} a = go a.same
      where
        go : Same s t → Alike (one_try rule budget upper onward s) (one_try rule more upper onward' t)
        go (inl (e, f)) =
            rw (one_try_over rule budget upper onward s (over_of_stopped rule s e))
            (record { within = a.within; same = inl (e, λ left. omega (arith, f left, one_try_rises t)) })
        go (inr e) = rw e (one_try_alike s a.within)

  each_start_alike : (upper : ℕ → Rating) (onward onward' : ℕ → State → State) → ((x : ℕ) → Onward (onward x) (onward' x))
      → (from count : ℕ) (s : State) → s.tries ≤ budget
      → Alike (each_start (λ x t. one_try rule budget (upper x) (onward x) t) from count s)
      (each_start (λ x t. one_try rule more (upper x) (onward' x) t) from count s)
  unfolding each_start
  each_start_alike upper onward onward' below from zero s h = record { within = h; same = inr refl }
  each_start_alike upper onward onward' below from (suc count) s h =
      further_alike (upper (from + count)) (onward (from + count)) (onward' (from + count)) (below (from + count))
      (each_start_alike upper onward onward' below from count s h)

  walk_alike : (upper : List ℤ → Rating) (counts : List ℕ) (placed : List ℤ) (s : State) → s.tries ≤ budget
      → Alike (walk upper rule budget counts placed s) (walk upper rule more counts placed s)
  unfolding walk becomes_best
  walk_alike upper [] placed s h = record { within = h; same = inr refl }
  walk_alike upper (count ∷ rest) placed s h =
      each_start_alike (λ x. upper (placed ++ (pos x ∷ []))) (λ x. walk upper rule budget rest (placed ++ (pos x ∷ [])))
      (λ x. walk upper rule more rest (placed ++ (pos x ∷ [])))
      (λ x.
      record {
        alike = walk_alike upper rest (placed ++ (pos x ∷ []));
        rises = walk_tries_rise upper rule more rest (placed ++ (pos x ∷ []));
      })
      0 count s h

-- ---- on a network

module _ (n : Net) (rule : Rule) (budget more : ℕ) where
  walked_alike : (larger : budget ≤ more) → Same rule budget more larger (walked n rule budget) (walked n rule more)
  unfolding walked
  walked_alike larger = (walk_alike rule budget more larger _ _ [] at_first (omega arith)).same

  -- A walk that hasn't stopped is the same under every larger budget
  pub walked_with_more : budget ≤ more → (walked n rule budget).stopped ≡ false → walked n rule more ≡ walked n rule budget
  walked_with_more larger e = go (walked_alike larger)
    where
      go : Same rule budget more larger (walked n rule budget) (walked n rule more) → walked n rule more ≡ walked n rule budget
      go (inl (f, g)) = absurd (zero_ne_one (cc))
      go (inr f) = f

  -- One that has stopped makes more tries
  pub walked_was_due : budget < more → (walked n rule budget).stopped ≡ true → budget < (walked n rule more).tries
  walked_was_due left e = go (walked_alike (omega arith))
    where
      go : Same rule budget more (omega arith) (walked n rule budget) (walked n rule more) → budget < (walked n rule more).tries
      go (inl (f, g)) = g left
      go (inr f) = omega (arith, walked_stopped n rule more (ap (λ (s : State). s.stopped) f ∙ e))
