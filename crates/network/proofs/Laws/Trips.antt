-- The gap of a stop is a function of its calls' arrivals and periods, in whatever order they are listed: the same trips have the same gap in
-- another network, with other starts, and under other numbers of lines. Assumes nothing.
use Prim.Native.Nat.{ℕ, ◌<◌}
use mathlib.Core.Path.{◌≡◌, refl, sym, ap, ap₂, ◌∙◌}
use mathlib.Core.List.Permᴰ
use mathlib.Core.List.{List, [], ◌∷◌, ◌++◌, map, Permᴰ}
use mathlib.Core.List.{cons-ne-nil, head-eq_of_cons-eq, tail-eq_of_cons-eq}
use lib.IntN.{ℤ}
use Rattle.network.specs.declared.Call.{Call}
use Rattle.network.specs.Lists.{least_of, pairs_of}
use Rattle.network.specs.Network.{Net}
use Rattle.network.specs.Valid.{no_call}
use Rattle.network.specs.Gap.{gap_of}
use Rattle.network.specs.Rating.{arrival_of, period_of, gap_of_calls, pair_gaps, gap_of_stop}
use Rattle.network.proofs.Laws.Members.{All}
use Rattle.network.proofs.Laws.Permuted.{gap_of_stop_permuted}

-- ---- permutations of any list that a function gives

module _ {A B : Type 0} (f : A → B) where
  -- The elements can be put in the order of what the function gives
  abbrev Ordered : List A → List B → Type 0
  Ordered xs ys = (zs : List A) × Permᴰ xs zs × (map f zs ≡ ys)

  pub ordered_as : {ws ys : List B} → Permᴰ ws ys → (xs : List A) → map f xs ≡ ws → Ordered xs ys
  ordered_as Permᴰ.nil xs e = (xs, Permᴰ.refl xs, e)
  ordered_as (Permᴰ.cons d π) [] e = absurd (cons-ne-nil _ _ (sym e))
  ordered_as (Permᴰ.cons d π) (x ∷ xs) e =
      let (zs, ρ, q) = ordered_as π xs (tail-eq_of_cons-eq e) in
      (x ∷ zs, Permᴰ.cons refl ρ, ap₂ ◌∷◌ (head-eq_of_cons-eq e ∙ d) q)
  ordered_as (Permᴰ.swap d g) [] e = absurd (cons-ne-nil _ _ (sym e))
  ordered_as (Permᴰ.swap d g) (x ∷ []) e = absurd (cons-ne-nil _ _ (sym (tail-eq_of_cons-eq e)))
  ordered_as (Permᴰ.swap d g) (x ∷ y ∷ xs) e =
      let later = tail-eq_of_cons-eq e in (
        y ∷ x ∷ xs,
        Permᴰ.swap refl refl,
        ap₂ ◌∷◌ (head-eq_of_cons-eq later ∙ g) (ap₂ ◌∷◌ (head-eq_of_cons-eq e ∙ d) (tail-eq_of_cons-eq later)),
      )
  ordered_as (Permᴰ.trans π ρ) xs e =
      let (ys, σ, d) = ordered_as π xs e in
      let (zs, τ, q) = ordered_as ρ ys d in
      (zs, Permᴰ.trans σ τ, q)

-- ---- the trips of a call

-- One of its arrivals, and its line's period
pub record Trips : Type 0 where
  pub arrival : ℤ
  pub period : ℕ

abbrev pub trips_of : Net → List ℤ → Call → Trips
trips_of n starts c = record { arrival = arrival_of starts c; period = period_of n c }

gap_between : Trips → Trips → ℕ
gap_between t u = gap_of t.arrival t.period u.arrival u.period

-- The gap of a stop with these trips
pub gap_of_trips : List Trips → ℕ
gap_of_trips [] = 0
gap_of_trips (t ∷ []) = t.period
gap_of_trips (t ∷ u ∷ ts) = least_of (pairs_of gap_between (t ∷ u ∷ ts))

module _ (n : Net) (starts : List ℤ) where
  gaps_with_trips : (c : Call) (cs : List Call) → map (gap_of_calls n starts c) cs ≡ map (gap_between (trips_of n starts c)) (map (trips_of n starts) cs)
  unfolding gap_of_calls gap_between
  gaps_with_trips c [] = refl
  gaps_with_trips c (d ∷ cs) = ap₂ ◌∷◌ refl (gaps_with_trips c cs)

  pair_gaps_of_trips : (cs : List Call) → pair_gaps n starts cs ≡ pairs_of gap_between (map (trips_of n starts) cs)
  unfolding pair_gaps pairs_of
  pair_gaps_of_trips [] = refl
  pair_gaps_of_trips (c ∷ cs) = ap₂ ◌++◌ (gaps_with_trips c cs) (pair_gaps_of_trips cs)

  -- Nothing counts for the gap of a stop but the arrivals and the periods
  pub gap_of_stop_of_trips : (cs : List Call) → gap_of_stop n starts cs ≡ gap_of_trips (map (trips_of n starts) cs)
  unfolding gap_of_stop gap_of_trips
  gap_of_stop_of_trips [] = refl
  gap_of_stop_of_trips (c ∷ []) = refl
  gap_of_stop_of_trips (c ∷ d ∷ cs) = ap least_of (pair_gaps_of_trips (c ∷ d ∷ cs))

-- The same trips, in whatever order
pub gap_of_stop_same_trips :
    (n m : Net) (starts moved : List ℤ) (cs ds : List Call)
    → Permᴰ (map (trips_of n starts) cs) (map (trips_of m moved) ds)
    → All no_call (λ c. 0 < period_of n c) cs
    → gap_of_stop n starts cs ≡ gap_of_stop m moved ds
gap_of_stop_same_trips n m starts moved cs ds π positive =
    let (bs, ρ, e) = ordered_as (trips_of n starts) π cs refl in
    gap_of_stop_permuted n starts ρ positive ∙ gap_of_stop_of_trips n starts bs ∙ ap gap_of_trips e ∙ sym (gap_of_stop_of_trips m moved ds)
