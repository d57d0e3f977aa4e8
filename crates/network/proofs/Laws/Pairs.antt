-- The gap of a stop with any list of calls: some pair of them attains it and none is closer, and nothing counts for it but the periods
-- and the gaps of the pairs, by induction on the list. Assumes nothing.
use Prim.Native.Nat.{ℕ, ◌+◌, ◌/◌, ◌≤◌, ◌<◌, min}
use mathlib.Core.Path.{◌≡◌, refl, sym, ap, ap₂, ◌∙◌}
use mathlib.Core.List.{List, [], ◌∷◌, map}
use native.Mathlib.Nat.{le_trans}
use native.Mathlib.Omega.{arith}
use native.Mathlib.Decide.{dec_lt}
use lib.IntN.{ℤ, pos, ◌+ℤ◌, ◌-ℤ◌}
use lib.ListN.{length, get_or, get_or-map}
use Rattle.network.specs.declared.Call.{Call}
use Rattle.network.specs.Lists.{least_of, least_from}
use Rattle.network.specs.Network.{Net}
use Rattle.network.specs.Divisor.{gcd}
use Rattle.network.specs.Valid.{no_call}
use Rattle.network.specs.Gap.{residue, fold, gap_of}
use Rattle.network.specs.Rating.{arrival_of, period_of, gap_of_calls, pair_gaps, gap_of_stop}
use Rattle.network.proofs.Laws.Members.{All, AllPairs, IsOfPair, member_of_pairs_of, pair_of_pairs_of, pairs_of_few, pairs_of_some}
use Rattle.network.proofs.Laws.Members.{pairs_of_same_places}
use Rattle.network.proofs.Laws.Least.{least_of_le, least_from_least_of, least_from_nil, least_of_member}
use Rattle.network.proofs.Laws.Divisor.{gcd_comm}
use Rattle.network.proofs.Laws.Gap.{gap_of_symmetric, gap_of_half}

-- The start of a call's line and its offset, where starts are naturals
pub arrival_of_pos : (starts : List ℕ) (c : Call) → arrival_of (map pos starts) c ≡ pos (get_or starts c.line 0 + c.offset)
unfolding arrival_of
arrival_of_pos starts c = ap (λ (z : ℤ). z +ℤ pos c.offset) (get_or-map pos starts c.line 0)

module _ (n : Net) (starts : List ℤ) where
  pub gap_of_calls_is_gap_of : (c d : Call) → gap_of_calls n starts c d ≡ gap_of (arrival_of starts c) (period_of n c) (arrival_of starts d) (period_of n d)
  unfolding gap_of_calls
  gap_of_calls_is_gap_of c d = refl

  -- By any number that is the greatest common divisor of the periods
  pub gap_of_calls_is_fold : (c d : Call) (g : ℕ) → g ≡ gcd (period_of n c) (period_of n d)
      → fold g (residue (arrival_of starts c -ℤ arrival_of starts d) g) ≡ gap_of_calls n starts c d
  unfolding gap_of_calls gap_of
  gap_of_calls_is_fold c d g e = ap (λ (k : ℕ). fold k (residue (arrival_of starts c -ℤ arrival_of starts d) k)) e

  pub gap_of_calls_symmetric : (c d : Call) → 0 < period_of n c → 0 < period_of n d → gap_of_calls n starts c d ≡ gap_of_calls n starts d c
  unfolding gap_of_calls
  gap_of_calls_symmetric c d = gap_of_symmetric (arrival_of starts c) (period_of n c) (arrival_of starts d) (period_of n d)

  pub gap_of_calls_half : (c d : Call) → gap_of_calls n starts c d ≤ gcd (period_of n c) (period_of n d) / 2
  unfolding gap_of_calls
  gap_of_calls_half c d = gap_of_half (arrival_of starts c) (period_of n c) (arrival_of starts d) (period_of n d)

  abbrev pub IsPairGap : List Call → ℕ → Type 0
  IsPairGap = IsOfPair (gap_of_calls n starts) no_call

  pub gap_of_stop_le_pair : (cs : List Call) → AllPairs no_call (λ c d. gap_of_stop n starts cs ≤ gap_of_calls n starts c d) cs
  unfolding gap_of_stop pair_gaps
  gap_of_stop_le_pair [] j k h l = absurd (omega arith)
  gap_of_stop_le_pair (c ∷ []) j k h l = absurd (omega arith)
  gap_of_stop_le_pair (c ∷ d ∷ cs) j k h l =
      least_of_le (pair_gaps n starts (c ∷ d ∷ cs)) (member_of_pairs_of (gap_of_calls n starts) no_call (c ∷ d ∷ cs) j k h l)

  pub gap_of_stop_attained : (cs : List Call) → 1 < length cs → IsPairGap cs (gap_of_stop n starts cs)
  unfolding gap_of_stop pair_gaps
  gap_of_stop_attained [] h = absurd (omega arith)
  gap_of_stop_attained (c ∷ []) h = absurd (omega arith)
  gap_of_stop_attained (c ∷ d ∷ cs) h =
      pair_of_pairs_of (gap_of_calls n starts) no_call (c ∷ d ∷ cs)
      (least_of_member (pair_gaps n starts (c ∷ d ∷ cs)) (pairs_of_some (gap_of_calls n starts) (c ∷ d ∷ cs) h))

  pub gap_of_stop_none : (cs : List Call) → length cs ≡ 0 → gap_of_stop n starts cs ≡ 0
  unfolding gap_of_stop
  gap_of_stop_none [] h = refl
  gap_of_stop_none (c ∷ cs) h = absurd (omega arith)

  pub gap_of_stop_single : (cs : List Call) → length cs ≡ 1 → gap_of_stop n starts cs ≡ period_of n (get_or cs 0 no_call)
  unfolding gap_of_stop
  gap_of_stop_single [] h = absurd (omega arith)
  gap_of_stop_single (c ∷ []) h = refl
  gap_of_stop_single (c ∷ d ∷ cs) h = absurd (omega arith)

  pub gap_of_stop_half : (cs : List Call) (j k : ℕ) → (j ≡ k → ⊥) → j < length cs → k < length cs
      → gap_of_stop n starts cs ≤ gcd (period_of n (get_or cs j no_call)) (period_of n (get_or cs k no_call)) / 2
  gap_of_stop_half cs j k f h l = go (dec_lt j k)
    where
      in_order : AllPairs no_call (λ c d. gap_of_stop n starts cs ≤ gcd (period_of n c) (period_of n d) / 2) cs
      in_order j k h l = le_trans (gap_of_stop_le_pair cs j k h l) (gap_of_calls_half (get_or cs j no_call) (get_or cs k no_call))

      go : Dec (j < k) → gap_of_stop n starts cs ≤ gcd (period_of n (get_or cs j no_call)) (period_of n (get_or cs k no_call)) / 2
      go (yes m) = in_order j k m l
      go (no m) = rw (gcd_comm (period_of n (get_or cs j no_call))) (in_order k j (omega arith) h)

-- Where the periods place by place and the gaps of each two places agree, so does the gap of the stop
module _ (n m : Net) (starts moved : List ℤ) where
  pub gap_of_stop_same_places : (cs ds : List Call) → length cs ≡ length ds
      → ((j : ℕ) → j < length cs → period_of n (get_or cs j no_call) ≡ period_of m (get_or ds j no_call))
      → ((j k : ℕ) → j < k → k < length cs
      → gap_of_calls n starts (get_or cs j no_call) (get_or cs k no_call) ≡ gap_of_calls m moved (get_or ds j no_call) (get_or ds k no_call))
      → gap_of_stop n starts cs ≡ gap_of_stop m moved ds
  unfolding gap_of_stop pair_gaps
  gap_of_stop_same_places [] [] l p g = refl
  gap_of_stop_same_places [] (d ∷ ds) l p g = absurd (omega (arith, l))
  gap_of_stop_same_places (c ∷ cs) [] l p g = absurd (omega (arith, l))
  gap_of_stop_same_places (c ∷ []) (d ∷ []) l p g = p 0 (omega arith)
  gap_of_stop_same_places (c ∷ []) (d ∷ e ∷ ds) l p g = absurd (omega (arith, l))
  gap_of_stop_same_places (b ∷ c ∷ cs) (d ∷ []) l p g = absurd (omega (arith, l))
  gap_of_stop_same_places (b ∷ c ∷ cs) (d ∷ e ∷ ds) l p g =
      ap least_of (pairs_of_same_places (gap_of_calls n starts) (gap_of_calls m moved) (b ∷ c ∷ cs) (d ∷ e ∷ ds) no_call l g)

  pub gap_of_stop_cong : (cs : List Call) → All no_call (λ c. period_of n c ≡ period_of m c) cs
      → AllPairs no_call (λ c d. gap_of_calls n starts c d ≡ gap_of_calls m moved c d) cs → gap_of_stop n starts cs ≡ gap_of_stop m moved cs
  gap_of_stop_cong cs = gap_of_stop_same_places cs cs refl

-- Of the starts only those of their lines count
abbrev pub SameStart : List ℤ → List ℤ → Call → Type 0
SameStart starts moved c = get_or starts c.line (pos 0) ≡ get_or moved c.line (pos 0)

pub gap_of_calls_local : (n : Net) (starts moved : List ℤ) (c d : Call) → SameStart starts moved c → SameStart starts moved d
    → gap_of_calls n starts c d ≡ gap_of_calls n moved c d
unfolding gap_of_calls arrival_of
gap_of_calls_local n starts moved c d e f =
    ap₂ (λ x y. gap_of (x +ℤ pos c.offset) (period_of n c) (y +ℤ pos d.offset) (period_of n d)) e f

-- Of a network only the periods count
pub gap_of_stop_periods : (n m : Net) → n.periods ≡ m.periods → (starts : List ℤ) (cs : List Call)
    → gap_of_stop n starts cs ≡ gap_of_stop m starts cs
unfolding period_of gap_of_calls
gap_of_stop_periods n m e starts cs = gap_of_stop_cong n m starts starts cs (λ i h. same (get_or cs i no_call)) (λ j k h l. agree _ _)
  where
    same : (c : Call) → period_of n c ≡ period_of m c
    same c = ap (λ (ps : List ℕ). get_or ps c.line 0) e

    agree : (c d : Call) → gap_of_calls n starts c d ≡ gap_of_calls m starts c d
    agree c d = ap₂ (λ t u. gap_of (arrival_of starts c) t (arrival_of starts d) u) (same c) (same d)

-- ---- the gaps of all pairs beside a number, by which a pass over the calls computes

module _ (n : Net) (starts : List ℤ) (v : ℕ) (cs : List Call) where
  pub least_from_pair_gaps_few : length cs ≤ 1 → least_from v (pair_gaps n starts cs) ≡ v
  unfolding pair_gaps
  least_from_pair_gaps_few h = ap (least_from v) (pairs_of_few (gap_of_calls n starts) cs h) ∙ least_from_nil v

  pub least_from_pair_gaps_more : 1 < length cs → least_from v (pair_gaps n starts cs) ≡ min v (gap_of_stop n starts cs)
  unfolding pair_gaps gap_of_stop
  least_from_pair_gaps_more h =
      least_from_least_of v (pair_gaps n starts cs) (pairs_of_some (gap_of_calls n starts) cs h) ∙ ap (min v) (sym (of_pairs cs h))
    where
      of_pairs : (cs : List Call) → 1 < length cs → gap_of_stop n starts cs ≡ least_of (pair_gaps n starts cs)
      of_pairs [] h = absurd (omega arith)
      of_pairs (c ∷ []) h = absurd (omega arith)
      of_pairs (c ∷ d ∷ cs) h = refl
