-- The computed gap of a stop is its gap over all trips, and the only one: by theorem 3.1.2 the gap of two calls is the computed one, and the
-- least over the pairs of calls is attained by one of them. Assumes nothing.
use Prim.Native.Nat.{ℕ, zero, suc, ◌≤◌, ◌<◌}
use mathlib.Core.Path.{◌≡◌, refl, sym, ap, ap₂, subst, subst₂, ◌∙◌}
use mathlib.Core.Bool.{Bool, true, false}
use mathlib.Core.List.{List, [], Memᴰ}
use native.Mathlib.Nat.{le_antisymm}
use native.Mathlib.Omega.{arith}
use native.Mathlib.Decide.{dec_lt}
use borrow.Author.Tests.{eq-eqb, eqb-true}
use lib.Dec.{eqb}
use lib.IntN.{ℤ}
use lib.ListN.{length, get_or}
use Rattle.network.specs.declared.Call.{Call}
use Rattle.network.specs.Network.{Net, is_served, max_period, cycle}
use Rattle.network.specs.Lists.{keep}
use Rattle.network.specs.Divisor.{Divides}
use Rattle.network.specs.Valid.{no_call, Valid}
use Rattle.network.specs.Rating.{period_of, CallsThere, IsCallsGap, IsStopGap, least_of_calls, period_of_call}
use Rattle.network.specs.Rating.{gap_of_calls, gap_of_stop, calls_of_stop, stop_gap}
use Rattle.network.proofs.Laws.Members.{HasPair, All, AllPairs, keep_all, keep_pairs, keep_has_pair, any_of_member, keep_of_member}
use Rattle.network.proofs.Laws.Members.{member_of_any, keep_of_any_false, member_of_place, place_of_member}
use Rattle.network.proofs.Laws.Valid.{cycle_multiple}
use Rattle.network.proofs.Laws.Gap.{theorem_3_1_2, IsGap-unique}
use Rattle.network.proofs.Laws.Pairs.{gap_of_calls_symmetric, gap_of_stop_le_pair, gap_of_stop_attained, gap_of_stop_single}

-- ---- the calls at a stop of a network, by their numbers in the file

abbrev pub call_at : Net → ℕ → Call
call_at n k = get_or n.calls k no_call

abbrev pub is_at : ℕ → Call → Bool
is_at stop c = eqb c.stop stop

-- The number of a call at the stop
abbrev pub IsNumber : Net → ℕ → Call → ℕ → Type 0
IsNumber n stop c k = CallsThere n stop k × (call_at n k ≡ c)

module _ (n : Net) (stop : ℕ) where
  is_at_lem : {k : ℕ} → CallsThere n stop k → is_at stop (call_at n k) ≡ true
  is_at_lem c = eq-eqb _ _ c.at_stop

  number_of_call : (k : ℕ) → k < length n.calls → is_at stop (call_at n k) ≡ true → IsNumber n stop (call_at n k) k
  number_of_call k h e = (record { stated = h; at_stop = eqb-true _ _ e }, refl)

  pub served_of_call : {k : ℕ} → CallsThere n stop k → is_served stop n.calls ≡ true
  unfolding is_served
  served_of_call {k = k} c = any_of_member (is_at stop) n.calls (member_of_place n.calls no_call k c.stated) (is_at_lem c)

  pub call_of_served : is_served stop n.calls ≡ true → (k : ℕ) × CallsThere n stop k
  unfolding is_served
  call_of_served e =
      let (c, m, f) = member_of_any (is_at stop) n.calls e in
      let (k, h, d) = place_of_member n.calls no_call m in
      (k, (number_of_call k h (ap (is_at stop) d ∙ f)).0)

  pub calls_of_stop_unserved : is_served stop n.calls ≡ false → calls_of_stop n stop ≡ []
  unfolding is_served calls_of_stop
  calls_of_stop_unserved = keep_of_any_false (is_at stop) n.calls

  pub calls_of_stop_member : {k : ℕ} → CallsThere n stop k → Memᴰ (call_at n k) (calls_of_stop n stop)
  unfolding calls_of_stop
  calls_of_stop_member {k = k} c = keep_of_member (is_at stop) n.calls (member_of_place n.calls no_call k c.stated) (is_at_lem c)

  calls_of_stop_has_pair : {j k : ℕ} → j < k → CallsThere n stop j → CallsThere n stop k
      → HasPair no_call (calls_of_stop n stop) (call_at n j) (call_at n k)
  unfolding calls_of_stop
  calls_of_stop_has_pair {j = j} {k = k} h c d = keep_has_pair no_call (is_at stop) n.calls j k h d.stated (is_at_lem c) (is_at_lem d)

  pub calls_of_stop_all : All no_call (λ c. (k : ℕ) × IsNumber n stop c k) (calls_of_stop n stop)
  unfolding calls_of_stop
  calls_of_stop_all =
      keep_all no_call (is_at stop) (λ c. (k : ℕ) × IsNumber n stop c k) n.calls (λ k h e. (k, number_of_call k h e))

  pub calls_of_stop_pairs :
      AllPairs no_call (λ c d. (j : ℕ) × (k : ℕ) × (j < k) × IsNumber n stop c j × IsNumber n stop d k) (calls_of_stop n stop)
  unfolding calls_of_stop
  calls_of_stop_pairs =
      keep_pairs no_call (is_at stop) (λ c d. (j : ℕ) × (k : ℕ) × (j < k) × IsNumber n stop c j × IsNumber n stop d k) n.calls
      (λ j k h l e f. (j, k, h, number_of_call j (omega arith) e, number_of_call k l f))

  pub calls_of_stop_is : calls_of_stop n stop ≡ keep (λ (c : Call). eqb c.stop stop) n.calls
  unfolding calls_of_stop
  calls_of_stop_is = refl

  pub stop_gap_is : (starts : List ℤ) → stop_gap n starts stop ≡ gap_of_stop n starts (calls_of_stop n stop)
  unfolding stop_gap
  stop_gap_is starts = refl

pub period_of_is : (n : Net) (c : Call) → period_of n c ≡ get_or n.periods c.line 0
unfolding period_of
period_of_is n c = refl

-- ---- a call of a stated line

pub period_divides_cycle : (n : Net) (c : Call) → c.line < length n.periods → Divides (period_of n c) (cycle n)
unfolding period_of
period_divides_cycle n c = cycle_multiple n c.line

module _ {n : Net} (valid : Valid n) where
  pub period_of_pos : (c : Call) → c.line < length n.periods → 0 < period_of n c
  unfolding period_of
  period_of_pos c = valid.period_pos c.line

  pub period_of_le : (c : Call) → c.line < length n.periods → period_of n c ≤ max_period
  unfolding period_of
  period_of_le c = valid.period c.line

  pub calls_of_stop_stated : (stop : ℕ) → All no_call (λ c. c.line < length n.periods) (calls_of_stop n stop)
  unfolding calls_of_stop
  calls_of_stop_stated stop = keep_all no_call (is_at stop) (λ c. c.line < length n.periods) n.calls (λ k h e. valid.call_line k h)

  pub call_period_pos : {stop k : ℕ} → CallsThere n stop k → 0 < period_of n (call_at n k)
  call_period_pos {k = k} c = period_of_pos (call_at n k) (valid.call_line k c.stated)

  pub calls_of_stop_period_pos : (stop : ℕ) → All no_call (λ c. 0 < period_of n c) (calls_of_stop n stop)
  calls_of_stop_period_pos stop i h = period_of_pos _ (calls_of_stop_stated stop i h)

  module _ (starts : List ℤ) where
    abbrev pub gap_at : ℕ → ℕ → ℕ
    gap_at c d = gap_of_calls n starts (call_at n c) (call_at n d)

    -- ---- two different calls at a stop are not closer than its gap

    stop_gap_le_in_order : {stop c d : ℕ} → c < d → CallsThere n stop c → CallsThere n stop d → stop_gap n starts stop ≤ gap_at c d
    unfolding stop_gap
    stop_gap_le_in_order {stop = stop} l h k =
        let (p, q, m, o, e, g) = calls_of_stop_has_pair n stop l h k in
        subst₂ (λ x y. gap_of_stop n starts (calls_of_stop n stop) ≤ gap_of_calls n starts x y) e g
        (gap_of_stop_le_pair n starts (calls_of_stop n stop) p q m o)

    pub stop_gap_le_calls : {stop c d : ℕ} → (c ≡ d → ⊥) → CallsThere n stop c → CallsThere n stop d → stop_gap n starts stop ≤ gap_at c d
    stop_gap_le_calls {stop = stop} {c = c} {d = d} f h k = go (dec_lt c d)
      where
        go : Dec (c < d) → stop_gap n starts stop ≤ gap_at c d
        go (yes l) = stop_gap_le_in_order l h k
        go (no m) =
            rw (gap_of_calls_symmetric n starts (call_at n c) (call_at n d) (call_period_pos h) (call_period_pos k))
            (stop_gap_le_in_order (omega arith) k h)

    -- ---- theorem 3.1.2 for two calls

    pub gap_of_calls_lem : {stop c d : ℕ} → CallsThere n stop c → CallsThere n stop d → IsCallsGap n starts c d (gap_at c d)
    unfolding gap_of_calls
    gap_of_calls_lem h k = theorem_3_1_2 _ _ _ _ (call_period_pos h) (call_period_pos k)

    calls_gap_is : {stop c d v : ℕ} → CallsThere n stop c → CallsThere n stop d → IsCallsGap n starts c d v → v ≡ gap_at c d
    calls_gap_is h k g = IsGap-unique g (gap_of_calls_lem h k)

    -- ---- the gap of a stop

    stop_gap_of_pairs : (stop : ℕ) → 1 < length (calls_of_stop n stop) → IsStopGap n starts stop (stop_gap n starts stop)
    unfolding stop_gap
    stop_gap_of_pairs stop h =
        let (j, k, l, m, e) = gap_of_stop_attained n starts (calls_of_stop n stop) h in
        let (c, d, o, (p, f), (q, g)) = calls_of_stop_pairs n stop j k l m in
        least_of_calls c d (λ i. omega arith) p q
        (subst (IsCallsGap n starts c d) (ap₂ (gap_of_calls n starts) f g ∙ e) (gap_of_calls_lem p q))
        (λ x y v f p q g. rw (calls_gap_is p q g) (stop_gap_le_calls f p q))

    stop_gap_of_one : (stop : ℕ) → length (calls_of_stop n stop) ≡ 1 → IsStopGap n starts stop (stop_gap n starts stop)
    unfolding stop_gap calls_of_stop
    stop_gap_of_one stop h =
        let (c, (p, f)) = calls_of_stop_all n stop 0 (omega arith) in
        subst (IsStopGap n starts stop) (ap (period_of n) f ∙ sym (gap_of_stop_single n starts (calls_of_stop n stop) h))
        (period_of_call c p (λ d q. only d c (dec_lt d c) (dec_lt c d) q p))
      where
        -- two calls would be two in the list
        never : (j k : ℕ) → j < k → CallsThere n stop j → CallsThere n stop k → ⊥
        never j k l p q = let (x, y, m, o, e, g) = calls_of_stop_has_pair n stop l p q in omega arith

        only : (d c : ℕ) → Dec (d < c) → Dec (c < d) → CallsThere n stop d → CallsThere n stop c → d ≡ c
        only d c (yes l) k p q = absurd (never d c l p q)
        only d c (no f) (yes l) p q = absurd (never c d l q p)
        only d c (no f) (no g) p q = omega arith

pub stop_gap_is_stop_gap : (n : Net) → Valid n → (starts : List ℤ) (stop : ℕ) → is_served stop n.calls ≡ true
    → IsStopGap n starts stop (stop_gap n starts stop)
stop_gap_is_stop_gap n valid starts stop e = go (length (calls_of_stop n stop)) refl
  where
    go : (l : ℕ) → length (calls_of_stop n stop) ≡ l → IsStopGap n starts stop (stop_gap n starts stop)
    go zero f = let (k, c) = call_of_served n stop e in let (i, h, g) = place_of_member (calls_of_stop n stop) no_call (calls_of_stop_member n stop c) in absurd (omega arith)
    go (suc zero) f = stop_gap_of_one valid starts stop f
    go (suc (suc l)) f = stop_gap_of_pairs valid starts stop (omega arith)

-- ---- each gap is one number

module _ {n : Net} {starts : List ℤ} {stop : ℕ} where
  pub IsStopGap-same : {v w : ℕ} → IsStopGap n starts stop v → IsStopGap n starts stop w → v ≡ w
  IsStopGap-same (least_of_calls c d f p q g h) (least_of_calls e i o r s k m) = le_antisymm (h e i _ o r s k) (m c d _ f p q g)
  IsStopGap-same (least_of_calls c d f p q g h) (period_of_call k r o) = absurd (f (o c p ∙ sym (o d q)))
  IsStopGap-same (period_of_call k r o) (least_of_calls c d f p q g h) = absurd (f (o c p ∙ sym (o d q)))
  IsStopGap-same (period_of_call c p o) (period_of_call d q m) = ap (λ (k : ℕ). period_of n (call_at n k)) (m c p)

  pub IsStopGap-served : {v : ℕ} → IsStopGap n starts stop v → is_served stop n.calls ≡ true
  IsStopGap-served (least_of_calls c d f p q g h) = served_of_call n stop p
  IsStopGap-served (period_of_call c p o) = served_of_call n stop p

  pub IsStopGap-unique : {v : ℕ} → Valid n → IsStopGap n starts stop v → v ≡ stop_gap n starts stop
  IsStopGap-unique valid g = IsStopGap-same g (stop_gap_is_stop_gap n valid starts stop (IsStopGap-served g))
