-- The pass over the calls computes the stops' gaps: the row leads back through the calls at a stop, and one call more makes the gap the
-- least of what it was and the gaps to those before. Each is an induction over a list. Assumes nothing.
use Prim.Native.Nat.{ℕ, zero, suc, ◌+◌, ◌*◌, ◌-◌, ◌<◌, ◌≤◌, min}
use mathlib.Core.Path.{◌≡◌, refl, sym, ap, ap₂, ◌∙◌}
use mathlib.Core.Bool.{Bool, true, false}
use mathlib.Core.List.{List, [], ◌∷◌, ◌++◌, map, append-nil, map-append}
use native.Mathlib.Nat.{le_trans, div-le_self, zero-lt-suc}
use native.Mathlib.Decide.{ℕ_discrete}
use native.Mathlib.Numerals.{add-one}
use native.Mathlib.Omega.{arith}
use borrow.Author.Tests.{eq-eqb, ne_eqb, eqb-true, eqb-false}
use lib.Dec.{eqb}
use lib.IntN.{ℤ}
use lib.Arith.{lt_of_le-ne}
use lib.ListN.{length, get_or, take, set, length-append, length-take, length-set, replicate, length-replicate}
use lib.Seq.{get_or-take, get_or-set_same, get_or-set_other}
use Rattle.network.specs.declared.Call.{Call}
use Rattle.network.specs.Lists.{pick, keep, below, sum_of, least_of, pairs_of, least_from}
use Rattle.network.specs.Network.{Net}
use Rattle.network.specs.Valid.{no_call}
use Rattle.network.specs.declared.Rows.{Rows}
use Rattle.network.specs.Engine.Stored.{net_of, calls_in}
use Rattle.network.specs.Rating.{calls_of_stop, period_of, gap_of_calls, pair_gaps, gap_of_stop, Counted, rating_by}
use Rattle.network.specs.Engine.Scan.{last_at, calls_before, LeadsBack, rating_so_far, with_stop}
use Rattle.network.proofs.Laws.Lists.{zero_ne_one, get_d_zeros}
use Rattle.network.proofs.Laws.Members.{All, keep_all, keep_nil, keep_take_next, length_keep_le}
use Rattle.network.proofs.Laws.Least.{least_from_le, least_from_pairs_of_snoc, least_from_snoc, least_of_least_from, least_of_snoc}
use Rattle.network.proofs.Laws.Sums.{sum_of_append}
use Rattle.network.proofs.Laws.Divisor.{gcd_le_left}
use Rattle.network.proofs.Laws.Gap.{gap_of_half}

-- ---- back through the calls at a stop

module _ (stop : ℕ) (l : List Call) where
  -- a call at the stop is one more of its calls
  pub calls_before_hit : (k : ℕ) → k < length l → (get_or l k no_call).stop ≡ stop → calls_before stop l (k + 1) ≡ calls_before stop l k ++ (get_or l k no_call ∷ [])
  unfolding calls_before
  calls_before_hit k h e = keep_take_next (λ (c : Call). eqb c.stop stop) l k no_call true h (eq-eqb _ _ e)

  -- any other call is none of them
  pub calls_before_miss : (k : ℕ) → k < length l → ((get_or l k no_call).stop ≡ stop → ⊥) → calls_before stop l (k + 1) ≡ calls_before stop l k
  unfolding calls_before
  calls_before_miss k h f = keep_take_next (λ (c : Call). eqb c.stop stop) l k no_call false h (ne_eqb _ _ f) ∙ append-nil _

  pub last_at_hit : (k : ℕ) → (get_or l k no_call).stop ≡ stop → last_at stop l (k + 1) ≡ k + 1
  unfolding last_at
  last_at_hit k e = rw (add-one, eq-eqb (get_or l k no_call).stop stop e) refl

  pub last_at_miss : (k : ℕ) → ((get_or l k no_call).stop ≡ stop → ⊥) → last_at stop l (k + 1) ≡ last_at stop l k
  unfolding last_at
  last_at_miss k f = rw (add-one, ne_eqb (get_or l k no_call).stop stop f) refl

  pub last_at_le : (k : ℕ) → last_at stop l k ≤ k
  unfolding last_at
  last_at_le zero = omega arith
  last_at_le (suc k) = go (eqb (get_or l k no_call).stop stop) (last_at_le k)
    where
      go : (t : Bool) → last_at stop l k ≤ k → pick t (suc k) (last_at stop l k) ≤ suc k
      go true h = omega arith
      go false h = omega arith

  -- where it is not 0, it is one more than a call at the stop
  pub last_at_lands : (k : ℕ) → 0 < last_at stop l k → (get_or l (last_at stop l k - 1) no_call).stop ≡ stop
  unfolding last_at
  last_at_lands zero h = absurd (omega arith)
  last_at_lands (suc k) h = go (eqb (get_or l k no_call).stop stop) refl (last_at_lands k) h
    where
      go : (t : Bool) → eqb (get_or l k no_call).stop stop ≡ t → (0 < last_at stop l k → (get_or l (last_at stop l k - 1) no_call).stop ≡ stop)
          → 0 < pick t (suc k) (last_at stop l k) → (get_or l (pick t (suc k) (last_at stop l k) - 1) no_call).stop ≡ stop
      go true e f g = ap (λ (j : ℕ). (get_or l j no_call).stop) (omega arith) ∙ eqb-true _ _ e
      go false e f g = f g

  -- no call behind it is at the stop
  pub calls_before_last_at : (k : ℕ) → k ≤ length l → calls_before stop l k ≡ calls_before stop l (last_at stop l k)
  unfolding last_at
  calls_before_last_at zero h = refl
  calls_before_last_at (suc k) h =
      go (eqb (get_or l k no_call).stop stop) refl (calls_before_last_at k (omega arith))
    where
      go : (t : Bool) → eqb (get_or l k no_call).stop stop ≡ t → calls_before stop l k ≡ calls_before stop l (last_at stop l k)
          → calls_before stop l (suc k) ≡ calls_before stop l (pick t (suc k) (last_at stop l k))
      go true e f = refl
      go false e f = (rw add-one at (calls_before_miss k (omega arith) (eqb-false _ _ e))) ∙ f

  pub calls_before_none : calls_before stop l 0 ≡ []
  unfolding calls_before
  calls_before_none = keep_nil (λ (c : Call). eqb c.stop stop)

  pub calls_before_is : (k : ℕ) → calls_before stop l k ≡ keep (λ (c : Call). eqb c.stop stop) (take k l)
  unfolding calls_before
  calls_before_is k = refl

  -- so many at most
  pub length_calls_before : (k : ℕ) → length (calls_before stop l k) ≤ k
  unfolding calls_before
  length_calls_before k = omega (arith, length_keep_le (λ (c : Call). eqb c.stop stop) (take k l), length-take k l)

  -- what holds of the first calls holds of those at the stop
  pub calls_before_all : (P : Call → Type 0) (k : ℕ) → ((j : ℕ) → j < k → j < length l → P (get_or l j no_call)) → All no_call P (calls_before stop l k)
  unfolding calls_before
  calls_before_all P k f =
      keep_all no_call (λ (c : Call). eqb c.stop stop) P (take k l)
      (λ j h e.
      let b : j < min k (length l) = rw length-take at h in
      rw (get_or-take k l j no_call (omega arith)) (f j (omega arith) (omega arith)))

-- The calls at a stop of the network that is held
pub calls_of_stop_held : (n : Rows) (stop : ℕ) → calls_of_stop (net_of n) stop ≡ calls_before stop (calls_in n.list) n.count
unfolding calls_of_stop calls_before net_of
calls_of_stop_held n stop = refl

-- ---- the row that leads back

-- The latest call at a stop is found in the first calls alone
last_at_same : (stop : ℕ) (l m : List Call) (k : ℕ) → ((j : ℕ) → j < k → get_or l j no_call ≡ get_or m j no_call) → last_at stop l k ≡ last_at stop m k
unfolding last_at
last_at_same stop l m zero h = refl
last_at_same stop l m (suc k) h =
    ap₂ (λ (c : Call) (v : ℕ). pick (eqb c.stop stop) (suc k) v) (h k (omega arith)) (last_at_same stop l m k (λ j b. h j (omega (arith, b))))

module _ (previous : List ℕ) (l : List Call) (k : ℕ) (leads : LeadsBack previous l k) where
  pub leads_back_at : (j : ℕ) → j < k → get_or previous j 0 ≡ last_at (get_or l j no_call).stop l j
  unfolding LeadsBack
  leads_back_at j h = leads j h

  pub leads_back_fewer : (i : ℕ) → i ≤ k → LeadsBack previous l i
  unfolding LeadsBack
  leads_back_fewer i h j b = leads j (omega arith)

  pub leads_back_same : (m : List Call) → ((j : ℕ) → j < k → get_or l j no_call ≡ get_or m j no_call) → LeadsBack previous m k
  unfolding LeadsBack
  leads_back_same m h j b =
      leads j b
      ∙ ap (λ (c : Call). last_at c.stop l j) (h j b)
      ∙ last_at_same (get_or m j no_call).stop l m j (λ i q. h i (omega (arith, q, b)))

-- A number that is the latest call at a stop leads to a call there
pub last_at_landed : (l : List Call) (stop k j : ℕ) → j ≡ last_at stop l k → 0 < j → (get_or l (j - 1) no_call).stop ≡ stop
last_at_landed l stop k j e h = ap (λ (i : ℕ). (get_or l (i - 1) no_call).stop) e ∙ last_at_lands stop l k (rw e at h)

-- ---- one call more at a stop

module _ (n : Net) (starts : List ℤ) where
  pub least_from_pair_gaps_snoc :
      (v : ℕ) (cs : List Call) (c : Call)
      → least_from v (pair_gaps n starts (cs ++ (c ∷ [])))
      ≡ least_from (least_from v (pair_gaps n starts cs)) (map (λ d. gap_of_calls n starts d c) cs)
  unfolding pair_gaps
  least_from_pair_gaps_snoc v cs c = least_from_pairs_of_snoc (gap_of_calls n starts) v cs c

  pub gap_of_calls_le_period : (c d : Call) → 0 < period_of n c → gap_of_calls n starts c d ≤ period_of n c
  unfolding gap_of_calls
  gap_of_calls_le_period c d h =
      le_trans (gap_of_half _ (period_of n c) _ (period_of n d))
      (le_trans (div-le_self _ 2) (gcd_le_left (period_of n c) (period_of n d) h))

  -- the first call's period is above the gap of each of its pairs, so that it may stand beside them
  pub gap_of_stop_from : (c : Call) (cs : List Call) → 0 < period_of n c → gap_of_stop n starts (c ∷ cs) ≡ least_from (period_of n c) (pair_gaps n starts (c ∷ cs))
  unfolding gap_of_stop pair_gaps least_from pairs_of
  gap_of_stop_from c [] h = refl
  gap_of_stop_from c (d ∷ cs) h =
      least_of_least_from (gap_of_calls n starts c d) _
      ∙ ap (λ (w : ℕ). least_from w (map (gap_of_calls n starts c) cs ++ pair_gaps n starts (d ∷ cs)))
      (let k = gap_of_calls_le_period c d h in omega arith)

  -- one call more: the least of what it was and the gaps to those before
  pub gap_of_stop_snoc :
      (c : Call) (cs : List Call) (d : Call)
      → 0 < period_of n c
      → gap_of_stop n starts ((c ∷ cs) ++ (d ∷ [])) ≡ least_from (gap_of_stop n starts (c ∷ cs)) (map (λ e. gap_of_calls n starts e d) (c ∷ cs))
  gap_of_stop_snoc c cs d h =
      gap_of_stop_from c (cs ++ (d ∷ [])) h
      ∙ least_from_pair_gaps_snoc (period_of n c) (c ∷ cs) d
      ∙ ap (λ (w : ℕ). least_from w (map (λ e. gap_of_calls n starts e d) (c ∷ cs))) (sym (gap_of_stop_from c cs h))

  -- a stop's gap is at most the period of its first call
  pub gap_of_stop_le_period : (c : Call) (cs : List Call) → 0 < period_of n c → gap_of_stop n starts (c ∷ cs) ≤ period_of n c
  gap_of_stop_le_period c cs h = rw (gap_of_stop_from c cs h) (least_from_le _ _)

-- From one call at a stop back to the one before
pub step_back :
    (g : Call → ℕ) (stop : ℕ) (l : List Call) (k lesser : ℕ)
    → k < length l
    → (get_or l k no_call).stop ≡ stop
    → least_from (min lesser (g (get_or l k no_call))) (map g (calls_before stop l (last_at stop l k)))
    ≡ least_from lesser (map g (calls_before stop l (k + 1)))
step_back g stop l k lesser h e =
    ap (λ cs. least_from (min lesser (g (get_or l k no_call))) (map g cs)) (sym (calls_before_last_at stop l k (omega arith)))
    ∙ sym (least_from_snoc lesser (map g (calls_before stop l k)) (g (get_or l k no_call)))
    ∙ ap (least_from lesser) (sym (map-append g (calls_before stop l k) (get_or l k no_call ∷ [])))
    ∙ ap (λ cs. least_from lesser (map g cs)) (sym (calls_before_hit stop l k h e))

-- where a call at the stop is the last, there is one
pub calls_before_some : (stop : ℕ) (l : List Call) (k : ℕ) → 0 < k → k ≤ length l → (get_or l (k - 1) no_call).stop ≡ stop → 0 < length (calls_before stop l k)
calls_before_some stop l zero p h e = absurd (omega arith)
calls_before_some stop l (suc k) p h e =
    let f : (get_or l k no_call).stop ≡ stop = ap (λ (j : ℕ). (get_or l j no_call).stop) (omega arith) ∙ e in
    let s : calls_before stop l (suc k) ≡ calls_before stop l k ++ (get_or l k no_call ∷ []) = rw add-one at (calls_before_hit stop l k (omega arith) f) in
    rw s (rw length-append (omega arith))

-- One call more at a stop that has one
pub gap_of_stop_next :
    (n : Net) (starts : List ℤ) (cs : List Call) (d : Call)
    → 0 < length cs
    → ((i : ℕ) → i < length cs → 0 < period_of n (get_or cs i no_call))
    → gap_of_stop n starts (cs ++ (d ∷ [])) ≡ least_from (gap_of_stop n starts cs) (map (λ e. gap_of_calls n starts e d) cs)
gap_of_stop_next n starts [] d h f = absurd (omega arith)
gap_of_stop_next n starts (c ∷ cs) d h f = gap_of_stop_snoc n starts c cs d (f 0 (zero-lt-suc _))

-- ---- the pass over the calls

-- The rows after `i` calls: the latest call at each stop, the way back from each call, and the gap of each stop that counts
pub record Scanned (n : Net) (starts : List ℤ) (l : List Call) (counts : List Bool) (gaps last previous : List ℕ) (i : ℕ) : Type 0 where
  pub gaps_row : length gaps ≡ 64
  pub last_row : length last ≡ 64
  pub previous_row : length previous ≡ 256
  pub last_is : (s : ℕ) → s < 64 → get_or last s 0 ≡ last_at s l i
  pub leads : LeadsBack previous l i
  pub gaps_are : (s : ℕ) → s < 64 → get_or counts s false ≡ true → get_or gaps s 0 ≡ gap_of_stop n starts (calls_before s l i)

pub scanned_none : (n : Net) (starts : List ℤ) (l : List Call) (counts : List Bool) → Scanned n starts l counts (replicate 64 0) (replicate 64 0) (replicate 256 0) 0
unfolding last_at calls_before keep gap_of_stop LeadsBack
scanned_none n starts l counts =
    record {
      gaps_row = length-replicate {A = ℕ} 64 0;
      last_row = length-replicate {A = ℕ} 64 0;
      previous_row = length-replicate {A = ℕ} 256 0;
      last_is = λ s h. get_d_zeros 64 s;
      leads = λ j h. absurd (omega arith);
      gaps_are = λ s h k. get_d_zeros 64 s;
    }

-- one call more: of its stop the latest is this call, and every other stop stays as it was
module _ (n : Net) (starts : List ℤ) (l : List Call) (counts : List Bool) (gaps last previous : List ℕ) (i : ℕ) (scanned : Scanned n starts l counts gaps last previous i) (small : i < 256) (stated : i < length l) (low : (get_or l i no_call).stop < 64) where
  last_next : (s : ℕ) → s < 64 → Dec (s ≡ (get_or l i no_call).stop) → get_or (set last (get_or l i no_call).stop (i + 1)) s 0 ≡ last_at s l (i + 1)
  last_next s h (yes e) =
      ap (λ (k : ℕ). get_or (set last (get_or l i no_call).stop (i + 1)) k 0) e
      ∙ get_or-set_same last (get_or l i no_call).stop (i + 1) 0 (rw scanned.last_row low)
      ∙ sym (last_at_hit s l i (sym e))
  last_next s h (no f) =
      get_or-set_other last (get_or l i no_call).stop s (i + 1) 0 f ∙ scanned.last_is s h ∙ sym (last_at_miss s l i (λ e. f (sym e)))

  leads_next : (before : ℕ) → before ≡ last_at (get_or l i no_call).stop l i → (j : ℕ) → j < i + 1 → Dec (j ≡ i) → get_or (set previous i before) j 0 ≡ last_at (get_or l j no_call).stop l j
  unfolding LeadsBack
  leads_next before b j h (yes e) =
      ap (λ (k : ℕ). get_or (set previous i before) k 0) e
      ∙ get_or-set_same previous i before 0 (rw scanned.previous_row small)
      ∙ b
      ∙ ap (λ (k : ℕ). last_at (get_or l k no_call).stop l k) (sym e)
  leads_next before b j h (no f) = get_or-set_other previous i j before 0 f ∙ scanned.leads j (lt_of_le-ne (omega arith) f)

  gaps_next :
      (value : ℕ)
      → value ≡ gap_of_stop n starts (calls_before (get_or l i no_call).stop l i ++ (get_or l i no_call ∷ []))
      → (s : ℕ)
      → s < 64
      → get_or counts s false ≡ true
      → Dec (s ≡ (get_or l i no_call).stop)
      → get_or (set gaps (get_or l i no_call).stop value) s 0 ≡ gap_of_stop n starts (calls_before s l (i + 1))
  gaps_next value v s h k (yes e) =
      ap (λ (j : ℕ). get_or (set gaps (get_or l i no_call).stop value) j 0) e
      ∙ get_or-set_same gaps (get_or l i no_call).stop value 0 (rw scanned.gaps_row low)
      ∙ v
      ∙ ap (gap_of_stop n starts) (ap (λ (t : ℕ). calls_before t l i ++ (get_or l i no_call ∷ [])) (sym e) ∙ sym (calls_before_hit s l i stated (sym e)))
  gaps_next value v s h k (no f) =
      get_or-set_other gaps (get_or l i no_call).stop s value 0 f
      ∙ scanned.gaps_are s h k
      ∙ ap (gap_of_stop n starts) (sym (calls_before_miss s l i stated (λ e. f (sym e))))

  -- a stop that counts gets its new gap
  pub scanned_counted :
      (before value : ℕ)
      → before ≡ last_at (get_or l i no_call).stop l i
      → value ≡ gap_of_stop n starts (calls_before (get_or l i no_call).stop l i ++ (get_or l i no_call ∷ []))
      → Scanned n starts l counts (set gaps (get_or l i no_call).stop value) (set last (get_or l i no_call).stop (i + 1)) (set previous i before) (i + 1)
  unfolding LeadsBack
  scanned_counted before value b v =
      record {
        gaps_row = length-set gaps _ value ∙ scanned.gaps_row;
        last_row = length-set last _ (i + 1) ∙ scanned.last_row;
        previous_row = length-set previous i before ∙ scanned.previous_row;
        last_is = λ s h. last_next s h (ℕ_discrete s _);
        leads = λ j h. leads_next before b j h (ℕ_discrete j i);
        gaps_are = λ s h k. gaps_next value v s h k (ℕ_discrete s _);
      }

  -- a stop that doesn't stays as it was
  pub scanned_passed :
      (before : ℕ)
      → before ≡ last_at (get_or l i no_call).stop l i
      → get_or counts (get_or l i no_call).stop false ≡ false
      → Scanned n starts l counts gaps (set last (get_or l i no_call).stop (i + 1)) (set previous i before) (i + 1)
  unfolding LeadsBack
  scanned_passed before b z =
      record {
        gaps_row = scanned.gaps_row;
        last_row = length-set last _ (i + 1) ∙ scanned.last_row;
        previous_row = length-set previous i before ∙ scanned.previous_row;
        last_is = λ s h. last_next s h (ℕ_discrete s _);
        leads = λ j h. leads_next before b j h (ℕ_discrete j i);
        gaps_are = λ s h k.
            scanned.gaps_are s h k ∙ ap (gap_of_stop n starts) (sym (calls_before_miss s l i stated (λ e. uncounted s k e)));
      }
    where
      uncounted : (s : ℕ) → get_or counts s false ≡ true → (get_or l i no_call).stop ≡ s → ⊥
      uncounted s k e =
          let both : ◌≡◌ {A = Bool} false true = sym z ∙ ap (λ (t : ℕ). get_or counts t false) e ∙ k in
          zero_ne_one (cc)

-- ---- the rating over the stops that count

-- One stop more
pub rating_so_far_snoc :
    (gap : ℕ → ℕ) (xs : List Counted) (s : Counted)
    → rating_so_far gap (xs ++ (s ∷ [])) ≡ with_stop (rating_so_far gap xs) (gap s.stop) s.weight
unfolding rating_so_far rating_by with_stop least_of sum_of
rating_so_far_snoc gap [] s = ap (λ (v : ℕ). record { some = true; least = gap s.stop; sum = v }) (omega arith)
rating_so_far_snoc gap (x ∷ xs) s =
    ap₂ (λ (l v : ℕ). record { some = true; least = l; sum = v })
    (ap least_of (map-append (λ (t : Counted). gap t.stop) (x ∷ xs) (s ∷ []))
    ∙ least_of_snoc (gap x.stop) (map (λ (t : Counted). gap t.stop) xs) (gap s.stop))
    (sum_of_append (λ (t : Counted). t.weight * gap t.stop) (x ∷ xs) (s ∷ []) ∙ omega arith)

-- At the end it is the rating, of which both numbers are 0 where no stop counts
pub rating_of_so_far : (gap : ℕ → ℕ) (xs : List Counted)
    → record { some = true; least = (rating_so_far gap xs).least; sum = (rating_so_far gap xs).sum } ≡ rating_by gap xs
unfolding rating_so_far rating_by least_of sum_of
rating_of_so_far gap [] = refl
rating_of_so_far gap (x ∷ xs) = refl

-- The stops below a bound that a row counts
abbrev pub counted_below : List Bool → List ℕ → ℕ → List Counted
counted_below counts weights bound =
    map (λ (s : ℕ). record { stop = s; weight = get_or weights s 0 }) (below (λ s. get_or counts s false) bound)

module _ (counts : List Bool) (weights : List ℕ) (bound : ℕ) where
  counted_next : (t : Bool) → get_or counts bound false ≡ t
      → counted_below counts weights (bound + 1) ≡ counted_below counts weights bound ++ pick t (record { stop = bound; weight = get_or weights bound 0 } ∷ []) []
  unfolding below
  counted_next true e = rw (add-one, e) (map-append (λ (s : ℕ). record { stop = s; weight = get_or weights s 0 }) (below (λ s. get_or counts s false) bound) (bound ∷ []))
  counted_next false e =
      rw (add-one, e) (map-append (λ (s : ℕ). record { stop = s; weight = get_or weights s 0 }) (below (λ s. get_or counts s false) bound) [])

  -- one stop more that counts
  pub rating_counted :
      (gap : ℕ → ℕ)
      → get_or counts bound false ≡ true
      → rating_so_far gap (counted_below counts weights (bound + 1)) ≡ with_stop (rating_so_far gap (counted_below counts weights bound)) (gap bound) (get_or weights bound 0)
  rating_counted gap h =
      ap (rating_so_far gap) (counted_next true h)
      ∙ rating_so_far_snoc gap (counted_below counts weights bound) (record { stop = bound; weight = get_or weights bound 0 })

  -- one that doesn't
  pub rating_passed :
      (gap : ℕ → ℕ)
      → get_or counts bound false ≡ false
      → rating_so_far gap (counted_below counts weights (bound + 1)) ≡ rating_so_far gap (counted_below counts weights bound)
  rating_passed gap h = ap (rating_so_far gap) (counted_next false h ∙ append-nil _)
