-- What the pass over the calls and the pass over the stops compute is the rating: the rows hold the stops' gaps, and count the stops that
-- the definition counts. Assumes nothing.
use Prim.Native.Nat.{ℕ, suc, ◌*◌, ◌<◌, ◌≤◌}
use mathlib.Core.Path.{◌≡◌, sym, ap, ap₂, ◌∙◌}
use mathlib.Core.Bool.{Bool, true, false}
use mathlib.Core.List.Memᴰ
use mathlib.Core.List.{List, [], ◌∷◌, map, Memᴰ}
use native.Mathlib.Nat.{le_trans, zero-lt-suc}
use native.Mathlib.Omega.{arith}
use borrow.Author.Tests.{ltb-true}
use lib.Dec.{eqb, ltb}
use lib.IntN.{ℤ}
use lib.ListN.{length, get_or, take, replicate, get_or-replicate, get_or-map}
use Rattle.network.specs.declared.Call.{Call}
use Rattle.network.specs.Lists.{below, least_of, keep}
use Rattle.network.specs.Network.{Net, max_stop, max_period, is_served}
use Rattle.network.specs.Valid.{Valid, no_call}
use Rattle.network.specs.Rating.{
  Counted,
  period_of,
  gap_of_stop,
  calls_of_stop,
  stop_gap,
  each_once,
  served_list,
  counted,
  rating_by,
  rating_over,
  rating,
}
use Rattle.network.specs.Engine.Scan.{counted_stops, Lent}
use Rattle.network.specs.Engine.Stored.{net_of, calls_in}
use Rattle.network.proofs.Laws.Lists.{map_same}
use Rattle.network.proofs.Laws.Members.{keep_all}
use Rattle.network.proofs.Laws.Tables.{below_of_member, below_same}
use Rattle.network.proofs.Laws.Sums.{sum_of_same}
use Rattle.network.proofs.Laws.Scan.{gap_of_stop_le_period}

-- A rating depends on the gaps of the stops that count alone
pub rating_by_same : (f g : ℕ → ℕ) (stops : List Counted) → ((s : Counted) → Memᴰ s stops → f s.stop ≡ g s.stop) → rating_by f stops ≡ rating_by g stops
unfolding rating_by
rating_by_same f g stops h =
    ap₂ (λ (l v : ℕ). record { some = true; least = l; sum = v }) (ap least_of (map_same _ _ stops h))
    (sum_of_same _ _ stops (λ s m. ap (λ (v : ℕ). s.weight * v) (h s m)))

-- A stop that a row counts is below 64, and has a number there
pub counted_of_member : (counts : List Bool) (weights : List ℕ) (s : Counted) → Memᴰ s (counted_stops counts weights)
    → (s.stop < 64) × (get_or counts s.stop false ≡ true)
unfolding counted_stops
counted_of_member counts weights s m =
    let (i, k, e) = Memᴰ.of_map (λ (j : ℕ). record { stop = j; weight = get_or weights j 0 }) (below (λ j. get_or counts j false) (suc max_stop)) m in
    let b = below_of_member (λ j. get_or counts j false) (suc max_stop) k in
    let is : i ≡ s.stop = ap (λ (c : Counted). c.stop) e in
    rw (← is) (omega (arith, b.0), b.1)

-- The rows of gaps and counts give the rating over the stops that count
pub rating_of_rows :
    (n : Net) (starts : List ℤ) (gaps : List ℕ) (counts : List Bool) (weights : List ℕ)
    → ((stop : ℕ) → stop < 64 → get_or counts stop false ≡ true → get_or gaps stop 0 ≡ stop_gap n starts stop)
    → rating_by (λ s. get_or gaps s 0) (counted_stops counts weights) ≡ rating_over n starts (counted_stops counts weights)
unfolding rating_over
rating_of_rows n starts gaps counts weights h =
    rating_by_same _ _ (counted_stops counts weights) (λ s m. let b = counted_of_member counts weights s m in h s.stop b.0 b.1)

-- The served stops, each once
pub counted_served :
    (n : Net) (counts : List Bool) (weights : List ℕ)
    → ((stop : ℕ) → stop < 64 → get_or counts stop false ≡ is_served stop n.calls)
    → ((stop : ℕ) → stop < 64 → get_or weights stop 0 ≡ 1)
    → counted_stops counts weights ≡ counted n
unfolding counted_stops counted each_once served_list
counted_served n counts weights h k =
    map_same _ (λ (s : ℕ). record { stop = s; weight = 1 }) (below (λ s. get_or counts s false) (suc max_stop))
    (λ s m.
    let b = below_of_member (λ s'. get_or counts s' false) (suc max_stop) m in
    ap (λ (w : ℕ). record { stop = s; weight = w }) (k s (omega (arith, b.0))))
    ∙ ap (map (λ (s : ℕ). record { stop = s; weight = 1 }))
    (below_same (λ s. get_or counts s false) (λ s. is_served s n.calls) (suc max_stop) (λ s b. h s (omega (arith, b))))

abbrev InRange : Net → Call → Type 0
InRange n c = (0 < period_of n c) × (period_of n c ≤ max_period)

gap_of_stop_le_max_period : (n : Net) (starts : List ℤ) (cs : List Call) → ((i : ℕ) → i < length cs → InRange n (get_or cs i no_call)) → gap_of_stop n starts cs ≤ max_period
unfolding gap_of_stop
gap_of_stop_le_max_period n starts [] f = omega arith
gap_of_stop_le_max_period n starts (c ∷ cs) f =
    le_trans (gap_of_stop_le_period n starts c cs (f 0 (zero-lt-suc _)).0) (f 0 (zero-lt-suc _)).1

-- No gap is longer than a period
pub stop_gap_le_max_period : {n : Net} → Valid n → (starts : List ℤ) (stop : ℕ) → stop_gap n starts stop ≤ max_period
unfolding stop_gap calls_of_stop period_of
stop_gap_le_max_period {n} v starts stop =
    gap_of_stop_le_max_period n starts (keep (λ (c : Call). eqb c.stop stop) n.calls)
    (keep_all no_call (λ (c : Call). eqb c.stop stop) (InRange n) n.calls (λ k h e. (v.period_pos _ (v.call_line k h), v.period _ (v.call_line k h))))

-- A row in which every place is 1
pub ones_are : (stop : ℕ) → stop < 64 → ◌≡◌ {A = ℕ} (get_or (replicate 64 1) stop 0) 1
ones_are stop h = get_or-replicate 64 stop 1 0 h

-- The rating of each served stop once is the network's
pub served_rating :
    (n : Net) (counts : List Bool)
    → ((stop : ℕ) → stop < 64 → get_or counts stop false ≡ is_served stop n.calls)
    → (starts : List ℤ) (gaps : List ℕ)
    → ((stop : ℕ) → stop < 64 → get_or counts stop false ≡ true → get_or gaps stop 0 ≡ stop_gap n starts stop)
    → rating_by (λ s. get_or gaps s 0) (counted_stops counts (replicate 64 1)) ≡ rating n starts
unfolding rating
served_rating n counts flags starts gaps are =
    rating_of_rows n starts gaps counts (replicate 64 1) are
    ∙ ap (rating_over n starts) (counted_served n counts (replicate 64 1) flags ones_are)

-- ---- rows of a network that is lent: which stops its calls serve, and their gaps

module _ {periods list : List ℕ} {lines calls : ℕ} (h : Lent periods list lines calls) where
  pub lent_served :
      (served : ℕ → Bool)
      → ((stop : ℕ) → stop < 64 → served stop ≡ is_served stop (take calls (calls_in list)))
      → (stop : ℕ) → stop < 64 → served stop ≡ is_served stop (net_of h.network).calls
  unfolding net_of
  lent_served served flags stop low =
      flags stop low ∙ ap₂ (λ (k : ℕ) (l : List ℕ). is_served stop (take k (calls_in l))) h.calls_are h.list_is

  -- the rating of each served stop once is the network's
  pub lent_rating :
      (counts : List ℕ)
      → ((stop : ℕ) → stop < 64 → ltb 0 (get_or counts stop 0) ≡ is_served stop (take calls (calls_in list)))
      → (starts : List ℤ) (gaps : List ℕ)
      → ((stop : ℕ) → stop < 64 → 0 < get_or counts stop 0 → get_or gaps stop 0 ≡ stop_gap (net_of h.network) starts stop)
      → rating_by (λ s. get_or gaps s 0) (counted_stops (map (ltb 0) counts) (replicate 64 1)) ≡ rating (net_of h.network) starts
  lent_rating counts flags starts gaps are =
      let flag : (stop : ℕ) → get_or (map (ltb 0) counts) stop false ≡ ltb 0 (get_or counts stop 0) = λ stop. get_or-map (ltb 0) counts stop 0 in
      served_rating (net_of h.network) (map (ltb 0) counts)
      (λ stop low. flag stop ∙ lent_served (λ s. ltb 0 (get_or counts s 0)) flags stop low)
      starts
      gaps
      (λ stop low k. are stop low (ltb-true _ _ (sym (flag stop) ∙ k)))
