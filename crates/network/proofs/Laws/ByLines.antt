-- On a network without loops the gap of a stop over pairs of different lines, as document 01 words it, is its gap over pairs of calls, and so for
-- the rating: no line calls twice at a stop, so that the gaps of its pairs of calls are those of its pairs of lines. Assumes nothing.
use Prim.Native.Nat.{ℕ, zero, suc, ◌≤◌, ◌<◌}
use mathlib.Core.Path.{◌≡◌, refl, sym, ap, ap₂, subst, subst₂, ◌∙◌}
use mathlib.Core.Bool.{true}
use mathlib.Core.List.{List}
use mathlib.Core.Logic.{◌↔◌}
use native.Mathlib.Nat.{le_trans, le_antisymm}
use native.Mathlib.Omega.{arith}
use native.Mathlib.Decide.{dec_lt}
use lib.IntN.{ℤ}
use lib.ListN.{length, get_or}
use Rattle.network.specs.declared.Call.{Call}
use Rattle.network.specs.Network.{Net, is_served}
use Rattle.network.specs.Loops.{WithoutLoops}
use Rattle.network.specs.Valid.{no_call, Valid}
use Rattle.network.specs.Gap.{trip, distance}
use Rattle.network.specs.Rating.{arrival_of, period_of, CallsThere, IsStopGap, IsRating, gap_of_calls, calls_of_stop, stop_gap}
use Rattle.network.specs.ByLines.{LineCallsThere, Reaches, IsLinesGap, IsStopGapOfLines, least_of_lines, period_of_line, IsRatingOfLines}
use Rattle.network.proofs.Laws.Members.{AllPairs, place_of_member}
use Rattle.network.proofs.Laws.Often.{no_line_twice}
use Rattle.network.proofs.Laws.Gap.{distance_comm}
use Rattle.network.proofs.Laws.Pairs.{gap_of_stop_attained, gap_of_stop_single}
use Rattle.network.proofs.Laws.StopGap.{call_at, IsNumber, served_of_call, call_of_served, calls_of_stop_member, calls_of_stop_all}
use Rattle.network.proofs.Laws.StopGap.{calls_of_stop_pairs, gap_at, gap_of_calls_lem, stop_gap_le_calls, stop_gap_is_stop_gap}
use Rattle.network.proofs.Laws.StopGap.{IsStopGap-served, IsStopGap-unique}

-- A call of the line there, as a call there; and a call of the stop as one of its line
by_call : {n : Net} {line stop k : ℕ} → LineCallsThere n line stop k → CallsThere n stop k
by_call h = record { stated = h.stated; at_stop = h.at_stop }

of_number : (n : Net) (stop : ℕ) {c : Call} {k : ℕ} → IsNumber n stop c k → LineCallsThere n c.line stop k
of_number n stop (h, e) = record { stated = h.stated; of_line = ap (λ (d : Call). d.line) e; at_stop = h.at_stop }

module _ {n : Net} (valid : Valid n) (loopless : WithoutLoops n) where
  -- No line calls twice at a stop ..
  pub once_one_call_of_a_line : {line stop c d : ℕ} → LineCallsThere n line stop c → LineCallsThere n line stop d → c ≡ d
  once_one_call_of_a_line {c = c} {d = d} h k = go (dec_lt c d) (dec_lt d c)
    where
      go : Dec (c < d) → Dec (d < c) → c ≡ d
      go (yes l) m = absurd (no_line_twice loopless c d l k.stated (h.of_line ∙ sym k.of_line) (h.at_stop ∙ sym k.at_stop))
      go (no f) (yes l) = absurd (no_line_twice loopless d c l h.stated (k.of_line ∙ sym h.of_line) (k.at_stop ∙ sym h.at_stop))
      go (no f) (no g) = omega arith

  -- .. so that two calls at a stop are of two lines
  pub calls_of_stop_lines_differ : (stop : ℕ) → AllPairs no_call (λ c d. c.line ≡ d.line → ⊥) (calls_of_stop n stop)
  calls_of_stop_lines_differ stop j k h l e =
      let (c, d, m, p, q) = calls_of_stop_pairs n stop j k h l in
      let same : c ≡ d = once_one_call_of_a_line (of_number n stop p) (subst (λ line. LineCallsThere n line stop d) (sym e) (of_number n stop q)) in
      omega arith

  module _ (starts : List ℤ) where
    -- ---- theorem 3.1.2 for two lines, each by one of its calls

    abbrev trip_at : ℕ → ℤ → ℤ
    trip_at c = trip (arrival_of starts (call_at n c)) (period_of n (call_at n c))

    reaches_on_trip : {line stop : ℕ} {x : ℤ} (r : Reaches n starts line stop x) → x ≡ trip_at r.call r.turn
    unfolding period_of
    reaches_on_trip r =
        r.on_time
        ∙ ap (λ l. trip (arrival_of starts (call_at n r.call)) (get_or n.periods l 0) r.turn) (sym r.there.of_line)

    trip_reaches : {line stop c : ℕ} → LineCallsThere n line stop c → (k : ℤ) → Reaches n starts line stop (trip_at c k)
    unfolding period_of
    trip_reaches {c = c} h k =
        record {
          call = c;
          there = h;
          turn = k;
          on_time = ap (λ l. trip (arrival_of starts (call_at n c)) (get_or n.periods l 0) k) h.of_line;
        }

    gap_at_le_distance : {i j stop : ℕ} {x y : ℤ} (r : Reaches n starts i stop x) (s : Reaches n starts j stop y)
        → gap_at valid starts r.call s.call ≤ distance x y
    gap_at_le_distance r s =
        subst₂ (λ x y. gap_at valid starts r.call s.call ≤ distance x y) (sym (reaches_on_trip r)) (sym (reaches_on_trip s))
        ((gap_of_calls_lem valid starts (by_call r.there) (by_call s.there)).least r.turn s.turn)

    -- The gap of two lines is that of their calls
    pub lines_gap_of_calls : {i j stop c d : ℕ} → LineCallsThere n i stop c → LineCallsThere n j stop d
        → IsLinesGap n starts stop i j (gap_at valid starts c d)
    lines_gap_of_calls h k =
        let (p, q, e) = (gap_of_calls_lem valid starts (by_call h) (by_call k)).attained in
        record {
          attained = (_, _, trip_reaches h p, trip_reaches k q, e);
          least = λ x y r s.
              subst₂ (λ c d. gap_at valid starts c d ≤ distance x y) (once_one_call_of_a_line r.there h) (once_one_call_of_a_line s.there k)
              (gap_at_le_distance r s);
        }

    -- ---- the gap of a stop

    pub never_closer : {i j stop : ℕ} {x y : ℤ} → (i ≡ j → ⊥) → Reaches n starts i stop x → Reaches n starts j stop y
        → stop_gap n starts stop ≤ distance x y
    never_closer f r s = le_trans (stop_gap_le_calls valid starts different (by_call r.there) (by_call s.there)) (gap_at_le_distance r s)
      where
        different : r.call ≡ s.call → ⊥
        different e = f (sym r.there.of_line ∙ ap (λ k. (call_at n k).line) e ∙ s.there.of_line)

    lines_gap_of_pairs : (stop : ℕ) → 1 < length (calls_of_stop n stop) → IsStopGapOfLines n starts stop (stop_gap n starts stop)
    unfolding stop_gap
    lines_gap_of_pairs stop h =
        let (j, k, l, m, e) = gap_of_stop_attained n starts (calls_of_stop n stop) h in
        let (c, d, o, p, q) = calls_of_stop_pairs n stop j k l m in
        least_of_lines _ _ (calls_of_stop_lines_differ stop j k l m)
        (subst (IsLinesGap n starts stop _ _) (ap₂ (gap_of_calls n starts) p.1 q.1 ∙ e) (lines_gap_of_calls (of_number n stop p) (of_number n stop q)))
        (λ i j v f g. let (x, y, r, s, e) = g.attained in subst (λ w. stop_gap n starts stop ≤ w) e (never_closer f r s))

    lines_gap_of_one : (stop : ℕ) → length (calls_of_stop n stop) ≡ 1 → IsStopGapOfLines n starts stop (stop_gap n starts stop)
    unfolding stop_gap period_of
    lines_gap_of_one stop h =
        let (c, p) = calls_of_stop_all n stop 0 (omega arith) in
        subst (IsStopGapOfLines n starts stop) (sym (gap_of_stop_single n starts (calls_of_stop n stop) h)) (period_of_line _ (c, of_number n stop p) only)
      where
        only : (j call : ℕ) → LineCallsThere n j stop call → j ≡ (get_or (calls_of_stop n stop) 0 no_call).line
        only j call q =
            let (i, l, e) = place_of_member (calls_of_stop n stop) no_call (calls_of_stop_member n stop (by_call q)) in
            let first : i ≡ 0 = omega arith in
            sym q.of_line ∙ ap (λ (c : Call). c.line) (sym e) ∙ ap (λ (i : ℕ). (get_or (calls_of_stop n stop) i no_call).line) first

pub stop_gap_is_stop_gap_of_lines : (n : Net) → Valid n → WithoutLoops n → (starts : List ℤ) (stop : ℕ) → is_served stop n.calls ≡ true
    → IsStopGapOfLines n starts stop (stop_gap n starts stop)
stop_gap_is_stop_gap_of_lines n valid loopless starts stop e = go (length (calls_of_stop n stop)) refl
  where
    go : (l : ℕ) → length (calls_of_stop n stop) ≡ l → IsStopGapOfLines n starts stop (stop_gap n starts stop)
    go zero f = let (k, c) = call_of_served n stop e in let (i, h, g) = place_of_member (calls_of_stop n stop) no_call (calls_of_stop_member n stop c) in absurd (omega arith)
    go (suc zero) f = lines_gap_of_one valid loopless starts stop f
    go (suc (suc l)) f = lines_gap_of_pairs valid loopless starts stop (omega arith)

-- ---- each gap is one number

module _ {n : Net} {starts : List ℤ} {stop : ℕ} where
  IsLinesGap-le : {i j v w : ℕ} → IsLinesGap n starts stop i j v → IsLinesGap n starts stop i j w → v ≤ w
  IsLinesGap-le {v = v} g h = let (x, y, r, s, e) = h.attained in subst (λ u. v ≤ u) e (g.least x y r s)

  pub IsLinesGap-unique : {i j v w : ℕ} → IsLinesGap n starts stop i j v → IsLinesGap n starts stop i j w → v ≡ w
  IsLinesGap-unique g h = le_antisymm (IsLinesGap-le g h) (IsLinesGap-le h g)

  pub IsLinesGap-symmetric : {i j v : ℕ} → IsLinesGap n starts stop i j v → IsLinesGap n starts stop j i v
  IsLinesGap-symmetric g =
      let (x, y, r, s, e) = g.attained in
      record { attained = (y, x, s, r, distance_comm y x ∙ e); least = λ y x s r. rw (distance_comm y x) (g.least x y r s) }

  -- Two lines that reach the stop are one, where all of its calls are of one line
  line_of_only : {i j k v : ℕ} → IsLinesGap n starts stop i j v → ((l call : ℕ) → LineCallsThere n l stop call → l ≡ k) → i ≡ j
  line_of_only g o = let (x, y, r, s, e) = g.attained in o _ r.call r.there ∙ sym (o _ s.call s.there)

  pub IsStopGapOfLines-same : {v w : ℕ} → IsStopGapOfLines n starts stop v → IsStopGapOfLines n starts stop w → v ≡ w
  IsStopGapOfLines-same (least_of_lines i j f g h) (least_of_lines k l o q m) = le_antisymm (h k l _ o q) (m i j _ f g)
  IsStopGapOfLines-same (least_of_lines i j f g h) (period_of_line k c o) = absurd (f (line_of_only g o))
  IsStopGapOfLines-same (period_of_line k c o) (least_of_lines i j f g h) = absurd (f (line_of_only g o))
  IsStopGapOfLines-same (period_of_line i c o) (period_of_line k d q) = ap (λ (l : ℕ). get_or n.periods l 0) (q i c.0 c.1)

  pub IsStopGapOfLines-served : {v : ℕ} → IsStopGapOfLines n starts stop v → is_served stop n.calls ≡ true
  IsStopGapOfLines-served (least_of_lines i j f g h) = served_of_call n stop (by_call g.attained.2.there)
  IsStopGapOfLines-served (period_of_line i c o) = served_of_call n stop (by_call c.1)

  pub IsStopGapOfLines-unique : {v : ℕ} → Valid n → WithoutLoops n → IsStopGapOfLines n starts stop v → v ≡ stop_gap n starts stop
  IsStopGapOfLines-unique valid loopless g = IsStopGapOfLines-same g (stop_gap_is_stop_gap_of_lines n valid loopless starts stop (IsStopGapOfLines-served g))

-- ---- by calls and by lines it is one gap

pub stop_gap_by_lines : {n : Net} {starts : List ℤ} {stop gap : ℕ} → Valid n → WithoutLoops n → IsStopGap n starts stop gap ↔ IsStopGapOfLines n starts stop gap
stop_gap_by_lines {n} {starts} {stop} {gap} valid loopless = (
  λ g. rw (IsStopGap-unique valid g) (stop_gap_is_stop_gap_of_lines n valid loopless starts stop (IsStopGap-served g)),
  λ g. rw (IsStopGapOfLines-unique valid loopless g) (stop_gap_is_stop_gap n valid starts stop (IsStopGapOfLines-served g)),
)

-- .. and one rating
pub rating_by_lines : {n : Net} {starts : List ℤ} {least sum : ℕ} → Valid n → WithoutLoops n → IsRating n starts least sum ↔ IsRatingOfLines n starts least sum
rating_by_lines valid loopless = (
  λ r.
      record {
        gap = r.gap;
        is_gap = λ s m. (stop_gap_by_lines valid loopless).0 (r.is_gap s m);
        attained = r.attained;
        is_least = r.is_least;
        is_sum = r.is_sum;
      },
  λ r.
      record {
        gap = r.gap;
        is_gap = λ s m. (stop_gap_by_lines valid loopless).1 (r.is_gap s m);
        attained = r.attained;
        is_least = r.is_least;
        is_sum = r.is_sum;
      },
)
