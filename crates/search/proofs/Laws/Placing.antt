-- Placing a line call by call: after each of its calls the values are those of the calls up to it, and the rating is the values'; before the
-- first call they are the partial timetable's, and after the last those of one line more. From call to call they only fall. Assumes nothing.
use Prim.Native.Nat.{ℕ, ◌+◌, ◌-◌, ◌<◌, ◌≤◌, min}
use mathlib.Core.Path.{◌≡◌, refl, sym, ap, subst, fun_ext, ◌∙◌}
use mathlib.Core.Bool.{true}
use mathlib.Core.List.{List, [], ◌∷◌, ◌++◌, map, map-append}
use native.Mathlib.Decide.{ℕ_discrete}
use native.Mathlib.Numerals.{add-one}
use native.Mathlib.Omega.{arith}
use lib.IntN.{ℤ, pos}
use lib.ListN.{length, get_or, take, set, length-set, length-map, length-append, get_or-map}
use lib.Seq.{get_or-set_same, get_or-set_other, get_or-take, length-take-le}
use Rattle.network.specs.declared.Call.{Call}
use Rattle.network.specs.Rating.{Rating}
use Rattle.network.specs.Network.{Net, is_served, max_period}
use Rattle.network.specs.Rating.{gap_of_calls, counted, rating_by}
use Rattle.network.specs.Lists.{least_from}
use Rattle.network.specs.Engine.Scan.{calls_before}
use Rattle.network.specs.Valid.{Valid, no_call}
use Rattle.network.proofs.Laws.Lists.{take_set_next}
use Rattle.network.proofs.Laws.Least.{least_from_le}
use Rattle.network.proofs.Laws.Gaps.{served_of_call, rating_by_least_mono, rating_by_sum_mono}
use Rattle.search.specs.declared.Cut.{Cut}
use Rattle.search.specs.declared.Placed.{Placed}
use Rattle.search.specs.Caps.{cap, upper_value, upper_rating}
use Rattle.search.specs.Engine.Layout.{by_line, value_after}
use Rattle.search.specs.Engine.Representation.{is_short, starts_of, with_start, Represents}
use Rattle.search.proofs.Laws.Layout.{by_line_line_lt, length_by_line_all, length_by_line_le}
use Rattle.search.proofs.Laws.CallRows.{by_line_all}
use Rattle.search.proofs.Laws.Values.{value_hit, value_miss, value_falls, value_placed, value_local}
use Rattle.search.proofs.Laws.Cuts.{short_below}
use Rattle.search.proofs.Laws.Lowered.{value_le_sum, rating_lowered}

-- The calls in the order of their lines
abbrev pub in_order : Net → List Call
in_order n = by_line n.calls (length n.periods)

-- Values and rating after `i` of them
pub record Lowering (n : Net) (starts : List ℤ) (values : List ℕ) (least sum i : ℕ) : Type 0 where
  pub row : length values ≡ 64
  pub value_of :
      (stop : ℕ) → stop < 64 → is_served stop n.calls ≡ true → get_or values stop 0 ≡ value_after n (cap n) starts (in_order n) i stop
  pub sum_low : sum ≤ 4194240
  pub rating_of :
      ◌≡◌ {A = Rating} (record { some = true; least = least; sum = sum })
      (rating_by (value_after n (cap n) starts (in_order n) i) (counted n))

-- ---- one call more

module _
    (n : Net)
    (valid : Valid n)
    (starts : List ℤ)
    (values : List ℕ)
    (least sum i : ℕ)
    (now : Lowering n starts values least sum i)
    (stated : i < length (in_order n))
    (stop_here : ℕ)
    (here : (get_or (in_order n) i no_call).stop ≡ stop_here)
    (low : stop_here < 64)
    (served : is_served stop_here n.calls ≡ true) where
  abbrev old : ℕ
  old = get_or values stop_here 0

  old_is : old ≡ value_after n (cap n) starts (in_order n) i stop_here
  old_is = now.value_of stop_here low served

  pub old_le_sum : old ≤ sum
  old_le_sum =
      omega (arith, old_is, value_le_sum n valid (value_after n (cap n) starts (in_order n) i) stop_here served, ap (λ (r : Rating). r.sum) now.rating_of)

  module _ (value : ℕ) (lowered : value ≡ least_from old (map (λ d. gap_of_calls n starts d (get_or (in_order n) i no_call)) (calls_before stop_here (in_order n) i))) where
    pub value_le_old : value ≤ old
    value_le_old = rw lowered (least_from_le old _)

    value_is : value ≡ value_after n (cap n) starts (in_order n) (i + 1) stop_here
    value_is =
        lowered
        ∙ ap (λ (v : ℕ). least_from v (map (λ d. gap_of_calls n starts d (get_or (in_order n) i no_call)) (calls_before stop_here (in_order n) i))) old_is
        ∙ sym (value_hit n (cap n) starts (in_order n) i stated stop_here here)

    elsewhere : (stop : ℕ) → (stop ≡ stop_here → ⊥) → value_after n (cap n) starts (in_order n) (i + 1) stop ≡ value_after n (cap n) starts (in_order n) i stop
    elsewhere stop f = value_miss n (cap n) starts (in_order n) i stated stop (λ e. f (sym e ∙ here))

    value_at : (stop : ℕ) → stop < 64 → is_served stop n.calls ≡ true → Dec (stop ≡ stop_here)
        → get_or (set values stop_here value) stop 0 ≡ value_after n (cap n) starts (in_order n) (i + 1) stop
    value_at stop h s (yes e) =
        ap (λ (k : ℕ). get_or (set values stop_here value) k 0) e
        ∙ get_or-set_same values stop_here value 0 (rw now.row low)
        ∙ value_is
        ∙ ap (value_after n (cap n) starts (in_order n) (i + 1)) (sym e)
    value_at stop h s (no f) = get_or-set_other values stop_here stop value 0 f ∙ now.value_of stop h s ∙ sym (elsewhere stop f)

    pub lowering_next : Lowering n starts (set values stop_here value) (min least value) (sum + value - old) (i + 1)
    lowering_next =
        record {
          row = length-set values stop_here value ∙ now.row;
          value_of = λ stop h s. value_at stop h s (ℕ_discrete stop stop_here);
          sum_low = omega (arith, value_le_old, old_le_sum, now.sum_low);
          rating_of =
              sym
              (rating_lowered n valid (value_after n (cap n) starts (in_order n) i) stop_here served (value_after n (cap n) starts (in_order n) (i + 1)) elsewhere
              (omega (arith, value_is, value_le_old, old_is))
              ∙ lowered_numbers);
        }
      where
        lowered_numbers :
            ◌≡◌ {A = Rating}
            (record {
              some = true;
              least = min (rating_by (value_after n (cap n) starts (in_order n) i) (counted n)).least (value_after n (cap n) starts (in_order n) (i + 1) stop_here);
              sum =
                  (rating_by (value_after n (cap n) starts (in_order n) i) (counted n)).sum + value_after n (cap n) starts (in_order n) (i + 1) stop_here
                  - value_after n (cap n) starts (in_order n) i stop_here;
            })
            (record { some = true; least = min least value; sum = sum + value - old })
        lowered_numbers = cc (now.rating_of, value_is, old_is)

-- ---- before the first call, and after the last

-- The starts with one more are those before, and it
pub starts_of_next : (starts : List ℕ) (line start : ℕ) → line < length starts → starts_of (line + 1) (set starts line start) ≡ starts_of line starts ++ (pos start ∷ [])
starts_of_next starts line start h = ap (map pos) (take_set_next starts line start h) ∙ map-append pos (take line starts) (start ∷ [])

length_starts_of : (k : ℕ) (starts : List ℕ) → k ≤ length starts → length (starts_of k starts) ≡ k
length_starts_of k starts h = length-map (take k starts) pos ∙ length-take-le k starts h

get_d_starts_of : (k : ℕ) (starts : List ℕ) (j : ℕ) → j < k → get_or (starts_of k starts) j (pos 0) ≡ pos (get_or starts j 0)
get_d_starts_of k starts j h = get_or-map pos (take k starts) j 0 ∙ ap pos (get_or-take k starts j 0 h)

-- What the first `k` lines' calls give does not depend on later starts
value_of_prefix :
    (n : Net) → Valid n → (k : ℕ) (starts whole : List ℕ)
    → k ≤ length n.periods
    → k ≤ length starts
    → ((j : ℕ) → j < k → get_or starts j 0 ≡ get_or whole j 0)
    → (stop : ℕ)
    → upper_value n (cap n) (starts_of k starts) stop ≡ value_after n (cap n) (map pos whole) (in_order n) (length (by_line n.calls k)) stop
value_of_prefix n valid k starts whole h hs same stop =
    sym (value_placed n valid (cap n) (starts_of k starts) (length n.periods) stop (rw (length_starts_of k starts hs) h))
    ∙ ap (λ (j : ℕ). value_after n (cap n) (starts_of k starts) (in_order n) (length (by_line n.calls j)) stop) (length_starts_of k starts hs)
    ∙ value_local n (starts_of k starts) (map pos whole) (cap n) (in_order n) (length (by_line n.calls k)) stop
    (λ j b c.
    let line = by_line_line_lt n.calls k (length n.periods) j h b in
    get_d_starts_of k starts _ line ∙ ap pos (same _ line) ∙ sym (get_or-map pos whole _ 0))

pub lowering_first :
    (n : Net) → Valid n → (line start : ℕ) (p : Placed)
    → line < length n.periods
    → Represents n line p
    → Lowering n (map pos (set p.starts line start)) p.values p.upper.least p.upper.sum (length (by_line n.calls line))
unfolding upper_rating
lowering_first n valid line start p h rep =
    record {
      row = rep.values_row;
      value_of = λ stop b s. rep.value_of stop b s ∙ same stop;
      sum_low = rep.sum_low;
      rating_of = rep.rating_of ∙ ap (λ f. rating_by f (counted n)) (fun_ext same);
    }
  where
    same : (stop : ℕ) → upper_value n (cap n) (starts_of line p.starts) stop
        ≡ value_after n (cap n) (map pos (set p.starts line start)) (in_order n) (length (by_line n.calls line)) stop
    same =
        value_of_prefix n valid line p.starts (set p.starts line start) (omega arith) (omega (arith, rep.starts_row, valid.lines))
        (λ j b. sym (get_or-set_other p.starts line j start 0 (λ e. absurd (omega (arith, e, b)))))

pub lowering_last :
    (n : Net) → Valid n → (line : ℕ) (starts values : List ℕ) (least sum : ℕ)
    → line < length n.periods
    → length starts ≡ 16
    → ((i : ℕ) → get_or starts i 0 < max_period)
    → Lowering n (map pos starts) values least sum (length (by_line n.calls (line + 1)))
    → Represents n (line + 1) (record { starts = starts; values = values; upper = record { least = least; sum = sum } })
unfolding upper_rating
lowering_last n valid line starts values least sum h row low now =
    record {
      starts_row = row;
      values_row = now.row;
      starts_low = low;
      value_of = λ stop b s. now.value_of stop b s ∙ sym (same stop);
      sum_low = now.sum_low;
      rating_of = now.rating_of ∙ ap (λ f. rating_by f (counted n)) (sym (fun_ext same));
    }
  where
    same : (stop : ℕ) → upper_value n (cap n) (starts_of (line + 1) starts) stop
        ≡ value_after n (cap n) (map pos starts) (in_order n) (length (by_line n.calls (line + 1))) stop
    same = value_of_prefix n valid (line + 1) starts starts (omega arith) (omega (arith, row, valid.lines)) (λ j b. refl)

-- What falls short after some of a line's calls does after all of them
pub given_up :
    (cut : Cut) (n : Net) → Valid n → (line start : ℕ) (p : Placed)
    → line < length n.periods
    → Represents n line p
    → (values : List ℕ) (least sum i : ℕ)
    → Lowering n (map pos (set p.starts line start)) values least sum i
    → i ≤ length (by_line n.calls (line + 1))
    → is_short cut least sum ≡ true
    → is_short cut (upper_rating n (cap n) (with_start line start p)).least (upper_rating n (cap n) (with_start line start p)).sum ≡ true
unfolding upper_rating
given_up cut n valid line start p h rep values least sum i now l short =
    short_below cut _ _ least sum
    (omega (arith, ap (λ (r : Rating). r.least) at_end, ap (λ (r : Rating). r.least) now.rating_of, rating_by_least_mono (after end) (after i) falls (counted n)))
    (omega (arith, ap (λ (r : Rating). r.sum) at_end, ap (λ (r : Rating). r.sum) now.rating_of, rating_by_sum_mono (after end) (after i) falls (counted n)))
    short
  where
    starts : List ℕ
    starts = set p.starts line start

    end : ℕ
    end = length (by_line n.calls (line + 1))

    after : ℕ → ℕ → ℕ
    after = value_after n (cap n) (map pos starts) (in_order n)

    in_row : line < length p.starts
    in_row = omega (arith, rep.starts_row, valid.lines)

    at_end : upper_rating n (cap n) (starts_of line p.starts ++ (pos start ∷ [])) ≡ rating_by (after end) (counted n)
    at_end =
        ap (upper_rating n (cap n)) (sym (starts_of_next p.starts line start in_row))
        ∙ ap (λ f. rating_by f (counted n))
        (fun_ext (value_of_prefix n valid (line + 1) starts starts (omega arith) (omega (arith, in_row, length-set p.starts line start)) (λ j b. refl)))

    falls : (stop : ℕ) → after end stop ≤ after i stop
    falls stop =
        subst (λ (j : ℕ). after j stop ≤ after i stop) (omega arith)
        (value_falls n (cap n) (map pos starts) (in_order n) stop i (end - i)
        (omega (arith, length_by_line_le n.calls (line + 1), length_by_line_all n.calls (length n.periods) valid.call_line)))

-- ---- facts of the calls in line order

pub stop_served : (n : Net) → Valid n → (i : ℕ) → i < length (in_order n) → is_served (get_or (in_order n) i no_call).stop n.calls ≡ true
stop_served n valid i h =
    by_line_all (λ (c : Call). is_served c.stop n.calls ≡ true) n.calls (λ k h. served_of_call n _ {k = k} (record { stated = h; at_stop = refl })) (length n.periods) i h

-- A start that is below the longest period in a row of such
pub set_low : (starts : List ℕ) (line start : ℕ) → length starts ≡ 16 → line < 16 → start < max_period → ((i : ℕ) → get_or starts i 0 < max_period)
    → (i : ℕ) → get_or (set starts line start) i 0 < max_period
set_low starts line start row h low each i = go (ℕ_discrete i line)
  where
    go : Dec (i ≡ line) → get_or (set starts line start) i 0 < max_period
    go (yes e) = rw (ap (λ (k : ℕ). get_or (set starts line start) k 0) e ∙ get_or-set_same starts line start 0 (rw row h)) low
    go (no f) = rw (get_or-set_other starts line i start 0 f) (each i)

pub length_by_line_grows : (calls : List Call) (k : ℕ) → length (by_line calls k) ≤ length (by_line calls (k + 1))
unfolding by_line
length_by_line_grows calls k = rw add-one (rw length-append (omega arith))
