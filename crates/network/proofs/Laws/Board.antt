-- The board of a stop as computed is its board by definition, and every board has its rows: minute by minute the calls that arrive are those with a trip
-- then, each once, in their order, and the times and lines of a list in that order are settled by its members. And what follows for its length, what its
-- rows hold, windows side by side, and starts moved together. Assumes nothing.
use Prim.Native.Nat.{ℕ, zero, suc, ◌+◌, ◌*◌, ◌-◌, ◌<◌, ◌≤◌}
use mathlib.Core.Path.{◌≡◌, refl, sym, ap, ap₂, subst, ◌∙◌}
use mathlib.Core.Bool.{true, false}
use mathlib.Core.List.{List, [], ◌++◌, map, map-map, map-append, append_assoc, append-nil}
use mathlib.Core.List.Memᴰ
use mathlib.Core.List.{Memᴰ}
use mathlib.Core.List.Permᴰ
use mathlib.Core.List.{Permᴰ}
use mathlib.Core.Logic.{◌⊎◌, inl, inr}
use native.Mathlib.Nat.{zero-mod, eq-or-lt_of_le, le_of_suc-le-suc, le_trans, mul-le-mul_left, add-zero, add-suc}
use native.Mathlib.Omega.{arith}
use borrow.Author.Tests.{eqb-true, eq-eqb, leb-true, le-leb, leb-false}
use lib.Dec.{eqb, leb}
use lib.IntN.{ℤ, pos, nat_abs, ◌+ℤ◌, ◌-ℤ◌}
use lib.ListN.{length, get_or, length-append, length-map}
use Rattle.network.specs.declared.Call.{Call}
use Rattle.network.specs.Lists.{keep, below}
use Rattle.network.specs.Network.{Net, is_served}
use Rattle.network.specs.Valid.{Valid}
use Rattle.network.specs.Gap.{trip, residue}
use Rattle.network.specs.Rating.{arrival_of, period_of, CallsThere}
use Rattle.network.specs.Tidy.{not_after, first_by, by_offset}
use Rattle.network.specs.Classes.{ordered}
use Rattle.network.specs.Board.{Window, window, Arrival, call_at, trip_at, InWindow, NotLater, earlier, lower_line, no_higher_offset, no_arrival, IsBoard}
use Rattle.network.specs.Board.{arrives, board_calls, board_at, board_from, board, times, lines}
use Rattle.network.proofs.Laws.Lists.{get_d_map, map_same_places, nil_of_length}
use Rattle.network.proofs.Laws.Members.{All, EveryTwo, place_of_member, member_of_place, of_all, keep_of_member, member_of_keep, length_keep_le}
use Rattle.network.proofs.Laws.Members.{every_two_of_places, every_two_both, every_two_keep, places_of_every_two, every_two_of_implied}
use Rattle.network.proofs.Laws.Members.{every_two_append, every_two_map, every_two_of_map, keep_same, all_map}
use Rattle.network.proofs.Laws.Permutations.{length_permuted, member_permuted, every_two_permuted}
use Rattle.network.proofs.Laws.Once.{Differ, EachOnce, each_once_of_places, places_of_each_once, permuted_of_same_members, below_once}
use Rattle.network.proofs.Laws.Tables.{below_of_member, member_of_below}
use Rattle.network.proofs.Laws.Integers.{difference, difference_pos, difference_add, difference_sub, difference_add_multiple}
use Rattle.network.proofs.Laws.Integers.{difference_of_eq, eq_of_difference, nat_abs_of_difference}
use Rattle.network.proofs.Laws.Gap.{residue_pos, residue_eq_of_multiple, multiple_of_residue_eq, difference_trip}
use Rattle.network.proofs.Laws.Packed.{InLimits, limits}
use Rattle.network.proofs.Laws.Starts.{arrival_moved}
use Rattle.network.proofs.Laws.Tidy.{Sorted, first_by_true, sort_by_is_permutation, sorted_equal_of_permuted, tidy_sorted}
use Rattle.network.proofs.Laws.Sorted.{leb_order, eqb_equality}
use Rattle.network.proofs.Laws.Placed.{served_of_length, ordered_le_max_at_stop}
use Rattle.network.proofs.Laws.BoardRows.{board_calls_ordered}

-- ---- the minutes at which a call arrives are those of its trips

residue_zero : (t : ℕ) → residue (pos 0) t ≡ 0
residue_zero t = residue_pos 0 t ∙ zero-mod t

module _ (n : Net) (starts : List ℤ) (c : Call) where
  abbrev here : ℤ
  here = arrival_of starts c

  abbrev every : ℕ
  every = period_of n c

  pub arrives_of_trip : (k : ℤ) → arrives n starts (trip (arrival_of starts c) (period_of n c) k) c ≡ true
  unfolding arrives
  arrives_of_trip k =
      let between = difference_sub (difference_trip (difference here) (difference k) every) (difference here) in
      let multiple = difference_add_multiple (difference_pos 0) (difference k) every in
      eq-eqb _ 0 (residue_eq_of_multiple (trip here every k -ℤ here) (pos 0) k every (eq_of_difference between multiple (omega arith)) ∙ residue_zero every)

  pub trip_of_arrives : (time : ℤ) → 0 < period_of n c → arrives n starts time c ≡ true → (k : ℤ) × (time ≡ trip (arrival_of starts c) (period_of n c) k)
  unfolding arrives
  trip_of_arrives time h e =
      let (k, is) = multiple_of_residue_eq (time -ℤ here) (pos 0) every h (eqb-true _ 0 e ∙ sym (residue_zero every)) in
      let between = difference_sub (difference time) (difference here) in
      let multiple = difference_add_multiple (difference_pos 0) (difference k) every in
      (k, eq_of_difference (difference time) (difference_trip (difference here) (difference k) every) (omega (arith, difference_of_eq between multiple is)))

-- ---- the calls of a board are the calls at the stop, each once, in their order

module _ (n : Net) (stop : ℕ) where
  abbrev there : List ℕ
  there = below (λ c. eqb (call_at n c).stop stop) (length n.calls)

  board_calls_permutation : Permᴰ (board_calls n stop) there
  unfolding board_calls
  board_calls_permutation = sort_by_is_permutation (λ c d. not_after (call_at n c) (call_at n d)) there

  pub calls_there_of_member : {c : ℕ} → Memᴰ c (board_calls n stop) → CallsThere n stop c
  calls_there_of_member m =
      let (h, e) = below_of_member _ (length n.calls) (member_permuted board_calls_permutation m) in
      record { stated = h; at_stop = eqb-true _ _ e }

  pub member_of_calls_there : {c : ℕ} → CallsThere n stop c → Memᴰ c (board_calls n stop)
  member_of_calls_there {c} h =
      member_permuted (Permᴰ.symm board_calls_permutation) (member_of_below _ (length n.calls) c h.stated (eq-eqb _ _ h.at_stop))

  pub board_calls_once : EachOnce (board_calls n stop)
  board_calls_once = every_two_permuted Differ (λ a b d e. d (sym e)) (Permᴰ.symm board_calls_permutation) (below_once _ (length n.calls))

  board_calls_in_order : EveryTwo (λ c d. not_after (call_at n c) (call_at n d) ≡ true) (board_calls n stop)
  unfolding ordered
  board_calls_in_order =
      every_two_of_map (call_at n) (λ a b. not_after a b ≡ true) (board_calls n stop)
      (subst (Sorted not_after) (sym (board_calls_ordered n stop)) (tidy_sorted _))

  length_board_calls : length (board_calls n stop) ≡ length (ordered n stop)
  length_board_calls = sym (length-map (board_calls n stop) (call_at n)) ∙ ap length (board_calls_ordered n stop)

-- ---- the arrivals at one minute

abbrev arrival_at : ℤ → ℕ → Arrival
arrival_at time c = record { call = c; time = time }

-- An arrival that may stand before another, and is another
abbrev Before : Net → Arrival → Arrival → Type 0
Before n a b = NotLater n a b × Differ a b

module _ (n : Net) (starts : List ℤ) (stop : ℕ) where
  module _ (time : ℤ) where
    abbrev arriving : List ℕ
    arriving = keep (λ c. arrives n starts time (call_at n c)) (board_calls n stop)

    board_at_member : {a : Arrival} → Memᴰ a (board_at n starts stop time)
        → CallsThere n stop a.call × (a.time ≡ time) × (arrives n starts time (call_at n a.call) ≡ true)
    unfolding board_at
    board_at_member m =
        let (c, k, is) = Memᴰ.of_map _ arriving m in
        let (l, e) = member_of_keep _ (board_calls n stop) k in
        let call = ap (λ (a : Arrival). a.call) is in (
          subst (CallsThere n stop) call (calls_there_of_member n stop l),
          ap (λ (a : Arrival). a.time) (sym is),
          ap (λ (d : ℕ). arrives n starts time (call_at n d)) (sym call) ∙ e,
        )

    member_of_board_at : {c : ℕ} → CallsThere n stop c → arrives n starts time (call_at n c) ≡ true
        → Memᴰ (arrival_at time c) (board_at n starts stop time)
    unfolding board_at
    member_of_board_at h e = Memᴰ.map (arrival_at time) (keep_of_member _ (board_calls n stop) (member_of_calls_there n stop h) e)

    -- of two calls at the stop at one minute
    before_of_order : (c d : ℕ) → CallsThere n stop c → CallsThere n stop d → not_after (call_at n c) (call_at n d) ≡ true
        → NotLater n (arrival_at time c) (arrival_at time d)
    unfolding not_after
    before_of_order c d h k e = go (first_by_true (λ (x : Call). x.line) (first_by (λ (x : Call). x.stop) by_offset) (call_at n c) (call_at n d) e)
      where
        offsets : first_by (λ (x : Call). x.stop) by_offset (call_at n c) (call_at n d) ≡ true → (call_at n c).offset ≤ (call_at n d).offset
        offsets f = by_stop (first_by_true (λ (x : Call). x.stop) by_offset (call_at n c) (call_at n d) f)
          where
            by_stop : ((call_at n c).stop < (call_at n d).stop) ⊎ (((call_at n c).stop ≡ (call_at n d).stop) × (by_offset (call_at n c) (call_at n d) ≡ true))
                → (call_at n c).offset ≤ (call_at n d).offset
            by_stop (inl l) = absurd (omega (arith, h.at_stop, k.at_stop))
            by_stop (inr (s, l)) = leb-true _ _ l

        go : ((call_at n c).line < (call_at n d).line)
            ⊎ (((call_at n c).line ≡ (call_at n d).line) × (first_by (λ (x : Call). x.stop) by_offset (call_at n c) (call_at n d) ≡ true))
            → NotLater n (arrival_at time c) (arrival_at time d)
        go (inl l) = lower_line refl l
        go (inr (l, f)) = no_higher_offset refl l (offsets f)

    board_at_in_order : EveryTwo (Before n) (board_at n starts stop time)
    unfolding board_at
    board_at_in_order =
        every_two_map (arrival_at time) (Before n) arriving
        (every_two_keep before before (λ c. arrives n starts time (call_at n c)) (λ c d _ _ r. r) (board_calls n stop)
        (every_two_of_implied both before (board_calls n stop)
        (λ c d m k (e, differ).
        (before_of_order c d (calls_there_of_member n stop m) (calls_there_of_member n stop k) e, λ same. differ (ap (λ (a : Arrival). a.call) same)))
        (every_two_both (λ c d. not_after (call_at n c) (call_at n d) ≡ true) Differ both (λ c d e f. (e, f)) (board_calls n stop)
        (board_calls_in_order n stop) (board_calls_once n stop))))
      where
        before : ℕ → ℕ → Type 0
        before c d = Before n (arrival_at time c) (arrival_at time d)

        both : ℕ → ℕ → Type 0
        both c d = (not_after (call_at n c) (call_at n d) ≡ true) × Differ c d

  -- ---- the arrivals of so many minutes

  module _ (from : ℤ) where
    board_from_member : (m : ℕ) {a : Arrival} → Memᴰ a (board_from n starts stop from m)
        → (i : ℕ) × (i < m) × Memᴰ a (board_at n starts stop (from +ℤ pos i))
    unfolding board_from
    board_from_member zero k = absurd (Memᴰ.not-nil k)
    board_from_member (suc m) {a} k = go (λ l. board_from_member m l) (Memᴰ.append_cases (board_from n starts stop from m) k)
      where
        go : (Memᴰ a (board_from n starts stop from m) → (i : ℕ) × (i < m) × Memᴰ a (board_at n starts stop (from +ℤ pos i)))
            → Memᴰ a (board_from n starts stop from m) ⊎ Memᴰ a (board_at n starts stop (from +ℤ pos m))
            → (i : ℕ) × (i < suc m) × Memᴰ a (board_at n starts stop (from +ℤ pos i))
        go ih (inl l) = let (i, h, o) = ih l in (i, omega arith, o)
        go ih (inr l) = (m, omega arith, l)

    member_of_board_from : (m i : ℕ) {a : Arrival} → i < m → Memᴰ a (board_at n starts stop (from +ℤ pos i))
        → Memᴰ a (board_from n starts stop from m)
    unfolding board_from
    member_of_board_from zero i h k = absurd (omega arith)
    member_of_board_from (suc m) i {a} h k = go (member_of_board_from m i) (eq-or-lt_of_le (le_of_suc-le-suc h))
      where
        go : (i < m → Memᴰ a (board_at n starts stop (from +ℤ pos i)) → Memᴰ a (board_from n starts stop from m)) → (i ≡ m) ⊎ (i < m)
            → Memᴰ a (board_from n starts stop from m ++ board_at n starts stop (from +ℤ pos m))
        go ih (inl e) = Memᴰ.append_right (board_from n starts stop from m) (rw e at k)
        go ih (inr l) = Memᴰ.append_left (board_at n starts stop (from +ℤ pos m)) (ih l k)

    -- an arrival of an earlier minute
    before_of_minutes : (a b : Arrival) (i m : ℕ) → i < m → a.time ≡ from +ℤ pos i → b.time ≡ from +ℤ pos m → Before n a b
    before_of_minutes a b i m h e f =
        let first = difference_add (difference from) (difference_pos i) in
        let second = difference_add (difference from) (difference_pos m) in
        let later = eq_of_difference second (difference_add first (difference_pos (suc (m - suc i)))) (omega arith) in (
          earlier (m - suc i) (f ∙ later ∙ ap (λ (t : ℤ). t +ℤ pos (suc (m - suc i))) (sym e)),
          λ same. omega (arith, difference_of_eq first second (sym e ∙ ap (λ (x : Arrival). x.time) same ∙ f)),
        )

    board_from_in_order : (m : ℕ) → EveryTwo (Before n) (board_from n starts stop from m)
    unfolding board_from
    board_from_in_order zero = tt
    board_from_in_order (suc m) =
        every_two_append (Before n) (board_from n starts stop from m) (board_at n starts stop (from +ℤ pos m)) (board_from_in_order m)
        (board_at_in_order (from +ℤ pos m))
        (λ a b k l.
        let (i, h, o) = board_from_member m k in
        before_of_minutes a b i m h (board_at_member (from +ℤ pos i) o).1 (board_at_member (from +ℤ pos m) l).1)

-- ---- the board is a board

-- An arrival that a board has: of a call at the stop, in the window, of one of its trips
abbrev Listed : Net → List ℤ → Window → Arrival → Type 0
Listed n starts w a = CallsThere n w.stop a.call × InWindow w a.time × ((k : ℤ) × (a.time ≡ trip_at n starts a.call k))

module _ {n : Net} (valid : Valid n) (starts : List ℤ) (w : Window) where
  listed_of_member : {a : Arrival} → Memᴰ a (board n starts w) → Listed n starts w a
  unfolding board period_of
  listed_of_member {a} m =
      let (i, h, k) = board_from_member n starts w.stop w.from w.minutes m in
      let (there, e, at) = board_at_member n starts w.stop (w.from +ℤ pos i) k in
      let (j, is) = trip_of_arrives n starts (call_at n a.call) (w.from +ℤ pos i) (valid.period_pos _ (valid.call_line _ there.stated)) at in
      (there, (i, h, e), (j, e ∙ is))

  member_of_listed : {a : Arrival} → Listed n starts w a → Memᴰ a (board n starts w)
  unfolding board
  member_of_listed {a} (there, (i, h, e), (k, is)) =
      member_of_board_from n starts w.stop w.from w.minutes i h
      (subst (λ (t : ℤ). Memᴰ a (board_at n starts w.stop t)) e
      (member_of_board_at n starts w.stop a.time there
      (ap (λ (t : ℤ). arrives n starts t (call_at n a.call)) is ∙ arrives_of_trip n starts (call_at n a.call) k)))

  board_in_order : EveryTwo (Before n) (board n starts w)
  unfolding board
  board_in_order = board_from_in_order n starts w.stop w.from w.minutes

  pub board_is_board : IsBoard n starts w (board n starts w)
  board_is_board =
      record {
        listed = λ c k there in_window. place_of_member (board n starts w) no_arrival (member_of_listed (there, in_window, (k, refl)));
        once = places_of_each_once no_arrival (board n starts w)
            (every_two_of_implied (Before n) Differ (board n starts w) (λ a b _ _ r. r.1) board_in_order);
        no_other = λ i h. listed_of_member (member_of_place (board n starts w) no_arrival i h);
        in_order = λ i j h l. (places_of_every_two (Before n) no_arrival (board n starts w) board_in_order i j h l).0;
      }

-- ---- its rows are the only ones

-- An arrival's place in the order as one number: its minute, then its line, then its offset, each below the unit of the one before
module _ (n : Net) (w : Window) where
  abbrev minute : Arrival → ℕ
  minute a = nat_abs (a.time -ℤ w.from)

  abbrev key : Arrival → ℕ
  key a = minute a * 1048576 + (call_at n a.call).line * 65536 + (call_at n a.call).offset

  minute_is : (a : Arrival) (m : ℕ) → a.time ≡ w.from +ℤ pos m → minute a ≡ m
  minute_is a m e =
      ap (λ (t : ℤ). nat_abs (t -ℤ w.from)) e
      ∙ nat_abs_of_difference (difference_sub (difference_add (difference w.from) (difference_pos m)) (difference w.from))
      ∙ omega arith

  module _ (valid : Valid n) (starts : List ℤ) (a b : Arrival) (first : Listed n starts w a) (second : Listed n starts w b) where
    abbrev limit_a : InLimits (call_at n a.call)
    limit_a = limits valid a.call first.0.stated

    abbrev limit_b : InLimits (call_at n b.call)
    limit_b = limits valid b.call second.0.stated

    key_le : NotLater n a b → key a ≤ key b
    key_le (earlier k e) =
        let (i, h, at) = first.1 in
        let (j, l, at') = second.1 in
        let one = difference_add (difference w.from) (difference_pos i) in
        let other = difference_add (difference w.from) (difference_pos j) in
        let apart = difference_of_eq other (difference_add one (difference_pos (suc k)))
        (sym at' ∙ e ∙ ap (λ (t : ℤ). t +ℤ pos (suc k)) at) in
        omega (arith, minute_is a i at, minute_is b j at', limit_a, limit_b)
    key_le (lower_line e l) = omega (arith, ap (λ (t : ℤ). nat_abs (t -ℤ w.from)) e, limit_a, limit_b)
    key_le (no_higher_offset e l o) = omega (arith, ap (λ (t : ℤ). nat_abs (t -ℤ w.from)) e, limit_a, limit_b)

    rows_of_key : key a ≡ key b → (a.time ≡ b.time) × ((call_at n a.call).line ≡ (call_at n b.call).line)
    rows_of_key e =
        let (i, h, at) = first.1 in
        let (j, l, at') = second.1 in
        let same : i ≡ j = omega (arith, e, minute_is a i at, minute_is b j at', limit_a, limit_b) in
        (at ∙ ap (λ (m : ℕ). w.from +ℤ pos m) same ∙ sym at', omega (arith, e, same, minute_is a i at, minute_is b j at', limit_a, limit_b))

module _ {n : Net} {starts : List ℤ} {w : Window} where
  listed_on_board : {xs : List Arrival} → IsBoard n starts w xs → {a : Arrival} → Memᴰ a xs → Listed n starts w a
  listed_on_board {xs} b = of_all (Listed n starts w) xs no_arrival b.no_other

  on_board_of_listed : {xs : List Arrival} → IsBoard n starts w xs → {a : Arrival} → Listed n starts w a → Memᴰ a xs
  on_board_of_listed {xs} b {a} (there, in_window, (k, is)) =
      let (i, h, e) = b.listed a.call k there (subst (InWindow w) is in_window) in
      let same : get_or xs i no_arrival ≡ a = e ∙ ap (λ (t : ℤ). arrival_at t a.call) (sym is) in
      subst (λ (x : Arrival). Memᴰ x xs) same (member_of_place xs no_arrival i h)

  -- two boards have the same arrivals
  boards_permuted : {xs ys : List Arrival} → IsBoard n starts w xs → IsBoard n starts w ys → Permᴰ xs ys
  boards_permuted {xs} {ys} b c =
      permuted_of_same_members xs ys (each_once_of_places no_arrival xs b.once) (each_once_of_places no_arrival ys c.once)
      (λ a m. on_board_of_listed c (listed_on_board b m)) (λ a m. on_board_of_listed b (listed_on_board c m))

module _ {n : Net} {starts : List ℤ} {w : Window} (valid : Valid n) where
  keys_sorted : {xs : List Arrival} → IsBoard n starts w xs → Sorted leb (map (key n w) xs)
  keys_sorted {xs} b =
      every_two_map (key n w) (λ i j. leb i j ≡ true) xs
      (every_two_of_implied (NotLater n) (λ a c. leb (key n w a) (key n w c) ≡ true) xs
      (λ a c m k r. le-leb (key n w a) (key n w c) (key_le n w valid starts a c (listed_on_board b m) (listed_on_board b k) r))
      (every_two_of_places (NotLater n) no_arrival xs b.in_order))

  pub IsBoard-rows : {xs ys : List Arrival} → IsBoard n starts w xs → IsBoard n starts w ys
      → (times xs ≡ times ys) × (lines n xs ≡ lines n ys) × (length xs ≡ length ys)
  unfolding times lines
  IsBoard-rows {xs} {ys} b c =
      let long : length xs ≡ length ys = length_permuted (boards_permuted b c) in
      let keys : map (key n w) xs ≡ map (key n w) ys =
      sorted_equal_of_permuted leb leb_order eqb eqb_equality (Permᴰ.map (key n w) (boards_permuted b c)) (keys_sorted b) (keys_sorted c) in
      let same : (i : ℕ) → i < length xs → ((get_or xs i no_arrival).time ≡ (get_or ys i no_arrival).time)
      × ((call_at n (get_or xs i no_arrival).call).line ≡ (call_at n (get_or ys i no_arrival).call).line) =
      λ i h.
      rows_of_key n w valid starts (get_or xs i no_arrival) (get_or ys i no_arrival) (b.no_other i h) (c.no_other i (omega arith))
      (sym (get_d_map (key n w) xs i no_arrival 0 h) ∙ ap (λ (l : List ℕ). get_or l i 0) keys ∙ get_d_map (key n w) ys i no_arrival 0 (omega arith)) in (
        map_same_places (λ (a : Arrival). a.time) (λ (a : Arrival). a.time) xs ys no_arrival no_arrival long (λ i h. (same i h).0),
        map_same_places (λ (a : Arrival). (call_at n a.call).line) (λ (a : Arrival). (call_at n a.call).line) xs ys no_arrival no_arrival long
            (λ i h. (same i h).1),
        long,
      )

-- ---- what its rows hold

-- Both are as long as the board
pub length_times : (list : List Arrival) → length (times list) ≡ length list
unfolding times
length_times list = length-map list (λ (a : Arrival). a.time)

pub length_lines : (n : Net) (list : List Arrival) → length (lines n list) ≡ length list
unfolding lines
length_lines n list = length-map list (λ (a : Arrival). (call_at n a.call).line)

module _ {n : Net} (valid : Valid n) (starts : List ℤ) (w : Window) where
  pub times_in_window : All (pos 0) (InWindow w) (times (board n starts w))
  unfolding times
  times_in_window =
      all_map (λ (a : Arrival). a.time) (InWindow w) no_arrival (pos 0) (board n starts w) (λ i h. ((board_is_board valid starts w).no_other i h).1)

  pub lines_stated : All 0 (λ line. line < length n.periods) (lines n (board n starts w))
  unfolding lines
  lines_stated =
      all_map (λ (a : Arrival). (call_at n a.call).line) (λ line. line < length n.periods) no_arrival 0 (board n starts w)
      (λ i h. valid.call_line _ ((board_is_board valid starts w).no_other i h).0.stated)

-- ---- how long it is

pub board_no_minutes : (n : Net) (starts : List ℤ) (stop : ℕ) (from : ℤ) → board n starts (window stop from 0) ≡ []
unfolding board board_from
board_no_minutes n starts stop from = refl

module _ (n : Net) (starts : List ℤ) (stop : ℕ) where
  length_board_at_le : (time : ℤ) → length (board_at n starts stop time) ≤ length (ordered n stop)
  unfolding board_at
  length_board_at_le time =
      omega (
        arith,
        length-map (arriving n starts stop time) (arrival_at time),
        length_keep_le (λ c. arrives n starts time (call_at n c)) (board_calls n stop),
        length_board_calls n stop,
      )

  -- at most so many for each minute
  length_board_from_le : (from : ℤ) (m : ℕ) → length (board_from n starts stop from m) ≤ m * length (ordered n stop)
  unfolding board_from
  length_board_from_le from zero = omega arith
  length_board_from_le from (suc m) =
      omega (
        arith,
        length-append (board_from n starts stop from m) (board_at n starts stop (from +ℤ pos m)),
        length_board_from_le from m,
        length_board_at_le (from +ℤ pos m),
      )

pub board_unserved : (n : Net) (starts : List ℤ) (w : Window) → is_served w.stop n.calls ≡ false → board n starts w ≡ []
unfolding board
board_unserved n starts w e =
    let none : length (ordered n w.stop) ≡ 0 = omega (arith, leb-false 1 (length (ordered n w.stop)) (served_of_length n w.stop ∙ e)) in
    nil_of_length _
    (omega (arith, length_board_from_le n starts w.stop w.from w.minutes, ap (λ (k : ℕ). w.minutes * k) none))

pub board_length_le : {n : Net} → Valid n → (starts : List ℤ) (w : Window) → length (board n starts w) ≤ 32 * w.minutes
unfolding board
board_length_le {n} valid starts w =
    le_trans (length_board_from_le n starts w.stop w.from w.minutes)
    (le_trans (mul-le-mul_left w.minutes (ordered_le_max_at_stop valid w.stop)) (omega arith))

-- ---- two windows side by side

board_from_add : (n : Net) (starts : List ℤ) (stop : ℕ) (from : ℤ) (a b : ℕ)
    → board_from n starts stop from (a + b) ≡ board_from n starts stop from a ++ board_from n starts stop (from +ℤ pos a) b
unfolding board_from
board_from_add n starts stop from a zero = rw add-zero (sym (append-nil _))
board_from_add n starts stop from a (suc b) =
    let together = difference_add (difference from) (difference_pos (a + b)) in
    let apart = difference_add (difference_add (difference from) (difference_pos a)) (difference_pos b) in
    rw add-suc
    (ap₂ ◌++◌ (board_from_add n starts stop from a b) (ap (board_at n starts stop) (eq_of_difference together apart (omega arith)))
    ∙ append_assoc (board_from n starts stop from a) _ _)

pub board_side_by_side : (n : Net) (starts : List ℤ) (stop : ℕ) (from : ℤ) (a b : ℕ)
    → board n starts (window stop from (a + b)) ≡ board n starts (window stop from a) ++ board n starts (window stop (from +ℤ pos a) b)
unfolding board
board_side_by_side = board_from_add

-- ---- all starts moved together (3.4.1)

-- An arrival so many minutes later
abbrev pub later : ℤ → Arrival → Arrival
later k a = record { call = a.call; time = a.time +ℤ k }

module _ {n : Net} (valid : Valid n) (starts : List ℤ) (fits : length starts ≡ length n.periods) (k : ℤ) where
  arrives_moved : (time : ℤ) (c : Call) → c.line < length starts → arrives n (map (λ x. x +ℤ k) starts) (time +ℤ k) c ≡ arrives n starts time c
  unfolding arrives
  arrives_moved time c h =
      let both = difference_sub (difference_add (difference time) (difference k)) (difference_add (difference (arrival_of starts c)) (difference k)) in
      let neither = difference_sub (difference time) (difference (arrival_of starts c)) in
      ap (λ (x : ℤ). eqb (residue x (period_of n c)) 0)
      (ap (λ (a : ℤ). (time +ℤ k) -ℤ a) (arrival_moved starts k c h) ∙ eq_of_difference both neither (omega arith))

  board_at_moved : (stop : ℕ) (time : ℤ) → board_at n (map (λ x. x +ℤ k) starts) stop (time +ℤ k) ≡ map (later k) (board_at n starts stop time)
  unfolding board_at
  board_at_moved stop time =
      ap (map (arrival_at (time +ℤ k)))
      (keep_same _ _ (board_calls n stop)
      (λ c m. arrives_moved time (call_at n c) (omega (arith, valid.call_line c (calls_there_of_member n stop m).stated))))
      ∙ sym (map-map (later k) _ (arriving n starts stop time))

  board_from_moved : (stop : ℕ) (from : ℤ) (m : ℕ)
      → board_from n (map (λ x. x +ℤ k) starts) stop (from +ℤ k) m ≡ map (later k) (board_from n starts stop from m)
  unfolding board_from
  board_from_moved stop from zero = refl
  board_from_moved stop from (suc m) =
      let first = difference_add (difference_add (difference from) (difference k)) (difference_pos m) in
      let last = difference_add (difference_add (difference from) (difference_pos m)) (difference k) in
      ap₂ ◌++◌ (board_from_moved stop from m)
      (ap (board_at n (map (λ x. x +ℤ k) starts) stop) (eq_of_difference first last (omega arith)) ∙ board_at_moved stop (from +ℤ pos m))
      ∙ sym (map-append (later k) (board_from n starts stop from m) (board_at n starts stop (from +ℤ pos m)))

  pub board_moved : (stop : ℕ) (from : ℤ) (minutes : ℕ)
      → board n (map (λ x. x +ℤ k) starts) (window stop (from +ℤ k) minutes) ≡ map (later k) (board n starts (window stop from minutes))
  unfolding board
  board_moved = board_from_moved

  -- .. so that each time moves along and the lines stay
  pub board_rows_moved : (stop : ℕ) (from : ℤ) (minutes : ℕ)
      → (times (board n (map (λ x. x +ℤ k) starts) (window stop (from +ℤ k) minutes)) ≡ map (λ x. x +ℤ k) (times (board n starts (window stop from minutes))))
      × (lines n (board n (map (λ x. x +ℤ k) starts) (window stop (from +ℤ k) minutes)) ≡ lines n (board n starts (window stop from minutes)))
  unfolding times lines
  board_rows_moved stop from minutes =
      let list = board n starts (window stop from minutes) in (
        ap times (board_moved stop from minutes)
            ∙ map-map (λ (a : Arrival). a.time) (later k) list
            ∙ sym (map-map (λ x. x +ℤ k) (λ (a : Arrival). a.time) list),
        ap (lines n) (board_moved stop from minutes) ∙ map-map (λ (a : Arrival). (call_at n a.call).line) (later k) list,
      )
