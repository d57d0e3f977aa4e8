-- What the engine has written of a board at each minute: a minute's arrivals are written behind those before, and what stands behind them stays, so that
-- after the last minute the rows hold the board. Assumes nothing.
use Prim.Native.Nat.{ℕ, zero, suc, ◌+◌, ◌<◌, ◌≤◌}
use mathlib.Core.Path.{◌≡◌, refl, sym, ap, ap₂, subst, ◌∙◌}
use mathlib.Core.Bool.{Bool, true, false}
use mathlib.Core.List.{List, [], ◌∷◌, ◌++◌, map, map-append, append-nil, append_assoc}
use mathlib.Core.Logic.{◌⊎◌, inl, inr}
use native.Mathlib.Nat.{le_refl, le_antisymm, le_of_suc-le-suc, eq-or-lt_of_le}
use native.Mathlib.Numerals.{add-one}
use native.Mathlib.Omega.{arith}
use borrow.Author.Tests.{lt-ltb, le-ltb}
use lib.Dec.{ltb}
use lib.IntN.{ℤ, pos, ◌+ℤ◌, +ℤ_idr}
use lib.ListN.{length, get_or, take, drop, set, length-append, length-map, length-take, length-drop, take-append-drop}
use lib.Seq.{drop-cons, set_at, take_at, drop-append-add, drop-drop}
use Rattle.std.specs.Prelude.{Result, Ok, Err}
use Rattle.network.specs.declared.grounds.Refusal.{Refusal}
use Rattle.network.specs.declared.grounds.Ground.TheVariants.{BoardRowTooShort}
use Rattle.network.specs.Numbers.{number_of, by_ground}
use Rattle.network.specs.Lists.{count_below, below}
use Rattle.network.specs.Network.{Net, max_at_stop}
use Rattle.network.specs.Rating.{period_of}
use Rattle.network.specs.Classes.{ordered, ordered_call}
use Rattle.network.specs.Reading.{values}
use Rattle.network.specs.Board.{Arrival, call_at, board_at, board_from, times, lines, board_answer}
use Rattle.network.specs.Engine.Due.{due_in, one_later, listed_in, Ready, too_short, listed_outcome, listed_times, listed_lines}
use Rattle.network.proofs.Laws.Lists.{or_left, or_right}
use Rattle.network.proofs.Laws.Tables.{count_below_length}
use Rattle.network.proofs.Laws.Integers.{difference, difference_pos, difference_add, eq_of_difference}
use Rattle.network.proofs.Laws.Due.{due_count, due_times, due_lines, ready_next}

-- ---- what is listed in a row from a place on

module _ {A : Type 0} (row : List A) (at : ℕ) (f : ℕ → A) (p : ℕ → Bool) where
  abbrev written : ℕ → List A
  written j = take at row ++ map f (below p j)

  length_written : (j : ℕ) → at ≤ length row → length (written j) ≡ at + count_below p j
  length_written j h =
      length-append (take at row) (map f (below p j)) ∙ omega (arith, length-take at row, length-map (below p j) f, count_below_length p j)

  pub length_listed_in : (j : ℕ) → at + count_below p j ≤ length row → length (listed_in row at f p j) ≡ length row
  unfolding listed_in
  length_listed_in j h =
      length-append (written j) (drop (at + count_below p j) row) ∙ omega (arith, length_written j (omega arith), length-drop (at + count_below p j) row)

  pub listed_in_none : listed_in row at f p 0 ≡ row
  unfolding listed_in below count_below
  listed_in_none =
      let here : at + 0 ≡ at = omega arith in
      ap₂ (λ (l : List A) (k : ℕ). l ++ drop k row) (append-nil (take at row)) here ∙ take-append-drop at row

  -- one number more that doesn't pass, and one that does
  pub listed_in_skip : (j : ℕ) → p j ≡ false → listed_in row at f p (j + 1) ≡ listed_in row at f p j
  unfolding listed_in below count_below
  listed_in_skip j e =
      let same : at + (count_below p j + 0) ≡ at + count_below p j = omega arith in
      rw (add-one j, e, append-nil (below p j)) (ap (λ (k : ℕ). written j ++ drop k row) same)

  pub listed_in_put : (j : ℕ) → p j ≡ true → at + count_below p j < length row
      → set (listed_in row at f p j) (at + count_below p j) (f j) ≡ listed_in row at f p (j + 1)
  unfolding listed_in below count_below
  listed_in_put j e h =
      let to = at + count_below p j in
      let more : suc to ≡ at + (count_below p j + 1) = omega arith in
      rw (add-one j, e)
      (ap (λ (l : List A). set (written j ++ l) to (f j)) (drop-cons row to (f j) h)
      ∙ set_at (written j) (get_or row to (f j)) (drop (suc to) row) (f j) to (length_written j (omega arith))
      ∙ sym (append_assoc (written j) (f j ∷ []) (drop (suc to) row))
      ∙ ap₂ (λ (l : List A) (k : ℕ). l ++ drop k row)
      (append_assoc (take at row) (map f (below p j)) (f j ∷ []) ∙ ap (λ (l : List A). take at row ++ l) (sym (map-append f (below p j) (j ∷ []))))
      more)

-- .. where the row holds something up to there already
pub listed_in_behind : {A : Type 0} (xs row : List A) (at : ℕ) (f : ℕ → A) (p : ℕ → Bool) (j : ℕ) → length xs ≡ at
    → listed_in (xs ++ drop at row) at f p j ≡ xs ++ map f (below p j) ++ drop (at + count_below p j) row
unfolding listed_in
listed_in_behind xs row at f p j e =
    let behind : drop (at + count_below p j) (xs ++ drop at row) ≡ drop (at + count_below p j) row =
    ap (λ (k : ℕ). drop (k + count_below p j) (xs ++ drop at row)) (sym e)
    ∙ drop-append-add xs (drop at row) (count_below p j)
    ∙ drop-drop (count_below p j) at row in
    ap₂ (λ (l r : List _). l ++ map f (below p j) ++ r) (take_at xs (drop at row) at e) behind

-- ---- the rows at a minute

one_minute_more : (from : ℤ) (minute : ℕ) → from +ℤ pos minute +ℤ pos 1 ≡ from +ℤ pos (minute + 1)
one_minute_more from minute =
    eq_of_difference (difference_add (difference_add (difference from) (difference_pos minute)) (difference_pos 1))
    (difference_add (difference from) (difference_pos (minute + 1))) (omega arith)

-- So many minutes are listed
pub record Listed (n : Net) (starts : List ℤ) (stop : ℕ) (from : ℤ) (count : ℕ) (line_of periods since : List ℕ) (time_row : List ℤ) (line_row : List ℕ)
    (time_row_now : List ℤ) (line_row_now : List ℕ) (at minute : ℕ) : Type 0 where
  pub ready : Ready n starts stop (from +ℤ pos minute) count line_of periods since
  pub at_is : at ≡ length (board_from n starts stop from minute)
  pub times_are : time_row_now ≡ times (board_from n starts stop from minute) ++ drop at time_row
  pub lines_are : line_row_now ≡ lines n (board_from n starts stop from minute) ++ drop at line_row

module _ {n : Net} {starts : List ℤ} {stop : ℕ} {from : ℤ} {count : ℕ} {line_of periods : List ℕ} where
  pub listed_none : {since : List ℕ} → Ready n starts stop from count line_of periods since → (time_row : List ℤ) (line_row : List ℕ)
      → Listed n starts stop from count line_of periods since time_row line_row time_row line_row 0 0
  unfolding board_from times lines
  listed_none {since} ready time_row line_row =
      record {
        ready = subst (λ (time : ℤ). Ready n starts stop time count line_of periods since) (sym (+ℤ_idr from)) ready;
        at_is = refl;
        times_are = refl;
        lines_are = refl;
      }

  -- the next minute's arrivals behind them
  pub listed_next : (positive : (j : ℕ) → j < length (ordered n stop) → 0 < period_of n (ordered_call n stop j)) {since later : List ℕ}
      {time_row time_row_now time_row_next : List ℤ} {line_row line_row_now line_row_next : List ℕ} {at next minute : ℕ}
      → Listed n starts stop from count line_of periods since time_row line_row time_row_now line_row_now at minute
      → next ≡ at + count_below (due_in periods since) count
      → time_row_next ≡ listed_in time_row_now at (λ (j : ℕ). from +ℤ pos minute) (due_in periods since) count
      → line_row_next ≡ listed_in line_row_now at (λ (j : ℕ). get_or line_of j 0) (due_in periods since) count
      → length later ≡ max_at_stop
      → ((j : ℕ) → j < count → get_or later j 0 ≡ one_later periods since j)
      → Listed n starts stop from count line_of periods later time_row line_row time_row_next line_row_next next (minute + 1)
  unfolding board_from times lines
  listed_next positive {since} {later} {time_row} {time_row_now} {time_row_next} {line_row} {line_row_now} {line_row_next} {at} {next} {minute} l is times_next lines_next row forward =
      record {
        ready =
            subst (λ (t : ℤ). Ready n starts stop t count line_of periods later) (one_minute_more from minute)
            (ready_next n stop starts time positive l.ready later row forward);
        at_is =
            is
            ∙ ap₂ ◌+◌ l.at_is (due_count n stop starts time positive l.ready)
            ∙ sym (length-append before (board_at n starts stop time))
            ∙ ap (λ (k : ℕ). length (board_from n starts stop from k)) (sym (add-one minute));
        times_are =
            times_next
            ∙ written (λ (a : Arrival). a.time) time_row time_row_now (λ (j : ℕ). time) l.times_are
            (due_times n stop starts time positive l.ready);
        lines_are =
            lines_next
            ∙ written (λ (a : Arrival). (call_at n a.call).line) line_row line_row_now (λ (j : ℕ). get_or line_of j 0) l.lines_are
            (due_lines n stop starts time positive l.ready);
      }
    where
      time : ℤ
      time = from +ℤ pos minute

      before : List Arrival
      before = board_from n starts stop from minute

      due : ℕ → Bool
      due = due_in periods since

      written : {A : Type 0} (f : Arrival → A) (row_before row_now : List A) (g : ℕ → A) → row_now ≡ map f before ++ drop at row_before
          → map g (below due count) ≡ map f (board_at n starts stop time)
          → listed_in row_now at g due count ≡ map f (board_from n starts stop from (minute + 1)) ++ drop next row_before
      written f row_before row_now g e arriving =
          ap (λ (r : List _). listed_in r at g due count) e
          ∙ listed_in_behind (map f before) row_before at g due count (length-map before f ∙ sym l.at_is)
          ∙ ap₂ (λ (r : List _) (k : ℕ). r ++ drop k row_before)
          (ap (λ (r : List _). map f before ++ r) arriving
          ∙ sym (map-append f before (board_at n starts stop time))
          ∙ ap (λ (k : ℕ). map f (board_from n starts stop from k)) (sym (add-one minute)))
          (sym is)

-- ---- the room that is left

-- More minutes have no fewer arrivals
board_from_length_le : (n : Net) (starts : List ℤ) (stop : ℕ) (from : ℤ) (m k : ℕ) → m ≤ k
    → length (board_from n starts stop from m) ≤ length (board_from n starts stop from k)
unfolding board_from
board_from_length_le n starts stop from m zero h = rw (le_antisymm h (omega arith)) (le_refl _)
board_from_length_le n starts stop from m (suc k) h = go (board_from_length_le n starts stop from m k) (eq-or-lt_of_le h)
  where
    one_more : length (board_from n starts stop from k) ≤ length (board_from n starts stop from (suc k))
    one_more = omega (arith, length-append (board_from n starts stop from k) (board_at n starts stop (from +ℤ pos k)))

    go : (m ≤ k → length (board_from n starts stop from m) ≤ length (board_from n starts stop from k)) → (m ≡ suc k) ⊎ (m < suc k)
        → length (board_from n starts stop from m) ≤ length (board_from n starts stop from (suc k))
    go ih (inl e) = rw e (le_refl _)
    go ih (inr l) = omega (arith, ih (le_of_suc-le-suc l), one_more)

module _ {n : Net} {starts : List ℤ} {stop : ℕ} {from : ℤ} {count : ℕ} {line_of periods since : List ℕ} {time_row time_row_now : List ℤ}
    {line_row line_row_now : List ℕ} {at minute : ℕ}
    (l : Listed n starts stop from count line_of periods since time_row line_row time_row_now line_row_now at minute) (minutes : ℕ) (so_far : minute ≤ minutes)
    (times_fit : length (board_from n starts stop from minutes) ≤ length time_row) (lines_fit : length (board_from n starts stop from minutes) ≤ length line_row) where
  fewer : at ≤ length (board_from n starts stop from minutes)
  fewer = omega (arith, l.at_is, board_from_length_le n starts stop from minute minutes so_far)

  -- The rows keep their lengths
  pub length_time_row : length time_row_now ≡ length time_row
  unfolding times
  length_time_row =
      ap length l.times_are
      ∙ length-append (times (board_from n starts stop from minute)) (drop at time_row)
      ∙ omega (
        arith,
        length-map (board_from n starts stop from minute) (λ (a : Arrival). a.time),
        l.at_is,
        length-drop at time_row,
        fewer,
        times_fit,
      )

  pub length_line_row : length line_row_now ≡ length line_row
  unfolding lines
  length_line_row =
      ap length l.lines_are
      ∙ length-append (lines n (board_from n starts stop from minute)) (drop at line_row)
      ∙ omega (
        arith,
        length-map (board_from n starts stop from minute) (λ (a : Arrival). (call_at n a.call).line),
        l.at_is,
        length-drop at line_row,
        fewer,
        lines_fit,
      )

  -- .. and have room for the next minute
  pub room_for_minute : ((j : ℕ) → j < length (ordered n stop) → 0 < period_of n (ordered_call n stop j)) → minute < minutes
      → (at + count_below (due_in periods since) count ≤ length time_row_now) × (at + count_below (due_in periods since) count ≤ length line_row_now)
  unfolding board_from
  room_for_minute positive before =
      let next : at + count_below (due_in periods since) count ≡ length (board_from n starts stop from (suc minute)) =
      ap₂ ◌+◌ l.at_is (due_count n stop starts (from +ℤ pos minute) positive l.ready)
      ∙ sym (length-append (board_from n starts stop from minute) (board_at n starts stop (from +ℤ pos minute))) in
      let within = board_from_length_le n starts stop from (suc minute) minutes before in
      (omega (arith, next, within, times_fit, length_time_row), omega (arith, next, within, lines_fit, length_line_row))

-- ---- rows that are too short, and rows with room

module _ (n : Net) (list : List Arrival) (time_row : List ℤ) (line_row : List ℕ) where
  -- What is answered and left in the rows
  abbrev pub Answered : Result ℕ Refusal → List ℤ → List ℕ → Type 0
  Answered answer times_after lines_after =
      (board_answer answer ≡ listed_outcome list (length time_row) (length line_row))
      × ((times_after ≡ listed_times list time_row line_row) × (lines_after ≡ listed_lines n list time_row line_row))

  short : too_short list (length time_row) (length line_row) ≡ true → Answered (Err (by_ground BoardRowTooShort 0)) time_row line_row
  unfolding board_answer number_of listed_outcome listed_times listed_lines
  short e = rw e (refl, (refl, refl))

  pub short_of_times : length time_row < length list → Answered (Err (by_ground BoardRowTooShort 0)) time_row line_row
  unfolding too_short
  short_of_times h = short (or_left _ _ (lt-ltb (length time_row) (length list) h))

  pub short_of_lines : length line_row < length list → Answered (Err (by_ground BoardRowTooShort 0)) time_row line_row
  unfolding too_short
  short_of_lines h = short (or_right (ltb (length time_row) (length list)) _ (lt-ltb (length line_row) (length list) h))

  pub room_for_both : length list ≤ length time_row → length list ≤ length line_row → {count : ℕ} → count ≡ length list
      → {times_after : List ℤ} {lines_after : List ℕ} → times_after ≡ times list ++ drop (length list) time_row → lines_after ≡ lines n list ++ drop (length list) line_row
      → Answered (Ok count) times_after lines_after
  unfolding board_answer too_short listed_outcome listed_times listed_lines
  room_for_both h k is t l =
      rw (le-ltb (length time_row) (length list) h, le-ltb (length line_row) (length list) k) (ap (λ (m : ℕ). values (m ∷ [])) is, (t, l))
