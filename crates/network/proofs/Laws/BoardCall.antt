-- The board call: what the answer and the rows are in each case, and when it refuses, both ways: the definitions go by the reading and by the call's own
-- grounds in their order. Assumes nothing.
use Prim.Native.Nat.{ℕ, ◌<◌, ◌≤◌}
use mathlib.Core.Path.{◌≡◌, refl, sym, ap, subst, ◌∙◌}
use mathlib.Core.Bool.{Bool, true, false, not, ◌||◌}
use mathlib.Core.List.{List, [], ◌∷◌, ◌++◌}
use mathlib.Core.Logic.{◌⊎◌, inl, inr}
use native.Mathlib.Omega.{arith}
use borrow.Author.Tests.{eq-eqb, ne_eqb, lt-ltb, le-ltb, eqb-true, eqb-false, ltb-true, ltb-false, not-false}
use lib.Dec.{eqb, ltb}
use lib.IntN.{ℤ}
use lib.ListN.{length, drop}
use Rattle.network.specs.Grounds.{Passes, Refused}
use Rattle.network.specs.Lists.{pick}
use Rattle.network.specs.Network.{Net, max_stop}
use Rattle.network.specs.Grounds.{Ground, ◌at◌when◌, first}
use Rattle.network.specs.Reading.{Reading, accepted, refused, Outcome, values, refusal, read_file}
use Rattle.network.specs.Refusals.{BoardRefuses, Fits, Unfit, of_file, of_sheet, of_stop, of_length, of_row}
use Rattle.network.specs.Board.{Window, window, Arrival, board, times, lines, max_minutes, board_grounds, refused_or, board_outcome, time_row_after, line_row_after}
use Rattle.network.specs.Engine.Due.{asked_grounds, too_short, listed_outcome, listed_times, listed_lines}
use Rattle.network.proofs.Laws.Lists.{zero_ne_one, or_left, or_right}
use Rattle.network.proofs.Laws.Grounds.{first_passes, first_append_hit, first_append_miss}
use Rattle.network.proofs.Laws.Refusals.{same_refusal}

-- ---- the call's own grounds: those that need no list, then the rows

module _ (n : Net) (starts : List ℤ) (w : Window) (times lines : ℕ) where
  abbrev asked : List Ground
  asked = asked_grounds (length n.periods) (length starts) w.stop w.minutes

  abbrev rows : List Ground
  rows = (23 at 0 when too_short (board n starts w) times lines) ∷ []

  asked_then_rows : board_grounds n starts w times lines ≡ asked ++ rows
  unfolding board_grounds asked_grounds too_short
  asked_then_rows = refl

  grounds_asked : {number place : ℕ} → first asked ≡ Refused number place → first (board_grounds n starts w times lines) ≡ Refused number place
  grounds_asked {number} {place} e = ap first asked_then_rows ∙ first_append_hit asked rows number place e

  grounds_rows : first asked ≡ Passes → first (board_grounds n starts w times lines) ≡ first rows
  grounds_rows e = ap first asked_then_rows ∙ first_append_miss asked rows e

-- What it says that none of those applies that need no list
pub asked_pass : (lines starts stop minutes : ℕ) → first (asked_grounds lines starts stop minutes) ≡ Passes
    → (starts ≡ lines) × (stop ≤ max_stop) × (minutes ≤ max_minutes)
unfolding asked_grounds
asked_pass lines starts stop minutes e =
    let (fits, then) = first_passes 15 0 (not (eqb starts lines)) _ e in
    let (stated, last) = first_passes 8 0 (ltb max_stop stop) _ then in
    let (within, none) = first_passes 22 0 (ltb max_minutes minutes) _ last in
    (eqb-true starts lines (not-false (eqb starts lines) fits), ltb-false max_stop stop stated, ltb-false max_minutes minutes within)

-- Where the rows alone decide
refused_or_rows : {A : Type 0} (t : Bool) (refuses : ℕ → ℕ → A) (a : A) → refused_or (first ((23 at 0 when t) ∷ [])) refuses a ≡ pick t (refuses 23 0) a
unfolding refused_or first
refused_or_rows true refuses a = refl
refused_or_rows false refuses a = refl

-- ---- the answer and the rows afterwards

abbrev pub Called : Window → Reading → List ℤ → List ℤ → List ℕ → Outcome → List ℤ → List ℕ → Type 0
Called w read starts time_row line_row answer times_after lines_after =
    (answer ≡ board_outcome w (length time_row) (length line_row) read starts)
    × ((times_after ≡ time_row_after w time_row line_row read starts) × (lines_after ≡ line_row_after w time_row line_row read starts))

module _ (w : Window) (read : Reading) (starts : List ℤ) (time_row : List ℤ) (line_row : List ℕ) where
  -- the file is refused
  pub called_refused : {number place : ℕ} → read ≡ refused number place → Called w read starts time_row line_row (refusal number place) time_row line_row
  unfolding board_outcome time_row_after line_row_after
  called_refused e = rw e (refl, (refl, refl))

  module _ {n : Net} (reads : read ≡ accepted n) where
    -- a ground that needs no list applies, such as the sheet's
    pub called_asked : {number place : ℕ} → first (asked_grounds (length n.periods) (length starts) w.stop w.minutes) ≡ Refused number place
        → Called w read starts time_row line_row (refusal number place) time_row line_row
    unfolding board_outcome time_row_after line_row_after refused_or
    called_asked e = rw (reads, grounds_asked n starts w (length time_row) (length line_row) e) (refl, (refl, refl))

    pub called_unfit : Unfit starts n → Called w read starts time_row line_row (refusal 15 0) time_row line_row
    unfolding asked_grounds first
    called_unfit unfit = called_asked (rw (ne_eqb (length starts) (length n.periods) unfit))

    -- none of them does: the rows decide
    pub called_listed : first (asked_grounds (length n.periods) (length starts) w.stop w.minutes) ≡ Passes
        → {answer : Outcome} {times_after : List ℤ} {lines_after : List ℕ} → answer ≡ listed_outcome (board n starts w) (length time_row) (length line_row)
        → times_after ≡ listed_times (board n starts w) time_row line_row → lines_after ≡ listed_lines n (board n starts w) time_row line_row
        → Called w read starts time_row line_row answer times_after lines_after
    unfolding board_outcome time_row_after line_row_after listed_outcome listed_times listed_lines
    called_listed e a t l =
        let decides = grounds_rows n starts w (length time_row) (length line_row) e in
        rw (reads, decides) (a ∙ sym (refused_or_rows short _ _), (t ∙ sym (refused_or_rows short _ _), l ∙ sym (refused_or_rows short _ _)))
      where
        short : Bool
        short = too_short (board n starts w) (length time_row) (length line_row)

-- The same first minute, written otherwise
pub called_from : (stop minutes : ℕ) (x y : ℤ) (read : Reading) (starts time_row : List ℤ) (line_row : List ℕ) (answer : Outcome) (times_after : List ℤ) (lines_after : List ℕ)
    → x ≡ y → Called (window stop x minutes) read starts time_row line_row answer times_after lines_after
    → Called (window stop y minutes) read starts time_row line_row answer times_after lines_after
called_from stop minutes x y read starts time_row line_row answer times_after lines_after e c =
    subst (λ (from : ℤ). Called (window stop from minutes) read starts time_row line_row answer times_after lines_after) e c

-- ---- when it refuses

-- Where none of the grounds applies that need no list
asked_none : (lines starts stop minutes : ℕ) → starts ≡ lines → stop ≤ max_stop → minutes ≤ max_minutes → first (asked_grounds lines starts stop minutes) ≡ Passes
unfolding asked_grounds first
asked_none lines starts stop minutes e low within = rw (eq-eqb starts lines e, le-ltb max_stop stop low, le-ltb max_minutes minutes within)

module _ (file : List ℕ) (sheet : List ℤ) (w : Window) (time_row : List ℤ) (line_row : List ℕ) where
  abbrev answered : Outcome
  answered = board_outcome w (length time_row) (length line_row) (read_file file) sheet

  abbrev Refuses : ℕ → ℕ → Type 0
  Refuses = BoardRefuses file (Fits sheet) sheet w time_row line_row

  by_asked : {n : Net} {number place : ℕ} → read_file file ≡ accepted n
      → first (asked_grounds (length n.periods) (length sheet) w.stop w.minutes) ≡ Refused number place → answered ≡ refusal number place
  by_asked reads e = sym (called_asked w (read_file file) sheet time_row line_row reads e).0

  pub board_refuses : {number place : ℕ} → BoardRefuses file (Fits sheet) sheet w time_row line_row number place → answered ≡ refusal number place
  unfolding asked_grounds first listed_outcome too_short
  board_refuses (of_file e) = sym (called_refused w (read_file file) sheet time_row line_row e).0
  board_refuses (of_sheet {n = n} reads unfit) = by_asked reads (rw (ne_eqb (length sheet) (length n.periods) unfit))
  board_refuses (of_stop {n = n} reads fits high) =
      by_asked reads (rw (eq-eqb (length sheet) (length n.periods) fits, lt-ltb max_stop w.stop high))
  board_refuses (of_length {n = n} reads fits low long) =
      by_asked reads (rw (eq-eqb (length sheet) (length n.periods) fits, le-ltb max_stop w.stop low, lt-ltb max_minutes w.minutes long))
  board_refuses (of_row {n = n} reads fits low within short) =
      sym (called_listed w (read_file file) sheet time_row line_row reads (asked_none _ _ _ _ fits low within) refl refl refl).0
      ∙ ap (λ (t : Bool). pick t (refusal 23 0) (values (length (board n sheet w) ∷ []))) (go short)
    where
      go : (length time_row < length (board n sheet w)) ⊎ (length line_row < length (board n sheet w)) → too_short (board n sheet w) (length time_row) (length line_row) ≡ true
      go (inl h) = or_left _ _ (lt-ltb (length time_row) (length (board n sheet w)) h)
      go (inr h) = or_right (ltb (length time_row) (length (board n sheet w))) _ (lt-ltb (length line_row) (length (board n sheet w)) h)

  -- A refusal is by the file or by the call's own grounds, and leaves both rows
  abbrev Untouched : Reading → Type 0
  Untouched read = (time_row_after w time_row line_row read sheet ≡ time_row) × (line_row_after w time_row line_row read sheet ≡ line_row)

  board_refused : {number place : ℕ} (read : Reading) → read_file file ≡ read → board_outcome w (length time_row) (length line_row) read sheet ≡ refusal number place
      → BoardRefuses file (Fits sheet) sheet w time_row line_row number place × Untouched read
  unfolding board_outcome time_row_after line_row_after board_grounds first refused_or
  board_refused (refused number' place') e h = (of_file (e ∙ same_refusal h), (refl, refl))
  board_refused {number} {place} (accepted n) e h =
      go (eqb (length sheet) (length n.periods)) (ltb max_stop w.stop) (ltb max_minutes w.minutes) (ltb (length time_row) (length list))
      (ltb (length line_row) (length list)) refl refl refl refl refl h
    where
      list : List Arrival
      list = board n sheet w

      -- the grounds by their tests
      tried : Bool → Bool → Bool → Bool → Bool → List Ground
      tried a b c d f = (15 at 0 when not a) ∷ (8 at 0 when b) ∷ (22 at 0 when c) ∷ (23 at 0 when d || f) ∷ []

      named : (a b : ℕ) → Refuses a b → refusal a b ≡ refusal number place → Refuses number place
      named a b r g =
          let number_is : a ≡ number = cc in
          let place_is : b ≡ place = cc in
          rw (← number_is, ← place_is) r

      go : (a b c d f : Bool) → eqb (length sheet) (length n.periods) ≡ a → ltb max_stop w.stop ≡ b → ltb max_minutes w.minutes ≡ c
          → ltb (length time_row) (length list) ≡ d → ltb (length line_row) (length list) ≡ f
          → refused_or (first (tried a b c d f)) refusal (values (length list ∷ [])) ≡ refusal number place
          → Refuses number place
          × ((refused_or (first (tried a b c d f)) (λ number place. time_row) (times list ++ drop (length list) time_row) ≡ time_row)
          × (refused_or (first (tried a b c d f)) (λ number place. line_row) (lines n list ++ drop (length list) line_row) ≡ line_row))
      go false b c d f ea eb ec ed ef g = (named 15 0 (of_sheet e (eqb-false _ _ ea)) g, (refl, refl))
      go true true c d f ea eb ec ed ef g = (named 8 0 (of_stop e (eqb-true _ _ ea) (ltb-true _ _ eb)) g, (refl, refl))
      go true false true d f ea eb ec ed ef g =
          (named 22 0 (of_length e (eqb-true _ _ ea) (ltb-false _ _ eb) (ltb-true _ _ ec)) g, (refl, refl))
      go true false false true f ea eb ec ed ef g =
          (named 23 0 (of_row e (eqb-true _ _ ea) (ltb-false _ _ eb) (ltb-false _ _ ec) (inl (ltb-true _ _ ed))) g, (refl, refl))
      go true false false false true ea eb ec ed ef g =
          (named 23 0 (of_row e (eqb-true _ _ ea) (ltb-false _ _ eb) (ltb-false _ _ ec) (inr (ltb-true _ _ ef))) g, (refl, refl))
      go true false false false false ea eb ec ed ef g = absurd (zero_ne_one (cc))

  module _ {number place : ℕ} (h : answered ≡ refusal number place) where
    pub board_refuses_only : BoardRefuses file (Fits sheet) sheet w time_row line_row number place
    board_refuses_only = (board_refused (read_file file) refl h).0

    pub board_rows_as_found : Untouched (read_file file)
    board_rows_as_found = (board_refused (read_file file) refl h).1

  -- Rows that are long enough are written
  pub board_answers : {n : Net} → read_file file ≡ accepted n → length sheet ≡ length n.periods → w.stop ≤ max_stop → w.minutes ≤ max_minutes
      → length (board n sheet w) ≤ length time_row → length (board n sheet w) ≤ length line_row
      → (answered ≡ values (length (board n sheet w) ∷ []))
      × (time_row_after w time_row line_row (read_file file) sheet ≡ times (board n sheet w) ++ drop (length (board n sheet w)) time_row)
      × (line_row_after w time_row line_row (read_file file) sheet ≡ lines n (board n sheet w) ++ drop (length (board n sheet w)) line_row)
  unfolding board_outcome time_row_after line_row_after board_grounds first refused_or
  board_answers {n} reads fits low within times_fit lines_fit =
      let list = length (board n sheet w) in
      rw (
        reads,
        eq-eqb (length sheet) (length n.periods) fits,
        le-ltb max_stop w.stop low,
        le-ltb max_minutes w.minutes within,
        le-ltb (length time_row) list times_fit,
        le-ltb (length line_row) list lines_fit,
      )
      (refl, refl, refl)

  -- Where none arrives, the answer is 0, and rows of any length, 0 too, stay
  pub board_answers_none : {n : Net} → read_file file ≡ accepted n → length sheet ≡ length n.periods → w.stop ≤ max_stop → w.minutes ≤ max_minutes
      → board n sheet w ≡ []
      → (answered ≡ values (0 ∷ []))
      × (time_row_after w time_row line_row (read_file file) sheet ≡ time_row)
      × (line_row_after w time_row line_row (read_file file) sheet ≡ line_row)
  unfolding times lines
  board_answers_none {n} reads fits low within none =
      let few : length (board n sheet w) ≡ 0 = ap length none in
      let (told, times_are, lines_are) = board_answers reads fits low within (omega (arith, few)) (omega (arith, few)) in (
        told ∙ ap (λ (list : List Arrival). values (length list ∷ [])) none,
        times_are ∙ ap (λ (list : List Arrival). times list ++ drop (length list) time_row) none,
        lines_are ∙ ap (λ (list : List Arrival). lines n list ++ drop (length list) line_row) none,
      )
