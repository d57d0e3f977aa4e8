-- Document 01, "Grounds for refusing, by their origin": when a call refuses, with which number and place; and what the order's first demand
-- asks of a call.
use Rattle.std.specs.Prelude.{ℕ, ◌<◌, ◌≤◌, ◌≡◌, List, ◌⊎◌, ℤ, length}
use Rattle.network.specs.Network.{Net, max_stop, stop_count}
use Rattle.network.specs.Reading.{read_file, accepted, refused}
use Rattle.network.specs.Archive.{archive_length}
use Rattle.network.specs.Board.{Window, board, max_minutes}

-- The grounds of a file's author: document 01's fourteen, and 19 to 21 of document 02, A.6
unfoldable pub OfFile : ℕ → Type 0
OfFile number = ((1 ≤ number) × (number ≤ 14)) ⊎ ((19 ≤ number) × (number ≤ 21))

-- A call on a file and what else is lent to it refuses by the file's own ground, at its place; or, after the file, at place 0, by the call's own
-- ground (15 to 18) where what is lent doesn't fit the file's network
pub data Refuses (file : List ℕ) (ground : ℕ) (unfit : Net → Type 0) : ℕ → ℕ → Type 0 where
  by_file : {number place : ℕ} → read_file file ≡ refused number place → Refuses file ground unfit number place
  after_file : {n : Net} → read_file file ≡ accepted n → unfit n → Refuses file ground unfit ground 0

-- The sheet, or the start row, has one place for each line
abbrev pub Fits : List ℤ → Net → Type 0
Fits row n = length row ≡ length n.periods

-- 15 and 16: it hasn't
abbrev pub Unfit : List ℤ → Net → Type 0
Unfit row n = Fits row n → ⊥

-- 17: class or weight row isn't 64 long
abbrev pub Not64 : List ℕ → List ℕ → Net → Type 0
Not64 classes weights n = (length classes ≡ stop_count → ⊥) ⊎ (length weights ≡ stop_count → ⊥)

-- 18: the row is shorter than the archive form
abbrev pub TooShort : List ℕ → Net → Type 0
TooShort row n = length row < archive_length n

-- The board call refuses by the file's own ground, at its place; or, after the file, at place 0, by the first of its own that applies (document 02, A.7),
-- given when the sheet fits the file's network, and its starts
pub data BoardRefuses (file : List ℕ) (fits : Net → Type 0) (sheet : List ℤ) (w : Window) (time_row : List ℤ) (line_row : List ℕ) : ℕ → ℕ → Type 0 where
  of_file : {number place : ℕ} → read_file file ≡ refused number place → BoardRefuses file fits sheet w time_row line_row number place
  -- 15: the sheet hasn't one start for each line
  of_sheet : {n : Net} → read_file file ≡ accepted n → (fits n → ⊥) → BoardRefuses file fits sheet w time_row line_row 15 0
  -- 8: the stop is above 63
  of_stop : {n : Net} → read_file file ≡ accepted n → fits n → max_stop < w.stop → BoardRefuses file fits sheet w time_row line_row 8 0
  -- 22: the length is above 10,080
  of_length : {n : Net} → read_file file ≡ accepted n → fits n → w.stop ≤ max_stop → max_minutes < w.minutes
      → BoardRefuses file fits sheet w time_row line_row 22 0
  -- 23: a row is shorter than the list
  of_row : {n : Net} → read_file file ≡ accepted n → fits n → w.stop ≤ max_stop → w.minutes ≤ max_minutes
      → (length time_row < length (board n sheet w)) ⊎ (length line_row < length (board n sheet w))
      → BoardRefuses file fits sheet w time_row line_row 23 0

-- Demand 1 of a call that answers so, given when it is to refuse, and with what, and what it is for each lent row to be as it was
pub record Demand1 (answers refuses : ℕ → ℕ → Type 0) (untouched : Type 0) : Type 0 where
  -- faulty input ..
  pub faulty_is_refused : (number place : ℕ) → refuses number place → answers number place
  -- .. and no other gets the refusal number and place that document 01 sets
  pub no_other_is_refused : (number place : ℕ) → answers number place → refuses number place
  -- a refused call leaves each lent row exactly as it found it
  pub rows_as_found : (number place : ℕ) → answers number place → untouched
