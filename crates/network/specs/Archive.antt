-- Document 02, A.1: the archive form of a network (its canonical form), lines in order, then calls by line and then stop, all as 43, then 45, with its 56
-- first where the edition isn't 1 (A.6); and what the archive call answers and leaves in the lent row.
use Rattle.std.specs.Prelude.{ℕ, ◌+◌, ◌*◌, ◌/◌, ◌%◌, ◌≡◌, List, [], ◌∷◌, ◌++◌, eqb, leb, length, drop, Result, Ok, Err}
use Rattle.network.specs.declared.Call.{Call}
use Rattle.network.specs.declared.grounds.Refusal.{Refusal}
use Rattle.network.specs.Lists.{pick, joined}
use Rattle.network.specs.Network.{Net, first_edition, with_calls}
use Rattle.network.specs.Tidy.{tidy, how_often}
use Rattle.network.specs.Numbers.{number_of}
use Rattle.network.specs.Reading.{Reading, accepted, refused, Outcome, values, refusal}

-- A number as two bytes, most significant byte first
unfoldable pub word_bytes : ℕ → List ℕ
word_bytes number = number / 256 ∷ number % 256 ∷ []

-- 56 edition; edition 1 is stated by no command
unfoldable pub edition_bytes : ℕ → List ℕ
edition_bytes edition = pick (eqb edition first_edition) [] (0x56 ∷ edition ∷ [])

-- 4C period
unfoldable pub line_bytes : ℕ → List ℕ
line_bytes period = 0x4C ∷ word_bytes period

-- 43 line, stop, offset
unfoldable pub call_bytes : Call → List ℕ
call_bytes c = 0x43 ∷ c.line ∷ c.stop ∷ word_bytes c.offset

-- The file that states a network by these commands alone: its edition, its lines, then its calls in their order, then 45
unfoldable pub file_of : Net → List ℕ
file_of n = edition_bytes n.edition ++ joined line_bytes n.periods ++ joined call_bytes n.calls ++ (0x45 ∷ [])

-- The network with its calls by line, then stop, then offset
unfoldable pub tidied : Net → Net
tidied n = with_calls n (tidy n.calls)

-- The archive form
unfoldable pub archive : Net → List ℕ
archive n = file_of (tidied n)

-- Its length: two bytes for an edition that is stated, 3 for each line, 5 for each call, and 45
unfoldable pub archive_length : Net → ℕ
archive_length n = pick (eqb n.edition first_edition) 0 2 + 3 * length n.periods + 5 * length n.calls + 1

-- Periods and offsets are equal: the same periods line by line, and every call, a line at a stop with an offset, stated as often
pub record SameOffsets (m n : Net) : Type 0 where
  pub same_periods : m.periods ≡ n.periods
  pub same_calls : (c : Call) → how_often c m.calls ≡ how_often c n.calls

-- .. and the edition too: one network (A.6)
pub record SameNetwork (m n : Net) : Type 0 where
  pub same_offsets : SameOffsets m n
  pub same_edition : m.edition ≡ n.edition

-- The archive call's answer: the length of the archive form; or the refusal
unfoldable pub archive_answer : Result ℕ Refusal → Outcome
archive_answer (Ok bytes) = values (bytes ∷ [])
archive_answer (Err r) = refusal (number_of r.reason) r.place

-- What the archive call has to answer, given how long the row is: the file's refusal, then ground 18 where the row is shorter than the archive form,
-- then its length
unfoldable pub archive_outcome : Reading → ℕ → Outcome
archive_outcome (refused number place) row = refusal number place
archive_outcome (accepted n) row = pick (leb (archive_length n) row) (values (archive_length n ∷ [])) (refusal 18 0)

-- What the lent row holds afterwards: the archive form, and behind it what it held; a short row, or one lent with a refused file, is untouched
unfoldable pub archive_row_after : Reading → List ℕ → List ℕ
archive_row_after (refused number place) row = row
archive_row_after (accepted n) row = pick (leb (archive_length n) (length row)) (archive n ++ drop (archive_length n) row) row
