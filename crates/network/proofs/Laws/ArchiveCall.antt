-- The archive call: what the answer and the row are in each case, and when it refuses, both ways: the definitions go by the reading and by one test of
-- the row's length; and what two calls write, since the archive form settles the network and is read back as it. Assumes nothing.
use Prim.Native.Nat.{ℕ, ◌+◌, ◌*◌, ◌≤◌, ◌<◌}
use mathlib.Core.Path.{◌≡◌, refl, sym, ap, ◌∙◌}
use mathlib.Core.Bool.{Bool, true, false}
use mathlib.Core.List.{List, [], ◌∷◌, ◌++◌}
use mathlib.Core.Logic.{◌↔◌}
use native.Mathlib.Omega.{arith}
use borrow.Author.Tests.{le-leb, lt-leb, leb-false}
use lib.Dec.{eqb, leb}
use lib.ListN.{length, take, drop}
use lib.Seq.{take_at}
use Rattle.network.specs.Archive.{tidied, archive, archive_length, SameNetwork, archive_outcome, archive_row_after}
use Rattle.network.specs.Lists.{pick}
use Rattle.network.specs.Network.{Net, first_edition}
use Rattle.network.specs.Reading.{Reading, accepted, refused, Outcome, values, refusal, read_file}
use Rattle.network.specs.Refusals.{Refuses, by_file, after_file, TooShort}
use Rattle.network.specs.Valid.{IsBytes, Valid}
use Rattle.network.proofs.Laws.Archive.{read_archive, archive_tidied, archive_of_same, same_of_archive, length_archive, archive_length_tidied}
use Rattle.network.proofs.Laws.Lists.{zero_ne_one}
use Rattle.network.proofs.Laws.Refusals.{same_refusal}
use Rattle.network.proofs.Laws.Valid.{accepted_valid}

-- An edition, 16 lines and 256 calls at most
pub archive_length_le : {n : Net} → Valid n → archive_length n ≤ 1331
unfolding archive_length
archive_length_le {n} v = go (eqb n.edition first_edition)
  where
    go : (t : Bool) → pick t 0 2 + 3 * length n.periods + 5 * length n.calls + 1 ≤ 1331
    go true = omega (arith, v.lines, v.calls)
    go false = omega (arith, v.lines, v.calls)

-- The answer and the row afterwards
abbrev pub Archived : Reading → List ℕ → Outcome → List ℕ → Type 0
Archived read row answer after = (answer ≡ archive_outcome read (length row)) × (after ≡ archive_row_after read row)

module _ (read : Reading) (row : List ℕ) where
  -- the file is refused
  pub archived_refused : (number place : ℕ) → read ≡ refused number place → Archived read row (refusal number place) row
  unfolding archive_outcome archive_row_after
  archived_refused number place e = rw e (refl, refl)

  -- the row is shorter than the archive form
  pub archived_short : (n : Net) → read ≡ accepted n → length row < archive_length n → Archived read row (refusal 18 0) row
  unfolding archive_outcome archive_row_after
  archived_short n e h = rw (e, lt-leb (archive_length n) (length row) h) (refl, refl)

  pub archived_written : (n : Net) (bytes : ℕ) (after : List ℕ) → read ≡ accepted n → archive_length n ≤ length row → bytes ≡ archive_length n
      → after ≡ archive n ++ drop (archive_length n) row → Archived read row (values (bytes ∷ [])) after
  unfolding archive_outcome archive_row_after
  archived_written n bytes after e h b w = rw (e, le-leb (archive_length n) (length row) h) (ap (λ (k : ℕ). values (k ∷ [])) b, w)

-- ---- when it refuses

module _ (file row : List ℕ) where
  pub archive_refuses : {number place : ℕ} → Refuses file 18 (TooShort row) number place → archive_outcome (read_file file) (length row) ≡ refusal number place
  unfolding archive_outcome
  archive_refuses (by_file e) = ap (λ (k : Reading). archive_outcome k (length row)) e
  archive_refuses (after_file {n = n} e short) =
      ap (λ (k : Reading). archive_outcome k (length row)) e
      ∙ ap (λ (t : Bool). pick t (values (archive_length n ∷ [])) (refusal 18 0)) (lt-leb (archive_length n) (length row) short)

  -- A refusal is by the file or by the row, and leaves the row
  archive_refused : {number place : ℕ} → (read : Reading) → read_file file ≡ read → archive_outcome read (length row) ≡ refusal number place
      → Refuses file 18 (TooShort row) number place × (archive_row_after read row ≡ row)
  unfolding archive_outcome archive_row_after
  archive_refused (refused number' place') e h = (by_file (e ∙ same_refusal h), refl)
  archive_refused {number} {place} (accepted n) e h = at (leb (archive_length n) (length row)) refl h
    where
      at : (b : Bool) → leb (archive_length n) (length row) ≡ b → pick b (values (archive_length n ∷ [])) (refusal 18 0) ≡ refusal number place
          → Refuses file 18 (TooShort row) number place × (pick b (archive n ++ drop (archive_length n) row) row ≡ row)
      at true f g = absurd (zero_ne_one (cc))
      at false f g =
          let number_is : 18 ≡ number = cc in
          let place_is : 0 ≡ place = cc in
          (rw (← number_is, ← place_is) (after_file e (leb-false (archive_length n) (length row) f)), refl)

  module _ {number place : ℕ} (h : archive_outcome (read_file file) (length row) ≡ refusal number place) where
    pub archive_refuses_only : Refuses file 18 (TooShort row) number place
    archive_refuses_only = (archive_refused (read_file file) refl h).0

    pub archive_row_as_found : archive_row_after (read_file file) row ≡ row
    archive_row_as_found = (archive_refused (read_file file) refl h).1

  -- An answer is at most 1,331 bytes long
  pub archive_answer_le : IsBytes file → (bytes : ℕ) (others : List ℕ) → archive_outcome (read_file file) (length row) ≡ values (bytes ∷ others) → bytes ≤ 1331
  unfolding archive_outcome
  archive_answer_le is_bytes bytes others = go (read_file file) refl
    where
      longest : (n : Net) → read_file file ≡ accepted n → archive_length n ≤ 1331
      longest n e = archive_length_le (accepted_valid file n is_bytes e)

      at : (n : Net) → read_file file ≡ accepted n → (b : Bool) → pick b (values (archive_length n ∷ [])) (refusal 18 0) ≡ values (bytes ∷ others) → bytes ≤ 1331
      at n e true f = let is : archive_length n ≡ bytes = cc in rw (← is) (longest n e)
      at n e false f = absurd (zero_ne_one (cc))

      go : (read : Reading) → read_file file ≡ read → archive_outcome read (length row) ≡ values (bytes ∷ others) → bytes ≤ 1331
      go (refused number place) e f = absurd (zero_ne_one (cc))
      go (accepted n) e f = at n e (leb (archive_length n) (length row)) f

  -- A row that is long enough is written
  pub archive_answers : {n : Net} → read_file file ≡ accepted n → archive_length n ≤ length row
      → (archive_outcome (read_file file) (length row) ≡ values (archive_length n ∷ []))
      × (archive_row_after (read_file file) row ≡ archive n ++ drop (archive_length n) row)
  unfolding archive_outcome archive_row_after
  archive_answers {n} e h = rw (e, le-leb (archive_length n) (length row) h) (refl, refl)

  -- .. and has the archive form at its beginning
  pub archive_in_row : {n : Net} → read_file file ≡ accepted n → archive_length n ≤ length row
      → take (archive_length n) (archive_row_after (read_file file) row) ≡ archive n
  archive_in_row {n} e h = ap (take (archive_length n)) (archive_answers e h).1 ∙ take_at (archive n) _ (archive_length n) (length_archive n)

-- ---- two calls

module _ (file row : List ℕ) {m : Net} (is_bytes : IsBytes file) (reads : read_file file ≡ accepted m) (room : archive_length m ≤ length row)
    (file' row' : List ℕ) where
  -- on two files
  pub archive_rows_equal : {n : Net} → IsBytes file' → read_file file' ≡ accepted n → archive_length n ≤ length row'
      → (take (archive_length m) (archive_row_after (read_file file) row) ≡ take (archive_length n) (archive_row_after (read_file file') row')) ↔ SameNetwork m n
  archive_rows_equal {n} is_bytes' reads' room' =
      let one = archive_in_row file row reads room in
      let other = archive_in_row file' row' reads' room' in (
        λ e. same_of_archive (accepted_valid file m is_bytes reads) (accepted_valid file' n is_bytes' reads') (sym one ∙ e ∙ other),
        λ same. one ∙ archive_of_same same ∙ sym other,
      )

  -- on a file and on what the first call wrote
  pub archive_of_written : file' ≡ take (archive_length m) (archive_row_after (read_file file) row) → archive_length m ≤ length row'
      → (archive_outcome (read_file file') (length row') ≡ archive_outcome (read_file file) (length row))
      × (take (archive_length m) (archive_row_after (read_file file') row') ≡ take (archive_length m) (archive_row_after (read_file file) row))
  archive_of_written lent room' =
      let one = archive_in_row file row reads room in
      let reads' = ap read_file (lent ∙ one) ∙ read_archive (accepted_valid file m is_bytes reads) in
      let long = archive_length_tidied m in
      let fits : archive_length (tidied m) ≤ length row' = rw long room' in (
        (archive_answers file' row' reads' fits).0 ∙ ap (λ (k : ℕ). values (k ∷ [])) long ∙ sym (archive_answers file row reads room).0,
        ap (λ (k : ℕ). take k (archive_row_after (read_file file') row')) (sym long) ∙ archive_in_row file' row' reads' fits ∙ archive_tidied m ∙ sym one,
      )
