-- A sheet's bytes taken apart: the starts stand at every fourth byte, a sheet of bytes fits a network where its starts do, and so a call on the
-- starts answers what document 01 wants on the bytes. Assumes nothing.
use Prim.Native.Nat.{ℕ, zero, suc, ◌+◌, ◌*◌, ◌-◌, ◌/◌, ◌%◌, ◌<◌, ◌≤◌}
use mathlib.Core.Path.{◌≡◌, refl, ap, ap₂, ◌∙◌}
use mathlib.Core.Bool.{Bool, true, false, ◌&&◌}
use mathlib.Core.List.{List, [], ◌∷◌}
use native.Mathlib.Omega.{arith}
use borrow.Author.Tests.{eqb-true, eqb-false, eq-eqb, ne_eqb, lt-ltb, le-ltb}
use lib.Dec.{eqb, ltb}
use lib.IntN.{ℤ, pos, negsuc, ◌-ℤ◌}
use lib.ListN.{length, get_or, replicate}
use Rattle.network.specs.Lists.{pick}
use Rattle.network.specs.Network.{Net, word}
use Rattle.network.specs.Rating.{rating}
use Rattle.network.specs.Rating.{Rating}
use Rattle.network.specs.Rate.{on_sheet, rated_on_sheet}
use Rattle.network.specs.GapRow.{gap_row, gap_row_after}
use Rattle.network.specs.Reading.{Reading, accepted, refused, refusal, read_file}
use Rattle.network.specs.Valid.{IsBytes}
use Rattle.network.proofs.Laws.Gaps.{accepted_valid}
use Rattle.network.proofs.Laws.Integers.{difference, difference_pos, difference_sub, eq_of_difference}
use Rattle.examination.specs.Bytes.{signed, starts, bytes_fit, by_bytes, mark_bytes, better_bytes, key_bytes, gap_row_bytes}
use Rattle.examination.specs.ByKey.{beside_key, key_outcome}
use Rattle.examination.specs.Sheets.{fits, better_by, better_of, mark_outcome}
use Rattle.examination.specs.Sheets as sheets
use Rattle.examination.specs.Engine.Taken.{start_at, is_whole, sheet_of}

-- ---- what a number of 32 bits stands for

pub signed_low : (m : ℕ) → m < 2147483648 → signed m ≡ pos m
unfolding signed
signed_low m h = ap (λ (b : Bool). pick b (pos m) (pos m -ℤ pos 4294967296)) (lt-ltb m 2147483648 h)

pub signed_high : (m : ℕ) → 2147483648 ≤ m → m < 4294967296 → signed m ≡ negsuc (4294967295 - m)
unfolding signed
signed_high m h k =
    ap (λ (b : Bool). pick b (pos m) (pos m -ℤ pos 4294967296)) (le-ltb m 2147483648 h)
    ∙ eq_of_difference (difference_sub (difference_pos m) (difference_pos 4294967296)) (difference (negsuc (4294967295 - m))) (omega arith)

-- ---- the starts, place by place

pub length_starts : (bytes : List ℕ) → length (starts bytes) ≡ length bytes / 4
unfolding starts
length_starts [] = refl
length_starts (a ∷ []) = refl
length_starts (a ∷ b ∷ []) = refl
length_starts (a ∷ b ∷ c ∷ []) = refl
length_starts (a ∷ b ∷ c ∷ d ∷ rest) = omega (arith, length_starts rest)

pub length_starts_fit : (bytes : List ℕ) {lines : ℕ} → length bytes ≡ 4 * lines → length (starts bytes) ≡ lines
length_starts_fit bytes e = omega (arith, length_starts bytes, e)

pub start_is_at : (bytes : List ℕ) (i : ℕ) → i * 4 + 3 < length bytes → get_or (starts bytes) i (pos 0) ≡ start_at bytes (i * 4)
unfolding starts start_at word
start_is_at [] i h = absurd (omega arith)
start_is_at (a ∷ []) i h = absurd (omega arith)
start_is_at (a ∷ b ∷ []) i h = absurd (omega arith)
start_is_at (a ∷ b ∷ c ∷ []) i h = absurd (omega arith)
start_is_at (a ∷ b ∷ c ∷ d ∷ rest) zero h = ap signed (omega arith)
start_is_at (a ∷ b ∷ c ∷ d ∷ rest) (suc i) h =
    start_is_at rest i (omega arith) ∙ ap signed same
  where
    behind : (j k : ℕ) → j ≡ suc (suc (suc (suc k))) → get_or (a ∷ b ∷ c ∷ d ∷ rest) j 0 ≡ get_or rest k 0
    behind j k e = ap (λ (m : ℕ). get_or (a ∷ b ∷ c ∷ d ∷ rest) m 0) e

    same : word rest (i * 4) * 65536 + word rest (i * 4 + 2)
        ≡ word (a ∷ b ∷ c ∷ d ∷ rest) (suc i * 4) * 65536 + word (a ∷ b ∷ c ∷ d ∷ rest) (suc i * 4 + 2)
    same =
        omega (
          arith,
          behind (suc i * 4) (i * 4) (omega arith),
          behind (suc i * 4 + 1) (i * 4 + 1) (omega arith),
          behind (suc i * 4 + 2) (i * 4 + 2) (omega arith),
          behind (suc i * 4 + 2 + 1) (i * 4 + 2 + 1) (omega arith),
        )

-- ---- a sheet fits by its bytes where it fits by its starts

and_left : (a b : Bool) → (a && b) ≡ true → a ≡ true
and_left true b e = refl
and_left false b e = e

whole_of_fit : (bytes lines : ℕ) → lines ≤ 16 → bytes ≡ 4 * lines → is_whole bytes ≡ true
unfolding is_whole
whole_of_fit bytes lines h e = rw (eq-eqb (bytes % 4) 0 (omega arith), lt-ltb (bytes / 4) 17 (omega arith)) refl

module _ (n : Net) (few : length n.periods ≤ 16) (bytes : List ℕ) where
  -- bytes that fit are whole starts
  pub sheet_of_fit : bytes_fit n bytes ≡ true → sheet_of bytes ≡ starts bytes
  unfolding bytes_fit sheet_of
  sheet_of_fit e = rw (whole_of_fit (length bytes) (length n.periods) few (eqb-true _ _ e)) refl

  not_fit : (b : Bool) → is_whole (length bytes) ≡ b → (length bytes ≡ 4 * length n.periods → ⊥)
      → length (pick b (starts bytes) (replicate 17 (pos 0))) ≡ length n.periods → ⊥
  unfolding is_whole
  not_fit true w differ e =
      differ (omega (arith, eqb-true (length bytes % 4) 0 (and_left (eqb (length bytes % 4) 0) (ltb (length bytes / 4) 17) w), length_starts bytes, e))
  not_fit false w differ e = omega (arith, few, e)

  pub sheet_of_fits : fits n (sheet_of bytes) ≡ bytes_fit n bytes
  unfolding fits bytes_fit sheet_of
  sheet_of_fits = go (eqb (length bytes) (4 * length n.periods)) refl
    where
      go : (b : Bool) → eqb (length bytes) (4 * length n.periods) ≡ b
          → eqb (length (pick (is_whole (length bytes)) (starts bytes) (replicate 17 (pos 0)))) (length n.periods) ≡ b
      go true e =
          rw (whole_of_fit (length bytes) (length n.periods) few (eqb-true _ _ e))
          (eq-eqb (length (starts bytes)) (length n.periods)
          (omega (arith, length_starts bytes, eqb-true (length bytes) (4 * length n.periods) e)))
      go false e = ne_eqb _ _ (not_fit (is_whole (length bytes)) refl (eqb-false _ _ e))

-- ---- a call on the sheet that the bytes stand for answers what document 01 wants on the bytes

-- .. where it answers the file's refusal first, and 15 at place 0 on a sheet that doesn't fit
module _ {A : Type 0} (call : Reading → List ℤ → A) (refuses : ℕ → ℕ → A)
    (on_refused : (number place : ℕ) (sheet : List ℤ) → call (refused number place) sheet ≡ refuses number place)
    (on_unfit : (n : Net) (sheet : List ℤ) → fits n sheet ≡ false → call (accepted n) sheet ≡ refuses 15 0) where
  on_accepted : (n : Net) → length n.periods ≤ 16 → (bytes : List ℕ)
      → call (accepted n) (sheet_of bytes) ≡ by_bytes call refuses (accepted n) bytes
  unfolding by_bytes
  on_accepted n few bytes = go (bytes_fit n bytes) refl
    where
      go : (b : Bool) → bytes_fit n bytes ≡ b
          → call (accepted n) (sheet_of bytes) ≡ pick b (call (accepted n) (starts bytes)) (refuses 15 0)
      go true e = ap (λ (sheet : List ℤ). call (accepted n) sheet) (sheet_of_fit n few bytes e)
      go false e = on_unfit n (sheet_of bytes) (sheet_of_fits n few bytes ∙ e)

  pub call_on_bytes : (file : List ℕ) → IsBytes file → (bytes : List ℕ)
      → call (read_file file) (sheet_of bytes) ≡ by_bytes call refuses (read_file file) bytes
  unfolding by_bytes
  call_on_bytes file is_bytes bytes = go (read_file file) refl
    where
      go : (read : Reading) → read_file file ≡ read → call read (sheet_of bytes) ≡ by_bytes call refuses read bytes
      go (refused number place) e = on_refused number place (sheet_of bytes)
      go (accepted n) e = on_accepted n (accepted_valid file n is_bytes e).lines bytes

-- Every call on a sheet is such a call, whatever it answers; rate, the weighted rating and mark are
pub on_sheet_on_bytes : {A : Type 0} (answers : Net → List ℤ → A) (refuses : ℕ → ℕ → A) (file : List ℕ) → IsBytes file → (bytes : List ℕ)
    → on_sheet answers refuses (read_file file) (sheet_of bytes) ≡ by_bytes (on_sheet answers refuses) refuses (read_file file) bytes
unfolding on_sheet fits
on_sheet_on_bytes answers refuses =
    call_on_bytes (on_sheet answers refuses) refuses (λ number place sheet. refl)
    (λ n sheet e. ap (λ (b : Bool). pick b (answers n sheet) (refuses 15 0)) e)

pub rated_on_bytes : (rates : Net → List ℤ → Rating) (file : List ℕ) → IsBytes file → (bytes : List ℕ)
    → rated_on_sheet rates (read_file file) (sheet_of bytes) ≡ by_bytes (rated_on_sheet rates) refusal (read_file file) bytes
rated_on_bytes rates = on_sheet_on_bytes _ refusal

-- .. and what the gaps call leaves in its row goes by the sheet as an answer does
pub gap_row_on_bytes : (row : List ℕ) (file : List ℕ) → IsBytes file → (bytes : List ℕ)
    → gap_row_after row (read_file file) (sheet_of bytes) ≡ gap_row_bytes row (read_file file) bytes
unfolding gap_row_after
gap_row_on_bytes row = on_sheet_on_bytes gap_row (λ (number place : ℕ). row)

pub mark_on_bytes : (budget : ℕ) (file : List ℕ) → IsBytes file → (bytes : List ℕ)
    → mark_outcome (read_file file) (sheet_of bytes) budget ≡ mark_bytes budget (read_file file) bytes
unfolding mark_outcome
mark_on_bytes budget = on_sheet_on_bytes _ sheets.refusal

-- Better-of-two on the sheets that the bytes stand for is better-of-two on the bytes
better_of_fit : (n : Net) (one other one' other' : List ℤ) (a b : Bool) → (a ≡ true → one ≡ one') → (b ≡ true → other ≡ other')
    → better_by a b (rating n one) (rating n other) ≡ better_by a b (rating n one') (rating n other')
unfolding better_by
better_of_fit n one other one' other' true true e f = rw (e refl, f refl) refl
better_of_fit n one other one' other' true false e f = refl
better_of_fit n one other one' other' false true e f = refl
better_of_fit n one other one' other' false false e f = refl

pub better_on_bytes : (file : List ℕ) → IsBytes file → (one other : List ℕ)
    → better_of (read_file file) (sheet_of one) (sheet_of other) ≡ better_bytes (read_file file) one other
unfolding better_of better_bytes
better_on_bytes file is_bytes one other = go (read_file file) refl
  where
    go : (read : Reading) → read_file file ≡ read → better_of read (sheet_of one) (sheet_of other) ≡ better_bytes read one other
    go (refused number place) e = refl
    go (accepted n) e =
        let few : length n.periods ≤ 16 = (accepted_valid file n is_bytes e).lines in
        rw (sheet_of_fits n few one, sheet_of_fits n few other)
        (better_of_fit n (sheet_of one) (sheet_of other) (starts one) (starts other) (bytes_fit n one) (bytes_fit n other)
        (sheet_of_fit n few one) (sheet_of_fit n few other))

-- By a key likewise
key_of_fit : (n : Net) (sheet key sheet' key' : List ℤ) (a b : Bool) → (a ≡ true → sheet ≡ sheet') → (b ≡ true → key ≡ key')
    → pick (a && b) (beside_key n sheet key) (refusal 15 0) ≡ pick (a && b) (beside_key n sheet' key') (refusal 15 0)
key_of_fit n sheet key sheet' key' true true e f = ap₂ (beside_key n) (e refl) (f refl)
key_of_fit n sheet key sheet' key' true false e f = refl
key_of_fit n sheet key sheet' key' false b e f = refl

pub key_on_bytes : (file : List ℕ) → IsBytes file → (sheet key : List ℕ)
    → key_outcome (read_file file) (sheet_of sheet) (sheet_of key) ≡ key_bytes (read_file file) sheet key
unfolding key_outcome key_bytes
key_on_bytes file is_bytes sheet key = go (read_file file) refl
  where
    go : (read : Reading) → read_file file ≡ read → key_outcome read (sheet_of sheet) (sheet_of key) ≡ key_bytes read sheet key
    go (refused number place) e = refl
    go (accepted n) e =
        let few : length n.periods ≤ 16 = (accepted_valid file n is_bytes e).lines in
        rw (sheet_of_fits n few sheet, sheet_of_fits n few key)
        (key_of_fit n (sheet_of sheet) (sheet_of key) (starts sheet) (starts key) (bytes_fit n sheet) (bytes_fit n key) (sheet_of_fit n few sheet)
        (sheet_of_fit n few key))
