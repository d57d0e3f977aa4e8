-- Document 01, "Sheets", the host program: a sheet as 4 bytes for each start, two's complement, most significant first; a byte count other
-- than 4×lines is ground 15, after the file's grounds.
use Rattle.std.specs.Prelude.{ℕ, ◌+◌, ◌*◌, ◌-◌, ◌/◌, ◌%◌, ◌<◌, ◌≡◌, Bool, ◌&&◌, List, [], ◌∷◌, ◌⊎◌, eqb, ltb, ℤ, pos, negsuc, ◌-ℤ◌, length}
use Rattle.network.specs.Lists.{pick}
use Rattle.network.specs.Network.{Net}
use Rattle.network.specs.Rating.{rating}
use Rattle.network.specs.Reading.{Reading, accepted, refused, Outcome, refusal}
use Rattle.network.specs.GapRow.{gap_row_after}
use Rattle.network.specs.Board.{Window, board_outcome, time_row_after, line_row_after}
use Rattle.examination.specs.ByKey.{beside_key}
use Rattle.examination.specs.Sheets.{Better, neither, better_by, MarkOutcome, mark_outcome}
use Rattle.examination.specs.Sheets as sheets

-- Two's complement in 32 bits: a number of 2^31 or more stands for itself less 2^32
unfoldable pub signed : ℕ → ℤ
signed m = pick (ltb m 2147483648) (pos m) (pos m -ℤ pos 4294967296)

-- The starts of a sheet, 4 bytes each, most significant first
unfoldable pub starts : List ℕ → List ℤ
starts (a ∷ b ∷ c ∷ d ∷ rest) = signed (((a * 256 + b) * 256 + c) * 256 + d) ∷ starts rest
starts [] = []
starts (a ∷ []) = []
starts (a ∷ b ∷ []) = []
starts (a ∷ b ∷ c ∷ []) = []

-- And back. A number of 32 bits, both ends included: at least -2^31 and below 2^31
abbrev pub In32 : ℤ → Type 0
In32 (pos m) = m < 2147483648
In32 (negsuc m) = m < 2147483648

-- .. as each start of a sheet is
pub data All32 : List ℤ → Type 0 where
  none : All32 []
  next : {x : ℤ} {rest : List ℤ} → In32 x → All32 rest → All32 (x ∷ rest)

-- A number's two's complement in 32 bits: one below 0 stands as itself plus 2^32
abbrev pub complement : ℤ → ℕ
complement (pos m) = m
complement (negsuc m) = 4294967295 - m

-- The bytes of a sheet, those of each start's complement, most significant first
unfoldable pub bytes_of : List ℤ → List ℕ
bytes_of [] = []
bytes_of (x ∷ rest) =
    complement x / 16777216 ∷ complement x / 65536 % 256 ∷ complement x / 256 % 256 ∷ complement x % 256 ∷ bytes_of rest

-- Bytes that are a sheet's, of so many starts: what they mean has 32 bits for each start, and these bytes
abbrev pub IsSheet : ℕ → List ℕ → Type 0
IsSheet lines bytes = All32 (starts bytes) × (length (starts bytes) ≡ lines) × (bytes ≡ bytes_of (starts bytes))

-- There are 4 bytes for each line
unfoldable pub bytes_fit : Net → List ℕ → Bool
bytes_fit n bytes = eqb (length bytes) (4 * length n.periods)

abbrev pub BytesFit : List ℕ → Net → Type 0
BytesFit bytes n = length bytes ≡ 4 * length n.periods

-- 15: there aren't ("Grounds for refusing", of a sheet handed over as bytes)
abbrev pub BytesUnfit : List ℕ → Net → Type 0
BytesUnfit bytes n = BytesFit bytes n → ⊥

-- A call on a file and a sheet, the sheet being handed over as bytes: the file's refusal, then ground 15, then the call's answer on the starts
unfoldable pub by_bytes : {A : Type 0} → (Reading → List ℤ → A) → (ℕ → ℕ → A) → Reading → List ℕ → A
by_bytes call refuses (refused number place) bytes = refuses number place
by_bytes call refuses (accepted n) bytes = pick (bytes_fit n bytes) (call (accepted n) (starts bytes)) (refuses 15 0)

-- Mark, the sheet being handed over as bytes
abbrev pub mark_bytes : ℕ → Reading → List ℕ → MarkOutcome
mark_bytes budget = by_bytes (λ (read : Reading) (sheet : List ℤ). mark_outcome read sheet budget) sheets.refusal

-- Better-of-two, both sheets being handed over as bytes
unfoldable pub better_bytes : Reading → List ℕ → List ℕ → Better
better_bytes (refused number place) one other = neither
better_bytes (accepted n) one other =
    better_by (bytes_fit n one) (bytes_fit n other) (rating n (starts one)) (rating n (starts other))

-- By a key, sheet and key being handed over as bytes
unfoldable pub key_bytes : Reading → List ℕ → List ℕ → Outcome
key_bytes (refused number place) sheet key = refusal number place
key_bytes (accepted n) sheet key =
    pick (bytes_fit n sheet && bytes_fit n key) (beside_key n (starts sheet) (starts key)) (refusal 15 0)

-- 15: there aren't 4 bytes for each line, of the sheet or of the key
abbrev pub EitherBytesUnfit : List ℕ → List ℕ → Net → Type 0
EitherBytesUnfit sheet key n = BytesUnfit sheet n ⊎ BytesUnfit key n

-- The gaps call, the sheet being handed over as bytes: what the row holds afterwards. It answers as rate does
abbrev pub gap_row_bytes : List ℕ → Reading → List ℕ → List ℕ
gap_row_bytes row = by_bytes (gap_row_after row) (λ (number place : ℕ). row)

-- The board of a stop (document 02, A.7), the sheet being handed over as bytes: the answer, and what both rows hold afterwards
abbrev pub board_bytes : Window → ℕ → ℕ → Reading → List ℕ → Outcome
board_bytes w time_row line_row = by_bytes (board_outcome w time_row line_row) refusal

abbrev pub time_row_bytes : Window → List ℤ → List ℕ → Reading → List ℕ → List ℤ
time_row_bytes w time_row line_row = by_bytes (time_row_after w time_row line_row) (λ (number place : ℕ). time_row)

abbrev pub line_row_bytes : Window → List ℤ → List ℕ → Reading → List ℕ → List ℕ
line_row_bytes w time_row line_row = by_bytes (line_row_after w time_row line_row) (λ (number place : ℕ). line_row)
