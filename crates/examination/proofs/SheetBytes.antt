-- The bytes of a sheet mean the integers that they should: every list of integers of 32 bits comes back from its bytes, both ends included, and
-- every row of 4 bytes for each start is a sheet's, since each number below 2^32 is the complement of an integer of 32 bits. Assumes nothing.
use Prim.Native.Nat.{ℕ, suc, ◌+◌, ◌*◌, ◌-◌, ◌/◌, ◌%◌, ◌<◌}
use mathlib.Core.Path.{◌≡◌, refl, sym, ap, ap₂, ◌∙◌}
use mathlib.Core.Bool.{Bool, true, false}
use mathlib.Core.List.{List, [], ◌∷◌}
use native.Mathlib.Omega.{arith}
use borrow.Author.Tests.{ltb-true, ltb-false}
use lib.Dec.{ltb}
use lib.IntN.{ℤ, pos, negsuc}
use lib.ListN.{length, get_or}
use Rattle.network.specs.Valid.{IsBytes}
use Rattle.examination.specs.Bytes.{signed, starts, In32, complement, All32, none, next, bytes_of, IsSheet}
use Rattle.examination.proofs.Laws.Bytes.{signed_low, signed_high, length_starts_fit}

-- ---- A sheet comes back from its bytes

signed_complement : (x : ℤ) → In32 x → signed (complement x) ≡ x
signed_complement (pos m) h = signed_low m h
signed_complement (negsuc m) h = signed_high (4294967295 - m) (omega arith) (omega arith) ∙ ap negsuc (omega arith)

joined : (m : ℕ) → ((m / 16777216 * 256 + m / 65536 % 256) * 256 + m / 256 % 256) * 256 + m % 256 ≡ m
joined m = omega arith

-- Of 32 bits, place by place
pub all32 : (sheet : List ℤ) → ((i : ℕ) → i < length sheet → In32 (get_or sheet i (pos 0))) → All32 sheet
all32 [] each = none
all32 (x ∷ rest) each = next (each 0 (omega arith)) (all32 rest (λ i h. each (suc i) (omega (arith, h))))

pub starts_of_bytes : (sheet : List ℤ) → All32 sheet → starts (bytes_of sheet) ≡ sheet
unfolding starts bytes_of
starts_of_bytes [] none = refl
starts_of_bytes (x ∷ rest) (next h r) =
    ap₂ (λ (y : ℤ) (ys : List ℤ). y ∷ ys) (ap signed (joined (complement x)) ∙ signed_complement x h) (starts_of_bytes rest r)

pub length_bytes_of : (sheet : List ℤ) → length (bytes_of sheet) ≡ 4 * length sheet
unfolding bytes_of
length_bytes_of [] = refl
length_bytes_of (x ∷ rest) = omega (arith, length_bytes_of rest)

-- Both ends, and about 0
pub ends : starts (128 ∷ 0 ∷ 0 ∷ 0 ∷ 127 ∷ 255 ∷ 255 ∷ 255 ∷ 255 ∷ 255 ∷ 255 ∷ 255 ∷ 0 ∷ 0 ∷ 0 ∷ 0 ∷ [])
    ≡ negsuc 2147483647 ∷ pos 2147483647 ∷ negsuc 0 ∷ pos 0 ∷ []
unfolding starts signed
ends = refl

-- Bytes that are lent of a sheet: their starts are the sheet, and they are four for each
pub starts_of_lent : (sheet : List ℤ) {bytes : List ℕ} → bytes ≡ bytes_of sheet → All32 sheet → starts bytes ≡ sheet
starts_of_lent sheet lent in32 = ap starts lent ∙ starts_of_bytes sheet in32

pub length_of_lent : (sheet : List ℤ) {bytes : List ℕ} {lines : ℕ} → bytes ≡ bytes_of sheet → length sheet ≡ lines → length bytes ≡ 4 * lines
length_of_lent sheet lent fit = ap length lent ∙ length_bytes_of sheet ∙ ap (λ (k : ℕ). 4 * k) fit

-- ---- Every row of 4 bytes for each start is a sheet's

-- A number below 2^32 is the complement of what it stands for, which has 32 bits
complement_signed : (m : ℕ) → m < 4294967296 → In32 (signed m) × (complement (signed m) ≡ m)
complement_signed m h = go (ltb m 2147483648) refl
  where
    go : (b : Bool) → ltb m 2147483648 ≡ b → In32 (signed m) × (complement (signed m) ≡ m)
    go true e = let low = ltb-true m 2147483648 e in rw (signed_low m low) (low, refl)
    go false e = let high = ltb-false m 2147483648 e in rw (signed_high m high h) (omega (arith, high), omega (arith, h))

taken_apart : (a b c d : ℕ) → a < 256 → b < 256 → c < 256 → d < 256 → {m : ℕ} → m ≡ ((a * 256 + b) * 256 + c) * 256 + d
    → (m / 16777216 ≡ a) × (m / 65536 % 256 ≡ b) × (m / 256 % 256 ≡ c) × (m % 256 ≡ d)
taken_apart a b c d ha hb hc hd e = (omega arith, omega arith, omega arith, omega arith)

-- The starts of a row have 32 bits each, and these bytes
in32_and_bytes : (bytes : List ℕ) → IsBytes bytes → length bytes % 4 ≡ 0 → All32 (starts bytes) × (bytes ≡ bytes_of (starts bytes))
unfolding starts bytes_of IsBytes
in32_and_bytes [] is e = (none, refl)
in32_and_bytes (a ∷ []) is e = absurd (omega (arith, e))
in32_and_bytes (a ∷ b ∷ []) is e = absurd (omega (arith, e))
in32_and_bytes (a ∷ b ∷ c ∷ []) is e = absurd (omega (arith, e))
in32_and_bytes (a ∷ b ∷ c ∷ d ∷ rest) is e =
    let (in32, same) = complement_signed (((a * 256 + b) * 256 + c) * 256 + d) (omega (arith, is 0, is 1, is 2, is 3)) in
    let (p, q, r, s) = taken_apart a b c d (is 0) (is 1) (is 2) (is 3) same in
    let (others, left) = in32_and_bytes rest (λ i. is (suc (suc (suc (suc i))))) (omega (arith, e)) in
    (next in32 others, sym (rw (p, q, r, s, ← left) refl))

pub bytes_are_a_sheet : {bytes : List ℕ} {k : ℕ} → IsBytes bytes → length bytes ≡ 4 * k → IsSheet k bytes
bytes_are_a_sheet {bytes} is e =
    let (in32, same) = in32_and_bytes bytes is (omega (arith, e)) in (in32, length_starts_fit bytes e, same)

pub sheet_of_bytes : {bytes : List ℕ} {k : ℕ} → IsBytes bytes → length bytes ≡ 4 * k
    → (sheet : List ℤ) × All32 sheet × (length sheet ≡ k) × (bytes ≡ bytes_of sheet)
sheet_of_bytes {bytes} is e = let (in32, one_for_each, same) = bytes_are_a_sheet is e in (starts bytes, in32, one_for_each, same)
