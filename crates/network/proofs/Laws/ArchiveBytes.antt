-- The archive form byte by byte: it is made of parts, 3 bytes for each line and 5 for each call behind the edition, so that a part's place follows from
-- how many stand before it. Assumes nothing.
use Prim.Native.Nat.{ℕ, ◌+◌, ◌*◌, ◌/◌, ◌%◌, ◌<◌}
use mathlib.Core.Path.{◌≡◌, refl, ap, ap₂, ◌∙◌}
use mathlib.Core.List.{List, [], ◌∷◌, ◌++◌, append_assoc}
use native.Mathlib.Nat.{div-add-mod'}
use native.Mathlib.Omega.{arith}
use lib.ListN.{length, get_or, length-append}
use lib.Seq.{get_or_at}
use Rattle.network.specs.Archive.{word_bytes, edition_bytes, line_bytes, call_bytes, file_of, tidied, archive}
use Rattle.network.specs.Lists.{joined}
use Rattle.network.specs.Network.{Net, word}
use Rattle.network.specs.Tidy.{tidy}
use Rattle.network.specs.Valid.{no_call}
use Rattle.network.proofs.Laws.Archive.{edition_bytes_by_first, length_line, length_call}
use Rattle.network.proofs.Laws.Joined.{length_joined, get_d_joined_behind}
use Rattle.network.proofs.Laws.Tidy.{length_tidy}

-- How many bytes state an edition
pub length_edition_by_first : (edition : ℕ) → (edition ≡ 1 → length (edition_bytes edition) ≡ 0) × ((edition ≡ 1 → ⊥) → length (edition_bytes edition) ≡ 2)
length_edition_by_first edition =
    edition_bytes_by_first (λ bytes k. (edition ≡ 1 → length bytes ≡ 0) × ((edition ≡ 1 → ⊥) → length bytes ≡ 2)) edition
    (λ e. (λ _. refl, λ h. absurd (h e))) (λ h. (λ e. absurd (h e), λ _. refl))

-- Two bytes that are a number's make it
word_at : (form : List ℕ) (p number : ℕ) → get_or form p 0 ≡ number / 256 → get_or form (p + 1) 0 ≡ number % 256 → word form p ≡ number
unfolding word
word_at form p number high low = ap₂ (λ (a b : ℕ). a * 256 + b) high low ∙ div-add-mod' number 256

module _ (n : Net) where
  -- the edition, the lines and the calls
  abbrev edition : List ℕ
  edition = edition_bytes n.edition

  abbrev lines : List ℕ
  lines = joined line_bytes n.periods

  abbrev calls : List ℕ
  calls = joined call_bytes (tidy n.calls)

  abbrev calls_from : ℕ
  calls_from = length edition + 3 * length n.periods

  length_before_calls : length (edition ++ lines) ≡ calls_from
  length_before_calls = length-append edition lines ∙ omega (arith, length_joined line_bytes 3 length_line n.periods)

  length_before_end : length (edition ++ lines ++ calls) ≡ calls_from + 5 * length n.calls
  length_before_end =
      length-append (edition ++ lines) calls
      ∙ omega (arith, length_before_calls, length_joined call_bytes 5 length_call (tidy n.calls), length_tidy n.calls)

  line_byte : (i j : ℕ) → i < length n.periods → j < 3
      → get_or (archive n) (length edition + 3 * i + j) 0 ≡ get_or (line_bytes (get_or n.periods i 0)) j 0
  unfolding archive file_of tidied
  line_byte i j h l =
      ap (λ (form : List ℕ). get_or form (length edition + 3 * i + j) 0)
      (append_assoc (edition ++ lines) calls (0x45 ∷ []) ∙ append_assoc edition lines (calls ++ (0x45 ∷ [])))
      ∙ get_d_joined_behind line_bytes 3 length_line 0 edition (length edition) refl n.periods (calls ++ (0x45 ∷ [])) i j h l

  call_byte : (k j : ℕ) → k < length n.calls → j < 5
      → get_or (archive n) (calls_from + 5 * k + j) 0 ≡ get_or (call_bytes (get_or (tidy n.calls) k no_call)) j 0
  unfolding archive file_of tidied
  call_byte k j h l =
      ap (λ (form : List ℕ). get_or form (calls_from + 5 * k + j) 0) (append_assoc (edition ++ lines) calls (0x45 ∷ []))
      ∙ get_d_joined_behind call_bytes 5 length_call no_call (edition ++ lines) calls_from length_before_calls (tidy n.calls) (0x45 ∷ []) k j
      (omega (arith, h, length_tidy n.calls)) l

  -- 4C and the period
  pub archive_line_bytes : (i : ℕ) → i < length n.periods
      → (get_or (archive n) (length edition + 3 * i) 0 ≡ 0x4C) × (word (archive n) (length edition + 3 * i + 1) ≡ get_or n.periods i 0)
  unfolding line_bytes word_bytes
  archive_line_bytes i h =
      let at = length edition + 3 * i in
      let here : at ≡ at + 0 = omega arith in
      let last : at + 1 + 1 ≡ at + 2 = omega arith in (
        ap (λ (p : ℕ). get_or (archive n) p 0) here ∙ line_byte i 0 h (omega arith),
        word_at (archive n) (at + 1) (get_or n.periods i 0) (line_byte i 1 h (omega arith))
            (ap (λ (p : ℕ). get_or (archive n) p 0) last ∙ line_byte i 2 h (omega arith)),
      )

  -- 43, line, stop and offset
  pub archive_call_bytes : (k : ℕ) → k < length n.calls
      → (get_or (archive n) (calls_from + 5 * k) 0 ≡ 0x43)
      × (get_or (archive n) (calls_from + 5 * k + 1) 0 ≡ (get_or (tidy n.calls) k no_call).line)
      × (get_or (archive n) (calls_from + 5 * k + 2) 0 ≡ (get_or (tidy n.calls) k no_call).stop)
      × (word (archive n) (calls_from + 5 * k + 3) ≡ (get_or (tidy n.calls) k no_call).offset)
  unfolding call_bytes word_bytes
  archive_call_bytes k h =
      let at = calls_from + 5 * k in
      let here : at ≡ at + 0 = omega arith in
      let last : at + 3 + 1 ≡ at + 4 = omega arith in (
        ap (λ (p : ℕ). get_or (archive n) p 0) here ∙ call_byte k 0 h (omega arith),
        call_byte k 1 h (omega arith),
        call_byte k 2 h (omega arith),
        word_at (archive n) (at + 3) (get_or (tidy n.calls) k no_call).offset (call_byte k 3 h (omega arith))
            (ap (λ (p : ℕ). get_or (archive n) p 0) last ∙ call_byte k 4 h (omega arith)),
      )

  pub archive_end_byte : get_or (archive n) (calls_from + 5 * length n.calls) 0 ≡ 0x45
  unfolding archive file_of tidied
  archive_end_byte = get_or_at (edition ++ lines ++ calls) 0x45 [] 0 (calls_from + 5 * length n.calls) length_before_end
