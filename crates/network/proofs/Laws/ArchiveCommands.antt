-- Which commands reading the archive form meets: behind its edition reading always comes to a line, a call or the end, since what passes there leads to
-- the next of these. Assumes nothing.
use Prim.Native.Nat.{ℕ}
use mathlib.Core.Path.{◌≡◌, refl, sym, ap, subst, ◌∙◌}
use mathlib.Core.List.{List, [], ◌∷◌, ◌++◌}
use mathlib.Core.Logic.{◌⊎◌, inl, inr, ⊎_elim}
use lib.ListN.{get_or, take, drop}
use Rattle.network.specs.declared.Call.{Call}
use Rattle.network.specs.Archive.{word_bytes, line_bytes, call_bytes, file_of, tidied, archive}
use Rattle.network.specs.Lists.{joined}
use Rattle.network.specs.Network.{Net, first_edition, SoFar, Command, states_line, calls_by_offset, calls_by_ride, ends, states_edition, command, operand_bytes}
use Rattle.network.specs.Gives.{Reached, start, next}
use Rattle.network.specs.Editions.{Meets}
use Rattle.network.specs.Tidy.{tidy}
use Rattle.network.proofs.Laws.Archive.{edition_bytes_by_first}
use Rattle.network.proofs.Laws.Lists.{zero_ne_one}

-- What is left of the file: lines, calls and the end
record Left (rest : List ℕ) : Type 0 where
  lines : List ℕ
  calls : List Call
  is : rest ≡ joined line_bytes lines ++ joined call_bytes calls ++ (0x45 ∷ [])

-- What stands there is one of their commands, and behind one that isn't the end others are left
record LeftBehind (b : ℕ) (behind : List ℕ) : Type 0 where
  one_of : (command b ≡ states_line) ⊎ ((command b ≡ calls_by_offset) ⊎ (command b ≡ ends))
  then_left : (command b ≡ ends → ⊥) → Left (drop (operand_bytes (command b)) behind)

left_behind : (b : ℕ) (behind : List ℕ) (lines : List ℕ) (calls : List Call)
    → b ∷ behind ≡ joined line_bytes lines ++ joined call_bytes calls ++ (0x45 ∷ []) → LeftBehind b behind
unfolding joined line_bytes call_bytes word_bytes command operand_bytes
left_behind b behind (q ∷ lines) calls e =
    let is : b ≡ 0x4C = ap (λ (l : List ℕ). get_or l 0 0) e in
    record {
      one_of = inl (ap command is);
      then_left = λ h.
          record { lines = lines; calls = calls; is = ap (λ (k : ℕ). drop (operand_bytes (command k)) behind) is ∙ ap (drop 3) e };
    }
left_behind b behind [] (d ∷ calls) e =
    let is : b ≡ 0x43 = ap (λ (l : List ℕ). get_or l 0 0) e in
    record {
      one_of = inr (inl (ap command is));
      then_left = λ h.
          record { lines = []; calls = calls; is = ap (λ (k : ℕ). drop (operand_bytes (command k)) behind) is ∙ ap (drop 5) e };
    }
left_behind b behind [] [] e =
    let is : b ≡ 0x45 = ap (λ (l : List ℕ). get_or l 0 0) e in
    record { one_of = inr (inr (ap command is)); then_left = λ h. absurd (h (ap command is)) }

-- The whole form: such a rest, or 56 and the edition before one
abbrev Whole : Net → List ℕ → Type 0
Whole n form = Left form ⊎ ((rest : List ℕ) × (form ≡ 0x56 ∷ n.edition ∷ rest) × Left rest × (n.edition ≡ first_edition → ⊥))

archive_whole : (n : Net) → Whole n (archive n)
unfolding archive file_of tidied
archive_whole n =
    let rest = joined line_bytes n.periods ++ joined call_bytes (tidy n.calls) ++ (0x45 ∷ []) in
    let left : Left rest = record { lines = n.periods; calls = tidy n.calls; is = refl } in
    edition_bytes_by_first (λ bytes k. Whole n (bytes ++ joined line_bytes n.periods ++ joined call_bytes (tidy n.calls) ++ (0x45 ∷ []))) n.edition (λ e. inl left)
    (λ h. inr (rest, refl, left, h))

whole_behind : (n : Net) (b : ℕ) (behind : List ℕ) → (command b ≡ ends → ⊥) → Whole n (b ∷ behind) → Whole n (drop (operand_bytes (command b)) behind)
unfolding command operand_bytes
whole_behind n b behind h (inl left) = inl ((left_behind b behind left.lines left.calls left.is).then_left h)
whole_behind n b behind h (inr (rest, e, left, k)) =
    let is : b ≡ 0x56 = ap (λ (l : List ℕ). get_or l 0 0) e in
    inl (subst Left (sym (ap (λ (c : ℕ). drop (operand_bytes (command c)) behind) is ∙ ap (drop 2) e)) left)

reached_whole : (n : Net) {form : List ℕ} {f : SoFar} {p : ℕ} {rest : List ℕ} → Whole n form → Reached form f p rest → Whole n rest
reached_whole n whole start = whole
reached_whole n whole (next {b = b} {behind = behind} r passes h) = whole_behind n b behind h (reached_whole n whole r)

-- A line, a call, the end, or an edition that isn't the first
whole_meets : (n : Net) (b : ℕ) (behind : List ℕ) → Whole n (b ∷ behind)
    → (command b ≡ states_line) ⊎ ((command b ≡ calls_by_offset) ⊎ ((command b ≡ ends) ⊎ ((command b ≡ states_edition) × (n.edition ≡ first_edition → ⊥))))
unfolding command
whole_meets n b behind (inl left) = ⊎_elim inl (λ o. inr (⊎_elim inl (λ e. inr (inl e)) o)) (left_behind b behind left.lines left.calls left.is).one_of
whole_meets n b behind (inr (rest, e, left, k)) = inr (inr (inr (ap (λ (l : List ℕ). command (get_or l 0 0)) e, k)))

archive_meets : (n : Net) {c : Command} → Meets (archive n) c
    → (c ≡ states_line) ⊎ ((c ≡ calls_by_offset) ⊎ ((c ≡ ends) ⊎ ((c ≡ states_edition) × (n.edition ≡ first_edition → ⊥))))
archive_meets n m =
    rw m.is_command at
    (whole_meets n m.byte m.behind (reached_whole n (archive_whole n) m.comes_there))

pub archive_meets_no_ride : (n : Net) → Meets (archive n) calls_by_ride → ⊥
archive_meets_no_ride n met =
    ⊎_elim (λ e. zero_ne_one (cc))
    (⊎_elim (λ e. zero_ne_one (cc)) (⊎_elim (λ e. zero_ne_one (cc)) (λ (e, h). zero_ne_one (cc)))) (archive_meets n met)

pub archive_meets_no_edition : (n : Net) → n.edition ≡ first_edition → Meets (archive n) states_edition → ⊥
archive_meets_no_edition n one met =
    ⊎_elim (λ e. zero_ne_one (cc))
    (⊎_elim (λ e. zero_ne_one (cc)) (⊎_elim (λ e. zero_ne_one (cc)) (λ (e, h). h one))) (archive_meets n met)

-- Such an edition stands at the beginning
pub archive_opens : (n : Net) → (n.edition ≡ first_edition → ⊥) → take 2 (archive n) ≡ 0x56 ∷ n.edition ∷ []
unfolding archive file_of tidied
archive_opens n h =
    edition_bytes_by_first (λ bytes k. take 2 (bytes ++ joined line_bytes n.periods ++ joined call_bytes (tidy n.calls) ++ (0x45 ∷ [])) ≡ 0x56 ∷ n.edition ∷ []) n.edition
    (λ e. absurd (h e)) (λ k. refl)
