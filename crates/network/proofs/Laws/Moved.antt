-- The same bytes read some places on give the same reading with its places moved, where no 56 opens them; and in another edition the same reading with
-- its network in that one, where no 46 is met either: 20 is the only ground that tests the place, and 19 the only one that tests the edition. Assumes
-- nothing.
use Prim.Native.Nat.{ℕ, zero, suc, ◌+◌, ◌<◌, ◌≤◌}
use mathlib.Core.Path.{◌≡◌, refl, sym, ap, ap₂, ◌∙◌}
use mathlib.Core.Bool.{Bool, true, false, ◌||◌}
use mathlib.Core.List.{List, [], ◌∷◌}
use native.Mathlib.Omega.{arith}
use borrow.Author.Tests.{lt-ltb}
use lib.Dec.{eqb, leb}
use lib.ListN.{length, get_or, drop, length-drop}
use Rattle.network.specs.Grounds.{Check}
use Rattle.network.specs.Grounds.{Passes, Refused}
use Rattle.network.specs.Network.{with_edition, SoFar, so_far, nothing_read, Command, states_line, calls_by_offset, calls_by_ride, ends, states_edition, unknown}
use Rattle.network.specs.Network.{first_edition, cycle, ride_offset, command, operand_bytes, edition_operand, with_line, with_call, extend}
use Rattle.network.specs.Grounds.{Ground, ◌at◌when◌, first, cut_off, edition_unknown, some_line_silent, call_grounds, grounds}
use Rattle.network.specs.Reading.{Reading, accepted, refused, proceed, read_from, read_file}
use Rattle.network.specs.Gives.{Reached, start, next}
use Rattle.network.specs.Editions.{Meets, moved, in_edition}
use Rattle.network.proofs.Laws.Editions.{IsKnown, command_edition, reached_first, read_edition}
use Rattle.network.proofs.Laws.Grounds.{edition_passes}
use Rattle.network.proofs.Laws.Lists.{zero_ne_one}
use Rattle.network.proofs.Laws.Reading.{passes_operands, read_from_skip}

-- ---- the same bytes some places on

-- The same grounds so many places on
move_grounds : ℕ → List Ground → List Ground
move_grounds by [] = []
move_grounds by ((number at place when t) ∷ gs) = (number at by + place when t) ∷ move_grounds by gs

move_check : ℕ → Check → Check
move_check by Passes = Passes
move_check by (Refused number place) = Refused number (by + place)

first_moved : (by : ℕ) (gs : List Ground) → first (move_grounds by gs) ≡ move_check by (first gs)
unfolding first move_grounds move_check
first_moved by [] = refl
first_moved by ((number at place when true) ∷ gs) = refl
first_moved by ((number at place when false) ∷ gs) = first_moved by gs

-- 20 is the only ground that asks for the place
grounds_moved : (by : ℕ) (c : Command) (f : SoFar) (p : ℕ) (behind : List ℕ) → (c ≡ states_edition → 0 < p)
    → grounds c f (by + p) behind ≡ move_grounds by (grounds c f p behind)
unfolding grounds call_grounds move_grounds
grounds_moved by states_line f p behind h = refl
grounds_moved by calls_by_offset f p behind h = refl
grounds_moved by calls_by_ride f p behind h = refl
grounds_moved by ends f p behind h =
    let next_place : by + p + 1 ≡ by + (p + 1) = omega arith in
    ap
    (λ (q : ℕ). (13 at by + p when eqb (length f.network.periods) 0 || some_line_silent f.network) ∷ (14 at q when leb 1 (length behind)) ∷ [])
    next_place
grounds_moved by states_edition f p behind h =
    ap
    (λ (t : Bool).
    (3 at by + p when cut_off states_edition behind) ∷ (20 at by + p when t) ∷ (21 at by + p when edition_unknown (edition_operand behind)) ∷ [])
    (lt-ltb 0 (by + p) (omega (arith, h refl)) ∙ sym (lt-ltb 0 p (h refl)))
grounds_moved by unknown f p behind h = refl

proceed_moved : (by : ℕ) (k : Check) (c : Command) (f : SoFar) (onward : Reading)
    → proceed (move_check by k) c f (moved by onward) ≡ moved by (proceed k c f onward)
unfolding proceed moved move_check
proceed_moved by (Refused number place) c f onward = refl
proceed_moved by Passes states_line f onward = refl
proceed_moved by Passes calls_by_offset f onward = refl
proceed_moved by Passes calls_by_ride f onward = refl
proceed_moved by Passes ends f onward = refl
proceed_moved by Passes states_edition f onward = refl
proceed_moved by Passes unknown f onward = refl

-- No 56 stands at the place, or the place isn't byte 0
abbrev NotOpened : ℕ → ℕ → List ℕ → Type 0
NotOpened p k bs = p + k ≡ 0 → get_or bs 0 0 ≡ 0x56 → ⊥

read_from_moved : (by : ℕ) (f : SoFar) (p k : ℕ) (bs : List ℕ) → NotOpened p k bs → read_from f (by + p) k bs ≡ moved by (read_from f p k bs)
unfolding read_from moved
read_from_moved by f p k [] h = refl
read_from_moved by f p (suc k) (b ∷ behind) h =
    ap (λ (q : ℕ). read_from f q k behind) (omega arith) ∙ read_from_moved by f (p + 1) k behind (λ e. absurd (omega (arith, e)))
read_from_moved by f p zero (b ∷ behind) h =
    let c = command b in
    let onward = read_from (extend c f behind) (p + 1) (operand_bytes c) behind in
    ap₂ (λ (k : Check) (m : Reading). proceed k c f m)
    (ap first (grounds_moved by c f p behind (λ is. opened p (command_edition b is) h)) ∙ first_moved by (grounds c f p behind))
    (ap (λ (q : ℕ). read_from (extend c f behind) q (operand_bytes c) behind) (omega arith)
    ∙ read_from_moved by (extend c f behind) (p + 1) (operand_bytes c) behind (λ e. absurd (omega (arith, e))))
    ∙ proceed_moved by (first (grounds c f p behind)) c f onward
  where
    opened : (q : ℕ) → b ≡ 0x56 → NotOpened q 0 (b ∷ behind) → 0 < q
    opened zero e g = absurd (g refl e)
    opened (suc q) e g = omega arith

-- ---- the same bytes in another edition

moved_in_edition : (edition by : ℕ) (read : Reading) → moved by (in_edition edition read) ≡ in_edition edition (moved by read)
unfolding moved in_edition
moved_in_edition edition by (accepted n) = refl
moved_in_edition edition by (refused number place) = refl

-- What has been read, in another edition
abbrev so_far_in : ℕ → SoFar → SoFar
so_far_in edition f = so_far (with_edition f.network edition)

module _ (edition : ℕ) where
  grounds_in_edition : (c : Command) (f : SoFar) (p : ℕ) (behind : List ℕ) → (c ≡ calls_by_ride → ⊥)
      → first (grounds c (so_far_in edition f) p behind) ≡ first (grounds c f p behind)
  unfolding grounds call_grounds some_line_silent cycle
  grounds_in_edition states_line f p behind h = refl
  grounds_in_edition calls_by_offset f p behind h = refl
  grounds_in_edition calls_by_ride f p behind h = absurd (h refl)
  grounds_in_edition ends f p behind h = refl
  grounds_in_edition states_edition f p behind h = refl
  grounds_in_edition unknown f p behind h = refl

  extend_in_edition : (c : Command) (f : SoFar) (behind : List ℕ) → (c ≡ states_edition → ⊥) → extend c (so_far_in edition f) behind ≡ so_far_in edition (extend c f behind)
  unfolding extend with_line with_call ride_offset
  extend_in_edition states_line f behind h = refl
  extend_in_edition calls_by_offset f behind h = refl
  extend_in_edition calls_by_ride f behind h = refl
  extend_in_edition ends f behind h = refl
  extend_in_edition states_edition f behind h = absurd (h refl)
  extend_in_edition unknown f behind h = refl

  -- A command does the same with the readings behind it, where these are the same
  proceed_in_edition : (k : Check) (c : Command) (f : SoFar) (one other : Reading) → (k ≡ Passes → (c ≡ ends → ⊥) → one ≡ in_edition edition other)
      → proceed k c (so_far_in edition f) one ≡ in_edition edition (proceed k c f other)
  unfolding proceed in_edition
  proceed_in_edition (Refused number place) c f one other h = refl
  proceed_in_edition Passes states_line f one other h = h refl (λ e. zero_ne_one (cc))
  proceed_in_edition Passes calls_by_offset f one other h = h refl (λ e. zero_ne_one (cc))
  proceed_in_edition Passes calls_by_ride f one other h = h refl (λ e. zero_ne_one (cc))
  proceed_in_edition Passes ends f one other h = refl
  proceed_in_edition Passes states_edition f one other h = h refl (λ e. zero_ne_one (cc))
  proceed_in_edition Passes unknown f one other h = h refl (λ e. zero_ne_one (cc))

  module _ (file : List ℕ) (unopened : get_or file 0 0 ≡ 0x56 → ⊥) (no_ride : Meets file calls_by_ride → ⊥) where
    -- 56 passes at byte 0 alone, where none stands
    no_edition_passes : {f : SoFar} {p b : ℕ} {behind : List ℕ} → Reached file f p (b ∷ behind) → first (grounds (command b) f p behind) ≡ Passes
        → command b ≡ states_edition → ⊥
    no_edition_passes {f} {p} {b} {behind} r passes is =
        let fits = edition_passes f p behind (ap (λ (c : Command). first (grounds c f p behind)) (sym is) ∙ passes) in
        unopened (ap (λ (l : List ℕ). get_or l 0 0) (sym (reached_first r fits.opens)) ∙ command_edition b is)

    -- By the number of bytes that are left
    read_from_in_edition : (fuel : ℕ) (f : SoFar) (p : ℕ) (rest : List ℕ) → length rest ≤ fuel → Reached file f p rest
        → read_from (so_far_in edition f) p 0 rest ≡ in_edition edition (read_from f p 0 rest)
    unfolding read_from in_edition
    read_from_in_edition zero f p [] h r = refl
    read_from_in_edition zero f p (b ∷ behind) h r = absurd (omega arith)
    read_from_in_edition (suc fuel) f p [] h r = refl
    read_from_in_edition (suc fuel) f p (b ∷ behind) h r =
        let c = command b in
        let k = operand_bytes c in
        let met : c ≡ calls_by_ride → ⊥
        = λ is. no_ride (record { read_so_far = f; place = p; byte = b; behind = behind; comes_there = r; is_command = is }) in
        ap (λ (q : Check). proceed q c (so_far_in edition f) (read_from (extend c (so_far_in edition f) behind) (p + 1) k behind)) (grounds_in_edition c f p behind met)
        ∙ proceed_in_edition (first (grounds c f p behind)) c f _ _
        (λ passes i.
        let whole = passes_operands c f p behind passes in
        ap (λ (g : SoFar). read_from g (p + 1) k behind) (extend_in_edition c f behind (no_edition_passes r passes))
        ∙ read_from_skip (so_far_in edition (extend c f behind)) (p + 1) k behind whole
        ∙ read_from_in_edition fuel (extend c f behind) (p + 1 + k) (drop k behind) (omega (arith, length-drop k behind)) (next r passes i)
        ∙ ap (in_edition edition) (sym (read_from_skip (extend c f behind) (p + 1) k behind whole)))

    -- A known edition before a file without 56 and 46 changes nothing but the places and the edition
    pub edition_stated : IsKnown edition → read_file (0x56 ∷ edition ∷ file) ≡ in_edition edition (moved 2 (read_file file))
    unfolding read_file
    edition_stated (low, high) =
        read_edition edition file low high
        ∙ read_from_moved 2 (so_far_in edition nothing_read) 0 0 file (λ e. unopened)
        ∙ ap (moved 2) (read_from_in_edition (length file) nothing_read 0 file (omega arith) start)
        ∙ moved_in_edition edition 2 (read_from nothing_read 0 0 file)

-- 56 01 before a file that doesn't begin with 56 changes nothing but the places
pub first_edition_stated : (file : List ℕ) → (get_or file 0 0 ≡ 0x56 → ⊥) → read_file (0x56 ∷ first_edition ∷ file) ≡ moved 2 (read_file file)
unfolding read_file
first_edition_stated file h = read_edition first_edition file (omega arith) (omega arith) ∙ read_from_moved 2 nothing_read 0 0 file (λ e. h)
