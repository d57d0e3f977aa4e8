-- Laws of editions: 56 passes at byte 0 alone, so that the edition behind it is the one that opens the file; and in edition 1 every other command is
-- tried by the grounds before A.6, so that a file without 56 is read as before. Each follows from the commands' grounds, place by place from the
-- file's beginning on. Assumes nothing.
use Prim.Native.Nat.{ℕ, zero, suc, ◌+◌, ◌<◌, ◌≤◌}
use mathlib.Core.Path.{◌≡◌, refl, sym, ap, ap₂, ◌∙◌}
use mathlib.Core.Bool.{Bool, true, false}
use mathlib.Core.List.{List, [], ◌∷◌}
use mathlib.Core.Logic.{◌⊎◌, inl, inr, ⊎_elim, ◌↔◌}
use native.Mathlib.Omega.{arith}
use native.Mathlib.Decide.{dec_lt}
use borrow.Author.Tests.{eq-eqb, ne_eqb, eqb-true, lt-ltb, le-ltb}
use lib.Dec.{eqb}
use lib.ListN.{length, get_or, take, drop, length-drop}
use Rattle.network.specs.Grounds.{Check}
use Rattle.network.specs.Grounds.{Passes, Refused}
use Rattle.network.specs.Lists.{pick}
use Rattle.network.specs.Network.{Net, net_with, SoFar, so_far, nothing_read, Command, states_line, calls_by_offset, calls_by_ride, ends, states_edition, unknown}
use Rattle.network.specs.Network.{first_edition, latest_edition, command, operand_bytes, edition_operand, with_line, with_call, extend}
use Rattle.network.specs.Grounds.{Ground, ◌at◌when◌, first, cut_off, edition_unknown, grounds}
use Rattle.network.specs.Reading.{Reading, accepted, refused, proceed, read_from, read_file}
use Rattle.network.specs.Gives.{Reached, start, next, Gives, accepts, refuses}
use Rattle.network.specs.Editions.{opening_edition, Meets, command_before, grounds_before, read_from_before, read_file_before}
use Rattle.network.proofs.Laws.Lists.{zero_ne_one}
use Rattle.network.proofs.Laws.Grounds.{first_hit, first_miss, edition_too_low, edition_too_high, ride_passes, edition_not_end, edition_passes, edition_fits_passes}
use Rattle.network.proofs.Laws.Reading.{passes_operands, proceed_cases, read_onward, read_from_skip, read_file_gives, gives_what_is_read}

-- ---- the byte of 56

pub command_edition : (b : ℕ) → command b ≡ states_edition → b ≡ 0x56
unfolding command
command_edition b e = go (eqb b 0x4C) (eqb b 0x43) (eqb b 0x46) (eqb b 0x45) (eqb b 0x56) (eqb-true b 0x56) e
  where
    go : (l c r n v : Bool) → (v ≡ true → b ≡ 0x56)
        → pick l states_line (pick c calls_by_offset (pick r calls_by_ride (pick n ends (pick v states_edition unknown)))) ≡ states_edition → b ≡ 0x56
    go true c r n v is f = absurd (zero_ne_one (cc))
    go false true r n v is f = absurd (zero_ne_one (cc))
    go false false true n v is f = absurd (zero_ne_one (cc))
    go false false false true v is f = absurd (zero_ne_one (cc))
    go false false false false true is f = is refl
    go false false false false false is f = absurd (zero_ne_one (cc))

-- .. and any other command keeps the edition
others_keep_edition : (c : Command) (f : SoFar) (behind : List ℕ) → (c ≡ states_edition → ⊥) → (extend c f behind).network.edition ≡ f.network.edition
unfolding extend with_line with_call
others_keep_edition states_line f behind h = refl
others_keep_edition calls_by_offset f behind h = refl
others_keep_edition calls_by_ride f behind h = refl
others_keep_edition ends f behind h = refl
others_keep_edition states_edition f behind h = absurd (h refl)
others_keep_edition unknown f behind h = refl

extend_states_edition : (c : Command) (f : SoFar) (behind : List ℕ) → c ≡ states_edition → (extend c f behind).network.edition ≡ edition_operand behind
unfolding extend
extend_states_edition c f behind is = ap (λ (d : Command). (extend d f behind).network.edition) is

edition_or_not : (c : Command) → (c ≡ states_edition) ⊎ (c ≡ states_edition → ⊥)
edition_or_not states_line = inr (λ e. zero_ne_one (cc))
edition_or_not calls_by_offset = inr (λ e. zero_ne_one (cc))
edition_or_not calls_by_ride = inr (λ e. zero_ne_one (cc))
edition_or_not ends = inr (λ e. zero_ne_one (cc))
edition_or_not states_edition = inl refl
edition_or_not unknown = inr (λ e. zero_ne_one (cc))

-- ---- the edition at a place to which reading comes

-- What stands at byte 0 is the file
pub reached_first : {file : List ℕ} {f : SoFar} {p : ℕ} {rest : List ℕ} → Reached file f p rest → p ≡ 0 → rest ≡ file
reached_first start e = refl
reached_first (next r passes h) e = absurd (omega (arith, e))

opening_stated : (b : ℕ) (behind file : List ℕ) → b ∷ behind ≡ file → b ≡ 0x56 → opening_edition file ≡ edition_operand behind
unfolding opening_edition edition_operand
opening_stated b behind file is e =
    ap (λ (l : List ℕ). pick (eqb (get_or l 0 0) 0x56) (get_or l 1 0) first_edition) (sym is)
    ∙ ap (λ (t : Bool). pick t (get_or behind 0 0) first_edition) (eq-eqb b 0x56 e)

opening_unstated : (b : ℕ) (behind file : List ℕ) → b ∷ behind ≡ file → (b ≡ 0x56 → ⊥) → opening_edition file ≡ first_edition
unfolding opening_edition
opening_unstated b behind file is h =
    ap (λ (l : List ℕ). pick (eqb (get_or l 0 0) 0x56) (get_or l 1 0) first_edition) (sym is)
    ∙ ap (λ (t : Bool). pick t (get_or behind 0 0) first_edition) (ne_eqb b 0x56 h)

command_of_56 : (b : ℕ) → b ≡ 0x56 → command b ≡ states_edition
unfolding command
command_of_56 b e = ap command e

-- At byte 0 it is the first, and behind it the one that opens the file ..
abbrev EditionAt : List ℕ → SoFar → ℕ → Type 0
EditionAt file f p = (p ≡ 0 → f.network.edition ≡ first_edition) × (0 < p → f.network.edition ≡ opening_edition file)

abbrev pub IsKnown : ℕ → Type 0
IsKnown edition = (first_edition ≤ edition) × (edition ≤ latest_edition)

known_behind : (c : Command) (f : SoFar) (p : ℕ) (behind : List ℕ) → first (grounds c f p behind) ≡ Passes → IsKnown f.network.edition
    → (c ≡ states_edition) ⊎ (c ≡ states_edition → ⊥) → IsKnown (extend c f behind).network.edition
known_behind c f p behind passes known (inl is) =
    let fits = edition_passes f p behind (ap (λ (d : Command). first (grounds d f p behind)) (sym is) ∙ passes) in
    rw (extend_states_edition c f behind is) (fits.from, fits.to)
known_behind c f p behind passes known (inr other) = rw (others_keep_edition c f behind other) known

module _ {file : List ℕ} where
  -- .. so that, where another command stands, it is that one
  edition_there : {f : SoFar} {p b : ℕ} {behind : List ℕ} → Reached file f p (b ∷ behind) → EditionAt file f p → (command b ≡ states_edition → ⊥)
      → f.network.edition ≡ opening_edition file
  edition_there {p = zero} {b = b} {behind = behind} r (at_first, further) other =
      at_first refl ∙ sym (opening_unstated b behind file (reached_first r refl) (λ e. other (command_of_56 b e)))
  edition_there {p = suc p} r (at_first, further) other = further (omega arith)

  edition_behind : {f : SoFar} {p b : ℕ} {behind : List ℕ} → Reached file f p (b ∷ behind) → EditionAt file f p
      → first (grounds (command b) f p behind) ≡ Passes → (command b ≡ states_edition) ⊎ (command b ≡ states_edition → ⊥)
      → (extend (command b) f behind).network.edition ≡ opening_edition file
  edition_behind {f} {p} {b} {behind} r h passes (inl is) =
      let fits = edition_passes f p behind (ap (λ (c : Command). first (grounds c f p behind)) (sym is) ∙ passes) in
      extend_states_edition (command b) f behind is
      ∙ sym (opening_stated b behind file (reached_first r fits.opens) (command_edition b is))
  edition_behind {f} {p} {b} {behind} r h passes (inr other) = others_keep_edition (command b) f behind other ∙ edition_there r h other

  reached_edition : {f : SoFar} {p : ℕ} {rest : List ℕ} → Reached file f p rest → EditionAt file f p
  reached_edition start = (λ e. refl, λ h. absurd (omega (arith, h)))
  reached_edition (next {b = b} r passes h) =
      (λ e. absurd (omega (arith, e)), λ k. edition_behind r (reached_edition r) passes (edition_or_not (command b)))

  met_edition : {f : SoFar} {p b : ℕ} {behind : List ℕ} → Reached file f p (b ∷ behind) → (command b ≡ states_edition → ⊥)
      → f.network.edition ≡ opening_edition file
  met_edition r other = edition_there r (reached_edition r) other

  -- A file that doesn't begin with 56 stays in the first
  pub first_edition_throughout : {f : SoFar} {p : ℕ} {rest : List ℕ} → (get_or file 0 0 ≡ 0x56 → ⊥) → Reached file f p rest
      → f.network.edition ≡ first_edition
  unfolding opening_edition
  first_edition_throughout {p = zero} h r = (reached_edition r).0 refl
  first_edition_throughout {p = suc p} h r =
      (reached_edition r).1 (omega arith) ∙ ap (λ (t : Bool). pick t (get_or file 1 0) first_edition) (ne_eqb (get_or file 0 0) 0x56 h)

  -- It is known
  pub reached_known : {f : SoFar} {p : ℕ} {rest : List ℕ} → Reached file f p rest → IsKnown f.network.edition
  reached_known start = (omega arith, omega arith)
  reached_known (next {f = f} {p = p} {b = b} {behind = behind} r passes h) =
      known_behind (command b) f p behind passes (reached_known r) (edition_or_not (command b))

-- ---- which editions there are, and the file's first two bytes

pub known_editions : (edition : ℕ) → first_edition ≤ edition → edition ≤ latest_edition → (edition ≡ 1) ⊎ (edition ≡ 2)
known_editions zero low high = absurd (omega (arith, low))
known_editions (suc zero) low high = inl refl
known_editions (suc (suc zero)) low high = inr refl
known_editions (suc (suc (suc edition))) low high = absurd (omega (arith, high))

module _ (edition : ℕ) (later : first_edition < edition) where
  opening_begins : (file : List ℕ) → opening_edition file ≡ edition → take 2 file ≡ 0x56 ∷ edition ∷ []
  unfolding opening_edition
  opening_begins [] e = absurd (omega (arith, e, later))
  opening_begins (a ∷ []) e = go (eqb a 0x56) e
    where
      go : (t : Bool) → pick t 0 first_edition ≡ edition → a ∷ [] ≡ 0x56 ∷ edition ∷ []
      go true i = absurd (omega (arith, i, later))
      go false i = absurd (omega (arith, i, later))
  opening_begins (a ∷ b ∷ rest) e = go (eqb a 0x56) (eqb-true a 0x56) e
    where
      go : (t : Bool) → (t ≡ true → a ≡ 0x56) → pick t b first_edition ≡ edition → a ∷ b ∷ [] ≡ 0x56 ∷ edition ∷ []
      go true is i = ap₂ (λ (x y : ℕ). x ∷ y ∷ []) (is refl) i
      go false is i = absurd (omega (arith, i, later))

  begins_opening : (file : List ℕ) → take 2 file ≡ 0x56 ∷ edition ∷ [] → opening_edition file ≡ edition
  unfolding opening_edition
  begins_opening [] e = absurd (zero_ne_one (cc (e)))
  begins_opening (a ∷ []) e = absurd (zero_ne_one (cc (e)))
  begins_opening (a ∷ b ∷ rest) e =
      let second : b ≡ edition = ap (λ (l : List ℕ). get_or l 1 0) e in
      ap (λ (t : Bool). pick t b first_edition) (eq-eqb a 0x56 (ap (λ (l : List ℕ). get_or l 0 0) e)) ∙ second

  pub opening_exactly : (file : List ℕ) → (opening_edition file ≡ edition) ↔ (take 2 file ≡ 0x56 ∷ edition ∷ [])
  opening_exactly file = (opening_begins file, begins_opening file)

-- ---- the edition of an accepted file

ride_no_edition : (c : Command) → c ≡ calls_by_ride → c ≡ states_edition → ⊥
ride_no_edition c e f = zero_ne_one (cc)

module _ (file : List ℕ) where
  gives_edition : {n : Net} → Gives file (accepted n) → n.edition ≡ opening_edition file
  gives_edition (accepts {b = b} r is passes) = met_edition r (λ states. edition_not_end (sym states ∙ is))

  gives_known : {n : Net} → Gives file (accepted n) → IsKnown n.edition
  gives_known (accepts r is passes) = reached_known r

  module _ {n : Net} (reads : read_file file ≡ accepted n) where
    pub accepted_edition : n.edition ≡ opening_edition file
    accepted_edition = gives_edition (rw reads at (read_file_gives file))

    pub accepted_known : IsKnown n.edition
    accepted_known = gives_known (rw reads at (read_file_gives file))

    -- Each command that is met has passed
    accepted_passes : {f : SoFar} {p b : ℕ} {behind : List ℕ} → Reached file f p (b ∷ behind) → first (grounds (command b) f p behind) ≡ Passes
    accepted_passes {f} {p} {b} {behind} r = go (first (grounds (command b) f p behind)) refl
      where
        go : (k : Check) → first (grounds (command b) f p behind) ≡ k → k ≡ Passes
        go Passes e = refl
        go (Refused number place) e =
            let same : accepted n ≡ refused number place = sym reads ∙ gives_what_is_read (refuses r e) in
            absurd (zero_ne_one (cc (same)))

    -- .. so that 46 is met in the first edition alone
    pub rides_in_first_edition : Meets file calls_by_ride → n.edition ≡ first_edition
    rides_in_first_edition m =
        let passes = ap (λ (c : Command). first (grounds c m.read_so_far m.place m.behind)) (sym m.is_command) ∙ accepted_passes m.comes_there in
        let one = (ride_passes m.read_so_far m.place m.behind passes).2 in
        let there = met_edition m.comes_there (ride_no_edition (command m.byte) m.is_command) in
        omega (arith, accepted_known.0, accepted_edition ∙ sym there, one)

-- ---- in the first edition every other command is tried as before

-- A second ground that doesn't apply may go
first_past : (number place : ℕ) (t : Bool) (m q : ℕ) (u : Bool) (gs : List Ground) → u ≡ false
    → first ((number at place when t) ∷ (m at q when u) ∷ gs) ≡ first ((number at place when t) ∷ gs)
unfolding first
first_past number place true m q u gs e = refl
first_past number place false m q u gs e = rw e refl

pub grounds_as_before : (c : Command) (f : SoFar) (p : ℕ) (behind : List ℕ) → f.network.edition ≡ first_edition → (c ≡ states_edition → ⊥)
    → first (grounds c f p behind) ≡ first (grounds_before c f p behind)
unfolding grounds grounds_before
grounds_as_before states_line f p behind one h = refl
grounds_as_before calls_by_offset f p behind one h = refl
grounds_as_before calls_by_ride f p behind one h =
    first_past _ _ _ _ _ _ _ (le-ltb first_edition f.network.edition (omega (arith, one)))
grounds_as_before ends f p behind one h = refl
grounds_as_before states_edition f p behind one h = absurd (h refl)
grounds_as_before unknown f p behind one h = refl

-- ---- reading as before

read_from_before_skip : (f : SoFar) (p k : ℕ) (bs : List ℕ) → k ≤ length bs → read_from_before f p k bs ≡ read_from_before f (p + k) 0 (drop k bs)
unfolding read_from_before
read_from_before_skip f p zero bs h = ap (λ (q : ℕ). read_from_before f q 0 bs) (omega arith)
read_from_before_skip f p (suc k) [] h = absurd (omega arith)
read_from_before_skip f p (suc k) (b ∷ bs) h =
    read_from_before_skip f (p + 1) k bs (omega arith) ∙ ap (λ (q : ℕ). read_from_before f q 0 (drop k bs)) (omega arith)

command_as_before : (b : ℕ) → (command b ≡ states_edition → ⊥) → command_before b ≡ command b
unfolding command_before command
command_as_before b h = rw (ne_eqb b 0x56 (λ e. h (command_of_56 b e))) refl

unknown_before : (b : ℕ) → command b ≡ states_edition → command_before b ≡ unknown
unfolding command_before
unknown_before b is = ap command_before (command_edition b is)

met_before : (b : ℕ) (f : SoFar) (p : ℕ) (behind : List ℕ) → command b ≡ states_edition → read_from_before f p 0 (b ∷ behind) ≡ refused 2 p
unfolding read_from_before grounds_before first proceed
met_before b f p behind is =
    ap (λ (c : Command). proceed (first (grounds_before c f p behind)) c f (read_from_before (extend c f behind) (p + 1) (operand_bytes c) behind)) (unknown_before b is)

-- A file that was accepted doesn't begin with 56
not_opened : (file : List ℕ) {n : Net} → read_file_before file ≡ accepted n → opening_edition file ≡ first_edition
unfolding read_file_before opening_edition
not_opened [] e = refl
not_opened (b ∷ behind) {n} e =
    ⊎_elim
    (λ is.
    let same : accepted n ≡ refused 2 0 = sym e ∙ met_before b nothing_read 0 behind is in
    absurd (zero_ne_one (cc (same))))
    (λ other. ap (λ (t : Bool). pick t (get_or behind 0 0) first_edition) (ne_eqb b 0x56 (λ i. other (command_of_56 b i)))) (edition_or_not (command b))

module _ (file : List ℕ) where
  -- What is read now is what was read before, or 56 is met, which was ground 2
  abbrev AsBefore : Reading → Reading → Type 0
  AsBefore now before = (now ≡ before) ⊎ (Meets file states_edition × ((q : ℕ) × (before ≡ refused 2 q)))

  module _ (b : ℕ) (f : SoFar) (p : ℕ) (behind : List ℕ) (r : Reached file f p (b ∷ behind)) (one : f.network.edition ≡ first_edition)
      (again : (g : SoFar) (q : ℕ) (rest : List ℕ) → length rest ≤ length behind → Reached file g q rest → g.network.edition ≡ first_edition
      → AsBefore (read_from g q 0 rest) (read_from_before g q 0 rest)) where
    as_before_onward : first (grounds (command b) f p behind) ≡ Passes → (command b ≡ ends → ⊥) → (command b ≡ states_edition → ⊥)
        → AsBefore (read_from (extend (command b) f behind) (p + 1) (operand_bytes (command b)) behind)
        (read_from_before (extend (command b) f behind) (p + 1) (operand_bytes (command b)) behind)
    as_before_onward passes i other =
        let k = operand_bytes (command b) in
        let whole = passes_operands (command b) f p behind passes in
        rw (read_from_skip (extend (command b) f behind) (p + 1) k behind whole, read_from_before_skip (extend (command b) f behind) (p + 1) k behind whole)
        (again _ _ _ (omega (arith, length-drop k behind)) (next r passes i) (others_keep_edition (command b) f behind other ∙ one))

    as_before_step : (command b ≡ states_edition) ⊎ (command b ≡ states_edition → ⊥)
        → AsBefore (read_from f p 0 (b ∷ behind)) (read_from_before f p 0 (b ∷ behind))
    unfolding read_from read_from_before
    as_before_step (inl is) =
        inr (record { read_so_far = f; place = p; byte = b; behind = behind; comes_there = r; is_command = is }, (p, met_before b f p behind is))
    as_before_step (inr other) =
        rw (command_as_before b other, ← grounds_as_before (command b) f p behind one other)
        (proceed_cases
        (λ step. AsBefore (step (read_from (extend (command b) f behind) (p + 1) (operand_bytes (command b)) behind))
        (step (read_from_before (extend (command b) f behind) (p + 1) (operand_bytes (command b)) behind)))
        (first (grounds (command b) f p behind)) (command b) f
        (λ number place e. inl refl)
        (λ i e. inl refl)
        (λ i e. as_before_onward e i other))

  -- By the number of bytes that are left
  as_before_from : (fuel : ℕ) (f : SoFar) (p : ℕ) (rest : List ℕ) → length rest ≤ fuel → Reached file f p rest → f.network.edition ≡ first_edition
      → AsBefore (read_from f p 0 rest) (read_from_before f p 0 rest)
  unfolding read_from read_from_before
  as_before_from zero f p [] h r one = inl refl
  as_before_from zero f p (b ∷ behind) h r one = absurd (omega arith)
  as_before_from (suc fuel) f p [] h r one = inl refl
  as_before_from (suc fuel) f p (b ∷ behind) h r one =
      as_before_step b f p behind r one (λ g q rest l r' one'. as_before_from fuel g q rest (omega (arith, h, l)) r' one') (edition_or_not (command b))

  as_before : AsBefore (read_file file) (read_file_before file)
  unfolding read_file read_file_before
  as_before = as_before_from (length file) nothing_read 0 file (omega arith) start refl

  pub read_as_before : (Meets file states_edition → ⊥) → read_file file ≡ read_file_before file
  read_as_before none = ⊎_elim (λ same. same) (λ w. absurd (none w.0)) as_before

  pub accepted_as_before : {n : Net} → read_file_before file ≡ accepted n → read_file file ≡ accepted n
  accepted_as_before {n} e =
      ⊎_elim (λ same. same ∙ e)
      (λ w.
      let same : accepted n ≡ refused 2 w.1.0 = sym e ∙ w.1.1 in
      absurd (zero_ne_one (cc (same))))
      as_before

  -- .. and was in the first edition
  pub accepted_before_edition : {n : Net} → read_file_before file ≡ accepted n → n.edition ≡ first_edition
  accepted_before_edition {n} e = accepted_edition file (accepted_as_before e) ∙ not_opened file e

-- ---- a known edition that is stated

-- A file that states a known edition is read on behind it
pub read_edition : (edition : ℕ) (rest : List ℕ) → first_edition ≤ edition → edition ≤ latest_edition
    → read_from nothing_read 0 0 (0x56 ∷ edition ∷ rest) ≡ read_from (so_far (net_with edition [] [])) 2 0 rest
unfolding command operand_bytes extend edition_operand
read_edition edition rest low high =
    read_onward 0x56 nothing_read 0 (edition ∷ rest) (so_far (net_with edition [] []))
    (edition_fits_passes nothing_read 0 (edition ∷ rest) (record { operands = omega arith; opens = refl; from = low; to = high })) edition_not_end refl

-- ---- where the grounds of A.6 apply

module _ {file : List ℕ} {f : SoFar} {p : ℕ} {behind : List ℕ} where
  -- 19: in a file that opens with an edition above the first every 46 with its operands, whatever line and stop it names
  pub ride_is_retired : Reached file f p (0x46 ∷ behind) → 4 ≤ length behind → first_edition < opening_edition file → read_file file ≡ refused 19 p
  unfolding command grounds cut_off operand_bytes
  ride_is_retired r whole later =
      let there = met_edition r (ride_no_edition (command 0x46) refl) in
      gives_what_is_read
      (refuses r
      (first_miss _ _ _ _ (le-ltb (length behind) 4 whole)
      ∙ first_hit _ _ _ _ (lt-ltb first_edition f.network.edition (omega (arith, there, later)))))

  -- 20: every 56 with its operand that isn't byte 0, whatever edition it states
  pub edition_is_late : Reached file f p (0x56 ∷ behind) → 1 ≤ length behind → 0 < p → read_file file ≡ refused 20 p
  unfolding command grounds cut_off operand_bytes
  edition_is_late r whole late =
      gives_what_is_read
      (refuses r (first_miss _ _ _ _ (le-ltb (length behind) 1 whole) ∙ first_hit _ _ _ _ (lt-ltb 0 p late)))

-- 21: a file that opens with an edition that isn't known, whatever stands behind it
pub edition_is_unknown : (edition : ℕ) (rest : List ℕ) → (IsKnown edition → ⊥) → read_file (0x56 ∷ edition ∷ rest) ≡ refused 21 0
unfolding command grounds cut_off operand_bytes edition_operand
edition_is_unknown edition rest strange =
    gives_what_is_read
    (refuses start
    (first_miss _ _ _ _ (le-ltb (length (edition ∷ rest)) 1 (omega arith))
    ∙ first_miss _ _ _ _ (le-ltb 0 0 (omega arith))
    ∙ first_hit _ _ _ _ (go (dec_lt edition first_edition) (dec_lt latest_edition edition))))
  where
    go : Dec (edition < first_edition) → Dec (latest_edition < edition) → edition_unknown edition ≡ true
    go (yes low) high = edition_too_low edition low
    go (no not_low) (yes high) = edition_too_high edition high
    go (no not_low) (no not_high) = absurd (strange (omega (arith, not_low), omega (arith, not_high)))
