-- Laws of reading a file: it is read from one command's place to the next, and each command that passes opens the file or makes the network one line
-- or one call longer, which bounds the place. Assumes nothing.
use Prim.Native.Nat.{ℕ, zero, suc, ◌+◌, ◌*◌, ◌≤◌, ◌<◌}
use mathlib.Core.Path.{◌≡◌, refl, sym, ap, ap₂, ◌∙◌, subst}
use mathlib.Core.Bool.{Bool, true, false}
use mathlib.Core.List.{List, [], ◌∷◌, ◌++◌}
use mathlib.Core.Logic.{inl, ⊎_elim}
use native.Mathlib.Omega.{arith}
use lib.Dec.{ltb, leb}
use lib.ListN.{length, get_or, take, drop, length-append, length-take, length-drop}
use lib.Seq.{get_or-take}
use borrow.Author.Tests.{ltb-true, ltb-false, leb-true, leb-false, lt-ltb, le-ltb, le-leb, lt-leb}
use Rattle.network.specs.declared.Call.{Call}
use Rattle.network.specs.Grounds.{Check}
use Rattle.network.specs.Grounds.{Passes, Refused}
use Rattle.network.specs.Network.{Net, SoFar, nothing_read, Command, states_line, calls_by_offset, calls_by_ride, ends, states_edition, unknown}
use Rattle.network.specs.Network.{first_edition, max_lines, max_calls, command, operand_bytes, word, line_operand, stop_operand, edition_operand}
use Rattle.network.specs.Network.{stated_offset, ride_offset, with_edition, with_line, with_call, call_of, with_network, extend}
use Rattle.network.specs.Grounds.{Ground, ◌at◌when◌, first, grounds, call_grounds, cut_off}
use Rattle.network.specs.Reading.{Reading, accepted, refused, proceed, read_from, read_file}
use Rattle.network.specs.Gives.{Reached, start, next, Gives, runs_out, refuses, accepts}
use Rattle.network.specs.Refusals.{OfFile}
use Rattle.network.proofs.Laws.Lists.{zero_ne_one}
use Rattle.network.proofs.Laws.Grounds.{line_passes, offset_passes, ride_passes, edition_passes, AllNamed, first_named, refused_named}

-- The operands of the command before are passed over
pub read_from_skip : (f : SoFar) (p k : ℕ) (bs : List ℕ) → k ≤ length bs → read_from f p k bs ≡ read_from f (p + k) 0 (drop k bs)
unfolding read_from
read_from_skip f p zero bs h = ap (λ (q : ℕ). read_from f q 0 bs) (omega arith)
read_from_skip f p (suc k) [] h = absurd (omega arith)
read_from_skip f p (suc k) (b ∷ bs) h =
    read_from_skip f (p + 1) k bs (omega arith) ∙ ap (λ (q : ℕ). read_from f q 0 (drop k bs)) (omega arith)

-- A command that passes has its operands
pub passes_operands : (c : Command) (f : SoFar) (p : ℕ) (behind : List ℕ) → first (grounds c f p behind) ≡ Passes
    → operand_bytes c ≤ length behind
unfolding grounds operand_bytes
passes_operands states_line f p behind e = (line_passes f p behind e).operands
passes_operands calls_by_offset f p behind e = (offset_passes f p behind e).operands
passes_operands calls_by_ride f p behind e = (ride_passes f p behind e).0.operands
passes_operands ends f p behind e = omega arith
passes_operands states_edition f p behind e = (edition_passes f p behind e).operands
passes_operands unknown f p behind e = omega arith

-- ---- how many lines and calls are stated before a place

pub record Within (f : SoFar) (p : ℕ) : Type 0 where
  pub place : p ≤ 2 + 3 * length f.network.periods + 5 * length f.network.calls
  pub lines : length f.network.periods ≤ max_lines
  pub calls : length f.network.calls ≤ max_calls

within_nothing : Within nothing_read 0
within_nothing = omega arith

within_line : (f : SoFar) (p : ℕ) (period : ℕ) → length f.network.periods < max_lines → Within f p → Within (with_network f (with_line f.network period)) (p + 1 + 2)
unfolding with_line
within_line f p period room r =
    let e : length (f.network.periods ++ (period ∷ [])) ≡ length f.network.periods + 1 = length-append f.network.periods (period ∷ []) in
    record { place = omega arith; lines = omega arith; calls = r.calls }

within_call : (f : SoFar) (p : ℕ) (c : Call) → length f.network.calls < max_calls → Within f p → Within (with_network f (with_call f.network c)) (p + 1 + 4)
unfolding with_call
within_call f p c room r =
    let e : length (f.network.calls ++ (c ∷ [])) ≡ length f.network.calls + 1 = length-append f.network.calls (c ∷ []) in
    record { place = omega arith; lines = r.lines; calls = omega arith }

within_edition : (f : SoFar) (p : ℕ) (edition : ℕ) → p ≡ 0 → Within f p → Within (with_network f (with_edition f.network edition)) (p + 1 + 1)
within_edition f p edition opens r = record { place = omega arith; lines = r.lines; calls = r.calls }

-- The next command's place, behind one that passes
within_next : (c : Command) (f : SoFar) (p : ℕ) (behind : List ℕ) → first (grounds c f p behind) ≡ Passes → (c ≡ ends → ⊥)
    → Within f p → Within (extend c f behind) (p + 1 + operand_bytes c)
unfolding extend grounds operand_bytes first
within_next states_line f p behind e h r = within_line f p _ (line_passes f p behind e).room r
within_next calls_by_offset f p behind e h r = within_call f p _ (offset_passes f p behind e).room r
within_next calls_by_ride f p behind e h r = within_call f p _ (ride_passes f p behind e).0.room r
within_next ends f p behind e h r = absurd (h refl)
within_next states_edition f p behind e h r = within_edition f p _ (edition_passes f p behind e).opens r
within_next unknown f p behind e h r = absurd (zero_ne_one (cc))

-- ---- the places to which the reader comes, and what the file gives

-- What a command does with the reading behind it: nothing, where it refuses or ends, and else it hands it on
pub proceed_cases : (P : (Reading → Reading) → Type 0) (q : Check) (c : Command) (f : SoFar)
    → ((number place : ℕ) → q ≡ Refused number place → P (λ onward. refused number place))
    → (c ≡ ends → q ≡ Passes → P (λ onward. accepted f.network))
    → ((c ≡ ends → ⊥) → q ≡ Passes → P (λ onward. onward))
    → P (proceed q c f)
unfolding proceed
proceed_cases P (Refused number place) c f x y z = x number place refl
proceed_cases P Passes states_line f x y z = z (λ e. zero_ne_one (cc)) refl
proceed_cases P Passes calls_by_offset f x y z = z (λ e. zero_ne_one (cc)) refl
proceed_cases P Passes calls_by_ride f x y z = z (λ e. zero_ne_one (cc)) refl
proceed_cases P Passes ends f x y z = y refl refl
proceed_cases P Passes states_edition f x y z = z (λ e. zero_ne_one (cc)) refl
proceed_cases P Passes unknown f x y z = z (λ e. zero_ne_one (cc)) refl

-- By the number of bytes that are left
gives_from : (file : List ℕ) (fuel : ℕ) (f : SoFar) (p : ℕ) (rest : List ℕ) → length rest ≤ fuel → Reached file f p rest
    → Gives file (read_from f p 0 rest)
unfolding read_from
gives_from file zero f p [] h r = runs_out r
gives_from file zero f p (b ∷ behind) h r = absurd (omega arith)
gives_from file (suc fuel) f p [] h r = runs_out r
gives_from file (suc fuel) f p (b ∷ behind) h r =
    let c : Command = command b in
    let onward : Reading = read_from (extend c f behind) (p + 1) (operand_bytes c) behind in
    let left = length-drop (operand_bytes c) behind in
    proceed_cases (λ step. Gives file (step onward)) (first (grounds c f p behind)) c f
    (λ number place e. refuses r e)
    (λ i e. accepts r i e)
    (λ i e. let whole = passes_operands c f p behind e in rw read_from_skip (gives_from file fuel _ _ _ (omega arith) (next r e i)))

pub read_file_gives : (file : List ℕ) → Gives file (read_file file)
unfolding read_file
read_file_gives file = gives_from file (length file) nothing_read 0 file (omega arith) start

-- ---- what a command's byte says of the whole reading from there on

proceed_onward : (c : Command) (f : SoFar) (onward : Reading) → (c ≡ ends → ⊥) → proceed Passes c f onward ≡ onward
unfolding proceed
proceed_onward states_line f onward h = refl
proceed_onward calls_by_offset f onward h = refl
proceed_onward calls_by_ride f onward h = refl
proceed_onward ends f onward h = absurd (h refl)
proceed_onward states_edition f onward h = refl
proceed_onward unknown f onward h = refl

module _ (b : ℕ) (f : SoFar) (p : ℕ) (behind : List ℕ) where
  onward : Reading
  onward = read_from (extend (command b) f behind) (p + 1) (operand_bytes (command b)) behind

  read_step : (k : Check) → first (grounds (command b) f p behind) ≡ k → read_from f p 0 (b ∷ behind) ≡ proceed k (command b) f onward
  unfolding read_from onward
  read_step k e = ap (λ (k : Check). proceed k (command b) f onward) e

  read_refused : (number place : ℕ) → first (grounds (command b) f p behind) ≡ Refused number place
      → read_from f p 0 (b ∷ behind) ≡ refused number place
  unfolding proceed
  read_refused number place e = read_step (Refused number place) e

  pub read_ended : first (grounds (command b) f p behind) ≡ Passes → command b ≡ ends → read_from f p 0 (b ∷ behind) ≡ accepted f.network
  unfolding proceed
  read_ended e c = read_step Passes e ∙ ap (λ (d : Command). proceed Passes d f onward) c

  pub read_onward : (m : SoFar) → first (grounds (command b) f p behind) ≡ Passes → (command b ≡ ends → ⊥) → m ≡ extend (command b) f behind
      → read_from f p 0 (b ∷ behind) ≡ read_from m (p + 1 + operand_bytes (command b)) 0 (drop (operand_bytes (command b)) behind)
  unfolding onward
  read_onward m e h g =
      read_step Passes e
      ∙ proceed_onward (command b) f onward h
      ∙ ap (λ (k : SoFar). read_from k (p + 1) (operand_bytes (command b)) behind) (sym g)
      ∙ read_from_skip m (p + 1) (operand_bytes (command b)) behind (passes_operands (command b) f p behind e)

-- ---- the relation and what is computed are one

reached_read : {file : List ℕ} {f : SoFar} {p : ℕ} {rest : List ℕ} → Reached file f p rest → read_file file ≡ read_from f p 0 rest
unfolding read_file
reached_read start = refl
reached_read (next {f = f} {p = p} {b = b} {behind = behind} r e h) = reached_read r ∙ read_onward b f p behind _ e h refl

pub gives_what_is_read : {file : List ℕ} {reading : Reading} → Gives file reading → read_file file ≡ reading
unfolding read_from
gives_what_is_read (runs_out r) = reached_read r
gives_what_is_read (refuses {f = f} {p = p} {b = b} {behind = behind} r e) = reached_read r ∙ read_refused b f p behind _ _ e
gives_what_is_read (accepts {f = f} {p = p} {b = b} {behind = behind} r i e) = reached_read r ∙ read_ended b f p behind e i

-- A refusal names no place before one to which reading comes
read_from_not_before : (f : SoFar) (p k : ℕ) (rest : List ℕ) (number place : ℕ) → read_from f p k rest ≡ refused number place → p ≤ place
unfolding read_from
read_from_not_before f p k [] number place e = let same : p ≡ place = cc in omega (arith, same)
read_from_not_before f p (suc k) (b ∷ behind) number place e = omega (arith, read_from_not_before f (p + 1) k behind number place e)
read_from_not_before f p zero (b ∷ behind) number place e =
    let c : Command = command b in
    proceed_cases (λ step. step (read_from (extend c f behind) (p + 1) (operand_bytes c) behind) ≡ refused number place → p ≤ place)
    (first (grounds c f p behind)) c f
    (λ n q i k. let same : q ≡ place = cc (k) in omega (arith, same, refused_named c f p behind n q i))
    (λ i passes k. absurd (zero_ne_one (cc (k))))
    (λ i passes k. omega (arith, read_from_not_before (extend c f behind) (p + 1) (operand_bytes c) behind number place k))
    e

pub reached_not_behind : {file : List ℕ} {f : SoFar} {p : ℕ} {rest : List ℕ} {number place : ℕ} → Reached file f p rest
    → read_file file ≡ refused number place → p ≤ place
reached_not_behind {f = f} {p = p} {rest = rest} r e = read_from_not_before f p 0 rest _ _ (sym (reached_read r) ∙ e)

module _ {file : List ℕ} where
  pub reached_within : {f : SoFar} {p : ℕ} {rest : List ℕ} → Reached file f p rest → Within f p
  reached_within start = within_nothing
  reached_within (next {f = f} {p = p} {b = b} {behind = behind} r e c) =
      within_next (command b) f p behind e c (reached_within r)

-- ---- what a reading tells

-- A refusal's place is at most 2 + 3 * 16 + 5 * 256, or one more by ground 14
gives_named : {file : List ℕ} {number place : ℕ} → Gives file (refused number place) → OfFile number × (place ≤ 1331)
unfolding OfFile
gives_named (runs_out r) = (inl (omega arith), omega (arith, reached_within r))
gives_named {number = number} {place = place} (refuses {f = f} {p = p} {b = b} {behind = behind} r e) =
    let (of_file, low, high) = refused_named (command b) f p behind number place e in (of_file, omega (arith, reached_within r, high))

pub refused_place : (file : List ℕ) (number place : ℕ) → read_file file ≡ refused number place → place ≤ 1331
refused_place file number place e = (gives_named (rw e at (read_file_gives file))).1

pub refused_number : (file : List ℕ) (number place : ℕ) → read_file file ≡ refused number place → OfFile number
refused_number file number place e = (gives_named (rw e at (read_file_gives file))).0

-- .. which is 1 to 21
pub refused_number_range : (file : List ℕ) (number place : ℕ) → read_file file ≡ refused number place → (1 ≤ number) × (number ≤ 21)
unfolding OfFile
refused_number_range file number place e =
    ⊎_elim (λ r. omega (arith, r)) (λ r. omega (arith, r)) (refused_number file number place e)

-- ---- the first 4,096 bytes decide: a command that is read stands at 1,330 or before, and looks at four bytes behind it at most

ltb_take : (m k : ℕ) (l : List ℕ) → k ≤ m → ltb (length (take m l)) k ≡ ltb (length l) k
ltb_take m k l h = go (ltb (length l) k) refl
  where
    go : (t : Bool) → ltb (length l) k ≡ t → ltb (length (take m l)) k ≡ t
    go true e = omega (arith, length-take m l, ltb-true, lt-ltb)
    go false e = omega (arith, length-take m l, ltb-false, le-ltb)

leb_take : (m k : ℕ) (l : List ℕ) → k ≤ m → leb k (length (take m l)) ≡ leb k (length l)
leb_take m k l h = go (leb k (length l)) refl
  where
    go : (t : Bool) → leb k (length l) ≡ t → leb k (length (take m l)) ≡ t
    go true e = omega (arith, length-take m l, leb-true, le-leb)
    go false e = omega (arith, length-take m l, leb-false, lt-leb)

module _ (m : ℕ) (enough : 4 ≤ m) (behind : List ℕ) where
  at_take : (i : ℕ) → i < 4 → get_or (take m behind) i 0 ≡ get_or behind i 0
  at_take i h = get_or-take m behind i 0 (omega arith)

  word_take : (i : ℕ) → i < 3 → word (take m behind) i ≡ word behind i
  unfolding word
  word_take i h = rw (at_take i (omega arith), at_take (i + 1) (omega arith))

  line_take : line_operand (take m behind) ≡ line_operand behind
  unfolding line_operand
  line_take = at_take 0 (omega arith)

  stop_take : stop_operand (take m behind) ≡ stop_operand behind
  unfolding stop_operand
  stop_take = at_take 1 (omega arith)

  edition_take : edition_operand (take m behind) ≡ edition_operand behind
  unfolding edition_operand
  edition_take = at_take 0 (omega arith)

  ride_take : (n : Net) → ride_offset n (take m behind) ≡ ride_offset n behind
  unfolding ride_offset
  ride_take n = rw (line_take, word_take 2 (omega arith))

  extend_take : (c : Command) (f : SoFar) → extend c f (take m behind) ≡ extend c f behind
  unfolding extend call_of stated_offset
  extend_take states_line f = rw (word_take 0 (omega arith))
  extend_take calls_by_offset f = rw (line_take, stop_take, word_take 2 (omega arith))
  extend_take calls_by_ride f = rw (line_take, stop_take, ride_take)
  extend_take ends f = refl
  extend_take states_edition f = rw edition_take
  extend_take unknown f = refl

  cut_off_take : (c : Command) → cut_off c (take m behind) ≡ cut_off c behind
  unfolding cut_off operand_bytes
  cut_off_take states_line = ltb_take m 2 behind (omega arith)
  cut_off_take calls_by_offset = ltb_take m 4 behind enough
  cut_off_take calls_by_ride = ltb_take m 4 behind enough
  cut_off_take ends = ltb_take m 0 behind (omega arith)
  cut_off_take states_edition = ltb_take m 1 behind (omega arith)
  cut_off_take unknown = ltb_take m 0 behind (omega arith)

  call_grounds_take : (f : SoFar) (p : ℕ) → call_grounds f p (take m behind) ≡ call_grounds f p behind
  unfolding call_grounds
  call_grounds_take f p = rw (line_take, stop_take)

  grounds_take : (c : Command) (f : SoFar) (p : ℕ) → grounds c f p (take m behind) ≡ grounds c f p behind
  unfolding grounds
  grounds_take states_line f p = rw (cut_off_take states_line, word_take 0 (omega arith))
  grounds_take calls_by_offset f p = rw (cut_off_take calls_by_offset, call_grounds_take)
  grounds_take calls_by_ride f p = rw (cut_off_take calls_by_ride, call_grounds_take, line_take, ride_take)
  grounds_take ends f p = rw (leb_take m 1 behind (omega arith))
  grounds_take states_edition f p = rw (cut_off_take states_edition, edition_take)
  grounds_take unknown f p = refl

read_from_take : (f : SoFar) (p k m : ℕ) (bs : List ℕ) → Within f (p + k) → 1335 ≤ p + m → read_from f p k (take m bs) ≡ read_from f p k bs
unfolding read_from
read_from_take f p k zero bs r h = absurd (omega arith)
read_from_take f p k (suc m) [] r h = refl
read_from_take f p (suc k) (suc m) (b ∷ bs) r h = read_from_take f (p + 1) k m bs (subst (Within f) (omega arith) r) (omega arith)
read_from_take f p zero (suc m) (b ∷ bs) r h =
    let c : Command = command b in
    let onward : List ℕ → Reading = read_from (extend c f bs) (p + 1) (operand_bytes c) in
    rw (grounds_take m (omega arith) bs c f p, extend_take m (omega arith) bs c f)
    (proceed_cases (λ step. step (onward (take m bs)) ≡ step (onward bs)) (first (grounds c f p bs)) c f
    (λ number place e. refl)
    (λ i e. refl)
    (λ i e. read_from_take (extend c f bs) (p + 1) (operand_bytes c) m bs (within_next c f p bs e i (subst (Within f) (omega arith) r)) (omega arith)))

pub first_4096 : (file : List ℕ) → read_file (take 4096 file) ≡ read_file file
unfolding read_file
first_4096 file = read_from_take nothing_read 0 0 4096 file within_nothing (omega arith)

-- ---- ground 8, the stop, never refuses a file at its first byte: no line is stated there, so that 7 comes first

reached_at_start : {file : List ℕ} {f : SoFar} {p : ℕ} {rest : List ℕ} → Reached file f p rest → p ≡ 0 → f ≡ nothing_read
reached_at_start start e = refl
reached_at_start (next r passes onward) e = absurd (omega (arith, e))

not_8 : (gs : List Ground) {place : ℕ} → AllNamed (λ number q. number ≡ 8 → ⊥) gs → first gs ≡ Refused 8 place → ⊥
not_8 gs named e = first_named (λ number q. number ≡ 8 → ⊥) gs 8 _ named e refl

-- .. nor behind 7, where that applies
not_8_behind : (front gs : List Ground) (t : Bool) {place : ℕ} → AllNamed (λ number q. number ≡ 8 → ⊥) front → t ≡ true
    → first (front ++ (7 at 0 when t) ∷ gs) ≡ Refused 8 place → ⊥
unfolding first
not_8_behind [] gs true named e is = zero_ne_one (cc)
not_8_behind [] gs false named e is = zero_ne_one (cc)
not_8_behind ((number at q when true) ∷ front) gs t named e is = let same : number ≡ 8 = cc in named.0 same
not_8_behind ((number at q when false) ∷ front) gs t named e is = not_8_behind front gs t named.1 e is

no_stop_at_start : (c : Command) (behind : List ℕ) {place : ℕ} → first (grounds c nothing_read 0 behind) ≡ Refused 8 place → ⊥
unfolding grounds call_grounds
no_stop_at_start states_line behind e =
    not_8 (grounds states_line nothing_read 0 behind) (λ q. omega (arith, q), (λ q. omega (arith, q), (λ q. omega (arith, q), (λ q. omega (arith, q), tt)))) e
no_stop_at_start calls_by_offset behind e =
    not_8_behind ((3 at 0 when cut_off calls_by_offset behind) ∷ []) _ (leb 0 (line_operand behind)) (λ q. omega (arith, q), tt)
    (le-leb 0 (line_operand behind) (omega arith)) e
no_stop_at_start calls_by_ride behind e =
    not_8_behind ((3 at 0 when cut_off calls_by_ride behind) ∷ (19 at 0 when ltb first_edition first_edition) ∷ []) _ (leb 0 (line_operand behind))
    (λ q. omega (arith, q), (λ q. omega (arith, q), tt)) (le-leb 0 (line_operand behind) (omega arith)) e
no_stop_at_start ends behind e = not_8 (grounds ends nothing_read 0 behind) (λ q. omega (arith, q), (λ q. omega (arith, q), tt)) e
no_stop_at_start states_edition behind e =
    not_8 (grounds states_edition nothing_read 0 behind) (λ q. omega (arith, q), (λ q. omega (arith, q), (λ q. omega (arith, q), tt))) e
no_stop_at_start unknown behind e = not_8 (grounds unknown nothing_read 0 behind) (λ q. omega (arith, q), tt) e

pub no_8_at_0 : (file : List ℕ) → read_file file ≡ refused 8 0 → ⊥
no_8_at_0 file e = go (read_file_gives file) e
  where
    go : {r : Reading} → Gives file r → r ≡ refused 8 0 → ⊥
    go (runs_out r) is = zero_ne_one (cc)
    go (refuses {f = f} {p = p} {b = b} {behind = behind} {number = number} {place = place} r h) is =
        let number_is : number ≡ 8 = cc in
        let place_is : place ≡ 0 = cc in
        let here : p ≡ 0 = omega (arith, place_is, (refused_named (command b) f p behind number place h).1) in
        let first_here : first (grounds (command b) nothing_read 0 behind) ≡ Refused 8 0 =
        ap₂ (λ (g : SoFar) (q : ℕ). first (grounds (command b) g q behind)) (sym (reached_at_start r here)) (sym here)
        ∙ h
        ∙ ap₂ Refused number_is place_is in
        no_stop_at_start (command b) behind first_here
    go (accepts r ends_it passes) is = zero_ne_one (cc)
