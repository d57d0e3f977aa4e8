-- The archive form: a file that states a valid network by its edition, lines, calls and the end is read back as that network, since each command
-- passes and adds what it states; so the archive form is read as the network with its calls in order, and settles the network. Assumes nothing.
use Prim.Native.Nat.{ℕ, zero, suc, ◌+◌, ◌*◌, ◌<◌, ◌≤◌}
use mathlib.Core.Path.{◌≡◌, refl, sym, ap, ap₂, subst, ◌∙◌}
use mathlib.Core.Bool.{Bool, true, false, ◌&&◌}
use mathlib.Core.List.{List, [], ◌∷◌, ◌++◌, append_assoc, append-nil, Permᴰ}
use native.Mathlib.Nat.{div-add-mod'}
use native.Mathlib.Omega.{arith}
use borrow.Author.Tests.{eqb-true, eqb-false}
use lib.Dec.{eqb}
use lib.ListN.{length, get_or, take, drop, set, length-append}
use lib.Seq.{get_or-append_seam}
use Rattle.network.specs.declared.Call.{Call}
use Rattle.network.specs.Archive.{word_bytes, edition_bytes, line_bytes, call_bytes, file_of, tidied, archive, archive_length, SameNetwork}
use Rattle.network.specs.Divisor.{common_cycle}
use Rattle.network.specs.Lists.{pick, joined}
use Rattle.network.specs.Network.{Net, net_with, so_far, nothing_read, calls_by_offset, command, operand_bytes}
use Rattle.network.specs.Network.{first_edition, latest_edition, max_lines, max_period, max_cycle, max_stop, max_offset, max_calls, max_calls_at_stop}
use Rattle.network.specs.Network.{cycle, how_often_at, calls_anywhere, word, line_operand, stop_operand, stated_offset, call_of, with_line, with_call, extend}
use Rattle.network.specs.Reading.{accepted, read_from, read_file}
use Rattle.network.specs.Tidy.{tidy}
use Rattle.network.specs.Valid.{IsBytes, no_call, Valid}
use Rattle.network.proofs.Laws.Divisor.{common_cycle_snoc, common_cycle_prefix_le}
use Rattle.network.proofs.Laws.Editions.{read_edition}
use Rattle.network.proofs.Laws.Grounds.{LineFits, CallFits, line_fits_passes, offset_fits_passes, end_fits_passes}
use Rattle.network.proofs.Laws.Joined.{length_joined, written_behind, sets_behind}
use Rattle.network.proofs.Laws.Lists.{zero_ne_one}
use Rattle.network.proofs.Laws.Members.{All}
use Rattle.network.proofs.Laws.Often.{how_often_at_before}
use Rattle.network.proofs.Laws.Packed.{InLimits, limits}
use Rattle.network.proofs.Laws.Permutations.{length_permuted, all_permuted, any_permuted, keep_permuted}
use Rattle.network.proofs.Laws.Reading.{read_onward, read_ended}
use Rattle.network.proofs.Laws.Tidy.{length_tidy, tidy_is_permutation, tidy_tidy, how_often_of_tidy, tidy_of_how_often}

-- ---- two bytes

word_of_bytes : (number : ℕ) (rest : List ℕ) → word (word_bytes number ++ rest) 0 ≡ number
unfolding word word_bytes
word_of_bytes number rest = div-add-mod' number 256

-- ---- the edition, which the first needs no bytes to state

-- By whether it is the first
pub edition_bytes_by_first : (P : List ℕ → ℕ → Type 0) (edition : ℕ) → (edition ≡ first_edition → P [] 0)
    → ((edition ≡ first_edition → ⊥) → P (0x56 ∷ edition ∷ []) 2) → P (edition_bytes edition) (pick (eqb edition first_edition) 0 2)
unfolding edition_bytes
edition_bytes_by_first P edition unstated stated = go (eqb edition first_edition) (eqb-true edition first_edition) (eqb-false edition first_edition)
  where
    go : (t : Bool) → (t ≡ true → edition ≡ first_edition) → (t ≡ false → edition ≡ first_edition → ⊥)
        → P (pick t [] (0x56 ∷ edition ∷ [])) (pick t 0 2)
    go true is isnt = unstated (is refl)
    go false is isnt = stated (isnt refl)

pub length_edition : (edition : ℕ) → length (edition_bytes edition) ≡ pick (eqb edition first_edition) 0 2
length_edition edition = edition_bytes_by_first (λ bytes k. length bytes ≡ k) edition (λ e. refl) (λ h. refl)

pub length_edition_le : (edition : ℕ) → length (edition_bytes edition) ≤ 2
length_edition_le edition = edition_bytes_by_first (λ bytes k. length bytes ≤ 2) edition (λ e. omega arith) (λ h. omega arith)

read_opening : (edition : ℕ) (rest : List ℕ) → first_edition ≤ edition → edition ≤ latest_edition
    → read_from nothing_read 0 0 (edition_bytes edition ++ rest) ≡ read_from (so_far (net_with edition [] [])) (length (edition_bytes edition)) 0 rest
read_opening edition rest low high =
    edition_bytes_by_first (λ bytes k. read_from nothing_read 0 0 (bytes ++ rest) ≡ read_from (so_far (net_with edition [] [])) (length bytes) 0 rest) edition
    (λ e. ap (λ (k : ℕ). read_from (so_far (net_with k [] [])) 0 0 rest) (sym e)) (λ h. read_edition edition rest low high)

-- ---- a line

read_line : (n : Net) (p period : ℕ) (rest : List ℕ) → LineFits n (word_bytes period ++ rest)
    → read_from (so_far n) p 0 (line_bytes period ++ rest) ≡ read_from (so_far (with_line n period)) (p + 3) 0 rest
unfolding line_bytes command operand_bytes extend word_bytes
read_line n p period rest fits =
    read_onward 0x4C (so_far n) p (word_bytes period ++ rest) (so_far (with_line n period)) (line_fits_passes (so_far n) p _ fits) (λ e. zero_ne_one (cc))
    (ap (λ (t : ℕ). so_far (with_line n t)) (sym (word_of_bytes period rest)))
    ∙ ap (λ (q : ℕ). read_from (so_far (with_line n period)) q 0 rest) (omega arith)

module _ (edition : ℕ) (all : List ℕ) (few : length all ≤ max_lines) (period_pos : (i : ℕ) → i < length all → 0 < get_or all i 0)
    (period_max : (i : ℕ) → i < length all → get_or all i 0 ≤ max_period) (cycle_max : common_cycle all ≤ max_cycle) where
  line_fits : (ps : List ℕ) (q : ℕ) (qs rest : List ℕ) → ps ++ (q ∷ qs) ≡ all → LineFits (net_with edition ps []) (word_bytes q ++ rest)
  unfolding cycle word_bytes
  line_fits ps q qs rest e =
      let here : length ps < length all = omega (arith, ap length e, length-append ps (q ∷ qs)) in
      let is : get_or all (length ps) 0 ≡ q = ap (λ (l : List ℕ). get_or l (length ps) 0) (sym e) ∙ get_or-append_seam ps q qs 0 in
      let stated = word_of_bytes q rest in
      record {
        operands = omega arith;
        room = omega (arith, here, few);
        period_pos = rw stated (subst (λ (t : ℕ). 0 < t) is (period_pos (length ps) here));
        period = rw stated (subst (λ (t : ℕ). t ≤ max_period) is (period_max (length ps) here));
        cycle_max = rw (stated, ← common_cycle_snoc ps q)
            (omega (
              arith,
              cycle_max,
              common_cycle_prefix_le (ps ++ (q ∷ [])) qs all (append_assoc ps (q ∷ []) qs ∙ e) period_pos,
            ));
      }

  read_lines : (ps qs rest : List ℕ) (p : ℕ) → ps ++ qs ≡ all
      → read_from (so_far (net_with edition ps [])) p 0 (joined line_bytes qs ++ rest) ≡ read_from (so_far (net_with edition all [])) (p + 3 * length qs) 0 rest
  unfolding joined with_line
  read_lines ps [] rest p e =
      ap₂ (λ (l : List ℕ) (q : ℕ). read_from (so_far (net_with edition l [])) q 0 rest) (sym (append-nil ps) ∙ e) (omega arith)
  read_lines ps (q ∷ qs) rest p e =
      ap (read_from (so_far (net_with edition ps [])) p 0) (append_assoc (line_bytes q) (joined line_bytes qs) rest)
      ∙ read_line (net_with edition ps []) p q (joined line_bytes qs ++ rest) (line_fits ps q qs (joined line_bytes qs ++ rest) e)
      ∙ read_lines (ps ++ (q ∷ [])) qs rest (p + 3) (append_assoc ps (q ∷ []) qs ∙ e)
      ∙ ap (λ (k : ℕ). read_from (so_far (net_with edition all [])) k 0 rest) (omega arith)

-- ---- a call

-- The operands of a call, and what stands behind them
abbrev operands_of : Call → List ℕ → List ℕ
operands_of c rest = c.line ∷ c.stop ∷ word_bytes c.offset ++ rest

call_of_bytes : (c : Call) (rest : List ℕ) → call_of (operands_of c rest) (stated_offset (operands_of c rest)) ≡ c
unfolding call_of line_operand stop_operand stated_offset word word_bytes
call_of_bytes c rest = ap (λ (k : ℕ). record { line = c.line; stop = c.stop; offset = k }) (div-add-mod' c.offset 256)

read_call : (n : Net) (p : ℕ) (c : Call) (rest : List ℕ) → CallFits calls_by_offset n (operands_of c rest)
    → read_from (so_far n) p 0 (call_bytes c ++ rest) ≡ read_from (so_far (with_call n c)) (p + 5) 0 rest
unfolding call_bytes command operand_bytes extend word_bytes
read_call n p c rest fits =
    read_onward 0x43 (so_far n) p (operands_of c rest) (so_far (with_call n c)) (offset_fits_passes (so_far n) p _ fits) (λ e. zero_ne_one (cc))
    (ap (λ (d : Call). so_far (with_call n d)) (sym (call_of_bytes c rest)))
    ∙ ap (λ (q : ℕ). read_from (so_far (with_call n c)) q 0 rest) (omega arith)

module _ (edition : ℕ) (periods : List ℕ) (all : List Call) (few : length all ≤ max_calls) (line_stated : All no_call (λ c. c.line < length periods) all)
    (stop_max : All no_call (λ c. c.stop ≤ max_stop) all) (often : (line stop : ℕ) → how_often_at line stop all ≤ max_calls_at_stop) where
  call_fits : (cs : List Call) (d : Call) (ds : List Call) (rest : List ℕ) → cs ++ (d ∷ ds) ≡ all → CallFits calls_by_offset (net_with edition periods cs) (operands_of d rest)
  unfolding operand_bytes line_operand stop_operand word_bytes
  call_fits cs d ds rest e =
      let here : length cs < length all = omega (arith, ap length e, length-append cs (d ∷ ds)) in
      let is : get_or all (length cs) no_call ≡ d = ap (λ (l : List Call). get_or l (length cs) no_call) (sym e) ∙ get_or-append_seam cs d ds no_call in
      record {
        operands = omega arith;
        line = subst (λ (c : Call). c.line < length periods) is (line_stated (length cs) here);
        stop = subst (λ (c : Call). c.stop ≤ max_stop) is (stop_max (length cs) here);
        often = how_often_at_before cs d ds all e (often d.line d.stop);
        room = omega (arith, here, few);
      }

  read_calls : (cs ds : List Call) (rest : List ℕ) (p : ℕ) → cs ++ ds ≡ all
      → read_from (so_far (net_with edition periods cs)) p 0 (joined call_bytes ds ++ rest) ≡ read_from (so_far (net_with edition periods all)) (p + 5 * length ds) 0 rest
  unfolding joined with_call
  read_calls cs [] rest p e =
      ap₂ (λ (l : List Call) (q : ℕ). read_from (so_far (net_with edition periods l)) q 0 rest) (sym (append-nil cs) ∙ e) (omega arith)
  read_calls cs (d ∷ ds) rest p e =
      ap (read_from (so_far (net_with edition periods cs)) p 0) (append_assoc (call_bytes d) (joined call_bytes ds) rest)
      ∙ read_call (net_with edition periods cs) p d (joined call_bytes ds ++ rest) (call_fits cs d ds (joined call_bytes ds ++ rest) e)
      ∙ read_calls (cs ++ (d ∷ [])) ds rest (p + 5) (append_assoc cs (d ∷ []) ds ∙ e)
      ∙ ap (λ (k : ℕ). read_from (so_far (net_with edition periods all)) k 0 rest) (omega arith)

-- ---- the whole file

pub read_file_of : {n : Net} → Valid n → read_file (file_of n) ≡ accepted n
unfolding read_file file_of cycle command
read_file_of {n} v =
    let edition = edition_bytes n.edition in
    let lines = joined line_bytes n.periods in
    let calls = joined call_bytes n.calls in
    let behind = length edition + 3 * length n.periods in
    ap (read_from nothing_read 0 0)
    (append_assoc (edition ++ lines) calls (0x45 ∷ []) ∙ append_assoc edition lines (calls ++ (0x45 ∷ [])))
    ∙ read_opening n.edition (lines ++ (calls ++ (0x45 ∷ []))) v.edition_from v.edition_to
    ∙ read_lines n.edition n.periods v.lines v.period_pos v.period v.cycle_max [] n.periods (calls ++ (0x45 ∷ [])) (length edition) refl
    ∙ read_calls n.edition n.periods n.calls v.calls v.call_line v.call_stop v.often [] n.calls (0x45 ∷ []) behind refl
    ∙ read_ended 0x45 (so_far n) (behind + 5 * length n.calls) []
    (end_fits_passes (so_far n) _ [] (record { some_line = v.some_line; every_line_calls = v.every_line_calls; last = refl })) refl

-- ---- the network with its calls in order is as valid

pub tidied_valid : {n : Net} → Valid n → Valid (tidied n)
unfolding tidied cycle how_often_at calls_anywhere
tidied_valid {n} v =
    let π : Permᴰ n.calls (tidy n.calls) = mathlib.Core.List.Permᴰ.symm (tidy_is_permutation n.calls) in
    record {
      edition_from = v.edition_from;
      edition_to = v.edition_to;
      some_line = v.some_line;
      lines = v.lines;
      period_pos = v.period_pos;
      period = v.period;
      cycle_max = v.cycle_max;
      calls = rw (length_tidy n.calls) v.calls;
      call_line = all_permuted no_call (λ c. c.line < length n.periods) π v.call_line;
      call_stop = all_permuted no_call (λ c. c.stop ≤ max_stop) π v.call_stop;
      call_offset = all_permuted no_call (λ c. c.offset ≤ max_offset) π v.call_offset;
      often = λ line stop. rw (← length_permuted (keep_permuted (λ (c : Call). eqb c.line line && eqb c.stop stop) π)) (v.often line stop);
      every_line_calls = λ i h. sym (any_permuted (λ (c : Call). eqb c.line i) π) ∙ v.every_line_calls i h;
    }

-- ---- the archive form

-- It is accepted, as the network with its calls in order
pub read_archive : {n : Net} → Valid n → read_file (archive n) ≡ accepted (tidied n)
unfolding archive
read_archive v = read_file_of (tidied_valid v)

-- which is the same network
pub same_tidied : (n : Net) → SameNetwork (tidied n) n
unfolding tidied
same_tidied n =
    record {
      same_offsets = record { same_periods = refl; same_calls = how_often_of_tidy (tidy n.calls) n.calls (tidy_tidy n.calls) };
      same_edition = refl;
    }

-- Its archive form is itself
pub archive_tidied : (n : Net) → archive (tidied n) ≡ archive n
unfolding archive tidied
archive_tidied n = ap (λ (cs : List Call). file_of (net_with n.edition n.periods cs)) (tidy_tidy n.calls)

pub archive_of_same : {m n : Net} → SameNetwork m n → archive m ≡ archive n
unfolding archive tidied
archive_of_same {m} {n} same =
    ap₂ (λ (edition : ℕ) (ps : List ℕ). file_of (net_with edition ps (tidy m.calls))) same.same_edition same.same_offsets.same_periods
    ∙ ap (λ (cs : List Call). file_of (net_with n.edition n.periods cs)) (tidy_of_how_often m.calls n.calls same.same_offsets.same_calls)

accepted_injective : {m n : Net} → accepted m ≡ accepted n → m ≡ n
accepted_injective e = cc

pub same_of_archive : {m n : Net} → Valid m → Valid n → archive m ≡ archive n → SameNetwork m n
unfolding tidied
same_of_archive {m} {n} v w e =
    let equal : tidied m ≡ tidied n = accepted_injective (sym (read_archive v) ∙ ap read_file e ∙ read_archive w) in
    record {
      same_offsets = record {
        same_periods = ap (λ (k : Net). k.periods) equal;
        same_calls = how_often_of_tidy m.calls n.calls (ap (λ (k : Net). k.calls) equal);
      };
      same_edition = ap (λ (k : Net). k.edition) equal;
    }

pub length_line : (period : ℕ) → length (line_bytes period) ≡ 3
unfolding line_bytes word_bytes
length_line period = refl

pub length_call : (c : Call) → length (call_bytes c) ≡ 5
unfolding call_bytes word_bytes
length_call c = refl

pub length_archive : (n : Net) → length (archive n) ≡ archive_length n
unfolding archive archive_length file_of tidied
length_archive n =
    let edition = edition_bytes n.edition in
    length-append (edition ++ joined line_bytes n.periods ++ joined call_bytes (tidy n.calls)) (0x45 ∷ [])
    ∙ omega (
      arith,
      length-append (edition ++ joined line_bytes n.periods) (joined call_bytes (tidy n.calls)),
      length-append edition (joined line_bytes n.periods),
      length_edition n.edition,
      length_joined line_bytes 3 length_line n.periods,
      length_joined call_bytes 5 length_call (tidy n.calls),
      length_tidy n.calls,
    )

-- .. the same for the network with its calls in order
pub archive_length_tidied : (n : Net) → archive_length (tidied n) ≡ archive_length n
archive_length_tidied n = sym (length_archive (tidied n)) ∙ ap length (archive_tidied n) ∙ length_archive n

-- ---- every byte is below 256

bytes_append : (xs ys : List ℕ) → IsBytes xs → IsBytes ys → IsBytes (xs ++ ys)
unfolding IsBytes
bytes_append [] ys h k i = k i
bytes_append (x ∷ xs) ys h k zero = h 0
bytes_append (x ∷ xs) ys h k (suc i) = bytes_append xs ys (λ j. h (suc j)) k i

bytes_joined : {A : Type 0} (f : A → List ℕ) (d : A) (xs : List A) → All d (λ a. IsBytes (f a)) xs → IsBytes (joined f xs)
unfolding joined IsBytes
bytes_joined f d [] h i = omega arith
bytes_joined f d (x ∷ xs) h i = bytes_append (f x) (joined f xs) (h 0 (omega arith)) (bytes_joined f d xs (λ j l. h (suc j) (omega (arith, l)))) i

edition_bytes_lem : (edition : ℕ) → edition < 256 → IsBytes (edition_bytes edition)
unfolding IsBytes
edition_bytes_lem edition h = edition_bytes_by_first (λ bytes k. IsBytes bytes) edition (λ e i. omega arith) (λ k. stated)
  where
    stated : (i : ℕ) → get_or (0x56 ∷ edition ∷ []) i 0 < 256
    stated zero = omega arith
    stated (suc zero) = h
    stated (suc (suc i)) = omega arith

line_bytes_lem : (period : ℕ) → period ≤ max_offset → IsBytes (line_bytes period)
unfolding IsBytes line_bytes word_bytes
line_bytes_lem period h zero = omega arith
line_bytes_lem period h (suc zero) = omega (arith, h)
line_bytes_lem period h (suc (suc zero)) = omega arith
line_bytes_lem period h (suc (suc (suc i))) = omega arith

call_bytes_lem : (c : Call) → InLimits c → IsBytes (call_bytes c)
unfolding IsBytes call_bytes word_bytes
call_bytes_lem c h zero = omega arith
call_bytes_lem c h (suc zero) = omega (arith, h.line)
call_bytes_lem c h (suc (suc zero)) = omega (arith, h.stop)
call_bytes_lem c h (suc (suc (suc zero))) = omega (arith, h.offset)
call_bytes_lem c h (suc (suc (suc (suc zero)))) = omega arith
call_bytes_lem c h (suc (suc (suc (suc (suc i))))) = omega arith

end_byte : IsBytes (0x45 ∷ [])
unfolding IsBytes
end_byte zero = omega arith
end_byte (suc i) = omega arith

file_of_bytes : {n : Net} → Valid n → IsBytes (file_of n)
unfolding file_of
file_of_bytes {n} v =
    let edition = edition_bytes n.edition in
    bytes_append (edition ++ joined line_bytes n.periods ++ joined call_bytes n.calls) (0x45 ∷ [])
    (bytes_append (edition ++ joined line_bytes n.periods) (joined call_bytes n.calls)
    (bytes_append edition (joined line_bytes n.periods) (edition_bytes_lem n.edition (omega (arith, v.edition_to)))
    (bytes_joined line_bytes 0 n.periods (λ i h. line_bytes_lem _ (omega (arith, v.period i h)))))
    (bytes_joined call_bytes no_call n.calls (λ i h. call_bytes_lem _ (limits v i h))))
    end_byte

pub archive_bytes : {n : Net} → Valid n → IsBytes (archive n)
unfolding archive
archive_bytes v = file_of_bytes (tidied_valid v)

-- ---- written part by part: the edition, the lines and the calls one behind the other, and the end

pub put_together : (n : Net) (width lines calls : ℕ) (ds : List Call) (row editioned lined called : List ℕ) → length (edition_bytes n.edition) ≡ width
    → length n.periods ≡ lines → length n.calls ≡ calls → ds ≡ tidy n.calls → width + 3 * lines + 5 * calls + 1 ≤ length row
    → editioned ≡ edition_bytes n.edition ++ drop width row
    → lined ≡ take width editioned ++ joined line_bytes n.periods ++ drop (width + 3 * lines) editioned
    → called ≡ take (width + 3 * lines) lined ++ joined call_bytes ds ++ drop (width + 3 * lines + 5 * calls) lined
    → set called (width + 3 * lines + 5 * calls) 0x45 ≡ archive n ++ drop (archive_length n) row
unfolding archive archive_length file_of tidied
put_together n width lines calls ds row editioned lined called wide few many is room put_edition put_lines put_calls =
    let edition = edition_bytes n.edition in
    let first = joined line_bytes n.periods in
    let second = joined call_bytes (tidy n.calls) in
    let length_first : length first ≡ 3 * lines = length_joined line_bytes 3 length_line n.periods ∙ omega (arith, few) in
    let length_second : length second ≡ 5 * calls =
    length_joined call_bytes 5 length_call (tidy n.calls) ∙ omega (arith, length_tidy n.calls, many) in
    let with_lines = written_behind edition row width (3 * lines) wide first editioned lined put_edition put_lines in
    let before : length (edition ++ first) ≡ width + 3 * lines = length-append edition first ∙ omega (arith, wide, length_first) in
    let put : called ≡ take (width + 3 * lines) lined ++ second ++ drop (width + 3 * lines + 5 * calls) lined =
    put_calls ∙ ap (λ (cs : List Call). take (width + 3 * lines) lined ++ joined call_bytes cs ++ drop (width + 3 * lines + 5 * calls) lined) is in
    let with_calls = written_behind (edition ++ first) row (width + 3 * lines) (5 * calls) before second lined called with_lines put in
    let all : length (edition ++ first ++ second) ≡ width + 3 * lines + 5 * calls =
    length-append (edition ++ first) second ∙ omega (arith, before, length_second) in
    ap (λ (l : List ℕ). set l (width + 3 * lines + 5 * calls) 0x45) with_calls
    ∙ sets_behind (edition ++ first ++ second) row (width + 3 * lines + 5 * calls) 1 all (0x45 ∷ []) refl room
    ∙ ap (λ (k : ℕ). edition ++ first ++ second ++ (0x45 ∷ []) ++ drop k row)
    (ap₂ (λ (a b : ℕ). a + 3 * b + 5 * calls + 1) (sym wide ∙ length_edition n.edition) (sym few)
    ∙ ap (λ (b : ℕ). pick (eqb n.edition first_edition) 0 2 + 3 * length n.periods + 5 * b + 1) (sym many))
