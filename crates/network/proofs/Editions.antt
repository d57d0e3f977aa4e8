-- What document 02, A.6, "Following calls retired", asks of reading and of the archive form, of every file: by the definitions, which are what every
-- call's contract answers by. What is read follows from the grounds of each command, tried at every place to which reading comes; what the archive form
-- has, from the commands of which it is made; the cases compute. The order's demands stand in Demands.antt in the words they had, and there too what A.1
-- promises, with the edition. Assumes nothing.
use Prim.Native.Nat.{ℕ, ◌<◌, ◌≤◌}
use mathlib.Core.Path.{◌≡◌, refl, sym, ◌∙◌}
use mathlib.Core.List.{List, [], ◌∷◌, ◌++◌}
use mathlib.Core.Logic.{◌⊎◌, ⊎_elim, ◌↔◌}
use native.Mathlib.Omega.{arith}
use lib.ListN.{length, get_or, take}
use Rattle.network.specs.declared.Call.{Call}
use Rattle.network.specs.Archive.{word_bytes, edition_bytes, line_bytes, call_bytes, file_of, tidied, archive, archive_length, archive_outcome}
use Rattle.network.specs.Divisor.{gcd_within, gcd, lcm, cycle_from, common_cycle}
use Rattle.network.specs.Lists.{any, keep, all_below, joined}
use Rattle.network.specs.Network.{Net, net_with, SoFar, Command, calls_by_ride, states_edition, command, operand_bytes}
use Rattle.network.specs.Network.{word, cycle, extend, with_line, with_call, call_of, line_operand, stop_operand, edition_operand, stated_offset, ride_offset}
use Rattle.network.specs.Network.{how_often_at, calls_anywhere, latest_offset}
use Rattle.network.specs.Grounds.{first, cut_off, period_out_of_range, edition_unknown, some_line_silent, call_grounds, grounds}
use Rattle.network.specs.Reading.{proceed, read_from, read_file, accepted, refused, values, refusal}
use Rattle.network.specs.Gives.{Reached}
use Rattle.network.specs.Refusals.{OfFile}
use Rattle.network.specs.Editions.{opening_edition, Meets, moved, in_edition, command_before, grounds_before, read_from_before, read_file_before}
use Rattle.network.specs.Tidy.{insert_by, sort_by, not_after, tidy}
use Rattle.network.proofs.Laws.ArchiveCommands.{archive_meets_no_ride, archive_meets_no_edition, archive_opens}
use Rattle.network.proofs.Laws.Editions.{known_editions, opening_exactly, accepted_edition, accepted_known, rides_in_first_edition, first_edition_throughout, grounds_as_before}
use Rattle.network.proofs.Laws.Editions.{read_as_before, accepted_as_before, accepted_before_edition, ride_is_retired, edition_is_late, edition_is_unknown}
use Rattle.network.proofs.Laws.Moved.{first_edition_stated, edition_stated}
use Rattle.network.proofs.Laws.Reading.{refused_number, refused_place, first_4096}

-- ---- The edition of an accepted file: "A new command 56 with one byte, the edition, may open a file; without it the edition is 1"

pub record EditionOf (file : List ℕ) (n : Net) : Type 0 where
  pub opening : n.edition ≡ opening_edition file
  pub one_or_two : (n.edition ≡ 1) ⊎ (n.edition ≡ 2)
  pub two_exactly : (n.edition ≡ 2) ↔ (take 2 file ≡ 0x56 ∷ 0x02 ∷ [])
  -- "Edition 2 has no 46": in an edition above the first reading meets none; bytes 46 and 56 among the operands are no commands
  pub no_ride_met : (n.edition ≡ 1 → ⊥) → Meets file calls_by_ride → ⊥

pub edition_of_accepted : (file : List ℕ) {n : Net} → read_file file ≡ accepted n → EditionOf file n
edition_of_accepted file {n} reads =
    let opening = accepted_edition file reads in
    let known = accepted_known file reads in
    let opens = opening_exactly 2 (omega arith) file in
    record {
      opening = opening;
      one_or_two = known_editions n.edition known.0 known.1;
      two_exactly = (λ two. opens.0 (sym opening ∙ two), λ begins. opening ∙ opens.1 begins);
      no_ride_met = λ later met. later (rides_in_first_edition file reads met);
    }

-- ---- "(19: 46 in edition 2, between grounds 3 and 7; 20: 56 not first, after ground 3; 21: edition unknown, after 20.)": wherever reading comes to the
-- command and its operands aren't cut off

-- whatever line, stop and ride it names
pub retired_is_19 : {file : List ℕ} {f : SoFar} {p : ℕ} {behind : List ℕ} → Reached file f p (0x46 ∷ behind) → 4 ≤ length behind
    → 1 < opening_edition file → read_file file ≡ refused 19 p
retired_is_19 = ride_is_retired

-- first means byte 0; whatever edition it states
pub not_first_is_20 : {file : List ℕ} {f : SoFar} {p : ℕ} {behind : List ℕ} → Reached file f p (0x56 ∷ behind) → 1 ≤ length behind → 0 < p
    → read_file file ≡ refused 20 p
not_first_is_20 = edition_is_late

-- whatever stands behind it
pub unknown_is_21 : (edition : ℕ) (rest : List ℕ) → (edition ≡ 1 → ⊥) → (edition ≡ 2 → ⊥) → read_file (0x56 ∷ edition ∷ rest) ≡ refused 21 0
unknown_is_21 edition rest not_one not_two =
    edition_is_unknown edition rest (λ (low, high). ⊎_elim not_one not_two (known_editions edition low high))

-- ---- "Files without the command 56 are read as ever"

-- A file in which reading meets no 56 is read as it was before A.6: the same network, or the same number and place
pub read_as_ever : (file : List ℕ) → (Meets file states_edition → ⊥) → read_file file ≡ read_file_before file
read_as_ever = read_as_before

-- .. so that every file that was accepted is, as the same network, whose edition is 1
pub accepted_as_ever : (file : List ℕ) {n : Net} → read_file_before file ≡ accepted n → (read_file file ≡ accepted n) × (n.edition ≡ 1)
accepted_as_ever file e = (accepted_as_before file e, accepted_before_edition file e)

-- Place by place: where a file doesn't begin with 56, the edition is 1 at every place to which reading comes ..
pub edition_1_throughout : {file : List ℕ} {f : SoFar} {p : ℕ} {rest : List ℕ} → (get_or file 0 0 ≡ 0x56 → ⊥) → Reached file f p rest
    → f.network.edition ≡ 1
edition_1_throughout = first_edition_throughout

-- .. and in edition 1 the first ground that applies to any other command or to an unknown byte is that of the list before A.6
pub grounds_as_ever : (c : Command) (f : SoFar) (p : ℕ) (behind : List ℕ) → f.network.edition ≡ 1 → (c ≡ states_edition → ⊥)
    → first (grounds c f p behind) ≡ first (grounds_before c f p behind)
grounds_as_ever = grounds_as_before

-- 56 01 states what no 56 states: before a file that doesn't begin with 56 it changes nothing but the places
pub edition_1_stated : (file : List ℕ) → (get_or file 0 0 ≡ 0x56 → ⊥) → read_file (0x56 ∷ 0x01 ∷ file) ≡ moved 2 (read_file file)
edition_1_stated = first_edition_stated

-- .. and 56 02, where reading meets no 46 either, nothing but the places and the edition
pub edition_2_stated : (file : List ℕ) → (get_or file 0 0 ≡ 0x56 → ⊥) → (Meets file calls_by_ride → ⊥)
    → read_file (0x56 ∷ 0x02 ∷ file) ≡ in_edition 2 (moved 2 (read_file file))
edition_2_stated file unopened no_ride = edition_stated 2 file unopened no_ride (omega arith, omega arith)

-- ---- The archive form

-- .. as it stands in the row that the archive call has written: `archive_writes` of Demands.antt
pub record ArchivedEdition (n : Net) (form : List ℕ) : Type 0 where
  -- "edition 1's archive form has neither 46 nor 56"
  pub no_ride_met : Meets form calls_by_ride → ⊥
  pub one_states_none : n.edition ≡ 1 → Meets form states_edition → ⊥
  -- "Edition 2 is archived with its 56 first"
  pub others_open : (n.edition ≡ 1 → ⊥) → take 2 form ≡ 0x56 ∷ n.edition ∷ []

pub archived_edition : (n : Net) → ArchivedEdition n (archive n)
archived_edition n =
    record { no_ride_met = archive_meets_no_ride n; one_states_none = archive_meets_no_edition n; others_open = archive_opens n }

-- ---- What a refusal names, and how much of a file decides

-- Numbers 1 to 14 and 19 to 21, and places up to 1,331
pub refusal_names : (file : List ℕ) {number place : ℕ} → read_file file ≡ refused number place → OfFile number × (place ≤ 1331)
refusal_names file e = (refused_number file _ _ e, refused_place file _ _ e)

pub first_bytes_decide : (file : List ℕ) → read_file (take 4096 file) ≡ read_file file
first_bytes_decide = first_4096

-- ---- Files of the request, by the definitions: each side computes

abbrev edition_one : List ℕ
edition_one = 0x56 ∷ 0x01 ∷ []

abbrev edition_two : List ℕ
edition_two = 0x56 ∷ 0x02 ∷ []

-- One line, every 15 minutes, and its call at stop 0, 8 minutes after its start
abbrev one_call : List ℕ
one_call = 0x4C ∷ 0x00 ∷ 0x0F ∷ 0x43 ∷ 0x00 ∷ 0x00 ∷ 0x00 ∷ 0x08 ∷ []

abbrev call_at8 : Call
call_at8 = record { line = 0; stop = 0; offset = 8 }

-- .. and one at stop 1, by a ride of 3
abbrev call_at11 : Call
call_at11 = record { line = 0; stop = 1; offset = 11 }

-- Refusals: an edition that isn't known, 56 that isn't first, operands that are cut off before either; and behind an edition a byte after the end, no
-- command, and an end without line
pub edition_cases_refused : (read_file (0x56 ∷ 0x00 ∷ []) ≡ refused 21 0)
    × (read_file (0x56 ∷ 0x03 ∷ []) ≡ refused 21 0)
    × (read_file (0x56 ∷ 0xFF ∷ []) ≡ refused 21 0)
    × (read_file (0x4C ∷ 0x00 ∷ 0x0F ∷ edition_two) ≡ refused 20 3)
    × (read_file (edition_two ++ (0x56 ∷ 0x07 ∷ [])) ≡ refused 20 2)
    × (read_file (0x56 ∷ []) ≡ refused 3 0)
    × (read_file (0x4C ∷ 0x00 ∷ 0x0F ∷ 0x56 ∷ []) ≡ refused 3 3)
    × (read_file (edition_two ++ one_call ++ (0x45 ∷ edition_two)) ≡ refused 14 11)
    × (read_file edition_two ≡ refused 1 2)
    × (read_file (edition_two ++ (0x45 ∷ [])) ≡ refused 13 2)
unfolding read_file read_from proceed first grounds cut_off period_out_of_range edition_unknown some_line_silent call_grounds command operand_bytes word line_operand stop_operand edition_operand stated_offset call_of extend with_line with_call how_often_at calls_anywhere any keep all_below cycle common_cycle cycle_from lcm gcd gcd_within
edition_cases_refused = (refl, refl, refl, refl, refl, refl, refl, refl, refl, refl)

-- 46 in edition 2 is 19, before 7 and after 3; in edition 1 it is 7
pub ride_cases_refused : (read_file (edition_two ++ (0x46 ∷ 0x09 ∷ 0x09 ∷ 0x00 ∷ 0x00 ∷ 0x45 ∷ [])) ≡ refused 19 2)
    × (read_file (edition_two ++ (0x46 ∷ 0x09 ∷ 0x09 ∷ 0x00 ∷ [])) ≡ refused 3 2)
    × (read_file (edition_one ++ (0x46 ∷ 0x09 ∷ 0x09 ∷ 0x00 ∷ 0x00 ∷ 0x45 ∷ [])) ≡ refused 7 2)
unfolding read_file read_from proceed first grounds cut_off edition_unknown call_grounds command operand_bytes line_operand stop_operand edition_operand extend
ride_cases_refused = (refl, refl, refl)

-- Accepted in edition 2, which is its own archive form; in edition 1, archived without its 56; with 46 and 56 among the operands; and in edition 1 with a
-- ride, archived as its 43
pub accepted_cases : (read_file (edition_two ++ one_call ++ (0x45 ∷ [])) ≡ accepted (net_with 2 (15 ∷ []) (call_at8 ∷ [])))
    × (read_file (edition_one ++ one_call ++ (0x45 ∷ [])) ≡ accepted (net_with 1 (15 ∷ []) (call_at8 ∷ [])))
    × (read_file (edition_two ++ (0x4C ∷ 0x00 ∷ 0x56 ∷ 0x43 ∷ 0x00 ∷ 0x05 ∷ 0x46 ∷ 0x56 ∷ 0x45 ∷ []))
    ≡ accepted (net_with 2 (0x56 ∷ []) (record { line = 0; stop = 5; offset = 0x4656 } ∷ [])))
    × (read_file (edition_one ++ one_call ++ (0x46 ∷ 0x00 ∷ 0x01 ∷ 0x00 ∷ 0x03 ∷ 0x45 ∷ [])) ≡ accepted (net_with 1 (15 ∷ []) (call_at8 ∷ call_at11 ∷ [])))
unfolding read_file read_from proceed first grounds cut_off period_out_of_range edition_unknown some_line_silent call_grounds command operand_bytes word line_operand stop_operand edition_operand stated_offset ride_offset latest_offset call_of extend with_line with_call how_often_at calls_anywhere any keep all_below cycle common_cycle cycle_from lcm gcd gcd_within
accepted_cases = (refl, refl, refl, refl)

-- Before A.6: a file without 56 as now, 56 an unknown command at byte 0 and behind a line, and 46 of no line ground 7
pub before_cases : (read_file_before (one_call ++ (0x45 ∷ [])) ≡ accepted (net_with 1 (15 ∷ []) (call_at8 ∷ [])))
    × (read_file_before (edition_two ++ one_call ++ (0x45 ∷ [])) ≡ refused 2 0)
    × (read_file_before (0x4C ∷ 0x00 ∷ 0x0F ∷ 0x56 ∷ []) ≡ refused 2 3)
    × (read_file_before (0x46 ∷ 0x09 ∷ 0x09 ∷ 0x00 ∷ 0x00 ∷ 0x45 ∷ []) ≡ refused 7 0)
unfolding read_file_before read_from_before proceed first grounds_before cut_off period_out_of_range some_line_silent call_grounds command_before operand_bytes word line_operand stop_operand stated_offset call_of extend with_line with_call how_often_at calls_anywhere any keep all_below cycle common_cycle cycle_from lcm gcd gcd_within
before_cases = (refl, refl, refl, refl)

-- The archive forms of these networks and their lengths; in edition 2 a row of 11 is enough and one of 10 is ground 18
pub archived_cases : (archive (net_with 2 (15 ∷ []) (call_at8 ∷ [])) ≡ edition_two ++ one_call ++ (0x45 ∷ []))
    × (archive_length (net_with 2 (15 ∷ []) (call_at8 ∷ [])) ≡ 11)
    × (archive_outcome (accepted (net_with 2 (15 ∷ []) (call_at8 ∷ []))) 11 ≡ values (11 ∷ []))
    × (archive_outcome (accepted (net_with 2 (15 ∷ []) (call_at8 ∷ []))) 10 ≡ refusal 18 0)
    × (archive (net_with 1 (15 ∷ []) (call_at8 ∷ [])) ≡ one_call ++ (0x45 ∷ []))
    × (archive_length (net_with 1 (15 ∷ []) (call_at8 ∷ [])) ≡ 9)
    × (archive (net_with 1 (15 ∷ []) (call_at8 ∷ call_at11 ∷ [])) ≡ one_call ++ (0x43 ∷ 0x00 ∷ 0x01 ∷ 0x00 ∷ 0x0B ∷ 0x45 ∷ []))
unfolding archive archive_length archive_outcome file_of tidied tidy sort_by insert_by not_after joined edition_bytes line_bytes call_bytes word_bytes
archived_cases = (refl, refl, refl, refl, refl, refl, refl)
