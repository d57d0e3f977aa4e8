-- The order's demands on read, rate, the weighted rating, the class call and the archive call. A theorem whose words name a call holds of every one that
-- has returned: of what was lent, `a`, its answer, `r`, and the rows at its exit, `s`, where they keep the contract in src/, which every call does. Those
-- named `.._asks_nothing` hold before it. The others are about files, networks and enums, by the definitions by which contracts answer. Assumes nothing.
use Prim.Native.Nat.{ℕ, ◌+◌, ◌*◌, ◌≤◌, ◌<◌}
use mathlib.Core.Path.{◌≡◌, refl, sym, ap, ap₂, subst, ◌∙◌}
use mathlib.Core.Bool.{true, false}
use mathlib.Core.List.{List, [], ◌∷◌, ◌++◌}
use mathlib.Core.Logic.{◌⊎◌, ◌↔◌}
use native.Mathlib.Omega.{arith}
use borrow.Fn.World.{ArgsD, ResD}
use borrow.Fn.Kinds.{ended_of}
use contract.Lifetimes.{Lfts}
use denote.Triple.Clauses.{AtExit}
use lib.Dec.{eqb}
use lib.IntN.{ℤ}
use lib.ListN.{length, get_or, take, drop}
use Rattle.network.specs.Lists.{count_below}
use Rattle.network.specs.Divisor.{Divides}
use Rattle.network.specs.Network.{Net, SoFar, max_lines, max_period, max_cycle, max_stop, stop_count, max_calls, is_served, served_stops, cycle, word}
use Rattle.network.specs.Reading.{Reading, Outcome, values, refusal, read_file, accepted, refused, read_answer, read_outcome}
use Rattle.network.specs.Grounds.{first, grounds}
use Rattle.network.specs.Gives.{Reached, Gives, refuses}
use Rattle.network.specs.Refusals.{Refuses, Unfit, Not64, TooShort, Demand1}
use Rattle.network.specs.Archive.{edition_bytes, tidied, archive, archive_length, SameOffsets, SameNetwork, archive_answer}
use Rattle.network.specs.Valid.{IsBytes, no_call, Valid}
use Rattle.network.specs.Rating.{IsRatingOver, IsRating, rating, rating_over}
use Rattle.network.specs.ByLines.{IsRatingOfLines}
use Rattle.network.specs.Rate.{rate_answer, rate_outcome}
use Rattle.network.specs.Loops.{WithoutLoops, AlikeOfCalls}
use Rattle.network.specs.Classes.{unserved, class_row, weight_row, class_count, lowest_stops}
use Rattle.network.specs.ClassCall.{class_answer, class_outcome, class_row_after, weight_row_after, weighted_rating, weighted_outcome}
use Rattle.network.proofs.Editions.{ArchivedEdition, archived_edition}
use Rattle.network.proofs.Laws.AlikeByCalls.{alike_by_calls}
use Rattle.network.proofs.Laws.Network.{command_unknown}
use Rattle.network.proofs.Laws.Valid.{accepted_valid, cycle_multiple, cycle_least, cycle_pos}
use Rattle.network.proofs.Laws.Reading.{gives_what_is_read, read_file_gives}
use Rattle.network.proofs.Laws.Refusals.{read_refuses, read_refuses_only, sheet_refuses, sheet_refuses_only, sheet_answers}
use Rattle.network.proofs.Laws.Refusals.{class_refuses, class_refuses_only, classes_as_found, weights_as_found, class_answers}
use Rattle.network.proofs.Laws.Tidy.{length_tidy, tidy_in_words}
use Rattle.network.proofs.Laws.Archive.{read_archive, same_tidied, archive_tidied, length_edition, length_archive, archive_bytes}
use Rattle.network.proofs.Laws.ArchiveBytes.{length_edition_by_first, archive_line_bytes, archive_call_bytes, archive_end_byte}
use Rattle.network.proofs.Laws.ArchiveCall.{archive_length_le, archive_refuses, archive_refuses_only, archive_row_as_found, archive_answers}
use Rattle.network.proofs.Laws.ArchiveCall.{archive_rows_equal, archive_of_written}
use Rattle.network.proofs.Laws.SameNetwork.{AnswersAlike, same_answers_alike}
use Rattle.network.proofs.Laws.ByLines.{rating_by_lines}
use Rattle.network.proofs.Laws.Rating.{rating_is_rating, IsRating-unique}
use Rattle.network.proofs.Laws.Ranges.{served_range, class_range, calls_some, least_range, sum_range}
use Rattle.network.proofs.Laws.Classes.{length_class_row, length_weight_row, lowest_rating}
use Rattle.network.proofs.Laws.Classified.{entry_alike, entry_least, entry_unserved, weight_counts, classes_count}
use Rattle.network.proofs.Laws.Weighted.{lowest_is_rating, weighted_is_rate}
use Rattle.network.specs.contracts.reader.read as read
use Rattle.network.proofs.reader.read.Kinds as read_kinds
use Rattle.network.proofs.reader.read.Reads as read_contract
use Rattle.network.specs.contracts.rate.rate as rate
use Rattle.network.proofs.rate.rate.Kinds as rate_kinds
use Rattle.network.proofs.rate.rate.Reads as rate_contract
use Rattle.network.specs.contracts.classes.weighted as weighted
use Rattle.network.proofs.classes.weighted.Kinds as weighted_kinds
use Rattle.network.proofs.classes.weighted.Reads as weighted_contract
use Rattle.network.specs.contracts.classes.classes as classes
use Rattle.network.proofs.classes.classes.Kinds as classes_kinds
use Rattle.network.proofs.classes.classes.Reads as classes_contract
use Rattle.network.specs.contracts.archive.archive as archive_call
use Rattle.network.proofs.archive.archive.Kinds as archive_kinds
use Rattle.network.proofs.archive.archive.Reads as archive_contract
-- ---- What each answer of a call tells: its values in the paper's order, or number and place of the refusal

pub use Rattle.network.proofs.Laws.Answers.{read_answer_accepted, read_answer_refused, rate_answer_rated, rate_answer_refused}
pub use Rattle.network.proofs.Laws.Answers.{class_answer_classes, class_answer_refused, archive_answer_archived, archive_answer_refused}
pub use Rattle.network.proofs.Laws.Answers.{ground_numbers}

-- ---- Every call may be made: none asks anything of what is lent

pub read_asks_nothing : (κs : Lfts 1) (a : ArgsD read.signature κs) → read_contract.Pre κs a
read_asks_nothing κs a = tt

pub rate_asks_nothing : (κs : Lfts 2) (a : ArgsD rate.signature κs) → rate_contract.Pre κs a
rate_asks_nothing κs a = tt

pub weighted_asks_nothing : (κs : Lfts 2) (a : ArgsD weighted.signature κs) → weighted_contract.Pre κs a
weighted_asks_nothing κs a = tt

pub classes_asks_nothing : (κs : Lfts 3) (a : ArgsD classes.signature κs) → classes_contract.Pre κs a
classes_asks_nothing κs a = tt

pub archive_asks_nothing : (κs : Lfts 2) (a : ArgsD archive_call.signature κs) → archive_contract.Pre κs a
archive_asks_nothing κs a = tt

-- ---- What an accepted file's read call answers: the numbers of lines, served stops and calls, and the common cycle

pub record ReadValues (n : Net) (answer : Outcome) : Type 0 where
  pub lines : ℕ
  pub stops : ℕ
  pub calls : ℕ
  pub common : ℕ
  pub answered : answer ≡ values (lines ∷ stops ∷ calls ∷ common ∷ [])
  pub lines_are : (lines ≡ length n.periods) × (1 ≤ lines) × (lines ≤ max_lines)
  pub stops_are : (stops ≡ count_below (λ stop. is_served stop n.calls) stop_count) × (1 ≤ stops) × (stops ≤ stop_count)
  pub calls_are : (calls ≡ length n.calls) × (1 ≤ calls) × (calls ≤ max_calls)
  -- the least common multiple of all periods: a multiple of each, and a divisor of every multiple of each
  pub common_multiple : (i : ℕ) → i < length n.periods → Divides (get_or n.periods i 0) common
  pub common_least : (m : ℕ) → ((i : ℕ) → i < length n.periods → Divides (get_or n.periods i 0) m) → Divides common m
  pub common_range : (1 ≤ common) × (common ≤ max_cycle)

pub read_values_of : {n : Net} → Valid n → ReadValues n (read_outcome (accepted n))
unfolding read_outcome served_stops
read_values_of {n} valid =
    record {
      lines = length n.periods;
      stops = served_stops n;
      calls = length n.calls;
      common = cycle n;
      answered = refl;
      lines_are = (refl, valid.some_line, valid.lines);
      stops_are = (refl, (served_range valid).0, (served_range valid).1);
      calls_are = (refl, calls_some valid, valid.calls);
      common_multiple = cycle_multiple n;
      common_least = cycle_least n;
      common_range = (cycle_pos valid, valid.cycle_max);
    }

-- ---- The read call

module _ (κs : Lfts 1) (a : ArgsD read.signature κs) (r : ResD read.signature κs) (s : AtExit (ended_of 1 read_kinds.ps read_kinds.r) κs)
    (kept : read_contract.Post κs a r s) where
  pub read_demand_1 : Demand1 (λ number place. read_answer r ≡ refusal number place) (λ number place. Gives a.0.now (refused number place)) Unit
  read_demand_1 =
      record {
        faulty_is_refused = λ number place g. kept.0 ∙ read_refuses a.0.now g;
        no_other_is_refused = λ number place e. read_refuses_only a.0.now (sym kept.0 ∙ e);
        rows_as_found = λ number place e. tt;
      }

  -- A file is accepted when no ground of its author applies
  pub read_answers : {n : Net} → Gives a.0.now (accepted n) → ReadValues n (read_answer r)
  read_answers {n} g =
      let reads = gives_what_is_read g in
      rw (kept.0, reads) (read_values_of (accepted_valid a.0.now n kept.1 reads))

  -- Every choice of whole-number starts has a rating over all trips, and no other
  pub every_choice_has_one_rating : {n : Net} → read_file a.0.now ≡ accepted n → (starts : List ℤ)
      → (least : ℕ) × (sum : ℕ) × IsRating n starts least sum
      × ((l s : ℕ) → IsRating n starts l s → (l ≡ least) × (s ≡ sum))
  every_choice_has_one_rating {n} reads starts =
      let valid = accepted_valid a.0.now n kept.1 reads in
      ((rating n starts).least, (rating n starts).sum, rating_is_rating n valid starts, λ l s is. IsRating-unique valid is)

-- Every file gives one of the two, and no other: what `read_file` computes, in which the other theorems speak of a file
pub file_gives : (file : List ℕ) → Gives file (read_file file)
file_gives = read_file_gives

pub file_gives_no_other : {file : List ℕ} {reading : Reading} → Gives file reading → read_file file ≡ reading
file_gives_no_other = gives_what_is_read

-- 2: wherever reading comes to a byte that is no command, whatever stands behind it
pub unknown_is_2 : {file : List ℕ} {f : SoFar} {p b : ℕ} {behind : List ℕ} → Reached file f p (b ∷ behind) → (b ≡ 0x4C → ⊥) → (b ≡ 0x43 → ⊥)
    → (b ≡ 0x46 → ⊥) → (b ≡ 0x45 → ⊥) → (b ≡ 0x56 → ⊥) → read_file file ≡ refused 2 p
unfolding first grounds
unknown_is_2 {b = b} r not_line not_call not_ride not_end not_edition =
    gives_what_is_read (refuses r (rw (command_unknown b not_line not_call not_ride not_edition not_end) refl))

-- ---- Demand 2, its first half: an accepted file and a sheet with one start for each line

-- The answer is the rating defined over all trips of all lines, past and future, and no other numbers
pub record RatedAs (n : Net) (sheet : List ℤ) (answer : Outcome) : Type 0 where
  pub least : ℕ
  pub sum : ℕ
  pub answered : answer ≡ values (least ∷ sum ∷ [])
  pub is_rating : IsRating n sheet least sum
  -- without loops in document 01's own words: a stop's gap is the least over its pairs of different lines, with one line only that line's period
  pub by_lines : WithoutLoops n → IsRatingOfLines n sheet least sum
  pub only_rating : (l s : ℕ) → IsRating n sheet l s → answer ≡ values (l ∷ s ∷ [])
  pub ranges : (least ≤ max_period) × (sum ≤ 92160)

pub rated_as : {n : Net} → Valid n → (sheet : List ℤ) → RatedAs n sheet (values ((rating n sheet).least ∷ (rating n sheet).sum ∷ []))
rated_as {n} valid sheet =
    record {
      least = (rating n sheet).least;
      sum = (rating n sheet).sum;
      answered = refl;
      is_rating = rating_is_rating n valid sheet;
      by_lines = λ loopless. (rating_by_lines valid loopless).0 (rating_is_rating n valid sheet);
      only_rating = λ l s q.
          let (e, f) = IsRating-unique valid q in ap₂ (λ (x y : ℕ). values (x ∷ y ∷ [])) (sym e) (sym f);
      ranges = (least_range valid sheet, sum_range valid sheet);
    }

-- ---- Rate

module _ (κs : Lfts 2) (a : ArgsD rate.signature κs) (r : ResD rate.signature κs) (s : AtExit (ended_of 2 rate_kinds.ps rate_kinds.r) κs)
    (kept : rate_contract.Post κs a r s) where
  pub rate_demand_1 : Demand1 (λ number place. rate_answer r ≡ refusal number place) (Refuses a.0.now 15 (Unfit a.1.0.now)) Unit
  unfolding rate_outcome
  rate_demand_1 =
      record {
        faulty_is_refused = λ number place f. kept.0 ∙ sheet_refuses rating a.0.now a.1.0.now f;
        no_other_is_refused = λ number place e. sheet_refuses_only rating a.0.now a.1.0.now (sym kept.0 ∙ e);
        rows_as_found = λ number place e. tt;
      }

  pub rate_demand_2 : {n : Net} → read_file a.0.now ≡ accepted n → length a.1.0.now ≡ length n.periods
      → RatedAs n a.1.0.now (rate_answer r)
  unfolding rate_outcome
  rate_demand_2 {n} reads fits =
      rw (kept.0 ∙ sheet_answers rating a.0.now a.1.0.now reads fits)
      (rated_as (accepted_valid a.0.now n kept.1 reads) a.1.0.now)

-- ---- The weighted rating

module _ (κs : Lfts 2) (a : ArgsD weighted.signature κs) (r : ResD weighted.signature κs)
    (s : AtExit (ended_of 2 weighted_kinds.ps weighted_kinds.r) κs) (kept : weighted_contract.Post κs a r s) where
  -- It refuses as rate does
  pub weighted_demand_1 : Demand1 (λ number place. rate_answer r ≡ refusal number place) (Refuses a.0.now 15 (Unfit a.1.0.now)) Unit
  unfolding weighted_outcome
  weighted_demand_1 =
      record {
        faulty_is_refused = λ number place f. kept.0 ∙ sheet_refuses weighted_rating a.0.now a.1.0.now f;
        no_other_is_refused = λ number place e. sheet_refuses_only weighted_rating a.0.now a.1.0.now (sym kept.0 ∙ e);
        rows_as_found = λ number place e. tt;
      }

  -- Demand 3, (6): on every file and sheet, accepted or refused, the weighted rating and rate answer alike, with the same least gap and sum
  -- or the same refusal
  pub weighted_answers_as_rate : (κs' : Lfts 2) (a' : ArgsD rate.signature κs') (r' : ResD rate.signature κs')
      (s' : AtExit (ended_of 2 rate_kinds.ps rate_kinds.r) κs') → rate_contract.Post κs' a' r' s'
      → a.0.now ≡ a'.0.now → a.1.0.now ≡ a'.1.0.now → rate_answer r ≡ rate_answer r'
  weighted_answers_as_rate κs' a' r' s' kept' file sheet =
      kept.0
      ∙ weighted_is_rate a.0.now kept.1 a.1.0.now
      ∙ ap₂ (λ (f : List ℕ) (starts : List ℤ). rate_outcome (read_file f) starts) file sheet
      ∙ sym kept'.0

-- ---- The class call: both rows 64 long

-- What it answers and leaves in the rows, as document 01 says it
pub record Classified (n : Net) (answer : Outcome) (classes weights : List ℕ) : Type 0 where
  pub lengths : (length classes ≡ stop_count) × (length weights ≡ stop_count)
  -- the class row holds for each served stop the lowest stop alike to it, in the words of document 02, A.2 ..
  pub alike : (s : ℕ) → s ≤ max_stop → is_served s n.calls ≡ true → AlikeOfCalls n (get_or classes s 0) s
  pub lowest : (s t : ℕ) → s ≤ max_stop → AlikeOfCalls n t s → get_or classes s 0 ≤ t
  -- .. and 255 if unserved
  pub unserved_is_255 : (s : ℕ) → s ≤ max_stop → is_served s n.calls ≡ false → get_or classes s 0 ≡ unserved
  -- the weight row the size of the class at its lowest stop, 0 elsewhere: how many stops have it for their lowest
  pub weight : (s : ℕ) → s ≤ max_stop → get_or weights s 0 ≡ count_below (λ t. eqb (get_or classes t 0) s) stop_count
  -- the number of classes: how many stops are their own lowest
  pub count : ℕ
  pub answered : answer ≡ values (count ∷ [])
  pub count_is : (count ≡ count_below (λ s. eqb (get_or classes s 0) s) stop_count) × (1 ≤ count) × (count ≤ stop_count)
  -- Demand 3, (5): every choice of whole-number starts rates the same over the lowest stops alone, with their weights, as over all stops
  -- as computed, and over all trips
  pub rates_alike : (starts : List ℤ) → rating_over n starts (lowest_stops classes weights) ≡ rating n starts
  pub is_rated_alike : (starts : List ℤ) {least sum : ℕ} → IsRatingOver n starts (lowest_stops classes weights) least sum ↔ IsRating n starts least sum

pub classified : {n : Net} → Valid n → Classified n (values (class_count n ∷ [])) (class_row n) (weight_row n)
classified {n} valid =
    record {
      lengths = (length_class_row n, length_weight_row n);
      alike = λ s low e. (alike_by_calls n (get_or (class_row n) s 0) s).0 (entry_alike valid s low e);
      lowest = λ s t low a. entry_least valid s low ((alike_by_calls n t s).1 a);
      unserved_is_255 = λ s low. entry_unserved n s low;
      weight = λ s low. weight_counts valid s low;
      count = class_count n;
      answered = refl;
      count_is = (classes_count n, (class_range valid).0, (class_range valid).1);
      rates_alike = lowest_rating n valid;
      is_rated_alike = lowest_is_rating valid;
    }

module _ (κs : Lfts 3) (a : ArgsD classes.signature κs) (r : ResD classes.signature κs)
    (s : AtExit (ended_of 3 classes_kinds.ps classes_kinds.r) κs) (kept : classes_contract.Post κs a r s) where
  pub classes_demand_1 : Demand1 (λ number place. class_answer r ≡ refusal number place) (Refuses a.0.now 17 (Not64 a.1.0.now a.1.1.0.now))
      ((s.1.0.now ≡ a.1.0.now) × (s.1.1.0.now ≡ a.1.1.0.now))
  classes_demand_1 =
      record {
        faulty_is_refused = λ number place f. kept.0 ∙ class_refuses a.0.now a.1.0.now a.1.1.0.now f;
        no_other_is_refused = λ number place e. class_refuses_only a.0.now a.1.0.now a.1.1.0.now (sym kept.0 ∙ e);
        rows_as_found = λ number place e. (
          kept.1.0 ∙ classes_as_found a.0.now a.1.0.now a.1.1.0.now (sym kept.0 ∙ e),
          kept.1.1.0 ∙ weights_as_found a.0.now a.1.0.now a.1.1.0.now (sym kept.0 ∙ e),
        );
      }

  pub classes_demand_3 : {n : Net} → read_file a.0.now ≡ accepted n → length a.1.0.now ≡ stop_count → length a.1.1.0.now ≡ stop_count
      → Classified n (class_answer r) s.1.0.now s.1.1.0.now
  classes_demand_3 {n} reads c w =
      let e = class_answers a.0.now a.1.0.now a.1.1.0.now reads c w in
      rw (kept.0 ∙ e.0, kept.1.0 ∙ e.1, kept.1.1.0 ∙ e.2) (classified (accepted_valid a.0.now n kept.1.1.1 reads))

-- ---- The archive call: a row that is long enough

-- The archive form of an accepted file's network (document 02, A.1 and A.6): its bytes from place to place, and what reading it gives
pub record IsArchive (n : Net) (form : List ℕ) : Type 0 where
  -- no byte states edition 1, and two state any other; no 46, no 56 in edition 1, and in any other its 56 first
  pub edition_length : ℕ
  pub edition_bytes_are : (n.edition ≡ 1 → edition_length ≡ 0) × ((n.edition ≡ 1 → ⊥) → edition_length ≡ 2)
  pub edition_stated : ArchivedEdition n form
  pub length_is : length form ≡ edition_length + 3 * length n.periods + 5 * length n.calls + 1
  pub length_range : (9 ≤ length form) × (length form ≤ 1331)
  pub is_bytes : IsBytes form
  -- reading it gives the same periods, offsets and edition ..
  pub read_back : Net
  pub reads : Gives form (accepted read_back)
  pub same_network : SameNetwork read_back n
  pub as_many_calls : length read_back.calls ≡ length n.calls
  -- .. with the calls by line, then stop, then offset: of two calls the line of the first is smaller; or equal, and the stop smaller; or both are
  -- equal, and the offset no larger
  pub in_order : (j k : ℕ) → j < k → k < length n.calls
      → let c = get_or read_back.calls j no_call in
      let d = get_or read_back.calls k no_call in
      (c.line < d.line)
      ⊎ (((c.line ≡ d.line) × (c.stop < d.stop)) ⊎ ((c.line ≡ d.line) × (c.stop ≡ d.stop) × (c.offset ≤ d.offset)))
  -- lines in order: behind the edition 4C and the period of each ..
  pub lines_stand : (i : ℕ) → i < length n.periods
      → (get_or form (edition_length + 3 * i) 0 ≡ 0x4C) × (word form (edition_length + 3 * i + 1) ≡ get_or n.periods i 0)
  -- .. then the calls in that order, all as 43, with line, stop and offset ..
  pub calls_stand : (k : ℕ) → k < length n.calls
      → (get_or form (edition_length + 3 * length n.periods + 5 * k) 0 ≡ 0x43)
      × (get_or form (edition_length + 3 * length n.periods + 5 * k + 1) 0 ≡ (get_or read_back.calls k no_call).line)
      × (get_or form (edition_length + 3 * length n.periods + 5 * k + 2) 0 ≡ (get_or read_back.calls k no_call).stop)
      × (word form (edition_length + 3 * length n.periods + 5 * k + 3) ≡ (get_or read_back.calls k no_call).offset)
  -- .. then 45
  pub end_stands : get_or form (edition_length + 3 * length n.periods + 5 * length n.calls) 0 ≡ 0x45
  -- the archive form of an archive form is itself
  pub again : archive read_back ≡ form

pub is_archive : {n : Net} → Valid n → IsArchive n (archive n)
unfolding archive_length tidied
is_archive {n} valid =
    record {
      edition_length = length (edition_bytes n.edition);
      edition_bytes_are = length_edition_by_first n.edition;
      edition_stated = archived_edition n;
      length_is = omega (arith, length_archive n, length_edition n.edition);
      length_range = (
        omega (arith, length_archive n, valid.some_line, calls_some valid),
        omega (arith, length_archive n, archive_length_le valid),
      );
      is_bytes = archive_bytes valid;
      read_back = tidied n;
      reads = subst (Gives (archive n)) (read_archive valid) (read_file_gives (archive n));
      same_network = same_tidied n;
      as_many_calls = length_tidy n.calls;
      in_order = λ j k h l. tidy_in_words n.calls j k h (omega (arith, l, length_tidy n.calls));
      lines_stand = archive_line_bytes n;
      calls_stand = archive_call_bytes n;
      end_stands = archive_end_byte n;
      again = archive_tidied n;
    }

-- What the call answers and leaves in the row
pub record Archives (n : Net) (answer : Outcome) (row after : List ℕ) : Type 0 where
  pub form : List ℕ
  pub is_form : IsArchive n form
  pub answered : answer ≡ values (length form ∷ [])
  -- bytes behind it stay
  pub written : after ≡ form ++ drop (length form) row

pub archives : {n : Net} → Valid n → (row : List ℕ) → Archives n (values (archive_length n ∷ [])) row (archive n ++ drop (archive_length n) row)
archives {n} valid row =
    record {
      form = archive n;
      is_form = is_archive valid;
      answered = ap (λ (k : ℕ). values (k ∷ [])) (sym (length_archive n));
      written = ap (λ (k : ℕ). archive n ++ drop k row) (sym (length_archive n));
    }

module _ (κs : Lfts 2) (a : ArgsD archive_call.signature κs) (r : ResD archive_call.signature κs)
    (s : AtExit (ended_of 2 archive_kinds.ps archive_kinds.r) κs) (kept : archive_contract.Post κs a r s) where
  pub archive_demand_1 : Demand1 (λ number place. archive_answer r ≡ refusal number place) (Refuses a.0.now 18 (TooShort a.1.0.now))
      (s.1.0.now ≡ a.1.0.now)
  archive_demand_1 =
      record {
        faulty_is_refused = λ number place f. kept.0 ∙ archive_refuses a.0.now a.1.0.now f;
        no_other_is_refused = λ number place e. archive_refuses_only a.0.now a.1.0.now (sym kept.0 ∙ e);
        rows_as_found = λ number place e. kept.1.0 ∙ archive_row_as_found a.0.now a.1.0.now (sym kept.0 ∙ e);
      }

  pub archive_writes : {n : Net} → read_file a.0.now ≡ accepted n → archive_length n ≤ length a.1.0.now
      → Archives n (archive_answer r) a.1.0.now s.1.0.now
  archive_writes {n} reads room =
      let e = archive_answers a.0.now a.1.0.now reads room in
      rw (kept.0 ∙ e.0, kept.1.0 ∙ e.1) (archives (accepted_valid a.0.now n kept.1.1 reads) a.1.0.now)

-- ---- Two files, by two calls

module _ (κs : Lfts 2) (a : ArgsD archive_call.signature κs) (r : ResD archive_call.signature κs)
    (s : AtExit (ended_of 2 archive_kinds.ps archive_kinds.r) κs) (kept : archive_contract.Post κs a r s) (κs' : Lfts 2)
    (a' : ArgsD archive_call.signature κs') (r' : ResD archive_call.signature κs') (s' : AtExit (ended_of 2 archive_kinds.ps archive_kinds.r) κs')
    (kept' : archive_contract.Post κs' a' r' s') where
  -- Two files have equal archive bytes exactly when their periods, offsets and edition are equal
  pub equal_archives : {m n : Net} → read_file a.0.now ≡ accepted m → read_file a'.0.now ≡ accepted n → archive_length m ≤ length a.1.0.now
      → archive_length n ≤ length a'.1.0.now → (take (archive_length m) s.1.0.now ≡ take (archive_length n) s'.1.0.now) ↔ SameNetwork m n
  equal_archives {m} {n} reads reads' room room' =
      rw (kept.1.0, kept'.1.0)
      (archive_rows_equal a.0.now a.1.0.now kept.1.1 reads room a'.0.now a'.1.0.now kept'.1.1 reads' room')

  -- The archive form of an archive form is itself: lent what the first call wrote, the second answers the same length and writes the same bytes
  pub archive_again : {n : Net} → read_file a.0.now ≡ accepted n → archive_length n ≤ length a.1.0.now
      → a'.0.now ≡ take (archive_length n) s.1.0.now → archive_length n ≤ length a'.1.0.now
      → (archive_answer r' ≡ archive_answer r) × (take (archive_length n) s'.1.0.now ≡ take (archive_length n) s.1.0.now)
  archive_again {n} reads room lent room' =
      let again = archive_of_written a.0.now a.1.0.now kept.1.1 reads room a'.0.now a'.1.0.now
      (lent ∙ ap (take (archive_length n)) kept.1.0) room' in
      (kept'.0 ∙ again.0 ∙ sym kept.0, rw (kept.1.0, kept'.1.0) again.1)

-- Two files with the same periods and offsets, in either edition, a file and its archive form among them, are answered alike
pub alike_of_bytes : (one other : List ℕ) {m n : Net} → IsBytes one → IsBytes other → read_file one ≡ accepted m → read_file other ≡ accepted n
    → SameOffsets m n → AnswersAlike (read_file one) (read_file other)
alike_of_bytes one other {m} {n} bytes bytes' reads reads' same =
    rw (reads, reads') (same_answers_alike (accepted_valid one m bytes reads) (accepted_valid other n bytes' reads') same)

module _ (κs : Lfts 1) (a : ArgsD read.signature κs) (r : ResD read.signature κs) (s : AtExit (ended_of 1 read_kinds.ps read_kinds.r) κs)
    (kept : read_contract.Post κs a r s) (κs' : Lfts 1) (a' : ArgsD read.signature κs') (r' : ResD read.signature κs')
    (s' : AtExit (ended_of 1 read_kinds.ps read_kinds.r) κs') (kept' : read_contract.Post κs' a' r' s') where
  pub same_network_read_alike : {m n : Net} → read_file a.0.now ≡ accepted m → read_file a'.0.now ≡ accepted n → SameOffsets m n
      → read_answer r ≡ read_answer r'
  same_network_read_alike reads reads' same =
      kept.0 ∙ (alike_of_bytes a.0.now a'.0.now kept.1 kept'.1 reads reads' same).read_alike ∙ sym kept'.0

module _ (κs : Lfts 2) (a : ArgsD rate.signature κs) (r : ResD rate.signature κs) (s : AtExit (ended_of 2 rate_kinds.ps rate_kinds.r) κs)
    (kept : rate_contract.Post κs a r s) (κs' : Lfts 2) (a' : ArgsD rate.signature κs') (r' : ResD rate.signature κs')
    (s' : AtExit (ended_of 2 rate_kinds.ps rate_kinds.r) κs') (kept' : rate_contract.Post κs' a' r' s') where
  pub same_network_rated_alike : {m n : Net} → read_file a.0.now ≡ accepted m → read_file a'.0.now ≡ accepted n → SameOffsets m n
      → a.1.0.now ≡ a'.1.0.now → rate_answer r ≡ rate_answer r'
  same_network_rated_alike reads reads' same sheets =
      kept.0
      ∙ (alike_of_bytes a.0.now a'.0.now kept.1 kept'.1 reads reads' same).rate_alike a.1.0.now
      ∙ ap (rate_outcome (read_file a'.0.now)) sheets
      ∙ sym kept'.0

module _ (κs : Lfts 2) (a : ArgsD weighted.signature κs) (r : ResD weighted.signature κs)
    (s : AtExit (ended_of 2 weighted_kinds.ps weighted_kinds.r) κs) (kept : weighted_contract.Post κs a r s) (κs' : Lfts 2)
    (a' : ArgsD weighted.signature κs') (r' : ResD weighted.signature κs') (s' : AtExit (ended_of 2 weighted_kinds.ps weighted_kinds.r) κs')
    (kept' : weighted_contract.Post κs' a' r' s') where
  pub same_network_weighted_alike : {m n : Net} → read_file a.0.now ≡ accepted m → read_file a'.0.now ≡ accepted n → SameOffsets m n
      → a.1.0.now ≡ a'.1.0.now → rate_answer r ≡ rate_answer r'
  same_network_weighted_alike reads reads' same sheets =
      kept.0
      ∙ (alike_of_bytes a.0.now a'.0.now kept.1 kept'.1 reads reads' same).weighted_alike a.1.0.now
      ∙ ap (weighted_outcome (read_file a'.0.now)) sheets
      ∙ sym kept'.0

module _ (κs : Lfts 3) (a : ArgsD classes.signature κs) (r : ResD classes.signature κs)
    (s : AtExit (ended_of 3 classes_kinds.ps classes_kinds.r) κs) (kept : classes_contract.Post κs a r s) (κs' : Lfts 3)
    (a' : ArgsD classes.signature κs') (r' : ResD classes.signature κs') (s' : AtExit (ended_of 3 classes_kinds.ps classes_kinds.r) κs')
    (kept' : classes_contract.Post κs' a' r' s') where
  -- rows of the same content before have the same content afterwards
  pub same_network_classified_alike : {m n : Net} → read_file a.0.now ≡ accepted m → read_file a'.0.now ≡ accepted n → SameOffsets m n
      → a.1.0.now ≡ a'.1.0.now → a.1.1.0.now ≡ a'.1.1.0.now
      → (class_answer r ≡ class_answer r') × (s.1.0.now ≡ s'.1.0.now) × (s.1.1.0.now ≡ s'.1.1.0.now)
  same_network_classified_alike reads reads' same rows weights =
      let alike = alike_of_bytes a.0.now a'.0.now kept.1.1.1 kept'.1.1.1 reads reads' same in
      let there = read_file a'.0.now in (
        kept.0
            ∙ alike.classes_alike (length a.1.0.now) (length a.1.1.0.now)
            ∙ ap₂ (λ (c w : List ℕ). class_outcome there (length c) (length w)) rows weights
            ∙ sym kept'.0,
        kept.1.0 ∙ alike.class_row_alike a.1.0.now a.1.1.0.now ∙ ap₂ (class_row_after there) rows weights ∙ sym kept'.1.0,
        kept.1.1.0 ∙ alike.weight_row_alike a.1.0.now a.1.1.0.now ∙ ap₂ (weight_row_after there) rows weights ∙ sym kept'.1.1.0,
      )
