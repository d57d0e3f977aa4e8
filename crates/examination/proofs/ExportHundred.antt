-- Document 02, A.5, said of what a host sees: the export of a mark out of a hundred returns and answers as that of mark, with mark and remainder in a
-- row of their own, and the export by a key has the same two numbers beside the starts of a finished search. Of the search nothing is cited but its
-- optimality, when it refuses, the range of its numbers and starts, and that its answer is its walk's, as a mark's is. Each theorem holds of every call
-- that has returned, where it keeps the contract in src/exports.rt, which every call does. Assumes nothing.
use Prim.Native.Nat.{ℕ, ◌*◌, ◌<◌, ◌≤◌}
use mathlib.Core.Path.{◌≡◌, refl, sym, ap, ap₂, ◌∙◌}
use mathlib.Core.Bool.{Bool, true, false}
use mathlib.Core.List.{List, [], ◌∷◌}
use mathlib.Core.Logic.{◌⊎◌, inl, inr, ◌↔◌}
use native.Mathlib.Omega.{arith}
use borrow.Author.Tests.{eqb-true, eqb-false, eq-eqb}
use borrow.Fn.World.{ArgsD, ResD}
use borrow.Fn.Kinds.{ended_of}
use contract.Lifetimes.{Lfts}
use denote.Triple.Clauses.{AtExit}
use lib.Dec.{eqb}
use lib.IntN.{ℤ, pos}
use lib.ListN.{length, get_or}
use Rattle.network.specs.Network.{Net}
use Rattle.network.specs.Reading.{values, refusal, accepted, read_file}
use Rattle.network.specs.Refusals.{Refuses, after_file, Demand1}
use Rattle.network.specs.Rating.{IsRating}
use Rattle.network.specs.Valid.{Valid}
use Rattle.network.proofs.Laws.Gaps.{accepted_valid, IsRating-range}
use Rattle.search.specs.Search.{searched}
use Rattle.search.proofs.Demands.{WalkedStarts}
use Rattle.examination.specs.Bytes.{starts, In32, All32, bytes_of, IsSheet, bytes_fit, mark_bytes, key_bytes, BytesFit, BytesUnfit, EitherBytesUnfit}
use Rattle.examination.specs.ByKey.{beside_key}
use Rattle.examination.specs.Exports.{TellsRefusal, refusal_code, mark_status, mark_row, hundred_row}
use Rattle.examination.specs.Hundred.{mark_of, remainder_of, PairBelow}
use Rattle.examination.specs.Sheets.{MarkOutcome, decided, undecided}
use Rattle.examination.specs.Sheets as sheets
use Rattle.examination.proofs.Codes.{export_demand_1, status_tells, status_returns, status_code, mark_status_tells, mark_status_returns}
use Rattle.examination.proofs.Codes.{mark_status_code}
use Rattle.examination.proofs.ExportDemands.{own_ground_range, row_as_found, answered}
use Rattle.examination.proofs.ExportSearch.{HallMark, hall_mark_of, mark_told, mark_row_as_found, fit_answers}
use Rattle.examination.proofs.ExportSearch.{HallSearch, search_export_demand_1, search_export_demand_3}
use Rattle.examination.proofs.ExportSearch.{HallWalk, search_export_demand_2, HallBeside, hall_beside}
use Rattle.examination.proofs.HundredMark.{Divided, divided, MarkOutOfHundred, out_of_hundred, marked_out_of_hundred, one_best, ranked, beside_key_is}
use Rattle.examination.proofs.Laws.Bytes.{length_starts_fit}
use Rattle.examination.proofs.Laws.Hundred.{ranks}
use Rattle.examination.proofs.Laws.Refusals.{mark_bytes_refuse, mark_bytes_refuse_only, mark_refuses_only, refuses_range}
use Rattle.examination.proofs.Laws.Refusals.{key_bytes_refuse, key_bytes_refuse_only, decided_bytes_accepted, decided_on_starts}
use Rattle.examination.proofs.Mark.{MarkMeans, mark_means, neither_above, least_not_above}
use Rattle.examination.proofs.SheetBytes.{all32, starts_of_lent, length_of_lent, bytes_are_a_sheet}
use Rattle.examination.specs.contracts.exports.examination_search as searching
use Rattle.examination.proofs.exports.examination_search.Kinds as search_kinds
use Rattle.examination.proofs.exports.examination_search.Reads as search_contract
use Rattle.examination.specs.contracts.exports.examination_mark as mark
use Rattle.examination.proofs.exports.examination_mark.Kinds as mark_kinds
use Rattle.examination.proofs.exports.examination_mark.Reads as mark_contract
use Rattle.examination.specs.contracts.exports.examination_hundred as hundred
use Rattle.examination.proofs.exports.examination_hundred.Kinds as hundred_kinds
use Rattle.examination.proofs.exports.examination_hundred.Reads as hundred_contract
use Rattle.examination.specs.contracts.exports.examination_by_key as by_key
use Rattle.examination.proofs.exports.examination_by_key.Kinds as by_key_kinds
use Rattle.examination.proofs.exports.examination_by_key.Reads as by_key_contract

-- ---- Both exports may be called: neither asks anything of what is lent

pub hundred_export_asks_nothing : (κs : Lfts 4) (a : ArgsD hundred.signature κs) → hundred_contract.Pre κs a
hundred_export_asks_nothing κs a = tt

pub by_key_export_asks_nothing : (κs : Lfts 4) (a : ArgsD by_key.signature κs) → by_key_contract.Pre κs a
by_key_export_asks_nothing κs a = tt

-- ---- A mark out of a hundred

-- What the hall sees of it on an accepted file and a sheet with one start for each line
pub record HallHundred (n : Net) (sheet : List ℤ) (budget returned : ℕ) (answer hundred : List ℕ) : Type 0 where
  -- return value and six numbers are a mark's
  pub marked : HallMark n sheet budget returned answer
  -- decided: mark and remainder, of the sheet's least gap beside the best one
  pub decided_has_a_mark : returned ≡ 0 → MarkOutOfHundred (get_or answer 0 0) (get_or answer 2 0) (get_or hundred 0 0) (get_or hundred 1 0)
  -- undecided: none, which is 0 in both places
  pub undecided_has_none : returned ≡ 1 → (get_or hundred 0 0 ≡ 0) × (get_or hundred 1 0 ≡ 0)
  pub two_numbers : length hundred ≡ 2

decided_numbers : {n : Net} {sheet : List ℤ} {budget : ℕ} (o : MarkOutcome) (before before' : List ℕ)
    → ((number place : ℕ) → o ≡ sheets.refusal number place → ⊥) → MarkMeans n sheet budget o → mark_status o ≡ 0
    → MarkOutOfHundred (get_or (mark_row o before) 0 0) (get_or (mark_row o before) 2 0) (get_or (hundred_row o before') 0 0) (get_or (hundred_row o before') 1 0)
unfolding mark_status mark_row hundred_row
decided_numbers (decided l u m v b q r t) before before' answers d e = marked_out_of_hundred d refl
decided_numbers (undecided l u t) before before' answers d e = absurd (omega (arith, e))
decided_numbers (sheets.refusal number place) before before' answers d e = absurd (answers number place refl)

undecided_numbers : (o : MarkOutcome) (before : List ℕ) → ((number place : ℕ) → o ≡ sheets.refusal number place → ⊥) → mark_status o ≡ 1
    → (get_or (hundred_row o before) 0 0 ≡ 0) × (get_or (hundred_row o before) 1 0 ≡ 0)
unfolding mark_status hundred_row
undecided_numbers (decided l u m v b q r t) before answers e = absurd (omega (arith, e))
undecided_numbers (undecided l u t) before answers e = (refl, refl)
undecided_numbers (sheets.refusal number place) before answers e = absurd (answers number place refl)

two_in_the_row : (o : MarkOutcome) (before : List ℕ) → ((number place : ℕ) → o ≡ sheets.refusal number place → ⊥)
    → length (hundred_row o before) ≡ 2
unfolding hundred_row
two_in_the_row (decided l u m v b q r t) before answers = refl
two_in_the_row (undecided l u t) before answers = refl
two_in_the_row (sheets.refusal number place) before answers = absurd (answers number place refl)

hundred_row_as_found : {o : MarkOutcome} {number place : ℕ} (row : List ℕ) → o ≡ sheets.refusal number place → hundred_row o row ≡ row
unfolding hundred_row
hundred_row_as_found row e = rw e refl

module _ (κs : Lfts 4) (a : ArgsD hundred.signature κs) (r : ResD hundred.signature κs) (s : AtExit (ended_of 4 hundred_kinds.ps hundred_kinds.r) κs)
    (kept : hundred_contract.Post κs a r s) where
  -- It refuses as mark does, and then leaves both rows
  pub hundred_export_demand_1 : Demand1 (TellsRefusal r) (Refuses a.0.now 15 (BytesUnfit a.1.0.now))
      ((s.1.1.1.0.now ≡ a.1.1.1.0.now) × (s.1.1.1.1.0.now ≡ a.1.1.1.1.0.now))
  hundred_export_demand_1 =
      export_demand_1
      (record {
        faulty_is_refused = λ number place f. mark_bytes_refuse a.0.now kept.1.1.1.0 a.1.0.now a.1.1.0 f;
        no_other_is_refused = λ number place e. mark_bytes_refuse_only a.0.now kept.1.1.1.0 a.1.0.now a.1.1.0 e;
        rows_as_found = λ number place e. (
          kept.1.0 ∙ mark_row_as_found a.1.1.1.0.now e,
          kept.1.1.0 ∙ hundred_row_as_found a.1.1.1.1.0.now e,
        );
      })
      (own_ground_range (omega arith) (omega arith)) (mark_status_code kept.0) (mark_status_tells _ kept.0)

  -- It returns 0, 1 or a refusal, whatever is lent
  pub hundred_export_returns : (r ≡ 0) ⊎ ((r ≡ 1) ⊎ ((number : ℕ) × (place : ℕ) × TellsRefusal r number place))
  hundred_export_returns = go (mark_status_returns (mark_bytes a.1.1.0 (read_file a.0.now) a.1.0.now) kept.0)
    where
      go : (r ≡ 0) ⊎ ((r ≡ 1) ⊎ ((number : ℕ) × (place : ℕ) × (mark_bytes a.1.1.0 (read_file a.0.now) a.1.0.now ≡ sheets.refusal number place)))
          → (r ≡ 0) ⊎ ((r ≡ 1) ⊎ ((number : ℕ) × (place : ℕ) × TellsRefusal r number place))
      go (inl e) = inl e
      go (inr (inl e)) = inr (inl e)
      go (inr (inr (number, place, e))) =
          inr
          (inr (
            number,
            place,
            hundred_export_demand_1.faulty_is_refused number place (mark_bytes_refuse_only a.0.now kept.1.1.1.0 a.1.0.now a.1.1.0 e),
          ))

  -- It returns what the export of mark does, and leaves the same in rows of six places that were the same
  pub hundred_export_as_mark : (κs' : Lfts 3) (a' : ArgsD mark.signature κs') (r' : ResD mark.signature κs')
      (s' : AtExit (ended_of 3 mark_kinds.ps mark_kinds.r) κs') → mark_contract.Post κs' a' r' s'
      → a.0.now ≡ a'.0.now → a.1.0.now ≡ a'.1.0.now → a.1.1.0 ≡ a'.1.1.0
      → (r ≡ r') × (a.1.1.1.0.now ≡ a'.1.1.1.0.now → s.1.1.1.0.now ≡ s'.1.1.1.0.now)
  hundred_export_as_mark κs' a' r' s' kept' file sheet budget =
      let same : mark_bytes a.1.1.0 (read_file a.0.now) a.1.0.now ≡ mark_bytes a'.1.1.0 (read_file a'.0.now) a'.1.0.now =
      ap (λ (k : ℕ). mark_bytes k (read_file a.0.now) a.1.0.now) budget
      ∙ ap₂ (λ (f b : List ℕ). mark_bytes a'.1.1.0 (read_file f) b) file sheet in
      (kept.0 ∙ ap mark_status same ∙ sym kept'.0, λ row. kept.1.0 ∙ ap₂ mark_row same row ∙ sym kept'.1.0)

  -- Whatever 4 bytes for each line are lent, they are a sheet's
  pub hundred_export_sheet : {lines : ℕ} → length a.1.0.now ≡ 4 * lines → IsSheet lines a.1.0.now
  hundred_export_sheet = bytes_are_a_sheet kept.1.1.1.1

  -- What it means, of the sheet whose bytes are lent
  pub hundred_export_means : {n : Net} → read_file a.0.now ≡ accepted n → BytesFit a.1.0.now n
      → HallHundred n (starts a.1.0.now) a.1.1.0 r s.1.1.1.0.now s.1.1.1.1.0.now
  hundred_export_means {n} reads fit =
      let sheet = starts a.1.0.now in
      let one_for_each = length_starts_fit a.1.0.now fit in
      let o : MarkOutcome = mark_bytes a.1.1.0 (read_file a.0.now) a.1.0.now in
      let told = mark_told a.0.now reads a.1.0.now fit a.1.1.0 in
      let means : MarkMeans n sheet a.1.1.0 o = mark_means (record { bytes = kept.1.1.1.0; answered = told }) reads in
      let answers : (number place : ℕ) → o ≡ sheets.refusal number place → ⊥ =
      λ number place e. fit_answers sheet reads one_for_each (mark_refuses_only a.0.now sheet a.1.1.0 kept.1.1.1.0 (sym told ∙ e)) in
      record {
        marked = hall_mark_of a.0.now kept.1.1.1.0 reads a.1.0.now fit a.1.1.0 a.1.1.1.0.now kept.0 kept.1.0;
        decided_has_a_mark = λ e.
            rw (kept.1.0, kept.1.1.0) (decided_numbers o a.1.1.1.0.now a.1.1.1.1.0.now answers means (sym kept.0 ∙ e));
        undecided_has_none = λ e. rw kept.1.1.0 (undecided_numbers o a.1.1.1.1.0.now answers (sym kept.0 ∙ e));
        two_numbers = ap length kept.1.1.0 ∙ two_in_the_row o a.1.1.1.1.0.now answers;
      }

  -- Beside a search of one file with one budget, as a mark
  pub hundred_export_beside_search : (κs' : Lfts 3) (a' : ArgsD searching.signature κs') (r' : ResD searching.signature κs')
      (s' : AtExit (ended_of 3 search_kinds.ps search_kinds.r) κs') → search_contract.Post κs' a' r' s'
      → a.0.now ≡ a'.0.now → a.1.1.0 ≡ a'.1.1.0 → {n : Net} → read_file a.0.now ≡ accepted n
      → BytesFit a.1.0.now n → length a'.1.0.now ≡ length n.periods → HallBeside r s.1.1.1.0.now r' s'.1.1.1.0.now
  hundred_export_beside_search κs' a' r' s' kept' file budget {n} reads fits row_fits =
      let found : HallWalk (searched n a.1.1.0) a'.1.0.now r' s'.1.1.1.0.now s'.1.0.now
      = rw budget (search_export_demand_2 κs' a' r' s' kept' (ap read_file (sym file) ∙ reads) row_fits) in
      hall_beside (hundred_export_means reads fits).marked found

-- ---- Of two decided markings

-- What is known of a decided one, whatever bytes are lent
record DecidedSeen (n : Net) (file sheet : List ℕ) (budget : ℕ) (answer hundred : List ℕ) : Type 0 where
  least : ℕ
  sum : ℕ
  best_least : ℕ
  best_sum : ℕ
  equal : Bool
  its_mark : ℕ
  its_remainder : ℕ
  tries : ℕ
  is : mark_bytes budget (read_file file) sheet ≡ decided least sum best_least best_sum equal its_mark its_remainder tries
  fits : length sheet ≡ 4 * length n.periods
  means : MarkMeans n (starts sheet) budget (mark_bytes budget (read_file file) sheet)
  has_least : get_or answer 0 0 ≡ least
  has_best : get_or answer 2 0 ≡ best_least
  has_pair : hundred ≡ its_mark ∷ its_remainder ∷ []

decided_of_zero : (o : MarkOutcome) → ((number place : ℕ) → o ≡ sheets.refusal number place → 1 ≤ number) → mark_status o ≡ 0
    → (least : ℕ) × (sum : ℕ) × (best_least : ℕ) × (best_sum : ℕ) × (equal : Bool) × (mark : ℕ) × (remainder : ℕ) × (tries : ℕ)
    × (o ≡ decided least sum best_least best_sum equal mark remainder tries)
unfolding mark_status refusal_code
decided_of_zero (decided l u m v b q r t) some e = (l, u, m, v, b, q, r, t, refl)
decided_of_zero (undecided l u t) some e = absurd (omega (arith, e))
decided_of_zero (sheets.refusal number place) some e = absurd (omega (arith, e, some number place refl))

place : (i : ℕ) {row row' : List ℕ} → row ≡ row' → get_or row i 0 ≡ get_or row' i 0
place i e = ap (λ (row : List ℕ). get_or row i 0) e

decided_rows : {o : MarkOutcome} {l u m v : ℕ} {b : Bool} {q r t : ℕ} (before before' : List ℕ) → o ≡ decided l u m v b q r t
    → (get_or (mark_row o before) 0 0 ≡ l) × (get_or (mark_row o before) 2 0 ≡ m) × (hundred_row o before' ≡ q ∷ r ∷ [])
unfolding mark_row hundred_row
decided_rows before before' e = rw e (refl, refl, refl)

module _ (κs : Lfts 4) (a : ArgsD hundred.signature κs) (r : ResD hundred.signature κs) (s : AtExit (ended_of 4 hundred_kinds.ps hundred_kinds.r) κs)
    (kept : hundred_contract.Post κs a r s) (ends : r ≡ 0) where
  outcome_is : (least : ℕ) × (sum : ℕ) × (best_least : ℕ) × (best_sum : ℕ) × (equal : Bool) × (mark : ℕ) × (remainder : ℕ) × (tries : ℕ)
      × (mark_bytes a.1.1.0 (read_file a.0.now) a.1.0.now ≡ decided least sum best_least best_sum equal mark remainder tries)
  outcome_is =
      decided_of_zero (mark_bytes a.1.1.0 (read_file a.0.now) a.1.0.now)
      (λ number place e.
      (refuses_range (mark_bytes_refuse_only a.0.now kept.1.1.1.0 a.1.0.now a.1.1.0 e) (omega arith) (omega arith)).0)
      (sym kept.0 ∙ ends)

  decided_reads : (n : Net) × (read_file a.0.now ≡ accepted n)
  decided_reads = let (l, u, m, v, b, q, p, t, is) = outcome_is in decided_bytes_accepted a.1.1.0 a.1.0.now (read_file a.0.now) is

  seen : {n : Net} → read_file a.0.now ≡ accepted n
      → DecidedSeen n a.0.now a.1.0.now a.1.1.0 s.1.1.1.0.now s.1.1.1.1.0.now
  seen {n} reads =
      let (l, u, m, v, b, q, p, t, is) = outcome_is in
      let on_starts = decided_on_starts a.1.1.0 a.1.0.now reads is in
      let rows = decided_rows a.1.1.1.0.now a.1.1.1.1.0.now is in
      record {
        least = l;
        sum = u;
        best_least = m;
        best_sum = v;
        equal = b;
        its_mark = q;
        its_remainder = p;
        tries = t;
        is = is;
        fits = on_starts.0;
        means = mark_means (record { bytes = kept.1.1.1.0; answered = on_starts.1 }) reads;
        has_least = ap (λ (row : List ℕ). get_or row 0 0) kept.1.0 ∙ rows.0;
        has_best = ap (λ (row : List ℕ). get_or row 2 0) kept.1.0 ∙ rows.1;
        has_pair = kept.1.1.0 ∙ rows.2;
      }

module _ (κs : Lfts 4) (a : ArgsD hundred.signature κs) (r : ResD hundred.signature κs) (s : AtExit (ended_of 4 hundred_kinds.ps hundred_kinds.r) κs)
    (kept : hundred_contract.Post κs a r s) (ends : r ≡ 0) where
  -- On one file, whatever the sheets and budgets: the best is one, and the smaller least gap has the smaller pair
  pub hundred_export_ranks : (κs' : Lfts 4) (a' : ArgsD hundred.signature κs') (r' : ResD hundred.signature κs')
      (s' : AtExit (ended_of 4 hundred_kinds.ps hundred_kinds.r) κs') → hundred_contract.Post κs' a' r' s' → r' ≡ 0 → a.0.now ≡ a'.0.now
      → (get_or s.1.1.1.0.now 2 0 ≡ get_or s'.1.1.1.0.now 2 0)
      × ((get_or s.1.1.1.0.now 0 0 < get_or s'.1.1.1.0.now 0 0)
      ↔ PairBelow (get_or s.1.1.1.1.0.now 0 0) (get_or s.1.1.1.1.0.now 1 0) (get_or s'.1.1.1.1.0.now 0 0) (get_or s'.1.1.1.1.0.now 1 0))
  hundred_export_ranks κs' a' r' s' kept' ends' file =
      let (n, reads) = decided_reads κs a r s kept ends in
      let one = seen κs a r s kept ends reads in
      let other = seen κs' a' r' s' kept' ends' (sym (ap read_file file) ∙ reads) in (
        one.has_best ∙ (one_best one.means one.is other.means other.is).0 ∙ sym other.has_best,
        rw (one.has_least, other.has_least, place 0 one.has_pair, place 1 one.has_pair, place 0 other.has_pair, place 1 other.has_pair)
            (ranked one.means one.is other.means other.is),
      )

-- ---- By a key

-- Where the file is accepted and both sheets' bytes fit, it answers by their starts
key_told : (file : List ℕ) {n : Net} → read_file file ≡ accepted n → (sheet key : List ℕ) → length sheet ≡ 4 * length n.periods
    → length key ≡ 4 * length n.periods → key_bytes (read_file file) sheet key ≡ beside_key n (starts sheet) (starts key)
unfolding key_bytes bytes_fit
key_told file reads sheet key fit fit' = rw (reads, eq-eqb _ _ fit, eq-eqb _ _ fit') refl

same_values : {vs ws : List ℕ} → values vs ≡ values ws → vs ≡ ws
same_values e = cc

module _ (κs : Lfts 4) (a : ArgsD by_key.signature κs) (r : ResD by_key.signature κs) (s : AtExit (ended_of 4 by_key_kinds.ps by_key_kinds.r) κs)
    (kept : by_key_contract.Post κs a r s) where
  -- It refuses by the file's ground, then by 15 where the sheet's bytes or the key's don't fit, and by nothing else
  pub by_key_export_demand_1 : Demand1 (TellsRefusal r) (Refuses a.0.now 15 (EitherBytesUnfit a.1.0.now a.1.1.0.now))
      (s.1.1.1.0.now ≡ a.1.1.1.0.now)
  by_key_export_demand_1 =
      export_demand_1
      (record {
        faulty_is_refused = λ number place f. key_bytes_refuse a.0.now kept.1.1.0 a.1.0.now a.1.1.0.now f;
        no_other_is_refused = λ number place e. key_bytes_refuse_only a.0.now kept.1.1.0 a.1.0.now a.1.1.0.now e;
        rows_as_found = λ number place e. kept.1.0 ∙ row_as_found a.1.1.1.0.now e;
      })
      (own_ground_range (omega arith) (omega arith)) (status_code kept.0) (status_tells _ kept.0)

  -- It returns 0 or a refusal, whatever is lent
  pub by_key_export_returns : (r ≡ 0) ⊎ ((number : ℕ) × (place : ℕ) × TellsRefusal r number place)
  by_key_export_returns = go (status_returns (key_bytes (read_file a.0.now) a.1.0.now a.1.1.0.now) kept.0)
    where
      go : (r ≡ 0) ⊎ ((number : ℕ) × (place : ℕ) × (key_bytes (read_file a.0.now) a.1.0.now a.1.1.0.now ≡ refusal number place))
          → (r ≡ 0) ⊎ ((number : ℕ) × (place : ℕ) × TellsRefusal r number place)
      go (inl e) = inl e
      go (inr (number, place, e)) =
          inr (
            number,
            place,
            by_key_export_demand_1.faulty_is_refused number place (key_bytes_refuse_only a.0.now kept.1.1.0 a.1.0.now a.1.1.0.now e),
          )

  -- Whatever 4 bytes for each line are lent, they are a sheet's
  pub by_key_export_sheets : (lines : ℕ) → (length a.1.0.now ≡ 4 * lines → IsSheet lines a.1.0.now)
      × (length a.1.1.0.now ≡ 4 * lines → IsSheet lines a.1.1.0.now)
  by_key_export_sheets lines = (bytes_are_a_sheet kept.1.1.1.0, bytes_are_a_sheet kept.1.1.1.1)

  module _ {n : Net} (reads : read_file a.0.now ≡ accepted n) (fits : BytesFit a.1.0.now n) (key_fits : BytesFit a.1.1.0.now n) where
    valid : Valid n
    valid = accepted_valid a.0.now n kept.1.1.0 reads

    told : {least sum best best_sum : ℕ} → IsRating n (starts a.1.0.now) least sum → IsRating n (starts a.1.1.0.now) best best_sum
        → (r ≡ 0) × (s.1.1.1.0.now ≡ mark_of least best ∷ remainder_of least best ∷ [])
    told p q =
        let is = key_told a.0.now reads a.1.0.now a.1.1.0.now fits key_fits ∙ beside_key_is valid p q in
        let (e, row) = answered a.1.1.1.0.now kept.0 kept.1.0 is in
        (e, same_values (row ∙ is))

    -- It divides the least gap of the sheet whose bytes are lent by that of the key whose bytes are, both over all trips; the row has two places
    pub by_key_export_divides : {least sum best best_sum : ℕ} → IsRating n (starts a.1.0.now) least sum
        → IsRating n (starts a.1.1.0.now) best best_sum
        → (r ≡ 0)
        × (length s.1.1.1.0.now ≡ 2)
        × Divided least best (get_or s.1.1.1.0.now 0 0) (get_or s.1.1.1.0.now 1 0)
    by_key_export_divides {least} {sum} {best} {best_sum} p q =
        let (e, row) = told p q in (e, ap length row, rw row (divided least best (IsRating-range valid p).0 (IsRating-range valid q).0))

-- ---- A hall's sheets by one search

-- Starts that the walk tries have 32 bits
walked_in32 : {n : Net} {starts : List ℤ} → WalkedStarts n starts → All32 starts
walked_in32 {n} {starts} w = all32 starts each
  where
    each : (i : ℕ) → i < length starts → In32 (get_or starts i (pos 0))
    each i h = let (x, is, below, most) = w.below_period i (omega (arith, h, w.one_for_each_line)) in rw is (omega (arith, below, most))

-- What is lent to the export by a key where it marks a sheet of this least gap on this file, beside these starts: file, sheet and key
pub record SheetBeside (n : Net) (file : List ℕ) (key : List ℤ) (least : ℕ) (file_bytes sheet_bytes key_bytes_lent : List ℕ) : Type 0 where
  pub on_file : file ≡ file_bytes
  pub key_lent : key_bytes_lent ≡ bytes_of key
  pub fit : BytesFit sheet_bytes n
  pub sum : ℕ
  pub rated : IsRating n (starts sheet_bytes) least sum

-- A search that finishes has a start row that fits
finished_fits : (κs : Lfts 3) (a : ArgsD searching.signature κs) (r : ResD searching.signature κs)
    (s : AtExit (ended_of 3 search_kinds.ps search_kinds.r) κs) → search_contract.Post κs a r s → r ≡ 0 → {n : Net} → read_file a.0.now ≡ accepted n
    → length a.1.0.now ≡ length n.periods
finished_fits κs a r s kept ends {n} reads = go (eqb (length a.1.0.now) (length n.periods)) refl
  where
    go : (b : Bool) → eqb (length a.1.0.now) (length n.periods) ≡ b → length a.1.0.now ≡ length n.periods
    go true e = eqb-true _ _ e
    go false e =
        let tells = (search_export_demand_1 κs a r s kept).faulty_is_refused 16 0 (after_file reads (eqb-false _ _ e)) in
        absurd (omega (arith, tells.0, ends))

module _ (κs : Lfts 3) (a : ArgsD searching.signature κs) (r : ResD searching.signature κs)
    (s : AtExit (ended_of 3 search_kinds.ps search_kinds.r) κs) (kept : search_contract.Post κs a r s) (finished : r ≡ 0) {n : Net}
    (reads : read_file a.0.now ≡ accepted n) where
  hall : HallSearch n a.1.0.now a.1.1.0 r s.1.1.1.0.now s.1.0.now
  hall = search_export_demand_3 κs a r s kept reads (finished_fits κs a r s kept finished reads)

  -- What the export by a key leaves beside the starts of that search, of whatever bytes of a sheet that fit
  beside_search : (κs' : Lfts 4) (a' : ArgsD by_key.signature κs') (r' : ResD by_key.signature κs')
      (s' : AtExit (ended_of 4 by_key_kinds.ps by_key_kinds.r) κs') → by_key_contract.Post κs' a' r' s' → a.0.now ≡ a'.0.now
      → a'.1.1.0.now ≡ bytes_of s.1.0.now → BytesFit a'.1.0.now n → {least sum : ℕ}
      → IsRating n (starts a'.1.0.now) least sum
      → (r' ≡ 0)
      × (s'.1.1.1.0.now ≡ mark_of least (get_or s.1.1.1.0.now 0 0) ∷ remainder_of least (get_or s.1.1.1.0.now 0 0) ∷ [])
  beside_search κs' a' r' s' kept' file key_lent fits p =
      let (key_fits, key_rated) = hall.finished_has_its_rating finished in
      let q : IsRating n (starts a'.1.1.0.now) (get_or s.1.1.1.0.now 0 0) (get_or s.1.1.1.0.now 1 0)
      = rw (starts_of_lent s.1.0.now key_lent (walked_in32 (hall.starts_in_range (inl finished)))) key_rated in
      told κs' a' r' s' kept' (sym (ap read_file file) ∙ reads) fits (length_of_lent s.1.0.now key_lent key_fits) p q

  module _ (κs' : Lfts 4) (a' : ArgsD by_key.signature κs') (r' : ResD by_key.signature κs')
      (s' : AtExit (ended_of 4 by_key_kinds.ps by_key_kinds.r) κs') (kept' : by_key_contract.Post κs' a' r' s') {least : ℕ}
      (is : SheetBeside n a.0.now s.1.0.now least a'.0.now a'.1.0.now a'.1.1.0.now) where
    not_above : least ≤ get_or s.1.1.1.0.now 0 0
    not_above = least_not_above (hall.finished_is_best finished (starts a'.1.0.now) (length_starts_fit a'.1.0.now is.fit) is.rated)

    row_is : (r' ≡ 0) × (s'.1.1.1.0.now ≡ mark_of least (get_or s.1.1.1.0.now 0 0) ∷ remainder_of least (get_or s.1.1.1.0.now 0 0) ∷ [])
    row_is = beside_search κs' a' r' s' kept' is.on_file is.key_lent is.fit is.rated

    -- Beside the starts of a finished search a sheet has its mark out of a hundred, by the best least gap that the search reports; the row has two places
    pub by_key_export_of_search : (r' ≡ 0)
        × (length s'.1.1.1.0.now ≡ 2)
        × MarkOutOfHundred least (get_or s.1.1.1.0.now 0 0) (get_or s'.1.1.1.0.now 0 0) (get_or s'.1.1.1.0.now 1 0)
    by_key_export_of_search = (
      row_is.0,
      ap length row_is.1,
      rw (place 0 row_is.1, place 1 row_is.1) (out_of_hundred least (get_or s.1.1.1.0.now 0 0) not_above hall.ranges.0),
    )

  -- .. and of two sheets the smaller least gap has the smaller pair
  pub by_key_export_ranks : (κs' : Lfts 4) (a' : ArgsD by_key.signature κs') (r' : ResD by_key.signature κs')
      (s' : AtExit (ended_of 4 by_key_kinds.ps by_key_kinds.r) κs') → by_key_contract.Post κs' a' r' s' → {least : ℕ}
      → SheetBeside n a.0.now s.1.0.now least a'.0.now a'.1.0.now a'.1.1.0.now
      → (κs'' : Lfts 4) (a'' : ArgsD by_key.signature κs'') (r'' : ResD by_key.signature κs'')
      (s'' : AtExit (ended_of 4 by_key_kinds.ps by_key_kinds.r) κs'') → by_key_contract.Post κs'' a'' r'' s'' → {least' : ℕ}
      → SheetBeside n a.0.now s.1.0.now least' a''.0.now a''.1.0.now a''.1.1.0.now
      → (least < least')
      ↔ PairBelow (get_or s'.1.1.1.0.now 0 0) (get_or s'.1.1.1.0.now 1 0) (get_or s''.1.1.1.0.now 0 0) (get_or s''.1.1.1.0.now 1 0)
  by_key_export_ranks κs' a' r' s' kept' {least} is κs'' a'' r'' s'' kept'' {least'} is' =
      let one = (row_is κs' a' r' s' kept' is).1 in
      let other = (row_is κs'' a'' r'' s'' kept'' is').1 in
      rw (place 0 one, place 1 one, place 0 other, place 1 other)
      (ranks least least' (get_or s.1.1.1.0.now 0 0) (not_above κs' a' r' s' kept' is) (not_above κs'' a'' r'' s'' kept'' is'))

-- Beside the starts of a finished search, whatever its budget, the export by a key leaves in its row what the export of a mark out of a hundred
-- leaves there for a decided marking of the sheet, whatever the budget of that
module _ (κs : Lfts 3) (a : ArgsD searching.signature κs) (r : ResD searching.signature κs)
    (s : AtExit (ended_of 3 search_kinds.ps search_kinds.r) κs) (kept : search_contract.Post κs a r s) (finished : r ≡ 0) (κs' : Lfts 4)
    (a' : ArgsD hundred.signature κs') (r' : ResD hundred.signature κs') (s' : AtExit (ended_of 4 hundred_kinds.ps hundred_kinds.r) κs')
    (kept' : hundred_contract.Post κs' a' r' s') (is_decided : r' ≡ 0) (κs'' : Lfts 4) (a'' : ArgsD by_key.signature κs'')
    (r'' : ResD by_key.signature κs'') (s'' : AtExit (ended_of 4 by_key_kinds.ps by_key_kinds.r) κs'') (kept'' : by_key_contract.Post κs'' a'' r'' s'') where
  pub by_key_export_as_mark : a.0.now ≡ a''.0.now → a'.0.now ≡ a''.0.now → a'.1.0.now ≡ a''.1.0.now
      → a''.1.1.0.now ≡ bytes_of s.1.0.now → (r'' ≡ 0) × (s''.1.1.1.0.now ≡ s'.1.1.1.1.0.now)
  by_key_export_as_mark file file' sheet lent =
      let (n, reads') = decided_reads κs' a' r' s' kept' is_decided in
      let one = seen κs' a' r' s' kept' is_decided reads' in
      let reads : read_file a.0.now ≡ accepted n = ap read_file (file ∙ sym file') ∙ reads' in
      let found = hall κs a r s kept finished reads in
      let (key_fits, key_rated) = found.finished_has_its_rating finished in
      let (best, best_fits, best_rated) = one.means.best_is_attained one.is in
      let same : get_or s.1.1.1.0.now 0 0 ≡ one.best_least =
      (neither_above (one.means.best_is_unbeaten one.is s.1.0.now key_fits key_rated) (found.finished_is_best finished best best_fits best_rated)).0 in
      let p : IsRating n (starts a''.1.0.now) one.least one.sum = rw (← sheet) (one.means.decided_rating one.is) in
      let (e, row) = beside_search κs a r s kept finished reads κs'' a'' r'' s'' kept'' file lent (ap length (sym sheet) ∙ one.fits) p in
      let m = one.means.mark_is one.is in (
        e,
        row
            ∙ ap (λ (k : ℕ). mark_of one.least k ∷ remainder_of one.least k ∷ []) same
            ∙ sym (one.has_pair ∙ ap₂ (λ (x y : ℕ). x ∷ y ∷ []) m.0 m.1),
      )
