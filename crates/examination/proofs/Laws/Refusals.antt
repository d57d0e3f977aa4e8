-- When the examination's calls refuse, with which number and place, and that both fit one number. Mark refuses as rate does and nothing else: on
-- a sheet that fits, the search has a start row that fits. The call by a key refuses where the sheet or the key doesn't fit. A call on a sheet's
-- bytes refuses where their number isn't four for each line. Assumes nothing.
use Prim.Native.Nat.{ℕ, ◌*◌, ◌≤◌, ◌<◌}
use mathlib.Core.Path.{◌≡◌, refl, sym, ap, ap₂, ◌∙◌}
use mathlib.Core.Bool.{Bool, true, false, ◌&&◌}
use mathlib.Core.List.{List}
use mathlib.Core.Logic.{inl, inr}
use native.Mathlib.Omega.{arith}
use borrow.Author.Tests.{eqb-true, eqb-false, eq-eqb, ne_eqb}
use lib.Dec.{eqb}
use lib.IntN.{ℤ}
use lib.ListN.{length}
use Rattle.network.specs.Rating.{Rating}
use Rattle.network.specs.Archive.{archive_outcome}
use Rattle.network.specs.ClassCall.{class_outcome}
use Rattle.network.specs.Network.{Net}
use Rattle.network.specs.Lists.{pick}
use Rattle.network.specs.Rate.{on_sheet, rated_on_sheet}
use Rattle.network.specs.GapRow.{gap_row, gap_row_after}
use Rattle.network.specs.Reading.{Reading, accepted, refused, refusal, read_file, read_outcome}
use Rattle.network.specs.Refusals.{Refuses, by_file, after_file, Fits, Unfit}
use Rattle.network.specs.Valid.{IsBytes}
use Rattle.network.proofs.Laws.Lists.{zero_ne_one}
use Rattle.network.proofs.Laws.Reading.{refused_number_range, refused_place}
use Rattle.network.proofs.Laws.Refusals.{on_sheet_refuses, on_sheet_refuses_only, read_refused_as, sheet_refuses, sheet_refuses_only, class_refuses_only}
use Rattle.network.proofs.Laws.ArchiveCall.{archive_refuses_only}
use Rattle.network.proofs.Laws.Gaps.{accepted_valid}
use Rattle.search.specs.Search.{SearchOutcome, finished, stopped, stopped_with_none, search_outcome, start_row_after}
use Rattle.search.specs.Search as search
use Rattle.search.specs.Wanted.{wanted_outcome}
use Rattle.search.specs.Wanted as wanted
use Rattle.search.proofs.Demands.{Searches, demand_1}
use Rattle.search.proofs.WantedGap as asked
use Rattle.examination.specs.Bytes.{starts, bytes_fit, by_bytes, mark_bytes, key_bytes, gap_row_bytes, BytesFit, BytesUnfit, EitherBytesUnfit}
use Rattle.examination.specs.Exports.{place_limit}
use Rattle.examination.specs.ByKey.{beside_key, key_outcome, EitherUnfit}
use Rattle.examination.specs.Sheets.{fits, marked, mark_outcome}
use Rattle.examination.specs.Sheets as sheets
use Rattle.examination.specs.Engine.Taken.{sheet_of}
use Rattle.examination.proofs.Laws.Bytes.{sheet_of_fits, rated_on_bytes, gap_row_on_bytes, mark_on_bytes, key_on_bytes}

-- ---- the numbers and places of refusals

-- A refusal has a number 1 to 21, a file's own being 1 to 14 or 19 to 21 (`refusal_names` of the network), and a place up to 1,331, which is 0 for a
-- call's own ground
pub refuses_range : {file : List ℕ} {ground : ℕ} {unfit : Net → Type 0} {number place : ℕ} → Refuses file ground unfit number place
    → 15 ≤ ground → ground ≤ 18 → (1 ≤ number) × (number ≤ 21) × (place ≤ 1331)
refuses_range {file} (by_file e) l h = omega (arith, refused_number_range file _ _ e, refused_place file _ _ e)
refuses_range (after_file e unfit) l h = omega arith

-- ---- mark

marked_refuses : (least sum : ℕ) (o : SearchOutcome) {number place : ℕ} → marked least sum o ≡ sheets.refusal number place → o ≡ search.refusal number place
unfolding marked
marked_refuses least sum (finished l s t) e = absurd (zero_ne_one (cc))
marked_refuses least sum (stopped l s t) e = absurd (zero_ne_one (cc))
marked_refuses least sum (stopped_with_none t) e = absurd (zero_ne_one (cc))
marked_refuses least sum (search.refusal k p) e = ap₂ search.refusal (cc) (cc)

module _ (file : List ℕ) (sheet : List ℤ) (budget : ℕ) where
  pub mark_refuses : {number place : ℕ} → Refuses file 15 (Unfit sheet) number place → mark_outcome (read_file file) sheet budget ≡ sheets.refusal number place
  unfolding mark_outcome
  mark_refuses = on_sheet_refuses _ sheets.refusal file sheet

  module _ (bytes : IsBytes file) where
    -- With one place for each line the search doesn't refuse
    search_of_fit : {n : Net} → read_file file ≡ accepted n → length sheet ≡ length n.periods → {number place : ℕ}
        → search_outcome (accepted n) (length sheet) budget ≡ search.refusal number place → ⊥
    search_of_fit {n} reads fit {number} {place} e =
        go ((demand_1 searches).no_other_is_refused number place (ap (λ (k : Reading). search_outcome k (length sheet) budget) reads ∙ e))
      where
        searches : Searches file sheet budget (search_outcome (read_file file) (length sheet) budget) (start_row_after (read_file file) budget sheet)
        searches = record { bytes = bytes; answered = refl; left = refl }

        go : {number place : ℕ} → Refuses file 16 (Unfit sheet) number place → ⊥
        go (by_file is) = zero_ne_one (cc)
        go (after_file {n = m} is differ) = let same : n ≡ m = cc in differ (fit ∙ ap (λ (k : Net). length k.periods) same)

    pub mark_refuses_only : {number place : ℕ} → mark_outcome (read_file file) sheet budget ≡ sheets.refusal number place
        → Refuses file 15 (Unfit sheet) number place
    unfolding mark_outcome
    mark_refuses_only =
        on_sheet_refuses_only _ sheets.refusal file sheet
        (record {
          no_refusal = λ n reads fit number place e. search_of_fit reads fit (marked_refuses _ _ _ e);
          same_number = λ number place number' place' e. (cc, cc);
        })

-- A file on which a sheet is decided is accepted
pub decided_is_accepted : (read : Reading) (sheet : List ℤ) (budget : ℕ) {least sum best_least best_sum : ℕ} {equal : Bool} {mark remainder tries : ℕ}
    → mark_outcome read sheet budget ≡ sheets.decided least sum best_least best_sum equal mark remainder tries → (n : Net) × (read ≡ accepted n)
unfolding mark_outcome on_sheet
decided_is_accepted (refused number place) sheet budget e = absurd (zero_ne_one (cc))
decided_is_accepted (accepted n) sheet budget e = (n, refl)

-- ---- by a key: sheet or key

unfit_is : (n : Net) (sheet : List ℤ) → Unfit sheet n → fits n sheet ≡ false
unfolding fits
unfit_is n sheet differ = ne_eqb _ _ differ

module _ (file : List ℕ) (sheet key : List ℤ) where
  pub key_refuses : {number place : ℕ} → Refuses file 15 (EitherUnfit sheet key) number place → key_outcome (read_file file) sheet key ≡ refusal number place
  unfolding key_outcome
  key_refuses (by_file e) = rw e refl
  key_refuses (after_file {n = n} e (inl differ)) = rw (e, unfit_is n sheet differ) refl
  key_refuses (after_file {n = n} e (inr differ)) = rw (e, unfit_is n key differ) (go (fits n sheet))
    where
      go : (b : Bool) → pick (b && false) (beside_key n sheet key) (refusal 15 0) ≡ refusal 15 0
      go true = refl
      go false = refl

  pub key_refuses_only : {number place : ℕ} → key_outcome (read_file file) sheet key ≡ refusal number place → Refuses file 15 (EitherUnfit sheet key) number place
  unfolding key_outcome fits beside_key
  key_refuses_only {number} {place} = go (read_file file) refl
    where
      unfit : {n : Net} → read_file file ≡ accepted n → EitherUnfit sheet key n → refusal 15 0 ≡ refusal number place
          → Refuses file 15 (EitherUnfit sheet key) number place
      unfit e f is = let number_is : 15 ≡ number = cc in let place_is : 0 ≡ place = cc in rw (← number_is, ← place_is) (after_file e f)

      fitted : (n : Net) → read_file file ≡ accepted n → (a b : Bool) → eqb (length sheet) (length n.periods) ≡ a → eqb (length key) (length n.periods) ≡ b
          → pick (a && b) (beside_key n sheet key) (refusal 15 0) ≡ refusal number place → Refuses file 15 (EitherUnfit sheet key) number place
      fitted n e false b p q is = unfit e (inl (eqb-false _ _ p)) is
      fitted n e true false p q is = unfit e (inr (eqb-false _ _ q)) is
      fitted n e true true p q is = absurd (zero_ne_one (cc))

      go : (read : Reading) → read_file file ≡ read → key_outcome read sheet key ≡ refusal number place → Refuses file 15 (EitherUnfit sheet key) number place
      go (refused k p) e is = let number_is : k ≡ number = cc in let place_is : p ≡ place = cc in rw (← number_is, ← place_is) (by_file e)
      go (accepted n) e is = fitted n e (eqb (length sheet) (length n.periods)) (eqb (length key) (length n.periods)) refl refl is

  -- .. and otherwise what it has to answer
  pub key_answers : {n : Net} → read_file file ≡ accepted n → length sheet ≡ length n.periods → length key ≡ length n.periods
      → key_outcome (read_file file) sheet key ≡ beside_key n sheet key
  unfolding key_outcome fits
  key_answers reads fit fit' = rw (reads, eq-eqb _ _ fit, eq-eqb _ _ fit') refl

-- ---- so an export's refusal has a place below 65,536

low : {file : List ℕ} {ground : ℕ} {unfit : Net → Type 0} {number place : ℕ} → Refuses file ground unfit number place
    → 15 ≤ ground → ground ≤ 18 → place < place_limit
low f l h = omega (arith, refuses_range f l h)

module _ (file : List ℕ) {number place : ℕ} where
  pub read_low : read_outcome (read_file file) ≡ refusal number place → place < place_limit
  read_low e = omega (arith, refused_place file number place (read_refused_as file e))

  pub sheet_low : (rates : Net → List ℤ → Rating) (sheet : List ℤ) → rated_on_sheet rates (read_file file) sheet ≡ refusal number place → place < place_limit
  sheet_low rates sheet e = low (sheet_refuses_only rates file sheet e) (omega arith) (omega arith)

  pub class_low : (classes weights : List ℕ) → class_outcome (read_file file) (length classes) (length weights) ≡ refusal number place → place < place_limit
  class_low classes weights e = low (class_refuses_only file classes weights e) (omega arith) (omega arith)

  pub archive_low : (row : List ℕ) → archive_outcome (read_file file) (length row) ≡ refusal number place → place < place_limit
  archive_low row e = low (archive_refuses_only file row e) (omega arith) (omega arith)

  pub search_low : IsBytes file → (row : List ℤ) (budget : ℕ) → search_outcome (read_file file) (length row) budget ≡ search.refusal number place
      → place < place_limit
  search_low bytes row budget e =
      low ((demand_1 {row = row} {budget = budget} (record { bytes = bytes; answered = refl; left = refl })).no_other_is_refused number place e) (omega arith) (omega arith)

  pub wanted_low : IsBytes file → (row : List ℤ) (gap budget : ℕ) → wanted_outcome (read_file file) (length row) gap budget ≡ wanted.refusal number place
      → place < place_limit
  wanted_low bytes row gap budget e =
      low ((asked.demand_1 {row = row} {wanted = gap} {budget = budget} (record { bytes = bytes; answered = refl; left = refl })).no_other_is_refused number place e) (omega arith) (omega arith)

-- ---- a sheet's bytes

module _ (file : List ℕ) (is_bytes : IsBytes file) (bytes : List ℕ) where
  -- The sheet that the bytes stand for fits where they do
  pub fit_of_bytes : (n : Net) → read_file file ≡ accepted n → BytesFit bytes n → Fits (sheet_of bytes) n
  unfolding fits bytes_fit
  fit_of_bytes n e same = eqb-true _ _ (sheet_of_fits n (accepted_valid file n is_bytes e).lines bytes ∙ eq-eqb _ _ same)

  pub bytes_of_fit : (n : Net) → read_file file ≡ accepted n → Fits (sheet_of bytes) n → BytesFit bytes n
  unfolding fits bytes_fit
  bytes_of_fit n e same = eqb-true _ _ (sym (sheet_of_fits n (accepted_valid file n is_bytes e).lines bytes) ∙ eq-eqb _ _ same)

  unfit_bytes : (n : Net) → read_file file ≡ accepted n → Unfit (sheet_of bytes) n → BytesUnfit bytes n
  unfit_bytes n e differ same = differ (fit_of_bytes n e same)

  bytes_unfit : (n : Net) → read_file file ≡ accepted n → BytesUnfit bytes n → Unfit (sheet_of bytes) n
  bytes_unfit n e differ same = differ (bytes_of_fit n e same)

  to_bytes : {number place : ℕ} → Refuses file 15 (Unfit (sheet_of bytes)) number place → Refuses file 15 (BytesUnfit bytes) number place
  to_bytes (by_file e) = by_file e
  to_bytes (after_file {n = n} e differ) = after_file e (unfit_bytes n e differ)

  of_bytes : {number place : ℕ} → Refuses file 15 (BytesUnfit bytes) number place → Refuses file 15 (Unfit (sheet_of bytes)) number place
  of_bytes (by_file e) = by_file e
  of_bytes (after_file {n = n} e differ) = after_file e (bytes_unfit n e differ)

  module _ (rates : Net → List ℤ → Rating) {number place : ℕ} where
    pub sheet_bytes_refuse : Refuses file 15 (BytesUnfit bytes) number place → by_bytes (rated_on_sheet rates) refusal (read_file file) bytes ≡ refusal number place
    sheet_bytes_refuse f = sym (rated_on_bytes rates file is_bytes bytes) ∙ sheet_refuses rates file (sheet_of bytes) (of_bytes f)

    pub sheet_bytes_refuse_only : by_bytes (rated_on_sheet rates) refusal (read_file file) bytes ≡ refusal number place
        → Refuses file 15 (BytesUnfit bytes) number place
    sheet_bytes_refuse_only e = to_bytes (sheet_refuses_only rates file (sheet_of bytes) (rated_on_bytes rates file is_bytes bytes ∙ e))

  -- The gaps call then leaves its row
  pub gap_row_bytes_as_found : (row : List ℕ) {number place : ℕ} → Refuses file 15 (BytesUnfit bytes) number place → gap_row_bytes row (read_file file) bytes ≡ row
  unfolding gap_row_after
  gap_row_bytes_as_found row f =
      sym (gap_row_on_bytes row file is_bytes bytes) ∙ on_sheet_refuses gap_row (λ (number place : ℕ). row) file (sheet_of bytes) (of_bytes f)

  module _ (budget : ℕ) {number place : ℕ} where
    pub mark_bytes_refuse : Refuses file 15 (BytesUnfit bytes) number place → mark_bytes budget (read_file file) bytes ≡ sheets.refusal number place
    mark_bytes_refuse f = sym (mark_on_bytes budget file is_bytes bytes) ∙ mark_refuses file (sheet_of bytes) budget (of_bytes f)

    pub mark_bytes_refuse_only : mark_bytes budget (read_file file) bytes ≡ sheets.refusal number place → Refuses file 15 (BytesUnfit bytes) number place
    mark_bytes_refuse_only e = to_bytes (mark_refuses_only file (sheet_of bytes) budget is_bytes (mark_on_bytes budget file is_bytes bytes ∙ e))

    pub mark_bytes_low : mark_bytes budget (read_file file) bytes ≡ sheets.refusal number place → place < place_limit
    mark_bytes_low e = low (mark_bytes_refuse_only e) (omega arith) (omega arith)

-- By a key: either's bytes
module _ (file : List ℕ) (is_bytes : IsBytes file) (sheet key : List ℕ) where
  either_to_bytes : {number place : ℕ} → Refuses file 15 (EitherUnfit (sheet_of sheet) (sheet_of key)) number place
      → Refuses file 15 (EitherBytesUnfit sheet key) number place
  either_to_bytes (by_file e) = by_file e
  either_to_bytes (after_file {n = n} e (inl differ)) = after_file e (inl (unfit_bytes file is_bytes sheet n e differ))
  either_to_bytes (after_file {n = n} e (inr differ)) = after_file e (inr (unfit_bytes file is_bytes key n e differ))

  either_of_bytes : {number place : ℕ} → Refuses file 15 (EitherBytesUnfit sheet key) number place
      → Refuses file 15 (EitherUnfit (sheet_of sheet) (sheet_of key)) number place
  either_of_bytes (by_file e) = by_file e
  either_of_bytes (after_file {n = n} e (inl differ)) = after_file e (inl (bytes_unfit file is_bytes sheet n e differ))
  either_of_bytes (after_file {n = n} e (inr differ)) = after_file e (inr (bytes_unfit file is_bytes key n e differ))

  module _ {number place : ℕ} where
    pub key_bytes_refuse : Refuses file 15 (EitherBytesUnfit sheet key) number place → key_bytes (read_file file) sheet key ≡ refusal number place
    key_bytes_refuse f = sym (key_on_bytes file is_bytes sheet key) ∙ key_refuses file (sheet_of sheet) (sheet_of key) (either_of_bytes f)

    pub key_bytes_refuse_only : key_bytes (read_file file) sheet key ≡ refusal number place → Refuses file 15 (EitherBytesUnfit sheet key) number place
    key_bytes_refuse_only e = either_to_bytes (key_refuses_only file (sheet_of sheet) (sheet_of key) (key_on_bytes file is_bytes sheet key ∙ e))

    pub key_bytes_low : key_bytes (read_file file) sheet key ≡ refusal number place → place < place_limit
    key_bytes_low e = low (key_bytes_refuse_only e) (omega arith) (omega arith)

-- Bytes of a sheet on which a mark is decided: the file is accepted, they fit, and the answer is that on their starts
module _ (budget : ℕ) (bytes : List ℕ) {least sum best_least best_sum : ℕ} {equal : Bool} {mark remainder tries : ℕ} where
  pub decided_bytes_accepted : (read : Reading) → mark_bytes budget read bytes ≡ sheets.decided least sum best_least best_sum equal mark remainder tries
      → (n : Net) × (read ≡ accepted n)
  unfolding by_bytes
  decided_bytes_accepted (refused number place) e = absurd (zero_ne_one (cc))
  decided_bytes_accepted (accepted n) e = (n, refl)

  pub decided_on_starts : {read : Reading} {n : Net} → read ≡ accepted n
      → mark_bytes budget read bytes ≡ sheets.decided least sum best_least best_sum equal mark remainder tries
      → (length bytes ≡ 4 * length n.periods) × (mark_bytes budget read bytes ≡ mark_outcome read (starts bytes) budget)
  unfolding by_bytes bytes_fit
  decided_on_starts {read} {n} reads e = let q = go (eqb (length bytes) (4 * length n.periods)) refl (rw reads at e) in (q.0, rw reads q.1)
    where
      go : (b : Bool) → eqb (length bytes) (4 * length n.periods) ≡ b
          → pick b (mark_outcome (accepted n) (starts bytes) budget) (sheets.refusal 15 0) ≡ sheets.decided least sum best_least best_sum equal mark remainder tries
          → (length bytes ≡ 4 * length n.periods) × (mark_bytes budget (accepted n) bytes ≡ mark_outcome (accepted n) (starts bytes) budget)
      go true f e = (eqb-true _ _ f, rw f refl)
      go false f e = absurd (zero_ne_one (cc))
