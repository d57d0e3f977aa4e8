-- The order's demands on the exports of read, rate, the weighted rating, the class call and the archive call, said of what a host sees: the return value,
-- the answer row and the lent rows. (Search and mark: ExportSearch.antt; better-of-two: ExportBetter.antt.) Each theorem holds of every call that has
-- returned: of what was lent, `a`, the return value, `r`, and the rows at its exit, `s`, where they keep the contract in src/exports.rt, which every
-- call does. Assumes nothing.
use Prim.Native.Nat.{ℕ, ◌*◌, ◌<◌, ◌≤◌}
use mathlib.Core.Path.{◌≡◌, refl, sym, ap, ap₂, ◌∙◌}
use mathlib.Core.List.{List, [], ◌∷◌}
use mathlib.Core.Logic.{◌↔◌}
use native.Mathlib.Omega.{arith}
use borrow.Author.Tests.{eq-eqb}
use borrow.Fn.World.{ArgsD, ResD}
use borrow.Fn.Kinds.{ended_of}
use contract.Lifetimes.{Lfts}
use denote.Triple.Clauses.{AtExit}
use lib.IntN.{ℤ}
use lib.ListN.{length, take}
use Rattle.network.specs.Rating.{Rating}
use Rattle.network.specs.Network.{Net, stop_count}
use Rattle.network.specs.Gives.{Gives}
use Rattle.network.specs.Reading.{Reading, Outcome, values, refusal, accepted, refused, read_file, read_outcome}
use Rattle.network.specs.Archive.{archive_length, SameNetwork, archive_outcome}
use Rattle.network.specs.Refusals.{Refuses, Not64, TooShort, Demand1}
use Rattle.network.specs.Rating.{rating}
use Rattle.network.specs.Rate.{rated_on_sheet, rate_outcome}
use Rattle.network.specs.ClassCall.{weighted_rating, weighted_outcome}
use Rattle.network.specs.Valid.{IsBytes}
use Rattle.network.proofs.Demands.{ReadValues, read_values_of, RatedAs, rated_as, Classified, classified, Archives, archives}
use Rattle.network.proofs.Laws.ArchiveCall.{archive_refuses, archive_refuses_only, archive_row_as_found, archive_answers, archive_answer_le}
use Rattle.network.proofs.Laws.ArchiveCall.{archive_rows_equal, archive_of_written}
use Rattle.network.proofs.Laws.Gaps.{accepted_valid}
use Rattle.network.proofs.Laws.Reading.{gives_what_is_read, refused_number_range, refused_place}
use Rattle.network.proofs.Laws.Refusals.{read_refuses, read_refuses_only, sheet_answers, class_refuses, class_refuses_only}
use Rattle.network.proofs.Laws.Refusals.{classes_as_found, weights_as_found, class_answers}
use Rattle.network.proofs.Laws.Weighted.{weighted_is_rate}
use Rattle.examination.specs.Bytes.{starts, IsSheet, bytes_fit, by_bytes, BytesFit, BytesUnfit}
use Rattle.examination.specs.Exports.{place_limit, TellsRefusal, status, row_after, archive_status}
use Rattle.examination.proofs.Codes.{export_demand_1, status_tells, status_code, archive_status_tells, archive_status_code}
use Rattle.examination.proofs.Laws.Bytes.{length_starts_fit, rated_on_bytes}
use Rattle.examination.proofs.Laws.Refusals.{refuses_range, sheet_bytes_refuse, sheet_bytes_refuse_only}
use Rattle.examination.proofs.SheetBytes.{bytes_are_a_sheet}
use Rattle.examination.specs.contracts.exports.examination_read as read
use Rattle.examination.proofs.exports.examination_read.Kinds as read_kinds
use Rattle.examination.proofs.exports.examination_read.Reads as read_contract
use Rattle.examination.specs.contracts.exports.examination_rate as rate
use Rattle.examination.proofs.exports.examination_rate.Kinds as rate_kinds
use Rattle.examination.proofs.exports.examination_rate.Reads as rate_contract
use Rattle.examination.specs.contracts.exports.examination_weighted as weighted
use Rattle.examination.proofs.exports.examination_weighted.Kinds as weighted_kinds
use Rattle.examination.proofs.exports.examination_weighted.Reads as weighted_contract
use Rattle.examination.specs.contracts.exports.examination_classes as classes
use Rattle.examination.proofs.exports.examination_classes.Kinds as classes_kinds
use Rattle.examination.proofs.exports.examination_classes.Reads as classes_contract
use Rattle.examination.specs.contracts.exports.examination_archive as archiving
use Rattle.examination.proofs.exports.examination_archive.Kinds as archive_kinds
use Rattle.examination.proofs.exports.examination_archive.Reads as archive_contract

-- ---- Every export may be called: none asks anything of what is lent

pub read_export_asks_nothing : (κs : Lfts 2) (a : ArgsD read.signature κs) → read_contract.Pre κs a
read_export_asks_nothing κs a = tt

pub rate_export_asks_nothing : (κs : Lfts 3) (a : ArgsD rate.signature κs) → rate_contract.Pre κs a
rate_export_asks_nothing κs a = tt

pub weighted_export_asks_nothing : (κs : Lfts 3) (a : ArgsD weighted.signature κs) → weighted_contract.Pre κs a
weighted_export_asks_nothing κs a = tt

pub classes_export_asks_nothing : (κs : Lfts 4) (a : ArgsD classes.signature κs) → classes_contract.Pre κs a
classes_export_asks_nothing κs a = tt

pub archive_export_asks_nothing : (κs : Lfts 2) (a : ArgsD archiving.signature κs) → archive_contract.Pre κs a
archive_export_asks_nothing κs a = tt

-- ---- Read

pub row_as_found : {o : Outcome} {number place : ℕ} (row : List ℕ) → o ≡ refusal number place → row_after o row ≡ row
unfolding row_after
row_as_found row e = rw e refl

-- 0, and the values in the row
pub answered : {o : Outcome} {returned : ℕ} {after vs : List ℕ} (before : List ℕ) → returned ≡ status o → after ≡ row_after o before → o ≡ values vs
    → (returned ≡ 0) × (values after ≡ o)
unfolding status row_after
answered before e f is = (e ∙ rw is refl, rw (f, is) refl)

file_range : (file : List ℕ) (number place : ℕ) → Gives file (refused number place) → (1 ≤ number) × (place < place_limit)
file_range file number place g =
    let e = gives_what_is_read g in omega (arith, refused_number_range file number place e, refused_place file number place e)

-- .. and so of a call that adds a ground of its own, 15 to 18
pub own_ground_range : {file : List ℕ} {ground : ℕ} {unfit : Net → Type 0} → 15 ≤ ground → ground ≤ 18 → (number place : ℕ) → Refuses file ground unfit number place
    → (1 ≤ number) × (place < place_limit)
own_ground_range low high number place f = omega (arith, refuses_range f low high)

module _ (κs : Lfts 2) (a : ArgsD read.signature κs) (r : ResD read.signature κs) (s : AtExit (ended_of 2 read_kinds.ps read_kinds.r) κs)
    (kept : read_contract.Post κs a r s) where
  pub read_export_demand_1 : Demand1 (TellsRefusal r) (λ number place. Gives a.0.now (refused number place)) (s.1.0.now ≡ a.1.0.now)
  read_export_demand_1 =
      export_demand_1
      (record {
        faulty_is_refused = λ number place g. read_refuses a.0.now g;
        no_other_is_refused = λ number place e. read_refuses_only a.0.now e;
        rows_as_found = λ number place e. kept.1.0 ∙ row_as_found a.1.0.now e;
      })
      (file_range a.0.now) (status_code kept.0) (status_tells _ kept.0)

  pub read_export_answers : {n : Net} → Gives a.0.now (accepted n) → (r ≡ 0) × ReadValues n (values s.1.0.now)
  read_export_answers {n} g =
      let reads = gives_what_is_read g in
      let v = read_values_of (accepted_valid a.0.now n kept.1.1 reads) in
      let q = answered a.1.0.now kept.0 kept.1.0 (ap read_outcome reads ∙ v.answered) in
      (q.0, rw (q.1 ∙ ap read_outcome reads) v)

-- ---- Rate and the weighted rating, on a sheet's bytes

-- On 4 bytes for each line a call answers what it does on the starts that they mean
pub on_its_bytes : {A : Type 0} (call : Reading → List ℤ → A) (refuses : ℕ → ℕ → A) (read : Reading) {n : Net} → read ≡ accepted n → (bytes : List ℕ)
    → BytesFit bytes n → by_bytes call refuses read bytes ≡ call read (starts bytes)
unfolding by_bytes bytes_fit
on_its_bytes call refuses read {n} reads bytes fit = rw (reads, eq-eqb (length bytes) (4 * length n.periods) fit) refl

-- Of the answer on the bytes: when it refuses, and the row
sheet_demand_1 : (rates : Net → List ℤ → Rating) (file : List ℕ) → IsBytes file → (bytes row : List ℕ) {returned : ℕ} {after : List ℕ}
    → returned ≡ status (by_bytes (rated_on_sheet rates) refusal (read_file file) bytes)
    → after ≡ row_after (by_bytes (rated_on_sheet rates) refusal (read_file file) bytes) row
    → Demand1 (TellsRefusal returned) (Refuses file 15 (BytesUnfit bytes)) (after ≡ row)
sheet_demand_1 rates file is_bytes bytes row e f =
    export_demand_1
    (record {
      faulty_is_refused = λ number place g. sheet_bytes_refuse file is_bytes bytes rates g;
      no_other_is_refused = λ number place g. sheet_bytes_refuse_only file is_bytes bytes rates g;
      rows_as_found = λ number place g. f ∙ row_as_found row g;
    })
    (own_ground_range (omega arith) (omega arith)) (status_code e) (status_tells _ e)

module _ (κs : Lfts 3) (a : ArgsD rate.signature κs) (r : ResD rate.signature κs) (s : AtExit (ended_of 3 rate_kinds.ps rate_kinds.r) κs)
    (kept : rate_contract.Post κs a r s) where
  pub rate_export_demand_1 : Demand1 (TellsRefusal r) (Refuses a.0.now 15 (BytesUnfit a.1.0.now)) (s.1.1.0.now ≡ a.1.1.0.now)
  unfolding rate_outcome
  rate_export_demand_1 = sheet_demand_1 rating a.0.now kept.1.1.0 a.1.0.now a.1.1.0.now kept.0 kept.1.0

  -- Whatever 4 bytes for each line are lent, they are a sheet's
  pub rate_export_sheet : {lines : ℕ} → length a.1.0.now ≡ 4 * lines → IsSheet lines a.1.0.now
  rate_export_sheet = bytes_are_a_sheet kept.1.1.1

  -- Demand 2: the rating over all trips of the sheet whose bytes are lent
  pub rate_export_demand_2 : {n : Net} → read_file a.0.now ≡ accepted n → BytesFit a.1.0.now n
      → (r ≡ 0) × RatedAs n (starts a.1.0.now) (values s.1.1.0.now)
  unfolding rate_outcome
  rate_export_demand_2 {n} reads fit =
      let sheet = starts a.1.0.now in
      let told = on_its_bytes (rated_on_sheet rating) refusal (read_file a.0.now) reads a.1.0.now fit
      ∙ sheet_answers rating a.0.now sheet reads (length_starts_fit a.1.0.now fit) in
      let q = answered a.1.1.0.now kept.0 kept.1.0 told in
      (q.0, rw (q.1 ∙ told) (rated_as (accepted_valid a.0.now n kept.1.1.0 reads) sheet))

module _ (κs : Lfts 3) (a : ArgsD weighted.signature κs) (r : ResD weighted.signature κs)
    (s : AtExit (ended_of 3 weighted_kinds.ps weighted_kinds.r) κs) (kept : weighted_contract.Post κs a r s) where
  pub weighted_export_demand_1 : Demand1 (TellsRefusal r) (Refuses a.0.now 15 (BytesUnfit a.1.0.now)) (s.1.1.0.now ≡ a.1.1.0.now)
  unfolding weighted_outcome
  weighted_export_demand_1 = sheet_demand_1 weighted_rating a.0.now kept.1.1.0 a.1.0.now a.1.1.0.now kept.0 kept.1.0

  pub weighted_export_sheet : {lines : ℕ} → length a.1.0.now ≡ 4 * lines → IsSheet lines a.1.0.now
  weighted_export_sheet = bytes_are_a_sheet kept.1.1.1

  -- The same rating as rate's, over all trips of the sheet whose bytes are lent
  pub weighted_export_demand_2 : {n : Net} → read_file a.0.now ≡ accepted n → BytesFit a.1.0.now n
      → (r ≡ 0) × RatedAs n (starts a.1.0.now) (values s.1.1.0.now)
  unfolding weighted_outcome rate_outcome
  weighted_export_demand_2 {n} reads fit =
      let sheet = starts a.1.0.now in
      let told = on_its_bytes (rated_on_sheet weighted_rating) refusal (read_file a.0.now) reads a.1.0.now fit
      ∙ weighted_is_rate a.0.now kept.1.1.0 sheet
      ∙ sheet_answers rating a.0.now sheet reads (length_starts_fit a.1.0.now fit) in
      let q = answered a.1.1.0.now kept.0 kept.1.0 told in
      (q.0, rw (q.1 ∙ told) (rated_as (accepted_valid a.0.now n kept.1.1.0 reads) sheet))

  -- Demand 3, (6): on every file and every sheet's bytes both exports return the same, and leave the same in rows that were the same
  pub weighted_export_as_rate : (κs' : Lfts 3) (a' : ArgsD rate.signature κs') (r' : ResD rate.signature κs')
      (s' : AtExit (ended_of 3 rate_kinds.ps rate_kinds.r) κs') → rate_contract.Post κs' a' r' s'
      → a.0.now ≡ a'.0.now → a.1.0.now ≡ a'.1.0.now → a.1.1.0.now ≡ a'.1.1.0.now
      → (r ≡ r') × (s.1.1.0.now ≡ s'.1.1.0.now)
  unfolding weighted_outcome rate_outcome
  weighted_export_as_rate κs' a' r' s' kept' file sheet row =
      let same : by_bytes weighted_outcome refusal (read_file a.0.now) a.1.0.now ≡ by_bytes rate_outcome refusal (read_file a'.0.now) a'.1.0.now =
      sym (rated_on_bytes weighted_rating a.0.now kept.1.1.0 a.1.0.now)
      ∙ weighted_is_rate a.0.now kept.1.1.0 _
      ∙ rated_on_bytes rating a.0.now kept.1.1.0 a.1.0.now
      ∙ ap₂ (λ (f b : List ℕ). by_bytes rate_outcome refusal (read_file f) b) file sheet in (
        kept.0 ∙ ap status same ∙ sym kept'.0,
        kept.1.0 ∙ ap₂ row_after same row ∙ sym kept'.1.0,
      )

-- ---- The class call

module _ (κs : Lfts 4) (a : ArgsD classes.signature κs) (r : ResD classes.signature κs)
    (s : AtExit (ended_of 4 classes_kinds.ps classes_kinds.r) κs) (kept : classes_contract.Post κs a r s) where
  pub classes_export_demand_1 : Demand1 (TellsRefusal r) (Refuses a.0.now 17 (Not64 a.1.0.now a.1.1.0.now))
      ((s.1.0.now ≡ a.1.0.now) × (s.1.1.0.now ≡ a.1.1.0.now) × (s.1.1.1.0.now ≡ a.1.1.1.0.now))
  classes_export_demand_1 =
      export_demand_1
      (record {
        faulty_is_refused = λ number place f. class_refuses a.0.now a.1.0.now a.1.1.0.now f;
        no_other_is_refused = λ number place e. class_refuses_only a.0.now a.1.0.now a.1.1.0.now e;
        rows_as_found = λ number place e. (
          kept.1.1.0 ∙ classes_as_found a.0.now a.1.0.now a.1.1.0.now e,
          kept.1.1.1.0 ∙ weights_as_found a.0.now a.1.0.now a.1.1.0.now e,
          kept.1.0 ∙ row_as_found a.1.1.1.0.now e,
        );
      })
      (own_ground_range (omega arith) (omega arith)) (status_code kept.0) (status_tells _ kept.0)

  -- Demand 3, (5)
  pub classes_export_demand_3 : {n : Net} → read_file a.0.now ≡ accepted n → length a.1.0.now ≡ stop_count → length a.1.1.0.now ≡ stop_count
      → (r ≡ 0) × Classified n (values s.1.1.1.0.now) s.1.0.now s.1.1.0.now
  classes_export_demand_3 {n} reads c w =
      let e = class_answers a.0.now a.1.0.now a.1.1.0.now reads c w in
      let q = answered a.1.1.1.0.now kept.0 kept.1.0 e.0 in (
        q.0,
        rw (q.1 ∙ e.0, kept.1.1.0 ∙ e.1, kept.1.1.1.0 ∙ e.2) (classified (accepted_valid a.0.now n kept.1.1.1.1 reads)),
      )

-- ---- The archive call

-- On a row that is long enough the return value is the archive form's length
length_returned : (file row : List ℕ) {n : Net} → read_file file ≡ accepted n → archive_length n ≤ length row → {returned : ℕ}
    → returned ≡ archive_status (archive_outcome (read_file file) (length row)) → returned ≡ archive_length n
unfolding archive_status
length_returned file row reads room e = e ∙ ap archive_status (archive_answers file row reads room).0

module _ (κs : Lfts 2) (a : ArgsD archiving.signature κs) (r : ResD archiving.signature κs)
    (s : AtExit (ended_of 2 archive_kinds.ps archive_kinds.r) κs) (kept : archive_contract.Post κs a r s) where
  pub archive_export_demand_1 : Demand1 (TellsRefusal r) (Refuses a.0.now 18 (TooShort a.1.0.now)) (s.1.0.now ≡ a.1.0.now)
  archive_export_demand_1 =
      export_demand_1
      (record {
        faulty_is_refused = λ number place f. archive_refuses a.0.now a.1.0.now f;
        no_other_is_refused = λ number place e. archive_refuses_only a.0.now a.1.0.now e;
        rows_as_found = λ number place e. kept.1.0 ∙ archive_row_as_found a.0.now a.1.0.now e;
      })
      (own_ground_range (omega arith) (omega arith)) (archive_status_code kept.0)
      (archive_status_tells _ kept.0 (archive_answer_le a.0.now a.1.0.now kept.1.1))

  -- A row that is long enough: the return value is the length of the archive form, which stands at the row's beginning
  pub archive_export_writes : {n : Net} → read_file a.0.now ≡ accepted n → archive_length n ≤ length a.1.0.now
      → Archives n (values (r ∷ [])) a.1.0.now s.1.0.now
  archive_export_writes {n} reads room =
      rw (length_returned a.0.now a.1.0.now reads room kept.0, kept.1.0 ∙ (archive_answers a.0.now a.1.0.now reads room).1)
      (archives (accepted_valid a.0.now n kept.1.1 reads) a.1.0.now)

module _ (κs : Lfts 2) (a : ArgsD archiving.signature κs) (r : ResD archiving.signature κs)
    (s : AtExit (ended_of 2 archive_kinds.ps archive_kinds.r) κs) (kept : archive_contract.Post κs a r s) (κs' : Lfts 2)
    (a' : ArgsD archiving.signature κs') (r' : ResD archiving.signature κs') (s' : AtExit (ended_of 2 archive_kinds.ps archive_kinds.r) κs')
    (kept' : archive_contract.Post κs' a' r' s') where
  -- Two files have equal archive bytes, of each row as many as its call returned, exactly when their periods, offsets and edition are equal
  pub archive_export_equal : {m n : Net} → read_file a.0.now ≡ accepted m → read_file a'.0.now ≡ accepted n
      → archive_length m ≤ length a.1.0.now → archive_length n ≤ length a'.1.0.now
      → (take r s.1.0.now ≡ take r' s'.1.0.now) ↔ SameNetwork m n
  archive_export_equal {m} {n} reads reads' room room' =
      rw (
        length_returned a.0.now a.1.0.now reads room kept.0,
        length_returned a'.0.now a'.1.0.now reads' room' kept'.0,
        kept.1.0,
        kept'.1.0,
      )
      (archive_rows_equal a.0.now a.1.0.now kept.1.1 reads room a'.0.now a'.1.0.now kept'.1.1 reads' room')

  -- The archive form of an archive form is itself: lent as many bytes of the first call's row as it returned, the second returns the same and writes
  -- the same bytes
  pub archive_export_again : {n : Net} → read_file a.0.now ≡ accepted n → archive_length n ≤ length a.1.0.now
      → a'.0.now ≡ take r s.1.0.now → r ≤ length a'.1.0.now → (r' ≡ r) × (take r' s'.1.0.now ≡ take r s.1.0.now)
  archive_export_again {n} reads room lent room' =
      let is : r ≡ archive_length n = length_returned a.0.now a.1.0.now reads room kept.0 in
      let again = archive_of_written a.0.now a.1.0.now kept.1.1 reads room a'.0.now a'.1.0.now
      (lent ∙ ap₂ take is kept.1.0) (omega (arith, is, room')) in
      let same : r' ≡ r = kept'.0 ∙ ap archive_status again.0 ∙ sym kept.0 in
      (same, ap₂ take (same ∙ is) kept'.1.0 ∙ again.1 ∙ ap₂ take (sym is) (sym kept.1.0))
