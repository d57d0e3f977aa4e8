-- The order's demands on the export of better-of-two, said of what a host sees: which sheet its number names, by ratings over all trips, which part of the
-- caller's row follows from it, and what it says beside a key. Each theorem holds of every call that has returned, where it keeps the contract in
-- src/exports.rt, which every call does. Assumes nothing.
use Prim.Native.Nat.{ℕ, ◌*◌, ◌<◌, ◌≤◌}
use mathlib.Core.Path.{◌≡◌, refl, ap, ◌∙◌}
use mathlib.Core.Bool.{Bool, true, false}
use mathlib.Core.List.{List, []}
use mathlib.Core.Logic.{◌⊎◌, inl, inr, ◌↔◌}
use native.Mathlib.Omega.{arith}
use borrow.Author.Tests.{eqb-true, eqb-false, eq-eqb, ne_eqb}
use borrow.Fn.World.{ArgsD, ResD}
use borrow.Fn.Kinds.{ended_of}
use contract.Lifetimes.{Lfts}
use denote.Triple.Clauses.{AtExit}
use lib.Dec.{eqb}
use lib.IntN.{ℤ}
use lib.ListN.{length}
use Rattle.network.specs.Network.{Net}
use Rattle.network.specs.Reading.{Reading, accepted, refused, read_file}
use Rattle.network.specs.Rating.{IsRating, rating}
use Rattle.network.proofs.Laws.Gaps.{accepted_valid}
use Rattle.examination.specs.Bytes.{starts, IsSheet, bytes_fit, better_bytes, BytesFit, BytesUnfit}
use Rattle.examination.specs.Exports.{better_status}
use Rattle.examination.specs.Sheets.{Better, first, second, neither, fits, better_by, better_of}
use Rattle.examination.proofs.BetterSheet.{Chosen, first_not_below, second_above, both_fit}
use Rattle.examination.proofs.Laws.Bytes.{length_starts_fit}
use Rattle.examination.proofs.SheetBytes.{bytes_are_a_sheet}
use Rattle.examination.specs.contracts.better.better as part
use Rattle.examination.proofs.better.better.Kinds as part_kinds
use Rattle.examination.proofs.better.better.Reads as part_contract
use Rattle.examination.specs.contracts.exports.examination_better as better
use Rattle.examination.proofs.exports.examination_better.Kinds as better_kinds
use Rattle.examination.proofs.exports.examination_better.Reads as better_contract

-- ---- It may be called: it asks nothing of what is lent

pub better_export_asks_nothing : (κs : Lfts 3) (a : ArgsD better.signature κs) → better_contract.Pre κs a
better_export_asks_nothing κs a = tt

-- ---- Better-of-two, on two sheets' bytes: 1 the first, 2 the second, 0 neither

-- On 4 bytes for each start, whether the sheets fit or not, it is better-of-two on the starts that the bytes mean
better_on_its_bytes : (read : Reading) (one other : List ℕ) {sheet sheet' : List ℤ} → length one ≡ 4 * length sheet → length other ≡ 4 * length sheet'
    → starts one ≡ sheet → starts other ≡ sheet' → better_bytes read one other ≡ better_of read sheet sheet'
unfolding better_bytes better_of bytes_fit fits
better_on_its_bytes (refused number place) one other e f means means' = refl
better_on_its_bytes (accepted n) one other {sheet} {sheet'} e f means means' =
    rw (same_fit one sheet e, same_fit other sheet' f, means, means') refl
  where
    same_fit : (bytes : List ℕ) (sheet : List ℤ) → length bytes ≡ 4 * length sheet → bytes_fit n bytes ≡ fits n sheet
    same_fit bytes sheet four = go (eqb (length sheet) (length n.periods)) refl
      where
        go : (b : Bool) → eqb (length sheet) (length n.periods) ≡ b → eqb (length bytes) (4 * length n.periods) ≡ b
        go true e = eq-eqb (length bytes) (4 * length n.periods) (omega (arith, four, eqb-true (length sheet) (length n.periods) e))
        go false e = ne_eqb (length bytes) (4 * length n.periods) (λ g. eqb-false (length sheet) (length n.periods) e (omega (arith, four, g)))

module _ (κs : Lfts 3) (a : ArgsD better.signature κs) (r : ResD better.signature κs) (s : AtExit (ended_of 3 better_kinds.ps better_kinds.r) κs)
    (kept : better_contract.Post κs a r s) where
  pub better_export_returns : (r ≡ 0) ⊎ ((r ≡ 1) ⊎ (r ≡ 2))
  unfolding better_status
  better_export_returns = go (better_bytes (read_file a.0.now) a.1.0.now a.1.1.0.now) kept.0
    where
      go : (b : Better) → r ≡ better_status b → (r ≡ 0) ⊎ ((r ≡ 1) ⊎ (r ≡ 2))
      go first e = inr (inl e)
      go second e = inr (inr e)
      go neither e = inl e

  -- Whatever 4 bytes for each line are lent, they are a sheet's
  pub better_export_sheets : (lines : ℕ) → (length a.1.0.now ≡ 4 * lines → IsSheet lines a.1.0.now)
      × (length a.1.1.0.now ≡ 4 * lines → IsSheet lines a.1.1.0.now)
  better_export_sheets lines = (bytes_are_a_sheet kept.1.1.0, bytes_are_a_sheet kept.1.1.1)

  -- The part that better-of-two hands back on the sheets that the bytes mean follows from the number: 1, the first row itself; 2, the second row
  -- itself; 0, the empty part at the first one's beginning
  pub better_export_names_the_part : (κs' : Lfts 2) (a' : ArgsD part.signature κs') (r' : ResD part.signature κs')
      (s' : AtExit (ended_of 2 part_kinds.ps part_kinds.r) κs') → part_contract.Post κs' a' r' s'
      → a.0.now ≡ a'.0.now → length a.1.0.now ≡ 4 * length a'.1.0.now → length a.1.1.0.now ≡ 4 * length a'.1.1.0.now
      → starts a.1.0.now ≡ a'.1.0.now → starts a.1.1.0.now ≡ a'.1.1.0.now
      → ((r ≡ 1) × (r' ≡ a'.1.0)) ⊎ (((r ≡ 2) × (r' ≡ a'.1.1.0)) ⊎ ((r ≡ 0) × (r'.ref_ptr ≡ a'.1.0.ref_ptr) × (r'.now ≡ [])))
  unfolding better_status
  better_export_names_the_part κs' a' r' s' kept' file four four' means means' =
      go (better_of (read_file a'.0.now) a'.1.0.now a'.1.1.0.now) refl
      (kept.0
      ∙ ap better_status
      (ap (λ (f : List ℕ). better_bytes (read_file f) a.1.0.now a.1.1.0.now) file
      ∙ better_on_its_bytes (read_file a'.0.now) a.1.0.now a.1.1.0.now four four' means means'))
    where
      go : (b : Better) → better_of (read_file a'.0.now) a'.1.0.now a'.1.1.0.now ≡ b
          → r ≡ better_status (better_of (read_file a'.0.now) a'.1.0.now a'.1.1.0.now)
          → ((r ≡ 1) × (r' ≡ a'.1.0)) ⊎ (((r ≡ 2) × (r' ≡ a'.1.1.0)) ⊎ ((r ≡ 0) × (r'.ref_ptr ≡ a'.1.0.ref_ptr) × (r'.now ≡ [])))
      go first e f = inl (f ∙ ap better_status e, kept'.0 e)
      go second e f = inr (inl (f ∙ ap better_status e, kept'.1.0 e))
      go neither e f = inr (inr (f ∙ ap better_status e, (kept'.1.1.0 e).0, (kept'.1.1.0 e).1))

  -- neither, if the file is refused
  pub better_export_file_refused : {number place : ℕ} → read_file a.0.now ≡ refused number place → r ≡ 0
  unfolding better_status better_bytes
  better_export_file_refused e = kept.0 ∙ rw e refl

  module _ {n : Net} (reads : read_file a.0.now ≡ accepted n) where
    by_fit : {x y : Bool} → bytes_fit n a.1.0.now ≡ x → bytes_fit n a.1.1.0.now ≡ y
        → r ≡ better_status (better_by x y (rating n (starts a.1.0.now)) (rating n (starts a.1.1.0.now)))
    unfolding better_bytes
    by_fit e f = kept.0 ∙ ap better_status (rw (reads, e, f) refl)

    fit_is : (bytes : List ℕ) → BytesFit bytes n → bytes_fit n bytes ≡ true
    unfolding bytes_fit
    fit_is bytes e = eq-eqb _ _ e

    unfit_is : (bytes : List ℕ) → BytesUnfit bytes n → bytes_fit n bytes ≡ false
    unfolding bytes_fit
    unfit_is bytes differ = ne_eqb _ _ differ

    -- .. or if neither fits; and one that fits before one that doesn't
    pub better_export_neither_fits : BytesUnfit a.1.0.now n → BytesUnfit a.1.1.0.now n → r ≡ 0
    unfolding better_by better_status
    better_export_neither_fits e f = by_fit (unfit_is _ e) (unfit_is _ f)

    pub better_export_only_first_fits : BytesFit a.1.0.now n → BytesUnfit a.1.1.0.now n → r ≡ 1
    unfolding better_by better_status
    better_export_only_first_fits e f = by_fit (fit_is _ e) (unfit_is _ f)

    pub better_export_only_second_fits : BytesUnfit a.1.0.now n → BytesFit a.1.1.0.now n → r ≡ 2
    unfolding better_by better_status
    better_export_only_second_fits e f = by_fit (unfit_is _ e) (fit_is _ f)

    -- both fit: the better of the two sheets whose bytes are lent, the first if equal
    pub better_export_both_fit : BytesFit a.1.0.now n → BytesFit a.1.1.0.now n
        → {least sum least' sum' : ℕ} → IsRating n (starts a.1.0.now) least sum → IsRating n (starts a.1.1.0.now) least' sum'
        → ((r ≡ 1) × ((least' < least) ⊎ ((least' ≡ least) × (sum' ≤ sum)))) ⊎ ((r ≡ 2) × ((least < least') ⊎ ((least ≡ least') × (sum < sum'))))
    unfolding better_of fits better_status
    better_export_both_fit fit fit' {least} {sum} {least'} {sum'} p q =
        go (better_of (read_file a.0.now) (starts a.1.0.now) (starts a.1.1.0.now)) told
        (both_fit reads (starts a.1.0.now) (starts a.1.1.0.now) (accepted_valid a.0.now n kept.1.0 reads) p q
        (length_starts_fit a.1.0.now fit) (length_starts_fit a.1.1.0.now fit'))
      where
        told : r ≡ better_status (better_of (read_file a.0.now) (starts a.1.0.now) (starts a.1.1.0.now))
        told =
            by_fit (fit_is _ fit) (fit_is _ fit')
            ∙ rw (reads, eq-eqb _ _ (length_starts_fit a.1.0.now fit), eq-eqb _ _ (length_starts_fit a.1.1.0.now fit')) refl

        go : (b : Better) → r ≡ better_status b → Chosen least sum least' sum' b
            → ((r ≡ 1) × ((least' < least) ⊎ ((least' ≡ least) × (sum' ≤ sum)))) ⊎ ((r ≡ 2) × ((least < least') ⊎ ((least ≡ least') × (sum < sum'))))
        go first is (first_not_below c) = inl (is, c)
        go second is (second_above c) = inr (is, c)
        go neither is x = elim x [ ]

    -- Beside a key that the first sheet doesn't beat, such as the starts of a finished search (`finished_is_best` of `HallSearch`), the answer is the
    -- first exactly where both have one rating: so a host marks many sheets by one search
    pub better_export_beside_key : BytesFit a.1.0.now n → BytesFit a.1.1.0.now n
        → {least sum least' sum' : ℕ} → IsRating n (starts a.1.0.now) least sum → IsRating n (starts a.1.1.0.now) least' sum'
        → (least < least') ⊎ ((least ≡ least') × (sum ≤ sum')) → (r ≡ 1) ↔ ((least ≡ least') × (sum ≡ sum'))
    better_export_beside_key fit fit' {least} {sum} {least'} {sum'} p q unbeaten =
        go (better_export_both_fit fit fit' p q) unbeaten
      where
        go : ((r ≡ 1) × ((least' < least) ⊎ ((least' ≡ least) × (sum' ≤ sum)))) ⊎ ((r ≡ 2) × ((least < least') ⊎ ((least ≡ least') × (sum < sum'))))
            → (least < least') ⊎ ((least ≡ least') × (sum ≤ sum')) → (r ≡ 1) ↔ ((least ≡ least') × (sum ≡ sum'))
        go (inl (e, inl c)) (inl d) = absurd (omega (arith, c, d))
        go (inl (e, inl c)) (inr d) = absurd (omega (arith, c, d))
        go (inl (e, inr c)) (inl d) = absurd (omega (arith, c, d))
        go (inl (e, inr c)) (inr d) = (λ f. (d.0, omega (arith, c, d)), λ f. e)
        go (inr (e, inl c)) d = (λ f. absurd (omega (arith, e, f)), λ f. absurd (omega (arith, c, f)))
        go (inr (e, inr c)) d = (λ f. absurd (omega (arith, e, f)), λ f. absurd (omega (arith, c, f)))
