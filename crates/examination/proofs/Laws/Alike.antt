-- Two files with the same periods and offsets, in either edition: what is answered of the one is answered of the other. The network's calls and the search
-- do so by their own laws; the calls on sheets go by what those answer and by the number of lines, and so do calls on a sheet's bytes. Assumes nothing.
use Prim.Native.Nat.{ℕ, ◌*◌}
use mathlib.Core.Path.{◌≡◌, refl, sym, ap, ap₂, ◌∙◌}
use mathlib.Core.Bool.{Bool, true, false, ◌&&◌}
use mathlib.Core.List.{List, [], ◌∷◌}
use borrow.Author.Tests.{eqb-true}
use lib.Dec.{eqb}
use lib.IntN.{ℤ}
use lib.ListN.{length}
use Rattle.network.specs.Archive.{SameOffsets}
use Rattle.network.specs.Board.{Window, board_outcome, time_row_after, line_row_after}
use Rattle.network.specs.ClassCall.{weighted_outcome}
use Rattle.network.specs.GapRow.{gap_row_after}
use Rattle.network.specs.Lists.{pick}
use Rattle.network.specs.Network.{Net}
use Rattle.network.specs.Rate.{on_sheet, rate_outcome}
use Rattle.network.specs.Rating.{no_rating, rating}
use Rattle.network.specs.Reading.{Reading, accepted, values, refusal, read_file}
use Rattle.network.specs.Valid.{IsBytes}
use Rattle.network.proofs.Demands.{alike_of_bytes}
use Rattle.network.proofs.Laws.Gaps.{accepted_valid, rating_numbers}
use Rattle.network.proofs.Laws.Refusals.{sheet_answers}
use Rattle.search.specs.Search.{search_outcome, start_row_after}
use Rattle.search.specs.Wanted.{wanted_outcome, wanted_row_after}
use Rattle.search.proofs.Demands.{search_outcome_same, start_row_after_same}
use Rattle.search.proofs.WantedGap.{wanted_outcome_same, wanted_row_after_same}
use Rattle.examination.specs.Bytes.{starts, bytes_fit, by_bytes, mark_bytes, better_bytes, key_bytes, gap_row_bytes, board_bytes, time_row_bytes, line_row_bytes}
use Rattle.examination.specs.ByKey.{beside_key, key_outcome}
use Rattle.examination.specs.Sheets.{fits, better_of, marked, mark_outcome}
use Rattle.examination.specs.Sheets as sheets
use Rattle.examination.specs.Engine.Chosen.{rating_on, better_from}
use Rattle.examination.specs.Engine.Taken.{sheet_of}
use Rattle.examination.proofs.Laws.Bytes.{better_on_bytes, key_on_bytes}
use Rattle.examination.proofs.Laws.Chosen.{better_of_from}

-- A call on a sheet's bytes, where it answers alike on every sheet
on_bytes_alike : {one other : Reading} {m n : Net} → one ≡ accepted m → other ≡ accepted n → SameOffsets m n → {A : Type 0} (call : Reading → List ℤ → A)
    (refuses : ℕ → ℕ → A) → ((sheet : List ℤ) → call one sheet ≡ call other sheet) → (sheet : List ℕ) → by_bytes call refuses one sheet ≡ by_bytes call refuses other sheet
unfolding by_bytes bytes_fit
on_bytes_alike reads reads' same {A} call refuses alike sheet =
    let told = sym (ap (λ (k : Reading). call k (starts sheet)) reads) ∙ alike (starts sheet) ∙ ap (λ (k : Reading). call k (starts sheet)) reads' in
    rw (reads, reads')
    (ap₂ (λ (periods : List ℕ) (answer : A). pick (eqb (length sheet) (4 * length periods)) answer (refuses 15 0)) same.same_periods told)

-- What the search, and every call on sheets, answers of one reading and of the other
pub record ExaminedAlike (one other : Reading) : Type 0 where
  pub search_alike : (row budget : ℕ) → search_outcome one row budget ≡ search_outcome other row budget
  pub start_row_alike : (budget : ℕ) (row : List ℤ) → start_row_after one budget row ≡ start_row_after other budget row
  pub wanted_alike : (row gap budget : ℕ) → wanted_outcome one row gap budget ≡ wanted_outcome other row gap budget
  pub wanted_row_alike : (gap budget : ℕ) (row : List ℤ) → wanted_row_after one gap budget row ≡ wanted_row_after other gap budget row
  pub rate_bytes_alike : (sheet : List ℕ) → by_bytes rate_outcome refusal one sheet ≡ by_bytes rate_outcome refusal other sheet
  pub weighted_bytes_alike : (sheet : List ℕ) → by_bytes weighted_outcome refusal one sheet ≡ by_bytes weighted_outcome refusal other sheet
  pub gap_row_bytes_alike : (row sheet : List ℕ) → gap_row_bytes row one sheet ≡ gap_row_bytes row other sheet
  pub board_bytes_alike :
      (w : Window) (time_row : List ℤ) (line_row sheet : List ℕ)
      → (board_bytes w (length time_row) (length line_row) one sheet ≡ board_bytes w (length time_row) (length line_row) other sheet)
      × (time_row_bytes w time_row line_row one sheet ≡ time_row_bytes w time_row line_row other sheet)
      × (line_row_bytes w time_row line_row one sheet ≡ line_row_bytes w time_row line_row other sheet)
  pub mark_alike : (budget : ℕ) (sheet : List ℤ) → mark_outcome one sheet budget ≡ mark_outcome other sheet budget
  pub mark_bytes_alike : (budget : ℕ) (sheet : List ℕ) → mark_bytes budget one sheet ≡ mark_bytes budget other sheet
  pub better_alike : (first second : List ℤ) → better_of one first second ≡ better_of other first second
  pub better_bytes_alike : (first second : List ℕ) → better_bytes one first second ≡ better_bytes other first second
  pub key_alike : (sheet key : List ℤ) → key_outcome one sheet key ≡ key_outcome other sheet key
  pub key_bytes_alike : (sheet key : List ℕ) → key_bytes one sheet key ≡ key_bytes other sheet key

module _ (one other : List ℕ) {m n : Net} (bytes : IsBytes one) (bytes' : IsBytes other) (reads : read_file one ≡ accepted m)
    (reads' : read_file other ≡ accepted n) (same : SameOffsets m n) where
  -- Of the readings what holds of the networks
  of_networks : {A : Type 0} (answer : Reading → A) → answer (accepted m) ≡ answer (accepted n) → answer (read_file one) ≡ answer (read_file other)
  of_networks answer e = ap answer reads ∙ e ∙ sym (ap answer reads')

  -- A sheet fits both or neither, and one that fits is rated alike
  fits_alike : (sheet : List ℤ) → fits m sheet ≡ fits n sheet
  unfolding fits
  fits_alike sheet = ap (λ (periods : List ℕ). eqb (length sheet) (length periods)) same.same_periods

  rating_alike : (sheet : List ℤ) → fits n sheet ≡ true → rating m sheet ≡ rating n sheet
  unfolding rate_outcome fits
  rating_alike sheet fit =
      let told : values ((rating m sheet).least ∷ (rating m sheet).sum ∷ []) ≡ values ((rating n sheet).least ∷ (rating n sheet).sum ∷ []) =
      sym (sheet_answers rating one sheet reads (eqb-true _ _ (fits_alike sheet ∙ fit)))
      ∙ (alike_of_bytes one other bytes bytes' reads reads' same).rate_alike sheet
      ∙ sheet_answers rating other sheet reads' (eqb-true _ _ fit) in
      sym (rating_numbers m sheet) ∙ ap₂ (λ (least sum : ℕ). record { some = true; least = least; sum = sum }) (cc) (cc) ∙ rating_numbers n sheet

  rating_on_alike : (sheet : List ℤ) → rating_on (accepted m) sheet ≡ rating_on (accepted n) sheet
  unfolding rating_on
  rating_on_alike sheet = go (fits n sheet) refl
    where
      go : (b : Bool) → fits n sheet ≡ b → pick (fits m sheet) (rating m sheet) no_rating ≡ pick (fits n sheet) (rating n sheet) no_rating
      go true f = rw (fits_alike sheet, f) (rating_alike sheet f)
      go false f = rw (fits_alike sheet, f) refl

  better_of_alike : (first second : List ℤ) → better_of (read_file one) first second ≡ better_of (read_file other) first second
  better_of_alike first second =
      of_networks (λ (k : Reading). better_of k first second)
      (better_of_from (accepted m) first second ∙ ap₂ better_from (rating_on_alike first) (rating_on_alike second) ∙ sym (better_of_from (accepted n) first second))

  key_of_alike : (sheet key : List ℤ) → key_outcome (read_file one) sheet key ≡ key_outcome (read_file other) sheet key
  unfolding key_outcome beside_key
  key_of_alike sheet key = of_networks (λ (k : Reading). key_outcome k sheet key) (go (fits n sheet) (fits n key) refl refl)
    where
      go : (a b : Bool) → fits n sheet ≡ a → fits n key ≡ b
          → pick (fits m sheet && fits m key) (beside_key m sheet key) (refusal 15 0) ≡ pick (fits n sheet && fits n key) (beside_key n sheet key) (refusal 15 0)
      go true true f g = rw (fits_alike sheet, fits_alike key, f, g, rating_alike sheet f, rating_alike key g) refl
      go true false f g = rw (fits_alike sheet, fits_alike key, f, g) refl
      go false b f g = rw (fits_alike sheet, fits_alike key, f) refl

  mark_of_alike : (budget : ℕ) (sheet : List ℤ) → mark_outcome (read_file one) sheet budget ≡ mark_outcome (read_file other) sheet budget
  unfolding mark_outcome on_sheet fits
  mark_of_alike budget sheet = of_networks (λ (k : Reading). mark_outcome k sheet budget) (go (fits n sheet) refl)
    where
      found : search_outcome (accepted m) (length sheet) budget ≡ search_outcome (accepted n) (length sheet) budget
      found = search_outcome_same (accepted_valid one m bytes reads) (accepted_valid other n bytes' reads') same (length sheet) budget

      go : (b : Bool) → fits n sheet ≡ b
          → pick (fits m sheet) (marked (rating m sheet).least (rating m sheet).sum (search_outcome (accepted m) (length sheet) budget)) (sheets.refusal 15 0)
          ≡ pick (fits n sheet) (marked (rating n sheet).least (rating n sheet).sum (search_outcome (accepted n) (length sheet) budget)) (sheets.refusal 15 0)
      go true f = rw (fits_alike sheet, f, rating_alike sheet f, found) refl
      go false f = rw (fits_alike sheet, f) refl

  pub examined_alike : ExaminedAlike (read_file one) (read_file other)
  examined_alike =
      let v = accepted_valid one m bytes reads in
      let w = accepted_valid other n bytes' reads' in
      let alike = alike_of_bytes one other bytes bytes' reads reads' same in
      record {
        search_alike = λ row budget. of_networks (λ (k : Reading). search_outcome k row budget) (search_outcome_same v w same row budget);
        start_row_alike = λ budget row. of_networks (λ (k : Reading). start_row_after k budget row) (start_row_after_same v w same budget row);
        wanted_alike = λ row gap budget. of_networks (λ (k : Reading). wanted_outcome k row gap budget) (wanted_outcome_same v w same gap budget row);
        wanted_row_alike = λ gap budget row. of_networks (λ (k : Reading). wanted_row_after k gap budget row) (wanted_row_after_same v w same gap budget row);
        rate_bytes_alike = on_bytes_alike reads reads' same rate_outcome refusal alike.rate_alike;
        weighted_bytes_alike = on_bytes_alike reads reads' same weighted_outcome refusal alike.weighted_alike;
        gap_row_bytes_alike = λ row. on_bytes_alike reads reads' same (gap_row_after row) (λ (number place : ℕ). row) (alike.gap_row_alike row);
        board_bytes_alike = λ w time_row line_row sheet. (
          on_bytes_alike reads reads' same (board_outcome w (length time_row) (length line_row)) refusal (λ starts. (alike.board_alike w time_row line_row starts).0) sheet,
          on_bytes_alike reads reads' same (time_row_after w time_row line_row) (λ (number place : ℕ). time_row)
              (λ starts. (alike.board_alike w time_row line_row starts).1) sheet,
          on_bytes_alike reads reads' same (line_row_after w time_row line_row) (λ (number place : ℕ). line_row)
              (λ starts. (alike.board_alike w time_row line_row starts).2) sheet,
        );
        mark_alike = mark_of_alike;
        mark_bytes_alike = λ budget.
            on_bytes_alike reads reads' same (λ (read : Reading) (sheet : List ℤ). mark_outcome read sheet budget) sheets.refusal (mark_of_alike budget);
        better_alike = better_of_alike;
        better_bytes_alike = λ first second.
            sym (better_on_bytes one bytes first second) ∙ better_of_alike (sheet_of first) (sheet_of second) ∙ better_on_bytes other bytes' first second;
        key_alike = key_of_alike;
        key_bytes_alike = λ sheet key. sym (key_on_bytes one bytes sheet key) ∙ key_of_alike (sheet_of sheet) (sheet_of key) ∙ key_on_bytes other bytes' sheet key;
      }

-- From two answers that are one: the same return value and, of rows that were the same, the same answer row
pub one_answer : {O : Type 0} (returns : O → ℕ) (leaves : O → List ℕ → List ℕ) {o o' : O} {returned returned' : ℕ} {row row' after after' : List ℕ}
    → returned ≡ returns o → after ≡ leaves o row → returned' ≡ returns o' → after' ≡ leaves o' row' → o ≡ o' → row ≡ row'
    → (returned ≡ returned') × (after ≡ after')
one_answer returns leaves e f e' f' same rows = (e ∙ ap returns same ∙ sym e', f ∙ ap₂ leaves same rows ∙ sym f')
