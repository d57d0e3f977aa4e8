-- What rate answers of a sheet, as the calls on sheets use it: two sheets are compared as document 01 wants by the ratings that rate
-- answers, a sheet that rate rates fits its file's network, and its least gap is divided by that of a key. Assumes nothing.
use Prim.Native.Nat.{ℕ, ◌≤◌}
use mathlib.Core.Path.{◌≡◌, refl, sym, ap, ap₂, ◌∙◌}
use mathlib.Core.Bool.{Bool, true, false, ◌&&◌}
use mathlib.Core.List.{List, [], ◌∷◌}
use borrow.Author.Tests.{eqb-true, eq-eqb}
use lib.Dec.{eqb}
use lib.IntN.{ℤ}
use lib.ListN.{length}
use Rattle.std.specs.Prelude.{Result, Ok, Err}
use Rattle.std.specs.Result.{result_ok}
use Rattle.network.specs.declared.Rating as held
use Rattle.network.specs.declared.grounds.Refusal.{Refusal}
use Rattle.network.specs.Lists.{pick}
use Rattle.network.specs.Network.{Net, max_period}
use Rattle.network.specs.Numbers.{number_of}
use Rattle.network.specs.Rate.{rate_answer, rating_values, on_sheet, rate_outcome}
use Rattle.network.specs.Rating.{no_rating, rating, is_above}
use Rattle.network.specs.Reading.{Reading, accepted, refused, values, refusal, read_file}
use Rattle.network.specs.Engine.Rated.{ranked}
use Rattle.network.specs.Valid.{IsBytes}
use Rattle.network.proofs.Laws.Lists.{zero_ne_one}
use Rattle.network.proofs.Laws.Gaps.{accepted_valid, rating_is_rating, IsRating-range, rating_some, is_above_none, none_is_not_above, rating_numbers}
use Rattle.search.specs.Search.{search_outcome}
use Rattle.examination.specs.Engine.Chosen.{rating_on, better_from}
use Rattle.examination.specs.ByKey.{beside_key, key_outcome}
use Rattle.examination.specs.Hundred.{mark_of, remainder_of}
use Rattle.examination.specs.Sheets.{first, second, neither, fits, better_by, better_of, marked, mark_outcome}
use Rattle.examination.specs.Sheets as sheets

-- ---- what rate's answer tells

-- A sheet that is rated: the file's network, which it fits, and the rating's numbers
pub record RatedOn (read : Reading) (sheet : List ℤ) (least sum : ℕ) : Type 0 where
  pub net : Net
  pub reads : read ≡ accepted net
  pub fit : length sheet ≡ length net.periods
  pub its_least : least ≡ (rating net sheet).least
  pub its_sum : sum ≡ (rating net sheet).sum

pub rated_on : (read : Reading) (sheet : List ℤ) {least sum : ℕ} → values (least ∷ sum ∷ []) ≡ rate_outcome read sheet
    → RatedOn read sheet least sum
unfolding rate_outcome on_sheet rating_values
rated_on (refused number place) sheet e = absurd (zero_ne_one (cc))
rated_on (accepted n) sheet {least} {sum} e = go (eqb (length sheet) (length n.periods)) refl e
  where
    go : (b : Bool) → eqb (length sheet) (length n.periods) ≡ b
        → values (least ∷ sum ∷ []) ≡ pick b (values ((rating n sheet).least ∷ (rating n sheet).sum ∷ [])) (refusal 15 0)
        → RatedOn (accepted n) sheet least sum
    go false f e = absurd (zero_ne_one (cc))
    go true f e = record { net = n; reads = refl; fit = eqb-true _ _ f; its_least = cc; its_sum = cc }

-- .. of which the least gap is at most 1,440, as that of every timetable on an accepted network is
pub rated_least : (file : List ℕ) → IsBytes file → {sheet : List ℤ} {least sum : ℕ} → RatedOn (read_file file) sheet least sum → least ≤ max_period
rated_least file is_bytes {sheet} r =
    let valid = accepted_valid file r.net is_bytes r.reads in
    rw r.its_least (IsRating-range valid (rating_is_rating r.net valid sheet)).0

-- ---- better-of-two

pub rating_on_of_rate : (read : Reading) (sheet : List ℤ) (r : Result held.Rating Refusal) → rate_answer r ≡ rate_outcome read sheet
    → ranked (result_ok r) ≡ rating_on read sheet
unfolding rate_answer rate_outcome on_sheet rating_on fits rating_values
rating_on_of_rate read sheet (Ok rating') e =
    let r = rated_on read sheet e in
    ap₂ (λ (l s : ℕ). record { some = true; least = l; sum = s }) r.its_least r.its_sum
    ∙ rating_numbers r.net sheet
    ∙ sym
    (ap (λ (k : Reading). rating_on k sheet) r.reads
    ∙ ap (λ (b : Bool). pick b (rating r.net sheet) no_rating) (eq-eqb (length sheet) (length r.net.periods) r.fit))
rating_on_of_rate (refused number' place') sheet (Err r) e = refl
rating_on_of_rate (accepted n) sheet (Err r) e = go (eqb (length sheet) (length n.periods)) e
  where
    go : (b : Bool) → refusal (number_of r.reason) r.place ≡ pick b (values ((rating n sheet).least ∷ (rating n sheet).sum ∷ [])) (refusal 15 0)
        → no_rating ≡ pick b (rating n sheet) no_rating
    go true e = absurd (zero_ne_one (cc))
    go false e = refl

pub better_of_from : (read : Reading) (one other : List ℤ) → better_of read one other ≡ better_from (rating_on read one) (rating_on read other)
unfolding better_of better_by better_from rating_on
better_of_from (refused number place) one other = rw (none_is_not_above no_rating) refl
better_of_from (accepted n) one other = go (fits n one) (fits n other)
  where
    go : (a b : Bool) → better_by a b (rating n one) (rating n other)
        ≡ better_from (pick a (rating n one) no_rating) (pick b (rating n other) no_rating)
    go true true =
        ap (λ (b : Bool). pick (is_above (rating n other) (rating n one)) second (pick b first neither)) (sym (rating_some n one))
    go true false = rw (none_is_not_above (rating n one), rating_some n one) refl
    go false true = rw (is_above_none (rating n other), rating_some n other) refl
    go false false = rw (none_is_not_above no_rating) refl

-- ---- mark

pub mark_refused : (read : Reading) (sheet : List ℤ) (budget : ℕ) {number place : ℕ} → refusal number place ≡ rate_outcome read sheet
    → sheets.refusal number place ≡ mark_outcome read sheet budget
unfolding rate_outcome on_sheet rating_values mark_outcome fits
mark_refused (refused number' place') sheet budget e = ap₂ sheets.refusal (cc) (cc)
mark_refused (accepted n) sheet budget {number} {place} e = go (eqb (length sheet) (length n.periods)) e
  where
    go : (b : Bool) → refusal number place ≡ pick b (values ((rating n sheet).least ∷ (rating n sheet).sum ∷ [])) (refusal 15 0)
        → sheets.refusal number place
        ≡ pick b (marked (rating n sheet).least (rating n sheet).sum (search_outcome (accepted n) (length sheet) budget)) (sheets.refusal 15 0)
    go true e = absurd (zero_ne_one (cc))
    go false e = ap₂ sheets.refusal (cc) (cc)

pub mark_rated : (read : Reading) (sheet : List ℤ) (budget : ℕ) {least sum : ℕ} → RatedOn read sheet least sum
    → marked least sum (search_outcome read (length sheet) budget) ≡ mark_outcome read sheet budget
unfolding mark_outcome fits on_sheet
mark_rated read sheet budget r = rw (r.reads, r.its_least, r.its_sum, eq-eqb _ _ r.fit) refl

-- ---- by a key

-- It refuses as rate on the sheet, ..
pub key_sheet_refused : (read : Reading) (sheet key : List ℤ) {number place : ℕ} → refusal number place ≡ rate_outcome read sheet
    → refusal number place ≡ key_outcome read sheet key
unfolding key_outcome fits rate_outcome on_sheet rating_values
key_sheet_refused (refused k p) sheet key e = e
key_sheet_refused (accepted n) sheet key {number} {place} e = go (eqb (length sheet) (length n.periods)) e
  where
    go : (b : Bool) → refusal number place ≡ pick b (values ((rating n sheet).least ∷ (rating n sheet).sum ∷ [])) (refusal 15 0)
        → refusal number place ≡ pick (b && eqb (length key) (length n.periods)) (beside_key n sheet key) (refusal 15 0)
    go true e = absurd (zero_ne_one (cc))
    go false e = e

-- .. then as rate on the key, ..
pub key_refused : (read : Reading) (sheet key : List ℤ) {least sum number place : ℕ} → RatedOn read sheet least sum
    → refusal number place ≡ rate_outcome read key → refusal number place ≡ key_outcome read sheet key
unfolding key_outcome fits rate_outcome on_sheet rating_values
key_refused read sheet key {least} {sum} {number} {place} r e =
    rw (r.reads, eq-eqb _ _ r.fit) (go (eqb (length key) (length r.net.periods)) (rw r.reads at e))
  where
    go : (b : Bool) → refusal number place ≡ pick b (values ((rating r.net key).least ∷ (rating r.net key).sum ∷ [])) (refusal 15 0)
        → refusal number place ≡ pick b (beside_key r.net sheet key) (refusal 15 0)
    go true e = absurd (zero_ne_one (cc))
    go false e = e

-- .. and otherwise divides the two least gaps
pub key_rated : (read : Reading) (sheet key : List ℤ) {least sum best best_sum : ℕ} → RatedOn read sheet least sum → RatedOn read key best best_sum
    → values (mark_of least best ∷ remainder_of least best ∷ []) ≡ key_outcome read sheet key
unfolding key_outcome fits beside_key
key_rated read sheet key r k =
    let same : k.net ≡ r.net = cc in
    let fit : length key ≡ length r.net.periods = k.fit ∙ ap (λ (n : Net). length n.periods) same in
    rw (r.reads, eq-eqb _ _ r.fit, eq-eqb _ _ fit, r.its_least, k.its_least, same) refl
