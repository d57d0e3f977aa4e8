-- The return value of an export tells a refusal from an answer, and gives back its number and place: a number is at least 1, a place below
-- 65,536, and every other return value is below 65,536. Assumes nothing.
use Prim.Native.Nat.{ℕ, ◌<◌, ◌≤◌}
use mathlib.Core.Path.{◌≡◌, refl, sym, ◌∙◌, subst}
use mathlib.Core.List.{List, [], ◌∷◌}
use mathlib.Core.Logic.{◌⊎◌, inl, inr}
use native.Mathlib.Omega.{arith}
use Rattle.network.specs.Reading.{Outcome, values, refusal}
use Rattle.network.specs.Refusals.{Demand1}
use Rattle.search.specs.Search.{SearchOutcome, finished, stopped, stopped_with_none}
use Rattle.search.specs.Search as search
use Rattle.search.specs.Wanted.{WantedOutcome}
use Rattle.search.specs.Wanted as wanted
use Rattle.examination.specs.Exports.{place_limit, refusal_code, TellsRefusal, status, archive_status, search_status, wanted_status, mark_status}
use Rattle.examination.specs.Sheets.{MarkOutcome, decided, undecided}
use Rattle.examination.specs.Sheets as sheets

pub code_tells : (number place : ℕ) → 1 ≤ number → place < place_limit → TellsRefusal (refusal_code number place) number place
unfolding refusal_code
code_tells number place some low = (omega arith, omega arith, omega arith)

-- Demand 1 of an export, from that of the answer which its return value stands for
pub export_demand_1 : {answers refuses : ℕ → ℕ → Type 0} {untouched : Type 0} {returned : ℕ} → Demand1 answers refuses untouched
    → ((number place : ℕ) → refuses number place → (1 ≤ number) × (place < place_limit))
    → ((number place : ℕ) → answers number place → returned ≡ refusal_code number place)
    → ((number : ℕ) × (place : ℕ) × answers number place) ⊎ (returned < place_limit)
    → Demand1 (TellsRefusal returned) refuses untouched
export_demand_1 {answers} {refuses} {untouched} {returned} d range coded which =
    record {
      faulty_is_refused = λ number place f. tells number place (d.faulty_is_refused number place f);
      no_other_is_refused = λ number place t. d.no_other_is_refused number place (answer number place t which);
      rows_as_found = λ number place t. d.rows_as_found number place (answer number place t which);
    }
  where
    tells : (number place : ℕ) → answers number place → TellsRefusal returned number place
    tells number place e =
        let (some, low) = range number place (d.no_other_is_refused number place e) in
        subst (λ (k : ℕ). TellsRefusal k number place) (sym (coded number place e)) (code_tells number place some low)

    answer : (number place : ℕ) → TellsRefusal returned number place → ((k : ℕ) × (p : ℕ) × answers k p) ⊎ (returned < place_limit) → answers number place
    answer number place t (inl (k, p, e)) =
        let u = tells k p e in
        let same_number : k ≡ number = sym u.1 ∙ t.1 in
        let same_place : p ≡ place = sym u.2 ∙ t.2 in
        rw (← same_number, ← same_place) e
    answer number place t (inr low) = absurd (omega (arith, t.0, low))

-- ---- each export's return value: a refusal's code, or below 65,536

pub status_tells : (o : Outcome) {returned : ℕ} → returned ≡ status o → ((number : ℕ) × (place : ℕ) × (o ≡ refusal number place)) ⊎ (returned < place_limit)
unfolding status
status_tells (values vs) e = inr (omega (arith, e))
status_tells (refusal number place) e = inl (number, place, refl)

pub status_returns : (o : Outcome) {returned : ℕ} → returned ≡ status o → (returned ≡ 0) ⊎ ((number : ℕ) × (place : ℕ) × (o ≡ refusal number place))
unfolding status
status_returns (values vs) e = inl e
status_returns (refusal number place) e = inr (number, place, refl)

pub status_code : {o : Outcome} {returned : ℕ} → returned ≡ status o → (number place : ℕ) → o ≡ refusal number place → returned ≡ refusal_code number place
unfolding status
status_code e number place f = e ∙ rw f refl

-- the archive call's is its length
pub archive_status_tells : (o : Outcome) {returned : ℕ} → returned ≡ archive_status o → ((bytes : ℕ) (others : List ℕ) → o ≡ values (bytes ∷ others) → bytes ≤ 1331)
    → ((number : ℕ) × (place : ℕ) × (o ≡ refusal number place)) ⊎ (returned < place_limit)
unfolding archive_status
archive_status_tells (values []) e low = inr (omega (arith, e))
archive_status_tells (values (bytes ∷ others)) e low = inr (omega (arith, e, low bytes others refl))
archive_status_tells (refusal number place) e low = inl (number, place, refl)

pub archive_status_code : {o : Outcome} {returned : ℕ} → returned ≡ archive_status o → (number place : ℕ) → o ≡ refusal number place
    → returned ≡ refusal_code number place
unfolding archive_status
archive_status_code e number place f = e ∙ rw f refl

pub search_status_tells : (o : SearchOutcome) {returned : ℕ} → returned ≡ search_status o
    → ((number : ℕ) × (place : ℕ) × (o ≡ search.refusal number place)) ⊎ (returned < place_limit)
unfolding search_status
search_status_tells (finished l s t) e = inr (omega (arith, e))
search_status_tells (stopped l s t) e = inr (omega (arith, e))
search_status_tells (stopped_with_none t) e = inr (omega (arith, e))
search_status_tells (search.refusal number place) e = inl (number, place, refl)

pub search_status_code : {o : SearchOutcome} {returned : ℕ} → returned ≡ search_status o → (number place : ℕ) → o ≡ search.refusal number place
    → returned ≡ refusal_code number place
unfolding search_status
search_status_code e number place f = e ∙ rw f refl

pub wanted_status_tells : (o : WantedOutcome) {returned : ℕ} → returned ≡ wanted_status o
    → ((number : ℕ) × (place : ℕ) × (o ≡ wanted.refusal number place)) ⊎ (returned < place_limit)
unfolding wanted_status
wanted_status_tells (wanted.found t) e = inr (omega (arith, e))
wanted_status_tells (wanted.none t) e = inr (omega (arith, e))
wanted_status_tells (wanted.stopped t) e = inr (omega (arith, e))
wanted_status_tells (wanted.refusal number place) e = inl (number, place, refl)

pub wanted_status_code : {o : WantedOutcome} {returned : ℕ} → returned ≡ wanted_status o → (number place : ℕ) → o ≡ wanted.refusal number place
    → returned ≡ refusal_code number place
unfolding wanted_status
wanted_status_code e number place f = e ∙ rw f refl

pub mark_status_tells : (o : MarkOutcome) {returned : ℕ} → returned ≡ mark_status o
    → ((number : ℕ) × (place : ℕ) × (o ≡ sheets.refusal number place)) ⊎ (returned < place_limit)
unfolding mark_status
mark_status_tells (decided l s m u b q r t) e = inr (omega (arith, e))
mark_status_tells (undecided l s t) e = inr (omega (arith, e))
mark_status_tells (sheets.refusal number place) e = inl (number, place, refl)

pub mark_status_returns : (o : MarkOutcome) {returned : ℕ} → returned ≡ mark_status o
    → (returned ≡ 0) ⊎ ((returned ≡ 1) ⊎ ((number : ℕ) × (place : ℕ) × (o ≡ sheets.refusal number place)))
unfolding mark_status
mark_status_returns (decided l s m u b q r t) e = inl e
mark_status_returns (undecided l s t) e = inr (inl e)
mark_status_returns (sheets.refusal number place) e = inr (inr (number, place, refl))

pub mark_status_code : {o : MarkOutcome} {returned : ℕ} → returned ≡ mark_status o → (number place : ℕ) → o ≡ sheets.refusal number place
    → returned ≡ refusal_code number place
unfolding mark_status
mark_status_code e number place f = e ∙ rw f refl
