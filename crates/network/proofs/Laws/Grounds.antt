-- Laws of a command's grounds: which applies first, what it tells that none does, and what a refusal names. Each follows from the
-- tests, in their order. Assumes nothing.
use Prim.Native.Nat.{ℕ, ◌+◌, ◌<◌, ◌≤◌}
use mathlib.Core.Path.{◌≡◌, refl, ap, subst₂, ◌∙◌}
use native.Mathlib.Omega.{arith}
use mathlib.Core.Bool.{Bool, true, false, not, or-true}
use mathlib.Core.List.{List, [], ◌∷◌, ◌++◌}
use mathlib.Core.Logic.{inl, inr}
use lib.Dec.{eqb, ltb}
use lib.ListN.{length}
use borrow.Author.Tests.{lt-ltb, le-ltb, lt-leb, ne_eqb, ltb-false, leb-false, eqb-false, not-false}
use Rattle.network.specs.Grounds.{Passes, Refused}
use Rattle.network.specs.Divisor.{lcm}
use Rattle.network.specs.Network.{Net, SoFar, Command, states_line, calls_by_offset, calls_by_ride, ends, states_edition, unknown}
use Rattle.network.specs.Network.{first_edition, latest_edition, max_lines, max_period, max_cycle, max_stop, max_offset, max_calls, max_calls_at_stop}
use Rattle.network.specs.Network.{cycle, how_often_at, calls_anywhere, word, operand_bytes, line_operand, stop_operand, edition_operand, ride_offset}
use Rattle.network.specs.Grounds.{Ground, ◌at◌when◌, first, cut_off, period_out_of_range, edition_unknown, some_line_silent, call_grounds, grounds}
use Rattle.network.specs.Refusals.{OfFile}
use Rattle.network.proofs.Laws.Lists.{zero_ne_one, or_neither, or_none}
use Rattle.network.proofs.Laws.Tables.{all_below_at, all_below_of_each}

pub first_none : first [] ≡ Passes
unfolding first
first_none = refl

-- A ground that applies refuses
pub first_hit : (number place : ℕ) (t : Bool) (gs : List Ground) → t ≡ true → first ((number at place when t) ∷ gs) ≡ Refused number place
unfolding first
first_hit number place t gs e = rw e

-- One that doesn't leaves the rest
pub first_miss : (number place : ℕ) (t : Bool) (gs : List Ground) → t ≡ false → first ((number at place when t) ∷ gs) ≡ first gs
unfolding first
first_miss number place t gs e = rw e

-- Where all pass, the first doesn't apply and the rest pass
pub first_passes : (number place : ℕ) (t : Bool) (gs : List Ground) → first ((number at place when t) ∷ gs) ≡ Passes → (t ≡ false) × (first gs ≡ Passes)
unfolding first
first_passes number place true gs e = absurd (zero_ne_one (cc))
first_passes number place false gs e = (refl, e)

-- Grounds after others: tried where none of those applies
pub first_append_hit : (gs hs : List Ground) (number place : ℕ) → first gs ≡ Refused number place → first (gs ++ hs) ≡ Refused number place
unfolding first
first_append_hit [] hs number place e = absurd (zero_ne_one (cc))
first_append_hit ((n at p when true) ∷ gs) hs number place e = e
first_append_hit ((n at p when false) ∷ gs) hs number place e = first_append_hit gs hs number place e

pub first_append_miss : (gs hs : List Ground) → first gs ≡ Passes → first (gs ++ hs) ≡ first hs
unfolding first
first_append_miss [] hs e = refl
first_append_miss ((n at p when true) ∷ gs) hs e = absurd (zero_ne_one (cc))
first_append_miss ((n at p when false) ∷ gs) hs e = first_append_miss gs hs e

-- Where all of two lists pass, so do those of the first
pub first_append_passes : (gs hs : List Ground) → first (gs ++ hs) ≡ Passes → (first gs ≡ Passes) × (first hs ≡ Passes)
unfolding first
first_append_passes [] hs e = (refl, e)
first_append_passes ((n at p when true) ∷ gs) hs e = absurd (zero_ne_one (cc))
first_append_passes ((n at p when false) ∷ gs) hs e = first_append_passes gs hs e

-- The range of a period
pub period_too_short : (period : ℕ) → period < 1 → period_out_of_range period ≡ true
unfolding period_out_of_range
period_too_short period h = rw (lt-ltb period 1 h)

pub period_too_long : (period : ℕ) → max_period < period → period_out_of_range period ≡ true
unfolding period_out_of_range
period_too_long period h = rw (lt-ltb max_period period h) (or-true (ltb period 1))

pub period_in_range : (period : ℕ) → 1 ≤ period → period ≤ max_period → period_out_of_range period ≡ false
unfolding period_out_of_range
period_in_range period h k = rw (le-ltb period 1 h, le-ltb max_period period k)

-- The editions that are known
pub edition_too_low : (edition : ℕ) → edition < first_edition → edition_unknown edition ≡ true
unfolding edition_unknown
edition_too_low edition h = rw (lt-ltb edition first_edition h)

pub edition_too_high : (edition : ℕ) → latest_edition < edition → edition_unknown edition ≡ true
unfolding edition_unknown
edition_too_high edition h = rw (lt-ltb latest_edition edition h) (or-true (ltb edition first_edition))

edition_known : (edition : ℕ) → first_edition ≤ edition → edition ≤ latest_edition → edition_unknown edition ≡ false
unfolding edition_unknown
edition_known edition h k = rw (le-ltb edition first_edition h, le-ltb latest_edition edition k)

-- ---- what it tells of a command that no ground applies

not_cut_off : (c : Command) (behind : List ℕ) → cut_off c behind ≡ false → operand_bytes c ≤ length behind
unfolding cut_off
not_cut_off c behind = ltb-false (length behind) (operand_bytes c)

pub line_not_end : states_line ≡ ends → ⊥
line_not_end e = zero_ne_one (cc)

pub record LineFits (n : Net) (behind : List ℕ) : Type 0 where
  pub operands : 2 ≤ length behind
  pub room : length n.periods < max_lines
  pub period_pos : 0 < word behind 0
  pub period : word behind 0 ≤ max_period
  pub cycle_max : lcm (cycle n) (word behind 0) ≤ max_cycle

pub line_passes : (f : SoFar) (p : ℕ) (behind : List ℕ) → first (grounds states_line f p behind) ≡ Passes → LineFits f.network behind
unfolding grounds period_out_of_range operand_bytes
line_passes f p behind e₀ =
    let (cut, e₁) = first_passes _ _ _ _ e₀ in
    let (full, e₂) = first_passes _ _ _ _ e₁ in
    let (range, e₃) = first_passes _ _ _ _ e₂ in
    let (low, high) = or_neither _ _ range in
    let (long, e₄) = first_passes _ _ _ _ e₃ in
    record {
      operands = not_cut_off states_line behind cut;
      room = leb-false _ _ full;
      period_pos = ltb-false _ _ low;
      period = ltb-false _ _ high;
      cycle_max = ltb-false _ _ long;
    }

pub record CallFits (c : Command) (n : Net) (behind : List ℕ) : Type 0 where
  pub operands : operand_bytes c ≤ length behind
  pub line : line_operand behind < length n.periods
  pub stop : stop_operand behind ≤ max_stop
  pub often : how_often_at (line_operand behind) (stop_operand behind) n.calls < max_calls_at_stop
  pub room : length n.calls < max_calls

pub call_passes : (c : Command) (f : SoFar) (p : ℕ) (behind : List ℕ) → cut_off c behind ≡ false → first (call_grounds f p behind) ≡ Passes
    → CallFits c f.network behind
unfolding call_grounds
call_passes c f p behind cut e₁ =
    let (unstated, e₂) = first_passes _ _ _ _ e₁ in
    let (far, e₃) = first_passes _ _ _ _ e₂ in
    let (again, e₄) = first_passes _ _ _ _ e₃ in
    let (full, e₅) = first_passes _ _ _ _ e₄ in
    record {
      operands = not_cut_off c behind cut;
      line = leb-false _ _ unstated;
      stop = ltb-false _ _ far;
      often = leb-false _ _ again;
      room = leb-false _ _ full;
    }

pub offset_passes : (f : SoFar) (p : ℕ) (behind : List ℕ) → first (grounds calls_by_offset f p behind) ≡ Passes → CallFits calls_by_offset f.network behind
unfolding grounds
offset_passes f p behind e₀ =
    let (cut, e₁) = first_passes _ _ _ _ e₀ in
    call_passes calls_by_offset f p behind cut e₁

pub ride_passes : (f : SoFar) (p : ℕ) (behind : List ℕ) → first (grounds calls_by_ride f p behind) ≡ Passes
    → CallFits calls_by_ride f.network behind × (ride_offset f.network behind ≤ max_offset) × (f.network.edition ≤ first_edition)
unfolding grounds
ride_passes f p behind e₀ =
    let (cut, e) = first_passes _ _ _ _ e₀ in
    let (retired, e') = first_passes _ _ _ _ e in
    let (shared, e₁) = first_append_passes (call_grounds f p behind) _ e' in
    let (none, e₂) = first_passes _ _ _ _ e₁ in
    let (late, e₃) = first_passes _ _ _ _ e₂ in
    (call_passes calls_by_ride f p behind cut shared, ltb-false _ _ late, ltb-false _ _ retired)

-- 43 and 46 are as long, so that ground 3 applies to both alike
pub cut_off_alike : (behind : List ℕ) → cut_off calls_by_ride behind ≡ cut_off calls_by_offset behind
unfolding cut_off operand_bytes
cut_off_alike behind = refl

pub not_cut_off_call : (behind : List ℕ) → cut_off calls_by_offset behind ≡ false → 4 ≤ length behind
unfolding operand_bytes
not_cut_off_call behind = not_cut_off calls_by_offset behind

pub record EndFits (n : Net) (behind : List ℕ) : Type 0 where
  pub some_line : 0 < length n.periods
  pub every_line_calls : (i : ℕ) → i < length n.periods → calls_anywhere i n.calls ≡ true
  pub last : length behind ≡ 0

pub end_passes : (f : SoFar) (p : ℕ) (behind : List ℕ) → first (grounds ends f p behind) ≡ Passes → EndFits f.network behind
unfolding grounds some_line_silent
end_passes f p behind e₀ =
    let (unfit, e₁) = first_passes _ _ _ _ e₀ in
    let (empty, silent) = or_neither (eqb (length f.network.periods) 0) (some_line_silent f.network) unfit in
    let (more, e₂) = first_passes _ _ _ _ e₁ in
    record {
      some_line = omega (arith, eqb-false (length f.network.periods) 0 empty);
      every_line_calls = λ i. all_below_at (λ line. calls_anywhere line f.network.calls) (length f.network.periods) i (not-false _ silent);
      last = omega (arith, leb-false 1 (length behind) more);
    }

pub edition_not_end : states_edition ≡ ends → ⊥
edition_not_end e = zero_ne_one (cc)

pub record EditionFits (p : ℕ) (behind : List ℕ) : Type 0 where
  pub operands : 1 ≤ length behind
  pub opens : p ≡ 0
  pub from : first_edition ≤ edition_operand behind
  pub to : edition_operand behind ≤ latest_edition

pub edition_passes : (f : SoFar) (p : ℕ) (behind : List ℕ) → first (grounds states_edition f p behind) ≡ Passes → EditionFits p behind
unfolding grounds edition_unknown operand_bytes
edition_passes f p behind e₀ =
    let (cut, e₁) = first_passes _ _ _ _ e₀ in
    let (late, e₂) = first_passes _ _ _ _ e₁ in
    let (strange, e₃) = first_passes _ _ _ _ e₂ in
    let (low, high) = or_neither (ltb (edition_operand behind) first_edition) (ltb latest_edition (edition_operand behind)) strange in
    record {
      operands = not_cut_off states_edition behind cut;
      opens = omega (arith, ltb-false 0 p late);
      from = ltb-false _ _ low;
      to = ltb-false _ _ high;
    }

-- ---- and where it fits, none applies

pub line_fits_passes : (f : SoFar) (p : ℕ) (behind : List ℕ) → LineFits f.network behind → first (grounds states_line f p behind) ≡ Passes
unfolding grounds cut_off operand_bytes
line_fits_passes f p behind fits =
    first_miss _ _ _ _ (le-ltb _ _ fits.operands)
    ∙ first_miss _ _ _ _ (lt-leb _ _ fits.room)
    ∙ first_miss _ _ _ _ (period_in_range _ fits.period_pos fits.period)
    ∙ first_miss _ _ _ _ (le-ltb _ _ fits.cycle_max)
    ∙ first_none

pub offset_fits_passes : (f : SoFar) (p : ℕ) (behind : List ℕ) → CallFits calls_by_offset f.network behind
    → first (grounds calls_by_offset f p behind) ≡ Passes
unfolding grounds call_grounds cut_off
offset_fits_passes f p behind fits =
    first_miss _ _ _ _ (le-ltb _ _ fits.operands)
    ∙ first_miss _ _ _ _ (lt-leb _ _ fits.line)
    ∙ first_miss _ _ _ _ (le-ltb _ _ fits.stop)
    ∙ first_miss _ _ _ _ (lt-leb _ _ fits.often)
    ∙ first_miss _ _ _ _ (lt-leb _ _ fits.room)
    ∙ first_none

pub end_fits_passes : (f : SoFar) (p : ℕ) (behind : List ℕ) → EndFits f.network behind → first (grounds ends f p behind) ≡ Passes
unfolding grounds some_line_silent
end_fits_passes f p behind fits =
    first_miss _ _ _ _
    (or_none _ _ (ne_eqb (length f.network.periods) 0 (λ e. omega (arith, e, fits.some_line)))
    (ap not (all_below_of_each (λ line. calls_anywhere line f.network.calls) (length f.network.periods) fits.every_line_calls)))
    ∙ first_miss _ _ _ _ (lt-leb 1 (length behind) (omega (arith, fits.last)))
    ∙ first_none

pub edition_fits_passes : (f : SoFar) (p : ℕ) (behind : List ℕ) → EditionFits p behind → first (grounds states_edition f p behind) ≡ Passes
unfolding grounds cut_off operand_bytes
edition_fits_passes f p behind fits =
    first_miss _ _ _ _ (le-ltb _ _ fits.operands)
    ∙ first_miss _ _ _ _ (le-ltb 0 p (omega (arith, fits.opens)))
    ∙ first_miss _ _ _ _ (edition_known _ fits.from fits.to)
    ∙ first_none

-- ---- what a refusal names: a ground of the file, and the command's place or, by ground 14, the next

abbrev pub AllNamed : (ℕ → ℕ → Type 0) → List Ground → Type 0
AllNamed P [] = Unit {0}
AllNamed P ((number at place when t) ∷ gs) = P number place × AllNamed P gs

pub first_named : (P : ℕ → ℕ → Type 0) (gs : List Ground) (number place : ℕ) → AllNamed P gs → first gs ≡ Refused number place
    → P number place
unfolding first
first_named P [] number place h e = absurd (zero_ne_one (cc))
first_named P ((m at q when true) ∷ gs) number place h e = let i : m ≡ number = cc in let j : q ≡ place = cc in subst₂ P i j h.0
first_named P ((m at q when false) ∷ gs) number place h e = first_named P gs number place h.1 e

abbrev Named : ℕ → ℕ → ℕ → Type 0
Named p number place = OfFile number × (p ≤ place) × (place ≤ p + 1)

-- a ground of document 01, or of A.6
named_1_to_14 : {p number place : ℕ} → (1 ≤ number) × (number ≤ 14) × (p ≤ place) × (place ≤ p + 1) → Named p number place
unfolding OfFile
named_1_to_14 (low, high, from, to) = (inl (low, high), from, to)

named_19_to_21 : {p number place : ℕ} → (19 ≤ number) × (number ≤ 21) × (p ≤ place) × (place ≤ p + 1) → Named p number place
unfolding OfFile
named_19_to_21 (low, high, from, to) = (inr (low, high), from, to)

grounds_named : (c : Command) (f : SoFar) (p : ℕ) (behind : List ℕ) → AllNamed (Named p) (grounds c f p behind)
unfolding grounds call_grounds
grounds_named states_line f p behind = (named_1_to_14 (omega arith), (named_1_to_14 (omega arith), (named_1_to_14 (omega arith), (named_1_to_14 (omega arith), tt))))
grounds_named calls_by_offset f p behind =
    (named_1_to_14 (omega arith), (named_1_to_14 (omega arith), (named_1_to_14 (omega arith), (named_1_to_14 (omega arith), (named_1_to_14 (omega arith), tt)))))
grounds_named calls_by_ride f p behind = (
  named_1_to_14 (omega arith),
  (
    named_19_to_21 (omega arith),
    (named_1_to_14 (omega arith), (named_1_to_14 (omega arith), (named_1_to_14 (omega arith), (named_1_to_14 (omega arith), (named_1_to_14 (omega arith), (named_1_to_14 (omega arith), tt)))))),
  ),
)
grounds_named ends f p behind = (named_1_to_14 (omega arith), (named_1_to_14 (omega arith), tt))
grounds_named states_edition f p behind = (named_1_to_14 (omega arith), (named_19_to_21 (omega arith), (named_19_to_21 (omega arith), tt)))
grounds_named unknown f p behind = (named_1_to_14 (omega arith), tt)

pub refused_named : (c : Command) (f : SoFar) (p : ℕ) (behind : List ℕ) (number place : ℕ)
    → first (grounds c f p behind) ≡ Refused number place → OfFile number × (p ≤ place) × (place ≤ p + 1)
refused_named c f p behind number place = first_named (Named p) (grounds c f p behind) number place (grounds_named c f p behind)

-- .. and a refused line its own place
pub line_refused_place : (f : SoFar) (p : ℕ) (behind : List ℕ) (number place : ℕ) → first (grounds states_line f p behind) ≡ Refused number place → place ≡ p
unfolding grounds
line_refused_place f p behind number place = first_named (λ (n q : ℕ). q ≡ p) (grounds states_line f p behind) number place (refl, (refl, (refl, (refl, tt))))
