-- Document 02, A.5: what a mark out of a hundred means. It is the quotient of a division with remainder, at most 100 since no sheet is above the
-- best, and pairs of mark and remainder are in the order of the least gaps; by a key that is the best it is the same. Of the search nothing is
-- cited but its optimality, and that through what a mark means. Each theorem on a call holds of every call that has returned, where it keeps the contract in
-- src/, which every call does. Assumes nothing.
use Prim.Native.Nat.{ℕ, ◌+◌, ◌*◌, ◌<◌, ◌≤◌}
use mathlib.Core.Path.{◌≡◌, refl, sym, ap, ap₂, ◌∙◌}
use mathlib.Core.Bool.{Bool}
use mathlib.Core.List.{List, [], ◌∷◌}
use mathlib.Core.Logic.{◌↔◌}
use native.Mathlib.Omega.{arith}
use borrow.Fn.World.{ArgsD, ResD}
use borrow.Fn.Kinds.{ended_of}
use contract.Lifetimes.{Lfts}
use denote.Triple.Clauses.{AtExit}
use lib.IntN.{ℤ}
use lib.ListN.{length}
use Rattle.network.specs.Network.{Net, max_period}
use Rattle.network.specs.Rating.{IsRating}
use Rattle.network.specs.Reading.{values, refusal, accepted, read_file}
use Rattle.network.specs.Refusals.{Refuses, Demand1}
use Rattle.network.specs.Valid.{Valid}
use Rattle.network.proofs.Laws.Gaps.{accepted_valid, IsRating-unique, IsRating-range}
use Rattle.examination.specs.ByKey.{beside_key, key_answer, EitherUnfit}
use Rattle.examination.specs.Hundred.{mark_of, remainder_of, PairBelow}
use Rattle.examination.specs.Sheets.{MarkOutcome, decided, mark_answer}
use Rattle.examination.proofs.Demands.{mark_means_what_it_says}
use Rattle.examination.proofs.Laws.Hundred.{mark_of_beside_zero, remainder_of_beside_zero, gives_back_above_zero, remainder_below, one_pair, gives_back}
use Rattle.examination.proofs.Laws.Hundred.{mark_at_most_100, mark_100_is_best, best_has_100, ranks, mark_range}
use Rattle.examination.proofs.Laws.Refusals.{decided_is_accepted, key_refuses, key_refuses_only, key_answers}
use Rattle.examination.proofs.Mark.{MarkMeans, neither_above}
use Rattle.examination.specs.contracts.by_key.by_key as by_key
use Rattle.examination.proofs.by_key.by_key.Kinds as by_key_kinds
use Rattle.examination.proofs.by_key.by_key.Reads as by_key_contract
use Rattle.examination.specs.contracts.marking.mark as marking
use Rattle.examination.proofs.marking.mark.Kinds as marking_kinds
use Rattle.examination.proofs.marking.mark.Reads as marking_contract
-- ---- What each answer of the call by a key tells

pub use Rattle.examination.proofs.Laws.Answers.{key_answer_marked, key_answer_refused}

-- ---- What is demanded

-- Of a least gap beside another: whole part and remainder of a hundred times the one by the other
pub record Divided (least best mark remainder : ℕ) : Type 0 where
  pub gives_back_above_0 : 0 < best → mark * best + remainder ≡ 100 * least
  -- "the remainder being smaller than a best above 0"
  pub remainder_is_below : 0 < best → remainder < best
  -- no other pair with such a remainder fits the equation
  pub no_other_pair : (m r : ℕ) → r < best → m * best + r ≡ 100 * least → (m ≡ mark) × (r ≡ remainder)
  -- "Where the best least gap is 0, the mark is 100, remainder 0"
  pub beside_zero : best ≡ 0 → (mark ≡ 100) × (remainder ≡ 0)
  pub ranges : (mark ≤ 144000) × (remainder < max_period)

-- Of a decided marking
pub record MarkOutOfHundred (least best mark remainder : ℕ) : Type 0 where
  pub division : Divided least best mark remainder
  -- "Mark times best plus remainder gives back 100 times the sheet's gap", also where the best is 0
  pub gives_all_back : mark * best + remainder ≡ 100 * least
  pub at_most_100 : mark ≤ 100
  -- and 100 exactly where the least gaps are equal
  pub hundred_where_equal : (mark ≡ 100) ↔ (least ≡ best)

-- ---- The definition is such

pub divided : (least best : ℕ) → least ≤ max_period → best ≤ max_period → Divided least best (mark_of least best) (remainder_of least best)
divided least best l b =
    record {
      gives_back_above_0 = λ h. gives_back_above_zero least h;
      remainder_is_below = λ h. remainder_below least h;
      no_other_pair = λ m r below e.
          let h : 0 < best = omega (arith, below) in one_pair below (remainder_below least h) (e ∙ sym (gives_back_above_zero least h));
      beside_zero = λ e. (mark_of_beside_zero least e, remainder_of_beside_zero least e);
      ranges = mark_range least best l b;
    }

pub out_of_hundred : (least best : ℕ) → least ≤ best → best ≤ max_period → MarkOutOfHundred least best (mark_of least best) (remainder_of least best)
out_of_hundred least best le b =
    record {
      division = divided least best (omega (arith, le, b)) b;
      gives_all_back = gives_back least best le;
      at_most_100 = mark_at_most_100 least best le;
      hundred_where_equal = (mark_100_is_best least best le, λ e. rw e (best_has_100 best).0);
    }

-- Cases: P7, whose best is 3, with least gaps 1, 2 and 0; P8; two lines of a day; a best of 0
pub cases_out_of_hundred : ((mark_of 1 3 ≡ 33) × (remainder_of 1 3 ≡ 1))
    × ((mark_of 2 3 ≡ 66) × (remainder_of 2 3 ≡ 2))
    × ((mark_of 0 3 ≡ 0) × (remainder_of 0 3 ≡ 0))
    × ((mark_of 5 12 ≡ 41) × (remainder_of 5 12 ≡ 8))
    × ((mark_of 719 720 ≡ 99) × (remainder_of 719 720 ≡ 620))
    × ((mark_of 1 720 ≡ 0) × (remainder_of 1 720 ≡ 100))
    × ((mark_of 0 0 ≡ 100) × (remainder_of 0 0 ≡ 0))
unfolding mark_of remainder_of
cases_out_of_hundred = ((refl, refl), (refl, refl), (refl, refl), (refl, refl), (refl, refl), (refl, refl), (refl, refl))

-- ---- Of marks by what they mean

module _ {n : Net} {sheet : List ℤ} {budget : ℕ} {answer : MarkOutcome} (means : MarkMeans n sheet budget answer)
    {least sum best_least best_sum : ℕ} {equal : Bool} {mark remainder tries : ℕ} (is : answer ≡ decided least sum best_least best_sum equal mark remainder tries) where
  pub marked_out_of_hundred : MarkOutOfHundred least best_least mark remainder
  marked_out_of_hundred =
      let m = means.mark_is is in
      rw (m.0, m.1) (out_of_hundred least best_least (means.not_above_best is) (means.decided_range is).1.0)

  module _ {sheet' : List ℤ} {budget' : ℕ} {answer' : MarkOutcome} (means' : MarkMeans n sheet' budget' answer')
      {least' sum' best_least' best_sum' : ℕ} {equal' : Bool} {mark' remainder' tries' : ℕ}
      (is' : answer' ≡ decided least' sum' best_least' best_sum' equal' mark' remainder' tries') where
    -- Nothing is above either best, so that they are one
    pub one_best : (best_least ≡ best_least') × (best_sum ≡ best_sum')
    one_best =
        let (starts, fit, rated) = means.best_is_attained is in
        let (starts', fit', rated') = means'.best_is_attained is' in
        neither_above (means'.best_is_unbeaten is' starts fit rated) (means.best_is_unbeaten is starts' fit' rated')

    pub ranked : (least < least') ↔ PairBelow mark remainder mark' remainder'
    ranked =
        let m = means.mark_is is in
        let m' = means'.mark_is is' in
        rw (m.0, m.1, m'.0, m'.1, sym one_best.0)
        (ranks least least' best_least (means.not_above_best is) (omega (arith, means'.not_above_best is', one_best.0)))

-- ---- The mark call

module _ (κs : Lfts 2) (a : ArgsD marking.signature κs) (r : ResD marking.signature κs) (s : AtExit (ended_of 2 marking_kinds.ps marking_kinds.r) κs)
    (kept : marking_contract.Post κs a r s) {least sum best_least best_sum : ℕ} {equal : Bool} {mark remainder tries : ℕ}
    (is : mark_answer r ≡ decided least sum best_least best_sum equal mark remainder tries) where
  read_as : (n : Net) × (read_file a.0.now ≡ accepted n)
  read_as = decided_is_accepted (read_file a.0.now) a.1.0.now a.1.1.0 (sym kept.0 ∙ is)

  means : MarkMeans read_as.0 a.1.0.now a.1.1.0 (mark_answer r)
  means = mark_means_what_it_says κs a r s kept read_as.1

  -- A decided marking has a mark and a remainder
  pub mark_out_of_hundred : MarkOutOfHundred least best_least mark remainder
  mark_out_of_hundred = marked_out_of_hundred means is

  -- Of two decided markings on one file, whatever their budgets: the best is one, and the smaller least gap has the smaller pair
  module _ (κs' : Lfts 2) (a' : ArgsD marking.signature κs') (r' : ResD marking.signature κs') (s' : AtExit (ended_of 2 marking_kinds.ps marking_kinds.r) κs')
      (kept' : marking_contract.Post κs' a' r' s') (file : a.0.now ≡ a'.0.now) {least' sum' best_least' best_sum' : ℕ} {equal' : Bool}
      {mark' remainder' tries' : ℕ} (is' : mark_answer r' ≡ decided least' sum' best_least' best_sum' equal' mark' remainder' tries') where
    means' : MarkMeans read_as.0 a'.1.0.now a'.1.1.0 (mark_answer r')
    means' = mark_means_what_it_says κs' a' r' s' kept' (sym (ap read_file file) ∙ read_as.1)

    pub marks_have_one_best : (best_least ≡ best_least') × (best_sum ≡ best_sum')
    marks_have_one_best = one_best means is means' is'

    pub marks_rank : (least < least') ↔ PairBelow mark remainder mark' remainder'
    marks_rank = ranked means is means' is'

-- ---- The call by a key

pub by_key_asks_nothing : (κs : Lfts 3) (a : ArgsD by_key.signature κs) → by_key_contract.Pre κs a
by_key_asks_nothing κs a = tt

-- Its two numbers where sheet and key fit
pub beside_key_is : {n : Net} → Valid n → {sheet key : List ℤ} {least sum best best_sum : ℕ} → IsRating n sheet least sum → IsRating n key best best_sum
    → beside_key n sheet key ≡ values (mark_of least best ∷ remainder_of least best ∷ [])
unfolding beside_key
beside_key_is valid p q =
    let l = (IsRating-unique valid p).0 in
    let b = (IsRating-unique valid q).0 in
    sym (ap₂ (λ (x y : ℕ). values (mark_of x y ∷ remainder_of x y ∷ [])) l b)

module _ (κs : Lfts 3) (a : ArgsD by_key.signature κs) (r : ResD by_key.signature κs) (s : AtExit (ended_of 3 by_key_kinds.ps by_key_kinds.r) κs)
    (kept : by_key_contract.Post κs a r s) where
  -- It refuses by the file's ground, then by 15 where the sheet or the key doesn't fit, and by nothing else
  pub by_key_demand_1 : Demand1 (λ number place. key_answer r ≡ refusal number place)
      (Refuses a.0.now 15 (EitherUnfit a.1.0.now a.1.1.0.now)) Unit
  by_key_demand_1 =
      record {
        faulty_is_refused = λ number place f. kept.0 ∙ key_refuses a.0.now a.1.0.now a.1.1.0.now f;
        no_other_is_refused = λ number place e. key_refuses_only a.0.now a.1.0.now a.1.1.0.now (sym kept.0 ∙ e);
        rows_as_found = λ number place e. tt;
      }

  module _ {n : Net} (reads : read_file a.0.now ≡ accepted n) (key_fits : length a.1.1.0.now ≡ length n.periods) where
    valid : Valid n
    valid = accepted_valid a.0.now n kept.1 reads

    told : length a.1.0.now ≡ length n.periods → {least sum best best_sum : ℕ} → IsRating n a.1.0.now least sum
        → IsRating n a.1.1.0.now best best_sum → key_answer r ≡ values (mark_of least best ∷ remainder_of least best ∷ [])
    told fits p q = kept.0 ∙ key_answers a.0.now a.1.0.now a.1.1.0.now reads fits key_fits ∙ beside_key_is valid p q

    -- It divides the least gap of the one by that of the other, both over all trips
    pub by_key_divides : length a.1.0.now ≡ length n.periods → {least sum best best_sum : ℕ} → IsRating n a.1.0.now least sum
        → IsRating n a.1.1.0.now best best_sum
        → (mark : ℕ) × (remainder : ℕ) × (key_answer r ≡ values (mark ∷ remainder ∷ [])) × Divided least best mark remainder
    by_key_divides fits {least} {sum} {best} {best_sum} p q = (
      mark_of least best,
      remainder_of least best,
      told fits p q,
      divided least best (IsRating-range valid p).0 (IsRating-range valid q).0,
    )

    -- Beside a key with the best least gap, such as the starts of a finished search, its numbers are those of a decided marking of the sheet,
    -- whatever the budget of that
    pub by_key_as_mark : (κs' : Lfts 2) (a' : ArgsD marking.signature κs') (r' : ResD marking.signature κs')
        (s' : AtExit (ended_of 2 marking_kinds.ps marking_kinds.r) κs') → marking_contract.Post κs' a' r' s' → a.0.now ≡ a'.0.now
        → a.1.0.now ≡ a'.1.0.now → {least sum best_least best_sum : ℕ} {equal : Bool} {mark remainder tries : ℕ}
        → mark_answer r' ≡ decided least sum best_least best_sum equal mark remainder tries → {key_sum : ℕ} → IsRating n a.1.1.0.now best_least key_sum
        → key_answer r ≡ values (mark ∷ remainder ∷ [])
    by_key_as_mark κs' a' r' s' kept' file sheet {least} {sum} is q =
        let means = mark_means_what_it_says κs' a' r' s' kept' (sym (ap read_file file) ∙ reads) in
        let m = means.mark_is is in
        let p : IsRating n a.1.0.now least sum = rw sheet (means.decided_rating is) in
        told (ap length sheet ∙ means.decided_fits is) p q ∙ sym (ap₂ (λ (x y : ℕ). values (x ∷ y ∷ [])) m.0 m.1)
