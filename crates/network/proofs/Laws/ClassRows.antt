-- How the rows of the class call come about: the first stop below that is alike is the lowest alike, and stop by stop the rows hold the
-- classes and the sizes so far. Assumes nothing.
use Prim.Native.Nat.{ℕ, ◌+◌, ◌<◌, ◌≤◌}
use mathlib.Core.Path.{◌≡◌, refl, sym, ap, ap₂, ◌∙◌}
use mathlib.Core.Bool.{Bool, true, false, ◌&&◌, and-eq-true_iff}
use mathlib.Core.List.{List}
use native.Mathlib.Decide.{dec_lt, ℕ_discrete}
use native.Mathlib.Nat.{add-zero}
use native.Mathlib.Omega.{arith}
use lib.Arith.{lt_of_le-ne}
use lib.Dec.{eqb}
use lib.ListN.{length, get_or, set, length-set}
use lib.Seq.{get_or-set_same, get_or-set_other, ext_get_or}
use borrow.Author.Tests.{eq-eqb, ne_eqb, eqb-true}
use Rattle.network.specs.Lists.{pick, count_below}
use Rattle.network.specs.Network.{Net, is_served}
use Rattle.network.specs.Valid.{Valid}
use Rattle.network.specs.Classes.{is_alike, lowest_alike, is_lowest, class_row, weight_row, class_count}
use Rattle.network.proofs.Laws.Lists.{zero_ne_one}
use Rattle.network.proofs.Laws.Tables.{count_below_next, IsFirst, count_below_zero}
use Rattle.network.proofs.Laws.Alike.{alike_is_alike, alike_refl}
use Rattle.network.proofs.Laws.Classes.{first_alike, lowest_alike_le, lowest_alike_is_lowest, is_in_class_of, length_class_row}
use Rattle.network.proofs.Laws.Classes.{length_weight_row, class_row_at, weight_row_at}

-- ---- the lowest stop alike to a stop

not_before : {p : ℕ → Bool} {bound f g : ℕ} → IsFirst p bound f → IsFirst p bound g → f < g → ⊥
not_before {p} {bound} {f} {g} x y h =
    let e = x.passes (omega (arith, y.at_most)) in
    let d = y.none_before f h in
    zero_ne_one (cc)

first_unique : {p : ℕ → Bool} {bound f g : ℕ} → IsFirst p bound f → IsFirst p bound g → f ≡ g
first_unique {p} {bound} {f} {g} x y = go (dec_lt f g) (dec_lt g f)
  where
    go : Dec (f < g) → Dec (g < f) → f ≡ g
    go (yes h) k = absurd (not_before x y h)
    go (no h) (yes k) = absurd (not_before y x k)
    go (no h) (no k) = omega arith

pub lowest_alike_found : (n : Net) (s t : ℕ) → t < 64 → is_alike n t s ≡ true → ((i : ℕ) → i < t → is_alike n i s ≡ false) → t ≡ lowest_alike n s
lowest_alike_found n s t h e none =
    first_unique (record { at_most = omega arith; passes = λ _. e; none_before = none }) (first_alike n s)

-- .. which is the stop itself where no lower one is
pub lowest_alike_none : {n : Net} → Valid n → (s : ℕ) → s < 64 → is_served s n.calls ≡ true → ((i : ℕ) → i < s → is_alike n i s ≡ false) → s ≡ lowest_alike n s
lowest_alike_none {n} v s h e = lowest_alike_found n s s h ((alike_is_alike v s s).1 (alike_refl n s e))

-- ---- the rows, stop by stop

-- The class row's value at a stop
abbrev pub class_at : Net → ℕ → ℕ
class_at n s = pick (is_served s n.calls) (lowest_alike n s) 255

class_at_le : {n : Net} → Valid n → (t : ℕ) → class_at n t < 64 → class_at n t ≤ t
class_at_le {n} v t = go (is_served t n.calls) refl
  where
    go : (x : Bool) → is_served t n.calls ≡ x → pick x (lowest_alike n t) 255 < 64 → pick x (lowest_alike n t) 255 ≤ t
    go true e h = lowest_alike_le v t e
    go false e h = absurd (omega arith)

module _ (n : Net) (t : ℕ) where
  -- A stop's class number tells its class
  pub class_at_in : (s : ℕ) → s < 64 → is_in_class_of n s t ≡ eqb (class_at n t) s
  class_at_in s h = go (is_served t n.calls)
    where
      go : (x : Bool) → (x && eqb (lowest_alike n t) s) ≡ eqb (pick x (lowest_alike n t) 255) s
      go true = refl
      go false = sym (ne_eqb 255 s (λ e. omega arith))

  class_at_lowest : t < 64 → is_lowest n t ≡ eqb (class_at n t) t
  unfolding is_lowest
  class_at_lowest h = class_at_in t h

-- The rows and the number of classes after so many stops
pub record ClassesFilled (n : Net) (classes weights : List ℕ) (count stop : ℕ) : Type 0 where
  pub low : stop ≤ 64
  pub class_row_length : length classes ≡ 64
  pub weight_row_length : length weights ≡ 64
  pub classes_are : (s : ℕ) → s < stop → get_or classes s 0 ≡ class_at n s
  pub weights_are : (s : ℕ) → s < stop → get_or weights s 0 ≡ count_below (is_in_class_of n s) stop
  pub count_is : count ≡ count_below (is_lowest n) stop

pub classes_filled_none : (n : Net) (classes weights : List ℕ) → length classes ≡ 64 → length weights ≡ 64 → ClassesFilled n classes weights 0 0
unfolding count_below
classes_filled_none n classes weights c w =
    record {
      low = omega arith;
      class_row_length = c;
      weight_row_length = w;
      classes_are = λ s h. absurd (omega arith);
      weights_are = λ s h. absurd (omega arith);
      count_is = refl;
    }

-- One stop more
module _ {n : Net} (v : Valid n) (classes weights : List ℕ) (count stop : ℕ) (f : ClassesFilled n classes weights count stop) (h : stop < 64) where
  abbrev pub zeroed : List ℕ
  zeroed = set weights stop 0

  -- no stop before is in a class of which this is the lowest
  fresh : count_below (is_in_class_of n stop) stop ≡ 0
  fresh =
      count_below_zero _ stop (λ t k.
      class_at_in n t stop h ∙ ne_eqb (class_at n t) stop (λ e. let g = class_at_le v t (omega arith) in omega arith))

  pub zeroed_is : (s : ℕ) → s ≤ stop → get_or (set weights stop 0) s 0 ≡ count_below (is_in_class_of n s) stop
  zeroed_is s k = go (ℕ_discrete s stop)
    where
      go : Dec (s ≡ stop) → get_or zeroed s 0 ≡ count_below (is_in_class_of n s) stop
      go (yes e) = rw e (get_or-set_same weights stop 0 0 (omega (arith, f.weight_row_length)) ∙ sym fresh)
      go (no d) = get_or-set_other weights stop s 0 0 d ∙ f.weights_are s (lt_of_le-ne k d)

  -- `at` is the stop's value in the class row
  module _ (at : ℕ) (is : at ≡ class_at n stop) where
    pub at_le : at < 64 → at ≤ stop
    at_le g = rw is (class_at_le v stop (rw is at g))

    in-class : (s : ℕ) → s < 64 → (t : Bool) → eqb at s ≡ t
        → count_below (is_in_class_of n s) stop + pick t 1 0 ≡ count_below (is_in_class_of n s) (stop + 1)
    in-class s k t e =
        ap (λ (x : Bool). count_below (is_in_class_of n s) stop + pick x 1 0) (sym (class_at_in n stop s k ∙ ap (λ (i : ℕ). eqb i s) (sym is) ∙ e))
        ∙ sym (count_below_next _ stop)

    -- a served stop counts in its class
    weights_counted : at < 64 → (s : ℕ) → s < stop + 1
        → get_or (set zeroed at (get_or zeroed at 0 + 1)) s 0 ≡ count_below (is_in_class_of n s) (stop + 1)
    weights_counted g s k = go (ℕ_discrete s at)
      where
        go : Dec (s ≡ at) → get_or (set zeroed at (get_or zeroed at 0 + 1)) s 0 ≡ count_below (is_in_class_of n s) (stop + 1)
        go (yes e) =
            ap (λ (i : ℕ). get_or (set zeroed at (get_or zeroed at 0 + 1)) i 0) e
            ∙ get_or-set_same zeroed at _ 0 (rw length-set (omega (arith, f.weight_row_length)))
            ∙ ap (λ (i : ℕ). get_or zeroed i 0 + 1) (sym e)
            ∙ ap (λ (i : ℕ). i + 1) (zeroed_is s (omega arith))
            ∙ in-class s (omega arith) true (eq-eqb _ _ (sym e))
        go (no d) =
            get_or-set_other zeroed at s _ 0 d
            ∙ zeroed_is s (omega arith)
            ∙ sym (add-zero _)
            ∙ in-class s (omega arith) false (ne_eqb _ _ (λ e. d (sym e)))

    -- an unserved one in none
    weights_passed : 64 ≤ at → (s : ℕ) → s < stop + 1 → get_or zeroed s 0 ≡ count_below (is_in_class_of n s) (stop + 1)
    weights_passed g s k =
        zeroed_is s (omega arith) ∙ sym (add-zero _) ∙ in-class s (omega arith) false (ne_eqb at s (λ e. omega arith))

    classes_next : (s : ℕ) → s < stop + 1 → get_or (set classes stop at) s 0 ≡ class_at n s
    classes_next s k = go (ℕ_discrete s stop)
      where
        go : Dec (s ≡ stop) → get_or (set classes stop at) s 0 ≡ class_at n s
        go (yes e) = rw e (get_or-set_same classes stop at 0 (omega (arith, f.class_row_length)) ∙ is)
        go (no d) = get_or-set_other classes stop s at 0 d ∙ f.classes_are s (lt_of_le-ne (omega arith) d)

    pub count_next : (t : Bool) → eqb at stop ≡ t → count + pick t 1 0 ≡ count_below (is_lowest n) (stop + 1)
    count_next t e =
        ap₂ (λ (k : ℕ) (x : Bool). k + pick x 1 0) f.count_is (sym (class_at_lowest n stop h ∙ ap (λ (i : ℕ). eqb i stop) (sym is) ∙ e))
        ∙ sym (count_below_next (is_lowest n) stop)

    module _ (more : ℕ) (e : more ≡ count_below (is_lowest n) (stop + 1)) where
      filled_with : (row : List ℕ) → length row ≡ 64 → ((s : ℕ) → s < stop + 1 → get_or row s 0 ≡ count_below (is_in_class_of n s) (stop + 1))
          → ClassesFilled n (set classes stop at) row more (stop + 1)
      filled_with row l are =
          record {
            low = omega arith;
            class_row_length = length-set classes stop at ∙ f.class_row_length;
            weight_row_length = l;
            classes_are = classes_next;
            weights_are = are;
            count_is = e;
          }

      pub filled_served : at < 64 → ClassesFilled n (set classes stop at) (set zeroed at (get_or zeroed at 0 + 1)) more (stop + 1)
      filled_served g = filled_with _ (length-set zeroed at _ ∙ length-set weights stop 0 ∙ f.weight_row_length) (weights_counted g)

      pub filled_unserved : 64 ≤ at → ClassesFilled n (set classes stop at) zeroed more (stop + 1)
      filled_unserved g = filled_with zeroed (length-set weights stop 0 ∙ f.weight_row_length) (weights_passed g)

-- ---- all stops

module _ {n : Net} (v : Valid n) where
  -- only the lowest stop of a class has stops in it
  pub weight_is : (s : ℕ) → count_below (is_in_class_of n s) 64 ≡ pick (is_lowest n s) (count_below (is_in_class_of n s) 64) 0
  weight_is s = go (is_lowest n s) refl
    where
      none : is_lowest n s ≡ false → (t : ℕ) → t < 64 → (x : Bool) → is_in_class_of n s t ≡ x → x ≡ false
      none d t h false e = refl
      none d t h true e =
          let (a, b) = (and-eq-true_iff _ _).0 e in
          let k = rw (eqb-true (lowest_alike n t) s b) at (lowest_alike_is_lowest v t a) in
          absurd (zero_ne_one (cc))

      go : (x : Bool) → is_lowest n s ≡ x → count_below (is_in_class_of n s) 64 ≡ pick x (count_below (is_in_class_of n s) 64) 0
      go true e = refl
      go false e = count_below_zero _ 64 (λ t h. none e t h _ refl)

  module _ (classes weights : List ℕ) (count : ℕ) (f : ClassesFilled n classes weights count 64) where
    pub filled_classes : classes ≡ class_row n
    filled_classes =
        ext_get_or 0 classes (class_row n) (f.class_row_length ∙ sym (length_class_row n))
        (λ s h. f.classes_are s (rw f.class_row_length at h) ∙ sym (class_row_at n s 0 (omega (arith, f.class_row_length))))

    pub filled_weights : weights ≡ weight_row n
    filled_weights =
        ext_get_or 0 weights (weight_row n) (f.weight_row_length ∙ sym (length_weight_row n))
        (λ s h. f.weights_are s (rw f.weight_row_length at h) ∙ weight_is s ∙ sym (weight_row_at n s 0 (omega (arith, f.weight_row_length))))

    pub filled_count : count ≡ class_count n
    unfolding class_count
    filled_count = f.count_is
