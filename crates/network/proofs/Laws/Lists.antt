-- Laws of the tests over lists, by which a loop's invariant goes on from a part of a row to the next, and of rows place by place: each is one
-- induction. Assumes nothing.
use Prim.Native.Nat.{ℕ, zero, suc, ◌+◌, ◌-◌, ◌<◌, suc-le-suc}
use mathlib.Core.Path.{◌≡◌, refl, sym, ap, ap₂, ◌∙◌}
use mathlib.Core.Bool.{Bool, true, false, ◌&&◌, ◌||◌, and-false, or_assoc, or-false, or-true}
use mathlib.Core.List.{List, [], ◌∷◌, ◌++◌, map, Memᴰ}
use native.Mathlib.Nat.{le_refl, le_of_suc-le-suc, zero-lt-suc}
use native.Mathlib.Numerals.{add-one}
use native.Mathlib.Omega.{arith}
use borrow.Author.Tests.{le-leb}
use lib.Dec.{leb}
use lib.ListN.{length, get_or, take, drop, set, replicate, length-drop}
use lib.Seq.{take-suc, take-suc-set, take_all}
use Rattle.network.specs.Lists.{pick, any, keep}

-- For two constructors that an equation takes for one: `cc` then proves that 0 is 1
pub zero_ne_one : ◌≡◌ {A = ℕ} 0 1 → ⊥
zero_ne_one e = omega arith

-- A test of two parts, from its parts
pub and_both : (a b : Bool) → a ≡ true → b ≡ true → (a && b) ≡ true
and_both a b e f = rw (e, f)

pub and_not_left : (a b : Bool) → a ≡ false → (a && b) ≡ false
and_not_left a b e = rw e

pub and_not_right : (a b : Bool) → b ≡ false → (a && b) ≡ false
and_not_right a b e = rw e (and-false a)

pub or_left : (a b : Bool) → a ≡ true → (a || b) ≡ true
or_left a b e = rw e

pub or_right : (a b : Bool) → b ≡ true → (a || b) ≡ true
or_right a b e = rw e (or-true a)

pub or_none : (a b : Bool) → a ≡ false → b ≡ false → (a || b) ≡ false
or_none a b e f = rw (e, f)

-- A test of two parts that fails, into its parts
pub or_neither : (a b : Bool) → (a || b) ≡ false → (a ≡ false) × (b ≡ false)
or_neither true b e = absurd (zero_ne_one (cc))
or_neither false b e = (refl, e)

module _ {A : Type 0} (p : A → Bool) where
  pub length_keep_some : (xs : List A) → leb 1 (length (keep p xs)) ≡ any p xs
  unfolding keep any
  length_keep_some [] = refl
  length_keep_some (x ∷ xs) = go (p x) (length_keep_some xs)
    where
      go : (t : Bool) → leb 1 (length (keep p xs)) ≡ any p xs → leb 1 (length (pick t (x ∷ keep p xs) (keep p xs))) ≡ (t || any p xs)
      go true e = le-leb 1 (length (x ∷ keep p xs)) (omega arith)
      go false e = e

  pub any_append : (xs ys : List A) → any p (xs ++ ys) ≡ (any p xs || any p ys)
  unfolding any
  any_append [] ys = refl
  any_append (x ∷ xs) ys = ap (λ t. p x || t) (any_append xs ys) ∙ sym (or_assoc (p x) (any p xs) (any p ys))

  -- one place more of a row
  pub any_take_next : (l : List A) (i : ℕ) (d : A) → i < length l → any p (take (i + 1) l) ≡ (any p (take i l) || p (get_or l i d))
  unfolding any
  any_take_next l i d h =
      rw (add-one, take-suc l i d) (any_append (take i l) (get_or l i d ∷ []) ∙ ap (λ t. any p (take i l) || t) (or-false _))

-- A row of which one place more counts, which was just written
pub take_set_next : {A : Type 0} (l : List A) (i : ℕ) (a : A) → i < length l → take (i + 1) (set l i a) ≡ take i l ++ (a ∷ [])
take_set_next l i a h = rw add-one (take-suc-set l i a h)

-- The images of a row of which one place is written
pub map_set : {A B : Type 0} (f : A → B) (l : List A) (i : ℕ) (a : A) → map f (set l i a) ≡ set (map f l) i (f a)
map_set f [] i a = refl
map_set f (x ∷ l) zero a = refl
map_set f (x ∷ l) (suc i) a = ap (λ m. f x ∷ m) (map_set f l i a)

-- The part of a list behind its first places, as a slice has it
pub take_rest : {A : Type 0} (k : ℕ) (l : List A) → take (length l - k) (drop k l) ≡ drop k l
take_rest k l = take_all (length l - k) (drop k l) (rw length-drop (le_refl _))

-- ---- rows, place by place

pub get_d_map : {A B : Type 0} (f : A → B) (xs : List A) (i : ℕ) (d : A) (e : B) → i < length xs
    → get_or (map f xs) i e ≡ f (get_or xs i d)
get_d_map f [] i d e h = absurd (omega arith)
get_d_map f (x ∷ xs) zero d e h = refl
get_d_map f (x ∷ xs) (suc i) d e h = get_d_map f xs i d e (le_of_suc-le-suc h)

pub get_d_zeros : (k s : ℕ) → ◌≡◌ {A = ℕ} (get_or (replicate k 0) s 0) 0
get_d_zeros zero s = refl
get_d_zeros (suc k) zero = refl
get_d_zeros (suc k) (suc s) = get_d_zeros k s

-- Two functions that agree on a list's elements
pub map_same : {A B : Type 0} (f g : A → B) (xs : List A) → ((x : A) → Memᴰ x xs → f x ≡ g x) → map f xs ≡ map g xs
map_same f g [] h = refl
map_same f g (x ∷ xs) h = ap₂ ◌∷◌ (h x (Memᴰ.head refl)) (map_same f g xs (λ y m. h y (Memᴰ.tail m)))

module _ {A B C : Type 0} (f : A → C) (g : B → C) where
  pub map_same_places : (xs : List A) (ys : List B) (d : A) (e : B) → length xs ≡ length ys
      → ((i : ℕ) → i < length xs → f (get_or xs i d) ≡ g (get_or ys i e)) → map f xs ≡ map g ys
  map_same_places [] [] d e m h = refl
  map_same_places [] (y ∷ ys) d e m h = absurd (omega (arith, m))
  map_same_places (x ∷ xs) [] d e m h = absurd (omega (arith, m))
  map_same_places (x ∷ xs) (y ∷ ys) d e m h =
      ap₂ ◌∷◌ (h 0 (zero-lt-suc _)) (map_same_places xs ys d e (omega (arith, m)) (λ i l. h (suc i) (suc-le-suc l)))

pub nil_of_length : {A : Type 0} (xs : List A) → length xs ≡ 0 → xs ≡ []
nil_of_length [] e = refl
nil_of_length (x ∷ xs) e = absurd (omega (arith, e))
