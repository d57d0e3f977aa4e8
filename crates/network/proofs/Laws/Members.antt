-- What stands in a list: its members and their places, each view from the other, and what becomes of them where the list is joined, kept by
-- a test, mapped or paired. Each is one induction on the list. Assumes nothing.
use Prim.Native.Nat.{ℕ, zero, suc, ◌+◌, ◌≤◌, ◌<◌, min, suc-le-suc}
use mathlib.Core.Path.{◌≡◌, refl, sym, ap, ap₂, subst, fun_ext, ◌∙◌}
use mathlib.Core.Bool.{Bool, true, false, ◌&&◌, ◌||◌, and_comm}
use mathlib.Core.List.Memᴰ
use mathlib.Core.List.{List, [], ◌∷◌, ◌++◌, map, Memᴰ}
use mathlib.Core.List.{map-append}
use mathlib.Core.Logic.{◌⊎◌, inl, inr}
use native.Mathlib.Nat.{le_refl, le_of_suc-le-suc, zero-lt-suc}
use native.Mathlib.Numerals.{add-one}
use native.Mathlib.Omega.{arith}
use lib.ListN.{length, get_or, take, length-append, length-take, length-map, take-append-drop}
use lib.Seq.{take-suc, take_all, get_or-take}
use Rattle.network.specs.Lists.{pick, any, keep, below, pairs_of}
use Rattle.network.proofs.Laws.Lists.{zero_ne_one, or_left, or_right, or_neither, map_same_places, get_d_map}

-- ---- by places; `d` is what is read behind a list's end

-- `a` stands somewhere in the list, and `b` behind it
abbrev pub HasPair : {A : Type 0} → A → List A → A → A → Type 0
HasPair d xs a b = (j : ℕ) × (k : ℕ) × (j < k) × (k < length xs) × (get_or xs j d ≡ a) × (get_or xs k d ≡ b)

-- Every element has the property
abbrev pub All : {A : Type 0} → A → (A → Type 0) → List A → Type 0
All d P xs = (i : ℕ) → i < length xs → P (get_or xs i d)

-- Every two elements are so related, in their order
abbrev pub AllPairs : {A : Type 0} → A → (A → A → Type 0) → List A → Type 0
AllPairs d R xs = (j k : ℕ) → j < k → k < length xs → R (get_or xs j d) (get_or xs k d)

-- ---- members and places

module _ {A : Type 0} where
  pub place_of_member : {a : A} (xs : List A) (d : A) → Memᴰ a xs → (i : ℕ) × (i < length xs) × (get_or xs i d ≡ a)
  place_of_member [] d m = elim m [ ]
  place_of_member (x ∷ xs) d (Memᴰ.head e) = (0, zero-lt-suc _, sym e)
  place_of_member (x ∷ xs) d (Memᴰ.tail m) = let (i, h, e) = place_of_member xs d m in (suc i, suc-le-suc h, e)

  pub member_of_place : (xs : List A) (d : A) (i : ℕ) → i < length xs → Memᴰ (get_or xs i d) xs
  member_of_place [] d i h = absurd (omega arith)
  member_of_place (x ∷ xs) d zero h = Memᴰ.head refl
  member_of_place (x ∷ xs) d (suc i) h = Memᴰ.tail (member_of_place xs d i (omega arith))

  -- What holds at every place holds of every member
  pub of_all : {a : A} (P : A → Type 0) (xs : List A) (d : A) → All d P xs → Memᴰ a xs → P a
  of_all P xs d f m = let (i, h, e) = place_of_member xs d m in subst P e (f i h)

  -- ---- those that pass a test

  module _ (p : A → Bool) where
    pub any_of_member : {a : A} (xs : List A) → Memᴰ a xs → p a ≡ true → any p xs ≡ true
    unfolding any
    any_of_member [] m e = elim m [ ]
    any_of_member (x ∷ xs) (Memᴰ.head k) e = or_left (p x) (any p xs) (ap p (sym k) ∙ e)
    any_of_member (x ∷ xs) (Memᴰ.tail m) e = or_right (p x) (any p xs) (any_of_member xs m e)

    pub member_of_any : (xs : List A) → any p xs ≡ true → (a : A) × Memᴰ a xs × (p a ≡ true)
    unfolding any
    member_of_any [] e = absurd (zero_ne_one (cc))
    member_of_any (x ∷ xs) e = go (p x) refl e (member_of_any xs)
      where
        go : (t : Bool) → p x ≡ t → (t || any p xs) ≡ true → (any p xs ≡ true → (a : A) × Memᴰ a xs × (p a ≡ true))
            → (a : A) × Memᴰ a (x ∷ xs) × (p a ≡ true)
        go true d e ih = (x, Memᴰ.head refl, d)
        go false d e ih = let (a, m, f) = ih e in (a, Memᴰ.tail m, f)

    pub keep_of_member : {a : A} (xs : List A) → Memᴰ a xs → p a ≡ true → Memᴰ a (keep p xs)
    unfolding keep
    keep_of_member {a} (x ∷ xs) m e = go (p x) refl (keep_of_member xs) (Memᴰ.cases_cons m)
      where
        go : (t : Bool) → p x ≡ t → (Memᴰ a xs → p a ≡ true → Memᴰ a (keep p xs)) → (a ≡ x) ⊎ Memᴰ a xs
            → Memᴰ a (pick t (x ∷ keep p xs) (keep p xs))
        go true d ih (inl k) = Memᴰ.head k
        go true d ih (inr m) = Memᴰ.tail (ih m e)
        go false d ih (inl k) = let f = ap p k in absurd (zero_ne_one (cc))
        go false d ih (inr m) = ih m e
    keep_of_member [] m e = absurd (Memᴰ.not-nil m)

    pub member_of_keep : {a : A} (xs : List A) → Memᴰ a (keep p xs) → Memᴰ a xs × (p a ≡ true)
    unfolding keep
    member_of_keep [] m = absurd (Memᴰ.not-nil m)
    member_of_keep {a} (x ∷ xs) m = go (p x) refl (member_of_keep xs) m
      where
        later : Memᴰ a xs × (p a ≡ true) → Memᴰ a (x ∷ xs) × (p a ≡ true)
        later (k, e) = (Memᴰ.tail k, e)

        kept : p x ≡ true → (Memᴰ a (keep p xs) → Memᴰ a xs × (p a ≡ true)) → (a ≡ x) ⊎ Memᴰ a (keep p xs)
            → Memᴰ a (x ∷ xs) × (p a ≡ true)
        kept d ih (inl k) = (Memᴰ.head k, ap p k ∙ d)
        kept d ih (inr k) = later (ih k)

        go : (t : Bool) → p x ≡ t → (Memᴰ a (keep p xs) → Memᴰ a xs × (p a ≡ true))
            → Memᴰ a (pick t (x ∷ keep p xs) (keep p xs)) → Memᴰ a (x ∷ xs) × (p a ≡ true)
        go true d ih m = kept d ih (Memᴰ.cases_cons m)
        go false d ih m = later (ih m)

    -- ---- what is kept of a list

    pub keep_nil : keep p [] ≡ []
    unfolding keep
    keep_nil = refl

    pub keep_append : (xs ys : List A) → keep p (xs ++ ys) ≡ keep p xs ++ keep p ys
    unfolding keep
    keep_append [] ys = refl
    keep_append (x ∷ xs) ys = go (p x) (keep_append xs ys)
      where
        go : (t : Bool) → keep p (xs ++ ys) ≡ keep p xs ++ keep p ys
            → pick t (x ∷ keep p (xs ++ ys)) (keep p (xs ++ ys)) ≡ pick t (x ∷ keep p xs) (keep p xs) ++ keep p ys
        go true e = ap (λ l. x ∷ l) e
        go false e = e

    -- of one place more
    pub keep_take_next : (xs : List A) (i : ℕ) (d : A) (t : Bool) → i < length xs → p (get_or xs i d) ≡ t
        → keep p (take (i + 1) xs) ≡ keep p (take i xs) ++ pick t (get_or xs i d ∷ []) []
    unfolding keep
    keep_take_next xs i d t h e =
        rw (add-one, take-suc xs i d, keep_append (take i xs) (get_or xs i d ∷ []), e)

    pub keep_none : ((a : A) → p a ≡ false) → (xs : List A) → keep p xs ≡ []
    unfolding keep
    keep_none f [] = refl
    keep_none f (x ∷ xs) = rw (f x) (keep_none f xs)

    pub keep_of_any_false : (xs : List A) → any p xs ≡ false → keep p xs ≡ []
    unfolding any keep
    keep_of_any_false [] e = refl
    keep_of_any_false (x ∷ xs) e = let (none, others) = or_neither (p x) (any p xs) e in rw none (keep_of_any_false xs others)

    pub keep_every : (xs : List A) → ((a : A) → Memᴰ a xs → p a ≡ true) → keep p xs ≡ xs
    unfolding keep
    keep_every [] f = refl
    keep_every (x ∷ xs) f = rw (f x (Memᴰ.head refl)) (ap (λ l. x ∷ l) (keep_every xs (λ a m. f a (Memᴰ.tail m))))

    pub length_keep_le : (xs : List A) → length (keep p xs) ≤ length xs
    unfolding keep
    length_keep_le [] = omega arith
    length_keep_le (x ∷ xs) = go (p x) (length_keep_le xs)
      where
        go : (t : Bool) → length (keep p xs) ≤ length xs → length (pick t (x ∷ keep p xs) (keep p xs)) ≤ suc (length xs)
        go true h = omega arith
        go false h = omega arith

    pub length_keep_take_le : (xs : List A) (i : ℕ) → length (keep p (take i xs)) ≤ length (keep p xs)
    length_keep_take_le xs i =
        let e = ap (λ l. length (keep p l)) (take-append-drop i xs) in
        omega (arith, simp (keep_append, length-append) at e)

  -- Those that pass a test among those that pass another
  pub keep_keep : (p q : A → Bool) (xs : List A) → keep p (keep q xs) ≡ keep (λ x. p x && q x) xs
  unfolding keep
  keep_keep p q [] = refl
  keep_keep p q (x ∷ xs) = go (q x) (p x) refl (keep_keep p q xs)
    where
      go : (t u : Bool) → p x ≡ u → keep p (keep q xs) ≡ keep (λ x. p x && q x) xs
          → keep p (pick t (x ∷ keep q xs) (keep q xs)) ≡ pick (u && t) (x ∷ keep (λ x. p x && q x) xs) (keep (λ x. p x && q x) xs)
      go true true d e = rw d (ap (λ (l : List A). x ∷ l) e)
      go true false d e = rw d e
      go false true d e = e
      go false false d e = e

  -- Two tests in whichever order
  pub keep_swap : (p q : A → Bool) (xs : List A) → keep p (keep q xs) ≡ keep q (keep p xs)
  keep_swap p q xs =
      keep_keep p q xs ∙ ap (λ (r : A → Bool). keep r xs) (fun_ext (λ x. and_comm (p x) (q x))) ∙ sym (keep_keep q p xs)

  -- ---- every two in their order

  abbrev pub EveryTwo : (A → A → Type 0) → List A → Type 0
  EveryTwo R [] = Unit {0}
  EveryTwo R (x ∷ xs) = ((y : A) → Memᴰ y xs → R x y) × EveryTwo R xs

  pub every_two_of_places : (R : A → A → Type 0) (d : A) (xs : List A)
      → ((j k : ℕ) → j < k → k < length xs → R (get_or xs j d) (get_or xs k d)) → EveryTwo R xs
  every_two_of_places R d [] h = tt
  every_two_of_places R d (x ∷ xs) h = (
    λ y m. let (i, l, e) = place_of_member xs d m in rw e at (h 0 (suc i) (zero-lt-suc i) (suc-le-suc l)),
    every_two_of_places R d xs (λ j k l m. h (suc j) (suc k) (suc-le-suc l) (suc-le-suc m)),
  )

  pub every_two_both : (R S T : A → A → Type 0) → ((a b : A) → R a b → S a b → T a b) → (xs : List A) → EveryTwo R xs → EveryTwo S xs → EveryTwo T xs
  every_two_both R S T h [] f g = tt
  every_two_both R S T h (x ∷ xs) f g = (λ y m. h x y (f.0 y m) (g.0 y m), every_two_both R S T h xs f.1 g.1)

  pub every_two_keep : (R S : A → A → Type 0) (p : A → Bool) → ((x y : A) → p x ≡ true → p y ≡ true → R x y → S x y)
      → (xs : List A) → EveryTwo R xs → EveryTwo S (keep p xs)
  unfolding keep
  every_two_keep R S p h [] e = tt
  every_two_keep R S p h (x ∷ xs) e = go (p x) refl (every_two_keep R S p h xs e.1)
    where
      go : (t : Bool) → p x ≡ t → EveryTwo S (keep p xs) → EveryTwo S (pick t (x ∷ keep p xs) (keep p xs))
      go true d ih = (λ y m. let (k, f) = member_of_keep p xs m in h x y d f (e.0 y k), ih)
      go false d ih = ih

  pub places_of_every_two : (R : A → A → Type 0) (d : A) (xs : List A) → EveryTwo R xs → AllPairs d R xs
  places_of_every_two R d [] e j k h l = absurd (omega arith)
  places_of_every_two R d (x ∷ xs) e j zero h l = absurd (omega arith)
  places_of_every_two R d (x ∷ xs) e zero (suc k) h l = e.0 _ (member_of_place xs d k (le_of_suc-le-suc l))
  places_of_every_two R d (x ∷ xs) e (suc j) (suc k) h l =
      places_of_every_two R d xs e.1 j k (le_of_suc-le-suc h) (le_of_suc-le-suc l)

  pub every_two_of_implied : (R S : A → A → Type 0) (xs : List A) → ((x y : A) → Memᴰ x xs → Memᴰ y xs → R x y → S x y)
      → EveryTwo R xs → EveryTwo S xs
  every_two_of_implied R S [] h e = tt
  every_two_of_implied R S (x ∷ xs) h e = (
    λ y m. h x y (Memᴰ.head refl) (Memᴰ.tail m) (e.0 y m),
    every_two_of_implied R S xs (λ y z m n. h y z (Memᴰ.tail m) (Memᴰ.tail n)) e.1,
  )

-- ---- what holds at every place, and at every two

module _ {A : Type 0} (d : A) where
  module _ (P : A → Type 0) where
    pub all_tail : (x : A) (xs : List A) → All d P (x ∷ xs) → All d P xs
    all_tail x xs f i h = f (suc i) (suc-le-suc h)

    pub all_append : (xs ys : List A) → All d P xs → All d P ys → All d P (xs ++ ys)
    all_append xs ys f g i h = go (Memᴰ.append_cases xs (member_of_place (xs ++ ys) d i h))
      where
        go : {a : A} → Memᴰ a xs ⊎ Memᴰ a ys → P a
        go (inl m) = of_all P xs d f m
        go (inr m) = of_all P ys d g m

    pub all_snoc : {a : A} (xs : List A) → All d P xs → P a → All d P (xs ++ (a ∷ []))
    all_snoc {a} xs f g = all_append xs (a ∷ []) f only
      where
        only : All d P (a ∷ [])
        only zero h = g
        only (suc i) h = absurd (omega arith)

    pub all_take : (k : ℕ) (xs : List A) → All d P xs → All d P (take k xs)
    all_take k xs f i h =
        let l : i < min k (length xs) = rw length-take at h in rw (get_or-take k xs i d (omega arith)) (f i (omega arith))

  module _ (p : A → Bool) where
    -- what is kept passes the test, and keeps its order
    pub keep_all : (P : A → Type 0) (xs : List A) → All d (λ a. p a ≡ true → P a) xs → All d P (keep p xs)
    keep_all P xs f i h =
        let (m, e) = member_of_keep p xs (member_of_place (keep p xs) d i h) in of_all (λ a. p a ≡ true → P a) xs d f m e

    pub keep_pairs : (R : A → A → Type 0) (xs : List A) → AllPairs d (λ a b. p a ≡ true → p b ≡ true → R a b) xs
        → AllPairs d R (keep p xs)
    keep_pairs R xs f =
        places_of_every_two R d (keep p xs) (every_two_keep passing R p (λ x y e g r. r e g) xs (every_two_of_places passing d xs f))
      where
        passing : A → A → Type 0
        passing a b = p a ≡ true → p b ≡ true → R a b

    pub keep_has_pair : (xs : List A) (j k : ℕ) → j < k → k < length xs → p (get_or xs j d) ≡ true → p (get_or xs k d) ≡ true
        → HasPair d (keep p xs) (get_or xs j d) (get_or xs k d)
    unfolding keep
    keep_has_pair [] j k h l e f = absurd (omega arith)
    keep_has_pair (x ∷ xs) j zero h l e f = absurd (omega arith)
    keep_has_pair (x ∷ xs) zero (suc k) h l e f =
        let (i, m, g) = place_of_member (keep p xs) d (keep_of_member p xs (member_of_place xs d k (le_of_suc-le-suc l)) f) in
        rw e (0, suc i, zero-lt-suc i, suc-le-suc m, refl, g)
    keep_has_pair (x ∷ xs) (suc j) (suc k) h l e f = go (p x) (keep_has_pair xs j k (le_of_suc-le-suc h) (le_of_suc-le-suc l) e f)
      where
        go : (t : Bool) → HasPair d (keep p xs) (get_or xs j d) (get_or xs k d)
            → HasPair d (pick t (x ∷ keep p xs) (keep p xs)) (get_or xs j d) (get_or xs k d)
        go true (i, m, q, r, g, o) = (suc i, suc m, suc-le-suc q, suc-le-suc r, g, o)
        go false g = g

-- ---- the numbers of all pairs

module _ {A : Type 0} (f : A → A → ℕ) where
  pub pairs_of_few : (xs : List A) → length xs ≤ 1 → pairs_of f xs ≡ []
  unfolding pairs_of
  pairs_of_few [] h = refl
  pairs_of_few (x ∷ []) h = refl
  pairs_of_few (x ∷ y ∷ xs) h = absurd (omega arith)

  pub pairs_of_some : (xs : List A) → 1 < length xs → 0 < length (pairs_of f xs)
  unfolding pairs_of
  pairs_of_some [] h = absurd (omega arith)
  pairs_of_some (x ∷ []) h = absurd (omega arith)
  pairs_of_some (x ∷ y ∷ xs) h = zero-lt-suc _

  module _ (d : A) where
    -- they are those of all pairs ..
    pub member_of_pairs_of : (xs : List A) → AllPairs d (λ a b. Memᴰ (f a b) (pairs_of f xs)) xs
    unfolding pairs_of
    member_of_pairs_of [] j k h l = absurd (omega arith)
    member_of_pairs_of (x ∷ xs) j zero h l = absurd (omega arith)
    member_of_pairs_of (x ∷ xs) zero (suc k) h l =
        Memᴰ.append_left (pairs_of f xs) (Memᴰ.map (f x) (member_of_place xs d k (le_of_suc-le-suc l)))
    member_of_pairs_of (x ∷ xs) (suc j) (suc k) h l =
        Memᴰ.append_right (map (f x) xs) (member_of_pairs_of xs j k (le_of_suc-le-suc h) (le_of_suc-le-suc l))

    -- .. and of nothing else
    abbrev pub IsOfPair : List A → ℕ → Type 0
    IsOfPair xs v = (j : ℕ) × (k : ℕ) × (j < k) × (k < length xs) × (f (get_or xs j d) (get_or xs k d) ≡ v)

    pub pair_of_pairs_of : (xs : List A) {v : ℕ} → Memᴰ v (pairs_of f xs) → IsOfPair xs v
    unfolding pairs_of
    pair_of_pairs_of [] m = absurd (Memᴰ.not-nil m)
    pair_of_pairs_of (x ∷ xs) {v} m = go (pair_of_pairs_of xs) (Memᴰ.append_cases (map (f x) xs) m)
      where
        go : (Memᴰ v (pairs_of f xs) → IsOfPair xs v) → Memᴰ v (map (f x) xs) ⊎ Memᴰ v (pairs_of f xs) → IsOfPair (x ∷ xs) v
        go ih (inl k) =
            let (a, l, e) = Memᴰ.of_map (f x) xs k in
            let (i, h, g) = place_of_member xs d l in
            (0, suc i, zero-lt-suc i, suc-le-suc h, ap (f x) g ∙ e)
        go ih (inr k) = let (i, j, l, h, e) = ih k in (suc i, suc j, suc-le-suc l, suc-le-suc h, e)

-- Two lists whose pairs have the same numbers, place by place
pub pairs_of_same_places : {A : Type 0} (f g : A → A → ℕ) (xs ys : List A) (d : A) → length xs ≡ length ys
    → ((j k : ℕ) → j < k → k < length xs → f (get_or xs j d) (get_or xs k d) ≡ g (get_or ys j d) (get_or ys k d)) → pairs_of f xs ≡ pairs_of g ys
unfolding pairs_of
pairs_of_same_places f g [] [] d m h = refl
pairs_of_same_places f g [] (y ∷ ys) d m h = absurd (omega (arith, m))
pairs_of_same_places f g (x ∷ xs) [] d m h = absurd (omega (arith, m))
pairs_of_same_places f g (x ∷ xs) (y ∷ ys) d m h =
    let shorter : length xs ≡ length ys = omega (arith, m) in
    ap₂ ◌++◌ (map_same_places (f x) (g y) xs ys d d shorter (λ i l. h 0 (suc i) (zero-lt-suc i) (suc-le-suc l)))
    (pairs_of_same_places f g xs ys d shorter (λ j k l o. h (suc j) (suc k) (suc-le-suc l) (suc-le-suc o)))

-- ---- what is kept, and every two, under another test, with a list behind, and under a map

module _ {A : Type 0} where
  -- two tests that agree on a list's elements
  pub keep_same : (p q : A → Bool) (xs : List A) → ((a : A) → Memᴰ a xs → p a ≡ q a) → keep p xs ≡ keep q xs
  unfolding keep
  keep_same p q [] h = refl
  keep_same p q (x ∷ xs) h =
      ap₂ (λ (t : Bool) (l : List A). pick t (x ∷ l) l) (h x (Memᴰ.head refl)) (keep_same p q xs (λ a m. h a (Memᴰ.tail m)))

  -- every two of a list and another behind it
  pub every_two_append : (R : A → A → Type 0) (xs ys : List A) → EveryTwo R xs → EveryTwo R ys
      → ((x y : A) → Memᴰ x xs → Memᴰ y ys → R x y) → EveryTwo R (xs ++ ys)
  every_two_append R [] ys f g h = g
  every_two_append R (x ∷ xs) ys f g h =
      (λ y m. go y (Memᴰ.append_cases xs m), every_two_append R xs ys f.1 g (λ a b m. h a b (Memᴰ.tail m)))
    where
      go : (y : A) → Memᴰ y xs ⊎ Memᴰ y ys → R x y
      go y (inl m) = f.0 y m
      go y (inr m) = h x y (Memᴰ.head refl) m

pub all_map : {A B : Type 0} (f : A → B) (P : B → Type 0) (d : A) (e : B) (xs : List A) → All d (λ a. P (f a)) xs → All e P (map f xs)
all_map f P d e xs h i l = let m : i < length xs = omega (arith, l, length-map xs f) in rw (get_d_map f xs i d e m) (h i m)

module _ {A B : Type 0} (f : A → B) (R : B → B → Type 0) where
  pub every_two_map : (xs : List A) → EveryTwo (λ a b. R (f a) (f b)) xs → EveryTwo R (map f xs)
  every_two_map [] e = tt
  every_two_map (x ∷ xs) e =
      (λ y m. let (z, k, is) = Memᴰ.of_map f xs m in subst (R (f x)) is (e.0 z k), every_two_map xs e.1)

  pub every_two_of_map : (xs : List A) → EveryTwo R (map f xs) → EveryTwo (λ a b. R (f a) (f b)) xs
  every_two_of_map [] e = tt
  every_two_of_map (x ∷ xs) e = (λ y m. e.0 (f y) (Memᴰ.map f m), every_two_of_map xs e.1)

module _ {A B : Type 0} where
  -- those that pass, before or after a map
  pub map_keep : (f : A → B) (p : B → Bool) (xs : List A) → map f (keep (λ x. p (f x)) xs) ≡ keep p (map f xs)
  unfolding keep
  map_keep f p [] = refl
  map_keep f p (x ∷ xs) = go (p (f x)) (map_keep f p xs)
    where
      go : (t : Bool) → map f (keep (λ x. p (f x)) xs) ≡ keep p (map f xs)
          → map f (pick t (x ∷ keep (λ x. p (f x)) xs) (keep (λ x. p (f x)) xs)) ≡ pick t (f x ∷ keep p (map f xs)) (keep p (map f xs))
      go true e = ap (λ (l : List B). f x ∷ l) e
      go false e = e

-- What a list keeps, by the places that pass
module _ {A : Type 0} (d : A) (p : A → Bool) (xs : List A) where
  map_below_take : (k : ℕ) → k ≤ length xs → map (λ i. get_or xs i d) (below (λ i. p (get_or xs i d)) k) ≡ keep p (take k xs)
  unfolding below keep
  map_below_take zero h = refl
  map_below_take (suc k) h =
      map-append (λ i. get_or xs i d) (below (λ i. p (get_or xs i d)) k) (pick (p (get_or xs k d)) (k ∷ []) [])
      ∙ ap₂ ◌++◌ (map_below_take k (omega arith)) (go (p (get_or xs k d)))
      ∙ sym (keep_take_next p xs k d (p (get_or xs k d)) (omega arith) refl)
      ∙ ap (λ (i : ℕ). keep p (take i xs)) (add-one k)
    where
      go : (t : Bool) → map (λ i. get_or xs i d) (pick t (k ∷ []) []) ≡ pick t (get_or xs k d ∷ []) []
      go true = refl
      go false = refl

  pub map_below_all : map (λ i. get_or xs i d) (below (λ i. p (get_or xs i d)) (length xs)) ≡ keep p xs
  map_below_all = map_below_take (length xs) (omega arith) ∙ ap (keep p) (take_all (length xs) xs (le_refl _))
