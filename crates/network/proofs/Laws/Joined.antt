-- What elements give, written one behind the other: one element more is a part more, parts of one length stand where their number says, and a part
-- written behind others leaves what stands behind it. Each follows from the laws of lists. Assumes nothing.
use Prim.Native.Nat.{ℕ, zero, suc, ◌+◌, ◌*◌, ◌<◌, ◌≤◌}
use mathlib.Core.Path.{◌≡◌, refl, sym, ap, ap₂, ◌∙◌}
use mathlib.Core.List.{List, [], ◌∷◌, ◌++◌, append_assoc, append-nil}
use native.Mathlib.Numerals.{add-one}
use native.Mathlib.Omega.{arith}
use lib.ListN.{length, get_or, take, drop, length-append, length-drop, get_or-append}
use lib.Seq.{take-suc, take_at, drop-append-add, drop-drop, get_or-append-add, sets, sets-eq}
use Rattle.network.specs.Lists.{joined}

module _ {A : Type 0} (f : A → List ℕ) where
  joined_append : (xs ys : List A) → joined f (xs ++ ys) ≡ joined f xs ++ joined f ys
  unfolding joined
  joined_append [] ys = refl
  joined_append (x ∷ xs) ys = ap (λ (l : List ℕ). f x ++ l) (joined_append xs ys) ∙ sym (append_assoc (f x) (joined f xs) (joined f ys))

  joined_one : (a : A) → joined f (a ∷ []) ≡ f a
  unfolding joined
  joined_one a = append-nil (f a)

  -- one element more
  pub joined_take_next : (l : List A) (i : ℕ) (d : A) → i < length l → joined f (take (i + 1) l) ≡ joined f (take i l) ++ f (get_or l i d)
  joined_take_next l i d h =
      ap (λ (k : ℕ). joined f (take k l)) (add-one i)
      ∙ ap (joined f) (take-suc l i d h)
      ∙ joined_append (take i l) (get_or l i d ∷ [])
      ∙ ap (λ (r : List ℕ). joined f (take i l) ++ r) (joined_one (get_or l i d))

  -- where each element gives `k` numbers
  pub length_joined : (k : ℕ) → ((a : A) → length (f a) ≡ k) → (xs : List A) → length (joined f xs) ≡ k * length xs
  unfolding joined
  length_joined k each [] = omega arith
  length_joined k each (x ∷ xs) = length-append (f x) (joined f xs) ∙ omega (arith, each x, length_joined k each xs)

  -- .. `k * i` numbers stand before those of element `i`
  get_d_joined : (k : ℕ) → ((a : A) → length (f a) ≡ k) → (d : A) (xs : List A) (rest : List ℕ) (i j : ℕ) → i < length xs → j < k
      → get_or (joined f xs ++ rest) (k * i + j) 0 ≡ get_or (f (get_or xs i d)) j 0
  unfolding joined
  get_d_joined k each d [] rest i j h l = absurd (omega (arith, h))
  get_d_joined k each d (x ∷ xs) rest zero j h l =
      ap₂ (λ (bytes : List ℕ) (p : ℕ). get_or bytes p 0) (append_assoc (f x) (joined f xs) rest) (omega arith)
      ∙ get_or-append (f x) (joined f xs ++ rest) 0 j (omega (arith, each x, l))
  get_d_joined k each d (x ∷ xs) rest (suc i) j h l =
      let further : k * suc i + j ≡ length (f x) + (k * i + j) = omega (arith, each x) in
      ap₂ (λ (bytes : List ℕ) (p : ℕ). get_or bytes p 0) (append_assoc (f x) (joined f xs) rest) further
      ∙ get_or-append-add (f x) (joined f xs ++ rest) (k * i + j) 0
      ∙ get_d_joined k each d xs rest i j (omega (arith, h)) l

  -- .. and so many more where others stand before them all
  pub get_d_joined_behind : (k : ℕ) → ((a : A) → length (f a) ≡ k) → (d : A) (before : List ℕ) (at : ℕ) → length before ≡ at → (xs : List A) (rest : List ℕ)
      (i j : ℕ) → i < length xs → j < k → get_or (before ++ (joined f xs ++ rest)) (at + k * i + j) 0 ≡ get_or (f (get_or xs i d)) j 0
  get_d_joined_behind k each d before at e xs rest i j h l =
      let there : at + k * i + j ≡ length before + (k * i + j) = omega (arith, e) in
      ap (λ (p : ℕ). get_or (before ++ (joined f xs ++ rest)) p 0) there
      ∙ get_or-append-add before (joined f xs ++ rest) (k * i + j) 0
      ∙ get_d_joined k each d xs rest i j h l

-- Behind what has been written stands what stood there
module _ (xs row : List ℕ) (at size : ℕ) (e : length xs ≡ at) where
  drop_behind : drop (at + size) (xs ++ drop at row) ≡ drop (at + size) row
  drop_behind =
      ap (λ (k : ℕ). drop (k + size) (xs ++ drop at row)) (sym e)
      ∙ drop-append-add xs (drop at row) size
      ∙ drop-drop size at row

  -- A part written behind what has been written
  pub sets_behind : (part : List ℕ) → length part ≡ size → at + size ≤ length row
      → sets (xs ++ drop at row) at part ≡ xs ++ part ++ drop (at + size) row
  sets_behind part f h =
      sets-eq part (xs ++ drop at row) at (omega (arith, f, h, e, length-append xs (drop at row), length-drop at row))
      ∙ ap₂ (λ (l r : List ℕ). l ++ part ++ r) (take_at xs (drop at row) at e)
      (ap (λ (k : ℕ). drop (at + k) (xs ++ drop at row)) f ∙ drop_behind)

  -- .. by what it leaves of the row before it
  pub written_behind : (part before after : List ℕ) → before ≡ xs ++ drop at row → after ≡ take at before ++ part ++ drop (at + size) before
      → after ≡ xs ++ part ++ drop (at + size) row
  written_behind part before after b a =
      a ∙ ap₂ (λ (l r : List ℕ). l ++ part ++ r) (ap (take at) b ∙ take_at xs (drop at row) at e) (ap (drop (at + size)) b ∙ drop_behind)
