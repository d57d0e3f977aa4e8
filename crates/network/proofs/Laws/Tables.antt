-- Laws of what is computed over the numbers below a bound: tests, how many pass, the first that does, the list of those that do,
-- and tables, each by one induction on the bound. Assumes nothing.
use Prim.Native.Nat.{ℕ, zero, suc, ◌+◌, ◌*◌, ◌%◌, ◌<◌, ◌≤◌, min}
use mathlib.Core.Path.{◌≡◌, refl, sym, ap, ap₂, fun_ext, ◌∙◌}
use mathlib.Core.Bool.{Bool, true, false, ◌&&◌}
use mathlib.Core.List.Memᴰ
use mathlib.Core.List.{List, [], ◌∷◌, ◌++◌, Memᴰ}
use mathlib.Core.List.{map, map-append}
use mathlib.Core.Logic.{◌⊎◌, inl, inr}
use native.Mathlib.Nat.{le_refl, le_of_suc-le-suc, eq-or-lt_of_le, add-zero, add-suc, add_comm, zero-add, zero-mul, mod-eq_of_lt}
use native.Mathlib.Numerals.{add-one}
use native.Mathlib.Omega.{arith}
use lib.Dec.{eqb, ltb}
use lib.ListN.{length, get_or, length-append, get_or-append}
use lib.Seq.{get_or_at}
use borrow.Author.Tests.{eqb-true, eqb-false, ltb-true, ltb-false}
use Rattle.network.specs.Lists.{pick, keep, all_below, count_below, below, table}
use Rattle.network.specs.Classes.{first_below}
use Rattle.network.proofs.Laws.Lists.{zero_ne_one, and_both, and_not_left, and_not_right}
use Rattle.network.proofs.Laws.Members.{keep_append}

pub all_below_of_each : (p : ℕ → Bool) (n : ℕ) → ((i : ℕ) → i < n → p i ≡ true) → all_below p n ≡ true
unfolding all_below
all_below_of_each p zero h = refl
all_below_of_each p (suc n) h = and_both _ _ (all_below_of_each p n (λ i l. h i (omega arith))) (h n (le_refl _))

-- Every number below `n` passes, so this one does
pub all_below_at : (p : ℕ → Bool) (n i : ℕ) → all_below p n ≡ true → i < n → p i ≡ true
unfolding all_below
all_below_at p zero i e h = absurd (omega arith)
all_below_at p (suc n) i e h = go (all_below p n) (all_below_at p n i) e (eq-or-lt_of_le (le_of_suc-le-suc h))
  where
    go : (t : Bool) → (t ≡ true → i < n → p i ≡ true) → (t && p n) ≡ true → (i ≡ n) ⊎ (i < n) → p i ≡ true
    go true f k (inl j) = ap p j ∙ k
    go true f k (inr l) = f refl l
    go false f k d = absurd (zero_ne_one (cc))

-- One number more passes
pub all_below_next : (p : ℕ → Bool) (n : ℕ) → all_below p n ≡ true → p n ≡ true → all_below p (n + 1) ≡ true
unfolding all_below
all_below_next p n e f = rw add-one (and_both (all_below p n) (p n) e f)

-- One number below that doesn't pass is enough
pub all_below_fails : (p : ℕ → Bool) (n i : ℕ) → i < n → p i ≡ false → all_below p n ≡ false
unfolding all_below
all_below_fails p zero i h e = absurd (omega arith)
all_below_fails p (suc n) i h e = go (all_below_fails p n i) (eq-or-lt_of_le (le_of_suc-le-suc h))
  where
    go : (i < n → p i ≡ false → all_below p n ≡ false) → (i ≡ n) ⊎ (i < n) → (all_below p n && p n) ≡ false
    go f (inl j) = and_not_right (all_below p n) (p n) (sym (ap p j) ∙ e)
    go f (inr l) = and_not_left (all_below p n) (p n) (f l e)

-- Two tests that agree below `n`
pub all_below_same : (p q : ℕ → Bool) (n : ℕ) → ((i : ℕ) → i < n → p i ≡ q i) → all_below p n ≡ all_below q n
unfolding all_below
all_below_same p q zero h = refl
all_below_same p q (suc n) h = ap₂ ◌&&◌ (all_below_same p q n (λ i l. h i (omega arith))) (h n (le_refl _))

-- One number more is counted
pub count_below_next : (p : ℕ → Bool) (n : ℕ) → count_below p (n + 1) ≡ count_below p n + pick (p n) 1 0
unfolding count_below
count_below_next p n = rw add-one refl

-- Tests that agree below `n` count alike
pub count_below_same : (p q : ℕ → Bool) (n : ℕ) → ((i : ℕ) → i < n → p i ≡ q i) → count_below p n ≡ count_below q n
unfolding count_below
count_below_same p q zero h = refl
count_below_same p q (suc n) h =
    ap₂ (λ (k : ℕ) (t : Bool). k + pick t 1 0) (count_below_same p q n (λ i l. h i (omega arith))) (h n (le_refl _))

-- At most all of them pass
pub count_below_le : (p : ℕ → Bool) (n : ℕ) → count_below p n ≤ n
unfolding count_below
count_below_le p zero = omega arith
count_below_le p (suc n) = let ih = count_below_le p n in go (p n) ih
  where
    go : (t : Bool) → count_below p n ≤ n → count_below p n + pick t 1 0 ≤ suc n
    go true h = omega arith
    go false h = omega arith

-- ---- how many pass

pub count_below_zero : (p : ℕ → Bool) (n : ℕ) → ((i : ℕ) → i < n → p i ≡ false) → count_below p n ≡ 0
unfolding count_below
count_below_zero p zero h = refl
count_below_zero p (suc n) h = ap₂ (λ (k : ℕ) (t : Bool). k + pick t 1 0) (count_below_zero p n (λ i l. h i (omega arith))) (h n (le_refl _))

pub count_below_add : (p : ℕ → Bool) (m n : ℕ) → count_below p (m + n) ≡ count_below p m + count_below (λ i. p (m + i)) n
unfolding count_below
count_below_add p m zero = simp add-zero
count_below_add p m (suc n) = rw add-suc (omega (arith, count_below_add p m n))

-- a test that is the same `t` further on
module _ (p : ℕ → Bool) (t : ℕ) (periodic : (i : ℕ) → p (t + i) ≡ p i) where
  count_below_periods : (k c : ℕ) → count_below p (k * t + c) ≡ k * count_below p t + count_below p c
  count_below_periods zero c = simp (zero-mul, zero-add)
  count_below_periods (suc k) c =
      let e : count_below p (suc k * t + c) ≡ count_below p (t + (k * t + c)) = ap (count_below p) (omega arith) in
      let f = ap (λ (q : ℕ → Bool). count_below q (k * t + c)) (fun_ext periodic) in
      omega (arith, count_below_add p t (k * t + c), count_below_periods k c)

  pub count_below_periods_from : (k c : ℕ) → count_below (λ i. p (c + i)) (k * t) ≡ k * count_below p t
  count_below_periods_from k c =
      omega (arith, count_below_add p c (k * t), count_below_periods k c, ap (count_below p) (add_comm c (k * t)))

pub count_below_remainder_lt : (t δ n : ℕ) → n ≤ t → count_below (λ i. ltb (i % t) δ) n ≡ min n δ
unfolding count_below
count_below_remainder_lt t δ zero h = omega arith
count_below_remainder_lt t δ (suc n) h = rw (mod-eq_of_lt h) (go (ltb n δ) refl (count_below_remainder_lt t δ n (omega arith)))
  where
    go : (b : Bool) → ltb n δ ≡ b → count_below (λ i. ltb (i % t) δ) n ≡ min n δ
        → count_below (λ i. ltb (i % t) δ) n + pick b 1 0 ≡ min (suc n) δ
    go true e ih = omega (arith, ltb-true n δ e)
    go false e ih = omega (arith, ltb-false n δ e)

-- ---- the first that passes

-- The first number below the bound that passes, or the bound where none does
pub record IsFirst (p : ℕ → Bool) (bound first : ℕ) : Type 0 where
  pub at_most : first ≤ bound
  pub passes : first < bound → p first ≡ true
  pub none_before : (i : ℕ) → i < first → p i ≡ false

first_below_step : (p : ℕ → Bool) (n f : ℕ) (t u : Bool) → eqb f n ≡ t → p n ≡ u → IsFirst p n f
    → IsFirst p (suc n) (pick t (pick u n (suc n)) f)
first_below_step p n f true true e d h =
    let k : f ≡ n = eqb-true f n e in
    record { at_most = omega arith; passes = λ _. d; none_before = λ i l. h.none_before i (omega arith) }
first_below_step p n f true false e d h =
    record {
      at_most = le_refl _;
      passes = λ l. absurd (omega arith);
      none_before = λ i l. fails i (eqb-true f n e) (eq-or-lt_of_le (le_of_suc-le-suc l));
    }
  where
    fails : (i : ℕ) → f ≡ n → (i ≡ n) ⊎ (i < n) → p i ≡ false
    fails i k (inl j) = ap p j ∙ d
    fails i k (inr l) = h.none_before i (omega arith)
first_below_step p n f false u e d h =
    record {
      at_most = omega arith;
      passes = λ _. h.passes (go (eq-or-lt_of_le h.at_most));
      none_before = h.none_before;
    }
  where
    go : (f ≡ n) ⊎ (f < n) → f < n
    go (inl k) = absurd (eqb-false f n e k)
    go (inr l) = l

pub first_below_is_first : (p : ℕ → Bool) (n : ℕ) → IsFirst p n (first_below p n)
unfolding first_below
first_below_is_first p zero = record { at_most = le_refl 0; passes = λ l. absurd (omega arith); none_before = λ i l. absurd (omega arith) }
first_below_is_first p (suc n) =
    first_below_step p n (first_below p n) (eqb (first_below p n) n) (p n) refl refl (first_below_is_first p n)

-- ---- tables

pub length_table : (f : ℕ → ℕ) (n : ℕ) → length (table f n) ≡ n
unfolding table
length_table f zero = refl
length_table f (suc n) = length-append (table f n) (f n ∷ []) ∙ omega (arith, length_table f n)

pub get_d_table : (f : ℕ → ℕ) (n i d : ℕ) → i < n → get_or (table f n) i d ≡ f i
unfolding table
get_d_table f zero i d h = absurd (omega arith)
get_d_table f (suc n) i d h = go (get_d_table f n i d) (eq-or-lt_of_le (le_of_suc-le-suc h))
  where
    go : (i < n → get_or (table f n) i d ≡ f i) → (i ≡ n) ⊎ (i < n) → get_or (table f n ++ (f n ∷ [])) i d ≡ f i
    go ih (inl k) = get_or_at (table f n) (f n) [] d i (length_table f n ∙ sym k) ∙ ap f (sym k)
    go ih (inr l) = get_or-append (table f n) (f n ∷ []) d i (rw length_table l) ∙ ih l

pub table_same : (f g : ℕ → ℕ) (n : ℕ) → ((i : ℕ) → i < n → f i ≡ g i) → table f n ≡ table g n
unfolding table
table_same f g zero h = refl
table_same f g (suc n) h =
    ap₂ (λ (l : List ℕ) (v : ℕ). l ++ (v ∷ [])) (table_same f g n (λ i l. h i (omega arith))) (h n (le_refl _))

-- ---- the list of those that pass

pub below_of_member : (p : ℕ → Bool) (n : ℕ) {i : ℕ} → Memᴰ i (below p n) → (i < n) × (p i ≡ true)
unfolding below
below_of_member p zero m = absurd (Memᴰ.not-nil m)
below_of_member p (suc n) {i} m = go (p n) refl (below_of_member p n) (Memᴰ.append_cases (below p n) m)
  where
    go : (t : Bool) → p n ≡ t → (Memᴰ i (below p n) → (i < n) × (p i ≡ true))
        → Memᴰ i (below p n) ⊎ Memᴰ i (pick t (n ∷ []) []) → (i < suc n) × (p i ≡ true)
    go t e ih (inl k) = let r = ih k in (omega arith, r.1)
    go true e ih (inr k) = let f : i ≡ n = Memᴰ.eq_of_singleton k in (omega arith, ap p f ∙ e)
    go false e ih (inr k) = absurd (Memᴰ.not-nil k)

pub member_of_below : (p : ℕ → Bool) (n i : ℕ) → i < n → p i ≡ true → Memᴰ i (below p n)
unfolding below
member_of_below p zero i h e = absurd (omega arith)
member_of_below p (suc n) i h e = go (p n) refl (member_of_below p n i) (eq-or-lt_of_le (le_of_suc-le-suc h))
  where
    go : (t : Bool) → p n ≡ t → (i < n → p i ≡ true → Memᴰ i (below p n)) → (i ≡ n) ⊎ (i < n)
        → Memᴰ i (below p n ++ pick t (n ∷ []) [])
    go t f ih (inr l) = Memᴰ.append_left (pick t (n ∷ []) []) (ih l e)
    go true f ih (inl k) = Memᴰ.append_right (below p n) (Memᴰ.head k)
    go false f ih (inl k) = let g = ap p k in absurd (zero_ne_one (cc))

pub below_same : (p q : ℕ → Bool) (n : ℕ) → ((i : ℕ) → i < n → p i ≡ q i) → below p n ≡ below q n
unfolding below
below_same p q zero h = refl
below_same p q (suc n) h =
    ap₂ (λ (l : List ℕ) (t : Bool). l ++ pick t (n ∷ []) []) (below_same p q n (λ i l. h i (omega arith))) (h n (le_refl _))

-- A table of which a test keeps what stands at the numbers that pass another
pub keep_table : (q : ℕ → Bool) (f g : ℕ → ℕ) (p : ℕ → Bool) (n : ℕ) → ((i : ℕ) → keep q (f i ∷ []) ≡ map g (pick (p i) (i ∷ []) []))
    → keep q (table f n) ≡ map g (below p n)
unfolding keep table below
keep_table q f g p zero h = refl
keep_table q f g p (suc n) h =
    keep_append q (table f n) (f n ∷ [])
    ∙ ap₂ ◌++◌ (keep_table q f g p n h) (h n)
    ∙ sym (map-append g (below p n) (pick (p n) (n ∷ []) []))

pub count_below_length : (p : ℕ → Bool) (n : ℕ) → count_below p n ≡ length (below p n)
unfolding count_below below
count_below_length p zero = refl
count_below_length p (suc n) = go (p n) (count_below_length p n)
  where
    go : (t : Bool) → count_below p n ≡ length (below p n) → count_below p n + pick t 1 0 ≡ length (below p n ++ pick t (n ∷ []) [])
    go true e = omega (arith, length-append (below p n) (n ∷ []))
    go false e = omega (arith, length-append (below p n) [])
