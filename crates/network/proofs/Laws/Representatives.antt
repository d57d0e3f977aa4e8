-- Where a number stands for each number that passes, and what is counted is the same at both, a sum and a least may be taken over those
-- that stand for themselves, each with the weights of all it stands for: by induction on how many have been counted. Assumes nothing.
use Prim.Native.Nat.{ℕ, zero, suc, ◌+◌, ◌*◌, ◌<◌, ◌≤◌}
use mathlib.Core.Path.{◌≡◌, refl, sym, ap, ◌∙◌}
use mathlib.Core.Bool.{Bool, true, false, ◌&&◌, and-eq-true_iff}
use mathlib.Core.List.Memᴰ
use mathlib.Core.List.{List, map, Memᴰ}
use native.Mathlib.Nat.{le_refl}
use native.Mathlib.Omega.{arith}
use lib.Dec.{eqb}
use borrow.Author.Tests.{eq-eqb}
use Rattle.network.specs.Lists.{pick, below, sum_of, least_of}
use Rattle.network.proofs.Laws.Lists.{and_both}
use Rattle.network.proofs.Laws.Least.{least_of_same_members}
use Rattle.network.proofs.Laws.Tables.{below_of_member, member_of_below}
use Rattle.network.proofs.Laws.Sums.{sum_of_same, sum_of_add, sum_of_zero, sum_of_below_next, sum_of_below_only}

-- For each number below the bound that passes such a number stands, and for that one it stands itself
pub record StandsForEach (p : ℕ → Bool) (rep : ℕ → ℕ) (n : ℕ) : Type 0 where
  pub bound : (i : ℕ) → i < n → p i ≡ true → rep i < n
  pub passes : (i : ℕ) → i < n → p i ≡ true → p (rep i) ≡ true
  pub itself : (i : ℕ) → i < n → p i ≡ true → rep (rep i) ≡ rep i

-- Passes and stands for itself; passes and is stood for by `r`
abbrev pub stands_for_itself : (ℕ → Bool) → (ℕ → ℕ) → ℕ → Bool
stands_for_itself p rep i = p i && eqb (rep i) i

abbrev pub is_stood_for_by : (ℕ → Bool) → (ℕ → ℕ) → ℕ → ℕ → Bool
is_stood_for_by p rep r i = p i && eqb (rep i) r

module _ (p : ℕ → Bool) (rep : ℕ → ℕ) (n : ℕ) (h : StandsForEach p rep n) where
  -- those below the bound that pass, and those that stand for themselves
  abbrev passing : List ℕ
  passing = below p n

  abbrev standing : List ℕ
  standing = below (stands_for_itself p rep) n

  rep_stands : (i : ℕ) → i < n → p i ≡ true → stands_for_itself p rep (rep i) ≡ true
  rep_stands i l e = and_both _ _ (h.passes i l e) (eq-eqb _ _ (h.itself i l e))

  module _ (f : ℕ → ℕ) (same : (i : ℕ) → i < n → p i ≡ true → f (rep i) ≡ f i) where
    pub least_of_representatives : least_of (map f (below (stands_for_itself p rep) n)) ≡ least_of (map f (below p n))
    least_of_representatives = least_of_same_members _ _ into back
      where
        into : (a : ℕ) → Memᴰ a (map f standing) → Memᴰ a (map f passing)
        into a m =
            let (i, k, e) = Memᴰ.of_map f standing m in
            let (l, d) = below_of_member (stands_for_itself p rep) n k in
            Memᴰ.cast (sym e) (Memᴰ.map f (member_of_below p n i l ((and-eq-true_iff (p i) _).0 d).0))

        back : (a : ℕ) → Memᴰ a (map f passing) → Memᴰ a (map f standing)
        back a m =
            let (i, k, e) = Memᴰ.of_map f passing m in
            let (l, d) = below_of_member p n k in
            Memᴰ.cast (sym (same i l d ∙ e)) (Memᴰ.map f (member_of_below _ n (rep i) (h.bound i l d) (rep_stands i l d)))

    module _ (w : ℕ → ℕ) where
      -- the weights of those below `m` that `r` stands for
      abbrev weights : ℕ → ℕ → ℕ
      weights m r = sum_of w (below (is_stood_for_by p rep r) m)

      -- what `m` adds at `r`
      abbrev added : Bool → ℕ → ℕ → ℕ
      added t m r = pick t (pick (eqb (rep m) r) (w m * f r) 0) 0

      weights_next : (m r : ℕ) → weights (suc m) r * f r ≡ weights m r * f r + added (p m) m r
      weights_next m r = rw (sum_of_below_next w (is_stood_for_by p rep r) m) (go (p m) (eqb (rep m) r))
        where
          go : (t u : Bool) → (weights m r + pick (t && u) (w m) 0) * f r ≡ weights m r * f r + pick t (pick u (w m * f r) 0) 0
          go true true = omega arith
          go true false = omega arith
          go false u = omega arith

      added_once : (m : ℕ) → m < n → (t : Bool) → p m ≡ t → sum_of (added t m) standing ≡ pick t (w m * f m) 0
      added_once m l true e =
          sum_of_below_only (λ r. w m * f r) (stands_for_itself p rep) n (rep m) (h.bound m l e) (rep_stands m l e)
          ∙ ap (λ (k : ℕ). w m * k) (same m l e)
      added_once m l false e = sum_of_zero (added false m) standing (λ r k. refl)

      sum_of_so_far : (m : ℕ) → m ≤ n → sum_of (λ r. weights m r * f r) standing ≡ sum_of (λ i. w i * f i) (below p m)
      unfolding below sum_of
      sum_of_so_far zero l = sum_of_zero (λ r. weights 0 r * f r) standing (λ r k. omega arith)
      sum_of_so_far (suc m) l =
          sum_of_same _ _ standing (λ r _. weights_next m r)
          ∙ sum_of_add (λ r. weights m r * f r) (added (p m) m) standing
          ∙ omega (arith, sum_of_so_far m (omega arith), added_once m l (p m) refl, sum_of_below_next (λ i. w i * f i) p m)

      pub sum_of_representatives :
          sum_of (λ r. sum_of w (below (is_stood_for_by p rep r) n) * f r) (below (stands_for_itself p rep) n) ≡ sum_of (λ i. w i * f i) (below p n)
      sum_of_representatives = sum_of_so_far n (le_refl n)
