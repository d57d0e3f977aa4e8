-- Two stops are alike by places exactly when they are in document 02's words (A.2), over lines and each line's calls in order of offset: calls stand
-- by line and then offset, so that equally many of each line are the same lines place by place, and a place is a place among its line's calls, the
-- same at both stops. Assumes nothing.
use Prim.Native.Nat.{ℕ, zero, suc, ◌<◌, ◌≤◌}
use mathlib.Core.Path.{◌≡◌, refl, sym, ap, ap₂, subst, ◌∙◌}
use mathlib.Core.Bool.{Bool, true, false, ◌&&◌, ◌||◌, and-eq-true_iff}
use mathlib.Core.Logic.{◌⊎◌, inl, inr, ◌↔◌}
use mathlib.Core.List.Memᴰ
use mathlib.Core.List.{List, [], ◌∷◌, map, Memᴰ}
use native.Mathlib.Nat.{le_antisymm}
use native.Mathlib.Omega.{arith}
use native.Mathlib.Decide.{ℕ_discrete}
use lib.Dec.{eqb, ltb, leb}
use lib.IntN.{pos, ◌-ℤ◌}
use lib.ListN.{length, get_or}
use borrow.Author.Tests.{le-ltb, ltb-true, eqb-true, eq-eqb, ne_eqb}
use Rattle.network.specs.declared.Call.{Call}
use Rattle.network.specs.Lists.{pick, keep}
use Rattle.network.specs.Divisor.{gcd}
use Rattle.network.specs.Network.{Net, how_often_at}
use Rattle.network.specs.Valid.{no_call}
use Rattle.network.specs.Gap.{residue}
use Rattle.network.specs.Rating.{period_of, calls_of_stop}
use Rattle.network.specs.Tidy.{not_after, tidy}
use Rattle.network.specs.Classes.{ordered, ordered_call, remainder, Alike}
use Rattle.network.specs.Loops.{offsets_at, matched_difference, AlikeOfCalls}
use Rattle.network.proofs.Laws.Lists.{zero_ne_one, get_d_map}
use Rattle.network.proofs.Laws.Members.{EveryTwo, every_two_of_implied, keep_all, keep_keep, member_of_keep, member_of_place}
use Rattle.network.proofs.Laws.Sorted.{each_has_of_all, map_sort_by}
use Rattle.network.proofs.Laws.Tidy.{keep_tidy, length_tidy, tidy_sorted}

abbrev lines_of : List Call → List ℕ
lines_of cs = map (λ (c : Call). c.line) cs

-- Those of a line
abbrev of_line : ℕ → List Call → List Call
of_line i cs = keep (λ (c : Call). eqb c.line i) cs

-- ---- two lists of the same lines, place by place

-- A place of the one, a place among its line's calls, and so of the other
pub record Ranked (i : ℕ) (cs ds : List Call) (place rank : ℕ) : Type 0 where
  pub low : place < length cs
  pub few : rank < length (of_line i cs)
  pub here : get_or (of_line i cs) rank no_call ≡ get_or cs place no_call
  pub there : get_or (of_line i ds) rank no_call ≡ get_or ds place no_call

of_line_same : {i : ℕ} (c : Call) (cs : List Call) → c.line ≡ i → of_line i (c ∷ cs) ≡ c ∷ of_line i cs
unfolding keep
of_line_same {i} c cs e = ap (λ (t : Bool). pick t (c ∷ of_line i cs) (of_line i cs)) (eq-eqb _ _ e)

of_line_other : {i : ℕ} (c : Call) (cs : List Call) → (c.line ≡ i → ⊥) → of_line i (c ∷ cs) ≡ of_line i cs
unfolding keep
of_line_other {i} c cs f = ap (λ (t : Bool). pick t (c ∷ of_line i cs) (of_line i cs)) (ne_eqb _ _ f)

module _ {i : ℕ} (c d : Call) (cs ds : List Call) where
  -- the first of both is of this line; so is a call before all others, and so is none
  ranked_first : c.line ≡ i → d.line ≡ i → Ranked i (c ∷ cs) (d ∷ ds) 0 0
  ranked_first e f =
      record {
        low = omega arith;
        few = omega (arith, ap length (of_line_same c cs e));
        here = ap (λ (l : List Call). get_or l 0 no_call) (of_line_same c cs e);
        there = ap (λ (l : List Call). get_or l 0 no_call) (of_line_same d ds f);
      }

  ranked_behind_same : c.line ≡ i → d.line ≡ i → {place rank : ℕ} → Ranked i cs ds place rank → Ranked i (c ∷ cs) (d ∷ ds) (suc place) (suc rank)
  ranked_behind_same e f {rank = rank} r =
      record {
        low = omega (arith, r.low);
        few = omega (arith, r.few, ap length (of_line_same c cs e));
        here = ap (λ (l : List Call). get_or l (suc rank) no_call) (of_line_same c cs e) ∙ r.here;
        there = ap (λ (l : List Call). get_or l (suc rank) no_call) (of_line_same d ds f) ∙ r.there;
      }

  ranked_behind_other :
      (c.line ≡ i → ⊥) → (d.line ≡ i → ⊥) → {place rank : ℕ} → Ranked i cs ds place rank → Ranked i (c ∷ cs) (d ∷ ds) (suc place) rank
  ranked_behind_other e f {rank = rank} r =
      record {
        low = omega (arith, r.low);
        few = omega (arith, r.few, ap length (of_line_other c cs e));
        here = ap (λ (l : List Call). get_or l rank no_call) (of_line_other c cs e) ∙ r.here;
        there = ap (λ (l : List Call). get_or l rank no_call) (of_line_other d ds f) ∙ r.there;
      }

first_lines : (c d : Call) (cs ds : List Call) → lines_of (c ∷ cs) ≡ lines_of (d ∷ ds) → (c.line ≡ d.line) × (lines_of cs ≡ lines_of ds)
first_lines c d cs ds e = (ap (λ (l : List ℕ). get_or l 0 0) e, ap rest e)
  where
    rest : List ℕ → List ℕ
    rest [] = []
    rest (x ∷ xs) = xs

-- Every place has its rank ..
rank_of_place : (cs ds : List Call) → lines_of cs ≡ lines_of ds → (place : ℕ) → place < length cs
    → (rank : ℕ) × Ranked (get_or cs place no_call).line cs ds place rank
rank_of_place [] ds e place h = absurd (omega arith)
rank_of_place (c ∷ cs) [] e place h = absurd (omega (arith, ap length e))
rank_of_place (c ∷ cs) (d ∷ ds) e zero h = (0, ranked_first c d cs ds refl (sym (first_lines c d cs ds e).0))
rank_of_place (c ∷ cs) (d ∷ ds) e (suc place) h =
    let (same, rest) = first_lines c d cs ds e in
    let (rank, r) = rank_of_place cs ds rest place (omega (arith, h)) in
    go same rank r (ℕ_discrete c.line (get_or cs place no_call).line)
  where
    go : c.line ≡ d.line → (rank : ℕ) → Ranked (get_or cs place no_call).line cs ds place rank → Dec (c.line ≡ (get_or cs place no_call).line)
        → (rank : ℕ) × Ranked (get_or cs place no_call).line (c ∷ cs) (d ∷ ds) (suc place) rank
    go same rank r (yes f) = (suc rank, ranked_behind_same c d cs ds f (sym same ∙ f) r)
    go same rank r (no f) = (rank, ranked_behind_other c d cs ds f (λ g. f (same ∙ g)) r)

-- .. and every rank its place
place_of_rank : (i : ℕ) (cs ds : List Call) → lines_of cs ≡ lines_of ds → (rank : ℕ) → rank < length (of_line i cs)
    → (place : ℕ) × Ranked i cs ds place rank
unfolding keep
place_of_rank i [] ds e rank h = absurd (omega arith)
place_of_rank i (c ∷ cs) [] e rank h = absurd (omega (arith, ap length e))
place_of_rank i (c ∷ cs) (d ∷ ds) e rank h =
    let (same, rest) = first_lines c d cs ds e in go same (λ k l. place_of_rank i cs ds rest k l) rank h (ℕ_discrete c.line i)
  where
    go : c.line ≡ d.line → ((rank : ℕ) → rank < length (of_line i cs) → (place : ℕ) × Ranked i cs ds place rank) → (rank : ℕ)
        → rank < length (of_line i (c ∷ cs)) → Dec (c.line ≡ i) → (place : ℕ) × Ranked i (c ∷ cs) (d ∷ ds) place rank
    go same behind zero h (yes f) = (0, ranked_first c d cs ds f (sym same ∙ f))
    go same behind (suc rank) h (yes f) =
        let (place, r) = behind rank (omega (arith, h, ap length (of_line_same c cs f))) in
        (suc place, ranked_behind_same c d cs ds f (sym same ∙ f) r)
    go same behind rank h (no f) =
        let (place, r) = behind rank (omega (arith, h, ap length (of_line_other c cs f))) in
        (suc place, ranked_behind_other c d cs ds f (λ g. f (same ∙ g)) r)

-- As many calls of each line: how many calls a line has is a matter of the lines
length_by_lines : (i : ℕ) (cs : List Call) → length (of_line i cs) ≡ length (keep (λ (k : ℕ). eqb k i) (lines_of cs))
unfolding keep
length_by_lines i [] = refl
length_by_lines i (c ∷ cs) = go (eqb c.line i) _ _ (length_by_lines i cs)
  where
    go : (t : Bool) (xs : List Call) (ys : List ℕ) → length xs ≡ length ys → length (pick t (c ∷ xs) xs) ≡ length (pick t (c.line ∷ ys) ys)
    go true xs ys f = ap suc f
    go false xs ys f = f

many_of_same_lines : (i : ℕ) (cs ds : List Call) → lines_of cs ≡ lines_of ds → length (of_line i cs) ≡ length (of_line i ds)
many_of_same_lines i cs ds e =
    length_by_lines i cs ∙ ap (λ (l : List ℕ). length (keep (λ (k : ℕ). eqb k i) l)) e ∙ sym (length_by_lines i ds)

-- ---- calls whose lines don't fall

abbrev Ascending : List Call → Type 0
Ascending cs = EveryTwo (λ c d. c.line ≤ d.line) cs

first_le : {c d : Call} (cs : List Call) → Ascending (d ∷ cs) → Memᴰ c (d ∷ cs) → d.line ≤ c.line
first_le {c} {d} cs r m = go (Memᴰ.cases_cons m)
  where
    go : (c ≡ d) ⊎ Memᴰ c cs → d.line ≤ c.line
    go (inl q) = omega (arith, ap (λ (x : Call). x.line) q)
    go (inr k) = r.0 c k

-- a line of the first is a line of the second, where both have equally many calls of it
first_le_other : (c d : Call) (cs ds : List Call) → Ascending (d ∷ ds) → length (of_line c.line (c ∷ cs)) ≡ length (of_line c.line (d ∷ ds))
    → d.line ≤ c.line
first_le_other c d cs ds r e =
    let some : 0 < length (of_line c.line (d ∷ ds)) = omega (arith, e, ap length (of_line_same c cs refl)) in
    let (m, f) = member_of_keep _ (d ∷ ds) (member_of_place (of_line c.line (d ∷ ds)) no_call 0 some) in
    subst (λ (i : ℕ). d.line ≤ i) (eqb-true _ _ f) (first_le ds r m)

-- Equally many calls of each line are the same lines, place by place
same_lines_of_many : (cs ds : List Call) → Ascending cs → Ascending ds → ((i : ℕ) → length (of_line i cs) ≡ length (of_line i ds))
    → lines_of cs ≡ lines_of ds
unfolding keep
same_lines_of_many [] [] r s f = refl
same_lines_of_many [] (d ∷ ds) r s f = absurd (omega (arith, f d.line, ap length (of_line_same d ds refl)))
same_lines_of_many (c ∷ cs) [] r s f = absurd (omega (arith, f c.line, ap length (of_line_same c cs refl)))
same_lines_of_many (c ∷ cs) (d ∷ ds) r s f = ap₂ ◌∷◌ first (same_lines_of_many cs ds r.1 s.1 (λ i. rest i (ℕ_discrete c.line i)))
  where
    first : c.line ≡ d.line
    first = le_antisymm (first_le_other d c ds cs r (sym (f d.line))) (first_le_other c d cs ds s (f c.line))

    rest : (i : ℕ) → Dec (c.line ≡ i) → length (of_line i cs) ≡ length (of_line i ds)
    rest i (yes e) = omega (arith, f i, ap length (of_line_same c cs e), ap length (of_line_same d ds (sym first ∙ e)))
    rest i (no g) = omega (arith, f i, ap length (of_line_other c cs g), ap length (of_line_other d ds (λ e. g (first ∙ e))))

not_after_line : (c d : Call) → not_after c d ≡ true → c.line ≤ d.line
unfolding not_after
not_after_line c d = go (ltb c.line d.line) (eqb c.line d.line) refl refl _
  where
    go : (t u : Bool) → ltb c.line d.line ≡ t → eqb c.line d.line ≡ u → (x : Bool) → (t || u && x) ≡ true → c.line ≤ d.line
    go true u e f x h = omega (arith, ltb-true c.line d.line e)
    go false true e f x h = omega (arith, eqb-true c.line d.line f)
    go false false e f x h = absurd (zero_ne_one (cc))

-- ---- the calls at a stop

module _ (n : Net) where
  ordered_ascending : (s : ℕ) → Ascending (ordered n s)
  unfolding ordered
  ordered_ascending s =
      every_two_of_implied (λ c d. not_after c d ≡ true) (λ c d. c.line ≤ d.line) (ordered n s) (λ c d _ _. not_after_line c d)
      (tidy_sorted (calls_of_stop n s))

  module _ (i s : ℕ) where
    abbrev here : List Call
    here = keep (λ (c : Call). eqb c.line i && eqb c.stop s) n.calls

    -- the calls of a line there, in order
    of_line_ordered : of_line i (ordered n s) ≡ tidy here
    unfolding ordered calls_of_stop
    of_line_ordered =
        keep_tidy (λ (c : Call). eqb c.line i) (calls_of_stop n s)
        ∙ ap tidy (keep_keep (λ (c : Call). eqb c.line i) (λ (c : Call). eqb c.stop s) n.calls)

    length_of_line : length (of_line i (ordered n s)) ≡ how_often_at i s n.calls
    unfolding how_often_at
    length_of_line = ap length of_line_ordered ∙ length_tidy here

    -- of one line at one stop the order is that of the offsets
    abbrev There : Call → Type 0
    There c = (c.line ≡ i) × (c.stop ≡ s)

    by_offset : (c d : Call) → There c → There d → not_after c d ≡ leb c.offset d.offset
    unfolding not_after
    by_offset c d (e, f) (g, h) =
        next c.line d.line _ (e ∙ sym g) ∙ next c.stop d.stop _ (f ∙ sym h)
      where
        next : (x y : ℕ) (t : Bool) → x ≡ y → (ltb x y || eqb x y && t) ≡ t
        next x y t e = ap₂ (λ (u v : Bool). u || v && t) (le-ltb x y (omega (arith, e))) (eq-eqb x y e)

    offsets_ordered : map (λ (c : Call). c.offset) (of_line i (ordered n s)) ≡ offsets_at i s n.calls
    unfolding offsets_at tidy
    offsets_ordered =
        ap (map (λ (c : Call). c.offset)) of_line_ordered
        ∙ map_sort_by not_after leb (λ (c : Call). c.offset) There by_offset here
        (each_has_of_all not_after leb (λ (c : Call). c.offset) There by_offset no_call here
        (keep_all no_call (λ (c : Call). eqb c.line i && eqb c.stop s) There n.calls
        (λ k h e. let (f, g) = (and-eq-true_iff _ _).0 e in (eqb-true _ _ f, eqb-true _ _ g))))

    module _ (a : ℕ) (few : a < length (of_line i (ordered n s))) where
      offset_at : get_or (offsets_at i s n.calls) a 0 ≡ (get_or (of_line i (ordered n s)) a no_call).offset
      offset_at =
          ap (λ (l : List ℕ). get_or l a 0) (sym offsets_ordered) ∙ get_d_map (λ (c : Call). c.offset) (of_line i (ordered n s)) a no_call 0 few

      line_at : (get_or (of_line i (ordered n s)) a no_call).line ≡ i
      line_at = eqb-true _ _ (member_of_keep _ (ordered n s) (member_of_place (of_line i (ordered n s)) no_call a few)).1

  -- a difference of matched offsets is that of the calls
  difference_of_calls : (s i a j b : ℕ) → a < length (of_line i (ordered n s)) → b < length (of_line j (ordered n s))
      → matched_difference n s i a j b ≡ remainder n (get_or (of_line i (ordered n s)) a no_call) (get_or (of_line j (ordered n s)) b no_call)
  unfolding matched_difference remainder period_of
  difference_of_calls s i a j b h k =
      ap₂ residue (ap₂ (λ (x y : ℕ). pos x -ℤ pos y) (offset_at i s a h) (offset_at j s b k))
      (ap₂ (λ (x y : ℕ). gcd (get_or n.periods x 0) (get_or n.periods y 0)) (sym (line_at i s a h)) (sym (line_at j s b k)))

  pub alike_by_calls : (s t : ℕ) → Alike n s t ↔ AlikeOfCalls n s t
  alike_by_calls s t = (to, from)
    where
      to : Alike n s t → AlikeOfCalls n s t
      to alike =
          record {
            first_served = alike.first_served;
            second_served = alike.second_served;
            equally_many = λ i. sym (length_of_line i s) ∙ many i ∙ length_of_line i t;
            same_differences = λ i a j b h k.
                let (p, x) = place_of_rank i (ordered n s) (ordered n t) alike.same_lines a (omega (arith, h, length_of_line i s)) in
                let (q, y) = place_of_rank j (ordered n s) (ordered n t) alike.same_lines b (omega (arith, k, length_of_line j s)) in
                difference_of_calls s i a j b x.few y.few
                ∙ ap₂ (remainder n) x.here y.here
                ∙ alike.same_remainders p q x.low y.low
                ∙ sym (ap₂ (remainder n) x.there y.there)
                ∙ sym (difference_of_calls t i a j b (omega (arith, x.few, many i)) (omega (arith, y.few, many j)));
          }
        where
          many : (i : ℕ) → length (of_line i (ordered n s)) ≡ length (of_line i (ordered n t))
          many i = many_of_same_lines i (ordered n s) (ordered n t) alike.same_lines

      from : AlikeOfCalls n s t → Alike n s t
      from alike =
          record {
            first_served = alike.first_served;
            second_served = alike.second_served;
            same_lines = lines;
            same_remainders = λ p q h k.
                let (a, x) = rank_of_place (ordered n s) (ordered n t) lines p h in
                let (b, y) = rank_of_place (ordered n s) (ordered n t) lines q k in
                let i : ℕ = (ordered_call n s p).line in
                let j : ℕ = (ordered_call n s q).line in
                sym (ap₂ (remainder n) x.here y.here)
                ∙ sym (difference_of_calls s i a j b x.few y.few)
                ∙ alike.same_differences i a j b (omega (arith, x.few, length_of_line i s)) (omega (arith, y.few, length_of_line j s))
                ∙ difference_of_calls t i a j b (omega (arith, x.few, many i)) (omega (arith, y.few, many j))
                ∙ ap₂ (remainder n) x.there y.there;
          }
        where
          many : (i : ℕ) → length (of_line i (ordered n s)) ≡ length (of_line i (ordered n t))
          many i = length_of_line i s ∙ alike.equally_many i ∙ sym (length_of_line i t)

          lines : lines_of (ordered n s) ≡ lines_of (ordered n t)
          lines = same_lines_of_many (ordered n s) (ordered n t) (ordered_ascending s) (ordered_ascending t) many
