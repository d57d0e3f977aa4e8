-- Laws of the row that has for each line one more than the offset of its latest call: one call more sets its line's place, and a place
-- says whether the line calls anywhere. Assumes nothing.
use Prim.Native.Nat.{ℕ, suc, ◌+◌, ◌<◌}
use mathlib.Core.Path.{◌≡◌, refl, sym, ap, ap₂, ◌∙◌}
use mathlib.Core.Bool.{Bool, true, false, ◌||◌, or-false}
use mathlib.Core.List.{List, [], ◌∷◌, ◌++◌}
use native.Mathlib.Decide.{ℕ_discrete}
use native.Mathlib.Numerals.{add-one}
use native.Mathlib.Omega.{arith}
use lib.Dec.{eqb, ltb}
use lib.ListN.{length, get_or, set}
use lib.Seq.{get_or-set_same, get_or-set_other}
use borrow.Author.Tests.{eq-eqb, ne_eqb, lt-ltb}
use Rattle.network.specs.declared.Call.{Call}
use Rattle.network.specs.Lists.{pick, any}
use Rattle.network.specs.Network.{max_lines, calls_anywhere, latest_offset}
use Rattle.network.specs.Engine.Stored.{Latest}
use Rattle.network.proofs.Laws.Lists.{any_append}
use Rattle.network.proofs.Laws.Network.{latest_append}

-- A line's place in the row
place_of : ℕ → List Call → ℕ
place_of line cs = pick (calls_anywhere line cs) (suc (latest_offset line 0 cs)) 0

module _ (line : ℕ) (cs : List Call) (c : Call) where
  anywhere_next : calls_anywhere line (cs ++ (c ∷ [])) ≡ (calls_anywhere line cs || eqb c.line line)
  unfolding calls_anywhere any
  anywhere_next =
      any_append (λ (d : Call). eqb d.line line) cs (c ∷ [])
      ∙ ap (λ (t : Bool). any (λ (d : Call). eqb d.line line) cs || t) (or-false (eqb c.line line))

  latest_next : latest_offset line 0 (cs ++ (c ∷ [])) ≡ pick (eqb c.line line) c.offset (latest_offset line 0 cs)
  unfolding latest_offset
  latest_next = latest_append line 0 cs (c ∷ [])

  place_next : place_of line (cs ++ (c ∷ [])) ≡ pick (eqb c.line line) (suc c.offset) (place_of line cs)
  unfolding place_of
  place_next =
      ap₂ (λ (t : Bool) (o : ℕ). pick t (suc o) 0) anywhere_next latest_next ∙ go (calls_anywhere line cs) (eqb c.line line)
    where
      go : (t u : Bool)
          → pick (t || u) (suc (pick u c.offset (latest_offset line 0 cs))) 0 ≡ pick u (suc c.offset) (pick t (suc (latest_offset line 0 cs)) 0)
      go true true = refl
      go true false = refl
      go false true = refl
      go false false = refl

pub latest_none : (latest : List ℕ) → ((line : ℕ) → get_or latest line 0 ≡ 0) → Latest latest []
unfolding Latest calls_anywhere any
latest_none latest z line h = z line

pub latest_call : (latest : List ℕ) (cs : List Call) (c : Call) → length latest ≡ max_lines → c.line < max_lines → Latest latest cs
    → Latest (set latest c.line (c.offset + 1)) (cs ++ (c ∷ []))
unfolding Latest place_of
latest_call latest cs c row low l line h = go (ℕ_discrete line c.line) ∙ sym (place_next line cs c)
  where
    go : Dec (line ≡ c.line) → get_or (set latest c.line (c.offset + 1)) line 0 ≡ pick (eqb c.line line) (suc c.offset) (place_of line cs)
    go (yes e) =
        ap (λ (k : ℕ). get_or (set latest c.line (c.offset + 1)) k 0) e
        ∙ get_or-set_same latest c.line (c.offset + 1) 0 (omega arith)
        ∙ add-one c.offset
        ∙ ap (λ (t : Bool). pick t (suc c.offset) (place_of line cs)) (sym (eq-eqb _ _ (sym e)))
    go (no d) =
        get_or-set_other latest c.line line (c.offset + 1) 0 d
        ∙ l line h
        ∙ ap (λ (t : Bool). pick t (suc c.offset) (place_of line cs)) (sym (ne_eqb _ _ (λ e. d (sym e))))

module _ (latest : List ℕ) (cs : List Call) (l : Latest latest cs) (line : ℕ) (h : line < max_lines) where
  -- A place above 0 says that the line calls
  pub latest_calls : ltb 0 (get_or latest line 0) ≡ calls_anywhere line cs
  unfolding Latest
  latest_calls = ap (ltb 0) (l line h) ∙ go (calls_anywhere line cs)
    where
      go : (t : Bool) → ltb 0 (pick t (suc (latest_offset line 0 cs)) 0) ≡ t
      go true = lt-ltb 0 (suc (latest_offset line 0 cs)) (omega arith)
      go false = refl

  -- and has then its latest offset
  pub latest_offset_is : calls_anywhere line cs ≡ true → get_or latest line 0 ≡ latest_offset line 0 cs + 1
  unfolding Latest
  latest_offset_is e = l line h ∙ ap (λ (t : Bool). pick t (suc (latest_offset line 0 cs)) 0) e ∙ sym (add-one (latest_offset line 0 cs))
