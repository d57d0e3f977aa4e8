-- How often a line calls at a stop: one call more is one more at its line and stop, and at no other; so for the table that has the numbers, since
-- each line at each stop has a place of its own; and without loops no line calls at a stop twice. Assumes nothing.
use Prim.Native.Nat.{ℕ, ◌*◌, ◌+◌, ◌<◌, ◌≤◌}
use mathlib.Core.Path.{◌≡◌, refl, sym, ap, ◌∙◌}
use mathlib.Core.Bool.{Bool, true, false, ◌&&◌, and-false}
use mathlib.Core.List.{List, [], ◌∷◌, ◌++◌}
use native.Mathlib.Decide.{ℕ_discrete}
use native.Mathlib.Omega.{arith}
use lib.Dec.{eqb}
use lib.ListN.{length, get_or, set, length-append}
use lib.Seq.{get_or-set_same, get_or-set_other}
use borrow.Author.Tests.{eq-eqb, ne_eqb}
use Rattle.network.specs.declared.Call.{Call}
use Rattle.network.specs.Lists.{pick, keep}
use Rattle.network.specs.Network.{Net, max_lines, max_stop, max_calls_at_stop, how_often_at}
use Rattle.network.specs.Engine.Stored.{Often}
use Rattle.network.specs.Loops.{WithoutLoops}
use Rattle.network.specs.Valid.{no_call}
use Rattle.network.proofs.Laws.Lists.{and_both}
use Rattle.network.proofs.Laws.Members.{keep_has_pair, keep_append}

module _ (line stop : ℕ) (cs : List Call) (c : Call) where
  is_call : Call → Bool
  is_call d = eqb d.line line && eqb d.stop stop

  how_often_at_next : how_often_at line stop (cs ++ (c ∷ [])) ≡ how_often_at line stop cs + pick (is_call c) 1 0
  unfolding how_often_at keep is_call
  how_often_at_next =
      ap length (keep_append is_call cs (c ∷ [])) ∙ length-append (keep is_call cs) (keep is_call (c ∷ [])) ∙ go (is_call c)
    where
      go : (t : Bool) → length (keep is_call cs) + length (pick t (c ∷ []) []) ≡ length (keep is_call cs) + pick t 1 0
      go true = refl
      go false = refl

  once_more : c.line ≡ line → c.stop ≡ stop → how_often_at line stop (cs ++ (c ∷ [])) ≡ how_often_at line stop cs + 1
  unfolding is_call
  once_more f g =
      how_often_at_next ∙ ap (λ (t : Bool). how_often_at line stop cs + pick t 1 0) (and_both _ _ (eq-eqb _ _ f) (eq-eqb _ _ g))

  as_often : (c.line ≡ line → c.stop ≡ stop → ⊥) → how_often_at line stop (cs ++ (c ∷ [])) ≡ how_often_at line stop cs
  unfolding is_call
  as_often f =
      how_often_at_next ∙ ap (λ (t : Bool). how_often_at line stop cs + pick t 1 0) (other (ℕ_discrete c.line line)) ∙ omega arith
    where
      other : Dec (c.line ≡ line) → (eqb c.line line && eqb c.stop stop) ≡ false
      other (yes e) = rw (ne_eqb _ _ (f e)) (and-false (eqb c.line line))
      other (no d) = rw (ne_eqb _ _ d) refl

  -- a line that may call there once more still calls there at most as often as it may
  pub often_more : how_often_at line stop cs ≤ max_calls_at_stop → how_often_at c.line c.stop cs < max_calls_at_stop
      → how_often_at line stop (cs ++ (c ∷ [])) ≤ max_calls_at_stop
  often_more few free = go (ℕ_discrete c.line line) (ℕ_discrete c.stop stop)
    where
      go : Dec (c.line ≡ line) → Dec (c.stop ≡ stop) → how_often_at line stop (cs ++ (c ∷ [])) ≤ max_calls_at_stop
      go (yes e) (yes f) = rw (once_more e f, ← e, ← f) (omega (arith, free))
      go (yes e) (no g) = rw (as_often (λ _. g)) few
      go (no g) q = rw (as_often (λ e _. g e)) few

-- Before a call the line calls there less often than it may, where with all calls it does not call there too often
pub how_often_at_before : (cs : List Call) (c : Call) (ds all : List Call) → cs ++ (c ∷ ds) ≡ all → how_often_at c.line c.stop all ≤ max_calls_at_stop
    → how_often_at c.line c.stop cs < max_calls_at_stop
unfolding how_often_at keep
how_often_at_before cs c ds all e few =
    let is_it : Call → Bool = λ (d : Call). eqb d.line c.line && eqb d.stop c.stop in
    let itself : is_it c ≡ true = and_both _ _ (eq-eqb c.line _ refl) (eq-eqb c.stop _ refl) in
    let split : keep is_it all ≡ keep is_it cs ++ (c ∷ keep is_it ds) =
    ap (keep is_it) (sym e) ∙ keep_append is_it cs (c ∷ ds) ∙ ap (λ (t : Bool). keep is_it cs ++ pick t (c ∷ keep is_it ds) (keep is_it ds)) itself in
    omega (arith, few, ap length split, length-append (keep is_it cs) (c ∷ keep is_it ds))

-- ---- without loops no line calls twice at a stop

pub no_line_twice : {n : Net} → WithoutLoops n → (j k : ℕ) → j < k → k < length n.calls
    → (get_or n.calls j no_call).line ≡ (get_or n.calls k no_call).line → (get_or n.calls j no_call).stop ≡ (get_or n.calls k no_call).stop → ⊥
unfolding how_often_at
no_line_twice {n} loopless j k h l e f =
    let is_it : Call → Bool = λ (c : Call). eqb c.line (get_or n.calls k no_call).line && eqb c.stop (get_or n.calls k no_call).stop in
    let first : is_it (get_or n.calls j no_call) ≡ true = and_both _ _ (eq-eqb _ _ e) (eq-eqb _ _ f) in
    let second : is_it (get_or n.calls k no_call) ≡ true = and_both _ _ (eq-eqb (get_or n.calls k no_call).line _ refl) (eq-eqb (get_or n.calls k no_call).stop _ refl) in
    let (p, q, m, o, _, _) = keep_has_pair no_call is_it n.calls j k h l first second in
    omega (arith, m, o, loopless.once (get_or n.calls k no_call).line (get_or n.calls k no_call).stop)

-- ---- the table

pub often_none : (often : List ℕ) → ((place : ℕ) → get_or often place 0 ≡ 0) → Often often []
unfolding Often how_often_at keep
often_none often z line stop h k = z (stop * 16 + line)

pub often_call : (often : List ℕ) (cs : List Call) (c : Call) → length often ≡ 1024 → c.line < max_lines → c.stop ≤ max_stop → Often often cs
    → Often (set often (c.stop * 16 + c.line) (get_or often (c.stop * 16 + c.line) 0 + 1)) (cs ++ (c ∷ []))
unfolding Often
often_call often cs c row low high o line stop k j = go (ℕ_discrete (stop * 16 + line) (c.stop * 16 + c.line))
  where
    go : Dec (stop * 16 + line ≡ c.stop * 16 + c.line)
        → get_or (set often (c.stop * 16 + c.line) (get_or often (c.stop * 16 + c.line) 0 + 1)) (stop * 16 + line) 0 ≡ how_often_at line stop (cs ++ (c ∷ []))
    go (yes e) =
        let f : c.line ≡ line = omega arith in
        let g : c.stop ≡ stop = omega arith in
        ap (λ (q : ℕ). get_or (set often (c.stop * 16 + c.line) (get_or often (c.stop * 16 + c.line) 0 + 1)) q 0) e
        ∙ get_or-set_same often (c.stop * 16 + c.line) (get_or often (c.stop * 16 + c.line) 0 + 1) 0 (omega arith)
        ∙ ap (λ (q : ℕ). get_or often q 0 + 1) (sym e)
        ∙ ap (λ (q : ℕ). q + 1) (o line stop k j)
        ∙ sym (once_more line stop cs c f g)
    go (no d) =
        get_or-set_other often (c.stop * 16 + c.line) (stop * 16 + line) (get_or often (c.stop * 16 + c.line) 0 + 1) 0 d
        ∙ o line stop k j
        ∙ sym (as_often line stop cs c (λ e f. d (omega arith)))
