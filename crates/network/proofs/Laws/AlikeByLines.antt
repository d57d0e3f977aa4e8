-- On a network without loops two stops are alike in document 02's words (A.2) exactly when they are in document 01's, over lines and pairs of lines:
-- a line has one call at a stop or none, so that its first offset there is its only one. Assumes nothing.
use Prim.Native.Nat.{ℕ, ◌<◌, ◌≤◌}
use mathlib.Core.Path.{◌≡◌, refl, sym, ap, ap₂, ◌∙◌}
use mathlib.Core.Bool.{Bool, true, false, ◌&&◌}
use mathlib.Core.Logic.{◌↔◌}
use mathlib.Core.List.{List, [], ◌∷◌, map}
use native.Mathlib.Decide.{dec_lt}
use native.Mathlib.Omega.{arith}
use lib.Dec.{eqb, leb}
use lib.IntN.{pos, ◌-ℤ◌}
use lib.ListN.{length, get_or, length-map}
use Rattle.network.specs.declared.Call.{Call}
use Rattle.network.specs.Lists.{pick, keep}
use Rattle.network.specs.Divisor.{gcd}
use Rattle.network.specs.Network.{Net, calls_at, how_often_at}
use Rattle.network.specs.Valid.{no_call}
use Rattle.network.specs.Gap.{residue}
use Rattle.network.specs.Tidy.{insert_by, sort_by}
use Rattle.network.specs.Loops.{WithoutLoops, offsets_at, matched_difference, AlikeOfCalls}
use Rattle.network.specs.ByLines.{offset_at, offset_difference, AlikeOfLines}
use Rattle.network.proofs.Laws.Members.{any_of_member, member_of_any, place_of_member, member_of_place, keep_of_member, member_of_keep}

-- ---- the calls of a line at a stop

abbrev is_it : ℕ → ℕ → Call → Bool
is_it line stop c = eqb c.line line && eqb c.stop stop

module _ (line stop : ℕ) (cs : List Call) where
  -- it calls there if it does so at least once
  often_of_calls_at : calls_at line stop cs ≡ true → 0 < how_often_at line stop cs
  unfolding calls_at how_often_at
  often_of_calls_at e =
      let (c, m, f) = member_of_any (is_it line stop) cs e in
      let (i, h, _) = place_of_member (keep (is_it line stop) cs) no_call (keep_of_member (is_it line stop) cs m f) in
      omega (arith, h)

  calls_at_of_often : 0 < how_often_at line stop cs → calls_at line stop cs ≡ true
  unfolding calls_at how_often_at
  calls_at_of_often h =
      let (m, f) = member_of_keep (is_it line stop) cs (member_of_place (keep (is_it line stop) cs) no_call 0 h) in
      any_of_member (is_it line stop) cs m f

-- The offset that is found is the first of these
offset_at_is_first : (line stop : ℕ) (cs : List Call)
    → offset_at line stop cs ≡ get_or (map (λ (c : Call). c.offset) (keep (is_it line stop) cs)) 0 0
unfolding offset_at keep
offset_at_is_first line stop [] = refl
offset_at_is_first line stop (c ∷ cs) = go (eqb c.line line && eqb c.stop stop) _ _ (offset_at_is_first line stop cs)
  where
    go : (t : Bool) (v : ℕ) (ds : List Call) → v ≡ get_or (map (λ (d : Call). d.offset) ds) 0 0
        → pick t c.offset v ≡ get_or (map (λ (d : Call). d.offset) (pick t (c ∷ ds) ds)) 0 0
    go true v ds e = refl
    go false v ds e = e

-- One number alone is in order
sort_by_few : (xs : List ℕ) → length xs ≤ 1 → sort_by leb xs ≡ xs
unfolding sort_by insert_by
sort_by_few [] h = refl
sort_by_few (x ∷ []) h = refl
sort_by_few (x ∷ y ∷ xs) h = absurd (omega arith)

-- ---- a network without loops

module _ {n : Net} (loopless : WithoutLoops n) where
  only_offset : (line stop : ℕ) → get_or (offsets_at line stop n.calls) 0 0 ≡ offset_at line stop n.calls
  unfolding offsets_at how_often_at
  only_offset line stop =
      let there : List Call = keep (is_it line stop) n.calls in
      let few : length (map (λ (c : Call). c.offset) there) ≤ 1 = rw (length-map there (λ (c : Call). c.offset)) (loopless.once line stop) in
      ap (λ (l : List ℕ). get_or l 0 0) (sort_by_few (map (λ (c : Call). c.offset) there) few) ∙ sym (offset_at_is_first line stop n.calls)

  difference_of_lines : (stop i j : ℕ) → matched_difference n stop i 0 j 0 ≡ offset_difference n stop i j
  unfolding matched_difference offset_difference
  difference_of_lines stop i j =
      ap₂ (λ (x y : ℕ). residue (pos x -ℤ pos y) (gcd (get_or n.periods i 0) (get_or n.periods j 0))) (only_offset i stop) (only_offset j stop)

  pub alike_by_lines : (s t : ℕ) → AlikeOfCalls n s t ↔ AlikeOfLines n s t
  alike_by_lines s t = (to, from)
    where
      equal : (x y : Bool) → (x ≡ true → y ≡ true) → (y ≡ true → x ≡ true) → x ≡ y
      equal true y f g = sym (f refl)
      equal false true f g = g refl
      equal false false f g = refl

      to : AlikeOfCalls n s t → AlikeOfLines n s t
      to alike =
          record {
            first_served = alike.first_served;
            second_served = alike.second_served;
            same_lines = λ line.
                equal _ _
                (λ e. calls_at_of_often line t n.calls (omega (arith, alike.equally_many line, often_of_calls_at line s n.calls e)))
                (λ e. calls_at_of_often line s n.calls (omega (arith, alike.equally_many line, often_of_calls_at line t n.calls e)));
            same_differences = λ i j c d.
                sym (difference_of_lines s i j)
                ∙ alike.same_differences i 0 j 0 (often_of_calls_at i s n.calls c) (often_of_calls_at j s n.calls d)
                ∙ difference_of_lines t i j;
          }

      from : AlikeOfLines n s t → AlikeOfCalls n s t
      from alike =
          record {
            first_served = alike.first_served;
            second_served = alike.second_served;
            equally_many = λ line. many line (dec_lt 0 (how_often_at line s n.calls)) (dec_lt 0 (how_often_at line t n.calls));
            same_differences = λ i a j b h k.
                let first : a ≡ 0 = omega (arith, h, loopless.once i s) in
                let second : b ≡ 0 = omega (arith, k, loopless.once j s) in
                rw (first, second)
                (difference_of_lines s i j
                ∙ alike.same_differences i j (calls_at_of_often i s n.calls (omega (arith, h))) (calls_at_of_often j s n.calls (omega (arith, k)))
                ∙ sym (difference_of_lines t i j));
          }
        where
          many : (line : ℕ) → Dec (0 < how_often_at line s n.calls) → Dec (0 < how_often_at line t n.calls)
              → how_often_at line s n.calls ≡ how_often_at line t n.calls
          many line (yes h) (yes k) = omega (arith, h, k, loopless.once line s, loopless.once line t)
          many line (no h) (no k) = omega (arith, h, k)
          many line (yes h) (no k) = absurd (k (often_of_calls_at line t n.calls (sym (alike.same_lines line) ∙ calls_at_of_often line s n.calls h)))
          many line (no h) (yes k) = absurd (h (often_of_calls_at line s n.calls (alike.same_lines line ∙ calls_at_of_often line t n.calls k)))
