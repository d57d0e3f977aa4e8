-- `examination::bytes::sheet_of` meets its contract. The loop's invariant: the places passed hold the starts that begin at every fourth byte.
-- Assumes nothing.
use Prim.Native.Nat.{ℕ, ◌+◌, ◌*◌, ◌/◌, ◌%◌, ◌<◌, ◌≤◌}
use mathlib.Core.Path.{◌≡◌, refl, sym, ap, ◌∙◌}
use mathlib.Core.Bool.{Bool, true, false, ◌&&◌}
use mathlib.Core.List.{List}
use mathlib.Core.Logic.{◌⊎◌, inl, inr}
use native.Mathlib.Omega.{arith}
use borrow.Author.Count.{below_more}
use borrow.Author.Tests.{eq-eqb, ne_eqb, lt-ltb, le-ltb}
use lib.Dec.{eqb, ltb}
use lib.IntN.{ℤ, pos}
use lib.ListN.{length, get_or, take, set, length-set, replicate, length-replicate}
use lib.Seq.{get_or-set_same, get_or-set_other, get_or-take, length-take-le, ext_get_or}
use mir.Syntax.{w32}
use mir.Val.{to_z, of_z}
use mir.Facts.{to_z-of_z}
use Rattle.network.specs.Lists.{pick}
use Rattle.examination.specs.Bytes.{starts}
use Rattle.examination.specs.Engine.Taken.{start_at, is_whole, sheet_of, held}
use Rattle.examination.proofs.Laws.Bytes.{length_starts, start_is_at}
use Rattle.examination.proofs.bytes.sheet_of.Goals as goal
use Rattle.examination.proofs.bytes.sheet_of.Goals.{In-loop-i}

-- In the loop the start lies within the bytes
within : (t : In-loop-i) → t.loop-i.i * 4 + 3 < length t.args.bytes.now
within t = omega (arith, t.loop-i-test.true)

small : (t : In-loop-i) → t.loop-i.i < 17
small t = omega (arith, t.loop-i-test.true, t.if-count-lt-PLACES.true)

pub loop-i-init : goal.loop-i-init
loop-i-init c = (omega arith, length-replicate {A = ℤ} 17 (pos 0), λ j h. absurd (omega (arith, h)))

pub start_at-requires : goal.start_at-requires
start_at-requires c = within c

pub loop-i-preserved : goal.loop-i-preserved
loop-i-preserved c = let l = c.loop-i in
    let bytes = c.args.bytes.now in
    let v : ℤ = to_z w32 (of_z w32 c.start_at.result) in (
      omega (arith, c.loop-i-test.true),
      length-set l.row l.i v ∙ l.invariant.1,
      below_more (λ j. ◌≡◌ {A = ℤ} (get_or (set l.row l.i v) j (pos 0)) (start_at bytes (j * 4))) l.i
          (λ j h. get_or-set_other l.row l.i j v (pos 0) (λ e. omega (arith, e, h)) ∙ l.invariant.2 j h)
          (get_or-set_same l.row l.i v (pos 0) (omega (arith, small (goal.at.loop-i-preserved c).In-loop-i, l.invariant.1)) ∙ to_z-of_z {w = w32} (record { sfits = c.start_at.type_inv }) ∙ c.start_at.ensures),
    )

-- The bytes aren't a whole number of starts, or are too many
other : (bytes : List ℕ) → is_whole (length bytes) ≡ false → take 17 (replicate 17 (pos 0)) ≡ sheet_of bytes
unfolding sheet_of
other bytes e = sym (ap (λ (b : Bool). pick b (starts bytes) (replicate 17 (pos 0))) e)

pub returns-then-count-lt-PLACES : goal.returns-then-count-lt-PLACES
unfolding held sheet_of is_whole
returns-then-count-lt-PLACES c = let l = c.loop-i in
    let bytes = c.args.bytes.now in
    let size = length bytes in
    let whole : (eqb (size % 4) 0 && ltb (size / 4) 17) ≡ true =
    rw (eq-eqb (size % 4) 0 c.if-bytes-eq0.true, lt-ltb (size / 4) 17 c.if-count-lt-PLACES.true) refl in
    let taken : length (take (size / 4) l.row) ≡ size / 4 = length-take-le (size / 4) l.row (omega (arith, l.invariant.1, c.if-count-lt-PLACES.true)) in
    ext_get_or (pos 0) (take (size / 4) l.row) (starts bytes) (taken ∙ sym (length_starts bytes))
    (λ i h.
    get_or-take (size / 4) l.row i (pos 0) (omega (arith, h, taken))
    ∙ l.invariant.2 i (omega (arith, h, taken, c.loop-i-test.false))
    ∙ sym (start_is_at bytes i (omega (arith, h, taken))))
    ∙ sym (ap (λ (b : Bool). pick b (starts bytes) (replicate 17 (pos 0))) whole)

-- Bytes that are no whole number of starts, or too many
not_whole : (size : ℕ) → ((size % 4 ≡ 0) × (17 ≤ size / 4)) ⊎ (size % 4 ≡ 0 → ⊥) → is_whole size ≡ false
unfolding is_whole
not_whole size (inl (e, h)) = rw (le-ltb (size / 4) 17 h) (and_false (eqb (size % 4) 0))
  where
    and_false : (b : Bool) → (b && false) ≡ false
    and_false true = refl
    and_false false = refl
not_whole size (inr e) = rw (ne_eqb (size % 4) 0 e) refl

pub returns : goal.returns
unfolding held
returns c = other c.args.bytes.now (not_whole (length c.args.bytes.now) c.else-bytes-eq0.either)
