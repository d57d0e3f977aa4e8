-- Laws of calls as numbers: a packed call is found again, since each part stays below the unit of the next, so that packed calls are in the
-- order of calls by line, stop and offset. Assumes nothing.
use Prim.Native.Nat.{ℕ, ◌+◌, ◌*◌, ◌/◌, ◌%◌, ◌<◌, ◌≤◌}
use mathlib.Core.Path.{◌≡◌, refl, sym, ap, ap₂, ◌∙◌}
use mathlib.Core.Bool.{Bool, true, false, ◌&&◌, ◌||◌}
use mathlib.Core.List.{List}
use native.Mathlib.Omega.{arith}
use borrow.Author.Tests.{ltb-true, ltb-false, leb-true, leb-false, eqb-true, eqb-false, le-leb, lt-leb}
use lib.Arith.{lt_of_le-ne}
use lib.Dec.{eqb, ltb, leb}
use lib.ListN.{get_or, get_or-map}
use Rattle.network.specs.declared.Call.{Call}
use Rattle.network.specs.Network.{Net, max_lines, max_stop, max_offset}
use Rattle.network.specs.Engine.Stored.{packed, call_in, calls_in}
use Rattle.network.specs.Tidy.{not_after}
use Rattle.network.specs.Valid.{no_call, Valid}
use Rattle.network.proofs.Laws.Members.{All}

-- A call within the limits
pub record InLimits (c : Call) : Type 0 where
  pub line : c.line < max_lines
  pub stop : c.stop ≤ max_stop
  pub offset : c.offset ≤ max_offset

pub limits : {n : Net} → Valid n → All no_call InLimits n.calls
limits v k h = record { line = omega (arith, v.call_line k h, v.lines); stop = v.call_stop k h; offset = v.call_offset k h }

-- A packed call is found again
pub call_in_packed : (c : Call) → InLimits c → call_in (packed c) ≡ c
unfolding packed call_in
call_in_packed c h =
    ap₂ (λ (line stop : ℕ). record { line = line; stop = stop; offset = packed c % 65536 }) line_is stop_is
    ∙ ap (λ (offset : ℕ). record { line = c.line; stop = c.stop; offset = offset }) offset_is
  where
    line_is : (c.line * 4194304 + c.stop * 65536 + c.offset) / 4194304 % 16 ≡ c.line
    line_is = omega (arith, h.line, h.stop, h.offset)

    stop_is : (c.line * 4194304 + c.stop * 65536 + c.offset) / 65536 % 64 ≡ c.stop
    stop_is = omega (arith, h.line, h.stop, h.offset)

    offset_is : (c.line * 4194304 + c.stop * 65536 + c.offset) % 65536 ≡ c.offset
    offset_is = omega (arith, h.line, h.stop, h.offset)

pub call_in_zero : call_in 0 ≡ no_call
unfolding call_in
call_in_zero = refl

-- Whatever number it is, its call is of a line below 16 and at a stop below 64
pub call_in_line : (code : ℕ) → (call_in code).line < max_lines
unfolding call_in
call_in_line code = omega arith

pub call_in_stop : (code : ℕ) → (call_in code).stop ≤ max_stop
unfolding call_in
call_in_stop code = omega arith

-- A place of a row, behind its end too
pub call_in_row : (row : List ℕ) (i : ℕ) → get_or (calls_in row) i no_call ≡ call_in (get_or row i 0)
call_in_row row i = ap (get_or (calls_in row) i) (sym call_in_zero) ∙ get_or-map call_in row i 0

-- Packed calls are in the order of the calls
module _ (c d : Call) (h : InLimits c) (k : InLimits d) where
  pub packed_order : leb (packed c) (packed d) ≡ not_after c d
  unfolding packed not_after
  packed_order = go (ltb c.line d.line) refl (eqb c.line d.line) refl (ltb c.stop d.stop) refl (eqb c.stop d.stop) refl (leb c.offset d.offset) refl
    where
      go :
          (a : Bool)
          → ltb c.line d.line ≡ a
          → (b : Bool)
          → eqb c.line d.line ≡ b
          → (p : Bool)
          → ltb c.stop d.stop ≡ p
          → (q : Bool)
          → eqb c.stop d.stop ≡ q
          → (r : Bool)
          → leb c.offset d.offset ≡ r
          → leb (packed c) (packed d) ≡ (a || b && (p || q && r))
      go true e b f p g q i r j = le-leb (packed c) (packed d) (omega (arith, ltb-true, h.stop, h.offset))
      go false e false f p g q i r j =
          let less : d.line < c.line = lt_of_le-ne (ltb-false c.line d.line e) (λ n. eqb-false c.line d.line f (sym n)) in
          lt-leb (packed c) (packed d) (omega (arith, less, k.stop, k.offset))
      go false e true f true g q i r j = le-leb (packed c) (packed d) (omega (arith, eqb-true, ltb-true, h.offset))
      go false e true f false g false i r j =
          let less : d.stop < c.stop = lt_of_le-ne (ltb-false c.stop d.stop g) (λ n. eqb-false c.stop d.stop i (sym n)) in
          lt-leb (packed c) (packed d) (omega (arith, eqb-true, less, k.offset))
      go false e true f false g true i true j = le-leb (packed c) (packed d) (omega (arith, eqb-true, leb-true))
      go false e true f false g true i false j = lt-leb (packed c) (packed d) (omega (arith, eqb-true, leb-false))

-- ---- the parts of a packed call

module _ (c : Call) (h : InLimits c) where
  pub packed_line : packed c / 4194304 ≡ c.line
  unfolding packed
  packed_line = omega (arith, h.line, h.stop, h.offset)

  pub packed_stop : packed c / 65536 % 64 ≡ c.stop
  unfolding packed
  packed_stop = omega (arith, h.line, h.stop, h.offset)

  pub packed_offset : packed c % 65536 ≡ c.offset
  unfolding packed
  packed_offset = omega (arith, h.line, h.stop, h.offset)
