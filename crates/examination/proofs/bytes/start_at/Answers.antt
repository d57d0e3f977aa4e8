-- `examination::bytes::start_at` meets its contract: the number that the four bytes make is read in two's complement. Assumes nothing.
use Prim.Native.Nat.{ℕ, ◌+◌, ◌-◌, ◌<◌}
use mathlib.Core.Path.{◌≡◌, refl, sym, ap, ◌∙◌}
use mathlib.Core.Bool.{Bool, true, false}
use native.Mathlib.Omega.{arith}
use borrow.Author.Tests.{ltb-true, ltb-false}
use lib.Dec.{ltb}
use lib.IntN.{negsuc}
use lib.ListN.{get_or}
use mir.Syntax.{w32}
use mir.Val.{to_z}
use mir.Facts.{to_z-of_z, to_z_pos, to_z-neg}
use Rattle.network.specs.Network.{word}
use Rattle.examination.specs.Bytes.{signed}
use Rattle.examination.specs.Engine.Taken.{start_at}
use Rattle.examination.proofs.Laws.Bytes.{signed_low, signed_high}
use Rattle.examination.proofs.bytes.start_at.Goals as goal

complement : (m k : ℕ) → k < 2147483648 → m ≡ 4294967296 - (k + 1) → to_z w32 m ≡ negsuc k
complement m k h e = ap (to_z w32) (e ∙ omega arith) ∙ to_z-neg w32 k h

signed_is : (m : ℕ) → m < 4294967296 → to_z w32 m ≡ signed m
signed_is m h = go (ltb m 2147483648) refl
  where
    go : (b : Bool) → ltb m 2147483648 ≡ b → to_z w32 m ≡ signed m
    go true e = to_z_pos w32 (ltb-true m 2147483648 e) ∙ sym (signed_low m (ltb-true m 2147483648 e))
    go false e =
        complement m (4294967295 - m) (omega (arith, ltb-false m 2147483648 e)) (omega arith)
        ∙ sym (signed_high m (ltb-false m 2147483648 e) h)

pub returns : goal.returns
unfolding start_at word
returns c =
    let at = c.args.at in
    let byte = λ (i : ℕ). (c.type_inv.bytes i).fits in
    let last : get_or c.args.bytes.now (at + 2 + 1) 0 ≡ get_or c.args.bytes.now (at + 3) 0 = ap (λ (i : ℕ). get_or c.args.bytes.now i 0) (omega arith) in
    to_z-of_z {w = w32} (record { sfits = c.from_be_bytes.type_inv })
    ∙ c.from_be_bytes.ensures
    ∙ ap (to_z w32) (omega arith)
    ∙ signed_is _ (omega (arith, byte at, byte (at + 1), byte (at + 2), byte (at + 2 + 1)))
