-- `network::timetable::Timetable::call_gap` meets its contract: each call arrives at its line's start plus its offset. Assumes nothing.
use Prim.Native.Nat.{ℕ, ◌+◌, ◌*◌}
use mathlib.Core.Path.{◌≡◌, ap, ap₂, ◌∙◌}
use lib.IntN.{ℤ, pos, ◌+ℤ◌, ◌-ℤ◌}
use lib.ListN.{get_or}
use mir.Syntax.{w32, w64}
use mir.Val.{SFits, to_z, of_z}
use mir.Facts.{to_z-of_z}
use Rattle.network.specs.Gap.{residue, fold}
use Rattle.network.specs.Rating.{arrival_of}
use Rattle.network.specs.Engine.Scan.{gap_by}
use Rattle.network.proofs.timetable.Timetable.call_gap.Goals as goal

-- A start that is read from the sheet, and the arrival that is handed on, are the numbers themselves
arrives : (start : ℤ) (offset : ℕ) (r : ℤ) → SFits w32 start → SFits w64 r → r ≡ to_z w32 (of_z w32 start) +ℤ pos offset → to_z w64 (of_z w64 r) ≡ start +ℤ pos offset
arrives start offset r f g e = to_z-of_z g ∙ e ∙ ap (λ (z : ℤ). z +ℤ pos offset) (to_z-of_z f)

pub returns : goal.returns
unfolding arrival_of gap_by
returns c = let a = c.arrival-a in
    let b = c.arrival-b in
    let g = get_or c.args.divisors.now (c.args.first.line * 16 + c.args.second.line) 0 in
    c.gap.ensures
    ∙ ap₂ (λ (x y : ℤ). fold g (residue (x -ℤ y) g))
    (arrives (get_or c.args.self.now.starts.now c.args.first.line (pos 0)) c.args.first.offset _ (record { sfits = c.arrival-arg-1.given }) (record { sfits = a.type_inv }) a.ensures.0)
    (arrives (get_or c.args.self.now.starts.now c.args.second.line (pos 0)) c.args.second.offset _ (record { sfits = c.arrival-arg-2-1.given }) (record { sfits = b.type_inv }) b.ensures.0)
