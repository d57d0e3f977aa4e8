-- `search::walking::write_starts` meets its contract. The loop's invariant: the places passed hold the starts. Assumes nothing.
use mathlib.Core.Path.{sym, ap, ◌∙◌}
use mathlib.Core.List.{map}
use native.Mathlib.Omega.{arith}
use lib.IntN.{pos}
use lib.ListN.{length, take, length-map, get_or-map}
use lib.Seq.{get_or-take, length-take-le, ext_get_or}
use Rattle.search.proofs.walking.write_starts.Goals as goal

pub returns : goal.returns
returns c = let l = c.loop-i in
    let count = length c.args.row.now in
    let starts = c.args.starts.now in
    ext_get_or (pos 0) l.row (map pos (take count starts))
    (l.auto.row ∙ sym (length-map (take count starts) pos ∙ length-take-le count starts (omega (arith, c.requires))))
    (λ i h. l.invariant i (omega (arith, h, l.auto.row, c.loop-i-test.false)) ∙ sym (get_or-map pos (take count starts) i 0 ∙ ap pos (get_or-take count starts i 0 (omega (arith, h, l.auto.row)))))
