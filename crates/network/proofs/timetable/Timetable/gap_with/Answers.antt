-- `network::timetable::Timetable::gap_with` meets its contract: where no call stood at the stop its gap is the period, and otherwise the least of what it
-- was and the gaps to those before. Assumes nothing.
use Prim.Native.Nat.{ℕ, ◌<◌, ◌≤◌}
use mathlib.Core.Path.{sym, ap, ◌∙◌}
use mathlib.Core.List.{[], ◌∷◌, ◌++◌, map}
use native.Mathlib.Nat.{pos_of_ne-zero}
use native.Mathlib.Omega.{arith}
use lib.ListN.{length, get_or}
use Rattle.network.specs.declared.Call.{Call}
use Rattle.network.specs.declared.Rows.{Rows}
use Rattle.network.specs.Lists.{keep, least_from}
use Rattle.network.specs.Rating.{period_of, gap_of_calls, gap_of_stop}
use Rattle.network.specs.Engine.Scan.{calls_before}
use Rattle.network.specs.Engine.Stored.{net_of, calls_in, Sound}
use Rattle.network.specs.Valid.{Valid, no_call}
use Rattle.network.proofs.Laws.Stored.{length_held, held_lines, held_period, held_call_line, held_period_pos}
use Rattle.network.proofs.Laws.Scan.{calls_before_some, gap_of_stop_next, calls_before_all}
use Rattle.network.proofs.timetable.Timetable.gap_with.Goals as goal

-- In a network that the rows hold, the calls that stand at the stop have periods of at least 1
module _ (n : Rows) (sound : Sound n) (valid : Valid (net_of n)) (stop k : ℕ) (within : k ≤ n.count) where
  periods_pos : (i : ℕ) → i < length (calls_before stop (calls_in n.list) k) → 0 < period_of (net_of n) (get_or (calls_before stop (calls_in n.list) k) i no_call)
  unfolding period_of
  periods_pos =
      calls_before_all stop (calls_in n.list) (λ (c : Call). 0 < period_of (net_of n) c) k
      (λ j h b.
      let l = held_call_line n sound valid j (omega (arith, within, h)) in
      rw (held_period n _ l) (held_period_pos n sound valid _ l))

pub overflow_cast-result : goal.overflow_cast-result
overflow_cast-result c = let n = c.args.self.now.network.now in
    omega (
      arith,
      held_period n.rows c.args.call.line (omega (arith, c.requires.1.own_line, held_lines n.rows n.sound)),
      n.valid.period c.args.call.line c.requires.1.own_line,
    )

pub returns-then-before-eq0 : goal.returns-then-before-eq0
unfolding gap_of_stop calls_before keep period_of
returns-then-before-eq0 c gap_is = let n = c.args.self.now.network.now in
    sym
    (ap (λ (k : ℕ). gap_of_stop (net_of n.rows) c.args.self.now.starts.now (calls_before c.args.call.stop (calls_in n.rows.list) k ++ (c.args.call ∷ [])))
    c.if-before-eq0.true
    ∙ held_period n.rows c.args.call.line (omega (arith, c.requires.1.own_line, held_lines n.rows n.sound)))

pub returns : goal.returns
returns c gap_is = let n = c.args.self.now.network.now in
    let b = c.requires.1 in
    let cs = calls_before c.args.call.stop (calls_in n.rows.list) c.args.before in
    let p = pos_of_ne-zero c.if-before-eq0.false in
    c.least_gap.ensures
    ∙ ap (λ (v : ℕ). least_from v (map (λ d. gap_of_calls (net_of n.rows) c.args.self.now.starts.now d c.args.call) cs)) gap_is
    ∙ sym
    (gap_of_stop_next (net_of n.rows) c.args.self.now.starts.now cs c.args.call
    (calls_before_some c.args.call.stop (calls_in n.rows.list) c.args.before p
    (omega (arith, b.within, n.sound.calls, length_held n.rows n.sound))
    (b.lands p))
    (periods_pos n.rows n.sound n.valid c.args.call.stop c.args.before b.within))
