-- `network::board::Due::list_minute` meets its contract. The loop's invariant: behind what stands before the place the rows have the calls passed that are due,
-- and behind them what stood there, and the minutes of the calls passed are one later. Assumes nothing.
use Prim.Native.Nat.{ℕ, ◌+◌, ◌-◌, ◌<◌, ◌≤◌}
use mathlib.Core.Path.{◌≡◌}
use lib.ListN.{length, get_or}
use Rattle.network.specs.Lists.{count_below}
use Rattle.network.specs.Engine.Due.{due_in, one_later, listed_in}
use Rattle.network.proofs.board.Due.list_minute.Given as goal

abbrev pub invariant-loop-j : goal.invariant-loop-j
invariant-loop-j l = (l.j ≤ l.initial.self.count)
    × (l.next ≡ l.at + count_below (due_in l.initial.self.periods l.initial.self.since) l.j)
    × (length l.self.since ≡ 32)
    × ((i : ℕ) → i < l.j → get_or l.self.since i 0 ≡ one_later l.initial.self.periods l.initial.self.since i)
    × ((i : ℕ) → l.j ≤ i → get_or l.self.since i 0 ≡ get_or l.initial.self.since i 0)
    × (l.time_row ≡ listed_in l.initial.time_row l.at (λ (i : ℕ). l.time) (due_in l.initial.self.periods l.initial.self.since) l.j)
    × (l.line_row ≡ listed_in l.initial.line_row l.at (λ (i : ℕ). get_or l.initial.self.lines i 0) (due_in l.initial.self.periods l.initial.self.since) l.j)
    × (l.self.count ≡ l.initial.self.count)
    × (l.self.lines ≡ l.initial.self.lines)
    × (l.self.periods ≡ l.initial.self.periods)

abbrev pub decreases-loop-j : goal.decreases-loop-j
decreases-loop-j l = l.initial.self.count - l.j
