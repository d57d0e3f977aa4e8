-- `network::timetable::Timetable::due_before` meets its contract. The loop's invariant: the rows hold what is known of the calls passed. Assumes nothing.
use Prim.Native.Nat.{ℕ}
use mathlib.Core.List.{List}
use lib.IntN.{ℤ, pos, ◌-ℤ◌}
use Rattle.network.specs.Network.{Net}
use Rattle.network.specs.Gap.{residue}
use Rattle.network.specs.Rating.{arrival_of, period_of}
use Rattle.network.specs.Classes.{ordered_call}
use Rattle.network.specs.Engine.Stored.{net_of}
use Rattle.network.proofs.Laws.Filled.{Filled}
use Rattle.network.proofs.timetable.Timetable.due_before.Given as goal

-- What is known of the call at a place of the order
module _ (n : Net) (starts : List ℤ) (stop : ℕ) (from : ℤ) where
  abbrev pub line_at : ℕ → ℕ
  line_at j = (ordered_call n stop j).line

  abbrev pub period_at : ℕ → ℕ
  period_at j = period_of n (ordered_call n stop j)

  abbrev pub since_at : ℕ → ℕ
  since_at j = residue (from -ℤ pos 1 -ℤ arrival_of starts (ordered_call n stop j)) (period_of n (ordered_call n stop j))

abbrev pub invariant-loop-j : goal.invariant-loop-j
invariant-loop-j l = Filled (line_at (net_of l.self.network.now.rows) l.self.starts.now l.stop l.from) 32 l.lines l.j
    × Filled (period_at (net_of l.self.network.now.rows) l.self.starts.now l.stop l.from) 32 l.periods l.j
    × Filled (since_at (net_of l.self.network.now.rows) l.self.starts.now l.stop l.from) 32 l.since l.j
