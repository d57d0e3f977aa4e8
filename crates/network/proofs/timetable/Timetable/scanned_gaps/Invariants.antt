-- `network::timetable::Timetable::scanned_gaps` meets its contract. The loop's invariant: the rows are those after the calls passed. Assumes nothing.
use Rattle.network.specs.Engine.Stored.{net_of, calls_in}
use Rattle.network.proofs.Laws.Scan.{Scanned}
use Rattle.network.proofs.timetable.Timetable.scanned_gaps.Given as goal

abbrev pub invariant-loop-i : goal.invariant-loop-i
invariant-loop-i l =
    Scanned (net_of l.self.network.now.rows) l.self.starts.now (calls_in l.self.network.now.rows.list) l.counts l.gaps l.last l.previous l.i
