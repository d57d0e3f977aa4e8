-- `network::timetable::Timetable::list` meets its contract: what is counted is the board's length, and where both rows have room for it, each minute's arrivals are
-- written behind those before. The loop's invariant: so many minutes are listed. Assumes nothing.
use Rattle.network.specs.Engine.Stored.{net_of}
use Rattle.network.proofs.Laws.Listed.{Listed}
use Rattle.network.proofs.timetable.Timetable.list.Given as goal

abbrev pub invariant-loop-minute : goal.invariant-loop-minute
invariant-loop-minute l = Listed (net_of l.self.network.now.rows) l.self.starts.now l.stop l.from l.due.count l.due.lines l.due.periods l.due.since l.initial.time_row l.initial.line_row l.time_row l.line_row l.at l.minute
