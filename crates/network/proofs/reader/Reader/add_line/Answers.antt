-- `network::reader::Reader::add_line` meets its contract: the line is written behind those that count, and what the reader keeps beside the network
-- doesn't go by lines. Assumes nothing.
use Rattle.network.proofs.Laws.Stored.{line_added_lem}
use Rattle.network.proofs.Laws.ReaderRows.{rows_with_line}
use Rattle.network.proofs.reader.Reader.add_line.Goals as goal

pub invariant_of-self : goal.invariant_of-self
invariant_of-self c =
    let r = c.args.self.now in
    let (room, pos, low, is) = c.requires in
    record { in_step = rows_with_line r.rows r.often r.latest r.in_step c.args.period c.args.cycle room pos low is }

pub returns : goal.returns
returns c = let r = c.args.self.now in line_added_lem r.rows r.in_step.sound c.args.period c.args.cycle c.requires.0
