-- `network::reader::Reader::add_call` meets its contract: the call is written behind those that count, and the two rows beside the network go on with
-- it. Assumes nothing.
use Rattle.network.proofs.Laws.Stored.{call_added_lem}
use Rattle.network.proofs.Laws.ReaderRows.{rows_with_call}
use Rattle.network.proofs.reader.Reader.add_call.Goals as goal

pub invariant_of-self : goal.invariant_of-self
invariant_of-self c =
    let r = c.args.self.now in
    record {
      in_step = rows_with_call r.rows r.often r.latest r.in_step c.packed.result c.args.call c.packed.ensures.0 c.packed.ensures.1 c.requires.room.0 c.requires.within.0 c.requires.within.1;
    }

pub returns : goal.returns
returns c =
    let r = c.args.self.now in
    call_added_lem r.rows r.in_step.sound c.packed.result c.requires.room.0 c.args.call c.packed.ensures.1
