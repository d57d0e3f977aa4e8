-- `network::reader::Reader::set_edition` meets its contract: nothing that the reader keeps goes by the edition. Assumes nothing.
use Rattle.network.proofs.Laws.Stored.{edition_put_lem}
use Rattle.network.proofs.Laws.ReaderRows.{rows_with_edition}
use Rattle.network.proofs.reader.Reader.set_edition.Goals as goal

pub invariant_of-self : goal.invariant_of-self
invariant_of-self c = let r = c.args.self.now in record { in_step = rows_with_edition r.rows r.often r.latest r.in_step c.args.edition }

pub returns : goal.returns
returns c = edition_put_lem c.args.self.now.rows c.args.edition
