-- `network::reader::read_network` meets its contract. The loop's invariant is `ReaderTurn`: what the reader keeps fits together, and reading comes to
-- the part that is left with this network. Assumes nothing.
use lib.ListN.{length}
use Rattle.network.proofs.Laws.ReaderRows.{ReaderTurn}
use Rattle.network.proofs.reader.read_network.Given as goal

abbrev pub invariant-loop-rest : goal.invariant-loop-rest
invariant-loop-rest l = ReaderTurn l.file l.reader.rows l.reader.often l.reader.latest l.rest

abbrev pub decreases-loop-rest : goal.decreases-loop-rest
decreases-loop-rest l = length l.rest
