-- `best::run` meets the contract of `find`: the lines that the read call answers are at most 16. Assumes nothing.
use Rattle.network.specs.Reading.{read_answer}
use Rattle.network.proofs.Laws.Valid.{answered_lines}
use Rattle.best.proofs.run.Goals as goal

pub find-requires : goal.find-requires
unfolding read_answer
find-requires g c = answered_lines c.args.file.now c.in-Ok.ensures.bytes _ _ c.in-Ok.ensures.answer
