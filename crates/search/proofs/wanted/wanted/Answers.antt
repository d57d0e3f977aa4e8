-- `search::wanted::wanted` meets its contract: the walk on the file by request A.3's rule, and what is made of its ending. Assumes nothing.
use mathlib.Core.Path.{◌∙◌}
use lib.ListN.{length}
use Rattle.std.proofs.lemmas.Result.{err_from_is_err_and}
use Rattle.network.specs.Network.{Net}
use Rattle.network.specs.Reading.{read_file}
use Rattle.search.specs.Engine.Representation.{rule_of}
use Rattle.search.specs.Search.{walked}
use Rattle.search.specs.Wanted.{at_least, refusal, wanted_answer, reached_of, wanted_outcome, wanted_row_after}
use Rattle.search.proofs.Laws.WalkOnFile.{made_of_walk, made_of_refusal}
use Rattle.search.proofs.wanted.wanted.Goals as goal

pub returns-in_err-walk : goal.returns-in_err-walk
unfolding wanted_answer wanted_outcome wanted_row_after rule_of
returns-in_err-walk c = let w = c.walk_on_file in
    let (_, is, gives) = err_from_is_err_and c.from_residual.result c.from_residual.ensures.1 in record {
      answer = rw (is, gives)
          (made_of_refusal reached_of refusal (λ (n : Net). walked n (at_least c.args.gap) c.args.budget) (read_file c.args.file.now) (length c.args.row.now) _ c.in_err-walk.ensures.ended);
      starts = w.ensures.starts;
      bytes = w.ensures.bytes;
    }

pub returns : goal.returns
unfolding wanted_outcome wanted_row_after rule_of
returns c = let w = c.walk_on_file in record {
  answer = c.reached.ensures (length c.args.row.now)
      ∙ made_of_walk reached_of refusal (λ (n : Net). walked n (at_least c.args.gap) c.args.budget) (read_file c.args.file.now) (length c.args.row.now) _ c.in_ok-walk.ensures.ended;
  starts = w.ensures.starts;
  bytes = w.ensures.bytes;
}
