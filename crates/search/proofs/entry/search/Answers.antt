-- `search::entry::search` meets its contract: the walk on the file by document 01's rule, and what is made of its ending. Assumes nothing.
use mathlib.Core.Path.{◌∙◌}
use lib.ListN.{length}
use Rattle.std.proofs.lemmas.Result.{err_from_is_err_and}
use Rattle.network.specs.Network.{Net}
use Rattle.network.specs.Reading.{read_file}
use Rattle.search.specs.Engine.Representation.{rule_of}
use Rattle.search.specs.Search.{above_best, walked, refusal, search_answer, outcome_of, search_outcome, start_row_after}
use Rattle.search.proofs.Laws.WalkOnFile.{made_of_walk, made_of_refusal}
use Rattle.search.proofs.entry.search.Goals as goal

pub returns-in_err-walk : goal.returns-in_err-walk
unfolding search_answer search_outcome start_row_after rule_of
returns-in_err-walk c = let w = c.walk_on_file in
    let (_, is, gives) = err_from_is_err_and c.from_residual.result c.from_residual.ensures.1 in record {
      answer = rw (is, gives)
          (made_of_refusal outcome_of refusal (λ (n : Net). walked n above_best c.args.budget) (read_file c.args.file.now) (length c.args.row.now) _ c.in_err-walk.ensures.ended);
      starts = w.ensures.starts;
      bytes = w.ensures.bytes;
    }

pub returns : goal.returns
unfolding search_outcome start_row_after rule_of
returns c = let w = c.walk_on_file in record {
  answer = c.outcome.ensures (length c.args.row.now)
      ∙ made_of_walk outcome_of refusal (λ (n : Net). walked n above_best c.args.budget) (read_file c.args.file.now) (length c.args.row.now) _ c.in_ok-walk.ensures.ended;
  starts = w.ensures.starts;
  bytes = w.ensures.bytes;
}
