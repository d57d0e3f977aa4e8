-- `search::entry::search_held` meets its contract: the walk by document 01's rule, and what is made of its ending. Assumes nothing.
use mathlib.Core.Path.{◌∙◌}
use Rattle.std.proofs.lemmas.Result.{err_from_is_err_and}
use Rattle.network.specs.Network.{Net}
use Rattle.network.specs.Reading.{accepted}
use Rattle.network.specs.Engine.Stored.{net_of}
use Rattle.search.specs.Engine.Representation.{rule_of}
use Rattle.search.specs.Search.{above_best, walked, refusal, search_answer, outcome_of, search_outcome}
use Rattle.search.proofs.Laws.WalkOnFile.{made_of_walk, made_of_refusal}
use Rattle.search.proofs.entry.search_held.Goals as goal

pub returns-in_err-walk : goal.returns-in_err-walk
unfolding search_answer search_outcome rule_of
returns-in_err-walk c =
    let (_, is, gives) = err_from_is_err_and c.from_residual.result c.from_residual.ensures.1 in
    rw (is, gives)
    (made_of_refusal outcome_of refusal (λ (n : Net). walked n above_best c.args.budget) (accepted (net_of c.args.network.now.rows)) c.args.places _
    c.in_err-walk.ensures.ended)

pub returns : goal.returns
unfolding search_outcome rule_of
returns c =
    c.outcome.ensures c.args.places
    ∙ made_of_walk outcome_of refusal (λ (n : Net). walked n above_best c.args.budget) (accepted (net_of c.args.network.now.rows)) c.args.places _
    c.in_ok-walk.ensures.ended
