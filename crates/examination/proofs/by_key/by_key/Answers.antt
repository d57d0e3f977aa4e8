-- `examination::by_key::by_key` meets its contract: it refuses as rate does on the sheet, then on the key, and otherwise divides the two least
-- gaps. Assumes nothing.
use mathlib.Core.Path.{sym, ap, ap₂, ◌∙◌}
use mathlib.Core.List.{[], ◌∷◌}
use Prim.Native.Nat.{ℕ}
use Rattle.std.proofs.lemmas.Result.{err_from_is_err_and}
use Rattle.network.specs.Rate.{rate_answer}
use Rattle.network.specs.Reading.{read_file, values}
use Rattle.examination.specs.ByKey.{key_answer}
use Rattle.examination.proofs.Laws.Chosen.{RatedOn, rated_on, rated_least, key_sheet_refused, key_refused, key_rated}
use Rattle.examination.proofs.by_key.by_key.Goals as goal
use Rattle.examination.proofs.by_key.by_key.Goals.{In_ok-rating, In_ok-best}

-- A sheet that is rated fits the file's network
sheet_rated : (c : In_ok-rating)
    → RatedOn (read_file c.args.file.now) c.args.sheet.now c.in_ok-rating.rating.least c.in_ok-rating.rating.sum
unfolding rate_answer
sheet_rated c = rated_on _ _ (sym (ap rate_answer c.in_ok-rating.was) ∙ c.rate_both-both.ensures.first)

-- .. and so does the key
key_is_rated : (c : In_ok-best)
    → RatedOn (read_file c.args.file.now) c.args.key.now c.in_ok-best.best.least c.in_ok-best.best.sum
unfolding rate_answer
key_is_rated c = rated_on _ _ (sym (ap rate_answer c.in_ok-best.was) ∙ c.rate_both-both.ensures.second)

pub out_of_hundred-requires : goal.out_of_hundred-requires
out_of_hundred-requires c = rated_least c.args.file.now c.rate_both-both.ensures.bytes (sheet_rated (goal.at.out_of_hundred-requires c).In_ok-rating)

pub returns-in_err-rating : goal.returns-in_err-rating
unfolding key_answer rate_answer
returns-in_err-rating c =
    let both = c.rate_both-both in
    let (_, is, gives) = err_from_is_err_and c.from_residual.result c.from_residual.ensures.1 in
    record {
      answer = rw (is, gives) (key_sheet_refused (read_file c.args.file.now) c.args.sheet.now c.args.key.now (sym (ap rate_answer c.in_err-rating.was) ∙ both.ensures.first));
      bytes = both.ensures.bytes;
    }

pub returns-in_err-best : goal.returns-in_err-best
unfolding key_answer rate_answer
returns-in_err-best c =
    let both = c.rate_both-both in
    let (_, is, gives) = err_from_is_err_and c.from_residual-in_err-best.result c.from_residual-in_err-best.ensures.1 in
    record {
      answer = rw (is, gives)
          (key_refused (read_file c.args.file.now) c.args.sheet.now c.args.key.now (sheet_rated (goal.at.returns-in_err-best c).In_ok-rating)
          (sym (ap rate_answer c.in_err-best.was) ∙ both.ensures.second));
      bytes = both.ensures.bytes;
    }

pub returns : goal.returns
unfolding key_answer
returns c = record {
  answer = ap₂ (λ (mark remainder : ℕ). values (mark ∷ remainder ∷ [])) c.out_of_hundred.ensures.mark c.out_of_hundred.ensures.remainder
      ∙ key_rated (read_file c.args.file.now) c.args.sheet.now c.args.key.now (sheet_rated (goal.at.returns c).In_ok-rating) (key_is_rated (goal.at.returns c).In_ok-best);
  bytes = c.rate_both-both.ensures.bytes;
}
