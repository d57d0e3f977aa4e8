-- What a `?` hands on: the callee's refusal, or that of what is unread. Assumes nothing.
use mathlib.Core.Path.{◌≡◌, ap, ◌∙◌}
use Rattle.std.specs.Prelude.{Result, Err, IsErrAnd}
use Rattle.std.proofs.lemmas.Result.{err_from_is_err_and}

pub error_is : {A E : Type 0} {x : E} (r : Result A E) → IsErrAnd r (λ (y : E). y ≡ x) → r ≡ Err x
error_is r h = let (y, is, e) = err_from_is_err_and r h in is ∙ ap (λ (z : _). Err z) e
