-- Marks out of a hundred by a key: a call of our own and not document 02's (docs/DECISIONS.md), so that one search serves many sheets. The least gap
-- of a sheet that is lent beside, the key, stands for the best one. (A key is a reference solution. The order's key is the engine's own answer, the
-- starts of a finished search; here any sheet may be one, and beside one that isn't the best a mark may be above 100.)
use Rattle.std.specs.Prelude.{◌&&◌, List, [], ◌∷◌, ◌⊎◌, ℤ, Result, Ok, Err}
use Rattle.network.specs.declared.grounds.Refusal.{Refusal}
use Rattle.network.specs.Lists.{pick}
use Rattle.network.specs.Network.{Net}
use Rattle.network.specs.Numbers.{number_of}
use Rattle.network.specs.Rating.{rating}
use Rattle.network.specs.Reading.{Reading, accepted, refused, Outcome, values, refusal}
use Rattle.network.specs.Refusals.{Unfit}
use Rattle.examination.specs.declared.OutOfHundred.{OutOfHundred}
use Rattle.examination.specs.Hundred.{mark_of, remainder_of}
use Rattle.examination.specs.Sheets.{fits}

-- The call's answer: the mark and its remainder; or the refusal
unfoldable pub key_answer : Result OutOfHundred Refusal → Outcome
key_answer (Ok h) = values (h.mark ∷ h.remainder ∷ [])
key_answer (Err r) = refusal (number_of r.reason) r.place

-- What it answers of a sheet and a key that both fit
unfoldable pub beside_key : Net → List ℤ → List ℤ → Outcome
beside_key n sheet key =
    values
    (mark_of (rating n sheet).least (rating n key).least ∷ remainder_of (rating n sheet).least (rating n key).least ∷ [])

-- What the call has to answer: the file's refusal, then 15 where the sheet or the key doesn't fit
unfoldable pub key_outcome : Reading → List ℤ → List ℤ → Outcome
key_outcome (refused number place) sheet key = refusal number place
key_outcome (accepted n) sheet key = pick (fits n sheet && fits n key) (beside_key n sheet key) (refusal 15 0)

-- 15: the sheet or the key hasn't one start for each line
abbrev pub EitherUnfit : List ℤ → List ℤ → Net → Type 0
EitherUnfit sheet key n = Unfit sheet n ⊎ Unfit key n
