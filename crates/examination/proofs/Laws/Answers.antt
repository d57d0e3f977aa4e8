-- What each answer of mark, of the call by a key and of the choice between two sheets tells, by the definition. Assumes nothing.
use Prim.Native.Nat.{ℕ}
use mathlib.Core.Path.{◌≡◌, refl}
use mathlib.Core.Bool.{Bool}
use mathlib.Core.List.{[], ◌∷◌}
use Rattle.std.specs.Prelude.{Ok, Err}
use Rattle.network.specs.declared.Rating.{Rating}
use Rattle.network.specs.declared.grounds.Refusal.{Refusal}
use Rattle.network.specs.Numbers.{number_of}
use Rattle.network.specs.Reading.{values, refusal}
use Rattle.examination.specs.declared.Choice.TheVariants as choice
use Rattle.examination.specs.declared.OutOfHundred.{OutOfHundred}
use Rattle.examination.specs.declared.MarkAnswer.TheVariants as mark-answer
use Rattle.examination.specs.ByKey.{key_answer}
use Rattle.examination.specs.Sheets.{first, second, neither, choice_of, decided, undecided, mark_answer}
use Rattle.examination.specs.Sheets as sheets

-- ---- Better-of-two's choice

pub choice_of_first : choice_of choice.First ≡ first
unfolding choice_of
choice_of_first = refl

pub choice_of_second : choice_of choice.Second ≡ second
unfolding choice_of
choice_of_second = refl

pub choice_of_neither : choice_of choice.Neither ≡ neither
unfolding choice_of
choice_of_neither = refl

-- ---- Mark

pub mark_answer_decided : (sheet best : Rating) (equal : Bool) (hundred : OutOfHundred) (tries : ℕ)
    → mark_answer (Ok (mark-answer.Decided sheet best equal hundred tries))
    ≡ decided sheet.least sheet.sum best.least best.sum equal hundred.mark hundred.remainder tries
unfolding mark_answer
mark_answer_decided sheet best equal hundred tries = refl

pub mark_answer_undecided : (sheet : Rating) (tries : ℕ) → mark_answer (Ok (mark-answer.Undecided sheet tries)) ≡ undecided sheet.least sheet.sum tries
unfolding mark_answer
mark_answer_undecided sheet tries = refl

pub mark_answer_refused : (r : Refusal) → mark_answer (Err r) ≡ sheets.refusal (number_of r.reason) r.place
unfolding mark_answer
mark_answer_refused r = refl

-- ---- By a key

pub key_answer_marked : (h : OutOfHundred) → key_answer (Ok h) ≡ values (h.mark ∷ h.remainder ∷ [])
unfolding key_answer
key_answer_marked h = refl

pub key_answer_refused : (r : Refusal) → key_answer (Err r) ≡ refusal (number_of r.reason) r.place
unfolding key_answer
key_answer_refused r = refl
