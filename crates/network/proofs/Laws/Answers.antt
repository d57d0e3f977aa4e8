-- What each answer of the calls tells, by the definitions: its values in the paper's order, or number and place of the refusal; and each ground's number.
-- Assumes nothing.
use Prim.Native.Nat.{ℕ}
use mathlib.Core.Path.{◌≡◌, refl}
use mathlib.Core.List.{[], ◌∷◌}
use Rattle.std.specs.Prelude.{Ok, Err}
use Rattle.network.specs.declared.Accepted.{Accepted}
use Rattle.network.specs.declared.Rating.{Rating}
use Rattle.network.specs.declared.grounds.Refusal.{Refusal}
use Rattle.network.specs.declared.grounds.Ground.TheVariants.{
  NoCommand,
  UnknownCommand,
  CutOff,
  TooManyLines,
  PeriodOutOfRange,
  CycleTooLong,
  LineNotStated,
  StopTooHigh,
  CallsTooOften,
  TooManyCalls,
  NoEarlierCall,
  OffsetTooLarge,
  LineWithoutCall,
  BytesBehindEnd,
  SheetLength,
  StartRowLength,
  ClassRowLength,
  ArchiveRowTooShort,
  RideInEdition,
  EditionNotFirst,
  EditionUnknown,
  BoardTooLong,
  BoardRowTooShort,
}
use Rattle.network.specs.Numbers.{number_of}
use Rattle.network.specs.Reading.{values, refusal, read_answer}
use Rattle.network.specs.Rate.{rate_answer}
use Rattle.network.specs.ClassCall.{class_answer}
use Rattle.network.specs.Archive.{archive_answer}
use Rattle.network.specs.Board.{board_answer}

pub read_answer_accepted : (a : Accepted) → read_answer (Ok a) ≡ values (a.lines ∷ a.stops ∷ a.calls ∷ a.cycle ∷ [])
unfolding read_answer
read_answer_accepted a = refl

-- Rate, the weighted rating and the gaps call
pub rate_answer_rated : (r : Rating) → rate_answer (Ok r) ≡ values (r.least ∷ r.sum ∷ [])
unfolding rate_answer
rate_answer_rated r = refl

pub class_answer_classes : (count : ℕ) → class_answer (Ok count) ≡ values (count ∷ [])
unfolding class_answer
class_answer_classes count = refl

pub archive_answer_archived : (bytes : ℕ) → archive_answer (Ok bytes) ≡ values (bytes ∷ [])
unfolding archive_answer
archive_answer_archived bytes = refl

pub board_answer_listed : (count : ℕ) → board_answer (Ok count) ≡ values (count ∷ [])
unfolding board_answer
board_answer_listed count = refl

module _ (r : Refusal) where
  pub read_answer_refused : read_answer (Err r) ≡ refusal (number_of r.reason) r.place
  unfolding read_answer
  read_answer_refused = refl

  pub rate_answer_refused : rate_answer (Err r) ≡ refusal (number_of r.reason) r.place
  unfolding rate_answer
  rate_answer_refused = refl

  pub class_answer_refused : class_answer (Err r) ≡ refusal (number_of r.reason) r.place
  unfolding class_answer
  class_answer_refused = refl

  pub archive_answer_refused : archive_answer (Err r) ≡ refusal (number_of r.reason) r.place
  unfolding archive_answer
  archive_answer_refused = refl

  pub board_answer_refused : board_answer (Err r) ≡ refusal (number_of r.reason) r.place
  unfolding board_answer
  board_answer_refused = refl

-- The grounds' numbers, 1 to 23
pub ground_numbers :
    (number_of NoCommand ≡ 1)
    × (number_of UnknownCommand ≡ 2)
    × (number_of CutOff ≡ 3)
    × (number_of TooManyLines ≡ 4)
    × (number_of PeriodOutOfRange ≡ 5)
    × (number_of CycleTooLong ≡ 6)
    × (number_of LineNotStated ≡ 7)
    × (number_of StopTooHigh ≡ 8)
    × (number_of CallsTooOften ≡ 9)
    × (number_of TooManyCalls ≡ 10)
    × (number_of NoEarlierCall ≡ 11)
    × (number_of OffsetTooLarge ≡ 12)
    × (number_of LineWithoutCall ≡ 13)
    × (number_of BytesBehindEnd ≡ 14)
    × (number_of SheetLength ≡ 15)
    × (number_of StartRowLength ≡ 16)
    × (number_of ClassRowLength ≡ 17)
    × (number_of ArchiveRowTooShort ≡ 18)
    × (number_of RideInEdition ≡ 19)
    × (number_of EditionNotFirst ≡ 20)
    × (number_of EditionUnknown ≡ 21)
    × (number_of BoardTooLong ≡ 22)
    × (number_of BoardRowTooShort ≡ 23)
unfolding number_of
ground_numbers = (refl, refl, refl, refl, refl, refl, refl, refl, refl, refl, refl, refl, refl, refl, refl, refl, refl, refl, refl, refl, refl, refl, refl)
