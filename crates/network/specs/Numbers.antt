-- Document 01, "Grounds for refusing", and document 02, A.2 to A.7: the number of each ground, by the name that the code gives it.
use Rattle.std.specs.Prelude.{ℕ}
use Rattle.network.specs.declared.grounds.Refusal.{Refusal}
use Rattle.network.specs.declared.grounds.Ground.{Ground}
use Rattle.network.specs.declared.grounds.Ground.TheVariants.{
  NoCommand,
  UnknownCommand,
  CutOff,
  TooManyLines,
  PeriodOutOfRange,
  CycleTooLong,
  LineNotStated,
  StopTooHigh,
  CallsTooOften,
  TooManyCalls,
  NoEarlierCall,
  OffsetTooLarge,
  LineWithoutCall,
  BytesBehindEnd,
  SheetLength,
  StartRowLength,
  ClassRowLength,
  ArchiveRowTooShort,
  RideInEdition,
  EditionNotFirst,
  EditionUnknown,
  BoardTooLong,
  BoardRowTooShort,
}

unfoldable pub number_of : Ground → ℕ
number_of NoCommand = 1
number_of UnknownCommand = 2
number_of CutOff = 3
number_of TooManyLines = 4
number_of PeriodOutOfRange = 5
number_of CycleTooLong = 6
number_of LineNotStated = 7
number_of StopTooHigh = 8
number_of CallsTooOften = 9
number_of TooManyCalls = 10
number_of NoEarlierCall = 11
number_of OffsetTooLarge = 12
number_of LineWithoutCall = 13
number_of BytesBehindEnd = 14
number_of SheetLength = 15
number_of StartRowLength = 16
number_of ClassRowLength = 17
number_of ArchiveRowTooShort = 18
number_of RideInEdition = 19
number_of EditionNotFirst = 20
number_of EditionUnknown = 21
number_of BoardTooLong = 22
number_of BoardRowTooShort = 23

-- The refusal by a ground at a place
abbrev pub by_ground : Ground → ℕ → Refusal
by_ground g p = record { reason = g; place = p }
