-- `network::grounds::Ground::number` meets its contract: the code's number of each ground is the papers'. Assumes nothing.
use Prim.Native.Nat.{◌+◌}
use mathlib.Core.Path.{◌≡◌, refl}
use denote.Enum.Declared.{tag_of}
use Rattle.network.specs.contracts.grounds.Ground.{the_type}
use Rattle.network.specs.declared.grounds.Ground.{Ground}
use Rattle.network.specs.declared.grounds.Ground.TheVariants.{
  NoCommand,
  UnknownCommand,
  CutOff,
  TooManyLines,
  PeriodOutOfRange,
  CycleTooLong,
  LineNotStated,
  StopTooHigh,
  CallsTooOften,
  TooManyCalls,
  NoEarlierCall,
  OffsetTooLarge,
  LineWithoutCall,
  BytesBehindEnd,
  SheetLength,
  StartRowLength,
  ClassRowLength,
  ArchiveRowTooShort,
  RideInEdition,
  EditionNotFirst,
  EditionUnknown,
  BoardTooLong,
  BoardRowTooShort,
}
use Rattle.network.specs.Numbers.{number_of}
use Rattle.network.proofs.grounds.Ground.number.Goals as goal

-- Each ground's place among the grounds is one less than its number
numbered : (g : Ground) → tag_of the_type g + 1 ≡ number_of g
unfolding number_of
numbered NoCommand = refl
numbered UnknownCommand = refl
numbered CutOff = refl
numbered TooManyLines = refl
numbered PeriodOutOfRange = refl
numbered CycleTooLong = refl
numbered LineNotStated = refl
numbered StopTooHigh = refl
numbered CallsTooOften = refl
numbered TooManyCalls = refl
numbered NoEarlierCall = refl
numbered OffsetTooLarge = refl
numbered LineWithoutCall = refl
numbered BytesBehindEnd = refl
numbered SheetLength = refl
numbered StartRowLength = refl
numbered ClassRowLength = refl
numbered ArchiveRowTooShort = refl
numbered RideInEdition = refl
numbered EditionNotFirst = refl
numbered EditionUnknown = refl
numbered BoardTooLong = refl
numbered BoardRowTooShort = refl

pub returns : goal.returns
returns c = numbered c.args.self
