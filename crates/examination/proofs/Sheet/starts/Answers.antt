-- `examination::Sheet::starts` meets its contract: the part of the row is what is held. Assumes nothing.
use mathlib.Core.Path.{refl}
use Rattle.examination.specs.Engine.Taken.{held}
use Rattle.examination.proofs.Sheet.starts.Goals as goal

pub returns : goal.returns
unfolding held
returns c = refl
