-- How the engine holds a rating: its two numbers, and none as no value.
use Rattle.std.specs.Prelude.{true, Option, Some, None}
use Rattle.network.specs.declared.Rating.{Rating}
use Rattle.network.specs.Rating as spec

-- The rating that is held
abbrev pub rated : Rating → spec.Rating
rated r = record { some = true; least = r.least; sum = r.sum }

-- A rating, or none
abbrev pub ranked : Option Rating → spec.Rating
ranked None = spec.no_rating
ranked (Some r) = rated r
