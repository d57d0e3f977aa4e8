-- How the engine chooses between two sheets: by what rate answers of each, a refused sheet having no rating.
use Rattle.std.specs.Prelude.{List, ℤ}
use Rattle.network.specs.Rating.{Rating}
use Rattle.network.specs.Lists.{pick}
use Rattle.network.specs.Rating.{no_rating, rating, is_above}
use Rattle.network.specs.Reading.{Reading, accepted, refused}
use Rattle.examination.specs.Sheets.{Better, first, second, neither, fits}

-- The rating that rate answers, by the file and the sheet; none where it refuses
unfoldable pub rating_on : Reading → List ℤ → Rating
rating_on (refused number place) sheet = no_rating
rating_on (accepted n) sheet = pick (fits n sheet) (rating n sheet) no_rating

-- The better of two by their ratings
unfoldable pub better_from : Rating → Rating → Better
better_from one other = pick (is_above other one) second (pick one.some first neither)
