-- `examination::better::choose` meets its contract: it goes by the ratings that rate answers of the two sheets. Assumes nothing.
use mathlib.Core.Path.{◌≡◌, refl, sym, ap, ap₂, ◌∙◌}
use mathlib.Core.Bool.{Bool}
use Rattle.std.specs.Prelude.{Option, Some, None, is_some}
use Rattle.network.specs.declared.Rating.{Rating}
use Rattle.network.specs.Lists.{pick}
use Rattle.network.specs.Reading.{read_file}
use Rattle.network.specs.Engine.Rated.{ranked}
use Rattle.examination.specs.Engine.Chosen.{better_from}
use Rattle.examination.specs.Sheets.{first, second, neither, choice_of, better_of}
use Rattle.examination.proofs.Laws.Chosen.{rating_on_of_rate, better_of_from}
use Rattle.examination.proofs.better.choose.Goals as goal
use Rattle.examination.proofs.better.choose.Goals.{After-is_above}

-- A rating that is there is one
some_is : (r : Option Rating) → is_some r ≡ (ranked r).some
some_is (Some r) = refl
some_is None = refl

-- The better of the two by the ratings at hand
by_ratings : (c : After-is_above)
    → better_of (read_file c.args.file.now) c.args.first.now c.args.second.now
    ≡ pick c.is_above.result second (pick (is_some c.ok-one.result) first neither)
unfolding better_from
by_ratings c =
    let both = c.rate_both-both in
    let read = read_file c.args.file.now in
    let one = ap ranked c.ok-one.ensures.value ∙ rating_on_of_rate read c.args.first.now _ both.ensures.first in
    let other = ap ranked c.ok-other.ensures.value ∙ rating_on_of_rate read c.args.second.now _ both.ensures.second in
    better_of_from read c.args.first.now c.args.second.now
    ∙ ap₂ better_from (sym one) (sym other)
    ∙ ap₂ (λ (b d : Bool). pick b second (pick d first neither)) (sym c.is_above.ensures) (sym (some_is c.ok-one.result))

pub returns-then-is_above : goal.returns-then-is_above
unfolding choice_of
returns-then-is_above c = record {
  choice = sym
      (by_ratings (goal.at.returns-then-is_above c).After-is_above
      ∙ ap (λ (b : Bool). pick b second (pick (is_some c.ok-one.result) first neither)) c.if-is_above.true);
  bytes = c.rate_both-both.ensures.bytes;
}

pub returns-then-is_some : goal.returns-then-is_some
unfolding choice_of
returns-then-is_some c = record {
  choice = sym
      (by_ratings (goal.at.returns-then-is_some c).After-is_above
      ∙ ap₂ (λ (b d : Bool). pick b second (pick d first neither)) c.if-is_above.false (sym c.is_some.ensures ∙ c.if-is_some.true));
  bytes = c.rate_both-both.ensures.bytes;
}

pub returns-else-is_some : goal.returns-else-is_some
unfolding choice_of
returns-else-is_some c = record {
  choice = sym
      (by_ratings (goal.at.returns-else-is_some c).After-is_above
      ∙ ap₂ (λ (b d : Bool). pick b second (pick d first neither)) c.if-is_above.false (sym c.is_some.ensures ∙ c.if-is_some.false));
  bytes = c.rate_both-both.ensures.bytes;
}
