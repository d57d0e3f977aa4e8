-- `network::Rating::with_stop` meets its contract: the lesser of two gaps, or the first. Assumes nothing.
use Prim.Native.Nat.{ℕ, ◌+◌, ◌*◌}
use mathlib.Core.Path.{◌≡◌, sym, ap, ◌∙◌}
use mathlib.Core.Bool.{true}
use native.Mathlib.Omega.{arith}
use Rattle.std.proofs.Common.{Option}
use Rattle.network.specs.declared.Rating as held
use Rattle.network.specs.Engine.Scan.{with_stop}
use Rattle.network.specs.Engine.Rated.{ranked}
use Rattle.network.proofs.Rating.with_stop.Goals as goal

pub overflow_add-result : goal.overflow_add-result
overflow_add-result c = let e : (ranked c.args.before).sum ≡ c.in-Some.rating.sum = ap (λ (o : Option held.Rating). (ranked o).sum) c.in-Some.is in
    record { fits = omega arith }

pub returns-in-None : goal.returns-in-None
unfolding with_stop
returns-in-None c = ap (λ (s : ℕ). record { some = true; least = c.args.gap; sum = s }) (let e : c.args.weight * c.args.gap ≡ 0 + c.args.weight * c.args.gap = omega arith in e)
    ∙ sym (ap (λ (o : Option held.Rating). with_stop (ranked o) c.args.gap c.args.weight) c.in-None.is)

pub returns-in-Some : goal.returns-in-Some
unfolding with_stop
returns-in-Some c = ap (λ (l : ℕ). record { some = true; least = l; sum = c.in-Some.rating.sum + c.args.weight * c.args.gap }) c.min.ensures
    ∙ sym (ap (λ (o : Option held.Rating). with_stop (ranked o) c.args.gap c.args.weight) c.in-Some.is)
