-- `network::rate::rate_both` meets its contract: for each sheet it answers the file's refusal, or what rate answers on the network that was
-- read. Assumes nothing.
use mathlib.Core.Path.{sym, ap, ◌∙◌}
use Rattle.network.specs.Reading.{Reading}
use Rattle.network.specs.Rate.{rate_outcome}
use Rattle.network.proofs.Laws.Refusals.{rate_refused}
use Rattle.network.proofs.Laws.Stored.{bytes_of, reading_of_network, reading_of_refused}
use Rattle.network.proofs.rate.rate_both.Goals as goal

pub returns-in-Err : goal.returns-in-Err
returns-in-Err c = let u = c.in-Err.field-0 in
    let refuses = sym c.in-Err.ensures.1 ∙ reading_of_refused u in record {
      first = rate_refused c.args.file.now c.args.first.now u.refusal refuses;
      second = rate_refused c.args.file.now c.args.second.now u.refusal refuses;
      bytes = bytes_of c.args.file.now (λ i. (c.type_inv.file i).fits);
    }

pub returns-in-Ok : goal.returns-in-Ok
returns-in-Ok c = let reads = sym (reading_of_network c.in-Ok.network) ∙ c.in-Ok.ensures.1 in record {
  first = c.rate_network.ensures ∙ ap (λ (k : Reading). rate_outcome k c.args.first.now) reads;
  second = c.rate_network-in-Ok.ensures ∙ ap (λ (k : Reading). rate_outcome k c.args.second.now) reads;
  bytes = bytes_of c.args.file.now (λ i. (c.type_inv.file i).fits);
}
