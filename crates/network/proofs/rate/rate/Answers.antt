-- `network::rate::rate` meets its contract: it answers the file's refusal, or what rate answers on the network that was read. Assumes nothing.
use mathlib.Core.Path.{sym, ap, ◌∙◌}
use Rattle.std.proofs.lemmas.Result.{err_from_is_err_and}
use Rattle.network.specs.Reading.{Reading}
use Rattle.network.specs.Rate.{rate_outcome}
use Rattle.network.proofs.Laws.Refusals.{rate_refused}
use Rattle.network.proofs.Laws.Stored.{bytes_of, reads_network, reads_refusal}
use Rattle.network.proofs.rate.rate.Goals as goal

pub returns-in_err-network : goal.returns-in_err-network
returns-in_err-network c =
    let p = err_from_is_err_and c.from_residual.result c.from_residual.ensures.1 in
    let refuses = reads_refusal c.in_err-network.ensures.value c.read_network-read.ensures.1 in record {
      answer = rw (p.1, p.2) (rate_refused c.args.file.now c.args.sheet.now _ refuses);
      bytes = bytes_of c.args.file.now (λ i. (c.type_inv.file i).fits);
    }

pub returns : goal.returns
returns c = record {
  answer = c.rate_network.ensures
      ∙ ap (λ (k : Reading). rate_outcome k c.args.sheet.now) (sym (reads_network c.in_ok-network.ensures.value c.read_network-read.ensures.1));
  bytes = bytes_of c.args.file.now (λ i. (c.type_inv.file i).fits);
}
