-- `search::entry::rate_and_search` meets its contract: both calls answer the file's refusal, or what rate and search answer on the network that was
-- read. Assumes nothing.
use mathlib.Core.Path.{sym, ap, ◌∙◌}
use lib.ListN.{length}
use Rattle.network.specs.Rate.{rate_outcome}
use Rattle.network.specs.Reading.{Reading}
use Rattle.network.proofs.Laws.Gaps.{rate_refused}
use Rattle.network.proofs.Laws.Stored.{bytes_of, reading_of_network, reading_of_refused}
use Rattle.search.specs.Search.{on_start_row, search_answer, search_outcome}
use Rattle.search.proofs.entry.rate_and_search.Goals as goal

pub returns-in-Err : goal.returns-in-Err
unfolding search_answer search_outcome on_start_row
returns-in-Err c = let u = c.in-Err.field-0 in
    let refuses = sym c.in-Err.ensures.1 ∙ reading_of_refused u in record {
      rated = rate_refused c.args.file.now c.args.sheet.now u.refusal refuses;
      found = sym (ap (λ (k : Reading). search_outcome k (length c.args.sheet.now) c.args.budget) refuses);
      bytes = bytes_of c.args.file.now (λ i. (c.type_inv.file i).fits);
    }

pub returns-in-Ok : goal.returns-in-Ok
returns-in-Ok c = let reads = sym (reading_of_network c.in-Ok.network) ∙ c.in-Ok.ensures.1 in record {
  rated = c.rate_network.ensures ∙ ap (λ (k : Reading). rate_outcome k c.args.sheet.now) reads;
  found = c.search_held.ensures ∙ ap (λ (k : Reading). search_outcome k (length c.args.sheet.now) c.args.budget) reads;
  bytes = bytes_of c.args.file.now (λ i. (c.type_inv.file i).fits);
}
