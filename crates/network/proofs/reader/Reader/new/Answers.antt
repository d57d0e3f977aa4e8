-- `network::reader::Reader::new` meets its contract: no line calls anywhere yet, and the rows are zeros. Assumes nothing.
use mathlib.Core.Path.{refl}
use lib.ListN.{replicate}
use Rattle.network.proofs.Laws.Lists.{get_d_zeros}
use Rattle.network.proofs.Laws.Often.{often_none}
use Rattle.network.proofs.Laws.Latest.{latest_none}
use Rattle.network.proofs.reader.Reader.new.Goals as goal

pub invariant_of-result : goal.invariant_of-result
invariant_of-result c =
    let empty = c.new.ensures.1 in
    record {
      in_step = record {
        sound = c.new.ensures.0;
        often_row = refl;
        often_is = rw empty (often_none (replicate 1024 0) (λ place. get_d_zeros 1024 place));
        latest_row = refl;
        latest_is = rw empty (latest_none (replicate 16 0) (λ line. get_d_zeros 16 line));
      };
    }
