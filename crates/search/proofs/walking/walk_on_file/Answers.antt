-- `search::walking::walk_on_file` meets its contract: it ends with the file's refusal, then ground 16, then the walk, and writes the row only
-- where the walk has a best. Assumes nothing.
use Prim.Native.Nat.{ℕ}
use mathlib.Core.Path.{sym, ap, ◌∙◌}
use mathlib.Core.List.{List}
use native.Mathlib.Omega.{arith}
use lib.IntN.{ℤ}
use lib.ListN.{length}
use Rattle.std.proofs.lemmas.Result.{err_from_is_err_and}
use Rattle.network.specs.Network.{Net}
use Rattle.network.specs.Reading.{Reading, read_file}
use Rattle.network.proofs.Laws.Stored.{held_lines, bytes_of, reads_network, reads_refusal}
use Rattle.search.specs.declared.Rule as code
use Rattle.search.specs.Search.{walked, on_start_row, row_after_walk}
use Rattle.search.specs.Walk.{State}
use Rattle.search.specs.Engine.Representation.{rule_of, Ending, ended, refusal, ending_of}
use Rattle.search.proofs.Laws.Cuts.{some_is}
use Rattle.search.proofs.Laws.WalkOnFile.{made_of_walk, made_of_refusal, best_written, none_left_as_is}
use Rattle.search.proofs.walking.walk_on_file.Goals as goal

-- How a call ends, and what it leaves in the row, by what reading the file gives
module _ (row : List ℤ) (rule : code.Rule) (budget : ℕ) where
  abbrev walks : Net → State
  walks n = walked n (rule_of rule) budget

  abbrev ends : Reading → Ending
  ends read = on_start_row (λ (n : Net). ended (walks n)) refusal read (length row)

  abbrev leaves : Reading → List ℤ
  leaves read = on_start_row (λ (n : Net). row_after_walk (walks n) row) (λ (number place : ℕ). row) read (length row)

pub returns-in_err-network : goal.returns-in_err-network
unfolding ending_of on_start_row
returns-in_err-network c = let u = c.in_err-network.field-0.0.now in
    let refuses = reads_refusal c.in_err-network.ensures.value c.read_network-read.ensures.1 in
    let (_, is, gives) = err_from_is_err_and c.from_residual.result c.from_residual.ensures.1 in record {
      ended = rw (is, gives) (sym (ap (ends c.args.row.now c.args.rule c.args.budget) refuses));
      starts = sym (ap (leaves c.args.row.now c.args.rule c.args.budget) refuses);
      bytes = bytes_of c.args.file.now (λ i. (c.type_inv.file i).fits);
    }

pub returns-in_err-walk : goal.returns-in_err-walk
returns-in_err-walk c = let row = c.args.row.now in
    let reads = sym (reads_network c.in_ok-network.ensures.value c.read_network-read.ensures.1) in
    let here = c.in_err-walk.ensures.ended ∙ ap (ends row c.args.rule c.args.budget) reads in
    let (_, is, gives) = err_from_is_err_and c.from_residual-in_err-walk.result c.from_residual-in_err-walk.ensures.1 in record {
      ended = rw (is, gives) here;
      starts = made_of_refusal (λ (s : State). row_after_walk s row) (λ (number place : ℕ). row) (walks row c.args.rule c.args.budget) (read_file c.args.file.now) (length row) _ here;
      bytes = bytes_of c.args.file.now (λ i. (c.type_inv.file i).fits);
    }

pub write_starts-requires : goal.write_starts-requires
write_starts-requires c = let n = c.in_ok-network.network.now in
    omega (arith, c.in_ok-walk.ensures.fits, held_lines n.rows n.sound, n.sound.lines)

pub returns-then-is_some : goal.returns-then-is_some
returns-then-is_some c = let row = c.args.row.now in
    let w = c.in_ok-walk.walk in
    let reads = sym (reads_network c.in_ok-network.ensures.value c.read_network-read.ensures.1) in
    let here = c.in_ok-walk.ensures.ended ∙ ap (ends row c.args.rule c.args.budget) reads in record {
      ended = here;
      starts = c.write_starts.ensures
          ∙ best_written (length row) w row (sym (some_is w.best) ∙ sym c.is_some.ensures ∙ c.if-is_some.true)
          ∙ made_of_walk (λ (s : State). row_after_walk s row) (λ (number place : ℕ). row) (walks row c.args.rule c.args.budget) (read_file c.args.file.now) (length row) w here;
      bytes = bytes_of c.args.file.now (λ i. (c.type_inv.file i).fits);
    }

pub returns-else-is_some : goal.returns-else-is_some
returns-else-is_some c = let row = c.args.row.now in
    let w = c.in_ok-walk.walk in
    let reads = sym (reads_network c.in_ok-network.ensures.value c.read_network-read.ensures.1) in
    let here = c.in_ok-walk.ensures.ended ∙ ap (ends row c.args.rule c.args.budget) reads in record {
      ended = here;
      starts = none_left_as_is (length row) w row (sym (some_is w.best) ∙ sym c.is_some.ensures ∙ c.if-is_some.false)
          ∙ made_of_walk (λ (s : State). row_after_walk s row) (λ (number place : ℕ). row) (walks row c.args.rule c.args.budget) (read_file c.args.file.now) (length row) w here;
      bytes = bytes_of c.args.file.now (λ i. (c.type_inv.file i).fits);
    }
