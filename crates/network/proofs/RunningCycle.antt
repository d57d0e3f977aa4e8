-- What document 02, A.4, "Common cycle carried along", asks of the reader: the number that it keeps is at every place to which it comes the least
-- common multiple of all periods so far, by divisibility. First of the definitions, for every file, then of the number in the code, at every turn of
-- the reader's loop, whose invariant it is, and at every return, by the reader's contract. Assumes nothing.
use Rattle.std.specs.Prelude.{Ok, Err}
use Prim.Native.Nat.{ℕ, zero, suc, ◌+◌, ◌-◌, ◌≤◌}
use mathlib.Core.Path.{◌≡◌, refl, sym, ap, subst, subst₂, ◌∙◌}
use mathlib.Core.List.{List, [], ◌∷◌, ◌++◌}
use native.Mathlib.Omega.{arith}
use borrow.Fn.World.{ArgsD, ResD}
use borrow.Fn.Kinds.{ended_of}
use contract.Lifetimes.{Lfts}
use denote.Triple.Clauses.{AtExit}
use lib.ListN.{length, take, drop}
use Rattle.network.specs.Grounds.{Passes, Refused}
use Rattle.network.specs.declared.Network.{Network}
use Rattle.network.specs.declared.Rows.{Rows}
use Rattle.network.specs.declared.Unread.{Unread}
use Rattle.network.specs.Lists.{any, keep, all_below, count_below}
use Rattle.network.specs.Divisor.{gcd_within, gcd, lcm, cycle_from, common_cycle, IsLeastCommonMultiple}
use Rattle.network.specs.Network.{SoFar, Command, states_line, command, operand_bytes, word, cycle, max_cycle, extend, with_line, with_call, call_of}
use Rattle.network.specs.Network.{line_operand, stop_operand, stated_offset, is_served, how_often_at, calls_anywhere, served_stops}
use Rattle.network.specs.Grounds.{first, cut_off, period_out_of_range, some_line_silent, call_grounds, grounds}
use Rattle.network.specs.Reading.{proceed, read_from, read_file, refused, read_outcome, values}
use Rattle.network.specs.Gives.{Reached, next, Gives, refuses}
use Rattle.network.proofs.Laws.Divisor.{least_common_multiple_unique, one_divides}
use Rattle.network.proofs.Laws.Grounds.{line_not_end, line_refused_place}
use Rattle.network.proofs.Laws.Reading.{gives_what_is_read, reached_not_behind}
use Rattle.network.proofs.Laws.RunningCycle.{reached_cycle, periods_of_line, cycle_of_line, cycle_of_line_le, others_state_no_line}
use Rattle.network.proofs.Laws.Stored.{held_periods, same_rows_of_network, same_rows_of_unread}
use Rattle.network.proofs.Laws.ReaderRows.{ReaderTurn}
use Rattle.network.specs.contracts.reader.read_network as reader
use Rattle.network.proofs.reader.read_network.Kinds as reader_kinds
use Rattle.network.proofs.reader.read_network.Reads as reader_contract

-- ---- Of every file, at every place `p` to which reading comes, `f` being what has been read before it

-- "After each accepted `4C` it is the least common multiple of all periods so far"
pub running_cycle : {file : List ℕ} {f : SoFar} {p : ℕ} {rest : List ℕ} → Reached file f p rest
    → IsLeastCommonMultiple f.network.periods (cycle f.network)
running_cycle = reached_cycle

-- .. and no other number is
pub no_other_cycle : {periods : List ℕ} {m n : ℕ} → IsLeastCommonMultiple periods m → IsLeastCommonMultiple periods n → m ≡ n
no_other_cycle = least_common_multiple_unique

-- Before the first it is 1
pub one_before_the_first : {file : List ℕ} {f : SoFar} {p : ℕ} {rest : List ℕ} → Reached file f p rest → f.network.periods ≡ []
    → cycle f.network ≡ 1
one_before_the_first {f = f} r none = no_other_cycle (subst (λ (ps : List ℕ). IsLeastCommonMultiple ps (cycle f.network)) none (running_cycle r)) one
  where
    one : IsLeastCommonMultiple [] 1
    one = record { positive = omega arith; multiple = λ i h. absurd (omega arith); least = λ k d. one_divides k }

-- "brought forward at each `4C` from that value and the new period alone": what a line that passes leaves behind
pub record BroughtForward (file : List ℕ) (f g : SoFar) (p : ℕ) (behind : List ℕ) : Type 0 where
  pub comes_behind : Reached file g (p + 3) (drop 2 behind)
  pub periods_are : g.network.periods ≡ f.network.periods ++ (word behind 0 ∷ [])
  pub from_the_two : IsLeastCommonMultiple (cycle f.network ∷ word behind 0 ∷ []) (cycle g.network)
  pub of_all : IsLeastCommonMultiple g.network.periods (cycle g.network)
  pub range : cycle g.network ≤ max_cycle

pub line_brings_forward : {file : List ℕ} {f : SoFar} {p b : ℕ} {behind : List ℕ} → Reached file f p (b ∷ behind) → command b ≡ states_line
    → first (grounds (command b) f p behind) ≡ Passes → BroughtForward file f (extend (command b) f behind) p behind
unfolding operand_bytes
line_brings_forward {file} {f} {p} {b} {behind} r is passes =
    let here : first (grounds states_line f p behind) ≡ Passes = ap (λ (c : Command). first (grounds c f p behind)) (sym is) ∙ passes in
    let behind_it : Reached file (extend (command b) f behind) (p + 1 + operand_bytes (command b)) (drop (operand_bytes (command b)) behind) =
    next r passes (λ e. line_not_end (sym is ∙ e)) in
    subst (λ (c : Command). BroughtForward file f (extend c f behind) p behind) (sym is)
    (record {
      comes_behind = at_place (subst (λ (c : Command). Reached file (extend c f behind) (p + 1 + operand_bytes c) (drop (operand_bytes c) behind)) is behind_it);
      periods_are = periods_of_line f behind;
      from_the_two = cycle_of_line f behind p (running_cycle r).positive here;
      of_all = subst (λ (c : Command). IsLeastCommonMultiple (extend c f behind).network.periods (cycle (extend c f behind).network)) is (running_cycle behind_it);
      range = cycle_of_line_le f behind p here;
    })
  where
    at_place : Reached file (extend states_line f behind) (p + 1 + operand_bytes states_line) (drop (operand_bytes states_line) behind)
        → Reached file (extend states_line f behind) (p + 3) (drop 2 behind)
    at_place q = subst (λ (k : ℕ). Reached file (extend states_line f behind) k (drop 2 behind)) (omega arith) q

-- No other command states a period or changes it
pub others_keep_it : (c : Command) (f : SoFar) (behind : List ℕ) → (c ≡ states_line → ⊥)
    → ((extend c f behind).network.periods ≡ f.network.periods) × (cycle (extend c f behind).network ≡ cycle f.network)
others_keep_it c f behind = others_state_no_line f behind c

-- A refused `4C` keeps nothing: the file gives its refusal and no network, and reading comes to no place behind it
pub refused_line_keeps_nothing : {file : List ℕ} {f : SoFar} {p b : ℕ} {behind : List ℕ} {number place : ℕ} → Reached file f p (b ∷ behind)
    → command b ≡ states_line → first (grounds (command b) f p behind) ≡ Refused number place
    → Gives file (refused number p) × ((g : SoFar) (q : ℕ) (rest : List ℕ) → Reached file g q rest → q ≤ p)
refused_line_keeps_nothing {file} {f} {p} {b} {behind} {number} {place} r is e =
    let own : place ≡ p = line_refused_place f p behind number place (ap (λ (c : Command). first (grounds c f p behind)) (sym is) ∙ e) in
    let gives : Gives file (refused number p) = subst (λ (q : ℕ). Gives file (refused number q)) own (refuses r e) in
    (gives, λ g q rest other. reached_not_behind other (gives_what_is_read gives))

-- ---- Of the reader, `read_network` in src/reader.rt: what it keeps where the part `rest` of the file is left, `n` being the network with its row of
-- periods, its number of lines and its cycle

pub record Keeps (file rest : List ℕ) (n : Rows) : Type 0 where
  -- reading comes here with `read_so_far`, whose periods stand in the row, and the number kept is the definition's
  pub read_so_far : SoFar
  pub comes_here : Reached file read_so_far (length file - length rest) rest
  pub periods_are : take n.lines n.periods ≡ read_so_far.network.periods
  pub cycle_is : n.cycle ≡ cycle read_so_far.network
  -- .. so that it is the least common multiple of the periods that are kept
  pub is_least_common_multiple : IsLeastCommonMultiple (take n.lines n.periods) n.cycle

keeps : {file rest : List ℕ} {n : Rows} (f : SoFar) → Reached file f (length file - length rest) rest
    → take n.lines n.periods ≡ f.network.periods → n.cycle ≡ cycle f.network → Keeps file rest n
keeps f here periods is =
    record {
      read_so_far = f;
      comes_here = here;
      periods_are = periods;
      cycle_is = is;
      is_least_common_multiple = subst₂ IsLeastCommonMultiple (sym periods) (sym is) (running_cycle here);
    }

-- At every turn of its loop: `ReaderTurn` is the invariant by which it is proved, so that it holds before the first turn and each turn keeps it
-- (`invariant-loop-rest` of proofs/reader/read_network/Invariants.antt, `loop-rest-init` and `loop-rest-preserved` of Answers.antt beside it)
pub every_turn : {file rest : List ℕ} {n : Rows} {often latest : List ℕ} → ReaderTurn file n often latest rest → Keeps file rest n
every_turn {n = n} t = keeps _ t.comes_here (sym (held_periods n)) t.rows.sound.cycle_is

-- .. and of what it hands over when it returns, the network of a file that is accepted, or what was read of one that is cut off or refused: of a
-- refused `4C` nothing is in it
module _ (κs : Lfts 1) (a : ArgsD reader.signature κs) (r : ResD reader.signature κs) (s : AtExit (ended_of 1 reader_kinds.ps reader_kinds.r) κs)
    (kept : reader_contract.Post κs a r s) where
  pub every_return : ((n : Network) → r ≡ Ok n → (rest : List ℕ) × Keeps a.0.now rest n.rows)
      × ((u : Unread) → r ≡ Err u → (rest : List ℕ) × Keeps a.0.now rest u.rows)
  every_return =
      let rest = kept.2.0 in (
        λ n e. let is = same_rows_of_network e in (rest, keeps {n = n.rows} _ (rw is at kept.2.1) (sym (held_periods n.rows)) (rw is at kept.0).cycle_is),
        λ u e. let is = same_rows_of_unread e in (rest, keeps {n = u.rows} _ (rw is at kept.2.1) (sym (held_periods u.rows)) (rw is at kept.0).cycle_is),
      )

-- ---- The values on the way of some files, by the definitions: each side computes

-- The cycle after the first line, the second and so on, of so many lines
abbrev pub on_the_way : ℕ → List ℕ → List ℕ
on_the_way zero periods = []
on_the_way (suc k) periods = on_the_way k periods ++ (common_cycle (take (suc k) periods) ∷ [])

pub cycles_on_the_way : (on_the_way 3 (12 ∷ 18 ∷ 8 ∷ []) ≡ 12 ∷ 36 ∷ 72 ∷ [])
    × (on_the_way 3 (8 ∷ 18 ∷ 12 ∷ []) ≡ 8 ∷ 72 ∷ 72 ∷ [])
    × (on_the_way 11 (1 ∷ 2 ∷ 3 ∷ 4 ∷ 5 ∷ 6 ∷ 7 ∷ 8 ∷ 9 ∷ 16 ∷ 32 ∷ []) ≡ 1 ∷ 2 ∷ 6 ∷ 12 ∷ 60 ∷ 60 ∷ 420 ∷ 840 ∷ 2520 ∷ 5040 ∷ 10080 ∷ [])
unfolding common_cycle cycle_from lcm gcd gcd_within
cycles_on_the_way = (refl, refl, refl)

-- .. behind which a line with period 11 is ground 6 at 33
abbrev pub lines_of : List ℕ → List ℕ
lines_of [] = []
lines_of (period ∷ periods) = 0x4C ∷ 0 ∷ period ∷ lines_of periods

pub eleven_is_refused : read_file (lines_of (1 ∷ 2 ∷ 3 ∷ 4 ∷ 5 ∷ 6 ∷ 7 ∷ 8 ∷ 9 ∷ 16 ∷ 32 ∷ 11 ∷ [])) ≡ refused 6 33
unfolding read_file read_from proceed first grounds cut_off period_out_of_range command operand_bytes word extend with_line cycle common_cycle cycle_from lcm gcd gcd_within
eleven_is_refused = refl

-- A line behind calls: 12, its call, 18, its call, and the end
pub line_behind_calls : read_outcome (read_file (0x4C ∷ 0 ∷ 12 ∷ 0x43 ∷ 0 ∷ 0 ∷ 0 ∷ 0 ∷ 0x4C ∷ 0 ∷ 18 ∷ 0x43 ∷ 1 ∷ 0 ∷ 0 ∷ 0 ∷ 0x45 ∷ [])) ≡ values (2 ∷ 1 ∷ 2 ∷ 36 ∷ [])
unfolding read_outcome served_stops read_file read_from proceed first grounds cut_off period_out_of_range some_line_silent call_grounds command operand_bytes word line_operand stop_operand stated_offset call_of extend with_line with_call is_served how_often_at calls_anywhere any keep all_below count_below cycle common_cycle cycle_from lcm gcd gcd_within
line_behind_calls = refl
