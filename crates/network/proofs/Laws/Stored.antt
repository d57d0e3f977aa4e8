-- Laws of a network as the engine holds it: its counts are the lengths of the lists that it stands for, another edition is put and a line or call more
-- is written behind those that count, and what a command tells says how the reading goes on. Assumes nothing.
use Prim.Native.Nat.{ℕ, ◌+◌, ◌<◌, ◌≤◌}
use mathlib.Core.Path.{◌≡◌, refl, sym, ap, subst, ◌∙◌}
use mathlib.Core.List.{List, [], ◌∷◌, ◌++◌}
use mathlib.Core.Logic.{inl, inr}
use native.Mathlib.Decide.{ℕ_discrete}
use native.Mathlib.Omega.{arith}
use lib.ListN.{length, get_or, take, set, length-set, length-map}
use lib.Seq.{length-take-le, get_or-take, get_or-set_same, get_or-set_other}
use Rattle.std.specs.Prelude.{Result, Ok, Err}
use Rattle.network.specs.declared.Call.{Call}
use Rattle.network.specs.Grounds.{Passes}
use Rattle.network.specs.declared.Network.{Network}
use Rattle.network.specs.declared.Rows.{Rows}
use Rattle.network.specs.declared.Unread.{Unread}
use Rattle.network.specs.declared.Stated.TheVariants as stated
use Rattle.network.specs.Network.{Net, net_with, SoFar, with_network, with_edition, with_calls, Command, calls_by_offset, calls_by_ride, ends, extend}
use Rattle.network.specs.Network.{max_lines, max_cycle, max_stop, max_calls, max_calls_at_stop, cycle, how_often_at, word, call_of, with_line, with_call}
use Rattle.network.specs.Valid.{Valid, IsBytes, no_call}
use Rattle.network.specs.Reading.{Reading, accepted, refused}
use Rattle.network.specs.Grounds.{first, grounds}
use Rattle.network.specs.Engine.Stored.{net_of, packed, call_in, calls_in, Sound, HasTotals, IsParsed}
use Rattle.network.specs.Engine.Read.{reading_of, rows_read}
use Rattle.network.specs.Engine.Scan.{Lent}
use Rattle.network.specs.declared.grounds.Ground.TheVariants.{StartRowLength}
use Rattle.network.specs.Numbers.{number_of}
use Rattle.network.proofs.Laws.Lists.{zero_ne_one, map_set, take_set_next}
use Rattle.network.proofs.Laws.Divisor.{lcm_pos}
use Rattle.network.proofs.Laws.Network.{cycle_with_line}
use Rattle.network.proofs.Laws.Grounds.{CallFits, line_not_end, edition_not_end, line_passes, offset_passes, ride_passes}

pub held_lines : (n : Rows) → Sound n → length (net_of n).periods ≡ n.lines
unfolding net_of
held_lines n s = length-take-le n.lines n.periods (omega (arith, s.lines, s.periods_row))

pub length_held : (n : Rows) → Sound n → length (calls_in n.list) ≡ max_calls
length_held n s = length-map n.list call_in ∙ s.list_row

pub held_calls : (n : Rows) → Sound n → length (net_of n).calls ≡ n.count
unfolding net_of
held_calls n s = length-take-le n.count (calls_in n.list) (omega (arith, s.calls, length_held n s))

pub held_period : (n : Rows) (line : ℕ) → line < n.lines → get_or (net_of n).periods line 0 ≡ get_or n.periods line 0
unfolding net_of
held_period n line h = get_or-take n.lines n.periods line 0 h

pub held_call : (n : Rows) (k : ℕ) → k < n.count → get_or (net_of n).calls k no_call ≡ get_or (calls_in n.list) k no_call
unfolding net_of
held_call n k h = get_or-take n.count (calls_in n.list) k no_call h

-- The calls that count are of stated lines, whose periods are at least 1
module _ (n : Rows) (s : Sound n) (v : Valid (net_of n)) where
  pub held_call_line : (k : ℕ) → k < n.count → (get_or (calls_in n.list) k no_call).line < n.lines
  held_call_line k h =
      rw (held_lines n s) at (rw (held_call n k h) at (v.call_line k (rw (held_calls n s) h)))

  pub held_call_stop : (k : ℕ) → k < n.count → (get_or (calls_in n.list) k no_call).stop ≤ max_stop
  held_call_stop k h = rw (held_call n k h) at (v.call_stop k (rw (held_calls n s) h))

  pub held_period_pos : (line : ℕ) → line < n.lines → 0 < get_or n.periods line 0
  held_period_pos line h = rw (held_period n line h) at (v.period_pos line (rw (held_lines n s) h))

-- ---- another edition, or one line or one call more, written behind those that count

abbrev pub edition_put : Rows → ℕ → Rows
edition_put n edition =
    record { edition = edition; lines = n.lines; periods = n.periods; count = n.count; list = n.list; cycle = n.cycle }

abbrev pub line_added : Rows → ℕ → ℕ → Rows
line_added n period common =
    record { edition = n.edition; lines = n.lines + 1; periods = set n.periods n.lines period; count = n.count; list = n.list; cycle = common }

abbrev pub call_added : Rows → ℕ → Rows
call_added n code =
    record { edition = n.edition; lines = n.lines; periods = n.periods; count = n.count + 1; list = set n.list n.count code; cycle = n.cycle }

module _ (n : Rows) (edition : ℕ) where
  pub edition_put_lem : net_of (edition_put n edition) ≡ with_edition (net_of n) edition
  unfolding net_of
  edition_put_lem = refl

  pub sound_edition : Sound n → Sound (edition_put n edition)
  unfolding net_of cycle
  sound_edition s =
      record {
        periods_row = s.periods_row;
        list_row = s.list_row;
        lines = s.lines;
        calls = s.calls;
        packs = s.packs;
        cycle_is = s.cycle_is;
        cycle_pos = s.cycle_pos;
        cycle_le = s.cycle_le;
      }

module _ (n : Rows) (s : Sound n) where
  module _ (period common : ℕ) (room : n.lines < max_lines) where
    pub line_added_lem : net_of (line_added n period common) ≡ with_line (net_of n) period
    unfolding net_of with_line
    line_added_lem =
        ap (λ (ps : List ℕ). net_with n.edition ps (take n.count (calls_in n.list)))
        (take_set_next n.periods n.lines period (omega (arith, s.periods_row)))

    pub sound_line : 0 < common → common ≤ max_cycle → common ≡ cycle (with_line (net_of n) period) → Sound (line_added n period common)
    sound_line pos low is =
        record {
          periods_row = length-set n.periods n.lines period ∙ s.periods_row;
          list_row = s.list_row;
          lines = omega arith;
          calls = s.calls;
          packs = s.packs;
          cycle_is = is ∙ ap cycle (sym line_added_lem);
          cycle_pos = pos;
          cycle_le = low;
        }

  module _ (code : ℕ) (room : n.count < max_calls) where
    pub call_added_lem : (call : Call) → call_in code ≡ call → net_of (call_added n code) ≡ with_call (net_of n) call
    unfolding net_of with_call
    call_added_lem call e =
        ap (λ (cs : List Call). net_with n.edition (take n.lines n.periods) (take (n.count + 1) cs)) (map_set call_in n.list n.count code)
        ∙ ap (λ (cs : List Call). net_with n.edition (take n.lines n.periods) cs)
        (take_set_next (calls_in n.list) n.count (call_in code) (omega (arith, length_held n s)))
        ∙ ap (λ (c : Call). net_with n.edition (take n.lines n.periods) (take n.count (calls_in n.list) ++ (c ∷ []))) e

    pub sound_call : packed (call_in code) ≡ code → Sound (call_added n code)
    unfolding net_of cycle
    sound_call packs =
        record {
          periods_row = s.periods_row;
          list_row = length-set n.list n.count code ∙ s.list_row;
          lines = s.lines;
          calls = omega arith;
          packs = λ i h. packs_at i h (ℕ_discrete i n.count);
          cycle_is = s.cycle_is;
          cycle_pos = s.cycle_pos;
          cycle_le = s.cycle_le;
        }
      where
        row : List ℕ
        row = set n.list n.count code

        packs_at : (i : ℕ) → i < n.count + 1 → Dec (i ≡ n.count) → packed (call_in (get_or row i 0)) ≡ get_or row i 0
        packs_at i h (yes e) =
            let there : get_or row i 0 ≡ code = ap (λ (k : ℕ). get_or row k 0) e ∙ get_or-set_same n.list n.count code 0 (omega (arith, s.list_row)) in
            ap (λ (k : ℕ). packed (call_in k)) there ∙ packs ∙ sym there
        packs_at i h (no f) =
            let there : get_or row i 0 ≡ get_or n.list i 0 = get_or-set_other n.list n.count i code 0 f in
            ap (λ (k : ℕ). packed (call_in k)) there ∙ s.packs i (omega (arith, h, f)) ∙ sym there

-- The numbers of a network that is held are those that the grounds ask for
pub has_totals : (n : Rows) → Sound n → HasTotals (net_of n) n
unfolding net_of
has_totals n s =
    record { edition = refl; lines = sym (held_lines n s); calls = sym (held_calls n s); cycle_is = s.cycle_is }

-- ---- what a command tells

pub record LineParsed (c : Command) (f : SoFar) (p : ℕ) (behind : List ℕ) (period common : ℕ) : Type 0 where
  pub passes : first (grounds c f p behind) ≡ Passes
  pub onward : c ≡ ends → ⊥
  pub extended : with_network f (with_line f.network period) ≡ extend c f behind
  pub room : length f.network.periods < max_lines
  pub cycle_is : common ≡ cycle (with_line f.network period)
  pub cycle_pos : 0 < common
  pub cycle_le : common ≤ max_cycle

pub line_of_parsed : (c : Command) (f : SoFar) (p : ℕ) (behind : List ℕ) (period common : ℕ) → 0 < cycle f.network → IsParsed c f p behind (Ok (stated.Line period common))
    → LineParsed c f p behind period common
unfolding IsParsed extend
line_of_parsed c f p behind period common pos (passes, is, stated, made) =
    let fits = line_passes f p behind (ap (λ (d : Command). first (grounds d f p behind)) (sym is) ∙ passes) in
    record {
      passes = passes;
      onward = λ e. line_not_end (sym is ∙ e);
      extended = ap (λ (m : ℕ). with_network f (with_line f.network m)) stated ∙ ap (λ (d : Command). extend d f behind) (sym is);
      room = fits.room;
      cycle_is = made ∙ sym (cycle_with_line f.network (word behind 0)) ∙ ap (λ (m : ℕ). cycle (with_line f.network m)) (sym stated);
      cycle_pos = rw made (lcm_pos _ _ pos fits.period_pos);
      cycle_le = rw made fits.cycle_max;
    }

pub record CallParsed (c : Command) (f : SoFar) (p : ℕ) (behind : List ℕ) (call : Call) : Type 0 where
  pub passes : first (grounds c f p behind) ≡ Passes
  pub onward : c ≡ ends → ⊥
  pub extended : with_network f (with_call f.network call) ≡ extend c f behind
  pub line : call.line < length f.network.periods
  pub stop : call.stop ≤ max_stop
  pub often : how_often_at call.line call.stop f.network.calls < max_calls_at_stop
  pub room : length f.network.calls < max_calls

call_parsed : (c d : Command) (f : SoFar) (p : ℕ) (behind : List ℕ) (call : Call) (offset : ℕ) → first (grounds c f p behind) ≡ Passes → (d ≡ ends → ⊥) → c ≡ d → call ≡ call_of behind offset
    → extend d f behind ≡ with_network f (with_call f.network (call_of behind offset)) → CallFits d f.network behind → CallParsed c f p behind call
unfolding call_of
call_parsed c d f p behind call offset passes apart is made e fits =
    record {
      passes = passes;
      onward = λ g. apart (sym is ∙ g);
      extended = ap (λ (k : Call). with_network f (with_call f.network k)) made ∙ sym e ∙ ap (λ (k : Command). extend k f behind) (sym is);
      line = subst (λ (k : Call). k.line < length f.network.periods) (sym made) fits.line;
      stop = subst (λ (k : Call). k.stop ≤ max_stop) (sym made) fits.stop;
      often = subst (λ (k : Call). how_often_at k.line k.stop f.network.calls < max_calls_at_stop) (sym made) fits.often;
      room = fits.room;
    }

pub call_of_parsed : (c : Command) (f : SoFar) (p : ℕ) (behind : List ℕ) (call : Call) → IsParsed c f p behind (Ok (stated.Calls call)) → CallParsed c f p behind call
unfolding IsParsed extend grounds
call_of_parsed c f p behind call (passes, inl (is, made)) =
    call_parsed c calls_by_offset f p behind call _ passes (λ e. zero_ne_one (cc)) is made refl
    (offset_passes f p behind (ap (λ (d : Command). first (grounds d f p behind)) (sym is) ∙ passes))
call_of_parsed c f p behind call (passes, inr (is, made)) =
    call_parsed c calls_by_ride f p behind call _ passes (λ e. zero_ne_one (cc)) is made refl
    (ride_passes f p behind (ap (λ (d : Command). first (grounds d f p behind)) (sym is) ∙ passes)).0

pub record EditionParsed (c : Command) (f : SoFar) (p : ℕ) (behind : List ℕ) (edition : ℕ) : Type 0 where
  pub passes : first (grounds c f p behind) ≡ Passes
  pub onward : c ≡ ends → ⊥
  pub extended : with_network f (with_edition f.network edition) ≡ extend c f behind

pub edition_of_parsed : (c : Command) (f : SoFar) (p : ℕ) (behind : List ℕ) (edition : ℕ) → IsParsed c f p behind (Ok (stated.Edition edition))
    → EditionParsed c f p behind edition
unfolding IsParsed extend
edition_of_parsed c f p behind edition (passes, is, stated) =
    record {
      passes = passes;
      onward = λ e. edition_not_end (sym is ∙ e);
      extended = ap (λ (m : ℕ). with_network f (with_edition f.network m)) stated ∙ ap (λ (d : Command). extend d f behind) (sym is);
    }

-- ---- what other crates read of the network that is held

pub held_periods : (n : Rows) → (net_of n).periods ≡ take n.lines n.periods
unfolding net_of
held_periods n = refl

-- its rows, lent in its place
abbrev pub lent_rows : (n : Rows) → Sound n → Valid (net_of n) → Lent n.periods n.list n.lines n.count
lent_rows n s v =
    record {
      network = n;
      sound = s;
      valid = v;
      periods_are = refl;
      list_is = refl;
      lines_are = sym (held_lines n s);
      calls_are = refl;
    }

-- .. the number of lines being told by another that is the same
abbrev pub lent_fits : {periods list : List ℕ} {lines other calls : ℕ} → other ≡ lines → Lent periods list lines calls → Lent periods list other calls
lent_fits e h =
    record {
      network = h.network;
      sound = h.sound;
      valid = h.valid;
      periods_are = h.periods_are;
      list_is = h.list_is;
      lines_are = e ∙ h.lines_are;
      calls_are = h.calls_are;
    }

-- without its calls
abbrev pub calls_dropped : Rows → Rows
calls_dropped n = record { edition = n.edition; lines = n.lines; periods = n.periods; count = 0; list = n.list; cycle = n.cycle }

pub net_of_calls_dropped : (n : Rows) → net_of (calls_dropped n) ≡ with_calls (net_of n) []
unfolding net_of
net_of_calls_dropped n = refl

pub sound_calls_dropped : (n : Rows) → Sound n → Sound (calls_dropped n)
unfolding net_of cycle
sound_calls_dropped n s =
    record {
      periods_row = s.periods_row;
      list_row = s.list_row;
      packs = λ i h. absurd (omega (arith, h));
      lines = s.lines;
      calls = omega arith;
      cycle_is = s.cycle_is;
      cycle_pos = s.cycle_pos;
      cycle_le = s.cycle_le;
    }

-- with a call more
pub with_call_appends : (n : Net) (c : Call) → with_call n c ≡ with_calls n (n.calls ++ (c ∷ []))
unfolding with_call
with_call_appends n c = refl

-- ---- what reading a file gives

pub bytes_of : (file : List ℕ) → ((i : ℕ) → get_or file i 0 < 256) → IsBytes file
unfolding IsBytes
bytes_of file h = h

pub reading_of_network : (n : Network) → reading_of (Ok n) ≡ accepted (net_of n.rows)
unfolding reading_of
reading_of_network n = refl

pub reading_of_refused : (u : Unread) → reading_of (Err u) ≡ refused (number_of u.refusal.reason) u.refusal.place
unfolding reading_of
reading_of_refused u = refl

-- .. told of a result that is looked at where it lies
pub reads_network : {r : Result Network Unread} {n : Network} {read : Reading} → Ok n ≡ r → reading_of r ≡ read → read ≡ accepted (net_of n.rows)
reads_network {n = n} is gives = sym gives ∙ ap reading_of (sym is) ∙ reading_of_network n

pub reads_refusal : {r : Result Network Unread} {u : Unread} {read : Reading} → Err u ≡ r → reading_of r ≡ read
    → read ≡ refused (number_of u.refusal.reason) u.refusal.place
reads_refusal {u = u} is gives = sym gives ∙ ap reading_of (sym is) ∙ reading_of_refused u

-- The rows that reading comes to
pub same_rows_of_network : {r : Result Network Unread} {n : Network} → r ≡ Ok n → rows_read r ≡ n.rows
unfolding rows_read
same_rows_of_network e = ap rows_read e

pub same_rows_of_unread : {r : Result Network Unread} {u : Unread} → r ≡ Err u → rows_read r ≡ u.rows
unfolding rows_read
same_rows_of_unread e = ap rows_read e

-- The ground by which a start row is refused
pub number_of_start_row : number_of StartRowLength ≡ 16
unfolding number_of
number_of_start_row = refl
