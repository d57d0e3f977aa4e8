-- Two files with the same periods and offsets are answered alike: neither the order of the calls nor the edition goes into an answer, since each is the
-- same for the network with its calls in order in the first edition, and that is one for both. Assumes nothing.
use Prim.Native.Nat.{ℕ, suc, ◌+◌}
use mathlib.Core.Path.{◌≡◌, refl, sym, ap, ap₂, subst, fun_ext, ◌∙◌}
use mathlib.Core.Bool.{Bool, not, ◌&&◌, ◌||◌}
use mathlib.Core.List.Permᴰ
use mathlib.Core.List.{List, [], ◌∷◌, ◌++◌, Permᴰ}
use native.Mathlib.Omega.{arith}
use lib.Dec.{eqb, ltb}
use lib.IntN.{ℤ}
use lib.ListN.{length, get_or, drop}
use Rattle.network.specs.declared.Call.{Call}
use Rattle.network.specs.Grounds.{Check}
use Rattle.network.specs.Rating.{Rating}
use Rattle.network.specs.Archive.{tidied, SameOffsets}
use Rattle.network.specs.Board.{Window, max_minutes, board_grounds, refused_or, board_outcome, time_row_after, line_row_after}
use Rattle.network.specs.ClassCall.{rows_fit, class_outcome, class_row_after, weight_row_after, weighted_rating, weighted_outcome}
use Rattle.network.specs.Classes.{ordered, remainder, same_line, same_remainder, is_alike, first_below, lowest_alike, is_lowest, unserved, class_row, weight_row, class_count}
use Rattle.network.specs.Divisor.{common_cycle}
use Rattle.network.specs.GapRow.{no_gap, gap_row, gap_row_after}
use Rattle.network.specs.Grounds.{◌at◌when◌, first}
use Rattle.network.specs.Lists.{pick, all_below, count_below, table}
use Rattle.network.specs.Network.{Net, net_with, with_edition, first_edition, max_stop, cycle, is_served, served_stops}
use Rattle.network.specs.Rate.{rating_values, on_sheet, rated_on_sheet, rate_outcome}
use Rattle.network.specs.Rating.{period_of, gap_of_calls, pair_gaps, calls_of_stop, stop_gap, counted, rating}
use Rattle.network.specs.Reading.{Reading, accepted, values, refusal, read_outcome}
use Rattle.network.specs.Tidy.{tidy}
use Rattle.network.specs.Valid.{Valid, no_call}
use Rattle.network.proofs.Laws.Archive.{tidied_valid}
use Rattle.network.proofs.Laws.BoardRows.{board_rows_same}
use Rattle.network.proofs.Laws.Classes.{lowest_rating}
use Rattle.network.proofs.Laws.Permutations.{any_permuted, keep_permuted}
use Rattle.network.proofs.Laws.Permuted.{counted_permuted, stop_gap_permuted, rating_permuted}
use Rattle.network.proofs.Laws.Tidy.{length_tidy, tidy_is_permutation, tidy_tidy, tidy_of_how_often, keep_tidy}

-- The network with its calls in order, in the first edition: one for all files with these periods and offsets
pub plain : Net → Net
plain n = with_edition (tidied n) first_edition

pub plain_same : {m n : Net} → SameOffsets m n → plain m ≡ plain n
unfolding plain tidied
plain_same {m} {n} same = ap₂ (net_with first_edition) same.same_periods (tidy_of_how_often m.calls n.calls same.same_calls)

plain_valid : {n : Net} → Valid n → Valid (plain n)
unfolding plain cycle
plain_valid {n} v =
    let w = tidied_valid v in
    record {
      edition_from = omega arith;
      edition_to = omega arith;
      some_line = w.some_line;
      lines = w.lines;
      period_pos = w.period_pos;
      period = w.period;
      cycle_max = w.cycle_max;
      calls = w.calls;
      call_line = w.call_line;
      call_stop = w.call_stop;
      call_offset = w.call_offset;
      often = w.often;
      every_line_calls = w.every_line_calls;
    }

-- ---- served stops, the read call

is_served_plain : (n : Net) (stop : ℕ) → is_served stop (plain n).calls ≡ is_served stop n.calls
unfolding is_served plain tidied
is_served_plain n stop = any_permuted (λ (c : Call). eqb c.stop stop) (tidy_is_permutation n.calls)

read_plain : (n : Net) → read_outcome (accepted (plain n)) ≡ read_outcome (accepted n)
unfolding read_outcome served_stops plain tidied cycle
read_plain n =
    ap₂ (λ (p : ℕ → Bool) (calls : ℕ). values (length n.periods ∷ count_below p (max_stop + 1) ∷ calls ∷ common_cycle n.periods ∷ []))
    (fun_ext (is_served_plain n)) (length_tidy n.calls)

-- ---- ratings

rating_plain : {n : Net} → Valid n → (starts : List ℤ) → rating (plain n) starts ≡ rating n starts
unfolding plain tidied
rating_plain {n} v starts = sym (rating_permuted n (plain n) v refl (Permᴰ.symm (tidy_is_permutation n.calls)) starts)

weighted_rating_lem : {n : Net} → Valid n → (sheet : List ℤ) → weighted_rating n sheet ≡ rating n sheet
unfolding weighted_rating
weighted_rating_lem {n} v = lowest_rating n v

-- A call that rates a sheet as the network rates it
on_sheet_plain : {n : Net} (rates : Net → List ℤ → Rating) → ((sheet : List ℤ) → rates (plain n) sheet ≡ rates n sheet) → (sheet : List ℤ)
    → rated_on_sheet rates (accepted (plain n)) sheet ≡ rated_on_sheet rates (accepted n) sheet
unfolding on_sheet plain tidied
on_sheet_plain {n} rates same sheet =
    ap (λ (r : Rating). pick (eqb (length sheet) (length n.periods)) (rating_values r) (refusal 15 0)) (same sheet)

-- ---- what the search looks at: the calls of a stop in another order, and only the periods of a network for given calls

pub calls_of_stop_plain : (n : Net) (stop : ℕ) → Permᴰ (calls_of_stop n stop) (calls_of_stop (plain n) stop)
unfolding calls_of_stop plain tidied
calls_of_stop_plain n stop = keep_permuted (λ (c : Call). eqb c.stop stop) (Permᴰ.symm (tidy_is_permutation n.calls))

pub periods_plain : (n : Net) → (plain n).periods ≡ n.periods
unfolding plain tidied
periods_plain n = refl

pub cycle_plain : (n : Net) → cycle (plain n) ≡ cycle n
unfolding cycle plain tidied
cycle_plain n = refl

pub period_of_plain : (n : Net) → period_of (plain n) ≡ period_of n
unfolding period_of plain tidied
period_of_plain n = refl

pub pair_gaps_plain : (n : Net) → pair_gaps (plain n) ≡ pair_gaps n
unfolding pair_gaps gap_of_calls period_of plain tidied
pair_gaps_plain n = refl

pub counted_plain : {n : Net} → Valid n → counted (plain n) ≡ counted n
unfolding plain tidied
counted_plain {n} v = sym (counted_permuted n (plain n) v refl (Permᴰ.symm (tidy_is_permutation n.calls)))

-- ---- classes

ordered_plain : (n : Net) (stop : ℕ) → ordered (plain n) stop ≡ ordered n stop
unfolding ordered calls_of_stop plain tidied
ordered_plain n stop = ap tidy (keep_tidy (λ (c : Call). eqb c.stop stop) n.calls) ∙ tidy_tidy _

is_alike_plain : (n : Net) (s t : ℕ) → is_alike (plain n) s t ≡ is_alike n s t
unfolding is_alike same_line same_remainder remainder period_of plain tidied
is_alike_plain n s t =
    ap₂ (λ (served : ℕ → Bool) (places : ℕ → List Call).
    let left : Call → Call → ℕ = remainder n in
    served s
    && served t
    && eqb (length (places s)) (length (places t))
    && all_below (λ j. eqb (get_or (places s) j no_call).line (get_or (places t) j no_call).line) (length (places s))
    && all_below
    (λ j.
    all_below
    (λ k. eqb (left (get_or (places s) j no_call) (get_or (places s) k no_call)) (left (get_or (places t) j no_call) (get_or (places t) k no_call)))
    j)
    (length (places s)))
    (fun_ext (is_served_plain n)) (fun_ext (ordered_plain n))

lowest_alike_plain : (n : Net) (s : ℕ) → lowest_alike (plain n) s ≡ lowest_alike n s
unfolding lowest_alike
lowest_alike_plain n s = ap (λ (p : ℕ → Bool). first_below p (suc max_stop)) (fun_ext (λ t. is_alike_plain n t s))

is_lowest_plain : (n : Net) (s : ℕ) → is_lowest (plain n) s ≡ is_lowest n s
unfolding is_lowest
is_lowest_plain n s = ap₂ (λ (t : Bool) (k : ℕ). t && eqb k s) (is_served_plain n s) (lowest_alike_plain n s)

class_row_plain : (n : Net) → class_row (plain n) ≡ class_row n
unfolding class_row
class_row_plain n =
    ap (λ (f : ℕ → ℕ). table f (suc max_stop))
    (fun_ext (λ s. ap₂ (λ (t : Bool) (k : ℕ). pick t k unserved) (is_served_plain n s) (lowest_alike_plain n s)))

weight_row_plain : (n : Net) → weight_row (plain n) ≡ weight_row n
unfolding weight_row
weight_row_plain n =
    ap (λ (f : ℕ → ℕ). table f (suc max_stop))
    (fun_ext (λ s.
    ap₂ (λ (t : Bool) (p : ℕ → Bool). pick t (count_below p (suc max_stop)) 0) (is_lowest_plain n s)
    (fun_ext (λ u. ap₂ (λ (t : Bool) (k : ℕ). t && eqb k s) (is_served_plain n u) (lowest_alike_plain n u)))))

class_count_plain : (n : Net) → class_count (plain n) ≡ class_count n
unfolding class_count
class_count_plain n = ap (λ (p : ℕ → Bool). count_below p (suc max_stop)) (fun_ext (is_lowest_plain n))

-- ---- the gap row

stop_gap_plain : {n : Net} → Valid n → (starts : List ℤ) (stop : ℕ) → stop_gap (plain n) starts stop ≡ stop_gap n starts stop
unfolding plain tidied
stop_gap_plain {n} v starts stop = sym (stop_gap_permuted n (plain n) v refl (Permᴰ.symm (tidy_is_permutation n.calls)) starts stop)

gap_row_plain : {n : Net} → Valid n → (row : List ℕ) (sheet : List ℤ) → gap_row_after row (accepted (plain n)) sheet ≡ gap_row_after row (accepted n) sheet
unfolding gap_row_after on_sheet gap_row plain tidied
gap_row_plain {n} v row sheet =
    ap (λ (f : ℕ → ℕ). pick (eqb (length sheet) (length n.periods)) (table f (suc max_stop)) row)
    (fun_ext (λ stop. ap₂ (λ (t : Bool) (gap : ℕ). pick t gap no_gap) (is_served_plain n stop) (stop_gap_plain v sheet stop)))

-- ---- boards

-- What the board call answers and leaves in the rows, by the lengths, the times and the lines of its list
board_plain : (n : Net) (w : Window) (time_row : List ℤ) (line_row : List ℕ) (sheet : List ℤ)
    → (board_outcome w (length time_row) (length line_row) (accepted (plain n)) sheet ≡ board_outcome w (length time_row) (length line_row) (accepted n) sheet)
    × (time_row_after w time_row line_row (accepted (plain n)) sheet ≡ time_row_after w time_row line_row (accepted n) sheet)
    × (line_row_after w time_row line_row (accepted (plain n)) sheet ≡ line_row_after w time_row line_row (accepted n) sheet)
unfolding board_outcome time_row_after line_row_after board_grounds plain tidied
board_plain n w time_row line_row sheet =
    let (long, times_are, lines_are) = board_rows_same (plain n) n sheet w (periods_plain n) (ordered_plain n w.stop) in (
      ap (λ (k : ℕ). refused_or (checked k) refusal (values (k ∷ []))) long,
      ap₂ (λ (k : ℕ) (l : List ℤ). refused_or (checked k) (λ number place. time_row) (l ++ drop k time_row)) long times_are,
      ap₂ (λ (k : ℕ) (l : List ℕ). refused_or (checked k) (λ number place. line_row) (l ++ drop k line_row)) long lines_are,
    )
  where
    checked : ℕ → Check
    checked k =
        first (
        (15 at 0 when not (eqb (length sheet) (length n.periods))) ∷
        (8 at 0 when ltb max_stop w.stop) ∷
        (22 at 0 when ltb max_minutes w.minutes) ∷
        (23 at 0 when ltb (length time_row) k || ltb (length line_row) k) ∷
        []
        )

-- ---- two accepted files with the same periods and offsets

-- What the calls on the network answer of one reading and of the other
pub record AnswersAlike (one other : Reading) : Type 0 where
  pub read_alike : read_outcome one ≡ read_outcome other
  pub rate_alike : (sheet : List ℤ) → rate_outcome one sheet ≡ rate_outcome other sheet
  pub weighted_alike : (sheet : List ℤ) → weighted_outcome one sheet ≡ weighted_outcome other sheet
  pub classes_alike : (classes weights : ℕ) → class_outcome one classes weights ≡ class_outcome other classes weights
  pub class_row_alike : (classes weights : List ℕ) → class_row_after one classes weights ≡ class_row_after other classes weights
  pub weight_row_alike : (classes weights : List ℕ) → weight_row_after one classes weights ≡ weight_row_after other classes weights
  pub gap_row_alike : (row : List ℕ) (sheet : List ℤ) → gap_row_after row one sheet ≡ gap_row_after row other sheet
  pub board_alike :
      (w : Window) (time_row : List ℤ) (line_row : List ℕ) (sheet : List ℤ)
      → (board_outcome w (length time_row) (length line_row) one sheet ≡ board_outcome w (length time_row) (length line_row) other sheet)
      × (time_row_after w time_row line_row one sheet ≡ time_row_after w time_row line_row other sheet)
      × (line_row_after w time_row line_row one sheet ≡ line_row_after w time_row line_row other sheet)

plain_answers_alike : {n : Net} → Valid n → AnswersAlike (accepted (plain n)) (accepted n)
unfolding rate_outcome weighted_outcome class_outcome class_row_after weight_row_after
plain_answers_alike {n} v =
    record {
      read_alike = read_plain n;
      rate_alike = on_sheet_plain rating (rating_plain v);
      weighted_alike = on_sheet_plain weighted_rating (λ sheet. weighted_rating_lem (plain_valid v) sheet ∙ rating_plain v sheet ∙ sym (weighted_rating_lem v sheet));
      classes_alike = λ classes weights. ap (λ (k : ℕ). pick (rows_fit classes weights) (values (k ∷ [])) (refusal 17 0)) (class_count_plain n);
      class_row_alike = λ classes weights. ap (λ (l : List ℕ). pick (rows_fit (length classes) (length weights)) l classes) (class_row_plain n);
      weight_row_alike = λ classes weights. ap (λ (l : List ℕ). pick (rows_fit (length classes) (length weights)) l weights) (weight_row_plain n);
      gap_row_alike = gap_row_plain v;
      board_alike = board_plain n;
    }

pub same_answers_alike : {m n : Net} → Valid m → Valid n → SameOffsets m n → AnswersAlike (accepted m) (accepted n)
same_answers_alike {m} {n} v w same =
    let a : AnswersAlike (accepted (plain n)) (accepted m) =
    subst (λ (k : Net). AnswersAlike (accepted k) (accepted m)) (plain_same same) (plain_answers_alike v) in
    let b = plain_answers_alike w in
    record {
      read_alike = sym a.read_alike ∙ b.read_alike;
      rate_alike = λ sheet. sym (a.rate_alike sheet) ∙ b.rate_alike sheet;
      weighted_alike = λ sheet. sym (a.weighted_alike sheet) ∙ b.weighted_alike sheet;
      classes_alike = λ classes weights. sym (a.classes_alike classes weights) ∙ b.classes_alike classes weights;
      class_row_alike = λ classes weights. sym (a.class_row_alike classes weights) ∙ b.class_row_alike classes weights;
      weight_row_alike = λ classes weights. sym (a.weight_row_alike classes weights) ∙ b.weight_row_alike classes weights;
      gap_row_alike = λ row sheet. sym (a.gap_row_alike row sheet) ∙ b.gap_row_alike row sheet;
      board_alike = λ w time_row line_row sheet.
          let (one, times_are, lines_are) = a.board_alike w time_row line_row sheet in
          let (other, times_there, lines_there) = b.board_alike w time_row line_row sheet in
          (sym one ∙ other, sym times_are ∙ times_there, sym lines_are ∙ lines_there);
    }
