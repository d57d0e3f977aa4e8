-- What document 02, A.2, "Loop routes", asks of gaps, ratings and classes, of every accepted file that is lent to a read call: by its contract the file
-- is bytes, and the network of accepted bytes is within the limits. The demands themselves stand in Demands.antt in the words they had. Assumes nothing.
use Prim.Native.Nat.{ℕ, ◌≤◌}
use mathlib.Core.Path.{◌≡◌, sym, ◌∙◌}
use mathlib.Core.Bool.{true}
use mathlib.Core.List.{List}
use mathlib.Core.Logic.{◌↔◌}
use borrow.Fn.World.{ArgsD, ResD}
use borrow.Fn.Kinds.{ended_of}
use contract.Lifetimes.{Lfts}
use denote.Triple.Clauses.{AtExit}
use lib.IntN.{ℤ}
use lib.ListN.{get_or}
use Rattle.network.specs.Network.{Net, how_often_at, is_served}
use Rattle.network.specs.Reading.{read_file, accepted}
use Rattle.network.specs.Valid.{Valid, no_call}
use Rattle.network.specs.Rating.{CallsThere, IsCallsGap, IsStopGap, IsRating, stop_gap}
use Rattle.network.specs.Classes.{is_alike}
use Rattle.network.specs.Loops.{WithoutLoops, own_gap, AlikeOfCalls}
use Rattle.network.specs.ByLines.{IsStopGapOfLines, IsRatingOfLines, AlikeOfLines}
use Rattle.network.proofs.Laws.Valid.{accepted_valid}
use Rattle.network.proofs.Laws.StopGap.{IsStopGap-unique, stop_gap_is_stop_gap, gap_of_calls_lem}
use Rattle.network.proofs.Laws.Loops.{gap_of_calls_own}
use Rattle.network.proofs.Laws.ByLines.{stop_gap_by_lines, rating_by_lines}
use Rattle.network.proofs.Laws.Alike.{alike_refl, alike_sym, alike_trans, alike_is_alike}
use Rattle.network.proofs.Laws.AlikeGap.{alike_same_gap}
use Rattle.network.proofs.Laws.AlikeByCalls.{alike_by_calls}
use Rattle.network.proofs.Laws.AlikeByLines.{alike_by_lines}
use Rattle.network.specs.contracts.reader.read as read
use Rattle.network.proofs.reader.read.Kinds as read_kinds
use Rattle.network.proofs.reader.read.Reads as read_contract

pub record LoopRoutes (n : Net) : Type 0 where
  -- "A line may now call twice at a stop"
  pub twice_at_most : (line stop : ℕ) → how_often_at line stop n.calls ≤ 2
  -- "A gap is taken over pairs of different calls, also of one line": `IsStopGap`, over all their trips; there is one such number, the computed one
  pub has_gap : (starts : List ℤ) (stop : ℕ) → is_served stop n.calls ≡ true → IsStopGap n starts stop (stop_gap n starts stop)
  pub one_gap : {starts : List ℤ} {stop v w : ℕ} → IsStopGap n starts stop v → IsStopGap n starts stop w → v ≡ w
  -- the gap of a line's own pair, whose g is its period, doesn't depend on the starts
  pub own_gap_is : (starts : List ℤ) {stop c d : ℕ} → CallsThere n stop c → CallsThere n stop d
      → (get_or n.calls c no_call).line ≡ (get_or n.calls d no_call).line
      → IsCallsGap n starts c d (own_gap n (get_or n.calls c no_call) (get_or n.calls d no_call))
  -- alike stops: an equivalence on the served stops, and an unserved stop is alike to none ..
  pub alike_itself : (s : ℕ) → is_served s n.calls ≡ true → AlikeOfCalls n s s
  pub alike_turned : {s t : ℕ} → AlikeOfCalls n s t → AlikeOfCalls n t s
  pub alike_onward : {s t u : ℕ} → AlikeOfCalls n s t → AlikeOfCalls n t u → AlikeOfCalls n s u
  -- .. which the class call's test tells
  pub alike_tested : (s t : ℕ) → (is_alike n s t ≡ true) ↔ AlikeOfCalls n s t
  -- .. and that have the same gap under all integer starts
  pub alike_gap : {s t : ℕ} → AlikeOfCalls n s t → (starts : List ℤ) {gap : ℕ} → IsStopGap n starts s gap → IsStopGap n starts t gap
  -- Without loops everything is as document 01 words it, over lines and pairs of lines, so that certificates issued before stand
  pub gap_as_before : WithoutLoops n → {starts : List ℤ} {stop gap : ℕ} → IsStopGap n starts stop gap ↔ IsStopGapOfLines n starts stop gap
  pub rating_as_before : WithoutLoops n → {starts : List ℤ} {least sum : ℕ} → IsRating n starts least sum ↔ IsRatingOfLines n starts least sum
  pub alike_as_before : WithoutLoops n → (s t : ℕ) → AlikeOfCalls n s t ↔ AlikeOfLines n s t

module _ {n : Net} (valid : Valid n) where
  alike_gap_is : {s t : ℕ} → AlikeOfCalls n s t → (starts : List ℤ) {gap : ℕ} → IsStopGap n starts s gap → IsStopGap n starts t gap
  alike_gap_is {s} {t} a starts g =
      let alike = (alike_by_calls n s t).1 a in
      rw (IsStopGap-unique valid g ∙ alike_same_gap valid alike starts) (stop_gap_is_stop_gap n valid starts t alike.second_served)

  loop-routes-of : LoopRoutes n
  loop-routes-of =
      record {
        twice_at_most = valid.often;
        has_gap = stop_gap_is_stop_gap n valid;
        one_gap = λ g h. IsStopGap-unique valid g ∙ sym (IsStopGap-unique valid h);
        own_gap_is = λ starts {stop} {c} {d} h k same.
            rw (← gap_of_calls_own n (get_or n.calls c no_call) (get_or n.calls d no_call) same starts) (gap_of_calls_lem valid starts h k);
        alike_itself = λ s e. (alike_by_calls n s s).0 (alike_refl n s e);
        alike_turned = λ {s} {t} a. (alike_by_calls n t s).0 (alike_sym ((alike_by_calls n s t).1 a));
        alike_onward = λ {s} {t} {u} a b. (alike_by_calls n s u).0 (alike_trans ((alike_by_calls n s t).1 a) ((alike_by_calls n t u).1 b));
        alike_tested = λ s t. (
          λ e. (alike_by_calls n s t).0 ((alike_is_alike valid s t).0 e),
          λ a. (alike_is_alike valid s t).1 ((alike_by_calls n s t).1 a),
        );
        alike_gap = alike_gap_is;
        gap_as_before = λ loopless. stop_gap_by_lines valid loopless;
        rating_as_before = λ loopless. rating_by_lines valid loopless;
        alike_as_before = λ loopless. alike_by_lines loopless;
      }

-- Of every accepted file that is lent to a read call
module _ (κs : Lfts 1) (a : ArgsD read.signature κs) (r : ResD read.signature κs) (s : AtExit (ended_of 1 read_kinds.ps read_kinds.r) κs)
    (kept : read_contract.Post κs a r s) where
  pub loop-routes : {n : Net} → read_file a.0.now ≡ accepted n → LoopRoutes n
  loop-routes {n} reads = loop-routes-of (accepted_valid a.0.now n kept.1 reads)
