-- Laws of what the reader keeps: the network, how often each line calls at each stop and each line's latest offset agree, and stay so with
-- another edition, one line or one call more; and what its loop keeps from turn to turn. Assumes nothing.
use Prim.Native.Nat.{ℕ, ◌*◌, ◌+◌, ◌<◌, ◌≤◌}
use mathlib.Core.Path.{◌≡◌, sym, ap, subst, ◌∙◌}
use mathlib.Core.List.{List, [], ◌∷◌, ◌++◌}
use lib.ListN.{length, get_or, set, length-set}
use Rattle.network.specs.declared.Call.{Call}
use Rattle.network.specs.declared.Rows.{Rows}
use Rattle.network.specs.Network.{Net, max_lines, max_cycle, max_stop, max_calls, cycle, with_line, with_call}
use Rattle.network.specs.Engine.Stored.{net_of, packed, call_in, Latest, Often, InStep, ComesTo}
use Rattle.network.proofs.Laws.Stored.{edition_put, line_added, call_added, sound_edition, sound_line, sound_call, call_added_lem}
use Rattle.network.proofs.Laws.Latest.{latest_call}
use Rattle.network.proofs.Laws.Often.{often_call}

-- The invariant of the reader's loop, `rest` being the part of the file that is left: reading comes there with this network
pub record ReaderTurn (file : List ℕ) (n : Rows) (often latest rest : List ℕ) : Type 0 where
  pub rows : InStep n often latest
  pub left : length rest ≤ length file
  pub comes_here : ComesTo file rest n

module _ (n : Rows) (often latest : List ℕ) (k : InStep n often latest) where
  pub rows_with_edition : (edition : ℕ) → InStep (edition_put n edition) often latest
  unfolding net_of
  rows_with_edition edition =
      record {
        sound = sound_edition n edition k.sound;
        often_row = k.often_row;
        often_is = k.often_is;
        latest_row = k.latest_row;
        latest_is = k.latest_is;
      }

  pub rows_with_line : (period common : ℕ) → n.lines < max_lines → 0 < common → common ≤ max_cycle → common ≡ cycle (with_line (net_of n) period)
      → InStep (line_added n period common) often latest
  unfolding net_of
  rows_with_line period common room pos low is =
      record {
        sound = sound_line n k.sound period common room pos low is;
        often_row = k.often_row;
        often_is = k.often_is;
        latest_row = k.latest_row;
        latest_is = k.latest_is;
      }

  pub rows_with_call : (code : ℕ) (call : Call) → code ≡ packed call → call_in code ≡ call → n.count < max_calls → call.line < max_lines → call.stop ≤ max_stop
      → InStep (call_added n code) (set often (call.stop * 16 + call.line) (get_or often (call.stop * 16 + call.line) 0 + 1)) (set latest call.line (call.offset + 1))
  unfolding with_call
  rows_with_call code call d e room low high =
      record {
        sound = sound_call n k.sound code room (ap packed e ∙ sym d);
        often_row = length-set often _ _ ∙ k.often_row;
        often_is = subst (Often _) (sym grown) (often_call often (net_of n).calls call k.often_row low high k.often_is);
        latest_row = length-set latest _ _ ∙ k.latest_row;
        latest_is = subst (Latest _) (sym grown) (latest_call latest (net_of n).calls call k.latest_row low k.latest_is);
      }
    where
      grown : (net_of (call_added n code)).calls ≡ (net_of n).calls ++ (call ∷ [])
      grown = ap (λ (m : Net). m.calls) (call_added_lem n k.sound code room call e)
