-- What holds of every network that the reader accepts: the limits of document 01, "The network file", and the editions of document 02, A.6, as one
-- statement.
use Rattle.std.specs.Prelude.{ℕ, ◌<◌, ◌≤◌, ◌≡◌, true, List, length, get_or}
use Rattle.network.specs.declared.Call.{Call}
use Rattle.network.specs.Network.{Net, first_edition, latest_edition, max_lines, max_period, max_cycle, max_stop, max_offset, max_calls, max_calls_at_stop, cycle, how_often_at, calls_anywhere}

-- A list of bytes
unfoldable pub IsBytes : List ℕ → Type 0
IsBytes file = (i : ℕ) → get_or file i 0 < 256

-- Behind a row's end
abbrev pub no_call : Call
no_call = record { line = 0; stop = 0; offset = 0 }

pub record Valid (n : Net) : Type 0 where
  -- the edition is known
  pub edition_from : first_edition ≤ n.edition
  pub edition_to : n.edition ≤ latest_edition
  -- 1 to 16 lines
  pub some_line : 0 < length n.periods
  pub lines : length n.periods ≤ max_lines
  -- periods are 1 to 1,440
  pub period_pos : (i : ℕ) → i < length n.periods → 0 < get_or n.periods i 0
  pub period : (i : ℕ) → i < length n.periods → get_or n.periods i 0 ≤ max_period
  -- the common cycle is at most 10,080
  pub cycle_max : cycle n ≤ max_cycle
  -- at most 256 calls, of stated lines, at stops 0 to 63, with offsets 0 to 65,535
  pub calls : length n.calls ≤ max_calls
  pub call_line : (k : ℕ) → k < length n.calls → (get_or n.calls k no_call).line < length n.periods
  pub call_stop : (k : ℕ) → k < length n.calls → (get_or n.calls k no_call).stop ≤ max_stop
  pub call_offset : (k : ℕ) → k < length n.calls → (get_or n.calls k no_call).offset ≤ max_offset
  -- a line calls at a stop at most as often as it may: twice
  pub often : (line stop : ℕ) → how_often_at line stop n.calls ≤ max_calls_at_stop
  -- every line has a call
  pub every_line_calls : (i : ℕ) → i < length n.periods → calls_anywhere i n.calls ≡ true
