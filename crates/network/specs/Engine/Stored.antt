-- How the engine holds a network: rows of fixed length of which the first places count, and the common cycle and the edition beside them.
use Rattle.std.specs.Prelude.{ℕ, suc, ◌+◌, ◌*◌, ◌-◌, ◌/◌, ◌%◌, ◌≤◌, ◌<◌, ◌≡◌, List, map, ◌⊎◌, length, get_or, take, Result, Ok, Err}
use Rattle.network.specs.declared.Call.{Call}
use Rattle.network.specs.declared.grounds.Refusal.{Refusal}
use Rattle.network.specs.declared.Rows.{Rows}
use Rattle.network.specs.declared.Stated.{Stated}
use Rattle.network.specs.declared.Stated.TheVariants as stated
use Rattle.network.specs.Divisor.{lcm}
use Rattle.network.specs.Lists.{pick}
use Rattle.network.specs.Network.{Net, net_with, SoFar, so_far, Command, states_line, calls_by_offset, calls_by_ride, ends, states_edition, max_lines, max_stop, max_calls, max_cycle, cycle}
use Rattle.network.specs.Network.{calls_anywhere, how_often_at, latest_offset, word, call_of, stated_offset, ride_offset, edition_operand}
use Rattle.network.specs.Grounds.{Check, Passes, Refused, first, grounds}
use Rattle.network.specs.Numbers.{number_of}
use Rattle.network.specs.Gives.{Reached}

-- A call as one number: the line counts above the stop and that above the offset, so that the numbers are in the order of the calls
unfoldable pub packed : Call → ℕ
packed c = c.line * 4194304 + c.stop * 65536 + c.offset

-- The call that a number holds; every number holds one
unfoldable pub call_in : ℕ → Call
call_in code = record { line = code / 4194304 % 16; stop = code / 65536 % 64; offset = code % 65536 }

-- The calls that a row holds
abbrev pub calls_in : List ℕ → List Call
calls_in row = map call_in row

-- The network that is held
unfoldable pub net_of : Rows → Net
net_of n = net_with n.edition (take n.lines n.periods) (take n.count (calls_in n.list))

-- The counts are within the rows, each number is a call packed, and the cycle is that of the periods
pub record Sound (n : Rows) : Type 0 where
  pub periods_row : length n.periods ≡ max_lines
  pub list_row : length n.list ≡ max_calls
  pub lines : n.lines ≤ max_lines
  pub calls : n.count ≤ max_calls
  pub packs : (i : ℕ) → i < n.count → packed (call_in (get_or n.list i 0)) ≡ get_or n.list i 0
  pub cycle_is : n.cycle ≡ cycle (net_of n)
  pub cycle_pos : 0 < n.cycle
  pub cycle_le : n.cycle ≤ max_cycle

-- The numbers that the grounds ask of a network
pub record HasTotals (n : Net) (s : Rows) : Type 0 where
  pub edition : s.edition ≡ n.edition
  pub lines : s.lines ≡ length n.periods
  pub calls : s.count ≡ length n.calls
  pub cycle_is : s.cycle ≡ cycle n

-- A row that has for each line one more than the offset of its latest call, 0 where it has none
abbrev pub Latest : List ℕ → List Call → Type 0
Latest latest cs = (line : ℕ) → line < max_lines → get_or latest line 0 ≡ pick (calls_anywhere line cs) (suc (latest_offset line 0 cs)) 0

-- A table that has for each line and stop how often the line calls there, the lines of a stop side by side
abbrev pub Often : List ℕ → List Call → Type 0
Often often cs = (line stop : ℕ) → line < max_lines → stop ≤ max_stop → get_or often (stop * max_lines + line) 0 ≡ how_often_at line stop cs

-- What the reader keeps fits together: the network's rows, how often each line calls at each stop, and each line's latest offset
pub record InStep (n : Rows) (often latest : List ℕ) : Type 0 where
  pub sound : Sound n
  pub often_row : length often ≡ 1024
  pub often_is : Often often (net_of n).calls
  pub latest_row : length latest ≡ max_lines
  pub latest_is : Latest latest (net_of n).calls

-- What one command's function tells is right: the ground that applies first, or, where none does, the command's line, call or edition, or the end
unfoldable pub IsParsed : Command → SoFar → ℕ → List ℕ → Result Stated Refusal → Type 0
IsParsed c f p behind (Err r) = first (grounds c f p behind) ≡ Refused (number_of r.reason) r.place
IsParsed c f p behind (Ok (stated.Line period common)) =
    (first (grounds c f p behind) ≡ Passes) × (c ≡ states_line) × (period ≡ word behind 0) × (common ≡ lcm (cycle f.network) (word behind 0))
IsParsed c f p behind (Ok (stated.Calls call)) =
    (first (grounds c f p behind) ≡ Passes)
    × (((c ≡ calls_by_offset) × (call ≡ call_of behind (stated_offset behind))) ⊎ ((c ≡ calls_by_ride) × (call ≡ call_of behind (ride_offset f.network behind))))
IsParsed c f p behind (Ok (stated.Edition edition)) =
    (first (grounds c f p behind) ≡ Passes) × (c ≡ states_edition) × (edition ≡ edition_operand behind)
IsParsed c f p behind (Ok stated.End) = (first (grounds c f p behind) ≡ Passes) × (c ≡ ends)

-- Reading comes to the part `rest` of a file with this network: it is what has been read before that part
abbrev pub ComesTo : List ℕ → List ℕ → Rows → Type 0
ComesTo file rest n = Reached file (so_far (net_of n)) (length file - length rest) rest

-- Whether a ground applies, as its test answers
unfoldable pub check_of : {A : Type 0} → Result A Refusal → Check
check_of (Ok passed) = Passes
check_of (Err r) = Refused (number_of r.reason) r.place
