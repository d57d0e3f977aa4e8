-- Document 01, "The network file": what a file states, and its commands. A network is its edition (document 02, A.6), its lines' periods and its calls,
-- both in file order.
use Rattle.std.specs.Prelude.{ℕ, ◌+◌, ◌*◌, Bool, ◌&&◌, List, [], ◌∷◌, ◌++◌, eqb, length, get_or}
use Rattle.network.specs.declared.Call.{Call}
use Rattle.network.specs.Divisor.{common_cycle}
use Rattle.network.specs.Lists.{pick, any, keep, count_below}

-- Lines count from 0 in the order of `periods`; a call has the fields `line`, `stop` and `offset`. The edition (format version) says which commands
-- its file may have
pub record Net : Type 0 where
  pub edition : ℕ
  pub periods : List ℕ
  pub calls : List Call

-- The network of this edition with these periods and calls; a network in another edition, with other periods, or other calls. No other line builds a
-- network
abbrev pub net_with : ℕ → List ℕ → List Call → Net
net_with edition periods calls = record { edition = edition; periods = periods; calls = calls }

abbrev pub with_edition : Net → ℕ → Net
with_edition n edition = net_with edition n.periods n.calls

abbrev pub with_periods : Net → List ℕ → Net
with_periods n periods = net_with n.edition periods n.calls

abbrev pub with_calls : Net → List Call → Net
with_calls n calls = net_with n.edition n.periods calls

-- Document 02, A.6: the edition of a file that states none, and the last that is known
abbrev pub first_edition : ℕ
first_edition = 1

abbrev pub latest_edition : ℕ
latest_edition = 2

-- The network before the first command
abbrev pub empty_net : Net
empty_net = net_with first_edition [] []

-- The limits of document 01
abbrev pub max_lines : ℕ
max_lines = 16

abbrev pub max_period : ℕ
max_period = 1440

abbrev pub max_cycle : ℕ
max_cycle = 10080

abbrev pub max_stop : ℕ
max_stop = 63

-- .. and so many numbers of stops there are
abbrev pub stop_count : ℕ
stop_count = 64

abbrev pub max_offset : ℕ
max_offset = 65535

abbrev pub max_calls : ℕ
max_calls = 256

-- .. and of document 02, A.2: how often a line may call at a stop
abbrev pub max_calls_at_stop : ℕ
max_calls_at_stop = 2

-- .. so that a stop has at most so many calls
abbrev pub max_at_stop : ℕ
max_at_stop = max_lines * max_calls_at_stop

-- The common cycle: the least common multiple of all periods
unfoldable pub cycle : Net → ℕ
cycle n = common_cycle n.periods

-- The line calls at the stop
unfoldable pub calls_at : ℕ → ℕ → List Call → Bool
calls_at line stop cs = any (λ (c : Call). eqb c.line line && eqb c.stop stop) cs

-- How often it does
unfoldable pub how_often_at : ℕ → ℕ → List Call → ℕ
how_often_at line stop cs = length (keep (λ (c : Call). eqb c.line line && eqb c.stop stop) cs)

-- The line calls somewhere
unfoldable pub calls_anywhere : ℕ → List Call → Bool
calls_anywhere line cs = any (λ (c : Call). eqb c.line line) cs

-- The stop is served: some line calls there
unfoldable pub is_served : ℕ → List Call → Bool
is_served stop cs = any (λ (c : Call). eqb c.stop stop) cs

-- How many stops are served
unfoldable pub served_stops : Net → ℕ
served_stops n = count_below (λ stop. is_served stop n.calls) (max_stop + 1)

-- The offset of the line's latest call in the file, or `before` where the list has none
unfoldable pub latest_offset : ℕ → ℕ → List Call → ℕ
latest_offset line before [] = before
latest_offset line before (c ∷ cs) = latest_offset line (pick (eqb c.line line) c.offset before) cs

-- A number of two bytes from place `i` on, most significant byte first
unfoldable pub word : List ℕ → ℕ → ℕ
word bytes i = get_or bytes i 0 * 256 + get_or bytes (i + 1) 0

pub data Command : Type 0 where
  -- 4C period (2 bytes)
  states_line : Command
  -- 43 line (1), stop (1), offset (2)
  calls_by_offset : Command
  -- 46 line (1), stop (1), ride (2)
  calls_by_ride : Command
  -- 45
  ends : Command
  -- 56 edition (1), of document 02, A.6
  states_edition : Command
  unknown : Command

unfoldable pub command : ℕ → Command
command b =
    pick (eqb b 0x4C) states_line
    (pick (eqb b 0x43) calls_by_offset
    (pick (eqb b 0x46) calls_by_ride (pick (eqb b 0x45) ends (pick (eqb b 0x56) states_edition unknown))))

-- How many bytes of operands a command has
unfoldable pub operand_bytes : Command → ℕ
operand_bytes states_line = 2
operand_bytes calls_by_offset = 4
operand_bytes calls_by_ride = 4
operand_bytes ends = 0
operand_bytes states_edition = 1
operand_bytes unknown = 0

-- The operands of 43 and 46 ..
unfoldable pub line_operand : List ℕ → ℕ
line_operand operands = get_or operands 0 0

unfoldable pub stop_operand : List ℕ → ℕ
stop_operand operands = get_or operands 1 0

-- .. whose offset is stated by 43, and is by 46 that of the same line's latest call plus the ride
unfoldable pub stated_offset : List ℕ → ℕ
stated_offset operands = word operands 2

unfoldable pub ride_offset : Net → List ℕ → ℕ
ride_offset n operands = latest_offset (line_operand operands) 0 n.calls + word operands 2

-- The operand of 56
unfoldable pub edition_operand : List ℕ → ℕ
edition_operand operands = get_or operands 0 0

-- A network with one line or one call more
unfoldable pub with_line : Net → ℕ → Net
with_line n period = with_periods n (n.periods ++ (period ∷ []))

unfoldable pub with_call : Net → Call → Net
with_call n c = with_calls n (n.calls ++ (c ∷ []))

-- The call that the operands of 43 or 46 state, with its offset
unfoldable pub call_of : List ℕ → ℕ → Call
call_of operands offset = record { line = line_operand operands; stop = stop_operand operands; offset = offset }

-- What has been read of a file: the network so far. A command that only later grounds ask about would be counted here
pub record SoFar : Type 0 where
  pub network : Net

-- No other line builds one; and what has been read, with another network
abbrev pub so_far : Net → SoFar
so_far network = record { network = network }

abbrev pub with_network : SoFar → Net → SoFar
with_network f network = so_far network

-- Before the first command
abbrev pub nothing_read : SoFar
nothing_read = so_far empty_net

-- .. and after one with these operands
unfoldable pub extend : Command → SoFar → List ℕ → SoFar
extend states_line f operands = with_network f (with_line f.network (word operands 0))
extend calls_by_offset f operands = with_network f (with_call f.network (call_of operands (stated_offset operands)))
extend calls_by_ride f operands = with_network f (with_call f.network (call_of operands (ride_offset f.network operands)))
extend ends f operands = f
extend states_edition f operands = with_network f (with_edition f.network (edition_operand operands))
extend unknown f operands = f
