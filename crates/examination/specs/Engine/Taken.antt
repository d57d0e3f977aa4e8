-- How the engine takes a sheet's bytes apart: into the starts where they are a whole number of starts that some network may have lines for,
-- and otherwise into one start more than any network has lines, which fits none.
use Rattle.std.specs.Prelude.{ℕ, ◌+◌, ◌*◌, ◌/◌, ◌%◌, Bool, ◌&&◌, List, eqb, ltb, ℤ, pos, length, take, replicate}
use Rattle.network.specs.Lists.{pick}
use Rattle.network.specs.Network.{word}
use Rattle.examination.specs.declared.Sheet.{Sheet}
use Rattle.examination.specs.Bytes.{signed, starts}

-- The start that begins at a place
unfoldable pub start_at : List ℕ → ℕ → ℤ
start_at bytes at = signed (word bytes at * 65536 + word bytes (at + 2))

-- One more than a network has lines
abbrev pub places : ℕ
places = 17

-- A whole number of starts, at most 16
unfoldable pub is_whole : ℕ → Bool
is_whole bytes = eqb (bytes % 4) 0 && ltb (bytes / 4) places

-- The sheet that the bytes stand for
unfoldable pub sheet_of : List ℕ → List ℤ
sheet_of bytes = pick (is_whole (length bytes)) (starts bytes) (replicate places (pos 0))

-- The sheet that is held: the first places of its row
unfoldable pub held : Sheet → List ℤ
held s = take s.count s.row
