-- Document 01, "Grounds for refusing", as a relation: commands are checked in file order, each command's grounds in their order, and the first
-- ground that applies, or the end without one, decides what the file gives. `read_file` computes it: `gives_what_is_read` of
-- proofs/Laws/Reading.antt.
use Rattle.std.specs.Prelude.{ℕ, ◌+◌, ◌≡◌, List, [], ◌∷◌, drop}
use Rattle.network.specs.Network.{SoFar, nothing_read, ends, command, operand_bytes, extend}
use Rattle.network.specs.Grounds.{Passes, Refused, first, grounds}
use Rattle.network.specs.Reading.{Reading, accepted, refused}

-- Reading `file` comes to place `p`, where `rest` stands and a command is due, with `f` read before it
pub data Reached (file : List ℕ) : SoFar → ℕ → List ℕ → Type 0 where
  start : Reached file nothing_read 0 file
  -- a command to which no ground applies and that isn't the end hands on to what stands behind it
  next : {f : SoFar} {p b : ℕ} {behind : List ℕ}
      → Reached file f p (b ∷ behind)
      → first (grounds (command b) f p behind) ≡ Passes
      → (command b ≡ ends → ⊥)
      → Reached file (extend (command b) f behind) (p + 1 + operand_bytes (command b)) (drop (operand_bytes (command b)) behind)

-- What a file gives
pub data Gives (file : List ℕ) : Reading → Type 0 where
  -- 1: no byte where a command is due, at the length
  runs_out : {f : SoFar} {p : ℕ} → Reached file f p [] → Gives file (refused 1 p)
  -- the first ground of a command that applies
  refuses : {f : SoFar} {p b : ℕ} {behind : List ℕ} {number place : ℕ}
      → Reached file f p (b ∷ behind)
      → first (grounds (command b) f p behind) ≡ Refused number place
      → Gives file (refused number place)
  -- a file is accepted when no ground of its author applies
  accepts : {f : SoFar} {p b : ℕ} {behind : List ℕ}
      → Reached file f p (b ∷ behind)
      → command b ≡ ends
      → first (grounds (command b) f p behind) ≡ Passes
      → Gives file (accepted f.network)
