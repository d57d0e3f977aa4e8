-- What the contracts of counts of bytes cite.
use Rattle.std.specs.Prelude.{◌≡◌, ℕ, ◌≤◌, ◌==◌, List, length, take, position, unwrap_or}

-- `&xs[..n]` is in bounds and has n bytes. The second part follows from the first, and spares a caller's `&buffer[..n]` a proof file.
abbrev pub IsPrefixLen : ℕ → List ℕ → Type 0
IsPrefixLen n xs = (n ≤ length xs) × (n ≡ length (take n xs))

-- The place of the first such byte, or the length where there is none
abbrev pub place_of : ℕ → List ℕ → ℕ
place_of glyph text = unwrap_or (position (λ byte. byte == glyph) text) (length text)
