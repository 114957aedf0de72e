-- Bytes that a JSON string has as they are. Only private clauses cite this module.
use Rattle.std.specs.Prelude.{ℕ, Bool, not, ◌||◌, ◌==◌, nat_lt, List, ◌++◌, take, replicate}

-- a byte that a JSON string has only escaped: the quote, the backslash, and the bytes below 32
abbrev pub needs_escape : ℕ → Bool
needs_escape b = (b == 34) || ((b == 92) || nat_lt b 32)

abbrev pub is_plain : ℕ → Bool
is_plain b = not (needs_escape b)

-- the first 16 bytes of a text, with spaces behind a shorter one
abbrev pub block_of : List ℕ → List ℕ
block_of text = take 16 (text ++ replicate 16 32)
