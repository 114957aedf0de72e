-- Texts that only grow at their end. Only private clauses cite this module.
use Rattle.std.specs.Prelude.{◌≡◌, ◌++◌, ℕ, List, String, string_bytes}
use Rattle.std.specs.declared.alloc.Global.{Global}

-- the text is the front, and any more
abbrev pub BeginsWith : List ℕ → List ℕ → Type 0
BeginsWith text front = (more : List ℕ) × (text ≡ front ++ more)

-- Whatever the old text begins with, the new one begins with: what was added can be cut off again.
abbrev pub OnlyAdds : String Global → String Global → Type 0
OnlyAdds old new = (front : List ℕ) → BeginsWith (string_bytes old) front → BeginsWith (string_bytes new) front
