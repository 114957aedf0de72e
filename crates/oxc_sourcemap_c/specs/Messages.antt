-- Messages in a buffer.
use Rattle.std.specs.Prelude.{◌≡◌, ◌⊎◌, ℕ, List, length}
use Rattle.oxc_sourcemap_c.specs.Listed.{filled}

-- the length of a message, with the message in the buffer; or 0 for want of memory, and the buffer as it was
abbrev pub IsMessage : List ℕ → List ℕ → List ℕ → ℕ → Type 0
IsMessage text old new n = ((n ≡ length text) × (new ≡ filled text old)) ⊎ ((n ≡ 0) × (new ≡ old))
