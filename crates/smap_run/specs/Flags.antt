-- The flag of a port after a call.
use Rattle.std.specs.Prelude.{ℕ, ◌&&◌, ◌||◌, Bool, true, not, nat_eq, Result, Ok, Err}

-- the flag after a read: a read that fails sets it, and nothing else does
abbrev pub read_flag : {E : Type 0} → Bool → Result ℕ E → Bool
read_flag was (Ok n) = was
read_flag was (Err e) = true

-- The flag after a write: a write that fails sets it, and one that takes none of some bytes. The last number is the length of
-- what was to be written.
abbrev pub write_flag : {E : Type 0} → Bool → Result ℕ E → ℕ → Bool
write_flag was (Ok n) len = was || (nat_eq n 0 && not (nat_eq len 0))
write_flag was (Err e) len = true
