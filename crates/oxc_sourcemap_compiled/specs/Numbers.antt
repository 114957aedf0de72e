-- Numbers in bytes, the lowest byte first.
use Rattle.std.specs.Prelude.{ℕ, zero, suc, ◌+◌, ◌*◌, List, get_or}

-- the number of this many bytes from a place on
unfoldable pub number_at : ℕ → List ℕ → ℕ → ℕ
number_at zero bytes at = 0
number_at (suc width) bytes at = get_or bytes at 0 + 256 * number_at width bytes (at + 1)
