-- The numbers of an item: runs of base64 digits, each with five bits, the lowest first (ECMA-426, "Base64 VLQ").
use Rattle.std.specs.Prelude.{ℕ, ◌+◌, ◌-◌, ◌*◌, ◌%◌, ◌&&◌, List, [], ◌∷◌, Option, Some, None}
use Rattle.std.specs.Prelude.{Result, Ok, Err, if◌then◌else◌, nat_lt, nat_le, ◌==◌}
use Rattle.oxc_sourcemap_scopes.specs.declared.errors.ScopesError.{ScopesError}
use Rattle.oxc_sourcemap_scopes.specs.declared.errors.ScopesFaultKind.TheVariants.{NotADigit}
use Rattle.oxc_sourcemap_scopes.specs.declared.errors.ScopesFaultKind.TheVariants.{CutShort}
use Rattle.oxc_sourcemap_scopes.specs.declared.errors.ScopesFaultKind.TheVariants.{TooLarge}
use Rattle.oxc_sourcemap_scopes.specs.Faults.{error_at}

-- the digit of a byte in the base64 alphabet, if it has one
abbrev pub base64_digit : ℕ → Option ℕ
base64_digit byte =
    if nat_le 65 byte && nat_le byte 90 then Some (byte - 65)
    else if nat_le 97 byte && nat_le byte 122 then Some (byte - 71)
    else if nat_le 48 byte && nat_le byte 57 then Some (byte + 4)
    else if byte == 43 then Some 62
    else if byte == 47 then Some 63
    else None

-- this number, and those that are read after it
abbrev pub before_others : ℕ → Result (List ℕ) ScopesError → Result (List ℕ) ScopesError
before_others n (Ok ns) = Ok (n ∷ ns)
before_others n (Err e) = Err e

-- The numbers that these bytes spell. Of the first a part is read, which is `raw`, and its next digit counts for `scale`: 1, 32,
-- 1024 and so on. A digit below 32 ends its number, which has seven digits at most. `at` is where the item begins.
unfoldable pub numbers_after : ℕ → ℕ → ℕ → List ℕ → Result (List ℕ) ScopesError
numbers_after at raw scale [] = if scale == 1 then Ok [] else Err (error_at CutShort at)
numbers_after at raw scale (byte ∷ bytes) = elim (base64_digit byte) [
  | None ↦ Err (error_at NotADigit at)
  | Some digit ↦
      if nat_lt 1073741824 scale then Err (error_at TooLarge at)
      else (let sum = raw + digit % 32 * scale in
      if nat_lt digit 32 then before_others sum (numbers_after at 0 1 bytes) else numbers_after at sum (scale * 32) bytes)
]

-- the numbers of an item that begins at this byte of the text
abbrev pub numbers_of : ℕ → List ℕ → Result (List ℕ) ScopesError
numbers_of at item = numbers_after at 0 1 item
