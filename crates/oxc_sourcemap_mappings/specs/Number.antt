-- Digits, and the numbers that runs of digits spell (ECMA-426, "Base64 VLQ").
--
-- In the standard a byte outside the base64 alphabet and a number past 32 bits are errors. Here such a byte is the digit 63,
-- as in the Rust crate, and a run may have 13 digits: raw numbers have at most 63 bits, and numbers 62 and a sign.
-- That limit is a choice of this library.
use Rattle.std.specs.Prelude.{ℕ, ◌+◌, ◌-◌, ◌*◌, ◌/◌, ◌%◌, ◌^◌, Bool, false, ◌&&◌, List, [], ◌∷◌}
use Rattle.std.specs.Prelude.{length, slice_index, ℤ, pos, neg_ℤ, if◌then◌else◌, nat_lt, nat_le}
use Rattle.std.specs.Prelude.{◌==◌}

-- The value of a byte in the base64 alphabet, where `/` is 63, and 63 for every byte outside of it. (It is never asked for
-- `,` and `;`, which separate segments.)
unfoldable pub digit : ℕ → ℕ
digit byte =
    if nat_le 65 byte && nat_le byte 90 then byte - 65
    else if nat_le 97 byte && nat_le byte 122 then byte - 71
    else if nat_le 48 byte && nat_le byte 57 then byte + 4
    else if byte == 43 then 62
    else 63

-- a digit below 32 is the last of its run; one of 32 or more has the continuation bit, so another follows
abbrev pub ends_run : ℕ → Bool
ends_run d = nat_lt d 32

-- a digit without the continuation bit
abbrev pub payload : ℕ → ℕ
payload d = d % 32

-- the number whose digits in base 32 are the payloads, lowest first, the first of them at this exponent
abbrev pub raw_from : ℕ → List ℕ → ℕ
raw_from exponent [] = 0
raw_from exponent (d ∷ ds) = payload d * 32 ^ exponent + raw_from (exponent + 1) ds

-- the raw number of a run of digits
abbrev pub raw_number : List ℕ → ℕ
raw_number run = raw_from 0 run

-- The number of a raw number: the half of it, rounded down, and negative if the raw number is odd. There is one zero: the
-- raw number 1 gives it, too.
abbrev pub signed : ℕ → ℤ
signed raw = if raw % 2 == 1 then neg_ℤ (pos (raw / 2)) else pos (raw / 2)

-- the number of a run of digits
abbrev pub number : List ℕ → ℤ
number run = signed (raw_number run)

-- A run of more than 13 digits does not fit, nor does one whose 13th payload is above 7. So 63 bits hold each raw number
-- that fits.
abbrev pub is_fitting : List ℕ → Bool
is_fitting run = nat_le (length run) 13 && nat_le (payload (slice_index run 12)) 7

-- the last digit of a run has the continuation bit
abbrev pub is_open : List ℕ → Bool
is_open [] = false
is_open (d ∷ []) = nat_le 32 d
is_open (d ∷ e ∷ ds) = is_open (e ∷ ds)
