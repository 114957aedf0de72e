-- The numbers of arguments.
use Rattle.std.specs.Prelude.{ℕ, ◌&&◌, Bool, false, List, [], ◌∷◌, Option, Some, None}
use Rattle.std.specs.Prelude.{if◌then◌else◌, nat_lt}
use Rattle.std.specs.List.{list_all}
use Rattle.std.specs.Char.{digit_value}
use Rattle.std.specs.Str.Parse.{digits_value}

-- a byte that is a decimal digit
abbrev pub is_decimal_digit : ℕ → Bool
is_decimal_digit byte = nat_lt (digit_value byte) 10

-- one or more decimal digits and nothing else
abbrev pub is_numeral : List ℕ → Bool
is_numeral [] = false
is_numeral (byte ∷ bytes) = is_decimal_digit byte && list_all is_decimal_digit bytes

-- the number of an argument of decimal digits, if it is at most 4294967295
abbrev pub number_of : List ℕ → Option ℕ
number_of argument =
    if is_numeral argument && nat_lt (digits_value 10 argument) 4294967296 then Some (digits_value 10 argument) else None
