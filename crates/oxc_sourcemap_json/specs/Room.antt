-- Room for the JSON text of a map. Only private clauses cite this module.
use Rattle.std.specs.Prelude.{ℕ, ◌+◌, ◌≤◌, Option, length, min}
use Rattle.std.specs.Option.{option_map_or}
use Rattle.std.specs.Cow.{cow_str_bytes}
use Rattle.std.specs.declared.alloc.Global.{Global}
use Rattle.std.specs.declared.borrow.CowStr.{CowStr}

-- the least room of a string in a list: its bytes, two quotes and a comma
abbrev pub string_room : CowStr Global → ℕ
string_room text = length (cow_str_bytes text) + 3

-- the least room of a content in a list: a string, or `null` and a comma
abbrev pub content_room : Option (CowStr Global) → ℕ
content_room content = option_map_or string_room content 5

-- room for at least this many bytes, or for as many as a number of 64 bits can count
abbrev pub IsRoomFor : ℕ → ℕ → Type 0
IsRoomFor needed room = min needed 18446744073709551615 ≤ room
