-- A section of an indexed map (ECMA-426, "Index source map"): where it begins, and its map.
use Rattle.std.specs.Prelude.{ℕ, List, codes, Bool, not, ◌&&◌, Option, Some, None, Result}
use Rattle.std.specs.Prelude.{if◌then◌else◌, is_some}
use Rattle.std.specs.Option.{option_map, option_and_then}
use Rattle.serde_json.specs.Data.{Data}
use Rattle.serde_json.specs.Find.{get, as_object}
use Rattle.oxc_sourcemap_tokens.specs.declared.errors.error.Error.{Error}
use Rattle.oxc_sourcemap_tokens.specs.declared.errors.error.Field.TheVariants.{Sections}
use Rattle.oxc_sourcemap_tokens.specs.declared.errors.error.Field.TheVariants.{Offset as OffsetField}
use Rattle.oxc_sourcemap_tokens.specs.declared.errors.error.Field.TheVariants.{Map as MapField}
use Rattle.oxc_sourcemap_json.specs.Shape.{◌>>=◌, or_misshapen, present, as_id}
use Rattle.oxc_sourcemap_tokens.specs.declared.position.Position.{Position}

-- A value is an indexed map if its `sections` is there and is not null.
abbrev pub is_indexed : Data → Bool
is_indexed d = is_some (present (get (codes "sections") d))

-- the whole number of 0 to 4294967295 at a key of a value
abbrev pub number_at : List ℕ → Data → Option ℕ
number_at key d = option_and_then as_id (get key d)

-- a value as a position: an object with a line and a column
abbrev pub as_position : Data → Option Position
as_position d = option_and_then (λ line. option_map (λ column. record { line = line; column = column }) (number_at (codes "column") d)) (number_at (codes "line") d)

-- the offset of a section, which has to be an object
abbrev pub offset_in : Data → Result Position Error
offset_in d = do
  members ← or_misshapen Sections (as_object d)
  or_misshapen OffsetField (option_and_then as_position (get (codes "offset") d))

-- A section's map is an object that is not an indexed map.
abbrev pub is_plain : Data → Bool
is_plain d = not (is_indexed d) && is_some (as_object d)

-- a value as the map of a section: an object that is not an indexed map
abbrev pub as_plain : Data → Option Data
as_plain d = if is_plain d then Some d else None

-- the value of a section's map
abbrev pub map_in : Data → Result Data Error
map_in d = or_misshapen MapField (option_and_then as_plain (get (codes "map") d))
