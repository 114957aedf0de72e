-- A map by itself, mended: its members and its ids. Its tokens stay as they are listed.
use Rattle.std.specs.Prelude.{List, ◌++◌, map, Option, ℕ, Result, Ok}
use Rattle.serde_json.specs.Data.{Members, object}
use Rattle.oxc_sourcemap_tokens.specs.declared.errors.error.Error.{Error}
use Rattle.oxc_sourcemap_tokens.specs.Errors.{unless}
use Rattle.oxc_sourcemap_mappings.specs.Reading.{reading}
use Rattle.oxc_sourcemap_parts.specs.Record.{MapRecord}
use Rattle.oxc_sourcemap_json.specs.JsonRecord.{JsonRecord}
use Rattle.oxc_sourcemap_json.specs.Shape.{◌>>=◌, shape}
use Rattle.oxc_sourcemap_json.specs.Decoded.{with_tokens, json_fault}
use Rattle.oxc_sourcemap_found.specs.declared.mending.mend.Mend.{Mend}
use Rattle.oxc_sourcemap_found.specs.declared.mending.mend.MendKind.{MendKind}
use Rattle.oxc_sourcemap_found.specs.InRange.{map_in_range, source_kinds, name_kinds}
use Rattle.oxc_sourcemap_found.specs.Mended.{MendedMembers, mended_members}

-- A map by itself, and what was mended in it.
pub record MendedMap : Type 0 where
  pub map : MapRecord
  pub kinds : List MendKind

-- what was mended in a section, or outside of sections
abbrev pub mends_in : Option ℕ → List MendKind → List Mend
mends_in section kinds = map (λ kind. record { section = section; kind = kind }) kinds

-- The map of a JSON source map, or its first fault, as the exact reader has it, but that ids in the mappings may be as large as
-- ids can be.
abbrev pub decoded_with_any_ids : JsonRecord → Result MapRecord Error
decoded_with_any_ids j = unless (json_fault j) (with_tokens j (reading j.mappings 4294967295 4294967295))

-- a map with its ids in range, and what was mended: before, and in these
abbrev pub mended_map : List MendKind → MapRecord → MendedMap
mended_map kinds r = record { map = map_in_range r; kinds = kinds ++ source_kinds r ++ name_kinds r }

-- the map of an object whose members are mended, or its first fault
abbrev pub map_of_members : MendedMembers → Result MendedMap Error
map_of_members m = do
  fields ← shape (object m.members)
  r ← decoded_with_any_ids fields
  Ok (mended_map m.kinds r)

-- the map of an object, mended, or its first fault
abbrev pub plain_map : Members → Result MendedMap Error
plain_map ms = map_of_members (mended_members ms)
