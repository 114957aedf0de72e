-- The map of a JSON source map, or its first fault.
use Rattle.std.specs.Prelude.{ℕ, List, [], ◌∷◌, length, Option, Some, None, option_map, Result, Ok}
use Rattle.std.specs.Prelude.{Err, if◌then◌else◌, nat_lt, ◌==◌}
use Rattle.std.specs.Option.{option_map_or, unwrap_or}
use Rattle.oxc_sourcemap_tokens.specs.declared.errors.error.Error.{Error}
use Rattle.oxc_sourcemap_tokens.specs.declared.errors.error.Error.TheVariants.{BadJson}
use Rattle.oxc_sourcemap_tokens.specs.declared.errors.error.Error.TheVariants.{BadSourceReference}
use Rattle.oxc_sourcemap_tokens.specs.declared.errors.error.JsonFault.TheVariants.{Version}
use Rattle.oxc_sourcemap_tokens.specs.Errors.{unless}
use Rattle.oxc_sourcemap_tokens.specs.Token.{TokenRecord}
use Rattle.oxc_sourcemap_json.specs.JsonRecord.{JsonRecord}
use Rattle.oxc_sourcemap_mappings.specs.Reading.{reading}
use Rattle.oxc_sourcemap_parts.specs.Record.{MapRecord}

-- the first id of a list that is not below a count
abbrev pub first_not_below : ℕ → List ℕ → Option ℕ
first_not_below count [] = None
first_not_below count (id ∷ ids) = if nat_lt id count then first_not_below count ids else Some id

-- the entry of the ignore list that is reported as out of range
abbrev pub ignore_list_fault : JsonRecord → Option ℕ
ignore_list_fault j = option_map_or (first_not_below (length j.sources)) j.ignore_list None

-- the map of these fields and tokens, without chunks; a missing list of contents is an empty one
abbrev pub decoded_record : JsonRecord → List TokenRecord → MapRecord
decoded_record j tokens = record {
  file = j.file;
  names = j.names;
  source_root = j.source_root;
  sources = j.sources;
  source_contents = unwrap_or j.sources_content [];
  tokens = tokens;
  token_chunks = None;
  ignore_list = j.ignore_list;
  debug_id = j.debug_id;
}

-- the map of the tokens, or the fault of the mappings
abbrev pub with_tokens : JsonRecord → Result (List TokenRecord) Error → Result MapRecord Error
with_tokens j (Ok tokens) = Ok (decoded_record j tokens)
with_tokens j (Err fault) = Err fault

-- The first fault of a JSON source map besides those of its mappings: a version other than 3, or else an entry of the ignore
-- list that is out of range.
abbrev pub json_fault : JsonRecord → Option Error
json_fault j =
    if j.version == 3 then option_map BadSourceReference (ignore_list_fault j) else Some (BadJson (Version j.version))

-- The map of a JSON source map, or its first fault; those of its mappings come last.
abbrev pub decoded : JsonRecord → Result MapRecord Error
decoded j = unless (json_fault j) (with_tokens j (reading j.mappings (length j.names) (length j.sources)))
