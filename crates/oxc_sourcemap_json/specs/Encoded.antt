-- The JSON source map of a map, or the fault of its tokens and chunks.
use Rattle.std.specs.Prelude.{List, Option, Some, None, Result, Ok, if◌then◌else◌}
use Rattle.std.specs.List.{list_any}
use Rattle.std.specs.Option.{is_some}
use Rattle.oxc_sourcemap_tokens.specs.declared.errors.error.Error.{Error}
use Rattle.oxc_sourcemap_tokens.specs.Errors.{unless}
use Rattle.oxc_sourcemap_json.specs.JsonRecord.{JsonRecord}
use Rattle.oxc_sourcemap_mappings.specs.Canonical.{canonical}
use Rattle.oxc_sourcemap_mappings.specs.ChunkTexts.{writing_fault}
use Rattle.oxc_sourcemap_parts.specs.Record.{Text, MapRecord}

-- the list of contents, if some content is known
abbrev pub written_contents : List (Option Text) → Option (List (Option Text))
written_contents contents = if list_any is_some contents then Some contents else None

-- the fields of a map, with this mappings text
abbrev pub record_with : MapRecord → Text → JsonRecord
record_with r mappings = record {
  version = 3;
  file = r.file;
  mappings = mappings;
  source_root = r.source_root;
  sources = r.sources;
  sources_content = written_contents r.source_contents;
  names = r.names;
  debug_id = r.debug_id;
  ignore_list = r.ignore_list;
}

-- the fields of a map, its tokens written canonically
abbrev pub encoded_record : MapRecord → JsonRecord
encoded_record r = record_with r (canonical r.tokens)

-- the JSON source map of a map, or the fault of its tokens and chunks
abbrev pub encoded : MapRecord → Result JsonRecord Error
encoded r = unless (writing_fault r.tokens r.token_chunks) (Ok (encoded_record r))
