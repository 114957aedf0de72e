-- What contracts see of a JSON source map.
use Rattle.std.specs.Prelude.{ℕ, List, Option, map, option_map, string_bytes, Vec, String}
use Rattle.std.specs.declared.alloc.Global.{Global}
use Rattle.oxc_sourcemap_parts.specs.Views.{texts_of, contents_of}
use Rattle.oxc_sourcemap_json.specs.declared.object.json_source_map.JSONSourceMap.{JSONSourceMap}
use Rattle.oxc_sourcemap_json.specs.declared.object.usual.UsualMap.{UsualMap}

-- the fields of the JSON object, as numbers, texts and lists
pub record JsonRecord : Type 0 where
  pub version : ℕ
  pub file : Option (List ℕ)
  pub mappings : List ℕ
  pub source_root : Option (List ℕ)
  pub sources : List (List ℕ)
  pub sources_content : Option (List (Option (List ℕ)))
  pub names : List (List ℕ)
  pub debug_id : Option (List ℕ)
  pub ignore_list : Option (List ℕ)

-- a list of strings
abbrev pub json_texts : Vec (String Global) Global → List (List ℕ)
json_texts texts = map string_bytes texts.items

-- a list of contents
abbrev pub json_content_list : Vec (Option (String Global)) Global → List (Option (List ℕ))
json_content_list contents = map (option_map string_bytes) contents.items

-- a list of ids, if there is one
abbrev pub json_ids : Option (Vec ℕ Global) → Option (List ℕ)
json_ids list = option_map (λ ids. ids.items) list

-- a list of contents, if there is one
abbrev pub json_contents : Option (Vec (Option (String Global)) Global) → Option (List (Option (List ℕ)))
json_contents contents = option_map (λ list. map (option_map string_bytes) list.items) contents

-- the fields of a stored JSON source map
abbrev pub json_record : JSONSourceMap → JsonRecord
json_record j = record {
  version = j.version;
  file = option_map string_bytes j.file;
  mappings = string_bytes j.mappings;
  source_root = option_map string_bytes j.source_root;
  sources = map string_bytes j.sources.items;
  sources_content = json_contents j.sources_content;
  names = map string_bytes j.names.items;
  debug_id = option_map string_bytes j.debug_id;
  ignore_list = option_map (λ list. list.items) j.ignore_list;
}

-- the fields of a usual map
abbrev pub usual_record : UsualMap → JsonRecord
usual_record m = record {
  version = 3;
  file = option_map string_bytes m.file;
  mappings = m.mappings.now;
  source_root = option_map string_bytes m.source_root;
  sources = texts_of m.sources;
  sources_content = option_map contents_of m.source_contents;
  names = texts_of m.names;
  debug_id = option_map string_bytes m.debug_id;
  ignore_list = option_map (λ list. list.items) m.ignore_list;
}
