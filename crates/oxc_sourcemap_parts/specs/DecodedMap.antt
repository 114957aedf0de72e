-- What a map means: strings in place of ids, after the Decoded Source Map Record of ECMA-426. Unlike there, sources are as
-- listed and not resolved, the ignore list is one of indices, and a name belongs to an original position.
use Rattle.std.specs.Prelude.{ℕ, List, [], ◌∷◌, map, slice_get, Option, None}
use Rattle.std.specs.Option.{option_map, option_and_then}
use Rattle.oxc_sourcemap_tokens.specs.Token.{TokenRecord}
use Rattle.oxc_sourcemap_parts.specs.Record.{Text, MapRecord}

-- a source: its path or URL as listed, and its content where that is known
pub record DecodedSource : Type 0 where
  pub path : Text
  pub content : Option Text

-- what a mapped mapping points to
pub record OriginalPosition : Type 0 where
  pub source : DecodedSource
  pub src_line : ℕ
  pub src_col : ℕ
  pub name : Option Text

-- a generated position, and what it points to; nothing where it is unmapped
pub record DecodedMapping : Type 0 where
  pub dst_line : ℕ
  pub dst_col : ℕ
  pub original : Option OriginalPosition

-- the generated line of a mapping
abbrev pub mapping_line : DecodedMapping → ℕ
mapping_line e = e.dst_line

-- the generated column of a mapping
abbrev pub mapping_column : DecodedMapping → ℕ
mapping_column e = e.dst_col

-- what a map means
pub record DecodedMap : Type 0 where
  pub file : Option Text
  pub source_root : Option Text
  pub debug_id : Option Text
  pub ignore_list : Option (List ℕ)
  pub sources : List DecodedSource
  pub mappings : List DecodedMapping

-- Each source with the content listed for it. A content that is not listed is none, and one after the last source is
-- ignored.
abbrev pub sources_of : List Text → List (Option Text) → List DecodedSource
sources_of [] contents = []
sources_of (path ∷ paths) [] = record { path = path; content = None } ∷ sources_of paths []
sources_of (path ∷ paths) (content ∷ contents) = record { path = path; content = content } ∷ sources_of paths contents

-- the name of a token, or none if it has no id, or one out of range
abbrev pub name_of : List Text → TokenRecord → Option Text
name_of names t = option_and_then (slice_get names) t.name_id

-- what a token with this source points to
abbrev pub original_at : List Text → TokenRecord → DecodedSource → OriginalPosition
original_at names t source = record { source = source; src_line = t.src_line; src_col = t.src_col; name = name_of names t }

-- what a token points to, or none if it has no source id, or one out of range
abbrev pub original_of : List DecodedSource → List Text → TokenRecord → Option OriginalPosition
original_of sources names t = option_map (original_at names t) (option_and_then (slice_get sources) t.source_id)

-- a token with its ids looked up; an id out of range is taken as none
abbrev pub mapping_of : List DecodedSource → List Text → TokenRecord → DecodedMapping
mapping_of sources names t = record { dst_line = t.dst_line; dst_col = t.dst_col; original = original_of sources names t }

-- the decoded map of a record; an id out of range counts as none
abbrev pub decoded_map_of : MapRecord → DecodedMap
decoded_map_of r = record {
  file = r.file;
  source_root = r.source_root;
  debug_id = r.debug_id;
  ignore_list = r.ignore_list;
  sources = sources_of r.sources r.source_contents;
  mappings = map (mapping_of (sources_of r.sources r.source_contents) r.names) r.tokens;
}
