-- What stored strings, lists and parts stand for.
use Rattle.std.specs.Prelude.{ℕ, List, [], Option, None, map, option_map, Vec}
use Rattle.std.specs.declared.alloc.Global.{Global}
use Rattle.std.specs.declared.borrow.CowStr.{CowStr}
use Rattle.std.specs.Box.{boxed_slice_items}
use Rattle.std.specs.Cow.{cow_str_bytes}
use Rattle.oxc_sourcemap_tokens.specs.declared.token.TokenChunk.{TokenChunk}
use Rattle.oxc_sourcemap_parts.specs.Record.{MapRecord, Text}
use Rattle.oxc_sourcemap_parts.specs.declared.parts.SourceMapParts.{SourceMapParts}

-- a string, if there is one
abbrev pub text_of : Option (CowStr Global) → Option Text
text_of text = option_map cow_str_bytes text

-- a slice of strings
abbrev pub cow_texts : List (CowStr Global) → List Text
cow_texts texts = map cow_str_bytes texts

-- a list of names or sources
abbrev pub texts_of : Vec (CowStr Global) Global → List Text
texts_of texts = map cow_str_bytes texts.items

-- a list of contents
abbrev pub contents_of : Vec (Option (CowStr Global)) Global → List (Option Text)
contents_of contents = map (option_map cow_str_bytes) contents.items

-- chunks, if there are any
abbrev pub chunks_of : Option (Vec TokenChunk Global) → Option (List TokenChunk)
chunks_of chunks = option_map (λ v. v.items) chunks

-- an ignore list, if there is one
abbrev pub ids_of : Option (Vec ℕ Global) → Option (List ℕ)
ids_of list = option_map (λ v. v.items) list

-- the record of public parts
abbrev pub record_of_parts : SourceMapParts → MapRecord
record_of_parts p = record {
  file = text_of p.file;
  names = texts_of p.names;
  source_root = text_of p.source_root;
  sources = texts_of p.sources;
  source_contents = contents_of p.source_contents;
  tokens = boxed_slice_items p.tokens;
  token_chunks = chunks_of p.token_chunks;
  ignore_list = ids_of p.ignore_list;
  debug_id = text_of p.debug_id;
}

-- a map with nothing in it
abbrev pub empty_record : MapRecord
empty_record = record {
  file = None;
  names = [];
  source_root = None;
  sources = [];
  source_contents = [];
  tokens = [];
  token_chunks = None;
  ignore_list = None;
  debug_id = None;
}
