-- Maps whose contents lie apart.
use Rattle.std.specs.Prelude.{[], None}
use Rattle.oxc_sourcemap_parts.specs.Record.{MapRecord}

-- a map without contents
abbrev pub without_contents : MapRecord → MapRecord
without_contents r = record {
  file = r.file;
  names = r.names;
  source_root = r.source_root;
  sources = r.sources;
  source_contents = [];
  tokens = r.tokens;
  token_chunks = r.token_chunks;
  ignore_list = r.ignore_list;
  debug_id = r.debug_id;
}

-- its sources with their contents, and nothing else
abbrev pub contents_alone : MapRecord → MapRecord
contents_alone r = record {
  file = None;
  names = [];
  source_root = None;
  sources = r.sources;
  source_contents = r.source_contents;
  tokens = [];
  token_chunks = None;
  ignore_list = None;
  debug_id = None;
}
