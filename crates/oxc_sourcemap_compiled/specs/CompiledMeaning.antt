-- What the bytes of a compiled map mean.
use Rattle.std.specs.Prelude.{ℕ, ◌+◌, ◌-◌, ◌*◌, ◌/◌, ◌%◌, List, [], ◌∷◌, ◌++◌, map, take, drop}
use Rattle.std.specs.Prelude.{length}
use Rattle.std.specs.Prelude.{Option, Some, None, Result, Ok, Err, nat_le, nat_lt, min, slice_get}
use Rattle.std.specs.Prelude.{◌&&◌, if◌then◌else◌}
use Rattle.std.specs.List.{range_with_len}
use Rattle.std.specs.Option.{option_and_then, unwrap_or}
use Rattle.std.specs.Str.{is_utf8}
use Rattle.oxc_sourcemap_tokens.specs.Token.{TokenRecord}
use Rattle.oxc_sourcemap_parts.specs.Record.{MapRecord, Text}
use Rattle.oxc_sourcemap_compiled.specs.declared.errors.CompiledError.{CompiledError}
use Rattle.oxc_sourcemap_compiled.specs.declared.fields.Row.{Row}
use Rattle.oxc_sourcemap_compiled.specs.declared.layout.Header.{Header}
use Rattle.oxc_sourcemap_compiled.specs.Numbers.{number_at}
use Rattle.oxc_sourcemap_compiled.specs.Layout.{header_in, offsets_base, ignored_base, texts_base}
use Rattle.oxc_sourcemap_compiled.specs.Layout.{line_numbers_base, compiled_fault, block_size}
use Rattle.oxc_sourcemap_compiled.specs.Fields.{value_in, row_in}

-- ---- tokens
-- the id that a stored number stands for: it is one more, and 0 for none
abbrev pub stored_id : ℕ → Option ℕ
stored_id n = if nat_lt 0 n then Some (n - 1) else None

-- the token of this number in a block, on a line
abbrev pub token_at : List ℕ → Row → ℕ → ℕ → TokenRecord
token_at bytes row line j = record {
  dst_line = line;
  dst_col = value_in bytes row row.column j;
  src_line = value_in bytes row row.src_line j;
  src_col = value_in bytes row row.src_col j;
  source_id = stored_id (value_in bytes row row.source j);
  name_id = stored_id (value_in bytes row row.name j);
}

-- the token at an index, on a line
unfoldable pub token_in : List ℕ → Header → ℕ → ℕ → TokenRecord
token_in bytes h line i = token_at bytes (row_in bytes h (i / block_size h.tokens)) line (i % block_size h.tokens)

-- where the tokens of an entry of lines begin among all tokens; past the last entry, where its tokens end
abbrev pub start_in : List ℕ → ℕ → ℕ
start_in bytes k = number_at 4 bytes (88 + 4 * k)

-- the number of the line of an entry, where these are listed
abbrev pub number_in_list : List ℕ → Header → ℕ → ℕ
number_in_list bytes h k = number_at 4 bytes (line_numbers_base h + 4 * k)

-- the line of an entry
abbrev pub line_in : List ℕ → Header → ℕ → ℕ
line_in bytes h k = if h.has_line_numbers then number_in_list bytes h k else k

-- where the tokens of an entry of lines end: where the next one begins, and not past the last token
abbrev pub entry_end : List ℕ → Header → ℕ → ℕ
entry_end bytes h k = min (start_in bytes (k + 1)) h.tokens

-- where they begin, and not past their end
abbrev pub entry_begin : List ℕ → Header → ℕ → ℕ
entry_begin bytes h k = min (start_in bytes k) (entry_end bytes h k)

-- the tokens of an entry of lines
abbrev pub entry_tokens : List ℕ → Header → ℕ → List TokenRecord
entry_tokens bytes h k =
    let begin = entry_begin bytes h k in
    map (token_in bytes h (line_in bytes h k)) (range_with_len begin (entry_end bytes h k - begin))

-- lists, one after the other
abbrev pub joined : {A : Type 0} → List (List A) → List A
joined [] = []
joined (xs ∷ more) = xs ++ joined more

-- the tokens, entry by entry
abbrev pub tokens_in : List ℕ → Header → List TokenRecord
tokens_in bytes h = joined (map (entry_tokens bytes h) (range_with_len 0 h.lines))

-- ---- texts
-- where a text begins among the texts; past the last one, where it ends
abbrev pub offset_in : List ℕ → Header → ℕ → ℕ
offset_in bytes h t = number_at 4 bytes (offsets_base h + 4 * t)

-- the part of a list from one index to another; none where it has none
unfoldable pub part_between : List ℕ → ℕ → ℕ → Option Text
part_between all start end = if nat_le start end && nat_le end (length all) then Some (take (end - start) (drop start all)) else None

-- A text by its number among all: sources, then contents, names, file, source root and debug id. Bytes that `compile` did not make may
-- have texts that go on into the last sixteen bytes.
abbrev pub text_in : List ℕ → Header → ℕ → Option Text
text_in bytes h t = part_between (drop (texts_base h) bytes) (offset_in bytes h t) (offset_in bytes h (t + 1))

-- a text that may be absent: there is one byte in front of it where it is there
abbrev pub optional : Text → Option Text
optional [] = None
optional (b ∷ text) = Some text

abbrev pub optional_in : List ℕ → Header → ℕ → Option Text
optional_in bytes h t = option_and_then optional (text_in bytes h t)

-- the text of a source or a name; empty where the bytes have none
abbrev pub listed_in : List ℕ → Header → ℕ → Text
listed_in bytes h t = unwrap_or (text_in bytes h t) []

-- bytes as a text; none where they are not UTF-8
abbrev pub utf8_text : Text → Option Text
utf8_text bytes = if is_utf8 bytes then Some bytes else None

-- a text that a call lends, by its index in a list of this length; none past the list, and where it is not UTF-8
abbrev pub listed_text : List Text → ℕ → Option Text
listed_text texts i = option_and_then utf8_text (slice_get texts i)

abbrev pub optional_text : Option Text → Option Text
optional_text text = option_and_then utf8_text text

-- ---- the whole
-- an entry of the ignore list
abbrev pub ignored_in : List ℕ → Header → ℕ → ℕ
ignored_in bytes h i = number_at 4 bytes (ignored_base h + 4 * i)

abbrev pub ignore_list_in : List ℕ → Header → Option (List ℕ)
ignore_list_in bytes h = if h.has_ignore_list then Some (map (ignored_in bytes h) (range_with_len 0 h.ignored)) else None

-- the map in bytes with this header
abbrev pub map_in : List ℕ → Header → MapRecord
map_in bytes h = record {
  file = optional_in bytes h (2 * h.sources + h.names);
  names = map (λ i. listed_in bytes h (2 * h.sources + i)) (range_with_len 0 h.names);
  source_root = optional_in bytes h (2 * h.sources + h.names + 1);
  sources = map (listed_in bytes h) (range_with_len 0 h.sources);
  source_contents = map (λ i. optional_in bytes h (h.sources + i)) (range_with_len 0 h.sources);
  tokens = tokens_in bytes h;
  token_chunks = None;
  ignore_list = ignore_list_in bytes h;
  debug_id = optional_in bytes h (2 * h.sources + h.names + 2);
}

-- A compiled map: a map, and what is known of the text that it was read from, its number of bytes and a stamp.
pub record CompiledRecord : Type 0 where
  pub content : MapRecord
  pub text_length : ℕ
  pub stamp : List ℕ

-- the compiled map in bytes
abbrev pub compiled_in : List ℕ → CompiledRecord
compiled_in bytes = record {
  content = map_in bytes (header_in bytes);
  text_length = number_at 8 bytes 16;
  stamp = take 32 (drop 24 bytes);
}

abbrev pub compiled_unless : Option CompiledError → CompiledRecord → Result CompiledRecord CompiledError
compiled_unless None compiled = Ok compiled
compiled_unless (Some error) compiled = Err error

-- what bytes mean: a compiled map, or the first reason that they are none
abbrev pub compiled_meaning : List ℕ → Result CompiledRecord CompiledError
compiled_meaning bytes = compiled_unless (compiled_fault bytes) (compiled_in bytes)
