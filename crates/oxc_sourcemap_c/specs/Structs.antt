-- What a lookup answers, a token, a piece and the counts of a map, as C reads them.
use Rattle.std.specs.Prelude.{◌≡◌, ℕ, ◌+◌, ◌*◌, List, [], length, map, min, slice_get, sum}
use Rattle.std.specs.Prelude.{Option, Some, None, option_map}
use Rattle.std.specs.Option.{unwrap_or, option_and_then}
use Rattle.oxc_sourcemap_tokens.specs.Token.{TokenRecord, last}
use Rattle.oxc_sourcemap_parts.specs.Record.{Text, MapRecord}
use Rattle.oxc_sourcemap_parts.specs.DecodedMap.{OriginalPosition, name_of}
use Rattle.oxc_sourcemap_lookup.specs.Lookup.{lines_through}
use Rattle.oxc_sourcemap_lookup.specs.Trace.{original_in}
use Rattle.oxc_sourcemap_queries.specs.declared.pieces.cuts.Piece.{Piece}
use Rattle.oxc_sourcemap_c.specs.declared.texts.text.Original.{Original}
use Rattle.oxc_sourcemap_c.specs.declared.texts.text.PieceNumbers.{PieceNumbers}
use Rattle.oxc_sourcemap_c.specs.declared.texts.text.Text.{Text as LentText}
use Rattle.oxc_sourcemap_c.specs.declared.texts.text.TokenNumbers.{TokenNumbers}
use Rattle.oxc_sourcemap_c.specs.declared.texts.text.Counts.{Counts}
use Rattle.oxc_sourcemap_c.specs.Indices.{Loaded}

-- an id as a number, 4294967295 for none
abbrev pub number_or_none : Option ℕ → ℕ
number_or_none id = unwrap_or id 4294967295

-- an index as a number; 4294967295 for none, and for one that is not below it
abbrev pub index_number : Option ℕ → ℕ
index_number i = min (unwrap_or i 4294967295) 4294967295

-- the six numbers of a token
abbrev pub numbers_of : TokenRecord → TokenNumbers
numbers_of t = record {
  dst_line = t.dst_line;
  dst_col = t.dst_col;
  src_line = t.src_line;
  src_col = t.src_col;
  source_id = number_or_none t.source_id;
  name_id = number_or_none t.name_id;
}

-- the numbers of the tokens of a map
abbrev pub token_numbers : MapRecord → List TokenNumbers
token_numbers m = map numbers_of m.tokens

-- the numbers of no token
abbrev pub no_numbers : TokenNumbers
no_numbers = record {
  dst_line = 0;
  dst_col = 0;
  src_line = 0;
  src_col = 0;
  source_id = 4294967295;
  name_id = 4294967295;
}

abbrev pub numbers_or_none : Option TokenRecord → TokenNumbers
numbers_or_none None = no_numbers
numbers_or_none (Some t) = numbers_of t

-- the kind of an original position by its name: 2 without a name, 3 with one
abbrev pub kind_of : Option Text → ℕ
kind_of None = 2
kind_of (Some name) = 3

-- the kind of a token by its source and its name: 1 without a source
abbrev pub kind_by : Option Text → Option Text → ℕ
kind_by None name = 1
kind_by (Some path) name = kind_of name

-- an answer is an original position
pub record IsOriginal (p : Original) (o : OriginalPosition) : Type 0 where
  pub kind : p.kind ≡ kind_of o.name
  pub line : p.token.src_line ≡ o.src_line
  pub column : p.token.src_col ≡ o.src_col
  pub source : p.source.bytes.now ≡ o.source.path
  pub name : p.name.bytes.now ≡ unwrap_or o.name []

-- an answer says what is found: nothing, an unmapped token, or an original position
abbrev pub HasOriginal : Original → Option (Option OriginalPosition) → Type 0
HasOriginal p None = (p.kind ≡ 0) × (p.source.bytes.now ≡ []) × (p.name.bytes.now ≡ [])
HasOriginal p (Some None) = (p.kind ≡ 1) × (p.source.bytes.now ≡ [])
HasOriginal p (Some (Some o)) = IsOriginal p o

-- an answer is that of the token at this index of a map, if it is one
pub record IsSeen (m : MapRecord) (found : Option ℕ) (p : Original) : Type 0 where
  pub index : p.index ≡ index_number found
  pub token : p.token ≡ numbers_or_none (option_and_then (slice_get m.tokens) found)
  pub name : p.name.bytes.now ≡ unwrap_or (option_and_then (name_of m.names) (option_and_then (slice_get m.tokens) found)) []
  pub original : HasOriginal p (option_map (original_in m) (option_and_then (slice_get m.tokens) found))

-- an answer is that of a token with this index, by the lists of a map
pub record IsShown (m : MapRecord) (i : ℕ) (t : TokenRecord) (p : Original) : Type 0 where
  pub index : p.index ≡ index_number (Some i)
  pub token : p.token ≡ numbers_of t
  pub name : p.name.bytes.now ≡ unwrap_or (name_of m.names t) []
  pub original : HasOriginal p (Some (original_in m t))

-- the numbers of a piece
abbrev pub piece_numbers : Piece → PieceNumbers
piece_numbers piece = record {
  begin = record { line = piece.line; column = piece.col };
  end = record { line = piece.end_line; column = piece.end_col };
  index = index_number piece.index;
}

-- a lent text is this one
abbrev pub LendsText : LentText → Text → Type 0
LendsText lent text = lent.bytes.now ≡ text

-- a lent text is that of a content, and empty if that is not known
abbrev pub IsContentText : LentText → Option Text → Type 0
IsContentText lent content = lent.bytes.now ≡ unwrap_or content []

-- a number of bytes; 18446744073709551615 stands for more
abbrev pub capped : ℕ → ℕ
capped n = min n 18446744073709551615

-- the bytes of texts, and of texts that may not be there
abbrev pub bytes_of_texts : List Text → ℕ
bytes_of_texts texts = sum (map length texts)

abbrev pub bytes_of_options : List (Option Text) → ℕ
bytes_of_options texts = sum (map (λ text. length (unwrap_or text [])) texts)

-- the bytes of memory that a map holds: those of its texts, 24 for each token, and 4 for each entry of its ignore list
abbrev pub map_bytes : MapRecord → ℕ
map_bytes m =
    bytes_of_texts m.names + bytes_of_texts m.sources + bytes_of_options m.source_contents
    + length (unwrap_or m.file []) + length (unwrap_or m.source_root []) + length (unwrap_or m.debug_id [])
    + length m.tokens * 24 + length (unwrap_or m.ignore_list []) * 4

-- how many tokens, names, sources, contents, entries of the ignore list and lines a map has, and the bytes of memory that it and
-- its indices hold
abbrev pub counts_of : Loaded → Counts
counts_of l = record {
  tokens = length l.map.tokens;
  names = length l.map.names;
  sources = length l.map.sources;
  source_contents = length l.map.source_contents;
  ignore_list = length (unwrap_or l.map.ignore_list []);
  lines = lines_through (last l.map.tokens);
  bytes = capped (map_bytes l.map + l.index_bytes);
}
