-- The visual text of a code and its map (docs/FORMAT.md, "The visual text").
use Rattle.std.specs.Prelude.{ℕ, Bool, false, not, ◌&&◌, List, [], ◌∷◌, ◌++◌, codes, decimal}
use Rattle.std.specs.Prelude.{length, take, drop, filter, min, max, Option, Some, None}
use Rattle.std.specs.Prelude.{if◌then◌else◌, nat_lt, ◌==◌}
use Rattle.std.specs.Fmt.{◌++?◌, debug_str}
use Rattle.std.specs.List.{find, take_while}
use Rattle.std.specs.Option.{option_map, option_map_or, option_and_then, option_or}
use Rattle.std.specs.Str.{bytes_eq, chars, encode_utf8_all}
use Rattle.std.specs.Char.Utf16.{utf16_lossy_chars}
use Rattle.oxc_sourcemap_tokens.specs.Token.{TokenRecord}
use Rattle.oxc_sourcemap_parts.specs.Record.{Text, MapRecord}
use Rattle.oxc_sourcemap_map.specs.View.{source_and_content_at}
use Rattle.oxc_sourcemap_text.specs.TextLines.{line_at, text_lines}

-- what a visualizer shows: a generated code and its map
pub record CodeAndMap : Type 0 where
  pub code : Text
  pub map : MapRecord

-- a position is valid: it is before the end of its line; a line that is not there has no columns
abbrev pub is_within : List (List ℕ) → ℕ → ℕ → Bool
is_within lines line col = nat_lt col (length (line_at lines line))

-- the generated column at which a token's part ends: that of the next token, if it is on the line, else the line's length
abbrev pub dst_end : ℕ → TokenRecord → List TokenRecord → ℕ
dst_end len t [] = len
dst_end len t (next ∷ more) = if next.dst_line == t.dst_line then next.dst_col else len

-- a token has this source id and source line
abbrev pub is_on_source_line : ℕ → ℕ → TokenRecord → Bool
is_on_source_line id line t = option_map_or (λ n. n == id) t.source_id false && t.src_line == line

-- The source column at which a token's part ends. Of the tokens that follow it without a break on its source and source line
-- it is the column of the first whose column is greater, else the line's length.
abbrev pub src_end : ℕ → ℕ → TokenRecord → List TokenRecord → ℕ
src_end len id t after =
    option_map_or (λ u. u.src_col) (find (λ u. nat_lt t.src_col u.src_col) (take_while (is_on_source_line id t.src_line) after)) len

-- the part of a line between two columns, whichever is the smaller, cut to the line's length
abbrev pub between : List ℕ → ℕ → ℕ → List ℕ
between line a b = drop (min a b) (take (max a b) line)

-- a text without its carriage returns
abbrev pub without_returns : Text → Text
without_returns text = encode_utf8_all (filter (λ c. not (c == 13)) (chars text))

-- A part of a line as it is printed: as a text, with U+FFFD for each half of a surrogate pair, then without carriage returns,
-- then in the debug form. Past ASCII that form is left open: None.
abbrev pub part_text : List ℕ → Option Text
part_text units = debug_str (without_returns (encode_utf8_all (utf16_lossy_chars units)))

-- `(line:column)`
abbrev pub position_text : ℕ → ℕ → Text
position_text line col = codes "(" ++ (decimal line ++ (codes ":" ++ (decimal col ++ codes ")")))

-- the mark of a position that is not valid
abbrev pub mark : Bool → Text
mark is_valid = if is_valid then [] else codes " [invalid]"

-- the line of a token of which a position is not valid
abbrev pub invalid_text : Bool → Bool → TokenRecord → Text
invalid_text is_src_valid is_dst_valid t =
    position_text t.src_line t.src_col ++ (mark is_src_valid
    ++ (codes " --> " ++ (position_text t.dst_line t.dst_col ++ (mark is_dst_valid ++ codes "\n"))))

-- the line of a token of which both positions are valid, with the parts of its source line and of its generated line
abbrev pub parts_text : TokenRecord → List ℕ → List ℕ → Option Text
parts_text t src dst =
    Some (position_text t.src_line t.src_col ++ codes " ") ++? (part_text src
    ++? (Some (codes " --> " ++ (position_text t.dst_line t.dst_col ++ codes " ")) ++? (part_text dst ++? Some (codes "\n"))))

-- the line of a token with this source id: the lines of its source's content, those of the code, and the tokens after it
unfoldable pub mapping_text : List (List ℕ) → List (List ℕ) → ℕ → TokenRecord → List TokenRecord → Option Text
mapping_text src dst id t after =
    let src_line = line_at src t.src_line in
    let dst_line = line_at dst t.dst_line in
    if is_within src t.src_line t.src_col && is_within dst t.dst_line t.dst_col
    then parts_text t
    (between src_line t.src_col (src_end (length src_line) id t after))
    (between dst_line t.dst_col (dst_end (length dst_line) t after))
    else Some (invalid_text (is_within src t.src_line t.src_col) (is_within dst t.dst_line t.dst_col) t)

-- the source and the content of a token that is shown: one that has both
abbrev pub shown : MapRecord → TokenRecord → Option (Text × Text)
shown r t = option_and_then (source_and_content_at r) t.source_id

-- the source of a token that is shown
abbrev pub shown_source : MapRecord → TokenRecord → Option Text
shown_source r t = option_map (λ s. s.0) (shown r t)

-- the source of the nearest shown token before; the tokens before are listed with the nearest first
abbrev pub nearest_source : MapRecord → List TokenRecord → Option Text
nearest_source r [] = None
nearest_source r (t ∷ before) = option_or (shown_source r t) (nearest_source r before)

-- the line of a source, which is printed if the nearest shown token before has another one, or there is none
abbrev pub heading : Option Text → Text → Text
heading None source = codes "- " ++ (source ++ codes "\n")
heading (Some last) source = if bytes_eq last source then [] else codes "- " ++ (source ++ codes "\n")

-- the text of a token: nothing, or the line of its source and its own
abbrev pub visual_token_text : List (List ℕ) → Option Text → TokenRecord → List TokenRecord → Option ℕ → Option (Text × Text) → Option Text
visual_token_text code last t after (Some id) (Some s) = Some (heading last s.0) ++? mapping_text (text_lines s.1) code id t after
visual_token_text code last t after id s = Some []

-- the text of some tokens, after those before them, which are listed with the nearest first
unfoldable pub tokens_text : List (List ℕ) → MapRecord → List TokenRecord → List TokenRecord → Option Text
tokens_text code r before [] = Some []
tokens_text code r before (t ∷ after) =
    visual_token_text code (nearest_source r before) t after t.source_id (shown r t) ++? tokens_text code r (t ∷ before) after

-- the visual text for a list of contents: a fixed line if the list is empty
abbrev pub text_with : List (Option Text) → Option Text → Option Text
text_with [] text = Some (codes "[no source contents]\n")
text_with (content ∷ contents) text = text

-- The visual text of a code and its map. It is None if some part that is printed is not ASCII.
unfoldable pub visual_text : Text → MapRecord → Option Text
visual_text code r = text_with r.source_contents (tokens_text (text_lines code) r [] r.tokens)
