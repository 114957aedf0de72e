-- What is taken apart of a compiled map: the map, where all its texts are UTF-8, and no part of the bytes goes back.
use Rattle.std.specs.Prelude.{ℕ, ◌+◌, ◌<◌, ◌≤◌, Bool, true, ◌&&◌, List, Option, Some, None}
use Rattle.std.specs.Prelude.{if◌then◌else◌}
use Rattle.std.specs.List.{list_all}
use Rattle.std.specs.Str.{is_utf8}
use Rattle.oxc_sourcemap_parts.specs.Record.{MapRecord, Text}
use Rattle.oxc_sourcemap_compiled.specs.Layout.{text_count}
use Rattle.oxc_sourcemap_compiled.specs.CompiledMeaning.{start_in, offset_in}
use Rattle.oxc_sourcemap_compiled.specs.declared.layout.Header.{Header}

-- a text is absent, or UTF-8
abbrev pub is_optional_utf8 : Option Text → Bool
is_optional_utf8 None = true
is_optional_utf8 (Some text) = is_utf8 text

-- texts, texts that may be absent, or one of these; none if some text is not UTF-8
abbrev pub checked_texts : List Text → Option (List Text)
checked_texts texts = if list_all is_utf8 texts then Some texts else None

abbrev pub checked_contents : List (Option Text) → Option (List (Option Text))
checked_contents texts = if list_all is_optional_utf8 texts then Some texts else None

abbrev pub checked_text : Option Text → Option (Option Text)
checked_text text = if is_optional_utf8 text then Some text else None

-- all texts of a map are UTF-8
abbrev pub has_utf8_texts : MapRecord → Bool
has_utf8_texts r =
    list_all is_utf8 r.sources && (list_all is_utf8 r.names && (list_all is_optional_utf8 r.source_contents
    && (is_optional_utf8 r.file && (is_optional_utf8 r.source_root && is_optional_utf8 r.debug_id))))

-- a map; none if some text of it is not UTF-8
abbrev pub checked_map : MapRecord → Option MapRecord
checked_map r = if has_utf8_texts r then Some r else None

-- no line's tokens begin before those of the line in front, and those of the last line do not end before they begin
abbrev pub DoLinesFollow : List ℕ → Header → Type 0
DoLinesFollow bytes h = (k : ℕ) → k < h.lines → start_in bytes k ≤ start_in bytes (k + 1)

-- no text begins before the one in front, and the last one does not end before it begins
abbrev pub DoTextsFollow : List ℕ → Header → Type 0
DoTextsFollow bytes h = (t : ℕ) → t < text_count h → offset_in bytes h t ≤ offset_in bytes h (t + 1)

-- Neither lines nor texts go back: so no index of a token is in two entries of lines, and no byte in two texts.
pub record DoesNotGoBack (bytes : List ℕ) (h : Header) : Type 0 where
  pub lines : DoLinesFollow bytes h
  pub texts : DoTextsFollow bytes h
