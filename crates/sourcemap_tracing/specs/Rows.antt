-- The rows of a trace that have nothing but a frame. Texts have no white space around them.
use Rattle.std.specs.Prelude.{Bool, ◌||◌, [], ◌∷◌, codes}
use Rattle.std.specs.Str.{bytes_eq}
use Rattle.oxc_sourcemap_parts.specs.Record.{Text}

-- whether a text is empty, or the word or the mark `❯` (in UTF-8) that engines begin a frame by
abbrev pub is_mark : Text → Bool
is_mark text = bytes_eq text [] || (bytes_eq text (codes "at") || bytes_eq text (226 ∷ 157 ∷ 175 ∷ []))

-- whether a text is empty, or a carriage return as a JSON string writes it
abbrev pub is_return : Text → Bool
is_return text = bytes_eq text [] || bytes_eq text (codes "\\r")
