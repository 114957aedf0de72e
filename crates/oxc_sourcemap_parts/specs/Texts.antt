-- Lists of strings, by their indices.
use Rattle.std.specs.Prelude.{ℕ, List, [], ◌∷◌, ◌++◌, Option, Some, None}
use Rattle.std.specs.List.{position_from}
use Rattle.std.specs.Str.{bytes_eq}
use Rattle.oxc_sourcemap_parts.specs.Record.{Text}

-- the index of the first string of a list that is equal to this one
abbrev pub index_of : Text → List Text → Option ℕ
index_of text texts = position_from (bytes_eq text) 0 texts

-- the list with this string, by the index that it has there: as it is, or, without an index, with a new last one
abbrev pub with_text_at : Option ℕ → List Text → Text → List Text
with_text_at (Some i) texts text = texts
with_text_at None texts text = texts ++ text ∷ []

-- the list with this string: as it is if it has an equal one, else with this as a new last one
abbrev pub with_text : List Text → Text → List Text
with_text texts text = with_text_at (index_of text texts) texts text

-- the list with these strings, one after the other
abbrev pub with_texts : List Text → List Text → List Text
with_texts texts [] = texts
with_texts texts (text ∷ more) = with_texts (with_text texts text) more
