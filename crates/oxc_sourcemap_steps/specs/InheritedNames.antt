-- A name that may be inherited from the first of two maps, into the names of the composed one.
use Rattle.std.specs.Prelude.{ℕ, List, Option, Some, None}
use Rattle.std.specs.Option.{option_and_then}
use Rattle.oxc_sourcemap_parts.specs.Record.{Text}
use Rattle.oxc_sourcemap_parts.specs.Texts.{index_of, with_text}

-- the names with an inherited one, if there is one
abbrev pub with_inherited : List Text → Option Text → List Text
with_inherited names None = names
with_inherited names (Some name) = with_text names name

-- the index of an inherited name among names, if there is one
abbrev pub inherited_index : List Text → Option Text → Option ℕ
inherited_index names name = option_and_then (λ name. index_of name names) name
