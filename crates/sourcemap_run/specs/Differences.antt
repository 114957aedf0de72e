-- Where two maps answer differently.
use Rattle.std.specs.Prelude.{ℕ, Bool, not, ◌&&◌, ◌==◌, Option}
use Rattle.std.specs.Str.{bytes_eq}
use Rattle.oxc_sourcemap_parts.specs.Record.{Text, MapRecord}
use Rattle.oxc_sourcemap_parts.specs.DecodedMap.{OriginalPosition}
use Rattle.oxc_sourcemap_lookup.specs.declared.bias.Bias.TheVariants.{Before}
use Rattle.oxc_sourcemap_join.specs.Joined.{is_same_option}
use Rattle.sourcemap_run.specs.Answers.{map_answer}

-- equality of texts that may be there, as a test
abbrev pub is_same_text : Option Text → Option Text → Bool
is_same_text a b = is_same_option bytes_eq a b

-- equality of original positions in all fields, the contents of their sources too
abbrev pub is_same_original : OriginalPosition → OriginalPosition → Bool
is_same_original a b =
    bytes_eq a.source.path b.source.path && (a.src_line == b.src_line && (a.src_col == b.src_col
    && (is_same_text a.name b.name && is_same_text a.source.content b.source.content)))

-- equality of answers
abbrev pub is_same_answer : Option (Option OriginalPosition) → Option (Option OriginalPosition) → Bool
is_same_answer a b = is_same_option (λ x y. is_same_option is_same_original x y) a b

-- two maps answer differently for a line and a column
abbrev pub differ_at : MapRecord → MapRecord → ℕ × ℕ → Bool
differ_at a b p = not (is_same_answer (map_answer Before a p.0 p.1) (map_answer Before b p.0 p.1))
