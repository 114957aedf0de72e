-- The texts of a plan, in one input.
use Rattle.std.specs.Prelude.{◌==◌, Bool, List, map, codes}
use Rattle.std.specs.Str.{bytes_eq}
use Rattle.std.specs.List.{slice_split, join_with_byte}
use Rattle.oxc_sourcemap_parts.specs.Record.{Text}

-- the lines of an input, without line feeds
abbrev pub input_lines : Text → List Text
input_lines text = slice_split (λ b. b == 10) text

-- a line that separates two texts
abbrev pub is_parting : Text → Bool
is_parting line = bytes_eq line (codes "---")

-- The texts of an input, which lines of exactly `---` separate: k + 1 texts for k such lines. The lines of each have line feeds
-- between them.
abbrev pub inputs_of : Text → List Text
inputs_of text = map (join_with_byte 10) (slice_split is_parting (input_lines text))
