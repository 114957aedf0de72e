-- The answer of `trace`: the trace of a map at a generated position, as a text.
use Rattle.std.specs.Prelude.{ℕ, [], ◌++◌, codes, decimal, Option, Some, None, Result, Ok, Err}
use Rattle.std.specs.Prelude.{if◌then◌else◌}
use Rattle.oxc_sourcemap_tokens.specs.declared.errors.error.Error.{Error}
use Rattle.oxc_sourcemap_parts.specs.Record.{Text, MapRecord}
use Rattle.oxc_sourcemap_parts.specs.Sorted.{are_tokens_sorted}
use Rattle.oxc_sourcemap_parts.specs.DecodedMap.{OriginalPosition, decoded_map_of}
use Rattle.oxc_sourcemap_lookup.specs.Trace.{trace}
use Rattle.oxc_sourcemap_json.specs.JsonString.{json_string}
use Rattle.oxc_sourcemap_json.specs.ReadMap.{read_map}
use Rattle.oxc_sourcemap_tokens.specs.declared.errors.plan_error.PlanError.{PlanError}
use Rattle.oxc_sourcemap_tokens.specs.declared.errors.plan_error.PlanError.TheVariants.{Map}
use Rattle.oxc_sourcemap_tokens.specs.declared.errors.plan_error.PlanError.TheVariants.{Unsorted}

-- a colon and a number
abbrev pub number_part : ℕ → Text
number_part n = codes ":" ++ decimal n

-- a space and a name, if there is one
abbrev pub name_part : Option Text → Text
name_part None = []
name_part (Some name) = codes " " ++ json_string name

-- the text of an original position: a source, a source line and column, and a name
abbrev pub original_text : Text → ℕ → ℕ → Option Text → Text
original_text source line col name = json_string source ++ (number_part line ++ (number_part col ++ name_part name))

-- the text of a trace: of no token, of an unmapped one, and of one that points to a source
abbrev pub trace_text : Option (Option OriginalPosition) → Text
trace_text None = codes "nothing"
trace_text (Some None) = codes "unmapped"
trace_text (Some (Some o)) = original_text o.source.path o.src_line o.src_col o.name

-- the text of the trace of a map that was read, if the map is sorted
abbrev pub traced_of : Result MapRecord Error → ℕ → ℕ → Result Text PlanError
traced_of (Ok r) line col = if are_tokens_sorted r.tokens then Ok (trace_text (trace (decoded_map_of r) line col)) else Err Unsorted
traced_of (Err fault) line col = Err (Map fault)

abbrev pub traced : Text → ℕ → ℕ → Result Text PlanError
traced text line col = traced_of (read_map text) line col
