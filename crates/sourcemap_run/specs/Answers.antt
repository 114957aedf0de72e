-- What a map answers for a generated position.
use Rattle.std.specs.Prelude.{ℕ, List, slice_get, Option, Some, None, option_map}
use Rattle.std.specs.Option.{option_and_then}
use Rattle.oxc_sourcemap_tokens.specs.Results.{lent_item}
use Rattle.oxc_sourcemap_parts.specs.Record.{Text, MapRecord}
use Rattle.oxc_sourcemap_parts.specs.DecodedMap.{OriginalPosition, decoded_map_of}
use Rattle.oxc_sourcemap_lookup.specs.Biased.{token_by}
use Rattle.oxc_sourcemap_lookup.specs.Trace.{original_in, trace, clamped_trace}
use Rattle.oxc_sourcemap_lookup.specs.declared.bias.Bias.{Bias}
use Rattle.oxc_sourcemap_lookup.specs.declared.bias.Bias.TheVariants.{Before, Clamped, After}
use Rattle.sourcemap_run.specs.declared.tracer.Spot.{Spot}
use Rattle.sourcemap_run.specs.declared.tracer.Answer.{Answer}
use Rattle.sourcemap_run.specs.declared.tracer.Answer.TheVariants.{Nothing, Unmapped, At}

-- the content listed at an index, if there is one and it is known
abbrev pub content_at : List (Option Text) → ℕ → Option Text
content_at contents i = option_and_then (λ content. content) (slice_get contents i)

-- what the token that answers points to
abbrev pub pointed : Bias → MapRecord → ℕ → ℕ → Option (Option OriginalPosition)
pointed bias r line col = option_map (original_in r) (token_by bias r.tokens line col)

-- What a map answers with: what the trace of what it means says, or the clamped trace. For `After`, which has no trace, what the first
-- token from the position on points to.
abbrev pub map_answer : Bias → MapRecord → ℕ → ℕ → Option (Option OriginalPosition)
map_answer Before r line col = trace (decoded_map_of r) line col
map_answer Clamped r line col = clamped_trace (decoded_map_of r) line col
map_answer After r line col = pointed After r line col

-- an original position with its source, the content of that too, as contracts see it
abbrev pub original_seen : Spot → OriginalPosition
original_seen s = record {
  source = record { path = s.source.now; content = lent_item s.content };
  src_line = s.line;
  src_col = s.column;
  name = lent_item s.name;
}

abbrev pub lent_original : Option Spot → Option OriginalPosition
lent_original s = option_map original_seen s

-- an answer, as contracts see it
abbrev pub seen : Answer → Option (Option OriginalPosition)
seen Nothing = None
seen Unmapped = Some None
seen (At spot) = Some (Some (original_seen spot))
