-- The traces of a map by the indices of tokens, and the line order of what has an index.
use Rattle.std.proofs.Common.{◌≡◌, ap, subst, ◌∙◌, ℕ, true, List, Option, option_map, slice_get}
use Rattle.std.specs.Option.{option_and_then}
use Rattle.oxc_sourcemap_parts.specs.Record.{MapRecord}
use Rattle.oxc_sourcemap_parts.specs.Sorted.{are_tokens_sorted}
use Rattle.oxc_sourcemap_tokens.specs.LineOrder.{IsInLineOrder}
use Rattle.oxc_sourcemap_tokens.specs.Token.{TokenRecord}
use Rattle.oxc_sourcemap_tokens.specs.declared.position.Position.{Position}
use Rattle.oxc_sourcemap_lookup.specs.Biased.{index_by}
use Rattle.oxc_sourcemap_lookup.specs.LineSpans.{AreLines, IsIndexOf}
use Rattle.oxc_sourcemap_lookup.specs.Trace.{original_in}
use Rattle.oxc_sourcemap_lookup.specs.declared.line_index.LineIndex.{LineIndex}
use Rattle.oxc_sourcemap_lookup.specs.declared.line_index.Lines.{Lines}
use Rattle.oxc_sourcemap_lookup.specs.declared.line_index.Lines.TheVariants.{Starts, Spans, Few}
use Rattle.oxc_sourcemap_lookup.proofs.Numbers.{token_of-index_for, token_of-clamped_index_for}
use Rattle.oxc_sourcemap_lookup.proofs.Numbers.{token_of-index_after}
use Rattle.oxc_sourcemap_lookup.proofs.Traces.{token_traced, token_clamped_traced}
use Rattle.oxc_sourcemap_lookup.specs.declared.bias.Bias.{Bias}
use Rattle.oxc_sourcemap_lookup.specs.declared.bias.Bias.TheVariants.{Before, Clamped, After}
use Rattle.oxc_sourcemap_c.specs.declared.texts.text.Original.{Original}
use Rattle.oxc_sourcemap_c.specs.Structs.{IsSeen, HasOriginal}
use Rattle.oxc_sourcemap_c.specs.Traces.{traced_at, IsTraceOf}

-- what the token that answers points to is the trace of the map
traced_by : (bias : Bias) (m : MapRecord) (at : Position) → option_map (original_in m) (option_and_then (slice_get m.tokens) (index_by bias m.tokens at.line at.column)) ≡ traced_at bias m at
traced_by Before m at = ap (option_map (original_in m)) (token_of-index_for m.tokens at.line at.column) ∙ token_traced m at.line at.column
traced_by Clamped m at = ap (option_map (original_in m)) (token_of-clamped_index_for m.tokens at.line at.column) ∙ token_clamped_traced m at.line at.column
traced_by After m at = ap (option_map (original_in m)) (token_of-index_after m.tokens at.line at.column)

-- what the token says that answers for a position is the trace there
pub is_trace : (bias : Bias) (m : MapRecord) (at : Position) (p : Original) (found : Option ℕ) → IsSeen m found p → (are_tokens_sorted m.tokens ≡ true → found ≡ index_by bias m.tokens at.line at.column) → IsTraceOf bias m at p
is_trace bias m at p found seen is = record {
  found = found;
  seen = seen;
  is = is;
  traced = λ sorted. subst (HasOriginal p) (ap (λ i. option_map (original_in m) (option_and_then (slice_get m.tokens) i)) (is sorted) ∙ traced_by bias m at) seen.original;
}

lines_order : (tokens : List TokenRecord) (lines : Lines) → AreLines tokens lines → IsInLineOrder tokens
lines_order tokens (Starts starts) h = h.order
lines_order tokens (Spans spans) h = h.order
lines_order tokens Few h = h

-- tokens that have an index are in line order
pub index_order : (tokens : List TokenRecord) (index : LineIndex) → IsIndexOf tokens index → IsInLineOrder tokens
index_order tokens index h = lines_order tokens index.lines h.0
