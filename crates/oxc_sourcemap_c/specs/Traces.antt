-- What a handle's map says of generated positions.
use Rattle.std.specs.Prelude.{◌≡◌, ◌≢◌, ◌⊎◌, ℕ, true, List, length, Option, Some, None, option_map}
use Rattle.std.specs.Prelude.{MatchOption}
use Rattle.std.specs.List.{AllZip}
use Rattle.oxc_sourcemap_tokens.specs.declared.errors.error.Error.{Error}
use Rattle.oxc_sourcemap_tokens.specs.declared.position.Position.{Position}
use Rattle.oxc_sourcemap_parts.specs.Record.{MapRecord}
use Rattle.oxc_sourcemap_tokens.specs.LineOrder.{IsInLineOrder}
use Rattle.oxc_sourcemap_parts.specs.Sorted.{are_tokens_sorted}
use Rattle.oxc_sourcemap_parts.specs.DecodedMap.{OriginalPosition, decoded_map_of}
use Rattle.oxc_sourcemap_lookup.specs.Biased.{index_by}
use Rattle.oxc_sourcemap_lookup.specs.Lookup.{token_after}
use Rattle.oxc_sourcemap_lookup.specs.Trace.{trace, clamped_trace, original_in}
use Rattle.oxc_sourcemap_c.specs.declared.numbers.call_error.CallError.{CallError}
use Rattle.oxc_sourcemap_c.specs.declared.numbers.call_error.CallError.TheVariants.{NullHandle}
use Rattle.oxc_sourcemap_c.specs.declared.numbers.call_error.CallError.TheVariants.{Lengths}
use Rattle.oxc_sourcemap_c.specs.declared.numbers.call_error.CallError.TheVariants.{BadOption}
use Rattle.oxc_sourcemap_lookup.specs.declared.bias.Bias.{Bias}
use Rattle.oxc_sourcemap_lookup.specs.declared.bias.Bias.TheVariants.{Before, Clamped, After}
use Rattle.oxc_sourcemap_c.specs.declared.texts.text.Original.{Original}
use Rattle.oxc_sourcemap_c.specs.CallErrors.{of_map}
use Rattle.oxc_sourcemap_c.specs.Indices.{IsOutOfOrder}
use Rattle.oxc_sourcemap_c.specs.Options.{bias_of}
use Rattle.oxc_sourcemap_c.specs.Structs.{IsSeen, HasOriginal, index_number}

-- the trace of a map at a position: what the token that answers points to
abbrev pub traced_at : Bias → MapRecord → Position → Option (Option OriginalPosition)
traced_at Before m at = trace (decoded_map_of m) at.line at.column
traced_at Clamped m at = clamped_trace (decoded_map_of m) at.line at.column
traced_at After m at = option_map (original_in m) (token_after m.tokens at.line at.column)

-- An answer is that of some token of a map, or of none. If the tokens are sorted, it is the one that answers for a position, and
-- the answer is the trace there.
pub record IsTraceOf (bias : Bias) (m : MapRecord) (at : Position) (p : Original) : Type 0 where
  pub found : Option ℕ
  pub seen : IsSeen m found p
  pub is : are_tokens_sorted m.tokens ≡ true → found ≡ index_by bias m.tokens at.line at.column
  pub traced : are_tokens_sorted m.tokens ≡ true → HasOriginal p (traced_at bias m at)

-- the tokens are in line order, there are as many answers as positions, and each is the trace at the position of its index
abbrev pub AreTracesOf : Bias → List Position → List Original → MapRecord → Type 0
AreTracesOf bias positions out m = IsInLineOrder m.tokens × AllZip (IsTraceOf bias m) positions out

-- a number is the index of the token that answers for a position
abbrev pub IsFoundAt : Bias → MapRecord → Position → ℕ → Type 0
IsFoundAt bias m at n = are_tokens_sorted m.tokens ≡ true → n ≡ index_number (index_by bias m.tokens at.line at.column)

-- the same for many positions
abbrev pub AreFoundIn : Bias → List Position → List ℕ → MapRecord → Type 0
AreFoundIn bias positions out m = IsInLineOrder m.tokens × AllZip (IsFoundAt bias m) positions out

-- an error of tracing a map: its tokens are not in line order
abbrev pub IsUntraced : MapRecord → CallError → Type 0
IsUntraced m r = (e : Error) × IsOutOfOrder m.tokens e × (r ≡ of_map e)

-- there is a bias of this number, of which this holds
abbrev pub HasBias : ℕ → (Bias → Type 0) → Type 0
HasBias number P = MatchOption (bias_of number) ⊥ P

-- an error of tracing what a handle holds, by the bias of this number
abbrev pub IsTraceError : Option MapRecord → ℕ → CallError → Type 0
IsTraceError None bias r = r ≡ NullHandle
IsTraceError (Some m) bias r = MatchOption (bias_of bias) (r ≡ BadOption) (λ _. IsUntraced m r)

-- an error of tracing what a handle holds at many positions: there may also be another number of answers than of positions
abbrev pub IsTraceAllError : {A : Type 0} → List Position → List A → Option MapRecord → ℕ → CallError → Type 0
IsTraceAllError positions out None bias r = r ≡ NullHandle
IsTraceAllError positions out (Some m) bias r =
    ((r ≡ Lengths) × (length positions ≢ length out)) ⊎ ((length positions ≡ length out) × IsTraceError (Some m) bias r)
