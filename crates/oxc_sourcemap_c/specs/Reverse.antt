-- From original positions to generated ones, in what handles hold.
use Rattle.std.specs.Prelude.{◌≡◌, ℕ, Bool, true, false, List, [], length, slice_get, get_or}
use Rattle.std.specs.Prelude.{Option, Some, None, Result, Ok, Err, MatchOption, MatchResult}
use Rattle.oxc_sourcemap_tokens.specs.declared.errors.error.Error.{Error}
use Rattle.oxc_sourcemap_tokens.specs.Token.{TokenRecord}
use Rattle.oxc_sourcemap_parts.specs.Record.{MapRecord}
use Rattle.oxc_sourcemap_map.specs.Places.{no_token}
use Rattle.oxc_sourcemap_map.specs.Reverse.{indices_at, indices_for, indices_from, indices_on}
use Rattle.oxc_sourcemap_map.specs.Reverse.{index_fault}
use Rattle.oxc_sourcemap_c.specs.declared.numbers.call_error.CallError.{CallError}
use Rattle.oxc_sourcemap_c.specs.declared.numbers.call_error.CallError.TheVariants.{NullHandle}
use Rattle.oxc_sourcemap_c.specs.declared.numbers.call_error.CallError.TheVariants.{BadOption}
use Rattle.oxc_sourcemap_c.specs.declared.numbers.call_error.CallError.TheVariants.{NoEntry}
use Rattle.oxc_sourcemap_c.specs.declared.numbers.call_error.CallError.TheVariants.{NoIndex}
use Rattle.oxc_sourcemap_c.specs.declared.reading.reverse.SourcePlace.{SourcePlace}
use Rattle.oxc_sourcemap_c.specs.declared.reading.reverse.FoundToken.{FoundToken}
use Rattle.oxc_sourcemap_c.specs.declared.numbers.options.Direction.{Direction}
use Rattle.oxc_sourcemap_c.specs.declared.numbers.options.Direction.TheVariants.{At, For}
use Rattle.oxc_sourcemap_c.specs.declared.numbers.options.Direction.TheVariants.{From, OnLine}
use Rattle.oxc_sourcemap_c.specs.CallErrors.{of_map}
use Rattle.oxc_sourcemap_c.specs.Indices.{Loaded}
use Rattle.oxc_sourcemap_c.specs.Listed.{filled}
use Rattle.oxc_sourcemap_c.specs.Options.{direction_of}
use Rattle.oxc_sourcemap_c.specs.Structs.{numbers_of}

-- the indices of the tokens that answer for an original position
abbrev pub answering : Direction → SourcePlace → List TokenRecord → List ℕ
answering At at tokens = indices_at at.source_id at.line at.column tokens
answering For at tokens = indices_for at.source_id at.line at.column tokens
answering From at tokens = indices_from at.source_id at.line at.column tokens
answering OnLine at tokens = indices_on at.source_id at.line tokens

-- this, if there is the index by original positions
abbrev pub if_ordered : {A : Type 0} → Bool → A → Result A CallError
if_ordered true x = Ok x
if_ordered false x = Err NoIndex

-- the indices of the tokens of a map that answer, in the direction of this number
abbrev pub answers_of : Option Direction → SourcePlace → Loaded → Result (List ℕ) CallError
answers_of None at l = Err BadOption
answers_of (Some direction) at l = if_ordered l.has_order (answering direction at l.map.tokens)

-- the same of what a handle holds
abbrev pub generated_in : Option Loaded → ℕ → SourcePlace → Result (List ℕ) CallError
generated_in None number at = Err NullHandle
generated_in (Some l) number at = answers_of (direction_of number) at l

-- the tokens of a map that a handle holds
abbrev pub tokens_in : Option Loaded → List TokenRecord
tokens_in None = []
tokens_in (Some l) = l.map.tokens

-- a token with its index
abbrev pub found_token : List TokenRecord → ℕ → FoundToken
found_token tokens i = record { index = i; token = numbers_of (get_or tokens i no_token) }

-- the first token that answers, or `NoEntry` if there is none
abbrev pub IsFirstGenerated : Option Loaded → ℕ → SourcePlace → Result FoundToken CallError → Type 0
IsFirstGenerated held number at answer =
    MatchResult (generated_in held number at)
    (λ indices. MatchOption (slice_get indices 0) (answer ≡ Err NoEntry) (λ i. answer ≡ Ok (found_token (tokens_in held) i)))
    (λ r. answer ≡ Err r)

-- all tokens that answer: their number, and their indices as far as there is room
abbrev pub AreAllGenerated : Option Loaded → ℕ → SourcePlace → Result ℕ CallError → List ℕ → List ℕ → Type 0
AreAllGenerated held number at answer old new =
    MatchResult (generated_in held number at)
    (λ indices. (answer ≡ Ok (length indices)) × (new ≡ filled indices old))
    (λ r. (answer ≡ Err r) × (new ≡ old))

-- an error of making the index by original positions of a map: too many tokens
abbrev pub IsIndexError : MapRecord → CallError → Type 0
IsIndexError m r = (e : Error) × (index_fault m.tokens ≡ Some e) × (r ≡ of_map e)
