-- Calls on compiled maps.
use Rattle.std.specs.Prelude.{◌≡◌, ◌≢◌, ◌⊎◌, ◌≤◌, ℕ, List, [], length, Option, Some, None}
use Rattle.std.specs.Prelude.{Result, Ok, Err, MatchOption, MatchResult, slice_get, ◌==◌, true}
use Rattle.std.specs.Prelude.{if◌then◌else◌, is_some, ⊤}
use Rattle.std.specs.List.{Contains}
use Rattle.std.specs.Option.{option_map_or, unwrap_or}
use Rattle.oxc_sourcemap_tokens.specs.Token.{TokenRecord}
use Rattle.oxc_sourcemap_tokens.specs.declared.errors.error.Error.TheVariants.{TooLarge}
use Rattle.oxc_sourcemap_tokens.specs.declared.errors.plan_error.PlanError.TheVariants.{Map}
use Rattle.oxc_sourcemap_parts.specs.Record.{MapRecord}
use Rattle.oxc_sourcemap_parts.specs.Sorted.{are_tokens_sorted}
use Rattle.oxc_sourcemap_compiled.specs.Words.{AreBytesOf, FitsCompiled, IsInOrder, IsTokenAt}
use Rattle.oxc_sourcemap_compiled.specs.Words.{checked_map, compiled_fault, compiled_in}
use Rattle.oxc_sourcemap_compiled.specs.Words.{compiled_meaning, compiled_of, header_in, FitsFormat}
use Rattle.oxc_sourcemap_compiled.specs.Words.{DoesNotGoBack}
use Rattle.oxc_sourcemap_compiled.specs.declared.errors.CompiledError.{CompiledError}
use Rattle.oxc_sourcemap_c.specs.CallErrors.{IsUnsorted}
use Rattle.oxc_sourcemap_c.specs.Codes.{code_of}
use Rattle.oxc_sourcemap_c.specs.Holding.{held_compiled}
use Rattle.oxc_sourcemap_c.specs.Options.{bias_of}
use Rattle.oxc_sourcemap_c.specs.Structs.{LendsText, numbers_of}
use Rattle.oxc_sourcemap_c.specs.declared.holding.held.Held.{Held}
use Rattle.oxc_sourcemap_c.specs.declared.numbers.call_error.CallError.{CallError}
use Rattle.oxc_sourcemap_c.specs.declared.numbers.call_error.CallError.TheVariants.{NullHandle}
use Rattle.oxc_sourcemap_c.specs.declared.numbers.call_error.CallError.TheVariants.{NoEntry}
use Rattle.oxc_sourcemap_c.specs.declared.numbers.call_error.CallError.TheVariants.{Lengths}
use Rattle.oxc_sourcemap_c.specs.declared.numbers.call_error.CallError.TheVariants.{BadOption}
use Rattle.oxc_sourcemap_c.specs.declared.numbers.call_error.CallError.TheVariants.{Plan}
use Rattle.oxc_sourcemap_c.specs.declared.numbers.call_error.CallError.TheVariants.{Compiled}
use Rattle.oxc_sourcemap_c.specs.declared.texts.text.Text.{Text as LentText}
use Rattle.oxc_sourcemap_c.specs.declared.texts.text.TokenNumbers.{TokenNumbers}
use Rattle.oxc_sourcemap_tokens.specs.declared.position.Position.{Position}
use Rattle.oxc_sourcemap_c.specs.Answers.{text_at, IsFlagOf, flag_of}
use Rattle.oxc_sourcemap_c.specs.declared.compiled.asking.CompiledCounts.{CompiledCounts}
use Rattle.oxc_sourcemap_c.specs.declared.reading.asked.Asked.{Asked}
use Rattle.oxc_sourcemap_c.specs.declared.reading.asked.Asked.TheVariants.{Name, Source}
use Rattle.oxc_sourcemap_c.specs.declared.reading.asked.Asked.TheVariants.{SourceContent, File}
use Rattle.oxc_sourcemap_c.specs.declared.reading.asked.Asked.TheVariants.{SourceRoot, DebugId}

-- a handle holds an open compiled map, of whose bytes this holds
abbrev pub HoldsCompiled : Option Held → (List ℕ → Type 0) → Type 0
HoldsCompiled held P = MatchOption (held_compiled held) ⊥ P

-- bytes are the compiled map of a map: they mean it, with this length and stamp, are in order, and are those that the format has for
-- it, whose numbers and texts it can hold, so that the laws of `compiled_means_map` hold of them
pub record IsCompiledFrom (m : MapRecord) (text_length : ℕ) (stamp bytes : List ℕ) : Type 0 where
  pub meaning : compiled_meaning bytes ≡ Ok (compiled_of m text_length stamp)
  pub order : IsInOrder bytes
  pub written : AreBytesOf m text_length stamp bytes
  pub fits : FitsFormat m text_length stamp

-- why a map is not compiled: its tokens are not sorted, or, where they are, it is not sure to fit
abbrev pub IsUncompiled : MapRecord → CallError → Type 0
IsUncompiled m r = IsUnsorted m r ⊎ ((r ≡ Plan (Map TooLarge)) × (are_tokens_sorted m.tokens ≡ true) × ¬ (FitsCompiled m))

-- an error of compiling what a handle holds, the first of these: there is no map, the stamp has not 32 bytes, or the map is not
-- compiled
abbrev pub IsCompileError : Option MapRecord → List ℕ → CallError → Type 0
IsCompileError None stamp r = r ≡ NullHandle
IsCompileError (Some m) stamp r = ((r ≡ Lengths) × (length stamp ≢ 32)) ⊎ ((length stamp ≡ 32) × IsUncompiled m r)

-- the error that compiling what a handle holds has whatever memory there is
abbrev pub IsSureCompileError : Option MapRecord → List ℕ → CallError → Type 0
IsSureCompileError None stamp r = r ≡ NullHandle
IsSureCompileError (Some m) stamp r = ((r ≡ Lengths) × (length stamp ≢ 32)) ⊎ ((length stamp ≡ 32) × IsUnsorted m r)

-- an error of opening bytes: the first fault that they have
abbrev pub IsOpenError : List ℕ → CallError → Type 0
IsOpenError bytes r = (e : CompiledError) × (compiled_fault bytes ≡ Some e) × (r ≡ Compiled e)

-- an error of taking apart what a handle holds: there is no compiled map, or its lines or texts go back, or a text of it is not UTF-8
abbrev pub IsDecompileError : Option Held → CallError → Type 0
IsDecompileError held r =
    MatchOption (held_compiled held) (r ≡ NullHandle)
    (λ bytes. (r ≡ NoEntry) × (DoesNotGoBack bytes (header_in bytes) → checked_map (compiled_in bytes).content ≡ None))

-- A map that is taken apart of bytes: the one that they mean, whose texts are UTF-8; it has no more tokens than the header counts.
pub record IsTakenApart (bytes : List ℕ) (m : MapRecord) : Type 0 where
  pub is : checked_map (compiled_in bytes).content ≡ Some m
  pub few : length m.tokens ≤ (header_in bytes).tokens

-- the error that taking apart what a handle holds has whatever memory there is
abbrev pub IsSureDecompileError : Option Held → CallError → Type 0
IsSureDecompileError held r = MatchOption (held_compiled held) (r ≡ NullHandle) (λ bytes. (r ≡ NoEntry) × ¬ (DoesNotGoBack bytes (header_in bytes)))

-- an error of asking what a handle holds, by the bias of this number
abbrev pub IsCompiledError : Option Held → ℕ → CallError → Type 0
IsCompiledError held bias r = MatchOption (held_compiled held) (r ≡ NullHandle) (λ _. (r ≡ BadOption) × (bias_of bias ≡ None))

-- the same at many positions: there may also be another number of answers than of positions
abbrev pub IsCompiledAllError : {A : Type 0} → List Position → List A → Option Held → ℕ → CallError → Type 0
IsCompiledAllError positions out held bias r =
    MatchOption (held_compiled held) (r ≡ NullHandle)
    (λ _. ((r ≡ Lengths) × (length positions ≢ length out)) ⊎ ((length positions ≡ length out) × (r ≡ BadOption) × (bias_of bias ≡ None)))

-- the counts of a compiled map
abbrev pub compiled_counts_of : List ℕ → CompiledCounts
compiled_counts_of bytes = record {
  tokens = (header_in bytes).tokens;
  sources = length (compiled_in bytes).content.sources;
  names = length (compiled_in bytes).content.names;
  ignored = length (unwrap_or (compiled_in bytes).content.ignore_list []);
  text_length = (compiled_in bytes).text_length;
  has_ignore_list = flag_of (is_some (compiled_in bytes).content.ignore_list);
  rest = 0;
}

-- A token with this index of the compiled map that a handle holds: of bytes that are in order the one that their map has there, and of
-- any bytes one with the line of some entry.
abbrev pub IsCompiledToken : Option Held → ℕ → Result TokenNumbers CallError → Type 0
IsCompiledToken held index answer =
    MatchOption (held_compiled held) (answer ≡ Err NullHandle)
    (λ bytes. (found : Option TokenRecord)
    × (answer ≡ option_map_or (λ t. Ok (numbers_of t)) found (Err NoEntry))
    × (IsInOrder bytes → found ≡ slice_get (compiled_in bytes).content.tokens index)
    × MatchOption found ⊤ (IsTokenAt bytes (header_in bytes) index))

-- which text is asked for, by the number of its kind
abbrev pub asked_of : ℕ → ℕ → Option Asked
asked_of kind id =
    if kind == 0 then Some (Name id)
    else if kind == 1 then Some (Source id)
    else if kind == 2 then Some (SourceContent id)
    else if kind == 3 then Some File
    else if kind == 4 then Some SourceRoot
    else if kind == 5 then Some DebugId
    else None

-- a text of the compiled map that a handle holds, by the number of its kind
abbrev pub IsCompiledText : Option Held → ℕ → ℕ → Result LentText CallError → Type 0
IsCompiledText held kind id answer =
    MatchOption (held_compiled held) (answer ≡ Err NullHandle)
    (λ bytes. MatchOption (asked_of kind id) (answer ≡ Err BadOption)
    (λ asked. MatchOption (text_at (compiled_in bytes).content asked) (answer ≡ Err NoEntry)
    (λ text. MatchResult answer (λ lent. LendsText lent text) (λ _. ⊥))))

-- the stamp of the compiled map that a handle holds
abbrev pub IsStamp : Option Held → Result LentText CallError → Type 0
IsStamp held answer =
    MatchOption (held_compiled held) (answer ≡ Err NullHandle) (λ bytes. MatchResult answer (λ lent. LendsText lent (compiled_in bytes).stamp) (λ _. ⊥))

-- whether its ignore list has this id
abbrev pub IsIgnoredFlag : Option Held → ℕ → Result ℕ CallError → Type 0
IsIgnoredFlag held id answer =
    MatchOption (held_compiled held) (answer ≡ Err NullHandle)
    (λ bytes. MatchResult answer (IsFlagOf (Contains (unwrap_or (compiled_in bytes).content.ignore_list []) id)) (λ _. ⊥))

-- the code and the output for an answer: on an error the output is as it was
abbrev pub IsWrittenOut : {A : Type 0} → Result A CallError → ℕ → A → A → Type 0
IsWrittenOut answer code old new = MatchResult answer (λ found. (code ≡ 0) × (new ≡ found)) (λ r. (code ≡ code_of r) × (new ≡ old))
