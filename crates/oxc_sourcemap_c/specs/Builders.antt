-- Calls on the builders that handles hold, and their errors.
use Rattle.std.specs.Prelude.{◌≡◌, ◌≤◌, ◌⊎◌, ℕ, List, ◌++◌, map, length, Option, Some, IsNone}
use Rattle.std.specs.Prelude.{MatchOption, IsUtf8}
use Rattle.std.specs.FinMap as fin
use Rattle.oxc_sourcemap_tokens.specs.declared.errors.error.Error.TheVariants.{TooLarge}
use Rattle.oxc_sourcemap_parts.specs.Record.{Text}
use Rattle.oxc_sourcemap_tokens.specs.Token.{TokenRecord}
use Rattle.oxc_sourcemap_parts.specs.Texts.{index_of}
use Rattle.oxc_sourcemap_map.specs.Built.{Built, nothing_built}
use Rattle.oxc_sourcemap_map.specs.Building.{with_name, with_path, with_bare_path}
use Rattle.oxc_sourcemap_c.specs.declared.holding.held.Held.{Held}
use Rattle.oxc_sourcemap_c.specs.declared.making.builders.Step.{Step}
use Rattle.oxc_sourcemap_c.specs.declared.making.builders.Step.TheVariants.{Name, Source, Tokens}
use Rattle.oxc_sourcemap_c.specs.declared.making.builders.Step.TheVariants.{SourceAndContent, File}
use Rattle.oxc_sourcemap_c.specs.declared.numbers.call_error.CallError.{CallError}
use Rattle.oxc_sourcemap_c.specs.declared.numbers.call_error.CallError.TheVariants.{NullHandle}
use Rattle.oxc_sourcemap_c.specs.Holding.{held_builder, held_map}
use Rattle.oxc_sourcemap_c.specs.CallErrors.{of_map, IsNotText}
use Rattle.oxc_sourcemap_c.specs.Lists.{token_of}

-- a builder with these tokens after its others
abbrev pub with_tokens : Built → List TokenRecord → Built
with_tokens b tokens = record b { map = record b.map { tokens = b.map.tokens ++ tokens } }

-- a builder with this file
abbrev pub with_file : Built → Text → Built
with_file b file = record b { map = record b.map { file = Some file } }

-- a handle holds a builder before a call and one after it, and this holds of the two
abbrev pub Builds : Option Held → Option Held → (Built → Built → Type 0) → Type 0
Builds old new P = MatchOption (held_builder old) ⊥ (λ b. MatchOption (held_builder new) ⊥ (λ c. P b c))

-- an error of a call on the builder in a handle: the handle holds none, or this is an error of the call
abbrev pub IsBuilderError : Option Held → (Built → CallError → Type 0) → CallError → Type 0
IsBuilderError held IsOther r = MatchOption (held_builder held) (r ≡ NullHandle) (λ b. IsOther b r)

-- a handle held a builder and now holds one as new, and another handle holds the map that was built
abbrev pub IsFinished : Option Held → Option Held → Option Held → Type 0
IsFinished old new made = MatchOption (held_builder old) ⊥ (λ b. (held_map made ≡ Some b.map) × (held_builder new ≡ Some nothing_built))

-- the name is new, and its id would be too large
abbrev pub NameHasNoId : Text → Built → Type 0
NameHasNoId name b = IsNone (index_of name b.map.names) × (4294967295 ≤ length b.map.names)

-- the path of a source is new, and the id of the source would be too large
abbrev pub SourceHasNoId : Text → Built → Type 0
SourceHasNoId path b = IsNone (fin.get b.given path) × (4294967295 ≤ length b.map.sources)

-- the error of a call that needs an id if this holds, in which case there is none
abbrev pub IsTooMany : Type 0 → CallError → Type 0
IsTooMany HasNoId r = HasNoId × (r ≡ of_map TooLarge)

-- an error of adding bytes as a name
abbrev pub IsNameError : Text → Built → CallError → Type 0
IsNameError name b r = IsNotText name r ⊎ (IsUtf8 name × IsTooMany (NameHasNoId name b) r)

-- an error of adding bytes as a source without a content
abbrev pub IsPathError : Text → Built → CallError → Type 0
IsPathError path b r = IsNotText path r ⊎ (IsUtf8 path × IsTooMany (SourceHasNoId path b) r)

-- an error of adding bytes as a source and its content
abbrev pub IsSourceError : Text → Text → Built → CallError → Type 0
IsSourceError path content b r =
    IsNotText path r ⊎ ((IsUtf8 path × IsNotText content r) ⊎ (IsUtf8 path × IsUtf8 content × IsTooMany (SourceHasNoId path b) r))

-- a builder, the builder after a step, and the id that the step returns, if it adds what has one
abbrev pub IsStep : Step → Built → Built → ℕ → Type 0
IsStep (Name name) b c id = IsUtf8 name.now × ((c, id) ≡ with_name b name.now)
IsStep (Source path) b c id = IsUtf8 path.now × ((c, id) ≡ with_bare_path b path.now)
IsStep (SourceAndContent path content) b c id = IsUtf8 path.now × IsUtf8 content.now × ((c, id) ≡ with_path b path.now content.now)
IsStep (Tokens tokens) b c id = c ≡ with_tokens b (map token_of tokens.now)
IsStep (File file) b c id = IsUtf8 file.now × (c ≡ with_file b file.now)

-- an error of a step, but for want of memory
abbrev pub IsStepError : Step → Built → CallError → Type 0
IsStepError (Name name) b r = IsNameError name.now b r
IsStepError (Source path) b r = IsPathError path.now b r
IsStepError (SourceAndContent path content) b r = IsSourceError path.now content.now b r
IsStepError (Tokens tokens) b r = ⊥
IsStepError (File file) b r = IsNotText file.now r
