-- The results and errors of calls on what handles hold.
use Rattle.std.specs.Prelude.{◌≡◌, ℕ, ◌⊎◌, Option, Result, Err, MatchOption, MatchResult, slice_get}
use Rattle.std.specs.Prelude.{is_some, map, List, Bool, true, false}
use Rattle.oxc_sourcemap_parts.specs.Record.{Text, MapRecord}
use Rattle.oxc_sourcemap_map.specs.View.{content_at}
use Rattle.oxc_sourcemap_c.specs.declared.numbers.call_error.CallError.{CallError}
use Rattle.oxc_sourcemap_c.specs.declared.numbers.call_error.CallError.TheVariants.{NullHandle}
use Rattle.oxc_sourcemap_c.specs.declared.numbers.call_error.CallError.TheVariants.{NoEntry}
use Rattle.oxc_sourcemap_c.specs.declared.holding.held.Held.{Held}
use Rattle.oxc_sourcemap_c.specs.declared.reading.asked.Asked.{Asked}
use Rattle.oxc_sourcemap_c.specs.declared.reading.asked.Asked.TheVariants.{Name, Source}
use Rattle.oxc_sourcemap_c.specs.declared.reading.asked.Asked.TheVariants.{SourceContent, File}
use Rattle.oxc_sourcemap_c.specs.declared.reading.asked.Asked.TheVariants.{SourceRoot, DebugId}
use Rattle.oxc_sourcemap_c.specs.Holding.{held_map, HoldsMap}
use Rattle.oxc_sourcemap_c.specs.Traces.{HasBias, IsTraceOf}
use Rattle.oxc_sourcemap_c.specs.declared.texts.text.Original.{Original}
use Rattle.oxc_sourcemap_tokens.specs.LineOrder.{IsInLineOrder}
use Rattle.oxc_sourcemap_tokens.specs.declared.position.Position.{Position}

-- the text of a map that is asked for
abbrev pub text_at : MapRecord → Asked → Option Text
text_at m (Name id) = slice_get m.names id
text_at m (Source id) = slice_get m.sources id
text_at m (SourceContent id) = content_at m.source_contents id
text_at m File = m.file
text_at m SourceRoot = m.source_root
text_at m DebugId = m.debug_id

-- the result of a lookup in what a handle holds: `NullHandle`, `NoEntry`, or what is found
abbrev pub IsFound : {A B : Type 0} → Result A CallError → Option Held → (MapRecord → Option B) → (A → B → Type 0) → Type 0
IsFound answer held ask Is =
    MatchOption (held_map held) (answer ≡ Err NullHandle)
    (λ m. MatchOption (ask m) (answer ≡ Err NoEntry) (λ found. MatchResult answer (λ x. Is x found) (λ _. ⊥)))

-- 1 for true and 0 for false
abbrev pub flag_of : Bool → ℕ
flag_of true = 1
flag_of false = 0

-- whether a content is known: 1 or 0
abbrev pub known_flag : Option Text → ℕ
known_flag content = flag_of (is_some content)

-- the same of many
abbrev pub known_flags : List (Option Text) → List ℕ
known_flags contents = map known_flag contents

-- a number is 1 if this is so, and else 0
abbrev pub IsFlagOf : Type 0 → ℕ → Type 0
IsFlagOf holds n = ((n ≡ 1) × holds) ⊎ ((n ≡ 0) × ¬ holds)

-- the tokens of the map that is held are in line order, and this is an answer of it for a position, by the bias of this number: its trace,
-- if the tokens are sorted
abbrev pub IsTraced : Option Held → ℕ → Position → Original → Type 0
IsTraced held bias at out = HoldsMap held (λ m. IsInLineOrder m.tokens × HasBias bias (λ b. IsTraceOf b m at out))
