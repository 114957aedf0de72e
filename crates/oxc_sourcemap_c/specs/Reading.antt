-- The results of exports that read: a code, and what is written.
use Rattle.std.specs.Prelude.{◌≡◌, ◌≢◌, ℕ, List, length, get_or, slice_get, Option, MatchOption}
use Rattle.std.specs.Prelude.{MatchResult}
use Rattle.oxc_sourcemap_tokens.specs.declared.position.Position.{Position}
use Rattle.oxc_sourcemap_parts.specs.Record.{MapRecord}
use Rattle.oxc_sourcemap_queries.specs.Differences.{HaveSameTraceEverywhere, IsFirstDifference}
use Rattle.oxc_sourcemap_queries.specs.Differences.{IfBothSorted}
use Rattle.oxc_sourcemap_map.specs.Places.{no_token}
use Rattle.oxc_sourcemap_c.specs.declared.numbers.call_error.CallError.TheVariants.{NullHandle}
use Rattle.oxc_sourcemap_c.specs.declared.numbers.call_error.CallError.TheVariants.{NoEntry}
use Rattle.oxc_sourcemap_c.specs.declared.holding.held.Held.{Held}
use Rattle.oxc_sourcemap_c.specs.declared.reading.reverse.SourcePlace.{SourcePlace}
use Rattle.oxc_sourcemap_c.specs.declared.texts.text.TokenNumbers.{TokenNumbers}
use Rattle.oxc_sourcemap_c.specs.Codes.{code_of}
use Rattle.oxc_sourcemap_c.specs.Holding.{held_map}
use Rattle.oxc_sourcemap_c.specs.Indices.{Loaded}
use Rattle.oxc_sourcemap_c.specs.Listed.{filled, AreFilled}
use Rattle.oxc_sourcemap_c.specs.Structs.{numbers_of}
use Rattle.oxc_sourcemap_c.specs.Reverse.{generated_in, tokens_in}

-- the result of asking for a list of a handle's map: the code of an empty handle, or 0, as many entries as there is room for, and
-- the number of all
abbrev pub Lists : {A : Type 0} → ℕ → Option Held → (MapRecord → List A) → List A → List A → ℕ → Type 0
Lists code held list old new count =
    MatchOption (held_map held) (code ≡ code_of NullHandle) (λ m. (code ≡ 0) × (count ≡ length (list m)) × (new ≡ filled (list m) old))

-- the same, where the entries are known by a relation alone
abbrev pub ListsBy : {A B : Type 0} → (A → B → Type 0) → ℕ → Option Held → (MapRecord → List B) → List A → List A → ℕ → Type 0
ListsBy Is code held list old new count =
    MatchOption (held_map held) (code ≡ code_of NullHandle) (λ m. (code ≡ 0) × (count ≡ length (list m)) × AreFilled Is (list m) old new)

-- the same for a list that a map may lack
abbrev pub ListsOption : {A : Type 0} → ℕ → Option Held → (MapRecord → Option (List A)) → List A → List A → ℕ → Type 0
ListsOption code held list old new count =
    MatchOption (held_map held) (code ≡ code_of NullHandle)
    (λ m. MatchOption (list m) (code ≡ code_of NoEntry) (λ xs. (code ≡ 0) × (count ≡ length xs) × (new ≡ filled xs old)))

-- a generated position
abbrev pub position_at : ℕ → ℕ → Position
position_at line column = record { line = line; column = column }

-- an original position
abbrev pub source_place : ℕ → ℕ → ℕ → SourcePlace
source_place source_id line column = record { source_id = source_id; line = line; column = column }

-- the first position at which two maps have different traces, or the code for none
abbrev pub DifferAt : MapRecord → MapRecord → ℕ → Position → Type 0
DifferAt a b code at =
    (code ≡ 0 → IfBothSorted a b (IsFirstDifference a b at))
    × (code ≢ 0 → (code ≡ code_of NoEntry) × IfBothSorted a b (HaveSameTraceEverywhere a b))

-- the same of what two handles hold
abbrev pub DifferFrom : Option MapRecord → Option MapRecord → ℕ → Position → Type 0
DifferFrom a b code at =
    MatchOption a (code ≡ code_of NullHandle) (λ a. MatchOption b (code ≡ code_of NullHandle) (λ b. DifferAt a b code at))

-- the first token that answers for an original position, with its index, or the code of what is missing
abbrev pub HasFirst : Option Loaded → ℕ → SourcePlace → ℕ → ℕ → TokenNumbers → Type 0
HasFirst held number at code index token =
    MatchResult (generated_in held number at)
    (λ indices. MatchOption (slice_get indices 0) (code ≡ code_of NoEntry)
    (λ i. (code ≡ 0) × (index ≡ i) × (token ≡ numbers_of (get_or (tokens_in held) i no_token))))
    (λ r. code ≡ code_of r)

-- the indices of all tokens that do, as many as there is room for, and their number, or the code of what is missing
abbrev pub HasAll : Option Loaded → ℕ → SourcePlace → ℕ → List ℕ → List ℕ → ℕ → Type 0
HasAll held number at code old new count =
    MatchResult (generated_in held number at)
    (λ indices. (code ≡ 0) × (count ≡ length indices) × (new ≡ filled indices old))
    (λ r. code ≡ code_of r)
