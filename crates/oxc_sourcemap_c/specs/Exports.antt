-- The results of exports: a code, and the numbers of an error.
use Rattle.std.specs.Prelude.{◌≡◌, ℕ, List, Option, Some, None, Result, Ok, Err, MatchOption}
use Rattle.std.specs.Prelude.{MatchResult}
use Rattle.oxc_sourcemap_tokens.specs.declared.errors.error.Error.{Error}
use Rattle.oxc_sourcemap_parts.specs.Record.{Text, MapRecord}
use Rattle.oxc_sourcemap_c.specs.declared.numbers.call_error.CallError.{CallError}
use Rattle.oxc_sourcemap_c.specs.declared.numbers.call_error.CallError.TheVariants.{NullHandle}
use Rattle.oxc_sourcemap_c.specs.declared.numbers.call_error.CallError.TheVariants.{NoEntry}
use Rattle.oxc_sourcemap_c.specs.declared.numbers.fault.Fault.{Fault}
use Rattle.oxc_sourcemap_c.specs.CallErrors.{of_map}
use Rattle.oxc_sourcemap_c.specs.Codes.{fault_of, code_of, no_fault}
use Rattle.oxc_sourcemap_c.specs.declared.holding.held.Held.{Held}
use Rattle.oxc_sourcemap_c.specs.declared.texts.text.Text.{Text as LentText}
use Rattle.oxc_sourcemap_c.specs.Holding.{held_map, held_text, HoldsMap}
use Rattle.oxc_sourcemap_c.specs.Structs.{LendsText}
use Rattle.oxc_sourcemap_c.specs.Writing.{IsUrlOf}

-- A call that takes no memory fails: its code and its fault are those of one of these errors.
abbrev pub IsError : ℕ → Fault → (CallError → Type 0) → Type 0
IsError code f These = (r : CallError) × (f ≡ fault_of r) × (code ≡ code_of r) × These r

-- the code of one of these errors
abbrev pub IsCodeOf : ℕ → (CallError → Type 0) → Type 0
IsCodeOf code These = (r : CallError) × (code ≡ code_of r) × These r

-- an error of writing what a handle holds
abbrev pub IsWritingError : (MapRecord → Result Text Error) → Option MapRecord → CallError → Type 0
IsWritingError write None r = r ≡ NullHandle
IsWritingError write (Some m) r = (e : Error) × (write m ≡ Err e) × (r ≡ of_map e)

-- a handle holds a text of which this holds
abbrev pub HoldsString : Option Held → (Text → Type 0) → Type 0
HoldsString held P = MatchOption (held_text held) ⊥ P

-- a handle holds the text that another handle's map is written as
abbrev pub HoldsWritten : (MapRecord → Result Text Error) → Option Held → Option Held → Type 0
HoldsWritten write map text = HoldsMap map (λ m. HoldsString text (λ t. write m ≡ Ok t))

-- the code, the output and the fault for this answer
abbrev pub IsToldAs : Result LentText CallError → ℕ → LentText → Fault → Type 0
IsToldAs answer code out fault =
    MatchResult answer (λ found. (code ≡ 0) × (out ≡ found) × (fault ≡ no_fault)) (λ r. (code ≡ code_of r) × (fault ≡ fault_of r))

-- the code, the output and the fault are those of the answer for the URL that a code names
abbrev pub IsUrlAnswer : List ℕ → ℕ → ℕ → LentText → Fault → Type 0
IsUrlAnswer bytes language code out fault = (answer : Result LentText CallError) × IsUrlOf bytes language answer × IsToldAs answer code out fault

-- the result of asking for the text in a handle: the code of an empty handle, or 0 and the text
abbrev pub HoldsText : ℕ → Option Held → LentText → Type 0
HoldsText code held lent = MatchOption (held_text held) (code ≡ code_of NullHandle) (λ text. (code ≡ 0) × LendsText lent text)

-- the result of a lookup in what a handle holds: the code of what is missing, or 0 and what is found
abbrev pub Found : {B : Type 0} → ℕ → Option Held → (MapRecord → Option B) → (B → Type 0) → Type 0
Found code held ask That =
    MatchOption (held_map held) (code ≡ code_of NullHandle) (λ m. MatchOption (ask m) (code ≡ code_of NoEntry) (λ found. (code ≡ 0) × That found))
