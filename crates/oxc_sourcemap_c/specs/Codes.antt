-- The numbers of errors. `fault_of` is the definition of codes; `call_error_of` goes back.
use Rattle.std.specs.Prelude.{◌≡◌, ◌≢◌, ℕ, ◌%◌, ◌<◌, Option, Some, None, option_map, if◌then◌else◌}
use Rattle.std.specs.Prelude.{◌==◌}
use Rattle.oxc_sourcemap_tokens.specs.declared.errors.error.JsonFault.{JsonFault}
use Rattle.oxc_sourcemap_tokens.specs.declared.errors.error.JsonFault.TheVariants.{Reading, Shape}
use Rattle.oxc_sourcemap_tokens.specs.declared.errors.error.JsonFault.TheVariants.{Version}
use Rattle.oxc_sourcemap_tokens.specs.declared.errors.error.Error.{Error}
use Rattle.oxc_sourcemap_tokens.specs.declared.errors.error.Error.TheVariants.{VlqLeftover}
use Rattle.oxc_sourcemap_tokens.specs.declared.errors.error.Error.TheVariants.{VlqNoValues}
use Rattle.oxc_sourcemap_tokens.specs.declared.errors.error.Error.TheVariants.{VlqOverflow, BadJson}
use Rattle.oxc_sourcemap_tokens.specs.declared.errors.error.Error.TheVariants.{BadSegmentSize}
use Rattle.oxc_sourcemap_tokens.specs.declared.errors.error.Error.TheVariants.{BadSourceReference}
use Rattle.oxc_sourcemap_tokens.specs.declared.errors.error.Error.TheVariants.{BadNameReference}
use Rattle.oxc_sourcemap_tokens.specs.declared.errors.error.Error.TheVariants.{OutOfMemory}
use Rattle.oxc_sourcemap_tokens.specs.declared.errors.error.Error.TheVariants.{TooLarge, LineOrder}
use Rattle.oxc_sourcemap_tokens.specs.declared.errors.error.Error.TheVariants.{BadChunks}
use Rattle.oxc_sourcemap_tokens.specs.declared.errors.error.Error.TheVariants.{SeveralSources}
use Rattle.oxc_sourcemap_tokens.specs.declared.errors.error.Error.TheVariants.{SectionOrder}
use Rattle.oxc_sourcemap_tokens.specs.declared.errors.error.Error.TheVariants.{InputLineOrder}
use Rattle.oxc_sourcemap_tokens.specs.declared.errors.plan_error.PlanError.{PlanError}
use Rattle.oxc_sourcemap_tokens.specs.declared.errors.plan_error.PlanError.TheVariants.{Map}
use Rattle.oxc_sourcemap_tokens.specs.declared.errors.plan_error.PlanError.TheVariants.{Unsorted}
use Rattle.oxc_sourcemap_tokens.specs.declared.errors.plan_error.PlanError.TheVariants.{TooDeep}
use Rattle.oxc_sourcemap_c.specs.declared.numbers.call_error.CallError.{CallError}
use Rattle.oxc_sourcemap_c.specs.declared.numbers.call_error.CallError.TheVariants.{Plan}
use Rattle.oxc_sourcemap_c.specs.declared.numbers.call_error.CallError.TheVariants.{Words}
use Rattle.oxc_sourcemap_c.specs.declared.numbers.call_error.CallError.TheVariants.{NoText}
use Rattle.oxc_sourcemap_c.specs.declared.numbers.call_error.CallError.TheVariants.{NullHandle}
use Rattle.oxc_sourcemap_c.specs.declared.numbers.call_error.CallError.TheVariants.{NotUtf8}
use Rattle.oxc_sourcemap_c.specs.declared.numbers.call_error.CallError.TheVariants.{Lengths}
use Rattle.oxc_sourcemap_c.specs.declared.numbers.call_error.CallError.TheVariants.{NoEntry}
use Rattle.oxc_sourcemap_c.specs.declared.numbers.call_error.CallError.TheVariants.{NoIndex}
use Rattle.oxc_sourcemap_c.specs.declared.numbers.call_error.CallError.TheVariants.{BadOption}
use Rattle.oxc_sourcemap_c.specs.declared.numbers.call_error.CallError.TheVariants.{BadBase64}
use Rattle.oxc_sourcemap_c.specs.declared.numbers.call_error.CallError.TheVariants.{BadDataUtf8}
use Rattle.oxc_sourcemap_c.specs.declared.numbers.call_error.CallError.TheVariants.{Compiled}
use Rattle.oxc_sourcemap_c.specs.declared.numbers.call_error.CallError.TheVariants.{BadScopes}
use Rattle.oxc_sourcemap_c.specs.declared.numbers.call_error.CallError.TheVariants.{ScopesNotText}
use Rattle.oxc_sourcemap_c.specs.declared.numbers.call_error.CallError.TheVariants.{ScopesIndexed}
use Rattle.oxc_sourcemap_c.specs.declared.numbers.call_error.CallError.TheVariants.{Shared}
use Rattle.oxc_sourcemap_c.specs.declared.numbers.call_error.CallError.TheVariants.{NotShared}
use Rattle.oxc_sourcemap_c.specs.ScopesKinds.{number_of_fault_kind, fault_kind_of}
use Rattle.oxc_sourcemap_scopes.specs.declared.errors.ScopesFault.{ScopesFault}
use Rattle.oxc_sourcemap_compiled.specs.declared.errors.CompiledError.{CompiledError}
use Rattle.oxc_sourcemap_compiled.specs.declared.errors.CompiledError.TheVariants.{NotCompiled}
use Rattle.oxc_sourcemap_compiled.specs.declared.errors.CompiledError.TheVariants.{Version as CompiledVersion}
use Rattle.oxc_sourcemap_compiled.specs.declared.errors.CompiledError.TheVariants.{Length, Sizes}
use Rattle.oxc_sourcemap_c.specs.declared.numbers.fault.Fault.{Fault}
use Rattle.oxc_sourcemap_tokens.specs.declared.errors.fault.FaultPlace.{FaultPlace}
use Rattle.oxc_sourcemap_c.specs.FieldNumbers.{number_of_field, field_of}
use Rattle.oxc_sourcemap_c.specs.PlaceNumbers.{no_place, numbers_of_place}
use Rattle.oxc_sourcemap_c.specs.CallErrors.{out_of_memory}

-- the numbers of an error that carries this number and is about no field, without a place
abbrev pub fault : ℕ → ℕ → Fault
fault code detail = record { code = code; field = 0; detail = detail; place = no_place }

abbrev pub fault_of_json : JsonFault → Fault
fault_of_json Reading = fault 4 0
fault_of_json (Shape field) = record (fault 5 0) { field = number_of_field field }
fault_of_json (Version n) = fault 6 n

abbrev pub fault_of_error : Error → Fault
fault_of_error VlqLeftover = fault 1 0
fault_of_error VlqNoValues = fault 2 0
fault_of_error VlqOverflow = fault 3 0
fault_of_error (BadJson f) = fault_of_json f
fault_of_error (BadSegmentSize n) = fault 7 n
fault_of_error (BadSourceReference n) = fault 8 n
fault_of_error (BadNameReference n) = fault 9 n
fault_of_error OutOfMemory = fault 10 0
fault_of_error TooLarge = fault 11 0
fault_of_error (LineOrder i) = fault 12 i
fault_of_error (BadChunks k) = fault 13 k
fault_of_error (SeveralSources n) = fault 14 n
fault_of_error (SectionOrder k) = fault 19 k
fault_of_error (InputLineOrder k) = fault 20 k

abbrev pub fault_of_plan_error : PlanError → Fault
fault_of_plan_error (Map error) = fault_of_error error
fault_of_plan_error Unsorted = fault 15 0
fault_of_plan_error TooDeep = fault 16 0

abbrev pub fault_of_compiled : CompiledError → Fault
fault_of_compiled NotCompiled = fault 23 0
fault_of_compiled (CompiledVersion n) = fault 24 n
fault_of_compiled Length = fault 25 0
fault_of_compiled Sizes = fault 26 0

-- the numbers of a fault of scopes, whose kind is in the place of a field
abbrev pub fault_of_scopes : ScopesFault → Fault
fault_of_scopes f = record (fault 27 f.byte) { field = number_of_fault_kind f.kind }

-- the numbers of an error
abbrev pub fault_of : CallError → Fault
fault_of (Plan error) = fault_of_plan_error error
fault_of Words = fault 17 0
fault_of (NoText k) = fault 18 k
fault_of NullHandle = fault 100 0
fault_of (NotUtf8 n) = fault 101 n
fault_of Lengths = fault 102 0
fault_of NoEntry = fault 103 0
fault_of NoIndex = fault 104 0
fault_of BadOption = fault 105 0
fault_of (BadBase64 at) = fault 21 at
fault_of (BadDataUtf8 at) = fault 22 at
fault_of (Compiled error) = fault_of_compiled error
fault_of (BadScopes f) = fault_of_scopes f
fault_of ScopesNotText = fault 28 0
fault_of ScopesIndexed = fault 29 0
fault_of Shared = fault 107 0
fault_of NotShared = fault 108 0

-- the numbers of an error, and of the place of its fault
abbrev pub fault_at : CallError → Option FaultPlace → Fault
fault_at r place = record (fault_of r) { place = numbers_of_place place }

-- the code of an error, which is not 0
abbrev pub code_of : CallError → ℕ
code_of r = (fault_of r).code

-- the numbers of a call without an error
abbrev pub no_fault : Fault
no_fault = fault 0 0

-- the error of the library with these numbers; of a detail that is a 32-bit number, the low 32 bits count
abbrev pub error_of : Fault → Option Error
error_of f =
    if f.code == 1 then Some VlqLeftover
    else if f.code == 2 then Some VlqNoValues
    else if f.code == 3 then Some VlqOverflow
    else if f.code == 4 then Some (BadJson Reading)
    else if f.code == 5 then option_map (λ field. BadJson (Shape field)) (field_of f.field)
    else if f.code == 6 then Some (BadJson (Version (f.detail % 4294967296)))
    else if f.code == 7 then Some (BadSegmentSize (f.detail % 4294967296))
    else if f.code == 8 then Some (BadSourceReference (f.detail % 4294967296))
    else if f.code == 9 then Some (BadNameReference (f.detail % 4294967296))
    else if f.code == 10 then Some OutOfMemory
    else if f.code == 11 then Some TooLarge
    else if f.code == 12 then Some (LineOrder f.detail)
    else if f.code == 13 then Some (BadChunks f.detail)
    else if f.code == 14 then Some (SeveralSources f.detail)
    else if f.code == 19 then Some (SectionOrder f.detail)
    else if f.code == 20 then Some (InputLineOrder f.detail)
    else None

-- the error with these numbers
abbrev pub call_error_of : Fault → Option CallError
call_error_of f =
    if f.code == 15 then Some (Plan Unsorted)
    else if f.code == 16 then Some (Plan TooDeep)
    else if f.code == 17 then Some Words
    else if f.code == 18 then Some (NoText (f.detail % 4294967296))
    else if f.code == 100 then Some NullHandle
    else if f.code == 101 then Some (NotUtf8 f.detail)
    else if f.code == 102 then Some Lengths
    else if f.code == 103 then Some NoEntry
    else if f.code == 104 then Some NoIndex
    else if f.code == 105 then Some BadOption
    else if f.code == 21 then Some (BadBase64 f.detail)
    else if f.code == 22 then Some (BadDataUtf8 f.detail)
    else if f.code == 23 then Some (Compiled NotCompiled)
    else if f.code == 24 then Some (Compiled (CompiledVersion (f.detail % 4294967296)))
    else if f.code == 25 then Some (Compiled Length)
    else if f.code == 26 then Some (Compiled Sizes)
    else if f.code == 27 then option_map (λ kind. BadScopes (record { kind = kind; byte = f.detail })) (fault_kind_of f.field)
    else if f.code == 28 then Some ScopesNotText
    else if f.code == 29 then Some ScopesIndexed
    else if f.code == 107 then Some Shared
    else if f.code == 108 then Some NotShared
    else option_map (λ error. Plan (Map error)) (error_of f)

-- the number that an error carries, if it is one of 32 bits
abbrev pub short_number_of_error : Error → ℕ
short_number_of_error VlqLeftover = 0
short_number_of_error VlqNoValues = 0
short_number_of_error VlqOverflow = 0
short_number_of_error (BadJson Reading) = 0
short_number_of_error (BadJson (Shape field)) = 0
short_number_of_error (BadJson (Version n)) = n
short_number_of_error (BadSegmentSize n) = n
short_number_of_error (BadSourceReference n) = n
short_number_of_error (BadNameReference n) = n
short_number_of_error OutOfMemory = 0
short_number_of_error TooLarge = 0
short_number_of_error (LineOrder i) = 0
short_number_of_error (BadChunks k) = 0
short_number_of_error (SeveralSources n) = 0
short_number_of_error (SectionOrder k) = 0
short_number_of_error (InputLineOrder k) = 0

abbrev pub short_number_of : CallError → ℕ
short_number_of (Plan (Map error)) = short_number_of_error error
short_number_of (Plan Unsorted) = 0
short_number_of (Plan TooDeep) = 0
short_number_of Words = 0
short_number_of (NoText k) = k
short_number_of NullHandle = 0
short_number_of (NotUtf8 n) = 0
short_number_of Lengths = 0
short_number_of NoEntry = 0
short_number_of NoIndex = 0
short_number_of BadOption = 0
short_number_of (BadBase64 at) = 0
short_number_of (BadDataUtf8 at) = 0
short_number_of (Compiled NotCompiled) = 0
short_number_of (Compiled (CompiledVersion n)) = n
short_number_of (Compiled Length) = 0
short_number_of (Compiled Sizes) = 0
short_number_of (BadScopes f) = 0
short_number_of ScopesNotText = 0
short_number_of ScopesIndexed = 0
short_number_of Shared = 0
short_number_of NotShared = 0

-- an error as the library makes it: a number of 32 bits is below 2^32
abbrev pub IsSmall : CallError → Type 0
IsSmall r = short_number_of r < 4294967296

-- A call fails: its code and its fault are those of one error, which is want of memory or one of these.
abbrev pub IsErrorAs : ℕ → Fault → (CallError → Type 0) → Type 0
IsErrorAs code f These = (r : CallError) × (f ≡ fault_of r) × (code ≡ code_of r) × (r ≢ out_of_memory → These r)
