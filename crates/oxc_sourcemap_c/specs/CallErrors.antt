-- The messages of errors, as bytes, and the errors of calls on maps as errors of calls for C.
use Rattle.std.specs.Prelude.{Err, false, ◌≡◌, ℕ, List, ◌++◌, codes, decimal, IsUtf8}
use Rattle.std.specs.Str.Lossy.{utf8_valid_len}
use Rattle.oxc_sourcemap_tokens.specs.declared.errors.error.Error.{Error}
use Rattle.oxc_sourcemap_tokens.specs.declared.errors.error.Error.TheVariants.{OutOfMemory, BadJson}
use Rattle.oxc_sourcemap_tokens.specs.declared.errors.error.JsonFault.TheVariants.{Reading}
use Rattle.oxc_sourcemap_tokens.specs.declared.errors.plan_error.PlanError.TheVariants.{Map}
use Rattle.oxc_sourcemap_tokens.specs.declared.errors.plan_error.PlanError.TheVariants.{Unsorted}
use Rattle.oxc_sourcemap_tokens.specs.PlanMessages.{plan_error_text}
use Rattle.oxc_sourcemap_text.specs.DataUrlMessages.{data_url_error_text}
use Rattle.oxc_sourcemap_text.specs.declared.url.data_url_error.DataUrlError.TheVariants.{BadBase64 as DataBase64}
use Rattle.oxc_sourcemap_text.specs.declared.url.data_url_error.DataUrlError.TheVariants.{BadUtf8 as DataUtf8}
use Rattle.oxc_sourcemap_c.specs.declared.numbers.call_error.CallError.{CallError}
use Rattle.oxc_sourcemap_c.specs.declared.numbers.call_error.CallError.TheVariants.{Plan}
use Rattle.oxc_sourcemap_c.specs.declared.numbers.call_error.CallError.TheVariants.{Words}
use Rattle.oxc_sourcemap_c.specs.declared.numbers.call_error.CallError.TheVariants.{NoText}
use Rattle.oxc_sourcemap_c.specs.declared.numbers.call_error.CallError.TheVariants.{NullHandle}
use Rattle.oxc_sourcemap_c.specs.declared.numbers.call_error.CallError.TheVariants.{NotUtf8}
use Rattle.oxc_sourcemap_c.specs.declared.numbers.call_error.CallError.TheVariants.{Lengths}
use Rattle.oxc_sourcemap_c.specs.declared.numbers.call_error.CallError.TheVariants.{NoEntry}
use Rattle.oxc_sourcemap_c.specs.declared.numbers.call_error.CallError.TheVariants.{NoIndex}
use Rattle.oxc_sourcemap_c.specs.declared.numbers.call_error.CallError.TheVariants.{BadOption}
use Rattle.oxc_sourcemap_c.specs.declared.numbers.call_error.CallError.TheVariants.{BadBase64}
use Rattle.oxc_sourcemap_c.specs.declared.numbers.call_error.CallError.TheVariants.{BadDataUtf8}
use Rattle.oxc_sourcemap_c.specs.declared.numbers.call_error.CallError.TheVariants.{Compiled}
use Rattle.oxc_sourcemap_c.specs.declared.numbers.call_error.CallError.TheVariants.{BadScopes}
use Rattle.oxc_sourcemap_c.specs.declared.numbers.call_error.CallError.TheVariants.{ScopesNotText}
use Rattle.oxc_sourcemap_c.specs.declared.numbers.call_error.CallError.TheVariants.{ScopesIndexed}
use Rattle.oxc_sourcemap_c.specs.declared.numbers.call_error.CallError.TheVariants.{Shared}
use Rattle.oxc_sourcemap_c.specs.declared.numbers.call_error.CallError.TheVariants.{NotShared}
use Rattle.oxc_sourcemap_scopes.specs.Messages.{error_text}
use Rattle.oxc_sourcemap_scopes.specs.declared.errors.ScopesError.{ScopesError}
use Rattle.oxc_sourcemap_scopes.specs.declared.errors.ScopesError.TheVariants as scopes
use Rattle.oxc_sourcemap_compiled.specs.CompiledMessages.{compiled_error_text}
use Rattle.oxc_sourcemap_parts.specs.Record.{MapRecord}
use Rattle.oxc_sourcemap_parts.specs.Sorted.{are_tokens_sorted}
use Rattle.oxc_sourcemap_steps.specs.Simplified.{simplification}
use Rattle.oxc_sourcemap_tokens.specs.declared.errors.plan_error.PlanError.{PlanError}

abbrev pub call_error_text : CallError → List ℕ
call_error_text (Plan error) = plan_error_text error
call_error_text Words = codes "The words say no plan"
call_error_text (NoText k) = codes "There is no text " ++ decimal k
call_error_text NullHandle = codes "The handle is null"
call_error_text (NotUtf8 n) = codes "Byte " ++ decimal n ++ codes " is not UTF-8"
call_error_text Lengths = codes "The lengths of two lists differ"
call_error_text NoEntry = codes "There is no such entry"
call_error_text NoIndex = codes "The map has no index of its sources"
call_error_text BadOption = codes "There is no such option"
call_error_text (BadBase64 at) = data_url_error_text (DataBase64 at)
call_error_text (BadDataUtf8 at) = data_url_error_text (DataUtf8 at)
call_error_text (Compiled error) = compiled_error_text error
call_error_text (BadScopes fault) = error_text (scopes.Fault fault)
call_error_text ScopesNotText = error_text scopes.NotText
call_error_text ScopesIndexed = error_text scopes.Indexed
call_error_text Shared = codes "The map is shared"
call_error_text NotShared = codes "The map is not shared"

-- an error of a call on a map
abbrev pub of_map : Error → CallError
of_map e = Plan (Map e)

-- want of memory
abbrev pub out_of_memory : CallError
out_of_memory = Plan (Map OutOfMemory)

-- an error of reading scopes
abbrev pub of_scopes : ScopesError → CallError
of_scopes scopes.OutOfMemory = out_of_memory
of_scopes scopes.NotJson = of_map (BadJson Reading)
of_scopes scopes.Indexed = ScopesIndexed
of_scopes scopes.NotText = ScopesNotText
of_scopes (scopes.Fault fault) = BadScopes fault

-- bytes are not UTF-8, and the error has the number of bytes before the first bad one
abbrev pub IsNotText : List ℕ → CallError → Type 0
IsNotText bytes r = ¬ (IsUtf8 bytes) × (r ≡ NotUtf8 (utf8_valid_len bytes))

-- an error of simplifying a map
abbrev pub IsSimplifyError : MapRecord → CallError → Type 0
IsSimplifyError m r = (e : PlanError) × (simplification m ≡ Err e) × (r ≡ Plan e)

-- the error of a map that is not sorted, where it has to be
abbrev pub IsUnsorted : MapRecord → CallError → Type 0
IsUnsorted m r = (are_tokens_sorted m.tokens ≡ false) × (r ≡ Plan Unsorted)
