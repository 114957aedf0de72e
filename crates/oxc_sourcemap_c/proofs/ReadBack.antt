-- The error with the numbers of an error is that error.
use Rattle.std.proofs.Common.{◌≡◌, ℕ, Some, refl, ap}
use Rattle.std.proofs.Math.Nat.{mod-eq_of_lt}
use Rattle.oxc_sourcemap_tokens.specs.declared.errors.error.Field.{Field}
use Rattle.oxc_sourcemap_tokens.specs.declared.errors.error.Field.TheVariants.{Object}
use Rattle.oxc_sourcemap_tokens.specs.declared.errors.error.Field.TheVariants.{Version as VersionField}
use Rattle.oxc_sourcemap_tokens.specs.declared.errors.error.Field.TheVariants.{File, Mappings}
use Rattle.oxc_sourcemap_tokens.specs.declared.errors.error.Field.TheVariants.{SourceRoot, Sources}
use Rattle.oxc_sourcemap_tokens.specs.declared.errors.error.Field.TheVariants.{SourcesContent}
use Rattle.oxc_sourcemap_tokens.specs.declared.errors.error.Field.TheVariants.{Names, DebugId}
use Rattle.oxc_sourcemap_tokens.specs.declared.errors.error.Field.TheVariants.{IgnoreList}
use Rattle.oxc_sourcemap_tokens.specs.declared.errors.error.Field.TheVariants.{GoogleIgnoreList}
use Rattle.oxc_sourcemap_tokens.specs.declared.errors.error.Field.TheVariants.{Sections, Offset}
use Rattle.oxc_sourcemap_tokens.specs.declared.errors.error.Field.TheVariants.{Map as MapField}
use Rattle.oxc_sourcemap_tokens.specs.declared.errors.error.JsonFault.TheVariants.{Reading, Shape}
use Rattle.oxc_sourcemap_tokens.specs.declared.errors.error.JsonFault.TheVariants.{Version}
use Rattle.oxc_sourcemap_tokens.specs.declared.errors.error.Error.TheVariants.{VlqLeftover}
use Rattle.oxc_sourcemap_tokens.specs.declared.errors.error.Error.TheVariants.{VlqNoValues}
use Rattle.oxc_sourcemap_tokens.specs.declared.errors.error.Error.TheVariants.{VlqOverflow, BadJson}
use Rattle.oxc_sourcemap_tokens.specs.declared.errors.error.Error.TheVariants.{BadSegmentSize}
use Rattle.oxc_sourcemap_tokens.specs.declared.errors.error.Error.TheVariants.{BadSourceReference}
use Rattle.oxc_sourcemap_tokens.specs.declared.errors.error.Error.TheVariants.{BadNameReference}
use Rattle.oxc_sourcemap_tokens.specs.declared.errors.error.Error.TheVariants.{OutOfMemory}
use Rattle.oxc_sourcemap_tokens.specs.declared.errors.error.Error.TheVariants.{TooLarge, LineOrder}
use Rattle.oxc_sourcemap_tokens.specs.declared.errors.error.Error.TheVariants.{BadChunks}
use Rattle.oxc_sourcemap_tokens.specs.declared.errors.error.Error.TheVariants.{SeveralSources}
use Rattle.oxc_sourcemap_tokens.specs.declared.errors.error.Error.TheVariants.{SectionOrder}
use Rattle.oxc_sourcemap_tokens.specs.declared.errors.error.Error.TheVariants.{InputLineOrder}
use Rattle.oxc_sourcemap_tokens.specs.declared.errors.plan_error.PlanError.TheVariants.{Map}
use Rattle.oxc_sourcemap_tokens.specs.declared.errors.plan_error.PlanError.TheVariants.{Unsorted}
use Rattle.oxc_sourcemap_tokens.specs.declared.errors.plan_error.PlanError.TheVariants.{TooDeep}
use Rattle.oxc_sourcemap_c.specs.declared.numbers.call_error.CallError.{CallError}
use Rattle.oxc_sourcemap_c.specs.declared.numbers.call_error.CallError.TheVariants.{Plan}
use Rattle.oxc_sourcemap_c.specs.declared.numbers.call_error.CallError.TheVariants.{Words}
use Rattle.oxc_sourcemap_c.specs.declared.numbers.call_error.CallError.TheVariants.{NoText}
use Rattle.oxc_sourcemap_c.specs.declared.numbers.call_error.CallError.TheVariants.{NullHandle}
use Rattle.oxc_sourcemap_c.specs.declared.numbers.call_error.CallError.TheVariants.{NotUtf8}
use Rattle.oxc_sourcemap_c.specs.declared.numbers.call_error.CallError.TheVariants.{Lengths}
use Rattle.oxc_sourcemap_c.specs.declared.numbers.call_error.CallError.TheVariants.{NoEntry}
use Rattle.oxc_sourcemap_c.specs.declared.numbers.call_error.CallError.TheVariants.{NoIndex}
use Rattle.oxc_sourcemap_c.specs.declared.numbers.call_error.CallError.TheVariants.{BadOption}
use Rattle.oxc_sourcemap_c.specs.declared.numbers.call_error.CallError.TheVariants.{BadBase64}
use Rattle.oxc_sourcemap_c.specs.declared.numbers.call_error.CallError.TheVariants.{BadDataUtf8}
use Rattle.oxc_sourcemap_c.specs.declared.numbers.call_error.CallError.TheVariants.{Compiled}
use Rattle.oxc_sourcemap_c.specs.declared.numbers.call_error.CallError.TheVariants.{BadScopes}
use Rattle.oxc_sourcemap_c.specs.declared.numbers.call_error.CallError.TheVariants.{ScopesNotText}
use Rattle.oxc_sourcemap_c.specs.declared.numbers.call_error.CallError.TheVariants.{ScopesIndexed}
use Rattle.oxc_sourcemap_c.specs.declared.numbers.call_error.CallError.TheVariants.{Shared}
use Rattle.oxc_sourcemap_c.specs.declared.numbers.call_error.CallError.TheVariants.{NotShared}
use Rattle.oxc_sourcemap_scopes.specs.declared.errors.ScopesFaultKind.{ScopesFaultKind}
use Rattle.oxc_sourcemap_scopes.specs.declared.errors.ScopesFaultKind.TheVariants as kinds
use Rattle.oxc_sourcemap_compiled.specs.declared.errors.CompiledError.TheVariants.{NotCompiled}
use Rattle.oxc_sourcemap_compiled.specs.declared.errors.CompiledError.TheVariants.{Version as CompiledVersion}
use Rattle.oxc_sourcemap_compiled.specs.declared.errors.CompiledError.TheVariants.{Length, Sizes}
use Rattle.oxc_sourcemap_c.specs.Codes.{fault_of, call_error_of, IsSmall}

shape_back : (f : Field) → call_error_of (fault_of (Plan (Map (BadJson (Shape f))))) ≡ Some (Plan (Map (BadJson (Shape f))))
shape_back Object = refl
shape_back VersionField = refl
shape_back File = refl
shape_back Mappings = refl
shape_back SourceRoot = refl
shape_back Sources = refl
shape_back SourcesContent = refl
shape_back Names = refl
shape_back DebugId = refl
shape_back IgnoreList = refl
shape_back GoogleIgnoreList = refl
shape_back Sections = refl
shape_back Offset = refl
shape_back MapField = refl

scopes_back : (kind : ScopesFaultKind) (byte : ℕ) → call_error_of (fault_of (BadScopes (record { kind = kind; byte = byte }))) ≡ Some (BadScopes (record { kind = kind; byte = byte }))
scopes_back kinds.NotADigit byte = refl
scopes_back kinds.CutShort byte = refl
scopes_back kinds.TooLarge byte = refl
scopes_back kinds.MissingNumber byte = refl
scopes_back kinds.BadIndex byte = refl
scopes_back kinds.NothingOpen byte = refl
scopes_back kinds.NotClosed byte = refl
scopes_back kinds.TooDeep byte = refl
scopes_back kinds.LeftOpen byte = refl
scopes_back kinds.SplitTwice byte = refl

pub read_back : (r : CallError) → IsSmall r → call_error_of (fault_of r) ≡ Some r
read_back (Plan (Map VlqLeftover)) s = refl
read_back (Plan (Map VlqNoValues)) s = refl
read_back (Plan (Map VlqOverflow)) s = refl
read_back (Plan (Map (BadJson Reading))) s = refl
read_back (Plan (Map (BadJson (Shape f)))) s = shape_back f
read_back (Plan (Map (BadJson (Version n)))) s = ap (λ k. Some (Plan (Map (BadJson (Version k))))) (mod-eq_of_lt s)
read_back (Plan (Map (BadSegmentSize n))) s = ap (λ k. Some (Plan (Map (BadSegmentSize k)))) (mod-eq_of_lt s)
read_back (Plan (Map (BadSourceReference n))) s = ap (λ k. Some (Plan (Map (BadSourceReference k)))) (mod-eq_of_lt s)
read_back (Plan (Map (BadNameReference n))) s = ap (λ k. Some (Plan (Map (BadNameReference k)))) (mod-eq_of_lt s)
read_back (Plan (Map OutOfMemory)) s = refl
read_back (Plan (Map TooLarge)) s = refl
read_back (Plan (Map (LineOrder i))) s = refl
read_back (Plan (Map (BadChunks k))) s = refl
read_back (Plan (Map (SeveralSources n))) s = refl
read_back (Plan (Map (SectionOrder k))) s = refl
read_back (Plan (Map (InputLineOrder k))) s = refl
read_back (Plan Unsorted) s = refl
read_back (Plan TooDeep) s = refl
read_back Words s = refl
read_back (NoText k) s = ap (λ n. Some (NoText n)) (mod-eq_of_lt s)
read_back NullHandle s = refl
read_back (NotUtf8 n) s = refl
read_back Lengths s = refl
read_back NoEntry s = refl
read_back NoIndex s = refl
read_back BadOption s = refl
read_back (BadBase64 at) s = refl
read_back (BadDataUtf8 at) s = refl
read_back (Compiled NotCompiled) s = refl
read_back (Compiled (CompiledVersion n)) s = ap (λ k. Some (Compiled (CompiledVersion k))) (mod-eq_of_lt s)
read_back (Compiled Length) s = refl
read_back (Compiled Sizes) s = refl
read_back (BadScopes f) s = scopes_back f.kind f.byte
read_back ScopesNotText s = refl
read_back ScopesIndexed s = refl
read_back Shared s = refl
read_back NotShared s = refl
