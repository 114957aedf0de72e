-- Faults of a text, and how a reading goes on after a part of it.
use Rattle.std.specs.Prelude.{◌≡◌, ◌≢◌, ℕ, Result, Ok, Err, IfOk, IfErr}
use Rattle.oxc_sourcemap_scopes.specs.declared.errors.ScopesError.{ScopesError}
use Rattle.oxc_sourcemap_scopes.specs.declared.errors.ScopesError.TheVariants as errors
use Rattle.oxc_sourcemap_scopes.specs.declared.errors.ScopesFaultKind.{ScopesFaultKind}
pub use Rattle.oxc_sourcemap_scopes.specs.declared.errors.ScopesError.TheVariants.{OutOfMemory}
pub use Rattle.oxc_sourcemap_scopes.specs.declared.errors.ScopesError.TheVariants.{Fault}

-- the error for a fault of the item that begins at this byte
abbrev pub error_at : ScopesFaultKind → ℕ → ScopesError
error_at kind byte = errors.Fault (record { kind = kind; byte = byte })

-- what is read next from what was read
infixl 10 ◌>>=◌
abbrev pub ◌>>=◌ : {A B : Type 0} → Result A ScopesError → (A → Result B ScopesError) → Result B ScopesError
(Ok x) >>= next = next x
(Err e) >>= next = Err e

-- A call gives what is defined, as `view` sees its value, or lacks memory.
abbrev pub Reads : {A B : Type 0} → (A → B) → Result A ScopesError → Result B ScopesError → Type 0
Reads view result defined = IfOk result (λ x. defined ≡ Ok (view x)) × IfErr result (λ e. (e ≢ errors.OutOfMemory) → defined ≡ Err e)
