-- Shared maps, each of which several handles may hold.
use Rattle.std.specs.Prelude.{◌≡◌, ⊤, Option, Some, MatchOption}
use Rattle.oxc_sourcemap_c.specs.declared.numbers.call_error.CallError.{CallError}
use Rattle.oxc_sourcemap_c.specs.declared.numbers.call_error.CallError.TheVariants.{NullHandle}
use Rattle.oxc_sourcemap_c.specs.declared.numbers.call_error.CallError.TheVariants.{NotShared}
use Rattle.oxc_sourcemap_c.specs.declared.holding.held.Held.{Held}
use Rattle.oxc_sourcemap_c.specs.Holding.{held_loaded, own_loaded, shared_loaded}

-- a handle holds a shared map
abbrev pub IsShared : Option Held → Type 0
IsShared held = MatchOption (shared_loaded held) ⊥ (λ _. ⊤)

-- a handle holds a map, and this one the same map with its indices, shared
abbrev pub IsSharedOf : Option Held → Option Held → Type 0
IsSharedOf held shared = MatchOption (held_loaded held) ⊥ (λ l. shared_loaded shared ≡ Some l)

-- the error of making another handle of what a handle holds: it holds no map, or one that is not shared
abbrev pub IsRetainError : Option Held → CallError → Type 0
IsRetainError held r = MatchOption (held_loaded held) (r ≡ NullHandle) (λ _. MatchOption (own_loaded held) ⊥ (λ _. r ≡ NotShared))
