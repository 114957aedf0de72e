-- The kinds of faults of scopes, as numbers.
use Rattle.std.specs.Prelude.{ℕ, ◌==◌, if◌then◌else◌, Option, Some, None}
use Rattle.oxc_sourcemap_scopes.specs.declared.errors.ScopesFaultKind.{ScopesFaultKind}
use Rattle.oxc_sourcemap_scopes.specs.declared.errors.ScopesFaultKind.TheVariants.{NotADigit}
use Rattle.oxc_sourcemap_scopes.specs.declared.errors.ScopesFaultKind.TheVariants.{CutShort}
use Rattle.oxc_sourcemap_scopes.specs.declared.errors.ScopesFaultKind.TheVariants.{TooLarge}
use Rattle.oxc_sourcemap_scopes.specs.declared.errors.ScopesFaultKind.TheVariants.{MissingNumber}
use Rattle.oxc_sourcemap_scopes.specs.declared.errors.ScopesFaultKind.TheVariants.{BadIndex}
use Rattle.oxc_sourcemap_scopes.specs.declared.errors.ScopesFaultKind.TheVariants.{NothingOpen}
use Rattle.oxc_sourcemap_scopes.specs.declared.errors.ScopesFaultKind.TheVariants.{NotClosed}
use Rattle.oxc_sourcemap_scopes.specs.declared.errors.ScopesFaultKind.TheVariants.{TooDeep}
use Rattle.oxc_sourcemap_scopes.specs.declared.errors.ScopesFaultKind.TheVariants.{LeftOpen}
use Rattle.oxc_sourcemap_scopes.specs.declared.errors.ScopesFaultKind.TheVariants.{SplitTwice}

-- the number of a kind, from 1
abbrev pub number_of_fault_kind : ScopesFaultKind → ℕ
number_of_fault_kind NotADigit = 1
number_of_fault_kind CutShort = 2
number_of_fault_kind TooLarge = 3
number_of_fault_kind MissingNumber = 4
number_of_fault_kind BadIndex = 5
number_of_fault_kind NothingOpen = 6
number_of_fault_kind NotClosed = 7
number_of_fault_kind TooDeep = 8
number_of_fault_kind LeftOpen = 9
number_of_fault_kind SplitTwice = 10

-- the kind with this number
abbrev pub fault_kind_of : ℕ → Option ScopesFaultKind
fault_kind_of n =
    if n == 1 then Some NotADigit
    else if n == 2 then Some CutShort
    else if n == 3 then Some TooLarge
    else if n == 4 then Some MissingNumber
    else if n == 5 then Some BadIndex
    else if n == 6 then Some NothingOpen
    else if n == 7 then Some NotClosed
    else if n == 8 then Some TooDeep
    else if n == 9 then Some LeftOpen
    else if n == 10 then Some SplitTwice
    else None
