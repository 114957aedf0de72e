-- Calls on scopes.
use Rattle.std.specs.Prelude.{◌≡◌, ◌⊎◌, ℕ, List, length, map, Option, Some, None, Result, Ok, Err}
use Rattle.std.specs.Prelude.{IsUtf8, MatchOption, MatchResult, option_map, nat_lt}
use Rattle.std.specs.Prelude.{if◌then◌else◌}
use Rattle.oxc_sourcemap_scopes.specs.Reading.{ScopesRecord, scopes_of, read_scopes}
use Rattle.oxc_sourcemap_scopes.specs.Asking.{frames_at, variables_of, value_at, scope_chain}
use Rattle.oxc_sourcemap_scopes.specs.Asking.{scope_chain_at}
use Rattle.oxc_sourcemap_scopes.specs.declared.errors.ScopesError.{ScopesError}
use Rattle.oxc_sourcemap_scopes.specs.declared.chains.ScopeChainEntry.{ScopeChainEntry}
use Rattle.oxc_sourcemap_c.specs.CallErrors.{IsNotText, of_scopes, out_of_memory}
use Rattle.oxc_sourcemap_c.specs.Holding.{held_scopes}
use Rattle.oxc_sourcemap_c.specs.Listed.{filled}
use Rattle.oxc_sourcemap_c.specs.Answers.{flag_of}
use Rattle.oxc_sourcemap_c.specs.Compiled.{IsWrittenOut}
use Rattle.oxc_sourcemap_c.specs.ScopeNumbers.{frame_numbers, chain_entry_numbers}
use Rattle.oxc_sourcemap_c.specs.Structs.{index_number, number_or_none}
use Rattle.oxc_sourcemap_c.specs.declared.holding.held.Held.{Held}
use Rattle.oxc_sourcemap_c.specs.declared.numbers.call_error.CallError.{CallError}
use Rattle.oxc_sourcemap_c.specs.declared.numbers.call_error.CallError.TheVariants.{NullHandle}
use Rattle.oxc_sourcemap_c.specs.declared.numbers.call_error.CallError.TheVariants.{NoEntry}
use Rattle.oxc_sourcemap_c.specs.declared.texts.scopes.FrameNumbers.{FrameNumbers}
use Rattle.oxc_sourcemap_c.specs.declared.texts.scopes.ChainEntryNumbers.{ChainEntryNumbers}

-- a handle holds scopes of which this holds
abbrev pub HoldsScopes : Option Held → (ScopesRecord → Type 0) → Type 0
HoldsScopes held P = MatchOption (held_scopes held) ⊥ P

-- an error of reading bytes as scopes, as defined by this: they are no text, or the first of the text
abbrev pub IsScopesErrorBy : (List ℕ → Result ScopesRecord ScopesError) → List ℕ → CallError → Type 0
IsScopesErrorBy read bytes r = IsNotText bytes r ⊎ (IsUtf8 bytes × ((e : ScopesError) × (read bytes ≡ Err e) × (r ≡ of_scopes e)))

-- an error of reading the scopes of a map, by the bytes of its JSON text
abbrev pub IsReadScopesError : List ℕ → CallError → Type 0
IsReadScopesError json r = IsScopesErrorBy read_scopes json r

-- an error of reading the bytes of a `scopes` text, where there are so many names
abbrev pub IsDecodeScopesError : List ℕ → ℕ → CallError → Type 0
IsDecodeScopesError text names r = IsScopesErrorBy (λ bytes. scopes_of bytes names) text r

-- what scopes in a handle answer: `NullHandle`, `NoEntry`, or what they say
abbrev pub IsScopesAnswer : {A : Type 0} → Option Held → (ScopesRecord → Option A) → Result A CallError → Type 0
IsScopesAnswer held ask answer =
    MatchOption (held_scopes held) (answer ≡ Err NullHandle) (λ s. MatchOption (ask s) (answer ≡ Err NoEntry) (λ found. answer ≡ Ok found))

-- what scopes in a handle answer where an index is asked for
abbrev pub IsIndexAnswer : Option Held → (ScopesRecord → Option ℕ) → Result ℕ CallError → Type 0
IsIndexAnswer held ask answer = IsScopesAnswer held (λ s. option_map (λ i. index_number (Some i)) (ask s)) answer

-- the code and the output for that
abbrev pub IsIndexWritten : Option Held → (ScopesRecord → Option ℕ) → ℕ → ℕ → ℕ → Type 0
IsIndexWritten held ask code old new = (answer : Result ℕ CallError) × IsIndexAnswer held ask answer × IsWrittenOut answer code old new

-- the frames of scopes at a generated position, as many as there was room for, how many there are, and whether they are hidden
pub record AreFramesOf (s : ScopesRecord) (line column : ℕ) (old new : List FrameNumbers) (count is_hidden : ℕ) : Type 0 where
  pub written : new ≡ filled (map (frame_numbers s) (frames_at s line column).frames) old
  pub counted : count ≡ length (frames_at s line column).frames
  pub hidden : is_hidden ≡ flag_of (frames_at s line column).is_hidden

-- the frames at a generated position of the scopes that a handle holds
abbrev pub ListsFrames : Option Held → ℕ → ℕ → List FrameNumbers → List FrameNumbers → ℕ → ℕ → Type 0
ListsFrames held line column old new count is_hidden = HoldsScopes held (λ s. AreFramesOf s line column old new count is_hidden)

-- the result of asking what a handle holds for frames: `NullHandle`, want of memory, or the frames
abbrev pub AreFrames : Option Held → ℕ → ℕ → Result (ℕ × ℕ) CallError → List FrameNumbers → List FrameNumbers → Type 0
AreFrames held line column answer old new =
    MatchOption (held_scopes held) ((answer ≡ Err NullHandle) × (new ≡ old))
    (λ s. MatchResult answer (λ found. AreFramesOf s line column old new found.0 found.1) (λ r. (r ≡ out_of_memory) × (new ≡ old)))

-- the variables of the scope with this index in a handle, as many as there was room for, and how many there are: `NullHandle`, `NoEntry`,
-- or these
abbrev pub AreVariables : Option Held → ℕ → Result ℕ CallError → List ℕ → List ℕ → Type 0
AreVariables held scope answer old new =
    MatchOption (held_scopes held) ((answer ≡ Err NullHandle) × (new ≡ old))
    (λ s. MatchOption (variables_of s scope) ((answer ≡ Err NoEntry) × (new ≡ old)) (λ list. (answer ≡ Ok (length list)) × (new ≡ filled list old)))

-- this, if a list has an entry at an index
abbrev pub if_entry : {A B : Type 0} → List B → ℕ → A → Option A
if_entry list i it = if nat_lt i (length list) then Some it else None

-- what scopes in a handle answer where the value of a variable in a range is asked for, at a generated position
abbrev pub IsValue : Option Held → ℕ → ℕ → ℕ → ℕ → Result ℕ CallError → Type 0
IsValue held range variable line column answer =
    IsScopesAnswer held (λ s. if_entry s.ranges range (number_or_none (value_at s range variable line column))) answer

-- a chain of scopes was written, as many entries as there was room for, and how many there are told; or nothing, as memory was refused
abbrev pub IsChain : List ScopeChainEntry → Result ℕ CallError → List ChainEntryNumbers → List ChainEntryNumbers → Type 0
IsChain chain answer old new =
    MatchResult answer (λ count. (count ≡ length chain) × (new ≡ filled (map chain_entry_numbers chain) old)) (λ r. (r ≡ out_of_memory) × (new ≡ old))

-- the result of asking what a handle holds for the chain at a generated position
abbrev pub IsChainAt : Option Held → ℕ → ℕ → Result ℕ CallError → List ChainEntryNumbers → List ChainEntryNumbers → Type 0
IsChainAt held line column answer old new =
    MatchOption (held_scopes held) ((answer ≡ Err NullHandle) × (new ≡ old)) (λ s. IsChain (scope_chain_at s line column) answer old new)

-- the same for that of a frame with this index; there may also be no such frame
abbrev pub IsChainOf : Option Held → ℕ → ℕ → ℕ → Result ℕ CallError → List ChainEntryNumbers → List ChainEntryNumbers → Type 0
IsChainOf held frame line column answer old new =
    MatchOption (held_scopes held) ((answer ≡ Err NullHandle) × (new ≡ old))
    (λ s. MatchOption (scope_chain s frame line column) (((answer ≡ Err NoEntry) ⊎ (answer ≡ Err out_of_memory)) × (new ≡ old))
    (λ chain. IsChain chain answer old new))
