-- Answers that are written.
use Rattle.std.proofs.Common.{◌≡◌, ap, ◌∙◌, ℕ, List, slice_get, get_or, Option, Some, None}
use Rattle.std.proofs.Common.{MatchOption, Result, Ok, Err, MatchResult}
use Rattle.oxc_sourcemap_tokens.specs.Token.{TokenRecord}
use Rattle.oxc_sourcemap_map.specs.Places.{no_token}
use Rattle.oxc_sourcemap_c.specs.declared.numbers.call_error.CallError.{CallError}
use Rattle.oxc_sourcemap_c.specs.declared.numbers.call_error.CallError.TheVariants.{NoEntry}
use Rattle.oxc_sourcemap_c.specs.declared.numbers.fault.Fault.{Fault}
use Rattle.oxc_sourcemap_c.specs.declared.reading.reverse.FoundToken.{FoundToken}
use Rattle.oxc_sourcemap_c.specs.declared.texts.text.TokenNumbers.{TokenNumbers}
use Rattle.oxc_sourcemap_c.specs.Reverse.{found_token}
use Rattle.oxc_sourcemap_c.specs.Structs.{numbers_of}
use Rattle.oxc_sourcemap_c.specs.declared.texts.text.Text.{Text as LentText}
use Rattle.oxc_sourcemap_c.specs.Codes.{fault_of, code_of, no_fault}
use Rattle.oxc_sourcemap_c.specs.Exports.{IsToldAs}

pub told_as : (answer : Result LentText CallError) (code : ℕ) (out old : LentText) (fault : Fault)
    → MatchResult answer (λ found. (code ≡ 0) × (out ≡ found) × (fault ≡ no_fault)) (λ r. (code ≡ code_of r) × (out ≡ old) × (fault ≡ fault_of r)) → IsToldAs answer code out fault
told_as (Ok found) code out old fault told = told
told_as (Err r) code out old fault told = (told.0, told.2)

-- a token that was found is written with its index, or nothing on an error
abbrev IsWrittenAs : Result FoundToken CallError → ℕ → ℕ → TokenNumbers → ℕ → TokenNumbers → Type 0
IsWrittenAs answer code index token old was =
    MatchResult answer (λ found. (code ≡ 0) × (index ≡ found.index) × (token ≡ found.token)) (λ r. (code ≡ code_of r) × (index ≡ old) × (token ≡ was))

first_as : (first : Option ℕ) (tokens : List TokenRecord) (answer : Result FoundToken CallError) (code index : ℕ) (token : TokenNumbers) (old : ℕ) (was : TokenNumbers)
    → MatchOption first (answer ≡ Err NoEntry) (λ i. answer ≡ Ok (found_token tokens i)) → IsWrittenAs answer code index token old was
    → MatchOption first (code ≡ code_of NoEntry) (λ i. (code ≡ 0) × (index ≡ i) × (token ≡ numbers_of (get_or tokens i no_token)))
first_as None tokens (Ok found) code index token old was e w = absurd (cc (e))
first_as None tokens (Err r) code index token old was e w = (let same : r ≡ NoEntry = cc (e) in w.0 ∙ ap code_of same)
first_as (Some i) tokens (Ok found) code index token old was e w =
    let same : found ≡ found_token tokens i = cc (e) in
    (w.0, w.1 ∙ ap (λ f. f.index) same, w.2 ∙ ap (λ f. f.token) same)
first_as (Some i) tokens (Err r) code index token old was e w = absurd (cc (e))

pub first_written : (found : Result (List ℕ) CallError) (tokens : List TokenRecord) (answer : Result FoundToken CallError) (code index : ℕ) (token : TokenNumbers) (old : ℕ) (was : TokenNumbers)
    → MatchResult found (λ indices. MatchOption (slice_get indices 0) (answer ≡ Err NoEntry) (λ i. answer ≡ Ok (found_token tokens i))) (λ r. answer ≡ Err r)
    → IsWrittenAs answer code index token old was
    → MatchResult found (λ indices. MatchOption (slice_get indices 0) (code ≡ code_of NoEntry) (λ i. (code ≡ 0) × (index ≡ i) × (token ≡ numbers_of (get_or tokens i no_token)))) (λ r. code ≡ code_of r)
first_written (Ok indices) tokens answer code index token old was e w = first_as (slice_get indices 0) tokens answer code index token old was e w
first_written (Err s) tokens (Ok found) code index token old was e w = absurd (cc (e))
first_written (Err s) tokens (Err r) code index token old was e w = (let same : r ≡ s = cc (e) in w.0 ∙ ap code_of same)
