-- How the numbers of an item are read.
use Rattle.std.proofs.Common.{◌≡◌, ℕ, List, [], ◌∷◌, ◌++◌, Result, Ok, Err, refl, append_assoc}
use Rattle.oxc_sourcemap_scopes.specs.declared.errors.ScopesError.{ScopesError}
use Rattle.oxc_sourcemap_scopes.specs.Numbers.{before_others}

-- numbers that were read, and those that are read after them
abbrev pub after_read : List ℕ → Result (List ℕ) ScopesError → Result (List ℕ) ScopesError
after_read front (Ok ns) = Ok (front ++ ns)
after_read front (Err e) = Err e

pub read_more : (front : List ℕ) (n : ℕ) (rest : Result (List ℕ) ScopesError) → after_read front (before_others n rest) ≡ after_read (front ++ n ∷ []) rest
read_more front n (Ok ns) = let e : (front ++ n ∷ []) ++ ns ≡ front ++ n ∷ ns = append_assoc front (n ∷ []) ns in rw e refl
read_more front n (Err e) = refl
