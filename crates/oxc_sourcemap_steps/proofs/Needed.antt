-- What tokens need, one by one.
use Rattle.std.proofs.Common.{◌≡◌, sym, ap, ◌∙◌, ℕ, ◌+◌, ◌<◌, ◌≤◌, List, [], ◌∷◌, length, get_or}
use Rattle.std.proofs.Common.{drop, Option, Some, None, arith}
use Rattle.std.proofs.lemmas.List.{drop_more}
use Rattle.std.specs.Option.{option_and_then}
use Rattle.oxc_sourcemap_tokens.specs.Token.{TokenRecord}
use Rattle.oxc_sourcemap_steps.specs.SimplifySteps.{target_by, with_name, with_listings}
use Rattle.oxc_sourcemap_steps.specs.SimplifySteps.{with_source, with_any, with_all}
use Rattle.oxc_sourcemap_steps.specs.declared.simplify.tokens.Tables.{Tables}
use Rattle.oxc_sourcemap_steps.specs.declared.simplify.tokens.Target.{Target}
use Rattle.oxc_sourcemap_steps.proofs.NextNumbers.{any-more}

-- the token at an index, read first
pub read-more : (more : List ℕ → TokenRecord → List ℕ) (ks : List ℕ) (ts : List TokenRecord) (i : ℕ) (t : TokenRecord) → i < length ts → t ≡ get_or ts i t
    → with_all more ks (drop i ts) ≡ with_all more (more ks t) (drop (i + 1) ts)
read-more more ks ts i t h e = ap (with_all more ks) (drop_more ts i t h) ∙ ap (λ u. with_all more (more ks u) (drop (i + 1) ts)) (sym e)

all-grow : (more : List ℕ → TokenRecord → List ℕ) → ((ks : List ℕ) (t : TokenRecord) → length ks ≤ length (more ks t)) → (ks : List ℕ) (ts : List TokenRecord) → length ks ≤ length (with_all more ks ts)
all-grow more h ks [] = omega arith
all-grow more h ks (t ∷ ts) =
    let one = h ks t in
    let rest = all-grow more h (more ks t) ts in
    omega (arith, one, rest)

pub names-grow : (tables : Tables) (ks : List ℕ) (ts : List TokenRecord) → length ks ≤ length (with_all (with_name tables) ks ts)
names-grow tables ks ts = all-grow (with_name tables) (λ os t. any-more os (option_and_then (λ (target : Target). target.name) (target_by tables t))) ks ts

listings-grow : (ks : List ℕ) (o : Option Target) → length ks ≤ length (with_listings ks o)
listings-grow ks None = omega arith
listings-grow ks (Some target) =
    let one = any-more ks target.source.plain in
    let two = any-more (with_any ks target.source.plain) target.source.ignored in
    omega (arith, one, two)

pub sources-grow : (tables : Tables) (ks : List ℕ) (ts : List TokenRecord) → length ks ≤ length (with_all (with_source tables) ks ts)
sources-grow tables ks ts = all-grow (with_source tables) (λ os t. listings-grow os (target_by tables t)) ks ts
