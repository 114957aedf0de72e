-- The source at an index, by the lists of a map.
use Rattle.std.proofs.Common.{◌≡◌, ℕ, zero, suc, ◌<◌, ◌==◌, nat_lt, true, false, List, [], ◌∷◌}
use Rattle.std.proofs.Common.{Option, Some, None, slice_get, refl, ap, ◌∙◌, arith}
use Rattle.std.proofs.lemmas.Bool.{and_parts}
use Rattle.std.proofs.lemmas.Bool.Decides.{nat_tests}
use Rattle.oxc_sourcemap_parts.specs.Record.{Text, MapRecord}
use Rattle.oxc_sourcemap_parts.specs.DecodedMap.{DecodedSource, sources_of}
use Rattle.oxc_sourcemap_queries.specs.Originals.{content_at, source_at, source_with, is_shared}
use Rattle.oxc_sourcemap_queries.specs.Originals.{AreShared}

-- a source of this path and content
abbrev pub listed : Text → Option Text → Option DecodedSource
listed path content = Some (record { path = path; content = content })

pub source-none : (paths : List Text) (contents : List (Option Text)) (i : ℕ) → slice_get paths i ≡ None → slice_get (sources_of paths contents) i ≡ None
source-none [] contents i e = refl
source-none (path ∷ paths) [] zero e = cc (e)
source-none (path ∷ paths) [] (suc i) e = source-none paths [] i e
source-none (path ∷ paths) (content ∷ contents) zero e = cc (e)
source-none (path ∷ paths) (content ∷ contents) (suc i) e = source-none paths contents i e

pub source-some : (paths : List Text) (contents : List (Option Text)) (i : ℕ) (path : Text) → slice_get paths i ≡ Some path
    → slice_get (sources_of paths contents) i ≡ listed path (content_at contents i)
source-some [] contents i path e = cc (e)
source-some (p ∷ paths) [] zero path e = (let same : p ≡ path = cc (e) in rw same refl)
source-some (p ∷ paths) [] (suc i) path e = source-some paths [] i path e
source-some (p ∷ paths) (content ∷ contents) zero path e = (let same : p ≡ path = cc (e) in rw same refl)
source-some (p ∷ paths) (content ∷ contents) (suc i) path e = source-some paths contents i path e

-- the same id, below the count of shared sources, is that of equal sources
pub shared-equal : (a b : MapRecord) (first second : Option ℕ) (shared : ℕ) → AreShared a b shared → is_shared first second shared ≡ true → source_with a first ≡ source_with b second
shared-equal a b None second shared h e = (let f : false ≡ true = e in cc (f))
shared-equal a b (Some i) None shared h e = (let f : false ≡ true = e in cc (f))
shared-equal a b (Some i) (Some j) shared h e =
    let parts = and_parts (i == j) (nat_lt i shared) e in
    let same : i ≡ j = grind (arith, nat_tests, parts.0) in
    let lt : i < shared = grind (arith, nat_tests, parts.1) in
    h i lt ∙ ap (source_at b) same
