-- What tokens point to, by parts that are compared one after the other. Contracts of private functions cite these.
use Rattle.std.specs.Prelude.{◌≡◌, ℕ, ◌<◌, ◌==◌, nat_lt, Bool, false, ◌&&◌, List, slice_get, Option}
use Rattle.std.specs.Prelude.{Some, None}
use Rattle.std.specs.Option.{option_map, option_and_then}
use Rattle.oxc_sourcemap_tokens.specs.Token.{TokenRecord}
use Rattle.oxc_sourcemap_tokens.specs.Results.{lent_item}
use Rattle.oxc_sourcemap_parts.specs.Record.{MapRecord, Text}
use Rattle.oxc_sourcemap_parts.specs.DecodedMap.{DecodedSource, OriginalPosition, sources_of}
use Rattle.oxc_sourcemap_lookup.specs.Trace.{original_in}
use Rattle.oxc_sourcemap_queries.specs.declared.differ.originals.Source.{Source}
use Rattle.oxc_sourcemap_queries.specs.declared.differ.originals.EqualSources.{EqualSources}

-- the content listed at an index, if there is one and it is known
abbrev pub content_at : List (Option Text) → ℕ → Option Text
content_at contents i = option_and_then (λ content. content) (slice_get contents i)

-- a source, by its texts
abbrev pub source_of : Source → DecodedSource
source_of source = record { path = source.path.now; content = lent_item source.content }

-- the source listed at an index, if there is one
abbrev pub source_at : MapRecord → ℕ → Option DecodedSource
source_at r id = slice_get (sources_of r.sources r.source_contents) id

-- the source with an id, if there is one
abbrev pub source_with : MapRecord → Option ℕ → Option DecodedSource
source_with r id = option_and_then (slice_get (sources_of r.sources r.source_contents)) id

-- so many sources at the front of the lists of two maps are equal
abbrev pub AreShared : MapRecord → MapRecord → ℕ → Type 0
AreShared a b shared = (i : ℕ) → i < shared → source_at a i ≡ source_at b i

-- these are ids of equal sources, and so many are equal at the front
pub record AreEqualSources (a b : MapRecord) (equal : EqualSources) : Type 0 where
  pub shared : AreShared a b equal.shared
  pub pair : source_with a equal.first ≡ source_with b equal.second

-- two ids are the same one, below a count
abbrev pub is_shared : Option ℕ → Option ℕ → ℕ → Bool
is_shared None second shared = false
is_shared (Some i) None shared = false
is_shared (Some i) (Some j) shared = i == j && nat_lt i shared

-- what a token that is found points to, as a trace has it
abbrev pub found_with : MapRecord → Option TokenRecord → Option (Option OriginalPosition)
found_with r found = option_map (original_in r) found
