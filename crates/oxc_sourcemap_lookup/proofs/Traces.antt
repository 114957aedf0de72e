-- Traces by the tokens of a map, and the paths of what they point to.
use Rattle.std.proofs.Common.{◌≡◌, ℕ, zero, suc, List, [], ◌∷◌, refl, sym, ap, ◌∙◌, slice_get}
use Rattle.std.proofs.Common.{Option, Some, None}
use Rattle.std.specs.Option.{option_map}
use Rattle.oxc_sourcemap_parts.specs.Record.{Text, MapRecord}
use Rattle.oxc_sourcemap_parts.specs.Sorted.{token_line, token_column}
use Rattle.oxc_sourcemap_parts.specs.DecodedMap.{decoded_map_of, sources_of, mapping_of}
use Rattle.oxc_sourcemap_parts.specs.DecodedMap.{mapping_line, mapping_column}
use Rattle.oxc_sourcemap_lookup.specs.Lookup.{pick, clamped_pick}
use Rattle.oxc_sourcemap_lookup.specs.Trace.{trace, clamped_trace, original_in}
use Rattle.oxc_sourcemap_lookup.proofs.Picks.{pick-map, clamped_pick-map}

pub twice : {A B C : Type 0} (g : B → C) (f : A → B) (o : Option A) → option_map g (option_map f o) ≡ option_map (λ x. g (f x)) o
twice g f None = refl
twice g f (Some x) = refl

-- the trace of a decoded map at a position is what the token found there in the map points to
pub token_traced : (r : MapRecord) (line col : ℕ) → option_map (original_in r) (pick token_line token_column r.tokens line col) ≡ trace (decoded_map_of r) line col
token_traced r line col =
    let f = mapping_of (sources_of r.sources r.source_contents) r.names in
    sym (ap (option_map (λ e. e.original)) (pick-map f mapping_line mapping_column r.tokens line col) ∙ twice (λ e. e.original) f _)

pub token_clamped_traced : (r : MapRecord) (line col : ℕ) → option_map (original_in r) (clamped_pick token_line token_column r.tokens line col) ≡ clamped_trace (decoded_map_of r) line col
token_clamped_traced r line col =
    let f = mapping_of (sources_of r.sources r.source_contents) r.names in
    sym (ap (option_map (λ e. e.original)) (clamped_pick-map f mapping_line mapping_column r.tokens line col) ∙ twice (λ e. e.original) f _)

-- the paths of decoded sources are those listed in the map
pub source_path : (paths : List Text) (contents : List (Option Text)) (i : ℕ) → option_map (λ s. s.path) (slice_get (sources_of paths contents) i) ≡ slice_get paths i
source_path [] contents i = refl
source_path (path ∷ paths) [] zero = refl
source_path (path ∷ paths) [] (suc i) = source_path paths [] i
source_path (path ∷ paths) (content ∷ contents) zero = refl
source_path (path ∷ paths) (content ∷ contents) (suc i) = source_path paths contents i
