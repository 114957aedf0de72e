-- What the tokens of a map point to, by the paths and contents of its sources.
use Rattle.std.proofs.Common.{◌≡◌, ℕ, zero, suc, List, [], ◌∷◌, Option, Some, None, refl, sym, ap}
use Rattle.std.proofs.Common.{◌∙◌}
use Rattle.std.proofs.Common.{slice_get}
use Rattle.std.specs.Option.{option_map, option_and_then}
use Rattle.oxc_sourcemap_tokens.specs.Token.{TokenRecord}
use Rattle.oxc_sourcemap_parts.specs.Record.{Text, MapRecord}
use Rattle.oxc_sourcemap_parts.specs.DecodedMap.{DecodedSource, OriginalPosition, sources_of}
use Rattle.oxc_sourcemap_parts.specs.DecodedMap.{name_of}
use Rattle.oxc_sourcemap_parts.specs.DecodedMap.{original_at}
use Rattle.oxc_sourcemap_lookup.specs.Trace.{original_in}
use Rattle.oxc_sourcemap_lookup.proofs.Traces.{token_traced, token_clamped_traced}
use Rattle.oxc_sourcemap_lookup.specs.declared.bias.Bias.{Bias}
use Rattle.oxc_sourcemap_lookup.specs.declared.bias.Bias.TheVariants.{Before, Clamped, After}
use Rattle.sourcemap_run.specs.Answers.{content_at, pointed, map_answer}

-- a source with this content
abbrev pub source_with : Option Text → Text → DecodedSource
source_with content path = record { path = path; content = content }

source-at : (paths : List Text) (contents : List (Option Text)) (i : ℕ) → slice_get (sources_of paths contents) i ≡ option_map (source_with (content_at contents i)) (slice_get paths i)
source-at [] contents i = refl
source-at (path ∷ paths) [] zero = refl
source-at (path ∷ paths) [] (suc i) = source-at paths [] i
source-at (path ∷ paths) (content ∷ contents) zero = refl
source-at (path ∷ paths) (content ∷ contents) (suc i) = source-at paths contents i

twice : {A B C : Type 0} (f : B → C) (g : A → B) (x : Option A) → option_map f (option_map g x) ≡ option_map (λ a. f (g a)) x
twice f g None = refl
twice f g (Some x) = refl

by_id : (r : MapRecord) (t : TokenRecord) (id : Option ℕ)
    → option_map (original_at r.names t) (option_and_then (slice_get (sources_of r.sources r.source_contents)) id)
    ≡ option_map (λ path. original_at r.names t (source_with (option_and_then (content_at r.source_contents) id) path)) (option_and_then (slice_get r.sources) id)
by_id r t None = refl
by_id r t (Some i) =
    ap (option_map (original_at r.names t)) (source-at r.sources r.source_contents i) ∙ twice (original_at r.names t) (source_with (content_at r.source_contents i)) (slice_get r.sources i)

pub mapped_original : (r : MapRecord) (t : TokenRecord) (path : Text) (content : Option Text) (line col : ℕ) (name : Option Text) → Some path ≡ option_and_then (slice_get r.sources) t.source_id
    → content ≡ option_and_then (content_at r.source_contents) t.source_id → line ≡ t.src_line → col ≡ t.src_col → name ≡ name_of r.names t
    → Some (record { source = source_with content path; src_line = line; src_col = col; name = name }) ≡ original_in r t
mapped_original r t path content line col name e h l c n =
    let content' = option_and_then (content_at r.source_contents) t.source_id in
    let P : Option Text → ℕ → ℕ → Option Text → Option OriginalPosition = λ content line col name. Some (record { source = source_with content path; src_line = line; src_col = col; name = name }) in
    ap (λ content. P content line col name) h ∙ ap (λ line. P content' line col name) l ∙ ap (λ col. P content' t.src_line col name) c ∙ ap (P content' t.src_line t.src_col) n
    ∙ ap (option_map (λ path. original_at r.names t (source_with content' path))) e ∙ sym (by_id r t t.source_id)

pub no_original : (r : MapRecord) (t : TokenRecord) → None ≡ option_and_then (slice_get r.sources) t.source_id → None ≡ original_in r t
no_original r t e =
    ap (option_map (λ path. original_at r.names t (source_with (option_and_then (content_at r.source_contents) t.source_id) path))) e ∙ sym (by_id r t t.source_id)

-- the trace of what a map means is what its token points to
pub pointed_answer : (bias : Bias) (r : MapRecord) (line col : ℕ) → pointed bias r line col ≡ map_answer bias r line col
pointed_answer Before r line col = token_traced r line col
pointed_answer Clamped r line col = token_clamped_traced r line col
pointed_answer After r line col = refl
