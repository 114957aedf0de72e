-- The errors and answers of the commands on maps, by the map that was read.
use Rattle.std.proofs.Common.{◌≡◌, ◌≢◌, ℕ, List, Option, Some, None, Ok, Err, true, option_map, ap}
use Rattle.std.proofs.Common.{◌∙◌, refl, sym, cond, slice_get, codes}
use Rattle.std.specs.Option.{option_and_then}
use Rattle.oxc_sourcemap_tokens.specs.declared.errors.error.Error.{Error}
use Rattle.oxc_sourcemap_tokens.specs.declared.errors.error.Error.TheVariants.{LineOrder}
use Rattle.oxc_sourcemap_tokens.specs.declared.errors.error.Error.TheVariants.{OutOfMemory}
use Rattle.oxc_sourcemap_parts.specs.Record.{Text, MapRecord}
use Rattle.oxc_sourcemap_json.specs.Shape.{◌>>=◌}
use Rattle.oxc_sourcemap_json.specs.ReadMap.{read_map}
use Rattle.oxc_sourcemap_json.specs.JsonText.{map_text, map_url}
use Rattle.oxc_sourcemap_tokens.specs.Token.{TokenRecord}
use Rattle.oxc_sourcemap_tokens.specs.LineOrder.{first_out_of_order}
use Rattle.oxc_sourcemap_lookup.specs.Lookup.{token_for}
use Rattle.oxc_sourcemap_parts.specs.Sorted.{are_tokens_sorted}
use Rattle.oxc_sourcemap_parts.specs.DecodedMap.{DecodedSource, decoded_map_of, sources_of, name_of}
use Rattle.oxc_sourcemap_parts.specs.DecodedMap.{original_at}
use Rattle.oxc_sourcemap_lookup.specs.Trace.{trace, original_in}
use Rattle.oxc_sourcemap_lookup.proofs.Traces.{token_traced, source_path}
use Rattle.oxc_sourcemap_tokens.specs.declared.errors.plan_error.PlanError.TheVariants.{Unsorted}
use Rattle.smap_run.specs.Answer.{normalised, normalised_url}
use Rattle.smap_run.specs.Traced.{original_text, trace_text, traced_of}

pub text_error : (text : List ℕ) (r : MapRecord) (fault : Error) → read_map text ≡ Ok r → (fault ≢ OutOfMemory → map_text r ≡ Err fault) → fault ≢ OutOfMemory → normalised text ≡ Err fault
text_error text r fault e m n = ap (λ read. read >>= map_text) e ∙ m n

pub url_error : (text : List ℕ) (r : MapRecord) (fault : Error) → read_map text ≡ Ok r → (fault ≢ OutOfMemory → map_url r ≡ Err fault) → fault ≢ OutOfMemory → normalised_url text ≡ Err fault
url_error text r fault e m n = ap (λ read. read >>= map_url) e ∙ m n

-- tokens in line order have an index of their lines
order_stands : (order : Option ℕ) (fault : Error) → order ≡ None → option_map LineOrder order ≡ Some fault → ⊥
order_stands None fault p e = cc (e)
order_stands (Some i) fault p e = cc (p)

pub index_error : (tokens : List TokenRecord) (fault : Error) → first_out_of_order tokens ≡ None → (fault ≢ OutOfMemory → option_map LineOrder (first_out_of_order tokens) ≡ Some fault) → fault ≢ OutOfMemory → ⊥
index_error tokens fault order error other = order_stands (first_out_of_order tokens) fault order (error other)

-- what the token found in a map points to is the trace of the map
pub traced_token : (r : MapRecord) (line col : ℕ) (found : Option TokenRecord) → are_tokens_sorted r.tokens ≡ true → found ≡ token_for r.tokens line col
    → traced_of (Ok r) line col ≡ Ok (trace_text (option_map (original_in r) found))
traced_token r line col found sorted is =
    let traced : option_map (original_in r) found ≡ trace (decoded_map_of r) line col = ap (option_map (original_in r)) is ∙ token_traced r line col in
    ap (λ b. cond b (Ok (trace_text (trace (decoded_map_of r) line col))) (Err Unsorted)) sorted ∙ ap (λ t. Ok (trace_text t)) (sym traced)

-- the text of what a token points to, by the path of its source
abbrev path_text : List Text → TokenRecord → Option Text → Text
path_text names t None = codes "unmapped"
path_text names t (Some path) = original_text path t.src_line t.src_col (name_of names t)

text-by : (names : List Text) (t : TokenRecord) (source : Option DecodedSource) (path : Option Text) → option_map (λ s. s.path) source ≡ path → trace_text (Some (option_map (original_at names t) source)) ≡ path_text names t path
text-by names t None path e = ap (path_text names t) e
text-by names t (Some s) path e = ap (path_text names t) e

text-of-id : (r : MapRecord) (t : TokenRecord) (id : Option ℕ) → trace_text (Some (option_map (original_at r.names t) (option_and_then (slice_get (sources_of r.sources r.source_contents)) id))) ≡ path_text r.names t (option_and_then (slice_get r.sources) id)
text-of-id r t None = refl
text-of-id r t (Some i) = text-by r.names t (slice_get (sources_of r.sources r.source_contents) i) (slice_get r.sources i) (source_path r.sources r.source_contents i)

pub mapped_text : (r : MapRecord) (t : TokenRecord) (path : Text) (line col : ℕ) (name : Option Text) → Some path ≡ option_and_then (slice_get r.sources) t.source_id
    → line ≡ t.src_line → col ≡ t.src_col → name ≡ name_of r.names t → original_text path line col name ≡ trace_text (Some (original_in r t))
mapped_text r t path line col name e l c n =
    ap (λ line. original_text path line col name) l ∙ ap (λ col. original_text path t.src_line col name) c ∙ ap (original_text path t.src_line t.src_col) n
    ∙ ap (path_text r.names t) e ∙ sym (text-of-id r t t.source_id)

pub unmapped_text : (r : MapRecord) (t : TokenRecord) → None ≡ option_and_then (slice_get r.sources) t.source_id → codes "unmapped" ≡ trace_text (Some (original_in r t))
unmapped_text r t e = ap (path_text r.names t) e ∙ sym (text-of-id r t t.source_id)
