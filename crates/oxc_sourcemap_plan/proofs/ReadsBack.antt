-- A sound map comes back from what is written of it.
use Rattle.std.proofs.Common.{◌≡◌, ℕ, ◌<◌, ◌≤◌, Bool, true, false, cond, ◌&&◌, nat_lt, List, []}
use Rattle.std.proofs.Common.{◌∷◌, length, map, arith, refl, ap, ◌∙◌, Option, Some, None, Ok, Err}
use Rattle.std.specs.List.{AllByRecursion, list_any}
use Rattle.std.specs.Option.{IfSome, is_some, option_map, option_map_or, unwrap_or}
use Rattle.std.proofs.lemmas.Bool.Decides.{nat_tests}
use Rattle.std.proofs.lemmas.List.Elements.{recursion_from_All}
use Rattle.oxc_sourcemap_tokens.specs.declared.errors.error.Error.TheVariants.{BadChunks, TooLarge}
use Rattle.oxc_sourcemap_tokens.specs.declared.token.TokenChunk.{TokenChunk}
use Rattle.oxc_sourcemap_tokens.specs.Token.{TokenRecord, IsInBounds, AreInBounds, name_beside}
use Rattle.oxc_sourcemap_mappings.specs.Reading.{reading}
use Rattle.oxc_sourcemap_tokens.specs.State.{State, initial}
use Rattle.oxc_sourcemap_mappings.specs.Canonical.{canonical, carried, carried_token}
use Rattle.oxc_sourcemap_tokens.specs.LineOrder.{first_out_of_order}
use Rattle.oxc_sourcemap_tokens.specs.Chunks.{ChunksFit, first_misfit}
use Rattle.oxc_sourcemap_mappings.specs.ChunkTexts.{writing_fault}
use Rattle.oxc_sourcemap_tokens.specs.Steps.{advanced}
use Rattle.oxc_sourcemap_tokens.proofs.Fits.{first_misfit-none}
use Rattle.oxc_sourcemap_mappings.proofs.RoundTrip.{IsWithin, round_trip, carrying, carried-is}
use Rattle.oxc_sourcemap_mappings.proofs.RoundTrip.{as_written-of_carried}
use Rattle.oxc_sourcemap_parts.specs.Record.{Text, MapRecord}
use Rattle.oxc_sourcemap_parts.specs.Sorted.{are_tokens_sorted, may_precede, token_line}
use Rattle.oxc_sourcemap_parts.specs.Sorted.{token_column}
use Rattle.oxc_sourcemap_parts.specs.Sound.{IsInRange, IsSound}
use Rattle.oxc_sourcemap_parts.specs.DecodedMap.{DecodedSource, mapping_of, sources_of}
use Rattle.oxc_sourcemap_parts.specs.DecodedMap.{decoded_map_of}
use Rattle.oxc_sourcemap_json.specs.Decoded.{first_not_below}
use Rattle.oxc_sourcemap_tokens.specs.Errors.{unless}
use Rattle.oxc_sourcemap_json.specs.Encoded.{written_contents, encoded, encoded_record}
use Rattle.oxc_sourcemap_plan.specs.MapLaws.{rewritten, ComesBack}

both-true : (a b : Bool) → (a && b) ≡ true → (a ≡ true) × (b ≡ true)
both-true true b e = (refl, e)
both-true false b e = cc

-- sorted tokens are in line order
pub sorted-order : (ts : List TokenRecord) → are_tokens_sorted ts ≡ true → first_out_of_order ts ≡ None
sorted-order [] s = refl
sorted-order (t ∷ []) s = refl
sorted-order (t ∷ u ∷ ts) s =
    let both = both-true (may_precede token_line token_column t u) _ s in
    let n : nat_lt u.dst_line t.dst_line ≡ false = grind (arith, nat_tests, both.0) in
    rw (n, sorted-order (u ∷ ts) both.1)

-- ---- a sound map is written

no-misfit : (ts : List TokenRecord) (chunks : Option (List TokenChunk)) → IfSome chunks (ChunksFit ts) → option_map_or (λ cs. option_map (λ k. BadChunks k) (first_misfit ts cs)) chunks None ≡ None
no-misfit ts None h = refl
no-misfit ts (Some cs) h = rw (first_misfit-none ts cs h)

no-fault : (ts : List TokenRecord) (chunks : Option (List TokenChunk)) → first_out_of_order ts ≡ None → IfSome chunks (ChunksFit ts) → length ts ≤ 4294967295 → writing_fault ts chunks ≡ None
no-fault ts chunks o f l =
    let n : nat_lt 4294967295 (length ts) ≡ false = grind (arith, nat_tests) in
    rw (o, no-misfit ts chunks f, n)

-- ---- what was written is read

none-not-below : (count : ℕ) (ids : List ℕ) → AllByRecursion (λ id. id < count) ids → first_not_below count ids ≡ None
none-not-below count [] h = refl
none-not-below count (id ∷ ids) h = let t : nat_lt id count ≡ true = grind (arith, nat_tests, h.0) in rw (t, none-not-below count ids h.1)

list-below : (count : ℕ) (list : Option (List ℕ)) → IfSome list (AllByRecursion (λ id. id < count)) → option_map_or (first_not_below count) list None ≡ None
list-below count None h = refl
list-below count (Some ids) h = none-not-below count ids h

pub beside-in : (source name : Option ℕ) (n : ℕ) → IfSome name (λ id. id < n) → IfSome (name_beside source name) (λ id. id < n)
beside-in None name n h = tt
beside-in (Some i) name n h = h

are-within : (names sources : ℕ) (ts : List TokenRecord) → AllByRecursion (IsInRange names sources) ts → AllByRecursion IsInBounds ts → AllByRecursion (IsWithin names sources) ts
are-within names sources [] r b = tt
are-within names sources (t ∷ ts) r b = (
  record { in_bounds = b.0; source_id = r.0.source_id; name_id = beside-in t.source_id t.name_id names r.0.name_id },
  are-within names sources ts r.1 b.1,
)

-- ---- what was read means the same

carried-entry : (sources : List DecodedSource) (names : List Text) (s : State) (t : TokenRecord) → mapping_of sources names (carried_token s t) ≡ mapping_of sources names t
carried-entry sources names s t =
    elim t.source_id as (λ o. t.source_id ≡ o → mapping_of sources names (cond (is_some o) t (record t { src_line = s.src_line; src_col = s.src_col; name_id = None })) ≡ mapping_of sources names t) [
      | Some i ↦ (λ e. refl)
      | None ↦ (λ e. rw e)
    ] refl

pub carried-mappings : (sources : List DecodedSource) (names : List Text) (s : State) (ts : List TokenRecord) → map (mapping_of sources names) (carrying s ts) ≡ map (mapping_of sources names) ts
carried-mappings sources names s [] = refl
carried-mappings sources names s (t ∷ ts) =
    ap (λ e. e ∷ map (mapping_of sources names) (carrying (advanced s t) ts)) (carried-entry sources names s t)
    ∙ ap (λ es. mapping_of sources names t ∷ es) (carried-mappings sources names (advanced s t) ts)

no-contents : (paths : List Text) (contents : List (Option Text)) → list_any is_some contents ≡ false → sources_of paths [] ≡ sources_of paths contents
no-contents [] contents e = refl
no-contents (path ∷ paths) [] e = refl
no-contents (path ∷ paths) (None ∷ contents) e = ap (λ ss. record { path = path; content = None } ∷ ss) (no-contents paths contents e)
no-contents (path ∷ paths) (Some content ∷ contents) e = cc

same-sources : (paths : List Text) (contents : List (Option Text)) → sources_of paths (unwrap_or (written_contents contents) []) ≡ sources_of paths contents
same-sources paths contents =
    elim (list_any is_some contents) as (λ v. list_any is_some contents ≡ v → sources_of paths (unwrap_or (cond v (Some contents) None) []) ≡ sources_of paths contents) [
      | true ↦ (λ e. refl)
      | false ↦ (λ e. no-contents paths contents e)
    ] refl

pub same-decoded_map : (r : MapRecord) → decoded_map_of (rewritten r) ≡ decoded_map_of r
same-decoded_map r =
    let mappings : map (mapping_of (sources_of r.sources r.source_contents) r.names) (carried r.tokens) ≡ map (mapping_of (sources_of r.sources r.source_contents) r.names) r.tokens =
    ap (map (mapping_of (sources_of r.sources r.source_contents) r.names)) (carried-is [] r.tokens) ∙ carried-mappings (sources_of r.sources r.source_contents) r.names initial r.tokens in
    rw (same-sources r.sources r.source_contents, mappings)

pub is_written : (r : MapRecord) → IsSound r → length r.tokens ≤ 4294967295 → encoded r ≡ Ok (encoded_record r)
is_written r s l = ap (λ o. unless o (Ok (encoded_record r))) (no-fault r.tokens r.token_chunks (sorted-order r.tokens s.sorted) s.chunks l)

no-other-fault : (ts : List TokenRecord) (chunks : Option (List TokenChunk)) → first_out_of_order ts ≡ None → IfSome chunks (ChunksFit ts) → 4294967295 < length ts → writing_fault ts chunks ≡ Some TooLarge
no-other-fault ts chunks o f l =
    let t : nat_lt 4294967295 (length ts) ≡ true = grind (arith, nat_tests) in
    rw (o, no-misfit ts chunks f, t)

pub is_too_large : (r : MapRecord) → IsSound r → 4294967295 < length r.tokens → encoded r ≡ Err TooLarge
is_too_large r s l = ap (λ o. unless o (Ok (encoded_record r))) (no-other-fault r.tokens r.token_chunks (sorted-order r.tokens s.sorted) s.chunks l)

pub reads_back : (r : MapRecord) → IsSound r → AreInBounds r.tokens → ComesBack r
reads_back r s b =
    let order = sorted-order r.tokens s.sorted in
    let read : reading (canonical r.tokens) (length r.names) (length r.sources) ≡ Ok (carried r.tokens) =
    round_trip (length r.names) (length r.sources) r.tokens (are-within (length r.names) (length r.sources) r.tokens s.in_range.tokens (recursion_from_All IsInBounds r.tokens b)) order in
    record {
      is_read = rw (list-below (length r.sources) r.ignore_list s.in_range.ignore_list, read);
      decoded_map = same-decoded_map r;
      names = refl;
      tokens = as_written-of_carried r.tokens;
    }
