-- What comes back of a sound map is sound.
use Rattle.std.proofs.Common.{◌≡◌, ℕ, ◌<◌, ◌&&◌, suc, cond, List, [], ◌∷◌, map, length, refl, sym}
use Rattle.std.proofs.Common.{ap, ◌∙◌, subst, Option, Some, None, true, false}
use Rattle.std.specs.List.{AllByRecursion}
use Rattle.std.specs.Option.{IfSome, is_some}
use Rattle.oxc_sourcemap_tokens.specs.Token.{TokenRecord}
use Rattle.oxc_sourcemap_tokens.specs.State.{State, initial}
use Rattle.oxc_sourcemap_mappings.specs.Canonical.{carried, carried_token}
use Rattle.oxc_sourcemap_tokens.specs.Steps.{advanced}
use Rattle.oxc_sourcemap_mappings.proofs.RoundTrip.{carrying, carried-is}
use Rattle.oxc_sourcemap_parts.specs.Record.{Text, MapRecord}
use Rattle.oxc_sourcemap_parts.specs.Sorted.{may_precede, is_sorted_by, are_tokens_sorted}
use Rattle.oxc_sourcemap_parts.specs.Sorted.{token_line, token_column}
use Rattle.oxc_sourcemap_parts.specs.Sound.{IsInRange, IsSound}
use Rattle.oxc_sourcemap_parts.specs.DecodedMap.{DecodedSource, mapping_of, mapping_line}
use Rattle.oxc_sourcemap_parts.specs.DecodedMap.{mapping_column}
use Rattle.oxc_sourcemap_plan.specs.MapLaws.{StaysSound}
use Rattle.oxc_sourcemap_plan.proofs.ReadsBack.{beside-in, carried-mappings, same-decoded_map}
use Rattle.oxc_sourcemap_json.proofs.ReadSound.{carried-name}

-- tokens are sorted exactly if their mappings are
pub sorted-tokens : (ss : List DecodedSource) (ns : List Text) (ts : List TokenRecord) → is_sorted_by mapping_line mapping_column (map (mapping_of ss ns) ts) ≡ are_tokens_sorted ts
sorted-tokens ss ns [] = refl
sorted-tokens ss ns (t ∷ []) = refl
sorted-tokens ss ns (t ∷ u ∷ ts) = ap (λ b. may_precede token_line token_column t u && b) (sorted-tokens ss ns (u ∷ ts))

carried-source : (s : State) (t : TokenRecord) → (carried_token s t).source_id ≡ t.source_id
carried-source s t =
    elim (is_some t.source_id) as (λ b. (cond b t (record t { src_line = s.src_line; src_col = s.src_col; name_id = None })).source_id ≡ t.source_id) [
      | true ↦ refl
      | false ↦ refl
    ]

carrying-range : (names sources : ℕ) (s : State) (ts : List TokenRecord) → AllByRecursion (IsInRange names sources) ts → AllByRecursion (IsInRange names sources) (carrying s ts)
carrying-range names sources s [] h = tt
carrying-range names sources s (t ∷ ts) h = (
  record {
    source_id = subst (λ o. IfSome o (λ id. id < sources)) (sym (carried-source s t)) h.0.source_id;
    name_id = subst (λ o. IfSome o (λ id. id < names)) (sym (carried-name s t)) (beside-in t.source_id t.name_id names h.0.name_id);
  },
  carrying-range names sources (advanced s t) ts h.1,
)

length-carrying : (s : State) (ts : List TokenRecord) → length (carrying s ts) ≡ length ts
length-carrying s [] = refl
length-carrying s (t ∷ ts) = ap suc (length-carrying (advanced s t) ts)

abbrev token : ℕ → ℕ → ℕ → ℕ → Option ℕ → Option ℕ → TokenRecord
token l c sl sc source name = record { dst_line = l; dst_col = c; src_line = sl; src_col = sc; source_id = source; name_id = name }

carry-again : (s : State) (l c sl sc : ℕ) (source name : Option ℕ) (ts : List TokenRecord) → ((q : State) → carrying q (carrying q ts) ≡ carrying q ts)
    → carrying s (carrying s (token l c sl sc source name ∷ ts)) ≡ carrying s (token l c sl sc source name ∷ ts)
carry-again s l c sl sc None name ts h = ap (λ us. token l c s.src_line s.src_col None None ∷ us) (h (advanced s (token l c sl sc None name)))
carry-again s l c sl sc (Some i) name ts h = ap (λ us. token l c sl sc (Some i) name ∷ us) (h (advanced s (token l c sl sc (Some i) name)))

carrying-again : (ts : List TokenRecord) (s : State) → carrying s (carrying s ts) ≡ carrying s ts
carrying-again [] s = refl
carrying-again (t ∷ ts) s = carry-again s t.dst_line t.dst_col t.src_line t.src_col t.source_id t.name_id ts (carrying-again ts)

carried-again : (ts : List TokenRecord) → carried (carried ts) ≡ carried ts
carried-again ts = carried-is [] (carried ts) ∙ ap (carrying initial) (carried-is [] ts) ∙ carrying-again ts initial ∙ sym (carried-is [] ts)

carried-sorted : (ts : List TokenRecord) → are_tokens_sorted (carried ts) ≡ are_tokens_sorted ts
carried-sorted ts =
    ap are_tokens_sorted (carried-is [] ts) ∙ sym (sorted-tokens [] [] (carrying initial ts))
    ∙ ap (is_sorted_by mapping_line mapping_column) (carried-mappings [] [] initial ts) ∙ sorted-tokens [] [] ts

pub stays_sound : (r : MapRecord) → IsSound r → StaysSound r
stays_sound r s = record {
  sound = record {
    sorted = carried-sorted r.tokens ∙ s.sorted;
    in_range = record {
      tokens = subst (AllByRecursion (IsInRange (length r.names) (length r.sources))) (sym (carried-is [] r.tokens)) (carrying-range (length r.names) (length r.sources) initial r.tokens s.in_range.tokens);
      ignore_list = s.in_range.ignore_list;
    };
    chunks = tt;
  };
  decoded_map = same-decoded_map r;
  count = ap length (carried-is [] r.tokens) ∙ length-carrying initial r.tokens;
  again = carried-again r.tokens;
}
