-- The decoded map of a remapped map is the remapping of the decoded maps.
use Rattle.std.proofs.Common.{◌≡◌, refl, sym, ap, subst, ◌∙◌, ℕ, ◌+◌, ◌<◌, ◌≤◌, Bool, true, false}
use Rattle.std.proofs.Common.{cond, List, [], ◌∷◌, map, length, slice_get, nat_lt, Option, Some}
use Rattle.std.proofs.Common.{None, arith}
use Rattle.std.proofs.lemmas.Bool.Decides.{nat_tests}
use Rattle.std.proofs.lemmas.Option.{slice_get_past}
use Rattle.std.specs.List.{AllByRecursion}
use Rattle.std.specs.Option.{option_map, option_and_then, option_or}
use Rattle.oxc_sourcemap_tokens.specs.Token.{TokenRecord}
use Rattle.oxc_sourcemap_parts.specs.DecodedMap.{DecodedSource, OriginalPosition, DecodedMapping}
use Rattle.oxc_sourcemap_parts.specs.DecodedMap.{DecodedMap, sources_of, name_of, original_at}
use Rattle.oxc_sourcemap_parts.specs.DecodedMap.{mapping_of, decoded_map_of, mapping_line}
use Rattle.oxc_sourcemap_parts.specs.DecodedMap.{mapping_column}
use Rattle.oxc_sourcemap_parts.specs.Record.{Text, MapRecord}
use Rattle.oxc_sourcemap_parts.specs.Sorted.{token_line, token_column}
use Rattle.oxc_sourcemap_steps.specs.Composed.{Target, if_mapped}
use Rattle.oxc_sourcemap_lookup.specs.Lookup.{clamped_pick}
use Rattle.oxc_sourcemap_steps.proofs.InheritedNames.{IsPlaced}
use Rattle.oxc_sourcemap_lookup.proofs.Picks.{clamped_pick-map}
use Rattle.oxc_sourcemap_steps.specs.Blocks.{sources_by, sources_for, remapped_sources}
use Rattle.oxc_sourcemap_steps.specs.Blocks.{remapped_ignore_list}
use Rattle.oxc_sourcemap_steps.specs.Inputs.{input_for, decoded_inputs}
use Rattle.oxc_sourcemap_steps.specs.Remapped.{listed_sources, input_of, target_by, remap_targets}
use Rattle.oxc_sourcemap_steps.specs.Remapped.{Original, input_original, original_by, block_start}
use Rattle.oxc_sourcemap_steps.specs.Remapped.{original, needed_name, token_to, remapped_token}
use Rattle.oxc_sourcemap_steps.specs.Remapped.{remapped}
use Rattle.oxc_sourcemap_steps.proofs.InputPlaces.{input_for-map}
use Rattle.oxc_sourcemap_steps.proofs.NeededNames.{all-needed, name-back}
use Rattle.oxc_sourcemap_plan.specs.ComposedDecodedMaps.{named_by}
use Rattle.oxc_sourcemap_plan.specs.RemappedDecodedMaps.{original_through_input, remapped_original}
use Rattle.oxc_sourcemap_plan.specs.RemappedDecodedMaps.{remapped_mapping, remapped_decoded_map}
use Rattle.oxc_sourcemap_plan.proofs.Blocks.{in_block}
use Rattle.oxc_sourcemap_plan.proofs.JoinDecodedMaps.{map_within, length-sources_of}
use Rattle.oxc_sourcemap_plan.proofs.Joins.{map_twice}

-- the two lists of sources give the sources again
pub sources-again : (ss : List DecodedSource) → sources_of (map (λ s. s.path) ss) (map (λ s. s.content) ss) ≡ ss
sources-again [] = refl
sources-again (s ∷ ss) = ap (λ zs. s ∷ zs) (sources-again ss)

-- ---- where a token leads, without targets
-- what the clamped lookup in an input finds, mapped or not
abbrev pub leads_in : Option MapRecord → ℕ → List Text → TokenRecord → Option Original
leads_in None start names t = Some (record { source_id = start; src_line = t.src_line; src_col = t.src_col; name = name_of names t })
leads_in (Some b) start names t =
    option_and_then (input_original b start (name_of names t)) (clamped_pick token_line token_column b.tokens t.src_line t.src_col)

abbrev pub leads_from : List (Text × MapRecord) → MapRecord → TokenRecord → ℕ → Option DecodedSource → Option Original
leads_from inputs a t i o = option_and_then (λ s. leads_in (input_for inputs s.path) (block_start inputs a i) a.names t) o

abbrev pub leads : List (Text × MapRecord) → MapRecord → TokenRecord → Option Original
leads inputs a t = option_and_then (λ i. leads_from inputs a t i (slice_get (listed_sources a) i)) t.source_id

-- an unmapped token leads nowhere
unmapped-by : (b : MapRecord) (start : ℕ) (name : Option Text) (fl fc sl sc : ℕ) (so sn : Option ℕ)
    → option_and_then (input_original b start name) (if_mapped (record { dst_line = fl; dst_col = fc; src_line = sl; src_col = sc; source_id = so; name_id = sn }))
    ≡ input_original b start name (record { dst_line = fl; dst_col = fc; src_line = sl; src_col = sc; source_id = so; name_id = sn })
unmapped-by b start name fl fc sl sc None sn = refl
unmapped-by b start name fl fc sl sc (Some id) sn = refl

unmapped-leads : (b : MapRecord) (start : ℕ) (name : Option Text) (o : Option TokenRecord)
    → option_and_then (input_original b start name) (option_and_then if_mapped o) ≡ option_and_then (input_original b start name) o
unmapped-leads b start name None = refl
unmapped-leads b start name (Some u) = unmapped-by b start name u.dst_line u.dst_col u.src_line u.src_col u.source_id u.name_id

pub unmap-all : {A B : Type 0} (Q : B → Type 0) (f : A → B) (xs : List A) → AllByRecursion Q (map f xs) → AllByRecursion (λ x. Q (f x)) xs
unmap-all Q f [] h = tt
unmap-all Q f (x ∷ xs) h = (h.0, unmap-all Q f xs h.1)

module _ (inputs : List (Text × MapRecord)) (a : MapRecord) where
  abbrev pub target : TokenRecord → Target
  target t = target_by (input_of inputs a t) t

  by-target : (t : TokenRecord) (q : Option MapRecord) → original inputs a (target_by q t)
      ≡ option_and_then (λ i. option_and_then (λ s. original_by (input_for inputs s.path) (block_start inputs a i) a.names (target_by q t)) (slice_get (listed_sources a) i)) t.source_id
  by-target t None = refl
  by-target t (Some b) = refl

  module _ (dl dc sl sc : ℕ) (sn : Option ℕ) where
    abbrev tok : Option ℕ → TokenRecord
    tok id = record { dst_line = dl; dst_col = dc; src_line = sl; src_col = sc; source_id = id; name_id = sn }

    by-input : (i start : ℕ) (q : Option MapRecord) → original_by q start a.names (target_by q (tok (Some i))) ≡ leads_in q start a.names (tok (Some i))
    by-input i start None = refl
    by-input i start (Some b) = unmapped-leads b start (name_of a.names (tok (Some i))) (clamped_pick token_line token_column b.tokens sl sc)

    by-source : (i : ℕ) (o : Option DecodedSource)
        → option_and_then (λ s. original_by (input_for inputs s.path) (block_start inputs a i) a.names (target_by (option_and_then (λ s. input_for inputs s.path) o) (tok (Some i)))) o
        ≡ leads_from inputs a (tok (Some i)) i o
    by-source i None = refl
    by-source i (Some s) = by-input i (block_start inputs a i) (input_for inputs s.path)

    by-id : (id : Option ℕ) → original inputs a (target (tok id)) ≡ leads inputs a (tok id)
    by-id None = refl
    by-id (Some i) = by-target (tok (Some i)) (input_of inputs a (tok (Some i))) ∙ by-source i (slice_get (listed_sources a) i)

  pub leads-is : (t : TokenRecord) → original inputs a (target t) ≡ leads inputs a t
  leads-is t = by-id t.dst_line t.dst_col t.src_line t.src_col t.name_id t.source_id

  pub token-is-by : (q : Option MapRecord) (t : TokenRecord) → (target_by q t).token ≡ t
  token-is-by None t = refl
  token-is-by (Some b) t = refl

  pub remapped_token-is : (names : List Text) (t : TokenRecord) → remapped_token inputs a names (target t) ≡ token_to names t (leads inputs a t)
  remapped_token-is names t =
      ap (λ u. token_to names u (original inputs a (target t))) (token-is-by (input_of inputs a t) t) ∙ ap (token_to names t) (leads-is t)

  pub tokens-remapped : (remapped a inputs).tokens ≡ map (λ t. token_to (remapped a inputs).names t (leads inputs a t)) a.tokens
  tokens-remapped = map_twice target (remapped_token inputs a (remapped a inputs).names) (λ t. token_to (remapped a inputs).names t (leads inputs a t)) (remapped_token-is (remapped a inputs).names) a.tokens

  -- the name that a token needs is among the names
  pub all-placed : AllByRecursion (λ t. IsPlaced (remapped a inputs).names (needed_name (leads inputs a t))) a.tokens
  all-placed =
      let same = map_twice target (original inputs a) (leads inputs a) leads-is a.tokens in
      let all = all-needed (map (original inputs a) (remap_targets a inputs)) in
      unmap-all (λ o. IsPlaced (remapped a inputs).names (needed_name o)) (leads inputs a) a.tokens
      (subst (λ os. AllByRecursion (λ (o : Option Original). IsPlaced (remapped a inputs).names (needed_name o)) os) same all)

-- ---- the decoded mapping of a token
module _ (ss : List DecodedSource) (names olds : List Text) (t : TokenRecord) where
  abbrev entry_for : Option OriginalPosition → DecodedMapping
  entry_for o = record { dst_line = t.dst_line; dst_col = t.dst_col; original = o }

  abbrev made : Option Original → DecodedMapping
  made o = mapping_of ss names (token_to names t o)

  -- a token found in an input, by its fields
  module _ (b : MapRecord) (start : ℕ) (s : DecodedSource) (block : (j : ℕ) → j < length (listed_sources b) → slice_get ss (j + start) ≡ slice_get (listed_sources b) j) where
    abbrev through : Option DecodedMapping → DecodedMapping
    through e = entry_for (option_map (named_by (original_at olds t s)) (option_and_then (λ e. e.original) e))

    id-by : (fl fc sl sc id : ℕ) (sn : Option ℕ) (c : Bool) → nat_lt id (length b.sources) ≡ c
        → IsPlaced names (needed_name (cond c (Some (record { source_id = id + start; src_line = sl; src_col = sc; name = option_or (option_and_then (slice_get b.names) sn) (name_of olds t) })) None))
        → made (cond c (Some (record { source_id = id + start; src_line = sl; src_col = sc; name = option_or (option_and_then (slice_get b.names) sn) (name_of olds t) })) None)
        ≡ entry_for (option_map (named_by (original_at olds t s)) (option_map (λ x. record { source = x; src_line = sl; src_col = sc; name = option_and_then (slice_get b.names) sn }) (slice_get (listed_sources b) id)))
    id-by fl fc sl sc id sn true e p =
        let count = length-sources_of b.sources b.source_contents in
        let within : id < length (listed_sources b) = grind (arith, nat_tests, e, count) in
        ap (λ q. entry_for (option_map (λ x. record { source = x; src_line = sl; src_col = sc; name = q }) (slice_get ss (id + start)))) (name-back names _ p)
        ∙ ap (λ q. entry_for (option_map (λ x. record { source = x; src_line = sl; src_col = sc; name = option_or (option_and_then (slice_get b.names) sn) (name_of olds t) }) q)) (block id within)
        ∙ elim (slice_get (listed_sources b) id) as (λ (o : Option DecodedSource). entry_for (option_map (λ x. record { source = x; src_line = sl; src_col = sc; name = option_or (option_and_then (slice_get b.names) sn) (name_of olds t) }) o)
        ≡ entry_for (option_map (named_by (original_at olds t s)) (option_map (λ x. record { source = x; src_line = sl; src_col = sc; name = option_and_then (slice_get b.names) sn }) o))) [ None ↦ refl | Some x ↦ refl ]
    id-by fl fc sl sc id sn false e p =
        let count = length-sources_of b.sources b.source_contents in
        let past : length (listed_sources b) ≤ id = grind (arith, nat_tests, e, count) in
        ap (λ (o : Option DecodedSource). entry_for (option_map (named_by (original_at olds t s)) (option_map (λ x. record { source = x; src_line = sl; src_col = sc; name = option_and_then (slice_get b.names) sn }) o))) (sym (slice_get_past (listed_sources b) id past))

    found : (fl fc sl sc : ℕ) (so sn : Option ℕ)
        → IsPlaced names (needed_name (input_original b start (name_of olds t) (record { dst_line = fl; dst_col = fc; src_line = sl; src_col = sc; source_id = so; name_id = sn })))
        → made (input_original b start (name_of olds t) (record { dst_line = fl; dst_col = fc; src_line = sl; src_col = sc; source_id = so; name_id = sn }))
        ≡ through (Some (mapping_of (listed_sources b) b.names (record { dst_line = fl; dst_col = fc; src_line = sl; src_col = sc; source_id = so; name_id = sn })))
    found fl fc sl sc None sn p = refl
    found fl fc sl sc (Some id) sn p = id-by fl fc sl sc id sn (nat_lt id (length b.sources)) refl p

    picked : (o : Option TokenRecord) → IsPlaced names (needed_name (option_and_then (input_original b start (name_of olds t)) o))
        → made (option_and_then (input_original b start (name_of olds t)) o) ≡ through (option_map (mapping_of (listed_sources b) b.names) o)
    picked None p = refl
    picked (Some u) p = found u.dst_line u.dst_col u.src_line u.src_col u.source_id u.name_id p

module _ (a : MapRecord) (inputs : List (Text × MapRecord)) (names : List Text) (t : TokenRecord) where
  abbrev ss : List DecodedSource
  ss = remapped_sources (decoded_inputs inputs) (listed_sources a)

  abbrev entry : Option OriginalPosition → DecodedMapping
  entry o = record { dst_line = t.dst_line; dst_col = t.dst_col; original = o }

  -- by the input of the token's source
  in-input : (i : ℕ) (s : DecodedSource) (q : Option MapRecord) → slice_get (listed_sources a) i ≡ Some s → input_for (decoded_inputs inputs) s.path ≡ option_map decoded_map_of q
      → IsPlaced names (needed_name (leads_in q (block_start inputs a i) a.names t))
      → mapping_of ss names (token_to names t (leads_in q (block_start inputs a i) a.names t)) ≡ entry (original_through_input (option_map decoded_map_of q) (original_at a.names t s))
  in-input i s None e f p =
      let one : sources_for (decoded_inputs inputs) s ≡ s ∷ [] = ap (λ o. sources_by o s) f in
      let within : 0 < length (sources_for (decoded_inputs inputs) s) = subst (λ xs. 0 < length xs) (sym one) (omega arith) in
      let at : slice_get ss (block_start inputs a i) ≡ Some s = ap (slice_get ss) (omega arith) ∙ in_block (sources_for (decoded_inputs inputs)) (listed_sources a) i 0 s e within ∙ ap (λ xs. slice_get xs 0) one in
      ap (λ q. entry (option_map (λ x. record { source = x; src_line = t.src_line; src_col = t.src_col; name = q }) (slice_get ss (block_start inputs a i)))) (name-back names (name_of a.names t) p)
      ∙ ap (λ q. entry (option_map (λ x. record { source = x; src_line = t.src_line; src_col = t.src_col; name = name_of a.names t }) q)) at
  in-input i s (Some b) e f p =
      let one : sources_for (decoded_inputs inputs) s ≡ listed_sources b = ap (λ o. sources_by o s) f in
      let block : (j : ℕ) → j < length (listed_sources b) → slice_get ss (j + block_start inputs a i) ≡ slice_get (listed_sources b) j =
      λ j h. in_block (sources_for (decoded_inputs inputs)) (listed_sources a) i j s e (subst (λ xs. j < length xs) (sym one) h) ∙ ap (λ xs. slice_get xs j) one in
      picked ss names a.names t b (block_start inputs a i) s block (clamped_pick token_line token_column b.tokens t.src_line t.src_col) p
      ∙ ap (λ e. entry (option_map (named_by (original_at a.names t s)) (option_and_then (λ e. e.original) e))) (sym (clamped_pick-map (mapping_of (listed_sources b) b.names) mapping_line mapping_column b.tokens t.src_line t.src_col))

  at-source : (i : ℕ) (o : Option DecodedSource) → slice_get (listed_sources a) i ≡ o
      → IsPlaced names (needed_name (leads_from inputs a t i o))
      → mapping_of ss names (token_to names t (leads_from inputs a t i o))
      ≡ entry (option_and_then (remapped_original (decoded_inputs inputs)) (option_map (original_at a.names t) o))
  at-source i None e p = refl
  at-source i (Some s) e p =
      let f = input_for-map decoded_map_of inputs s.path in
      in-input i s (input_for inputs s.path) e f p ∙ ap (λ o. entry (original_through_input o (original_at a.names t s))) (sym f)

  with-id : (id : Option ℕ) → IsPlaced names (needed_name (option_and_then (λ i. leads_from inputs a t i (slice_get (listed_sources a) i)) id))
      → mapping_of ss names (token_to names t (option_and_then (λ i. leads_from inputs a t i (slice_get (listed_sources a) i)) id))
      ≡ entry (option_and_then (remapped_original (decoded_inputs inputs)) (option_map (original_at a.names t) (option_and_then (slice_get (listed_sources a)) id)))
  with-id None p = refl
  with-id (Some i) p = at-source i (slice_get (listed_sources a) i) refl p

  mapping-remapped : IsPlaced names (needed_name (leads inputs a t))
      → mapping_of ss names (token_to names t (leads inputs a t)) ≡ remapped_mapping (decoded_inputs inputs) (mapping_of (listed_sources a) a.names t)
  mapping-remapped p = with-id t.source_id p

mappings-remapped : (a : MapRecord) (inputs : List (Text × MapRecord))
    → map (mapping_of (remapped_sources (decoded_inputs inputs) (listed_sources a)) (remapped a inputs).names) (remapped a inputs).tokens ≡ map (remapped_mapping (decoded_inputs inputs)) (decoded_map_of a).mappings
mappings-remapped a inputs =
    let sources = remapped_sources (decoded_inputs inputs) (listed_sources a) in
    let names = (remapped a inputs).names in
    ap (map (mapping_of sources names)) (tokens-remapped inputs a)
    ∙ map_twice (λ t. token_to names t (leads inputs a t)) (mapping_of sources names) (λ t. mapping_of sources names (token_to names t (leads inputs a t))) (λ t. refl) a.tokens
    ∙ map_within _ _ (λ t. remapped_mapping (decoded_inputs inputs) (mapping_of (listed_sources a) a.names t)) (λ t p. mapping-remapped a inputs names t p) a.tokens (all-placed inputs a)
    ∙ sym (map_twice (mapping_of (listed_sources a) a.names) (remapped_mapping (decoded_inputs inputs)) (λ t. remapped_mapping (decoded_inputs inputs) (mapping_of (listed_sources a) a.names t)) (λ t. refl) a.tokens)

pub decoded_map_remapped : (a : MapRecord) (inputs : List (Text × MapRecord)) → decoded_map_of (remapped a inputs) ≡ remapped_decoded_map (decoded_map_of a) (decoded_inputs inputs)
decoded_map_remapped a inputs =
    let sources = remapped_sources (decoded_inputs inputs) (listed_sources a) in
    let whole : List DecodedSource → List DecodedMapping → DecodedMap = λ xs es. record { file = a.file; source_root = None; debug_id = a.debug_id; ignore_list = remapped_ignore_list (decoded_inputs inputs) (decoded_map_of a); sources = xs; mappings = es } in
    ap (λ xs. whole xs (map (mapping_of xs (remapped a inputs).names) (remapped a inputs).tokens)) (sources-again sources)
    ∙ ap (whole sources) (mappings-remapped a inputs)
