-- Composition: its decoded map, its soundness, and its association.
use Rattle.std.proofs.Common.{◌≡◌, ℕ, zero, suc, ◌+◌, ◌<◌, ◌≤◌, true, false, ◌&&◌, cond, List, []}
use Rattle.std.proofs.Common.{◌∷◌, ◌++◌, map, length, refl, sym, ap, subst, ◌∙◌, arith, Option}
use Rattle.std.proofs.Common.{Some, None}
use Rattle.std.proofs.lemmas.List.{length-append, length-map}
use Rattle.std.specs.List.{slice_get, filter_map, position_from, AllByRecursion}
use Rattle.std.specs.Option.{option_map, option_and_then, option_or, IfSome}
use Rattle.std.specs.Str.{bytes_eq}
use Rattle.std.specs.Cmp.Lexicographic.{bytes_decides}
use Rattle.oxc_sourcemap_tokens.specs.Token.{TokenRecord}
use Rattle.oxc_sourcemap_parts.specs.Record.{Text, MapRecord}
use Rattle.oxc_sourcemap_parts.specs.Texts.{index_of}
use Rattle.oxc_sourcemap_parts.specs.Sorted.{token_line, token_column, may_precede, is_sorted_by}
use Rattle.oxc_sourcemap_parts.specs.Sound.{IsInRange, AreIdsInRange, IsSound}
use Rattle.oxc_sourcemap_parts.specs.DecodedMap.{DecodedSource, OriginalPosition, DecodedMapping}
use Rattle.oxc_sourcemap_parts.specs.DecodedMap.{DecodedMap, sources_of, name_of, original_at}
use Rattle.oxc_sourcemap_parts.specs.DecodedMap.{original_of, mapping_of, decoded_map_of}
use Rattle.oxc_sourcemap_parts.specs.DecodedMap.{mapping_line, mapping_column}
use Rattle.oxc_sourcemap_lookup.specs.Lookup.{clamped_pick}
use Rattle.oxc_sourcemap_steps.specs.Composed.{target_of, if_mapped, found_on, line_of, target_in}
use Rattle.oxc_sourcemap_steps.specs.Composed.{targets, kept_name, inherited_name, inherited_id}
use Rattle.oxc_sourcemap_steps.specs.Composed.{composed_names, composed_token, token_through}
use Rattle.oxc_sourcemap_steps.specs.Composed.{composed}
use Rattle.oxc_sourcemap_lookup.proofs.Picks.{clamped_pick-map}
use Rattle.oxc_sourcemap_steps.proofs.Targets.{clamped_pick-all, found-all}
use Rattle.oxc_sourcemap_steps.proofs.InheritedNames.{IsPlaced, all-placed, with_texts-front}
use Rattle.oxc_sourcemap_plan.specs.Repeats.{without_repeats, is_same_mapping}
use Rattle.oxc_sourcemap_plan.specs.Repeats.{decoded_map_without_repeats, EqualUpToRepeats}
use Rattle.oxc_sourcemap_plan.specs.ComposedDecodedMaps.{found_original, named_by, original_through}
use Rattle.oxc_sourcemap_plan.specs.ComposedDecodedMaps.{composed_mapping, composed_decoded_maps}
use Rattle.oxc_sourcemap_plan.specs.JoinLaws.{StandsFor}
use Rattle.oxc_sourcemap_plan.specs.ComposeLaws.{AreSourceIdsInRange, AreTokensInRange}
use Rattle.oxc_sourcemap_plan.proofs.Same.{decides_entry}
use Rattle.oxc_sourcemap_plan.proofs.DroppingRepeats.{clamped_pick_up_to_repeats}
use Rattle.oxc_sourcemap_plan.proofs.UpToRepeats.{map_up_to_repeats, matches, up_to_repeats}
use Rattle.oxc_sourcemap_plan.proofs.JoinDecodedMaps.{map_within, length-sources_of, slice_get-left}
use Rattle.oxc_sourcemap_plan.proofs.JoinStands.{all_weaker}
use Rattle.oxc_sourcemap_plan.proofs.Joins.{map_same, map_twice}

-- ---- decoded maps that are equal up to repeats
found_up_to_repeats : (bs cs : List DecodedMapping) → without_repeats is_same_mapping bs ≡ without_repeats is_same_mapping cs → (o : OriginalPosition) → found_original bs o ≡ found_original cs o
found_up_to_repeats bs cs e o = ap (option_and_then (λ e. e.original)) (clamped_pick_up_to_repeats is_same_mapping decides_entry mapping_line mapping_column bs cs o.src_line o.src_col e)

composed_entry_up_to_repeats : (bs cs : List DecodedMapping) → without_repeats is_same_mapping bs ≡ without_repeats is_same_mapping cs → (x : DecodedMapping) → composed_mapping bs x ≡ composed_mapping cs x
composed_entry_up_to_repeats bs cs e x =
    elim x.original as (λ o. ◌≡◌ {A = DecodedMapping} (record x { original = option_and_then (original_through bs) o }) (record x { original = option_and_then (original_through cs) o })) [
      | None ↦ refl
      | Some o ↦ ap (λ p. record x { original = option_map (named_by o) p }) (found_up_to_repeats bs cs e o)
    ]

pub composed_up_to_repeats : (a a' b b' : DecodedMap) → EqualUpToRepeats a a' → EqualUpToRepeats b b' → EqualUpToRepeats (composed_decoded_maps a b) (composed_decoded_maps a' b')
composed_up_to_repeats a a' b b' h k =
    let m = matches a a' h in
    let n = matches b b' k in
    up_to_repeats _ _ (record {
      rest = record {
        file = m.rest.file;
        source_root = n.rest.source_root;
        debug_id = m.rest.debug_id;
        ignore_list = n.rest.ignore_list;
        sources = n.rest.sources;
      };
      mappings = map_up_to_repeats (composed_mapping b.mappings) a.mappings a'.mappings m.mappings ∙ ap (without_repeats is_same_mapping) (map_same _ _ (composed_entry_up_to_repeats b.mappings b'.mappings n.mappings) a'.mappings);
    })

-- ---- association, of decoded maps
or-assoc : {A : Type 0} (p q r : Option A) → option_or p (option_or q r) ≡ option_or (option_or p q) r
or-assoc None q r = refl
or-assoc (Some x) q r = refl

abbrev named : Option Text → OriginalPosition → OriginalPosition
named n p = record p { name = option_or p.name n }

named-twice : (n k : Option Text) (o : Option OriginalPosition) → option_map (named n) (option_map (named k) o) ≡ option_map (named (option_or k n)) o
named-twice n k None = refl
named-twice n k (Some p) = ap (λ q. Some (record p { name = q })) (sym (or-assoc p.name k n))

-- a mapping of the intermediate code, followed through two maps
through-both : (cs : List DecodedMapping) (o : OriginalPosition) (q : Option DecodedMapping)
    → option_and_then (original_through cs) (option_map (named_by o) (option_and_then (λ e. e.original) q)) ≡ option_map (named_by o) (option_and_then (λ e. e.original) (option_map (composed_mapping cs) q))
through-both cs o None = refl
through-both cs o (Some e) =
    elim e.original as (λ (x : Option OriginalPosition). option_and_then (original_through cs) (option_map (named_by o) x) ≡ option_map (named_by o) (option_and_then (original_through cs) x)) [
      | None ↦ refl
      | Some p ↦ sym (named-twice o.name p.name (found_original cs p))
    ]

entry-assoc : (bs cs : List DecodedMapping) (e : DecodedMapping) → composed_mapping cs (composed_mapping bs e) ≡ composed_mapping (map (composed_mapping cs) bs) e
entry-assoc bs cs e =
    elim e.original as (λ (x : Option OriginalPosition). ◌≡◌ {A = DecodedMapping} (record { dst_line = e.dst_line; dst_col = e.dst_col; original = option_and_then (original_through cs) (option_and_then (original_through bs) x) }) (record { dst_line = e.dst_line; dst_col = e.dst_col; original = option_and_then (original_through (map (composed_mapping cs) bs)) x })) [
      | None ↦ refl
      | Some o ↦ ap (λ x. record { dst_line = e.dst_line; dst_col = e.dst_col; original = x }) (through-both cs o (clamped_pick mapping_line mapping_column bs o.src_line o.src_col) ∙ ap (λ q. option_map (named_by o) (option_and_then (λ e. e.original) q)) (sym (clamped_pick-map (composed_mapping cs) mapping_line mapping_column bs o.src_line o.src_col)))
    ]

pub decoded_maps_associative : (a b c : DecodedMap) → composed_decoded_maps (composed_decoded_maps a b) c ≡ composed_decoded_maps a (composed_decoded_maps b c)
decoded_maps_associative a b c =
    ap (λ es. record { file = a.file; source_root = c.source_root; debug_id = a.debug_id; ignore_list = c.ignore_list; sources = c.sources; mappings = es })
    (map_twice (composed_mapping b.mappings) (composed_mapping c.mappings) (composed_mapping (map (composed_mapping c.mappings) b.mappings)) (entry-assoc b.mappings c.mappings) a.mappings)

-- ---- indices of names
-- the index where a text was found, counted from where the search began
record Place (x : Text) (k : ℕ) (ns : List Text) (i : ℕ) : Type 0 where
  pub j : ℕ
  pub is : i ≡ k + j
  pub at : slice_get ns j ≡ Some x

index-from : (x : Text) (k : ℕ) (ns : List Text) (i : ℕ) → position_from (bytes_eq x) k ns ≡ Some i → Place x k ns i
index-from x k [] i e = absurd (cc (e))
index-from x k (n ∷ ns) i e =
    elim (bytes_eq x n) as (λ b. bytes_eq x n ≡ b → cond b (Some k) (position_from (bytes_eq x) (k + 1) ns) ≡ Some i → Place x k (n ∷ ns) i) [
      | true ↦ (λ q p. let r : k ≡ i = cc (p) in record { j = 0; is = omega (arith, r); at = ap (λ y. Some y) (sym ((bytes_decides x n).0 q)) })
      | false ↦ (λ q p. let r = index-from x (k + 1) ns i p in record { j = suc r.j; is = omega (arith, r.is); at = r.at })
    ] refl e

at-index : (x : Text) (ns : List Text) (i : ℕ) → index_of x ns ≡ Some i → slice_get ns i ≡ Some x
at-index x ns i e = let r = index-from x 0 ns i e in let k : i ≡ r.j = omega (arith, r.is) in ap (slice_get ns) k ∙ r.at

get-below : {A : Type 0} (ns : List A) (i : ℕ) (x : A) → slice_get ns i ≡ Some x → i < length ns
get-below [] i x e = absurd (cc (e))
get-below (n ∷ ns) zero x e = omega arith
get-below (n ∷ ns) (suc i) x e = omega (arith, get-below ns i x e)

pub index-below : (x : Text) (ns : List Text) (i : ℕ) → index_of x ns ≡ Some i → i < length ns
index-below x ns i e = get-below ns i x (at-index x ns i e)

get-some : {A : Type 0} (xs : List A) (i : ℕ) → i < length xs → (x : A) × (slice_get xs i ≡ Some x)
get-some [] i h = absurd (omega arith)
get-some (x ∷ xs) zero h = (x, refl)
get-some (x ∷ xs) (suc i) h = get-some xs i (omega arith)

-- ---- one token
placed-get : (names : List Text) (o : Option Text) → IsPlaced names o → option_and_then (slice_get names) (option_and_then (λ x. index_of x names) o) ≡ o
placed-get names None p = refl
placed-get names (Some x) p = ap (option_and_then (slice_get names)) p.1 ∙ at-index x names p.0 p.1

-- the name of a composed token
name-through : (ns zs olds : List Text) (t : TokenRecord) (id : Option ℕ) → IfSome id (λ k. k < length ns) → IsPlaced (ns ++ zs) (kept_name olds t id)
    → option_and_then (slice_get (ns ++ zs)) (option_or id (option_and_then (λ x. index_of x (ns ++ zs)) (kept_name olds t id))) ≡ option_or (option_and_then (slice_get ns) id) (name_of olds t)
name-through ns zs olds t (Some k) h p = let r = get-some ns k h in slice_get-left ns zs k h ∙ r.1 ∙ ap (λ q. option_or q (name_of olds t)) (sym r.1)
name-through ns zs olds t None h p = placed-get (ns ++ zs) (name_of olds t) p

module _ (ss ts : List DecodedSource) (ns zs olds : List Text) (t : TokenRecord) where
  abbrev entry_for : Option OriginalPosition → DecodedMapping
  entry_for o = record { dst_line = t.dst_line; dst_col = t.dst_col; original = o }

  abbrev made : Option TokenRecord → TokenRecord
  made found = composed_token olds (ns ++ zs) (target_of t found)

  -- a token that was found, by its fields
  found-token : (fl fc sl sc : ℕ) (so sn : Option ℕ) (s : DecodedSource) → IfSome so (λ i. i < length ts) → IfSome sn (λ i. i < length ns)
      → IsPlaced (ns ++ zs) (inherited_name olds (target_of t (if_mapped (record { dst_line = fl; dst_col = fc; src_line = sl; src_col = sc; source_id = so; name_id = sn }))))
      → mapping_of ts (ns ++ zs) (made (if_mapped (record { dst_line = fl; dst_col = fc; src_line = sl; src_col = sc; source_id = so; name_id = sn })))
      ≡ entry_for (option_map (named_by (original_at olds t s)) (original_of ts ns (record { dst_line = fl; dst_col = fc; src_line = sl; src_col = sc; source_id = so; name_id = sn })))
  found-token fl fc sl sc None sn s h k p = refl
  found-token fl fc sl sc (Some j) sn s h k p =
      let e = name-through ns zs olds t sn k p in
      ap (λ q. entry_for (option_map (λ x. record { source = x; src_line = sl; src_col = sc; name = q }) (slice_get ts j))) e
      ∙ elim (slice_get ts j) as (λ o. entry_for (option_map (λ x. record { source = x; src_line = sl; src_col = sc; name = option_or (option_and_then (slice_get ns) sn) (name_of olds t) }) o)
      ≡ entry_for (option_map (named_by (original_at olds t s)) (option_map (λ x. record { source = x; src_line = sl; src_col = sc; name = option_and_then (slice_get ns) sn }) o))) [ None ↦ refl | Some x ↦ refl ]

  picked : (p : Option TokenRecord) (s : DecodedSource) → IfSome p (IsInRange (length ns) (length ts)) → IsPlaced (ns ++ zs) (inherited_name olds (target_of t (option_and_then if_mapped p)))
      → mapping_of ts (ns ++ zs) (made (option_and_then if_mapped p)) ≡ entry_for (option_map (named_by (original_at olds t s)) (option_and_then (λ e. e.original) (option_map (mapping_of ts ns) p)))
  picked None s h n = refl
  picked (Some f) s h n = found-token f.dst_line f.dst_col f.src_line f.src_col f.source_id f.name_id s h.source_id h.name_id n

  sourced : (p : Option TokenRecord) (src : Option ℕ) → IfSome p (IsInRange (length ns) (length ts)) → IfSome src (λ i. i < length ss)
      → IsPlaced (ns ++ zs) (inherited_name olds (target_of t (option_and_then (λ _. option_and_then if_mapped p) src)))
      → mapping_of ts (ns ++ zs) (made (option_and_then (λ _. option_and_then if_mapped p) src))
      ≡ entry_for (option_and_then (λ o. option_map (named_by o) (option_and_then (λ e. e.original) (option_map (mapping_of ts ns) p))) (option_map (original_at olds t) (option_and_then (slice_get ss) src)))
  sourced p None h k n = refl
  sourced p (Some i) h k n =
      let r = get-some ss i k in
      picked p r.0 h n ∙ ap (λ q. entry_for (option_and_then (λ o. option_map (named_by o) (option_and_then (λ e. e.original) (option_map (mapping_of ts ns) p))) (option_map (original_at olds t) q))) (sym r.1)

abbrev listed : MapRecord → List DecodedSource
listed r = sources_of r.sources r.source_contents

token-composed : (a b : MapRecord) (zs : List Text) (t : TokenRecord)
    → IfSome t.source_id (λ i. i < length (listed a)) → AllByRecursion (IsInRange (length b.names) (length (listed b))) b.tokens → IsPlaced (b.names ++ zs) (inherited_name a.names (target_in b.tokens t))
    → mapping_of (listed b) (b.names ++ zs) (composed_token a.names (b.names ++ zs) (target_in b.tokens t)) ≡ composed_mapping (decoded_map_of b).mappings (mapping_of (listed a) a.names t)
token-composed a b zs t h k n =
    let ss = listed a in
    let ts = listed b in
    let p = clamped_pick token_line token_column b.tokens t.src_line t.src_col in
    sourced ss ts b.names zs a.names t p t.source_id (clamped_pick-all _ token_line token_column b.tokens t.src_line t.src_col k) h n
    ∙ elim (option_and_then (slice_get ss) t.source_id) as (λ (q : Option DecodedSource). ◌≡◌ {A = DecodedMapping}
    (record { dst_line = t.dst_line; dst_col = t.dst_col; original = option_and_then (λ o. option_map (named_by o) (option_and_then (λ e. e.original) (option_map (mapping_of ts b.names) p))) (option_map (original_at a.names t) q) })
    (record { dst_line = t.dst_line; dst_col = t.dst_col; original = option_and_then (original_through (decoded_map_of b).mappings) (option_map (original_at a.names t) q) })) [
      | None ↦ refl
      | Some s ↦ ap (λ e. record { dst_line = t.dst_line; dst_col = t.dst_col; original = option_map (named_by (original_at a.names t s)) (option_and_then (λ e. e.original) e) }) (sym (clamped_pick-map (mapping_of ts b.names) mapping_line mapping_column b.tokens t.src_line t.src_col))
    ]

-- ---- the whole
both : {A : Type 0} (P Q : A → Type 0) (xs : List A) → AllByRecursion P xs → AllByRecursion Q xs → AllByRecursion (λ x. P x × Q x) xs
both P Q [] h k = tt
both P Q (x ∷ xs) h k = ((h.0, k.0), both P Q xs h.1 k.1)

all-unmapped : {A B : Type 0} (Q : B → Type 0) (f : A → B) (xs : List A) → AllByRecursion Q (map f xs) → AllByRecursion (λ x. Q (f x)) xs
all-unmapped Q f [] h = tt
all-unmapped Q f (x ∷ xs) h = (h.0, all-unmapped Q f xs h.1)

abbrev names_of : MapRecord → MapRecord → List Text
names_of a b = composed_names a.names b.names (targets a b)

placed : (a b : MapRecord) → AllByRecursion (λ t. IsPlaced (names_of a b) (inherited_name a.names (target_in b.tokens t))) a.tokens
placed a b = all-unmapped (λ l. IsPlaced (names_of a b) (inherited_name a.names l)) (target_in b.tokens) a.tokens (all-placed a.names b.names (targets a b))

mappings-composed : (a b : MapRecord) → AreSourceIdsInRange a → AreTokensInRange b → (decoded_map_of (composed a b)).mappings ≡ (composed_decoded_maps (decoded_map_of a) (decoded_map_of b)).mappings
mappings-composed a b h k =
    let ss = listed a in
    let ts = listed b in
    let f = with_texts-front b.names (filter_map (inherited_name a.names) (targets a b)) in
    let zs = f.0 in
    let h' : AllByRecursion (λ t. IfSome t.source_id (λ i. i < length ss)) a.tokens = subst (λ n. AllByRecursion (λ (t : TokenRecord). IfSome t.source_id (λ i. i < n)) a.tokens) (sym (length-sources_of a.sources a.source_contents)) h in
    let k' : AllByRecursion (IsInRange (length b.names) (length ts)) b.tokens = subst (λ n. AllByRecursion (IsInRange (length b.names) n) b.tokens) (sym (length-sources_of b.sources b.source_contents)) k in
    let n : AllByRecursion (λ t. IsPlaced (b.names ++ zs) (inherited_name a.names (target_in b.tokens t))) a.tokens = subst (λ ns. AllByRecursion (λ (t : TokenRecord). IsPlaced ns (inherited_name a.names (target_in b.tokens t))) a.tokens) f.1 (placed a b) in
    let whole = λ (t : TokenRecord). mapping_of ts (b.names ++ zs) (composed_token a.names (b.names ++ zs) (target_in b.tokens t)) in
    ap (λ ns. map (mapping_of ts ns) (map (composed_token a.names ns) (targets a b))) f.1
    ∙ ap (map (mapping_of ts (b.names ++ zs))) (map_twice (target_in b.tokens) (composed_token a.names (b.names ++ zs)) (λ t. composed_token a.names (b.names ++ zs) (target_in b.tokens t)) (λ t. refl) a.tokens)
    ∙ map_twice (λ t. composed_token a.names (b.names ++ zs) (target_in b.tokens t)) (mapping_of ts (b.names ++ zs)) whole (λ t. refl) a.tokens
    ∙ map_within _ whole (λ t. composed_mapping (decoded_map_of b).mappings (mapping_of ss a.names t)) (λ t q. token-composed a b zs t q.0 k' q.1) a.tokens (both _ _ a.tokens h' n)
    ∙ sym (map_twice (mapping_of ss a.names) (composed_mapping (decoded_map_of b).mappings) (λ t. composed_mapping (decoded_map_of b).mappings (mapping_of ss a.names t)) (λ t. refl) a.tokens)

-- the decoded map of composed maps is the composition of the decoded maps
pub decoded_map_composed : (a b : MapRecord) → AreSourceIdsInRange a → AreTokensInRange b → decoded_map_of (composed a b) ≡ composed_decoded_maps (decoded_map_of a) (decoded_map_of b)
decoded_map_composed a b h k = ap (λ es. record { file = a.file; source_root = b.source_root; debug_id = a.debug_id; ignore_list = b.ignore_list; sources = listed b; mappings = es }) (mappings-composed a b h k)

pub source_ids : (a : MapRecord) → AreTokensInRange a → AreSourceIdsInRange a
source_ids a h = all_weaker _ _ (λ x i. i.source_id) a.tokens h

-- ---- soundness
name-below : (id : Option ℕ) (o : Option Text) (ns names : List Text) → length ns ≤ length names → IfSome id (λ i. i < length ns) → IsPlaced names o → IfSome (option_or id (option_and_then (λ x. index_of x names) o)) (λ i. i < length names)
name-below (Some k) o ns names l h p = omega (arith, l, h)
name-below None None ns names l h p = tt
name-below None (Some x) ns names l h p = subst (λ o. IfSome o (λ i. i < length names)) (sym p.1) (index-below x names p.0 p.1)

range-through : (sources : ℕ) (ns names olds : List Text) (t : TokenRecord) (found : Option TokenRecord) → length ns ≤ length names → IfSome found (IsInRange (length ns) sources) → IsPlaced names (inherited_name olds (target_of t found))
    → IsInRange (length names) sources (composed_token olds names (target_of t found))
range-through sources ns names olds t None l h p = record { source_id = tt; name_id = tt }
range-through sources ns names olds t (Some f) l h p = record { source_id = h.source_id; name_id = name-below f.name_id (kept_name olds t f.name_id) ns names l h.name_id p }

all-mapped : {A B : Type 0} (P : A → Type 0) (Q : B → Type 0) (f : A → B) → ((x : A) → P x → Q (f x)) → (xs : List A) → AllByRecursion P xs → AllByRecursion Q (map f xs)
all-mapped P Q f h [] k = tt
all-mapped P Q f h (x ∷ xs) k = (h x k.0, all-mapped P Q f h xs k.1)

pub range_composed : (a b : MapRecord) → AreIdsInRange b → AreIdsInRange (composed a b)
range_composed a b k =
    let names = names_of a b in
    let f = with_texts-front b.names (filter_map (inherited_name a.names) (targets a b)) in
    let e = length-append b.names f.0 in
    let l : length b.names ≤ length names = subst (λ ns. length b.names ≤ length ns) (sym f.1) (omega (arith, e)) in
    let made = all-mapped _ (IsInRange (length names) (length b.sources)) (λ t. composed_token a.names names (target_in b.tokens t))
    (λ t p. range-through (length b.sources) b.names names a.names t (found_on (line_of b.tokens t) t) l (found-all (IsInRange (length b.names) (length b.sources)) b.tokens t k.tokens) p) a.tokens (placed a b) in
    record {
      tokens = subst (AllByRecursion (IsInRange (length names) (length b.sources))) (sym (map_twice (target_in b.tokens) (composed_token a.names names) (λ t. composed_token a.names names (target_in b.tokens t)) (λ t. refl) a.tokens)) made;
      ignore_list = k.ignore_list;
    }

through-position : (t : TokenRecord) (id : Option ℕ) (o : Option TokenRecord) → ((token_through t id o).dst_line ≡ t.dst_line) × ((token_through t id o).dst_col ≡ t.dst_col)
through-position t id None = (refl, refl)
through-position t id (Some f) = (refl, refl)

module _ (f : TokenRecord → TokenRecord) (keeps : (t : TokenRecord) → ((f t).dst_line ≡ t.dst_line) × ((f t).dst_col ≡ t.dst_col)) where
  sorted-moved : (xs : List TokenRecord) → is_sorted_by token_line token_column (map f xs) ≡ is_sorted_by token_line token_column xs
  sorted-moved [] = refl
  sorted-moved (x ∷ []) = refl
  sorted-moved (x ∷ y ∷ xs) =
      let e : may_precede token_line token_column (f x) (f y) ≡ may_precede token_line token_column x y = rw ((keeps x).0, (keeps x).1, (keeps y).0, (keeps y).1) in
      ap (λ b. b && is_sorted_by token_line token_column (map f (y ∷ xs))) e ∙ ap (λ b. may_precede token_line token_column x y && b) (sorted-moved (y ∷ xs))

tokens-composed : (a b : MapRecord) → (composed a b).tokens ≡ map (λ t. composed_token a.names (names_of a b) (target_in b.tokens t)) a.tokens
tokens-composed a b = map_twice (target_in b.tokens) (composed_token a.names (names_of a b)) (λ t. composed_token a.names (names_of a b) (target_in b.tokens t)) (λ t. refl) a.tokens

sorted-composed : (a b : MapRecord) → is_sorted_by token_line token_column (composed a b).tokens ≡ is_sorted_by token_line token_column a.tokens
sorted-composed a b =
    ap (is_sorted_by token_line token_column) (tokens-composed a b)
    ∙ sorted-moved (λ t. composed_token a.names (names_of a b) (target_in b.tokens t)) (λ t. through-position t (inherited_id a.names (names_of a b) (target_in b.tokens t)) (found_on (line_of b.tokens t) t)) a.tokens

pub sound_composed : (a b : MapRecord) → IsSound a → IsSound b → IsSound (composed a b)
sound_composed a b h k = record { sorted = sorted-composed a b ∙ h.sorted; in_range = range_composed a b k.in_range; chunks = tt }

pub count_composed : (a b : MapRecord) → length (composed a b).tokens ≡ length a.tokens
count_composed a b = ap length (tokens-composed a b) ∙ length-map a.tokens _

-- maps that stand for decoded maps
pub composition_stands : (a b : MapRecord) (s t : DecodedMap) → StandsFor a s → StandsFor b t → StandsFor (composed a b) (composed_decoded_maps s t)
composition_stands a b s t h k = record {
  sound = sound_composed a b h.sound k.sound;
  up_to_repeats = ap decoded_map_without_repeats (decoded_map_composed a b (source_ids a h.sound.in_range.tokens) k.sound.in_range.tokens) ∙ composed_up_to_repeats (decoded_map_of a) s (decoded_map_of b) t h.up_to_repeats k.up_to_repeats;
}

pub records_associative : (a b c : MapRecord) → IsSound a → IsSound b → IsSound c → decoded_map_of (composed (composed a b) c) ≡ decoded_map_of (composed a (composed b c))
records_associative a b c x y z =
    let ab = source_ids (composed a b) (range_composed a b y.in_range).tokens in
    decoded_map_composed (composed a b) c ab z.in_range.tokens
    ∙ ap (λ s. composed_decoded_maps s (decoded_map_of c)) (decoded_map_composed a b (source_ids a x.in_range.tokens) y.in_range.tokens)
    ∙ decoded_maps_associative (decoded_map_of a) (decoded_map_of b) (decoded_map_of c)
    ∙ ap (composed_decoded_maps (decoded_map_of a)) (sym (decoded_map_composed b c (source_ids b y.in_range.tokens) z.in_range.tokens))
    ∙ sym (decoded_map_composed a (composed b c) (source_ids a x.in_range.tokens) (range_composed b c z.in_range).tokens)
