-- The decoded map of a join.
use Rattle.std.proofs.Common.{◌≡◌, ℕ, zero, suc, ◌+◌, ◌<◌, List, [], ◌∷◌, ◌++◌, map, length, refl}
use Rattle.std.proofs.Common.{sym, ap, ◌∙◌, subst, arith, Option, Some, None}
use Rattle.std.specs.List.{slice_get, AllByRecursion}
use Rattle.std.specs.Option.{option_map, option_and_then, IfSome}
use Rattle.std.proofs.lemmas.List.{map-append}
use Rattle.oxc_sourcemap_tokens.specs.Token.{TokenRecord}
use Rattle.oxc_sourcemap_parts.specs.Record.{Text, MapRecord}
use Rattle.oxc_sourcemap_parts.specs.Sound.{IsInRange}
use Rattle.oxc_sourcemap_parts.specs.DecodedMap.{DecodedSource, sources_of, name_of, mapping_of}
use Rattle.oxc_sourcemap_parts.specs.DecodedMap.{decoded_map_of}
use Rattle.oxc_sourcemap_tokens.specs.declared.position.Position.{Position}
use Rattle.oxc_sourcemap_join.specs.Joined.{fitted, is_same_token, seamed, raised_ignore_list}
use Rattle.oxc_sourcemap_join.specs.Joined.{appended_ignore_lists, joined}
use Rattle.oxc_sourcemap_join.proofs.SameToken.{decides_token}
use Rattle.oxc_sourcemap_join.proofs.Fitted.{length-fitted}
use Rattle.oxc_sourcemap_plan.specs.Repeats.{without_repeats, is_same_mapping, EqualUpToRepeats}
use Rattle.oxc_sourcemap_plan.specs.JoinedDecodedMaps.{lowered, joined_ignore_lists}
use Rattle.oxc_sourcemap_plan.specs.JoinedDecodedMaps.{joined_decoded_maps}
use Rattle.oxc_sourcemap_plan.specs.JoinLaws.{AreAllInRange, decoded_maps_of}
use Rattle.oxc_sourcemap_plan.proofs.DroppingRepeats.{blind_map, without_repeats_append}
use Rattle.oxc_sourcemap_plan.proofs.Seams.{unseamed}
use Rattle.oxc_sourcemap_plan.proofs.Same.{decides_entry}
use Rattle.oxc_sourcemap_plan.proofs.UpToRepeats.{up_to_repeats}
use Rattle.oxc_sourcemap_plan.proofs.Joins.{raised, after, together, alone, all_together, joined-is}
use Rattle.oxc_sourcemap_plan.proofs.Joins.{map_twice}

-- ---- indices in appended lists
pub slice_get-left : {A : Type 0} (xs ys : List A) (i : ℕ) → i < length xs → slice_get (xs ++ ys) i ≡ slice_get xs i
slice_get-left [] ys i h = absurd (omega arith)
slice_get-left (x ∷ xs) ys zero h = refl
slice_get-left (x ∷ xs) ys (suc i) h = slice_get-left xs ys i (omega arith)

pub slice_get-right : {A : Type 0} (xs ys : List A) (i : ℕ) → slice_get (xs ++ ys) (i + length xs) ≡ slice_get ys i
slice_get-right [] ys i = ap (slice_get ys) (omega arith)
slice_get-right (x ∷ xs) ys i = let e : i + length (x ∷ xs) ≡ suc (i + length xs) = omega arith in ap (slice_get (x ∷ (xs ++ ys))) e ∙ slice_get-right xs ys i

pub get-left : {A : Type 0} (xs ys : List A) (o : Option ℕ) → IfSome o (λ i. i < length xs) → option_and_then (slice_get (xs ++ ys)) o ≡ option_and_then (slice_get xs) o
get-left xs ys None h = refl
get-left xs ys (Some i) h = slice_get-left xs ys i h

pub get-right : {A : Type 0} (xs ys : List A) (o : Option ℕ) → option_and_then (slice_get (xs ++ ys)) (option_map (λ i. i + length xs) o) ≡ option_and_then (slice_get ys) o
get-right xs ys None = refl
get-right xs ys (Some i) = slice_get-right xs ys i

pub length-sources_of : (ps : List Text) (cs : List (Option Text)) → length (sources_of ps cs) ≡ length ps
length-sources_of [] cs = refl
length-sources_of (p ∷ ps) [] = ap suc (length-sources_of ps [])
length-sources_of (p ∷ ps) (c ∷ cs) = ap suc (length-sources_of ps cs)

pub sources_of-fitted : (ps : List Text) (cs : List (Option Text)) → sources_of ps (fitted (length ps) cs) ≡ sources_of ps cs
sources_of-fitted [] cs = refl
sources_of-fitted (p ∷ ps) [] = ap (λ ss. record { path = p; content = None } ∷ ss) (sources_of-fitted ps [])
sources_of-fitted (p ∷ ps) (c ∷ cs) = ap (λ ss. record { path = p; content = c } ∷ ss) (sources_of-fitted ps cs)

pub sources_of-append : (ps qs : List Text) (cs ds : List (Option Text)) → length cs ≡ length ps → sources_of (ps ++ qs) (cs ++ ds) ≡ sources_of ps cs ++ sources_of qs ds
sources_of-append [] qs [] ds e = refl
sources_of-append [] qs (c ∷ cs) ds e = absurd (omega arith)
sources_of-append (p ∷ ps) qs [] ds e = absurd (omega arith)
sources_of-append (p ∷ ps) qs (c ∷ cs) ds e = ap (λ ss. record { path = p; content = c } ∷ ss) (sources_of-append ps qs cs ds (omega arith))

pub map_within : {A B : Type 0} (P : A → Type 0) (f g : A → B) → ((x : A) → P x → f x ≡ g x) → (xs : List A) → AllByRecursion P xs → map f xs ≡ map g xs
map_within P f g h [] a = refl
map_within P f g h (x ∷ xs) a = ap (λ y. y ∷ map f xs) (h x a.0) ∙ ap (λ ys. g x ∷ ys) (map_within P f g h xs a.1)

-- ---- mappings of the two sides of a join
entry-is : (ss : List DecodedSource) (ns : List Text) (m : TokenRecord) (q : Option DecodedSource) (n : Option Text) → option_and_then (slice_get ss) m.source_id ≡ q → name_of ns m ≡ n
    → mapping_of ss ns m ≡ record { dst_line = m.dst_line; dst_col = m.dst_col; original = option_map (λ s. record { source = s; src_line = m.src_line; src_col = m.src_col; name = n }) q }
entry-is ss ns m q n e f = rw (← e, ← f)

entry-left : (ss ss' : List DecodedSource) (ns ns' : List Text) (offset : Position) (m : TokenRecord) → IsInRange (length ns) (length ss) m → mapping_of (ss ++ ss') (ns ++ ns') (raised offset m) ≡ lowered offset (mapping_of ss ns m)
entry-left ss ss' ns ns' offset m h = entry-is (ss ++ ss') (ns ++ ns') (raised offset m) _ _ (get-left ss ss' m.source_id h.source_id) (get-left ns ns' m.name_id h.name_id)

entry-right : (ss ss' : List DecodedSource) (ns ns' : List Text) (m : TokenRecord) → mapping_of (ss ++ ss') (ns ++ ns') (after (length ns) (length ss) m) ≡ mapping_of ss' ns' m
entry-right ss ss' ns ns' m = entry-is (ss ++ ss') (ns ++ ns') (after (length ns) (length ss) m) _ _ (get-right ss ss' m.source_id) (get-right ns ns' m.name_id)

-- the decoded map of a map and of what follows it
module _ (m : MapRecord) (offset : Position) (r : MapRecord) (h : AllByRecursion (IsInRange (length m.names) (length m.sources)) m.tokens) where
  pub together_sources : (decoded_map_of (together (alone m offset) r)).sources ≡ sources_of m.sources m.source_contents ++ sources_of r.sources r.source_contents
  together_sources = sources_of-append m.sources r.sources (fitted (length m.sources) m.source_contents) r.source_contents (length-fitted (length m.sources) m.source_contents) ∙ ap (λ ss. ss ++ sources_of r.sources r.source_contents) (sources_of-fitted m.sources m.source_contents)

  left_entries : map (mapping_of (sources_of m.sources m.source_contents ++ sources_of r.sources r.source_contents) (m.names ++ r.names)) (map (raised offset) m.tokens) ≡ map (lowered offset) (map (mapping_of (sources_of m.sources m.source_contents) m.names) m.tokens)
  left_entries =
      let ss = sources_of m.sources m.source_contents in
      let k : AllByRecursion (IsInRange (length m.names) (length ss)) m.tokens = subst (λ n. AllByRecursion (IsInRange (length m.names) n) m.tokens) (sym (length-sources_of m.sources m.source_contents)) h in
      map_twice (raised offset) (mapping_of (ss ++ sources_of r.sources r.source_contents) (m.names ++ r.names)) (λ x. mapping_of (ss ++ sources_of r.sources r.source_contents) (m.names ++ r.names) (raised offset x)) (λ x. refl) m.tokens
      ∙ map_within (IsInRange (length m.names) (length ss)) _ _ (entry-left ss (sources_of r.sources r.source_contents) m.names r.names offset) m.tokens k
      ∙ sym (map_twice (mapping_of ss m.names) (lowered offset) (λ x. lowered offset (mapping_of ss m.names x)) (λ x. refl) m.tokens)

  right_entries : map (mapping_of (sources_of m.sources m.source_contents ++ sources_of r.sources r.source_contents) (m.names ++ r.names)) (map (after (length m.names) (length m.sources)) r.tokens) ≡ map (mapping_of (sources_of r.sources r.source_contents) r.names) r.tokens
  right_entries =
      let ss = sources_of m.sources m.source_contents in
      ap (λ n. map (mapping_of (ss ++ sources_of r.sources r.source_contents) (m.names ++ r.names)) (map (after (length m.names) n) r.tokens)) (sym (length-sources_of m.sources m.source_contents))
      ∙ map_twice (after (length m.names) (length ss)) (mapping_of (ss ++ sources_of r.sources r.source_contents) (m.names ++ r.names)) (mapping_of (sources_of r.sources r.source_contents) r.names) (entry-right ss (sources_of r.sources r.source_contents) m.names r.names) r.tokens

  pub together_entries : without_repeats is_same_mapping (decoded_map_of (together (alone m offset) r)).mappings ≡ without_repeats is_same_mapping (map (lowered offset) (decoded_map_of m).mappings ++ (decoded_map_of r).mappings)
  together_entries =
      let ss = sources_of m.sources m.source_contents in
      let ts = sources_of r.sources r.source_contents in
      let f = mapping_of (ss ++ ts) (m.names ++ r.names) in
      let xs = map (raised offset) m.tokens in
      let ys = map (after (length m.names) (length m.sources)) r.tokens in
      ap (λ qs. without_repeats is_same_mapping (map (mapping_of qs (m.names ++ r.names)) (seamed is_same_token xs ys))) together_sources
      ∙ unseamed is_same_token decides_token (λ zs. without_repeats is_same_mapping (map f zs)) (blind_map is_same_mapping decides_entry f) xs ys
      ∙ ap (without_repeats is_same_mapping) (map-append f xs ys ∙ ap (λ zs. zs ++ map f ys) left_entries ∙ ap (λ zs. map (lowered offset) (map (mapping_of ss m.names) m.tokens) ++ zs) right_entries)

all_sources : (ms : List (MapRecord × Position)) → (decoded_map_of (all_together ms)).sources ≡ (joined_decoded_maps (decoded_maps_of ms)).sources
all_sources [] = refl
all_sources (m ∷ ms) = sources_of-append m.0.sources (all_together ms).sources (fitted (length m.0.sources) m.0.source_contents) (all_together ms).source_contents (length-fitted (length m.0.sources) m.0.source_contents) ∙ ap (λ ss. ss ++ sources_of (all_together ms).sources (all_together ms).source_contents) (sources_of-fitted m.0.sources m.0.source_contents) ∙ ap (λ ss. sources_of m.0.sources m.0.source_contents ++ ss) (all_sources ms)

all_entries : (ms : List (MapRecord × Position)) → AreAllInRange ms → without_repeats is_same_mapping (decoded_map_of (all_together ms)).mappings ≡ without_repeats is_same_mapping (joined_decoded_maps (decoded_maps_of ms)).mappings
all_entries [] h = refl
all_entries (m ∷ ms) h =
    together_entries m.0 m.1 (all_together ms) h.0
    ∙ without_repeats_append is_same_mapping decides_entry (map (lowered m.1) (decoded_map_of m.0).mappings) (map (lowered m.1) (decoded_map_of m.0).mappings) _ _ refl (all_entries ms h.1)

pub metadata : (ms : List (MapRecord × Position)) → ((all_together ms).file ≡ None) × ((all_together ms).source_root ≡ None) × ((all_together ms).debug_id ≡ None)
metadata [] = (refl, refl, refl)
metadata (m ∷ ms) = (refl, refl, refl)

all_ignore_lists : (ms : List (MapRecord × Position)) → (all_together ms).ignore_list ≡ joined_ignore_lists (decoded_maps_of ms)
all_ignore_lists [] = refl
all_ignore_lists (m ∷ ms) =
    ap (λ l. appended_ignore_lists m.0.ignore_list (raised_ignore_list (length m.0.sources) l)) (all_ignore_lists ms)
    ∙ ap (λ n. appended_ignore_lists m.0.ignore_list (raised_ignore_list n (joined_ignore_lists (decoded_maps_of ms)))) (sym (length-sources_of m.0.sources m.0.source_contents))

-- the decoded map of a join is equal up to repeats to the join of the decoded maps, if ids are in range
pub decoded_map_joined : (ms : List (MapRecord × Position)) → AreAllInRange ms → EqualUpToRepeats (decoded_map_of (joined ms)) (joined_decoded_maps (decoded_maps_of ms))
decoded_map_joined ms h =
    let d = metadata ms in
    subst (λ r. EqualUpToRepeats (decoded_map_of r) (joined_decoded_maps (decoded_maps_of ms))) (sym (joined-is ms))
    (up_to_repeats _ _ (record { rest = record { file = d.0; source_root = d.1; debug_id = d.2; ignore_list = all_ignore_lists ms; sources = all_sources ms }; mappings = all_entries ms h }))
