-- Decoded maps that are equal up to repeats.
use Rattle.std.proofs.Common.{◌≡◌, ℕ, List, [], ◌∷◌, ◌++◌, map, length, refl, ap, ◌∙◌, Option}
use Rattle.std.specs.List.{flat_map}
use Rattle.std.specs.Option.{option_map}
use Rattle.oxc_sourcemap_parts.specs.DecodedMap.{DecodedSource, DecodedMapping, DecodedMap}
use Rattle.oxc_sourcemap_parts.specs.DecodedMap.{mapping_line, mapping_column}
use Rattle.oxc_sourcemap_lookup.specs.Trace.{trace, clamped_trace}
use Rattle.oxc_sourcemap_plan.specs.Repeats.{without_repeats, is_same_mapping}
use Rattle.oxc_sourcemap_plan.specs.Repeats.{decoded_map_without_repeats, EqualUpToRepeats}
use Rattle.oxc_sourcemap_plan.specs.Repeats.{EqualButForMappings, is_sorted_decoded_map}
use Rattle.oxc_sourcemap_tokens.specs.declared.position.Position.{Position}
use Rattle.oxc_sourcemap_join.specs.Joined.{raised_ignore_list, appended_ignore_lists}
use Rattle.oxc_sourcemap_plan.specs.JoinedDecodedMaps.{lowered, joined_ignore_lists}
use Rattle.oxc_sourcemap_plan.specs.JoinedDecodedMaps.{joined_decoded_maps}
use Rattle.oxc_sourcemap_plan.specs.JoinLaws.{AreEqualUpToRepeats}
use Rattle.oxc_sourcemap_plan.proofs.DroppingRepeats.{unseen, up_to_repeats_by, blind_map}
use Rattle.oxc_sourcemap_plan.proofs.DroppingRepeats.{blind_without_repeats, without_repeats_append}
use Rattle.oxc_sourcemap_plan.proofs.DroppingRepeats.{pick_up_to_repeats}
use Rattle.oxc_sourcemap_plan.proofs.DroppingRepeats.{clamped_pick_up_to_repeats}
use Rattle.oxc_sourcemap_plan.proofs.DroppingRepeats.{sorted_up_to_repeats}
use Rattle.oxc_sourcemap_plan.proofs.Same.{decides_entry}

-- decoded maps that are equal up to repeats agree in all but their mappings, and in their mappings without repeats
pub record Matches (s t : DecodedMap) : Type 0 where
  pub rest : EqualButForMappings s t
  pub mappings : without_repeats is_same_mapping s.mappings ≡ without_repeats is_same_mapping t.mappings

pub matches : (s t : DecodedMap) → EqualUpToRepeats s t → Matches s t
matches s t e = record {
  rest = record {
    file = ap (λ (x : DecodedMap). x.file) e;
    source_root = ap (λ (x : DecodedMap). x.source_root) e;
    debug_id = ap (λ (x : DecodedMap). x.debug_id) e;
    ignore_list = ap (λ (x : DecodedMap). x.ignore_list) e;
    sources = ap (λ (x : DecodedMap). x.sources) e;
  };
  mappings = ap (λ (x : DecodedMap). x.mappings) e;
}

pub decoded_map_by : (a : DecodedMap) (x0 : Option (List ℕ)) (x1 : Option (List ℕ)) (x2 : Option (List ℕ)) (x3 : Option (List ℕ)) (x4 : List DecodedSource) (x5 : List DecodedMapping) → a.file ≡ x0 → a.source_root ≡ x1 → a.debug_id ≡ x2 → a.ignore_list ≡ x3 → a.sources ≡ x4 → a.mappings ≡ x5 → a ≡ record { file = x0; source_root = x1; debug_id = x2; ignore_list = x3; sources = x4; mappings = x5 }
decoded_map_by a x0 x1 x2 x3 x4 x5 e0 e1 e2 e3 e4 e5 = rw (← e0, ← e1, ← e2, ← e3, ← e4, ← e5)

pub up_to_repeats : (s t : DecodedMap) → Matches s t → EqualUpToRepeats s t
up_to_repeats s t m =
    decoded_map_by (decoded_map_without_repeats s) t.file t.source_root t.debug_id t.ignore_list t.sources (without_repeats is_same_mapping t.mappings) m.rest.file m.rest.source_root m.rest.debug_id m.rest.ignore_list m.rest.sources m.mappings

-- dropping repeats twice is dropping them once
pub without_repeats_twice : (xs : List DecodedMapping) → without_repeats is_same_mapping (without_repeats is_same_mapping xs) ≡ without_repeats is_same_mapping xs
without_repeats_twice xs = unseen is_same_mapping decides_entry (without_repeats is_same_mapping) (blind_without_repeats is_same_mapping decides_entry) xs

pub trace_up_to_repeats : (s t : DecodedMap) → EqualUpToRepeats s t → (line col : ℕ) → trace s line col ≡ trace t line col
trace_up_to_repeats s t e line col = ap (option_map (λ e. e.original)) (pick_up_to_repeats is_same_mapping decides_entry mapping_line mapping_column s.mappings t.mappings line col (matches s t e).mappings)

pub clamped_trace_up_to_repeats : (s t : DecodedMap) → EqualUpToRepeats s t → (line col : ℕ) → clamped_trace s line col ≡ clamped_trace t line col
clamped_trace_up_to_repeats s t e line col = ap (option_map (λ e. e.original)) (clamped_pick_up_to_repeats is_same_mapping decides_entry mapping_line mapping_column s.mappings t.mappings line col (matches s t e).mappings)

pub sorted_decoded_map_up_to_repeats : (s t : DecodedMap) → EqualUpToRepeats s t → is_sorted_decoded_map s ≡ is_sorted_decoded_map t
sorted_decoded_map_up_to_repeats s t e = sorted_up_to_repeats is_same_mapping decides_entry mapping_line mapping_column s.mappings t.mappings (matches s t e).mappings

pub without_repeats_is_up_to_repeats : (s : DecodedMap) → EqualUpToRepeats (decoded_map_without_repeats s) s
without_repeats_is_up_to_repeats s = ap (λ es. record s { mappings = es }) (without_repeats_twice s.mappings)

pub map_up_to_repeats : (f : DecodedMapping → DecodedMapping) (xs ys : List DecodedMapping) → without_repeats is_same_mapping xs ≡ without_repeats is_same_mapping ys → without_repeats is_same_mapping (map f xs) ≡ without_repeats is_same_mapping (map f ys)
map_up_to_repeats f xs ys e = up_to_repeats_by is_same_mapping decides_entry (λ zs. without_repeats is_same_mapping (map f zs)) (blind_map is_same_mapping decides_entry f) xs ys e

pub joined_sources : (ss ts : List (DecodedMap × Position)) → AreEqualUpToRepeats ss ts → (joined_decoded_maps ss).sources ≡ (joined_decoded_maps ts).sources
joined_sources [] [] h = refl
joined_sources [] (t ∷ ts) h = absurd h
joined_sources (s ∷ ss) [] h = absurd h
joined_sources (s ∷ ss) (t ∷ ts) h = ap (λ x. x ++ flat_map (λ s. s.0.sources) ss) (matches s.0 t.0 h.0.0).rest.sources ∙ ap (λ x. t.0.sources ++ x) (joined_sources ss ts h.1)

pub joined_lists : (ss ts : List (DecodedMap × Position)) → AreEqualUpToRepeats ss ts → joined_ignore_lists ss ≡ joined_ignore_lists ts
joined_lists [] [] h = refl
joined_lists [] (t ∷ ts) h = absurd h
joined_lists (s ∷ ss) [] h = absurd h
joined_lists (s ∷ ss) (t ∷ ts) h =
    let same = (matches s.0 t.0 h.0.0).rest in
    ap (λ l. appended_ignore_lists l (raised_ignore_list (length s.0.sources) (joined_ignore_lists ss))) same.ignore_list
    ∙ ap (λ qs. appended_ignore_lists t.0.ignore_list (raised_ignore_list (length qs) (joined_ignore_lists ss))) same.sources
    ∙ ap (λ l. appended_ignore_lists t.0.ignore_list (raised_ignore_list (length t.0.sources) l)) (joined_lists ss ts h.1)

pub joined_entries : (ss ts : List (DecodedMap × Position)) → AreEqualUpToRepeats ss ts → without_repeats is_same_mapping (joined_decoded_maps ss).mappings ≡ without_repeats is_same_mapping (joined_decoded_maps ts).mappings
joined_entries [] [] h = refl
joined_entries [] (t ∷ ts) h = absurd h
joined_entries (s ∷ ss) [] h = absurd h
joined_entries (s ∷ ss) (t ∷ ts) h =
    without_repeats_append is_same_mapping decides_entry _ _ _ _
    (map_up_to_repeats (lowered s.1) s.0.mappings t.0.mappings (matches s.0 t.0 h.0.0).mappings ∙ ap (λ n. without_repeats is_same_mapping (map (lowered n) t.0.mappings)) h.0.1)
    (joined_entries ss ts h.1)

pub joined_up_to_repeats : (ss ts : List (DecodedMap × Position)) → AreEqualUpToRepeats ss ts → EqualUpToRepeats (joined_decoded_maps ss) (joined_decoded_maps ts)
joined_up_to_repeats ss ts h = up_to_repeats _ _ (record { rest = record { file = refl; source_root = refl; debug_id = refl; ignore_list = joined_lists ss ts h; sources = joined_sources ss ts h }; mappings = joined_entries ss ts h })
