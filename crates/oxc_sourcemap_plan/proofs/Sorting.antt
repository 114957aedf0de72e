-- What reading and sorting a text gives.
use Rattle.std.proofs.Common.{◌≡◌, ℕ, suc, Bool, true, false, cond, List, [], ◌∷◌, ◌++◌, length}
use Rattle.std.proofs.Common.{refl, sym, ap, ◌∙◌, subst, arith, inl, inr, Option, None, Ok, Err}
use Rattle.std.proofs.Common.{◌≢◌}
use Rattle.std.specs.Bool.{Decides}
use Rattle.std.specs.List.{AllByRecursion}
use Rattle.std.specs.Option.{IfSome}
use Rattle.std.proofs.lemmas.Bool.{both_ways}
use Rattle.std.proofs.lemmas.Bool.Decides.{nat_tests}
use Rattle.std.proofs.lemmas.List.{length-map}
use Rattle.std.proofs.lemmas.List.Elements.{recursion_from_All, All-from_recursion}
use Rattle.oxc_sourcemap_tokens.specs.declared.errors.error.Error.{Error}
use Rattle.oxc_sourcemap_tokens.specs.declared.errors.error.Error.TheVariants.{OutOfMemory}
use Rattle.oxc_sourcemap_tokens.specs.declared.errors.error.Error.TheVariants.{TooLarge}
use Rattle.oxc_sourcemap_tokens.specs.Errors.{unless}
use Rattle.oxc_sourcemap_tokens.specs.Chunks.{ChunksFit}
use Rattle.oxc_sourcemap_tokens.specs.Token.{IsInBounds, AreInBounds}
use Rattle.oxc_sourcemap_parts.specs.Record.{Text, MapRecord}
use Rattle.oxc_sourcemap_parts.specs.Sorted.{may_precede, are_tokens_sorted, token_line}
use Rattle.oxc_sourcemap_parts.specs.Sorted.{token_column}
use Rattle.oxc_sourcemap_parts.specs.Sound.{IsInRange, AreIdsInRange, IsSound}
use Rattle.oxc_sourcemap_parts.specs.DecodedMap.{DecodedMap, decoded_map_of, mapping_line}
use Rattle.oxc_sourcemap_parts.specs.DecodedMap.{mapping_column, mapping_of, sources_of}
use Rattle.oxc_sourcemap_tokens.specs.declared.position.Position.{Position}
use Rattle.oxc_sourcemap_join.specs.Joined.{joined}
use Rattle.oxc_sourcemap_json.specs.Sections.{Sections, joined_sections}
use Rattle.oxc_sourcemap_json.specs.JoinLimits.{is_map_within_limits}
use Rattle.oxc_sourcemap_json.specs.ReadMap.{ReadForm, plain, indexed, indexed_record, map_of_form}
use Rattle.oxc_sourcemap_json.specs.ReadMap.{form_of_text, read_map}
use Rattle.oxc_sourcemap_json.proofs.WellRead.{IsWellRead, sections_well, read_is_form, read_well}
use Rattle.oxc_sourcemap_plan.specs.Repeats.{decoded_map_without_repeats, without_repeats}
use Rattle.oxc_sourcemap_plan.specs.Repeats.{is_same_mapping, EqualUpToRepeats}
use Rattle.oxc_sourcemap_plan.specs.JoinedDecodedMaps.{joined_decoded_maps}
use Rattle.oxc_sourcemap_plan.specs.JoinLaws.{decoded_maps_of}
use Rattle.oxc_sourcemap_plan.proofs.DroppingRepeats.{IsBlind, up_to_repeats_by}
use Rattle.oxc_sourcemap_plan.proofs.DroppingRepeats.{blind_without_repeats, blind_after_list}
use Rattle.oxc_sourcemap_plan.proofs.Same.{decides_entry}
use Rattle.oxc_sourcemap_plan.proofs.Sections.{from-sections, joined-of}
use Rattle.oxc_sourcemap_plan.proofs.UpToRepeats.{matches, up_to_repeats}
use Rattle.oxc_sourcemap_steps.specs.Sorting.{put_in, sorted_by, sorted_tokens, sorted_map}
use Rattle.oxc_sourcemap_steps.specs.Sorting.{sorted_decoded_map}
use Rattle.oxc_sourcemap_steps.proofs.Sorting.{precedes, sorted-once}
use Rattle.oxc_sourcemap_steps.proofs.Lookups.{decoded-sorted}
use Rattle.oxc_sourcemap_tokens.specs.declared.errors.plan_error.PlanError.TheVariants.{Map}
use Rattle.oxc_sourcemap_plan.specs.Outcome.{sorted_form_outcome, sorted_outcome}
use Rattle.oxc_sourcemap_plan.specs.Outcome.{sorted_plain_outcome}
use Rattle.oxc_sourcemap_plan.specs.Outcome.{sorted_sections_outcome, names_of_sections}
use Rattle.oxc_sourcemap_plan.specs.Evaluated.{are_among}
use Rattle.oxc_sourcemap_plan.specs.Realizes.{Realizes, FailsAs}
use Rattle.oxc_sourcemap_plan.proofs.KnownNames.{among-self}
use Rattle.oxc_sourcemap_plan.proofs.Realizing.{counts-fit, JoinLaws, unless_memory}
use Rattle.oxc_sourcemap_plan.proofs.Reading.{room, count-mappings, not-within}
use Rattle.oxc_sourcemap_plan.proofs.Reading.{same as sections-same, sections-contents, error-of}
use Rattle.oxc_sourcemap_plan.proofs.Reading.{fault-of, of-read-text}

-- ---- repeats
before-itself : (a b : ℕ) → precedes a b a b ≡ true
before-itself a b = grind (arith, nat_tests)

module _ {A : Type 0} (same : A → A → Bool) (decides : (x y : A) → Decides (same x y) (x ≡ y)) (line column : A → ℕ) where
  blind-put : (p : A) → IsBlind (λ zs. without_repeats same (put_in line column p zs))
  blind-put p [] e xs =
      elim (may_precede line column p e) as (λ b. without_repeats same (cond b (p ∷ e ∷ e ∷ xs) (e ∷ cond b (p ∷ e ∷ xs) (e ∷ put_in line column p xs))) ≡ without_repeats same (cond b (p ∷ e ∷ xs) (e ∷ put_in line column p xs))) [
        | true ↦ blind_without_repeats same decides (p ∷ []) e xs
        | false ↦ blind_without_repeats same decides [] e (put_in line column p xs)
      ]
  blind-put p (q ∷ qs) e xs =
      elim (may_precede line column p q) as (λ b. without_repeats same (cond b (p ∷ q ∷ (qs ++ e ∷ e ∷ xs)) (q ∷ put_in line column p (qs ++ e ∷ e ∷ xs))) ≡ without_repeats same (cond b (p ∷ q ∷ (qs ++ e ∷ xs)) (q ∷ put_in line column p (qs ++ e ∷ xs)))) [
        | true ↦ blind_without_repeats same decides (p ∷ q ∷ qs) e xs
        | false ↦ up_to_repeats_by same decides (λ zs. without_repeats same (q ∷ zs)) (blind_after_list same decides (q ∷ [])) _ _ (blind-put p qs e xs)
      ]

  twice : (e : A) (s : List A) → without_repeats same (put_in line column e (put_in line column e s)) ≡ without_repeats same (put_in line column e s)
  twice e [] =
      elim (may_precede line column e e) as (λ b. without_repeats same (cond b (e ∷ e ∷ []) (e ∷ e ∷ [])) ≡ without_repeats same (e ∷ [])) [
        | true ↦ blind_without_repeats same decides [] e []
        | false ↦ blind_without_repeats same decides [] e []
      ]
  twice e (y ∷ ys) =
      elim (may_precede line column e y) as (λ b. may_precede line column e y ≡ b → without_repeats same (put_in line column e (cond b (e ∷ y ∷ ys) (y ∷ put_in line column e ys))) ≡ without_repeats same (cond b (e ∷ y ∷ ys) (y ∷ put_in line column e ys))) [
        | true ↦ (λ h. ap (λ b. without_repeats same (cond b (e ∷ e ∷ y ∷ ys) (e ∷ put_in line column e (y ∷ ys)))) (before-itself (line e) (column e)) ∙ blind_without_repeats same decides [] e (y ∷ ys))
        | false ↦ (λ h. ap (λ b. without_repeats same (cond b (e ∷ y ∷ put_in line column e ys) (y ∷ put_in line column e (put_in line column e ys)))) h
            ∙ up_to_repeats_by same decides (λ zs. without_repeats same (y ∷ zs)) (blind_after_list same decides (y ∷ [])) _ _ (twice e ys))
      ] refl

  blind-sort : IsBlind (λ zs. without_repeats same (sorted_by line column zs))
  blind-sort [] e xs = twice e (sorted_by line column xs)
  blind-sort (p ∷ ps) e xs = up_to_repeats_by same decides (λ zs. without_repeats same (put_in line column p zs)) (blind-put p) _ _ (blind-sort ps e xs)

-- decoded maps that are equal up to repeats are so once they are sorted
sorted-repeats : (s t : DecodedMap) → EqualUpToRepeats s t → EqualUpToRepeats (sorted_decoded_map s) (sorted_decoded_map t)
sorted-repeats s t e =
    let m = matches s t e in
    up_to_repeats (sorted_decoded_map s) (sorted_decoded_map t) (record {
      rest = record { file = m.rest.file; source_root = m.rest.source_root; debug_id = m.rest.debug_id; ignore_list = m.rest.ignore_list; sources = m.rest.sources };
      mappings = up_to_repeats_by is_same_mapping decides_entry (λ zs. without_repeats is_same_mapping (sorted_by mapping_line mapping_column zs)) (blind-sort is_same_mapping decides_entry mapping_line mapping_column) s.mappings t.mappings m.mappings;
    })

-- ---- what sorting keeps
module _ {A : Type 0} (line column : A → ℕ) where
  all-put : (P : A → Type 0) (x : A) (s : List A) → P x → AllByRecursion P s → AllByRecursion P (put_in line column x s)
  all-put P x [] p h = (p, tt)
  all-put P x (y ∷ ys) p h =
      elim (may_precede line column x y) as (λ b. AllByRecursion P (cond b (x ∷ y ∷ ys) (y ∷ put_in line column x ys))) [
        | true ↦ (p, h)
        | false ↦ (h.0, all-put P x ys p h.1)
      ]

  all-sorted : (P : A → Type 0) (xs : List A) → AllByRecursion P xs → AllByRecursion P (sorted_by line column xs)
  all-sorted P [] h = tt
  all-sorted P (x ∷ xs) h = all-put P x (sorted_by line column xs) h.0 (all-sorted P xs h.1)

  length-put : (x : A) (s : List A) → length (put_in line column x s) ≡ suc (length s)
  length-put x [] = refl
  length-put x (y ∷ ys) =
      elim (may_precede line column x y) as (λ b. length (cond b (x ∷ y ∷ ys) (y ∷ put_in line column x ys)) ≡ suc (suc (length ys))) [ true ↦ refl | false ↦ ap suc (length-put x ys) ]

  length-sorted : (xs : List A) → length (sorted_by line column xs) ≡ length xs
  length-sorted [] = refl
  length-sorted (x ∷ xs) = length-put x (sorted_by line column xs) ∙ ap suc (length-sorted xs)

-- a map that was read, once it is sorted
record IsSortedRead (r m : MapRecord) : Type 0 where
  sound : IsSound m
  in_bounds : AreInBounds m.tokens
  count : length m.tokens ≡ length r.tokens
  names : m.names ≡ r.names
  contents : m.source_contents ≡ r.source_contents

sorted-read : (r : MapRecord) → AreIdsInRange r → r.token_chunks ≡ None → AreInBounds r.tokens → IsSortedRead r (sorted_map r)
sorted-read r ids none bounds =
    elim (are_tokens_sorted r.tokens) as (λ b. are_tokens_sorted r.tokens ≡ b → IsSortedRead r (cond b r (record r { tokens = sorted_tokens r.tokens; token_chunks = None }))) [
      | true ↦ (λ e. record {
        sound = record { sorted = e; in_range = ids; chunks = subst (λ o. IfSome o (ChunksFit r.tokens)) (sym none) tt };
        in_bounds = bounds;
        count = refl;
        names = refl;
        contents = refl;
      })
      | false ↦ (λ e. record {
        sound = record {
          sorted = sorted-once token_line token_column r.tokens;
          in_range = record { tokens = all-sorted token_line token_column (IsInRange (length r.names) (length r.sources)) r.tokens ids.tokens; ignore_list = ids.ignore_list };
          chunks = tt;
        };
        in_bounds = All-from_recursion IsInBounds (sorted_tokens r.tokens) (all-sorted token_line token_column IsInBounds r.tokens (recursion_from_All IsInBounds r.tokens bounds));
        count = length-sorted token_line token_column r.tokens;
        names = refl;
        contents = refl;
      })
    ] refl

-- ---- a map by itself
sorted-plain : (r : MapRecord) → IsSortedRead r (sorted_map r) → Realizes (sorted_map r) (sorted_plain_outcome (Ok r))
sorted-plain r k =
    let s = decoded_map_of r in
    let n = length-sorted mapping_line mapping_column s.mappings in
    let d = length-map r.tokens (mapping_of (sources_of r.sources r.source_contents) r.names) in
    let c = k.count in
    let names = ap length k.names in
    let contents = ap length k.contents in
    record {
      decoded_map = sorted_decoded_map s;
      means = refl;
      stands = record { sound = k.sound; up_to_repeats = ap decoded_map_without_repeats (decoded-sorted r) };
      in_bounds = k.in_bounds;
      map_record = refl;
      texts = tt;
      tokens = omega arith;
      names = omega arith;
      contents = omega arith;
      known = ap (are_among r.names) k.names ∙ among-self r.names;
      within_limits = λ w. (counts-fit r.names (sorted_decoded_map s) w).entries_fit;
      rewritten = λ w. absurd (both_ways false refl w);
    }

-- ---- an indexed map
sorted-sections : (laws : JoinLaws) (file : Option Text) (ms : List (MapRecord × Position)) → AllByRecursion (λ m. IsWellRead m.0) ms
    → IsSortedRead (indexed_record file (joined ms)) (sorted_map (indexed_record file (joined ms)))
    → Realizes (sorted_map (indexed_record file (joined ms))) (sorted_sections_outcome file None ms)
sorted-sections laws file ms well k =
    let r = indexed_record file (joined ms) in
    let s = joined_decoded_maps (decoded_maps_of ms) in
    let t : DecodedMap = record s { file = file } in
    let n = length-sorted mapping_line mapping_column s.mappings in
    let c = count-mappings ms in
    let pt = laws.tokens ms in
    let count = k.count in
    let names = ap length k.names in
    let joined_names = ap length (laws.names ms) in
    let contents = ap length k.contents in
    let joined_contents = sections-contents laws file ms well in
    let e : EqualUpToRepeats (decoded_map_of r) t = ap (λ (t : DecodedMap). record t { file = file }) (sections-same laws file ms well) in
    record {
      decoded_map = sorted_decoded_map t;
      means = refl;
      stands = record { sound = k.sound; up_to_repeats = ap decoded_map_without_repeats (decoded-sorted r) ∙ sorted-repeats (decoded_map_of r) t e };
      in_bounds = k.in_bounds;
      map_record = refl;
      texts = tt;
      tokens = omega arith;
      names = omega arith;
      contents = omega arith;
      known = ap (are_among (names_of_sections ms)) (k.names ∙ laws.names ms) ∙ among-self (names_of_sections ms);
      within_limits = λ w. (let q = (room laws file ms well w).0.entries_fit in omega arith);
      rewritten = λ w. absurd (both_ways false refl w);
    }

-- ---- by the value that is read
gives : (laws : JoinLaws) (form : ReadForm) (r : MapRecord) → ((file : Option Text) (found : Sections) → form ≡ indexed file found → AllByRecursion (λ m. IsWellRead m.0) found.maps)
    → map_of_form form ≡ Ok r → IsSortedRead r (sorted_map r) → Realizes (sorted_map r) (sorted_form_outcome form)
gives laws (plain answer) r w e k = subst (λ a. Realizes (sorted_map r) (sorted_plain_outcome a)) (sym e) (sorted-plain r k)
gives laws (indexed file found) r w e k =
    let j = joined-of file (joined_sections found) r e in
    let f = from-sections (is_map_within_limits (joined found.maps)) found.fault found.maps j.0 j.1 in
    let is : indexed_record file (joined found.maps) ≡ r = ap (indexed_record file) f.is_join ∙ j.2 in
    subst (λ fault. Realizes (sorted_map r) (sorted_sections_outcome file fault found.maps)) (sym f.no_fault)
    (subst (λ m. Realizes (sorted_map m) (sorted_sections_outcome file None found.maps)) is
    (sorted-sections laws file found.maps (w file found refl) (subst (λ m. IsSortedRead m (sorted_map m)) (sym is) k)))

error : (laws : JoinLaws) (form : ReadForm) (e : Error) → ((file : Option Text) (found : Sections) → form ≡ indexed file found → AllByRecursion (λ m. IsWellRead m.0) found.maps)
    → map_of_form form ≡ Err e → FailsAs (Map e) (sorted_form_outcome form)
error laws (plain answer) e w h = subst (λ a. FailsAs (Map e) (sorted_plain_outcome a)) (sym h) (inr (inl refl))
error laws (indexed file found) e w h =
    let j : joined_sections found ≡ Err e = error-of file (joined_sections found) e h in
    elim (is_map_within_limits (joined found.maps)) as (λ b. is_map_within_limits (joined found.maps) ≡ b → cond b (unless found.fault (Ok (joined found.maps))) (Err TooLarge) ≡ Err e
    → FailsAs (Map e) (sorted_sections_outcome file found.fault found.maps)) [
      | true ↦ (λ t k. let f = fault-of found.fault (joined found.maps) e k in subst (λ fault. FailsAs (Map e) (sorted_sections_outcome file fault found.maps)) (sym f) (inr (inl refl)))
      | false ↦ (λ t k. let f : TooLarge ≡ e = cc (k) in subst (λ x. FailsAs (Map x) (sorted_sections_outcome file found.fault found.maps)) f (inr (inr (refl, not-within laws file found.maps (w file found refl) t))))
    ] refl j

-- ---- by the text that is read
pub sorted_gives : JoinLaws → (text : Text) (r : MapRecord) → read_map text ≡ Ok r → Realizes (sorted_map r) (sorted_outcome text)
sorted_gives laws text r e =
    let well = read_well text r e in
    of-read-text text r (sorted_map r) _ e (gives laws (form_of_text text) r (sections_well text) (sym (read_is_form text) ∙ e) (sorted-read r well.in_range well.chunks well.in_bounds))

pub sorted_error : JoinLaws → (text : Text) (e : Error) → ((e ≢ OutOfMemory) → read_map text ≡ Err e) → FailsAs (Map e) (sorted_outcome text)
sorted_error laws text e q = unless_memory e (sorted_outcome text) (λ n. error laws (form_of_text text) e (sections_well text) (sym (read_is_form text) ∙ q n))
