-- What reading a text gives: a map by itself, or the join of the sections of an indexed map.
use Rattle.std.proofs.Common.{◌≡◌, ◌≢◌, ◌≤◌, true, false, cond, List, [], ◌∷◌, map, length, refl}
use Rattle.std.proofs.Common.{sym, ap, ◌∙◌, subst, arith, inl, inr, Option, Some, None, Result, Ok}
use Rattle.std.proofs.Common.{Err}
use Rattle.std.specs.List.{flat_map, AllByRecursion}
use Rattle.std.proofs.lemmas.Bool.{and_parts, both_ways, false_from_ne_true}
use Rattle.std.proofs.lemmas.List.{length-append, length-map}
use Rattle.std.proofs.lemmas.List.Elements.{recursion_from_All}
use Rattle.oxc_sourcemap_tokens.specs.declared.errors.error.Error.{Error}
use Rattle.oxc_sourcemap_tokens.specs.declared.errors.error.Error.TheVariants.{OutOfMemory}
use Rattle.oxc_sourcemap_tokens.specs.declared.errors.error.Error.TheVariants.{TooLarge}
use Rattle.oxc_sourcemap_tokens.specs.Errors.{unless}
use Rattle.oxc_sourcemap_tokens.specs.Token.{TokenRecord, IsInBounds, AreInBounds}
use Rattle.oxc_sourcemap_parts.specs.Record.{Text, MapRecord}
use Rattle.oxc_sourcemap_parts.specs.Sorted.{are_tokens_sorted}
use Rattle.oxc_sourcemap_parts.specs.Sound.{IsSound}
use Rattle.oxc_sourcemap_parts.specs.DecodedMap.{DecodedMap, mapping_of, sources_of, decoded_map_of}
use Rattle.oxc_sourcemap_json.specs.Shape.{◌>>=◌}
use Rattle.oxc_sourcemap_tokens.specs.declared.position.Position.{Position}
use Rattle.oxc_sourcemap_join.specs.Joined.{nothing_joined, joined, IsWithinLimits}
use Rattle.oxc_sourcemap_json.specs.Sections.{Sections, joined_sections}
use Rattle.oxc_sourcemap_json.specs.JoinLimits.{is_map_within_limits}
use Rattle.oxc_sourcemap_json.specs.ReadMap.{ReadForm, plain, indexed, indexed_record, map_of_form}
use Rattle.oxc_sourcemap_json.specs.ReadMap.{form_of_text, read_map}
use Rattle.oxc_sourcemap_json.proofs.JoinLimits.{limits_decided}
use Rattle.oxc_sourcemap_json.proofs.WellRead.{IsWellRead, sections_well, read_is_form}
use Rattle.oxc_sourcemap_plan.specs.Repeats.{EqualUpToRepeats, is_sorted_decoded_map}
use Rattle.oxc_sourcemap_plan.specs.JoinedDecodedMaps.{lowered, joined_decoded_maps}
use Rattle.oxc_sourcemap_plan.specs.JoinLaws.{AreIgnoreListsInRange, decoded_maps_of}
use Rattle.oxc_sourcemap_plan.proofs.JoinStands.{sorted-mappings}
use Rattle.oxc_sourcemap_plan.proofs.Sections.{all-in-range, from-sections, joined-of}
use Rattle.oxc_sourcemap_plan.proofs.UpToRepeats.{sorted_decoded_map_up_to_repeats}
use Rattle.oxc_sourcemap_tokens.specs.declared.errors.plan_error.PlanError.TheVariants.{Map}
use Rattle.oxc_sourcemap_tokens.specs.declared.errors.plan_error.PlanError.TheVariants.{Unsorted}
use Rattle.oxc_sourcemap_plan.specs.Limits.{are_counts_within_limits, are_positions_within_limits}
use Rattle.oxc_sourcemap_plan.specs.Limits.{is_join_within_limits}
use Rattle.oxc_sourcemap_plan.specs.Outcome.{plain_outcome, names_of_sections, sections_outcome}
use Rattle.oxc_sourcemap_plan.specs.Outcome.{Outcome, form_outcome, of_text, read_outcome}
use Rattle.oxc_sourcemap_plan.specs.Evaluated.{are_among}
use Rattle.oxc_sourcemap_plan.specs.Realizes.{Realizes, FailsAs}
use Rattle.oxc_sourcemap_plan.proofs.KnownNames.{among-self}
use Rattle.oxc_sourcemap_plan.proofs.Realizing.{CountsFit, counts-fit, same-sources, contents-added}
use Rattle.oxc_sourcemap_plan.proofs.Realizing.{Stays, stays-of, JoinLaws, within_of, plain_gives}
use Rattle.oxc_sourcemap_plan.proofs.Realizing.{plain_unsorted, unless_memory}

lists-in-range : (ms : List (MapRecord × Position)) → AllByRecursion (λ m. IsWellRead m.0) ms → AreIgnoreListsInRange ms
lists-in-range [] h = tt
lists-in-range (m ∷ ms) h = (h.0.in_range.ignore_list, lists-in-range ms h.1)

stay : (ts : List TokenRecord) → AllByRecursion IsInBounds ts → AllByRecursion Stays ts
stay [] h = tt
stay (t ∷ ts) h = (stays-of t h.0, stay ts h.1)

all-stay : (ms : List (MapRecord × Position)) → AllByRecursion (λ m. IsWellRead m.0) ms → AllByRecursion (λ m. AllByRecursion Stays m.0.tokens) ms
all-stay [] h = tt
all-stay (m ∷ ms) h = (stay m.0.tokens (recursion_from_All IsInBounds m.0.tokens h.0.in_bounds), all-stay ms h.1)

-- a join of decoded maps has as many mappings as their maps have tokens
pub count-mappings : (ms : List (MapRecord × Position)) → length (flat_map (λ m. m.0.tokens) ms) ≡ length (joined_decoded_maps (decoded_maps_of ms)).mappings
count-mappings [] = refl
count-mappings (m ∷ ms) =
    let h = count-mappings ms in
    let s = decoded_map_of m.0 in
    let a = length-append m.0.tokens (flat_map (λ m. m.0.tokens) ms) in
    let b = length-append (map (lowered m.1) s.mappings) (joined_decoded_maps (decoded_maps_of ms)).mappings in
    let c = length-map s.mappings (lowered m.1) in
    let d = length-map m.0.tokens (mapping_of (sources_of m.0.sources m.0.source_contents) m.0.names) in
    omega arith

module _ (laws : JoinLaws) (file : Option Text) (ms : List (MapRecord × Position)) (well : AllByRecursion (λ m. IsWellRead m.0) ms) where
  pub same : EqualUpToRepeats (decoded_map_of (joined ms)) (joined_decoded_maps (decoded_maps_of ms))
  same = laws.decoded_map ms (all-in-range ms well)

  sorted-same : are_tokens_sorted (joined ms).tokens ≡ is_sorted_decoded_map (joined_decoded_maps (decoded_maps_of ms))
  sorted-same = sym (sorted-mappings (joined ms)) ∙ sorted_decoded_map_up_to_repeats (decoded_map_of (joined ms)) (joined_decoded_maps (decoded_maps_of ms)) same

  pub room : is_join_within_limits (names_of_sections ms) (Ok (decoded_maps_of ms)) ≡ true
      → CountsFit (names_of_sections ms) (joined_decoded_maps (decoded_maps_of ms)) × (are_positions_within_limits (joined_decoded_maps (decoded_maps_of ms)).mappings ≡ true)
  room e =
      let s = joined_decoded_maps (decoded_maps_of ms) in
      let p = and_parts (are_counts_within_limits (names_of_sections ms) s) (are_positions_within_limits s.mappings) e in
      (counts-fit (names_of_sections ms) s p.0, p.1)

  within : is_join_within_limits (names_of_sections ms) (Ok (decoded_maps_of ms)) ≡ true → IsWithinLimits (joined ms)
  within e =
      let r = room e in
      let c = count-mappings ms in
      within_of laws ms (joined_decoded_maps (decoded_maps_of ms)) (names_of_sections ms) same (all-in-range ms well) (lists-in-range ms well) (all-stay ms well)
      (omega arith) (omega arith) r.0 r.1

  pub sections-contents : length (joined ms).source_contents ≤ length (joined_decoded_maps (decoded_maps_of ms)).sources
  sections-contents =
      let one = contents-added nothing_joined ms refl in
      let ss = same-sources (joined ms) (joined_decoded_maps (decoded_maps_of ms)) same in
      omega arith

  pub not-within : is_map_within_limits (joined ms) ≡ false → is_join_within_limits (names_of_sections ms) (Ok (decoded_maps_of ms)) ≡ false
  not-within e = false_from_ne_true _ (λ k. both_ways (is_map_within_limits (joined ms)) e ((limits_decided (joined ms)).1 (within k)))

  sections_give : AreInBounds (joined ms).tokens → IsSound (indexed_record file (joined ms)) → are_tokens_sorted (joined ms).tokens ≡ true
      → Realizes (indexed_record file (joined ms)) (sections_outcome file None ms)
  sections_give b h e =
      let s = joined_decoded_maps (decoded_maps_of ms) in
      let f : is_sorted_decoded_map s ≡ true = sym sorted-same ∙ e in
      let c = count-mappings ms in
      let pt = laws.tokens ms in
      let n = ap length (laws.names ms) in
      let one = contents-added nothing_joined ms refl in
      let ss = same-sources (joined ms) s same in
      record {
        decoded_map = record s { file = file };
        means = ap (λ b. cond b (Ok (record s { file = file })) (Err Unsorted)) f;
        stands = record { sound = h; up_to_repeats = ap (λ (t : DecodedMap). record t { file = file }) same };
        in_bounds = b;
        map_record = refl;
        texts = tt;
        tokens = omega arith;
        names = omega arith;
        contents = omega arith;
        known = ap (are_among (names_of_sections ms)) (laws.names ms) ∙ among-self (names_of_sections ms);
        within_limits = λ r. (room r).0.entries_fit;
        rewritten = λ r. absurd (both_ways false refl r);
      }

  sections_unsorted : are_tokens_sorted (joined ms).tokens ≡ false → FailsAs Unsorted (sections_outcome file None ms)
  sections_unsorted e =
      let s = joined_decoded_maps (decoded_maps_of ms) in
      inr (inl (ap (λ b. cond b (Ok (record s { file = file })) (Err Unsorted)) (sym sorted-same ∙ e)))

  sections_too_large : (fault : Option Error) → is_map_within_limits (joined ms) ≡ false → FailsAs (Map TooLarge) (sections_outcome file fault ms)
  sections_too_large fault e =
      inr (inr (refl, not-within e))

-- ---- by what the join of sections is
pub error-of : (file : Option Text) (x : Result MapRecord Error) (f : Error) → (x >>= (λ j. Ok (indexed_record file j))) ≡ Err f → x ≡ Err f
error-of file (Ok j) f e = cc
error-of file (Err g) f e = cc

-- ---- by the value that is read
gives : (laws : JoinLaws) (form : ReadForm) (r : MapRecord) → ((file : Option Text) (found : Sections) → form ≡ indexed file found → AllByRecursion (λ m. IsWellRead m.0) found.maps)
    → map_of_form form ≡ Ok r → AreInBounds r.tokens → IsSound r → are_tokens_sorted r.tokens ≡ true → Realizes r (form_outcome form)
gives laws (plain answer) r w e b h s = subst (λ a. Realizes r (plain_outcome a)) (sym e) (plain_gives r b h s)
gives laws (indexed file found) r w e b h s =
    let j = joined-of file (joined_sections found) r e in
    let f = from-sections (is_map_within_limits (joined found.maps)) found.fault found.maps j.0 j.1 in
    let is : indexed_record file (joined found.maps) ≡ r = ap (indexed_record file) f.is_join ∙ j.2 in
    let back = sym is in
    subst (λ fault. Realizes r (sections_outcome file fault found.maps)) (sym f.no_fault) (subst (λ m. Realizes m (sections_outcome file None found.maps)) is
    (sections_give laws file found.maps (w file found refl) (subst (λ (m : MapRecord). AreInBounds m.tokens) back b) (subst IsSound back h) (subst (λ (m : MapRecord). are_tokens_sorted m.tokens ≡ true) back s)))

unsorted : (laws : JoinLaws) (form : ReadForm) (r : MapRecord) → ((file : Option Text) (found : Sections) → form ≡ indexed file found → AllByRecursion (λ m. IsWellRead m.0) found.maps)
    → map_of_form form ≡ Ok r → are_tokens_sorted r.tokens ≡ false → FailsAs Unsorted (form_outcome form)
unsorted laws (plain answer) r w e s = subst (λ a. FailsAs Unsorted (plain_outcome a)) (sym e) (plain_unsorted r s)
unsorted laws (indexed file found) r w e s =
    let j = joined-of file (joined_sections found) r e in
    let f = from-sections (is_map_within_limits (joined found.maps)) found.fault found.maps j.0 j.1 in
    let is : indexed_record file (joined found.maps) ≡ r = ap (indexed_record file) f.is_join ∙ j.2 in
    subst (λ fault. FailsAs Unsorted (sections_outcome file fault found.maps)) (sym f.no_fault)
    (sections_unsorted laws file found.maps (w file found refl) (ap (λ (m : MapRecord). are_tokens_sorted m.tokens) is ∙ s))

pub fault-of : (fault : Option Error) (r : MapRecord) (e : Error) → unless fault (Ok r) ≡ Err e → fault ≡ Some e
fault-of None r e h = cc
fault-of (Some f) r e h = cc

error : (laws : JoinLaws) (form : ReadForm) (e : Error) → ((file : Option Text) (found : Sections) → form ≡ indexed file found → AllByRecursion (λ m. IsWellRead m.0) found.maps)
    → map_of_form form ≡ Err e → FailsAs (Map e) (form_outcome form)
error laws (plain answer) e w h = subst (λ a. FailsAs (Map e) (plain_outcome a)) (sym h) (inr (inl refl))
error laws (indexed file found) e w h =
    let j : joined_sections found ≡ Err e = error-of file (joined_sections found) e h in
    elim (is_map_within_limits (joined found.maps)) as (λ b. is_map_within_limits (joined found.maps) ≡ b → cond b (unless found.fault (Ok (joined found.maps))) (Err TooLarge) ≡ Err e
    → FailsAs (Map e) (sections_outcome file found.fault found.maps)) [
      | true ↦ (λ t k. let f = fault-of found.fault (joined found.maps) e k in subst (λ fault. FailsAs (Map e) (sections_outcome file fault found.maps)) (sym f) (inr (inl refl)))
      | false ↦ (λ t k. let f : TooLarge ≡ e = cc (k) in subst (λ x. FailsAs (Map x) (sections_outcome file found.fault found.maps)) f (sections_too_large laws file found.maps (w file found refl) found.fault t))
    ] refl j

-- ---- by the text that is read
pub of-read-text : (text : Text) (r m : MapRecord) (o : Outcome) → read_map text ≡ Ok r → Realizes m o → Realizes m (of_text text o)
of-read-text text r m o is g = record {
  decoded_map = g.decoded_map;
  means = g.means;
  stands = g.stands;
  in_bounds = g.in_bounds;
  map_record = g.map_record;
  texts = ((r, is), tt);
  tokens = g.tokens;
  names = g.names;
  contents = g.contents;
  known = g.known;
  within_limits = g.within_limits;
  rewritten = g.rewritten;
}

pub read_gives : JoinLaws → (text : Text) (r : MapRecord) → read_map text ≡ Ok r → AreInBounds r.tokens → IsSound r → are_tokens_sorted r.tokens ≡ true → Realizes r (read_outcome text)
read_gives laws text r e b h s = of-read-text text r r _ e (gives laws (form_of_text text) r (sections_well text) (sym (read_is_form text) ∙ e) b h s)

pub read_unsorted : JoinLaws → (text : Text) (r : MapRecord) → read_map text ≡ Ok r → are_tokens_sorted r.tokens ≡ false → FailsAs Unsorted (read_outcome text)
read_unsorted laws text r e s = unsorted laws (form_of_text text) r (sections_well text) (sym (read_is_form text) ∙ e) s

pub read_error : JoinLaws → (text : Text) (e : Error) → ((e ≢ OutOfMemory) → read_map text ≡ Err e) → FailsAs (Map e) (read_outcome text)
read_error laws text e q = unless_memory e (read_outcome text) (λ n. error laws (form_of_text text) e (sections_well text) (sym (read_is_form text) ∙ q n))
