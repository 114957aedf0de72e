-- Source roots and remappings realize their outcomes if their parts do.
use Rattle.std.proofs.Common.{◌≡◌, ◌≤◌, ◌&&◌, true, false, List, [], ◌∷◌, ◌++◌, length, refl, sym}
use Rattle.std.proofs.Common.{ap, ◌∙◌, subst, arith, Some, option_map, Ok, Err, inl, inr}
use Rattle.std.specs.Option.{option_and_then}
use Rattle.std.proofs.lemmas.Bool.{and_parts, and_left, and_right, false_from_ne_true, both_ways}
use Rattle.std.proofs.lemmas.List.{length-append, length-map}
use Rattle.oxc_sourcemap_tokens.specs.declared.errors.error.Error.{Error}
use Rattle.oxc_sourcemap_tokens.specs.declared.errors.error.Error.TheVariants.{TooLarge}
use Rattle.oxc_sourcemap_tokens.specs.Token.{AreInBounds}
use Rattle.oxc_sourcemap_parts.specs.Record.{Text, MapRecord}
use Rattle.oxc_sourcemap_parts.specs.Roots.{rooted}
use Rattle.oxc_sourcemap_parts.specs.DecodedMap.{DecodedMap}
use Rattle.oxc_sourcemap_steps.specs.Remapped.{remapped, remapping}
use Rattle.oxc_sourcemap_plan.specs.RemappedDecodedMaps.{remapped_mapping, remapped_decoded_map}
use Rattle.oxc_sourcemap_plan.specs.RootedDecodedMaps.{rooted_mapping, rooted_decoded_map}
use Rattle.oxc_sourcemap_plan.specs.RootLaws.{RootingStandsFor}
use Rattle.oxc_sourcemap_plan.specs.RemapLaws.{InputsStandFor, RemappingStandsFor, RemappingCounts}
use Rattle.oxc_sourcemap_plan.specs.RemapLaws.{names_of_inputs, RemappingNames, AreInputsSorted}
use Rattle.oxc_sourcemap_plan.specs.RemapLaws.{SortedInputsGoOn, RemappingAnswered}
use Rattle.oxc_sourcemap_plan.specs.RemapLaws.{RemappingTooLarge, AreInputsInBounds}
use Rattle.oxc_sourcemap_plan.specs.RemapLaws.{RemappingInBounds}
use Rattle.oxc_sourcemap_tokens.specs.declared.errors.plan_error.PlanError.{PlanError}
use Rattle.oxc_sourcemap_tokens.specs.declared.errors.plan_error.PlanError.TheVariants.{Map}
use Rattle.oxc_sourcemap_plan.specs.Meaning.{root_meaning, onto_inputs, all_inputs, remap_meaning}
use Rattle.oxc_sourcemap_plan.specs.Limits.{is_part_within_limits}
use Rattle.oxc_sourcemap_plan.specs.Outcome.{Outcome, root_outcome, input_meanings}
use Rattle.oxc_sourcemap_plan.specs.Outcome.{all_input_records, input_texts, input_names}
use Rattle.oxc_sourcemap_plan.specs.Outcome.{are_inputs_within_limits, source_count}
use Rattle.oxc_sourcemap_plan.specs.Outcome.{remapped_meaning, remap_outcome}
use Rattle.oxc_sourcemap_plan.specs.Evaluated.{is_among, are_among}
use Rattle.oxc_sourcemap_plan.specs.Realizes.{IsRead, AreRead, Realizes, FailsAs, InputsRealize}
use Rattle.oxc_sourcemap_plan.proofs.KnownNames.{among-left, among-right, among-both, all-more}
use Rattle.oxc_sourcemap_plan.proofs.Realizing.{same-sources, CountsFit, counts-fit, ok-same}
use Rattle.oxc_sourcemap_plan.proofs.Realizing.{err-same, no-ok-err}

-- ---- a source root
pub root_gives : RootingStandsFor → (r : MapRecord) (o : Outcome) → Realizes r o → Realizes (rooted r) (root_outcome o)
root_gives stands r o g =
    let s = g.decoded_map in
    let count = length-map s.mappings (rooted_mapping s.source_root) in
    let few = g.tokens in
    record {
      decoded_map = rooted_decoded_map s;
      means = ap root_meaning g.means;
      stands = stands r s g.stands;
      in_bounds = g.in_bounds;
      map_record = ap (option_map rooted) g.map_record;
      texts = g.texts;
      tokens = omega arith;
      names = g.names;
      contents = g.contents;
      known = g.known;
      within_limits = λ w. (let most = g.within_limits w in omega arith);
      rewritten = λ k. absurd (both_ways false refl k);
    }

-- ---- the inputs of a remapping
record Ready (ms : List (Text × MapRecord)) (os : List (Text × Outcome)) : Type 0 where
  decoded_maps : List (Text × DecodedMap)
  mean : all_inputs (input_meanings os) ≡ Ok decoded_maps
  stand : InputsStandFor ms decoded_maps
  records : all_input_records os ≡ Some ms
  sorted : AreInputsSorted ms
  in_bounds : AreInputsInBounds ms
  names : length (names_of_inputs ms) ≤ length (input_names os)
  known : are_among (input_names os) (names_of_inputs ms) ≡ true

ready : (ms : List (Text × MapRecord)) (os : List (Text × Outcome)) → InputsRealize ms os → Ready ms os
ready [] [] h = record { decoded_maps = []; mean = refl; stand = tt; records = refl; sorted = tt; in_bounds = tt; names = omega arith; known = refl }
ready [] (o ∷ os) h = absurd h
ready (m ∷ ms) [] h = absurd h
ready (m ∷ ms) (o ∷ os) h =
    let g = h.0.1 in
    let j = ready ms os h.1 in
    let a = length-append m.1.names (names_of_inputs ms) in
    let b = length-append o.1.names (input_names os) in
    let gn = g.names in let jn = j.names in
    record {
      decoded_maps = (o.0, g.decoded_map) ∷ j.decoded_maps;
      mean = ap (λ q. onto_inputs o.0 q (all_inputs (input_meanings os))) g.means ∙ ap (onto_inputs o.0 (Ok g.decoded_map)) j.mean;
      stand = ((h.0.0, g.stands), j.stand);
      records = ap (option_and_then (λ r. option_map (λ rs. (o.0, r) ∷ rs) (all_input_records os))) g.map_record
          ∙ ap (option_map (λ rs. (o.0, m.1) ∷ rs)) j.records
          ∙ ap (λ path. Some ((path, m.1) ∷ ms)) (sym h.0.0);
      sorted = (g.stands.sound.sorted, j.sorted);
      in_bounds = (g.in_bounds, j.in_bounds);
      names = omega arith;
      known = among-both (o.1.names ++ input_names os) m.1.names (names_of_inputs ms) (among-left o.1.names (input_names os) m.1.names g.known) (among-right o.1.names (input_names os) (names_of_inputs ms) j.known);
    }

-- all texts of inputs that all give maps can be read
pub inputs-read : (ms : List (Text × MapRecord)) (os : List (Text × Outcome)) → InputsRealize ms os → AreRead (input_texts os)
inputs-read [] [] h = tt
inputs-read [] (o ∷ os) h = absurd h
inputs-read (m ∷ ms) [] h = absurd h
inputs-read (m ∷ ms) (o ∷ os) h = all-more IsRead o.1.texts (input_texts os) h.0.1.texts (inputs-read ms os h.1)

-- ---- a remapping
pub record RemapLaws : Type 0 where
  pub stands : RemappingStandsFor
  pub counts : RemappingCounts
  pub names : RemappingNames
  pub goes_on : SortedInputsGoOn
  pub answered : RemappingAnswered
  pub too_large : RemappingTooLarge
  pub bounds : RemappingInBounds

pub remap_laws : RemappingStandsFor → RemappingCounts → RemappingNames → SortedInputsGoOn → RemappingAnswered → RemappingTooLarge → RemappingInBounds → RemapLaws
remap_laws a b c d e f g = record { stands = a; counts = b; names = c; goes_on = d; answered = e; too_large = f; bounds = g }

pub inputs_sorted : (ms : List (Text × MapRecord)) (os : List (Text × Outcome)) → InputsRealize ms os → AreInputsSorted ms
inputs_sorted ms os h = (ready ms os h).sorted

module _ (laws : RemapLaws) (a : MapRecord) (ms : List (Text × MapRecord)) (p : Outcome) (os : List (Text × Outcome)) (g : Realizes a p) (h : InputsRealize ms os) where
  abbrev meant : DecodedMap
  meant = remapped_decoded_map g.decoded_map (ready ms os h).decoded_maps

  means : remapped_meaning p os ≡ Ok meant
  means = ap (λ x. remap_meaning x (all_inputs (input_meanings os))) g.means ∙ ap (remap_meaning (Ok g.decoded_map)) (ready ms os h).mean

  fits : (remap_outcome p os).is_within_limits ≡ true → CountsFit (p.names ++ input_names os) meant
  fits r =
      let both = and_parts (p.is_within_limits && are_inputs_within_limits os) (is_part_within_limits (p.names ++ input_names os) (remapped_meaning p os)) r in
      counts-fit (p.names ++ input_names os) meant (ap (is_part_within_limits (p.names ++ input_names os)) (sym means) ∙ both.1)

  sources : length (remapped a ms).sources ≡ length meant.sources
  sources = same-sources (remapped a ms) meant (laws.stands a ms g.decoded_map (ready ms os h).decoded_maps g.stands (ready ms os h).stand).up_to_repeats

  pub remap_gives : (m : MapRecord) → remapping a ms ≡ Ok m → Realizes m (remap_outcome p os)
  remap_gives m e =
      let j = ready ms os h in
      let is : remapped a ms ≡ m = elim (laws.answered a ms (laws.goes_on ms j.sorted).1) [ inl q ↦ ok-same _ _ (sym q ∙ e) | inr q ↦ no-ok-err m TooLarge (sym e ∙ q) ] in
      let all = p.names ++ input_names os in
      let app = length-append p.names (input_names os) in
      let ns = laws.names a ms in
      let nm = ns.1 in let gn = g.names in let jn = j.names in
      let counts = laws.counts a ms in
      let ct = counts.0 in let cs = counts.1 in let gt = g.tokens in
      let count = length-map g.decoded_map.mappings (remapped_mapping j.decoded_maps) in
      let ss = sources in
      subst (λ x. Realizes x (remap_outcome p os)) is (record {
        decoded_map = meant;
        means = means;
        stands = laws.stands a ms g.decoded_map j.decoded_maps g.stands j.stand;
        in_bounds = subst (λ (x : MapRecord). AreInBounds x.tokens) (sym is) (laws.bounds a m ms g.in_bounds j.in_bounds e);
        map_record = ap (option_and_then (λ r. option_map (remapped r) (all_input_records os))) g.map_record ∙ ap (option_map (remapped a)) j.records;
        texts = all-more IsRead p.texts (input_texts os) g.texts (inputs-read ms os h);
        tokens = omega arith;
        names = omega arith;
        contents = subst (λ q. length (remapped a ms).source_contents ≤ source_count q) (sym means) (omega arith);
        known = ns.0 (is_among all) (among-left p.names (input_names os) a.names g.known) (among-right p.names (input_names os) (names_of_inputs ms) j.known);
        within_limits = λ r. (fits r).entries_fit;
        rewritten = λ k. absurd (both_ways false refl k);
      })

  too_many : remapping a ms ≡ Err TooLarge → (remap_outcome p os).is_within_limits ≡ true → ⊥
  too_many e r =
      let f = fits r in
      let j = ready ms os h in
      elim (laws.too_large a ms e) [
        | inl l ↦ (let ss = sources in let few = f.sources_fit in omega arith)
        | inr l ↦ (let few = f.names_fit in let gn = g.names in let jn = j.names in let app = length-append p.names (input_names os) in omega arith)
      ]

  pub remap_error : (e : Error) → remapping a ms ≡ Err e → FailsAs (Map e) (remap_outcome p os)
  remap_error e q =
      elim (laws.answered a ms (laws.goes_on ms (ready ms os h).sorted).1) [
        | inl ok ↦ no-ok-err (remapped a ms) e (sym ok ∙ q)
        | inr large ↦ subst (λ x. FailsAs (Map x) (remap_outcome p os)) (err-same _ _ (sym large ∙ q)) (inr (inr (refl, false_from_ne_true _ (too_many large))))
      ]

-- ---- a part that fails
pub remapped_fails : (p : Outcome) (os : List (Text × Outcome)) (e : PlanError) → FailsAs e p → FailsAs e (remap_outcome p os)
remapped_fails p os e r = elim r [
  | inl m ↦ inl m
  | inr t ↦ elim t [
    | inl k ↦ inr (inl (ap (λ x. remap_meaning x (all_inputs (input_meanings os))) k))
    | inr k ↦ inr (inr (k.0, and_left _ _ (and_left _ _ k.1)))
  ]
]

inputs-error : (ms : List (Text × MapRecord)) (os ps : List (Text × Outcome)) (o : Text × Outcome) (e : PlanError) → InputsRealize ms os → o.1.meaning ≡ Err e → all_inputs (input_meanings (os ++ o ∷ ps)) ≡ Err e
inputs-error [] [] ps o e h q = ap (λ r. onto_inputs o.0 r (all_inputs (input_meanings ps))) q
inputs-error [] (p ∷ os) ps o e h q = absurd h
inputs-error (m ∷ ms) [] ps o e h q = absurd h
inputs-error (m ∷ ms) (p ∷ os) ps o e h q = ap (λ r. onto_inputs p.0 r (all_inputs (input_meanings (os ++ o ∷ ps)))) h.0.1.means ∙ ap (onto_inputs p.0 (Ok h.0.1.decoded_map)) (inputs-error ms os ps o e h.1 q)

pub no-room-input : (os ps : List (Text × Outcome)) (o : Text × Outcome) → o.1.is_within_limits ≡ false → are_inputs_within_limits (os ++ o ∷ ps) ≡ false
no-room-input [] ps o q = and_left _ _ q
no-room-input (p ∷ os) ps o q = and_right _ _ (no-room-input os ps o q)

-- an input that fails, after others that do not
pub input_fails : (a : MapRecord) (ms : List (Text × MapRecord)) (p : Outcome) (os ps : List (Text × Outcome)) (o : Text × Outcome) (e : PlanError) → Realizes a p → InputsRealize ms os → FailsAs e o.1
    → FailsAs e (remap_outcome p (os ++ o ∷ ps))
input_fails a ms p os ps o e g h r = elim r [
  | inl m ↦ inl m
  | inr t ↦ elim t [
    | inl k ↦ inr (inl (ap (λ x. remap_meaning x (all_inputs (input_meanings (os ++ o ∷ ps)))) g.means ∙ ap (remap_meaning (Ok g.decoded_map)) (inputs-error ms os ps o e h k)))
    | inr k ↦ inr (inr (k.0, and_left _ _ (and_right _ _ (no-room-input os ps o k.1))))
  ]
]
