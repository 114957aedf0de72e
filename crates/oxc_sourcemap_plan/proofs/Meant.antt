-- An error of a text that a plan means is that of its first text that cannot be read.
use Rattle.std.proofs.Common.{◌≡◌, ◌≢◌, ℕ, ◌+◌, true, false, cond, nat_lt, nat_le, List, [], ◌∷◌}
use Rattle.std.proofs.Common.{◌++◌, map, length, refl, sym, ap, ◌∙◌, subst, append_assoc, Option}
use Rattle.std.proofs.Common.{Some, None, Result, Ok, Err, IfSome, is_some}
use Rattle.std.specs.Prelude.{⊤}
use Rattle.std.specs.List.{flat_map, AllByRecursion}
use Rattle.std.specs.Borrow.{Bor}
use Rattle.std.proofs.lemmas.Bool.{and_parts, both_ways}
use Rattle.std.proofs.lemmas.List.{append-nil}
use Rattle.oxc_sourcemap_tokens.specs.declared.errors.error.Error.{Error}
use Rattle.oxc_sourcemap_tokens.specs.declared.errors.error.Error.TheVariants.{TooLarge}
use Rattle.oxc_sourcemap_tokens.specs.declared.errors.error.Error.TheVariants.{SeveralSources}
use Rattle.oxc_sourcemap_tokens.specs.Errors.{unless}
use Rattle.oxc_sourcemap_tokens.specs.declared.position.Position.{Position}
use Rattle.oxc_sourcemap_tokens.specs.declared.errors.plan_error.PlanError.{PlanError}
use Rattle.oxc_sourcemap_tokens.specs.declared.errors.plan_error.PlanError.TheVariants.{Map}
use Rattle.oxc_sourcemap_tokens.specs.declared.errors.plan_error.PlanError.TheVariants.{Unsorted}
use Rattle.oxc_sourcemap_tokens.specs.declared.errors.plan_error.PlanError.TheVariants.{TooDeep}
use Rattle.oxc_sourcemap_parts.specs.Record.{Text, MapRecord}
use Rattle.oxc_sourcemap_parts.specs.Sorted.{are_tokens_sorted}
use Rattle.oxc_sourcemap_parts.specs.DecodedMap.{DecodedMap, decoded_map_of}
use Rattle.oxc_sourcemap_json.specs.Shape.{◌>>=◌}
use Rattle.oxc_sourcemap_join.specs.Joined.{joined, at_line, at_lines, at_positions}
use Rattle.oxc_sourcemap_json.specs.Sections.{Sections}
use Rattle.oxc_sourcemap_json.specs.JoinLimits.{is_map_within_limits}
use Rattle.oxc_sourcemap_json.specs.ReadMap.{ReadForm, plain, indexed, indexed_record, map_of_form}
use Rattle.oxc_sourcemap_json.specs.ReadMap.{form_of_text, read_map}
use Rattle.oxc_sourcemap_json.proofs.WellRead.{IsWellRead, sections_well, read_is_form}
use Rattle.oxc_sourcemap_plan.specs.Repeats.{is_sorted_decoded_map}
use Rattle.oxc_sourcemap_plan.specs.JoinedDecodedMaps.{joined_decoded_maps}
use Rattle.oxc_sourcemap_plan.specs.JoinLaws.{decoded_maps_of}
use Rattle.oxc_sourcemap_plan.specs.ComposedDecodedMaps.{composed_decoded_maps}
use Rattle.oxc_sourcemap_plan.specs.declared.plan.Plan.{Plan}
use Rattle.oxc_sourcemap_plan.specs.declared.plan.Plan.TheOpen.{Plan-F}
use Rattle.oxc_sourcemap_plan.specs.declared.plan.Plan.TheViews.{roll-Plan}
use Rattle.oxc_sourcemap_plan.specs.declared.plan.Plan.TheFolds.{fold-roll-Plan, map-Plan, ind-Plan}
use Rattle.oxc_sourcemap_plan.specs.Depth.{depth}
use Rattle.oxc_sourcemap_plan.specs.Limits.{is_join_within_limits}
use Rattle.oxc_sourcemap_plan.specs.Meaning.{Meaning, meaning, meaning_of, root_meaning}
use Rattle.oxc_sourcemap_plan.specs.Meaning.{onto_decoded_maps, all_decoded_maps, join_meaning}
use Rattle.oxc_sourcemap_plan.specs.Meaning.{composition_meaning, by_path, onto_inputs, all_inputs}
use Rattle.oxc_sourcemap_plan.specs.Meaning.{remap_meaning, simplified_meaning}
use Rattle.oxc_sourcemap_plan.specs.Outcome.{Outcome, form_outcome, sorted_form_outcome}
use Rattle.oxc_sourcemap_plan.specs.Outcome.{outcome_step}
use Rattle.oxc_sourcemap_plan.specs.Outcome.{outcome_of, too_deep, is_within_limits, meanings}
use Rattle.oxc_sourcemap_plan.specs.Outcome.{input_meanings, are_all_within_limits}
use Rattle.oxc_sourcemap_plan.specs.Outcome.{are_inputs_within_limits, names_of_sections}
use Rattle.oxc_sourcemap_plan.specs.Realizes.{IsRead, AreRead}
use Rattle.oxc_sourcemap_plan.proofs.KnownNames.{all-more}
use Rattle.oxc_sourcemap_plan.proofs.Realizing.{JoinLaws}
use Rattle.oxc_sourcemap_plan.proofs.Reading.{not-within}
use Rattle.oxc_sourcemap_plan.proofs.Meanings.{agrees}
use Rattle.oxc_sourcemap_tokens.specs.declared.errors.fault.FaultPlace.{FaultPlace}
use Rattle.oxc_sourcemap_plan.specs.PlanPlaces.{IsOfReading, texts_of, texts_step, Unread}
use Rattle.oxc_sourcemap_plan.specs.PlanPlaces.{unread_from, first_unread, IsPlaceOf}
use Rattle.oxc_sourcemap_plan.proofs.Unread.{unread-here, past-read}

-- ---- texts in front of others
-- the first of these that cannot be read has this error
abbrev IsFirst : Error → List Text → Type 0
IsFirst e texts = (k : ℕ) (more : List Text) → (u : Unread) × (unread_from k (texts ++ more) ≡ Some u) × (u.error ≡ e)

abbrev IsErrorIn : PlanError → List Text → Type 0
IsErrorIn (Map e) texts = IsOfReading e → IsFirst e texts
IsErrorIn Unsorted texts = ⊤
IsErrorIn TooDeep texts = ⊤

-- what is made of these texts: if it is a value, all can be read
abbrev Follows : {A : Type 0} → Result A PlanError → List Text → Type 0
Follows (Ok x) texts = AreRead texts
Follows (Err e) texts = IsErrorIn e texts

all-read : (xs ys : List Text) → AreRead xs → AreRead ys → AreRead (xs ++ ys)
all-read = all-more IsRead

in-front : (e : PlanError) (xs ys : List Text) → IsErrorIn e xs → IsErrorIn e (xs ++ ys)
in-front (Map e) xs ys h = λ r k more. let f = h r k (ys ++ more) in (f.0, ap (unread_from k) (append_assoc xs ys more) ∙ f.1, f.2)
in-front Unsorted xs ys h = tt
in-front TooDeep xs ys h = tt

behind : (e : PlanError) (xs ys : List Text) → AreRead xs → IsErrorIn e ys → IsErrorIn e (xs ++ ys)
behind (Map e) xs ys a h = λ r k more.
    let f = past-read xs (ys ++ more) a k in
    let g = h r f.0 more in
    (g.0, ap (unread_from k) (append_assoc xs ys more) ∙ f.1 ∙ g.1, g.2)
behind Unsorted xs ys a h = tt
behind TooDeep xs ys a h = tt

-- ---- steps
onto-follows : (m : Meaning) (place : Position) (rest : Result (List (DecodedMap × Position)) PlanError) (xs ys : List Text) → Follows m xs → Follows rest ys
    → Follows (onto_decoded_maps m place rest) (xs ++ ys)
onto-follows (Err e) place rest xs ys f g = in-front e xs ys f
onto-follows (Ok s) place (Err e) xs ys f g = behind e xs ys f g
onto-follows (Ok s) place (Ok others) xs ys f g = all-read xs ys f g

input-follows : (path : Text) (m : Meaning) (rest : Result (List (Text × DecodedMap)) PlanError) (xs ys : List Text) → Follows m xs → Follows rest ys
    → Follows (onto_inputs path m rest) (xs ++ ys)
input-follows path (Err e) rest xs ys f g = in-front e xs ys f
input-follows path (Ok s) (Err e) xs ys f g = behind e xs ys f g
input-follows path (Ok s) (Ok others) xs ys f g = all-read xs ys f g

join-follows : (r : Result (List (DecodedMap × Position)) PlanError) (texts : List Text) → Follows r texts → Follows (join_meaning r) texts
join-follows (Err e) texts f = f
join-follows (Ok maps) texts f =
    elim (is_sorted_decoded_map (joined_decoded_maps maps)) as (λ b. Follows (cond b (Ok (joined_decoded_maps maps)) (Err Unsorted)) texts) [ true ↦ f | false ↦ tt ]

root-follows : (m : Meaning) (texts : List Text) → Follows m texts → Follows (root_meaning m) texts
root-follows (Err e) texts f = f
root-follows (Ok s) texts f = f

simplified-follows : (m : Meaning) (texts : List Text) → Follows m texts → Follows (simplified_meaning m) texts
simplified-follows (Err e) texts f = f
simplified-follows (Ok s) texts f = f

composition-follows : (m n : Meaning) (xs ys : List Text) → Follows m xs → Follows n ys → Follows (composition_meaning m n) (xs ++ ys)
composition-follows (Err e) n xs ys f g = in-front e xs ys f
composition-follows (Ok s) (Err e) xs ys f g = behind e xs ys f g
composition-follows (Ok s) (Ok t) xs ys f g =
    elim (nat_lt 1 (length s.sources)) as (λ b. Follows (cond b (Err (Map (SeveralSources (length s.sources)))) (Ok (composed_decoded_maps s t))) (xs ++ ys)) [
      | true ↦ (λ r. absurd r)
      | false ↦ all-read xs ys f g
    ]

remap-follows : (m : Meaning) (inputs : Result (List (Text × DecodedMap)) PlanError) (xs ys : List Text) → Follows m xs → Follows inputs ys
    → Follows (remap_meaning m inputs) (xs ++ ys)
remap-follows (Err e) inputs xs ys f g = in-front e xs ys f
remap-follows (Ok s) (Err e) xs ys f g = behind e xs ys f g
remap-follows (Ok s) (Ok inputs) xs ys f g = all-read xs ys f g

-- ---- a text
-- the answer of reading a text that means this
abbrev IsReadAs : Meaning → Result MapRecord Error → Type 0
IsReadAs (Ok s) answer = (r : MapRecord) × (answer ≡ Ok r)
IsReadAs (Err (Map e)) answer = answer ≡ Err e
IsReadAs (Err Unsorted) answer = ⊤
IsReadAs (Err TooDeep) answer = ⊤

one-follows : (m : Meaning) (text : Text) → IsReadAs m (read_map text) → Follows m (text ∷ [])
one-follows (Ok s) text h = ((h.0, h.1), tt)
one-follows (Err (Map e)) text h = λ r k more. (record { number = k; text = text; error = e }, unread-here k text more e h, refl)
one-follows (Err Unsorted) text h = tt
one-follows (Err TooDeep) text h = tt

module _ (laws : JoinLaws) where
  within : (ms : List (MapRecord × Position)) → AllByRecursion (λ m. IsWellRead m.0) ms → is_join_within_limits (names_of_sections ms) (Ok (decoded_maps_of ms)) ≡ true
      → is_map_within_limits (joined ms) ≡ true
  within ms well w =
      elim (is_map_within_limits (joined ms)) as (λ b. is_map_within_limits (joined ms) ≡ b → b ≡ true) [
        | true ↦ (λ e. refl)
        | false ↦ (λ e. absurd (both_ways _ (not-within laws None ms well e) w))
      ] refl

  -- the map of an indexed map whose sections are within the limits
  form-indexed : (file : Option Text) (ms : List (MapRecord × Position)) (fault : Option Error) → is_map_within_limits (joined ms) ≡ true
      → map_of_form (indexed file (record { maps = ms; fault = fault })) ≡ (unless fault (Ok (joined ms)) >>= (λ r. Ok (indexed_record file r)))
  form-indexed file ms fault w = ap (λ b. cond b (unless fault (Ok (joined ms))) (Err TooLarge) >>= (λ r. Ok (indexed_record file r))) w

  indexed-read : (file : Option Text) (ms : List (MapRecord × Position)) (fault : Option Error) → AllByRecursion (λ m. IsWellRead m.0) ms
      → (form_outcome (indexed file (record { maps = ms; fault = fault }))).is_within_limits ≡ true
      → IsReadAs (form_outcome (indexed file (record { maps = ms; fault = fault }))).meaning (map_of_form (indexed file (record { maps = ms; fault = fault })))
  indexed-read file ms (Some e) well w = form-indexed file ms (Some e) (within ms well w)
  indexed-read file ms None well w =
      elim (is_sorted_decoded_map (joined_decoded_maps (decoded_maps_of ms)))
      as (λ b. IsReadAs (cond b (Ok (record (joined_decoded_maps (decoded_maps_of ms)) { file = file })) (Err Unsorted)) (map_of_form (indexed file (record { maps = ms; fault = None })))) [
        | true ↦ (indexed_record file (joined ms), form-indexed file ms None (within ms well w))
        | false ↦ tt
      ]

  sorted-indexed-read : (file : Option Text) (ms : List (MapRecord × Position)) (fault : Option Error) → AllByRecursion (λ m. IsWellRead m.0) ms
      → (sorted_form_outcome (indexed file (record { maps = ms; fault = fault }))).is_within_limits ≡ true
      → IsReadAs (sorted_form_outcome (indexed file (record { maps = ms; fault = fault }))).meaning (map_of_form (indexed file (record { maps = ms; fault = fault })))
  sorted-indexed-read file ms (Some e) well w = form-indexed file ms (Some e) (within ms well w)
  sorted-indexed-read file ms None well w = (indexed_record file (joined ms), form-indexed file ms None (within ms well w))

  form-read : (form : ReadForm) → ((file : Option Text) (found : Sections) → form ≡ indexed file found → AllByRecursion (λ m. IsWellRead m.0) found.maps)
      → (form_outcome form).is_within_limits ≡ true → IsReadAs (form_outcome form).meaning (map_of_form form)
  form-read (plain (Err e)) well w = refl
  form-read (plain (Ok r)) well w =
      elim (are_tokens_sorted r.tokens) as (λ b. IsReadAs (cond b (Ok (decoded_map_of r)) (Err Unsorted)) (Ok r)) [ true ↦ (r, refl) | false ↦ tt ]
  form-read (indexed file found) well w = indexed-read file found.maps found.fault (well file found refl) w

  form-sorted : (form : ReadForm) → ((file : Option Text) (found : Sections) → form ≡ indexed file found → AllByRecursion (λ m. IsWellRead m.0) found.maps)
      → (sorted_form_outcome form).is_within_limits ≡ true → IsReadAs (sorted_form_outcome form).meaning (map_of_form form)
  form-sorted (plain (Err e)) well w = refl
  form-sorted (plain (Ok r)) well w = (r, refl)
  form-sorted (indexed file found) well w = sorted-indexed-read file found.maps found.fault (well file found refl) w

  text-follows : (text : Text) → (form_outcome (form_of_text text)).is_within_limits ≡ true → Follows (form_outcome (form_of_text text)).meaning (text ∷ [])
  text-follows text w =
      one-follows _ text (subst (IsReadAs (form_outcome (form_of_text text)).meaning) (sym (read_is_form text)) (form-read (form_of_text text) (sections_well text) w))

  sorted-follows : (text : Text) → (sorted_form_outcome (form_of_text text)).is_within_limits ≡ true → Follows (sorted_form_outcome (form_of_text text)).meaning (text ∷ [])
  sorted-follows text w =
      one-follows _ text (subst (IsReadAs (sorted_form_outcome (form_of_text text)).meaning) (sym (read_is_form text)) (form-sorted (form_of_text text) (sections_well text) w))

  -- ---- a plan
  abbrev Holds : Plan → Type 0
  Holds plan = (outcome_of plan).is_within_limits ≡ true → Follows (outcome_of plan).meaning (texts_of plan)

  -- a part for which it holds
  abbrev Part : Type 0
  Part = (plan : Plan) × Holds plan

  lines-follow : (parts : List (Part × ℕ)) → are_all_within_limits (at_lines (map (λ (p : Plan × ℕ). (outcome_of p.0, p.1)) (map (λ (p : Part × ℕ). (p.0.0, p.1)) parts))) ≡ true
      → Follows (all_decoded_maps (meanings (at_lines (map (λ (p : Plan × ℕ). (outcome_of p.0, p.1)) (map (λ (p : Part × ℕ). (p.0.0, p.1)) parts)))))
      (flat_map (λ (p : List Text × ℕ). p.0) (map (λ (p : Plan × ℕ). (texts_of p.0, p.1)) (map (λ (p : Part × ℕ). (p.0.0, p.1)) parts)))
  lines-follow [] w = tt
  lines-follow (p ∷ parts) w =
      let ws = and_parts (outcome_of p.0.0).is_within_limits _ w in
      onto-follows _ (at_line p.1) _ (texts_of p.0.0) _ (p.0.1 ws.0) (lines-follow parts ws.1)

  positions-follow : (parts : List (Part × ℕ × ℕ)) → are_all_within_limits (at_positions (map (λ (p : Plan × ℕ × ℕ). (outcome_of p.0, p.1, p.2)) (map (λ (p : Part × ℕ × ℕ). (p.0.0, p.1, p.2)) parts))) ≡ true
      → Follows (all_decoded_maps (meanings (at_positions (map (λ (p : Plan × ℕ × ℕ). (outcome_of p.0, p.1, p.2)) (map (λ (p : Part × ℕ × ℕ). (p.0.0, p.1, p.2)) parts)))))
      (flat_map (λ (p : List Text × ℕ × ℕ). p.0) (map (λ (p : Plan × ℕ × ℕ). (texts_of p.0, p.1, p.2)) (map (λ (p : Part × ℕ × ℕ). (p.0.0, p.1, p.2)) parts)))
  positions-follow [] w = tt
  positions-follow (p ∷ parts) w =
      let ws = and_parts (outcome_of p.0.0).is_within_limits _ w in
      onto-follows _ (record { line = p.1; column = p.2 }) _ (texts_of p.0.0) _ (p.0.1 ws.0) (positions-follow parts ws.1)

  inputs-follow : (inputs : List (Bor Text × Part)) → are_inputs_within_limits (by_path (map (λ (p : Bor Text × Plan). (p.0, outcome_of p.1)) (map (λ (p : Bor Text × Part). (p.0, p.1.0)) inputs))) ≡ true
      → Follows (all_inputs (input_meanings (by_path (map (λ (p : Bor Text × Plan). (p.0, outcome_of p.1)) (map (λ (p : Bor Text × Part). (p.0, p.1.0)) inputs)))))
      (flat_map (λ (p : Bor Text × List Text). p.1) (map (λ (p : Bor Text × Plan). (p.0, texts_of p.1)) (map (λ (p : Bor Text × Part). (p.0, p.1.0)) inputs)))
  inputs-follow [] w = tt
  inputs-follow (p ∷ inputs) w =
      let ws = and_parts (outcome_of p.1.0).is_within_limits _ w in
      input-follows p.0.now _ _ (texts_of p.1.0) _ (p.1.1 ws.0) (inputs-follow inputs ws.1)

  step-follows : (y : Plan-F Part) → (outcome_step (map-Plan Plan Outcome outcome_of (map-Plan Part Plan (λ p. p.0) y))).is_within_limits ≡ true
      → Follows (outcome_step (map-Plan Plan Outcome outcome_of (map-Plan Part Plan (λ p. p.0) y))).meaning (texts_step (map-Plan Plan (List Text) texts_of (map-Plan Part Plan (λ p. p.0) y)))
  step-follows (Plan-F.Read text) w = text-follows text.now w
  step-follows (Plan-F.ReadSorted text) w = sorted-follows text.now w
  step-follows (Plan-F.Rewrite part) w = part.value.1 w
  step-follows (Plan-F.ApplyRoot part) w = root-follows _ _ (part.value.1 w)
  step-follows (Plan-F.Simplify part) w = simplified-follows _ _ (part.value.1 (and_parts _ _ w).0)
  step-follows (Plan-F.Join parts) w = join-follows _ _ (lines-follow parts.items (and_parts _ _ w).0)
  step-follows (Plan-F.JoinAt parts) w = join-follows _ _ (positions-follow parts.items (and_parts _ _ w).0)
  step-follows (Plan-F.Compose first second) w =
      let ws = and_parts (outcome_of first.value.0).is_within_limits (outcome_of second.value.0).is_within_limits (and_parts _ _ w).0 in
      composition-follows _ _ (texts_of first.value.0) (texts_of second.value.0) (first.value.1 ws.0) (second.value.1 ws.1)
  step-follows (Plan-F.Remap first inputs) w =
      let ws = and_parts (outcome_of first.value.0).is_within_limits _ (and_parts _ _ w).0 in
      remap-follows _ _ (texts_of first.value.0) _ (first.value.1 ws.0) (inputs-follow inputs.items ws.1)

  holds-by : (x : Plan-F Plan) → ((outcome_step (map-Plan Plan Outcome outcome_of x)).is_within_limits ≡ true
      → Follows (outcome_step (map-Plan Plan Outcome outcome_of x)).meaning (texts_step (map-Plan Plan (List Text) texts_of x))) → Holds (roll-Plan x)
  holds-by x h = λ w.
      let is = fold-roll-Plan Outcome outcome_step x in
      let texts = fold-roll-Plan (List Text) texts_step x in
      subst (λ (o : Outcome). Follows o.meaning (texts_of (roll-Plan x))) (sym is)
      (subst (λ ts. Follows (outcome_step (map-Plan Plan Outcome outcome_of x)).meaning ts) (sym texts)
      (h (sym (ap (λ (o : Outcome). o.is_within_limits) is) ∙ w)))

  holds : (plan : Plan) → Holds plan
  holds = ind-Plan Holds (λ x y is. subst (λ z. Holds (roll-Plan z)) is (holds-by (map-Plan Part Plan (λ p. p.0) y) (step-follows y)))

  no-more : (e : Error) (texts : List Text) → IsFirst e texts → (u : Unread) × (first_unread texts ≡ Some u) × (u.error ≡ e)
  no-more e texts f = let g = f 0 [] in (g.0, ap (unread_from 0) (sym (append-nil texts)) ∙ g.1, g.2)

  -- an error that a plan means within the limits, and that is one of reading, is that of the first text that cannot be read
  pub first_of_meant : (plan : Plan) (e : Error) → is_within_limits plan ≡ true → meaning plan ≡ Err (Map e) → IsOfReading e
      → (u : Unread) × (first_unread (texts_of plan) ≡ Some u) × (u.error ≡ e)
  first_of_meant plan e w m r =
      elim (nat_le (depth plan) 64) as (λ b. (cond b (outcome_of plan) (too_deep (outcome_of plan).texts)).is_within_limits ≡ true → cond b (meaning_of plan) (Err TooDeep) ≡ Err (Map e)
      → (u : Unread) × (first_unread (texts_of plan) ≡ Some u) × (u.error ≡ e)) [
        | true ↦ (λ w m. no-more e (texts_of plan) (subst (λ x. Follows x (texts_of plan)) (agrees plan ∙ m) (holds plan w) r))
        | false ↦ (λ w m. absurd (cc (m)))
      ] w m

  same-map : (e f : Error) → Map e ≡ Map f → e ≡ f
  same-map e f h = cc

  -- such an error has a place
  pub place_of_meant : (plan : Plan) (error : Error) (texts : List Text) (place : Option FaultPlace) → texts ≡ texts_of plan → IsPlaceOf texts error place
      → is_within_limits plan ≡ true → meaning plan ≡ Err (Map error) → (e : Error) → Map error ≡ Map e → IsOfReading e → is_some place ≡ true
  place_of_meant plan error texts (Some place) same is w m e h r = refl
  place_of_meant plan error texts None same is w m e h r =
      let found = first_of_meant plan error w m (subst IsOfReading (sym (same-map error e h)) r) in
      absurd (subst (λ o. IfSome o (λ u. u.error ≢ error)) (ap first_unread same ∙ found.1) is found.2)
