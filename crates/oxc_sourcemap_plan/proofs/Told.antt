-- A fault of an evaluation tells the text that it comes from, or comes from none.
use Rattle.std.proofs.Common.{◌≡◌, ◌≢◌, ℕ, ◌+◌, ◌<◌, Bool, true, false, cond, nat_lt, List, [], ◌∷◌}
use Rattle.std.proofs.Common.{◌++◌, map, length, take, drop, get_or, refl, sym, ap, ◌∙◌, subst, inl}
use Rattle.std.proofs.Common.{inr, Option, Some, None, Result, Ok, Err, IsSomeAnd, is_some}
use Rattle.std.proofs.Common.{option_map, append_assoc}
use Rattle.std.specs.Option.{MatchOption}
use Rattle.std.specs.Result.{IfErr, IsErrAnd}
use Rattle.std.specs.Borrow.{Bor}
use Rattle.std.proofs.lemmas.Bool.{and_left, and_right}
use Rattle.std.proofs.lemmas.Grind.{flat_map-append}
use Rattle.std.proofs.lemmas.List.{map-append, append-nil}
use Rattle.oxc_sourcemap_tokens.specs.declared.errors.error.Error.{Error}
use Rattle.oxc_sourcemap_tokens.specs.declared.errors.error.Error.TheVariants.{OutOfMemory}
use Rattle.oxc_sourcemap_tokens.specs.declared.errors.error.Error.TheVariants.{SeveralSources}
use Rattle.oxc_sourcemap_tokens.specs.declared.errors.error.Error.TheVariants.{TooLarge}
use Rattle.oxc_sourcemap_tokens.specs.declared.errors.fault.Fault.{Fault}
use Rattle.oxc_sourcemap_tokens.specs.declared.errors.fault.FaultPlace.{FaultPlace}
use Rattle.oxc_sourcemap_tokens.specs.declared.errors.plan_error.PlanError.{PlanError}
use Rattle.oxc_sourcemap_tokens.specs.declared.errors.plan_error.PlanError.TheVariants.{Map}
use Rattle.oxc_sourcemap_tokens.specs.declared.errors.plan_error.PlanError.TheVariants.{Unsorted}
use Rattle.oxc_sourcemap_tokens.specs.declared.position.Position.{Position}
use Rattle.oxc_sourcemap_parts.specs.Record.{Text, MapRecord}
use Rattle.oxc_sourcemap_parts.specs.DecodedMap.{DecodedMap}
use Rattle.serde_json.specs.Data.{Data}
use Rattle.serde_json.specs.Read.{read}
use Rattle.oxc_sourcemap_json.specs.ReadMap.{read_map}
use Rattle.oxc_sourcemap_json.specs.ValuePlaces.{value_place, IsBytePlace, IsPlacedIn}
use Rattle.oxc_sourcemap_plan.specs.Repeats.{is_sorted_decoded_map}
use Rattle.oxc_sourcemap_plan.specs.JoinedDecodedMaps.{joined_decoded_maps}
use Rattle.oxc_sourcemap_plan.specs.ComposedDecodedMaps.{composed_decoded_maps}
use Rattle.oxc_sourcemap_plan.specs.declared.plan.Plan.{Plan}
use Rattle.oxc_sourcemap_plan.specs.declared.fault.PlanFault.{PlanFault}
use Rattle.oxc_sourcemap_plan.specs.Meaning.{root_meaning, simplified_meaning, join_meaning}
use Rattle.oxc_sourcemap_plan.specs.Meaning.{composition_meaning, remap_meaning, all_decoded_maps}
use Rattle.oxc_sourcemap_plan.specs.Meaning.{onto_decoded_maps, all_inputs, onto_inputs, by_path}
use Rattle.oxc_sourcemap_plan.specs.Outcome.{Outcome, rewrite_outcome, root_outcome, outcome_of}
use Rattle.oxc_sourcemap_plan.specs.Outcome.{texts_of_all, input_texts}
use Rattle.oxc_sourcemap_plan.specs.Outcome.{simplified_outcome, join_outcome, meanings, outcomes}
use Rattle.oxc_sourcemap_plan.specs.Outcome.{composition_outcome, remap_outcome, input_meanings}
use Rattle.oxc_sourcemap_plan.specs.Outcome.{are_all_within_limits, are_inputs_within_limits}
use Rattle.oxc_sourcemap_plan.specs.Outcome.{input_outcomes}
use Rattle.oxc_sourcemap_plan.specs.PlanPlaces.{IsOfReading, IsOfNoText, IsTextFault, IsTextPlace}
use Rattle.oxc_sourcemap_plan.specs.PlanPlaces.{IsTold}
use Rattle.oxc_sourcemap_plan.specs.Realizes.{Realizes, FailsAs, AllRealize, InputsRealize}
use Rattle.oxc_sourcemap_plan.specs.Realizes.{IsRead, AreRead}
use Rattle.oxc_sourcemap_plan.proofs.KnownNames.{all-more}
use Rattle.oxc_sourcemap_plan.proofs.Parts.{around, input_at, outcomes-of}
use Rattle.oxc_sourcemap_plan.proofs.Realizing.{no-room-part, texts-read}
use Rattle.oxc_sourcemap_plan.proofs.Remapping.{no-room-input, inputs-read}
use Rattle.oxc_sourcemap_plan.proofs.Unread.{unread-here, fault-among}

-- ---- a fault that is handed on
-- A part of a whole: the texts in front of its own can be read, and if it is not within the limits, neither is the whole.
pub record IsPart (part whole : Outcome) : Type 0 where
  front : List Text
  rest : List Text
  texts : whole.texts ≡ front ++ (part.texts ++ rest)
  read : AreRead front
  limits : part.is_within_limits ≡ false → whole.is_within_limits ≡ false

told-at : (part whole : Outcome) (e : PlanError) (at : Option (Bor Text × FaultPlace)) → IsPart part whole
    → MatchOption at (IsOfNoText part.is_within_limits e) (λ x. IsTextFault part.texts e x.0.now x.1)
    → MatchOption at (IsOfNoText whole.is_within_limits e) (λ x. IsTextFault whole.texts e x.0.now x.1)
told-at part whole e None p told = λ f is reads. let large = told f is reads in (large.0, p.limits large.1)
told-at part whole e (Some x) p told = subst (λ texts. IsTextFault texts e x.0.now x.1) (sym p.texts) (fault-among p.front part.texts p.rest e x.0.now x.1 p.read told)

-- by a `?`
pub told_on : {A : Type 0} (part whole : Outcome) (r : Result A PlanFault) (f : PlanFault) → IsErrAnd r (λ g. g ≡ f) → IsPart part whole → IsTold part f → IfErr r (IsTold whole)
told_on part whole (Ok x) f is p told = tt
told_on part whole (Err g) f is p told = subst (IsTold whole) (sym is) (λ other. told-at part whole f.error f.at p (told other))

-- the part of a step that has one part
pub only_part : (part whole : Outcome) → whole.texts ≡ part.texts → (part.is_within_limits ≡ false → whole.is_within_limits ≡ false) → IsPart part whole
only_part part whole same limits = record { front = []; rest = []; texts = same ∙ sym (append-nil part.texts); read = tt; limits = limits }

pub simplified_part : (o : Outcome) → IsPart o (simplified_outcome o)
simplified_part o = only_part o (simplified_outcome o) refl (λ w. and_left _ _ w)

pub first_part : (p q : Outcome) → IsPart p (composition_outcome p q)
first_part p q = record { front = []; rest = q.texts; texts = refl; read = tt; limits = λ w. and_left _ _ (and_left _ _ w) }

pub second_part : (a : MapRecord) (p q : Outcome) → Realizes a p → IsPart q (composition_outcome p q)
second_part a p q g = record {
  front = p.texts;
  rest = [];
  texts = ap (λ texts. p.texts ++ texts) (sym (append-nil q.texts));
  read = g.texts;
  limits = λ w. and_left _ _ (and_right _ _ w);
}

pub remapped_part : (p : Outcome) (os : List (Text × Outcome)) → IsPart p (remap_outcome p os)
remapped_part p os = record { front = []; rest = input_texts os; texts = refl; read = tt; limits = λ w. and_left _ _ (and_left _ _ w) }

-- the part of a join that is at this index
pub joined_part : {A : Type 0} (part_at : A → Plan × Position) (ms : List (MapRecord × Position)) (ps : List A) (i : ℕ) (p : A) → i < length ps → p ≡ get_or ps i p
    → AllRealize ms (outcomes (map part_at (take i ps))) → IsPart (outcome_of (part_at p).0) (join_outcome (outcomes (map part_at ps)))
joined_part part_at ms ps i p l q h =
    let os = outcomes (map part_at (take i ps)) in
    let rest = outcomes (map part_at (drop (i + 1) ps)) in
    let o = outcome_of (part_at p).0 in
    let cut : outcomes (map part_at ps) ≡ os ++ (o, (part_at p).1) ∷ rest =
    ap outcomes (ap (map part_at) (around ps i p l q) ∙ map-append part_at (take i ps) (p ∷ drop (i + 1) ps))
    ∙ map-append (λ (p : Plan × Position). (outcome_of p.0, p.1)) (map part_at (take i ps)) (part_at p ∷ map part_at (drop (i + 1) ps)) in
    record {
      front = texts_of_all os;
      rest = texts_of_all rest;
      texts = ap texts_of_all cut ∙ flat_map-append (λ (p : Outcome × Position). p.0.texts) os ((o, (part_at p).1) ∷ rest);
      read = texts-read ms os h;
      limits = λ w. and_left _ _ (ap are_all_within_limits cut ∙ no-room-part os rest o (part_at p).1 w);
    }

pub input_part : (first : Outcome) (a : MapRecord) (ms : List (Text × MapRecord)) (ps : List (Bor Text × Plan)) (i : ℕ) (p : Bor Text × Plan) → i < length ps → p ≡ get_or ps i p
    → Realizes a first → InputsRealize ms (input_outcomes (by_path (take i ps))) → IsPart (outcome_of p.1) (remap_outcome first (input_outcomes (by_path ps)))
input_part first a ms ps i p l q g h =
    let os = map input_at (take i ps) in
    let rest = map input_at (drop (i + 1) ps) in
    let cut : input_outcomes (by_path ps) ≡ os ++ input_at p ∷ rest =
    outcomes-of ps ∙ ap (map input_at) (around ps i p l q) ∙ map-append input_at (take i ps) (p ∷ drop (i + 1) ps) in
    let read = subst (InputsRealize ms) (outcomes-of (take i ps)) h in
    record {
      front = first.texts ++ input_texts os;
      rest = input_texts rest;
      texts = ap (λ xs. first.texts ++ input_texts xs) cut
          ∙ ap (λ xs. first.texts ++ xs) (flat_map-append (λ (p : Text × Outcome). p.1.texts) os (input_at p ∷ rest))
          ∙ sym (append_assoc first.texts (input_texts os) ((outcome_of p.1).texts ++ input_texts rest));
      read = all-more IsRead first.texts (input_texts os) g.texts (inputs-read ms os read);
      limits = λ w. and_left _ _ (and_right _ _ (ap are_inputs_within_limits cut ∙ no-room-input os rest (input_at p) w));
    }

-- ---- a text that cannot be read
pub text_place : (text : Text) (place : Option FaultPlace) → ((d : Data) → read text ≡ Some d → value_place d ≡ place) → (read text ≡ None → IsSomeAnd place (IsBytePlace text)) → is_some place ≡ true
    → IsSomeAnd place (IsTextPlace text)
text_place text None json bad there = absurd (cc (there))
text_place text (Some p) json bad there = (json, bad)

told-by : (w : Bool) (text : Bor Text) (e : Error) (place : Option FaultPlace) → read_map text.now ≡ Err e → IsSomeAnd place (IsTextPlace text.now)
    → MatchOption {T = Bor Text × FaultPlace} (option_map (λ p. (text, p)) place) (IsOfNoText w (Map e)) (λ x. IsTextFault (text.now ∷ []) (Map e) x.0.now x.1)
told-by w text e None reads there = absurd there
told-by w text e (Some p) reads there =
    subst (λ o. IsSomeAnd o (λ u. (u.text ≡ text.now) × (Map e ≡ Map u.error) × IsTextPlace text.now p)) (sym (unread-here 0 text.now [] e reads)) (refl, refl, there)

pub text_told : (o : Outcome) (text : Bor Text) (f : Fault) (g : PlanFault) → o.texts ≡ text.now ∷ [] → g.error ≡ Map f.error → g.at ≡ option_map (λ p. (text, p)) f.place
    → (f.error ≢ OutOfMemory → read_map text.now ≡ Err f.error) → IsPlacedIn text.now f → IsTold o g
text_told o text f g texts error at reads placed = λ other.
    let not : f.error ≢ OutOfMemory = λ memory. other (error ∙ ap (λ e. Map e) memory) in
    let told = placed not in
    subst (λ x. MatchOption x (IsOfNoText o.is_within_limits g.error) (λ x. IsTextFault o.texts g.error x.0.now x.1)) (sym at)
    (subst (λ e. MatchOption {T = Bor Text × FaultPlace} (option_map (λ p. (text, p)) f.place) (IsOfNoText o.is_within_limits e) (λ x. IsTextFault o.texts e x.0.now x.1)) (sym error)
    (subst (λ texts. MatchOption {T = Bor Text × FaultPlace} (option_map (λ p. (text, p)) f.place) (IsOfNoText o.is_within_limits (Map f.error)) (λ x. IsTextFault texts (Map f.error) x.0.now x.1)) (sym texts)
    (told-by o.is_within_limits text f.error f.place (reads not) (text_place text.now f.place told.0 told.1 told.2))))

-- ---- a step that fails by itself
-- what is meant is no error that reading can have
abbrev MeansNoText : Outcome → Type 0
MeansNoText o = (e : Error) → o.meaning ≡ Err (Map e) → ¬ (IsOfReading e)

same-error : (e f : Error) → Map e ≡ Map f → e ≡ f
same-error e f h = cc

no-text : (o : Outcome) (e : PlanError) → FailsAs e o → MeansNoText o → IsTold o (record { error = e; at = None })
no-text o e fails means = λ other x is reads. elim fails [
  | inl memory ↦ absurd (other memory)
  | inr told ↦ elim told [
    | inl meant ↦ absurd (means x (meant ∙ ap (λ y. Err y) is) reads)
    | inr large ↦ (same-error x TooLarge (sym is ∙ large.0), large.1)
  ]
]

-- the error of a step by a `?`
pub step_told : {A : Type 0} (o : Outcome) (r : Result A PlanFault) (e : PlanError) → IsErrAnd r (λ g. g ≡ record { error = e; at = None }) → FailsAs e o → MeansNoText o
    → IfErr r (IsTold o)
step_told o (Ok x) e is fails means = tt
step_told o (Err g) e is fails means = subst (IsTold o) (sym is) (no-text o e fails means)

no-err : (d : DecodedMap) (e : Error) → ◌≡◌ {A = Result DecodedMap PlanError} (Ok d) (Err (Map e)) → ⊥
no-err d e h = cc (h)

ok-means : (o : Outcome) (d : DecodedMap) → o.meaning ≡ Ok d → MeansNoText o
ok-means o d is = λ e h reads. no-err d e (sym is ∙ h)

pub rewritten_means : (m : MapRecord) (o : Outcome) → Realizes m o → MeansNoText (rewrite_outcome o)
rewritten_means m o g = ok-means (rewrite_outcome o) g.decoded_map g.means

pub rooted_means : (m : MapRecord) (o : Outcome) → Realizes m o → MeansNoText (root_outcome o)
rooted_means m o g = λ e h reads. cc (sym (ap root_meaning g.means) ∙ h)

pub simplified_means : (m : MapRecord) (o : Outcome) → Realizes m o → MeansNoText (simplified_outcome o)
simplified_means m o g = λ e h reads. cc (sym (ap simplified_meaning g.means) ∙ h)

pub composed_means : (a b : MapRecord) (p q : Outcome) → Realizes a p → Realizes b q → MeansNoText (composition_outcome p q)
composed_means a b p q g k = λ e h reads.
    let s = g.decoded_map in let t = k.decoded_map in
    let is = ap (λ x. composition_meaning x q.meaning) g.means ∙ ap (composition_meaning (Ok s)) k.means in
    elim (nat_lt 1 (length s.sources)) as (λ b. cond b (Err (Map (SeveralSources (length s.sources)))) (Ok (composed_decoded_maps s t)) ≡ Err (Map e) → ⊥) [
      | true ↦ (λ h. let same : SeveralSources (length s.sources) ≡ e = cc (h) in subst IsOfReading (sym same) reads)
      | false ↦ (λ h. cc (h))
    ] (sym is ∙ h)

part-maps : (ms : List (MapRecord × Position)) (os : List (Outcome × Position)) → AllRealize ms os → (ds : List (DecodedMap × Position)) × (all_decoded_maps (meanings os) ≡ Ok ds)
part-maps [] [] h = ([], refl)
part-maps [] (o ∷ os) h = absurd h
part-maps (m ∷ ms) [] h = absurd h
part-maps (m ∷ ms) (o ∷ os) h =
    let g = h.0.0 in let more = part-maps ms os h.1 in (
      (g.decoded_map, o.1) ∷ more.0,
      ap (λ r. onto_decoded_maps r o.1 (all_decoded_maps (meanings os))) g.means ∙ ap (onto_decoded_maps (Ok g.decoded_map) o.1) more.1,
    )

pub joined_means : (ms : List (MapRecord × Position)) (os : List (Outcome × Position)) → AllRealize ms os → MeansNoText (join_outcome os)
joined_means ms os h = λ e k reads.
    let maps = part-maps ms os h in
    elim (is_sorted_decoded_map (joined_decoded_maps maps.0)) as (λ b. cond b (Ok (joined_decoded_maps maps.0)) (Err Unsorted) ≡ Err (Map e) → ⊥) [
      | true ↦ (λ h. cc (h))
      | false ↦ (λ h. cc (h))
    ] (sym (ap join_meaning maps.1) ∙ k)

input-maps : (ms : List (Text × MapRecord)) (os : List (Text × Outcome)) → InputsRealize ms os → (ds : List (Text × DecodedMap)) × (all_inputs (input_meanings os) ≡ Ok ds)
input-maps [] [] h = ([], refl)
input-maps [] (o ∷ os) h = absurd h
input-maps (m ∷ ms) [] h = absurd h
input-maps (m ∷ ms) (o ∷ os) h =
    let g = h.0.1 in let more = input-maps ms os h.1 in (
      (o.0, g.decoded_map) ∷ more.0,
      ap (λ r. onto_inputs o.0 r (all_inputs (input_meanings os))) g.means ∙ ap (onto_inputs o.0 (Ok g.decoded_map)) more.1,
    )

pub remapped_means : (a : MapRecord) (ms : List (Text × MapRecord)) (p : Outcome) (os : List (Text × Outcome)) → Realizes a p → InputsRealize ms os → MeansNoText (remap_outcome p os)
remapped_means a ms p os g h = λ e k reads.
    let maps = input-maps ms os h in
    cc (sym (ap (λ x. remap_meaning x (all_inputs (input_meanings os))) g.means ∙ ap (remap_meaning (Ok g.decoded_map)) maps.1) ∙ k)
