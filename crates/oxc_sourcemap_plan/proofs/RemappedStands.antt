-- Remapped maps: their order, their ids, their soundness, and the laws of decoded maps for them.
use Rattle.std.proofs.Common.{◌≡◌, refl, sym, ap, subst, ◌∙◌, ℕ, zero, suc, ◌+◌, ◌<◌, ◌≤◌, Bool}
use Rattle.std.proofs.Common.{◌&&◌, Ok, Err, true, false, cond, List, [], ◌∷◌, map, length, take}
use Rattle.std.proofs.Common.{slice_get, nat_lt, Option, Some, None, arith}
use Rattle.std.proofs.lemmas.Bool.Decides.{nat_tests}
use Rattle.std.proofs.lemmas.List.{length-append, length-map}
use Rattle.std.specs.List.{flat_map, AllByRecursion}
use Rattle.std.specs.Option.{IfSome, option_map, option_and_then, option_or}
use Rattle.oxc_sourcemap_tokens.specs.declared.errors.error.Error.{Error}
use Rattle.oxc_sourcemap_tokens.specs.declared.errors.error.Error.TheVariants.{TooLarge}
use Rattle.oxc_sourcemap_tokens.specs.declared.position.Position.{Position}
use Rattle.oxc_sourcemap_tokens.specs.Errors.{unless}
use Rattle.oxc_sourcemap_tokens.specs.Token.{TokenRecord}
use Rattle.oxc_sourcemap_parts.specs.DecodedMap.{DecodedSource, DecodedMap, sources_of, name_of}
use Rattle.oxc_sourcemap_parts.specs.DecodedMap.{original_at, decoded_map_of, mapping_of}
use Rattle.oxc_sourcemap_parts.specs.Record.{Text, MapRecord}
use Rattle.oxc_sourcemap_parts.specs.Sorted.{token_line, token_column, may_precede}
use Rattle.oxc_sourcemap_parts.specs.Sorted.{are_tokens_sorted}
use Rattle.oxc_sourcemap_parts.specs.Sound.{IsInRange, AreIdsInRange, IsSound}
use Rattle.oxc_sourcemap_parts.specs.Texts.{index_of}
use Rattle.oxc_sourcemap_join.specs.Joined.{joined}
use Rattle.oxc_sourcemap_steps.specs.Composed.{Target, composed}
use Rattle.oxc_sourcemap_steps.proofs.InheritedNames.{IsPlaced}
use Rattle.oxc_sourcemap_steps.specs.Blocks.{sources_by, sources_for, remapped_sources}
use Rattle.oxc_sourcemap_steps.specs.Blocks.{marked_sources, marked_for, ignored_from, unless_empty}
use Rattle.oxc_sourcemap_steps.specs.Inputs.{input_for, decoded_inputs, inputs_fault}
use Rattle.oxc_sourcemap_steps.specs.Remapped.{listed_sources, input_of, remap_targets, Original}
use Rattle.oxc_sourcemap_steps.specs.Remapped.{input_original, original_by, block_start}
use Rattle.oxc_sourcemap_steps.specs.Remapped.{original_at as original_in, original, needed_name}
use Rattle.oxc_sourcemap_steps.specs.Remapped.{token_to, remapped_token, remapped_names}
use Rattle.oxc_sourcemap_steps.specs.Remapped.{remapped_by, remapped, has_few, SomeRemapping}
use Rattle.oxc_sourcemap_steps.proofs.InputPlaces.{input_for-map}
use Rattle.oxc_sourcemap_steps.proofs.NeededNames.{all-needed}
use Rattle.oxc_sourcemap_plan.specs.Repeats.{decoded_map_without_repeats, EqualUpToRepeats}
use Rattle.oxc_sourcemap_plan.specs.JoinedDecodedMaps.{joined_decoded_maps}
use Rattle.oxc_sourcemap_plan.specs.JoinLaws.{AreAllInRange, AreIgnoreListsInRange, StandsFor}
use Rattle.oxc_sourcemap_plan.specs.JoinLaws.{decoded_maps_of}
use Rattle.oxc_sourcemap_plan.specs.ComposedDecodedMaps.{composed_decoded_maps}
use Rattle.oxc_sourcemap_plan.specs.ComposeLaws.{AreSourceIdsInRange, AreTokensInRange}
use Rattle.oxc_sourcemap_plan.specs.RemappedDecodedMaps.{remapped_decoded_map}
use Rattle.oxc_sourcemap_plan.specs.RemapLaws.{as_remapped, inputs_through, maps_through}
use Rattle.oxc_sourcemap_plan.specs.RemapLaws.{PointsInto, AreIgnoredInRange}
use Rattle.oxc_sourcemap_plan.specs.RemapLaws.{AreInputsEqualUpToRepeats, InputsStandFor}
use Rattle.oxc_sourcemap_plan.proofs.Compositions.{index-below, decoded_map_composed}
use Rattle.oxc_sourcemap_plan.proofs.IgnoredSources.{count_marked}
use Rattle.oxc_sourcemap_plan.proofs.JoinDecodedMaps.{length-sources_of, decoded_map_joined}
use Rattle.oxc_sourcemap_plan.proofs.Joins.{map_twice}
use Rattle.oxc_sourcemap_plan.proofs.JoinStands.{all_map}
use Rattle.oxc_sourcemap_plan.proofs.RemappedMaps.{remappings_associative, composition_remapped}
use Rattle.oxc_sourcemap_plan.proofs.RemappedMaps.{one_remapped, join_remapped}
use Rattle.oxc_sourcemap_plan.proofs.RemappedMaps.{remapped_up_to_repeats, map-self}
use Rattle.oxc_sourcemap_plan.proofs.RemappedRecords.{target, token-is-by, unmap-all}
use Rattle.oxc_sourcemap_plan.proofs.RemappedRecords.{tokens-remapped, decoded_map_remapped}

-- ---- order and counts
position-kept : (names : List Text) (t : TokenRecord) (o : Option Original) → ((token_to names t o).dst_line ≡ t.dst_line) × ((token_to names t o).dst_col ≡ t.dst_col)
position-kept names t None = (refl, refl)
position-kept names t (Some o) = (refl, refl)

-- for any targets
sorted-by : (a : MapRecord) (inputs : List (Text × MapRecord)) (names : List Text) (ls : List Target) → are_tokens_sorted (map (remapped_token inputs a names) ls) ≡ are_tokens_sorted (map (λ l. l.token) ls)
sorted-by a inputs names [] = refl
sorted-by a inputs names (l ∷ []) = refl
sorted-by a inputs names (l ∷ m ∷ ls) =
    let first = position-kept names l.token (original inputs a l) in
    let next = position-kept names m.token (original inputs a m) in
    let e : may_precede token_line token_column (remapped_token inputs a names l) (remapped_token inputs a names m) ≡ may_precede token_line token_column l.token m.token = rw (first.0, first.1, next.0, next.1) in
    ap (λ b. b && are_tokens_sorted (map (remapped_token inputs a names) (m ∷ ls))) e
    ∙ ap (λ b. may_precede token_line token_column l.token m.token && b) (sorted-by a inputs names (m ∷ ls))

pub sorted_remapped : (a : MapRecord) (inputs : List (Text × MapRecord)) → are_tokens_sorted (remapped a inputs).tokens ≡ are_tokens_sorted a.tokens
sorted_remapped a inputs =
    let tokens : map (λ l. l.token) (remap_targets a inputs) ≡ a.tokens =
    map_twice (target inputs a) (λ l. l.token) (λ t. t) (λ t. token-is-by inputs a (input_of inputs a t) t) a.tokens ∙ map-self (λ t. t) (λ t. refl) a.tokens in
    sorted-by a inputs (remapped a inputs).names (remap_targets a inputs) ∙ ap are_tokens_sorted tokens

pub counts_remapped : (a : MapRecord) (inputs : List (Text × MapRecord)) → (length (remapped a inputs).tokens ≡ length a.tokens) × (length (remapped a inputs).source_contents ≡ length (remapped a inputs).sources)
counts_remapped a inputs =
    let ss = remapped_sources (decoded_inputs inputs) (listed_sources a) in (
      ap length (tokens-remapped inputs a) ∙ length-map a.tokens _,
      length-map ss _ ∙ sym (length-map ss _),
    )

-- ---- ids
block-within : {A B : Type 0} (f : A → List B) (xs : List A) (i j : ℕ) (x : A) → slice_get xs i ≡ Some x → j < length (f x) → j + length (flat_map f (take i xs)) < length (flat_map f xs)
block-within f [] i j x e h = absurd (cc (e))
block-within f (y ∷ ys) zero j x e h =
    let same : y ≡ x = cc (e) in
    let n = length-append (f y) (flat_map f ys) in
    let k : j < length (f y) = subst (λ z. j < length (f z)) (sym same) h in
    omega (arith, n, k)
block-within f (y ∷ ys) (suc i) j x e h =
    let more = block-within f ys i j x e h in
    let n = length-append (f y) (flat_map f ys) in
    let m = length-append (f y) (flat_map f (take i ys)) in
    omega (arith, n, m, more)

module _ (a : MapRecord) (inputs : List (Text × MapRecord)) where
  abbrev sources : List DecodedSource
  sources = remapped_sources (decoded_inputs inputs) (listed_sources a)

  abbrev IsWithin : Option Original → Type 0
  IsWithin o = IfSome o (λ o. o.source_id < length sources)

  module _ (i : ℕ) (s : DecodedSource) (at : slice_get (listed_sources a) i ≡ Some s) where
    within-by : (b : MapRecord) → sources_for (decoded_inputs inputs) s ≡ listed_sources b → (id sl sc : ℕ) (name : Option Text) (c : Bool) → nat_lt id (length b.sources) ≡ c
        → IsWithin (cond c (Some (record { source_id = id + block_start inputs a i; src_line = sl; src_col = sc; name = name })) None)
    within-by b one id sl sc name true e =
        let count = length-sources_of b.sources b.source_contents in
        let below : id < length (listed_sources b) = grind (arith, nat_tests, e, count) in
        block-within (sources_for (decoded_inputs inputs)) (listed_sources a) i id s at (subst (λ xs. id < length xs) (sym one) below)
    within-by b one id sl sc name false e = tt

    within-id : (b : MapRecord) → sources_for (decoded_inputs inputs) s ≡ listed_sources b → (fl fc sl sc : ℕ) (so sn : Option ℕ) (name : Option Text)
        → IsWithin (input_original b (block_start inputs a i) name (record { dst_line = fl; dst_col = fc; src_line = sl; src_col = sc; source_id = so; name_id = sn }))
    within-id b one fl fc sl sc None sn name = tt
    within-id b one fl fc sl sc (Some id) sn name = within-by b one id sl sc (option_or (option_and_then (slice_get b.names) sn) name) (nat_lt id (length b.sources)) refl

    within-found : (b : MapRecord) → sources_for (decoded_inputs inputs) s ≡ listed_sources b → (name : Option Text) (o : Option TokenRecord)
        → IsWithin (option_and_then (input_original b (block_start inputs a i) name) o)
    within-found b one name None = tt
    within-found b one name (Some u) = within-id b one u.dst_line u.dst_col u.src_line u.src_col u.source_id u.name_id name

    within-input : (l : Target) (q : Option MapRecord) → input_for (decoded_inputs inputs) s.path ≡ option_map decoded_map_of q → IsWithin (original_by q (block_start inputs a i) a.names l)
    within-input l None e =
        let one : sources_for (decoded_inputs inputs) s ≡ s ∷ [] = ap (λ o. sources_by o s) e in
        let first = block-within (sources_for (decoded_inputs inputs)) (listed_sources a) i 0 s at (subst (λ xs. 0 < length xs) (sym one) (omega arith)) in
        omega (arith, first)
    within-input l (Some b) e = within-found b (ap (λ o. sources_by o s) e) (name_of a.names l.token) l.found

  within-source : (l : Target) (i : ℕ) (o : Option DecodedSource) → slice_get (listed_sources a) i ≡ o
      → IsWithin (option_and_then (λ s. original_by (input_for inputs s.path) (block_start inputs a i) a.names l) o)
  within-source l i None e = tt
  within-source l i (Some s) e = within-input i s e l (input_for inputs s.path) (input_for-map decoded_map_of inputs s.path)

  within-target : (l : Target) (id : Option ℕ) → IsWithin (option_and_then (original_in inputs a l) id)
  within-target l None = tt
  within-target l (Some i) = within-source l i (slice_get (listed_sources a) i) refl

  name-within : (names : List Text) (n : Option Text) → IsPlaced names n → IfSome (option_and_then (λ x. index_of x names) n) (λ id. id < length names)
  name-within names None p = tt
  name-within names (Some x) p = subst (λ o. IfSome o (λ id. id < length names)) (sym p.1) (index-below x names p.0 p.1)

  token-within : (names : List Text) (t : TokenRecord) (o : Option Original) → IsWithin o → IsPlaced names (needed_name o) → IsInRange (length names) (length sources) (token_to names t o)
  token-within names t None h p = record { source_id = tt; name_id = tt }
  token-within names t (Some o) h p = record { source_id = h; name_id = name-within names o.name p }

  below-by : (f : Bool) (i n : ℕ) (ids : List ℕ) → i < n → AllByRecursion (λ id. id < n) ids → AllByRecursion (λ id. id < n) (cond f (i ∷ ids) ids)
  below-by true i n ids h k = (h, k)
  below-by false i n ids h k = k

  ignored-below : (i n : ℕ) (ms : List (DecodedSource × Bool)) → i + length ms ≤ n → AllByRecursion (λ id. id < n) (ignored_from i ms)
  ignored-below i n [] h = tt
  ignored-below i n (m ∷ ms) h = below-by m.1 i n (ignored_from (i + 1) ms) (omega (arith, h)) (ignored-below (i + 1) n ms (omega (arith, h)))

  list-below : (n : ℕ) (ids : List ℕ) → AllByRecursion (λ id. id < n) ids → IfSome (unless_empty ids) (AllByRecursion (λ id. id < n))
  list-below n [] h = tt
  list-below n (id ∷ ids) h = h

  -- for any targets
  range-by : (ls : List Target) → AreIdsInRange (remapped_by ls a inputs)
  range-by ls =
      let names = remapped_names ls a inputs in
      let ms = flat_map (marked_for (decoded_inputs inputs)) (marked_sources (decoded_map_of a)) in
      let count = count_marked (decoded_inputs inputs) (decoded_map_of a) in
      let n : length (map (λ s. s.path) sources) ≡ length sources = length-map sources (λ s. s.path) in
      let placed = unmap-all (λ o. IsPlaced names (needed_name o)) (original inputs a) ls (all-needed (map (original inputs a) ls)) in
      record {
        tokens = subst (λ n. AllByRecursion (IsInRange (length names) n) (map (remapped_token inputs a names) ls)) (sym n)
            (all_map _ _ (remapped_token inputs a names) (λ l p. token-within names l.token (original inputs a l) (within-target l l.token.source_id) p) ls placed);
        ignore_list = list-below (length (map (λ s. s.path) sources)) (ignored_from 0 ms) (ignored-below 0 (length (map (λ s. s.path) sources)) ms (omega (arith, count, n)));
      }

  pub range_remapped : AreIdsInRange (remapped a inputs)
  range_remapped = range-by (remap_targets a inputs)

  pub sound_remapped : IsSound a → IsSound (remapped a inputs)
  sound_remapped h = record { sorted = sorted_remapped a inputs ∙ h.sorted; in_range = range_remapped; chunks = tt }

  made : (fault : Option Error) (few : Bool) (r m : MapRecord) → unless fault (cond few (Ok r) (Err TooLarge)) ≡ Ok m → r ≡ m
  made (Some f) few r m e = absurd (cc (e))
  made None true r m e = cc (e)
  made None false r m e = absurd (cc (e))

  -- any result of the remapping
  abbrev SoundAs : MapRecord → Type 0
  SoundAs m = AreIdsInRange m × (are_tokens_sorted m.tokens ≡ are_tokens_sorted a.tokens) × (IsSound a → IsSound m)

  pub some_remapped : (m : MapRecord) → SomeRemapping a inputs (Ok m) → SoundAs m
  some_remapped m some =
      let ls = some.0 in
      let is : remapped_by ls a inputs ≡ m = made (inputs_fault inputs) (has_few (remapped_by ls a inputs)) (remapped_by ls a inputs) m some.2 in
      let order : are_tokens_sorted (remapped_by ls a inputs).tokens ≡ are_tokens_sorted a.tokens =
      sorted-by a inputs (remapped_names ls a inputs) ls ∙ ap are_tokens_sorted some.1.0 in
      let sound : IsSound a → IsSound (remapped_by ls a inputs) = λ h. record { sorted = order ∙ h.sorted; in_range = range-by ls; chunks = tt } in
      subst SoundAs is (range-by ls, order, sound)

-- ---- maps that stand for decoded maps
inputs-stand : (inputs : List (Text × MapRecord)) (ss : List (Text × DecodedMap)) → InputsStandFor inputs ss → AreInputsEqualUpToRepeats (decoded_inputs inputs) ss
inputs-stand [] [] h = h
inputs-stand [] (s ∷ ss) h = h
inputs-stand (b ∷ inputs) [] h = h
inputs-stand (b ∷ inputs) (s ∷ ss) h = ((h.0.0, h.0.1.up_to_repeats), inputs-stand inputs ss h.1)

pub remapping_stands : (a : MapRecord) (inputs : List (Text × MapRecord)) (s : DecodedMap) (ss : List (Text × DecodedMap)) → StandsFor a s → InputsStandFor inputs ss → StandsFor (remapped a inputs) (remapped_decoded_map s ss)
remapping_stands a inputs s ss h k = record {
  sound = sound_remapped a inputs h.sound;
  up_to_repeats = ap decoded_map_without_repeats (decoded_map_remapped a inputs) ∙ remapped_up_to_repeats (decoded_map_of a) s (decoded_inputs inputs) ss h.up_to_repeats (inputs-stand inputs ss k);
}

-- ---- the laws of decoded maps, for maps
inputs-through : (bs cs : List (Text × MapRecord)) → decoded_inputs (maps_through bs cs) ≡ inputs_through (decoded_inputs bs) (decoded_inputs cs)
inputs-through [] cs = refl
inputs-through (b ∷ bs) cs =
    ap (λ s. (b.0, s) ∷ decoded_inputs (maps_through bs cs)) (decoded_map_remapped b.1 cs)
    ∙ ap (λ ss. (b.0, remapped_decoded_map (decoded_map_of b.1) (decoded_inputs cs)) ∷ ss) (inputs-through bs cs)

pub maps_associative : (a : MapRecord) (bs cs : List (Text × MapRecord)) → decoded_map_of (remapped (remapped a bs) cs) ≡ decoded_map_of (remapped a (maps_through bs cs))
maps_associative a bs cs =
    decoded_map_remapped (remapped a bs) cs
    ∙ ap (λ s. remapped_decoded_map s (decoded_inputs cs)) (decoded_map_remapped a bs)
    ∙ remappings_associative (decoded_inputs bs) (decoded_inputs cs) (decoded_map_of a)
    ∙ ap (remapped_decoded_map (decoded_map_of a)) (sym (inputs-through bs cs))
    ∙ sym (decoded_map_remapped a (maps_through bs cs))

ignored-in-range : (ms : List (MapRecord × Position)) → AreIgnoreListsInRange ms → AreIgnoredInRange (decoded_maps_of ms)
ignored-in-range [] h = tt
ignored-in-range (m ∷ ms) h =
    (subst (λ n. IfSome m.0.ignore_list (AllByRecursion (λ id. id < n))) (sym (length-sources_of m.0.sources m.0.source_contents)) h.0, ignored-in-range ms h.1)

module _ (inputs : List (Text × MapRecord)) where
  abbrev each : List (MapRecord × Position) → List (MapRecord × Position)
  each ms = map (λ m. (remapped m.0 inputs, m.1)) ms

  each-in_range : (ms : List (MapRecord × Position)) → AreAllInRange (each ms)
  each-in_range [] = tt
  each-in_range (m ∷ ms) = ((range_remapped m.0 inputs).tokens, each-in_range ms)

  each-decoded : (ms : List (MapRecord × Position)) → decoded_maps_of (each ms) ≡ map (λ s. (remapped_decoded_map s.0 (decoded_inputs inputs), s.1)) (decoded_maps_of ms)
  each-decoded [] = refl
  each-decoded (m ∷ ms) =
      ap (λ s. (s, m.1) ∷ decoded_maps_of (each ms)) (decoded_map_remapped m.0 inputs)
      ∙ ap (λ ss. (remapped_decoded_map (decoded_map_of m.0) (decoded_inputs inputs), m.1) ∷ ss) (each-decoded ms)

  same-inputs : (ss : List (Text × DecodedMap)) → AreInputsEqualUpToRepeats ss ss
  same-inputs [] = tt
  same-inputs (s ∷ ss) = ((refl, refl), same-inputs ss)

  pub joined_maps_remapped : (ms : List (MapRecord × Position)) → AreAllInRange ms → AreIgnoreListsInRange ms → EqualUpToRepeats (decoded_map_of (remapped (joined ms) inputs)) (decoded_map_of (joined (each ms)))
  joined_maps_remapped ms h k =
      let others = decoded_inputs inputs in
      ap decoded_map_without_repeats (decoded_map_remapped (joined ms) inputs)
      ∙ remapped_up_to_repeats (decoded_map_of (joined ms)) (joined_decoded_maps (decoded_maps_of ms)) others others (decoded_map_joined ms h) (same-inputs others)
      ∙ ap decoded_map_without_repeats (join_remapped others (decoded_maps_of ms) (ignored-in-range ms k) ∙ ap joined_decoded_maps (sym (each-decoded ms)))
      ∙ sym (decoded_map_joined (each ms) (each-in_range ms))

pub composed_maps_remapped : (m a : MapRecord) (inputs : List (Text × MapRecord)) → AreSourceIdsInRange m → AreTokensInRange a → decoded_map_of (composed m (remapped a inputs)) ≡ decoded_map_of (remapped (composed m a) inputs)
composed_maps_remapped m a inputs h k =
    decoded_map_composed m (remapped a inputs) h (range_remapped a inputs).tokens
    ∙ ap (composed_decoded_maps (decoded_map_of m)) (decoded_map_remapped a inputs)
    ∙ composition_remapped (decoded_map_of m) (decoded_map_of a) (decoded_inputs inputs)
    ∙ ap (λ s. remapped_decoded_map s (decoded_inputs inputs)) (sym (decoded_map_composed m a h k))
    ∙ sym (decoded_map_remapped (composed m a) inputs)

-- one source with its content
one-listed : (path : Text) (cs : List (Option Text)) → (s : DecodedSource) × (sources_of (path ∷ []) cs ≡ s ∷ []) × (s.path ≡ path)
one-listed path [] = (record { path = path; content = None }, refl, refl)
one-listed path (c ∷ cs) = (record { path = path; content = c }, refl, refl)

into-one : (s : DecodedSource) (names : List Text) (t : TokenRecord) (id : Option ℕ) → IfSome (option_map (original_at names t) (option_and_then (slice_get (s ∷ [])) id)) (λ o. o.source.path ≡ s.path)
into-one s names t None = tt
into-one s names t (Some zero) = refl
into-one s names t (Some (suc i)) = tt

points-into : (s : DecodedSource) (names : List Text) (ts : List TokenRecord) → AllByRecursion (λ e. IfSome e.original (λ o. o.source.path ≡ s.path)) (map (mapping_of (s ∷ []) names) ts)
points-into s names [] = tt
points-into s names (t ∷ ts) = (into-one s names t t.source_id, points-into s names ts)

pub one_map_remapped : (a b : MapRecord) (path : Text) (others : List (Text × MapRecord)) → a.sources ≡ path ∷ [] → AreSourceIdsInRange a → AreTokensInRange b
    → decoded_map_of (remapped a ((path, b) ∷ others)) ≡ as_remapped (decoded_map_of (composed a b))
one_map_remapped a b path others e h k =
    let one = one-listed path a.source_contents in
    let listed : listed_sources a ≡ one.0 ∷ [] = ap (λ ps. sources_of ps a.source_contents) e ∙ one.1 in
    let into : PointsInto one.0.path (decoded_map_of a) =
    subst (λ (ss : List DecodedSource). AllByRecursion (λ e. IfSome e.original (λ o. o.source.path ≡ one.0.path)) (map (mapping_of ss a.names) a.tokens)) (sym listed) (points-into one.0 a.names a.tokens) in
    decoded_map_remapped a ((path, b) ∷ others)
    ∙ ap (λ p. remapped_decoded_map (decoded_map_of a) ((p, decoded_map_of b) ∷ decoded_inputs others)) (sym one.2)
    ∙ one_remapped (decoded_map_of a) (decoded_map_of b) one.0 (decoded_inputs others) listed into
    ∙ ap as_remapped (sym (decoded_map_composed a b h k))
