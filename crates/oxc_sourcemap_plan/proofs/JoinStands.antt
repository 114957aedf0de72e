-- The ids of a join, its order, its soundness, and how much it has.
use Rattle.std.proofs.Common.{◌≡◌, ℕ, ◌+◌, ◌<◌, ◌≤◌, true, List, [], ◌∷◌, ◌++◌, map, length, refl}
use Rattle.std.proofs.Common.{sym, ap, ◌∙◌, subst, arith, Option, Some, None}
use Rattle.std.specs.List.{flat_map, AllByRecursion}
use Rattle.std.specs.Option.{option_map, IfSome}
use Rattle.std.proofs.lemmas.List.{length-append, length-map}
use Rattle.oxc_sourcemap_parts.specs.Record.{MapRecord}
use Rattle.oxc_sourcemap_parts.specs.Sorted.{are_tokens_sorted}
use Rattle.oxc_sourcemap_parts.specs.Sound.{IsInRange}
use Rattle.oxc_sourcemap_parts.specs.DecodedMap.{DecodedMap, sources_of, decoded_map_of}
use Rattle.oxc_sourcemap_tokens.specs.declared.position.Position.{Position}
use Rattle.oxc_sourcemap_join.specs.Joined.{is_same_token, raised_ignore_list}
use Rattle.oxc_sourcemap_join.specs.Joined.{appended_ignore_lists, joined}
use Rattle.oxc_sourcemap_join.proofs.SameToken.{decides_token}
use Rattle.oxc_sourcemap_plan.proofs.Rewriting.{sorted-tokens}
use Rattle.oxc_sourcemap_join.proofs.Joining.{chunks_joined}
use Rattle.oxc_sourcemap_plan.specs.Repeats.{EqualUpToRepeats, is_sorted_decoded_map}
use Rattle.oxc_sourcemap_plan.specs.JoinedDecodedMaps.{joined_decoded_maps}
use Rattle.oxc_sourcemap_plan.specs.JoinLaws.{AreEqualUpToRepeats, AreAllInRange}
use Rattle.oxc_sourcemap_plan.specs.JoinLaws.{AreIgnoreListsInRange, decoded_maps_of, StandsFor}
use Rattle.oxc_sourcemap_plan.specs.JoinLaws.{AllStandFor}
use Rattle.oxc_sourcemap_plan.proofs.Seams.{seamed_all, length-seamed}
use Rattle.oxc_sourcemap_plan.proofs.UpToRepeats.{joined_up_to_repeats}
use Rattle.oxc_sourcemap_plan.proofs.UpToRepeats.{sorted_decoded_map_up_to_repeats}
use Rattle.oxc_sourcemap_plan.proofs.Joins.{raised, after, together, alone, all_together, joined-is}
use Rattle.oxc_sourcemap_plan.proofs.JoinDecodedMaps.{decoded_map_joined}

-- ---- soundness
pub all_weaker : {A : Type 0} (P Q : A → Type 0) → ((x : A) → P x → Q x) → (xs : List A) → AllByRecursion P xs → AllByRecursion Q xs
all_weaker P Q f [] h = tt
all_weaker P Q f (x ∷ xs) h = (f x h.0, all_weaker P Q f xs h.1)

pub all_map : {A B : Type 0} (P : A → Type 0) (Q : B → Type 0) (f : A → B) → ((x : A) → P x → Q (f x)) → (xs : List A) → AllByRecursion P xs → AllByRecursion Q (map f xs)
all_map P Q f g [] h = tt
all_map P Q f g (x ∷ xs) h = (g x h.0, all_map P Q f g xs h.1)

below-more : (o : Option ℕ) (m n : ℕ) → m ≤ n → IfSome o (λ i. i < m) → IfSome o (λ i. i < n)
below-more None m n l h = tt
below-more (Some i) m n l h = omega arith

below-moved : (o : Option ℕ) (m k n : ℕ) → k + m ≡ n → IfSome o (λ i. i < m) → IfSome (option_map (λ i. i + k) o) (λ i. i < n)
below-moved None m k n l h = tt
below-moved (Some i) m k n l h = omega arith

range_together : (a b : MapRecord) → AllByRecursion (IsInRange (length a.names) (length a.sources)) a.tokens → AllByRecursion (IsInRange (length b.names) (length b.sources)) b.tokens
    → AllByRecursion (IsInRange (length (a.names ++ b.names)) (length (a.sources ++ b.sources))) (together a b).tokens
range_together a b h k =
    let en = length-append a.names b.names in
    let es = length-append a.sources b.sources in
    seamed_all is_same_token decides_token _ a.tokens (map (after (length a.names) (length a.sources)) b.tokens)
    (all_weaker _ _ (λ x i. record { source_id = below-more x.source_id (length a.sources) _ (omega arith) i.source_id; name_id = below-more x.name_id (length a.names) _ (omega arith) i.name_id }) a.tokens h)
    (all_map _ _ _ (λ x i. record { source_id = below-moved x.source_id (length b.sources) (length a.sources) _ (omega arith) i.source_id; name_id = below-moved x.name_id (length b.names) (length a.names) _ (omega arith) i.name_id }) b.tokens k)

range_all : (ms : List (MapRecord × Position)) → AreAllInRange ms → AllByRecursion (IsInRange (length (all_together ms).names) (length (all_together ms).sources)) (all_together ms).tokens
range_all [] h = tt
range_all (m ∷ ms) h = range_together (alone m.0 m.1) (all_together ms) (all_map _ _ (raised m.1) (λ x i. record { source_id = i.source_id; name_id = i.name_id }) m.0.tokens h.0) (range_all ms h.1)

pub range_joined : (ms : List (MapRecord × Position)) → AreAllInRange ms → AllByRecursion (IsInRange (length (joined ms).names) (length (joined ms).sources)) (joined ms).tokens
range_joined ms h = subst (λ (r : MapRecord). AllByRecursion (IsInRange (length r.names) (length r.sources)) r.tokens) (sym (joined-is ms)) (range_all ms h)

-- the entries of two ignore lists, appended, of maps with so many sources
all_append : {A : Type 0} (P : A → Type 0) (xs ys : List A) → AllByRecursion P xs → AllByRecursion P ys → AllByRecursion P (xs ++ ys)
all_append P [] ys h k = k
all_append P (x ∷ xs) ys h k = (h.0, all_append P xs ys h.1 k)

entries_together : (a b : Option (List ℕ)) (m n k : ℕ) → m + n ≡ k → IfSome a (AllByRecursion (λ i. i < m)) → IfSome b (AllByRecursion (λ i. i < n))
    → IfSome (appended_ignore_lists a (raised_ignore_list m b)) (AllByRecursion (λ i. i < k))
entries_together None None m n k e h q = tt
entries_together (Some xs) None m n k e h q = all_weaker _ _ (λ i l. omega arith) xs h
entries_together None (Some ys) m n k e h q = all_map _ _ (λ i. i + m) (λ i l. omega arith) ys q
entries_together (Some xs) (Some ys) m n k e h q = all_append _ xs (map (λ i. i + m) ys) (all_weaker _ _ (λ i l. omega arith) xs h) (all_map _ _ (λ i. i + m) (λ i l. omega arith) ys q)

entries_all : (ms : List (MapRecord × Position)) → AreIgnoreListsInRange ms → IfSome (all_together ms).ignore_list (AllByRecursion (λ i. i < length (all_together ms).sources))
entries_all [] h = tt
entries_all (m ∷ ms) h =
    entries_together m.0.ignore_list (all_together ms).ignore_list (length m.0.sources) (length (all_together ms).sources) _ (sym (length-append m.0.sources (all_together ms).sources)) h.0 (entries_all ms h.1)

pub entries_joined : (ms : List (MapRecord × Position)) → AreIgnoreListsInRange ms → IfSome (joined ms).ignore_list (AllByRecursion (λ i. i < length (joined ms).sources))
entries_joined ms h = subst (λ (r : MapRecord). IfSome r.ignore_list (AllByRecursion (λ i. i < length r.sources))) (sym (joined-is ms)) (entries_all ms h)

-- ---- how much a join has
count-together : (ms : List (MapRecord × Position)) → length (all_together ms).tokens ≤ length (flat_map (λ m. m.0.tokens) ms)
count-together [] = omega arith
count-together (m ∷ ms) =
    let h = count-together ms in
    let s = length-seamed is_same_token (map (raised m.1) m.0.tokens) (map (after (length m.0.names) (length m.0.sources)) (all_together ms).tokens) in
    let a = length-map m.0.tokens (raised m.1) in
    let b = length-map (all_together ms).tokens (after (length m.0.names) (length m.0.sources)) in
    let c = length-append m.0.tokens (flat_map (λ m. m.0.tokens) ms) in
    omega arith

names-together : (ms : List (MapRecord × Position)) → (all_together ms).names ≡ flat_map (λ m. m.0.names) ms
names-together [] = refl
names-together (m ∷ ms) = ap (λ ns. m.0.names ++ ns) (names-together ms)

pub count_joined : (ms : List (MapRecord × Position)) → length (joined ms).tokens ≤ length (flat_map (λ m. m.0.tokens) ms)
count_joined ms = subst (λ (r : MapRecord). length r.tokens ≤ length (flat_map (λ m. m.0.tokens) ms)) (sym (joined-is ms)) (count-together ms)

pub names_joined : (ms : List (MapRecord × Position)) → (joined ms).names ≡ flat_map (λ m. m.0.names) ms
names_joined ms = ap (λ (r : MapRecord). r.names) (joined-is ms) ∙ names-together ms

-- ---- order
pub sorted-mappings : (r : MapRecord) → is_sorted_decoded_map (decoded_map_of r) ≡ are_tokens_sorted r.tokens
sorted-mappings r = sorted-tokens (sources_of r.sources r.source_contents) r.names r.tokens

-- ---- sound maps that stand for given decoded maps
placed : (ms : List (MapRecord × Position)) (ss : List (DecodedMap × Position)) → AllStandFor ms ss → AreAllInRange ms
placed [] ss h = tt
placed (m ∷ ms) [] h = absurd h
placed (m ∷ ms) (s ∷ ss) h = (h.0.0.sound.in_range.tokens, placed ms ss h.1)

entries_placed : (ms : List (MapRecord × Position)) (ss : List (DecodedMap × Position)) → AllStandFor ms ss → AreIgnoreListsInRange ms
entries_placed [] ss h = tt
entries_placed (m ∷ ms) [] h = absurd h
entries_placed (m ∷ ms) (s ∷ ss) h = (h.0.0.sound.in_range.ignore_list, entries_placed ms ss h.1)

decoded_maps_up_to_repeats : (ms : List (MapRecord × Position)) (ss : List (DecodedMap × Position)) → AllStandFor ms ss → AreEqualUpToRepeats (decoded_maps_of ms) ss
decoded_maps_up_to_repeats [] [] h = h
decoded_maps_up_to_repeats [] (s ∷ ss) h = h
decoded_maps_up_to_repeats (m ∷ ms) [] h = h
decoded_maps_up_to_repeats (m ∷ ms) (s ∷ ss) h = ((h.0.0.up_to_repeats, h.0.1), decoded_maps_up_to_repeats ms ss h.1)

join_up_to_repeats : (ms : List (MapRecord × Position)) (ss : List (DecodedMap × Position)) → AllStandFor ms ss → EqualUpToRepeats (decoded_map_of (joined ms)) (joined_decoded_maps ss)
join_up_to_repeats ms ss h = decoded_map_joined ms (placed ms ss h) ∙ joined_up_to_repeats (decoded_maps_of ms) ss (decoded_maps_up_to_repeats ms ss h)

pub join_sorted : (ms : List (MapRecord × Position)) (ss : List (DecodedMap × Position)) → AllStandFor ms ss → are_tokens_sorted (joined ms).tokens ≡ is_sorted_decoded_map (joined_decoded_maps ss)
join_sorted ms ss h = sym (sorted-mappings (joined ms)) ∙ sorted_decoded_map_up_to_repeats (decoded_map_of (joined ms)) (joined_decoded_maps ss) (join_up_to_repeats ms ss h)

pub join_stands : (ms : List (MapRecord × Position)) (ss : List (DecodedMap × Position)) → AllStandFor ms ss → is_sorted_decoded_map (joined_decoded_maps ss) ≡ true → StandsFor (joined ms) (joined_decoded_maps ss)
join_stands ms ss h e = record { sound = record { sorted = join_sorted ms ss h ∙ e; in_range = record { tokens = range_joined ms (placed ms ss h); ignore_list = entries_joined ms (entries_placed ms ss h) }; chunks = chunks_joined ms }; up_to_repeats = join_up_to_repeats ms ss h }
