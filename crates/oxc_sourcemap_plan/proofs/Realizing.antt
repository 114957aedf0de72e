-- Readings, rewritings, joins and compositions realize their outcomes if their parts do.
use Rattle.std.proofs.Common.{is_some, ◌≡◌, ◌≢◌, ℕ, suc, ◌≤◌, ◌<◌, Bool, true, false, cond, ◌&&◌}
use Rattle.std.proofs.Common.{List, [], ◌∷◌, ◌++◌, map, length, refl, sym, ap, ◌∙◌, subst, arith}
use Rattle.std.proofs.Common.{nat_le, nat_lt, Option, Some, None, option_map, Result, Ok, Err, inl}
use Rattle.std.proofs.Common.{inr, ◌⊎◌}
use Rattle.std.specs.List.{flat_map, list_any, AllByRecursion}
use Rattle.std.specs.Option.{IfSome, option_map, option_and_then, unwrap_or}
use Rattle.std.proofs.lemmas.Bool.{and_parts, and_left, and_right, false_from_ne_true, both_ways}
use Rattle.std.proofs.lemmas.Bool.{cases_lt}
use Rattle.std.proofs.lemmas.Bool.Decides.{nat_tests}
use Rattle.std.proofs.lemmas.List.{length-append, length-map}
use Rattle.std.proofs.lemmas.List.Elements.{recursion_from_All, All-from_recursion}
use Rattle.oxc_sourcemap_tokens.specs.declared.errors.error.Error.{Error}
use Rattle.oxc_sourcemap_tokens.specs.declared.errors.error.Error.TheVariants.{VlqLeftover}
use Rattle.oxc_sourcemap_tokens.specs.declared.errors.error.Error.TheVariants.{VlqNoValues}
use Rattle.oxc_sourcemap_tokens.specs.declared.errors.error.Error.TheVariants.{VlqOverflow, BadJson}
use Rattle.oxc_sourcemap_tokens.specs.declared.errors.error.Error.TheVariants.{BadSegmentSize}
use Rattle.oxc_sourcemap_tokens.specs.declared.errors.error.Error.TheVariants.{BadSourceReference}
use Rattle.oxc_sourcemap_tokens.specs.declared.errors.error.Error.TheVariants.{BadNameReference}
use Rattle.oxc_sourcemap_tokens.specs.declared.errors.error.Error.TheVariants.{OutOfMemory}
use Rattle.oxc_sourcemap_tokens.specs.declared.errors.error.Error.TheVariants.{TooLarge, LineOrder}
use Rattle.oxc_sourcemap_tokens.specs.declared.errors.error.Error.TheVariants.{BadChunks}
use Rattle.oxc_sourcemap_tokens.specs.declared.errors.error.Error.TheVariants.{SeveralSources}
use Rattle.oxc_sourcemap_tokens.specs.declared.errors.error.Error.TheVariants.{SectionOrder}
use Rattle.oxc_sourcemap_tokens.specs.declared.errors.error.Error.TheVariants.{InputLineOrder}
use Rattle.oxc_sourcemap_tokens.specs.Token.{TokenRecord, IsInBounds, AreInBounds, last}
use Rattle.oxc_sourcemap_mappings.specs.TextLaws.{ReadsAgain}
use Rattle.oxc_sourcemap_tokens.specs.LineOrder.{first_out_of_order}
use Rattle.oxc_sourcemap_json.specs.JsonRecord.{JsonRecord}
use Rattle.oxc_sourcemap_parts.specs.Record.{Text, MapRecord}
use Rattle.oxc_sourcemap_parts.specs.Sorted.{are_tokens_sorted}
use Rattle.oxc_sourcemap_parts.specs.Sound.{IsInRange, IsSound}
use Rattle.oxc_sourcemap_parts.specs.DecodedMap.{DecodedSource, DecodedMapping, DecodedMap}
use Rattle.oxc_sourcemap_parts.specs.DecodedMap.{sources_of, mapping_of, decoded_map_of}
use Rattle.oxc_sourcemap_json.specs.Decoded.{decoded}
use Rattle.oxc_sourcemap_json.specs.Encoded.{encoded, encoded_record, written_contents}
use Rattle.oxc_sourcemap_mappings.specs.ChunkTexts.{writing_fault}
use Rattle.oxc_sourcemap_plan.specs.MapLaws.{SoundIsWritten, SoundIsTooLarge, SoundReadsBack}
use Rattle.oxc_sourcemap_plan.specs.MapLaws.{SoundStaysSound, rewritten}
use Rattle.oxc_sourcemap_tokens.specs.declared.position.Position.{Position}
use Rattle.oxc_sourcemap_join.specs.Joined.{is_same_token, without_repeat, shifted, added}
use Rattle.oxc_sourcemap_join.specs.Joined.{added_all, nothing_joined, joined, AreEntriesInBounds}
use Rattle.oxc_sourcemap_join.specs.Joined.{IsWithinLimits}
use Rattle.oxc_sourcemap_join.proofs.Fitted.{length-fitted}
use Rattle.oxc_sourcemap_tokens.specs.Errors.{unless}
use Rattle.oxc_sourcemap_steps.specs.Composed.{targets, composed_names, composed, are_ids}
use Rattle.oxc_sourcemap_steps.specs.Composed.{composition}
use Rattle.oxc_sourcemap_plan.specs.Repeats.{decoded_map_without_repeats, EqualUpToRepeats}
use Rattle.oxc_sourcemap_plan.specs.Repeats.{is_sorted_decoded_map}
use Rattle.oxc_sourcemap_plan.proofs.UpToRepeats.{matches}
use Rattle.oxc_sourcemap_plan.specs.JoinedDecodedMaps.{joined_decoded_maps, lowered}
use Rattle.oxc_sourcemap_plan.specs.ComposedDecodedMaps.{composed_decoded_maps}
use Rattle.oxc_sourcemap_plan.specs.JoinLaws.{TestsAgree, DecodedMapOfJoin}
use Rattle.oxc_sourcemap_plan.specs.JoinLaws.{JoinKeepsEqualUpToRepeats, JoinStandsFor, JoinInRange}
use Rattle.oxc_sourcemap_plan.specs.JoinLaws.{JoinNames, JoinTokens, AreAllInRange}
use Rattle.oxc_sourcemap_plan.specs.JoinLaws.{AreIgnoreListsInRange, AreEqualUpToRepeats}
use Rattle.oxc_sourcemap_plan.specs.JoinLaws.{decoded_maps_of, AllStandFor}
use Rattle.oxc_sourcemap_plan.specs.ComposeLaws.{CompositionStandsFor, CompositionNames}
use Rattle.oxc_sourcemap_plan.specs.ComposeLaws.{CompositionTokens, CompositionTooLarge}
use Rattle.oxc_sourcemap_plan.specs.ComposeLaws.{CompositionInBounds}
use Rattle.oxc_sourcemap_tokens.specs.declared.errors.plan_error.PlanError.{PlanError}
use Rattle.oxc_sourcemap_tokens.specs.declared.errors.plan_error.PlanError.TheVariants.{Map}
use Rattle.oxc_sourcemap_tokens.specs.declared.errors.plan_error.PlanError.TheVariants.{Unsorted}
use Rattle.oxc_sourcemap_plan.specs.Meaning.{read_meaning, onto_decoded_maps, all_decoded_maps}
use Rattle.oxc_sourcemap_plan.specs.Meaning.{join_meaning, composition_meaning}
use Rattle.oxc_sourcemap_plan.specs.Limits.{are_counts_within_limits, is_position_within_limits}
use Rattle.oxc_sourcemap_plan.specs.Limits.{are_positions_within_limits, is_part_within_limits}
use Rattle.oxc_sourcemap_plan.specs.Limits.{is_join_within_limits}
use Rattle.oxc_sourcemap_plan.specs.Outcome.{Outcome, plain_outcome, rewrite_outcome, meanings}
use Rattle.oxc_sourcemap_plan.specs.Outcome.{texts_of_all, names_of_all, all_records}
use Rattle.oxc_sourcemap_plan.specs.Outcome.{joined_source_count}
use Rattle.oxc_sourcemap_plan.specs.Outcome.{are_all_within_limits, join_outcome}
use Rattle.oxc_sourcemap_plan.specs.Outcome.{composition_outcome}
use Rattle.oxc_sourcemap_plan.specs.Evaluated.{is_among, are_among}
use Rattle.oxc_sourcemap_plan.specs.Realizes.{IsRead, AreRead, Realizes, FailsAs, AllRealize}
use Rattle.oxc_sourcemap_plan.proofs.KnownNames.{among-left, among-right, among-both, among-self}
use Rattle.oxc_sourcemap_plan.proofs.KnownNames.{all-more, all-weaker}
use Rattle.oxc_sourcemap_plan.proofs.Decoding.{decoded-bounds, sorted-order}

-- an error is want of memory or not
pub memory_or_not : (e : Error) → (e ≡ OutOfMemory) ⊎ (e ≢ OutOfMemory)
memory_or_not VlqLeftover = inr (λ q. cc (q))
memory_or_not VlqNoValues = inr (λ q. cc (q))
memory_or_not VlqOverflow = inr (λ q. cc (q))
memory_or_not (BadJson fault) = inr (λ q. cc (q))
memory_or_not (BadSegmentSize n) = inr (λ q. cc (q))
memory_or_not (BadSourceReference n) = inr (λ q. cc (q))
memory_or_not (BadNameReference n) = inr (λ q. cc (q))
memory_or_not OutOfMemory = inl refl
memory_or_not TooLarge = inr (λ q. cc (q))
memory_or_not (LineOrder i) = inr (λ q. cc (q))
memory_or_not (BadChunks k) = inr (λ q. cc (q))
memory_or_not (SeveralSources n) = inr (λ q. cc (q))
memory_or_not (SectionOrder k) = inr (λ q. cc (q))
memory_or_not (InputLineOrder k) = inr (λ q. cc (q))

-- an error may be assumed not to be want of memory, which every outcome allows
pub unless_memory : (e : Error) (o : Outcome) → ((e ≢ OutOfMemory) → FailsAs (Map e) o) → FailsAs (Map e) o
unless_memory e o f = elim (memory_or_not e) [ inl m ↦ inl (ap (λ x. Map x) m) | inr n ↦ f n ]

length-sources : (ps : List Text) (cs : List (Option Text)) → length (sources_of ps cs) ≡ length ps
length-sources [] cs = refl
length-sources (p ∷ ps) [] = ap suc (length-sources ps [])
length-sources (p ∷ ps) (c ∷ cs) = ap suc (length-sources ps cs)

-- a map has as many sources as a decoded map that it is equal up to repeats to
pub same-sources : (r : MapRecord) (s : DecodedMap) → EqualUpToRepeats (decoded_map_of r) s → length r.sources ≡ length s.sources
same-sources r s e = sym (length-sources r.sources r.source_contents) ∙ ap length (matches (decoded_map_of r) s e).rest.sources

-- ---- counts that fit
pub record CountsFit (names : List Text) (s : DecodedMap) : Type 0 where
  pub names_fit : length names ≤ 4294967295
  pub sources_fit : length s.sources ≤ 4294967295
  pub entries_fit : length s.mappings ≤ 4294967295

at_most : (n : ℕ) → nat_le n 4294967295 ≡ true → n ≤ 4294967295
at_most n e = grind (arith, nat_tests)

pub counts-fit : (names : List Text) (s : DecodedMap) → are_counts_within_limits names s ≡ true → CountsFit names s
counts-fit names s e =
    let p = and_parts (nat_le (length names) 4294967295) (nat_le (length s.sources) 4294967295 && nat_le (length s.mappings) 4294967295) e in
    let q = and_parts (nat_le (length s.sources) 4294967295) (nat_le (length s.mappings) 4294967295) p.1 in
    record { names_fit = at_most _ p.0; sources_fit = at_most _ q.0; entries_fit = at_most _ q.1 }

-- ---- a map that is read by itself
pub plain_gives : (r : MapRecord) → AreInBounds r.tokens → IsSound r → are_tokens_sorted r.tokens ≡ true → Realizes r (plain_outcome (Ok r))
plain_gives r b h s =
    let means : read_meaning (Ok r) ≡ Ok (decoded_map_of r) = ap (λ b. cond b (Ok (decoded_map_of r)) (Err Unsorted)) s in
    let room : is_part_within_limits r.names (read_meaning (Ok r)) ≡ true → length (decoded_map_of r).mappings ≤ 4294967295 = λ k. (counts-fit r.names (decoded_map_of r) (ap (is_part_within_limits r.names) (sym means) ∙ k)).entries_fit in
    record {
      decoded_map = decoded_map_of r;
      means = means;
      stands = record { sound = h; up_to_repeats = refl };
      in_bounds = b;
      map_record = refl;
      texts = tt;
      tokens = rw length-map (omega arith);
      names = omega arith;
      contents = omega arith;
      known = among-self r.names;
      within_limits = room;
      rewritten = λ k. absurd (both_ways false refl k);
    }

pub plain_unsorted : (r : MapRecord) → are_tokens_sorted r.tokens ≡ false → FailsAs Unsorted (plain_outcome (Ok r))
plain_unsorted r s = inr (inl (ap (λ b. cond b (Ok (decoded_map_of r)) (Err Unsorted)) s))

-- ---- a rewriting
pub ok-same : {A : Type 0} (x y : A) → ◌≡◌ {A = Result A Error} (Ok x) (Ok y) → x ≡ y
ok-same x y e = cc (e)

pub err-same : {A : Type 0} (x y : Error) → ◌≡◌ {A = Result A Error} (Err x) (Err y) → x ≡ y
err-same x y e = cc (e)

pub no-ok-err : {A B : Type 0} (x : A) (y : Error) → ◌≡◌ {A = Result A Error} (Ok x) (Err y) → B
no-ok-err x y e = absurd (cc (e))

written-is : (o : Option Error) (r : MapRecord) (j : JsonRecord) → unless o (Ok (encoded_record r)) ≡ Ok j → encoded_record r ≡ j
written-is None r j e = cc (e)
written-is (Some fault) r j e = absurd (cc (e))

written-most : (cs : List (Option Text)) → length (unwrap_or (written_contents cs) []) ≤ length cs
written-most cs = elim (list_any is_some cs) as (λ b. length (unwrap_or (cond b (Some cs) None) []) ≤ length cs) [ true ↦ omega arith | false ↦ omega arith ]

pub rewrite_gives : ReadsAgain → SoundReadsBack → SoundStaysSound → (r m : MapRecord) (j : JsonRecord) → encoded r ≡ Ok j → decoded j ≡ Ok m → (o : Outcome) → Realizes r o → Realizes m (rewrite_outcome o)
rewrite_gives law back stays r m j e d o g =
    let w : encoded_record r ≡ j = written-is (writing_fault r.tokens r.token_chunks) r j e in
    let b = back r g.stands.sound g.in_bounds in
    let st = stays r g.stands.sound in
    let d' : decoded (encoded_record r) ≡ Ok m = ap decoded w ∙ d in
    let is : rewritten r ≡ m = ok-same _ _ (sym b.is_read ∙ d') in
    let gt = g.tokens in let sc = st.count in
    let gc = g.contents in let cs = written-most r.source_contents in
    subst (λ x. Realizes x (rewrite_outcome o)) is (record {
      decoded_map = g.decoded_map;
      means = g.means;
      stands = record { sound = st.sound; up_to_repeats = ap decoded_map_without_repeats st.decoded_map ∙ g.stands.up_to_repeats };
      in_bounds = decoded-bounds law (encoded_record r) (rewritten r) b.is_read;
      map_record = ap (option_map rewritten) g.map_record;
      texts = g.texts;
      tokens = subst (λ n. n ≤ length g.decoded_map.mappings) (sym sc) gt;
      names = g.names;
      contents = omega arith;
      known = g.known;
      within_limits = g.within_limits;
      rewritten = λ _. (refl, st.again);
    })

pub rewrite_error : SoundIsWritten → SoundIsTooLarge → (r : MapRecord) (e : Error) → encoded r ≡ Err e → (o : Outcome) → Realizes r o → FailsAs (Map e) (rewrite_outcome o)
rewrite_error written large r e k o g =
    elim (cases_lt 4294967295 (length r.tokens)) [
      | inl l ↦ (let t = err-same _ _ (sym (large r g.stands.sound l) ∙ k) in
          subst (λ x. FailsAs (Map x) (rewrite_outcome o)) t (inr (inr (refl, false_from_ne_true o.is_within_limits (λ q. (let n = g.within_limits q in let c = g.tokens in omega arith))))))
      | inr l ↦ no-ok-err _ _ (sym (written r g.stands.sound (omega arith)) ∙ k)
    ]

pub reading_error : SoundReadsBack → (r : MapRecord) (j : JsonRecord) (e : Error) → encoded r ≡ Ok j → decoded j ≡ Err e → (o : Outcome) → Realizes r o → FailsAs (Map e) (rewrite_outcome o)
reading_error back r j e w d o g =
    let b = back r g.stands.sound g.in_bounds in
    no-ok-err _ _ (sym b.is_read ∙ ap decoded (written-is (writing_fault r.tokens r.token_chunks) r j w) ∙ d)

-- ---- a join
-- what a shift in a join keeps of a token in bounds
pub record Stays (t : TokenRecord) : Type 0 where
  src_line : t.src_line < 4294967296
  src_col : t.src_col < 4294967296

pub stays-of : (t : TokenRecord) → IsInBounds t → Stays t
stays-of t b = record { src_line = b.src_line; src_col = b.src_col }

stays-shifted : (names sources : ℕ) (offset : Position) (ts : List TokenRecord) → AllByRecursion Stays ts → AllByRecursion Stays (map (shifted names sources offset) ts)
stays-shifted names sources offset [] h = tt
stays-shifted names sources offset (t ∷ ts) h = (record { src_line = h.0.src_line; src_col = h.0.src_col }, stays-shifted names sources offset ts h.1)

stays-without : (o : Option TokenRecord) (ts : List TokenRecord) → AllByRecursion Stays ts → AllByRecursion Stays (without_repeat is_same_token o ts)
stays-without None ts h = h
stays-without (Some x) [] h = tt
stays-without (Some x) (t ∷ ts) h = elim (is_same_token x t) as (λ b. AllByRecursion Stays (cond b ts (t ∷ ts))) [ true ↦ h.1 | false ↦ h ]

AllStay : List (MapRecord × Position) → Type 0
AllStay ms = AllByRecursion (λ m. AllByRecursion Stays m.0.tokens) ms

stays-added : (r : MapRecord) (ms : List (MapRecord × Position)) → AllByRecursion Stays r.tokens → AllByRecursion (λ m. AllByRecursion Stays m.0.tokens) ms → AllByRecursion Stays (added_all r ms).tokens
stays-added r [] h k = h
stays-added r (m ∷ ms) h k =
    stays-added (added r m.0 m.1) ms
    (all-more Stays r.tokens (without_repeat is_same_token (last r.tokens) (map (shifted (length r.names) (length r.sources) m.1) m.0.tokens)) h (stays-without (last r.tokens) _ (stays-shifted (length r.names) (length r.sources) m.1 m.0.tokens k.0)))
    k.1

-- the decoded maps of parts that all give maps
record Joint (ms : List (MapRecord × Position)) (os : List (Outcome × Position)) : Type 0 where
  decoded_maps : List (DecodedMap × Position)
  mean : all_decoded_maps (meanings os) ≡ Ok decoded_maps
  stand : AllStandFor ms decoded_maps
  in_range : AreAllInRange ms
  lists_in_range : AreIgnoreListsInRange ms
  stay : AllByRecursion (λ m. AllByRecursion Stays m.0.tokens) ms
  tokens : length (flat_map (λ m. m.0.tokens) ms) ≤ length (joined_decoded_maps decoded_maps).mappings
  names : length (flat_map (λ m. m.0.names) ms) ≤ length (names_of_all os)
  known : are_among (names_of_all os) (flat_map (λ m. m.0.names) ms) ≡ true

joint : (ms : List (MapRecord × Position)) (os : List (Outcome × Position)) → AllRealize ms os → Joint ms os
joint [] [] h = record { decoded_maps = []; mean = refl; stand = h; in_range = tt; lists_in_range = tt; stay = tt; tokens = omega arith; names = omega arith; known = refl }
joint [] (o ∷ os) h = absurd h
joint (m ∷ ms) [] h = absurd h
joint (m ∷ ms) (o ∷ os) h =
    let g = h.0.0 in
    let j = joint ms os h.1 in
    let a = length-append m.0.tokens (flat_map (λ m. m.0.tokens) ms) in
    let b = length-append (map (lowered o.1) g.decoded_map.mappings) (joined_decoded_maps j.decoded_maps).mappings in
    let c = length-map g.decoded_map.mappings (lowered o.1) in
    let d = length-append m.0.names (flat_map (λ m. m.0.names) ms) in
    let e = length-append o.0.names (names_of_all os) in
    let gt = g.tokens in let gn = g.names in let jt = j.tokens in let jn = j.names in
    record {
      decoded_maps = (g.decoded_map, o.1) ∷ j.decoded_maps;
      mean = ap (λ q. onto_decoded_maps q o.1 (all_decoded_maps (meanings os))) g.means ∙ ap (onto_decoded_maps (Ok g.decoded_map) o.1) j.mean;
      stand = ((g.stands, h.0.1), j.stand);
      in_range = (g.stands.sound.in_range.tokens, j.in_range);
      lists_in_range = (g.stands.sound.in_range.ignore_list, j.lists_in_range);
      stay = (all-weaker IsInBounds Stays stays-of m.0.tokens (recursion_from_All IsInBounds m.0.tokens g.in_bounds), j.stay);
      tokens = omega arith;
      names = omega arith;
      known = among-both (o.0.names ++ names_of_all os) m.0.names (flat_map (λ m. m.0.names) ms) (among-left o.0.names (names_of_all os) m.0.names g.known) (among-right o.0.names (names_of_all os) (flat_map (λ m. m.0.names) ms) j.known);
    }

join-fits : (r : Bool) (names : List Text) (s : DecodedMap) → (r && (are_counts_within_limits names s && are_positions_within_limits s.mappings)) ≡ true → CountsFit names s × (are_positions_within_limits s.mappings ≡ true)
join-fits r names s e =
    let p = and_parts r (are_counts_within_limits names s && are_positions_within_limits s.mappings) e in
    let q = and_parts (are_counts_within_limits names s) (are_positions_within_limits s.mappings) p.1 in
    (counts-fit names s q.0, q.1)

-- joins are within the limits, by the decoded maps of their parts
room-of : (ms : List (MapRecord × Position)) (os : List (Outcome × Position)) (j : Joint ms os) → (join_outcome os).is_within_limits ≡ true → CountsFit (names_of_all os) (joined_decoded_maps j.decoded_maps) × (are_positions_within_limits (joined_decoded_maps j.decoded_maps).mappings ≡ true)
room-of ms os j e = join-fits (are_all_within_limits os) (names_of_all os) (joined_decoded_maps j.decoded_maps) (ap (λ q. are_all_within_limits os && is_join_within_limits (names_of_all os) q) (sym j.mean) ∙ e)

blind-positions : (front : List DecodedMapping) (e : DecodedMapping) (after : List DecodedMapping) → are_positions_within_limits (front ++ e ∷ e ∷ after) ≡ are_positions_within_limits (front ++ e ∷ after)
blind-positions [] e xs = elim (is_position_within_limits e) as (λ b. (b && (b && are_positions_within_limits xs)) ≡ (b && are_positions_within_limits xs)) [ true ↦ refl | false ↦ refl ]
blind-positions (p ∷ ps) e xs = ap (λ b. is_position_within_limits p && b) (blind-positions ps e xs)

id-below : (o : Option ℕ) (n : ℕ) → n ≤ 4294967295 → IfSome o (λ i. i < n) → IfSome o (λ i. i < 4294967295)
id-below None n l h = tt
id-below (Some i) n l h = omega arith

in-bounds : (names sources : ℕ) (ss : List DecodedSource) (ns : List Text) (ts : List TokenRecord) → names ≤ 4294967295 → sources ≤ 4294967295 → are_positions_within_limits (map (mapping_of ss ns) ts) ≡ true → AllByRecursion (IsInRange names sources) ts → AllByRecursion Stays ts → AllByRecursion IsInBounds ts
in-bounds names sources ss ns [] a b e h k = tt
in-bounds names sources ss ns (t ∷ ts) a b e h k =
    let p = and_parts (is_position_within_limits (mapping_of ss ns t)) (are_positions_within_limits (map (mapping_of ss ns) ts)) e in
    let q = and_parts (nat_le t.dst_line 4294967295) (nat_le t.dst_col 4294967295) p.0 in
    let l = at_most t.dst_line q.0 in
    let c = at_most t.dst_col q.1 in (
      record { dst_line = omega arith; dst_col = omega arith; src_line = k.0.src_line; src_col = k.0.src_col; source_id = id-below t.source_id sources b h.0.source_id; name_id = id-below t.name_id names a h.0.name_id },
      in-bounds names sources ss ns ts a b p.1 h.1 k.1,
    )

entries-below : (list : Option (List ℕ)) (n : ℕ) → n ≤ 4294967295 → IfSome list (AllByRecursion (λ id. id < n)) → AreEntriesInBounds list
entries-below None n l h = tt
entries-below (Some ids) n l h = All-from_recursion (λ id. id < 4294967295) ids (all-weaker (λ id. id < n) (λ id. id < 4294967295) (λ id b. omega arith) ids h)

-- the decoded map of a join of maps that stand for decoded maps
up_to_repeats-each : (ms : List (MapRecord × Position)) (ss : List (DecodedMap × Position)) → AllStandFor ms ss → AreEqualUpToRepeats (decoded_maps_of ms) ss
up_to_repeats-each [] [] h = h
up_to_repeats-each [] (s ∷ ss) h = absurd h
up_to_repeats-each (m ∷ ms) [] h = absurd h
up_to_repeats-each (m ∷ ms) (s ∷ ss) h = ((h.0.0.up_to_repeats, h.0.1), up_to_repeats-each ms ss h.1)

-- a join has one content for each source
pub contents-added : (r : MapRecord) (ms : List (MapRecord × Position)) → length r.source_contents ≡ length r.sources → length (added_all r ms).source_contents ≡ length (added_all r ms).sources
contents-added r [] e = e
contents-added r (m ∷ ms) e = contents-added (added r m.0 m.1) ms (length-fitted (length (r.sources ++ m.0.sources)) (r.source_contents ++ m.0.source_contents))

-- the maps of parts that all give maps
records-of : (ms : List (MapRecord × Position)) (os : List (Outcome × Position)) → AllRealize ms os → all_records os ≡ Some ms
records-of [] [] h = refl
records-of [] (o ∷ os) h = absurd h
records-of (m ∷ ms) [] h = absurd h
records-of (m ∷ ms) (o ∷ os) h =
    ap (option_and_then (λ r. option_map (λ rs. (r, o.1) ∷ rs) (all_records os))) h.0.0.map_record
    ∙ ap (option_map (λ rs. (m.0, o.1) ∷ rs)) (records-of ms os h.1)
    ∙ ap (λ n. Some ((m.0, n) ∷ ms)) (sym h.0.1)

-- all texts of parts that all give maps can be read
pub texts-read : (ms : List (MapRecord × Position)) (os : List (Outcome × Position)) → AllRealize ms os → AreRead (texts_of_all os)
texts-read [] [] h = tt
texts-read [] (o ∷ os) h = absurd h
texts-read (m ∷ ms) [] h = absurd h
texts-read (m ∷ ms) (o ∷ os) h = all-more IsRead o.0.texts (texts_of_all os) h.0.0.texts (texts-read ms os h.1)

-- the laws of joins
pub record JoinLaws : Type 0 where
  pub tests : TestsAgree
  pub keeps : JoinKeepsEqualUpToRepeats
  pub decoded_map : DecodedMapOfJoin
  pub range : JoinInRange
  pub stands : JoinStandsFor
  pub names : JoinNames
  pub tokens : JoinTokens

pub join_laws : TestsAgree → JoinKeepsEqualUpToRepeats → DecodedMapOfJoin → JoinInRange → JoinStandsFor → JoinNames → JoinTokens → JoinLaws
join_laws a b c d e f g = record { tests = a; keeps = b; decoded_map = c; range = d; stands = e; names = f; tokens = g }

-- A join is within the limits if a decoded map that it is equal to up to repeats is, with at least as many names and mappings.
pub within_of : (laws : JoinLaws) (ms : List (MapRecord × Position)) (s : DecodedMap) (all : List Text) → EqualUpToRepeats (decoded_map_of (joined ms)) s
    → AreAllInRange ms → AreIgnoreListsInRange ms → AllByRecursion (λ m. AllByRecursion Stays m.0.tokens) ms
    → length (flat_map (λ m. m.0.tokens) ms) ≤ length s.mappings → length (flat_map (λ m. m.0.names) ms) ≤ length all
    → CountsFit all s → are_positions_within_limits s.mappings ≡ true → IsWithinLimits (joined ms)
within_of laws ms s all al range lists stays jt jn fits within =
    let sources = same-sources (joined ms) s al in
    let names = ap length (laws.names ms) in
    let positions : are_positions_within_limits (decoded_map_of (joined ms)).mappings ≡ true = laws.tests are_positions_within_limits blind-positions (decoded_map_of (joined ms)) s al ∙ within in
    let r = (laws.range ms).0 range in
    let stay = stays-added nothing_joined ms tt stays in
    let pt = laws.tokens ms in
    let fn = fits.names_fit in let fs = fits.sources_fit in let fe = fits.entries_fit in
    let bn : length (joined ms).names ≤ 4294967295 = omega arith in
    let bs : length (joined ms).sources ≤ 4294967295 = omega arith in
    record {
      names = bn;
      sources = bs;
      tokens = omega arith;
      in_bounds = All-from_recursion IsInBounds (joined ms).tokens
          (in-bounds (length (joined ms).names) (length (joined ms).sources) (sources_of (joined ms).sources (joined ms).source_contents) (joined ms).names (joined ms).tokens bn bs positions r stay);
      ignore_list = entries-below (joined ms).ignore_list (length (joined ms).sources) bs ((laws.range ms).1 lists);
    }

module _ (laws : JoinLaws) (ms : List (MapRecord × Position)) (os : List (Outcome × Position)) (h : AllRealize ms os) where
  means-of : (join_outcome os).meaning ≡ join_meaning (Ok (joint ms os h).decoded_maps)
  means-of = ap join_meaning (joint ms os h).mean

  pub join_gives : IsWithinLimits (joined ms) → are_tokens_sorted (joined ms).tokens ≡ true → Realizes (joined ms) (join_outcome os)
  join_gives within e =
      let j = joint ms os h in
      let s = laws.stands ms j.decoded_maps j.stand in
      let f : is_sorted_decoded_map (joined_decoded_maps j.decoded_maps) ≡ true = sym s.0 ∙ e in
      let jt = j.tokens in let pt = laws.tokens ms in
      record {
        decoded_map = joined_decoded_maps j.decoded_maps;
        means = means-of ∙ ap (λ b. cond b (Ok (joined_decoded_maps j.decoded_maps)) (Err Unsorted)) f;
        stands = s.1 f;
        in_bounds = within.in_bounds;
        map_record = ap (option_map joined) (records-of ms os h);
        texts = texts-read ms os h;
        tokens = omega arith;
        names = subst (λ ns. length ns ≤ length (names_of_all os)) (sym (laws.names ms)) j.names;
        contents = subst (λ q. length (joined ms).source_contents ≤ joined_source_count q) (sym j.mean)
            (let one = contents-added nothing_joined ms refl in let ss = same-sources (joined ms) (joined_decoded_maps j.decoded_maps) (s.1 f).up_to_repeats in omega arith);
        known = ap (are_among (names_of_all os)) (laws.names ms) ∙ j.known;
        within_limits = λ r. (room-of ms os j r).0.entries_fit;
        rewritten = λ r. absurd (both_ways false refl r);
      }

  pub join_unsorted : are_tokens_sorted (joined ms).tokens ≡ false → FailsAs Unsorted (join_outcome os)
  join_unsorted e =
      let j = joint ms os h in
      let s = laws.stands ms j.decoded_maps j.stand in
      let f : is_sorted_decoded_map (joined_decoded_maps j.decoded_maps) ≡ false = sym s.0 ∙ e in
      inr (inl (means-of ∙ ap (λ b. cond b (Ok (joined_decoded_maps j.decoded_maps)) (Err Unsorted)) f))

  join_within : (join_outcome os).is_within_limits ≡ true → IsWithinLimits (joined ms)
  join_within e =
      let j = joint ms os h in
      let room = room-of ms os j e in
      let s = joined_decoded_maps j.decoded_maps in
      let al : EqualUpToRepeats (decoded_map_of (joined ms)) s = laws.decoded_map ms j.in_range ∙ laws.keeps (decoded_maps_of ms) j.decoded_maps (up_to_repeats-each ms j.decoded_maps j.stand) in
      within_of laws ms s (names_of_all os) al j.in_range j.lists_in_range j.stay j.tokens j.names room.0 room.1

  pub join_error : (e : Error) → (e ≡ OutOfMemory) ⊎ ((e ≡ TooLarge) × (IsWithinLimits (joined ms) → ⊥)) → FailsAs (Map e) (join_outcome os)
  join_error e r = elim r [
    | inl m ↦ inl (ap (λ e. Map e) m)
    | inr t ↦ inr (inr (ap (λ e. Map e) t.0, false_from_ne_true _ (λ k. t.1 (join_within k))))
  ]

-- ---- a part of a join that fails
decoded_maps-error : (ms : List (MapRecord × Position)) (os ps : List (Outcome × Position)) (o : Outcome) (n : Position) (e : PlanError) → AllRealize ms os → o.meaning ≡ Err e → all_decoded_maps (meanings (os ++ (o, n) ∷ ps)) ≡ Err e
decoded_maps-error [] [] ps o n e h q = ap (λ r. onto_decoded_maps r n (all_decoded_maps (meanings ps))) q
decoded_maps-error [] (p ∷ os) ps o n e h q = absurd h
decoded_maps-error (m ∷ ms) [] ps o n e h q = absurd h
decoded_maps-error (m ∷ ms) (p ∷ os) ps o n e h q = ap (λ r. onto_decoded_maps r p.1 (all_decoded_maps (meanings (os ++ (o, n) ∷ ps)))) h.0.0.means ∙ ap (onto_decoded_maps (Ok h.0.0.decoded_map) p.1) (decoded_maps-error ms os ps o n e h.1 q)

pub no-room-part : (os ps : List (Outcome × Position)) (o : Outcome) (n : Position) → o.is_within_limits ≡ false → are_all_within_limits (os ++ (o, n) ∷ ps) ≡ false
no-room-part [] ps o n q = and_left _ _ q
no-room-part (p ∷ os) ps o n q = and_right _ _ (no-room-part os ps o n q)

pub part_fails : (ms : List (MapRecord × Position)) (os ps : List (Outcome × Position)) (o : Outcome) (n : Position) (e : PlanError) → AllRealize ms os → FailsAs e o → (all : List (Outcome × Position)) → all ≡ os ++ (o, n) ∷ ps → FailsAs e (join_outcome all)
part_fails ms os ps o n e h r all q =
    subst (λ (xs : List (Outcome × Position)). FailsAs e (join_outcome xs)) (sym q) (elim r [
      | inl m ↦ inl m
      | inr t ↦ elim t [
        | inl k ↦ inr (inl (ap join_meaning (decoded_maps-error ms os ps o n e h k)))
        | inr k ↦ inr (inr (k.0, and_left _ _ (no-room-part os ps o n k.1)))
      ]
    ])

-- ---- a composition
pub first_fails : (p q : Outcome) (e : PlanError) → FailsAs e p → FailsAs e (composition_outcome p q)
first_fails p q e r = elim r [
  | inl m ↦ inl m
  | inr t ↦ elim t [
    | inl k ↦ inr (inl (ap (λ x. composition_meaning x q.meaning) k))
    | inr k ↦ inr (inr (k.0, and_left _ _ (and_left _ _ k.1)))
  ]
]

pub second_fails : (a : MapRecord) (p q : Outcome) (e : PlanError) → Realizes a p → FailsAs e q → FailsAs e (composition_outcome p q)
second_fails a p q e g r = elim r [
  | inl m ↦ inl m
  | inr t ↦ elim t [
    | inl k ↦ inr (inl (ap (λ x. composition_meaning x q.meaning) g.means ∙ ap (composition_meaning (Ok g.decoded_map)) k))
    | inr k ↦ inr (inr (k.0, and_left _ _ (and_right _ _ k.1)))
  ]
]

given : (several : Bool) (n : ℕ) (order : Option ℕ) (ids : Bool) (r m : MapRecord) → unless (cond several (Some (SeveralSources n)) (option_map LineOrder order)) (cond ids (Ok r) (Err TooLarge)) ≡ Ok m → (several ≡ false) × (r ≡ m)
given true n order ids r m e = absurd (cc (e))
given false n (Some i) ids r m e = absurd (cc (e))
given false n None true r m e = (refl, cc (e))
given false n None false r m e = absurd (cc (e))

not-given : (several : Bool) (n : ℕ) (order : Option ℕ) (ids : Bool) (r : MapRecord) (e : Error) → order ≡ None → unless (cond several (Some (SeveralSources n)) (option_map LineOrder order)) (cond ids (Ok r) (Err TooLarge)) ≡ Err e
    → ((several ≡ true) × (SeveralSources n ≡ e)) ⊎ ((several ≡ false) × (TooLarge ≡ e))
not-given true n order ids r e o k = inl (refl, cc (k))
not-given false n (Some i) ids r e o k = absurd (cc (o))
not-given false n None true r e o k = absurd (cc (k))
not-given false n None false r e o k = inr (refl, cc (k))

-- the laws of composition
pub record ComposeLaws : Type 0 where
  pub stands : CompositionStandsFor
  pub names : CompositionNames
  pub tokens : CompositionTokens
  pub room : CompositionTooLarge
  pub bounds : CompositionInBounds

pub compose_laws : CompositionStandsFor → CompositionNames → CompositionTokens → CompositionTooLarge → CompositionInBounds → ComposeLaws
compose_laws a b c d e = record { stands = a; names = b; tokens = c; room = d; bounds = e }

module _ (laws : ComposeLaws) (a b : MapRecord) (p q : Outcome) (g : Realizes a p) (k : Realizes b q) where
  both-mean : (composition_outcome p q).meaning ≡ composition_meaning (Ok g.decoded_map) (Ok k.decoded_map)
  both-mean = ap (λ x. composition_meaning x q.meaning) g.means ∙ ap (composition_meaning (Ok g.decoded_map)) k.means

  several : nat_lt 1 (length g.decoded_map.sources) ≡ nat_lt 1 (length a.sources)
  several = ap (nat_lt 1) (sym (same-sources a g.decoded_map g.stands.up_to_repeats))

  mean-one : nat_lt 1 (length a.sources) ≡ false → (composition_outcome p q).meaning ≡ Ok (composed_decoded_maps g.decoded_map k.decoded_map)
  mean-one e = both-mean ∙ ap (λ t. cond t (Err (Map (SeveralSources (length g.decoded_map.sources)))) (Ok (composed_decoded_maps g.decoded_map k.decoded_map))) (several ∙ e)

  fits-one : nat_lt 1 (length a.sources) ≡ false → (composition_outcome p q).is_within_limits ≡ true → CountsFit (p.names ++ q.names) (composed_decoded_maps g.decoded_map k.decoded_map)
  fits-one e r =
      let both = and_parts (p.is_within_limits && q.is_within_limits) (is_part_within_limits (p.names ++ q.names) (composition_meaning p.meaning q.meaning)) r in
      counts-fit (p.names ++ q.names) (composed_decoded_maps g.decoded_map k.decoded_map) (ap (is_part_within_limits (p.names ++ q.names)) (sym (mean-one e)) ∙ both.1)

  pub compose_gives : (m : MapRecord) → composition a b ≡ Ok m → Realizes m (composition_outcome p q)
  compose_gives m e =
      let c = given (nat_lt 1 (length a.sources)) _ (first_out_of_order b.tokens) (are_ids a.names (composed_names a.names b.names (targets a b)) (targets a b)) (composed a b) m e in
      let ns = laws.names a b in
      let nm = ns.1 in let gn = g.names in let kn = k.names in
      let app = length-append p.names q.names in
      let ct = laws.tokens a b in let gt = g.tokens in
      subst (λ x. Realizes x (composition_outcome p q)) c.1 (record {
        decoded_map = composed_decoded_maps g.decoded_map k.decoded_map;
        means = mean-one c.0;
        stands = laws.stands a b g.decoded_map k.decoded_map g.stands k.stands;
        in_bounds = subst (λ (x : MapRecord). AreInBounds x.tokens) (sym c.1) (laws.bounds a b m g.in_bounds k.in_bounds e);
        map_record = ap (option_and_then (λ r. option_map (composed r) q.map_record)) g.map_record ∙ ap (option_map (composed a)) k.map_record;
        texts = all-more IsRead p.texts q.texts g.texts k.texts;
        tokens = rw (laws.tokens a b, length-map) g.tokens;
        names = omega arith;
        contents = k.contents;
        known = ns.0 (is_among (p.names ++ q.names)) (among-left p.names q.names a.names g.known) (among-right p.names q.names b.names k.known);
        within_limits = λ r. (fits-one c.0 r).entries_fit;
        rewritten = λ r. absurd (both_ways false refl r);
      })

  pub compose_error : (e : Error) → composition a b ≡ Err e → FailsAs (Map e) (composition_outcome p q)
  compose_error e r =
      let c = not-given (nat_lt 1 (length a.sources)) (length a.sources) (first_out_of_order b.tokens) (are_ids a.names (composed_names a.names b.names (targets a b)) (targets a b)) (composed a b) e (sorted-order b.tokens k.stands.sound.sorted) r in
      elim c [
        | inl s ↦ subst (λ x. FailsAs (Map x) (composition_outcome p q)) s.1 (inr (inl (both-mean
            ∙ ap (λ t. cond t (Err (Map (SeveralSources (length g.decoded_map.sources)))) (Ok (composed_decoded_maps g.decoded_map k.decoded_map))) (several ∙ s.0)
            ∙ ap (λ n. Err (Map (SeveralSources n))) (sym (same-sources a g.decoded_map g.stands.up_to_repeats)))))
        | inr s ↦ subst (λ x. FailsAs (Map x) (composition_outcome p q)) s.1 (inr (inr (
          refl,
          false_from_ne_true _ (λ t.
              (let f = (fits-one s.0 t).names_fit in
              let n = laws.room a b (r ∙ ap Err (sym s.1)) in
              let gn = g.names in let kn = k.names in
              let app = length-append p.names q.names in
              omega arith)),
        )))
      ]
