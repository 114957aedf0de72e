-- A minified bundle, remapped: by the laws of joins, compositions and remapping.
use Rattle.std.proofs.Common.{◌≡◌, ℕ, suc, ◌<◌, Bool, true, false, List, [], ◌∷◌, length, Option}
use Rattle.std.proofs.Common.{Some, arith}
use Rattle.std.proofs.Common.{None, option_map, Ok, Err, refl, sym, ap, ◌∙◌, subst, ◌⊎◌, inl, inr}
use Rattle.std.specs.Prelude.{if◌then◌else◌, nat_lt}
use Rattle.std.proofs.lemmas.Bool.Decides.{nat_tests}
use Rattle.std.specs.List.{AllByRecursion}
use Rattle.std.specs.Option.{IfSome}
use Rattle.oxc_sourcemap.specs.Error.{Error}
use Rattle.oxc_sourcemap.specs.Error.TheVariants.{SeveralSources, LineOrder, TooLarge}
use Rattle.oxc_sourcemap.specs.Errors.{unless}
use Rattle.oxc_sourcemap.specs.PlanError.TheVariants.{Map}
use Rattle.oxc_sourcemap.specs.Position.{Position}
use Rattle.oxc_sourcemap.specs.Token.{TokenRecord}
use Rattle.oxc_sourcemap.specs.LineOrder.{first_out_of_order}
use Rattle.oxc_sourcemap.specs.Record.{Text, MapRecord}
use Rattle.oxc_sourcemap.specs.Sorted.{are_tokens_sorted}
use Rattle.oxc_sourcemap.specs.Sound.{IsInRange, IsSound}
use Rattle.oxc_sourcemap.specs.DecodedMap.{DecodedMap, sources_of, decoded_map_of}
use Rattle.oxc_sourcemap.specs.Composed.{targets, composed, composed_names, are_ids, composition}
use Rattle.oxc_sourcemap.specs.Joined.{joined}
use Rattle.oxc_sourcemap.specs.Repeats.{decoded_map_without_repeats, EqualUpToRepeats}
use Rattle.oxc_sourcemap.specs.JoinedDecodedMaps.{joined_decoded_maps}
use Rattle.oxc_sourcemap.specs.JoinLaws.{DecodedMapOfJoin, JoinInRange, AreAllInRange}
use Rattle.oxc_sourcemap.specs.JoinLaws.{decoded_maps_of}
use Rattle.oxc_sourcemap.specs.ComposedDecodedMaps.{composed_decoded_maps}
use Rattle.oxc_sourcemap.specs.ComposeLaws.{AreSourceIdsInRange, DecodedMapOfComposition}
use Rattle.oxc_sourcemap.specs.ComposeLaws.{CompositionKeepsEqualUpToRepeats}
use Rattle.oxc_sourcemap.specs.RemappedDecodedMaps.{remapped_decoded_map}
use Rattle.oxc_sourcemap.specs.RemapLaws.{each_remapped, AreIgnoredInRange, JoinRemapped}
use Rattle.oxc_sourcemap.specs.RemapLaws.{CompositionRemapped, AreInputsEqualUpToRepeats}
use Rattle.oxc_sourcemap.specs.RemapLaws.{RemappingKeepsEqualUpToRepeats}
use Rattle.callers.proofs.Composing.{is-composed, sorted-order}

-- all maps of a list are sound
abbrev AreSound : List (MapRecord × Position) → Type 0
AreSound ms = AllByRecursion (λ m. IsSound m.0) ms

in-range : (ms : List (MapRecord × Position)) → AreSound ms → AreAllInRange ms
in-range [] h = tt
in-range (m ∷ ms) h = (h.0.in_range.tokens, in-range ms h.1)

count-sources : (paths : List Text) (contents : List (Option Text)) → length (sources_of paths contents) ≡ length paths
count-sources [] contents = refl
count-sources (path ∷ paths) [] = ap suc (count-sources paths [])
count-sources (path ∷ paths) (content ∷ contents) = ap suc (count-sources paths contents)

lists-in-range : (ms : List (MapRecord × Position)) → AreSound ms → AreIgnoredInRange (decoded_maps_of ms)
lists-in-range [] h = tt
lists-in-range (m ∷ ms) h = (
  subst (λ n. IfSome m.0.ignore_list (AllByRecursion (λ id. id < n))) (sym (count-sources m.0.sources m.0.source_contents)) h.0.in_range.ignore_list,
  lists-in-range ms h.1,
)

source-ids : (names sources : ℕ) (ts : List TokenRecord) → AllByRecursion (IsInRange names sources) ts → AllByRecursion (λ t. IfSome t.source_id (λ id. id < sources)) ts
source-ids names sources [] h = tt
source-ids names sources (t ∷ ts) h = (h.0.source_id, source-ids names sources ts h.1)

same-inputs : (inputs : List (Text × DecodedMap)) → AreInputsEqualUpToRepeats inputs inputs
same-inputs [] = tt
same-inputs (input ∷ inputs) = ((refl, refl), same-inputs inputs)

-- the laws that say when a bundle may be remapped
pub record BundleLaws : Type 0 where
  pub composition : DecodedMapOfComposition
  pub keeps : CompositionKeepsEqualUpToRepeats
  pub join : DecodedMapOfJoin
  pub in_range : JoinInRange
  pub remap_join : JoinRemapped
  pub remap_composition : CompositionRemapped
  pub remap_keeps : RemappingKeepsEqualUpToRepeats

pub bundle_laws : DecodedMapOfComposition → CompositionKeepsEqualUpToRepeats → DecodedMapOfJoin → JoinInRange → JoinRemapped → CompositionRemapped → RemappingKeepsEqualUpToRepeats → BundleLaws
bundle_laws a b c d e f g = record { composition = a; keeps = b; join = c; in_range = d; remap_join = e; remap_composition = f; remap_keeps = g }

-- remapping the minified bundle is joining and composing what was remapped
pub bundle-remapped : BundleLaws → (a copy m : MapRecord) (ms : List (MapRecord × Position)) → copy ≡ a → composition copy (joined ms) ≡ Ok m → IsSound a → AreSound ms
    → (inputs : List (Text × DecodedMap))
    → EqualUpToRepeats (remapped_decoded_map (decoded_map_of m) inputs) (composed_decoded_maps (decoded_map_of a) (joined_decoded_maps (each_remapped inputs (decoded_maps_of ms))))
bundle-remapped laws a copy m ms same made sa sms inputs =
    let bundle = joined ms in
    let parts = decoded_maps_of ms in
    let is : m ≡ composed a bundle = is-composed copy bundle m made ∙ ap (λ r. composed r bundle) same in
    let ids : AreSourceIdsInRange a = source-ids (length a.names) (length a.sources) a.tokens sa.in_range.tokens in
    let range = in-range ms sms in
    let means : decoded_map_of m ≡ composed_decoded_maps (decoded_map_of a) (decoded_map_of bundle) =
    ap decoded_map_of is ∙ laws.composition a bundle ids ((laws.in_range ms).0 range) in
    let later : EqualUpToRepeats (remapped_decoded_map (decoded_map_of bundle) inputs) (joined_decoded_maps (each_remapped inputs parts)) =
    laws.remap_keeps (decoded_map_of bundle) (joined_decoded_maps parts) inputs inputs (laws.join ms range) (same-inputs inputs)
    ∙ ap decoded_map_without_repeats (laws.remap_join parts inputs (lists-in-range ms sms)) in
    ap decoded_map_without_repeats (ap (λ s. remapped_decoded_map s inputs) means ∙ sym (laws.remap_composition (decoded_map_of a) (decoded_map_of bundle) inputs))
    ∙ laws.keeps (decoded_map_of a) (decoded_map_of a) (remapped_decoded_map (decoded_map_of bundle) inputs) (joined_decoded_maps (each_remapped inputs parts)) refl later

-- the errors of a composition with a sorted map
abbrev FailsBy : MapRecord → MapRecord → Error → Type 0
FailsBy a b e = ((e ≡ TooLarge) × (composition a b ≡ Err TooLarge)) ⊎ ((e ≡ SeveralSources (length a.sources)) × (1 < length a.sources))

error-by : (many : Bool) (n : ℕ) (fit : Bool) (r : MapRecord) (order : Option ℕ) (e : Error) → order ≡ None
    → unless (if many then Some (SeveralSources n) else option_map LineOrder order) (if fit then Ok r else Err TooLarge) ≡ Err e
    → (e ≡ TooLarge) ⊎ ((e ≡ SeveralSources n) × (many ≡ true))
error-by true n fit r order e o h = inr (cc, refl)
error-by false n true r None e o h = absurd cc
error-by false n false r None e o h = inl cc
error-by false n fit r (Some i) e o h = absurd cc

composing-error : (a copy b : MapRecord) (e : Error) → copy ≡ a → are_tokens_sorted b.tokens ≡ true → composition copy b ≡ Err e → FailsBy a b e
composing-error a copy b e same sorted h =
    let of_a : composition a b ≡ Err e = ap (λ r. composition r b) (sym same) ∙ h in
    elim (error-by (nat_lt 1 (length a.sources)) (length a.sources) (are_ids a.names (composed_names a.names b.names (targets a b)) (targets a b)) (composed a b)
    (first_out_of_order b.tokens) e (sorted-order b.tokens sorted) of_a) [
      | inl t ↦ inl (t, of_a ∙ ap Err t)
      | inr n ↦ inr (n.0, grind (arith, nat_tests, n.1))
    ]

-- as errors of a plan
pub bundle-error : (a copy b : MapRecord) (e : Error) (J P : Type 0) → copy ≡ a → are_tokens_sorted b.tokens ≡ true → composition copy b ≡ Err e
    → J ⊎ P ⊎ ((Map e ≡ Map TooLarge) × (composition a b ≡ Err TooLarge)) ⊎ ((Map e ≡ Map (SeveralSources (length a.sources))) × (1 < length a.sources))
bundle-error a copy b e J P same sorted h =
    elim (composing-error a copy b e same sorted h) [
      | inl t ↦ inr (inr (inl (ap (λ x. Map x) t.0, t.1)))
      | inr n ↦ inr (inr (inr (ap (λ x. Map x) n.0, n.1)))
    ]
