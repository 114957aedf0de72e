-- A simplified map realizes its outcome if its part does.
use Rattle.std.proofs.Common.{◌≡◌, ◌≢◌, ℕ, ◌≤◌, Bool, true, false, cond, List, [], ◌∷◌, map, length}
use Rattle.std.proofs.Common.{refl, sym, ap, ◌∙◌, subst, arith, option_map, Result, Ok, Err, inl}
use Rattle.std.proofs.Common.{inr, ◌⊎◌, nat_le}
use Rattle.std.specs.List.{list_all}
use Rattle.std.proofs.lemmas.Bool.{and_parts, and_left, false_from_ne_true, both_ways}
use Rattle.std.proofs.lemmas.Bool.Decides.{nat_tests}
use Rattle.std.proofs.lemmas.List.{length-map}
use Rattle.oxc_sourcemap_tokens.specs.declared.errors.error.Error.TheVariants.{OutOfMemory}
use Rattle.oxc_sourcemap_tokens.specs.declared.errors.error.Error.TheVariants.{TooLarge}
use Rattle.oxc_sourcemap_tokens.specs.Token.{TokenRecord}
use Rattle.oxc_sourcemap_parts.specs.Record.{Text, MapRecord}
use Rattle.oxc_sourcemap_parts.specs.Sorted.{are_tokens_sorted}
use Rattle.oxc_sourcemap_parts.specs.DecodedMap.{DecodedSource, DecodedMap, mapping_of, sources_of}
use Rattle.oxc_sourcemap_parts.specs.DecodedMap.{decoded_map_of}
use Rattle.oxc_sourcemap_steps.specs.Simplified.{simplified_decoded_map, simplified, fits}
use Rattle.oxc_sourcemap_steps.specs.Simplified.{simplification}
use Rattle.oxc_sourcemap_steps.specs.SimplifyLaws.{DecodedMapOfSimplified}
use Rattle.oxc_sourcemap_plan.specs.JoinLaws.{StandsFor}
use Rattle.oxc_sourcemap_plan.specs.SimplifiedMaps.{SimplifyingEndsRepeats, SimplifyingStandsFor}
use Rattle.oxc_sourcemap_plan.specs.SimplifiedMaps.{SimplifyingCounts, SimplifyingNames}
use Rattle.oxc_sourcemap_plan.specs.SimplifiedMaps.{SimplifyingInBounds}
use Rattle.oxc_sourcemap_tokens.specs.declared.errors.plan_error.PlanError.{PlanError}
use Rattle.oxc_sourcemap_tokens.specs.declared.errors.plan_error.PlanError.TheVariants.{Map}
use Rattle.oxc_sourcemap_tokens.specs.declared.errors.plan_error.PlanError.TheVariants.{Unsorted}
use Rattle.oxc_sourcemap_tokens.specs.declared.errors.plan_error.PlanError.TheVariants.{TooDeep}
use Rattle.oxc_sourcemap_plan.specs.Meaning.{simplified_meaning}
use Rattle.oxc_sourcemap_plan.specs.Limits.{are_counts_within_limits, is_position_within_limits}
use Rattle.oxc_sourcemap_plan.specs.Limits.{are_positions_within_limits}
use Rattle.oxc_sourcemap_plan.specs.Limits.{is_simplified_within_limits}
use Rattle.oxc_sourcemap_plan.specs.Outcome.{Outcome, simplified_outcome, source_count}
use Rattle.oxc_sourcemap_plan.specs.Evaluated.{is_among}
use Rattle.oxc_sourcemap_plan.specs.Realizes.{Realizes, FailsAs}
use Rattle.oxc_sourcemap_plan.proofs.Realizing.{memory_or_not, same-sources, CountsFit, counts-fit}

-- an error is want of memory or not
plan_memory_or_not : (e : PlanError) → (e ≡ Map OutOfMemory) ⊎ (e ≢ Map OutOfMemory)
plan_memory_or_not (Map e) = elim (memory_or_not e) [ inl m ↦ inl (ap (λ x. Map x) m) | inr n ↦ inr (λ q. n (cc (q))) ]
plan_memory_or_not Unsorted = inr (λ q. cc (q))
plan_memory_or_not TooDeep = inr (λ q. cc (q))

-- an error may be assumed not to be want of memory, which every outcome allows
pub unless_want : (e : PlanError) (o : Outcome) → ((e ≢ Map OutOfMemory) → FailsAs e o) → FailsAs e o
unless_want e o f = elim (plan_memory_or_not e) [ inl m ↦ inl m | inr n ↦ f n ]

-- the laws of simplified maps
pub record SimplifyLaws : Type 0 where
  pub decoded_map : DecodedMapOfSimplified
  pub ends : SimplifyingEndsRepeats
  pub stands : SimplifyingStandsFor
  pub counts : SimplifyingCounts
  pub names : SimplifyingNames
  pub bounds : SimplifyingInBounds

pub simplify_laws : DecodedMapOfSimplified → SimplifyingEndsRepeats → SimplifyingStandsFor → SimplifyingCounts → SimplifyingNames → SimplifyingInBounds → SimplifyLaws
simplify_laws a b c d e f = record { decoded_map = a; ends = b; stands = c; counts = d; names = e; bounds = f }

-- columns of mappings within the limits are those of tokens
columns-within : (ss : List DecodedSource) (ns : List Text) (ts : List TokenRecord) → are_positions_within_limits (map (mapping_of ss ns) ts) ≡ true → list_all (λ t. nat_le t.dst_col 4294967295) ts ≡ true
columns-within ss ns [] e = refl
columns-within ss ns (t ∷ ts) e =
    let p = and_parts (is_position_within_limits (mapping_of ss ns t)) (are_positions_within_limits (map (mapping_of ss ns) ts)) e in
    let q = and_parts (nat_le t.dst_line 4294967295) (nat_le t.dst_col 4294967295) p.0 in
    rw (q.1, columns-within ss ns ts p.1) refl

within-test : (n : ℕ) → n ≤ 4294967295 → nat_le n 4294967295 ≡ true
within-test n h = grind (arith, nat_tests, h)

given : (sorted fit : Bool) (x m : MapRecord) → sorted ≡ true → cond sorted (cond fit (Ok x) (Err (Map TooLarge))) (Err Unsorted) ≡ Ok m → (fit ≡ true) × (x ≡ m)
given true true x m s e = (refl, cc (e))
given true false x m s e = absurd (cc (e))
given false fit x m s e = absurd (cc (s))

not-given : (sorted fit : Bool) (x : MapRecord) (e : PlanError) → sorted ≡ true → ◌≡◌ {A = Result MapRecord PlanError} (cond sorted (cond fit (Ok x) (Err (Map TooLarge))) (Err Unsorted)) (Err e) → (fit ≡ false) × (Map TooLarge ≡ e)
not-given true true x e s q = absurd (cc (q))
not-given true false x e s q = (refl, cc (q))
not-given false fit x e s q = absurd (cc (s))

module _ (laws : SimplifyLaws) (r : MapRecord) (o : Outcome) (g : Realizes r o) where
  abbrev meant : DecodedMap
  meant = simplified_decoded_map g.decoded_map

  means : (simplified_outcome o).meaning ≡ Ok meant
  means = ap simplified_meaning g.means

  -- repeats that the map has more or less are gone
  is_meant : decoded_map_of (simplified r) ≡ meant
  is_meant = laws.decoded_map r ∙ laws.ends (decoded_map_of r) g.decoded_map g.stands.up_to_repeats

  stands : StandsFor (simplified r) meant
  stands = laws.stands r g.decoded_map g.stands

  count : length (simplified r).tokens ≡ length meant.mappings
  count =
      let m = simplified r in
      sym (length-map m.tokens (mapping_of (sources_of m.sources m.source_contents) m.names)) ∙ ap (λ (s : DecodedMap). length s.mappings) is_meant

  sources : length (simplified r).sources ≡ length meant.sources
  sources = same-sources (simplified r) meant stands.up_to_repeats

  room : (simplified_outcome o).is_within_limits ≡ true → CountsFit o.names meant × (are_positions_within_limits meant.mappings ≡ true)
  room e =
      let p = and_parts o.is_within_limits (is_simplified_within_limits o.names (simplified_meaning o.meaning)) e in
      let q = and_parts (are_counts_within_limits o.names meant) (are_positions_within_limits meant.mappings) (ap (is_simplified_within_limits o.names) (sym means) ∙ p.1) in
      (counts-fit o.names meant q.0, q.1)

  fits-within : (simplified_outcome o).is_within_limits ≡ true → fits (simplified r) ≡ true
  fits-within e =
      let m = simplified r in
      let w = room e in
      let few = (laws.names r).1 in let gn = g.names in let nf = w.0.names_fit in
      let ss = sources in let sf = w.0.sources_fit in
      let columns = columns-within (sources_of m.sources m.source_contents) m.names m.tokens (ap (λ (s : DecodedMap). are_positions_within_limits s.mappings) is_meant ∙ w.1) in
      rw (within-test (length m.names) (omega (arith, few, gn, nf)), within-test (length m.sources) (omega (arith, ss, sf)), columns) refl

  pub simplify_gives : (m : MapRecord) → simplification r ≡ Ok m → Realizes m (simplified_outcome o)
  simplify_gives m e =
      let c = given (are_tokens_sorted r.tokens) (fits (simplified r)) (simplified r) m g.stands.sound.sorted e in
      let names = laws.names r in
      let nm = names.1 in let gn = g.names in
      let contents = (laws.counts r).2 in let ss = sources in
      let tokens = count in
      subst (λ x. Realizes x (simplified_outcome o)) c.1 (record {
        decoded_map = meant;
        means = means;
        stands = stands;
        in_bounds = laws.bounds r g.in_bounds c.0;
        map_record = ap (option_map simplified) g.map_record;
        texts = g.texts;
        tokens = omega (arith, tokens);
        names = omega (arith, nm, gn);
        contents = subst (λ q. length (simplified r).source_contents ≤ source_count q) (sym means) (omega (arith, contents, ss));
        known = names.0 (is_among o.names) g.known;
        within_limits = λ w. (room w).0.entries_fit;
        rewritten = λ k. absurd (both_ways false refl k);
      })

  pub simplify_error : (e : PlanError) → simplification r ≡ Err e → FailsAs e (simplified_outcome o)
  simplify_error e q =
      let c = not-given (are_tokens_sorted r.tokens) (fits (simplified r)) (simplified r) e g.stands.sound.sorted q in
      inr (inr (sym c.1, false_from_ne_true _ (λ w. both_ways (fits (simplified r)) c.0 (fits-within w))))

-- a part that fails
pub simplified_fails : (o : Outcome) (e : PlanError) → FailsAs e o → FailsAs e (simplified_outcome o)
simplified_fails o e r = elim r [
  | inl m ↦ inl m
  | inr t ↦ elim t [
    | inl k ↦ inr (inl (ap simplified_meaning k))
    | inr k ↦ inr (inr (k.0, and_left _ _ k.1))
  ]
]
