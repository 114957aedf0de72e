-- Where maps and simplified maps differ.
use Rattle.std.proofs.Common.{◌≡◌, refl, sym, ap, ◌∙◌, ℕ, ◌<◌, ◌≤◌, Bool, true, false, cond, ◌==◌}
use Rattle.std.proofs.Common.{List, [], ◌∷◌, map, length, nat_le, nat_lt, arith}
use Rattle.std.proofs.Common.{if◌then◌else◌, subst}
use Rattle.std.proofs.lemmas.Bool.Decides.{nat_tests}
use Rattle.std.proofs.lemmas.List.{length-map}
use Rattle.std.specs.List.{filter, AllByRecursion}
use Rattle.std.specs.Option.{option_map}
use Rattle.oxc_sourcemap_tokens.specs.Token.{TokenRecord, last}
use Rattle.oxc_sourcemap_parts.specs.DecodedMap.{DecodedSource, sources_of}
use Rattle.oxc_sourcemap_parts.specs.DecodedMap.{mapping_of, decoded_map_of, mapping_line}
use Rattle.oxc_sourcemap_parts.specs.DecodedMap.{mapping_column}
use Rattle.oxc_sourcemap_parts.specs.Record.{Text, MapRecord}
use Rattle.oxc_sourcemap_parts.specs.Sorted.{are_tokens_sorted}
use Rattle.oxc_sourcemap_lookup.specs.Lookup.{greatest, not_past, in_column, at, on_line, first}
use Rattle.oxc_sourcemap_lookup.specs.Trace.{trace}
use Rattle.oxc_sourcemap_queries.specs.Differences.{HaveSameTraceEverywhere}
use Rattle.oxc_sourcemap_steps.specs.Simplified.{simplified_decoded_map, simplified}
use Rattle.oxc_sourcemap_steps.specs.SimplifyLaws.{IsSortedMap}
use Rattle.oxc_sourcemap_steps.proofs.Means.{decoded_map_simplified}
use Rattle.oxc_sourcemap_steps.proofs.Sound.{simplified-sorted, sorted-mappings}
use Rattle.oxc_sourcemap_steps.proofs.Traces.{traces-stay, is-least}
use Rattle.oxc_sourcemap_plan.specs.DifferenceLaws.{SimplifiedTracesSame, SimplificationTracesSame}
use Rattle.oxc_sourcemap_plan.specs.DifferenceLaws.{AreBelowLastColumn, SimplifiedIsLeast}
use Rattle.oxc_sourcemap_plan.proofs.SimplifiedWhole.{simplified-by}

sorted-map : (r : MapRecord) → are_tokens_sorted r.tokens ≡ true → IsSortedMap (decoded_map_of r)
sorted-map r h = sorted-mappings (sources_of r.sources r.source_contents) r.names r.tokens ∙ h

-- the traces of a simplified map
same-trace : (r : MapRecord) → are_tokens_sorted r.tokens ≡ true → (line col : ℕ) → trace (decoded_map_of (simplified r)) line col ≡ trace (decoded_map_of r) line col
same-trace r h line col = ap (λ s. trace s line col) (decoded_map_simplified r) ∙ (traces-stay (decoded_map_of r) (sorted-map r h) line col).0

pub simplified_traces_same : SimplifiedTracesSame
simplified_traces_same r h line col small = sym (same-trace r h line col)

pub simplification_traces_same : SimplificationTracesSame
simplification_traces_same r m e =
    let p = simplified-by r m e in
    let sorted : are_tokens_sorted m.tokens ≡ true = subst (λ m. are_tokens_sorted m.tokens ≡ true) p.2 (simplified-sorted r p.0) in
    let same : HaveSameTraceEverywhere r m = subst (HaveSameTraceEverywhere r) p.2 (simplified_traces_same r p.0) in
    (p.0, sorted, same)

-- ---- columns past all items
module _ {A : Type 0} (column : A → ℕ) where
  abbrev AreBelow : ℕ → List A → Type 0
  AreBelow c items = AllByRecursion (λ x. column x < c) items

  all-passed : (c col : ℕ) (items : List A) → c ≤ col → AreBelow c items → not_past column col items ≡ items
  all-passed c col [] le h = refl
  all-passed c col (x ∷ items) le h =
      let e : nat_le (column x) col ≡ true = let lt = h.0 in grind (arith, nat_tests, lt, le) in
      rw e (ap (λ l. x ∷ l) (all-passed c col items le h.1))

  greatest-below : (c : ℕ) (items : List A) → 0 < c → AreBelow c items → greatest column items < c
  greatest-below c [] lt h = lt
  greatest-below c (x ∷ items) lt h = let more = greatest-below c items lt h.1 in let one = h.0 in grind (arith, more, one)

  -- past all items a lookup finds the last one at the greatest column
  at-late : (c col : ℕ) (items : List A) → 0 < c → c ≤ col → AreBelow c items → at column items col ≡ last (in_column column (greatest column items) items)
  at-late c col items lt le h =
      let g = greatest-below c items lt h in
      let off : (greatest column items == col) ≡ false = grind (arith, nat_tests, g, le) in
      ap (λ xs. let best = greatest column xs in let near = in_column column best xs in if best == col then first near else last near) (all-passed c col items le h)
      ∙ ap (λ b. if b then first (in_column column (greatest column items) items) else last (in_column column (greatest column items) items)) off

  still-below : (c : ℕ) (p : A → Bool) (items : List A) → AreBelow c items → AreBelow c (filter p items)
  still-below c p [] h = tt
  still-below c p (x ∷ items) h =
      let more = still-below c p items h.1 in
      elim (p x) as (λ b. AreBelow c (cond b (x ∷ filter p items) (filter p items))) [
        | true ↦ (h.0, more)
        | false ↦ more
      ]

mappings-below : (sources : List DecodedSource) (names : List Text) (c : ℕ) (tokens : List TokenRecord) → AllByRecursion (λ t. t.dst_col < c) tokens → AreBelow mapping_column c (map (mapping_of sources names) tokens)
mappings-below sources names c [] h = tt
mappings-below sources names c (t ∷ tokens) h = (h.0, mappings-below sources names c tokens h.1)

-- past all tokens the traces stay
late-trace : (r : MapRecord) (line col : ℕ) → AreBelowLastColumn r.tokens → 4294967295 ≤ col → trace (decoded_map_of r) line col ≡ trace (decoded_map_of r) line 4294967295
late-trace r line col h le =
    let s = decoded_map_of r in
    let items = on_line mapping_line line s.mappings in
    let below = still-below mapping_column 4294967295 (λ e. mapping_line e == line) s.mappings (mappings-below (sources_of r.sources r.source_contents) r.names 4294967295 r.tokens h) in
    ap (option_map (λ e. e.original)) (at-late mapping_column 4294967295 col items (omega arith) le below ∙ sym (at-late mapping_column 4294967295 4294967295 items (omega arith) (omega arith) below))

module _ (a b : MapRecord) (p : are_tokens_sorted a.tokens ≡ true) (q : are_tokens_sorted b.tokens ≡ true)
    (below : AreBelowLastColumn a.tokens) (low : AreBelowLastColumn b.tokens) (same : HaveSameTraceEverywhere a b) where
  everywhere : (line col : ℕ) → trace (decoded_map_of a) line col ≡ trace (decoded_map_of b) line col
  everywhere line col =
      elim (nat_lt col 4294967296) as (λ t. nat_lt col 4294967296 ≡ t → trace (decoded_map_of a) line col ≡ trace (decoded_map_of b) line col) [
        | true ↦ (λ e. same line col (grind (arith, nat_tests, e)))
        | false ↦ (λ e. let le : 4294967295 ≤ col = grind (arith, nat_tests, e) in late-trace a line col below le ∙ same line 4294967295 (omega arith) ∙ sym (late-trace b line col low le))
      ] refl

count-of : (r : MapRecord) → length (simplified r).tokens ≡ length (simplified_decoded_map (decoded_map_of r)).mappings
count-of r =
    let m = simplified r in
    sym (length-map m.tokens (mapping_of (sources_of m.sources m.source_contents) m.names)) ∙ ap (λ s. length s.mappings) (decoded_map_simplified r)

pub simplified_is_least : SimplifiedIsLeast
simplified_is_least a b p q below low same =
    let least = is-least (decoded_map_of a) (decoded_map_of b) (sorted-map a p) (sorted-map b q) (everywhere a b p q below low same) in
    let m = count-of a in
    let n = length-map b.tokens (mapping_of (sources_of b.sources b.source_contents) b.names) in
    omega (arith, least, m, n)
