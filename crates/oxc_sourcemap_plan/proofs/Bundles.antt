-- The traces of a bundle.
use Rattle.std.proofs.Common.{◌≡◌, ℕ, ◌+◌, ◌<◌, ◌≤◌, Bool, true, false, ◌||◌, ◌==◌, List}
use Rattle.std.proofs.Common.{[]}
use Rattle.std.proofs.Common.{◌∷◌, ◌++◌, map, cond, refl, sym, ap, subst, ◌∙◌, arith}
use Rattle.std.specs.List.{list_any, AllByRecursion}
use Rattle.std.proofs.lemmas.Bool.Decides.{nat_tests}
use Rattle.std.proofs.lemmas.List.{map-append}
use Rattle.oxc_sourcemap_tokens.specs.Token.{TokenRecord}
use Rattle.oxc_sourcemap_parts.specs.Record.{Text, MapRecord}
use Rattle.oxc_sourcemap_parts.specs.DecodedMap.{DecodedSource, DecodedMap, mapping_of}
use Rattle.oxc_sourcemap_parts.specs.DecodedMap.{decoded_map_of}
use Rattle.oxc_sourcemap_lookup.specs.Trace.{trace, clamped_trace}
use Rattle.oxc_sourcemap_join.specs.Joined.{at_line, at_lines, joined, shifted_column}
use Rattle.oxc_sourcemap_plan.specs.JoinedDecodedMaps.{lowered}
use Rattle.oxc_sourcemap_plan.specs.JoinLaws.{AreAllInRange, decoded_maps_of}
use Rattle.oxc_sourcemap_plan.specs.TraceLaws.{Part, has_mapping_on}
use Rattle.oxc_sourcemap_plan.specs.BundleLaws.{AreBefore, BeginFrom, TracesOfBundle}
use Rattle.oxc_sourcemap_plan.proofs.TracesJoined.{traces_on_own_line_of_maps}

any-append : {A : Type 0} (p : A → Bool) (xs ys : List A) → list_any p xs ≡ false → list_any p ys ≡ false → list_any p (xs ++ ys) ≡ false
any-append p [] ys h k = k
any-append p (x ∷ xs) ys h k =
    elim (p x) as (λ b. (b || list_any p xs) ≡ false → (b || list_any p (xs ++ ys)) ≡ false) [
      | true ↦ (λ e. e)
      | false ↦ (λ e. any-append p xs ys e k)
    ] h

-- ---- lines without a mapping of a map
no-mapping : (sources : List DecodedSource) (names : List Text) (ts : List TokenRecord) (k n : ℕ) → AllByRecursion (λ t. ((t.dst_line + k) == n) ≡ false) ts
    → list_any (λ e. e.dst_line == n) (map (lowered (at_line k)) (map (mapping_of sources names) ts)) ≡ false
no-mapping sources names [] k n h = refl
no-mapping sources names (t ∷ ts) k n h = rw h.0 (no-mapping sources names ts k n h.1)

behind : (ts : List TokenRecord) (k n limit : ℕ) → AllByRecursion (λ t. t.dst_line + k < limit) ts → limit ≤ n → AllByRecursion (λ t. ((t.dst_line + k) == n) ≡ false) ts
behind [] k n limit h le = tt
behind (t ∷ ts) k n limit h le =
    let lt : t.dst_line + k < n = omega (arith, h.0, le) in
    (grind (arith, nat_tests, lt), behind ts k n limit h.1 le)

ahead : (ts : List TokenRecord) (k n : ℕ) → n < k → AllByRecursion (λ t. ((t.dst_line + k) == n) ≡ false) ts
ahead [] k n lt = tt
ahead (t ∷ ts) k n lt = let lt' : n < t.dst_line + k = omega (arith, lt) in (grind (arith, nat_tests, lt'), ahead ts k n lt)

none-of : (m : MapRecord) (k n : ℕ) (rest : List Part) → AllByRecursion (λ t. ((t.dst_line + k) == n) ≡ false) m.tokens → list_any (has_mapping_on n) rest ≡ false
    → list_any (has_mapping_on n) ((decoded_map_of m, at_line k) ∷ rest) ≡ false
none-of m k n rest h r = let first : has_mapping_on n (decoded_map_of m, at_line k) ≡ false = no-mapping _ m.names m.tokens k n h in rw first r

none-before : (ms : List (MapRecord × ℕ)) (n limit : ℕ) → AreBefore limit ms → limit ≤ n → list_any (has_mapping_on n) (decoded_maps_of (at_lines ms)) ≡ false
none-before [] n limit h le = refl
none-before (m ∷ ms) n limit h le =
    none-of m.0 m.1 n (decoded_maps_of (at_lines ms)) (behind m.0.tokens m.1 n limit h.0 le) (none-before ms n limit h.1 le)

none-after : (ms : List (MapRecord × ℕ)) (n limit : ℕ) → BeginFrom limit ms → n < limit → list_any (has_mapping_on n) (decoded_maps_of (at_lines ms)) ≡ false
none-after [] n limit h lt = refl
none-after (m ∷ ms) n limit h lt =
    none-of m.0 m.1 n (decoded_maps_of (at_lines ms)) (ahead m.0.tokens m.1 n (omega (arith, h.0, lt))) (none-after ms n limit h.1 lt)

-- ---- the law
column-kept : (k line col : ℕ) → shifted_column (at_line k) line col ≡ col
column-kept k line col = elim (line == 0) as (λ b. cond b (col + 0) col ≡ col) [ true ↦ omega arith | false ↦ refl ]

pub traces_of_bundle : TracesOfBundle
traces_of_bundle before m start lines after line col range own behind lt =
    let front = at_lines before in
    let back = at_lines after in
    let maps = front ++ (m, at_line start) ∷ back in
    let cut : at_lines (before ++ (m, start) ∷ after) ≡ maps = map-append (λ i. (i.0, at_line i.1)) before ((m, start) ∷ after) in
    let none : list_any (has_mapping_on (line + start)) (decoded_maps_of (front ++ back)) ≡ false =
    ap (list_any (has_mapping_on (line + start))) (map-append (λ m. (decoded_map_of m.0, m.1)) front back)
    ∙ any-append (has_mapping_on (line + start)) (decoded_maps_of front) (decoded_maps_of back) (none-before before (line + start) start own (omega arith)) (none-after after (line + start) (start + lines) behind (omega (arith, lt))) in
    let law = traces_on_own_line_of_maps front (m, at_line start) back line col (subst AreAllInRange cut range) none in
    let Same : DecodedMap → ℕ → Type 0 = λ s c. (trace s (line + start) c ≡ trace (decoded_map_of m) line col) × (clamped_trace s (line + start) c ≡ clamped_trace (decoded_map_of m) line col) in
    subst (λ ms. Same (decoded_map_of (joined ms)) col) (sym cut) (subst (Same (decoded_map_of (joined maps))) (column-kept start line col) law)
