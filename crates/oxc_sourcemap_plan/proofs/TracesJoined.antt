-- The traces of a sorted join.
use Rattle.std.proofs.Common.{◌≡◌, ℕ, ◌+◌, ◌-◌, ◌<◌, ◌≤◌, Bool, true, false, ◌&&◌, ◌||◌, ◌==◌}
use Rattle.std.proofs.Common.{nat_lt, nat_le, cond, List, [], ◌∷◌, ◌++◌, map, refl, sym, ap, subst}
use Rattle.std.proofs.Common.{◌∙◌, arith, Option, Some, None, is_some}
use Rattle.std.specs.List.{flat_map, list_any, AllByRecursion}
use Rattle.std.specs.Option.{option_map, option_or}
use Rattle.std.proofs.lemmas.Bool.Decides.{nat_tests}
use Rattle.std.proofs.lemmas.Grind.{flat_map-append}
use Rattle.std.proofs.lemmas.List.{map-append}
use Rattle.std.proofs.lemmas.List.Elements.{filter-append}
use Rattle.oxc_sourcemap_tokens.specs.declared.position.Position.{Position}
use Rattle.oxc_sourcemap_parts.specs.Record.{MapRecord}
use Rattle.oxc_sourcemap_parts.specs.Sorted.{may_precede, is_sorted_by, are_tokens_sorted}
use Rattle.oxc_sourcemap_parts.specs.DecodedMap.{DecodedMapping, OriginalPosition, mapping_line}
use Rattle.oxc_sourcemap_parts.specs.DecodedMap.{mapping_column, decoded_map_of}
use Rattle.oxc_sourcemap_lookup.specs.Lookup.{first, not_past, in_column, at, clamped_at, on_line}
use Rattle.oxc_sourcemap_lookup.specs.Lookup.{pick, clamped_pick}
use Rattle.oxc_sourcemap_lookup.specs.Trace.{trace, clamped_trace}
use Rattle.oxc_sourcemap_join.specs.Joined.{shifted_column, joined}
use Rattle.oxc_sourcemap_plan.specs.Repeats.{EqualUpToRepeats, is_sorted_decoded_map}
use Rattle.oxc_sourcemap_plan.specs.JoinedDecodedMaps.{lowered, joined_decoded_maps}
use Rattle.oxc_sourcemap_plan.specs.JoinLaws.{AreAllInRange, decoded_maps_of}
use Rattle.oxc_sourcemap_plan.specs.TraceLaws.{Part, has_mapping_on, has_mapping_at, has_begun}
use Rattle.oxc_sourcemap_plan.specs.TraceLaws.{column_in, trace_in, clamped_trace_in}
use Rattle.oxc_sourcemap_plan.specs.TraceLaws.{TracesAreOfParts, IsAnsweredBy, TracesAreOfPart}
use Rattle.oxc_sourcemap_plan.proofs.JoinStands.{all_weaker, sorted-mappings}
use Rattle.oxc_sourcemap_plan.proofs.JoinDecodedMaps.{decoded_map_joined}
use Rattle.oxc_sourcemap_plan.proofs.UpToRepeats.{trace_up_to_repeats, clamped_trace_up_to_repeats}
use Rattle.oxc_sourcemap_plan.proofs.UpToRepeats.{sorted_decoded_map_up_to_repeats}
use Rattle.oxc_sourcemap_plan.proofs.TracesMoved.{or_false, placed, pick_placed, traces_on_own_line}
use Rattle.oxc_sourcemap_plan.proofs.TracesMoved.{clamped_pick_placed}
use Rattle.oxc_sourcemap_plan.proofs.TracesRising.{or_kept, map_or, Rises, rises_left, rises_right}
use Rattle.oxc_sourcemap_plan.proofs.TracesRising.{at_rising, at_none, at_between, clamped_first}
use Rattle.oxc_sourcemap_plan.proofs.TracesRising.{Tells, at_chosen, clamped_at_chosen}

-- ---- on a line of sorted items no column goes back
precedes : (a b c x y z : ℕ) → (nat_lt a b || (a == b && nat_le x y)) ≡ true → (nat_lt b c || (b == c && nat_le y z)) ≡ true → (nat_lt a c || (a == c && nat_le x z)) ≡ true
precedes a b c x y z h k = grind (arith, nat_tests, h, k)

and_both : (a b : Bool) → (a && b) ≡ true → (a ≡ true) × (b ≡ true)
and_both true b h = (refl, h)
and_both false b h = absurd (cc (h))

module _ {A : Type 0} (line column : A → ℕ) where
  precedes_all : (x : A) (xs : List A) → is_sorted_by line column (x ∷ xs) ≡ true → AllByRecursion (λ y. may_precede line column x y ≡ true) xs
  precedes_all x [] h = tt
  precedes_all x (y ∷ ys) h =
      let both = and_both _ _ h in
      (both.0, all_weaker _ _ (λ z k. precedes (line x) (line y) (line z) (column x) (column y) (column z) both.0 k) ys (precedes_all y ys both.1))

  sorted_tail : (x : A) (xs : List A) → is_sorted_by line column (x ∷ xs) ≡ true → is_sorted_by line column xs ≡ true
  sorted_tail x [] h = refl
  sorted_tail x (y ∷ ys) h = (and_both _ _ h).1

  not_before : (n a x b y : ℕ) → (a == n) ≡ true → (b == n) ≡ true → (nat_lt a b || (a == b && nat_le x y)) ≡ true → x ≤ y
  not_before n a x b y e f h = grind (arith, nat_tests, e, f, h)

  line_all : (n : ℕ) (x : A) (xs : List A) → (line x == n) ≡ true → AllByRecursion (λ y. may_precede line column x y ≡ true) xs → AllByRecursion (λ y. column x ≤ column y) (on_line line n xs)
  line_all n x [] e h = tt
  line_all n x (y ∷ ys) e h =
      elim (line y == n) as (λ b. (line y == n) ≡ b → AllByRecursion (λ y. column x ≤ column y) (cond b (y ∷ on_line line n ys) (on_line line n ys))) [
        | true ↦ (λ f. (not_before n (line x) (column x) (line y) (column y) e f h.0, line_all n x ys e h.1))
        | false ↦ (λ f. line_all n x ys e h.1)
      ] refl

  line_rises : (n : ℕ) (xs : List A) → is_sorted_by line column xs ≡ true → Rises column (on_line line n xs)
  line_rises n [] h = tt
  line_rises n (x ∷ xs) h =
      elim (line x == n) as (λ b. (line x == n) ≡ b → Rises column (cond b (x ∷ on_line line n xs) (on_line line n xs))) [
        | true ↦ (λ e. (line_all n x xs e (precedes_all x xs h), line_rises n xs (sorted_tail x xs h)))
        | false ↦ (λ e. line_rises n xs (sorted_tail x xs h))
      ] refl

-- ---- where a position of the join lies in a part
begun_line : (l a c b : ℕ) → (nat_lt a l || (a == l && nat_le b c)) ≡ true → l - a + a ≡ l
begun_line l a c b h = let le : a ≤ l = grind (arith, nat_tests, h) in omega (arith, le)

begun_column : (l a c b : ℕ) → (nat_lt a l || (a == l && nat_le b c)) ≡ true → cond ((l - a) == 0) (cond (l == a) (c - b) c + b) (cond (l == a) (c - b) c) ≡ c
begun_column l a c b h =
    elim (l == a) as (λ same. (l == a) ≡ same → cond ((l - a) == 0) (cond same (c - b) c + b) (cond same (c - b) c) ≡ c) [
      | true ↦ (λ e.
          let on : l ≡ a = grind (arith, nat_tests, e) in
          let le : b ≤ c = grind (arith, nat_tests, h, on) in
          let none : l - a ≡ 0 = omega (arith, on) in
          let z : ((l - a) == 0) ≡ true = grind (arith, nat_tests, none) in
          let back : c - b + b ≡ c = omega (arith, le) in
          ap (λ first. cond first (c - b + b) (c - b)) z ∙ back)
      | false ↦ (λ e.
          let other : a < l = grind (arith, nat_tests, h, e) in
          let some : 0 < l - a = omega (arith, other) in
          let z : ((l - a) == 0) ≡ false = grind (arith, nat_tests, some) in
          ap (λ first. cond first (c + b) c) z)
    ] refl

-- the mappings of a part in front of whose offset a position lies
none_before : (offset : Position) (line col : ℕ) (es : List DecodedMapping) → ((e : DecodedMapping) → ((e.dst_line + offset.line) == line) ≡ true → nat_le (shifted_column offset e.dst_line e.dst_col) col ≡ false)
    → not_past mapping_column col (on_line mapping_line line (map (lowered offset) es)) ≡ []
none_before offset line col [] h = refl
none_before offset line col (e ∷ es) h =
    let rest = on_line mapping_line line (map (lowered offset) es) in
    elim ((e.dst_line + offset.line) == line) as (λ b. ((e.dst_line + offset.line) == line) ≡ b → not_past mapping_column col (cond b (lowered offset e ∷ rest) rest) ≡ []) [
      | true ↦ (λ f. ap (λ b. cond b (lowered offset e ∷ not_past mapping_column col rest) (not_past mapping_column col rest)) (h e f) ∙ none_before offset line col es h)
      | false ↦ (λ f. none_before offset line col es h)
    ] refl

past_all : (offset : Position) (line col : ℕ) (es : List DecodedMapping) → ((e : DecodedMapping) → ((e.dst_line + offset.line) == line) ≡ true → col ≤ shifted_column offset e.dst_line e.dst_col)
    → AllByRecursion (λ e. col ≤ mapping_column e) (on_line mapping_line line (map (lowered offset) es))
past_all offset line col [] h = tt
past_all offset line col (e ∷ es) h =
    let rest = on_line mapping_line line (map (lowered offset) es) in
    elim ((e.dst_line + offset.line) == line) as (λ b. ((e.dst_line + offset.line) == line) ≡ b → AllByRecursion (λ e. col ≤ mapping_column e) (cond b (lowered offset e ∷ rest) rest)) [
      | true ↦ (λ f. (h e f, past_all offset line col es h))
      | false ↦ (λ f. past_all offset line col es h)
    ] refl

-- on line 0 of a part, no column is before that of the offset
first_line : (offset : Position) (n line col : ℕ) → ((n + offset.line) == line) ≡ true → line ≤ offset.line → offset.column ≤ shifted_column offset n col
first_line offset n line col e h =
    let zero : n ≡ 0 = grind (arith, nat_tests, e, h) in
    let z : (n == 0) ≡ true = grind (arith, nat_tests, zero) in
    subst (λ b. offset.column ≤ cond b (col + offset.column) col) (sym z) (omega arith)

not_begun_line : (l a c b : ℕ) → (nat_lt a l || (a == l && nat_le b c)) ≡ false → l ≤ a
not_begun_line l a c b h = grind (arith, nat_tests, h)

not_begun_column : (l a c b n : ℕ) → (nat_lt a l || (a == l && nat_le b c)) ≡ false → ((n + a) == l) ≡ true → c < b
not_begun_column l a c b n h e = grind (arith, nat_tests, h, e)

abbrev originals : Option DecodedMapping → Option (Option OriginalPosition)
originals q = option_map (λ e. e.original) q

abbrev items_of : ℕ → Part → List DecodedMapping
items_of line part = on_line mapping_line line (placed part)

-- a part that begins after a position has no mapping at or before it on its line
none_begun : (line col : ℕ) (part : Part) → has_begun line col part.1 ≡ false → not_past mapping_column col (items_of line part) ≡ []
none_begun line col part h =
    let offset = part.1 in
    none_before offset line col part.0.mappings (λ e f.
    let before : col < offset.column = not_begun_column line offset.line col offset.column e.dst_line h f in
    let after = first_line offset e.dst_line line e.dst_col f (not_begun_line line offset.line col offset.column h) in
    let more : col < shifted_column offset e.dst_line e.dst_col = omega (arith, before, after) in
    grind (arith, nat_tests, more))

trace_in_is : (line col : ℕ) (part : Part) → trace_in line col part ≡ originals (at mapping_column (items_of line part) col)
trace_in_is line col part =
    let offset = part.1 in
    let es = part.0.mappings in
    elim (has_begun line col offset) as (λ b. has_begun line col offset ≡ b → cond b (trace part.0 (line - offset.line) (column_in line col offset)) None ≡ originals (at mapping_column (items_of line part) col)) [
      | true ↦ (λ e.
          sym (pick_placed offset es (line - offset.line) (column_in line col offset))
          ∙ ap (λ n. originals (pick mapping_line mapping_column (placed part) n (shifted_column offset (line - offset.line) (column_in line col offset)))) (begun_line line offset.line col offset.column e)
          ∙ ap (λ n. originals (pick mapping_line mapping_column (placed part) line n)) (begun_column line offset.line col offset.column e))
      | false ↦ (λ e. sym (ap originals (at_none mapping_column (items_of line part) col (none_begun line col part e))))
    ] refl

abbrev head_of : ℕ → Part → Option (Option OriginalPosition)
head_of line part = originals (first (items_of line part))

none_here : (line : ℕ) (offset : Position) (es : List DecodedMapping) → line < offset.line → on_line mapping_line line (map (lowered offset) es) ≡ []
none_here line offset [] h = refl
none_here line offset (e ∷ es) h =
    let rest = on_line mapping_line line (map (lowered offset) es) in
    let f : ((e.dst_line + offset.line) == line) ≡ false = grind (arith, nat_tests, h) in
    ap (λ b. cond b (lowered offset e ∷ rest) rest) f ∙ none_here line offset es h

-- the clamped trace of a part on whose first line, in front of it, the position lies
clamped_before : (line col : ℕ) (part : Part) → has_begun line col part.1 ≡ false → nat_le part.1.line line ≡ true → Rises mapping_column (items_of line part)
    → clamped_trace part.0 (line - part.1.line) (column_in line col part.1) ≡ head_of line part
clamped_before line col part h k r =
    let offset = part.1 in
    let same : line ≡ offset.line = grind (arith, nat_tests, k, not_begun_line line offset.line col offset.column h) in
    let itself : ((0 + offset.line) == line) ≡ true = grind (arith, nat_tests, same) in
    let before : col < offset.column = not_begun_column line offset.line col offset.column 0 h itself in
    let l : line - offset.line ≡ 0 = omega (arith, same) in
    let on : (line == offset.line) ≡ true = grind (arith, nat_tests, same) in
    let none : col - offset.column ≡ 0 = omega (arith, before) in
    let back : 0 + offset.line ≡ line = omega (arith, same) in
    let front : 0 + offset.column ≡ offset.column = omega arith in
    ap (λ n. clamped_trace part.0 n (column_in line col offset)) l
    ∙ ap (λ b. clamped_trace part.0 0 (cond b (col - offset.column) col)) on
    ∙ ap (clamped_trace part.0 0) none
    ∙ sym (clamped_pick_placed offset part.0.mappings 0 0)
    ∙ ap (λ n. originals (clamped_pick mapping_line mapping_column (placed part) n (0 + offset.column))) back
    ∙ ap (λ n. originals (clamped_pick mapping_line mapping_column (placed part) line n)) front
    ∙ ap originals (clamped_first mapping_column (items_of line part) offset.column r (past_all offset line offset.column part.0.mappings (λ e f. first_line offset e.dst_line line e.dst_col f (omega (arith, same)))))

clamped_trace_in_is : (line col : ℕ) (part : Part) → Rises mapping_column (items_of line part) → clamped_trace_in line col part ≡ option_or (trace_in line col part) (head_of line part)
clamped_trace_in_is line col part r =
    let offset = part.1 in
    let here = at mapping_column (items_of line part) col in
    elim (nat_le offset.line line) as (λ b. nat_le offset.line line ≡ b → cond b (clamped_trace part.0 (line - offset.line) (column_in line col offset)) None ≡ option_or (trace_in line col part) (head_of line part)) [
      | true ↦ (λ k. elim (has_begun line col offset) as (λ b. has_begun line col offset ≡ b → clamped_trace part.0 (line - offset.line) (column_in line col offset) ≡ option_or (cond b (trace part.0 (line - offset.line) (column_in line col offset)) None) (head_of line part)) [
        | true ↦ (λ e.
            sym (clamped_pick_placed offset part.0.mappings (line - offset.line) (column_in line col offset))
            ∙ ap (λ n. originals (clamped_pick mapping_line mapping_column (placed part) n (shifted_column offset (line - offset.line) (column_in line col offset)))) (begun_line line offset.line col offset.column e)
            ∙ ap (λ n. originals (clamped_pick mapping_line mapping_column (placed part) line n)) (begun_column line offset.line col offset.column e)
            ∙ map_or (λ e. e.original) here (first (items_of line part))
            ∙ ap (λ q. option_or q (head_of line part)) (sym (trace_in_is line col part) ∙ ap (λ b. cond b (trace part.0 (line - offset.line) (column_in line col offset)) None) e))
        | false ↦ (λ e. clamped_before line col part e k r)
      ] refl)
      | false ↦ (λ k.
          let none : items_of line part ≡ [] = none_here line offset part.0.mappings (grind (arith, nat_tests, k)) in
          sym (ap (λ q. option_or q (head_of line part)) (trace_in_is line col part) ∙ ap (λ xs. option_or (originals (at mapping_column xs col)) (originals (first xs))) none ∙ ap (λ q. option_or (originals q) None) (at_none mapping_column [] col refl)))
    ] refl

-- ---- tests of a part's mappings
any_at : (line col : ℕ) (xs : List DecodedMapping) → list_any (λ e. e.dst_line == line && e.dst_col == col) xs ≡ is_some (originals (first (in_column mapping_column col (on_line mapping_line line xs))))
any_at line col [] = refl
any_at line col (x ∷ xs) =
    let rest = on_line mapping_line line xs in
    elim (x.dst_line == line) as (λ b. ((b && x.dst_col == col) || list_any (λ e. e.dst_line == line && e.dst_col == col) xs) ≡ is_some (originals (first (in_column mapping_column col (cond b (x ∷ rest) rest))))) [
      | true ↦ elim (x.dst_col == col) as (λ b. (b || list_any (λ e. e.dst_line == line && e.dst_col == col) xs) ≡ is_some (originals (first (cond b (x ∷ in_column mapping_column col rest) (in_column mapping_column col rest))))) [ true ↦ refl | false ↦ any_at line col xs ]
      | false ↦ any_at line col xs
    ]

any_on : (line : ℕ) (xs : List DecodedMapping) → list_any (λ e. e.dst_line == line) xs ≡ is_some (originals (first (on_line mapping_line line xs)))
any_on line [] = refl
any_on line (x ∷ xs) =
    let rest = on_line mapping_line line xs in
    elim (x.dst_line == line) as (λ b. (b || list_any (λ e. e.dst_line == line) xs) ≡ is_some (originals (first (cond b (x ∷ rest) rest)))) [ true ↦ refl | false ↦ any_on line xs ]

-- ---- the parts of a join
line_of_join : (line : ℕ) (parts : List Part) → on_line mapping_line line (flat_map placed parts) ≡ flat_map (items_of line) parts
line_of_join line [] = refl
line_of_join line (p ∷ ps) = filter-append _ (placed p) (flat_map placed ps) ∙ ap (λ xs. items_of line p ++ xs) (line_of_join line ps)

all_tell : (line col : ℕ) (parts : List Part) → Rises mapping_column (flat_map (items_of line) parts)
    → AllByRecursion (Tells mapping_column (λ e. e.original) (items_of line) col (trace_in line col) (clamped_trace_in line col) (has_mapping_at line col) (has_mapping_on line)) parts
all_tell line col [] r = tt
all_tell line col (p ∷ ps) r =
    let here = rises_left mapping_column (items_of line p) (flat_map (items_of line) ps) r in (
      record {
        is_exact = trace_in_is line col p ∙ ap originals (at_rising mapping_column (items_of line p) col here) ∙ map_or (λ e. e.original) _ _;
        is_clamped = clamped_trace_in_is line col p here;
        is_hit = any_at line col (placed p);
        is_on = any_on line (placed p);
      },
      all_tell line col ps (rises_right mapping_column (items_of line p) (flat_map (items_of line) ps) r),
    )

pub traces_joined : (parts : List Part) → is_sorted_decoded_map (joined_decoded_maps parts) ≡ true → TracesAreOfParts (joined_decoded_maps parts) parts
traces_joined parts h = λ line col.
    let e = line_of_join line parts in
    let r : Rises mapping_column (flat_map (items_of line) parts) = subst (Rises mapping_column) e (line_rises mapping_line mapping_column line (flat_map placed parts) h) in
    let tell = all_tell line col parts r in (
      ap (λ xs. originals (at mapping_column xs col)) e ∙ at_chosen mapping_column (λ e. e.original) (items_of line) col (trace_in line col) (clamped_trace_in line col) (has_mapping_at line col) (has_mapping_on line) parts r tell,
      ap (λ xs. originals (clamped_at mapping_column xs col)) e ∙ clamped_at_chosen mapping_column (λ e. e.original) (items_of line) col (trace_in line col) (clamped_trace_in line col) (has_mapping_at line col) (has_mapping_on line) parts r tell,
    )

-- ---- a position in one part
no_first : (xs : List DecodedMapping) → is_some (originals (first xs)) ≡ false → xs ≡ []
no_first [] h = refl
no_first (x ∷ xs) h = absurd (cc (h))

some_original : (q : Option DecodedMapping) → is_some (originals q) ≡ is_some q
some_original None = refl
some_original (Some e) = refl

none_at : (line col : ℕ) (parts : List Part) → list_any (has_mapping_at line col) parts ≡ false → in_column mapping_column col (flat_map (items_of line) parts) ≡ []
none_at line col [] h = refl
none_at line col (p ∷ ps) h =
    let both = or_false (has_mapping_at line col p) (list_any (has_mapping_at line col) ps) h in
    filter-append _ (items_of line p) (flat_map (items_of line) ps)
    ∙ ap (λ xs. xs ++ in_column mapping_column col (flat_map (items_of line) ps)) (no_first _ (sym (any_at line col (placed p)) ∙ both.0)) ∙ none_at line col ps both.1

none_after : (line col : ℕ) (parts : List Part) → list_any (λ p. has_begun line col p.1) parts ≡ false → not_past mapping_column col (flat_map (items_of line) parts) ≡ []
none_after line col [] h = refl
none_after line col (p ∷ ps) h =
    let both = or_false (has_begun line col p.1) (list_any (λ p. has_begun line col p.1) ps) h in
    filter-append _ (items_of line p) (flat_map (items_of line) ps)
    ∙ ap (λ xs. xs ++ not_past mapping_column col (flat_map (items_of line) ps)) (none_begun line col p both.0) ∙ none_after line col ps both.1

pub traces_within : (before : List Part) (part : Part) (after : List Part) (line col : ℕ) → is_sorted_decoded_map (joined_decoded_maps (before ++ part ∷ after)) ≡ true
    → IsAnsweredBy before part after line col → TracesAreOfPart (before ++ part ∷ after) part line col
traces_within before part after line col h is =
    let parts = before ++ part ∷ after in
    let n = line + part.1.line in
    let c = shifted_column part.1 line col in
    let xs = flat_map (items_of n) before in
    let ys = items_of n part in
    let zs = flat_map (items_of n) after in
    let e : on_line mapping_line n (joined_decoded_maps parts).mappings ≡ xs ++ (ys ++ zs) = line_of_join n parts ∙ flat_map-append (items_of n) before (part ∷ after) in
    let r : Rises mapping_column (xs ++ (ys ++ zs)) = subst (Rises mapping_column) e (line_rises mapping_line mapping_column n (joined_decoded_maps parts).mappings h) in
    let exact : originals (at mapping_column ys c) ≡ trace part.0 line col = pick_placed part.1 part.0.mappings line col in
    let some : is_some (at mapping_column ys c) ≡ true = sym (some_original (at mapping_column ys c)) ∙ ap is_some exact ∙ is.finds in
    let same : at mapping_column (xs ++ (ys ++ zs)) c ≡ at mapping_column ys c = at_between mapping_column xs ys zs c r (none_at n c before is.none_at) (none_after n c after is.none_begun) some in (
      ap (λ ws. originals (at mapping_column ws c)) e ∙ ap originals same ∙ exact,
      ap (λ ws. originals (clamped_at mapping_column ws c)) e
          ∙ ap (λ q. originals (option_or q (first (xs ++ (ys ++ zs))))) same ∙ ap originals (or_kept (at mapping_column ys c) _ some ∙ sym (or_kept (at mapping_column ys c) (first ys) some))
          ∙ clamped_pick_placed part.1 part.0.mappings line col,
    )

pub traces_of_joined_maps : (ms : List (MapRecord × Position)) → AreAllInRange ms → are_tokens_sorted (joined ms).tokens ≡ true → TracesAreOfParts (decoded_map_of (joined ms)) (decoded_maps_of ms)
traces_of_joined_maps ms h k =
    let s = decoded_map_of (joined ms) in
    let t = joined_decoded_maps (decoded_maps_of ms) in
    let e : EqualUpToRepeats s t = decoded_map_joined ms h in
    let are = traces_joined (decoded_maps_of ms) (sym (sorted_decoded_map_up_to_repeats s t e) ∙ sorted-mappings (joined ms) ∙ k) in
    λ line col. (trace_up_to_repeats s t e line col ∙ (are line col).0, clamped_trace_up_to_repeats s t e line col ∙ (are line col).1)

pub traces_on_own_line_of_maps : (before : List (MapRecord × Position)) (m : MapRecord × Position) (after : List (MapRecord × Position)) (line col : ℕ) → AreAllInRange (before ++ m ∷ after)
    → list_any (has_mapping_on (line + m.1.line)) (decoded_maps_of (before ++ after)) ≡ false
    → (trace (decoded_map_of (joined (before ++ m ∷ after))) (line + m.1.line) (shifted_column m.1 line col) ≡ trace (decoded_map_of m.0) line col)
    × (clamped_trace (decoded_map_of (joined (before ++ m ∷ after))) (line + m.1.line) (shifted_column m.1 line col) ≡ clamped_trace (decoded_map_of m.0) line col)
traces_on_own_line_of_maps before m after line col h none =
    let ms = before ++ m ∷ after in
    let s = decoded_map_of (joined ms) in
    let t = joined_decoded_maps (decoded_maps_of ms) in
    let line' = line + m.1.line in
    let col' = shifted_column m.1 line col in
    let decoded : MapRecord × Position → Part = λ m. (decoded_map_of m.0, m.1) in
    let e : EqualUpToRepeats s t = decoded_map_joined ms h in
    let others = ap (list_any (has_mapping_on line')) (sym (map-append decoded before after)) ∙ none in
    let own = traces_on_own_line (decoded_maps_of before) (decoded_map_of m.0, m.1) (decoded_maps_of after) line col others in
    let parts = ap joined_decoded_maps (map-append decoded before (m ∷ after)) in (
      trace_up_to_repeats s t e line' col' ∙ ap (λ u. trace u line' col') parts ∙ own.0,
      clamped_trace_up_to_repeats s t e line' col' ∙ ap (λ u. clamped_trace u line' col') parts ∙ own.1,
    )
