-- Lookups in the mappings of a part of a join, each at its offset.
use Rattle.std.proofs.Common.{◌≡◌, ℕ, ◌+◌, Bool, true, false, ◌||◌, ◌==◌, nat_le, cond, max, List}
use Rattle.std.proofs.Common.{[], ◌∷◌, ◌++◌, map, refl, sym, ap, ◌∙◌, arith, Option, Some, None}
use Rattle.std.specs.List.{filter, flat_map, list_any, AllByRecursion}
use Rattle.std.specs.Option.{option_map, option_or}
use Rattle.std.proofs.lemmas.Bool.Decides.{nat_tests}
use Rattle.std.proofs.lemmas.List.{append-nil}
use Rattle.std.proofs.lemmas.List.Elements.{filter-append}
use Rattle.std.proofs.lemmas.List.Folds.{list_any-append}
use Rattle.std.proofs.lemmas.Grind.{flat_map-append}
use Rattle.oxc_sourcemap_tokens.specs.Token.{last}
use Rattle.oxc_sourcemap_tokens.specs.declared.position.Position.{Position}
use Rattle.oxc_sourcemap_parts.specs.DecodedMap.{DecodedMapping, mapping_line, mapping_column}
use Rattle.oxc_sourcemap_lookup.specs.Lookup.{first, greatest, not_past, in_column, at, clamped_at}
use Rattle.oxc_sourcemap_lookup.specs.Lookup.{on_line, pick, clamped_pick}
use Rattle.oxc_sourcemap_lookup.proofs.Picks.{pick-map, clamped_pick-map}
use Rattle.oxc_sourcemap_join.specs.Joined.{shifted_column}
use Rattle.oxc_sourcemap_plan.specs.JoinedDecodedMaps.{lowered, joined_decoded_maps}
use Rattle.oxc_sourcemap_plan.specs.TraceLaws.{Part, has_mapping_on, TracesAreOfPart}
use Rattle.oxc_sourcemap_plan.proofs.JoinStands.{all_weaker}

-- ---- filters
module _ {A : Type 0} where
  pub filter_same : (p q : A → Bool) → ((x : A) → p x ≡ q x) → (xs : List A) → filter p xs ≡ filter q xs
  filter_same p q h [] = refl
  filter_same p q h (x ∷ xs) = ap (λ b. cond b (x ∷ filter p xs) (filter p xs)) (h x) ∙ ap (λ ys. cond (q x) (x ∷ ys) ys) (filter_same p q h xs)

  pub filter_within : (p q : A → Bool) (xs : List A) → AllByRecursion (λ x. p x ≡ q x) xs → filter p xs ≡ filter q xs
  filter_within p q [] h = refl
  filter_within p q (x ∷ xs) h = ap (λ b. cond b (x ∷ filter p xs) (filter p xs)) h.0 ∙ ap (λ ys. cond (q x) (x ∷ ys) ys) (filter_within p q xs h.1)

  pub all_filter : (P : A → Type 0) (p : A → Bool) (xs : List A) → AllByRecursion P xs → AllByRecursion P (filter p xs)
  all_filter P p [] h = tt
  all_filter P p (x ∷ xs) h = elim (p x) as (λ b. AllByRecursion P (cond b (x ∷ filter p xs) (filter p xs))) [ true ↦ (h.0, all_filter P p xs h.1) | false ↦ all_filter P p xs h.1 ]

  pub all_kept : (p : A → Bool) (xs : List A) → AllByRecursion (λ x. p x ≡ true) (filter p xs)
  all_kept p [] = tt
  all_kept p (x ∷ xs) = elim (p x) as (λ b. p x ≡ b → AllByRecursion (λ x. p x ≡ true) (cond b (x ∷ filter p xs) (filter p xs))) [ true ↦ (λ e. (e, all_kept p xs)) | false ↦ (λ e. all_kept p xs) ] refl

  pub filter_none : (p : A → Bool) (xs : List A) → list_any p xs ≡ false → filter p xs ≡ []
  filter_none p [] h = refl
  filter_none p (x ∷ xs) h = elim (p x) as (λ b. (b || list_any p xs) ≡ false → cond b (x ∷ filter p xs) (filter p xs) ≡ []) [ true ↦ (λ e. absurd (cc (e))) | false ↦ (λ e. filter_none p xs e) ] h

-- ---- columns moved by a function that keeps their order
greatest_within : {A : Type 0} (c d : A → ℕ) (xs : List A) → AllByRecursion (λ x. c x ≡ d x) xs → greatest c xs ≡ greatest d xs
greatest_within c d [] h = refl
greatest_within c d (x ∷ xs) h = ap (λ n. max n (greatest c xs)) h.0 ∙ ap (max (d x)) (greatest_within c d xs h.1)

at_within : {A : Type 0} (c d : A → ℕ) (xs : List A) (col : ℕ) → AllByRecursion (λ x. c x ≡ d x) xs → at c xs col ≡ at d xs col
at_within c d xs col h =
    let ys = not_past d col xs in
    let past : not_past c col xs ≡ ys = filter_within _ _ xs (all_weaker _ _ (λ x e. ap (λ n. nat_le n col) e) xs h) in
    let all : AllByRecursion (λ x. c x ≡ d x) ys = all_filter _ _ xs h in
    ap (λ zs. cond (greatest c zs == col) (first (in_column c (greatest c zs) zs)) (last (in_column c (greatest c zs) zs))) past
    ∙ ap (λ n. cond (n == col) (first (in_column c n ys)) (last (in_column c n ys))) (greatest_within c d ys all)
    ∙ ap (λ zs. cond (greatest d ys == col) (first zs) (last zs)) (filter_within _ _ ys (all_weaker _ _ (λ x e. ap (λ n. n == greatest d ys) e) ys all))

pub cond_same : {A : Type 0} (b : Bool) (x : A) → cond b x x ≡ x
cond_same true x = refl
cond_same false x = refl

module _ {A : Type 0} (c : A → ℕ) (g : ℕ → ℕ) (le : (a b : ℕ) → nat_le (g a) (g b) ≡ nat_le a b) (eq : (a b : ℕ) → (g a == g b) ≡ (a == b)) (most : (a b : ℕ) → max (g a) (g b) ≡ g (max a b)) where
  greatest_moved : (x : A) (xs : List A) → greatest (λ x. g (c x)) (x ∷ xs) ≡ g (greatest c (x ∷ xs))
  greatest_moved x [] = let e : max (g (c x)) 0 ≡ g (c x) = omega arith in let f : c x ≡ max (c x) 0 = omega arith in e ∙ ap g f
  greatest_moved x (y ∷ ys) = ap (max (g (c x))) (greatest_moved y ys) ∙ most (c x) (greatest c (y ∷ ys))

  near_moved : (ys : List A) (col : ℕ)
      → cond (greatest (λ x. g (c x)) ys == g col) (first (in_column (λ x. g (c x)) (greatest (λ x. g (c x)) ys) ys)) (last (in_column (λ x. g (c x)) (greatest (λ x. g (c x)) ys) ys))
      ≡ cond (greatest c ys == col) (first (in_column c (greatest c ys) ys)) (last (in_column c (greatest c ys) ys))
  near_moved [] col = cond_same (0 == g col) None ∙ sym (cond_same (0 == col) None)
  near_moved (y ∷ ys) col =
      let best = greatest c (y ∷ ys) in
      ap (λ n. cond (n == g col) (first (in_column (λ x. g (c x)) n (y ∷ ys))) (last (in_column (λ x. g (c x)) n (y ∷ ys)))) (greatest_moved y ys)
      ∙ ap (λ b. cond b (first (in_column (λ x. g (c x)) (g best) (y ∷ ys))) (last (in_column (λ x. g (c x)) (g best) (y ∷ ys)))) (eq best col)
      ∙ ap (λ zs. cond (best == col) (first zs) (last zs)) (filter_same _ _ (λ x. eq (c x) best) (y ∷ ys))

  at_moved : (xs : List A) (col : ℕ) → at (λ x. g (c x)) xs (g col) ≡ at c xs col
  at_moved xs col =
      ap (λ zs. cond (greatest (λ x. g (c x)) zs == g col) (first (in_column (λ x. g (c x)) (greatest (λ x. g (c x)) zs) zs)) (last (in_column (λ x. g (c x)) (greatest (λ x. g (c x)) zs) zs))) (filter_same _ _ (λ x. le (c x) col) xs)
      ∙ near_moved (not_past c col xs) col

-- ---- columns moved by an offset
same_le : (a b k : ℕ) → nat_le (a + k) (b + k) ≡ nat_le a b
same_le a b k = grind (arith, nat_tests)

same_eq : (a b k : ℕ) → ((a + k) == (b + k)) ≡ (a == b)
same_eq a b k = grind (arith, nat_tests)

column_le : (offset : Position) (line a b : ℕ) → nat_le (shifted_column offset line a) (shifted_column offset line b) ≡ nat_le a b
column_le offset line a b = elim (line == 0) as (λ first. nat_le (cond first (a + offset.column) a) (cond first (b + offset.column) b) ≡ nat_le a b) [ true ↦ same_le a b offset.column | false ↦ refl ]

column_eq : (offset : Position) (line a b : ℕ) → (shifted_column offset line a == shifted_column offset line b) ≡ (a == b)
column_eq offset line a b = elim (line == 0) as (λ first. (cond first (a + offset.column) a == cond first (b + offset.column) b) ≡ (a == b)) [ true ↦ same_eq a b offset.column | false ↦ refl ]

column_most : (offset : Position) (line a b : ℕ) → max (shifted_column offset line a) (shifted_column offset line b) ≡ shifted_column offset line (max a b)
column_most offset line a b = elim (line == 0) as (λ first. max (cond first (a + offset.column) a) (cond first (b + offset.column) b) ≡ cond first (max a b + offset.column) (max a b)) [ true ↦ omega arith | false ↦ refl ]

-- ---- a part at its offset
abbrev pub placed : Part → List DecodedMapping
placed part = map (lowered part.1) part.0.mappings

module _ (offset : Position) (es : List DecodedMapping) (line col : ℕ) where
  abbrev moved_line : DecodedMapping → ℕ
  moved_line e = e.dst_line + offset.line

  abbrev moved_column : DecodedMapping → ℕ
  moved_column e = shifted_column offset e.dst_line e.dst_col

  lines_same : on_line moved_line (line + offset.line) es ≡ on_line mapping_line line es
  lines_same = filter_same _ _ (λ e. same_eq e.dst_line line offset.line) es

  columns_same : AllByRecursion (λ e. moved_column e ≡ shifted_column offset line e.dst_col) (on_line mapping_line line es)
  columns_same = all_weaker _ _ (λ e h. let same : e.dst_line ≡ line = grind (arith, nat_tests, h) in ap (λ n. shifted_column offset n e.dst_col) same) (on_line mapping_line line es) (all_kept (λ e. mapping_line e == line) es)

  at_same : at moved_column (on_line mapping_line line es) (shifted_column offset line col) ≡ at mapping_column (on_line mapping_line line es) col
  at_same =
      at_within moved_column (λ e. shifted_column offset line e.dst_col) (on_line mapping_line line es) (shifted_column offset line col) columns_same
      ∙ at_moved mapping_column (shifted_column offset line) (column_le offset line) (column_eq offset line) (column_most offset line) (on_line mapping_line line es) col

  same_original : (q : Option DecodedMapping) → option_map (λ e. e.original) (option_map (lowered offset) q) ≡ option_map (λ e. e.original) q
  same_original None = refl
  same_original (Some e) = refl

  pub pick_placed : option_map (λ e. e.original) (pick mapping_line mapping_column (map (lowered offset) es) (line + offset.line) (shifted_column offset line col)) ≡ option_map (λ e. e.original) (pick mapping_line mapping_column es line col)
  pick_placed =
      ap (option_map (λ e. e.original)) (pick-map (lowered offset) mapping_line mapping_column es (line + offset.line) (shifted_column offset line col))
      ∙ same_original (pick moved_line moved_column es (line + offset.line) (shifted_column offset line col))
      ∙ ap (option_map (λ e. e.original)) (ap (λ zs. at moved_column zs (shifted_column offset line col)) lines_same ∙ at_same)

  pub clamped_pick_placed : option_map (λ e. e.original) (clamped_pick mapping_line mapping_column (map (lowered offset) es) (line + offset.line) (shifted_column offset line col)) ≡ option_map (λ e. e.original) (clamped_pick mapping_line mapping_column es line col)
  clamped_pick_placed =
      ap (option_map (λ e. e.original)) (clamped_pick-map (lowered offset) mapping_line mapping_column es (line + offset.line) (shifted_column offset line col))
      ∙ same_original (clamped_pick moved_line moved_column es (line + offset.line) (shifted_column offset line col))
      ∙ ap (option_map (λ e. e.original)) (ap (λ zs. clamped_at moved_column zs (shifted_column offset line col)) lines_same ∙ ap (λ o. option_or o (first (on_line mapping_line line es))) at_same)

-- ---- a line of a join on which one part alone has mappings
pub or_false : (a b : Bool) → (a || b) ≡ false → (a ≡ false) × (b ≡ false)
or_false true b h = absurd (cc (h))
or_false false b h = (refl, h)

none_on : (line : ℕ) (parts : List Part) → list_any (has_mapping_on line) parts ≡ false → on_line mapping_line line (flat_map placed parts) ≡ []
none_on line [] h = refl
none_on line (p ∷ ps) h =
    let both = or_false (has_mapping_on line p) (list_any (has_mapping_on line) ps) h in
    filter-append _ (placed p) (flat_map placed ps) ∙ ap (λ xs. xs ++ on_line mapping_line line (flat_map placed ps)) (filter_none _ (placed p) both.0) ∙ none_on line ps both.1

line_of_part : (line : ℕ) (before : List Part) (part : Part) (after : List Part) → list_any (has_mapping_on line) (before ++ after) ≡ false
    → on_line mapping_line line (joined_decoded_maps (before ++ part ∷ after)).mappings ≡ on_line mapping_line line (placed part)
line_of_part line before part after h =
    let both = or_false _ _ (sym (list_any-append (has_mapping_on line) before after) ∙ h) in
    ap (on_line mapping_line line) (flat_map-append placed before (part ∷ after))
    ∙ filter-append _ (flat_map placed before) (flat_map placed (part ∷ after))
    ∙ ap (λ xs. xs ++ on_line mapping_line line (flat_map placed (part ∷ after))) (none_on line before both.0)
    ∙ filter-append _ (placed part) (flat_map placed after)
    ∙ ap (λ xs. on_line mapping_line line (placed part) ++ xs) (none_on line after both.1)
    ∙ append-nil (on_line mapping_line line (placed part))

pub traces_on_own_line : (before : List Part) (part : Part) (after : List Part) (line col : ℕ) → list_any (has_mapping_on (line + part.1.line)) (before ++ after) ≡ false → TracesAreOfPart (before ++ part ∷ after) part line col
traces_on_own_line before part after line col h =
    let e = line_of_part (line + part.1.line) before part after h in (
      ap (λ xs. option_map (λ e. e.original) (at mapping_column xs (shifted_column part.1 line col))) e ∙ pick_placed part.1 part.0.mappings line col,
      ap (λ xs. option_map (λ e. e.original) (clamped_at mapping_column xs (shifted_column part.1 line col))) e ∙ clamped_pick_placed part.1 part.0.mappings line col,
    )
