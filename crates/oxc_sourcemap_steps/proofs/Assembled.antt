-- What a simplified map is made of, from the tables of the map.
use Rattle.std.proofs.Common.{◌≡◌, refl, sym, ap, subst, ◌∙◌, ℕ, zero, suc, ◌+◌, ◌<◌, ◌≤◌, Bool}
use Rattle.std.proofs.Common.{true, false, cond, ◌&&◌, ◌==◌, nat_le, List, [], ◌∷◌, map, length}
use Rattle.std.proofs.Common.{slice_get, get_or, Option, Some, None, option_map, arith, is_some}
use Rattle.std.proofs.Common.{◌⊎◌, inl, inr}
use Rattle.std.proofs.lemmas.Bool.Decides.{nat_tests}
use Rattle.std.proofs.lemmas.List.{length-map}
use Rattle.std.specs.Bool.{beq}
use Rattle.std.specs.Cmp.Lexicographic.{bytes_decides}
use Rattle.std.specs.List.{position_from, list_all, AllByRecursion, zip}
use Rattle.std.specs.Str.{bytes_eq}
use Rattle.oxc_sourcemap_tokens.specs.Token.{TokenRecord}
use Rattle.oxc_sourcemap_parts.specs.DecodedMap.{DecodedSource, sources_of, name_of}
use Rattle.oxc_sourcemap_parts.specs.Record.{Text, MapRecord}
use Rattle.oxc_sourcemap_steps.specs.Blocks.{flags_of, unless_empty}
use Rattle.oxc_sourcemap_steps.specs.RemapSteps.{set_from}
use Rattle.oxc_sourcemap_steps.proofs.Flags.{marked-unmarked, set-ignored}
use Rattle.oxc_sourcemap_steps.proofs.SourceBlocks.{flags-are, paths-of}
use Rattle.oxc_sourcemap_steps.specs.Same.{is_same_source}
use Rattle.oxc_sourcemap_steps.specs.Simplified.{is_same_marked, index_of_marked, found_tokens}
use Rattle.oxc_sourcemap_steps.specs.Simplified.{simple_tokens, simple_names, simple_sources_of}
use Rattle.oxc_sourcemap_steps.specs.Simplified.{marked_source_of, token_among, renumbered}
use Rattle.oxc_sourcemap_steps.specs.Simplified.{simplified, fits}
use Rattle.oxc_sourcemap_steps.specs.SimplifySteps.{AreFirsts, listed_in, source_among, source_by}
use Rattle.oxc_sourcemap_steps.specs.SimplifySteps.{first_marked, AreTables, target_by, kept_from}
use Rattle.oxc_sourcemap_steps.specs.SimplifySteps.{with_name, with_source, with_all, token_to}
use Rattle.oxc_sourcemap_steps.specs.SimplifySteps.{IsBelow, IsSourceBelow, AreWithin, own_index}
use Rattle.oxc_sourcemap_steps.specs.SimplifySteps.{AreTooMany}
use Rattle.oxc_sourcemap_steps.specs.declared.simplify.tokens.Tables.{Tables}
use Rattle.oxc_sourcemap_steps.proofs.Same.{decides_source}
use Rattle.oxc_sourcemap_steps.proofs.Codes.{AreCodes, eq-codes, items-back, count-codes}
use Rattle.oxc_sourcemap_steps.proofs.Listed.{decides_marked, AreMarkedCodes}
use Rattle.oxc_sourcemap_steps.proofs.NextNumbers.{position-below, get-of}
use Rattle.oxc_sourcemap_steps.proofs.SimplifyTables.{kept-is, names-are, sources-are, token-is}
use Rattle.oxc_sourcemap_steps.proofs.SimplifyTables.{get-map}
use Rattle.oxc_sourcemap_steps.proofs.SimplifyTables.{code-of}

-- ---- the table of sources
-- items and their codes, with the marks of both
abbrev ArePairs : List DecodedSource → List (ℕ × Bool) → List (DecodedSource × Bool) → Type 0
ArePairs ss [] [] = Unit {0}
ArePairs ss [] (m ∷ ms) = ⊥
ArePairs ss (p ∷ ps) [] = ⊥
ArePairs ss (p ∷ ps) (m ∷ ms) = (position_from (is_same_source m.0) 0 ss ≡ Some p.0) × ((p.1 ≡ m.1) × ArePairs ss ps ms)

pairs-from : (ss : List DecodedSource) (ks : List ℕ) (ms : List (DecodedSource × Bool)) → map (λ k. Some k) ks ≡ map (λ s. position_from (is_same_source s) 0 ss) (map (λ m. m.0) ms)
    → ArePairs ss (zip ks (map (λ m. m.1) ms)) ms
pairs-from ss [] [] e = tt
pairs-from ss [] (m ∷ ms) e = absurd (cc (e))
pairs-from ss (k ∷ ks) [] e = absurd (cc (e))
pairs-from ss (k ∷ ks) (m ∷ ms) e =
    let h : Some k ≡ position_from (is_same_source m.0) 0 ss = cc (e) in
    let t : map (λ k. Some k) ks ≡ map (λ s. position_from (is_same_source s) 0 ss) (map (λ m. m.0) ms) = cc (e) in
    (sym h, (refl, pairs-from ss ks ms t))

first-from : (ss : List DecodedSource) (n c : ℕ) (s : DecodedSource) (b : Bool) (ps : List (ℕ × Bool)) (ms : List (DecodedSource × Bool)) → position_from (is_same_source s) 0 ss ≡ Some c → ArePairs ss ps ms
    → position_from (λ p. c == p.0 && beq b p.1) n ps ≡ position_from (is_same_marked (s, b)) n ms
first-from ss n c s b [] [] e h = refl
first-from ss n c s b [] (m ∷ ms) e h = elim h [ ]
first-from ss n c s b (p ∷ ps) [] e h = elim h [ ]
first-from ss n c s b (p ∷ ps) (m ∷ ms) e h =
    let more = position_from (λ p. c == p.0 && beq b p.1) (n + 1) ps in
    ap (λ t. cond (t && beq b p.1) (Some n) more) (eq-codes is_same_source decides_source ss c p.0 s m.0 e h.0)
    ∙ ap (λ t. cond (is_same_source s m.0 && beq b t) (Some n) more) h.1.0
    ∙ ap (λ o. cond (is_same_source s m.0 && beq b m.1) (Some n) o) (first-from ss (n + 1) c s b ps ms e h.1.1)

sources-from : (ss : List DecodedSource) (all ps : List (ℕ × Bool)) (ms0 ms : List (DecodedSource × Bool)) → ArePairs ss all ms0 → ArePairs ss ps ms → map (source_by all) ps ≡ map (source_among ms0) ms
sources-from ss all [] ms0 [] a h = refl
sources-from ss all [] ms0 (m ∷ ms) a h = elim h [ ]
sources-from ss all (p ∷ ps) ms0 [] a h = elim h [ ]
sources-from ss all (p ∷ ps) ms0 (m ∷ ms) a h =
    let more = map (source_by all) ps in
    ap (λ o. record { plain = o; ignored = first_marked all p.0 true; is_ignored = p.1 } ∷ more) (first-from ss 0 p.0 m.0 false all ms0 h.0 a)
    ∙ ap (λ o. record { plain = index_of_marked (m.0, false) ms0; ignored = o; is_ignored = p.1 } ∷ more) (first-from ss 0 p.0 m.0 true all ms0 h.0 a)
    ∙ ap (λ b. record { plain = index_of_marked (m.0, false) ms0; ignored = index_of_marked (m.0, true) ms0; is_ignored = b } ∷ more) h.1.0
    ∙ ap (λ zs. source_among ms0 m ∷ zs) (sources-from ss all ps ms0 ms a h.1.1)

module _ (r : MapRecord) where
  abbrev plain : List DecodedSource
  plain = sources_of r.sources r.source_contents

  abbrev unmarked : map (λ m. m.0) (listed_in r) ≡ plain
  unmarked = marked-unmarked 0 plain r.ignore_list

  pub sources-table : (firsts : List ℕ) → AreFirsts is_same_source plain firsts → map (source_by (zip firsts (flags_of r))) (zip firsts (flags_of r)) ≡ map (source_among (listed_in r)) (listed_in r)
  sources-table firsts e =
      let pairs : ArePairs plain (zip firsts (map (λ m. m.1) (listed_in r))) (listed_in r) =
      pairs-from plain firsts (listed_in r) (e ∙ ap (map (λ s. position_from (is_same_source s) 0 plain)) (sym unmarked)) in
      let is = subst (λ fs. ArePairs plain (zip firsts fs) (listed_in r)) (flags-are r) pairs in
      sources-from plain (zip firsts (flags_of r)) (zip firsts (flags_of r)) (listed_in r) (listed_in r) is is

-- ---- what tables have are indices of them
firsts-below : {A : Type 0} (same : A → A → Bool) (items : List A) (ks : List ℕ) (xs : List A) (n : ℕ) → n ≡ length items → map (λ k. Some k) ks ≡ map (λ x. position_from (same x) 0 items) xs → AllByRecursion (λ k. k < n) ks
firsts-below same items [] xs n c e = tt
firsts-below same items (k ∷ ks) [] n c e = absurd (cc (e))
firsts-below same items (k ∷ ks) (x ∷ xs) n c e =
    let h : Some k ≡ position_from (same x) 0 items = cc (e) in
    let t : map (λ k. Some k) ks ≡ map (λ x. position_from (same x) 0 items) xs = cc (e) in
    let b = position-below (same x) items k (sym h) in
    (omega (arith, b, c), firsts-below same items ks xs n c t)

pub count-firsts : {A : Type 0} (same : A → A → Bool) (items : List A) (ks : List ℕ) → AreFirsts same items ks → length ks ≡ length items
count-firsts same items ks e = sym (length-map ks (λ k. Some k)) ∙ ap length e ∙ length-map items (λ x. position_from (same x) 0 items)

pub firsts-within : {A : Type 0} (same : A → A → Bool) (items : List A) (ks : List ℕ) → AreFirsts same items ks → AllByRecursion (λ k. k < length ks) ks
firsts-within same items ks e = firsts-below same items ks items (length ks) (count-firsts same items ks e) e

below-any : {A : Type 0} (t : A → Bool) (xs : List A) (n : ℕ) (o : Option ℕ) → n ≡ length xs → position_from t 0 xs ≡ o → IsBelow n o
below-any t xs n None c e = tt
below-any t xs n (Some i) c e = let b = position-below t xs i e in omega (arith, b, c)

sources-below : (listed ms : List (DecodedSource × Bool)) (n : ℕ) → n ≡ length listed → AllByRecursion (IsSourceBelow n) (map (source_among listed) ms)
sources-below listed [] n c = tt
sources-below listed (m ∷ ms) n c = (
  record {
    plain = below-any (is_same_marked (m.0, false)) listed n (index_of_marked (m.0, false) listed) c refl;
    ignored = below-any (is_same_marked (m.0, true)) listed n (index_of_marked (m.0, true) listed) c refl;
  },
  sources-below listed ms n c,
)

own-some : (listed : List (DecodedSource × Bool)) (m : DecodedSource × Bool) (k : ℕ) → index_of_marked m listed ≡ Some k → is_some (own_index (source_among listed m)) ≡ true
own-some listed (s, true) k e = ap is_some e
own-some listed (s, false) k e = ap is_some e

-- a source is listed with its own mark
own-listed : (listed ms : List (DecodedSource × Bool)) → ((i : ℕ) (m : DecodedSource × Bool) → slice_get ms i ≡ Some m → is_some (own_index (source_among listed m)) ≡ true) → AllByRecursion (λ s. is_some (own_index s) ≡ true) (map (source_among listed) ms)
own-listed listed [] h = tt
own-listed listed (m ∷ ms) h = (h 0 m refl, own-listed listed ms (λ i n e. h (suc i) n e))

pub tables-within : (r : MapRecord) (tables : Tables) → AreTables r tables → AreWithin tables
tables-within r tables are =
    let listed = listed_in r in
    let count : length tables.sources.items ≡ length listed = ap length are.sources ∙ length-map listed (source_among listed) in record {
      sources = subst (λ ss. AllByRecursion (IsSourceBelow (length tables.sources.items)) ss) (sym are.sources) (sources-below listed listed (length tables.sources.items) count);
      own = subst (λ ss. AllByRecursion (λ s. is_some (own_index s) ≡ true) ss) (sym are.sources)
          (own-listed listed listed (λ i m e. let k = code-of is_same_marked decides_marked listed i m e in own-some listed m k.0 k.1));
      names = firsts-within bytes_eq r.names tables.names.items are.names;
    }

pub count-table : (r : MapRecord) (tables : Tables) → AreTables r tables → length tables.sources.items ≡ length (flags_of r)
count-table r tables are =
    ap length are.sources ∙ length-map (listed_in r) (source_among (listed_in r)) ∙ sym (length-map (listed_in r) (λ m. m.1)) ∙ ap length (flags-are r)

-- ---- the simplified map
get-through : {A B : Type 0} (g : A → B) (xs : List A) (ys : List B) (k : ℕ) (d : B) (x : A) → map g xs ≡ ys → slice_get xs k ≡ Some x → get_or ys k d ≡ g x
get-through g xs ys k d x e f = get-of ys k d (g x) (sym (ap (λ zs. slice_get zs k) e) ∙ get-map g xs k ∙ ap (option_map g) f)

content-at : (ps : List Text) (cs : List (Option Text)) (k : ℕ) (s : DecodedSource) → slice_get (sources_of ps cs) k ≡ Some s → get_or cs k None ≡ s.content
content-at [] cs k s e = absurd (cc (e))
content-at (p ∷ ps) [] zero s e = let h : record { path = p; content = None } ≡ s = cc (e) in ap (λ (z : DecodedSource). z.content) h
content-at (p ∷ ps) [] (suc k) s e = content-at ps [] k s e
content-at (p ∷ ps) (c ∷ cs) zero s e = let h : record { path = p; content = c } ≡ s = cc (e) in ap (λ (z : DecodedSource). z.content) h
content-at (p ∷ ps) (c ∷ cs) (suc k) s e = content-at ps cs k s e

map-self : {A : Type 0} (xs : List A) → map (λ x. x) xs ≡ xs
map-self [] = refl
map-self (x ∷ xs) = ap (λ zs. x ∷ zs) (map-self xs)

map-compose : {A B C : Type 0} (f : A → B) (g : B → C) (xs : List A) → map g (map f xs) ≡ map (λ x. g (f x)) xs
map-compose f g [] = refl
map-compose f g (x ∷ xs) = ap (λ zs. g (f x) ∷ zs) (map-compose f g xs)

map-same : {A B : Type 0} (f g : A → B) → ((x : A) → f x ≡ g x) → (xs : List A) → map f xs ≡ map g xs
map-same f g h [] = refl
map-same f g h (x ∷ xs) = ap (λ y. y ∷ map f xs) (h x) ∙ ap (λ ys. g x ∷ ys) (map-same f g h xs)

all-same : {A : Type 0} (f : A → A) (t : A → Bool) → ((x : A) → t (f x) ≡ t x) → (xs : List A) → list_all t (map f xs) ≡ list_all t xs
all-same f t h [] = refl
all-same f t h (x ∷ xs) = ap (λ b. b && list_all t (map f xs)) (h x) ∙ ap (λ b. t x && b) (all-same f t h xs)

module _ (r : MapRecord) (tables : Tables) (are : AreTables r tables) where
  abbrev pub name-order : List ℕ
  name-order = with_all (with_name tables) [] (found_tokens r)

  abbrev pub source-order : List ℕ
  source-order = with_all (with_source tables) [] (found_tokens r)

  name-codes : AreCodes bytes_eq bytes_decides r.names name-order (simple_names r)
  name-codes = names-are r tables are [] [] (found_tokens r) tt

  source-codes : AreMarkedCodes (listed_in r) source-order (simple_sources_of r)
  source-codes = sources-are r tables are [] [] (found_tokens r) tt

  abbrev kept : List TokenRecord
  kept = kept_from tables None false (found_tokens r)

  kept-are : kept ≡ simple_tokens r
  kept-are = kept-is r tables are (found_tokens r)

  pub tokens-are : map (λ t. token_to source-order name-order t (target_by tables t)) kept ≡ (simplified r).tokens
  tokens-are =
      map-same _ (renumbered r (simple_sources_of r) (simple_names r)) (token-is r tables are source-order (simple_sources_of r) name-order (simple_names r) source-codes name-codes) kept
      ∙ ap (map (renumbered r (simple_sources_of r) (simple_names r))) kept-are

  pub names-back : map (λ k. get_or r.names k []) name-order ≡ simple_names r
  names-back = items-back bytes_eq bytes_decides r.names (λ x. x) r.names [] (λ k x e. get-of r.names k [] x e) name-order (simple_names r) name-codes ∙ map-self (simple_names r)

  paths : map (λ m. m.0.path) (listed_in r) ≡ r.sources
  paths = sym (map-compose (λ (m : DecodedSource × Bool). m.0) (λ (s : DecodedSource). s.path) (listed_in r)) ∙ ap (map (λ (s : DecodedSource). s.path)) (marked-unmarked 0 (sources_of r.sources r.source_contents) r.ignore_list)
      ∙ paths-of r.sources r.source_contents

  source-at : (k : ℕ) (m : DecodedSource × Bool) → slice_get (listed_in r) k ≡ Some m → slice_get (sources_of r.sources r.source_contents) k ≡ Some m.0
  source-at k m e = sym (ap (λ ss. slice_get ss k) (marked-unmarked 0 (sources_of r.sources r.source_contents) r.ignore_list)) ∙ get-map (λ (m : DecodedSource × Bool). m.0) (listed_in r) k ∙ ap (option_map (λ (m : DecodedSource × Bool). m.0)) e

  pub sources-back : map (λ k. get_or r.sources k []) source-order ≡ (simplified r).sources
  sources-back = items-back is_same_marked decides_marked (listed_in r) (λ m. m.0.path) r.sources []
      (λ k m e. get-through (λ (m : DecodedSource × Bool). m.0.path) (listed_in r) r.sources k [] m paths e) source-order (simple_sources_of r) source-codes

  pub contents-back : map (λ k. get_or r.source_contents k None) source-order ≡ (simplified r).source_contents
  contents-back = items-back is_same_marked decides_marked (listed_in r) (λ m. m.0.content) r.source_contents None
      (λ k m e. content-at r.sources r.source_contents k m.0 (source-at k m e)) source-order (simple_sources_of r) source-codes

  pub ignored-back : unless_empty (set_from 0 (map (λ k. get_or (flags_of r) k false) source-order)) ≡ (simplified r).ignore_list
  ignored-back =
      ap (λ fs. unless_empty (set_from 0 fs)) (items-back is_same_marked decides_marked (listed_in r) (λ m. m.1) (flags_of r) false
      (λ k m e. get-through (λ (m : DecodedSource × Bool). m.1) (listed_in r) (flags_of r) k false m (flags-are r) e) source-order (simple_sources_of r) source-codes)
      ∙ ap unless_empty (set-ignored 0 (simple_sources_of r))

  -- ---- how much of it there may be
  column-stays : (t : TokenRecord) (m : Option (DecodedSource × Bool)) → nat_le (token_among (simple_sources_of r) (simple_names r) (name_of r.names t) t m).dst_col 4294967295 ≡ nat_le t.dst_col 4294967295
  column-stays t None = refl
  column-stays t (Some m) = refl

  columns-are : list_all (λ t. nat_le t.dst_col 4294967295) (simplified r).tokens ≡ list_all (λ t. nat_le t.dst_col 4294967295) kept
  columns-are =
      all-same (renumbered r (simple_sources_of r) (simple_names r)) (λ t. nat_le t.dst_col 4294967295) (λ t. column-stays t (marked_source_of r t)) (simple_tokens r)
      ∙ ap (list_all (λ t. nat_le t.dst_col 4294967295)) (sym kept-are)

  at-most : (n : ℕ) → n ≤ 4294967295 → nat_le n 4294967295 ≡ true
  at-most n h = grind (arith, nat_tests, h)

  more-than : (n : ℕ) → 4294967295 < n → nat_le n 4294967295 ≡ false
  more-than n h = grind (arith, nat_tests, h)

  count-names : length (simplified r).names ≡ length name-order
  count-names = sym (count-codes bytes_eq bytes_decides r.names name-order (simple_names r) name-codes)

  count-sources : length (simplified r).sources ≡ length source-order
  count-sources = length-map (simple_sources_of r) (λ m. m.0.path) ∙ sym (count-codes is_same_marked decides_marked (listed_in r) source-order (simple_sources_of r) source-codes)

  fits-by : (a b c : Bool) → nat_le (length (simplified r).names) 4294967295 ≡ a → nat_le (length (simplified r).sources) 4294967295 ≡ b → list_all (λ t. nat_le t.dst_col 4294967295) (simplified r).tokens ≡ c → fits (simplified r) ≡ (a && (b && c))
  fits-by a b c e f g = ap (λ z. z && (nat_le (length (simplified r).sources) 4294967295 && list_all (λ t. nat_le t.dst_col 4294967295) (simplified r).tokens)) e
      ∙ ap (λ z. a && (z && list_all (λ t. nat_le t.dst_col 4294967295) (simplified r).tokens)) f ∙ ap (λ z. a && (b && z)) g

  and-false : (a : Bool) → (a && false) ≡ false
  and-false true = refl
  and-false false = refl

  pub it-fits : length name-order ≤ 4294967295 → length source-order ≤ 4294967295 → list_all (λ t. nat_le t.dst_col 4294967295) kept ≡ true → fits (simplified r) ≡ true
  it-fits h g k = fits-by true true true (at-most _ (omega (arith, h, count-names))) (at-most _ (omega (arith, g, count-sources))) (columns-are ∙ k)

  many-names : 4294967295 < length name-order → fits (simplified r) ≡ false
  many-names h = fits-by false _ _ (more-than _ (omega (arith, h, count-names))) refl refl

  many-sources : 4294967295 < length source-order → fits (simplified r) ≡ false
  many-sources h = fits-by _ false _ refl (more-than _ (omega (arith, h, count-sources))) refl ∙ and-false _

  far-column : list_all (λ t. nat_le t.dst_col 4294967295) kept ≡ false → fits (simplified r) ≡ false
  far-column h =
      let b = nat_le (length (simplified r).sources) 4294967295 in
      fits-by _ b false refl refl (columns-are ∙ h) ∙ ap (λ z. nat_le (length (simplified r).names) 4294967295 && z) (and-false b) ∙ and-false _

  pub too-much : AreTooMany source-order name-order ⊎ (list_all (λ t. nat_le t.dst_col 4294967295) kept ≡ false) → fits (simplified r) ≡ false
  too-much (inl (inl h)) = many-sources h
  too-much (inl (inr h)) = many-names h
  too-much (inr h) = far-column h

pub together : (r : MapRecord) (names sources : List Text) (contents : List (Option Text)) (tokens : List TokenRecord) (ignored : Option (List ℕ)) → names ≡ simple_names r → sources ≡ (simplified r).sources
    → contents ≡ (simplified r).source_contents → tokens ≡ (simplified r).tokens → ignored ≡ (simplified r).ignore_list
    → record r { names = names; sources = sources; source_contents = contents; tokens = tokens; token_chunks = None; ignore_list = ignored } ≡ simplified r
together r names sources contents tokens ignored e f g h k =
    let s = simplified r in
    ap (λ x. record r { names = x; sources = sources; source_contents = contents; tokens = tokens; token_chunks = None; ignore_list = ignored }) e
    ∙ ap (λ x. record r { names = s.names; sources = x; source_contents = contents; tokens = tokens; token_chunks = None; ignore_list = ignored }) f
    ∙ ap (λ x. record r { names = s.names; sources = s.sources; source_contents = x; tokens = tokens; token_chunks = None; ignore_list = ignored }) g
    ∙ ap (λ x. record r { names = s.names; sources = s.sources; source_contents = s.source_contents; tokens = x; token_chunks = None; ignore_list = ignored }) h
    ∙ ap (λ x. record r { names = s.names; sources = s.sources; source_contents = s.source_contents; tokens = s.tokens; token_chunks = None; ignore_list = x }) k
