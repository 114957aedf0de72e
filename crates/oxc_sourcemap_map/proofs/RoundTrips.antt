-- Reverse lookups and traces lead back to one another.
use Rattle.std.proofs.Common.{◌≡◌, ◌≢◌, refl, sym, ap, ◌∙◌, subst, ℕ, zero, suc, Bool, true, false}
use Rattle.std.proofs.Common.{cond}
use Rattle.std.proofs.Common.{◌==◌, nat_le, List, [], ◌∷◌, Option, Some, None, IfSome}
use Rattle.std.proofs.Common.{if◌then◌else◌, arith}
use Rattle.std.proofs.lemmas.Bool.Decides.{nat_tests}
use Rattle.std.proofs.lemmas.List.Elements.{All-contains, All-from_recursion, recursion_from_All}
use Rattle.std.proofs.lemmas.List.Elements.{All-contains_itself}
use Rattle.std.proofs.lemmas.Map.Keys.{IsDistinct-head, IsDistinct-tail}
use Rattle.std.specs.List.{filter, slice_get, AllByRecursion, Contains, IsDistinct}
use Rattle.std.specs.Option.{option_map, option_and_then, option_or}
use Rattle.oxc_sourcemap_tokens.specs.Token.{TokenRecord, last}
use Rattle.oxc_sourcemap_parts.specs.DecodedMap.{name_of, original_at, sources_of}
use Rattle.oxc_sourcemap_parts.specs.Record.{MapRecord}
use Rattle.oxc_sourcemap_parts.specs.Sorted.{token_line, token_column}
use Rattle.oxc_sourcemap_lookup.specs.Lookup.{first, greatest, least, in_column, not_past}
use Rattle.oxc_sourcemap_lookup.specs.Lookup.{not_before, at, at_or_after, pick, clamped_at}
use Rattle.oxc_sourcemap_lookup.specs.Lookup.{on_line as lookup_line}
use Rattle.oxc_sourcemap_lookup.specs.Trace.{original_in}
use Rattle.oxc_sourcemap_lookup.proofs.Traces.{token_traced}
use Rattle.oxc_sourcemap_steps.specs.Simple.{are_together}
use Rattle.oxc_sourcemap_map.specs.Reverse.{is_source, is_into, is_at, source_column, generated_at}
use Rattle.oxc_sourcemap_map.specs.Reverse.{generated_for, generated_from, all_beside, pointing_to}
use Rattle.oxc_sourcemap_map.specs.RoundTrips.{tokens_at, IsFirstThere}
use Rattle.oxc_sourcemap_map.specs.RoundTrips.{position_in_source, TracesBack, HoldsOfFound}
use Rattle.oxc_sourcemap_map.specs.RoundTrips.{FoundTracesBack, FirstTracesBack, IsFoundAgain}
use Rattle.oxc_sourcemap_map.specs.RoundTrips.{TracedIsFound}
use Rattle.oxc_sourcemap_map.proofs.LeadBack.{still, of_first, of_last, of_either, and_first}
use Rattle.oxc_sourcemap_map.proofs.LeadBack.{and_second, eq_from_test}
use Rattle.oxc_sourcemap_map.proofs.Nearest.{at_nearest}
use Rattle.oxc_sourcemap_map.proofs.ReverseFound.{filter_twice}

-- ---- what lookups find of items that all have something
module _ {A : Type 0} (column : A → ℕ) (P : A → Type 0) where
  at-has : (items : List A) (col : ℕ) → AllByRecursion P items → IfSome (at column items col) P
  at-has items col all =
      let some = still P (λ x. nat_le (column x) col) items all in
      let best = greatest column (not_past column col items) in
      let near = still P (λ x. column x == best) (not_past column col items) some in
      of_either P (best == col) _ _ (of_first P _ near) (of_last P _ near)

  after-has : (items : List A) (col : ℕ) → AllByRecursion P items → IfSome (at_or_after column items col) P
  after-has items col all =
      let some = still P (λ x. nat_le col (column x)) items all in
      let best = least column (not_before column col items) in
      let near = still P (λ x. column x == best) (not_before column col items) some in
      of_either P (best == col) _ _ (of_last P _ near) (of_first P _ near)

  or-has : (o u : Option A) → IfSome o P → IfSome u P → IfSome (option_or o u) P
  or-has None u h k = k
  or-has (Some x) u h k = h

  clamped-has : (items : List A) (col : ℕ) → AllByRecursion P items → IfSome (clamped_at column items col) P
  clamped-has items col all = or-has (at column items col) (first items) (at-has items col all) (of_first P items all)

-- what passes a filter has what follows from what it had and from passing
passes : {A : Type 0} (P Q : A → Type 0) (p : A → Bool) → ((x : A) → P x → p x ≡ true → Q x) → (xs : List A) → AllByRecursion P xs → AllByRecursion Q (filter p xs)
passes P Q p f [] h = tt
passes P Q p f (x ∷ xs) h =
    let more = passes P Q p f xs h.1 in
    elim (p x) as (λ b. p x ≡ b → AllByRecursion Q (cond b (x ∷ filter p xs) (filter p xs))) [
      | true ↦ (λ e. (f x h.0 e, more))
      | false ↦ (λ e. more)
    ] refl

own : {A : Type 0} (xs : List A) → AllByRecursion (Contains xs) xs
own xs = recursion_from_All (Contains xs) xs (All-contains_itself xs)

-- ---- each token of a map that points to a line
module _ (tokens : List TokenRecord) (source line : ℕ) (Holds : ℕ → TokenRecord → Type 0)
    (each : (t : TokenRecord) → Contains tokens t → is_into source line t ≡ true → Holds t.src_col t) where
  abbrev Here : TokenRecord → Type 0
  Here t = Holds t.src_col t

  here-line : AllByRecursion Here (pointing_to source line tokens)
  here-line = passes (Contains tokens) Here (is_into source line) each tokens (own tokens)

  here-at : (col : ℕ) → AllByRecursion (Holds col) (generated_at source line col tokens)
  here-at col =
      passes (Contains tokens) (Holds col) (is_at source line col)
      (λ t c e. subst (λ k. Holds k t) (eq_from_test t.src_col col (and_second (is_into source line t) (t.src_col == col) e)) (each t c (and_first (is_into source line t) (t.src_col == col) e))) tokens (own tokens)

  here-beside : (o : Option TokenRecord) → AllByRecursion Here (all_beside source line o tokens)
  here-beside None = tt
  here-beside (Some u) =
      passes (Contains tokens) Here (is_at source line u.src_col) (λ t c e. each t c (and_first (is_into source line t) (t.src_col == u.src_col) e)) tokens (own tokens)

  holds-of_found : HoldsOfFound tokens source line Holds
  holds-of_found = record {
    at = here-at;
    nearest_before = λ col. at-has source_column Here (pointing_to source line tokens) col here-line;
    nearest_after = λ col. after-has source_column Here (pointing_to source line tokens) col here-line;
    all_before = λ col. here-beside (generated_for source line col tokens);
    all_after = λ col. here-beside (generated_from source line col tokens);
    on_line = here-line;
  }

-- ---- the trace at the position of a first token
not-nil : {A : Type 0} (xs : List A) (y : A) → first xs ≡ Some y → xs ≢ []
not-nil [] y h e = cc (h)
not-nil (x ∷ xs) y h e = cc (e)

first-picked : (tokens : List TokenRecord) (t : TokenRecord) → IsFirstThere tokens t → pick token_line token_column tokens t.dst_line t.dst_col ≡ Some t
first-picked tokens t h =
    let line = t.dst_line in
    let col = t.dst_col in
    let xs = lookup_line token_line line tokens in
    let e : in_column token_column col xs ≡ tokens_at line col tokens = filter_twice (λ x. token_line x == line) (λ x. token_column x == col) tokens in
    let self : (col == col) ≡ true = grind (arith, nat_tests) in
    at_nearest token_column col col xs (omega arith) (λ d g w. absurd (omega (arith, g, w))) (λ n. not-nil (tokens_at line col tokens) t h (sym e ∙ n))
    ∙ ap (λ b. if b then first (in_column token_column col xs) else last (in_column token_column col xs)) self
    ∙ ap first e ∙ h

source-is : (source : ℕ) (id : Option ℕ) → is_source source id ≡ true → id ≡ Some source
source-is source None e = cc (e)
source-is source (Some id) e = ap (λ i. Some i) (eq_from_test id source e)

points-there : (r : MapRecord) (source line : ℕ) (t : TokenRecord) → is_into source line t ≡ true → original_in r t ≡ position_in_source r source line t.src_col (name_of r.names t)
points-there r source line t e =
    let sources = sources_of r.sources r.source_contents in
    ap (λ id. option_map (original_at r.names t) (option_and_then (slice_get sources) id)) (source-is source t.source_id (and_first (is_source source t.source_id) (t.src_line == line) e))
    ∙ ap (λ l. position_in_source r source l t.src_col (name_of r.names t)) (eq_from_test t.src_line line (and_second (is_source source t.source_id) (t.src_line == line) e))

first-back : (r : MapRecord) (source line : ℕ) (t : TokenRecord) → is_into source line t ≡ true → IsFirstThere r.tokens t → TracesBack r source line t.src_col t
first-back r source line t e h =
    let found = first-picked r.tokens t h in record {
      found = found;
      traced = sym (token_traced r t.dst_line t.dst_col) ∙ ap (option_map (original_in r)) found ∙ ap (λ o. Some o) (points-there r source line t e);
    }

pub first_traces_back : FirstTracesBack
first_traces_back r source line =
    holds-of_found r.tokens source line (λ col t. IsFirstThere r.tokens t → TracesBack r source line col t) (λ t c e h. first-back r source line t e h)

-- ---- distinct positions
abbrev together : TokenRecord → TokenRecord → Bool
together t u = are_together token_line token_column t u

with-itself : (t : TokenRecord) → together t t ≡ true
with-itself t = grind (arith, nat_tests)

distinct-first : (tokens : List TokenRecord) (t : TokenRecord) → IsDistinct together tokens → Contains tokens t → first (filter (λ x. together x t) tokens) ≡ Some t
distinct-first [] t d (k, lt, e) = absurd (omega (arith, lt))
distinct-first (x ∷ xs) t d (zero, lt, e) =
    let here : together x t ≡ true = ap (λ y. together y t) e ∙ with-itself t in
    rw here (ap (λ y. Some y) e)
distinct-first (x ∷ xs) t d (suc k, lt, e) =
    let more : Contains xs t = (k, omega (arith, lt), e) in
    let off : together x t ≡ false = All-contains (λ y. together x y ≡ false) xs t (All-from_recursion _ xs (IsDistinct-head together x xs d)) more in
    rw off (distinct-first xs t (IsDistinct-tail together x xs d) more)

pub found_traces_back : FoundTracesBack
found_traces_back r source line d =
    holds-of_found r.tokens source line (λ col t. TracesBack r source line col t) (λ t c e. first-back r source line t e (distinct-first r.tokens t d c))

-- ---- the other way round
passes-in : {A : Type 0} (p : A → Bool) (xs : List A) (t : A) → Contains xs t → p t ≡ true → Contains (filter p xs) t
passes-in p [] t (k, lt, e) h = absurd (omega (arith, lt))
passes-in p (x ∷ xs) t (zero, lt, e) h =
    let here : p x ≡ true = ap p e ∙ h in
    subst (λ b. Contains (cond b (x ∷ filter p xs) (filter p xs)) t) (sym here) (0, omega arith, e)
passes-in p (x ∷ xs) t (suc k, lt, e) h =
    let more = passes-in p xs t (k, omega (arith, lt), e) h in
    elim (p x) as (λ b. Contains (cond b (x ∷ filter p xs) (filter p xs)) t) [
      | true ↦ (let l = more.1 in (suc more.0, omega (arith, l), more.2))
      | false ↦ more
    ]

found-by : (tokens : List TokenRecord) (t : TokenRecord) (id : Option ℕ) → t.source_id ≡ id → Contains tokens t → IfSome id (λ source. Contains (generated_at source t.src_line t.src_col tokens) t)
found-by tokens t None e c = tt
found-by tokens t (Some source) e c =
    let same : is_source source t.source_id ≡ true = ap (is_source source) e ∙ (let self : (source == source) ≡ true = grind (arith, nat_tests) in self) in
    let line : (t.src_line == t.src_line) ≡ true = grind (arith, nat_tests) in
    let column : (t.src_col == t.src_col) ≡ true = grind (arith, nat_tests) in
    passes-in (is_at source t.src_line t.src_col) tokens t c (rw (same, line, column) refl)

pub traced_is_found : TracedIsFound
traced_is_found tokens line col =
    let P : TokenRecord → Type 0 = IsFoundAgain tokens in
    let each : AllByRecursion P tokens = weaker (Contains tokens) P (λ t c. found-by tokens t t.source_id refl c) tokens (own tokens) in
    let here : AllByRecursion P (lookup_line token_line line tokens) = still P (λ t. token_line t == line) tokens each in
    (at-has token_column P (lookup_line token_line line tokens) col here, clamped-has token_column P (lookup_line token_line line tokens) col here)
  where
    weaker : {A : Type 0} (P Q : A → Type 0) → ((x : A) → P x → Q x) → (xs : List A) → AllByRecursion P xs → AllByRecursion Q xs
    weaker P Q f [] h = tt
    weaker P Q f (x ∷ xs) h = (f x h.0, weaker P Q f xs h.1)
