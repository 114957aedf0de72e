-- What passes a filter, and what lookups find among it.
use Rattle.std.proofs.Common.{◌≡◌, ◌≢◌, refl, sym, ap, ◌∙◌, ℕ, ◌≤◌, Bool, true, false, cond, ◌&&◌}
use Rattle.std.proofs.Common.{◌==◌, List, [], ◌∷◌, nat_le, if◌then◌else◌, Option, Some, None}
use Rattle.std.proofs.Common.{IfSome, arith}
use Rattle.std.proofs.lemmas.Bool.Decides.{nat_tests}
use Rattle.std.proofs.lemmas.List.Elements.{All-contains, All-from_recursion}
use Rattle.std.specs.List.{filter, last_or, AllByRecursion, Contains}
use Rattle.oxc_sourcemap_tokens.specs.Token.{TokenRecord, last}
use Rattle.oxc_sourcemap_parts.specs.Sorted.{token_line, token_column}
use Rattle.oxc_sourcemap_lookup.specs.Lookup.{first, greatest, least, in_column, not_past}
use Rattle.oxc_sourcemap_lookup.specs.Lookup.{not_before, on_line as lookup_line}
use Rattle.oxc_sourcemap_map.specs.Reverse.{is_into, is_at, source_column, all_beside}
use Rattle.oxc_sourcemap_map.specs.Reverse.{generated_for, generated_from, pointing_to}
use Rattle.oxc_sourcemap_map.specs.ReverseLaws.{LookupLeadsBack, FoundAtPlace, FoundOnLine}
use Rattle.oxc_sourcemap_map.specs.ReverseLaws.{FoundBefore, FoundAfter, AllFoundOnLine}
use Rattle.oxc_sourcemap_map.proofs.ReverseFound.{filter_twice}
use Rattle.oxc_sourcemap_map.proofs.Nearest.{at_nearest}

module _ {A : Type 0} (P : A → Type 0) (p : A → Bool) where
  kept-by : (b : Bool) (x : A) (ys : List A) → (p x ≡ b) → ((p x ≡ true) → P x) → AllByRecursion P ys → AllByRecursion P (cond b (x ∷ ys) ys)
  kept-by true x ys e h all = (h e, all)
  kept-by false x ys e h all = all

  -- where passing gives P, all that passes has P
  passing : ((x : A) → p x ≡ true → P x) → (xs : List A) → AllByRecursion P (filter p xs)
  passing h [] = tt
  passing h (x ∷ xs) = kept-by (p x) x (filter p xs) refl (h x) (passing h xs)

  pub still : (xs : List A) → AllByRecursion P xs → AllByRecursion P (filter p xs)
  still [] all = tt
  still (x ∷ xs) all = kept-by (p x) x (filter p xs) refl (λ e. all.0) (still xs all.1)

module _ {A : Type 0} (P : A → Type 0) where
  pub of_first : (xs : List A) → AllByRecursion P xs → IfSome (first xs) P
  of_first [] all = tt
  of_first (x ∷ xs) all = all.0

  of_last-or : (o : Option A) (xs : List A) → IfSome o P → AllByRecursion P xs → IfSome (last_or o xs) P
  of_last-or o [] h all = h
  of_last-or o (x ∷ xs) h all = of_last-or (Some x) xs all.0 all.1

  pub of_last : (xs : List A) → AllByRecursion P xs → IfSome (last xs) P
  of_last xs all = of_last-or None xs tt all

  pub of_either : (b : Bool) (o u : Option A) → IfSome o P → IfSome u P → IfSome (if b then o else u) P
  of_either true o u h k = h
  of_either false o u h k = k

  both : (Q : A → Type 0) (xs : List A) → AllByRecursion P xs → AllByRecursion Q xs → AllByRecursion (λ x. P x × Q x) xs
  both Q [] h k = tt
  both Q (x ∷ xs) h k = ((h.0, k.0), both Q xs h.1 k.1)

le_from_test : (m n : ℕ) → nat_le m n ≡ true → m ≤ n
le_from_test m n e = grind (arith, nat_tests, e)

pub eq_from_test : (m n : ℕ) → (m == n) ≡ true → m ≡ n
eq_from_test m n e = grind (arith, nat_tests, e)

pub and_first : (b c : Bool) → (b && c) ≡ true → b ≡ true
and_first true c e = refl
and_first false c e = e

pub and_second : (b c : Bool) → (b && c) ≡ true → c ≡ true
and_second true c e = e
and_second false c e = cc (e)

pub at_place : FoundAtPlace
at_place s l c tokens = passing (λ t. is_at s l c t ≡ true) (is_at s l c) (λ t e. e) tokens

pub on_line : FoundOnLine
on_line s l tokens = passing (λ t. is_into s l t ≡ true) (is_into s l) (λ t e. e) tokens

pub before : FoundBefore
before s l col tokens =
    let xs = pointing_to s l tokens in
    let near = not_past source_column col xs in
    let best = greatest source_column near in
    let P : TokenRecord → Type 0 = λ t. (is_into s l t ≡ true) × (t.src_col ≤ col) in
    let line = still (λ t. is_into s l t ≡ true) (λ t. nat_le (source_column t) col) xs (on_line s l tokens) in
    let low = passing (λ t. t.src_col ≤ col) (λ t. nat_le (source_column t) col) (λ t e. le_from_test t.src_col col e) xs in
    let all = still P (λ t. source_column t == best) near (both (λ t. is_into s l t ≡ true) (λ t. t.src_col ≤ col) near line low) in
    of_either P (best == col) _ _ (of_first P _ all) (of_last P _ all)

pub after : FoundAfter
after s l col tokens =
    let xs = pointing_to s l tokens in
    let near = not_before source_column col xs in
    let best = least source_column near in
    let P : TokenRecord → Type 0 = λ t. (is_into s l t ≡ true) × (col ≤ t.src_col) in
    let line = still (λ t. is_into s l t ≡ true) (λ t. nat_le col (source_column t)) xs (on_line s l tokens) in
    let high = passing (λ t. col ≤ t.src_col) (λ t. nat_le col (source_column t)) (λ t e. le_from_test col t.src_col e) xs in
    let all = still P (λ t. source_column t == best) near (both (λ t. is_into s l t ≡ true) (λ t. col ≤ t.src_col) near line high) in
    of_either P (best == col) _ _ (of_last P _ all) (of_first P _ all)

beside : (s l : ℕ) (o : Option TokenRecord) (tokens : List TokenRecord) → AllByRecursion (λ t. is_into s l t ≡ true) (all_beside s l o tokens)
beside s l None tokens = tt
beside s l (Some u) tokens = passing (λ t. is_into s l t ≡ true) (is_at s l u.src_col) (λ t e. and_first (is_into s l t) (t.src_col == u.src_col) e) tokens

pub all_on_line : AllFoundOnLine
all_on_line s l col tokens = (beside s l (generated_for s l col tokens) tokens, beside s l (generated_from s l col tokens) tokens)

module _ {A : Type 0} (p : A → Bool) where
  none-by : (b : Bool) (x : A) (ys : List A) → p x ≡ b → cond b (x ∷ ys) ys ≡ [] → (p x ≡ false) × (ys ≡ [])
  none-by true x ys e h = cc (h)
  none-by false x ys e h = (e, h)

  none_passes : (xs : List A) → filter p xs ≡ [] → AllByRecursion (λ x. p x ≡ false) xs
  none_passes [] h = tt
  none_passes (x ∷ xs) h = (let k = none-by (p x) x (filter p xs) refl h in (k.0, none_passes xs k.1))

  some_passes : (xs : List A) (x : A) → Contains xs x → p x ≡ true → filter p xs ≢ []
  some_passes xs x c e h =
      let out = All-contains (λ y. p y ≡ false) xs x (All-from_recursion (λ y. p y ≡ false) xs (none_passes xs h)) c in
      let no_way : true ≡ false = sym e ∙ out in cc (no_way)

  first-by : (zs : List A) → AllByRecursion (λ x. p x ≡ true) zs → zs ≢ [] → (u : A) × (first zs ≡ Some u) × (p u ≡ true)
  first-by [] all h = absurd (h refl)
  first-by (x ∷ zs) all h = (x, refl, all.0)

  first_passes : (xs : List A) → filter p xs ≢ [] → (u : A) × (first (filter p xs) ≡ Some u) × (p u ≡ true)
  first_passes xs h = first-by (filter p xs) (passing (λ x. p x ≡ true) p (λ x e. e) xs) h

pub leads_back : LookupLeadsBack
leads_back tokens t c =
    let line = t.dst_line in
    let col = t.dst_col in
    let p : TokenRecord → Bool = λ x. (token_line x == line) && (token_column x == col) in
    let xs = lookup_line token_line line tokens in
    let e : in_column token_column col xs ≡ filter p tokens = filter_twice (λ x. token_line x == line) (λ x. token_column x == col) tokens in
    let here : p t ≡ true = grind (arith, nat_tests) in
    let some = some_passes p tokens t c here in
    let found = first_passes p tokens some in
    let self : (col == col) ≡ true = grind (arith, nat_tests) in
    let at = at_nearest token_column col col xs (omega arith) (λ d g w. absurd (omega (arith, g, w))) (λ n. some (sym e ∙ n)) in (
      found.0,
      at ∙ ap (λ b. if b then first (in_column token_column col xs) else last (in_column token_column col xs)) self ∙ ap first e ∙ found.1,
      eq_from_test _ _ (and_first _ _ found.2),
      eq_from_test _ _ (and_second _ _ found.2),
    )
