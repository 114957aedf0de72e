-- The indices of the tokens that pass a test.
use Rattle.std.proofs.Common.{◌≡◌, refl, sym, ap, subst, ◌∙◌, ℕ, zero, suc, ◌+◌, ◌<◌, ◌≤◌, Bool}
use Rattle.std.proofs.Common.{true, false, cond, ◌&&◌, ◌==◌, List, [], ◌∷◌, length, get_or, map}
use Rattle.std.proofs.Common.{arith}
use Rattle.std.proofs.lemmas.Bool.Decides.{nat_tests}
use Rattle.std.proofs.lemmas.List.Elements.{recursion_from_All}
use Rattle.std.specs.List.{filter, All, AllByRecursion}
use Rattle.oxc_sourcemap_tokens.specs.Token.{TokenRecord, IsInBounds, AreInBounds, is_mapped}
use Rattle.oxc_sourcemap_map.specs.Reverse.{is_into, is_at, passing_from, passing, indices_at}
use Rattle.oxc_sourcemap_map.specs.Places.{original_number, token_original, no_token, listed}
use Rattle.oxc_sourcemap_map.specs.Places.{AreBetween}
use Rattle.oxc_sourcemap_map.proofs.Numbers.{is_at_place}
use Rattle.oxc_sourcemap_map.proofs.Lines.{all_pass, Lies}

passing_same : {A : Type 0} (P : A → Type 0) (p q : A → Bool) → ((x : A) → P x → p x ≡ q x) → (xs : List A) (i : ℕ) → AllByRecursion P xs → passing_from i p xs ≡ passing_from i q xs
passing_same P p q h [] i a = refl
passing_same P p q h (x ∷ xs) i a =
    ap (λ b. cond b (i ∷ passing_from (i + 1) p xs) (passing_from (i + 1) p xs)) (h x a.0) ∙ ap (λ ys. cond (q x) (i ∷ ys) ys) (passing_same P p q h xs (i + 1) a.1)

unmapped : {A B : Type 0} (P : B → Type 0) (f : A → B) (xs : List A) → AllByRecursion P (map f xs) → AllByRecursion (λ x. P (f x)) xs
unmapped P f [] all = tt
unmapped P f (x ∷ xs) all = (all.0, unmapped P f xs all.1)

-- indices between a place and the next are those of the tokens that point there
pub exact_indices : (s l c place : ℕ) (tokens : List TokenRecord) (found : List ℕ) → l < 4294967296 → c < 4294967296 → place ≡ original_number s l c → AreInBounds tokens
    → AreBetween place (place + 1) (listed tokens found)
    → filter (λ i. token_original (get_or tokens i no_token) == place) found ≡ passing (λ t. is_mapped t && token_original t == place) tokens → found ≡ indices_at s l c tokens
exact_indices s l c place tokens found hl hc is bounds only each =
    let lies = unmapped (Lies place (place + 1)) (λ i. get_or tokens i no_token) found (recursion_from_All (Lies place (place + 1)) (listed tokens found) only) in
    sym (all_pass (λ i. Lies place (place + 1) (get_or tokens i no_token)) (λ i. token_original (get_or tokens i no_token) == place) (λ i h. grind (arith, nat_tests, h.0, h.1)) found lies)
    ∙ each
    ∙ passing_same IsInBounds (λ t. is_mapped t && token_original t == place) (is_at s l c) (λ t b. ap (λ p. is_mapped t && token_original t == p) is ∙ is_at_place s l c t hl hc b) tokens 0 (recursion_from_All IsInBounds tokens bounds)

module _ {A : Type 0} (Q : A → Type 0) where
  rest-by : (b : Bool) (x : A) (xs : List A) → AllByRecursion Q (cond b (x ∷ xs) xs) → AllByRecursion Q xs
  rest-by true x xs all = all.1
  rest-by false x xs all = all

  with-by : (b : Bool) (x : A) (xs : List A) → Q x → AllByRecursion Q xs → AllByRecursion Q (cond b (x ∷ xs) xs)
  with-by true x xs h all = (h, all)
  with-by false x xs h all = all

  all_filtered : (p : A → Bool) (xs : List A) → AllByRecursion Q xs → AllByRecursion Q (filter p xs)
  all_filtered p [] all = tt
  all_filtered p (x ∷ xs) all = with-by (p x) x (filter p xs) all.0 (all_filtered p xs all.1)

-- what holds of all indices that pass holds of one
passes : {A : Type 0} (Q : ℕ → Type 0) (p : A → Bool) (xs : List A) (n k : ℕ) (d : A) → AllByRecursion Q (passing_from n p xs) → k < length xs → p (get_or xs k d) ≡ true → Q (n + k)
passes Q p [] n k d all lt e = absurd (omega (arith, lt))
passes Q p (x ∷ xs) n zero d all lt e =
    let here = subst (λ b. AllByRecursion Q (cond b (n ∷ passing_from (n + 1) p xs) (passing_from (n + 1) p xs))) e all in
    let same : n ≡ n + 0 = omega arith in
    subst Q same here.0
passes Q p (x ∷ xs) n (suc k) d all lt e =
    let same : n + 1 + k ≡ n + suc k = omega arith in
    subst Q same (passes Q p xs (n + 1) k d (rest-by Q (p x) n (passing_from (n + 1) p xs) all) (omega (arith, lt)) e)

points : (s l : ℕ) (t : TokenRecord) → is_into s l t ≡ true → is_at s l t.src_col t ≡ true
points s l t e = let same : (t.src_col == t.src_col) ≡ true = grind (arith, nat_tests) in ap (λ b. b && (t.src_col == t.src_col)) e ∙ same

-- what holds of all indices of a line's range holds of each token of the line
pub on_line_found : (Q : ℕ → Type 0) (s l start : ℕ) (tokens : List TokenRecord) (found : List ℕ) → l < 4294967296 → start ≡ original_number s l 0 → AreInBounds tokens → All Q found
    → ((place : ℕ) → start ≤ place → place < start + 4294967296 → filter (λ i. token_original (get_or tokens i no_token) == place) found ≡ passing (λ t. is_mapped t && token_original t == place) tokens)
    → (k : ℕ) (d : TokenRecord) → k < length tokens → is_into s l (get_or tokens k d) ≡ true → Q k
on_line_found Q s l start tokens found hl is bounds all each k d lt e =
    let t = get_or tokens k d in
    let inside = bounds k d lt in
    let small : t.src_col < 4294967296 = inside.src_col in
    let place = original_number s l t.src_col in
    let low : start ≤ place = omega (arith, is) in
    let high : place < start + 4294967296 = omega (arith, is, small) in
    let rows = subst (λ xs. AllByRecursion Q xs) (each place low high) (all_filtered Q (λ i. token_original (get_or tokens i no_token) == place) found (recursion_from_All Q found all)) in
    let same : 0 + k ≡ k = omega arith in
    subst Q same (passes Q (λ t. is_mapped t && token_original t == place) tokens 0 k d rows lt (is_at_place s l t.src_col t hl small inside ∙ points s l t e))
