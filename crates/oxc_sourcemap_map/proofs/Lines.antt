-- The tokens between two places: those at one place, and those of one line.
use Rattle.std.proofs.Common.{◌≡◌, refl, sym, ap, ◌∙◌, ℕ, ◌+◌, ◌<◌, ◌≤◌, Bool, true, false, cond}
use Rattle.std.proofs.Common.{◌&&◌, ◌==◌, List, [], ◌∷◌, length, get_or, inl, inr, arith}
use Rattle.std.proofs.lemmas.Bool.{cases_lt}
use Rattle.std.proofs.lemmas.Bool.Decides.{nat_tests}
use Rattle.std.proofs.lemmas.List.Elements.{recursion_from_All}
use Rattle.std.specs.List.{filter, AllByRecursion}
use Rattle.std.specs.List.Sorted.{IsNonDecreasingBy}
use Rattle.oxc_sourcemap_tokens.specs.Token.{TokenRecord, IsInBounds, AreInBounds, is_mapped}
use Rattle.oxc_sourcemap_map.specs.Reverse.{is_at, source_column, generated_at, IsLineByColumn}
use Rattle.oxc_sourcemap_map.specs.Places.{original_number, token_original, AreBetween}
use Rattle.oxc_sourcemap_map.proofs.Numbers.{is_at_place, filter_same}

-- what lies from one place up to another
abbrev pub Lies : ℕ → ℕ → TokenRecord → Type 0
Lies from to t = (from ≤ token_original t) × (token_original t < to)

pub all_pass : {A : Type 0} (P : A → Type 0) (p : A → Bool) → ((x : A) → P x → p x ≡ true) → (xs : List A) → AllByRecursion P xs → filter p xs ≡ xs
all_pass P p h [] all = refl
all_pass P p h (x ∷ xs) all = ap (λ b. cond b (x ∷ filter p xs) (filter p xs)) (h x all.0) ∙ ap (λ ys. x ∷ ys) (all_pass P p h xs all.1)

pub exactly_there : (s l c place : ℕ) (tokens found : List TokenRecord) → l < 4294967296 → c < 4294967296 → place ≡ original_number s l c → AreInBounds tokens
    → AreBetween place (place + 1) found → filter (λ t. token_original t == place) found ≡ filter (λ t. is_mapped t && token_original t == place) tokens → found ≡ generated_at s l c tokens
exactly_there s l c place tokens found hl hc is bounds only each =
    sym (all_pass (Lies place (place + 1)) (λ t. token_original t == place) (λ t h. grind (arith, nat_tests, h.0, h.1)) found (recursion_from_All (Lies place (place + 1)) found only))
    ∙ each
    ∙ filter_same IsInBounds (λ t. is_mapped t && token_original t == place) (is_at s l c) (λ t b. ap (λ p. is_mapped t && token_original t == p) is ∙ is_at_place s l c t hl hc b) tokens (recursion_from_All IsInBounds tokens bounds)

-- a token on a line lies as far from the line's first place as its column says
column_from : (s l start : ℕ) (t : TokenRecord) → l < 4294967296 → start ≡ original_number s l 0 → IsInBounds t → Lies start (start + 4294967296) t → token_original t ≡ start + t.src_col
column_from s l start t hl is b lies = omega (arith, hl, is, b.src_line, b.src_col, lies.0, lies.1)

abbrev OnLine : ℕ → TokenRecord → Type 0
OnLine start t = Lies start (start + 4294967296) t × IsInBounds t

on_line : (start : ℕ) (xs : List TokenRecord) → AllByRecursion (Lies start (start + 4294967296)) xs → AllByRecursion IsInBounds xs → AllByRecursion (OnLine start) xs
on_line start [] p q = tt
on_line start (x ∷ xs) p q = ((p.0, q.0), on_line start xs p.1 q.1)

shifted : (start m n k : ℕ) → k ≡ start + m → (m == n) ≡ (k == start + n)
shifted start m n k e = grind (arith, nat_tests, e)

none_pass : {A : Type 0} (xs : List A) → filter (λ _. false) xs ≡ []
none_pass [] = refl
none_pass (x ∷ xs) = none_pass xs

and_false : (b c : Bool) → c ≡ false → (b && c) ≡ false
and_false true c e = e
and_false false c e = refl

apart : (m n : ℕ) → m < 4294967296 → 4294967296 ≤ n → (m == n) ≡ false
apart m n h k = grind (arith, nat_tests, h, k)

pub all_of_line : (s l start : ℕ) (tokens found : List TokenRecord) → l < 4294967296 → start ≡ original_number s l 0 → AreInBounds tokens → AreInBounds found
    → AreBetween start (start + 4294967296) found → IsNonDecreasingBy token_original found
    → ((place : ℕ) → start ≤ place → place < start + 4294967296 → filter (λ t. token_original t == place) found ≡ filter (λ t. is_mapped t && token_original t == place) tokens)
    → IsLineByColumn s l tokens found
all_of_line s l start tokens found hl is bounds found_bounds only rises each =
    let inside = recursion_from_All IsInBounds tokens bounds in
    let found_inside = recursion_from_All IsInBounds found found_bounds in
    let lines = on_line start found (recursion_from_All (Lies start (start + 4294967296)) found only) found_inside in record {
      order = λ i j d le lt.
          let in_ : i < length found = omega (arith, le, lt) in
          omega (arith, rises i j d le lt, column_from s l start (get_or found i d) hl is (found_bounds i d in_) (only i d in_), column_from s l start (get_or found j d) hl is (found_bounds j d lt) (only j d lt));
      each = λ col. elim (cases_lt col 4294967296) [
        | inl h ↦
            let place : start + col ≡ original_number s l col = omega (arith, is) in
            filter_same (OnLine start) (λ t. source_column t == col) (λ t. token_original t == start + col) (λ t w. shifted start t.src_col col (token_original t) (column_from s l start t hl is w.1 w.0)) found lines
            ∙ each (start + col) (omega arith) (omega (arith, h))
            ∙ filter_same IsInBounds (λ t. is_mapped t && token_original t == start + col) (is_at s l col) (λ t b. ap (λ p. is_mapped t && token_original t == p) place ∙ is_at_place s l col t hl h b) tokens inside
        | inr h ↦
            filter_same IsInBounds (λ t. source_column t == col) (λ _. false) (λ t b. apart t.src_col col b.src_col h) found found_inside ∙ none_pass found
            ∙ sym (filter_same IsInBounds (is_at s l col) (λ _. false) (λ t b. and_false _ _ (apart t.src_col col b.src_col h)) tokens inside ∙ none_pass tokens)
      ];
    }
