-- Comparisons of texts behind borrows.
use Rattle.std.proofs.Common.{◌≡◌, ℕ, zero, suc, ◌+◌, ◌-◌, ◌<◌, ◌≤◌, Bool, true, false, List, []}
use Rattle.std.proofs.Common.{◌∷◌, ◌&&◌, refl, ap, ◌∙◌}
use Rattle.std.proofs.Common.{Bor, eqb, length, get_or, take, drop, arith}
use Rattle.std.specs.List.{common_prefix_len}
use Rattle.std.proofs.lemmas.List.{length-map, take_rest, drop_all}
use Rattle.std.proofs.lemmas.List.Sums.{common_prefix_len-drop_yes, common_prefix_len-drop_no}
use Rattle.std.specs.Cmp.Lexicographic.{pointwise}
use Rattle.std.specs.Str.{bytes_eq}
use Rattle.oxc_sourcemap_tokens.specs.Results.{lent_items}

pub same_lent : (xs ys : List (Bor (List ℕ))) → pointwise (λ x y. pointwise eqb x.now y.now) xs ys ≡ pointwise bytes_eq (lent_items xs) (lent_items ys)
same_lent [] [] = refl
same_lent [] (y ∷ ys) = refl
same_lent (x ∷ xs) [] = refl
same_lent (x ∷ xs) (y ∷ ys) = ap (λ b. bytes_eq x.now y.now && b) (same_lent xs ys)

abbrev nothing : Bor (List ℕ)
nothing = record { ref_ptr = (0, 0); now = [] }

at_lent : (xs : List (Bor (List ℕ))) (i : ℕ) → get_or (lent_items xs) i [] ≡ (get_or xs i nothing).now
at_lent [] i = refl
at_lent (x ∷ xs) zero = refl
at_lent (x ∷ xs) (suc i) = at_lent xs i

module _ (a b : List (Bor (List ℕ))) (n : ℕ) where
  abbrev alike : ℕ → ℕ
  alike k = common_prefix_len bytes_eq (drop k (lent_items a)) (drop k (lent_items b))

  test : (t : Bool) → pointwise eqb (get_or a n nothing).now (get_or b n nothing).now ≡ t → bytes_eq (get_or (lent_items a) n []) (get_or (lent_items b) n []) ≡ t
  test t e = rw (at_lent a n, at_lent b n) e

  pub alike_there : n < length a → n < length b → pointwise eqb (get_or a n nothing).now (get_or b n nothing).now ≡ true → alike n ≡ 1 + alike (n + 1)
  alike_there l m e =
      common_prefix_len-drop_yes bytes_eq (lent_items a) (lent_items b) n [] [] (omega (arith, length-map a (λ x. x.now))) (omega (arith, length-map b (λ x. x.now))) (test true e)

  pub alike_no_more : n < length a → n < length b → pointwise eqb (get_or a n nothing).now (get_or b n nothing).now ≡ false → alike n ≡ 0
  alike_no_more l m e =
      common_prefix_len-drop_no bytes_eq (lent_items a) (lent_items b) n [] [] (omega (arith, length-map a (λ x. x.now))) (omega (arith, length-map b (λ x. x.now))) (test false e)

  none_with : (xs : List (List ℕ)) → common_prefix_len bytes_eq xs [] ≡ 0
  none_with [] = refl
  none_with (x ∷ xs) = refl

  pub alike_past : length b ≤ n → alike n ≡ 0
  alike_past l =
      let past : length (lent_items b) ≤ n = omega (arith, length-map b (λ x. x.now)) in
      ap (common_prefix_len bytes_eq (drop n (lent_items a))) (drop_all n (lent_items b) past) ∙ none_with (drop n (lent_items a))

-- the rest of texts behind borrows
pub lent_rest : (xs : List (Bor (List ℕ))) (n : ℕ) → lent_items (take (length xs - n) (drop n xs)) ≡ drop n (lent_items xs)
lent_rest xs n = ap lent_items (take_rest xs n) ∙ rest xs n
  where
    rest : (l : List (Bor (List ℕ))) (k : ℕ) → lent_items (drop k l) ≡ drop k (lent_items l)
    rest l zero = refl
    rest [] (suc k) = refl
    rest (x ∷ l) (suc k) = rest l k
