-- The part of tokens by place from one place up to another.
use Rattle.std.proofs.Common.{◌≡◌, refl, ap, ℕ, ◌+◌, ◌-◌, ◌<◌, ◌≤◌, ◌==◌, false, inl, inr, List}
use Rattle.std.proofs.Common.{length, get_or, take, drop, arith}
use Rattle.std.proofs.lemmas.Bool.{cases_lt}
use Rattle.std.proofs.lemmas.Bool.Decides.{nat_tests}
use Rattle.std.proofs.lemmas.List.{length-take, get_or-map}
use Rattle.std.specs.List.{filter}
use Rattle.oxc_sourcemap_tokens.specs.Token.{TokenRecord}
use Rattle.oxc_sourcemap_map.specs.Places.{token_original, no_token, listed, AreBetween}
use Rattle.oxc_sourcemap_map.proofs.Runs.{filter_part, part_read}

pub in_order : (xs : List TokenRecord) (from to lo hi : ℕ) → from < to → lo ≤ length xs → ((i : ℕ) (d : TokenRecord) → i < lo → token_original (get_or xs i d) < from)
    → ((i : ℕ) (d : TokenRecord) → hi ≤ i → i < length xs → to ≤ token_original (get_or xs i d)) → lo ≤ hi
in_order xs from to lo hi f l b g =
    elim (cases_lt hi lo) [
      | inl k ↦ (let p = b hi no_token k in let q = g hi no_token (omega arith) (omega (arith, k, l)) in absurd (omega (arith, p, q, f)))
      | inr r ↦ omega (arith, r)
    ]

pub part_between : (xs : List TokenRecord) (from to lo hi : ℕ) → hi ≤ length xs → ((i : ℕ) (d : TokenRecord) → lo ≤ i → i < length xs → from ≤ token_original (get_or xs i d))
    → ((i : ℕ) (d : TokenRecord) → i < hi → token_original (get_or xs i d) < to) → AreBetween from to (take (hi - lo) (drop lo xs))
part_between xs from to lo hi h f b k d w =
    let lt : k < hi - lo = grind (arith, length-take (hi - lo) (drop lo xs), w) in
    let same = ap token_original (part_read xs lo (hi - lo) k d lt) in
    let p = f (lo + k) d (omega arith) (omega (arith, lt, h)) in
    let q = b (lo + k) d (omega (arith, lt)) in
    (omega (arith, same, p), omega (arith, same, q))

not_equal : (m n : ℕ) → (m ≡ n → ⊥) → (m == n) ≡ false
not_equal m n h = grind (arith, nat_tests, h)

pub part_same : (xs : List TokenRecord) (from to place lo hi : ℕ) → from ≤ place → place < to → lo ≤ hi → hi ≤ length xs → ((i : ℕ) (d : TokenRecord) → i < lo → token_original (get_or xs i d) < from)
    → ((i : ℕ) (d : TokenRecord) → hi ≤ i → i < length xs → to ≤ token_original (get_or xs i d)) → filter (λ t. token_original t == place) (take (hi - lo) (drop lo xs)) ≡ filter (λ t. token_original t == place) xs
part_same xs from to place lo hi low high le h b f =
    let e : lo + (hi - lo) ≡ hi = omega (arith, le) in
    filter_part (λ t. token_original t == place) (λ t. token_original t == place) xs lo (hi - lo) (omega (arith, e, h))
    (λ i d g. not_equal _ _ (λ s. let k = b i d g in omega (arith, s, k, low)))
    (λ i d g w. not_equal _ _ (λ s. let k = f i d (omega (arith, g, e)) w in omega (arith, s, k, high)))
    (λ i d g w. refl)

-- the same of the indices themselves
pub part_same_index : (tokens : List TokenRecord) (order : List ℕ) (from to place lo hi : ℕ) → from ≤ place → place < to → lo ≤ hi → hi ≤ length order
    → ((i : ℕ) (d : TokenRecord) → i < lo → token_original (get_or (listed tokens order) i d) < from)
    → ((i : ℕ) (d : TokenRecord) → hi ≤ i → i < length order → to ≤ token_original (get_or (listed tokens order) i d))
    → filter (λ i. token_original (get_or tokens i no_token) == place) (take (hi - lo) (drop lo order)) ≡ filter (λ i. token_original (get_or tokens i no_token) == place) order
part_same_index tokens order from to place lo hi low high le h b f =
    let e : lo + (hi - lo) ≡ hi = omega (arith, le) in
    let same = λ (i d : ℕ) (w : i < length order). ap token_original (get_or-map (λ i. get_or tokens i no_token) order i d no_token w) in
    filter_part (λ i. token_original (get_or tokens i no_token) == place) (λ i. token_original (get_or tokens i no_token) == place) order lo (hi - lo) (omega (arith, e, h))
    (λ i d g. not_equal _ _ (λ s. let k = b i no_token g in omega (arith, s, k, low, same i d (omega (arith, g, le, h)))))
    (λ i d g w. not_equal _ _ (λ s. let k = f i no_token (omega (arith, g, e)) w in omega (arith, s, k, high, same i d w)))
    (λ i d g w. refl)
