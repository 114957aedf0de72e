-- What stands around an index in tokens by place, and what the definitions find.
use Rattle.std.proofs.Common.{◌≡◌, ◌≢◌, refl, sym, ap, ◌∙◌, ℕ, zero, suc, ◌+◌, ◌-◌, ◌<◌, ◌≤◌, Bool}
use Rattle.std.proofs.Common.{true, false, cond, ◌&&◌, ◌==◌, List, [], ◌∷◌, length, get_or}
use Rattle.std.proofs.Common.{if◌then◌else◌, Some, None, inl, inr, arith}
use Rattle.std.proofs.lemmas.Bool.{cases_lt}
use Rattle.std.proofs.lemmas.Bool.Decides.{nat_tests}
use Rattle.std.specs.List.{filter, AllByRecursion}
use Rattle.std.specs.List.Sorted.{IsNonDecreasingBy}
use Rattle.oxc_sourcemap_tokens.specs.Token.{TokenRecord, IsInBounds, last}
use Rattle.oxc_sourcemap_lookup.specs.Lookup.{first, in_column}
use Rattle.oxc_sourcemap_map.specs.Reverse.{is_into, source_column, pointing_to, generated_at}
use Rattle.oxc_sourcemap_map.specs.Reverse.{generated_for, generated_from}
use Rattle.oxc_sourcemap_map.specs.Places.{original_number, token_original, listed, IsOrderOf}
use Rattle.oxc_sourcemap_map.proofs.Numbers.{is_at_place, filter_same}
use Rattle.oxc_sourcemap_map.proofs.Runs.{filter_none, first_passing, last_passing}
use Rattle.oxc_sourcemap_map.proofs.Nearest.{at_nearest, at_none, from_nearest, from_none}

filter_twice-by : {A : Type 0} (b : Bool) (p q : A → Bool) (x : A) (xs ys : List A) → filter q xs ≡ ys → filter q (cond b (x ∷ xs) xs) ≡ cond (b && q x) (x ∷ ys) ys
filter_twice-by true p q x xs ys e = ap (λ zs. cond (q x) (x ∷ zs) zs) e
filter_twice-by false p q x xs ys e = e

pub filter_twice : {A : Type 0} (p q : A → Bool) (xs : List A) → filter q (filter p xs) ≡ filter (λ x. p x && q x) xs
filter_twice p q [] = refl
filter_twice p q (x ∷ xs) = filter_twice-by (p x) p q x (filter p xs) (filter (λ x. p x && q x) xs) (filter_twice p q xs)

is_not : (m n : ℕ) → (m ≡ n → ⊥) → (m == n) ≡ false
is_not m n h = grind (arith, nat_tests, h)

some_not_nil : {A : Type 0} (xs : List A) (y : A) → first xs ≡ Some y → xs ≢ []
some_not_nil [] y h e = cc (h)
some_not_nil (x ∷ xs) y h e = cc (e)

last_not_nil : {A : Type 0} (xs : List A) (y : A) → last xs ≡ Some y → xs ≢ []
last_not_nil [] y h e = cc (h)
last_not_nil (x ∷ xs) y h e = cc (e)

pub same_read : {A : Type 0} (xs : List A) (i : ℕ) (d e : A) → i < length xs → get_or xs i d ≡ get_or xs i e
same_read [] i d e h = absurd (omega (arith, h))
same_read (x ∷ xs) zero d e h = refl
same_read (x ∷ xs) (suc i) d e h = same_read xs i d e (omega (arith, h))

bounded-by : (b : Bool) (x : TokenRecord) (xs : List TokenRecord) → source_column x < 4294967296 → AllByRecursion (λ t. source_column t < 4294967296) xs → AllByRecursion (λ t. source_column t < 4294967296) (cond b (x ∷ xs) xs)
bounded-by true x xs h all = (h, all)
bounded-by false x xs h all = all

bounded-filter : (p : TokenRecord → Bool) (xs : List TokenRecord) → AllByRecursion IsInBounds xs → AllByRecursion (λ t. source_column t < 4294967296) (filter p xs)
bounded-filter p [] h = tt
bounded-filter p (x ∷ xs) h = bounded-by (p x) x (filter p xs) h.0.src_col (bounded-filter p xs h.1)

abbrev place_test : ℕ → TokenRecord → Bool
place_test k t = token_original t == k

module _ (tokens : List TokenRecord) (order : List ℕ) (ord : IsOrderOf tokens order) (bounds : AllByRecursion IsInBounds tokens) (s l : ℕ) (small : l < 4294967296) where
  -- the tokens at a column of the line, in the map and in the order
  pub at_column : (c : ℕ) → c < 4294967296 → filter (place_test (original_number s l c)) (listed tokens order) ≡ generated_at s l c tokens
  at_column c h =
      ord.each (original_number s l c) ∙ filter_same IsInBounds _ _ (λ t b. is_at_place s l c t small h b) tokens bounds

  column_of : (c : ℕ) → c < 4294967296 → in_column source_column c (pointing_to s l tokens) ≡ filter (place_test (original_number s l c)) (listed tokens order)
  column_of c h = filter_twice (is_into s l) (λ t. source_column t == c) tokens ∙ sym (at_column c h)

  empty : (c m : ℕ) → c < 4294967296 → ((i : ℕ) (d : TokenRecord) → i < m → token_original (get_or (listed tokens order) i d) < original_number s l c)
      → ((i : ℕ) (d : TokenRecord) → m ≤ i → i < length (listed tokens order) → original_number s l c < token_original (get_or (listed tokens order) i d))
      → in_column source_column c (pointing_to s l tokens) ≡ []
  empty c m h b f =
      column_of c h ∙ filter_none (place_test (original_number s l c)) (place_test 0) (listed tokens order) (λ i d g.
      is_not _ _ (λ e. elim (cases_lt i m) [
        | inl lt ↦ (let k = b i d lt in omega (arith, e, k))
        | inr ge ↦ (let k = f i d ge g in omega (arith, e, k))
      ]))

  module _ (col start : ℕ) (near : col < 4294967296) (within : start ≤ length (listed tokens order))
      (before : (i : ℕ) (d : TokenRecord) → i < start → token_original (get_or (listed tokens order) i d) < original_number s l col)
      (others : (i : ℕ) (d : TokenRecord) → start ≤ i → i < length (listed tokens order) → original_number s l col ≤ token_original (get_or (listed tokens order) i d)) where
    hit-first : (d : TokenRecord) → start < length (listed tokens order) → token_original (get_or (listed tokens order) start d) ≡ original_number s l col
        → first (in_column source_column col (pointing_to s l tokens)) ≡ Some (get_or (listed tokens order) start d)
    hit-first d lt e =
        ap first (column_of col near)
        ∙ first_passing (place_test (original_number s l col)) (listed tokens order) start d lt (grind (arith, nat_tests, e)) (λ j x g. is_not _ _ (λ same. let k = before j x g in omega (arith, same, k)))

    -- an exact hit
    pub for_hit : (d : TokenRecord) → start < length (listed tokens order) → token_original (get_or (listed tokens order) start d) ≡ original_number s l col
        → generated_for s l col tokens ≡ Some (get_or (listed tokens order) start d)
    for_hit d lt e =
        let hit = hit-first d lt e in
        let self : (col == col) ≡ true = grind (arith, nat_tests) in
        at_nearest source_column col col (pointing_to s l tokens) (omega arith) (λ c g w. absurd (omega (arith, g, w))) (some_not_nil _ _ hit)
        ∙ ap (λ b. if b then first (in_column source_column col (pointing_to s l tokens)) else last (in_column source_column col (pointing_to s l tokens))) self ∙ hit

    -- no token at the place
    module _ (past : (i : ℕ) (d : TokenRecord) → start ≤ i → i < length (listed tokens order) → original_number s l col < token_original (get_or (listed tokens order) i d)) (rises : IsNonDecreasingBy token_original (listed tokens order)) where
      pub for_near : (d : TokenRecord) (m : ℕ) → m + 1 ≡ start → original_number s l 0 ≤ token_original (get_or (listed tokens order) m d)
          → generated_for s l col tokens ≡ Some (get_or (listed tokens order) m d)
      for_near d m e on =
          let xs = listed tokens order in
          let t = get_or xs m d in
          let best = token_original t - original_number s l 0 in
          let lt = before m d (omega (arith, e)) in
          let place : token_original t ≡ original_number s l best = omega (arith, on) in
          let less : best < col = omega (arith, place, lt) in
          let small_best : best < 4294967296 = omega (arith, less, near) in
          let found : last (in_column source_column best (pointing_to s l tokens)) ≡ Some t =
          ap last (column_of best small_best)
          ∙ last_passing (place_test (original_number s l best)) xs m d (omega (arith, e, within)) (grind (arith, nat_tests, place))
          (λ j x g w. is_not _ _ (λ same. let k = past j x (omega (arith, e, g)) w in omega (arith, same, k, less))) in
          let none = λ (c : ℕ) (g : best < c) (w : c ≤ col).
          empty c start (omega (arith, w, near))
          (λ i x q. let k = rises i m d (omega (arith, q, e)) (omega (arith, e, within)) in let v = before i x q in let same = ap token_original (same_read xs i x d (omega (arith, q, within))) in omega (arith, k, same, place, g))
          (λ i x q v. let k = past i x q v in omega (arith, k, w)) in
          let other : (best == col) ≡ false = is_not best col (λ same. omega (arith, same, less)) in
          at_nearest source_column col best (pointing_to s l tokens) (omega (arith, less)) none (last_not_nil _ _ found)
          ∙ ap (λ b. if b then first (in_column source_column best (pointing_to s l tokens)) else last (in_column source_column best (pointing_to s l tokens))) other ∙ found

      pub for_none : ((d : TokenRecord) (m : ℕ) → m + 1 ≡ start → token_original (get_or (listed tokens order) m d) < original_number s l 0) → generated_for s l col tokens ≡ None
      for_none off =
          at_none source_column col (pointing_to s l tokens) (λ c w.
          empty c start (omega (arith, w, near))
          (λ i x q.
          let m = start - 1 in
          let e : m + 1 ≡ start = omega (arith, q) in
          let k = rises i m x (omega (arith, q, e)) (omega (arith, e, within)) in
          let o = off x m e in omega (arith, k, o))
          (λ i x q v. let k = past i x q v in omega (arith, k, w)))

      -- the mirror image: no token at the place, and one after it
      pub from_near : (d : TokenRecord) → start < length (listed tokens order) → token_original (get_or (listed tokens order) start d) < original_number s l 4294967296
          → generated_from s l col tokens ≡ Some (get_or (listed tokens order) start d)
      from_near d lt on =
          let xs = listed tokens order in
          let t = get_or xs start d in
          let best = token_original t - original_number s l 0 in
          let more = past start d (omega arith) lt in
          let place : token_original t ≡ original_number s l best = omega (arith, more) in
          let after : col < best = omega (arith, place, more) in
          let small_best : best < 4294967296 = omega (arith, place, on) in
          let found : first (in_column source_column best (pointing_to s l tokens)) ≡ Some t =
          ap first (column_of best small_best)
          ∙ first_passing (place_test (original_number s l best)) xs start d lt (grind (arith, nat_tests, place))
          (λ j x g. is_not _ _ (λ same. let k = before j x g in omega (arith, same, k, after))) in
          let none = λ (c : ℕ) (g : col ≤ c) (w : c < best).
          empty c start (omega (arith, w, small_best))
          (λ i x q. let k = before i x q in omega (arith, k, g))
          (λ i x q v. let k = rises start i d q v in let same = ap token_original (same_read xs i x d v) in omega (arith, k, same, place, w)) in
          let other : (best == col) ≡ false = is_not best col (λ same. omega (arith, same, after)) in
          from_nearest source_column col best (pointing_to s l tokens) (omega (arith, after)) none (some_not_nil _ _ found)
          ∙ ap (λ b. if b then last (in_column source_column best (pointing_to s l tokens)) else first (in_column source_column best (pointing_to s l tokens))) other ∙ found

      pub from_nothing : ((d : TokenRecord) → start < length (listed tokens order) → original_number s l 4294967296 ≤ token_original (get_or (listed tokens order) start d)) → generated_from s l col tokens ≡ None
      from_nothing off =
          from_none source_column col 4294967296 (pointing_to s l tokens) (bounded-filter (is_into s l) tokens bounds) (λ c g w.
          empty c start w
          (λ i x q. let k = before i x q in omega (arith, k, g))
          (λ i x q v.
          let k = rises start i x q v in
          let o = off x (omega (arith, q, v)) in omega (arith, k, o, w)))

    -- an exact hit, from above: the last token at the place
    pub from_hit : (end : ℕ) (d : TokenRecord) → end < length (listed tokens order) → token_original (get_or (listed tokens order) end d) ≡ original_number s l col
        → ((i : ℕ) (d : TokenRecord) → end < i → i < length (listed tokens order) → original_number s l col < token_original (get_or (listed tokens order) i d))
        → generated_from s l col tokens ≡ Some (get_or (listed tokens order) end d)
    from_hit end d lt e after =
        let hit : last (in_column source_column col (pointing_to s l tokens)) ≡ Some (get_or (listed tokens order) end d) =
        ap last (column_of col near)
        ∙ last_passing (place_test (original_number s l col)) (listed tokens order) end d lt (grind (arith, nat_tests, e)) (λ j x g w. is_not _ _ (λ same. let k = after j x g w in omega (arith, same, k))) in
        let self : (col == col) ≡ true = grind (arith, nat_tests) in
        from_nearest source_column col col (pointing_to s l tokens) (omega arith) (λ c g w. absurd (omega (arith, g, w))) (last_not_nil _ _ hit)
        ∙ ap (λ b. if b then last (in_column source_column col (pointing_to s l tokens)) else first (in_column source_column col (pointing_to s l tokens))) self ∙ hit
