-- The first item of a list with the greatest number.
use Rattle.std.proofs.Common.{◌≡◌, ◌⊎◌, inl, inr, ◌<◌, ◌≤◌, ◌+◌, ℕ, List, Option, Some, None}
use Rattle.std.proofs.Common.{slice_get}
use Rattle.std.proofs.Common.{MatchOption, arith, refl, sym, length, subst}
use Rattle.std.proofs.Common.{string_bytes}
use Rattle.std.proofs.lemmas.Option.{slice_get_within}
use Rattle.oxc_sourcemap_parts.specs.Record.{Text}
use Rattle.sourcemap_texts.specs.declared.matching.Prefix.{Prefix}
use Rattle.sourcemap_texts.specs.Matching.{below_length, IsLongest}
use Rattle.std.proofs.lemmas.Bool.{cases_order}

-- The item at this index has this number, which none of the first n items passes and none before it has.
pub record IsMostAt {X : Type 0} (f : X → ℕ) (xs : List X) (n i most : ℕ) : Type 0 where
  pub item : X
  pub at : slice_get xs i ≡ Some item
  pub is_most : f item ≡ most
  pub some : 0 < most
  pub before : i < n
  pub none_more : (x : X) (j : ℕ) → slice_get xs j ≡ Some x → j < n → f x ≤ most
  pub is_first : (x : X) (j : ℕ) → slice_get xs j ≡ Some x → j < i → f x < most

-- the first of the first n items with the greatest number, and that, or 0 if all have 0
abbrev pub IsMost : {X : Type 0} → (X → ℕ) → List X → ℕ → Option ℕ → ℕ → Type 0
IsMost {X = X} f xs n longest most =
    MatchOption longest ((most ≡ 0) × ((x : X) (j : ℕ) → slice_get xs j ≡ Some x → j < n → f x ≤ most)) (λ i. IsMostAt f xs n i most)

same_item : {X : Type 0} (xs : List X) (n j : ℕ) (x y : X) → slice_get xs n ≡ Some y → slice_get xs j ≡ Some x → j ≡ n → x ≡ y
same_item xs n j x y at_n at_j e = cc

one_by_order : {X : Type 0} (f : X → ℕ) (xs : List X) (n j m : ℕ) (x y : X) → slice_get xs n ≡ Some y → slice_get xs j ≡ Some x → j < n + 1 → f y ≤ m → (j < n → f x ≤ m)
    → (j ≡ n) ⊎ ((j < n) ⊎ (n < j)) → f x ≤ m
one_by_order f xs n j m x y at_n at_j lt last rest (inl e) = rw (same_item xs n j x y at_n at_j e) last
one_by_order f xs n j m x y at_n at_j lt last rest (inr (inl e)) = rest e
one_by_order f xs n j m x y at_n at_j lt last rest (inr (inr e)) = absurd (omega (arith, lt, e))

-- one more item that does not pass a number
pub one_more : {X : Type 0} (f : X → ℕ) (xs : List X) (n most m : ℕ) (y : X) → slice_get xs n ≡ Some y → most ≤ m → f y ≤ m
    → ((x : X) (j : ℕ) → slice_get xs j ≡ Some x → j < n → f x ≤ most) → (x : X) (j : ℕ) → slice_get xs j ≡ Some x → j < n + 1 → f x ≤ m
one_more f xs n most m y at_n le last rest x j at_j lt =
    one_by_order f xs n j m x y at_n at_j lt last (λ before. (let own = rest x j at_j before in omega (arith, own, le))) (cases_order j n)

-- the next item has less, or as much
pub none_more : {X : Type 0} (f : X → ℕ) (xs : List X) (n most : ℕ) (longest : Option ℕ) (y : X) → slice_get xs n ≡ Some y → f y ≤ most → IsMost f xs n longest most
    → IsMost f xs (n + 1) longest most
none_more f xs n most None y at_n le (e, none) = (e, one_more f xs n most most y at_n (omega arith) le none)
none_more f xs n most (Some i) y at_n le m = record {
  item = m.item;
  at = m.at;
  is_most = m.is_most;
  some = m.some;
  before = (let lt = m.before in omega (arith, lt));
  none_more = one_more f xs n most most y at_n (omega arith) le m.none_more;
  is_first = m.is_first;
}

so_far : {X : Type 0} (f : X → ℕ) (xs : List X) (n most : ℕ) (longest : Option ℕ) → IsMost f xs n longest most → (x : X) (j : ℕ) → slice_get xs j ≡ Some x → j < n → f x ≤ most
so_far f xs n most None m = m.1
so_far f xs n most (Some i) m = m.none_more

-- the next item has more than all before it
pub more : {X : Type 0} (f : X → ℕ) (xs : List X) (n most : ℕ) (longest : Option ℕ) (y : X) → slice_get xs n ≡ Some y → most < f y → IsMost f xs n longest most
    → IsMostAt f xs (n + 1) n (f y)
more f xs n most longest y at_n lt m = record {
  item = y;
  at = at_n;
  is_most = refl;
  some = omega (arith, lt);
  before = omega arith;
  none_more = one_more f xs n most (f y) y at_n (omega (arith, lt)) (omega arith) (so_far f xs n most longest m);
  is_first = λ x j at_j before. (let own = so_far f xs n most longest m x j at_j before in omega (arith, own, lt));
}

-- the longest of all prefixes
pub of_all : (path : Text) (prefixes : List Prefix) (n most : ℕ) (longest : Option ℕ) → length prefixes ≤ n → IsMost (λ (p : Prefix). below_length path (string_bytes p.left)) prefixes n longest most
    → MatchOption longest ((p : Prefix) (i : ℕ) → slice_get prefixes i ≡ Some p → below_length path (string_bytes p.left) ≡ 0) (λ i. IsLongest path prefixes i)
of_all path prefixes n most None le (e, none) = λ p i at.
    (let own = none p i at (let within = slice_get_within prefixes i p at in omega (arith, within, le)) in omega (arith, own, e))
of_all path prefixes n most (Some i) le m = record {
  longest = m.item;
  at = m.at;
  is_below = subst (λ k. 0 < k) (sym m.is_most) m.some;
  none_longer = λ p j at.
      (let within = slice_get_within prefixes j p at in
      subst (λ k. below_length path (string_bytes p.left) ≤ k) (sym m.is_most) (m.none_more p j at (omega (arith, within, le))));
  is_first = λ p j at before. subst (λ k. below_length path (string_bytes p.left) < k) (sym m.is_most) (m.is_first p j at before);
}
