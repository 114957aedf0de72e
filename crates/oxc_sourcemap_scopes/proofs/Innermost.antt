-- Which of nested spans is the innermost that contains a place.
use Rattle.std.proofs.Common.{◌≡◌, ℕ, ◌+◌, ◌-◌, ◌<◌, ◌≤◌, ◌==◌, nat_lt, nat_le, Bool, true, false}
use Rattle.std.proofs.Common.{◌&&◌, List, [], ◌∷◌, length}
use Rattle.std.proofs.Common.{get_or, Option, Some, None, refl, sym, ap, ◌∙◌, arith, inl, inr, zero}
use Rattle.std.proofs.Common.{suc}
use Rattle.std.specs.Option.{SomeIff}
use Rattle.std.proofs.lemmas.Bool.{cases_lt, cases_eq}
use Rattle.std.proofs.lemmas.Bool.Decides.{nat_tests}
use Rattle.oxc_sourcemap_scopes.specs.declared.scopes.Span.{Span}
use Rattle.oxc_sourcemap_scopes.specs.Trees.{place_of, key, start_key, end_key, rank, no_span}
use Rattle.oxc_sourcemap_scopes.specs.Trees.{span_at}
use Rattle.oxc_sourcemap_scopes.specs.Trees.{parent_rank, AreNested, contains, last_from, innermost}

pub le-test : (a b : ℕ) → a ≤ b → nat_le a b ≡ true
le-test a b h = grind (arith, nat_tests)

pub not-le-test : (a b : ℕ) → b < a → nat_le a b ≡ false
not-le-test a b h = grind (arith, nat_tests)

-- a span that starts after a place does not contain it
pub after-start : (source place : ℕ) (s : Span) → key source place < start_key s → contains source place s ≡ false
after-start source place s h = elim (cases_eq s.source source) [
  | inl e ↦ (let t : place < place_of s.start = omega (arith, e, h) in
      let a : (s.source == source) ≡ true = grind (arith, nat_tests) in
      let b : nat_le (place_of s.start) place ≡ false = not-le-test (place_of s.start) place t in rw (a, b) refl)
  | inr n ↦ (let a : (s.source == source) ≡ false = grind (arith, nat_tests) in rw a refl)
]

-- a span that ends by a place does not contain it
pub by-end : (source place : ℕ) (s : Span) → end_key s ≤ key source place → contains source place s ≡ false
by-end source place s h = elim (cases_eq s.source source) [
  | inl e ↦ (let t : place_of s.end ≤ place = omega (arith, e, h) in
      let a : (s.source == source) ≡ true = grind (arith, nat_tests) in
      let b : nat_lt place (place_of s.end) ≡ false = grind (arith, nat_tests) in
      elim (nat_le (place_of s.start) place) as (λ x. (((s.source == source) && x) && nat_lt place (place_of s.end)) ≡ false) [ true ↦ rw (a, b) refl | false ↦ rw a refl ])
  | inr n ↦ (let a : (s.source == source) ≡ false = grind (arith, nat_tests) in rw a refl)
]

-- no item passes a test
pub last-none : {A : Type 0} (test : A → Bool) (i : ℕ) (xs : List A) (d : A) → ((j : ℕ) → j < length xs → test (get_or xs j d) ≡ false) → last_from test i xs ≡ None
last-none test i [] d h = refl
last-none test i (x ∷ xs) d h =
    let rest : last_from test (i + 1) xs ≡ None = last-none test (i + 1) xs d (λ j l. h (suc j) (omega (arith, l))) in
    let here : test x ≡ false = h 0 (omega arith) in
    rw (rest, here) refl

-- the item at an index passes it, and none after it
pub last-some : {A : Type 0} (test : A → Bool) (i k : ℕ) (xs : List A) (d : A) → k < length xs → test (get_or xs k d) ≡ true
    → ((j : ℕ) → k < j → j < length xs → test (get_or xs j d) ≡ false) → last_from test i xs ≡ Some (i + k)
last-some test i k [] d l h n = absurd (omega (arith, l))
last-some test i zero (x ∷ xs) d l h n =
    let rest : last_from test (i + 1) xs ≡ None = last-none test (i + 1) xs d (λ j b. n (suc j) (omega arith) (omega (arith, b))) in
    rw (rest, h) (ap Some (omega arith))
last-some test i (suc k) (x ∷ xs) d l h n =
    let rest : last_from test (i + 1) xs ≡ Some (i + 1 + k) = last-some test (i + 1) k xs d (omega (arith, l)) h (λ j b c. n (suc j) (omega (arith, b)) (omega (arith, c))) in
    rw rest (ap Some (omega arith))

pub rises : (spans : List Span) → AreNested spans → (i j : ℕ) → i ≤ j → j < length spans → start_key (span_at spans i) ≤ start_key (span_at spans j)
rises spans n i j a b = elim (cases_eq i j) [
  | inl e ↦ rw e (omega arith)
  | inr o ↦ n.in_order j i (omega arith) b
]

pub previous-rank : (o : Option ℕ) (m : ℕ) → SomeIff o (1 ≤ m) (m - 1) → rank o ≡ m
previous-rank None m h = omega (arith, h)
previous-rank (Some k) m h = omega (arith, h)

-- no span from an index on contains a place, nor does the one before it, and it starts by the place: then none after its parent does
pub outward : (spans : List Span) (source place i : ℕ) → AreNested spans → i < length spans
    → start_key (span_at spans i) ≤ key source place → contains source place (span_at spans i) ≡ false
    → ((j : ℕ) → j < length spans → i + 1 ≤ j → contains source place (span_at spans j) ≡ false)
    → (j : ℕ) → j < length spans → parent_rank spans i ≤ j → contains source place (span_at spans j) ≡ false
outward spans source place i n l by not past j b p = elim (cases_lt i j) [
  | inl a ↦ past j b (omega arith)
  | inr a ↦ (elim (cases_eq j i) [
    | inl e ↦ rw e not
    | inr o ↦ by-end source place (span_at spans j) (let q : j < i = omega arith in omega (arith, n.apart i j q l p))
  ])
]

pub found-innermost : (spans : List Span) (source place i : ℕ) → i < length spans → contains source place (span_at spans i) ≡ true
    → ((j : ℕ) → j < length spans → i + 1 ≤ j → contains source place (span_at spans j) ≡ false)
    → Some i ≡ innermost spans source place
unfolding innermost
found-innermost spans source place i l holds past =
    let e : 0 + i ≡ i = omega arith in
    sym (last-some (contains source place) 0 i spans no_span l holds (λ j a b. past j b (omega arith)) ∙ ap Some e)

pub none-innermost : (spans : List Span) (source place : ℕ)
    → ((j : ℕ) → j < length spans → contains source place (span_at spans j) ≡ false)
    → None ≡ innermost spans source place
unfolding innermost
none-innermost spans source place past = sym (last-none (contains source place) 0 spans no_span past)

-- a span that starts by a place of a source, and ends after it, contains it
pub does-contain : (source place : ℕ) (s : Span) → start_key s ≤ key source place → s.source ≡ source → place < place_of s.end → contains source place s ≡ true
does-contain source place s by e l =
    let a : (s.source == source) ≡ true = grind (arith, nat_tests) in
    let b : place_of s.start ≤ place = omega (arith, by, e) in
    let t : nat_le (place_of s.start) place ≡ true = le-test (place_of s.start) place b in
    let u : nat_lt place (place_of s.end) ≡ true = grind (arith, nat_tests) in
    rw (a, t, u) refl

pub not-source : (source place : ℕ) (s : Span) → (s.source ≡ source → ⊥) → contains source place s ≡ false
not-source source place s n = let a : (s.source == source) ≡ false = grind (arith, nat_tests) in rw a refl

pub not-before-end : (source place : ℕ) (s : Span) → place_of s.end ≤ place → contains source place s ≡ false
not-before-end source place s h =
    let b : nat_lt place (place_of s.end) ≡ false = grind (arith, nat_tests) in
    elim ((s.source == source) && nat_le (place_of s.start) place) as (λ x. (x && nat_lt place (place_of s.end)) ≡ false) [ true ↦ b | false ↦ refl ]
