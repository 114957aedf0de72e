-- How many names a composed map has, and whose they are.
use Rattle.std.proofs.Common.{◌≡◌, ℕ, zero, suc, ◌+◌, ◌≤◌, ◌<◌, Bool, true, false, cond, ◌&&◌, List}
use Rattle.std.proofs.Common.{[], ◌∷◌, ◌++◌, length, refl, sym, ap, ◌∙◌, arith, Option, Some, None}
use Rattle.std.specs.List.{slice_get, filter_map, position_from, list_all, AllByRecursion}
use Rattle.std.specs.List.{cons_option}
use Rattle.std.specs.Option.{option_and_then}
use Rattle.std.specs.Str.{bytes_eq}
use Rattle.std.specs.Cmp.Lexicographic.{bytes_decides}
use Rattle.std.proofs.lemmas.List.{length-append}
use Rattle.std.proofs.lemmas.List.Folds.{list_all-append}
use Rattle.oxc_sourcemap_tokens.specs.Token.{TokenRecord}
use Rattle.oxc_sourcemap_parts.specs.Record.{Text, MapRecord}
use Rattle.oxc_sourcemap_parts.specs.Texts.{index_of, with_text_at, with_text, with_texts}
use Rattle.oxc_sourcemap_steps.specs.Composed.{Target, kept_name, inherited_name, targets, composed}
use Rattle.oxc_sourcemap_parts.proofs.Places.{index-last, index-front}

-- a text that is in a list
abbrev pub IsOf : List Text → Text → Type 0
IsOf names x = (i : ℕ) × (index_of x names ≡ Some i)

pub found-at : (x : Text) (names : List Text) (k i : ℕ) → slice_get names i ≡ Some x → (j : ℕ) × (position_from (bytes_eq x) k names ≡ Some j)
found-at x [] k i e = absurd (cc (e))
found-at x (n ∷ ns) k zero e = (k, rw (let q : x ≡ n = cc (e) in (bytes_decides x n).1 q) refl)
found-at x (n ∷ ns) k (suc i) e =
    elim (bytes_eq x n) as (λ b. (j : ℕ) × (cond b (Some k) (position_from (bytes_eq x) (k + 1) ns) ≡ Some j)) [
      | true ↦ (k, refl)
      | false ↦ found-at x ns (k + 1) i e
    ]

-- names that are taken are of the first map
pub name-of_some : (names : List Text) (id : Option ℕ) (x : Text) → option_and_then (slice_get names) id ≡ Some x → IsOf names x
name-of_some names None x e = absurd (cc (e))
name-of_some names (Some i) x e = found-at x names 0 i e

kept-of : (names : List Text) (t : TokenRecord) (id : Option ℕ) (x : Text) → kept_name names t id ≡ Some x → IsOf names x
kept-of names t (Some i) x e = absurd (cc (e))
kept-of names t None x e = name-of_some names t.name_id x e

taken-of_found : (names : List Text) (t : TokenRecord) (found : Option TokenRecord) (x : Text) → option_and_then (λ u. kept_name names t u.name_id) found ≡ Some x → IsOf names x
taken-of_found names t None x e = absurd (cc (e))
taken-of_found names t (Some u) x e = kept-of names t u.name_id x e

pub taken-are_of : (names : List Text) (o : Option Text) (rest : List Text) → ((x : Text) → o ≡ Some x → IsOf names x) → AllByRecursion (IsOf names) rest → AllByRecursion (IsOf names) (cons_option o rest)
taken-are_of names None rest h k = k
taken-are_of names (Some x) rest h k = (h x refl, k)

all-taken : (names : List Text) (ls : List Target) → AllByRecursion (IsOf names) (filter_map (inherited_name names) ls)
all-taken names [] = tt
all-taken names (l ∷ ls) = taken-are_of names (inherited_name names l) _ (λ x e. taken-of_found names l.token l.found x e) (all-taken names ls)

-- how many of these texts are not among the names
abbrev counted : Option ℕ → ℕ → ℕ
counted None n = suc n
counted (Some i) n = n

abbrev pub missing : List Text → List Text → ℕ
missing names [] = 0
missing names (o ∷ os) = counted (index_of o names) (missing names os)

pub missing-most : (names os : List Text) → missing names os ≤ length os
missing-most names [] = omega arith
missing-most names (o ∷ os) = let h = missing-most names os in elim (index_of o names) as (λ p. counted p (missing names os) ≤ length (o ∷ os)) [ None ↦ omega (arith, h) | Some i ↦ omega (arith, h) ]

counted-most : (p : Option ℕ) (n m : ℕ) → n ≤ m → counted p n ≤ suc m
counted-most None n m h = omega (arith, h)
counted-most (Some i) n m h = omega (arith, h)

counted-less : (p : Option ℕ) (n m : ℕ) → n < m → counted p n < suc m
counted-less None n m h = omega (arith, h)
counted-less (Some i) n m h = omega (arith, h)

missing-less : (x : Text) (names os : List Text) → missing (names ++ x ∷ []) os ≤ missing names os
missing-less x names [] = omega arith
missing-less x names (o ∷ os) =
    let h = missing-less x names os in
    elim (index_of o names) as (λ p. index_of o names ≡ p → counted (index_of o (names ++ x ∷ [])) (missing (names ++ x ∷ []) os) ≤ counted p (missing names os)) [
      | None ↦ (λ e. counted-most (index_of o (names ++ x ∷ [])) _ _ h)
      | Some i ↦ (λ e. rw (index-front o i names (x ∷ []) e) h)
    ] refl

-- a name that was missing and now is there
missing-here : (x : Text) (names os : List Text) (k j : ℕ) → index_of x names ≡ None → position_from (bytes_eq x) k os ≡ Some j → missing (names ++ x ∷ []) os < missing names os
missing-here x names [] k j e f = absurd (cc (f))
missing-here x names (o ∷ os) k j e f =
    elim (bytes_eq x o) as (λ b. bytes_eq x o ≡ b → cond b (Some k) (position_from (bytes_eq x) (k + 1) os) ≡ Some j → missing (names ++ x ∷ []) (o ∷ os) < missing names (o ∷ os)) [
      | true ↦ (λ q g.
          let same : x ≡ o = (bytes_decides x o).0 q in
          let less = missing-less x names os in
          let gone : index_of o names ≡ None = ap (λ y. index_of y names) (sym same) ∙ e in
          let here : index_of o (names ++ x ∷ []) ≡ Some (length names) = ap (λ y. index_of y (names ++ x ∷ [])) (sym same) ∙ index-last x names e in
          rw (gone, here) (omega (arith, less)))
      | false ↦ (λ q g.
          let h = missing-here x names os (k + 1) j e g in
          elim (index_of o names) as (λ p. index_of o names ≡ p → counted (index_of o (names ++ x ∷ [])) (missing (names ++ x ∷ []) os) < counted p (missing names os)) [
            | None ↦ (λ p. counted-less (index_of o (names ++ x ∷ [])) (missing (names ++ x ∷ []) os) (missing names os) h)
            | Some i ↦ (λ p. rw (index-front o i names (x ∷ []) p) h)
          ] refl)
    ] refl f

grown-at : (p : Option ℕ) (names os : List Text) (x : Text) (xs : List Text) → index_of x names ≡ p → IsOf os x
    → ((ns : List Text) → length (with_texts ns xs) + missing (with_texts ns xs) os ≤ length ns + missing ns os)
    → length (with_texts (with_text_at p names x) xs) + missing (with_texts (with_text_at p names x) xs) os ≤ length names + missing names os
grown-at (Some i) names os x xs e h more = more names
grown-at None names os x xs e h more =
    let m = more (names ++ x ∷ []) in
    let l = missing-here x names os 0 h.0 e h.1 in
    let k = length-append names (x ∷ []) in
    omega (arith, m, l, k)

pub grown : (names os xs : List Text) → AllByRecursion (IsOf os) xs → length (with_texts names xs) + missing (with_texts names xs) os ≤ length names + missing names os
grown names os [] h = omega arith
grown names os (x ∷ xs) h = grown-at (index_of x names) names os x xs refl h.0 (λ ns. grown ns os xs h.1)

-- a composed map has no more names than both maps together
pub names-most : (a b : MapRecord) → length (composed a b).names ≤ length a.names + length b.names
names-most a b =
    let g = grown b.names a.names (filter_map (inherited_name a.names) (targets a b)) (all-taken a.names (targets a b)) in
    let m = missing-most b.names a.names in
    omega (arith, g, m)

-- a composed map has no names but those of the two maps
module _ (test : Text → Bool) where
  tested-at : (p : Option ℕ) (names : List Text) (x : Text) → list_all test names ≡ true → test x ≡ true → list_all test (with_text_at p names x) ≡ true
  tested-at (Some i) names x h k = h
  tested-at None names x h k = list_all-append test names (x ∷ []) ∙ rw (h, k) refl

  pub tested : (names xs : List Text) → list_all test names ≡ true → AllByRecursion (λ x. test x ≡ true) xs → list_all test (with_texts names xs) ≡ true
  tested names [] h k = h
  tested names (x ∷ xs) h k = tested (with_text names x) xs (tested-at (index_of x names) names x h k.0) k.1

  tested-of : (names : List Text) (x : Text) (k i : ℕ) → list_all test names ≡ true → position_from (bytes_eq x) k names ≡ Some i → test x ≡ true
  tested-of [] x k i h e = absurd (cc (e))
  tested-of (n ∷ ns) x k i h e =
      elim (test n) as (λ t. test n ≡ t → (t && list_all test ns) ≡ true → test x ≡ true) [
        | true ↦ (λ q m. elim (bytes_eq x n) as (λ b. bytes_eq x n ≡ b → cond b (Some k) (position_from (bytes_eq x) (k + 1) ns) ≡ Some i → test x ≡ true) [
          | true ↦ (λ p f. ap test ((bytes_decides x n).0 p) ∙ q)
          | false ↦ (λ p f. tested-of ns x (k + 1) i m f)
        ] refl e)
        | false ↦ (λ q m. absurd (cc (m)))
      ] refl h

  pub all-tested : (names xs : List Text) → list_all test names ≡ true → AllByRecursion (IsOf names) xs → AllByRecursion (λ x. test x ≡ true) xs
  all-tested names [] h k = tt
  all-tested names (x ∷ xs) h k = (tested-of names x 0 k.0.0 h k.0.1, all-tested names xs h k.1)

  pub names-tested : (a b : MapRecord) → list_all test a.names ≡ true → list_all test b.names ≡ true → list_all test (composed a b).names ≡ true
  names-tested a b h k = tested b.names (filter_map (inherited_name a.names) (targets a b)) k (all-tested a.names _ h (all-taken a.names (targets a b)))
