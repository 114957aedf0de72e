-- The names that tokens need: each has an index, and the text there is the name.
use Rattle.std.proofs.Common.{◌≡◌, refl, sym, ap, subst, ◌∙◌, ℕ, suc, ◌+◌, ◌≤◌, true, false, cond}
use Rattle.std.proofs.Common.{List, [], ◌∷◌, ◌++◌, length, slice_get, Option, Some, None, arith}
use Rattle.std.proofs.Common.{◌<◌, zero, inl, inr}
use Rattle.std.proofs.lemmas.Bool.{cases_lt}
use Rattle.std.proofs.lemmas.List.{length-append}
use Rattle.std.proofs.lemmas.List.Elements.{filter_map-append}
use Rattle.std.specs.Cmp.Lexicographic.{bytes_decides}
use Rattle.std.specs.List.{filter_map, position_from, AllByRecursion}
use Rattle.std.specs.Option.{option_and_then}
use Rattle.std.specs.Str.{bytes_eq}
use Rattle.oxc_sourcemap_tokens.specs.Token.{TokenRecord}
use Rattle.oxc_sourcemap_parts.specs.Record.{Text}
use Rattle.oxc_sourcemap_parts.specs.Texts.{index_of, with_texts}
use Rattle.oxc_sourcemap_parts.proofs.Places.{index-stays, index-stays_with, index-front}
use Rattle.oxc_sourcemap_parts.proofs.Places.{index-last}
use Rattle.oxc_sourcemap_steps.specs.InheritedNames.{with_inherited}
use Rattle.oxc_sourcemap_steps.proofs.InheritedNames.{IsPlaced, placed-inherited, with_texts-append}
use Rattle.oxc_sourcemap_steps.proofs.InheritedNames.{with_texts-front}
use Rattle.oxc_sourcemap_steps.specs.Remapped.{Original, needed_name, needed_names, token_to}
use Rattle.oxc_sourcemap_steps.specs.RemapSteps.{AreApart}

placed-more : (names more : List Text) (o : Option Text) → IsPlaced names o → IsPlaced (with_texts names more) o
placed-more names more None p = tt
placed-more names more (Some x) p = (p.0, index-stays x p.0 names more p.1)

needed-cons-of : (n : Option Text) (names : List Text) (o : Option Original) (os : List (Option Original)) → needed_name o ≡ n
    → with_texts names (filter_map needed_name (o ∷ os)) ≡ with_texts (with_inherited names n) (filter_map needed_name os)
needed-cons-of None names o os e = rw e
needed-cons-of (Some x) names o os e = rw e

pub needed-cons : (names : List Text) (o : Option Original) (os : List (Option Original))
    → with_texts names (filter_map needed_name (o ∷ os)) ≡ with_texts (with_inherited names (needed_name o)) (filter_map needed_name os)
needed-cons names o os = needed-cons-of (needed_name o) names o os refl

all-needed-after : (names : List Text) (os : List (Option Original)) → AllByRecursion (λ o. IsPlaced (with_texts names (filter_map needed_name os)) (needed_name o)) os
all-needed-after names [] = tt
all-needed-after names (o ∷ os) =
    let n = needed_name o in
    subst (λ ns. AllByRecursion (λ (o : Option Original). IsPlaced ns (needed_name o)) (o ∷ os)) (sym (needed-cons names o os))
    (placed-more (with_inherited names n) (filter_map needed_name os) n (placed-inherited names n), all-needed-after (with_inherited names n) os)

pub all-needed : (os : List (Option Original)) → AllByRecursion (λ o. IsPlaced (needed_names os) (needed_name o)) os
all-needed os = all-needed-after [] os

-- an index where a text was found, counted from where the search began
record Place (x : Text) (k : ℕ) (ns : List Text) (i : ℕ) : Type 0 where
  pub j : ℕ
  pub is : i ≡ k + j
  pub at : slice_get ns j ≡ Some x

index-from : (x : Text) (k : ℕ) (ns : List Text) (i : ℕ) → position_from (bytes_eq x) k ns ≡ Some i → Place x k ns i
index-from x k [] i e = absurd (cc (e))
index-from x k (n ∷ ns) i e =
    elim (bytes_eq x n) as (λ b. bytes_eq x n ≡ b → cond b (Some k) (position_from (bytes_eq x) (k + 1) ns) ≡ Some i → Place x k (n ∷ ns) i) [
      | true ↦ (λ q p. let r : k ≡ i = cc (p) in record { j = 0; is = omega (arith, r); at = ap (λ y. Some y) (sym ((bytes_decides x n).0 q)) })
      | false ↦ (λ q p. let r = index-from x (k + 1) ns i p in record { j = suc r.j; is = omega (arith, r.is); at = r.at })
    ] refl e

pub at-index : (x : Text) (ns : List Text) (i : ℕ) → index_of x ns ≡ Some i → slice_get ns i ≡ Some x
at-index x ns i e = let r = index-from x 0 ns i e in let k : i ≡ r.j = omega (arith, r.is) in ap (slice_get ns) k ∙ r.at

-- one more name, at the end
at-last : (x : Text) (names : List Text) (i : ℕ) (y : Text) → slice_get (names ++ x ∷ []) i ≡ Some y → length names ≤ i → (i ≡ length names) × (x ≡ y)
at-last x [] zero y e h = (refl, cc (e))
at-last x [] (suc i) y e h = absurd (cc (e))
at-last x (n ∷ names) zero y e h = absurd (omega (arith, h))
at-last x (n ∷ names) (suc i) y e h = let r = at-last x names i y e (omega (arith, h)) in (ap suc r.0, r.1)

at-front : (x : Text) (names : List Text) (i : ℕ) (y : Text) → slice_get (names ++ x ∷ []) i ≡ Some y → i < length names → slice_get names i ≡ Some y
at-front x [] i y e h = absurd (omega (arith, h))
at-front x (n ∷ names) zero y e h = e
at-front x (n ∷ names) (suc i) y e h = at-front x names i y e (omega (arith, h))

pub apart-more : (x : Text) (names : List Text) → index_of x names ≡ None → AreApart names → AreApart (names ++ x ∷ [])
apart-more x names none apart i y e =
    elim (cases_lt i (length names)) [
      | inl l ↦ index-front y i names (x ∷ []) (apart i y (at-front x names i y e l))
      | inr l ↦ (let r = at-last x names i y e (omega (arith, l)) in
          subst (λ t. index_of t (names ++ x ∷ []) ≡ Some i) r.1 (index-last x names none ∙ ap (λ n. Some n) (sym r.0)))
    ]

-- a name is found again by its index
pub name-back : (names : List Text) (n : Option Text) → IsPlaced names n → option_and_then (slice_get names) (option_and_then (λ x. index_of x names) n) ≡ n
name-back names None p = refl
name-back names (Some x) p = ap (option_and_then (slice_get names)) p.1 ∙ at-index x names p.0 p.1

-- ---- one token more
with-one : (names : List Text) (o : Option Original) → with_texts names (filter_map needed_name (o ∷ [])) ≡ with_inherited names (needed_name o)
with-one names o = needed-cons names o []

pub needed-append : (os more : List (Option Original)) → needed_names (os ++ more) ≡ with_texts (needed_names os) (filter_map needed_name more)
needed-append os more =
    ap (with_texts []) (filter_map-append needed_name os more) ∙ with_texts-append [] (filter_map needed_name os) (filter_map needed_name more)

pub needed-last : (os : List (Option Original)) (o : Option Original) → needed_names (os ++ o ∷ []) ≡ with_inherited (needed_names os) (needed_name o)
needed-last os o = needed-append os (o ∷ []) ∙ with-one (needed_names os) o

-- names do not become fewer
pub no-fewer : (names more : List Text) → length names ≤ length (with_texts names more)
no-fewer names more =
    let r = with_texts-front names more in
    let count = length-append names r.0 in
    let same = ap length r.1 in
    omega (arith, count, same)

id-stays : (names : List Text) (o n : Option Text) → IsPlaced names n → option_and_then (λ x. index_of x (with_inherited names o)) n ≡ option_and_then (λ x. index_of x names) n
id-stays names None n p = refl
id-stays names (Some y) None p = refl
id-stays names (Some y) (Some x) p = index-stays_with x p.0 names y p.1 ∙ sym p.1

pub token-stays : (names : List Text) (n : Option Text) (t : TokenRecord) (o : Option Original) → IsPlaced names (needed_name o) → token_to (with_inherited names n) t o ≡ token_to names t o
token-stays names n t None h = refl
token-stays names n t (Some o) h =
    ap (λ id. record { dst_line = t.dst_line; dst_col = t.dst_col; src_line = o.src_line; src_col = o.src_col; source_id = Some o.source_id; name_id = id })
    (id-stays names n o.name h)
