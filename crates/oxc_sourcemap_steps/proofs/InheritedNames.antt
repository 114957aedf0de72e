-- Names that are inherited from another map.
use Rattle.std.proofs.Common.{◌≡◌, refl, sym, ap, subst, ◌∙◌, ℕ, ◌<◌, true, ◌&&◌, List, [], ◌∷◌}
use Rattle.std.proofs.Common.{◌++◌, map, length, Option, Some, None, arith, append_assoc}
use Rattle.std.proofs.lemmas.List.{append-nil}
use Rattle.std.proofs.lemmas.List.Elements.{filter_map-append}
use Rattle.std.specs.List.{filter_map, AllByRecursion}
use Rattle.std.specs.Option.{option_or, unwrap_or, IfSome}
use Rattle.std.proofs.lemmas.Bool.Decides.{nat_tests}
use Rattle.oxc_sourcemap_tokens.specs.Token.{TokenRecord, kept_id}
use Rattle.oxc_sourcemap_parts.specs.Record.{Text}
use Rattle.oxc_sourcemap_parts.specs.DecodedMap.{name_of}
use Rattle.oxc_sourcemap_parts.specs.Texts.{index_of, with_text_at, with_text, with_texts}
use Rattle.oxc_sourcemap_parts.proofs.Places.{index-with, index-stays}
use Rattle.oxc_sourcemap_steps.specs.Composed.{Target, target_of, kept_name, inherited_name}
use Rattle.oxc_sourcemap_steps.specs.Composed.{inherited_id, composed_names, composed_token}
use Rattle.oxc_sourcemap_steps.specs.Composed.{token_through, may_be_id, are_ids}
use Rattle.oxc_sourcemap_steps.specs.InheritedNames.{with_inherited, inherited_index}

-- texts are added one by one
pub with_texts-append : (xs ys zs : List Text) → with_texts xs (ys ++ zs) ≡ with_texts (with_texts xs ys) zs
with_texts-append xs [] zs = refl
with_texts-append xs (y ∷ ys) zs = with_texts-append (with_text xs y) ys zs

-- the old texts are in front of the added ones
with_texts-front-at : (o : Option ℕ) (xs : List Text) (y : Text) (ys : List Text) → ((xs : List Text) → (zs : List Text) × (with_texts xs ys ≡ xs ++ zs))
    → (zs : List Text) × (with_texts (with_text_at o xs y) ys ≡ xs ++ zs)
with_texts-front-at (Some i) xs y ys more = more xs
with_texts-front-at None xs y ys more = let r = more (xs ++ y ∷ []) in (y ∷ r.0, r.1 ∙ append_assoc xs (y ∷ []) r.0)

pub with_texts-front : (xs ys : List Text) → (zs : List Text) × (with_texts xs ys ≡ xs ++ zs)
with_texts-front xs [] = ([], sym (append-nil xs))
with_texts-front xs (y ∷ ys) = with_texts-front-at (index_of y xs) xs y ys (λ xs. with_texts-front xs ys)

-- an inherited name, if there is one, is among these names
abbrev pub IsPlaced : List Text → Option Text → Type 0
IsPlaced names None = Unit {0}
IsPlaced names (Some x) = (i : ℕ) × (index_of x names ≡ Some i)

-- an inherited name that is among names keeps its index when more are added
pub inherited-stays : (names more : List Text) (o : Option Text) → IsPlaced names o → inherited_index (with_texts names more) o ≡ inherited_index names o
inherited-stays names more None p = refl
inherited-stays names more (Some x) p = index-stays x p.0 names more p.1 ∙ sym p.1

placed-more : (names more : List Text) (o : Option Text) → IsPlaced names o → IsPlaced (with_texts names more) o
placed-more names more None p = tt
placed-more names more (Some x) p = (p.0, index-stays x p.0 names more p.1)

pub placed-inherited : (names : List Text) (o : Option Text) → IsPlaced (with_inherited names o) o
placed-inherited names None = tt
placed-inherited names (Some x) = (unwrap_or (index_of x names) (length names), index-with x names)

-- the names with those that these targets inherit, from the first target on
names-cons-of : (o : Option Text) (first names : List Text) (l : Target) (ls : List Target) → inherited_name first l ≡ o → composed_names first names (l ∷ ls) ≡ composed_names first (with_inherited names o) ls
names-cons-of None first names l ls e = rw e
names-cons-of (Some x) first names l ls e = rw e

pub names-cons : (first names : List Text) (l : Target) (ls : List Target) → composed_names first names (l ∷ ls) ≡ composed_names first (with_inherited names (inherited_name first l)) ls
names-cons first names l ls = names-cons-of (inherited_name first l) first names l ls refl

pub names-append : (first names : List Text) (ls ms : List Target) → composed_names first names (ls ++ ms) ≡ composed_names first (composed_names first names ls) ms
names-append first names ls ms = ap (with_texts names) (filter_map-append (inherited_name first) ls ms) ∙ with_texts-append names (filter_map (inherited_name first) ls) (filter_map (inherited_name first) ms)

-- each inherited name is among the composed names
pub all-placed : (first names : List Text) (ls : List Target) → AllByRecursion (λ l. IsPlaced (composed_names first names ls) (inherited_name first l)) ls
all-placed first names [] = tt
all-placed first names (l ∷ ls) =
    let o = inherited_name first l in
    let e = names-cons first names l ls in
    subst (λ ns. AllByRecursion (λ (l : Target). IsPlaced ns (inherited_name first l)) (l ∷ ls)) (sym e)
    (placed-more (with_inherited names o) (filter_map (inherited_name first) ls) o (placed-inherited names o), all-placed first (with_inherited names o) ls)

-- with more names, ids and tokens stay as they are
module _ (first names more : List Text) where
  pub tokens-stay : (ls : List Target) → AllByRecursion (λ l. IsPlaced names (inherited_name first l)) ls → map (composed_token first (with_texts names more)) ls ≡ map (composed_token first names) ls
  tokens-stay [] p = refl
  tokens-stay (l ∷ ls) p =
      ap (λ id. token_through l.token id l.found ∷ map (composed_token first (with_texts names more)) ls) (inherited-stays names more (inherited_name first l) p.0)
      ∙ ap (λ ts. composed_token first names l ∷ ts) (tokens-stay ls p.1)

  pub ids-stay : (ls : List Target) → AllByRecursion (λ l. IsPlaced names (inherited_name first l)) ls → are_ids first (with_texts names more) ls ≡ are_ids first names ls
  ids-stay [] p = refl
  ids-stay (l ∷ ls) p =
      ap (λ id. may_be_id id && are_ids first (with_texts names more) ls) (inherited-stays names more (inherited_name first l) p.0)
      ∙ ap (λ b. may_be_id (inherited_id first names l) && b) (ids-stay ls p.1)

-- a token keeps an id of at most 4294967294
pub small-kept : (o : Option ℕ) → IfSome o (λ id. id < 4294967295) → kept_id o ≡ o
small-kept None h = refl
small-kept (Some id) h = grind (arith, nat_tests)

pub id-kept : (o : Option ℕ) → may_be_id o ≡ true → kept_id o ≡ o
id-kept None h = refl
id-kept (Some id) h = rw h

-- the composed token of one that leads to another
pub token-to : (first names : List Text) (t u : TokenRecord) (found : Option TokenRecord) → found ≡ Some u
    → composed_token first names (target_of t found) ≡ record u { dst_line = t.dst_line; dst_col = t.dst_col; name_id = option_or u.name_id (inherited_index names (kept_name first t u.name_id)) }
token-to first names t u found e = rw e

-- the composed token of one that leads to a token without a name
pub token-to_nameless : (first names : List Text) (t u : TokenRecord) (found : Option TokenRecord) → found ≡ Some u → u.name_id ≡ None
    → composed_token first names (target_of t found) ≡ record u { dst_line = t.dst_line; dst_col = t.dst_col; name_id = inherited_index names (name_of first t) }
token-to_nameless first names t u found e k =
    token-to first names t u found e
    ∙ ap (λ id. record u { dst_line = t.dst_line; dst_col = t.dst_col; name_id = option_or id (inherited_index names (kept_name first t id)) }) k
