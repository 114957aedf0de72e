-- The tokens that a lookup may find, one by one.
use Rattle.std.proofs.Common.{◌≡◌, refl, ap, ◌∙◌, cond, ◌&&◌, ℕ, zero, suc, List, [], ◌∷◌, drop}
use Rattle.std.proofs.Common.{slice_get, Option, Some, None}
use Rattle.oxc_sourcemap_tokens.specs.Token.{TokenRecord}
use Rattle.oxc_sourcemap_parts.specs.Sorted.{token_line, token_column}
use Rattle.oxc_sourcemap_steps.specs.Simple.{found_after, found_items, is_followed, is_further}
use Rattle.oxc_sourcemap_steps.specs.SimplifySteps.{is_behind, is_before}

abbrev pub next-of : List TokenRecord → Option TokenRecord
next-of [] = None
next-of (t ∷ ts) = Some t

-- those of these tokens, if this one is before them
abbrev pub found_from : Option TokenRecord → List TokenRecord → List TokenRecord
found_from p [] = []
found_from p (t ∷ ts) = cond (is_behind p t && is_before t (next-of ts)) (found_from (Some t) ts) (t ∷ found_from (Some t) ts)

abbrev nearest : List TokenRecord → Option TokenRecord
nearest [] = None
nearest (p ∷ before) = Some p

behind-is : (before : List TokenRecord) (t : TokenRecord) → is_behind (nearest before) t ≡ is_further token_line token_column before t
behind-is [] t = refl
behind-is (p ∷ before) t = refl

before-is : (t : TokenRecord) (ts : List TokenRecord) → is_before t (next-of ts) ≡ is_followed token_line token_column t ts
before-is t [] = refl
before-is t (u ∷ ts) = refl

found-from : (before ts : List TokenRecord) → found_from (nearest before) ts ≡ found_after token_line token_column before ts
found-from before [] = refl
found-from before (t ∷ ts) =
    let more = found_from (Some t) ts in
    ap (λ b. cond (b && is_before t (next-of ts)) more (t ∷ more)) (behind-is before t)
    ∙ ap (λ b. cond (is_further token_line token_column before t && b) more (t ∷ more)) (before-is t ts)
    ∙ ap (λ zs. cond (is_further token_line token_column before t && is_followed token_line token_column t ts) zs (t ∷ zs)) (found-from (t ∷ before) ts)

pub found-is : (ts : List TokenRecord) → found_from None ts ≡ found_items token_line token_column ts
found-is ts = found-from [] ts

pub next-at : (i : ℕ) (ts : List TokenRecord) → next-of (drop i ts) ≡ slice_get ts i
next-at zero [] = refl
next-at zero (t ∷ ts) = refl
next-at (suc i) [] = refl
next-at (suc i) (t ∷ ts) = next-at i ts
