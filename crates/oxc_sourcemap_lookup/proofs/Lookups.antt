-- The walk over a line, and what it finds.
use Rattle.std.proofs.Common.{◌≡◌, refl, ℕ, zero, suc, length, get_or, ◌<◌, ◌≤◌, Bool, true, false}
use Rattle.std.proofs.Common.{cond, List, [], ◌∷◌, Option, Some, None, nat_cmp, nat_le, ◌==◌, max}
use Rattle.std.proofs.Common.{arith, ap, ◌∙◌, sym, is_some, if◌then◌else◌}
use Rattle.std.specs.Option.{option_or}
use Rattle.std.specs.Ordering.{match_ordering}
use Rattle.std.specs.declared.cmp.Ordering.{Ordering}
use Rattle.std.specs.declared.cmp.Ordering.TheVariants.{Less, Equal, Greater}
use Rattle.std.specs.List.{last_or, AllByRecursion}
use Rattle.oxc_sourcemap_tokens.specs.Token.{TokenRecord, last}
use Rattle.oxc_sourcemap_parts.specs.Sorted.{token_column}
use Rattle.oxc_sourcemap_lookup.specs.Lookup.{first, greatest, not_past, in_column, at}
use Rattle.oxc_sourcemap_lookup.specs.Lookup.{no_column_goes_back}

-- what a walk over the rest of a line finds, after this token
abbrev pub walked : ℕ → Option TokenRecord → List TokenRecord → Option TokenRecord
walked col found [] = found
walked col found (t ∷ ts) = match_ordering (nat_cmp t.dst_col col) (walked col (Some t) ts) (Some t) found

-- no item of a list has a smaller column than x
abbrev pub AreNotBefore : {A : Type 0} → (A → ℕ) → A → List A → Type 0
AreNotBefore column x ys = AllByRecursion (λ y. column x ≤ column y) ys

not_before-weaken : {A : Type 0} (column : A → ℕ) (x y : A) (ys : List A) → column x ≤ column y → AreNotBefore column y ys → AreNotBefore column x ys
not_before-weaken column x y [] h all = all
not_before-weaken column x y (z ∷ zs) h all = (omega (arith, h, all.0), not_before-weaken column x y zs h all.1)

pub not_before : {A : Type 0} (column : A → ℕ) (x : A) (ys : List A) → no_column_goes_back column (x ∷ ys) ≡ true → AreNotBefore column x ys
not_before column x [] h = tt
not_before column x (y ∷ ys) h =
    let le : column x ≤ column y = grind (arith, h) in
    let more : no_column_goes_back column (y ∷ ys) ≡ true = grind (arith, h) in
    (le, not_before-weaken column x y ys le (not_before column y ys more))

pub not_before-at : {A : Type 0} (column : A → ℕ) (x : A) (ys : List A) (i : ℕ) (d : A) → AreNotBefore column x ys → i < length ys → column x ≤ column (get_or ys i d)
not_before-at column x [] i d all h = absurd (omega (arith, h))
not_before-at column x (y ∷ ys) zero d all h = all.0
not_before-at column x (y ∷ ys) (suc i) d all h = not_before-at column x ys i d all.1 (omega (arith, h))

none_past : {A : Type 0} (column : A → ℕ) (col : ℕ) (x : A) (ys : List A) → col < column x → AreNotBefore column x ys → not_past column col ys ≡ []
none_past column col x [] h all = refl
none_past column col x (y ∷ ys) h all = grind (arith, h, all.0, none_past column col x ys h all.1)

greatest-within : {A : Type 0} (column : A → ℕ) (col : ℕ) (xs : List A) → greatest column (not_past column col xs) ≤ col
greatest-within column col [] = omega arith
greatest-within column col (x ∷ xs) = grind (arith, greatest-within column col xs)

pub or_else-some : {A : Type 0} (o : Option A) (y : A) (other : Option A) → option_or (option_or o (Some y)) other ≡ option_or o (Some y)
or_else-some None y other = refl
or_else-some (Some z) y other = refl

pub last_or-else : {A : Type 0} (x : A) (ys : List A) → last_or (Some x) ys ≡ option_or (last ys) (Some x)
last_or-else x [] = refl
last_or-else x (y ∷ ys) =
    let p = last_or-else y ys in
    p ∙ sym (or_else-some (last ys) y (Some x)) ∙ sym (ap (λ o. option_or o (Some x)) p)

pub or_else-none : {A : Type 0} (o : Option A) → option_or o None ≡ o
or_else-none None = refl
or_else-none (Some x) = refl

-- some item is at the greatest column
attained : {A : Type 0} (column : A → ℕ) (x : A) (xs : List A) → is_some (first (in_column column (greatest column (x ∷ xs)) (x ∷ xs))) ≡ true
attained column x [] = grind (arith)
attained column x (y ∷ ys) = grind (arith, attained column y ys)

first-some : {A : Type 0} (xs : List A) (x : A) → is_some (first xs) ≡ true → option_or (first xs) (Some x) ≡ first xs
first-some [] x h = cc (h)
first-some (y ∷ ys) x h = refl

last-some : {A : Type 0} (xs : List A) (x : A) → is_some (first xs) ≡ true → option_or (last xs) (Some x) ≡ last xs
last-some [] x h = cc (h)
last-some (y ∷ ys) x h = ap (λ o. option_or o (Some x)) (last_or-else y ys) ∙ or_else-some (last ys) y (Some x) ∙ sym (last_or-else y ys)

all-not_past-of : {A : Type 0} (b : Bool) (column : A → ℕ) (col least : ℕ) (x : A) (xs : List A) → AllByRecursion (λ y. least ≤ column y) (not_past column col xs) → least ≤ column x → AllByRecursion (λ y. least ≤ column y) (cond b (x ∷ not_past column col xs) (not_past column col xs))
all-not_past-of true column col least x xs all h = (h, all)
all-not_past-of false column col least x xs all h = all

all-not_past : {A : Type 0} (column : A → ℕ) (col least : ℕ) (xs : List A) → AllByRecursion (λ y. least ≤ column y) xs → AllByRecursion (λ y. least ≤ column y) (not_past column col xs)
all-not_past column col least [] all = all
all-not_past column col least (x ∷ xs) all = all-not_past-of (nat_le (column x) col) column col least x xs (all-not_past column col least xs all.1) all.0

-- the nearest of items whose columns are not past the given one
abbrev at_among : {A : Type 0} → (A → ℕ) → ℕ → List A → Option A
at_among column col items =
    let best = greatest column items in
    let near = in_column column best items in
    if best == col then first near else last near

pub none_among : {A : Type 0} (column : A → ℕ) (col : ℕ) → at_among column col [] ≡ None
none_among column col = grind (arith)

step_among : {A : Type 0} (column : A → ℕ) (col : ℕ) (x : A) (near : List A) (best : ℕ) → column x < col → is_some (first near) ≡ true
    → cond (best == col) (first (cond (column x == best) (x ∷ near) near)) (last (cond (column x == best) (x ∷ near) near)) ≡ option_or (cond (best == col) (first near) (last near)) (Some x)
step_among column col x near best h k = grind (arith, h, first-some near x k, last-some near x k, last_or-else x near)

front_among : {A : Type 0} (column : A → ℕ) (col : ℕ) (x : A) (rest : List A) → column x < col → AllByRecursion (λ y. column x ≤ column y) rest
    → at_among column col (x ∷ rest) ≡ option_or (at_among column col rest) (Some x)
front_among column col x [] h all = grind (arith, h)
front_among column col x (y ∷ ys) h all =
    let best : max (column x) (greatest column (y ∷ ys)) ≡ greatest column (y ∷ ys) = grind (arith, all.0) in
    ap (λ g. cond (g == col) (first (in_column column g (x ∷ y ∷ ys))) (last (in_column column g (x ∷ y ∷ ys)))) best
    ∙ step_among column col x (in_column column (greatest column (y ∷ ys)) (y ∷ ys)) (greatest column (y ∷ ys)) h (attained column y ys)

here_among : {A : Type 0} (column : A → ℕ) (col : ℕ) (x : A) (rest : List A) → column x ≡ col → greatest column rest ≤ col → at_among column col (x ∷ rest) ≡ Some x
here_among column col x rest h le = grind (arith, h, le)

-- if columns do not go back: an item before the given column counts only if no later one does, one at it is found, and one
-- past it ends the search
pub at-front : {A : Type 0} (column : A → ℕ) (col : ℕ) (x : A) (ys : List A) → column x < col → AreNotBefore column x ys → at column (x ∷ ys) col ≡ option_or (at column ys col) (Some x)
at-front column col x ys h all =
    let passes : not_past column col (x ∷ ys) ≡ x ∷ not_past column col ys = grind (arith, h) in
    ap (at_among column col) passes ∙ front_among column col x (not_past column col ys) h (all-not_past column col (column x) ys all)

pub at-here : {A : Type 0} (column : A → ℕ) (col : ℕ) (x : A) (ys : List A) → column x ≡ col → at column (x ∷ ys) col ≡ Some x
at-here column col x ys h =
    let passes : not_past column col (x ∷ ys) ≡ x ∷ not_past column col ys = grind (arith, h) in
    ap (at_among column col) passes ∙ here_among column col x (not_past column col ys) h (greatest-within column col ys)

pub at-past : {A : Type 0} (column : A → ℕ) (col : ℕ) (x : A) (ys : List A) → col < column x → AreNotBefore column x ys → at column (x ∷ ys) col ≡ None
at-past column col x ys h all =
    let passes : not_past column col (x ∷ ys) ≡ [] = grind (arith, h, none_past column col x ys h all) in
    ap (at_among column col) passes ∙ none_among column col

pub goes_on : {A : Type 0} (column : A → ℕ) (x : A) (ys : List A) → no_column_goes_back column (x ∷ ys) ≡ true → no_column_goes_back column ys ≡ true
goes_on column x [] h = refl
goes_on column x (y ∷ ys) h = grind (arith, h)

walked-by : (o : Ordering) (col : ℕ) (found : Option TokenRecord) (t : TokenRecord) (ts : List TokenRecord) → nat_cmp t.dst_col col ≡ o → AreNotBefore token_column t ts
    → ((f : Option TokenRecord) → walked col f ts ≡ option_or (at token_column ts col) f)
    → match_ordering o (walked col (Some t) ts) (Some t) found ≡ option_or (at token_column (t ∷ ts) col) found
walked-by Less col found t ts e all more =
    more (Some t) ∙ sym (or_else-some (at token_column ts col) t found) ∙ sym (ap (λ o. option_or o found) (at-front token_column col t ts (grind (arith, e)) all))
walked-by Equal col found t ts e all more = sym (ap (λ o. option_or o found) (at-here token_column col t ts (grind (arith, e))))
walked-by Greater col found t ts e all more = sym (ap (λ o. option_or o found) (at-past token_column col t ts (grind (arith, e)) all))

pub walked-or : (col : ℕ) (found : Option TokenRecord) (ts : List TokenRecord) → no_column_goes_back token_column ts ≡ true → walked col found ts ≡ option_or (at token_column ts col) found
walked-or col found [] h = sym (ap (λ o. option_or o found) (none_among token_column col))
walked-or col found (t ∷ ts) h = walked-by (nat_cmp t.dst_col col) col found t ts refl (not_before token_column t ts h) (λ f. walked-or col f ts (goes_on token_column t ts h))

-- on a line whose columns do not go back, the walk finds what is looked for
pub walked_is_at : (col : ℕ) (ts : List TokenRecord) → no_column_goes_back token_column ts ≡ true → walked col None ts ≡ at token_column ts col
walked_is_at col ts h = walked-or col None ts h ∙ or_else-none (at token_column ts col)
