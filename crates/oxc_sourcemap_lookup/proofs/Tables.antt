-- Cutting the front line off a list in line order.
use Rattle.std.proofs.Common.{◌≡◌, ℕ, suc, zero, ◌+◌, ◌-◌, ◌≤◌, ◌<◌, List, [], ◌∷◌, ◌++◌, map, take}
use Rattle.std.proofs.Common.{drop, length, slice_get, nat_lt, ◌==◌, refl, arith, Bool, true, false}
use Rattle.std.proofs.Common.{cond, ap, ◌∙◌, Some, None}
use Rattle.std.specs.List.{prefix_len, last_or, range_with_len}
use Rattle.std.specs.Option.{option_map_or}
use Rattle.oxc_sourcemap_tokens.specs.Token.{TokenRecord, last}
use Rattle.oxc_sourcemap_tokens.specs.LineOrder.{first_out_of_order}
use Rattle.oxc_sourcemap_parts.specs.Sorted.{token_line}
use Rattle.oxc_sourcemap_lookup.specs.Lookup.{on_line}

-- the last item, by its index
last_or-at : {A : Type 0} (x : A) (xs : List A) → last_or (Some x) xs ≡ slice_get (x ∷ xs) (length xs)
last_or-at x [] = refl
last_or-at x (y ∷ ys) = last_or-at y ys

pub last_at : {A : Type 0} (xs : List A) → last xs ≡ slice_get xs (length xs - 1)
last_at [] = refl
last_at (x ∷ xs) = last_or-at x xs ∙ ap (slice_get (x ∷ xs)) (omega arith)

-- tokens in line order, none of them before this line
abbrev pub IsFrom : ℕ → List TokenRecord → Type 0
IsFrom from [] = Unit {0}
IsFrom from (t ∷ ts) = (from ≤ t.dst_line) × IsFrom t.dst_line ts

in_order-from : (t : TokenRecord) (ts : List TokenRecord) → first_out_of_order (t ∷ ts) ≡ None → IsFrom t.dst_line ts
in_order-from t [] h = tt
in_order-from t (u ∷ us) h =
    let le : t.dst_line ≤ u.dst_line = grind (arith, h) in
    let more : first_out_of_order (u ∷ us) ≡ None = grind (arith, h) in
    (le, in_order-from u us more)

pub in_order-from_0 : (ts : List TokenRecord) → first_out_of_order ts ≡ None → IsFrom 0 ts
in_order-from_0 [] h = tt
in_order-from_0 (t ∷ ts) h = (omega arith, in_order-from t ts h)

pub from-in_order : (from : ℕ) (ts : List TokenRecord) → IsFrom from ts → first_out_of_order ts ≡ None
from-in_order from [] p = refl
from-in_order from (t ∷ []) p = refl
from-in_order from (t ∷ u ∷ us) p = grind (arith, p.1.0, from-in_order t.dst_line (u ∷ us) p.1)

-- the first of tokens in line order from a line on does not lie before that line
pub not_begins_before : (line : ℕ) (ts : List TokenRecord) → IsFrom line ts → option_map_or (λ t. nat_lt t.dst_line line) (slice_get ts 0) false ≡ true → ⊥
not_begins_before line [] p e = cc (e)
not_begins_before line (t ∷ ts) p e =
    let before : t.dst_line < line = grind (arith, e) in
    omega (arith, p.0, before)

take-one : {X : Type 0} (n m : ℕ) (x : X) (xs : List X) → m ≡ suc n → take m (x ∷ xs) ≡ x ∷ take n xs
take-one n m x xs e = rw e refl

drop-one : {X : Type 0} (n m : ℕ) (x : X) (xs : List X) → m ≡ suc n → drop m (x ∷ xs) ≡ drop n xs
drop-one n m x xs e = rw e refl

pub IsFrom-le : (a b : ℕ) (ts : List TokenRecord) → a ≤ b → IsFrom b ts → IsFrom a ts
IsFrom-le a b [] h p = p
IsFrom-le a b (t ∷ ts) h p = (omega (arith, h, p.0), p.1)

-- tokens in line order from a line on have none on the lines before it
pub on_line-before : (n from : ℕ) (ts : List TokenRecord) → IsFrom from ts → n < from → on_line token_line n ts ≡ []
on_line-before n from [] p h = refl
on_line-before n from (t ∷ ts) p h = grind (arith, p.0, h, on_line-before n t.dst_line ts p.1)

-- the tokens at the front that lie on the line are all that do
pub front : (line : ℕ) (ts : List TokenRecord) → IsFrom line ts → take (prefix_len (λ t. t.dst_line == line) ts) ts ≡ on_line token_line line ts
front line [] p = refl
front line (t ∷ ts) p =
    let n = prefix_len (λ t. t.dst_line == line) ts in
    let rest = on_line-before line t.dst_line ts p.1 in
    let one = take-one n (1 + n) t ts in
    grind (arith, one, rest, p.0, front line ts (IsFrom-le line t.dst_line ts p.0 p.1))

left_at : (b : Bool) (line n : ℕ) (t : TokenRecord) (ts : List TokenRecord) → (t.dst_line == line) ≡ b → IsFrom line (t ∷ ts) → IsFrom (line + 1) (drop n ts) → IsFrom (line + 1) (drop (cond b (1 + n) 0) (t ∷ ts))
left_at true line n t ts e p more = rw (drop-one n (1 + n) t ts (omega arith)) more
left_at false line n t ts e p more = (grind (arith, e, p.0), p.1)

-- once the tokens on the line are cut off, the others lie after it
pub left : (line : ℕ) (ts : List TokenRecord) → IsFrom line ts → IsFrom (line + 1) (drop (prefix_len (λ t. t.dst_line == line) ts) ts)
left line [] p = p
left line (t ∷ ts) p = left_at (t.dst_line == line) line (prefix_len (λ t. t.dst_line == line) ts) t ts refl p (left line ts (IsFrom-le line t.dst_line ts p.0 p.1))

-- tokens are in line order from a line on if those after its front are from the next line on
joined_at : (b : Bool) (line n : ℕ) (t : TokenRecord) (ts : List TokenRecord) → (t.dst_line == line) ≡ b → (IsFrom (line + 1) (drop n ts) → IsFrom line ts) → IsFrom (line + 1) (drop (cond b (1 + n) 0) (t ∷ ts)) → IsFrom line (t ∷ ts)
joined_at true line n t ts e more p =
    let same : t.dst_line ≡ line = grind (arith, e) in
    (omega (arith, same), IsFrom-le t.dst_line line ts (omega (arith, same)) (more (rw (drop-one n (1 + n) t ts (omega arith)) at p)))
joined_at false line n t ts e more p = (omega (arith, p.0), p.1)

pub joined : (line : ℕ) (ts : List TokenRecord) → IsFrom (line + 1) (drop (prefix_len (λ t. t.dst_line == line) ts) ts) → IsFrom line ts
joined line [] p = tt
joined line (t ∷ ts) p = joined_at (t.dst_line == line) line (prefix_len (λ t. t.dst_line == line) ts) t ts refl (joined line ts) p

-- without the tokens on the line, a list has the same tokens on later lines
pub others : (n line : ℕ) (ts : List TokenRecord) → line < n → on_line token_line n (drop (prefix_len (λ t. t.dst_line == line) ts) ts) ≡ on_line token_line n ts
others n line [] h = refl
others n line (t ∷ ts) h =
    let k = prefix_len (λ t. t.dst_line == line) ts in
    let one = drop-one k (1 + k) t ts in
    grind (arith, one, h, others n line ts h)

-- one more row of a table
pub rows-push : {X : Type 0} (f : ℕ → X) (a n : ℕ) → map f (range_with_len a (suc n)) ≡ map f (range_with_len a n) ++ f (a + n) ∷ []
rows-push f a zero = ap (λ i. f i ∷ []) (omega arith)
rows-push f a (suc n) = ap (λ rows. f a ∷ rows) (rows-push f (a + 1) n ∙ ap (λ i. map f (range_with_len (a + 1) n) ++ f i ∷ []) (omega arith))
