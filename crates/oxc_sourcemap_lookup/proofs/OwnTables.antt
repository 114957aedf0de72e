-- The rows of a map's own lookup table.
use Rattle.std.proofs.Common.{◌≡◌, ℕ, zero, suc, ◌+◌, ◌≤◌, ◌<◌, ◌==◌, nat_lt, List, [], ◌∷◌, map}
use Rattle.std.proofs.Common.{slice_get, refl, arith, Bool, true, false, cond, ap, ◌∙◌, sym, Option}
use Rattle.std.proofs.Common.{Some, None, option_map, Ok}
use Rattle.std.specs.List.{last_or, range_with_len, AllByRecursion}
use Rattle.std.specs.Option.{unwrap_or}
use Rattle.oxc_sourcemap_tokens.specs.declared.errors.error.Error.TheVariants.{LineOrder}
use Rattle.oxc_sourcemap_tokens.specs.Errors.{unless}
use Rattle.oxc_sourcemap_tokens.specs.Token.{TokenRecord, last}
use Rattle.oxc_sourcemap_tokens.specs.LineOrder.{first_out_of_order}
use Rattle.oxc_sourcemap_parts.specs.Sorted.{token_line, token_column, may_precede}
use Rattle.oxc_sourcemap_parts.specs.Sorted.{are_tokens_sorted}
use Rattle.oxc_sourcemap_lookup.specs.Lookup.{on_line, lines_through, tokens_by_line, line_table}
use Rattle.oxc_sourcemap_lookup.specs.Lookup.{slice_of, no_column_goes_back}
use Rattle.oxc_sourcemap_parts.proofs.Order.{sorted-head}
use Rattle.oxc_sourcemap_lookup.proofs.Tables.{IsFrom, in_order-from_0}

-- a row of a table that is made line by line
row-of : {X : Type 0} (f : ℕ → X) (a n i : ℕ) (d : X) → i < n → unwrap_or (slice_get (map f (range_with_len a n)) i) d ≡ f (a + i)
row-of f a zero i d h = absurd (omega (arith, h))
row-of f a (suc n) zero d h = ap f (omega arith)
row-of f a (suc n) (suc i) d h = row-of f (a + 1) n i d (omega (arith, h)) ∙ ap f (omega arith)

row-past : {X : Type 0} (f : ℕ → X) (a n i : ℕ) (d : X) → n ≤ i → unwrap_or (slice_get (map f (range_with_len a n)) i) d ≡ d
row-past f a zero i d h = grind (arith, h)
row-past f a (suc n) zero d h = absurd (omega (arith, h))
row-past f a (suc n) (suc i) d h = row-past f (a + 1) n i d (omega (arith, h))

-- in a list in line order, no line is after the last token's
pub last-reached : (t : TokenRecord) (ts : List TokenRecord) → IsFrom t.dst_line ts → t.dst_line < lines_through (last_or (Some t) ts)
last-reached t [] p = omega arith
last-reached t (u ∷ us) p = omega (arith, p.0, last-reached u us p.1)

on_line-after : (n : ℕ) (t : TokenRecord) (ts : List TokenRecord) → IsFrom t.dst_line ts → lines_through (last_or (Some t) ts) ≤ n → on_line token_line n (t ∷ ts) ≡ []
on_line-after n t [] p h = grind (arith, h)
on_line-after n t (u ∷ us) p h =
    let reached = last-reached t (u ∷ us) p in
    let rest = on_line-after n u us p.1 h in
    grind (arith, reached, h, rest)

pub none-after : (n : ℕ) (ts : List TokenRecord) → first_out_of_order ts ≡ None → lines_through (last ts) ≤ n → on_line token_line n ts ≡ []
none-after n [] p h = refl
none-after n (t ∷ ts) p h = on_line-after n t ts (in_order-from_0 (t ∷ ts) p).1 h

-- once the lines up to the last token's are cut off, nothing is left
pub none-left : (line : ℕ) (rest tokens : List TokenRecord) → first_out_of_order tokens ≡ None → lines_through (last tokens) ≤ line → IsFrom line rest
    → ((n : ℕ) → line ≤ n → on_line token_line n rest ≡ on_line token_line n tokens) → rest ≡ []
none-left line [] tokens order h p same = refl
none-left line (t ∷ ts) tokens order h p same =
    let here : on_line token_line t.dst_line (t ∷ ts) ≡ t ∷ on_line token_line t.dst_line ts = grind (arith) in
    let none = none-after t.dst_line tokens order (omega (arith, h, p.0)) in
    absurd (cc (here, same t.dst_line p.0, none))

table-is-by : (o : Option ℕ) (tokens : List TokenRecord) (table : List (List TokenRecord)) → unless (option_map LineOrder o) (Ok (tokens_by_line tokens)) ≡ Ok table → (o ≡ None) × (tokens_by_line tokens ≡ table)
table-is-by None tokens table h = (refl, cc (h))
table-is-by (Some i) tokens table h = absurd (cc (h))

row-by_line-of : (b : Bool) (n : ℕ) (tokens : List TokenRecord) → first_out_of_order tokens ≡ None → nat_lt n (lines_through (last tokens)) ≡ b → slice_of (tokens_by_line tokens) n ≡ on_line token_line n tokens
row-by_line-of true n tokens p e = row-of (λ n. on_line token_line n tokens) 0 (lines_through (last tokens)) n [] (grind (arith, e)) ∙ ap (λ i. on_line token_line i tokens) (omega arith)
row-by_line-of false n tokens p e =
    let le : lines_through (last tokens) ≤ n = grind (arith, e) in
    row-past (λ n. on_line token_line n tokens) 0 (lines_through (last tokens)) n [] le ∙ sym (none-after n tokens p le)

pub row-by_line : (n : ℕ) (tokens : List TokenRecord) → first_out_of_order tokens ≡ None → slice_of (tokens_by_line tokens) n ≡ on_line token_line n tokens
row-by_line n tokens p = row-by_line-of (nat_lt n (lines_through (last tokens))) n tokens p refl

pub own_row : (n : ℕ) (tokens : List TokenRecord) (table : List (List TokenRecord)) → line_table tokens ≡ Ok table → slice_of table n ≡ on_line token_line n tokens
own_row n tokens table h =
    let is = table-is-by (first_out_of_order tokens) tokens table h in
    sym (ap (λ t. slice_of t n) is.1) ∙ row-by_line n tokens is.0

-- on no line of a sorted list do columns go back
precede-twice : (x y z : TokenRecord) → may_precede token_line token_column x y ≡ true → may_precede token_line token_column y z ≡ true → may_precede token_line token_column x z ≡ true
precede-twice x y z h k = grind (arith, h, k)

abbrev PrecedesAll : TokenRecord → List TokenRecord → Type 0
PrecedesAll x ys = AllByRecursion (λ y. may_precede token_line token_column x y ≡ true) ys

precedes-more : (x y : TokenRecord) (zs : List TokenRecord) → may_precede token_line token_column x y ≡ true → PrecedesAll y zs → PrecedesAll x zs
precedes-more x y [] h all = tt
precedes-more x y (z ∷ zs) h all = (precede-twice x y z h all.0, precedes-more x y zs h all.1)

sorted-precedes : (x : TokenRecord) (ys : List TokenRecord) → are_tokens_sorted (x ∷ ys) ≡ true → PrecedesAll x ys
sorted-precedes x [] h = tt
sorted-precedes x (y ∷ ys) h =
    let head = sorted-head x y ys h in
    (head.0, precedes-more x y ys head.0 (sorted-precedes y ys head.1))

sorted-tail : (x : TokenRecord) (ys : List TokenRecord) → are_tokens_sorted (x ∷ ys) ≡ true → are_tokens_sorted ys ≡ true
sorted-tail x [] h = refl
sorted-tail x (y ∷ ys) h = (sorted-head x y ys h).1

abbrev IsLeast : TokenRecord → List TokenRecord → Type 0
IsLeast x ys = AllByRecursion (λ y. x.dst_col ≤ y.dst_col) ys

least-on_line-by : (b : Bool) (n : ℕ) (x y : TokenRecord) (ys : List TokenRecord) → (y.dst_line == n) ≡ b → x.dst_line ≡ n → may_precede token_line token_column x y ≡ true → IsLeast x (on_line token_line n ys)
    → IsLeast x (cond b (y ∷ on_line token_line n ys) (on_line token_line n ys))
least-on_line-by true n x y ys e l h all = (grind (arith, e, l, h), all)
least-on_line-by false n x y ys e l h all = all

least-on_line : (n : ℕ) (x : TokenRecord) (ys : List TokenRecord) → x.dst_line ≡ n → PrecedesAll x ys → IsLeast x (on_line token_line n ys)
least-on_line n x [] l all = tt
least-on_line n x (y ∷ ys) l all = least-on_line-by (y.dst_line == n) n x y ys refl l all.0 (least-on_line n x ys l all.1)

goes_on-more : (x : TokenRecord) (ys : List TokenRecord) → IsLeast x ys → no_column_goes_back token_column ys ≡ true → no_column_goes_back token_column (x ∷ ys) ≡ true
goes_on-more x [] all h = refl
goes_on-more x (y ∷ ys) all h = grind (arith, all.0, h)

goes_on-by : (b : Bool) (n : ℕ) (x : TokenRecord) (ys : List TokenRecord) → (x.dst_line == n) ≡ b → PrecedesAll x ys → no_column_goes_back token_column (on_line token_line n ys) ≡ true
    → no_column_goes_back token_column (cond b (x ∷ on_line token_line n ys) (on_line token_line n ys)) ≡ true
goes_on-by true n x ys e all h = goes_on-more x (on_line token_line n ys) (least-on_line n x ys (grind (arith, e)) all) h
goes_on-by false n x ys e all h = h

pub line_goes_on : (n : ℕ) (ts : List TokenRecord) → are_tokens_sorted ts ≡ true → no_column_goes_back token_column (on_line token_line n ts) ≡ true
line_goes_on n [] h = refl
line_goes_on n (t ∷ ts) h = goes_on-by (t.dst_line == n) n t ts refl (sorted-precedes t ts h) (line_goes_on n ts (sorted-tail t ts h))

-- what holds of a row whose columns do not go back holds of a row of a sorted map's own table
pub own_table : {A : Type 0} (F : List TokenRecord → A) (answer : A) (n : ℕ) (tokens : List TokenRecord) (table : List (List TokenRecord))
    → (no_column_goes_back token_column (slice_of table n) ≡ true → answer ≡ F (slice_of table n))
    → are_tokens_sorted tokens ≡ true → line_table tokens ≡ Ok table → answer ≡ F (on_line token_line n tokens)
own_table F answer n tokens table found sorted is =
    let e = own_row n tokens table is in
    found (ap (no_column_goes_back token_column) e ∙ line_goes_on n tokens sorted) ∙ ap F e
