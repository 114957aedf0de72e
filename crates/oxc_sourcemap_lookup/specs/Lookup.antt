-- Looking up by generated position, in any list of items that have a line and a column.
use Rattle.std.specs.Prelude.{◌≡◌, ℕ, ◌+◌, Bool, true, ◌&&◌, List, [], ◌∷◌, map, filter, max, min}
use Rattle.std.specs.Prelude.{slice_get, Option, Some, None, option_map, Result, Ok, if◌then◌else◌}
use Rattle.std.specs.Prelude.{nat_le, nat_lt, ◌==◌, ◌-◌}
use Rattle.std.specs.List.{range_with_len}
use Rattle.std.specs.Option.{unwrap_or, option_or}
use Rattle.oxc_sourcemap_tokens.specs.declared.errors.error.Error.{Error}
use Rattle.oxc_sourcemap_tokens.specs.declared.errors.error.Error.TheVariants.{LineOrder}
use Rattle.oxc_sourcemap_tokens.specs.Errors.{unless}
use Rattle.oxc_sourcemap_tokens.specs.Token.{last, TokenRecord}
use Rattle.oxc_sourcemap_tokens.specs.LineOrder.{first_out_of_order}
use Rattle.oxc_sourcemap_parts.specs.Sorted.{are_tokens_sorted, token_line, token_column}

-- the first item
abbrev pub first : {A : Type 0} → List A → Option A
first [] = None
first (x ∷ xs) = Some x

-- the greatest column, 0 where there are no items
abbrev pub greatest : {A : Type 0} → (A → ℕ) → List A → ℕ
greatest column [] = 0
greatest column (x ∷ xs) = max (column x) (greatest column xs)

-- the items whose column is not past this one
abbrev pub not_past : {A : Type 0} → (A → ℕ) → ℕ → List A → List A
not_past column col items = filter (λ x. nat_le (column x) col) items

-- the items at this column
abbrev pub in_column : {A : Type 0} → (A → ℕ) → ℕ → List A → List A
in_column column col items = filter (λ x. column x == col) items

-- Of the items whose column is the greatest one not past the given one: the first if that is the given one, else the last.
-- None if there are no such items.
abbrev pub at : {A : Type 0} → (A → ℕ) → List A → ℕ → Option A
at column items col =
    let best = greatest column (not_past column col items) in
    let near = in_column column best (not_past column col items) in
    if best == col then first near else last near

-- as `at`, but with the first item in place of none
abbrev pub clamped_at : {A : Type 0} → (A → ℕ) → List A → ℕ → Option A
clamped_at column items col = option_or (at column items col) (first items)

-- the least column, 0 where there are no items
abbrev pub least : {A : Type 0} → (A → ℕ) → List A → ℕ
least column [] = 0
least column (x ∷ []) = column x
least column (x ∷ y ∷ more) = min (column x) (least column (y ∷ more))

-- the items whose column is not before this one
abbrev pub not_before : {A : Type 0} → (A → ℕ) → ℕ → List A → List A
not_before column col items = filter (λ x. nat_le col (column x)) items

-- Of the items whose column is the least one not before the given one: the last if that is the given one, else the first.
-- None if there are no such items.
abbrev pub at_or_after : {A : Type 0} → (A → ℕ) → List A → ℕ → Option A
at_or_after column items col =
    let best = least column (not_before column col items) in
    let near = in_column column best (not_before column col items) in
    if best == col then last near else first near

-- the items on a line
abbrev pub on_line : {A : Type 0} → (A → ℕ) → ℕ → List A → List A
on_line line n items = filter (λ x. line x == n) items

-- `at` of the items on a line
abbrev pub pick : {A : Type 0} → (A → ℕ) → (A → ℕ) → List A → ℕ → ℕ → Option A
pick line column items n col = at column (on_line line n items) col

-- `clamped_at` of the items on a line
abbrev pub clamped_pick : {A : Type 0} → (A → ℕ) → (A → ℕ) → List A → ℕ → ℕ → Option A
clamped_pick line column items n col = clamped_at column (on_line line n items) col

-- `at_or_after` of the items on a line
abbrev pub pick_after : {A : Type 0} → (A → ℕ) → (A → ℕ) → List A → ℕ → ℕ → Option A
pick_after line column items n col = at_or_after column (on_line line n items) col

-- the items, each with its number, from this number on
abbrev pub numbered_from : {A : Type 0} → ℕ → List A → List (ℕ × A)
numbered_from i [] = []
numbered_from i (x ∷ xs) = (i, x) ∷ numbered_from (i + 1) xs

-- the items, each with its index
abbrev pub numbered : {A : Type 0} → List A → List (ℕ × A)
numbered items = numbered_from 0 items

-- no item's column is smaller than that of the item before it
abbrev pub no_column_goes_back : {A : Type 0} → (A → ℕ) → List A → Bool
no_column_goes_back column [] = true
no_column_goes_back column (x ∷ []) = true
no_column_goes_back column (x ∷ y ∷ more) = nat_le (column x) (column y) && no_column_goes_back column (y ∷ more)

-- how many lines there are up to that of this token; 0 without one
abbrev pub lines_through : Option TokenRecord → ℕ
lines_through None = 0
lines_through (Some t) = t.dst_line + 1

-- for each line up to the last token's, the tokens on it
abbrev pub tokens_by_line : List TokenRecord → List (List TokenRecord)
tokens_by_line tokens = map (λ n. on_line token_line n tokens) (range_with_len 0 (lines_through (last tokens)))

-- The fault of a list of tokens without a lookup table: one of them lies on a line before that of the token before.
abbrev pub table_fault : List TokenRecord → Option Error
table_fault tokens = option_map LineOrder (first_out_of_order tokens)

-- the lookup table of a list of tokens
abbrev pub line_table : List TokenRecord → Result (List (List TokenRecord)) Error
line_table tokens = unless (table_fault tokens) (Ok (tokens_by_line tokens))

-- the tokens that a table has for a line: none past its end
abbrev pub slice_of : List (List TokenRecord) → ℕ → List TokenRecord
slice_of table n = unwrap_or (slice_get table n) []

-- the token that the lookup of a position finds
abbrev pub token_for : List TokenRecord → ℕ → ℕ → Option TokenRecord
token_for tokens line col = pick token_line token_column tokens line col

-- the token that the clamped lookup of a position finds
abbrev pub clamped_token_for : List TokenRecord → ℕ → ℕ → Option TokenRecord
clamped_token_for tokens line col = clamped_pick token_line token_column tokens line col

-- the token that the lookup from a position on finds
abbrev pub token_after : List TokenRecord → ℕ → ℕ → Option TokenRecord
token_after tokens line col = pick_after token_line token_column tokens line col

-- the generated line of a numbered token
abbrev pub numbered_line : ℕ × TokenRecord → ℕ
numbered_line p = token_line p.1

-- the generated column of a numbered token
abbrev pub numbered_column : ℕ × TokenRecord → ℕ
numbered_column p = token_column p.1

-- the index of the token that the lookup of a position finds
abbrev pub index_for : List TokenRecord → ℕ → ℕ → Option ℕ
index_for tokens line col = option_map (λ p. p.0) (pick numbered_line numbered_column (numbered tokens) line col)

-- the index of the token that the clamped lookup of a position finds
abbrev pub clamped_index_for : List TokenRecord → ℕ → ℕ → Option ℕ
clamped_index_for tokens line col = option_map (λ p. p.0) (clamped_pick numbered_line numbered_column (numbered tokens) line col)

-- the index of the token that the lookup from a position on finds
abbrev pub index_after : List TokenRecord → ℕ → ℕ → Option ℕ
index_after tokens line col = option_map (λ p. p.0) (pick_after numbered_line numbered_column (numbered tokens) line col)

-- the index before this one, if there is one
abbrev pub index_before : ℕ → Option ℕ
index_before n = if nat_lt 0 n then Some (n - 1) else None

-- the index of the item of `at` on one line
abbrev pub index_at : List TokenRecord → ℕ → Option ℕ
index_at line col = option_map (λ p. p.0) (at numbered_column (numbered line) col)

-- the index of the item of `clamped_at` on one line
abbrev pub clamped_index_at : List TokenRecord → ℕ → Option ℕ
clamped_index_at line col = option_map (λ p. p.0) (clamped_at numbered_column (numbered line) col)

-- the index of the item of `at_or_after` on one line
abbrev pub index_at_or_after : List TokenRecord → ℕ → Option ℕ
index_at_or_after line col = option_map (λ p. p.0) (at_or_after numbered_column (numbered line) col)

-- A statement holds, if the tokens are sorted and the table is their own.
abbrev pub IfOwnTable : List TokenRecord → List (List TokenRecord) → Type 0 → Type 0
IfOwnTable tokens table holds = are_tokens_sorted tokens ≡ true → line_table tokens ≡ Ok table → holds
