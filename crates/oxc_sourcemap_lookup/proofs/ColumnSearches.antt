-- The columns of the tokens of a line, and how many of them a column is after.
use Rattle.std.proofs.Common.{◌≡◌, Bool, refl, sym, ap, ◌∙◌, ℕ, suc, ◌+◌, ◌<◌, ◌≤◌, true, List, []}
use Rattle.std.proofs.Common.{◌∷◌, map, length, take, drop, get_or, nat_lt, arith, ◌-◌, Option}
use Rattle.std.proofs.Common.{Some, None, IfSome, if◌then◌else◌, length-take, length-drop}
use Rattle.std.proofs.lemmas.List.{get_or-map, length-map, take-map, drop-map, get_or_default}
use Rattle.std.proofs.lemmas.Option.{slice_get_read}
use Rattle.oxc_sourcemap_tokens.specs.Token.{TokenRecord}
use Rattle.oxc_sourcemap_parts.specs.Sorted.{token_column}
use Rattle.oxc_sourcemap_lookup.specs.Lookup.{no_column_goes_back, index_before, index_at}
use Rattle.oxc_sourcemap_lookup.specs.Lookup.{index_at_or_after}
use Rattle.oxc_sourcemap_lookup.specs.LineSpans.{IsPartAt, AreColumnsAt}
use Rattle.oxc_sourcemap_lookup.proofs.Halving.{before, rest-all, halved}
use Rattle.oxc_sourcemap_lookup.proofs.Indices.{index-last, index_within, after-found}

-- the column of a token of a line, read from a list of columns
column-read : (n : ℕ) (x : TokenRecord) (cs : List ℕ) (ts : List TokenRecord) → cs ≡ map token_column ts → n < length ts → get_or cs n 0 ≡ (get_or ts n x).dst_col
column-read n x cs ts e h = ap (λ xs. get_or xs n 0) e ∙ get_or-map token_column ts n x 0 h

-- one step of the halving of a list of columns, by the column in the middle
pub halved-columns : (b : Bool) (col : ℕ) (cs : List ℕ) (ts : List TokenRecord) (start left half : ℕ) → cs ≡ map token_column ts → nat_lt (get_or cs (start + left - 1) 0) col ≡ b
    → 0 < left → left ≤ suc half → start + left ≤ length cs → no_column_goes_back token_column ts ≡ true
    → start ≤ before col ts → before col ts ≤ start + left + half
    → (start + (if b then left else 0) ≤ before col ts) × (before col ts ≤ start + (if b then left else 0) + half)
halved-columns b col cs [] start left half e is some near within g low high = absurd (omega (arith, some, within, ap length e))
halved-columns b col cs (x ∷ xs) start left half e is some near within g low high =
    let ts = x ∷ xs in
    let n = start + left - 1 in
    let total : length cs ≡ length ts = ap length e ∙ length-map ts token_column in
    let same = column-read n x cs ts e (omega (arith, within, total, some)) in
    halved b col ts start left half x (ap (λ m. nat_lt m col) (sym same) ∙ is) some near (omega (arith, within, total)) g low high

-- The index found is that before the columns that lie before the given one, the line's last one not counted, or before one more
-- if the next is not past it.
pub index-through : (col n : ℕ) (cs : List ℕ) (ts : List TokenRecord) → cs ≡ map token_column ts → no_column_goes_back token_column ts ≡ true → n < length ts
    → n ≡ before col (take (length ts - 1) ts) → index_before (n + (if nat_lt (get_or cs n 0) (col + 1) then 1 else 0)) ≡ index_at ts col
index-through col n cs [] e g h count = absurd (omega (arith, h))
index-through col n cs (x ∷ xs) e g h count =
    let ts = x ∷ xs in
    let t = get_or ts n x in
    let is : t ≡ get_or ts n t = get_or_default ts n x t h in
    ap (λ m. index_before (n + (if nat_lt m (col + 1) then 1 else 0))) (column-read n x cs ts e h)
    ∙ index-last col n t ts g h (sym is) (slice_get_read ts (length ts) n t refl h is) count

-- The lookup from a column on, where the columns that are not past it are counted without the first of the line.
pub after-through : (col n : ℕ) (cs : List ℕ) (ts : List TokenRecord) → cs ≡ map token_column ts → no_column_goes_back token_column ts ≡ true → n < length ts
    → n ≡ before (col + 1) (drop 1 ts) → index_within ts (n + (if nat_lt (get_or cs n 0) col then 1 else 0)) ≡ index_at_or_after ts col
after-through col n cs [] e g h count = absurd (omega (arith, h))
after-through col n cs (x ∷ xs) e g h count =
    let ts = x ∷ xs in
    let t = get_or ts n x in
    ap (λ m. index_within ts (n + (if nat_lt m col then 1 else 0))) (column-read n x cs ts e h) ∙ after-found col n t ts g h (get_or_default ts n x t h) count

-- the columns of a line but for its first
pub rest-columns : (cs : List ℕ) (ts : List TokenRecord) → cs ≡ map token_column ts → take (length cs - 1) (drop 1 cs) ≡ map token_column (drop 1 ts)
rest-columns cs ts e =
    let total : length cs ≡ length ts = ap length e ∙ length-map ts token_column in
    ap (λ m. take (m - 1) (drop 1 cs)) total ∙ ap (λ xs. take (length ts - 1) (drop 1 xs)) e ∙ ap (take (length ts - 1)) (drop-map token_column 1 ts)
    ∙ take-map token_column (length ts - 1) (drop 1 ts) ∙ ap (map token_column) (rest-all ts)

-- a slice of tokens lies where it begins
pub slice-part : (start n : ℕ) (ts : List TokenRecord) → start + n ≤ length ts → IsPartAt start (take n (drop start ts)) ts
slice-part start n ts h =
    let part = take n (drop start ts) in
    let size : length part ≡ n = omega (arith, length-take n (drop start ts), length-drop start ts, h) in record {
      within = omega (arith, size, h);
      is = sym (ap (λ k. take k (drop start ts)) size);
    }

-- the columns of tokens that lie from an index on
pub columns-at : (start : ℕ) (part tokens : List TokenRecord) (columns : List ℕ) → columns ≡ map token_column tokens → IsPartAt start part tokens → AreColumnsAt start part columns
columns-at start part tokens columns e at = record {
  within = omega (arith, at.within, ap length e, length-map tokens token_column);
  are = ap (λ cs. take (length part) (drop start cs)) e ∙ ap (take (length part)) (drop-map token_column start tokens)
      ∙ take-map token_column (length part) (drop start tokens) ∙ sym (ap (map token_column) at.is);
}

-- the same of the columns that an index keeps, if it keeps any
pub kept-at : {V : Type 0} (items : V → List ℕ) (start : ℕ) (part tokens : List TokenRecord) (kept : Option V) → IfSome kept (λ v. items v ≡ map token_column tokens) → IsPartAt start part tokens
    → IfSome kept (λ v. AreColumnsAt start part (items v))
kept-at items start part tokens None e at = e
kept-at items start part tokens (Some v) e at = columns-at start part tokens (items v) e at
