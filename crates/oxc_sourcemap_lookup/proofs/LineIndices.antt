-- Indices on a line, and indices among all tokens.
use Rattle.std.proofs.Common.{◌≡◌, refl, sym, ap, ◌∙◌, ℕ, zero, suc, ◌+◌, ◌<◌, ◌≤◌, Bool, true}
use Rattle.std.proofs.Common.{false, List, [], ◌∷◌, map, length, get_or, Option, Some, None}
use Rattle.std.proofs.Common.{option_map, nat_lt, ◌==◌, arith, subst, IfSome, Ok, take, drop}
use Rattle.std.proofs.Common.{length-take, length-drop}
use Rattle.std.proofs.lemmas.List.Elements.{filter_passes}
use Rattle.std.specs.List.{All}
use Rattle.std.specs.List.Sorted.{IsNonDecreasingBy}
use Rattle.oxc_sourcemap_tokens.specs.Token.{TokenRecord}
use Rattle.oxc_sourcemap_tokens.specs.LineOrder.{IsInLineOrder}
use Rattle.oxc_sourcemap_parts.specs.Sorted.{token_line, token_column, are_tokens_sorted}
use Rattle.oxc_sourcemap_parts.proofs.Order.{sorted_in_order}
use Rattle.oxc_sourcemap_lookup.specs.Lookup.{on_line, at, clamped_at, at_or_after, numbered_from}
use Rattle.oxc_sourcemap_lookup.specs.Lookup.{numbered, numbered_line, numbered_column, index_for}
use Rattle.oxc_sourcemap_lookup.specs.Lookup.{clamped_index_for, index_after, index_at}
use Rattle.oxc_sourcemap_lookup.specs.Lookup.{clamped_index_at, index_at_or_after, slice_of}
use Rattle.oxc_sourcemap_lookup.specs.Lookup.{no_column_goes_back, line_table}
use Rattle.oxc_sourcemap_lookup.proofs.OwnTables.{own_row, own_table}
use Rattle.oxc_sourcemap_lookup.specs.LineSpans.{count_before_line}
use Rattle.oxc_sourcemap_lookup.proofs.LineStarts.{counts-one, counts-none, none-before}
use Rattle.oxc_sourcemap_lookup.proofs.Picks.{at-map, clamped_at-map, at_or_after-map}
use Rattle.oxc_sourcemap_lookup.proofs.Tables.{IsFrom, IsFrom-le, in_order-from_0, on_line-before}

-- ---- where a line begins
from-least : (from j : ℕ) (ts : List TokenRecord) (d : TokenRecord) → IsFrom from ts → j < length ts → from ≤ token_line (get_or ts j d)
from-least from j [] d p h = absurd (omega (arith, h))
from-least from zero (t ∷ ts) d p h = p.0
from-least from (suc j) (t ∷ ts) d p h = omega (arith, p.0, from-least t.dst_line j ts d p.1 (omega (arith, h)))

rises-from : (from : ℕ) (ts : List TokenRecord) → IsFrom from ts → IsNonDecreasingBy token_line ts
rises-from from [] p i j d h k = absurd (omega (arith, k))
rises-from from (t ∷ ts) p zero zero d h k = omega arith
rises-from from (t ∷ ts) p zero (suc j) d h k = from-least t.dst_line j ts d p.1 (omega (arith, k))
rises-from from (t ∷ ts) p (suc i) zero d h k = absurd (omega (arith, h))
rises-from from (t ∷ ts) p (suc i) (suc j) d h k = rises-from t.dst_line ts p.1 i j d (omega (arith, h)) (omega (arith, k))

pub lines-rise : (ts : List TokenRecord) → IsInLineOrder ts → IsNonDecreasingBy token_line ts
lines-rise ts order = rises-from 0 ts (in_order-from_0 ts order)

pub start-counts : (n m : ℕ) (ts : List TokenRecord) → m ≤ length ts → ((k : ℕ) (d : TokenRecord) → k < m → token_line (get_or ts k d) < n)
    → ((k : ℕ) (d : TokenRecord) → m ≤ k → k < length ts → n ≤ token_line (get_or ts k d)) → m ≡ count_before_line n ts
start-counts n m [] h below above = omega (arith, h)
start-counts n zero (t ∷ ts) h below above =
    let more = start-counts n zero ts (omega arith) (λ k d lt. absurd (omega (arith, lt))) (λ k d le lt. above (suc k) d (omega arith) (omega (arith, lt))) in
    more ∙ sym (counts-none n t ts (above 0 t (omega arith) (omega arith)))
start-counts n (suc m) (t ∷ ts) h below above =
    let more = start-counts n m ts (omega (arith, h)) (λ k d lt. below (suc k) d (omega (arith, lt))) (λ k d le lt. above (suc k) d (omega (arith, le)) (omega (arith, lt))) in
    ap suc more ∙ sym (counts-one n t ts (below 0 t (omega arith)))

fits-by : (b s : Bool) (n : ℕ) (t : TokenRecord) (ts : List TokenRecord) → nat_lt t.dst_line n ≡ b → (t.dst_line == n) ≡ s → count_before_line n ts + length (on_line token_line n ts) ≤ length ts
    → count_before_line n (t ∷ ts) + length (on_line token_line n (t ∷ ts)) ≤ length (t ∷ ts)
fits-by true s n t ts e f more =
    let lt : t.dst_line < n = grind (arith, e) in
    let other : on_line token_line n (t ∷ ts) ≡ on_line token_line n ts = grind (arith, lt) in
    omega (arith, counts-one n t ts lt, ap length other, more)
fits-by false true n t ts e f more =
    let on : on_line token_line n (t ∷ ts) ≡ t ∷ on_line token_line n ts = rw f refl in
    let le : n ≤ t.dst_line = grind (arith, e) in
    omega (arith, counts-none n t ts le, ap length on, more)
fits-by false false n t ts e f more =
    let off : on_line token_line n (t ∷ ts) ≡ on_line token_line n ts = rw f refl in
    let le : n ≤ t.dst_line = grind (arith, e) in
    omega (arith, counts-none n t ts le, ap length off, more)

-- the tokens on a line and those before it are among all tokens
pub line-fits : (n : ℕ) (ts : List TokenRecord) → count_before_line n ts + length (on_line token_line n ts) ≤ length ts
line-fits n [] = omega arith
line-fits n (t ∷ ts) = fits-by (nat_lt t.dst_line n) (t.dst_line == n) n t ts refl refl (line-fits n ts)

-- ---- where the tokens of a line lie
on-more : (b : Bool) (n : ℕ) (t : TokenRecord) (ts : List TokenRecord) → (t.dst_line == n) ≡ b → length (on_line token_line n ts) ≤ length (on_line token_line n (t ∷ ts))
on-more true n t ts e = let on : on_line token_line n (t ∷ ts) ≡ t ∷ on_line token_line n ts = rw e refl in omega (arith, ap length on)
on-more false n t ts e = let off : on_line token_line n (t ∷ ts) ≡ on_line token_line n ts = rw e refl in omega (arith, ap length off)

on-drop : (n s : ℕ) (ts : List TokenRecord) → length (on_line token_line n (drop s ts)) ≤ length (on_line token_line n ts)
on-drop n zero ts = omega arith
on-drop n (suc s) [] = omega arith
on-drop n (suc s) (t ∷ ts) = omega (arith, on-drop n s ts, on-more (t.dst_line == n) n t ts refl)

on-take-by : (b : Bool) (n k : ℕ) (t : TokenRecord) (ts : List TokenRecord) → (t.dst_line == n) ≡ b → length (on_line token_line n (take k ts)) ≤ length (on_line token_line n ts)
    → length (on_line token_line n (t ∷ take k ts)) ≤ length (on_line token_line n (t ∷ ts))
on-take-by true n k t ts e more =
    let one : on_line token_line n (t ∷ take k ts) ≡ t ∷ on_line token_line n (take k ts) = rw e refl in
    let all : on_line token_line n (t ∷ ts) ≡ t ∷ on_line token_line n ts = rw e refl in
    omega (arith, ap length one, ap length all, more)
on-take-by false n k t ts e more =
    let one : on_line token_line n (t ∷ take k ts) ≡ on_line token_line n (take k ts) = rw e refl in
    let all : on_line token_line n (t ∷ ts) ≡ on_line token_line n ts = rw e refl in
    omega (arith, ap length one, ap length all, more)

on-take : (n k : ℕ) (ts : List TokenRecord) → length (on_line token_line n (take k ts)) ≤ length (on_line token_line n ts)
on-take n zero ts = omega arith
on-take n (suc k) [] = omega arith
on-take n (suc k) (t ∷ ts) = on-take-by (t.dst_line == n) n k t ts refl (on-take n k ts)

all-on-by : (b : Bool) (n : ℕ) (t : TokenRecord) (ts : List TokenRecord) → (t.dst_line == n) ≡ b → length (on_line token_line n (on_line token_line n ts)) ≡ length (on_line token_line n ts)
    → length (on_line token_line n (on_line token_line n (t ∷ ts))) ≡ length (on_line token_line n (t ∷ ts))
all-on-by true n t ts e more =
    let on : on_line token_line n (t ∷ ts) ≡ t ∷ on_line token_line n ts = rw e refl in
    let again : on_line token_line n (t ∷ on_line token_line n ts) ≡ t ∷ on_line token_line n (on_line token_line n ts) = rw e refl in
    ap (λ xs. length (on_line token_line n xs)) on ∙ ap length again ∙ ap suc more ∙ sym (ap length on)
all-on-by false n t ts e more =
    let off : on_line token_line n (t ∷ ts) ≡ on_line token_line n ts = rw e refl in
    ap (λ xs. length (on_line token_line n xs)) off ∙ more ∙ sym (ap length off)

all-on : (n : ℕ) (ts : List TokenRecord) → length (on_line token_line n (on_line token_line n ts)) ≡ length (on_line token_line n ts)
all-on n [] = refl
all-on n (t ∷ ts) = all-on-by (t.dst_line == n) n t ts refl (all-on n ts)

-- no part of a list without its first token has all tokens of that token's line
not-all-on : (n s k : ℕ) (t : TokenRecord) (ts : List TokenRecord) → t.dst_line ≡ n → take k (drop s ts) ≡ on_line token_line n (t ∷ ts) → ⊥
not-all-on n s k t ts is part =
    let e : (t.dst_line == n) ≡ true = grind (arith, is) in
    let on : on_line token_line n (t ∷ ts) ≡ t ∷ on_line token_line n ts = rw e refl in
    let some = ap length on in
    let least = on-take n k (drop s ts) in
    let less = on-drop n s ts in
    let same = ap (λ xs. length (on_line token_line n xs)) part ∙ all-on n (t ∷ ts) in
    omega (arith, some, least, less, same)

starts-by : (b on : Bool) (n s k : ℕ) (t : TokenRecord) (ts : List TokenRecord) → nat_lt t.dst_line n ≡ b → (t.dst_line == n) ≡ on → IsFrom t.dst_line ts → 0 < k → s + k ≤ length ts
    → take k (drop s ts) ≡ on_line token_line n (t ∷ ts) → (take k (drop s ts) ≡ on_line token_line n ts → s ≡ count_before_line n ts) → suc s ≡ count_before_line n (t ∷ ts)
starts-by true on n s k t ts e f p some within part more =
    let lt : t.dst_line < n = grind (arith, e) in
    let other : on_line token_line n (t ∷ ts) ≡ on_line token_line n ts = grind (arith, lt) in
    ap suc (more (part ∙ other)) ∙ sym (counts-one n t ts lt)
starts-by false true n s k t ts e f p some within part more = absurd (not-all-on n s k t ts (grind (arith, f)) part)
starts-by false false n s k t ts e f p some within part more =
    let past : n < t.dst_line = grind (arith, e, f) in
    let none = ap length (part ∙ on_line-before n t.dst_line (t ∷ ts) (omega arith, p) past) in
    absurd (omega (arith, none, length-take k (drop s ts), length-drop s ts, some, within))

-- the tokens of a line lie where it begins
pub starts-at : (n from s k : ℕ) (ts : List TokenRecord) → IsFrom from ts → 0 < k → s + k ≤ length ts → take k (drop s ts) ≡ on_line token_line n ts → s ≡ count_before_line n ts
starts-at n from s k [] p some within part = absurd (omega (arith, some, within))
starts-at n from zero zero (t ∷ ts) p some within part = absurd (omega (arith, some))
starts-at n from zero (suc k) (t ∷ ts) p some within part =
    let passes = subst (All (λ x. (token_line x == n) ≡ true)) (sym part) (filter_passes (λ x. token_line x == n) (t ∷ ts)) in
    let is : (t.dst_line == n) ≡ true = passes 0 t (omega arith) in
    let same : n ≤ t.dst_line = grind (arith, is) in
    sym (none-before n (t ∷ ts) (same, p.1))
starts-at n from (suc s) k (t ∷ ts) p some within part =
    starts-by (nat_lt t.dst_line n) (t.dst_line == n) n s k t ts refl refl p.1 some (omega (arith, within)) part (starts-at n t.dst_line s k ts p.1 some (omega (arith, within)))

-- ---- numbers on a line
on_line-numbered-by : (b s : Bool) (n i : ℕ) (t : TokenRecord) (ts : List TokenRecord) → nat_lt t.dst_line n ≡ b → (t.dst_line == n) ≡ s → IsFrom t.dst_line ts
    → on_line numbered_line n (numbered_from (i + 1) ts) ≡ numbered_from (i + 1 + count_before_line n ts) (on_line token_line n ts)
    → on_line numbered_line n (numbered_from i (t ∷ ts)) ≡ numbered_from (i + count_before_line n (t ∷ ts)) (on_line token_line n (t ∷ ts))
on_line-numbered-by true s n i t ts e f p more =
    let lt : t.dst_line < n = grind (arith, e) in
    let not_on : (t.dst_line == n) ≡ false = grind (arith, lt) in
    let here : on_line numbered_line n (numbered_from i (t ∷ ts)) ≡ on_line numbered_line n (numbered_from (i + 1) ts) = rw not_on refl in
    let other : on_line token_line n (t ∷ ts) ≡ on_line token_line n ts = rw not_on refl in
    let count : i + 1 + count_before_line n ts ≡ i + count_before_line n (t ∷ ts) = omega (arith, counts-one n t ts lt) in
    here ∙ more ∙ ap (λ k. numbered_from k (on_line token_line n ts)) count ∙ sym (ap (numbered_from (i + count_before_line n (t ∷ ts))) other)
on_line-numbered-by false true n i t ts e f p more =
    let same : t.dst_line ≡ n = grind (arith, f) in
    let le : n ≤ t.dst_line = omega (arith, same) in
    let here : on_line numbered_line n (numbered_from i (t ∷ ts)) ≡ (i, t) ∷ on_line numbered_line n (numbered_from (i + 1) ts) = rw f refl in
    let on : on_line token_line n (t ∷ ts) ≡ t ∷ on_line token_line n ts = rw f refl in
    let none = none-before n ts (IsFrom-le n t.dst_line ts le p) in
    let first : i ≡ i + count_before_line n (t ∷ ts) = omega (arith, counts-none n t ts le, none) in
    let next : i + 1 + count_before_line n ts ≡ i + count_before_line n (t ∷ ts) + 1 = omega (arith, counts-none n t ts le, none) in
    here ∙ ap (λ xs. (i, t) ∷ xs) more ∙ ap (λ k. (k, t) ∷ numbered_from (i + 1 + count_before_line n ts) (on_line token_line n ts)) first
    ∙ ap (λ k. (i + count_before_line n (t ∷ ts), t) ∷ numbered_from k (on_line token_line n ts)) next ∙ sym (ap (numbered_from (i + count_before_line n (t ∷ ts))) on)
on_line-numbered-by false false n i t ts e f p more =
    let after : n < t.dst_line = grind (arith, e, f) in
    let none = on_line-before n t.dst_line ts p after in
    let here : on_line numbered_line n (numbered_from i (t ∷ ts)) ≡ on_line numbered_line n (numbered_from (i + 1) ts) = rw f refl in
    let off : on_line token_line n (t ∷ ts) ≡ on_line token_line n ts = rw f refl in
    here ∙ more ∙ ap (numbered_from (i + 1 + count_before_line n ts)) none ∙ sym (ap (numbered_from (i + count_before_line n (t ∷ ts))) (off ∙ none))

on_line-numbered-from : (n from i : ℕ) (ts : List TokenRecord) → IsFrom from ts → on_line numbered_line n (numbered_from i ts) ≡ numbered_from (i + count_before_line n ts) (on_line token_line n ts)
on_line-numbered-from n from i [] p = refl
on_line-numbered-from n from i (t ∷ ts) p = on_line-numbered-by (nat_lt t.dst_line n) (t.dst_line == n) n i t ts refl refl p.1 (on_line-numbered-from n t.dst_line (i + 1) ts p.1)

-- a numbered token whose number is greater by s
abbrev shifted : ℕ → ℕ × TokenRecord → ℕ × TokenRecord
shifted s p = (s + p.0, p.1)

numbered-shifted : (s i : ℕ) (ts : List TokenRecord) → numbered_from (s + i) ts ≡ map (shifted s) (numbered_from i ts)
numbered-shifted s i [] = refl
numbered-shifted s i (t ∷ ts) =
    let next : s + i + 1 ≡ s + (i + 1) = omega arith in
    ap (λ xs. (s + i, t) ∷ xs) (ap (λ k. numbered_from k ts) next ∙ numbered-shifted s (i + 1) ts)

on_line-numbered : (n : ℕ) (ts : List TokenRecord) → IsInLineOrder ts → on_line numbered_line n (numbered ts) ≡ map (shifted (count_before_line n ts)) (numbered (on_line token_line n ts))
on_line-numbered n ts order =
    let s = count_before_line n ts in
    let start : 0 + s ≡ s + 0 = omega arith in
    on_line-numbered-from n 0 0 ts (in_order-from_0 ts order) ∙ ap (λ k. numbered_from k (on_line token_line n ts)) start ∙ numbered-shifted s 0 (on_line token_line n ts)

shift-index : (s : ℕ) (o : Option (ℕ × TokenRecord)) → option_map (λ p. p.0) (option_map (shifted s) o) ≡ option_map (λ i. s + i) (option_map (λ p. p.0) o)
shift-index s None = refl
shift-index s (Some p) = refl

-- an index on a line, counted from the first of all tokens
abbrev pub from_line : ℕ → List TokenRecord → Option ℕ → Option ℕ
from_line n ts o = option_map (λ i. count_before_line n ts + i) o

pub index_for-own : (n col : ℕ) (ts : List TokenRecord) → IsInLineOrder ts → from_line n ts (index_at (on_line token_line n ts) col) ≡ index_for ts n col
index_for-own n col ts order =
    let s = count_before_line n ts in
    let xs = numbered (on_line token_line n ts) in
    sym (ap (λ ys. option_map (λ p. p.0) (at numbered_column ys col)) (on_line-numbered n ts order)
    ∙ ap (option_map (λ p. p.0)) (at-map (shifted s) numbered_column xs col) ∙ shift-index s (at numbered_column xs col))

pub clamped_index_for-own : (n col : ℕ) (ts : List TokenRecord) → IsInLineOrder ts → from_line n ts (clamped_index_at (on_line token_line n ts) col) ≡ clamped_index_for ts n col
clamped_index_for-own n col ts order =
    let s = count_before_line n ts in
    let xs = numbered (on_line token_line n ts) in
    sym (ap (λ ys. option_map (λ p. p.0) (clamped_at numbered_column ys col)) (on_line-numbered n ts order)
    ∙ ap (option_map (λ p. p.0)) (clamped_at-map (shifted s) numbered_column xs col) ∙ shift-index s (clamped_at numbered_column xs col))

pub index_after-own : (n col : ℕ) (ts : List TokenRecord) → IsInLineOrder ts → from_line n ts (index_at_or_after (on_line token_line n ts) col) ≡ index_after ts n col
index_after-own n col ts order =
    let s = count_before_line n ts in
    let xs = numbered (on_line token_line n ts) in
    sym (ap (λ ys. option_map (λ p. p.0) (at_or_after numbered_column ys col)) (on_line-numbered n ts order)
    ∙ ap (option_map (λ p. p.0)) (at_or_after-map (shifted s) numbered_column xs col) ∙ shift-index s (at_or_after numbered_column xs col))

-- what an index on a row of a sorted map's own table leads to
pub own-index : (F : List TokenRecord → Option ℕ) (answer result : Option ℕ) (n : ℕ) (tokens : List TokenRecord) (table : List (List TokenRecord))
    → (no_column_goes_back token_column (slice_of table n) ≡ true → answer ≡ F (slice_of table n))
    → IfSome answer (λ i. i < length (slice_of table n))
    → (IsInLineOrder tokens → IfSome answer (λ i. i < length (on_line token_line n tokens)) → result ≡ from_line n tokens answer)
    → are_tokens_sorted tokens ≡ true → line_table tokens ≡ Ok table → result ≡ from_line n tokens (F (on_line token_line n tokens))
own-index F answer result n tokens table found within counted sorted own =
    let row = own_row n tokens table own in
    let on = subst (λ ts. IfSome answer (λ i. i < length ts)) row within in
    counted (sorted_in_order tokens sorted) on ∙ ap (from_line n tokens) (own_table F answer n tokens table found sorted own)

-- what an index on a line is among all tokens, by where the line begins
module _ (n start : ℕ) (tokens line : List TokenRecord) (on : line ≡ on_line token_line n tokens) (begins : 0 < length line → start ≡ count_before_line n tokens) where
  pub index-some : (i : ℕ) (o : Option ℕ) → o ≡ Some i → IfSome o (λ i. i < length line) → Some (start + i) ≡ from_line n tokens o
  index-some i o is within =
      let lies : i < length line = subst (λ o. IfSome o (λ i. i < length line)) is within in
      let same : start ≡ count_before_line n tokens = begins (omega (arith, lies)) in
      ap (λ k. Some (k + i)) same ∙ sym (ap (from_line n tokens) is)

  pub index-lies : (i : ℕ) (o : Option ℕ) → o ≡ Some i → IfSome o (λ i. i < length line) → start + i < length tokens
  index-lies i o is within =
      let lies : i < length line = subst (λ o. IfSome o (λ i. i < length line)) is within in
      let same : start ≡ count_before_line n tokens = begins (omega (arith, lies)) in
      omega (arith, lies, same, ap length on, line-fits n tokens)
