-- Where the lines of a list in line order begin.
use Rattle.std.proofs.Common.{◌≡◌, ℕ, suc, ◌+◌, ◌-◌, ◌<◌, ◌≤◌, ◌==◌, nat_lt, Bool, true, false}
use Rattle.std.proofs.Common.{cond, List, [], ◌∷◌, length, take, drop, get_or, refl, sym, ap, subst}
use Rattle.std.proofs.Common.{◌∙◌, arith, Some, None, length-drop}
use Rattle.std.proofs.lemmas.Bool.{lt-ltb}
use Rattle.std.proofs.lemmas.List.FromFn.{length-map-range_with_len, get_or-map-range_with_len}
use Rattle.std.proofs.lemmas.List.{take_all}
use Rattle.std.proofs.lemmas.List.Sums.{count_by-le-length, sum_by-cons, prefix_len-le-length}
use Rattle.std.specs.List.{prefix_len, last_or}
use Rattle.oxc_sourcemap_tokens.specs.Token.{TokenRecord, last}
use Rattle.oxc_sourcemap_tokens.specs.LineOrder.{first_out_of_order}
use Rattle.oxc_sourcemap_parts.specs.Sorted.{token_line}
use Rattle.oxc_sourcemap_lookup.specs.Lookup.{on_line, lines_through}
use Rattle.oxc_sourcemap_lookup.specs.LineSpans.{count_before_line, AreStarts}
use Rattle.oxc_sourcemap_lookup.proofs.Tables.{IsFrom, IsFrom-le, in_order-from_0, front}
use Rattle.oxc_sourcemap_lookup.proofs.OwnTables.{last-reached, none-after}

not_before : (n : ℕ) (t : TokenRecord) → n ≤ t.dst_line → nat_lt t.dst_line n ≡ false
not_before n t h = grind (arith, h)

pub counts-one : (n : ℕ) (t : TokenRecord) (ts : List TokenRecord) → t.dst_line < n → count_before_line n (t ∷ ts) ≡ suc (count_before_line n ts)
counts-one n t ts h = sum_by-cons (λ t. cond (nat_lt (token_line t) n) 1 0) t ts ∙ ap (λ b. cond b 1 0 + count_before_line n ts) (lt-ltb t.dst_line n h) ∙ omega arith

pub counts-none : (n : ℕ) (t : TokenRecord) (ts : List TokenRecord) → n ≤ t.dst_line → count_before_line n (t ∷ ts) ≡ count_before_line n ts
counts-none n t ts h = sum_by-cons (λ t. cond (nat_lt (token_line t) n) 1 0) t ts ∙ ap (λ b. cond b 1 0 + count_before_line n ts) (not_before n t h) ∙ omega arith

-- no token lies before a line from which on all do
pub none-before : (n : ℕ) (ts : List TokenRecord) → IsFrom n ts → count_before_line n ts ≡ 0
none-before n [] p = refl
none-before n (t ∷ ts) p = counts-none n t ts p.0 ∙ none-before n ts (IsFrom-le n t.dst_line ts p.0 p.1)

drop-counted : (k : ℕ) (t : TokenRecord) (ts : List TokenRecord) (m : ℕ) → m ≡ suc k → drop m (t ∷ ts) ≡ drop k ts
drop-counted k t ts m e = rw e refl

-- without the tokens before a line, a list in line order begins on that line or after it
from-by : (b : Bool) (n : ℕ) (t : TokenRecord) (ts : List TokenRecord) → nat_lt t.dst_line n ≡ b → IsFrom t.dst_line ts → IsFrom n (drop (count_before_line n ts) ts) → IsFrom n (drop (count_before_line n (t ∷ ts)) (t ∷ ts))
from-by true n t ts e p more = subst (IsFrom n) (sym (drop-counted (count_before_line n ts) t ts _ (counts-one n t ts (grind (arith, e))))) more
from-by false n t ts e p more =
    let h : n ≤ t.dst_line = grind (arith, e) in
    let none = none-before n (t ∷ ts) (h, p) in
    subst (λ k. IsFrom n (drop k (t ∷ ts))) (sym none) (h, p)

pub left_from : (n from : ℕ) (ts : List TokenRecord) → IsFrom from ts → IsFrom n (drop (count_before_line n ts) ts)
left_from n from [] p = p
left_from n from (t ∷ ts) p = from-by (nat_lt t.dst_line n) n t ts refl p.1 (left_from n t.dst_line ts p.1)

on-by : (b : Bool) (n : ℕ) (t : TokenRecord) (ts : List TokenRecord) → nat_lt t.dst_line n ≡ b → IsFrom t.dst_line ts
    → on_line token_line n (drop (count_before_line n ts) ts) ≡ on_line token_line n ts → on_line token_line n (drop (count_before_line n (t ∷ ts)) (t ∷ ts)) ≡ on_line token_line n (t ∷ ts)
on-by true n t ts e p more =
    let h : t.dst_line < n = grind (arith, e) in
    let other : on_line token_line n (t ∷ ts) ≡ on_line token_line n ts = grind (arith, h) in
    ap (on_line token_line n) (drop-counted (count_before_line n ts) t ts _ (counts-one n t ts h)) ∙ more ∙ sym other
on-by false n t ts e p more =
    let h : n ≤ t.dst_line = grind (arith, e) in
    ap (λ k. on_line token_line n (drop k (t ∷ ts))) (none-before n (t ∷ ts) (h, p))

left_on : (n from : ℕ) (ts : List TokenRecord) → IsFrom from ts → on_line token_line n (drop (count_before_line n ts) ts) ≡ on_line token_line n ts
left_on n from [] p = refl
left_on n from (t ∷ ts) p = on-by (nat_lt t.dst_line n) n t ts refl p.1 (left_on n t.dst_line ts p.1)

-- the tokens on a line follow those on the lines before it
next-by : (b s : Bool) (n : ℕ) (t : TokenRecord) (ts : List TokenRecord) → nat_lt t.dst_line n ≡ b → (t.dst_line == n) ≡ s → IsFrom t.dst_line ts
    → count_before_line (n + 1) ts ≡ count_before_line n ts + prefix_len (λ t. t.dst_line == n) (drop (count_before_line n ts) ts)
    → count_before_line (n + 1) (t ∷ ts) ≡ count_before_line n (t ∷ ts) + prefix_len (λ t. t.dst_line == n) (drop (count_before_line n (t ∷ ts)) (t ∷ ts))
next-by true s n t ts e f p more =
    let h : t.dst_line < n = grind (arith, e) in
    let here = counts-one n t ts h in
    let next = counts-one (n + 1) t ts (omega (arith, h)) in
    let rest = drop-counted (count_before_line n ts) t ts _ here in
    let same = ap (prefix_len (λ t. t.dst_line == n)) rest in
    omega (arith, here, next, same, more)
next-by false true n t ts e f p more =
    let is : t.dst_line ≡ n = grind (arith, f) in
    let none = none-before n ts (subst (λ k. IsFrom k ts) is p) in
    let here = counts-none n t ts (omega (arith, is)) ∙ none in
    let next = counts-one (n + 1) t ts (omega (arith, is)) in
    let left = ap (λ k. prefix_len (λ t. t.dst_line == n) (drop k ts)) none in
    let one : prefix_len (λ t. t.dst_line == n) (t ∷ ts) ≡ 1 + prefix_len (λ t. t.dst_line == n) ts = grind (arith, f) in
    let all = ap (λ k. prefix_len (λ t. t.dst_line == n) (drop k (t ∷ ts))) here in
    omega (arith, here, next, none, left, one, all, more)
next-by false false n t ts e f p more =
    let after : n + 1 ≤ t.dst_line = grind (arith, e, f) in
    let here = none-before n (t ∷ ts) (omega (arith, after), p) in
    let next = none-before (n + 1) (t ∷ ts) (after, p) in
    let none : prefix_len (λ t. t.dst_line == n) (t ∷ ts) ≡ 0 = grind (arith, f) in
    let all = ap (λ k. prefix_len (λ t. t.dst_line == n) (drop k (t ∷ ts))) here in
    omega (arith, here, next, none, all)

pub counts-next : (n from : ℕ) (ts : List TokenRecord) → IsFrom from ts → count_before_line (n + 1) ts ≡ count_before_line n ts + prefix_len (λ t. t.dst_line == n) (drop (count_before_line n ts) ts)
counts-next n from [] p = refl
counts-next n from (t ∷ ts) p = next-by (nat_lt t.dst_line n) (t.dst_line == n) n t ts refl refl p.1 (counts-next n t.dst_line ts p.1)

-- the tokens on a line are those at the front of what is left from it on
pub on_line-left : (n : ℕ) (ts : List TokenRecord) → first_out_of_order ts ≡ None
    → take (prefix_len (λ t. t.dst_line == n) (drop (count_before_line n ts) ts)) (drop (count_before_line n ts) ts) ≡ on_line token_line n ts
on_line-left n ts order =
    let p = in_order-from_0 ts order in
    front n (drop (count_before_line n ts) ts) (left_from n 0 ts p) ∙ left_on n 0 ts p

-- where the tokens on a line lie, by how many there are at the front of what is left from it on
pub line-left : (n line start count : ℕ) (ts : List TokenRecord) → first_out_of_order ts ≡ None → start ≡ count_before_line n ts → line ≡ n
    → count ≡ prefix_len (λ t. t.dst_line == line) (take (length ts - start) (drop start ts))
    → (start + count ≤ length ts) × (take (start + count - start) (drop start ts) ≡ on_line token_line n ts)
line-left n line start count ts order is same size =
    let some = count_by-le-length (λ t. nat_lt (token_line t) n) ts in
    let within : start ≤ length ts = omega (arith, is, some) in
    let rest : take (length ts - start) (drop start ts) ≡ drop start ts = take_all (length ts - start) (drop start ts) (omega (arith, length-drop start ts)) in
    let all : count ≡ prefix_len (λ t. t.dst_line == n) (drop start ts) =
    size ∙ ap (λ k. prefix_len (λ t. t.dst_line == k) (take (length ts - start) (drop start ts))) same ∙ ap (prefix_len (λ t. t.dst_line == n)) rest in
    let most = prefix_len-le-length (λ t. t.dst_line == n) (drop start ts) in
    let only : start + count - start ≡ prefix_len (λ t. t.dst_line == n) (drop start ts) = omega (arith, all) in
    let begin : take (prefix_len (λ t. t.dst_line == n) (drop start ts)) (drop start ts) ≡ on_line token_line n ts =
    ap (λ k. take (prefix_len (λ t. t.dst_line == n) (drop k ts)) (drop k ts)) is ∙ on_line-left n ts order in
    (omega (arith, within, all, most, length-drop start ts), ap (λ k. take k (drop start ts)) only ∙ begin)

-- the tokens on a line lie from where it begins to where the next line does
pub on_line-between : (n : ℕ) (ts : List TokenRecord) → first_out_of_order ts ≡ None → take (count_before_line (n + 1) ts - count_before_line n ts) (drop (count_before_line n ts) ts) ≡ on_line token_line n ts
on_line-between n ts order =
    let p = in_order-from_0 ts order in
    let rest = drop (count_before_line n ts) ts in
    let size : count_before_line (n + 1) ts - count_before_line n ts ≡ prefix_len (λ t. t.dst_line == n) rest = omega (arith, counts-next n 0 ts p) in
    ap (λ k. take k rest) size ∙ on_line-left n ts order

-- all tokens lie before the line after the last one
all-before-of : (n : ℕ) (t : TokenRecord) (ts : List TokenRecord) → IsFrom t.dst_line ts → lines_through (last_or (Some t) ts) ≤ n → count_before_line n (t ∷ ts) ≡ length (t ∷ ts)
all-before-of n t [] p h = counts-one n t [] (omega (arith, h))
all-before-of n t (u ∷ us) p h = counts-one n t (u ∷ us) (omega (arith, last-reached t (u ∷ us) p, h)) ∙ ap suc (all-before-of n u us p.1 h)

pub all-before : (n : ℕ) (ts : List TokenRecord) → first_out_of_order ts ≡ None → lines_through (last ts) ≤ n → count_before_line n ts ≡ length ts
all-before n [] order h = refl
all-before n (t ∷ ts) order h = all-before-of n t ts (in_order-from_0 (t ∷ ts) order).1 h

-- the entries of a list of starts
module _ (tokens : List TokenRecord) (starts : List ℕ) (are : AreStarts tokens starts) where
  how_many : length starts ≡ lines_through (last tokens) + 1
  how_many = ap length are.each ∙ length-map-range_with_len (λ n. count_before_line n tokens) 0 (lines_through (last tokens) + 1)

  pub start_of : (n i d : ℕ) → n < length starts → i ≡ n → get_or starts i d ≡ count_before_line n tokens
  start_of n i d h e = ap (λ xs. get_or xs i d) are.each ∙ get_or-map-range_with_len (λ n. count_before_line n tokens) 0 (lines_through (last tokens) + 1) i n d (omega (arith, h, e, how_many)) (omega (arith, e))

  pub starts_rise : (n i j d : ℕ) → n + 1 < length starts → i ≡ n → j ≡ n + 1 → get_or starts i d ≤ get_or starts j d
  starts_rise n i j d h e f = omega (arith, start_of n i d (omega (arith, h)) e, start_of (n + 1) j d h f, counts-next n 0 tokens (in_order-from_0 tokens are.order))

  pub starts_within : (n i d : ℕ) → n < length starts → i ≡ n → get_or starts i d ≤ length tokens
  starts_within n i d h e =
      let most : count_before_line n tokens ≤ length tokens = count_by-le-length (λ t. nat_lt (token_line t) n) tokens in
      omega (arith, start_of n i d h e, most)

  pub line_between : (n i j d : ℕ) → n + 1 < length starts → i ≡ n → j ≡ n + 1 → take (get_or starts j d - get_or starts i d) (drop (get_or starts i d) tokens) ≡ on_line token_line n tokens
  line_between n i j d h e f =
      let begin = start_of n i d (omega (arith, h)) e in
      let end = start_of (n + 1) j d h f in
      ap (λ k. take (get_or starts j d - k) (drop k tokens)) begin ∙ ap (λ k. take (k - count_before_line n tokens) (drop (count_before_line n tokens) tokens)) end ∙ on_line-between n tokens are.order

  pub none_past : (n : ℕ) → length starts ≤ n + 1 → on_line token_line n tokens ≡ []
  none_past n h = none-after n tokens are.order (omega (arith, h, how_many))
