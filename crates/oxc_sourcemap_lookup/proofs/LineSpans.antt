-- Cutting the spans of lines off a list in line order, one by one.
use Rattle.std.proofs.Common.{◌≡◌, ◌≢◌, ℕ, ◌+◌, ◌-◌, ◌<◌, ◌≤◌, ◌==◌, nat_lt, Bool, true, false}
use Rattle.std.proofs.Common.{List, [], ◌∷◌, ◌++◌, length, take, drop, get_or, slice_get}
use Rattle.std.proofs.Common.{option_map, Some, None, refl, sym, ap, subst, ◌∙◌, arith}
use Rattle.std.proofs.Common.{length-append, length-drop, length-take, zero, suc}
use Rattle.std.proofs.Math.ListN.{get_or-append, drop_of_length-le}
use Rattle.std.proofs.Math.Seq.{get_or-append_seam}
use Rattle.std.proofs.lemmas.List.{drop-drop}
use Rattle.std.proofs.lemmas.List.Elements.{All-push, All-weaker}
use Rattle.std.proofs.lemmas.List.Sums.{prefix_len-le-length}
use Rattle.std.proofs.lemmas.Option.{slice_get-get_or}
use Rattle.std.specs.List.Sorted.{IsNonDecreasingBy}
use Rattle.std.specs.List.{All, prefix_len}
use Rattle.oxc_sourcemap_tokens.specs.Token.{TokenRecord}
use Rattle.oxc_sourcemap_tokens.specs.LineOrder.{first_out_of_order}
use Rattle.oxc_sourcemap_parts.specs.Sorted.{token_line}
use Rattle.oxc_sourcemap_lookup.specs.declared.line_index.LineSpan.{LineSpan}
use Rattle.oxc_sourcemap_lookup.specs.Lookup.{on_line}
use Rattle.oxc_sourcemap_lookup.specs.LineSpans.{IsSpan, DoLinesRise, AreSpans}
use Rattle.oxc_sourcemap_lookup.proofs.Tables.{IsFrom, IsFrom-le, on_line-before, front, left}
use Rattle.oxc_sourcemap_lookup.proofs.Tables.{others, joined}

-- the spans of the tokens before `start`, where what is left begins on line `next` or after it
pub record AreSpansTo (tokens : List TokenRecord) (start next : ℕ) (spans : List LineSpan) : Type 0 where
  pub from : IsFrom next (drop start tokens)
  pub left_on : (n : ℕ) → next ≤ n → on_line token_line n (drop start tokens) ≡ on_line token_line n tokens
  pub each : All (IsSpan tokens) spans
  pub before : All (λ span. span.line < next) spans
  pub rise : DoLinesRise spans
  pub others : (n : ℕ) → n < next → All (λ span. span.line ≢ n) spans → on_line token_line n tokens ≡ []

pub spans-none : (tokens : List TokenRecord) (spans : List LineSpan) → spans ≡ [] → IsFrom 0 tokens → AreSpansTo tokens 0 0 spans
spans-none tokens spans e p =
    let none : length spans ≡ 0 = ap length e in
    record {
      from = p;
      left_on = λ n h. refl;
      each = λ k d h. absurd (omega (arith, h, none));
      before = λ k d h. absurd (omega (arith, h, none));
      rise = λ i j d h k. absurd (omega (arith, k, none));
      others = λ n h all. absurd (omega (arith, h));
    }

-- the items of a list with a new last item
get_or-init : {X : Type 0} (xs : List X) (x d : X) (k : ℕ) → k < length xs → get_or (xs ++ x ∷ []) k d ≡ get_or xs k d
get_or-init xs x d k h = get_or-append xs (x ∷ []) d k h

get_or-last : {X : Type 0} (xs : List X) (x d : X) (k : ℕ) → k ≡ length xs → get_or (xs ++ x ∷ []) k d ≡ x
get_or-last xs x d k e = ap (λ i. get_or (xs ++ x ∷ []) i d) e ∙ get_or-append_seam xs x [] d

length-push : {X : Type 0} (xs : List X) (x : X) → length (xs ++ x ∷ []) ≡ length xs + 1
length-push xs x = length-append xs (x ∷ [])

all-init : {X : Type 0} (P : X → Type 0) (xs : List X) (x : X) → All P (xs ++ x ∷ []) → All P xs
all-init P xs x all k d h = subst P (get_or-init xs x d k h) (all k d (omega (arith, h, length-push xs x)))

all-last : {X : Type 0} (P : X → Type 0) (xs : List X) (x : X) → All P (xs ++ x ∷ []) → P x
all-last P xs x all = subst P (get_or-last xs x x (length xs) refl) (all (length xs) x (omega (arith, length-push xs x)))

rise-by : (b : Bool) (spans : List LineSpan) (span : LineSpan) (i j : ℕ) (d : LineSpan) → nat_lt j (length spans) ≡ b → DoLinesRise spans → All (λ s. s.line < span.line) spans
    → i < j → j < length (spans ++ span ∷ []) → (get_or (spans ++ span ∷ []) i d).line < (get_or (spans ++ span ∷ []) j d).line
rise-by true spans span i j d e rise before h k =
    let within : j < length spans = grind (arith, e) in
    omega (arith, rise i j d h within, ap (λ (s : LineSpan). s.line) (get_or-init spans span d i (omega (arith, h, within))), ap (λ (s : LineSpan). s.line) (get_or-init spans span d j within))
rise-by false spans span i j d e rise before h k =
    let past : length spans ≤ j = grind (arith, e) in
    let last : j ≡ length spans = omega (arith, past, k, length-push spans span) in
    omega (arith, before i d (omega (arith, h, last)), ap (λ (s : LineSpan). s.line) (get_or-init spans span d i (omega (arith, h, last))), ap (λ (s : LineSpan). s.line) (get_or-last spans span d j last))

rise-push : (spans : List LineSpan) (span : LineSpan) → DoLinesRise spans → All (λ s. s.line < span.line) spans → DoLinesRise (spans ++ span ∷ [])
rise-push spans span rise before i j d h k = rise-by (nat_lt j (length spans)) spans span i j d refl rise before h k

-- at least the first token that is left is on its line
count-some : (line : ℕ) (t : TokenRecord) (ts : List TokenRecord) → t.dst_line ≡ line → 0 < prefix_len (λ t. t.dst_line == line) (t ∷ ts)
count-some line t ts e = grind (arith, e)

from-first : (next : ℕ) (t : TokenRecord) (ts : List TokenRecord) → IsFrom next (t ∷ ts) → IsFrom t.dst_line (t ∷ ts)
from-first next t ts p = (omega arith, p.1)

-- the tokens on the line of the first one that is left end within the list
pub counted-within : (tokens rest : List TokenRecord) (start count line : ℕ) → rest ≡ drop start tokens → start < length tokens → count ≡ prefix_len (λ t. t.dst_line == line) rest → start + count ≤ length tokens
counted-within tokens rest start count line rest_is small counted =
    let most : prefix_len (λ t. t.dst_line == line) rest ≤ length rest = prefix_len-le-length (λ t. t.dst_line == line) rest in
    let left : length rest ≡ length tokens - start = ap length rest_is ∙ length-drop start tokens in
    omega (arith, most, left, counted, small)

pub counted-to : (tokens : List TokenRecord) (start count line : ℕ) → start ≤ length tokens → count ≡ prefix_len (λ t. t.dst_line == line) (take (length tokens - start) (drop start tokens)) → start + count ≤ length tokens
counted-to tokens start count line h counted =
    let most = prefix_len-le-length (λ t. t.dst_line == line) (take (length tokens - start) (drop start tokens)) in
    let left = length-take (length tokens - start) (drop start tokens) in
    let size = length-drop start tokens in
    omega (arith, most, left, size, counted, h)

pub back-more : (tokens rest : List TokenRecord) (start next line count : ℕ) → rest ≡ drop start tokens → count ≡ prefix_len (λ t. t.dst_line == line) rest → next ≤ line
    → IsFrom (line + 1) (drop (start + count) tokens) → IsFrom next (drop start tokens)
back-more tokens rest start next line count rest_is counted h p =
    let e : drop (start + count) tokens ≡ drop (prefix_len (λ t. t.dst_line == line) rest) rest = sym (drop-drop count start tokens) ∙ sym (ap (drop count) rest_is) ∙ ap (λ n. drop n rest) counted in
    subst (IsFrom next) rest_is (IsFrom-le next line rest h (joined line rest (subst (IsFrom (line + 1)) e p)))

module _ (tokens rest more : List TokenRecord) (t : TokenRecord) (start next count : ℕ) (spans : List LineSpan) (span : LineSpan) (was : AreSpansTo tokens start next spans)
    (rest_is : rest ≡ drop start tokens) (first : rest ≡ t ∷ more) (line : t.dst_line ≡ span.line) (counted : count ≡ prefix_len (λ t. t.dst_line == span.line) rest)
    (starts : span.start ≡ start) (ends : span.end ≡ start + count) (small : start < length tokens) where
  from_next : IsFrom next rest
  from_next = subst (IsFrom next) (sym rest_is) was.from

  from_line : IsFrom span.line rest
  from_line = subst (IsFrom span.line) (sym first) (subst (λ n. IsFrom n (t ∷ more)) line (from-first next t more (subst (IsFrom next) first from_next)))

  not_after : next ≤ span.line
  not_after = let p : IsFrom next (t ∷ more) = subst (IsFrom next) first from_next in omega (arith, p.0, line)

  on_rest : (n : ℕ) → next ≤ n → on_line token_line n rest ≡ on_line token_line n tokens
  on_rest n h = ap (on_line token_line n) rest_is ∙ was.left_on n h

  dropped : drop count rest ≡ drop (start + count) tokens
  dropped = ap (drop count) rest_is ∙ drop-drop count start tokens

  is_span : IsSpan tokens span
  is_span =
      let one : 0 < count = subst (λ ts. 0 < ts) (sym (counted ∙ ap (prefix_len (λ t. t.dst_line == span.line)) first)) (count-some span.line t more line) in
      let size : span.end - span.start ≡ count = omega (arith, starts, ends) in
      record {
        some = omega (arith, one, starts, ends);
        within = omega (arith, ends, counted-within tokens rest start count span.line rest_is small counted);
        tokens_on = ap (λ n. take n (drop span.start tokens)) (size ∙ counted) ∙ ap (λ n. take (prefix_len (λ t. t.dst_line == span.line) rest) (drop n tokens)) starts
            ∙ ap (take (prefix_len (λ t. t.dst_line == span.line) rest)) (sym rest_is) ∙ front span.line rest from_line ∙ on_rest span.line not_after;
      }

  between : (b : Bool) (n : ℕ) → nat_lt n next ≡ b → n < span.line → All (λ s. s.line ≢ n) spans → on_line token_line n tokens ≡ []
  between true n e h all = was.others n (grind (arith, e)) all
  between false n e h all = sym (on_rest n (grind (arith, e))) ∙ on_line-before n span.line rest from_line h

  pub spans-more : AreSpansTo tokens (start + count) (span.line + 1) (spans ++ span ∷ [])
  spans-more = record {
    from = subst (IsFrom (span.line + 1)) (ap (λ n. drop n rest) (sym counted) ∙ dropped) (left span.line rest from_line);
    left_on = λ n h. ap (on_line token_line n) (sym dropped ∙ ap (λ k. drop k rest) counted) ∙ others n span.line rest (omega (arith, h)) ∙ on_rest n (omega (arith, h, not_after));
    each = All-push (IsSpan tokens) spans span was.each is_span;
    before = All-push (λ s. s.line < span.line + 1) spans span (All-weaker (λ s. s.line < next) (λ s. s.line < span.line + 1) (λ s h. omega (arith, h, not_after)) spans was.before) (omega arith);
    rise = rise-push spans span was.rise (All-weaker (λ s. s.line < next) (λ s. s.line < span.line) (λ s h. omega (arith, h, not_after)) spans was.before);
    others = λ n h all.
        let other : span.line ≢ n = all-last (λ s. s.line ≢ n) spans span all in
        let below : n < span.line = omega (arith, h, other) in
        between (nat_lt n next) n refl below (all-init (λ s. s.line ≢ n) spans span all);
  }

-- once no token is left, all lines are cut off
pub none-from : (next start : ℕ) (tokens : List TokenRecord) → length tokens ≤ start → IsFrom next (drop start tokens)
none-from next start tokens h = subst (IsFrom next) (sym (drop_of_length-le tokens h)) tt

none-left : (n start : ℕ) (tokens : List TokenRecord) → length tokens ≤ start → on_line token_line n (drop start tokens) ≡ []
none-left n start tokens h = ap (on_line token_line n) (drop_of_length-le tokens h)

others-by : (b : Bool) (n start next : ℕ) (tokens : List TokenRecord) (spans : List LineSpan) → nat_lt n next ≡ b → length tokens ≤ start → AreSpansTo tokens start next spans
    → All (λ s. s.line ≢ n) spans → on_line token_line n tokens ≡ []
others-by true n start next tokens spans e h was all = was.others n (grind (arith, e)) all
others-by false n start next tokens spans e h was all = sym (was.left_on n (grind (arith, e))) ∙ none-left n start tokens h

pub spans-all : (tokens : List TokenRecord) (start next : ℕ) (spans : List LineSpan) → first_out_of_order tokens ≡ None → length tokens ≤ start → AreSpansTo tokens start next spans → AreSpans tokens spans
spans-all tokens start next spans order h was = record {
  order = order;
  each = was.each;
  rise = was.rise;
  others = λ n all. others-by (nat_lt n next) n start next tokens spans refl h was all;
}

-- spans by the index of the first one that does not lie before a line
at-by : (b : Bool) (spans : List LineSpan) (i j : ℕ) (d : LineSpan) → nat_lt i j ≡ b → DoLinesRise spans → i ≤ j → j < length spans → (get_or spans i d).line ≤ (get_or spans j d).line
at-by true spans i j d e rise h k = omega (arith, rise i j d (grind (arith, e)) k)
at-by false spans i j d e rise h k =
    let past : j ≤ i = grind (arith, e) in
    let same : i ≡ j = omega (arith, h, past) in
    omega (arith, ap (λ n. (get_or spans n d).line) same)

pub do_not_fall : (spans : List LineSpan) → DoLinesRise spans → IsNonDecreasingBy (λ span. span.line) spans
do_not_fall spans rise i j d h k = at-by (nat_lt i j) spans i j d refl rise h k

none-by : (before after : Bool) (spans : List LineSpan) (line i k : ℕ) (d : LineSpan) → nat_lt k i ≡ before → nat_lt i k ≡ after → DoLinesRise spans
    → ((k : ℕ) (d : LineSpan) → k < i → (get_or spans k d).line < line) → ((k : ℕ) (d : LineSpan) → i ≤ k → k < length spans → line ≤ (get_or spans k d).line)
    → (option_map (λ span. span.line) (slice_get spans i) ≡ Some line → ⊥) → k < length spans → (get_or spans k d).line ≢ line
none-by true after spans line i k d e f rise below above other h = omega (arith, below k d (grind (arith, e)))
none-by false true spans line i k d e f rise below above other h =
    let more : i < k = grind (arith, f) in
    omega (arith, rise i k d more h, above i d (omega arith) (omega (arith, more, h)))
none-by false false spans line i k d e f rise below above other h = λ is.
    let past : i ≤ k = grind (arith, e) in
    let not_past : k ≤ i = grind (arith, f) in
    let same : k ≡ i = omega (arith, past, not_past) in
    other (sym (ap (λ n. option_map (λ span. span.line) (slice_get spans n)) same) ∙ ap (option_map (λ span. span.line)) (slice_get-get_or spans k d h) ∙ ap (λ n. Some n) is)

pub none-at : (spans : List LineSpan) (line i : ℕ) → DoLinesRise spans → ((k : ℕ) (d : LineSpan) → k < i → (get_or spans k d).line < line)
    → ((k : ℕ) (d : LineSpan) → i ≤ k → k < length spans → line ≤ (get_or spans k d).line) → (option_map (λ span. span.line) (slice_get spans i) ≡ Some line → ⊥) → All (λ span. span.line ≢ line) spans
none-at spans line i rise below above other k d h = none-by (nat_lt k i) (nat_lt i k) spans line i k d refl refl rise below above other h

pub found-at : (spans : List LineSpan) (i line : ℕ) (d : LineSpan) → option_map (λ span. span.line) (slice_get spans i) ≡ Some line → (i < length spans) × ((get_or spans i d).line ≡ line)
found-at [] i line d e = absurd (cc (e))
found-at (span ∷ spans) zero line d e = (omega arith, grind (arith, e))
found-at (span ∷ spans) (suc i) line d e = let more = found-at spans i line d e in (omega (arith, more.0), more.1)
