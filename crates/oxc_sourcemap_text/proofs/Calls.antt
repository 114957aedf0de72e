-- What the calls on an index find.
use Rattle.std.proofs.Common.{◌≡◌, ℕ, ◌+◌, ◌-◌, ◌<◌, ◌≤◌, Bool, true, false, List, length, get_or}
use Rattle.std.proofs.Common.{refl, sym, ap, ◌∙◌, arith, Ok, Err, Some, None, Result, nat_le}
use Rattle.std.proofs.Common.{nat_lt, slice_get, ◌⊎◌, inl, inr, is_ok, MatchResult}
use Rattle.std.specs.List.Sorted.{IsNonDecreasingBy}
use Rattle.std.specs.Char.Utf16.{is_low_surrogate}
use Rattle.std.proofs.lemmas.Bool.{cases_order}
use Rattle.std.proofs.lemmas.List.Sorted.{IsNonDecreasingBy-from_default}
use Rattle.std.proofs.lemmas.Option.{slice_get_within, get_or_from_slice_get, slice_get-get_or}
use Rattle.oxc_sourcemap_text.specs.declared.positions.position_error.PositionError.TheVariants.{PastText}
use Rattle.oxc_sourcemap_text.specs.declared.positions.position_error.PositionError.TheVariants.{NoLine}
use Rattle.oxc_sourcemap_text.specs.declared.positions.position_error.PositionError.TheVariants.{PastLine}
use Rattle.oxc_sourcemap_text.specs.declared.positions.position_error.PositionError.TheVariants.{InsidePair}
use Rattle.oxc_sourcemap_tokens.specs.declared.errors.error.Error.TheVariants.{TooLarge}
use Rattle.oxc_sourcemap_text.specs.TextLines.{units_of, text_lines}
use Rattle.oxc_sourcemap_text.specs.Positions.{line_start, column_count, is_inside_pair, line_of}
use Rattle.oxc_sourcemap_text.specs.Positions.{offset_of, position_of, in_size}
use Rattle.oxc_sourcemap_text.specs.Scans.{starts_from, second_halves}
use Rattle.oxc_sourcemap_text.proofs.Starts.{length-starts, starts-at, starts-between, line-of}
use Rattle.oxc_sourcemap_text.proofs.Starts.{text-whole, limit-last, limit-other, from-true}
use Rattle.oxc_sourcemap_text.proofs.Starts.{from-false}
use Rattle.oxc_sourcemap_text.proofs.Pairs.{IsHalf, IsListed, halves-are, halves-rise, halves-all}
use Rattle.oxc_sourcemap_text.proofs.Inverse.{lt-true, lt-false, last-end}

pub start-at : (lines : List (List ℕ)) (starts : List ℕ) (n : ℕ) → starts ≡ starts_from 0 lines → n < length lines → get_or starts n 0 ≡ line_start lines n
start-at lines starts n e h = ap (λ xs. get_or xs n 0) e ∙ starts-at 0 lines n h ∙ omega arith

pub start-count : (lines : List (List ℕ)) (starts : List ℕ) → starts ≡ starts_from 0 lines → length starts ≡ length lines
start-count lines starts e = ap length e ∙ length-starts 0 lines

pub starts-order : (lines : List (List ℕ)) (starts : List ℕ) → starts ≡ starts_from 0 lines → IsNonDecreasingBy (λ y. y) starts
starts-order lines starts e = IsNonDecreasingBy-from_default (λ y. y) starts 0 (λ i j h k.
    let count = start-count lines starts e in
    omega (arith, start-at lines starts i e (omega arith), start-at lines starts j e (omega arith), starts-between lines i j h (omega arith)))

line-before : (lines : List (List ℕ)) (offset n : ℕ) (starts : List ℕ) → starts ≡ starts_from 0 lines → 0 < length lines
    → ((k : ℕ) → n ≤ k → k < length starts → nat_le (get_or starts k 0) offset ≡ false) → (n ≡ 0) ⊎ ((n < 0) ⊎ (0 < n)) → 1 ≤ n
line-before lines offset n starts e some above (inl none) =
    let count = start-count lines starts e in
    let first = start-at lines starts 0 e some in
    absurd (omega (arith, from-false _ _ (above 0 (omega arith) (omega arith)), first))
line-before lines offset n starts e some above (inr (inl lt)) = absurd (omega (arith, lt))
line-before lines offset n starts e some above (inr (inr gt)) = omega (arith, gt)

-- the line of an offset is before the first start past it
pub line-found : (lines : List (List ℕ)) (offset n : ℕ) (starts : List ℕ) → starts ≡ starts_from 0 lines → 0 < length lines → n ≤ length starts
    → ((k : ℕ) → k < n → nat_le (get_or starts k 0) offset ≡ true) → ((k : ℕ) → n ≤ k → k < length starts → nat_le (get_or starts k 0) offset ≡ false)
    → (1 ≤ n) × (n - 1 ≡ line_of lines offset) × (n - 1 < length lines)
line-found lines offset n starts e some h below above =
    let count = start-count lines starts e in
    let first = start-at lines starts 0 e some in
    let one : 1 ≤ n = line-before lines offset n starts e some above (cases_order n 0) in
    let there : n - 1 < length lines = omega arith in
    let begins : line_start lines (n - 1) ≤ offset = omega (arith, from-true _ _ (below (n - 1) (omega arith)), start-at lines starts (n - 1) e there) in
    let ends : n - 1 + 1 < length lines → offset < line_start lines (n - 1 + 1) = λ more. omega (arith, from-false _ _ (above (n - 1 + 1) (omega arith) (omega arith)), start-at lines starts (n - 1 + 1) e more) in
    (one, sym (line-of lines offset (n - 1) there begins ends), there)

none-at : (xs : List ℕ) (x i k : ℕ) → ((k : ℕ) → k < i → get_or xs k 0 < x) → ((k : ℕ) → i ≤ k → k < length xs → x < get_or xs k 0)
    → k < length xs → get_or xs k 0 ≡ x → (k ≡ i) ⊎ ((k < i) ⊎ (i < k)) → ⊥
none-at xs x i k before after h is (inl same) = omega (arith, is, after k (omega (arith, same)) h)
none-at xs x i k before after h is (inr (inl lt)) = omega (arith, is, before k lt)
none-at xs x i k before after h is (inr (inr gt)) = omega (arith, is, after k (omega (arith, gt)) h)

none-listed : (xs : List ℕ) (x i : ℕ) → ((k : ℕ) → k < i → get_or xs k 0 < x) → ((k : ℕ) → i ≤ k → k < length xs → x < get_or xs k 0)
    → IsListed xs x → ⊥
none-listed xs x i before after (k, h, is) = none-at xs x i k before after h is (cases_order k i)

no-pair : (units xs : List ℕ) (x i : ℕ) (b : Bool) → xs ≡ second_halves 0 units → ((k : ℕ) → k < i → get_or xs k 0 < x) → ((k : ℕ) → i ≤ k → k < length xs → x < get_or xs k 0)
    → is_low_surrogate (get_or units x 0) ≡ b → b ≡ false
no-pair units xs x i false e before after low = refl
no-pair units xs x i true e before after low =
    let same : x - 0 ≡ x = omega arith in
    let half : IsHalf 0 units x = record { from = omega arith; low = ap (λ n. is_low_surrogate (get_or units n 0)) same ∙ low } in
    let listed : IsListed xs x = rw e (halves-all 0 units x half) in
    absurd (none-listed xs x i before after listed)

pub pair-found : (units xs : List ℕ) (x : ℕ) (r : Result ℕ ℕ) → xs ≡ second_halves 0 units
    → MatchResult r (λ i. (i < length xs) × (get_or xs i 0 ≡ x)) (λ i. (i ≤ length xs) × ((k : ℕ) → k < i → get_or xs k 0 < x) × ((k : ℕ) → i ≤ k → k < length xs → x < get_or xs k 0))
    → is_ok r ≡ is_inside_pair units x
pair-found units xs x (Ok i) e (h, is) =
    let there : i < length (second_halves 0 units) = omega (arith, h, ap length e) in
    let half = halves-are 0 units i there in
    let at : get_or (second_halves 0 units) i 0 - 0 ≡ x = omega (arith, is, ap (λ l. get_or l i 0) e) in
    sym (ap (λ n. is_low_surrogate (get_or units n 0)) (sym at) ∙ half.low)
pair-found units xs x (Err i) e (h, before, after) = sym (no-pair units xs x i _ e before after refl)

pub halves-order : (units xs : List ℕ) → xs ≡ second_halves 0 units → (i j : ℕ) → i ≤ j → j < length xs → get_or xs i 0 ≤ get_or xs j 0
halves-order units xs e = rw e (halves-rise 0 units)

-- where the next line begins, if there is one
pub limit-next : (lines : List (List ℕ)) (line next : ℕ) (starts : List ℕ) → starts ≡ starts_from 0 lines → slice_get starts (line + 1) ≡ Some next
    → next ≡ line_start lines line + column_count lines line
limit-next lines line next starts e is =
    let count = start-count lines starts e in
    let within = slice_get_within starts (line + 1) next is in
    let more : line + 1 < length lines = omega arith in
    sym (get_or_from_slice_get starts (line + 1) next 0 is) ∙ start-at lines starts (line + 1) e more ∙ sym (limit-other lines line more)

last-line : (lines : List (List ℕ)) (line : ℕ) (starts : List ℕ) → starts ≡ starts_from 0 lines → line < length lines → slice_get starts (line + 1) ≡ None
    → (line + 1 ≡ length lines) ⊎ ((line + 1 < length lines) ⊎ (length lines < line + 1)) → line + 1 ≡ length lines
last-line lines line starts e h is (inl last) = last
last-line lines line starts e h is (inr (inl lt)) =
    let count = start-count lines starts e in
    let there = slice_get-get_or starts (line + 1) 0 (omega (arith, lt, count)) in
    absurd cc
last-line lines line starts e h is (inr (inr gt)) = absurd (omega (arith, gt, h))

pub limit-none : (lines : List (List ℕ)) (line : ℕ) (starts : List ℕ) → starts ≡ starts_from 0 lines → line < length lines → slice_get starts (line + 1) ≡ None
    → line_start lines line + column_count lines line ≡ line_start lines (length lines) + 1
limit-none lines line starts e h is = limit-last lines line (last-line lines line starts e h is (cases_order (line + 1) (length lines)))

pub offset-no_line : (text : List ℕ) (line col : ℕ) → length (text_lines text) ≤ line → offset_of text line col ≡ Err NoLine
unfolding offset_of
offset-no_line text line col h = rw (lt-false line (length (text_lines text)) h)

pub offset-past : (text : List ℕ) (line col : ℕ) → line < length (text_lines text) → line_start (text_lines text) line + column_count (text_lines text) line ≤ line_start (text_lines text) line + col
    → offset_of text line col ≡ Err PastLine
unfolding offset_of
offset-past text line col h k =
    let past : nat_lt col (column_count (text_lines text) line) ≡ false = lt-false col (column_count (text_lines text) line) (omega (arith, k)) in
    rw (lt-true line (length (text_lines text)) h, past)

pub offset-inside : (text : List ℕ) (line col offset : ℕ) → line < length (text_lines text) → line_start (text_lines text) line + col ≡ offset
    → offset < line_start (text_lines text) line + column_count (text_lines text) line → is_inside_pair (units_of text) offset ≡ true
    → offset_of text line col ≡ Err InsidePair
unfolding offset_of
offset-inside text line col offset h sum k inside =
    let within : nat_lt col (column_count (text_lines text) line) ≡ true = lt-true col (column_count (text_lines text) line) (omega (arith, k, sum)) in
    rw (lt-true line (length (text_lines text)) h, within, sum, inside)

pub position-past : (text : List ℕ) (offset : ℕ) → length (units_of text) < offset → position_of text offset ≡ Err PastText
unfolding position_of
position-past text offset h = rw (lt-true (length (units_of text)) offset h)

pub position-inside : (text : List ℕ) (offset : ℕ) → offset ≤ length (units_of text) → is_inside_pair (units_of text) offset ≡ true → position_of text offset ≡ Err InsidePair
unfolding position_of
position-inside text offset h inside = rw (lt-false (length (units_of text)) offset h, inside)

past-cases : (xs : List ℕ) (i : ℕ) → slice_get xs i ≡ None → (i ≡ length xs) ⊎ ((i < length xs) ⊎ (length xs < i)) → length xs ≤ i
past-cases xs i e (inl same) = omega (arith, same)
past-cases xs i e (inr (inl lt)) =
    let there = slice_get-get_or xs i 0 lt in
    absurd cc
past-cases xs i e (inr (inr gt)) = omega (arith, gt)

pub past-none : (xs : List ℕ) (i : ℕ) → slice_get xs i ≡ None → length xs ≤ i
past-none xs i e = past-cases xs i e (cases_order i (length xs))

pub size-large : (text : List ℕ) → 4294967295 < length (units_of text) → in_size text ≡ Err TooLarge
unfolding in_size
size-large text h = rw (lt-true 4294967295 (length (units_of text)) h)

pub size-fits : (text : List ℕ) → length (units_of text) ≤ 4294967295 → in_size text ≡ Ok text
unfolding in_size
size-fits text h = rw (lt-false 4294967295 (length (units_of text)) h)

-- a line whose start is listed
pub there-some : (lines : List (List ℕ)) (line start : ℕ) (starts : List ℕ) → starts ≡ starts_from 0 lines → slice_get starts line ≡ Some start
    → (line < length lines) × (start ≡ line_start lines line)
there-some lines line start starts e is =
    let there : line < length lines = omega (arith, slice_get_within starts line start is, start-count lines starts e) in
    (there, sym (get_or_from_slice_get starts line start 0 is) ∙ start-at lines starts line e there)

pub within-text : (text : List ℕ) (line col : ℕ) → line < length (text_lines text) → col < column_count (text_lines text) line → line_start (text_lines text) line + col ≤ length (units_of text)
within-text text line col h k =
    let end = last-end (text_lines text) (line_start (text_lines text) line + col) line col h k refl (cases_order (line + 1) (length (text_lines text))) in
    omega (arith, end, text-whole text)
