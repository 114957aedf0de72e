-- Positions and offsets are each other's inverse.
use Rattle.std.proofs.Common.{◌≡◌, ◌↔◌, ℕ, ◌+◌, ◌-◌, ◌<◌, ◌≤◌, Bool, true, false, not, List, length}
use Rattle.std.proofs.Common.{refl, ap, arith, Result, Ok, Err, nat_lt, if◌then◌else◌, ◌⊎◌, inl}
use Rattle.std.proofs.Common.{inr}
use Rattle.std.proofs.lemmas.Bool.{cases_order}
use Rattle.oxc_sourcemap_text.specs.declared.positions.position_error.PositionError.{PositionError}
use Rattle.oxc_sourcemap_text.specs.declared.positions.position_error.PositionError.TheVariants.{PastText}
use Rattle.oxc_sourcemap_text.specs.declared.positions.position_error.PositionError.TheVariants.{NoLine}
use Rattle.oxc_sourcemap_text.specs.declared.positions.position_error.PositionError.TheVariants.{PastLine}
use Rattle.oxc_sourcemap_text.specs.declared.positions.position_error.PositionError.TheVariants.{InsidePair}
use Rattle.oxc_sourcemap_text.specs.TextLines.{units_of, text_lines}
use Rattle.oxc_sourcemap_text.specs.Positions.{line_start, column_count, is_inside_pair, line_of}
use Rattle.oxc_sourcemap_text.specs.Positions.{offset_of, position_of}
use Rattle.oxc_sourcemap_text.proofs.Starts.{starts-between, line-of, some-line, limit-last}
use Rattle.oxc_sourcemap_text.proofs.Starts.{limit-other, text-whole, lines-some}

-- An offset is at this line and column.
pub record IsAt (text : List ℕ) (offset line col : ℕ) : Type 0 where
  pub there : line < length (text_lines text)
  pub column : col < column_count (text_lines text) line
  pub apart : is_inside_pair (units_of text) offset ≡ false
  pub sum : line_start (text_lines text) line + col ≡ offset

pub lt-true : (a b : ℕ) → a < b → nat_lt a b ≡ true
lt-true a b h = grind arith

pub lt-false : (a b : ℕ) → b ≤ a → nat_lt a b ≡ false
lt-false a b h = grind arith

pub from-lt : (a b : ℕ) → nat_lt a b ≡ true → a < b
from-lt a b h = grind arith

pub from-not_lt : (a b : ℕ) → nat_lt a b ≡ false → b ≤ a
from-not_lt a b h = grind arith

pub at-offset : (text : List ℕ) (offset line col : ℕ) → IsAt text offset line col → offset_of text line col ≡ Ok offset
unfolding offset_of
at-offset text offset line col at =
    let there = lt-true _ _ at.there in
    let column = lt-true _ _ at.column in
    rw (there, column, at.sum, at.apart)

offset-tests : (text : List ℕ) (offset line col : ℕ) (a b c : Bool) → nat_lt line (length (text_lines text)) ≡ a → nat_lt col (column_count (text_lines text) line) ≡ b
    → is_inside_pair (units_of text) (line_start (text_lines text) line + col) ≡ c
    → (if not a then Err NoLine else if not b then Err PastLine else if c then Err InsidePair else Ok (line_start (text_lines text) line + col)) ≡ Ok offset → IsAt text offset line col
offset-tests text offset line col false b c p q r e = absurd cc
offset-tests text offset line col true false c p q r e = absurd cc
offset-tests text offset line col true true true p q r e = absurd cc
offset-tests text offset line col true true false p q r e =
    let sum : line_start (text_lines text) line + col ≡ offset = cc in
    record { there = from-lt _ _ p; column = from-lt _ _ q; apart = rw sum at r; sum = sum }

pub offset-at : (text : List ℕ) (offset line col : ℕ) → offset_of text line col ≡ Ok offset → IsAt text offset line col
unfolding offset_of
offset-at text offset line col e = offset-tests text offset line col _ _ _ refl refl refl e

-- where a line ends
pub last-end : (lines : List (List ℕ)) (offset line col : ℕ) → line < length lines → col < column_count lines line → line_start lines line + col ≡ offset
    → (line + 1 ≡ length lines) ⊎ ((line + 1 < length lines) ⊎ (length lines < line + 1)) → offset ≤ line_start lines (length lines)
last-end lines offset line col h k sum (inl e) = omega (arith, limit-last lines line e)
last-end lines offset line col h k sum (inr (inl lt)) = omega (arith, limit-other lines line lt, starts-between lines (line + 1) (length lines) (omega arith) (omega arith))
last-end lines offset line col h k sum (inr (inr gt)) = absurd (omega arith)

pub at-position : (text : List ℕ) (offset line col : ℕ) → IsAt text offset line col → position_of text offset ≡ Ok (line, col)
unfolding position_of
at-position text offset line col at =
    let lines = text_lines text in
    let end = last-end lines offset line col at.there at.column at.sum (cases_order (line + 1) (length lines)) in
    let within = lt-false (length (units_of text)) offset (omega (arith, end, text-whole text)) in
    let is = line-of lines offset line at.there (omega (arith, at.sum)) (λ more. omega (arith, limit-other lines line more, at.column, at.sum)) in
    let rest : offset - line_start lines line ≡ col = omega (arith, at.sum) in
    rw (within, at.apart, is, rest)

-- the column of an offset that is on a line
column-there : (lines : List (List ℕ)) (offset line : ℕ) → line < length lines → line_start lines line ≤ offset → offset ≤ line_start lines (length lines)
    → (line + 1 < length lines → offset < line_start lines (line + 1))
    → (line + 1 ≡ length lines) ⊎ ((line + 1 < length lines) ⊎ (length lines < line + 1)) → offset - line_start lines line < column_count lines line
column-there lines offset line h s e more (inl last) = omega (arith, limit-last lines line last)
column-there lines offset line h s e more (inr (inl lt)) = omega (arith, limit-other lines line lt, more lt)
column-there lines offset line h s e more (inr (inr gt)) = absurd (omega arith)

-- what the definition of an offset's position gives
pub found-at : (text : List ℕ) (offset : ℕ) → offset ≤ length (units_of text) → is_inside_pair (units_of text) offset ≡ false
    → IsAt text offset (line_of (text_lines text) offset) (offset - line_start (text_lines text) (line_of (text_lines text) offset))
found-at text offset h apart =
    let lines = text_lines text in
    let some = lines-some (units_of text) in
    let found = some-line lines offset (length lines - 1) in
    let line = found.0 in
    let there : line < length lines = omega (arith, found.1) in
    let ends : line + 1 < length lines → offset < line_start lines (line + 1) = λ more. found.3 (omega arith) in
    let is = line-of lines offset line there found.2 ends in
    let column = column-there lines offset line there found.2 (omega (arith, text-whole text)) ends (cases_order (line + 1) (length lines)) in
    rw is (record { there = there; column = column; apart = apart; sum = omega (arith, found.2) })

-- the position, by the tests on its offset
abbrev position_by : Bool → Bool → ℕ × ℕ → Result (ℕ × ℕ) PositionError
position_by past inside position = if past then Err PastText else if inside then Err InsidePair else Ok position

position-tests : (text : List ℕ) (offset line col : ℕ) (a c : Bool) → nat_lt (length (units_of text)) offset ≡ a → is_inside_pair (units_of text) offset ≡ c
    → position_by a c (line_of (text_lines text) offset, offset - line_start (text_lines text) (line_of (text_lines text) offset)) ≡ Ok (line, col)
    → IsAt text offset line col
position-tests text offset line col true c p q e = absurd cc
position-tests text offset line col false true p q e = absurd cc
position-tests text offset line col false false p q e =
    let found : ℕ × ℕ = (line_of (text_lines text) offset, offset - line_start (text_lines text) (line_of (text_lines text) offset)) in
    let given : ℕ × ℕ = (line, col) in
    let both : found ≡ given = cc in
    let is : line_of (text_lines text) offset ≡ line = ap (λ (q : ℕ × ℕ). q.0) both in
    let rest : offset - line_start (text_lines text) (line_of (text_lines text) offset) ≡ col = ap (λ (q : ℕ × ℕ). q.1) both in
    rw (rest, is) at (found-at text offset (from-not_lt _ _ p) q)

pub position-at : (text : List ℕ) (offset line col : ℕ) → position_of text offset ≡ Ok (line, col) → IsAt text offset line col
unfolding position_of
position-at text offset line col e = position-tests text offset line col _ _ refl refl e

pub inverse : (text : List ℕ) (offset line col : ℕ) → (position_of text offset ≡ Ok (line, col)) ↔ (offset_of text line col ≡ Ok offset)
inverse text offset line col =
    (λ e. at-offset text offset line col (position-at text offset line col e), λ e. at-position text offset line col (offset-at text offset line col e))
