-- Where lines begin, and the positions that follow from it.
use Rattle.std.proofs.Common.{◌≡◌, ℕ, zero, suc, ◌+◌, ◌-◌, ◌<◌, ◌≤◌, Bool, true, false, List, []}
use Rattle.std.proofs.Common.{◌∷◌, length, take, get_or, refl, sym, ap, ◌∙◌, arith, cond, nat_le}
use Rattle.std.proofs.Common.{add-zero, ◌⊎◌, inl, inr, ◌==◌}
use Rattle.std.proofs.lemmas.Bool.{cases_order}
use Rattle.std.proofs.lemmas.Bool.Decides.{nat_tests}
use Rattle.std.proofs.lemmas.List.{take_all}
use Rattle.std.specs.List.{sum_by, count_by, range_with_len}
use Rattle.std.proofs.lemmas.List.Sums.{sum_by-cons, sum_by_more}
use Rattle.oxc_sourcemap_text.specs.TextLines.{units_of, ends_line, onto_first, lines_of}
use Rattle.oxc_sourcemap_text.specs.TextLines.{text_lines, line_at}
use Rattle.oxc_sourcemap_text.specs.Positions.{line_start, line_of, column_count}
use Rattle.oxc_sourcemap_text.specs.Scans.{starts_from}
use Rattle.oxc_sourcemap_text.proofs.Cuts.{lines-end, lines-no_end}

no-units : sum_by length (lines_of []) ≡ 0
unfolding lines_of
no-units = refl

pub le-true : (a b : ℕ) → a ≤ b → nat_le a b ≡ true
le-true a b h = grind arith

pub le-false : (a b : ℕ) → b < a → nat_le a b ≡ false
le-false a b h = grind arith

pub from-true : (a b : ℕ) → nat_le a b ≡ true → a ≤ b
from-true a b h = grind arith

pub from-false : (a b : ℕ) → nat_le a b ≡ false → b < a
from-false a b h = grind arith

pub length-starts : (offset : ℕ) (lines : List (List ℕ)) → length (starts_from offset lines) ≡ length lines
length-starts offset [] = refl
length-starts offset (line ∷ lines) = ap suc (length-starts (offset + length line) lines)

-- a start is the number of units of the lines before
pub starts-at : (offset : ℕ) (lines : List (List ℕ)) (n : ℕ) → n < length lines → get_or (starts_from offset lines) n 0 ≡ offset + line_start lines n
starts-at offset [] n h = absurd (omega (arith, h))
starts-at offset (line ∷ lines) zero h = omega arith
starts-at offset (line ∷ lines) (suc n) h =
    let rest = starts-at (offset + length line) lines n (omega arith) in
    let first = sum_by-cons length line (take n lines) in
    omega (arith, rest, first)

pub line-there : (lines : List (List ℕ)) (n : ℕ) → line_at lines n ≡ get_or lines n []
line-there [] n = refl
line-there (line ∷ lines) zero = refl
line-there (line ∷ lines) (suc n) = line-there lines n

-- the next line begins where a line ends
pub start-next : (lines : List (List ℕ)) (n : ℕ) → n < length lines → line_start lines (n + 1) ≡ line_start lines n + length (line_at lines n)
start-next lines n h = sum_by_more length lines n [] h ∙ ap (λ line. line_start lines n + length line) (sym (line-there lines n))

pub starts-rise : (lines : List (List ℕ)) (i k : ℕ) → i + k ≤ length lines → line_start lines i ≤ line_start lines (i + k)
starts-rise lines i zero h = rw add-zero (omega arith)
starts-rise lines i (suc k) h =
    let before = starts-rise lines i k (omega arith) in
    let next = start-next lines (i + k) (omega arith) in
    let same : i + suc k ≡ i + k + 1 = omega arith in
    rw same (omega (arith, before, next))

pub starts-between : (lines : List (List ℕ)) (i j : ℕ) → i ≤ j → j ≤ length lines → line_start lines i ≤ line_start lines j
starts-between lines i j h b =
    let same : i + (j - i) ≡ j = omega arith in
    rw same at (starts-rise lines i (j - i) (omega arith))

units-onto : (unit : ℕ) (lines : List (List ℕ)) → sum_by length (onto_first unit lines) ≡ sum_by length lines + 1
units-onto unit [] = refl
units-onto unit (line ∷ lines) =
    let one = sum_by-cons length (unit ∷ line) lines in
    let other = sum_by-cons length line lines in
    omega (arith, one, other)

-- the lines have all units
units-step : (unit : ℕ) (units : List ℕ) (b : Bool) → ends_line unit units ≡ b → sum_by length (lines_of units) ≡ length units → sum_by length (lines_of (unit ∷ units)) ≡ suc (length units)
units-step unit units true e rest = rw (lines-end unit units e) (omega (arith, sum_by-cons length (unit ∷ []) (lines_of units), rest))
units-step unit units false e rest = rw (lines-no_end unit units e) (omega (arith, units-onto unit (lines_of units), rest))

pub units-all : (units : List ℕ) → sum_by length (lines_of units) ≡ length units
units-all [] = no-units
units-all (unit ∷ units) = units-step unit units (ends_line unit units) refl (units-all units)

-- a test that the first n numbers of a range pass, and no other
pub count-range : (p : ℕ → Bool) (a m n : ℕ) → n ≤ m → ((k : ℕ) → a ≤ k → k < a + n → p k ≡ true) → ((k : ℕ) → a + n ≤ k → k < a + m → p k ≡ false)
    → count_by p (range_with_len a m) ≡ n
count-range p a zero n h below above = omega (arith, h)
count-range p a (suc m) zero h below above =
    let first : count_by p (a ∷ range_with_len (a + 1) m) ≡ cond (p a) 1 0 + count_by p (range_with_len (a + 1) m) = sum_by-cons (λ x. cond (p x) 1 0) a (range_with_len (a + 1) m) in
    let here : p a ≡ false = above a (omega arith) (omega arith) in
    let rest = count-range p (a + 1) m zero (omega arith) (λ k i j. absurd (omega arith)) (λ k i j. above k (omega arith) (omega arith)) in
    let one = rw here at first in
    omega (arith, one, rest)
count-range p a (suc m) (suc n) h below above =
    let first : count_by p (a ∷ range_with_len (a + 1) m) ≡ cond (p a) 1 0 + count_by p (range_with_len (a + 1) m) = sum_by-cons (λ x. cond (p x) 1 0) a (range_with_len (a + 1) m) in
    let here : p a ≡ true = below a (omega arith) (omega arith) in
    let rest = count-range p (a + 1) m n (omega arith) (λ k i j. below k (omega arith) (omega arith)) (λ k i j. above k (omega arith) (omega arith)) in
    let one = rw here at first in
    omega (arith, one, rest)

-- the line of an offset that is on this line
pub line-of : (lines : List (List ℕ)) (offset n : ℕ) → n < length lines → line_start lines n ≤ offset → (n + 1 < length lines → offset < line_start lines (n + 1)) → line_of lines offset ≡ n
line-of lines offset n h s e =
    let below : (k : ℕ) → 0 ≤ k → k < 0 + (n + 1) → nat_le (line_start lines k) offset ≡ true = λ k i j. le-true _ _ (omega (arith, starts-between lines k n (omega arith) (omega arith))) in
    let above : (k : ℕ) → 0 + (n + 1) ≤ k → k < 0 + length lines → nat_le (line_start lines k) offset ≡ false = λ k i j. le-false _ _ (omega (arith, e (omega arith), starts-between lines (n + 1) k (omega arith) (omega arith))) in
    let count = count-range (λ k. nat_le (line_start lines k) offset) 0 (length lines) (n + 1) (omega arith) below above in
    omega (arith, count)

-- a line, and where the next one begins
still-ends : (lines : List (List ℕ)) (offset m n : ℕ) → n ≤ m → (n ≡ m) ⊎ ((n < m) ⊎ (m < n)) → offset < line_start lines (m + 1) → (n < m → offset < line_start lines (n + 1)) → offset < line_start lines (n + 1)
still-ends lines offset m n h (inl e) last before = rw e last
still-ends lines offset m n h (inr (inl lt)) last before = before lt
still-ends lines offset m n h (inr (inr gt)) last before = absurd (omega (arith, h, gt))

further-line : (lines : List (List ℕ)) (offset m : ℕ) → (n : ℕ) × (n ≤ m) × (line_start lines n ≤ offset) × (n < m → offset < line_start lines (n + 1))
    → (b : Bool) → nat_le (line_start lines (m + 1)) offset ≡ b
    → (n : ℕ) × (n ≤ suc m) × (line_start lines n ≤ offset) × (n < suc m → offset < line_start lines (n + 1))
further-line lines offset m before true e = (m + 1, omega arith, from-true _ _ e, λ h. absurd (omega arith))
further-line lines offset m (n, within, begins, ends) false e =
    (n, omega arith, begins, λ h. still-ends lines offset m n within (cases_order n m) (from-false _ _ e) ends)

-- of the lines up to this one, the last that begins at an offset or before
pub some-line : (lines : List (List ℕ)) (offset m : ℕ) → (n : ℕ) × (n ≤ m) × (line_start lines n ≤ offset) × (n < m → offset < line_start lines (n + 1))
some-line lines offset zero = (0, omega arith, omega arith, λ h. absurd (omega arith))
some-line lines offset (suc m) = further-line lines offset m (some-line lines offset m) (nat_le (line_start lines (m + 1)) offset) refl

-- where the columns of a line end
pub limit-last : (lines : List (List ℕ)) (n : ℕ) → n + 1 ≡ length lines → line_start lines n + column_count lines n ≡ line_start lines (length lines) + 1
limit-last lines n e =
    let is : (n + 1 == length lines) ≡ true = grind (arith, nat_tests) in
    let next = rw e at (start-next lines n (omega arith)) in
    rw is (omega (arith, next))

pub limit-other : (lines : List (List ℕ)) (n : ℕ) → n + 1 < length lines → line_start lines n + column_count lines n ≡ line_start lines (n + 1)
limit-other lines n h =
    let is : (n + 1 == length lines) ≡ false = grind (arith, nat_tests) in
    let next = start-next lines n (omega arith) in
    rw is (omega (arith, next))

pub lines-whole : (lines : List (List ℕ)) → line_start lines (length lines) ≡ sum_by length lines
lines-whole lines = ap (sum_by length) (take_all (length lines) lines (omega arith))

pub text-whole : (text : List ℕ) → line_start (text_lines text) (length (text_lines text)) ≡ length (units_of text)
text-whole text = lines-whole (text_lines text) ∙ units-all (units_of text)

some-onto : (unit : ℕ) (lines : List (List ℕ)) → 0 < length (onto_first unit lines)
some-onto unit [] = omega arith
some-onto unit (line ∷ lines) = omega arith

some-step : (unit : ℕ) (units : List ℕ) (b : Bool) → ends_line unit units ≡ b → 0 < length (lines_of (unit ∷ units))
some-step unit units true e = rw (lines-end unit units e) (omega arith)
some-step unit units false e = rw (lines-no_end unit units e) (some-onto unit (lines_of units))

some-first : 0 < length (lines_of [])
unfolding lines_of
some-first = omega arith

-- there is a line
pub lines-some : (units : List ℕ) → 0 < length (lines_of units)
lines-some [] = some-first
lines-some (unit ∷ units) = some-step unit units (ends_line unit units) refl

onto-few : (unit : ℕ) (lines : List (List ℕ)) → 0 < length lines → length (onto_first unit lines) ≡ length lines
onto-few unit [] h = absurd (omega (arith, h))
onto-few unit (line ∷ lines) h = refl

few-step : (unit : ℕ) (units : List ℕ) (b : Bool) → ends_line unit units ≡ b → length (lines_of units) ≤ length units + 1 → length (lines_of (unit ∷ units)) ≤ suc (length units) + 1
few-step unit units true e rest = rw (lines-end unit units e) (omega (arith, rest))
few-step unit units false e rest = rw (lines-no_end unit units e) (omega (arith, rest, onto-few unit (lines_of units) (lines-some units)))

few-first : length (lines_of []) ≤ 1
unfolding lines_of
few-first = omega arith

-- at most one line more than units
pub lines-few : (units : List ℕ) → length (lines_of units) ≤ length units + 1
lines-few [] = few-first
lines-few (unit ∷ units) = few-step unit units (ends_line unit units) refl (lines-few units)
