-- Halving a line, and how many columns are then compared.
use Rattle.std.proofs.Common.{◌≡◌, refl, sym, ap, ◌∙◌, ℕ, zero, suc, ◌+◌, ◌^◌, ◌-◌, ◌/◌, ◌<◌, ◌≤◌}
use Rattle.std.proofs.Common.{true, false, List, [], ◌∷◌, length, take, drop, get_or, slice_get}
use Rattle.std.proofs.Common.{option_map, Bor, Option, Some, None, nat_cmp, nat_lt, ◌==◌, ◌≢◌}
use Rattle.std.proofs.Common.{arith, if◌then◌else◌, bit_and, Bool}
use Rattle.std.proofs.lemmas.Nat.{and-not, and_comm}
use Rattle.std.specs.Int.Bits.{and_zero_l, and_zero_r}
use Rattle.std.proofs.lemmas.List.Sums.{prefix_len-le-length, sum_by-cons}
use Rattle.std.proofs.lemmas.List.{take_all}
use Rattle.std.proofs.lemmas.Option.{slice_get_past}
use Rattle.std.specs.List.{prefix_len, last_or, count_by}
use Rattle.std.specs.Ordering.{match_ordering}
use Rattle.std.specs.declared.cmp.Ordering.{Ordering}
use Rattle.std.specs.declared.cmp.Ordering.TheVariants.{Less, Equal, Greater}
use Rattle.oxc_sourcemap_tokens.specs.Token.{TokenRecord, last}
use Rattle.oxc_sourcemap_parts.specs.Sorted.{token_column}
use Rattle.oxc_sourcemap_lookup.specs.Digits.{digits_up_to, binary_digits}
use Rattle.oxc_sourcemap_lookup.specs.Lookup.{first, at, no_column_goes_back}
use Rattle.oxc_sourcemap_lookup.proofs.Tables.{last_at}
use Rattle.oxc_sourcemap_lookup.proofs.Lookups.{walked, walked_is_at, goes_on, not_before}
use Rattle.oxc_sourcemap_lookup.proofs.Lookups.{not_before-at}

-- what a mask of all binary digits, or of none, leaves of a number
pub masked : (b : Bool) (n : ℕ) → n < 2 ^ 64 → bit_and n (if b then 18446744073709551615 else 0) ≡ (if b then n else 0)
masked true n h = and_comm n 18446744073709551615 ∙ omega (arith, and-not 64 0 n (omega arith) h, and_zero_l n)
masked false n h = and_zero_r n

half-less : (n : ℕ) → suc n / 2 ≤ n
half-less n = omega arith

-- any limit of at least the number counts all digits
digits-limits : (k m n : ℕ) → n ≤ k → n ≤ m → digits_up_to k n ≡ digits_up_to m n
digits-limits zero zero n h i = refl
digits-limits zero (suc m) zero h i = refl
digits-limits zero (suc m) (suc n) h i = absurd (omega (arith, h))
digits-limits (suc k) zero zero h i = refl
digits-limits (suc k) zero (suc n) h i = absurd (omega (arith, i))
digits-limits (suc k) (suc m) zero h i = refl
digits-limits (suc k) (suc m) (suc n) h i = ap (λ d. 1 + d) (digits-limits k m (suc n / 2) (omega (arith, h, half-less n)) (omega (arith, i, half-less n)))

pub digits-half : (n : ℕ) → 0 < n → binary_digits n ≡ 1 + binary_digits (n / 2)
digits-half zero h = absurd (omega (arith, h))
digits-half (suc n) h = ap (λ d. 1 + d) (digits-limits n (suc n / 2) (suc n / 2) (half-less n) (omega arith))

digits-grow : (k m n : ℕ) → m ≤ n → digits_up_to k m ≤ digits_up_to k n
digits-grow zero m n h = omega arith
digits-grow (suc k) zero n h = omega arith
digits-grow (suc k) (suc m) zero h = absurd (omega (arith, h))
digits-grow (suc k) (suc m) (suc n) h = omega (arith, digits-grow k (suc m / 2) (suc n / 2) (omega (arith, h)))

-- a smaller number has no more digits
pub fewer-digits : (m n : ℕ) → m ≤ n → binary_digits m ≤ binary_digits n
fewer-digits m n h = omega (arith, digits-limits m n m (omega arith) h, digits-grow n m n h)

-- a number below a power of two has at most as many digits as the exponent
pub digits-below : (d n : ℕ) → n < 2 ^ d → binary_digits n ≤ d
digits-below zero zero h = omega arith
digits-below zero (suc n) h = absurd (omega (arith, h))
digits-below (suc d) zero h = omega arith
digits-below (suc d) (suc n) h =
    let half : suc n / 2 < 2 ^ d = omega (arith, h) in
    omega (arith, digits-half (suc n) (omega arith), digits-below d (suc n / 2) half)

-- how many tokens at the front of a line are before the column
abbrev pub before : ℕ → List TokenRecord → ℕ
before col ts = prefix_len (λ t. nat_lt t.dst_col col) ts

-- a token before the column is among those at the front that are
pub before-later : (col : ℕ) (ts : List TokenRecord) (m : ℕ) (d : TokenRecord) → no_column_goes_back token_column ts ≡ true → m < length ts → (get_or ts m d).dst_col < col → m < before col ts
before-later col [] m d g h lt = absurd (omega (arith, h))
before-later col (t ∷ ts) zero d g h lt = grind (arith, lt)
before-later col (t ∷ ts) (suc m) d g h lt =
    let more = before-later col ts m d (goes_on token_column t ts g) (omega (arith, h)) lt in
    let first : t.dst_col < col = omega (arith, not_before-at token_column t ts m d (not_before token_column t ts g) (omega (arith, h)), lt) in
    grind (arith, more, first)

-- a token not before the column is not among those at the front that are
pub before-earlier : (col : ℕ) (ts : List TokenRecord) (m : ℕ) (d : TokenRecord) → m < length ts → col ≤ (get_or ts m d).dst_col → before col ts ≤ m
before-earlier col [] m d h le = absurd (omega (arith, h))
before-earlier col (t ∷ ts) zero d h le = grind (arith, le)
before-earlier col (t ∷ ts) (suc m) d h le = grind (arith, before-earlier col ts m d (omega (arith, h)) le)

pub before-all : (col : ℕ) (ts : List TokenRecord) → before col ts ≤ length ts
before-all col ts = prefix_len-le-length (λ t. nat_lt t.dst_col col) ts

-- columns go back nowhere in the front of a line either
pub front-goes_on : (m : ℕ) (ts : List TokenRecord) → no_column_goes_back token_column ts ≡ true → no_column_goes_back token_column (take m ts) ≡ true
front-goes_on zero ts g = refl
front-goes_on (suc m) [] g = refl
front-goes_on (suc zero) (t ∷ ts) g = refl
front-goes_on (suc (suc m)) (t ∷ []) g = refl
front-goes_on (suc (suc m)) (t ∷ u ∷ ts) g =
    let more = front-goes_on (suc m) (u ∷ ts) (goes_on token_column t (u ∷ ts) g) in
    grind (arith, g, more)

-- nor behind its first token
pub drop-goes_on : (ts : List TokenRecord) → no_column_goes_back token_column ts ≡ true → no_column_goes_back token_column (drop 1 ts) ≡ true
drop-goes_on [] g = g
drop-goes_on (t ∷ ts) g = goes_on token_column t ts g

pub rest-all : (ts : List TokenRecord) → take (length ts - 1) (drop 1 ts) ≡ drop 1 ts
rest-all [] = refl
rest-all (t ∷ ts) = take_all (length (t ∷ ts) - 1) ts (omega arith)

before-front-by : (b : Bool) (col m : ℕ) (t : TokenRecord) (ts : List TokenRecord) → nat_lt t.dst_col col ≡ b → before col (take m ts) ≡ (if nat_lt (before col ts) m then before col ts else m)
    → before col (take (suc m) (t ∷ ts)) ≡ (if nat_lt (before col (t ∷ ts)) (suc m) then before col (t ∷ ts) else suc m)
before-front-by true col m t ts e more = grind (arith, e, more)
before-front-by false col m t ts e more = grind (arith, e, more)

-- the tokens before the column in a part at the front of a line: all of them, or the whole part
pub before-front : (col m : ℕ) (ts : List TokenRecord) → before col (take m ts) ≡ (if nat_lt (before col ts) m then before col ts else m)
before-front col zero ts = grind (arith)
before-front col (suc m) [] = grind (arith)
before-front col (suc m) (t ∷ ts) = before-front-by (nat_lt t.dst_col col) col m t ts refl (before-front col m ts)

pub chosen : (b : Bool) (n : ℕ) → (if b then n else 0) ≤ n
chosen true n = omega arith
chosen false n = omega arith

-- one step of the halving: how many tokens are before the column, by the token in the middle
pub halved : (b : Bool) (col : ℕ) (ts : List TokenRecord) (start left half : ℕ) (d : TokenRecord) → nat_lt (get_or ts (start + left - 1) d).dst_col col ≡ b
    → 0 < left → left ≤ suc half → start + left ≤ length ts → no_column_goes_back token_column ts ≡ true
    → start ≤ before col ts → before col ts ≤ start + left + half
    → (start + (if b then left else 0) ≤ before col ts) × (before col ts ≤ start + (if b then left else 0) + half)
halved true col ts start left half d e some near within g low high =
    let lt : (get_or ts (start + left - 1) d).dst_col < col = grind (arith, e) in
    (omega (arith, before-later col ts (start + left - 1) d g (omega (arith, some, within)) lt), omega (arith, high))
halved false col ts start left half d e some near within g low high =
    let le : col ≤ (get_or ts (start + left - 1) d).dst_col = grind (arith, e) in
    (omega (arith, low), omega (arith, before-earlier col ts (start + left - 1) d (omega (arith, some, within)) le, near, some))

-- of the first token that is not before the column and the last one that is: the former if it is at the column
abbrev pub nearer : ℕ → Option TokenRecord → Option TokenRecord → Option TokenRecord
nearer col None last = last
nearer col (Some t) last = if t.dst_col == col then Some t else last

not_before-first-by : (b : Bool) (col : ℕ) (x : TokenRecord) (ts : List TokenRecord) (t : TokenRecord) → nat_lt x.dst_col col ≡ b
    → (first (drop (before col ts) ts) ≡ Some t → col ≤ t.dst_col) → first (drop (before col (x ∷ ts)) (x ∷ ts)) ≡ Some t → col ≤ t.dst_col
not_before-first-by true col x ts t lt more e =
    let n : before col (x ∷ ts) ≡ suc (before col ts) = rw lt (omega arith) in
    more (sym (ap (λ k. first (drop k (x ∷ ts))) n) ∙ e)
not_before-first-by false col x ts t lt more e =
    let n : before col (x ∷ ts) ≡ 0 = rw lt in
    let same : Some x ≡ Some t = sym (ap (λ k. first (drop k (x ∷ ts))) n) ∙ e in
    grind (arith, same, lt)

-- the first token after those before the column is not before it
not_before-first : (col : ℕ) (ts : List TokenRecord) (t : TokenRecord) → first (drop (before col ts) ts) ≡ Some t → col ≤ t.dst_col
not_before-first col [] t e = cc (e)
not_before-first col (x ∷ ts) t e = not_before-first-by (nat_lt x.dst_col col) col x ts t refl (not_before-first col ts t) e

-- the nearer of the two tokens where a line is cut at an index
abbrev pub nearer_at : ℕ → Option TokenRecord → List TokenRecord → ℕ → Option TokenRecord
nearer_at col found ts n = nearer col (first (drop n ts)) (last_or found (take n ts))

walked-by : (o : Ordering) (col : ℕ) (found : Option TokenRecord) (t : TokenRecord) (ts : List TokenRecord) → nat_cmp t.dst_col col ≡ o
    → walked col (Some t) ts ≡ nearer_at col (Some t) ts (before col ts)
    → match_ordering o (walked col (Some t) ts) (Some t) found ≡ nearer_at col found (t ∷ ts) (before col (t ∷ ts))
walked-by Less col found t ts e more =
    let lt : nat_lt t.dst_col col ≡ true = grind (arith, e) in
    let n : before col (t ∷ ts) ≡ suc (before col ts) = rw lt (omega arith) in
    more ∙ sym (ap (nearer_at col found (t ∷ ts)) n)
walked-by Equal col found t ts e more =
    let lt : nat_lt t.dst_col col ≡ false = grind (arith, e) in
    let n : before col (t ∷ ts) ≡ 0 = rw lt in
    let same : (t.dst_col == col) ≡ true = grind (arith, e) in
    sym (ap (nearer_at col found (t ∷ ts)) n ∙ rw same)
walked-by Greater col found t ts e more =
    let lt : nat_lt t.dst_col col ≡ false = grind (arith, e) in
    let n : before col (t ∷ ts) ≡ 0 = rw lt in
    let same : (t.dst_col == col) ≡ false = grind (arith, e) in
    sym (ap (nearer_at col found (t ∷ ts)) n ∙ rw same)

walked-nearer : (col : ℕ) (found : Option TokenRecord) (ts : List TokenRecord) → walked col found ts ≡ nearer_at col found ts (before col ts)
walked-nearer col found [] = refl
walked-nearer col found (t ∷ ts) = walked-by (nat_cmp t.dst_col col) col found t ts refl (walked-nearer col (Some t) ts)

-- the lookup finds the nearer of the two tokens where the line is cut at the column
pub at-nearer : (col : ℕ) (ts : List TokenRecord) (n : ℕ) → no_column_goes_back token_column ts ≡ true → n ≡ before col ts → at token_column ts col ≡ nearer_at col None ts n
at-nearer col ts n g e = sym (walked_is_at col ts g) ∙ walked-nearer col None ts ∙ sym (ap (nearer_at col None ts) e)

-- ---- the nearer token, by whether the first token of the rest is at the column
here : (col : ℕ) (t : TokenRecord) (o last : Option TokenRecord) → o ≡ Some t → t.dst_col ≡ col → nearer col o last ≡ Some t
here col t o last e h = ap (λ p. nearer col p last) e ∙ grind (arith, h)

past : (col : ℕ) (t : TokenRecord) (o last : Option TokenRecord) → o ≡ Some t → t.dst_col ≢ col → nearer col o last ≡ last
past col t o last e h = ap (λ p. nearer col p last) e ∙ grind (arith, h)

none_left : (col : ℕ) (o last : Option TokenRecord) → o ≡ None → nearer col o last ≡ last
none_left col o last e = ap (λ p. nearer col p last) e

first-drop : (ts : List TokenRecord) (n : ℕ) → first (drop n ts) ≡ slice_get ts n
first-drop [] zero = refl
first-drop [] (suc n) = refl
first-drop (t ∷ ts) zero = refl
first-drop (t ∷ ts) (suc n) = first-drop ts n

last-through : (ts : List TokenRecord) (found : Option TokenRecord) (n : ℕ) (t : TokenRecord) → slice_get ts n ≡ Some t → last_or found (take (suc n) ts) ≡ Some t
last-through [] found n t e = cc (e)
last-through (x ∷ ts) found zero t e = e
last-through (x ∷ ts) found (suc n) t e = last-through ts (Some x) n t e

nearer-through-by : (b : Bool) (col : ℕ) (ts : List TokenRecord) (n : ℕ) (t : TokenRecord) → nat_lt t.dst_col (col + 1) ≡ b → slice_get ts n ≡ Some t → col ≤ t.dst_col
    → nearer_at col None ts n ≡ last (take (n + (if b then 1 else 0)) ts)
nearer-through-by true col ts n t lt e le =
    let same : t.dst_col ≡ col = grind (arith, lt, le) in
    let next : n + 1 ≡ suc n = omega arith in
    here col t _ _ (first-drop ts n ∙ e) same ∙ sym (ap (λ k. last (take k ts)) next ∙ last-through ts None n t e)
nearer-through-by false col ts n t lt e le =
    let other : t.dst_col ≢ col = grind (arith, lt) in
    let same : n ≡ n + 0 = omega arith in
    past col t _ _ (first-drop ts n ∙ e) other ∙ ap (λ k. last (take k ts)) same

-- The nearer of the two tokens is the last of the line cut before the first token not before the column, or after that
-- token if it is at the column.
pub nearer-through : (col : ℕ) (ts : List TokenRecord) (n : ℕ) (t : TokenRecord) → slice_get ts n ≡ Some t → col ≤ t.dst_col
    → nearer_at col None ts n ≡ last (take (n + (if nat_lt t.dst_col (col + 1) then 1 else 0)) ts)
nearer-through col ts n t e le = nearer-through-by (nat_lt t.dst_col (col + 1)) col ts n t refl e le

-- the first token after those before the column, read by its index, is not before it
pub not_before-get : (col : ℕ) (ts : List TokenRecord) (n : ℕ) (t : TokenRecord) → n ≡ before col ts → slice_get ts n ≡ Some t → col ≤ t.dst_col
not_before-get col ts n t count e = not_before-first col ts t (sym (ap (λ k. first (drop k ts)) count) ∙ first-drop ts n ∙ e)

-- the nearer token, if all tokens are before the column
pub nearer-none : (col : ℕ) (ts : List TokenRecord) (n : ℕ) → slice_get ts n ≡ None → nearer_at col None ts n ≡ last (take n ts)
nearer-none col ts n e = none_left col _ _ (first-drop ts n ∙ e)

nearer-here : (col : ℕ) (ts : List TokenRecord) (n : ℕ) (t : TokenRecord) → no_column_goes_back token_column ts ≡ true → slice_get ts n ≡ Some t → n ≡ before col ts
    → at token_column ts col ≡ last (take (n + (if nat_lt t.dst_col (col + 1) then 1 else 0)) ts)
nearer-here col ts n t g here e = at-nearer col ts n g e ∙ nearer-through col ts n t here (not_before-get col ts n t e here)

nearer-end : (col : ℕ) (ts : List TokenRecord) (n : ℕ) (t : TokenRecord) → no_column_goes_back token_column ts ≡ true → n + 1 ≡ length ts → before col ts ≡ length ts → t.dst_col < col
    → at token_column ts col ≡ last (take (n + (if nat_lt t.dst_col (col + 1) then 1 else 0)) ts)
nearer-end col ts n t g end e lt =
    let all = length ts in
    let lies : nat_lt t.dst_col (col + 1) ≡ true = grind (arith, lt) in
    let same : all ≡ n + (if nat_lt t.dst_col (col + 1) then 1 else 0) = rw lies (sym end) in
    at-nearer col ts all g (sym e) ∙ nearer-none col ts all (slice_get_past ts all (omega arith)) ∙ ap (λ k. last (take k ts)) same

nearer-last-by : (a b : Bool) (col : ℕ) (ts : List TokenRecord) (n : ℕ) (t : TokenRecord) → nat_lt (before col ts) (length ts - 1) ≡ a → nat_lt t.dst_col col ≡ b
    → no_column_goes_back token_column ts ≡ true → n < length ts → get_or ts n t ≡ t → slice_get ts n ≡ Some t → n ≡ (if nat_lt (before col ts) (length ts - 1) then before col ts else length ts - 1)
    → at token_column ts col ≡ last (take (n + (if nat_lt t.dst_col (col + 1) then 1 else 0)) ts)
nearer-last-by true b col ts n t front lies g within read here e =
    nearer-here col ts n t g here (e ∙ ap (λ x. if x then before col ts else length ts - 1) front)
nearer-last-by false false col ts n t front lies g within read here e =
    let last_one : n ≡ length ts - 1 = e ∙ ap (λ x. if x then before col ts else length ts - 1) front in
    let all : length ts - 1 ≤ before col ts = grind (arith, front) in
    let le : col ≤ t.dst_col = grind (arith, lies) in
    let most = before-earlier col ts n t within (omega (arith, le, ap token_column read)) in
    nearer-here col ts n t g here (omega (arith, last_one, all, most))
nearer-last-by false true col ts n t front lies g within read here e =
    let last_one : n ≡ length ts - 1 = e ∙ ap (λ x. if x then before col ts else length ts - 1) front in
    let lt : t.dst_col < col = grind (arith, lies) in
    let more = before-later col ts n t g within (omega (arith, lt, ap token_column read)) in
    nearer-end col ts n t g (omega (arith, last_one, within)) (omega (arith, last_one, more, before-all col ts, within)) lt

-- The token found is the last of the line cut after the tokens before the column, the line's last one not counted, or after
-- one more if the next is not past the column.
pub nearer-last : (col : ℕ) (ts : List TokenRecord) (n : ℕ) (t : TokenRecord) → no_column_goes_back token_column ts ≡ true → n < length ts → get_or ts n t ≡ t → slice_get ts n ≡ Some t
    → n ≡ before col (take (length ts - 1) ts) → at token_column ts col ≡ last (take (n + (if nat_lt t.dst_col (col + 1) then 1 else 0)) ts)
nearer-last col ts n t g within read here e =
    nearer-last-by (nat_lt (before col ts) (length ts - 1)) (nat_lt t.dst_col col) col ts n t refl refl g within read here (e ∙ before-front col (length ts - 1) ts)

-- what `last` reads of the front of a line
pub read-last : (o : Option (Bor TokenRecord)) (front ts : List TokenRecord) (n : ℕ) → option_map (λ x. x.now) o ≡ slice_get front (length front - 1) → front ≡ take n ts → last (take n ts) ≡ option_map (λ x. x.now) o
read-last o front ts n e d = sym (e ∙ sym (last_at front) ∙ ap last d)

-- On a line whose columns do not go back, the tokens before a column are those at the front.
before-none : (col : ℕ) (t : TokenRecord) (ts : List TokenRecord) → col ≤ t.dst_col → no_column_goes_back token_column (t ∷ ts) ≡ true → count_by (λ u. nat_lt u.dst_col col) ts ≡ 0
before-none col t [] h g = refl
before-none col t (u ∷ ts) h g =
    let past : col ≤ u.dst_col = grind (arith, h, g) in
    let no : nat_lt u.dst_col col ≡ false = grind (arith, past) in
    let more = before-none col u ts past (goes_on token_column t (u ∷ ts) g) in
    sum_by-cons (λ u. if nat_lt u.dst_col col then 1 else 0) u ts ∙ rw (no, more) refl

before-counted_by : (b : Bool) (col : ℕ) (t : TokenRecord) (ts : List TokenRecord) → nat_lt t.dst_col col ≡ b → no_column_goes_back token_column (t ∷ ts) ≡ true
    → count_by (λ u. nat_lt u.dst_col col) ts ≡ before col ts → count_by (λ u. nat_lt u.dst_col col) (t ∷ ts) ≡ before col (t ∷ ts)
before-counted_by true col t ts is g more = sum_by-cons (λ u. if nat_lt u.dst_col col then 1 else 0) t ts ∙ rw (is, more) refl
before-counted_by false col t ts is g more =
    let none = before-none col t ts (grind (arith, is)) g in
    sum_by-cons (λ u. if nat_lt u.dst_col col then 1 else 0) t ts ∙ rw (is, none) refl

pub before-counted : (col : ℕ) (ts : List TokenRecord) → no_column_goes_back token_column ts ≡ true → count_by (λ u. nat_lt u.dst_col col) ts ≡ before col ts
before-counted col [] g = refl
before-counted col (t ∷ ts) g = before-counted_by (nat_lt t.dst_col col) col t ts refl g (before-counted col ts (goes_on token_column t ts g))
