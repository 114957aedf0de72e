-- The lines around a position.
use Rattle.std.proofs.Common.{◌≡◌, ℕ, zero, suc, ◌+◌, ◌-◌, ◌<◌, ◌≤◌, min, max, Bool, true, false}
use Rattle.std.proofs.Common.{cond}
use Rattle.std.proofs.Common.{◌==◌, List, [], ◌∷◌, ◌++◌, length}
use Rattle.std.proofs.Common.{refl}
use Rattle.std.proofs.Common.{sym, ap, ◌∙◌, arith, append_assoc, append-nil, length-append}
use Rattle.std.proofs.Common.{◌⊎◌, inl, inr}
use Rattle.std.specs.List.{filter, flat_map, range_with_len}
use Rattle.std.specs.Char.Escape.{encode_utf16}
use Rattle.std.proofs.lemmas.Grind.{flat_map-append}
use Rattle.std.proofs.lemmas.Bool.Decides.{nat_tests}
use Rattle.sourcemap_run.specs.Contexts.{blank_char, before_column, is_near, near_lines}

-- ---- lines that are near
-- the first of these numbers is near, or is not
near_by : (line around a n : ℕ) (rest : List ℕ) (b : Bool) → is_near around line a ≡ b
    → rest ≡ range_with_len (max (a + 1) (line - around)) (min (line + around + 1) (a + 1 + n) - max (a + 1) (line - around))
    → cond b (a ∷ rest) rest ≡ range_with_len (max a (line - around)) (min (line + around + 1) (a + suc n) - max a (line - around))
near_by line around a n rest true e f =
    let from : line ≤ a + around = grind (arith, nat_tests, e) in
    let to : a ≤ line + around = grind (arith, nat_tests, e) in
    let first : max a (line - around) ≡ a = omega arith in
    let next : max (a + 1) (line - around) ≡ a + 1 = omega arith in
    let count : min (line + around + 1) (a + suc n) - a ≡ suc (min (line + around + 1) (a + 1 + n) - (a + 1)) = omega arith in
    rw (first, count) (ap (λ l. a ∷ l) (f ∙ ap (λ m. range_with_len m (min (line + around + 1) (a + 1 + n) - m)) next))
near_by line around a n rest false e f = f ∙ apart line around a n (far line around a e)
  where
    far : (line around a : ℕ) → is_near around line a ≡ false → (a < line - around) ⊎ (line + around < a)
    far line around a e = grind (arith, nat_tests, e)

    apart : (line around a n : ℕ) → (a < line - around) ⊎ (line + around < a)
        → range_with_len (max (a + 1) (line - around)) (min (line + around + 1) (a + 1 + n) - max (a + 1) (line - around))
        ≡ range_with_len (max a (line - around)) (min (line + around + 1) (a + suc n) - max a (line - around))
    apart line around a n (inl before) =
        let next : max (a + 1) (line - around) ≡ max a (line - around) = omega arith in
        let all : a + 1 + n ≡ a + suc n = omega arith in
        rw (next, all)
    apart line around a n (inr behind) =
        let none : min (line + around + 1) (a + 1 + n) - max (a + 1) (line - around) ≡ 0 = omega arith in
        let never : min (line + around + 1) (a + suc n) - max a (line - around) ≡ 0 = omega arith in
        rw (none, never)

near_from : (line around a n : ℕ)
    → filter (is_near around line) (range_with_len a n) ≡ range_with_len (max a (line - around)) (min (line + around + 1) (a + n) - max a (line - around))
near_from line around a zero =
    let none : min (line + around + 1) (a + 0) - max a (line - around) ≡ 0 = omega arith in
    rw none
near_from line around a (suc n) = near_by line around a n _ _ refl (near_from line around (a + 1) n)

-- the lines that are near stand in a row
pub near_in_row : (line around count : ℕ) → near_lines around line count ≡ range_with_len (line - around) (min (line + around + 1) count - (line - around))
near_in_row line around count =
    let first : max 0 (line - around) ≡ line - around = omega arith in
    let all : 0 + count ≡ count = omega arith in
    near_from line around 0 count ∙ ap (λ n. range_with_len (max 0 (line - around)) (min (line + around + 1) n - max 0 (line - around))) all
    ∙ ap (λ m. range_with_len m (min (line + around + 1) count - m)) first

-- the first number of a row, and the others
pub next_in_row : (a b : ℕ) → a < b → range_with_len a (b - a) ≡ a ∷ range_with_len (a + 1) (b - (a + 1))
next_in_row a b lt =
    let more : b - a ≡ suc (b - (a + 1)) = omega arith in
    rw more

-- ---- characters before a column
abbrev units : List ℕ → ℕ
units cs = length (flat_map encode_utf16 cs)

units_more : (c : ℕ) (cs : List ℕ) → units (c ∷ cs) ≡ length (encode_utf16 c) + units cs
units_more c cs = length-append (encode_utf16 c) (flat_map encode_utf16 cs)

-- a character, if there are units left before the column
abbrev next_before : ℕ → ℕ → List ℕ
next_before left c = cond (left == 0) [] (c ∷ [])

more_by : (column x : ℕ) (cs : List ℕ) (c : ℕ) (b : Bool) → (column == 0) ≡ b
    → before_column (column - length (encode_utf16 x)) (cs ++ c ∷ []) ≡ before_column (column - length (encode_utf16 x)) cs ++ next_before (column - length (encode_utf16 x) - units cs) c
    → cond b [] (x ∷ before_column (column - length (encode_utf16 x)) (cs ++ c ∷ [])) ≡ cond b [] (x ∷ before_column (column - length (encode_utf16 x)) cs) ++ next_before (column - units (x ∷ cs)) c
more_by column x cs c true e h =
    let is : column ≡ 0 = grind (arith, nat_tests, e) in
    let none : column - units (x ∷ cs) ≡ 0 = omega arith in
    sym (ap (λ n. next_before n c) none)
more_by column x cs c false e h =
    let left : column - length (encode_utf16 x) - units cs ≡ column - units (x ∷ cs) = omega (arith, units_more x cs) in
    ap (λ l. x ∷ l) (h ∙ ap (λ n. before_column (column - length (encode_utf16 x)) cs ++ next_before n c) left)

more_before : (column : ℕ) (cs : List ℕ) (c : ℕ) → before_column column (cs ++ c ∷ []) ≡ before_column column cs ++ next_before (column - units cs) c
more_before column [] c =
    let all : column ≡ column - 0 = omega arith in
    ap (λ n. next_before n c) all
more_before column (x ∷ cs) c = more_by column x cs c (column == 0) refl (more_before (column - length (encode_utf16 x)) cs c)

-- what stands below one more character
blank_by : (column : ℕ) (cs : List ℕ) (c left : ℕ) (b : Bool) → left ≡ column - units cs → (left == 0) ≡ b
    → flat_map blank_char (before_column column (cs ++ c ∷ [])) ≡ flat_map blank_char (before_column column cs) ++ cond b [] (blank_char c)
blank_by column cs c left b e f =
    ap (flat_map blank_char) (more_before column cs c) ∙ flat_map-append blank_char (before_column column cs) (next_before (column - units cs) c)
    ∙ ap (λ n. flat_map blank_char (before_column column cs) ++ flat_map blank_char (next_before n c)) (sym e)
    ∙ ap (λ t. flat_map blank_char (before_column column cs) ++ t) (one b f)
  where
    one : (b : Bool) → (left == 0) ≡ b → flat_map blank_char (next_before left c) ≡ cond b [] (blank_char c)
    one true f = rw f refl
    one false f = rw f (append-nil (blank_char c))

pub blank_next : (column : ℕ) (cs : List ℕ) (c left : ℕ) (front out new : List ℕ) → left ≡ column - units cs → 0 < left
    → out ≡ front ++ flat_map blank_char (before_column column cs) → new ≡ out ++ blank_char c
    → new ≡ front ++ flat_map blank_char (before_column column (cs ++ c ∷ []))
blank_next column cs c left front out new e more so_far appends =
    let some : (left == 0) ≡ false = grind (arith, nat_tests) in
    appends ∙ ap (λ t. t ++ blank_char c) so_far ∙ append_assoc front (flat_map blank_char (before_column column cs)) (blank_char c)
    ∙ ap (λ t. front ++ t) (sym (blank_by column cs c left false e some))

pub blank_none : (column : ℕ) (cs : List ℕ) (c left : ℕ) (front out : List ℕ) → left ≡ column - units cs → left ≤ 0
    → out ≡ front ++ flat_map blank_char (before_column column cs)
    → out ≡ front ++ flat_map blank_char (before_column column (cs ++ c ∷ []))
blank_none column cs c left front out e none so_far =
    let over : (left == 0) ≡ true = grind (arith, nat_tests) in
    so_far ∙ ap (λ t. front ++ t) (sym (append-nil (flat_map blank_char (before_column column cs))))
    ∙ ap (λ t. front ++ t) (sym (blank_by column cs c left true e over))

-- the units that are left behind one more character
pub left_next : (column : ℕ) (cs : List ℕ) (c left n : ℕ) → left ≡ column - units cs → n ≡ length (encode_utf16 c) → left - n ≡ column - units (cs ++ c ∷ [])
left_next column cs c left n e size =
    let more = ap length (flat_map-append encode_utf16 cs (c ∷ [])) ∙ length-append (flat_map encode_utf16 cs) (encode_utf16 c ++ []) in
    let own = ap length (append-nil (encode_utf16 c)) in
    omega (arith, more, own)

-- ---- lines in a row are appended
pub around_at_first : (f : ℕ → List ℕ) (out : List ℕ) (line around first end count all : ℕ) → first ≡ line - around → end ≡ min (line + around + 1) count → count ≡ all
    → out ++ flat_map f (range_with_len first (end - first)) ≡ out ++ flat_map f (near_lines around line all)
around_at_first f out line around first end count all e g h =
    ap (λ ns. out ++ flat_map f ns)
    (ap (λ n. range_with_len n (end - n)) e ∙ ap (λ n. range_with_len (line - around) (n - (line - around))) (g ∙ ap (min (line + around + 1)) h) ∙ sym (near_in_row line around all))

pub around_next : (f : ℕ → List ℕ) (out new all : List ℕ) (n end : ℕ) → n < end → new ≡ out ++ f n
    → out ++ flat_map f (range_with_len n (end - n)) ≡ all → new ++ flat_map f (range_with_len (n + 1) (end - (n + 1))) ≡ all
around_next f out new all n end lt e so_far =
    ap (λ t. t ++ flat_map f (range_with_len (n + 1) (end - (n + 1)))) e ∙ append_assoc out (f n) (flat_map f (range_with_len (n + 1) (end - (n + 1))))
    ∙ ap (λ ns. out ++ flat_map f ns) (sym (next_in_row n end lt)) ∙ so_far

pub around_end : (f : ℕ → List ℕ) (out all : List ℕ) (n end : ℕ) → end ≤ n → out ++ flat_map f (range_with_len n (end - n)) ≡ all → out ≡ all
around_end f out all n end le so_far =
    let none : end - n ≡ 0 = omega arith in
    sym (append-nil out) ∙ ap (λ k. out ++ flat_map f (range_with_len n k)) (sym none) ∙ so_far
