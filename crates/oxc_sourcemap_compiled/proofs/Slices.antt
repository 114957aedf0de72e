-- Parts of lists, and what holds of their elements.
use Rattle.std.proofs.Common.{◌≡◌, ℕ, zero, suc, ◌+◌, ◌-◌, ◌<◌, ◌≤◌, Bool, true, false, List, []}
use Rattle.std.proofs.Common.{◌∷◌, ◌++◌, take, drop, length, get_or, nat_lt, min, max}
use Rattle.std.proofs.Common.{refl, sym, ap, ◌∙◌, arith, subst, length-drop, ◌⊎◌, inl, inr}
use Rattle.std.proofs.Common.{append-nil, append_assoc, map, Bor, option_map, slice_get, Option}
use Rattle.std.proofs.Common.{Some, None, is_some}
use Rattle.std.proofs.lemmas.Bool.Decides.{nat_tests}
use Rattle.std.specs.Option.{unwrap_or}
use Rattle.oxc_sourcemap_tokens.specs.Results.{lent_item}
use Rattle.std.proofs.lemmas.List.FromFn.{map-range_with_len_more}
use Rattle.oxc_sourcemap_parts.specs.Record.{MapRecord}
use Rattle.oxc_sourcemap_compiled.specs.Compiled.{table, bytes_of, text_offset, stored_text}
use Rattle.std.proofs.lemmas.List.{take_all, get_or_append_left, get_or-append-add}
use Rattle.std.proofs.lemmas.Option.{slice_get-get_or, slice_get_past}
use Rattle.std.specs.List.{range_with_len, flat_map}
use Rattle.std.proofs.lemmas.Grind.{flat_map-append}
use Rattle.oxc_sourcemap_tokens.specs.Token.{TokenRecord, last}
use Rattle.oxc_sourcemap_parts.specs.Sorted.{are_tokens_sorted}
use Rattle.oxc_sourcemap_parts.proofs.Order.{sorted_in_order}
use Rattle.oxc_sourcemap_lookup.specs.Lookup.{lines_through}
use Rattle.oxc_sourcemap_lookup.proofs.Tables.{last_at}
use Rattle.oxc_sourcemap_lookup.proofs.LineIndices.{lines-rise}

-- what holds below a number and of it holds up to it
up-to-by : (P : ℕ → Type 0) (b : Bool) (n i : ℕ) → nat_lt i n ≡ b → ((j : ℕ) → j < n → P j) → P n → i < n + 1 → P i
up-to-by P true n i e below here lt = let less : i < n = grind (arith, e) in below i less
up-to-by P false n i e below here lt =
    let more : n ≤ i = grind (arith, e) in
    let same : n ≡ i = omega (arith, more, lt) in
    subst P same here

pub up-to : (P : ℕ → Type 0) (n i : ℕ) → ((j : ℕ) → j < n → P j) → P n → i < n + 1 → P i
up-to P n i below here lt = up-to-by P (nat_lt i n) n i refl below here lt

-- the smaller of two numbers is one of them
pub min-is : (b : Bool) (a v m : ℕ) → nat_lt v a ≡ b → m ≡ min a v → (m ≡ a) ⊎ (m ≡ v)
min-is true a v m e is =
    let lt : v < a = grind (arith, e) in
    let here : m ≡ v = omega (arith, is, lt) in
    inr here
min-is false a v m e is =
    let le : a ≤ v = grind (arith, e) in
    let here : m ≡ a = omega (arith, is, le) in
    inl here

pub max-is : (b : Bool) (a v m : ℕ) → nat_lt a v ≡ b → m ≡ max a v → (m ≡ a) ⊎ (m ≡ v)
max-is true a v m e is =
    let lt : a < v = grind (arith, e) in
    let here : m ≡ v = omega (arith, is, lt) in
    inr here
max-is false a v m e is =
    let le : v ≤ a = grind (arith, e) in
    let here : m ≡ a = omega (arith, is, le) in
    inl here

-- the part of a list that ends after this many elements, or with the list
part-by : {A : Type 0} (b : Bool) (xs : List A) (start n end : ℕ) → nat_lt (length xs) (start + n) ≡ b → end ≡ min (start + n) (length xs) → take (end - start) (drop start xs) ≡ take n (drop start xs)
part-by true xs start n end e is =
    let lt : length xs < start + n = grind (arith, e) in
    let rest = length-drop start xs in
    take_all (end - start) (drop start xs) (omega (arith, rest, is, lt)) ∙ sym (take_all n (drop start xs) (omega (arith, rest, lt)))
part-by false xs start n end e is =
    let le : start + n ≤ length xs = grind (arith, e) in
    let same : end - start ≡ n = omega (arith, is, le) in
    ap (λ m. take m (drop start xs)) same

pub part-is : {A : Type 0} (xs : List A) (start n end : ℕ) → end ≡ min (start + n) (length xs) → take (end - start) (drop start xs) ≡ take n (drop start xs)
part-is xs start n end is = part-by (nat_lt (length xs) (start + n)) xs start n end refl is

-- the last of a list with one more
pub pushed-last : {A : Type 0} (xs : List A) (x : A) (n : ℕ) (d : A) → length xs ≡ n → get_or (xs ++ x ∷ []) n d ≡ x
pushed-last xs x n d e =
    let at : n ≡ length xs + 0 = omega (arith, e) in
    ap (λ m. get_or (xs ++ x ∷ []) m d) at ∙ get_or-append-add xs (x ∷ []) 0 d

pub pushed-front : {A : Type 0} (xs : List A) (x : A) (i n : ℕ) (d : A) → length xs ≡ n → i < n → get_or (xs ++ x ∷ []) i d ≡ get_or xs i d
pushed-front xs x i n d e h = get_or_append_left xs (x ∷ []) d i (omega (arith, e, h))

-- one number more
pub range-more : (a n : ℕ) → range_with_len a (n + 1) ≡ range_with_len a n ++ (a + n) ∷ []
range-more a zero =
    let same : a ≡ a + 0 = omega arith in
    ap (λ m. m ∷ []) same
range-more a (suc n) =
    let next : suc n + 1 ≡ suc (n + 1) = omega arith in
    let last : a + 1 + n ≡ a + suc n = omega arith in
    ap (range_with_len a) next ∙ ap (λ xs. a ∷ xs) (range-more (a + 1) n ∙ ap (λ m. range_with_len (a + 1) n ++ m ∷ []) last)

pub flat_map-more : (f : ℕ → List ℕ) (n : ℕ) → flat_map f (range_with_len 0 (n + 1)) ≡ flat_map f (range_with_len 0 n) ++ f n
flat_map-more f n =
    let zero_plus : 0 + n ≡ n = omega arith in
    ap (flat_map f) (range-more 0 n ∙ ap (λ m. range_with_len 0 n ++ m ∷ []) zero_plus) ∙ flat_map-append f (range_with_len 0 n) (n ∷ []) ∙ ap (λ xs. flat_map f (range_with_len 0 n) ++ xs) (append-nil (f n))

-- a token of sorted ones is not past the last line
pub line-below : (ts : List TokenRecord) (i : ℕ) (d : TokenRecord) → are_tokens_sorted ts ≡ true → i < length ts → (get_or ts i d).dst_line < lines_through (last ts)
line-below ts i d sorted h =
    let n = length ts - 1 in
    let end = last_at ts ∙ slice_get-get_or ts n d (omega (arith, h)) in
    let through : lines_through (last ts) ≡ (get_or ts n d).dst_line + 1 = ap lines_through end in
    omega (arith, through, lines-rise ts (sorted_in_order ts sorted) i n d (omega (arith, h)) (omega (arith, h)))

-- a table of one number more
pub table-more : (f : ℕ → ℕ) (n : ℕ) → table (map f (range_with_len 0 (n + 1))) ≡ table (map f (range_with_len 0 n)) ++ bytes_of 4 (f n)
table-more f n =
    let zero_plus : 0 + n ≡ n = omega arith in
    ap table (map-range_with_len_more f 0 n n zero_plus) ∙ flat_map-append (bytes_of 4) (map f (range_with_len 0 n)) (f n ∷ []) ∙ ap (λ xs. table (map f (range_with_len 0 n)) ++ xs) (append-nil (bytes_of 4 (f n)))

-- one part appended after another
pub appended : {A : Type 0} (o p q a b : List A) → p ≡ o ++ a → q ≡ p ++ b → q ≡ o ++ (a ++ b)
appended o p q a b first second = second ∙ ap (λ xs. xs ++ b) first ∙ append_assoc o a b

-- texts begin one after the other
offsets-by : (d t : ℕ) (r : MapRecord) → text_offset r t ≤ text_offset r (t + d)
offsets-by zero t r =
    let same : t + 0 ≡ t = omega arith in
    omega (arith, ap (text_offset r) same)
offsets-by (suc d) t r =
    let next : t + suc d ≡ suc (t + d) = omega arith in
    omega (arith, offsets-by d t r, ap (text_offset r) next)

pub offsets-grow : (r : MapRecord) (t n : ℕ) → t ≤ n → text_offset r t ≤ text_offset r n
offsets-grow r t n h =
    let gap : t + (n - t) ≡ n = omega (arith, h) in
    omega (arith, offsets-by (n - t) t r, ap (text_offset r) gap)

pub offset-next : (r : MapRecord) (t : ℕ) → text_offset r (t + 1) ≡ text_offset r t + length (stored_text r t)
offset-next r t =
    let next : t + 1 ≡ suc t = omega arith in
    ap (text_offset r) next

-- what a slice lends at an index is what it has there
pub lent-at : (o : Option (Bor TokenRecord)) (xs : List TokenRecord) (j : ℕ) → is_some o ≡ nat_lt j (length xs) → ((d : TokenRecord) → unwrap_or (option_map (λ x. x.now) o) d ≡ get_or xs j d) → lent_item o ≡ slice_get xs j
lent-at None xs j e f =
    let h : length xs ≤ j = grind (arith, nat_tests, e) in
    sym (slice_get_past xs j h)
lent-at (Some x) xs j e f =
    let h : j < length xs = grind (arith, nat_tests, e) in
    ap (λ (t : TokenRecord). Some t) (f x.now) ∙ sym (slice_get-get_or xs j x.now h)
