-- Numbers that are written as bytes, read back.
use Rattle.std.proofs.Common.{◌≡◌, ℕ, zero, suc, ◌+◌, ◌*◌, ◌/◌, ◌%◌, ◌^◌, ◌<◌, ◌≤◌, List, [], ◌∷◌}
use Rattle.std.proofs.Common.{◌++◌, length, get_or, refl, sym, ap, ◌∙◌, arith, append_assoc}
use Rattle.std.proofs.Common.{length-append}
use Rattle.std.proofs.Math.Nat.{pow-suc}
use Rattle.std.proofs.lemmas.List.{get_or_at, length_push}
use Rattle.std.proofs.lemmas.Nat.{div_below, pow-add}
use Rattle.oxc_sourcemap_compiled.specs.Numbers.{number_at}
use Rattle.oxc_sourcemap_compiled.specs.Compiled.{bytes_of, table}
use Rattle.oxc_sourcemap_compiled.proofs.Bytes.{bytes-length}
use Rattle.oxc_sourcemap_compiled.proofs.Parts.{LiesAt, lies-front, lies-next, lies-same}

read-back : (w n at : ℕ) (xs ys : List ℕ) → length xs ≡ at → n < 256 ^ w → number_at w (xs ++ (bytes_of w n ++ ys)) at ≡ n
unfolding number_at bytes_of
read-back zero n at xs ys size small = omega (arith, small)
read-back (suc w) n at xs ys size small =
    let low = n % 256 in
    let high = n / 256 in
    let rest = bytes_of w high ++ ys in
    let all = xs ++ low ∷ rest in
    let first : get_or all at 0 ≡ low = get_or_at xs low rest 0 at size in
    let longer : length (xs ++ low ∷ []) ≡ at + 1 = omega (arith, length_push xs low, size) in
    let below : high < 256 ^ w = div_below n 256 (256 ^ w) (omega arith) (omega (arith, small, pow-suc 256 w)) in
    let split : all ≡ (xs ++ low ∷ []) ++ rest = sym (append_assoc xs (low ∷ []) rest) in
    let second : number_at w all (at + 1) ≡ high = ap (λ zs. number_at w zs (at + 1)) split ∙ read-back w high (at + 1) (xs ++ low ∷ []) ys longer below in
    omega (arith, first, second)

-- a number that was written is read
pub number-read : (w n at : ℕ) (all : List ℕ) → LiesAt at (bytes_of w n) all → n < 256 ^ w → number_at w all at ≡ n
number-read w n at all h small = ap (λ xs. number_at w xs at) h.is ∙ read-back w n at h.before h.behind h.place small

-- a number, as its low bytes and its high ones
pub number-split : (w v n at : ℕ) (all : List ℕ) → w + v ≡ n → number_at n all at ≡ number_at w all at + 256 ^ w * number_at v all (at + w)
unfolding number_at
number-split zero v n at all e =
    let same : n ≡ v = omega (arith, e) in
    let here : at + 0 ≡ at = omega arith in
    let whole = ap (λ m. number_at m all at) same in
    let high = ap (number_at v all) here in
    omega (arith, whole, high)
number-split (suc w) v n at all e =
    let next : n ≡ suc (w + v) = omega (arith, e) in
    let whole = ap (λ m. number_at m all at) next in
    let more = number-split w v (w + v) (at + 1) all refl in
    let place : at + 1 + w ≡ at + suc w = omega arith in
    let high = number_at v all (at + suc w) in
    let moved = ap (λ at. 256 ^ w * number_at v all at) place in
    let factor = ap (λ p. p * high) (pow-suc 256 w) in
    omega (arith, whole, more, moved, factor)

-- bytes have eight bits
pub bytes-bits : (w : ℕ) → 256 ^ w ≡ 2 ^ (8 * w)
bytes-bits zero = refl
bytes-bits (suc w) =
    let more : 8 * w + 8 ≡ 8 * suc w = omega arith in
    pow-suc 256 w ∙ ap (λ p. p * 256) (bytes-bits w) ∙ sym (pow-add 2 (8 * w) 8) ∙ ap (λ k. 2 ^ k) more

-- ---- tables
pub table-length : (xs : List ℕ) → length (table xs) ≡ 4 * length xs
table-length [] = refl
table-length (x ∷ xs) = omega (arith, length-append (bytes_of 4 x) (table xs), bytes-length 4 x, table-length xs)

table-lies : (i at : ℕ) (xs all : List ℕ) → LiesAt at (table xs) all → i < length xs → LiesAt (at + 4 * i) (bytes_of 4 (get_or xs i 0)) all
table-lies i at [] all h lt = absurd (omega (arith, lt))
table-lies zero at (x ∷ xs) all h lt = lies-same at (at + 4 * 0) (bytes_of 4 x) all (omega arith) (lies-front at (bytes_of 4 x) (table xs) all h)
table-lies (suc i) at (x ∷ xs) all h lt =
    let more = table-lies i (at + 4) xs all (lies-next at 4 (bytes_of 4 x) (table xs) all h (bytes-length 4 x)) (omega (arith, lt)) in
    lies-same (at + 4 + 4 * i) (at + 4 * suc i) (bytes_of 4 (get_or xs i 0)) all (omega arith) more

-- an entry of a table is read
pub entry-read : (i at : ℕ) (xs all : List ℕ) → LiesAt at (table xs) all → i < length xs → get_or xs i 0 ≤ 4294967295 → number_at 4 all (at + 4 * i) ≡ get_or xs i 0
entry-read i at xs all h lt small = number-read 4 (get_or xs i 0) (at + 4 * i) all (table-lies i at xs all h lt) (omega (arith, small))
