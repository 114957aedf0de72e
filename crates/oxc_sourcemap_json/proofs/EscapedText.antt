-- The table of escapes is compared with the definition at each byte, by computing. And what a text has escaped is UTF-8.
use Rattle.std.proofs.Common.{◌≡◌, ℕ, zero, suc, ◌+◌, ◌/◌, ◌<◌, ◌≤◌, Bool, true, ◌&&◌, nat_le}
use Rattle.std.proofs.Common.{nat_lt, List, [], ◌∷◌, ◌++◌, length, get_or, take, flat_map, inl, inr}
use Rattle.std.proofs.Common.{refl, sym, ap, ap₂, ◌∙◌, subst, arith, append-nil, bytes_eq, ltb-true}
use Rattle.std.proofs.Math.Seq.{take-append-add}
use Rattle.std.specs.Int.{w64, to_le_bytes}
use Rattle.std.specs.Str.{IsUtf8}
use Rattle.std.proofs.lemmas.Bool.{leb-true, and_parts, cases_lt, cases_eq}
use Rattle.std.proofs.lemmas.Bool.Decides.{nat_tests}
use Rattle.std.proofs.lemmas.Grind.{flat_map-append}
use Rattle.std.proofs.lemmas.List.{take-append-le, length-take-le}
use Rattle.std.proofs.lemmas.Slice.Eq.{bytes_eq-Decides}
use Rattle.std.proofs.lemmas.Str.{IsUtf8-append, IsUtf8-nil, IsUtf8-encode, encode_ascii}
use Rattle.std.proofs.lemmas.Str.{inside_one}
use borrow.Rule.Slice.PartMut.{put_mid, post_of}
use lib.Utf8.{scalar, scalars, encode, encodes, low_scalar}
use Rattle.oxc_sourcemap_json.specs.JsonString.{escaped}
use Rattle.oxc_sourcemap_json.proofs.JsonString.{escaped-plain}

-- ---- the table
-- An entry has at most six bytes, and they are those of its escape: its lowest bytes, as many as its highest tells.
abbrev pub is_right : ℕ → ℕ → Bool
is_right byte entry =
    nat_le (entry / 72057594037927936) 6
    && bytes_eq (take (entry / 72057594037927936) (to_le_bytes w64 entry)) (escaped byte)

unfoldable pub are_right : ℕ → List ℕ → Bool
are_right byte [] = true
are_right byte (e ∷ es) = is_right byte e && are_right (suc byte) es

right-from : (start : ℕ) (es : List ℕ) → are_right start es ≡ true → (byte k : ℕ) → byte ≡ start + k → k < length es → is_right byte (get_or es k 0) ≡ true
unfolding are_right
right-from start [] h byte k e l = absurd (omega arith)
right-from start (x ∷ es) h byte zero e l =
    let same : start ≡ byte = omega (arith, e) in
    subst (λ b. is_right b x ≡ true) same (and_parts (is_right start x) (are_right (suc start) es) h).0
right-from start (x ∷ es) h byte (suc k) e l =
    right-from (suc start) es (and_parts (is_right start x) (are_right (suc start) es) h).1 byte k (omega (arith, e)) (omega arith)

pub right-at : (table : List ℕ) → are_right 0 table ≡ true → (byte : ℕ) → byte < length table → is_right byte (get_or table byte 0) ≡ true
right-at table h byte l = right-from 0 table h byte byte (omega arith) l

-- bytes that are written at once, of which only the first count
mid-placed : (xs ys : List ℕ) (a k n end : ℕ) → end ≡ a + n → a ≤ length xs → n ≤ length ys → take end (put_mid a k xs ys) ≡ take a xs ++ take n ys
mid-placed xs ys a k n end e h l =
    let m : end ≡ length (take a xs) + n = omega (arith, length-take-le a xs h) in
    ap (λ j. take j (put_mid a k xs ys)) m ∙ take-append-add (take a xs) (ys ++ post_of a k xs) n
    ∙ ap (λ zs. take a xs ++ zs) (take-append-le n ys (post_of a k xs) l)

-- the bytes of an entry, as the first of its eight
module _ (byte entry : ℕ) (right : is_right byte entry ≡ true) where
  pub entry-short : entry / 72057594037927936 ≤ 6
  entry-short = leb-true _ _ (and_parts _ _ right).0

  pub entry-placed : (b new : List ℕ) (at k end : ℕ) → at ≤ length b → new ≡ to_le_bytes w64 entry → end ≡ at + entry / 72057594037927936 → take end (put_mid at k b new) ≡ take at b ++ escaped byte
  entry-placed b new at k end h e f =
      let eight : length (to_le_bytes w64 entry) ≡ 8 = refl in
      mid-placed b new at k (entry / 72057594037927936) end f h (omega (arith, entry-short, ap length e, eight))
      ∙ ap (λ xs. take at b ++ xs) (ap (take (entry / 72057594037927936)) e ∙ (bytes_eq-Decides _ _).0 (and_parts _ _ right).1)

-- ---- UTF-8
pub ascii-then : (x : ℕ) (xs : List ℕ) → x < 128 → IsUtf8 xs → IsUtf8 (x ∷ xs)
ascii-then x xs small u = IsUtf8-append (x ∷ []) xs (subst IsUtf8 (encode_ascii x small) (IsUtf8-encode x (low_scalar x (omega arith)))) u

abbrev are_ascii : List ℕ → Bool
are_ascii [] = true
are_ascii (x ∷ xs) = nat_lt x 128 && are_ascii xs

utf8-are_ascii : (xs : List ℕ) → are_ascii xs ≡ true → IsUtf8 xs
utf8-are_ascii [] e = IsUtf8-nil
utf8-are_ascii (x ∷ xs) e = let p = and_parts _ _ e in ascii-then x xs (ltb-true _ _ p.0) (utf8-are_ascii xs p.1)

-- the escapes of the bytes below n are ASCII
abbrev escapes_below : ℕ → Bool
escapes_below zero = true
escapes_below (suc n) = are_ascii (escaped n) && escapes_below n

escape_below : (n : ℕ) → escapes_below n ≡ true → (x : ℕ) → x < n → are_ascii (escaped x) ≡ true
escape_below zero e x h = absurd (omega arith)
escape_below (suc n) e x h =
    let p = and_parts _ _ e in
    elim (cases_eq x n) [ inl same ↦ rw same p.0 | inr other ↦ escape_below n p.1 x (omega arith) ]

all-ascii : escapes_below 128 ≡ true
unfolding escaped
all-ascii = refl

high-plain : (x : ℕ) → 128 ≤ x → escaped x ≡ x ∷ []
high-plain x high = escaped-plain x (grind (arith, nat_tests, high))

escaped-high : (xs : List ℕ) → ((k : ℕ) → k < length xs → 128 ≤ get_or xs k 0) → flat_map escaped xs ≡ xs
escaped-high [] h = refl
escaped-high (x ∷ xs) h = ap₂ (λ (a b : List ℕ). a ++ b) (high-plain x (h 0 (omega arith))) (escaped-high xs (λ k below. h (suc k) (omega arith)))

one-char : (c : ℕ) → scalar c ≡ true → IsUtf8 (flat_map escaped (encode c))
one-char c ok = elim (cases_lt c 128) [
  | inl small ↦ rw (encode_ascii c small, append-nil) (utf8-are_ascii _ (escape_below 128 all-ascii c small))
  | inr big ↦
      let high : (k : ℕ) → k < length (encode c) → 128 ≤ get_or (encode c) k 0 = λ k below. elim (cases_lt (get_or (encode c) k 0) 128) [
        | inl low ↦ absurd (omega (arith, inside_one c [] (encode c) k (sym (append-nil _)) below low))
        | inr h ↦ h
      ] in
      subst IsUtf8 (sym (escaped-high (encode c) high)) (IsUtf8-encode c ok)
]

all-chars : (cs : List ℕ) → scalars cs ≡ true → IsUtf8 (flat_map escaped (encodes cs))
all-chars [] e = IsUtf8-nil
all-chars (c ∷ cs) e =
    let p = and_parts _ _ e in
    subst IsUtf8 (sym (flat_map-append escaped (encode c) (encodes cs))) (IsUtf8-append _ _ (one-char c p.0) (all-chars cs p.1))

pub utf8-escaped : (text : List ℕ) → IsUtf8 text → IsUtf8 (flat_map escaped text)
utf8-escaped text u = subst (λ bs. IsUtf8 (flat_map escaped bs)) u.1.1 (all-chars u.0 u.1.0)
