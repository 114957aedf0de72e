-- Texts that are printed in quotes are told apart, and each tells where it ends.
use Rattle.std.proofs.Common.{◌≡◌, ℕ, zero, suc, ◌+◌, ◌*◌, ◌/◌, ◌%◌, ◌<◌, ◌≤◌, Bool, true, false}
use Rattle.std.proofs.Common.{◌&&◌, ◌⊎◌, ◌==◌, if◌then◌else◌, List, [], ◌∷◌, ◌++◌, length, get_or}
use Rattle.std.proofs.Common.{codes, IsUtf8, bytes_eq, inl, inr, refl, sym, ap, ap₂, ◌∙◌, subst}
use Rattle.std.proofs.Common.{lit<, arith, append_assoc, append-nil, true≢false}
use Rattle.std.specs.Char.{digit_char, digit_value}
use Rattle.std.specs.List.{flat_map}
use Rattle.std.specs.Str.{chars}
use Rattle.std.proofs.lemmas.Bool.{and_parts, cases_lt, cases_eq}
use Rattle.std.proofs.lemmas.Bool.Decides.{nat_tests, Decides-eqb}
use Rattle.std.proofs.lemmas.Grind.{flat_map-append}
use Rattle.std.proofs.lemmas.Slice.Eq.{bytes_eq-Decides}
use Rattle.std.proofs.lemmas.Str.{IsUtf8-encode, IsUtf8-nil, chars-nil, chars-append}
use Rattle.std.proofs.lemmas.Str.{chars_past_char, char_from_byte, digit_value-digit_char}
use Rattle.std.proofs.lemmas.Str.{encode_ascii, encode_same, inside_one}
use lib.Utf8.{scalar, scalars, encode, encodes}
use Rattle.oxc_sourcemap_parts.specs.Record.{Text}
use Rattle.oxc_sourcemap_json.specs.JsonString.{escaped, json_string}
use Rattle.oxc_sourcemap_json.proofs.JsonString.{escaped-plain}
use Rattle.oxc_sourcemap_json.proofs.EscapedText.{utf8-escaped, ascii-then}
use Rattle.sourcemap_texts.specs.Texts.{is_hidden, unicode_escape, visible_char, visible}
use Rattle.sourcemap_texts.specs.Texts.{visible_string, VisibleStringsToldApart}

-- ---- a character in quotes

-- what is printed of it
word : ℕ → Text
word c =
    if c == 34 then codes "\\\""
    else if c == 92 then codes "\\\\"
    else if c == 8 then codes "\\b"
    else if c == 9 then codes "\\t"
    else if c == 10 then codes "\\n"
    else if c == 12 then codes "\\f"
    else if c == 13 then codes "\\r"
    else visible_char c

-- the character of a short escape, by its letter
abbrev char_of : ℕ → ℕ
char_of letter =
    if letter == 34 then 34
    else if letter == 92 then 92
    else if letter == 98 then 8
    else if letter == 116 then 9
    else if letter == 110 then 10
    else if letter == 102 then 12
    else 13

-- what is printed of a character is a short escape, `\u` and four digits, or the character
record IsShort (c : ℕ) (w : Text) : Type 0 where
  letter : ℕ
  spelt : w ≡ 92 ∷ letter ∷ []
  names : c ≡ char_of letter
  no_u : (letter == 117) ≡ false

record IsLong (c : ℕ) (w : Text) : Type 0 where
  spelt : w ≡ unicode_escape c
  below : c < 65536

record IsPlain (c : ℕ) (w : Text) : Type 0 where
  spelt : w ≡ encode c
  no_quote : (c == 34) ≡ false
  no_backslash : (c == 92) ≡ false

abbrev Form : ℕ → Text → Type 0
Form c w = IsShort c w ⊎ (IsLong c w ⊎ IsPlain c w)

by_test : (c k l : ℕ) (w : Text) → k ≡ char_of l → (l == 117) ≡ false → (b : Bool) → (c == k) ≡ b → ((c == k) ≡ false → Form c w)
    → Form c (if b then 92 ∷ l ∷ [] else w)
by_test c k l w names no_u true e rest = inl (record { letter = l; spelt = refl; names = (Decides-eqb c k).0 e ∙ names; no_u = no_u })
by_test c k l w names no_u false e rest = rest e

-- a short escape, or what comes after it in the table
first : (c k l : ℕ) (w : Text) → k ≡ char_of l → (l == 117) ≡ false → ((c == k) ≡ false → Form c w) → Form c (if c == k then 92 ∷ l ∷ [] else w)
first c k l w names no_u rest = by_test c k l w names no_u (c == k) refl rest

hidden_below : (c : ℕ) → is_hidden c ≡ true → c < 65536
hidden_below c e = grind (arith, nat_tests, e)

last : (c : ℕ) (b : Bool) → is_hidden c ≡ b → (c == 34) ≡ false → (c == 92) ≡ false → Form c (if b then unicode_escape c else encode c)
last c true e q k = inr (inl (record { spelt = refl; below = hidden_below c e }))
last c false e q k = inr (inr (record { spelt = refl; no_quote = q; no_backslash = k }))

form : (c : ℕ) → Form c (word c)
unfolding word
form c =
    first c 34 34 _ refl refl λ q.
    first c 92 92 _ refl refl λ k.
    first c 8 98 _ refl refl λ _.
    first c 9 116 _ refl refl λ _.
    first c 10 110 _ refl refl λ _.
    first c 12 102 _ refl refl λ _.
    first c 13 114 _ refl refl λ _.
    last c (is_hidden c) refl q k

-- ---- the first character is the same in equal texts

moved : (v w x y r t : Text) → v ≡ x → w ≡ y → v ++ r ≡ w ++ t → x ++ r ≡ y ++ t
moved v w x y r t p q e = sym (ap (λ l. l ++ r) p) ∙ e ∙ ap (λ l. l ++ t) q

first_char : (c b : ℕ) (r t : Text) → b < 128 → encode c ++ r ≡ b ∷ t → c ≡ b
first_char c b r t small e = char_from_byte (b ∷ t) r c (sym e) small (omega arith)

no_escape : (c : ℕ) (w r t : Text) → IsPlain c w → w ++ r ≡ 92 ∷ t → ⊥
no_escape c w r t f e =
    let same : c ≡ 92 = first_char c 92 r t (lit< tt) (sym (ap (λ l. l ++ r) f.spelt) ∙ e) in
    absurd (true≢false (subst (λ n. (n == 92) ≡ false) same f.no_backslash))

heads : (a b : ℕ) (r t : Text) → a ∷ r ≡ b ∷ t → (a ≡ b) × (r ≡ t)
heads a b r t e = (cc, cc)

two_short : (c d : ℕ) (v w r t : Text) → IsShort c v → IsShort d w → v ++ r ≡ w ++ t → (c ≡ d) × (r ≡ t)
two_short c d v w r t f g e =
    let whole = moved v w _ _ r t f.spelt g.spelt e in
    let same = heads f.letter g.letter r t (heads 92 92 _ _ whole).1 in
    (f.names ∙ ap char_of same.0 ∙ sym g.names, same.1)

short_or_long : (c d : ℕ) (v w r t : Text) → IsShort c v → IsLong d w → v ++ r ≡ w ++ t → ⊥
short_or_long c d v w r t f g e =
    let whole = moved v w _ _ r t f.spelt g.spelt e in
    let same = (heads f.letter 117 r _ (heads 92 92 _ _ whole).1).0 in
    absurd (true≢false (subst (λ n. (n == 117) ≡ false) same f.no_u))

same_digit : (a b : ℕ) → digit_char (a % 16) ≡ digit_char (b % 16) → a % 16 ≡ b % 16
same_digit a b e =
    sym (digit_value-digit_char (a % 16) (omega arith)) ∙ ap digit_value e ∙ digit_value-digit_char (b % 16) (omega arith)

of_digits : (c : ℕ) → c < 65536 → c ≡ ((c / 4096 % 16 * 16 + c / 256 % 16) * 16 + c / 16 % 16) * 16 + c % 16
of_digits c below = omega arith

two_long : (c d : ℕ) (v w r t : Text) → IsLong c v → IsLong d w → v ++ r ≡ w ++ t → (c ≡ d) × (r ≡ t)
two_long c d v w r t f g e =
    let whole = moved v w _ _ r t f.spelt g.spelt e in
    let one = heads _ _ _ _ (heads 117 117 _ _ (heads 92 92 _ _ whole).1).1 in
    let two = heads _ _ _ _ one.1 in
    let three = heads _ _ _ _ two.1 in
    let four = heads _ _ _ _ three.1 in
    let a = same_digit (c / 4096) (d / 4096) one.0 in
    let b = same_digit (c / 256) (d / 256) two.0 in
    let m = same_digit (c / 16) (d / 16) three.0 in
    let n = same_digit c d four.0 in
    (of_digits c f.below ∙ rw (a, b, m, n) (sym (of_digits d g.below)), four.1)

two_forms : (c d : ℕ) (v w r t : Text) → Form c v → Form d w → v ++ r ≡ w ++ t → (c ≡ d) × (r ≡ t)
two_forms c d v w r t (inl f) (inl g) e = two_short c d v w r t f g e
two_forms c d v w r t (inl f) (inr (inl g)) e = absurd (short_or_long c d v w r t f g e)
two_forms c d v w r t (inl f) (inr (inr g)) e = absurd (no_escape d w t _ g (sym e ∙ ap (λ l. l ++ r) f.spelt))
two_forms c d v w r t (inr (inl f)) (inl g) e = absurd (short_or_long d c w v t r g f (sym e))
two_forms c d v w r t (inr (inl f)) (inr (inl g)) e = two_long c d v w r t f g e
two_forms c d v w r t (inr (inl f)) (inr (inr g)) e = absurd (no_escape d w t _ g (sym e ∙ ap (λ l. l ++ r) f.spelt))
two_forms c d v w r t (inr (inr f)) (inl g) e = absurd (no_escape c v r _ f (e ∙ ap (λ l. l ++ t) g.spelt))
two_forms c d v w r t (inr (inr f)) (inr (inl g)) e = absurd (no_escape c v r _ f (e ∙ ap (λ l. l ++ t) g.spelt))
two_forms c d v w r t (inr (inr f)) (inr (inr g)) e = encode_same c d r t (moved v w _ _ r t f.spelt g.spelt e)

same_word : (c d : ℕ) (r t : Text) → word c ++ r ≡ word d ++ t → (c ≡ d) × (r ≡ t)
same_word c d r t e = two_forms c d (word c) (word d) r t (form c) (form d) e

quote_or_not : (b : ℕ) (r t : Text) → 34 < b → b ∷ r ≡ 34 ∷ t → ⊥
quote_or_not b r t other e =
    let same = (heads b 34 r t e).0 in
    absurd (omega arith)

-- no character begins with the quote that ends the string
no_end : (c : ℕ) (w r t : Text) → Form c w → w ++ r ≡ 34 ∷ t → ⊥
no_end c w r t (inl f) e = absurd (quote_or_not 92 _ t (lit< tt) (sym (ap (λ l. l ++ r) f.spelt) ∙ e))
no_end c w r t (inr (inl f)) e = absurd (quote_or_not 92 _ t (lit< tt) (sym (ap (λ l. l ++ r) f.spelt) ∙ e))
no_end c w r t (inr (inr f)) e =
    let same : c ≡ 34 = first_char c 34 r t (lit< tt) (sym (ap (λ l. l ++ r) f.spelt) ∙ e) in
    absurd (true≢false (subst (λ n. (n == 34) ≡ false) same f.no_quote))

-- characters up to the quote
same_chars : (cs ds : List ℕ) (r t : Text) → flat_map word cs ++ 34 ∷ r ≡ flat_map word ds ++ 34 ∷ t → (cs ≡ ds) × (r ≡ t)
same_chars [] [] r t e = (refl, (heads 34 34 r t e).1)
same_chars [] (d ∷ ds) r t e = absurd (no_end d (word d) _ r (form d) (sym (append_assoc (word d) (flat_map word ds) (34 ∷ t)) ∙ sym e))
same_chars (c ∷ cs) [] r t e = absurd (no_end c (word c) _ t (form c) (sym (append_assoc (word c) (flat_map word cs) (34 ∷ r)) ∙ e))
same_chars (c ∷ cs) (d ∷ ds) r t e =
    let whole = sym (append_assoc (word c) (flat_map word cs) (34 ∷ r)) ∙ e ∙ append_assoc (word d) (flat_map word ds) (34 ∷ t) in
    let one = same_word c d _ _ whole in
    let more = same_chars cs ds r t one.1 in
    (ap (λ x. x ∷ cs) one.0 ∙ ap (λ xs. d ∷ xs) more.0, more.1)

-- ---- a string, character by character

visible-append : (xs ys : Text) → IsUtf8 xs → visible (xs ++ ys) ≡ visible xs ++ visible ys
visible-append xs ys u = ap (flat_map visible_char) (chars-append xs ys u) ∙ flat_map-append visible_char (chars xs) (chars ys)

-- ASCII, compared character by character, by computing
abbrev is_right : ℕ → Bool
is_right c = bytes_eq (visible (flat_map escaped (c ∷ []))) (word c)

abbrev are_right : ℕ → Bool
are_right zero = true
are_right (suc n) = is_right n && are_right n

right_at : (n : ℕ) → are_right n ≡ true → (c : ℕ) → c < n → is_right c ≡ true
right_at zero e c h = absurd (omega arith)
right_at (suc n) e c h =
    let both = and_parts (is_right n) (are_right n) e in
    elim (cases_eq c n) [ inl same ↦ rw same both.0 | inr other ↦ right_at n both.1 c (omega arith) ]

all_right : are_right 128 ≡ true
unfolding escaped chars encode word
all_right = refl

low_char : (c : ℕ) → c < 128 → visible (flat_map escaped (encode c)) ≡ word c
low_char c small = rw (encode_ascii c small) ((bytes_eq-Decides _ _).0 (right_at 128 all_right c small))

-- bytes past ASCII are not escaped
high_bytes : (bs : Text) → ((k : ℕ) → k < length bs → 128 ≤ get_or bs k 0) → flat_map escaped bs ≡ bs
high_bytes [] high = refl
high_bytes (b ∷ bs) high =
    let here : 128 ≤ b = high 0 (omega arith) in
    let one : escaped b ≡ b ∷ [] = escaped-plain b (grind (arith, nat_tests, here)) in
    ap₂ (λ (xs ys : Text). xs ++ ys) one (high_bytes bs (λ k below. high (suc k) (omega arith)))

all_high : (c : ℕ) → 128 ≤ c → (k : ℕ) → k < length (encode c) → 128 ≤ get_or (encode c) k 0
all_high c big k below = elim (cases_lt (get_or (encode c) k 0) 128) [
  | inl low ↦ absurd (omega (arith, inside_one c [] (encode c) k (sym (append-nil (encode c))) below low))
  | inr high ↦ high
]

far : (c k : ℕ) → 128 ≤ c → k < 128 → (c == k) ≡ false
far c k big small = grind (arith, nat_tests, big, small)

high_word : (c : ℕ) → 128 ≤ c → word c ≡ visible_char c
unfolding word
high_word c big =
    rw (far c 34 big (lit< tt), far c 92 big (lit< tt), far c 8 big (lit< tt), far c 9 big (lit< tt), far c 10 big (lit< tt), far c 12 big (lit< tt), far c 13 big (lit< tt)) refl

high_char : (c : ℕ) → scalar c ≡ true → 128 ≤ c → visible (flat_map escaped (encode c)) ≡ word c
high_char c ok big =
    ap visible (high_bytes (encode c) (all_high c big))
    ∙ ap (flat_map visible_char) (chars_past_char (encode c) [] c (IsUtf8-encode c ok) (sym (append-nil (encode c))) ∙ ap (λ cs. c ∷ cs) chars-nil)
    ∙ append-nil (visible_char c)
    ∙ sym (high_word c big)

one_char : (c : ℕ) → scalar c ≡ true → visible (flat_map escaped (encode c)) ≡ word c
one_char c ok = elim (cases_lt c 128) [ inl small ↦ low_char c small | inr big ↦ high_char c ok big ]

all_chars : (cs : List ℕ) → scalars cs ≡ true → visible (flat_map escaped (encodes cs)) ≡ flat_map word cs
all_chars [] e = ap (flat_map visible_char) chars-nil
all_chars (c ∷ cs) e =
    let both = and_parts (scalar c) (scalars cs) e in
    ap visible (flat_map-append escaped (encode c) (encodes cs))
    ∙ visible-append (flat_map escaped (encode c)) (flat_map escaped (encodes cs)) (utf8-escaped (encode c) (IsUtf8-encode c both.0))
    ∙ ap₂ (λ (xs ys : Text). xs ++ ys) (one_char c both.0) (all_chars cs both.1)

quote_alone : visible (34 ∷ []) ≡ 34 ∷ []
unfolding chars encode
quote_alone = refl

in_quotes : (text : Text) (u : IsUtf8 text) → visible_string text ≡ 34 ∷ (flat_map word u.0 ++ 34 ∷ [])
unfolding json_string
in_quotes text u =
    let inside : visible (flat_map escaped text) ≡ flat_map word u.0 = ap (λ t. visible (flat_map escaped t)) (sym u.1.1) ∙ all_chars u.0 u.1.0 in
    visible-append (34 ∷ []) (flat_map escaped text ++ 34 ∷ []) (ascii-then 34 [] (lit< tt) IsUtf8-nil)
    ∙ ap₂ (λ (xs ys : Text). xs ++ ys) quote_alone
    (visible-append (flat_map escaped text) (34 ∷ []) (utf8-escaped text u) ∙ ap₂ (λ (xs ys : Text). xs ++ ys) inside quote_alone)

-- a string with what is behind it
with_rest : (text : Text) (u : IsUtf8 text) (s : Text) → visible_string text ++ s ≡ 34 ∷ (flat_map word u.0 ++ 34 ∷ s)
with_rest text u s = ap (λ l. l ++ s) (in_quotes text u) ∙ ap (λ l. 34 ∷ l) (append_assoc (flat_map word u.0) (34 ∷ []) s)

pub told_apart : VisibleStringsToldApart
told_apart p q r s u v e =
    let whole = sym (with_rest p u r) ∙ e ∙ with_rest q v s in
    let same = same_chars u.0 v.0 r s (heads 34 34 _ _ whole).1 in
    (sym u.1.1 ∙ ap encodes same.0 ∙ v.1.1, same.1)
