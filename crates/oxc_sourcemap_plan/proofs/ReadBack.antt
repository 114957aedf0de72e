-- The law that data URLs are read back.
use Rattle.std.proofs.Common.{◌≡◌, ◌≢◌, ℕ, ◌+◌, ◌*◌, ◌/◌, ◌%◌, ◌<◌, Bool, true, false, not, ltb}
use Rattle.std.proofs.Common.{List, [], ◌∷◌, ◌++◌, ◌==◌, ◌&&◌, zero, suc, length, replicate, codes}
use Rattle.std.proofs.Common.{arith, refl, ap, ◌∙◌, Some, Ok, slice_index, ⊎_elim, subst}
use lib.Utf8.{encode, encodes, scalar, scalars, scalar_cases}
use Rattle.std.specs.List.{position_or_len, before_first, list_all, All}
use Rattle.std.specs.Str.{IsUtf8}
use Rattle.std.proofs.lemmas.Bool.{cond_both, and_parts, cases_lt}
use Rattle.std.proofs.lemmas.Bool.Decides.{nat_tests}
use Rattle.std.proofs.lemmas.List.Elements.{All-nil, All-cons, All-append, All-get_or}
use Rattle.std.proofs.lemmas.List.Folds.{list_all-append}
use Rattle.std.proofs.lemmas.List.{get_or_past}
use Rattle.std.proofs.lemmas.Str.{is_utf8-from_IsUtf8}
use Rattle.base64.specs.Engines.{standard, standard_pad_indifferent}
use Rattle.base64.specs.GeneralPurpose.{IsBytes, encode_of, decode_of}
use Rattle.base64.specs.Rfc4648.{encode_symbols, padding_len}
use Rattle.base64.proofs.EngineFacts.{decode_of-encode_of}
use Rattle.percent_encoding.specs.Percent.{percent_decode}
use Rattle.percent_encoding.proofs.PercentLemmas.{percent_decode_not_percent, percent_decode-nil}
use Rattle.oxc_sourcemap_json.specs.JsonText.{data_url, map_text, map_url}
use Rattle.oxc_sourcemap_parts.specs.Record.{Text, MapRecord}
use Rattle.oxc_sourcemap_text.specs.DataUrls.{decoded_data_url, data_text}

-- ---- texts without `#` and `%`

abbrev is_plain : ℕ → Bool
is_plain b = not (b == 35) && not (b == 37)

before_first-plain : (xs : List ℕ) → list_all is_plain xs ≡ true → before_first (λ b. b == 35) xs ≡ xs
before_first-plain [] h = refl
before_first-plain (x ∷ xs) h =
    let first : is_plain x ≡ true = (and_parts (is_plain x) (list_all is_plain xs) h).0 in
    let other : (x == 35) ≡ false = grind (arith, nat_tests) in
    let next : 1 + position_or_len (λ b. b == 35) xs ≡ suc (position_or_len (λ b. b == 35) xs) = omega arith in
    rw (other, next) (ap (λ l. x ∷ l) (before_first-plain xs ((and_parts (is_plain x) (list_all is_plain xs) h).1)))

percent_decode-plain : (xs : List ℕ) → list_all is_plain xs ≡ true → percent_decode xs ≡ xs
percent_decode-plain [] h = percent_decode-nil
percent_decode-plain (x ∷ xs) h =
    let first : is_plain x ≡ true = (and_parts (is_plain x) (list_all is_plain xs) h).0 in
    let other : x ≢ 37 = λ e. grind (arith, nat_tests) in
    percent_decode_not_percent x xs other ∙ ap (λ l. x ∷ l) (percent_decode-plain xs ((and_parts (is_plain x) (list_all is_plain xs) h).1))

-- ---- base64 is such a text

symbol-plain : (table : List ℕ) (i : ℕ) → list_all is_plain table ≡ true → is_plain (slice_index table i) ≡ true
symbol-plain [] i h = refl
symbol-plain (x ∷ xs) zero h = (and_parts (is_plain x) (list_all is_plain xs) h).0
symbol-plain (x ∷ xs) (suc i) h = symbol-plain xs i ((and_parts (is_plain x) (list_all is_plain xs) h).1)

is_symbol : (i : ℕ) → is_plain (slice_index standard.encode_table i) ≡ true
is_symbol i = symbol-plain standard.encode_table i refl

encode_symbols-plain : (m : List ℕ) → list_all is_plain (encode_symbols standard.encode_table m) ≡ true
unfolding encode_symbols
encode_symbols-plain [] = refl
encode_symbols-plain (a ∷ []) = rw (is_symbol (a / 4), is_symbol (a % 4 * 16)) refl
encode_symbols-plain (a ∷ b ∷ []) =
    rw (is_symbol (a / 4), is_symbol (a % 4 * 16 + b / 16), is_symbol (b % 16 * 4)) refl
encode_symbols-plain (a ∷ b ∷ c ∷ rest) =
    rw (is_symbol (a / 4), is_symbol (a % 4 * 16 + b / 16), is_symbol (b % 16 * 4 + c / 64), is_symbol (c % 64)) (encode_symbols-plain rest)

padding-plain : (n : ℕ) → list_all is_plain (replicate n 61) ≡ true
padding-plain zero = refl
padding-plain (suc n) = padding-plain n

base64-plain : (m : List ℕ) → list_all is_plain (encode_of standard m) ≡ true
base64-plain m =
    let padding : List ℕ = replicate (padding_len (length m)) 61 in
    list_all-append is_plain (encode_symbols standard.encode_table m) padding
    ∙ rw (encode_symbols-plain m) (padding-plain (padding_len (length m)))

-- ---- UTF-8 is bytes

abbrev IsByte : ℕ → Type 0
IsByte b = b < 256

abbrev next : ℕ → ℕ
next c = 128 + c % 64

two : (a b : ℕ) → a < 256 → b < 256 → All IsByte (a ∷ b ∷ [])
two a b f g = All-cons IsByte a (b ∷ []) f (All-cons IsByte b [] g (All-nil IsByte))

next-byte : (c : ℕ) → next c < 256
next-byte c = omega arith

encode-bytes : (c : ℕ) → scalar c ≡ true → All IsByte (encode c)
unfolding encode
encode-bytes c s =
    let small : c < 1114112 = ⊎_elim (λ h. omega (arith, h)) (λ h. omega (arith, h)) (scalar_cases c s) in
    let two_more : List ℕ = next (c / 64) ∷ next c ∷ [] in
    let are_two = two (next (c / 64)) (next c) (next-byte (c / 64)) (next-byte c) in
    cond_both (ltb c 128) (c ∷ []) _ (All IsByte)
    (λ e. let h : c < 256 = grind (arith, nat_tests) in All-cons IsByte c [] h (All-nil IsByte))
    (λ _. cond_both (ltb c 2048) ((192 + c / 64) ∷ next c ∷ []) _ (All IsByte)
    (λ e. let h : 192 + c / 64 < 256 = grind (arith, nat_tests) in two (192 + c / 64) (next c) h (next-byte c))
    (λ _. cond_both (ltb c 65536) ((224 + c / 4096) ∷ two_more) _ (All IsByte)
    (λ e. let h : 224 + c / 4096 < 256 = grind (arith, nat_tests) in All-cons IsByte (224 + c / 4096) two_more h are_two)
    (λ _. let h : 240 + c / 262144 < 256 = omega arith in
    All-cons IsByte (240 + c / 262144) (next (c / 4096) ∷ two_more) h (All-cons IsByte (next (c / 4096)) two_more (next-byte (c / 4096)) are_two))))

encodes-bytes : (cs : List ℕ) → scalars cs ≡ true → All IsByte (encodes cs)
encodes-bytes [] s = All-nil IsByte
encodes-bytes (c ∷ cs) s =
    All-append IsByte (encode c) (encodes cs) (encode-bytes c ((and_parts (scalar c) (scalars cs) s).0)) (encodes-bytes cs ((and_parts (scalar c) (scalars cs) s).1))

bytes_from_utf8 : (text : List ℕ) → IsUtf8 text → IsBytes text
bytes_from_utf8 text utf8 i =
    let all : All IsByte text = subst (All IsByte) utf8.1.1 (encodes-bytes utf8.0 utf8.1.0) in
    ⊎_elim (λ within. All-get_or IsByte text i 0 within all) (λ past. rw (get_or_past text i 0 past) (omega arith)) (cases_lt i (length text))

-- ---- the law

abbrev front : Text
front = codes "application/json;charset=utf-8;base64,"

pub texts_read_back : (text : Text) → IsUtf8 text → decoded_data_url (data_url text) ≡ Ok (Some text)
unfolding decoded_data_url data_text
texts_read_back text utf8 =
    let written = encode_of standard text in
    let plain = base64-plain text in
    let whole : list_all is_plain (front ++ written) ≡ true = plain in
    let cut : before_first (λ b. b == 35) (front ++ written) ≡ front ++ written = before_first-plain (front ++ written) whole in
    let read : decode_of standard_pad_indifferent written ≡ Ok text =
    decode_of-encode_of standard_pad_indifferent text tt (bytes_from_utf8 text utf8) in
    rw (cut, percent_decode-plain written plain, read, is_utf8-from_IsUtf8 text utf8) refl

pub maps_read_back : (r : MapRecord) (text url : Text) → IsUtf8 text → map_text r ≡ Ok text → map_url r ≡ Ok url
    → decoded_data_url url ≡ Ok (Some text)
unfolding map_url
maps_read_back r text url utf8 e f =
    let written : Ok (data_url text) ≡ Ok url = rw e at f in
    let same : data_url text ≡ url = cc in
    rw (← same) (texts_read_back text utf8)
