-- A JSON text is found as it is: nothing is passed over in front of it, and it is no data URL.
use Rattle.std.proofs.Common.{◌≡◌, ℕ, ◌+◌, Bool, true, false, cond, ◌&&◌, nat_lt, ◌==◌, List, []}
use Rattle.std.proofs.Common.{◌∷◌, codes, arith, refl, ap, subst, ◌∙◌, Some, None, Ok, suc}
use Rattle.std.proofs.lemmas.Bool.Decides.{nat_tests}
use Rattle.std.specs.List.{position_or_len, before_first}
use Rattle.std.specs.Char.{to_ascii_lowercase}
use Rattle.std.specs.Str.{str_eq_ignore_ascii_case}
use Rattle.json.specs.Lex.{lex, punctuate}
use Rattle.json.specs.Word.{word, after_number}
use Rattle.json.specs.Json.{value}
use Rattle.serde_json.specs.Data.{Data}
use Rattle.serde_json.specs.Read.{read}
use Rattle.oxc_sourcemap_parts.specs.Record.{Text}
use Rattle.oxc_sourcemap_text.specs.DataUrls.{has_byte, has_data_scheme, decoded_data_url}
use Rattle.oxc_sourcemap_found.specs.Opening.{opened, as_given, without_mark, without_prefix}
use Rattle.oxc_sourcemap_found.specs.Opening.{with_data, behind_url, or_no_data}

-- no JSON text begins with this byte
abbrev BeginsNone : ℕ → Type 0
BeginsNone k = (bs : List ℕ) → read (k ∷ bs) ≡ None

mark-begins-none : BeginsNone 239
unfolding lex punctuate word after_number value
mark-begins-none bs = refl

prefix-begins-none : BeginsNone 41
unfolding lex punctuate word after_number value
prefix-begins-none bs = refl

lower-begins-none : BeginsNone 100
unfolding lex punctuate word after_number value
lower-begins-none bs = refl

upper-begins-none : BeginsNone 68
unfolding lex punctuate word after_number value
upper-begins-none bs = refl

-- so a JSON text begins with another one
begins-not : (t : Bool) (k b : ℕ) (bs : List ℕ) (d : Data) → (k == b) ≡ t → BeginsNone k → read (b ∷ bs) ≡ Some d → t ≡ false
begins-not false k b bs d is none e = refl
begins-not true k b bs d is none e =
    let same : b ≡ k = grind (arith, nat_tests) in
    let first : read (k ∷ bs) ≡ Some d = subst (λ c. read (c ∷ bs) ≡ Some d) same e in
    let nothing = none bs in
    cc

-- ---- data URLs

and-false : (b : Bool) → (b && false) ≡ false
and-false true = refl
and-false false = refl

lower-of : (t u : Bool) (b : ℕ) → nat_lt b 65 ≡ t → nat_lt b 91 ≡ u → (100 == b) ≡ false → (68 == b) ≡ false → (cond t b (cond u (b + 32) b) == 100) ≡ false
lower-of true u b s k lower upper = grind (arith, nat_tests)
lower-of false true b s k lower upper = grind (arith, nat_tests)
lower-of false false b s k lower upper = grind (arith, nat_tests)

begins-other : (c : Bool) (b : ℕ) (bs : List ℕ) → (b == 58) ≡ c → (to_ascii_lowercase b == 100) ≡ false
    → str_eq_ignore_ascii_case (before_first (λ b. b == 58) (b ∷ bs)) (codes "data") ≡ false
begins-other true b bs colon other = rw colon refl
begins-other false b bs colon other =
    let next : 1 + position_or_len (λ b. b == 58) bs ≡ suc (position_or_len (λ b. b == 58) bs) = omega arith in
    rw (colon, next, other) refl

no-data : (b : ℕ) (bs : List ℕ) → (100 == b) ≡ false → (68 == b) ≡ false → decoded_data_url (b ∷ bs) ≡ Ok None
unfolding decoded_data_url
no-data b bs lower upper =
    let other = begins-other (b == 58) b bs refl (lower-of (nat_lt b 65) (nat_lt b 91) b refl refl lower upper) in
    let none : has_data_scheme (b ∷ bs) ≡ false = rw other (and-false (has_byte 58 (b ∷ bs))) in
    rw none refl

-- ---- the text

opened-other : (b : ℕ) (bs : List ℕ) → (239 == b) ≡ false → (41 == b) ≡ false → (100 == b) ≡ false → (68 == b) ≡ false → opened (b ∷ bs) ≡ as_given (b ∷ bs)
unfolding opened
opened-other b bs mark prefix lower upper =
    let given = as_given (b ∷ bs) in
    let marked : without_mark given ≡ given = rw mark refl in
    let prefixed : without_prefix given ≡ given = rw prefix refl in
    let no_url : with_data given ≡ given = ap (λ r. behind_url given (or_no_data r)) (no-data b bs lower upper) in
    ap (λ o. with_data (without_prefix o)) marked ∙ ap with_data prefixed ∙ no_url

opened-nothing : opened [] ≡ as_given []
unfolding opened decoded_data_url
opened-nothing = refl

pub opened-json : (text : Text) (d : Data) → read text ≡ Some d → opened text ≡ as_given text
opened-json [] d e = opened-nothing
opened-json (b ∷ bs) d e =
    opened-other b bs (begins-not _ 239 b bs d refl mark-begins-none e) (begins-not _ 41 b bs d refl prefix-begins-none e)
    (begins-not _ 100 b bs d refl lower-begins-none e) (begins-not _ 68 b bs d refl upper-begins-none e)
