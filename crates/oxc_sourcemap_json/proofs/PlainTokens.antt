-- What a plain text begins with, byte by byte.
use Rattle.std.proofs.Common.{◌≡◌, ◌≢◌, ◌⊎◌, inl, inr, ℕ, suc, ◌+◌, ◌-◌, ◌<◌, ◌≤◌, Bool, true}
use Rattle.std.proofs.Common.{false, cond, not, ◌||◌, ◌==◌, nat_lt, List, [], ◌∷◌, ◌++◌, length}
use Rattle.std.proofs.Common.{take, drop, get_or, Option, Some, None, refl, sym, ap, ◌∙◌, subst}
use Rattle.std.proofs.Common.{arith, lt_of_not-le}
use Rattle.std.proofs.lemmas.Bool.{eqb-true, or_cases, false≢true}
use Rattle.std.proofs.lemmas.List.{drop_more, drop_all, drop-drop, get_or_past, get_or-drop}
use Rattle.std.proofs.lemmas.List.{append_assoc, append-nil}
use Rattle.std.specs.List.{prefix_len}
use Rattle.json.specs.Token.{Token, end_object, end_array, key, string, number, null}
use Rattle.json.proofs.Found.{not_found}
use Rattle.json.specs.Text.{content, plain, prepend, short_escape}
use Rattle.json.specs.Word.{is_operator, is_space, word, after_number}
use Rattle.json.specs.Lex.{Lexeme, token, colon, operator, space, other, string_token, Mode}
use Rattle.json.specs.Lex.{between, in_string, lex_byte, lex, fresh, after_value, after_comma}
use Rattle.json.specs.Lex.{begins_colon, place_token, punctuate}
use Rattle.oxc_sourcemap_json.specs.declared.object.plain.Place.{Place}
use Rattle.oxc_sourcemap_json.specs.declared.object.plain.Place.TheVariants.{Fresh, AfterValue}
use Rattle.oxc_sourcemap_json.specs.declared.object.plain.Place.TheVariants.{AfterComma}
use Rattle.oxc_sourcemap_json.specs.PlainReader.{place_of, tokens_at, opening, is_plain, MayBegin}
use Rattle.oxc_sourcemap_json.specs.PlainReader.{MayClose, EndsValue, IsRead}

-- ---- the byte at an index

pub record AtByte (d : List ℕ) (i x : ℕ) : Type 0 where
  pub within : i < length d
  pub left : drop i d ≡ x ∷ drop (i + 1) d

pub at_byte : (d : List ℕ) (i x : ℕ) → get_or d i 32 ≡ x → x ≢ 32 → AtByte d i x
at_byte d i x is solid =
    let within : i < length d = lt_of_not-le (λ past. solid (sym is ∙ get_or_past d i 32 past)) in
    record { within = within; left = drop_more d i 32 within ∙ ap (λ y. y ∷ drop (i + 1) d) is }

-- ---- blanks

one_of : (P : ℕ → Type 0) (x c : ℕ) (b : Bool) → P c → (b ≡ true → P x) → (b ≡ true) ⊎ ((x == c) ≡ true) → P x
one_of P x c b p f (inl e) = f e
one_of P x c b p f (inr e) = subst P (sym (eqb-true x c e)) p

blank_cases : (P : ℕ → Type 0) → P 32 → P 9 → P 10 → P 13 → (x : ℕ) → is_space x ≡ true → P x
blank_cases P a b c d x is =
    one_of P x 13 _ d (λ h. one_of P x 10 _ c (λ i. one_of P x 9 _ b (λ j. subst P (sym (eqb-true x 32 j)) a) (or_cases _ _ i)) (or_cases _ _ h)) (or_cases _ _ is)

lex_blank : (x : ℕ) (xs : List ℕ) → is_space x ≡ true → lex between (x ∷ xs) ≡ lex between xs
unfolding lex
lex_blank x xs is = blank_cases (λ y. lex between (y ∷ xs) ≡ lex between xs) refl refl refl refl x is

pub blank_passed : (d : List ℕ) (i : ℕ) → i < length d → is_space (get_or d i 0) ≡ true → lex between (drop (i + 1) d) ≡ lex between (drop i d)
blank_passed d i within is = sym (ap (lex between) (drop_more d i 0 within) ∙ lex_blank _ _ is)

-- ---- plain text

tests : (a b c : Bool) → not (a || (b || c)) ≡ true → (a ≡ false) × (b ≡ false) × (c ≡ false)
tests true b c h = absurd (false≢true h)
tests false true c h = absurd (false≢true h)
tests false false true h = absurd (false≢true h)
tests false false false h = (refl, refl, refl)

plain_content : (x : ℕ) (xs : List ℕ) → is_plain x ≡ true → content plain (x ∷ xs) ≡ prepend (x ∷ []) (content plain xs)
unfolding content
plain_content x xs h = let t = tests (x == 34) (x == 92) (nat_lt x 32) h in rw (t.0, t.1, t.2)

passes : (o s : Bool) (x : ℕ) (xs : List ℕ) (k : Mode → List Lexeme) → lex_byte in_string (cond o operator (cond s space other)) x xs k ≡ k in_string
passes true s x xs k = refl
passes false true x xs k = refl
passes false false x xs k = refl

plain_lex : (x : ℕ) (xs : List ℕ) → is_plain x ≡ true → lex in_string (x ∷ xs) ≡ lex in_string xs
unfolding lex
plain_lex x xs h = let t = tests (x == 34) (x == 92) (nat_lt x 32) h in rw (t.0, t.1) (passes (is_operator x) (is_space x) x xs (λ next. lex next xs))

abbrev Read : ℕ → List ℕ → Type 0
Read n xs = (content plain xs ≡ Some (take n xs)) × (lex in_string xs ≡ lex between (drop (suc n) xs))

read_step : (b : Bool) (x n : ℕ) (xs : List ℕ) → is_plain x ≡ b → (get_or xs n 32 ≡ 34 → Read n xs) → get_or (x ∷ xs) (cond b (1 + n) 0) 32 ≡ 34 → Read (cond b (1 + n) 0) (x ∷ xs)
unfolding content lex
read_step false x n xs is later quote = subst (λ y. Read 0 (y ∷ xs)) (sym quote) (refl, refl)
read_step true x n xs is later quote =
    let next : suc n ≡ 1 + n = omega arith in
    subst (λ k. get_or (x ∷ xs) k 32 ≡ 34 → Read k (x ∷ xs)) next
    (λ here. (plain_content x xs is ∙ ap (prepend (x ∷ [])) (later here).0, plain_lex x xs is ∙ (later here).1)) quote

-- plain bytes up to a quote
text_run : (xs : List ℕ) → get_or xs (prefix_len is_plain xs) 32 ≡ 34 → Read (prefix_len is_plain xs) xs
text_run [] quote = absurd (omega (arith, quote))
text_run (x ∷ xs) quote = read_step (is_plain x) x (prefix_len is_plain xs) xs refl (text_run xs) quote

pub text_read : (d : List ℕ) (at stop : ℕ) → get_or d at 32 ≡ 34 → stop ≡ at + 1 + prefix_len is_plain (drop (at + 1) d) → get_or d stop 32 ≡ 34
    → lex between (drop at d) ≡ token (string (take (stop - (at + 1)) (drop (at + 1) d))) ∷ lex between (drop (stop + 1) d)
unfolding lex
text_read d at stop quote is end =
    let xs = drop (at + 1) d in
    let n = prefix_len is_plain xs in
    let read = text_run xs (get_or-drop (at + 1) d n 32 ∙ ap (λ k. get_or d k 32) (sym is) ∙ end) in
    let count : n ≡ stop - (at + 1) = omega (arith, is) in
    let past : at + 1 + suc n ≡ stop + 1 = omega (arith, is) in
    ap (lex between) (at_byte d at 34 quote (λ e. omega (arith, e))).left
    ∙ ap (λ o. token (string_token o) ∷ lex in_string xs) read.0
    ∙ ap (λ ls. token (string (take n xs)) ∷ ls) (read.1 ∙ ap (lex between) (drop-drop (suc n) (at + 1) d ∙ ap (λ k. drop k d) past))
    ∙ ap (λ k. token (string (take k xs)) ∷ lex between (drop (stop + 1) d)) count

-- ---- commas and colons

pub comma_passed : (d : List ℕ) (at comma_at after : ℕ) → get_or d comma_at 32 ≡ 44 → lex between (drop comma_at d) ≡ lex between (drop at d)
    → lex between (drop after d) ≡ lex between (drop (comma_at + 1) d) → tokens_at d after AfterComma ≡ tokens_at d at AfterValue
unfolding lex punctuate
comma_passed d at comma_at after is before behind =
    ap (punctuate after_comma) behind
    ∙ ap (punctuate after_value) (sym (ap (lex between) (at_byte d comma_at 44 is (λ e. omega (arith, e))).left) ∙ before)

pub opened : (d : List ℕ) (at bracket : ℕ) (place : Place) → (bracket ≡ 123) ⊎ (bracket ≡ 91) → get_or d at 32 ≡ bracket → MayBegin place
    → tokens_at d at place ≡ opening bracket ∷ tokens_at d (at + 1) Fresh
unfolding lex punctuate
opened d at bracket Fresh (inl b) is may = rw b (ap (λ t. punctuate fresh (lex between t)) (at_byte d at 123 (is ∙ b) (λ e. omega (arith, e))).left)
opened d at bracket Fresh (inr b) is may = rw b (ap (λ t. punctuate fresh (lex between t)) (at_byte d at 91 (is ∙ b) (λ e. omega (arith, e))).left)
opened d at bracket AfterComma (inl b) is may = rw b (ap (λ t. punctuate after_comma (lex between t)) (at_byte d at 123 (is ∙ b) (λ e. omega (arith, e))).left)
opened d at bracket AfterComma (inr b) is may = rw b (ap (λ t. punctuate after_comma (lex between t)) (at_byte d at 91 (is ∙ b) (λ e. omega (arith, e))).left)
opened d at bracket AfterValue b is may = absurd may

-- a bracket that closes
closed : (d : List ℕ) (at bracket : ℕ) (t : Token) (place : Place) → get_or d at 32 ≡ bracket → bracket ≢ 32 → ((xs : List ℕ) → lex between (bracket ∷ xs) ≡ token t ∷ lex between xs)
    → ((ls : List Lexeme) → punctuate (place_of place) (token t ∷ ls) ≡ t ∷ punctuate after_value ls) → tokens_at d at place ≡ t ∷ tokens_at d (at + 1) AfterValue
closed d at bracket t place is solid reads stands =
    ap (λ t. punctuate (place_of place) (lex between t)) (at_byte d at bracket is solid).left ∙ ap (punctuate (place_of place)) (reads (drop (at + 1) d)) ∙ stands (lex between (drop (at + 1) d))

object_stands : (place : Place) → MayClose place → (ls : List Lexeme) → punctuate (place_of place) (token end_object ∷ ls) ≡ end_object ∷ punctuate after_value ls
unfolding punctuate
object_stands Fresh may ls = refl
object_stands AfterValue may ls = refl
object_stands AfterComma may ls = absurd may

list_stands : (place : Place) → MayClose place → (ls : List Lexeme) → punctuate (place_of place) (token end_array ∷ ls) ≡ end_array ∷ punctuate after_value ls
unfolding punctuate
list_stands Fresh may ls = refl
list_stands AfterValue may ls = refl
list_stands AfterComma may ls = absurd may

pub object_closed : (d : List ℕ) (at : ℕ) (place : Place) → get_or d at 32 ≡ 125 → MayClose place → tokens_at d at place ≡ end_object ∷ tokens_at d (at + 1) AfterValue
unfolding lex
object_closed d at place is may = closed d at 125 end_object place is (λ e. omega (arith, e)) (λ xs. refl) (object_stands place may)

pub list_closed : (d : List ℕ) (at : ℕ) (place : Place) → get_or d at 32 ≡ 93 → MayClose place → tokens_at d at place ≡ end_array ∷ tokens_at d (at + 1) AfterValue
unfolding lex
list_closed d at place is may = closed d at 93 end_array place is (λ e. omega (arith, e)) (λ xs. refl) (list_stands place may)

key_at : (place : Place) (s : List ℕ) (ls : List Lexeme) → MayBegin place → punctuate (place_of place) (token (string s) ∷ (colon ∷ ls)) ≡ key s ∷ punctuate fresh ls
unfolding punctuate
key_at Fresh s ls may = refl
key_at AfterComma s ls may = refl
key_at AfterValue s ls may = absurd may

pub key_read : (d s : List ℕ) (at end : ℕ) (place : Place) → lex between (drop at d) ≡ token (string s) ∷ lex between (drop end d) → get_or d end 32 ≡ 58 → MayBegin place
    → tokens_at d at place ≡ key s ∷ tokens_at d (end + 1) Fresh
unfolding lex
key_read d s at end place read is may =
    ap (punctuate (place_of place)) (read ∙ ap (λ t. token (string s) ∷ lex between t) (at_byte d end 58 is (λ e. omega (arith, e))).left)
    ∙ key_at place s (lex between (drop (end + 1) d)) may

-- what ends a value is no colon
no_colon : (d : List ℕ) (i : ℕ) → EndsValue (get_or d i 32) → begins_colon (lex between (drop i d)) ≡ false
unfolding lex
no_colon d i (inl e) = ap (λ t. begins_colon (lex between t)) (at_byte d i 44 e (λ z. omega (arith, z))).left
no_colon d i (inr (inl e)) = ap (λ t. begins_colon (lex between t)) (at_byte d i 93 e (λ z. omega (arith, z))).left
no_colon d i (inr (inr e)) = ap (λ t. begins_colon (lex between t)) (at_byte d i 125 e (λ z. omega (arith, z))).left

text_at : (place : Place) (s : List ℕ) (ls : List Lexeme) → begins_colon ls ≡ false → MayBegin place → punctuate (place_of place) (token (string s) ∷ ls) ≡ string s ∷ punctuate after_value ls
unfolding punctuate
text_at Fresh s ls none may = ap (λ b. place_token fresh (string s) b (λ next. punctuate next ls)) none
text_at AfterComma s ls none may = ap (λ b. place_token after_comma (string s) b (λ next. punctuate next ls)) none
text_at AfterValue s ls none may = absurd may

pub value_read : (d s : List ℕ) (at end : ℕ) (place : Place) → lex between (drop at d) ≡ token (string s) ∷ lex between (drop end d) → EndsValue (get_or d end 32) → MayBegin place
    → tokens_at d at place ≡ string s ∷ tokens_at d end AfterValue
value_read d s at end place read ends may = ap (punctuate (place_of place)) read ∙ text_at place s (lex between (drop end d)) (no_colon d end ends) may

-- ---- words

three_lex : (y : ℕ) (ys : List ℕ) → EndsValue y → lex between (51 ∷ y ∷ ys) ≡ token (number (51 ∷ [])) ∷ lex between (y ∷ ys)
unfolding lex word after_number
three_lex y ys (inl e) =
    let one : suc (suc (length ys)) - suc (length ys) ≡ 1 = omega arith in
    subst (λ y. lex between (51 ∷ y ∷ ys) ≡ token (number (51 ∷ [])) ∷ lex between (y ∷ ys)) (sym e) (ap (λ n. token (number (take n (51 ∷ 44 ∷ ys))) ∷ lex between (44 ∷ ys)) one)
three_lex y ys (inr (inl e)) =
    let one : suc (suc (length ys)) - suc (length ys) ≡ 1 = omega arith in
    subst (λ y. lex between (51 ∷ y ∷ ys) ≡ token (number (51 ∷ [])) ∷ lex between (y ∷ ys)) (sym e) (ap (λ n. token (number (take n (51 ∷ 93 ∷ ys))) ∷ lex between (93 ∷ ys)) one)
three_lex y ys (inr (inr e)) =
    let one : suc (suc (length ys)) - suc (length ys) ≡ 1 = omega arith in
    subst (λ y. lex between (51 ∷ y ∷ ys) ≡ token (number (51 ∷ [])) ∷ lex between (y ∷ ys)) (sym e) (ap (λ n. token (number (take n (51 ∷ 125 ∷ ys))) ∷ lex between (125 ∷ ys)) one)

ends_solid : (y : ℕ) → EndsValue y → y ≢ 32
ends_solid y (inl e) z = omega (arith, e, z)
ends_solid y (inr (inl e)) z = omega (arith, e, z)
ends_solid y (inr (inr e)) z = omega (arith, e, z)

number_at : (place : Place) (s : List ℕ) (ls : List Lexeme) → MayBegin place → punctuate (place_of place) (token (number s) ∷ ls) ≡ number s ∷ punctuate after_value ls
unfolding punctuate
number_at Fresh s ls may = refl
number_at AfterComma s ls may = refl
number_at AfterValue s ls may = absurd may

pub three_read : (d : List ℕ) (at : ℕ) (place : Place) → get_or d at 32 ≡ 51 → EndsValue (get_or d (at + 1) 32) → MayBegin place
    → tokens_at d at place ≡ number (51 ∷ []) ∷ tokens_at d (at + 1) AfterValue
three_read d at place is ends may =
    let behind = (at_byte d (at + 1) _ refl (ends_solid _ ends)).left in
    ap (λ t. punctuate (place_of place) (lex between t)) ((at_byte d at 51 is (λ e. omega (arith, e))).left ∙ ap (λ t. 51 ∷ t) behind)
    ∙ ap (punctuate (place_of place)) (three_lex _ _ ends ∙ ap (λ t. token (number (51 ∷ [])) ∷ lex between t) (sym behind))
    ∙ number_at place (51 ∷ []) (lex between (drop (at + 1) d)) may

null_lex : (y : ℕ) (ys : List ℕ) → EndsValue y → lex between (110 ∷ 117 ∷ 108 ∷ 108 ∷ y ∷ ys) ≡ token null ∷ lex between (y ∷ ys)
unfolding lex word
null_lex y ys (inl e) = subst (λ y. lex between (110 ∷ 117 ∷ 108 ∷ 108 ∷ y ∷ ys) ≡ token null ∷ lex between (y ∷ ys)) (sym e) refl
null_lex y ys (inr (inl e)) = subst (λ y. lex between (110 ∷ 117 ∷ 108 ∷ 108 ∷ y ∷ ys) ≡ token null ∷ lex between (y ∷ ys)) (sym e) refl
null_lex y ys (inr (inr e)) = subst (λ y. lex between (110 ∷ 117 ∷ 108 ∷ 108 ∷ y ∷ ys) ≡ token null ∷ lex between (y ∷ ys)) (sym e) refl

null_at : (place : Place) (ls : List Lexeme) → MayBegin place → punctuate (place_of place) (token null ∷ ls) ≡ null ∷ punctuate after_value ls
unfolding punctuate
null_at Fresh ls may = refl
null_at AfterComma ls may = refl
null_at AfterValue ls may = absurd may

pub null_read : (d : List ℕ) (at : ℕ) (place : Place) → get_or d at 32 ≡ 110 → get_or d (at + 1) 32 ≡ 117 → get_or d (at + 2) 32 ≡ 108 → get_or d (at + 3) 32 ≡ 108
    → EndsValue (get_or d (at + 4) 32) → MayBegin place → tokens_at d at place ≡ null ∷ tokens_at d (at + 4) AfterValue
null_read d at place n u l m ends may =
    let more : (i j x : ℕ) → j ≡ i + 1 → get_or d i 32 ≡ x → x ≢ 32 → drop i d ≡ x ∷ drop j d = λ i j x next is solid. (at_byte d i x is solid).left ∙ ap (λ k. x ∷ drop k d) (sym next) in
    let behind = (at_byte d (at + 4) _ refl (ends_solid _ ends)).left in
    let four = more at (at + 1) 110 refl n (λ e. omega (arith, e)) ∙ ap (λ t. 110 ∷ t) (more (at + 1) (at + 2) 117 (omega arith) u (λ e. omega (arith, e))
    ∙ ap (λ t. 117 ∷ t) (more (at + 2) (at + 3) 108 (omega arith) l (λ e. omega (arith, e)) ∙ ap (λ t. 108 ∷ t) (more (at + 3) (at + 4) 108 (omega arith) m (λ e. omega (arith, e))))) in
    ap (λ t. punctuate (place_of place) (lex between t)) (four ∙ ap (λ t. 110 ∷ 117 ∷ 108 ∷ 108 ∷ t) behind)
    ∙ ap (punctuate (place_of place)) (null_lex _ _ ends ∙ ap (λ t. token null ∷ lex between t) (sym behind))
    ∙ null_at place (lex between (drop (at + 4) d)) may

-- ---- the end

pub none_left : (d : List ℕ) (at end : ℕ) → lex between (drop end d) ≡ lex between (drop at d) → length d ≤ end → tokens_at d at AfterValue ≡ []
unfolding lex punctuate
none_left d at end blanks past = ap (punctuate after_value) (sym blanks ∙ ap (lex between) (drop_all end d past))

-- ---- text with escapes

prepend-prepend : (a b : List ℕ) (r : Option (List ℕ)) → prepend a (prepend b r) ≡ prepend (a ++ b) r
prepend-prepend a b None = refl
prepend-prepend a b (Some s) = ap Some (sym (append_assoc a b s))

prepend-nil : (r : Option (List ℕ)) → r ≡ prepend [] r
prepend-nil None = refl
prepend-nil (Some s) = refl

-- Of the string at `from`, this was read up to `at`.
pub record ReadSoFar (d : List ℕ) (from : ℕ) (s : List ℕ) (at : ℕ) : Type 0 where
  pub content : content plain (drop from d) ≡ prepend s (content plain (drop at d))
  pub rest : lex in_string (drop from d) ≡ lex in_string (drop at d)

pub nothing_read : (d : List ℕ) (from : ℕ) → ReadSoFar d from [] from
nothing_read d from = record { content = prepend-nil _; rest = refl }

abbrev Passed : ℕ → List ℕ → Type 0
Passed n xs = (content plain xs ≡ prepend (take n xs) (content plain (drop n xs))) × (lex in_string xs ≡ lex in_string (drop n xs))

pass_step : (b : Bool) (x n : ℕ) (xs : List ℕ) → is_plain x ≡ b → Passed n xs → Passed (cond b (1 + n) 0) (x ∷ xs)
pass_step false x n xs is passed = (prepend-nil _, refl)
pass_step true x n xs is passed =
    let next : suc n ≡ 1 + n = omega arith in
    subst (λ k. Passed k (x ∷ xs)) next (
      plain_content x xs is ∙ ap (prepend (x ∷ [])) passed.0 ∙ prepend-prepend (x ∷ []) (take n xs) _,
      plain_lex x xs is ∙ passed.1,
    )

run_passed : (xs : List ℕ) → Passed (prefix_len is_plain xs) xs
run_passed [] = (prepend-nil _, refl)
run_passed (x ∷ xs) = pass_step (is_plain x) x (prefix_len is_plain xs) xs refl (run_passed xs)

pub run_read : (d s : List ℕ) (from at stop : ℕ) → ReadSoFar d from s at → stop ≡ at + prefix_len is_plain (drop at d) → ReadSoFar d from (s ++ take (stop - at) (drop at d)) stop
run_read d s from at stop so_far is =
    let n = prefix_len is_plain (drop at d) in
    let passed = run_passed (drop at d) in
    let count : n ≡ stop - at = omega (arith, is) in
    let left : drop n (drop at d) ≡ drop stop d = drop-drop n at d ∙ ap (λ k. drop k d) (sym is) in
    record {
      content = so_far.content ∙ ap (prepend s) (passed.0 ∙ ap (λ t. prepend (take n (drop at d)) (content plain t)) left)
          ∙ prepend-prepend s (take n (drop at d)) _ ∙ ap (λ k. prepend (s ++ take k (drop at d)) (content plain (drop stop d))) count;
      rest = so_far.rest ∙ passed.1 ∙ ap (lex in_string) left;
    }

pub quote_read : (d s : List ℕ) (from stop : ℕ) → ReadSoFar d from s stop → get_or d stop 32 ≡ 34 → IsRead d from s (stop + 1)
unfolding content lex
quote_read d s from stop so_far quote =
    let here = (at_byte d stop 34 quote (λ e. omega (arith, e))).left in (
      so_far.content ∙ ap (λ t. prepend s (content plain t)) here ∙ ap Some (append-nil s),
      so_far.rest ∙ ap (lex in_string) here,
    )

no_unicode : (b : Bool) (e c : ℕ) → (e == 117) ≡ b → short_escape e ≡ Some c → b ≡ false
unfolding short_escape
no_unicode false e c is short = refl
no_unicode true e c is short = not_found c (sym (ap short_escape (eqb-true e 117 is)) ∙ short)

escape_content : (e c : ℕ) (ys : List ℕ) → short_escape e ≡ Some c → content plain (92 ∷ e ∷ ys) ≡ prepend (c ∷ []) (content plain ys)
unfolding content
escape_content e c ys short = rw (no_unicode (e == 117) e c refl short, short)

pub escape_read : (d s : List ℕ) (from stop c : ℕ) → ReadSoFar d from s stop → get_or d stop 32 ≡ 92 → short_escape (get_or d (stop + 1) 32) ≡ Some c → stop + 1 < length d
    → ReadSoFar d from (s ++ c ∷ []) (stop + 2)
unfolding lex
escape_read d s from stop c so_far backslash short within =
    let e = get_or d (stop + 1) 32 in
    let next : stop + 1 + 1 ≡ stop + 2 = omega arith in
    let here : drop stop d ≡ 92 ∷ e ∷ drop (stop + 2) d = (at_byte d stop 92 backslash (λ z. omega (arith, z))).left ∙ ap (λ t. 92 ∷ t) (drop_more d (stop + 1) 32 within ∙ ap (λ k. e ∷ drop k d) next) in
    record {
      content = so_far.content ∙ ap (λ t. prepend s (content plain t)) here ∙ ap (prepend s) (escape_content e c (drop (stop + 2) d) short) ∙ prepend-prepend s (c ∷ []) _;
      rest = so_far.rest ∙ ap (lex in_string) here;
    }

-- an escape does not end the text
pub escape_within : (d : List ℕ) (i c : ℕ) → short_escape (get_or d i 32) ≡ Some c → i < length d
unfolding short_escape
escape_within d i c short = lt_of_not-le (λ past. not_found c (sym (ap short_escape (get_or_past d i 32 past)) ∙ short))

pub string_read : (d s : List ℕ) (at end : ℕ) → get_or d at 32 ≡ 34 → IsRead d (at + 1) s end → lex between (drop at d) ≡ token (string s) ∷ lex between (drop end d)
unfolding lex
string_read d s at end quote read =
    ap (lex between) (at_byte d at 34 quote (λ e. omega (arith, e))).left
    ∙ ap (λ o. token (string_token o) ∷ lex in_string (drop (at + 1) d)) read.0
    ∙ ap (λ ls. token (string s) ∷ ls) read.1
