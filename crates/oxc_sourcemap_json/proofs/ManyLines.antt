-- A text has a byte for each line before that of its last token; so what has too many lines is too long.
use Rattle.std.proofs.Common.{◌≡◌, ℕ, ◌+◌, ◌-◌, ◌≤◌, Bool, true, false, cond, ◌==◌, nat_lt, nat_le}
use Rattle.std.proofs.Common.{List, [], ◌∷◌, ◌++◌, length, replicate, Option, Some, None, Result}
use Rattle.std.proofs.Common.{Ok, Err, arith, refl, ap, subst, ◌∙◌, if◌then◌else◌, slice_get}
use Rattle.std.proofs.lemmas.Bool.Decides.{nat_tests}
use Rattle.std.proofs.lemmas.List.{length-append, length-replicate}
use Rattle.base64.proofs.RoundTrip.{length-encode_symbols}
use Rattle.base64.specs.Engines.{standard}
use Rattle.oxc_sourcemap_tokens.specs.declared.errors.error.Error.{Error}
use Rattle.oxc_sourcemap_tokens.specs.declared.errors.error.Error.TheVariants.{TooLarge}
use Rattle.oxc_sourcemap_tokens.specs.declared.token.TokenChunk.{TokenChunk}
use Rattle.oxc_sourcemap_tokens.specs.Errors.{unless}
use Rattle.oxc_sourcemap_tokens.specs.State.{State, initial}
use Rattle.oxc_sourcemap_tokens.specs.Steps.{advanced}
use Rattle.oxc_sourcemap_tokens.specs.Token.{TokenRecord, last_line}
use Rattle.oxc_sourcemap_json.specs.Shape.{◌>>=◌}
use Rattle.oxc_sourcemap_mappings.specs.Canonical.{canonical, separator, token_text}
use Rattle.oxc_sourcemap_mappings.specs.Encoding.{text_from}
use Rattle.oxc_sourcemap_mappings.specs.Faults.{◌orelse◌}
use Rattle.oxc_sourcemap_mappings.specs.ChunkTexts.{writing_fault}
use Rattle.oxc_sourcemap_mappings.proofs.Writing.{canonical-is}
use Rattle.oxc_sourcemap_parts.specs.Record.{Text, MapRecord}
use Rattle.oxc_sourcemap_json.specs.Encoded.{encoded_record}
use Rattle.oxc_sourcemap_json.specs.JsonString.{json_string}
use Rattle.oxc_sourcemap_json.specs.JsonText.{json_text, field_text, data_url, map_text, map_url}
use Rattle.oxc_sourcemap_json.specs.Within.{within, map_text_within, map_url_within}
use Rattle.oxc_sourcemap_json.specs.Within.{mappings_within, early_fault}
use Rattle.oxc_sourcemap_json.proofs.CanonicalPlain.{canonical_plain}

separator_le : (first : Bool) (s : State) (t : TokenRecord) → t.dst_line ≤ s.dst_line + length (separator first s t)
unfolding separator
separator_le first s t =
    elim (t.dst_line == s.dst_line) as (λ b. (t.dst_line == s.dst_line) ≡ b → t.dst_line ≤ s.dst_line + length {A = ℕ} (cond b (cond first [] (44 ∷ [])) (replicate (t.dst_line - s.dst_line) 59))) [
      | true ↦ (λ e. let q : t.dst_line ≡ s.dst_line = grind (arith, nat_tests) in omega arith)
      | false ↦ (λ e. omega (arith, length-replicate {A = ℕ} (t.dst_line - s.dst_line) 59))
    ] refl

token_le : (first : Bool) (s : State) (t : TokenRecord) → t.dst_line ≤ s.dst_line + length (token_text first s t)
unfolding token_text
token_le first s t = let a = separator_le first s t in simp length-append (omega arith)

lines_le : (first : Bool) (s : State) (ts : List TokenRecord) → last_line s.dst_line ts ≤ s.dst_line + length (text_from first s ts)
lines_le first s [] = omega arith
lines_le first s (t ∷ ts) =
    omega (arith, token_le first s t, lines_le false (advanced s t) ts, length-append (token_text first s t) (text_from false (advanced s t) ts))

canonical_le : (ts : List TokenRecord) → last_line 0 ts ≤ length (canonical ts)
canonical_le ts = omega (arith, ap length (canonical-is ts), lines_le true initial ts)

json_le : (r : MapRecord) → last_line 0 r.tokens ≤ length (json_text (encoded_record r))
unfolding json_text field_text json_string
json_le r =
    let plain = ap length (canonical_plain r.tokens) in
    let lines = canonical_le r.tokens in
    simp length-append (omega arith)

url_le : (text : List ℕ) → length text ≤ length (data_url text)
url_le text = let symbols = length-encode_symbols standard.encode_table text in simp length-append (omega arith)

-- what is found early is what is found of the text
early_is : (limit n : ℕ) (fault : Option Error) (text : Text) (e : Error) → n ≤ length text
    → (fault orelse (if nat_lt limit n then Some TooLarge else None)) ≡ Some e → within limit (unless fault (Ok text)) ≡ Err e
early_is limit n (Some f) text e le h = cc
early_is limit n None text e le h =
    elim (nat_lt limit n) as (λ b. nat_lt limit n ≡ b → (if b then Some TooLarge else None) ≡ Some e → within limit (Ok text) ≡ Err e) [
      | true ↦ (λ p q. let long : nat_le (length text) limit ≡ false = grind (arith, nat_tests) in rw long cc)
      | false ↦ (λ p q. cc)
    ] refl h

bind_unless : {A : Type 0} (fault : Option Error) (x : A) (f : A → Text) → (unless fault (Ok x) >>= (λ y. Ok (f y))) ≡ unless fault (Ok (f x))
bind_unless None x f = refl
bind_unless (Some e) x f = refl

text_is : (r : MapRecord) → map_text r ≡ unless (writing_fault r.tokens r.token_chunks) (Ok (json_text (encoded_record r)))
unfolding map_text
text_is r = bind_unless (writing_fault r.tokens r.token_chunks) (encoded_record r) json_text

url_is : (r : MapRecord) → map_url r ≡ unless (writing_fault r.tokens r.token_chunks) (Ok (data_url (json_text (encoded_record r))))
unfolding map_url
url_is r = ap (λ t. t >>= (λ text. Ok (data_url text))) (text_is r) ∙ bind_unless (writing_fault r.tokens r.token_chunks) (json_text (encoded_record r)) data_url

early_text : (limit : ℕ) (r : MapRecord) (e : Error) → early_fault limit r.tokens r.token_chunks ≡ Some e → map_text_within limit r ≡ Err e
early_text limit r e h = rw (text_is r) (early_is limit (last_line 0 r.tokens) (writing_fault r.tokens r.token_chunks) (json_text (encoded_record r)) e (json_le r) h)

early_url : (limit : ℕ) (r : MapRecord) (e : Error) → early_fault limit r.tokens r.token_chunks ≡ Some e → map_url_within limit r ≡ Err e
early_url limit r e h =
    let text : ℕ = length (json_text (encoded_record r)) in
    let long : last_line 0 r.tokens ≤ length (data_url (json_text (encoded_record r))) = omega (arith, json_le r, url_le (json_text (encoded_record r))) in
    rw (url_is r) (early_is limit (last_line 0 r.tokens) (writing_fault r.tokens r.token_chunks) _ e long h)

fault_of : {A : Type 0} (x : A) (fault : Option Error) (e : Error) → Err e ≡ unless fault (Ok x) → fault ≡ Some e
fault_of x None e h = cc
fault_of x (Some f) e h = let q : f ≡ e = cc in ap Some q

found_of : {A : Type 0} (x : A) (limit : ℕ) (r : MapRecord) (tokens : List TokenRecord) (chunks : Option (List TokenChunk)) (e : Error) → tokens ≡ r.tokens → chunks ≡ r.token_chunks
    → Err e ≡ unless (early_fault limit tokens chunks) (Ok x) → early_fault limit r.tokens r.token_chunks ≡ Some e
found_of x limit r tokens chunks e p q h =
    subst (λ ts. early_fault limit ts r.token_chunks ≡ Some e) p (subst (λ cs. early_fault limit tokens cs ≡ Some e) q (fault_of x (early_fault limit tokens chunks) e h))

pub told_text : {A : Type 0} (x : A) (limit : ℕ) (r : MapRecord) (tokens : List TokenRecord) (chunks : Option (List TokenChunk)) (e : Error) → tokens ≡ r.tokens → chunks ≡ r.token_chunks
    → Err e ≡ unless (early_fault limit tokens chunks) (Ok x) → map_text_within limit r ≡ Err e
told_text x limit r tokens chunks e p q h = early_text limit r e (found_of x limit r tokens chunks e p q h)

pub told_url : {A : Type 0} (x : A) (limit : ℕ) (r : MapRecord) (tokens : List TokenRecord) (chunks : Option (List TokenChunk)) (e : Error) → tokens ≡ r.tokens → chunks ≡ r.token_chunks
    → Err e ≡ unless (early_fault limit tokens chunks) (Ok x) → map_url_within limit r ≡ Err e
told_url x limit r tokens chunks e p q h = early_url limit r e (found_of x limit r tokens chunks e p q h)

pub told_mappings : {A : Type 0} (x : A) (limit : ℕ) (tokens : List TokenRecord) (chunks : Option (List TokenChunk)) (e : Error)
    → Err e ≡ unless (early_fault limit tokens chunks) (Ok x) → mappings_within limit tokens chunks ≡ Err e
told_mappings x limit tokens chunks e h =
    early_is limit (last_line 0 tokens) (writing_fault tokens chunks) (canonical tokens) e (canonical_le tokens) (fault_of x (early_fault limit tokens chunks) e h)

last_line-from : (line : ℕ) (x : TokenRecord) (ts : List TokenRecord) (t : TokenRecord) → slice_get (x ∷ ts) (length ts) ≡ Some t → last_line line (x ∷ ts) ≡ t.dst_line
last_line-from line x [] t e = let q : x ≡ t = cc in ap (λ u. u.dst_line) q
last_line-from line x (y ∷ ys) t e = last_line-from x.dst_line y ys t e

pub last_line-at : (ts : List TokenRecord) (t : TokenRecord) → slice_get ts (length ts - 1) ≡ Some t → last_line 0 ts ≡ t.dst_line
last_line-at [] t e = cc
last_line-at (x ∷ ts) t e = last_line-from 0 x ts t (ap (slice_get (x ∷ ts)) (omega arith) ∙ e)
