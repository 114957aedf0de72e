-- The tokens of a map that was read, as its mappings text has them.
use Rattle.std.proofs.Common.{◌≡◌, true, false, nat_lt, List, [], ◌∷◌, length, refl, ap, arith}
use Rattle.std.proofs.Common.{Option, Some, None, Result, Ok, Err}
use Rattle.std.proofs.lemmas.Bool.{and_parts}
use Rattle.std.proofs.lemmas.Bool.Decides.{nat_tests}
use Rattle.oxc_sourcemap_tokens.specs.declared.errors.error.Error.{Error}
use Rattle.oxc_sourcemap_tokens.specs.Errors.{unless}
use Rattle.oxc_sourcemap_tokens.specs.Token.{TokenRecord, AreInBounds}
use Rattle.oxc_sourcemap_mappings.specs.TextLaws.{ReadsAgain}
use Rattle.oxc_sourcemap_mappings.specs.Reading.{reading}
use Rattle.oxc_sourcemap_tokens.specs.LineOrder.{first_out_of_order}
use Rattle.oxc_sourcemap_json.specs.JsonRecord.{JsonRecord}
use Rattle.oxc_sourcemap_parts.specs.Record.{MapRecord}
use Rattle.oxc_sourcemap_parts.specs.Sorted.{are_tokens_sorted, may_precede, token_line}
use Rattle.oxc_sourcemap_parts.specs.Sorted.{token_column}
use Rattle.oxc_sourcemap_json.specs.Decoded.{decoded, decoded_record, with_tokens, json_fault}

tokens-read : (j : JsonRecord) (q : Result (List TokenRecord) Error) (r : MapRecord) → with_tokens j q ≡ Ok r → q ≡ Ok r.tokens
tokens-read j (Ok ts) r e = let s : decoded_record j ts ≡ r = cc (e) in ap (λ (m : MapRecord). Ok m.tokens) s
tokens-read j (Err fault) r e = absurd (cc (e))

after-fault : (o : Option Error) (q : Result MapRecord Error) (r : MapRecord) → unless o q ≡ Ok r → q ≡ Ok r
after-fault None q r e = e
after-fault (Some fault) q r e = absurd (cc (e))

-- the tokens of a map that was read are those of its mappings text
pub decoded-reading : (j : JsonRecord) (r : MapRecord) → decoded j ≡ Ok r → reading j.mappings (length j.names) (length j.sources) ≡ Ok r.tokens
decoded-reading j r e = tokens-read j (reading j.mappings (length j.names) (length j.sources)) r (after-fault (json_fault j) _ r e)

pub decoded-bounds : ReadsAgain → (j : JsonRecord) (r : MapRecord) → decoded j ≡ Ok r → AreInBounds r.tokens
decoded-bounds law j r e = (law j.mappings (length j.names) (length j.sources) r.tokens (decoded-reading j r e)).0.in_bounds

-- sorted tokens are in line order
pub sorted-order : (ts : List TokenRecord) → are_tokens_sorted ts ≡ true → first_out_of_order ts ≡ None
sorted-order [] s = refl
sorted-order (t ∷ []) s = refl
sorted-order (t ∷ u ∷ ts) s =
    let both = and_parts (may_precede token_line token_column t u) (are_tokens_sorted (u ∷ ts)) s in
    let n : nat_lt u.dst_line t.dst_line ≡ false = grind (arith, nat_tests, both.0) in
    rw (n, sorted-order (u ∷ ts) both.1)
