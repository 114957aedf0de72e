use Rattle.std.proofs.lemmas.Grind.{common_steps}
use Rattle.std.proofs.Common.{◌≡◌, ◌+◌, ◌*◌, ◌/◌, ◌%◌, ◌^◌, ℕ, ◌<◌, ◌≤◌, List, ap, ◌∙◌, sym, arith}
use Rattle.std.proofs.Common.{refl, get_or}
use Rattle.oxc_sourcemap_tokens.specs.Token.{kept_id}
use Rattle.oxc_sourcemap_compiled.specs.Numbers.{number_at}
use Rattle.oxc_sourcemap_compiled.specs.Fields.{value_at, IsField}
use Rattle.oxc_sourcemap_compiled.specs.Words.{value_in, stored_id}
use Rattle.oxc_sourcemap_compiled.specs.declared.fields.Field.{Field}
use Rattle.oxc_sourcemap_compiled.specs.declared.fields.Row.{Row}
use Rattle.oxc_sourcemap_compiled.proofs.Bits.{in-word}
use Rattle.oxc_sourcemap_compiled.proofs.ReadTokens.{same-token}
use Rattle.oxc_sourcemap_compiled.proofs.fields.Row.token.Goals as goal

-- the value of a field in the word of its token
value-is : (bytes : List ℕ) (row : Row) (f : Field) (j word v : ℕ) → ((k : ℕ) → get_or bytes k 0 < 256) → row.stride ≤ 56 → IsField row.stride f
    → word ≡ number_at 8 bytes (row.at + j * row.stride / 8) → v ≡ (f.least + word / 2 ^ (j * row.stride % 8) / 2 ^ f.first % 2 ^ f.width) % 2 ^ 32 → v ≡ value_in bytes row f j
unfolding value_at
value-is bytes row f j word v each few field is e =
    e ∙ ap (λ n. (f.least + n / 2 ^ (j * row.stride % 8) / 2 ^ f.first % 2 ^ f.width) % 2 ^ 32) is
    ∙ sym (ap (λ n. (f.least + n) % 2 ^ 32) (in-word row.at (j * row.stride) f.first f.width bytes each (omega (arith, few, field.within))))

-- an id that is read has 32 bits, and so is kept
id-kept : (v : ℕ) → v < 4294967296 → kept_id (stored_id v) ≡ stored_id v
id-kept v small = grind (arith, common_steps, small)

pub returns : goal.returns
returns c =
    let row = c.args.self.now in
    let bytes = c.args.bytes.now in
    let each : (k : ℕ) → get_or bytes k 0 < 256 = λ k. omega (arith, c.type_inv.bytes k) in
    let few : row.stride ≤ 56 = omega (arith, c.if-self-gt56.false) in
    let value = λ (f : Field) (field : IsField row.stride f) (v : ℕ). value-is bytes row f c.args.j c.u64_at.result v each few field c.u64_at.ensures in
    let column = value row.column c.requires.row.column c.value-3.result c.value-3.ensures in
    let src_line = value row.src_line c.requires.row.src_line c.value-4.result c.value-4.ensures in
    let src_col = value row.src_col c.requires.row.src_col c.value-5.result c.value-5.ensures in
    let source = ap kept_id c.id_from-source_id.ensures ∙ id-kept c.value.result c.value.type_inv ∙ ap stored_id (value row.source c.requires.row.source c.value.result c.value.ensures) in
    let name = ap kept_id c.id_from-name_id.ensures ∙ id-kept c.value-2.result c.value-2.type_inv ∙ ap stored_id (value row.name c.requires.row.name c.value-2.result c.value-2.ensures) in
    c.new.ensures ∙ same-token refl column src_line src_col source name
