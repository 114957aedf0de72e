use Rattle.std.proofs.Common.{◌≡◌, ℕ, ◌<◌, true, length, get_or, refl, ◌∙◌, arith}
use Rattle.oxc_sourcemap_json.specs.declared.write.escapes.TheConstants.{ESCAPED}
use Rattle.oxc_sourcemap_json.specs.JsonString.{escaped}
use Rattle.oxc_sourcemap_json.proofs.EscapedText.{is_right, are_right, right-at, entry-short}
use Rattle.oxc_sourcemap_json.proofs.EscapedText.{entry-placed}
use Rattle.oxc_sourcemap_json.proofs.write.escapes.write_byte.Goals as goal

all-right : are_right 0 ESCAPED ≡ true
unfolding are_right escaped
all-right = refl

entry-right : (byte : ℕ) → byte < 256 → is_right byte (get_or ESCAPED byte 0) ≡ true
entry-right byte l = let n : length ESCAPED ≡ 256 = refl in right-at ESCAPED all-right byte (omega (arith, n))

pub returns-clause-bytes : goal.returns-clause-bytes
returns-clause-bytes c =
    let right = entry-right c.args.byte (omega arith) in
    entry-placed c.args.byte (get_or ESCAPED c.args.byte 0) right c.args.buf.now c.copy_from_slice.new.self c.args.at _ _ (omega (arith, c.requires.room)) (c.copy_from_slice.ensures.after ∙ c.to_le_bytes.ensures) refl

pub returns-clause-within : goal.returns-clause-within
returns-clause-within c =
    let right = entry-right c.args.byte (omega arith) in
    omega (arith, entry-short c.args.byte (get_or ESCAPED c.args.byte 0) right)
