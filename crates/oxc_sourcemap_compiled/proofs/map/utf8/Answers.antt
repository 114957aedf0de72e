use Rattle.std.proofs.Common.{◌≡◌, ap, ◌∙◌, sym, true, false, Bool, Some, None, if◌then◌else◌, refl}
use Rattle.std.proofs.Common.{List, ℕ}
use Rattle.std.specs.Str.{is_utf8, IsUtf8}
use Rattle.std.proofs.lemmas.Str.{is_utf8-from_IsUtf8, IsUtf8-from_is_utf8}
use Rattle.oxc_sourcemap_compiled.proofs.map.utf8.Goals as goal

pub returns-in-Ok : goal.returns-in-Ok
returns-in-Ok c =
    let bytes = c.args.bytes.now in
    ap Some c.in-Ok.ensures.cases.0 ∙ sym (ap (λ b. if b then Some bytes else None) (is_utf8-from_IsUtf8 bytes c.in-Ok.ensures.cases.1))

not-utf8 : (b : Bool) (bytes : List ℕ) → is_utf8 bytes ≡ b → (IsUtf8 bytes → ⊥) → is_utf8 bytes ≡ false
not-utf8 true bytes is other = absurd (other (IsUtf8-from_is_utf8 bytes is))
not-utf8 false bytes is other = is

pub returns-in-Err : goal.returns-in-Err
returns-in-Err c =
    let bytes = c.args.bytes.now in
    sym (ap (λ b. if b then Some bytes else None) (not-utf8 (is_utf8 bytes) bytes refl c.in-Err.ensures.cases.0))
