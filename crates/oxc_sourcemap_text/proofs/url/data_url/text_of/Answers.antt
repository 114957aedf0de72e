use Rattle.std.proofs.Common.{◌≡◌, true, false, arith, inl, inr}
use Rattle.std.proofs.lemmas.Bool.{cases_Bool}
use Rattle.std.proofs.lemmas.Grind.{common_steps}
use Rattle.std.proofs.lemmas.Str.{IsUtf8-had, IsUtf8-from_is_utf8, is_utf8-from_IsUtf8}
use Rattle.std.specs.Str.{is_utf8}
use Rattle.oxc_sourcemap_text.proofs.url.data_url.text_of.Goals as goal

pub returns-in-Ok : goal.returns-in-Ok
returns-in-Ok c =
    let utf8 = is_utf8-from_IsUtf8 _ (IsUtf8-had _ c.in-Ok.text.ok) in
    grind (arith, common_steps, utf8, c.in-Ok.ensures.ok)

pub returns-in-Err : goal.returns-in-Err
returns-in-Err c =
    let other : is_utf8 c.args.bytes.items ≡ false =
    elim (cases_Bool (is_utf8 c.args.bytes.items)) [
      | inl is ↦ (let bad : false ≡ true = c.in-Err.ensures.succeeds (IsUtf8-from_is_utf8 c.args.bytes.items is) in cc)
      | inr is ↦ is
    ] in
    grind (arith, common_steps, other, c.in-Err.ensures.valid_len)
