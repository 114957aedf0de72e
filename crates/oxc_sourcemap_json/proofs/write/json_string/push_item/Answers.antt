use Rattle.std.proofs.Common.{sym, subst}
use Rattle.std.proofs.lemmas.Str.{IsUtf8-append}
use Rattle.std.specs.Str.{IsUtf8}
use Rattle.oxc_sourcemap_json.proofs.Items.{utf8-item}
use Rattle.oxc_sourcemap_json.proofs.write.json_string.push_item.Goals as goal

pub returns-clause-utf8 : goal.returns-clause-utf8
returns-clause-utf8 c =
    let text = subst IsUtf8 (sym c.as_bytes.ensures.value) c.utf8.text in
    subst IsUtf8 (sym c.write_item.ensures.bytes) (IsUtf8-append _ _ c.in_ok-at.ensures.utf8 (utf8-item c.args.is_first _ text))
