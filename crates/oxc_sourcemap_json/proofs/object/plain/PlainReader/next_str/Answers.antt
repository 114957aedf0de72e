use Rattle.std.proofs.Common.{◌≡◌, ◌∙◌, get_or, sym, subst, arith}
use Rattle.oxc_sourcemap_json.specs.PlainReader.{MayBegin, EndsValue}
use Rattle.oxc_sourcemap_json.proofs.PlainTokens.{value_read}
use Rattle.oxc_sourcemap_json.proofs.object.plain.PlainReader.next_str.Goals as goal

pub returns : goal.returns
returns c =
    let r = c.peek.new.self in
    let d = r.text.now in
    let may : MayBegin r.place = grind arith in
    let byte : c.byte_at.result ≡ get_or d c.in_ok-text.end 32 = grind arith in
    let ends : EndsValue (get_or d c.in_ok-text.end 32) = subst EndsValue byte (c.ends_value.ensures (grind arith)) in
    sym c.peek.ensures.same ∙ value_read d c.in_ok-text.text.now r.at c.in_ok-text.end r.place c.in_ok-text.ensures ends may
