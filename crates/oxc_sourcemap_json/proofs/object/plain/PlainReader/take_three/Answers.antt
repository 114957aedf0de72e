use Rattle.std.proofs.Common.{◌≡◌, ◌+◌, ◌∙◌, get_or, sym, subst, arith}
use Rattle.oxc_sourcemap_json.specs.PlainReader.{MayBegin, EndsValue}
use Rattle.oxc_sourcemap_json.proofs.PlainTokens.{three_read}
use Rattle.oxc_sourcemap_json.proofs.object.plain.PlainReader.take_three.Goals as goal

pub returns : goal.returns
returns c = λ yes.
    let r = c.peek.new.self in
    let is : get_or r.text.now r.at 32 ≡ 51 = grind arith in
    let may : MayBegin r.place = grind arith in
    let byte : c.byte_at.result ≡ get_or r.text.now (r.at + 1) 32 = grind arith in
    let ends : EndsValue (get_or r.text.now (r.at + 1) 32) = subst EndsValue byte (c.ends_value.ensures (grind arith)) in
    sym c.peek.ensures.same ∙ three_read r.text.now r.at r.place is ends may
