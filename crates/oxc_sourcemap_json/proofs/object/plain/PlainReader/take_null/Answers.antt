use Rattle.std.proofs.Common.{◌≡◌, ◌+◌, ◌∙◌, get_or, sym, subst, arith}
use Rattle.oxc_sourcemap_json.specs.PlainReader.{MayBegin, EndsValue}
use Rattle.oxc_sourcemap_json.proofs.PlainTokens.{null_read}
use Rattle.oxc_sourcemap_json.proofs.object.plain.PlainReader.take_null.Goals as goal

pub returns : goal.returns
returns c =
    let r = c.peek.new.self in
    let is : get_or r.text.now r.at 32 ≡ 110 = grind arith in
    let may : MayBegin r.place = grind arith in
    let u : get_or r.text.now (r.at + 1) 32 ≡ 117 = grind arith in
    let l : get_or r.text.now (r.at + 2) 32 ≡ 108 = grind arith in
    let m : get_or r.text.now (r.at + 3) 32 ≡ 108 = grind arith in
    let byte : c.byte_at-else-byte_at-ne108-2.result ≡ get_or r.text.now (r.at + 4) 32 = grind arith in
    let ends : EndsValue (get_or r.text.now (r.at + 4) 32) = subst EndsValue byte (c.ends_value.ensures (grind arith)) in
    sym c.peek.ensures.same ∙ null_read r.text.now r.at r.place is u l m ends may
