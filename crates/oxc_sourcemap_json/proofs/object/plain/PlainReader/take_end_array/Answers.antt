use Rattle.std.proofs.Common.{◌≡◌, ◌∙◌, get_or, sym, arith}
use Rattle.oxc_sourcemap_json.specs.PlainReader.{MayClose}
use Rattle.oxc_sourcemap_json.proofs.PlainTokens.{list_closed}
use Rattle.oxc_sourcemap_json.proofs.object.plain.PlainReader.take_end_array.Goals as goal

pub returns : goal.returns
returns c =
    let r = c.peek.new.self in
    let is : get_or r.text.now r.at 32 ≡ 93 = grind arith in
    let may : MayClose r.place = grind arith in
    sym c.peek.ensures.same ∙ list_closed r.text.now r.at r.place is may
