use Rattle.std.proofs.Common.{◌≡◌, ◌∙◌, get_or, sym, arith}
use Rattle.oxc_sourcemap_json.specs.PlainReader.{MayBegin}
use Rattle.oxc_sourcemap_json.proofs.PlainTokens.{opened}
use Rattle.oxc_sourcemap_json.proofs.object.plain.PlainReader.open.Goals as goal

pub returns : goal.returns
returns c = λ yes.
    let r = c.peek.new.self in
    let is : get_or r.text.now r.at 32 ≡ c.args.bracket = grind arith in
    let may : MayBegin r.place = grind arith in
    sym c.peek.ensures.same ∙ opened r.text.now r.at c.args.bracket r.place c.requires is may
