use Rattle.std.proofs.Common.{◌≡◌, ◌∙◌, ◌∷◌, drop, get_or, string_bytes, IfSome, sym, subst, arith}
use Rattle.json.specs.Token.{string}
use Rattle.json.specs.Lex.{between, lex, token}
use Rattle.oxc_sourcemap_json.specs.PlainReader.{MayBegin, EndsValue}
use Rattle.oxc_sourcemap_json.proofs.PlainTokens.{value_read}
use Rattle.oxc_sourcemap_json.proofs.object.plain.PlainReader.next_text.Goals as goal

pub returns : goal.returns
returns c =
    let r = c.peek.new.self in
    let d = r.text.now in
    let may : MayBegin r.place = grind arith in
    let read = subst (λ o. IfSome o (λ read. lex between (drop r.at d) ≡ token (string (string_bytes read.0)) ∷ lex between (drop read.1 d))) c.in-Some.is c.in_ok-text.ensures in
    let byte : c.byte_at.result ≡ get_or d c.in-Some.end 32 = grind arith in
    let ends : EndsValue (get_or d c.in-Some.end 32) = subst EndsValue byte (c.ends_value.ensures (grind arith)) in
    sym c.peek.ensures.same ∙ value_read d (string_bytes c.in-Some.text) r.at c.in-Some.end r.place read ends may
