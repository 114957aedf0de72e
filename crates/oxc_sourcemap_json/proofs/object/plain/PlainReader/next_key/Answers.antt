use Rattle.std.proofs.Common.{◌≡◌, ◌∙◌, ◌∷◌, drop, get_or, sym, arith}
use Rattle.json.specs.Token.{string}
use Rattle.json.specs.Lex.{between, lex, token}
use Rattle.oxc_sourcemap_json.specs.PlainReader.{MayBegin, MayClose}
use Rattle.oxc_sourcemap_json.proofs.PlainTokens.{key_read, object_closed}
use Rattle.oxc_sourcemap_json.proofs.object.plain.PlainReader.next_key.Goals as goal

pub returns-then-may_close : goal.returns-then-may_close
returns-then-may_close c =
    let r = c.peek-byte.new.self in
    let is : get_or r.text.now r.at 32 ≡ 125 = grind arith in
    let may : MayClose r.place = grind arith in
    sym c.peek-byte.ensures.same ∙ object_closed r.text.now r.at r.place is may

pub returns : goal.returns
returns c =
    let r = c.peek-byte.new.self in
    let may : MayBegin r.place = grind arith in
    let read : lex between (drop r.at r.text.now) ≡ token (string c.in_ok-key.key.now) ∷ lex between (drop c.in_ok-key.end r.text.now) = c.in_ok-key.ensures in
    let colon : get_or r.text.now c.in_ok-key.end 32 ≡ 58 = grind arith in
    sym c.peek-byte.ensures.same ∙ key_read r.text.now c.in_ok-key.key.now r.at c.in_ok-key.end r.place read colon may
