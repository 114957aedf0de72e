use Rattle.std.proofs.Common.{◌≡◌, ◌+◌, ◌∙◌, get_or, drop, sym, ap, arith}
use Rattle.json.specs.Lex.{between, lex}
use Rattle.oxc_sourcemap_json.specs.declared.object.plain.Place.TheVariants.{AfterValue}
use Rattle.oxc_sourcemap_json.specs.PlainReader.{tokens_at}
use Rattle.oxc_sourcemap_json.proofs.PlainTokens.{comma_passed}
use Rattle.oxc_sourcemap_json.proofs.object.plain.PlainReader.peek.Goals as goal

pub returns-then-not-may_begin-clause-same : goal.returns-then-not-may_begin-clause-same
returns-then-not-may_begin-clause-same c =
    let d = c.args.self.now.text.now in
    let at = c.args.self.now.at in
    let comma_at = c.blanks_end-self.result in
    let after = c.blanks_end-self-then-not-may_begin.result in
    let text = c.as_bytes-text.ensures.value in
    let place : c.args.self.now.place ≡ AfterValue = grind arith in
    let comma : get_or d comma_at 32 ≡ 44 = grind arith in
    let before : lex between (drop comma_at d) ≡ lex between (drop at d) = rw (← text) c.blanks_end-self.ensures in
    let behind : lex between (drop after d) ≡ lex between (drop (comma_at + 1) d) = rw (← text) c.blanks_end-self-then-not-may_begin.ensures in
    comma_passed d at comma_at after comma before behind ∙ ap (tokens_at d at) (sym place)
