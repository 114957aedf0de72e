use Rattle.std.proofs.Common.{◌≡◌, ◌∙◌, ◌≤◌, length, drop, ap, arith}
use Rattle.json.specs.Lex.{between, lex}
use Rattle.oxc_sourcemap_json.specs.declared.object.plain.Place.TheVariants.{AfterValue}
use Rattle.oxc_sourcemap_json.specs.PlainReader.{tokens_at}
use Rattle.oxc_sourcemap_json.proofs.PlainTokens.{none_left}
use Rattle.oxc_sourcemap_json.proofs.object.plain.PlainReader.is_at_end.Goals as goal

pub returns : goal.returns
returns c = λ yes.
    let r = c.args.self.now in
    let d = r.text.now in
    let text = c.as_bytes-bytes.ensures.value in
    let place : r.place ≡ AfterValue = grind arith in
    let blanks : lex between (drop c.blanks_end.result d) ≡ lex between (drop r.at d) = rw (← text) c.blanks_end.ensures in
    let past : length d ≤ c.blanks_end.result = grind (arith, yes) in
    ap (tokens_at d r.at) place ∙ none_left d r.at c.blanks_end.result blanks past
