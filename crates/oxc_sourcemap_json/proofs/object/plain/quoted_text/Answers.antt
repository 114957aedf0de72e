use Rattle.std.proofs.Common.{◌≡◌, ◌+◌, ◌∙◌, ◌∷◌, IsUtf8, get_or, drop, ap, sym, arith}
use Rattle.std.proofs.lemmas.List.{get_or_default}
use Rattle.std.proofs.lemmas.Str.{IsCharBoundary-after_ascii}
use Rattle.std.specs.List.{prefix_len}
use Rattle.json.specs.Token.{string}
use Rattle.json.specs.Lex.{between, lex, token}
use Rattle.oxc_sourcemap_json.specs.PlainReader.{is_plain}
use Rattle.oxc_sourcemap_json.proofs.PlainTokens.{at_byte, text_read}
use Rattle.oxc_sourcemap_json.proofs.object.plain.quoted_text.Goals as goal

pub range-requires-clause-start_boundary : goal.range-requires-clause-start_boundary
range-requires-clause-start_boundary c some =
    let d = c.args.text.now in
    let at = c.args.at in
    let quote = at_byte d at 34 c.requires (λ e. omega (arith, e)) in
    let utf8 : IsUtf8 d = rw (← c.as_bytes-bytes.ensures.value) c.as_bytes-bytes.ensures.utf8 in
    IsCharBoundary-after_ascii d at utf8 quote.within (omega (arith, get_or_default d at 0 32 quote.within, c.requires))

pub returns : goal.returns
returns c =
    let d = c.args.text.now in
    let at = c.args.at in
    let stop = c.plain_end-stop.result in
    let text = c.as_bytes-bytes.ensures.value in
    let run : stop ≡ at + 1 + prefix_len is_plain (drop (at + 1) d) = rw (← text) c.plain_end-stop.ensures in
    let end : get_or d stop 32 ≡ 34 = grind arith in
    let blanks : lex between (drop c.blanks_end.result d) ≡ lex between (drop (stop + 1) d) = rw (← text) c.blanks_end.ensures in
    text_read d at stop c.requires run end
    ∙ ap (λ s. token (string s) ∷ lex between (drop (stop + 1) d)) (sym c.range.ensures.value)
    ∙ ap (λ ls. token (string c.range.result.now) ∷ ls) (sym blanks)
