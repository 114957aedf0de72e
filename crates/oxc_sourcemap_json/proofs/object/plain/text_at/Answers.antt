use Rattle.std.proofs.Common.{string_bytes, arith}
use Rattle.std.proofs.lemmas.List.{get_or_default}
use Rattle.std.proofs.lemmas.Str.{IsCharBoundary-after_ascii}
use Rattle.oxc_sourcemap_json.proofs.PlainTokens.{at_byte, string_read}
use Rattle.oxc_sourcemap_json.proofs.Tokens.{of_found}
use Rattle.oxc_sourcemap_json.proofs.object.plain.text_at.Goals as goal

pub escaped_text-requires : goal.escaped_text-requires
escaped_text-requires c =
    let d = c.args.text.now in
    let at = c.args.at in
    let quote = at_byte d at 34 c.requires (λ e. omega (arith, e)) in
    IsCharBoundary-after_ascii d at c.utf8.text quote.within (omega (arith, get_or_default d at 0 32 quote.within, c.requires))

pub returns-in-None : goal.returns-in-None
returns-in-None c = of_found (λ read is. string_read c.args.text.now (string_bytes read.0) c.args.at read.1 c.requires is) c.escaped_text.result c.escaped_text.ensures
