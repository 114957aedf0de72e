use Rattle.std.proofs.Common.{◌≡◌, ◌∙◌, sym, ap, slice_get, None, arith}
use Rattle.std.proofs.lemmas.Grind.{common_steps}
use Rattle.std.proofs.lemmas.Option.{slice_get-get_or}
use Rattle.std.specs.Option.{option_and_then}
use Rattle.oxc_sourcemap_lookup.proofs.Numbers.{token_of-index_by}
use Rattle.oxc_sourcemap_lookup.proofs.bias.Traced.token.Goals as goal

pub returns-in_err-i : goal.returns-in_err-i
returns-in_err-i c = λ sorted.
    let ts = c.args.self.tokens.now in
    let none : c.find.result ≡ None = grind (arith, common_steps) in
    let nothing : c.from_residual.result ≡ None = grind (arith, common_steps) in
    nothing ∙ ap (option_and_then (slice_get ts)) (sym none ∙ c.find.ensures.found sorted) ∙ token_of-index_by c.args.bias ts c.args.at.line c.args.at.column

pub returns : goal.returns
returns c = λ sorted.
    let ts = c.args.self.tokens.now in
    let i = c.in_ok-i.i in
    let there = slice_get-get_or ts i c.index-self-i.result c.in_ok-i.ensures.within in
    sym there ∙ ap (option_and_then (slice_get ts)) (c.in_ok-i.ensures.found sorted) ∙ token_of-index_by c.args.bias ts c.args.at.line c.args.at.column
