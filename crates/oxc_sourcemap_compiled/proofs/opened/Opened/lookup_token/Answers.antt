use Rattle.std.proofs.Common.{ap, ◌∙◌, sym, Some, slice_get}
use Rattle.std.specs.Option.{option_and_then}
use Rattle.oxc_sourcemap_compiled.specs.Words.{tokens_in}
use Rattle.oxc_sourcemap_compiled.proofs.Entries.{stands-on}
use Rattle.oxc_sourcemap_compiled.proofs.Found.{found-token-by}
use Rattle.oxc_sourcemap_compiled.proofs.opened.Opened.lookup_token.Goals as goal

pub returns-in-Some-clause-found : goal.returns-in-Some-clause-found
returns-in-Some-clause-found c = λ order.
    let o = c.args.self.now in
    let ts = tokens_in o.bytes.now o.header in
    let found = c.in-Some.ensures in
    let stands = stands-on o.bytes.now o.header order c.args.at.line c.in-Some.found.0 found.index.among in
    ap Some found.token ∙ sym stands ∙ ap (option_and_then (slice_get ts)) (found.index.is order) ∙ sym (found-token-by c.args.bias ts c.args.at.line c.args.at.column)

pub returns-in-None-clause-found : goal.returns-in-None-clause-found
returns-in-None-clause-found c = λ order.
    let ts = tokens_in c.args.self.now.bytes.now c.args.self.now.header in
    ap (option_and_then (slice_get ts)) (c.in-None.ensures.index.is order) ∙ sym (found-token-by c.args.bias ts c.args.at.line c.args.at.column)
