use Rattle.std.proofs.Common.{◌≡◌, ◌∙◌, refl, sym, subst}
use Rattle.oxc_sourcemap_compiled.specs.Words.{tokens_in}
use Rattle.oxc_sourcemap_lookup.specs.Words.{index_by}
use Rattle.oxc_sourcemap_compiled.proofs.Entries.{found-in, found-in-clamped, found-in-after}
use Rattle.oxc_sourcemap_compiled.proofs.Entries.{not-found-by}
use Rattle.oxc_sourcemap_compiled.proofs.opened.Opened.lookup_index.Goals as goal

pub returns-in_err-k-clause-found : goal.returns-in_err-k-clause-found
returns-in_err-k-clause-found c = λ order.
    let o = c.args.self.now in
    c.from_residual.ensures ∙ not-found-by o.bytes.now o.header order c.args.bias c.args.at.line c.args.at.column (c.in_err-k.ensures.none refl order)

pub returns-in-Before-clause-found : goal.returns-in-Before-clause-found
returns-in-Before-clause-found c = λ order.
    let o = c.args.self.now in
    let at = c.args.at in
    subst (λ bias. c.index_in.result ≡ index_by bias (tokens_in o.bytes.now o.header) at.line at.column) (sym c.in-Before.is)
    (c.index_in.ensures.found order ∙ found-in o.bytes.now o.header order c.in_ok-k.k at.column at.line c.in_ok-k.ensures.there c.in_ok-k.ensures.line_is)

pub returns-in-Clamped-clause-found : goal.returns-in-Clamped-clause-found
returns-in-Clamped-clause-found c = λ order.
    let o = c.args.self.now in
    let at = c.args.at in
    subst (λ bias. c.index_in_clamped.result ≡ index_by bias (tokens_in o.bytes.now o.header) at.line at.column) (sym c.in-Clamped.is)
    (c.index_in_clamped.ensures.found order ∙ found-in-clamped o.bytes.now o.header order c.in_ok-k.k at.column at.line c.in_ok-k.ensures.there c.in_ok-k.ensures.line_is)

pub returns-in-After-clause-found : goal.returns-in-After-clause-found
returns-in-After-clause-found c = λ order.
    let o = c.args.self.now in
    let at = c.args.at in
    subst (λ bias. c.index_in_after.result ≡ index_by bias (tokens_in o.bytes.now o.header) at.line at.column) (sym c.in-After.is)
    (c.index_in_after.ensures.found order ∙ found-in-after o.bytes.now o.header order c.in_ok-k.k at.column at.line c.in_ok-k.ensures.there c.in_ok-k.ensures.line_is)
