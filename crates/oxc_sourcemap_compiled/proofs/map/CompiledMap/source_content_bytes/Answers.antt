use Rattle.std.proofs.Common.{◌+◌, ◌<◌, ◌≤◌, ap, ◌∙◌, sym, arith}
use Rattle.std.specs.Option.{option_and_then}
use Rattle.oxc_sourcemap_compiled.specs.Words.{header_in, optional_in}
use Rattle.oxc_sourcemap_compiled.proofs.Ranges.{made-get, made-past}
use Rattle.oxc_sourcemap_compiled.proofs.map.CompiledMap.source_content_bytes.Goals as goal

pub returns-then-id-opened : goal.returns-then-id-opened
returns-then-id-opened c =
    let bytes = c.args.self.now in
    let h = header_in bytes in
    let id = c.args.id in
    let o = c.self.inside.opened in
    let same = c.self.invariant.header ∙ ap header_in c.self.view_is in
    let text = c.optional_text.ensures ∙ ap (λ b. optional_in b o.header (o.header.sources + id)) c.self.view_is ∙ ap (λ g. optional_in bytes g (g.sources + id)) same in
    let lt : id < h.sources = omega (arith, c.if-id-opened.true, ap (λ g. g.sources) same) in
    text ∙ sym (ap (λ o. option_and_then (λ text. text) o) (made-get (λ i. optional_in bytes h (h.sources + i)) 0 h.sources id id lt (omega arith)))

pub returns-else-id-opened : goal.returns-else-id-opened
returns-else-id-opened c =
    let bytes = c.args.self.now in
    let h = header_in bytes in
    let same = c.self.invariant.header ∙ ap header_in c.self.view_is in
    let past : h.sources ≤ c.args.id = omega (arith, c.if-id-opened.false, ap (λ g. g.sources) same) in
    sym (ap (λ o. option_and_then (λ text. text) o) (made-past (λ i. optional_in bytes h (h.sources + i)) h.sources c.args.id past))
