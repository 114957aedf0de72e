use Rattle.std.proofs.Common.{◌+◌, ◌*◌, ◌<◌, ◌≤◌, ap, ◌∙◌, sym, arith, Some}
use Rattle.oxc_sourcemap_compiled.specs.Words.{header_in, listed_in}
use Rattle.oxc_sourcemap_compiled.proofs.Ranges.{made-get, made-past}
use Rattle.oxc_sourcemap_compiled.proofs.map.CompiledMap.name_bytes.Goals as goal

pub returns-then-id-opened : goal.returns-then-id-opened
returns-then-id-opened c =
    let bytes = c.args.self.now in
    let h = header_in bytes in
    let id = c.args.id in
    let o = c.self.inside.opened in
    let same = c.self.invariant.header ∙ ap header_in c.self.view_is in
    let text = c.listed_text.ensures ∙ ap (λ b. listed_in b o.header (2 * o.header.sources + id)) c.self.view_is ∙ ap (λ g. listed_in bytes g (2 * g.sources + id)) same in
    let lt : id < h.names = omega (arith, c.if-id-opened.true, ap (λ g. g.names) same) in
    ap Some text ∙ sym (made-get (λ i. listed_in bytes h (2 * h.sources + i)) 0 h.names id id lt (omega arith))

pub returns-else-id-opened : goal.returns-else-id-opened
returns-else-id-opened c =
    let bytes = c.args.self.now in
    let h = header_in bytes in
    let same = c.self.invariant.header ∙ ap header_in c.self.view_is in
    let past : h.names ≤ c.args.id = omega (arith, c.if-id-opened.false, ap (λ g. g.names) same) in
    sym (made-past (λ i. listed_in bytes h (2 * h.sources + i)) h.names c.args.id past)
