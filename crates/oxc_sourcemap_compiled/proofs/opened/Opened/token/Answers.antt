use Rattle.std.proofs.Common.{◌≡◌, ap, ◌∙◌, sym, arith, Some}
use Rattle.std.proofs.lemmas.Option.{slice_get_past}
use Rattle.oxc_sourcemap_compiled.specs.Words.{tokens_in, token_in, line_in}
use Rattle.oxc_sourcemap_compiled.proofs.Entries.{tokens-length, entry-of, token-is}
use Rattle.oxc_sourcemap_compiled.proofs.opened.Opened.token.Goals as goal

pub returns-then-i-self-clause-found : goal.returns-then-i-self-clause-found
returns-then-i-self-clause-found c = λ order.
    let o = c.args.self.now in
    sym (slice_get_past (tokens_in o.bytes.now o.header) c.args.i (omega (arith, tokens-length o.bytes.now o.header order, c.if-i-self.true)))

pub returns-then-k-self-clause-found : goal.returns-then-k-self-clause-found
returns-then-k-self-clause-found c = λ order.
    let bytes = c.args.self.now.bytes.now in
    let h = c.args.self.now.header in
    let i = c.args.i in
    let entry = entry-of bytes h order i (omega (arith, c.if-i-self.false)) in
    let same : c.entry_cut-k.result ≡ entry.0 = c.entry_cut-k.ensures.cut entry.0 entry.2 in
    let line = c.line_of.ensures ∙ ap (line_in bytes h) same in
    ap Some (c.token_on.ensures ∙ ap (λ n. token_in bytes h n i) line) ∙ sym (token-is bytes h order entry.0 i entry.1 entry.3 entry.4)

pub returns-else-k-self-clause-found : goal.returns-else-k-self-clause-found
returns-else-k-self-clause-found c = λ order.
    let o = c.args.self.now in
    let entry = entry-of o.bytes.now o.header order c.args.i (omega (arith, c.if-i-self.false)) in
    let same : c.entry_cut-k.result ≡ entry.0 = c.entry_cut-k.ensures.cut entry.0 entry.2 in
    absurd (omega (arith, same, entry.1, c.if-k-self.false))
