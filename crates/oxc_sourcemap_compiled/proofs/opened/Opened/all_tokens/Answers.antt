use Rattle.std.proofs.Common.{◌++◌, sym, ap, ◌∙◌}
use Rattle.oxc_sourcemap_compiled.specs.Words.{entry_tokens}
use Rattle.oxc_sourcemap_compiled.proofs.Taken.{joined-more}
use Rattle.oxc_sourcemap_compiled.proofs.opened.Opened.all_tokens.Goals as goal

pub loop-k-preserved : goal.loop-k-preserved
loop-k-preserved c =
    let o = c.args.self.now in
    let f = entry_tokens o.bytes.now o.header in
    c.in_ok-push_entry.ensures ∙ ap (λ xs. xs ++ f c.loop-k.k) c.loop-k.invariant ∙ sym (joined-more f c.loop-k.k)
