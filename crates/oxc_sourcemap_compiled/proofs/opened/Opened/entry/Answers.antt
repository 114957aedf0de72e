use Rattle.std.proofs.Common.{◌≡◌, ◌+◌, ◌<◌, ℕ, true, arith, ap, ◌∙◌, sym, subst}
use Rattle.oxc_sourcemap_compiled.specs.Cuts.{IsCut}
use Rattle.oxc_sourcemap_compiled.specs.Words.{number_in_list}
use Rattle.oxc_sourcemap_compiled.proofs.Searches.{own-cut}
use Rattle.oxc_sourcemap_compiled.proofs.Blocks.{line_in-listed}
use Rattle.oxc_sourcemap_compiled.proofs.opened.Opened.entry.Goals.{}
use Rattle.oxc_sourcemap_compiled.proofs.opened.Opened.entry.Goals.{}
use Rattle.oxc_sourcemap_compiled.proofs.opened.Opened.entry.Goals.{else-k-lines-2-via-then-k-lines-2+else-line_number-line}
use Rattle.oxc_sourcemap_compiled.proofs.opened.Opened.entry.Goals.{}
use Rattle.oxc_sourcemap_compiled.proofs.opened.Opened.entry.Goals.{}
use Rattle.oxc_sourcemap_compiled.proofs.opened.Opened.entry.Goals.{else-k-lines-2-via-else-k-lines-2}
use Rattle.oxc_sourcemap_compiled.proofs.opened.Opened.entry.Goals as goal

pub returns-else-k-lines-2-clause-none : goal.returns-else-k-lines-2-clause-none
returns-else-k-lines-2-clause-none c = λ none order k there line_is.
    let h = c.args.self.now.header in
    let bytes = c.args.self.now.bytes.now in
    let f = number_in_list bytes h in
    let listed : h.has_line_numbers ≡ true = c.if-not-self.false in
    let up : (k : ℕ) → k + 1 < h.lines → f k < f (k + 1) = λ k lt.
    let more : f k < f (k + 1) = omega (arith, order.lines k lt, line_in-listed bytes h k listed, line_in-listed bytes h (k + 1) listed) in
    more in
    let number : f k ≡ c.args.line = sym (line_in-listed bytes h k listed) ∙ line_is in
    let is = subst (λ n. IsCut f n 0 h.lines k) number (own-cut f h.lines k up there) in
    let found : c.line_cut-k.result ≡ k = c.line_cut-k.ensures.cut k is in
    elim c.else-k-lines-2.branch [
      | else-k-lines-2-via-then-k-lines-2+else-line_number-line w ↦ w.if-line_number-line.false (w.line_number.ensures ∙ ap f found ∙ number)
      | else-k-lines-2-via-else-k-lines-2 w ↦ omega (arith, w.if-k-lines-2.false, found, there)
    ]
