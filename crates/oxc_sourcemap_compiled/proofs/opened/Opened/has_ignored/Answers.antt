use Rattle.std.proofs.Common.{◌∙◌, sym, refl, arith}
use Rattle.oxc_sourcemap_compiled.specs.Words.{ignored_in}
use Rattle.oxc_sourcemap_compiled.proofs.Ranges.{contains-made, made-contains}
use Rattle.oxc_sourcemap_compiled.proofs.opened.Opened.has_ignored.Goals as goal

pub returns-then-ignored_at-id : goal.returns-then-ignored_at-id
returns-then-ignored_at-id c =
    let o = c.args.self.now in
    (λ yes. contains-made (ignored_in o.bytes.now o.header) o.header.ignored c.loop-i.i c.args.id (omega (arith, c.loop-i-test.true)) (sym c.ignored_at.ensures ∙ c.if-ignored_at-id.true), λ has. refl)

pub returns : goal.returns
returns c =
    let o = c.args.self.now in
    (λ never. absurd (grind (arith, never)), λ has. absurd (made-contains (ignored_in o.bytes.now o.header) o.header.ignored c.args.id has (λ k lt. c.loop-i.invariant k (omega (arith, lt, c.loop-i-test.false)))))
