use Rattle.std.proofs.Common.{◌-◌, sym, subst}
use Rattle.oxc_sourcemap_queries.specs.declared.pieces.cuts.Cut.{Cut}
use Rattle.oxc_sourcemap_queries.specs.Cuts.{AreLeft}
use Rattle.oxc_sourcemap_queries.proofs.Cutting.{left-more}
use Rattle.oxc_sourcemap_queries.proofs.pieces.iterator.PiecesIterator.next.Goals as goal

pub invariant_of-self : goal.invariant_of-self
invariant_of-self c =
    let it = c.self.inside in
    let more = left-more it.tokens.now it.next it.place it.end it.left c.if-self-eq0.false c.self.invariant in
    subst (λ (cut : Cut). AreLeft it.tokens.now cut.next cut.end it.end (it.left - 1)) (sym c.cut_at-cut.ensures) more.2
