use Rattle.std.proofs.Common.{◌∙◌, sym, ap, length}
use Rattle.oxc_sourcemap_queries.proofs.Cutting.{left-long}
use Rattle.oxc_sourcemap_queries.proofs.pieces.iterator.PiecesExactSizeIterator.len.Goals as goal

pub returns-clause-value : goal.returns-clause-value
returns-clause-value c = sym (left-long c.self.inside.tokens.now c.self.inside.next c.self.inside.place c.self.inside.end c.self.inside.left) ∙ ap length c.self.view_is
