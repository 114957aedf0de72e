use Rattle.oxc_sourcemap_queries.proofs.Cutting.{new-cover, new-pieces}
use Rattle.oxc_sourcemap_queries.proofs.pieces.iterator.pieces_in.Goals as goal

pub returns-clause-cover : goal.returns-clause-cover
returns-clause-cover c =
    new-cover c.args.tokens.now c.count_before-next.result c.place-start.result c.place-end.result c.count_pieces-left.result _ _ c.place-start.ensures c.place-end.ensures c.count_pieces-left.ensures

pub returns-clause-pieces : goal.returns-clause-pieces
returns-clause-pieces c = λ sorted.
    new-pieces c.args.tokens.now c.count_before-next.result c.place-start.result c.place-end.result c.count_pieces-left.result c.args.line c.args.col c.args.end_line c.args.end_col
    c.place-start.ensures c.place-end.ensures sorted c.tokens_in_bounds.ensures (c.count_before-next.ensures.start sorted c.tokens_in_bounds.ensures) c.count_pieces-left.ensures
