use Rattle.oxc_sourcemap_queries.proofs.Held.{cover, hold, index, traces}
use Rattle.oxc_sourcemap_queries.proofs.pieces.laws.range_pieces.Goals as goal

pub returns-clause-cover : goal.returns-clause-cover
returns-clause-cover c = cover

pub returns-clause-hold : goal.returns-clause-hold
returns-clause-hold c = hold

pub returns-clause-index : goal.returns-clause-index
returns-clause-index c = index

pub returns-clause-traces : goal.returns-clause-traces
returns-clause-traces c = traces
