use Rattle.oxc_sourcemap_lookup.proofs.ColumnSearches.{kept-at}
use Rattle.oxc_sourcemap_lookup.proofs.line_index.LineIndex.line_near.Goals as goal

pub returns-in-Starts-clause-columns : goal.returns-in-Starts-clause-columns
returns-in-Starts-clause-columns c = kept-at (λ v. v.items) _ _ c.args.tokens.now c.args.self.now.columns c.requires.1 c.line_by_start.ensures.part

pub returns-in-Spans-clause-columns : goal.returns-in-Spans-clause-columns
returns-in-Spans-clause-columns c = kept-at (λ v. v.items) _ _ c.args.tokens.now c.args.self.now.columns c.requires.1 c.line_by_span.ensures.part

pub returns-in-Few-clause-columns : goal.returns-in-Few-clause-columns
returns-in-Few-clause-columns c = kept-at (λ v. v.items) _ _ c.args.tokens.now c.args.self.now.columns c.requires.1 c.line_among.ensures.part
