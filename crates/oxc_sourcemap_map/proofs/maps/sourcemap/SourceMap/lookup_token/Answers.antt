use Rattle.std.proofs.Common.{rules}
use Rattle.oxc_sourcemap_parts.specs.Sorted.{token_column}
use Rattle.oxc_sourcemap_lookup.specs.Lookup.{at}
use Rattle.oxc_sourcemap_lookup.proofs.OwnTables.{own_table}
use Rattle.oxc_sourcemap_map.proofs.maps.sourcemap.SourceMap.lookup_token.Goals as goal

pub returns : goal.returns
returns c = record {
  found = search rules;
  among = search rules;
  own_table = own_table (λ tokens. at token_column tokens c.args.col) _ c.args.line c.args.self.now.tokens _
      (rw c.slice_of.ensures at c.search.ensures.found);
}
