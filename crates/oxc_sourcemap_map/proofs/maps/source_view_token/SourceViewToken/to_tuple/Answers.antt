use Rattle.oxc_sourcemap_map.specs.View.{view_of}
use Rattle.oxc_sourcemap_map.proofs.Picks.{tuple_says}
use Rattle.oxc_sourcemap_map.proofs.maps.source_view_token.SourceViewToken.to_tuple.Goals as goal

pub returns-clause-original : goal.returns-clause-original
returns-clause-original c = tuple_says (view_of c.args.self.now) _ _ _ _ c.get_source.ensures c.get_src_line.ensures c.get_src_col.ensures c.get_name.ensures
