use Rattle.std.proofs.Common.{rules, ap, ◌∙◌, option_map}
use Rattle.oxc_sourcemap_map.specs.View.{seen_in, view_original}
use Rattle.oxc_sourcemap_map.proofs.Picks.{traced}
use Rattle.oxc_sourcemap_map.proofs.maps.sourcemap.SourceMap.lookup_source_view_token.Goals as goal

pub returns : goal.returns
returns c = record {
  found = search rules;
  among = search rules;
  own_table = search rules;
  traced = λ sorted own.
      ap (option_map view_original) (c.view_token.ensures ∙ ap (option_map (seen_in c.args.self.now)) (c.lookup_token.ensures.own_table sorted own))
      ∙ traced c.args.self.now c.args.line c.args.col;
}
