use Rattle.oxc_sourcemap_lookup.specs.declared.bias.Bias.TheVariants.{Before}
use Rattle.oxc_sourcemap_c.proofs.Traced.{is_trace}
use Rattle.oxc_sourcemap_c.proofs.holding.held.LoadedMap.trace_by_usual.Goals as goal

pub returns : goal.returns
returns c = is_trace Before c.args.self.now.map c.args.at c.write_original.new.out c.find_usual.result c.write_original.ensures c.find_usual.ensures.found
