use Rattle.oxc_sourcemap_c.proofs.Traced.{is_trace}
use Rattle.oxc_sourcemap_c.proofs.holding.held.LoadedMap.trace_by.Goals as goal

pub returns : goal.returns
returns c = is_trace c.args.bias c.args.self.now.map c.args.at c.write_original.new.out c.find.result c.write_original.ensures c.find.ensures.found
