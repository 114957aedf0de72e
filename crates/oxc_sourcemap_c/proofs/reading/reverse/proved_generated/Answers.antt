use Rattle.oxc_sourcemap_c.specs.Holding.{held_loaded}
use Rattle.oxc_sourcemap_c.specs.Reading.{source_place}
use Rattle.oxc_sourcemap_c.specs.Reverse.{generated_in, tokens_in}
use Rattle.oxc_sourcemap_c.proofs.Told.{first_written}
use Rattle.oxc_sourcemap_c.proofs.reading.reverse.proved_generated.Goals as goal

pub returns-clause-found : goal.returns-clause-found
returns-clause-found c =
    first_written (generated_in (held_loaded c.args.map.now.held) c.args.direction (source_place c.args.source_id c.args.line c.args.column)) (tokens_in (held_loaded c.args.map.now.held))
    c.generated.result c.write_token.result c.write_token.new.index c.write_token.new.token c.args.index.now c.args.token.now c.generated.ensures.found c.write_token.ensures
