use Rattle.oxc_sourcemap_c.proofs.Told.{told_as}
use Rattle.oxc_sourcemap_c.proofs.reading.urls.proved_source_mapping_url.Goals as goal

pub returns-clause-url : goal.returns-clause-url
returns-clause-url c =
    (c.source_mapping_url.result, c.source_mapping_url.ensures, told_as c.source_mapping_url.result c.write_told.result c.write_told.new.out c.args.out.now c.write_told.new.fault c.write_told.ensures)
