use Rattle.std.proofs.Common.{ap, sym, ◌∙◌}
use Rattle.sourcemap_run.specs.Words.{lent_item}
use Rattle.sourcemap_run.proofs.Originals.{mapped_original, no_original}
use Rattle.sourcemap_run.proofs.tracer.Tracer.spot.Goals as goal

pub returns-in-Some : goal.returns-in-Some
returns-in-Some c =
    mapped_original c.args.self.now c.args.token.now c.in-Some.source.now (lent_item c.content.result) c.get_src_line.result c.get_src_col.result (lent_item c.name.result)
    (ap lent_item (sym c.in-Some.is) ∙ c.source.ensures) c.content.ensures c.get_src_line.ensures c.get_src_col.ensures c.name.ensures

pub returns-in-None : goal.returns-in-None
returns-in-None c = no_original c.args.self.now c.args.token.now (ap lent_item (sym c.in-None.is) ∙ c.source.ensures)
