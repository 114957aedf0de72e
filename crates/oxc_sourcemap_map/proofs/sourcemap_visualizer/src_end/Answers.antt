use Rattle.std.proofs.Common.{arith}
use Rattle.std.proofs.lemmas.Grind.{common_steps}
use Rattle.oxc_sourcemap_map.proofs.SourceEnds.{src_end-found, src_end-further}
use Rattle.oxc_sourcemap_map.proofs.sourcemap_visualizer.src_end.Goals as goal

pub returns-then-get_src_col : goal.returns-then-get_src_col
returns-then-get_src_col c = grind (arith, common_steps, src_end-found)

pub loop-other-preserved : goal.loop-other-preserved
loop-other-preserved c = grind (arith, common_steps, src_end-further)
