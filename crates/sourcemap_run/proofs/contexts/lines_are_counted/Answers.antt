use Rattle.sourcemap_run.proofs.CountedLines.{lines_are_counted}
use Rattle.sourcemap_run.proofs.contexts.lines_are_counted.Goals as goal

pub returns : goal.returns
returns c = lines_are_counted
