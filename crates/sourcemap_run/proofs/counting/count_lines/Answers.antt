use Rattle.std.proofs.Common.{map, string_bytes}
use Rattle.sourcemap_run.specs.Counts.{count_at}
use Rattle.sourcemap_run.proofs.LineCounts.{one_more_mark}
use Rattle.sourcemap_run.proofs.counting.count_lines.Goals as goal

pub loop-mark-preserved : goal.loop-mark-preserved
loop-mark-preserved c =
    one_more_mark (map string_bytes c.args.paths.now) c.args.marks.now c.loop-mark.mark-index c.path_at.result.now (count_at c.loop-mark.counts) (count_at c.raise.new.counts)
    c.loop-mark-test.true c.path_at.ensures c.loop-mark.invariant c.in_ok-raise.ensures
