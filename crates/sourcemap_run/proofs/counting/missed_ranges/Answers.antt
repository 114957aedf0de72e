use Rattle.std.proofs.Common.{◌≡◌, true, false, get_or, arith}
use Rattle.sourcemap_run.specs.Counts.{is_missed, missed_ranges}
use Rattle.sourcemap_run.proofs.MissedRanges.{ran, missed}
use Rattle.sourcemap_run.proofs.counting.missed_ranges.Goals as goal
use Rattle.sourcemap_run.proofs.counting.missed_ranges.Goals.{then-line-eq0}
use Rattle.sourcemap_run.proofs.counting.missed_ranges.Goals.{else-line-eq0+in_ok-close}

pub loop-line-preserved : goal.loop-line-preserved
loop-line-preserved c =
    let lines = c.args.lines.now in
    let i = c.loop-line.line-index in
    elim c.if-line-eq0.branch [
      | then-line-eq0 w ↦
          (let zero : is_missed (get_or lines i (0, 0)) ≡ true = grind (arith, w.if-line-eq0.true) in
          rw (w.ranges-is, w.range-is, w.opened.ensures)
          (missed c.loop-line.ranges.items c.loop-line.range lines i (missed_ranges lines) c.loop-line-test.true zero c.loop-line.invariant))
      | else-line-eq0+in_ok-close w ↦
          (let more : is_missed (get_or lines i (0, 0)) ≡ false = grind (arith, w.if-line-eq0.false) in
          rw (w.ranges-is, w.range-is)
          (ran c.loop-line.ranges.items w.close.new.ranges.items c.loop-line.range lines i (missed_ranges lines) c.loop-line-test.true more w.in_ok-close.ensures
          c.loop-line.invariant))
    ]
