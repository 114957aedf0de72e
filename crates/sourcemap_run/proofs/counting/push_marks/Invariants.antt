use Rattle.std.proofs.Common.{◌≡◌, ◌++◌}
use Rattle.std.specs.List.{filter_map}
use Rattle.sourcemap_run.specs.Marks.{mark_of}
use Rattle.sourcemap_run.proofs.counting.push_marks.Given as goal

-- the marks so far are those of the pieces so far
abbrev pub invariant-loop-piece : goal.invariant-loop-piece
invariant-loop-piece l = l.marks.items ≡ l.fn.marks.items ++ filter_map (mark_of l.block.count) l.yielded
