use Rattle.std.proofs.Common.{◌≡◌, ◌++◌, ◌+◌, drop}
use Rattle.oxc_sourcemap_steps.specs.RemapSteps.{set_from}
use Rattle.oxc_sourcemap_steps.proofs.remap.lists.add_ignored.Given as goal

-- the ids so far and those of the flags that are left
abbrev pub invariant-loop-i : goal.invariant-loop-i
invariant-loop-i l =
    l.ids.items ++ set_from (l.block.start + l.i) (drop l.i l.block.ignored.now)
    ≡ l.fn.ids.items ++ set_from l.block.start l.block.ignored.now
