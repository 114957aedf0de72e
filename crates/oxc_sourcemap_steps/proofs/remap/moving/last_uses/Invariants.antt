use Rattle.std.proofs.Common.{◌≡◌, length}
use Rattle.oxc_sourcemap_steps.specs.RemapSteps.{AreLastUses, source_paths}
use Rattle.oxc_sourcemap_steps.proofs.remap.moving.last_uses.Given as goal

abbrev pub invariant-loop-i : goal.invariant-loop-i
invariant-loop-i l = record {
  each : length l.last.items ≡ l.count;
  last : AreLastUses l.i l.places (source_paths l.sources) l.last.items;
}
