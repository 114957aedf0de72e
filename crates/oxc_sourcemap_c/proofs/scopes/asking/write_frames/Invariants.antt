use Rattle.std.proofs.Common.{◌≡◌, map, take, drop}
use Rattle.oxc_sourcemap_c.specs.ScopeNumbers.{frame_numbers}
use Rattle.oxc_sourcemap_c.proofs.scopes.asking.write_frames.Given as goal

abbrev pub invariant-loop-i : goal.invariant-loop-i
invariant-loop-i l = record {
  front : take l.i l.out ≡ map (frame_numbers l.scopes) (take l.i l.frames.frames.items);
  back : drop l.i l.out ≡ drop l.i l.initial.out;
}
