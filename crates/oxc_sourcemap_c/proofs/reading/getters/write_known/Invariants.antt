use Rattle.std.proofs.Common.{◌≡◌, map, take, drop, option_map}
use Rattle.std.specs.Cow.{cow_str_bytes}
use Rattle.oxc_sourcemap_c.specs.Answers.{known_flag}
use Rattle.oxc_sourcemap_c.proofs.reading.getters.write_known.Given as goal

abbrev pub invariant-loop-i : goal.invariant-loop-i
invariant-loop-i l = record {
  written : take l.i l.out ≡ map (λ content. known_flag (option_map cow_str_bytes content)) (take l.i l.contents);
  left : drop l.i l.out ≡ drop l.i l.fn.out;
}
