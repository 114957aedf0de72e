use Rattle.std.proofs.Common.{◌≡◌, ◌++◌, drop, string_bytes}
use Rattle.std.specs.List.{flat_map}
use Rattle.oxc_sourcemap_json.specs.Words.{OnlyAdds}
use Rattle.sourcemap_run.specs.Lines.{answer_line}
use Rattle.sourcemap_run.proofs.answers.push_answers.Given as goal

-- what is written so far, and the lines of the positions that are left, are those of all positions
abbrev pub invariant-loop-position : goal.invariant-loop-position
invariant-loop-position l = record {
  bytes : string_bytes l.out ++ flat_map (answer_line l.style l.tracer) (drop l.position-index l.positions)
      ≡ string_bytes l.fn.out ++ flat_map (answer_line l.style l.tracer) l.positions;
  adds : OnlyAdds l.fn.out l.out;
}
