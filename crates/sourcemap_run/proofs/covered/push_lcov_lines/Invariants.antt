use Rattle.std.proofs.Common.{◌≡◌, ◌++◌, drop, string_bytes}
use Rattle.std.specs.List.{flat_map}
use Rattle.oxc_sourcemap_json.specs.Words.{OnlyAdds}
use Rattle.sourcemap_run.specs.Covered.{lcov_line}
use Rattle.sourcemap_run.proofs.covered.push_lcov_lines.Given as goal

-- what is written so far, and the lines that are left, are all lines
abbrev pub invariant-loop-line : goal.invariant-loop-line
invariant-loop-line l = record {
  bytes : string_bytes l.out ++ flat_map lcov_line (drop l.line-index l.lines) ≡ string_bytes l.fn.out ++ flat_map lcov_line l.lines;
  adds : OnlyAdds l.fn.out l.out;
}
