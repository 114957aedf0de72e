use Rattle.std.proofs.Common.{◌≡◌, ◌<◌, ℕ, length, get_or}
use Rattle.oxc_sourcemap_compiled.proofs.writing.lines.all_lines.Given as goal

abbrev pub invariant-loop-line : goal.invariant-loop-line
invariant-loop-line l = record {
  size : length l.lines.items ≡ l.line;
  each : (k : ℕ) → k < l.line → get_or l.lines.items k 0 ≡ k;
}
