use Rattle.std.proofs.Common.{◌≡◌, ◌++◌, take, map}
use Rattle.oxc_sourcemap_lookup.specs.LineSpans.{count_before_line}
use Rattle.oxc_sourcemap_compiled.specs.Words.{table}
use Rattle.oxc_sourcemap_compiled.proofs.writing.lines.push_starts.Given as goal

abbrev pub invariant-loop-line : goal.invariant-loop-line
invariant-loop-line l = l.out.items ≡ l.initial.out.items ++ table (map (λ n. count_before_line n l.tokens) (take l.line-index l.lines))
