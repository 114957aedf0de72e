use Rattle.std.proofs.Common.{◌≡◌, ◌-◌, ◌++◌, map, chars, string_bytes}
use Rattle.std.specs.List.{flat_map, range_with_len}
use Rattle.oxc_sourcemap_json.specs.Words.{OnlyAdds}
use Rattle.oxc_sourcemap_text.specs.TextLines.{line_at}
use Rattle.sourcemap_run.specs.Contexts.{context_line, lines_around}
use Rattle.sourcemap_run.proofs.contexts.push_lines_around.Given as goal

-- what is written so far, and the lines that are left, are all lines that are near
abbrev pub invariant-loop-number : goal.invariant-loop-number
invariant-loop-number l = record {
  bytes : string_bytes l.out
      ++ flat_map (λ n. context_line l.base l.position n (line_at (map (λ line. chars line.now) l.lines) n)) (range_with_len l.number (l.end - l.number))
      ≡ string_bytes l.fn.out ++ lines_around l.around l.base l.position (map (λ line. chars line.now) l.lines);
  adds : OnlyAdds l.fn.out l.out;
}
