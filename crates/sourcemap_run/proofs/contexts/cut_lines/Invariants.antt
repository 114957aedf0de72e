use Rattle.std.proofs.Common.{◌≡◌, ◌++◌, length, map, chars}
use denote.Shadow.{shadow}
use denote.Text.{Utf8}
use Rattle.oxc_sourcemap_text.specs.TextLines.{lines_of}
use Rattle.sourcemap_run.proofs.contexts.cut_lines.Given as goal

-- the lines so far, and those of the rest, are all
abbrev pub invariant-loop-line : goal.invariant-loop-line
invariant-loop-line l = record {
  lines : map (λ line. chars line.now) l.lines.items ++ lines_of (chars l.rest) ≡ lines_of (chars l.text);
  is_text : shadow (Utf8 l.rest);
}

abbrev pub decreases-loop-line : goal.decreases-loop-line
decreases-loop-line l = length l.rest
