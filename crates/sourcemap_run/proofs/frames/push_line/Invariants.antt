use Rattle.std.proofs.Common.{◌≡◌, ◌↔◌, ◌++◌, drop, string_bytes}
use Rattle.std.specs.Str.{IsCharBoundary}
use denote.Shadow.{shadow}
use denote.Text.{Utf8}
use Rattle.sourcemap_run.specs.Frames.{painted, AreInRow, line_led_back}
use Rattle.sourcemap_run.proofs.frames.push_line.Given as goal

-- what is printed so far, and the line from the last cut on, led back, are the line led back
abbrev pub invariant-loop-cut : goal.invariant-loop-cut
invariant-loop-cut l = record {
  text : string_bytes l.text ++ line_led_back (painted l.paint) l.tracers l.line l.from (drop l.cut-index l.cuts)
      ≡ line_led_back (painted l.paint) l.tracers l.line 0 l.cuts;
  row : AreInRow l.line l.from (drop l.cut-index l.cuts) ↔ AreInRow l.line 0 l.cuts;
  rest : l.rest ≡ drop l.from l.line;
  begins : IsCharBoundary l.line l.from;
  is_text : shadow (Utf8 l.rest);
}
