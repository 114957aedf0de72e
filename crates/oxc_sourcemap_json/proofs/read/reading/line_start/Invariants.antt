use Rattle.std.proofs.Common.{◌≡◌, ◌+◌, drop}
use Rattle.oxc_sourcemap_json.specs.Words.{line_start}
use Rattle.oxc_sourcemap_json.proofs.read.reading.line_start.Given as goal

abbrev pub invariant-loop-i : goal.invariant-loop-i
invariant-loop-i l = l.i + line_start (drop l.i l.text) l.left ≡ line_start l.text l.line
