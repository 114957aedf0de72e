use Rattle.std.proofs.Common.{◌-◌, length, string_bytes, IsCharBoundary}
use Rattle.oxc_sourcemap_json.proofs.PlainTokens.{ReadSoFar}
use Rattle.oxc_sourcemap_json.proofs.object.plain.escaped_text.Given as goal

abbrev pub invariant-escapes : goal.invariant-escapes
invariant-escapes l = ReadSoFar l.text l.from (string_bytes l.found) l.at × IsCharBoundary l.text l.at

abbrev pub decreases-escapes : goal.decreases-escapes
decreases-escapes l = length l.text - l.at
