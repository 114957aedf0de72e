use Rattle.std.specs.List.{flat_map}
use Rattle.std.specs.Char.Escape.{encode_utf16}
use Rattle.oxc_sourcemap_text.specs.Scans.{IsScan}
use Rattle.oxc_sourcemap_text.proofs.positions.scan.read_all.Given as goal

abbrev pub invariant-loop-ch : goal.invariant-loop-ch
invariant-loop-ch l = IsScan (flat_map encode_utf16 l.yielded) l.scan
