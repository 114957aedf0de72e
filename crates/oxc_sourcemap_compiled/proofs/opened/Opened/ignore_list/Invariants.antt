use Rattle.std.proofs.Common.{◌≡◌, map}
use Rattle.std.specs.List.{range_with_len}
use Rattle.oxc_sourcemap_compiled.specs.Words.{ignored_in}
use Rattle.oxc_sourcemap_compiled.proofs.opened.Opened.ignore_list.Given as goal

abbrev pub invariant-loop-i : goal.invariant-loop-i
invariant-loop-i l = l.ids.items ≡ map (ignored_in l.self.bytes.now l.self.header) (range_with_len 0 l.i)
