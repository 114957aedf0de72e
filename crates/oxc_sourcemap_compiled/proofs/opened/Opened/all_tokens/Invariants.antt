use Rattle.std.proofs.Common.{◌≡◌, map}
use Rattle.std.specs.List.{range_with_len}
use Rattle.oxc_sourcemap_compiled.specs.CompiledMeaning.{joined}
use Rattle.oxc_sourcemap_compiled.specs.Words.{entry_tokens}
use Rattle.oxc_sourcemap_compiled.proofs.opened.Opened.all_tokens.Given as goal

abbrev pub invariant-loop-k : goal.invariant-loop-k
invariant-loop-k l = l.tokens.items ≡ joined (map (entry_tokens l.self.bytes.now l.self.header) (range_with_len 0 l.k))
