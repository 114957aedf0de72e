use Rattle.std.proofs.Common.{◌≡◌, ◌-◌, ◌++◌, map}
use Rattle.std.specs.List.{range_with_len}
use Rattle.oxc_sourcemap_compiled.specs.Words.{token_in, entry_begin}
use Rattle.oxc_sourcemap_compiled.proofs.opened.Opened.push_entry.Given as goal

abbrev pub invariant-loop-i : goal.invariant-loop-i
invariant-loop-i l =
    l.out.items
    ≡ l.fn.out.items ++ map (token_in l.self.bytes.now l.self.header l.line) (range_with_len (entry_begin l.self.bytes.now l.self.header l.k) (l.i - entry_begin l.self.bytes.now l.self.header l.k))
