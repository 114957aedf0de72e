use Rattle.std.proofs.Common.{◌+◌, get_or, arith}
use Rattle.oxc_sourcemap_compiled.proofs.Slices.{line-below}
use Rattle.oxc_sourcemap_compiled.proofs.writing.lines.all_lines.Goals as goal

pub returns-clause-lines : goal.returns-clause-lines
returns-clause-lines c =
    let h = c.loop-line.invariant in
    let size = h.size in record {
      rise = λ k lt. omega (arith, h.each k (omega (arith, lt, size)), h.each (k + 1) (omega (arith, lt, size)));
      each = λ i d lt.
          let below = line-below c.args.tokens.now i d c.requires.sorted lt in
          let line = (get_or c.args.tokens.now i d).dst_line in
          (line, omega (arith, below, size, c.requires.count, c.loop-line-test.false), h.each line (omega (arith, below, c.requires.count, c.loop-line-test.false)));
    }
