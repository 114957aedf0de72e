use Rattle.std.proofs.Common.{◌≡◌, ◌+◌, arith}
use Rattle.oxc_sourcemap_tokens.specs.Results.{lent_item}
use Rattle.oxc_sourcemap_compiled.specs.Compiled.{stride_of, above_in}
use Rattle.oxc_sourcemap_compiled.proofs.Bits.{same-written, five-values}
use Rattle.oxc_sourcemap_compiled.proofs.writing.blocks.push_fields.Goals as goal

pub returns-clause-written : goal.returns-clause-written
returns-clause-written c = λ old bits number h.
    let b = c.args.block in
    let t = lent_item c.args.token in
    let h1 = c.in_ok-rest.ensures.written old bits number h in
    let h2 = c.in_ok-rest-2.ensures.written old _ _ h1 in
    let h3 = c.in_ok-rest-3.ensures.written old _ _ h2 in
    let h4 = c.in_ok-rest-4.ensures.written old _ _ h3 in
    let h5 = c.in_ok-rest-5.ensures.written old _ _ h4 in
    let whole : bits + b.column.width + b.source.width + b.src_line.width + b.src_col.width + b.name.width ≡ bits + stride_of b = omega arith in
    same-written old c.push_field-5.new.out.items c.in_ok-rest-5.rest _ _ _ _ whole
    (five-values number bits b.column.width b.source.width b.src_line.width b.src_col.width
    (above_in 0 b.column t) (above_in 1 b.source t) (above_in 2 b.src_line t) (above_in 3 b.src_col t) (above_in 4 b.name t)) h5
