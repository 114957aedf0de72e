use Rattle.std.proofs.Common.{◌≡◌, ℕ, ◌+◌, ◌*◌, ◌^◌, ◌<◌, ◌≤◌, ap, ◌∙◌, sym, arith, subst}
use Rattle.oxc_sourcemap_tokens.specs.Results.{lent_item}
use Rattle.oxc_sourcemap_compiled.specs.Compiled.{above_in}
use Rattle.oxc_sourcemap_compiled.proofs.Bits.{one-more, few-bits}
use Rattle.oxc_sourcemap_compiled.proofs.writing.blocks.token_number.Goals as goal

-- a field and a number of s bits above it: how many bits they have
more : (w f s v a rest n : ℕ) → f ≡ w → v ≡ a → a < 2 ^ w → rest < 2 ^ s → n ≡ v + 2 ^ f * rest → n < 2 ^ (w + s)
more w f s v a rest n ef ev small high is =
    let here : n ≡ a + 2 ^ w * rest = is ∙ ap (λ x. x + 2 ^ f * rest) ev ∙ ap (λ f. a + 2 ^ f * rest) ef in
    subst (λ n. n < 2 ^ (w + s)) (sym here) (one-more w s a rest small high)

fits : (w f s v a rest : ℕ) → f ≡ w → v ≡ a → a < 2 ^ w → rest < 2 ^ s → w + s ≤ 56 → v + 2 ^ f * rest < 18446744073709551616
fits w f s v a rest ef ev small high few =
    let below : v + 2 ^ f * rest < 2 ^ (w + s) = more w f s v a rest (v + 2 ^ f * rest) ef ev small high (omega arith) in
    omega (arith, below, few-bits (w + s) (omega (arith, few)))

pub joined_bits-more-requires-2-clause-fits : goal.joined_bits-more-requires-2-clause-fits
joined_bits-more-requires-2-clause-fits c =
    let b = c.args.block in
    let t = lent_item c.args.token in
    let fit = c.requires.fits in
    let name : c.from-name.result < 2 ^ b.name.width = omega (arith, fit.name, c.from-name.ensures, c.above.ensures) in
    let high = more b.src_col.width c.from.result b.name.width c.above-src_col.result (above_in 3 b.src_col t) c.from-name.result c.joined_bits-more.result c.from.ensures c.above-src_col.ensures fit.src_col name c.joined_bits-more.ensures in
    fits b.src_line.width c.from-2.result (b.src_col.width + b.name.width) c.above-src_line.result (above_in 2 b.src_line t) c.joined_bits-more.result c.from-2.ensures c.above-src_line.ensures fit.src_line high
    (omega (arith, c.requires.few))

pub joined_bits-more-requires-3-clause-fits : goal.joined_bits-more-requires-3-clause-fits
joined_bits-more-requires-3-clause-fits c =
    let b = c.args.block in
    let t = lent_item c.args.token in
    let fit = c.requires.fits in
    let name : c.from-name.result < 2 ^ b.name.width = omega (arith, fit.name, c.from-name.ensures, c.above.ensures) in
    let col = more b.src_col.width c.from.result b.name.width c.above-src_col.result (above_in 3 b.src_col t) c.from-name.result c.joined_bits-more.result c.from.ensures c.above-src_col.ensures fit.src_col name c.joined_bits-more.ensures in
    let line = more b.src_line.width c.from-2.result (b.src_col.width + b.name.width) c.above-src_line.result (above_in 2 b.src_line t) c.joined_bits-more.result c.joined_bits-more-2.result c.from-2.ensures c.above-src_line.ensures fit.src_line col c.joined_bits-more-2.ensures in
    fits b.source.width c.from-3.result (b.src_line.width + (b.src_col.width + b.name.width)) c.above-source.result (above_in 1 b.source t) c.joined_bits-more-2.result c.from-3.ensures c.above-source.ensures fit.source line
    (omega (arith, c.requires.few))

pub joined_bits-requires-clause-fits : goal.joined_bits-requires-clause-fits
joined_bits-requires-clause-fits c =
    let b = c.args.block in
    let t = lent_item c.args.token in
    let fit = c.requires.fits in
    let name : c.from-name.result < 2 ^ b.name.width = omega (arith, fit.name, c.from-name.ensures, c.above.ensures) in
    let col = more b.src_col.width c.from.result b.name.width c.above-src_col.result (above_in 3 b.src_col t) c.from-name.result c.joined_bits-more.result c.from.ensures c.above-src_col.ensures fit.src_col name c.joined_bits-more.ensures in
    let line = more b.src_line.width c.from-2.result (b.src_col.width + b.name.width) c.above-src_line.result (above_in 2 b.src_line t) c.joined_bits-more.result c.joined_bits-more-2.result c.from-2.ensures c.above-src_line.ensures fit.src_line col c.joined_bits-more-2.ensures in
    let source = more b.source.width c.from-3.result (b.src_line.width + (b.src_col.width + b.name.width)) c.above-source.result (above_in 1 b.source t) c.joined_bits-more-2.result c.joined_bits-more-3.result c.from-3.ensures c.above-source.ensures fit.source line c.joined_bits-more-3.ensures in
    fits b.column.width c.from-4.result (b.source.width + (b.src_line.width + (b.src_col.width + b.name.width))) c.above-column.result (above_in 0 b.column t) c.joined_bits-more-3.result c.from-4.ensures c.above-column.ensures fit.column source
    (omega (arith, c.requires.few))
