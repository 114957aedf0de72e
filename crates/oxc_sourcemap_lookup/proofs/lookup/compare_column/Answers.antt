use Rattle.std.proofs.Common.{◌≡◌, ◌<◌, ◌^◌, ap, ◌∙◌, nat_lt, if◌then◌else◌, bit_and, arith, rules}
use Rattle.std.proofs.lemmas.Grind.{common_steps}
use Rattle.oxc_sourcemap_lookup.proofs.Halving.{masked}
use Rattle.oxc_sourcemap_lookup.proofs.lookup.compare_column.Goals as goal

pub returns-clause-value : goal.returns-clause-value
returns-clause-value c =
    let fits : c.args.count < 2 ^ 64 = search rules in
    let col : c.get_dst_col.result ≡ c.args.token.now.dst_col = grind (arith, common_steps) in
    ap (bit_and c.args.count) c.mask_if_less.ensures
    ∙ masked (nat_lt c.get_dst_col.result c.args.col) c.args.count fits
    ∙ ap (λ x. if nat_lt x c.args.col then c.args.count else 0) col
