use Rattle.std.proofs.Common.{◌<◌, ◌^◌, ap, ◌∙◌, nat_lt, bit_and, rules}
use Rattle.oxc_sourcemap_lookup.proofs.Halving.{masked}
use Rattle.oxc_sourcemap_compiled.proofs.search.count_if_less.Goals as goal

pub returns : goal.returns
returns c =
    let fits : c.args.count < 2 ^ 64 = search rules in
    ap (bit_and c.args.count) c.mask_if_less.ensures ∙ masked (nat_lt c.args.x c.args.y) c.args.count fits
