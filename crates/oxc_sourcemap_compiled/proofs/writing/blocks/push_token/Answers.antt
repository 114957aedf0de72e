use Rattle.std.proofs.Common.{◌^◌, ◌<◌, sym, subst}
use Rattle.oxc_sourcemap_tokens.specs.Results.{lent_item}
use Rattle.oxc_sourcemap_compiled.specs.Compiled.{token_bits}
use Rattle.oxc_sourcemap_compiled.proofs.Values.{token-small}
use Rattle.oxc_sourcemap_compiled.proofs.writing.blocks.push_token.Goals as goal

pub push_bits-requires-clause-fits : goal.push_bits-requires-clause-fits
push_bits-requires-clause-fits c =
    let b = c.args.block in
    let t = lent_item c.args.token in
    let small = subst (λ s. token_bits b t < 2 ^ s) (sym c.stride-stride.ensures.value) (token-small b t c.requires.fits) in
    subst (λ x. x < 2 ^ c.stride-stride.result) (sym c.token_number.ensures) small
