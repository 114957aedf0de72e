use Rattle.std.proofs.Common.{◌<◌, subst, length}
use Rattle.oxc_sourcemap_steps.specs.SimplifySteps.{IsBelow}
use Rattle.oxc_sourcemap_steps.proofs.NextNumbers.{place-small}
use Rattle.oxc_sourcemap_steps.proofs.simplify.numbering.number_of.Goals as goal

pub returns-clause-small : goal.returns-clause-small
returns-clause-small c =
    let ns = c.args.numbering.now.numbers.items in
    let k = c.in_ok-k.field-0 in
    let within : k < length ns = subst (IsBelow (length ns)) c.in_ok-k.was c.requires.within in
    place-small ns k c.args.numbering.now.order.items c.index.result.now (c.requires.numbering.numbers k within) c.index.ensures c.requires.numbering.few
