use Rattle.std.proofs.Common.{subst}
use Rattle.oxc_sourcemap_c.specs.Builders.{IsStepError}
use Rattle.oxc_sourcemap_c.proofs.making.builders.make.Goals as goal

pub returns-in-Name-clause-sure : goal.returns-in-Name-clause-sure
returns-in-Name-clause-sure c = λ r is. c.add_name.ensures.sure r (subst (λ step. IsStepError step c.args.builder.now r) c.in-Name.is is)

pub returns-in-Source-clause-sure : goal.returns-in-Source-clause-sure
returns-in-Source-clause-sure c = λ r is. c.add_source.ensures.sure r (subst (λ step. IsStepError step c.args.builder.now r) c.in-Source.is is)

pub returns-in-SourceAndContent-clause-sure : goal.returns-in-SourceAndContent-clause-sure
returns-in-SourceAndContent-clause-sure c =
    λ r is. c.add_source_and_content.ensures.sure r (subst (λ step. IsStepError step c.args.builder.now r) c.in-SourceAndContent.is is)
