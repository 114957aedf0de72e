use Rattle.std.proofs.Common.{refl, sym, ap, ◌∙◌}
use Rattle.oxc_sourcemap_parts.specs.Views.{record_of_parts}
use Rattle.oxc_sourcemap_queries.specs.Originals.{source_with}
use Rattle.oxc_sourcemap_queries.proofs.Sources.{shared-equal}
use Rattle.oxc_sourcemap_queries.proofs.differ.originals.lead_to_equal_sources.Goals as goal

pub returns-then-is_shared-clause-same : goal.returns-then-is_shared-clause-same
returns-then-is_shared-clause-same c =
    let a = record_of_parts c.args.a.now in
    let b = record_of_parts c.args.b.now in
    let first = c.get_source_id-first in
    let second = c.get_source_id-second in
    let same = shared-equal a b first.result second.result c.args.equal.now.shared c.requires.shared (sym c.is_shared.ensures ∙ c.if-is_shared.true) in
    ((λ _. ap (source_with a) (sym first.ensures.value) ∙ same ∙ ap (source_with b) second.ensures.value), (λ _. refl))
