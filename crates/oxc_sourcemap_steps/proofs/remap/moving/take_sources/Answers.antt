use Rattle.std.proofs.Common.{◌∙◌, ap, map}
use Rattle.std.proofs.lemmas.List.{map-append}
use Rattle.std.specs.Cow.{cow_str_bytes}
use Rattle.oxc_sourcemap_steps.specs.RemapSteps.{source_record, source_records}
use Rattle.oxc_sourcemap_steps.proofs.MovedSources.{taken-more, taken-all}
use Rattle.oxc_sourcemap_steps.proofs.remap.moving.take_sources.Goals as goal

pub loop-path-preserved : goal.loop-path-preserved
loop-path-preserved c =
    taken-more (source_records c.loop-path.sources.items) _ (cow_str_bytes c.in-Some.path) _ _ _ _ _ _ (ap (map cow_str_bytes) c.in-Some.ensures.steps.0) c.next_content-content.ensures
    (ap source_records c.in_ok-push.ensures.items ∙ map-append source_record c.loop-path.sources.items _) c.loop-path.invariant

pub returns : goal.returns
returns c = taken-all cow_str_bytes _ _ _ _ _ c.loop-path.path-iterator.rest.ok.0 c.in-None.ensures.steps.0 c.loop-path.invariant
