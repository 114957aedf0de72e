use Rattle.std.proofs.Common.{map, subst, sym, None}
use Rattle.std.specs.Vec.Iter.{into_iter_items}
use Rattle.oxc_sourcemap_parts.specs.Views.{text_of}
use Rattle.oxc_sourcemap_steps.specs.RemapSteps.{HasNext}
use Rattle.oxc_sourcemap_steps.proofs.MovedSources.{has-next}
use Rattle.oxc_sourcemap_steps.proofs.remap.moving.next_content.Goals as goal

pub returns : goal.returns
returns c =
    let olds = into_iter_items c.args.contents.now in
    let news = into_iter_items c.next.new.self in
    subst (λ o. HasNext (map text_of olds) (text_of o) (map text_of news)) (sym c.unwrap_or.ensures)
    (has-next olds news _ _ c.next.result c.args.contents.now.rest.ok.0 c.next.new.self.rest.ok.0 c.next.ensures.cases)
