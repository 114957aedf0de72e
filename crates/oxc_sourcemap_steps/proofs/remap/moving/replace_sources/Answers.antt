use Rattle.std.proofs.Common.{◌≡◌, ◌∙◌, ◌+◌, ◌++◌, ◌∷◌, [], ap, arith, get_or, length, subst, sym}
use Rattle.std.proofs.lemmas.List.{length-append}
use Rattle.std.specs.List.{flat_map}
use Rattle.oxc_sourcemap_steps.specs.RemapSteps.{source_lists, source_paths, source_record}
use Rattle.oxc_sourcemap_steps.specs.RemapSteps.{source_records, sources_in, listed_index}
use Rattle.oxc_sourcemap_steps.proofs.MovedSources.{in-kept, is-below, kept-next, left-more}
use Rattle.oxc_sourcemap_steps.proofs.MovedSources.{left-none, left-path, left-within, stands-more}
use Rattle.oxc_sourcemap_steps.proofs.remap.moving.replace_sources.Goals as goal

pub add_standing-requires-clause-below : goal.add_standing-requires-clause-below
add_standing-requires-clause-below c =
    is-below _ _ (length c.args.lists.items) _ c.listed_index-place.ensures (c.requires.below c.as_str.result.now) (sym c.loop-source.invariant.each)

pub add_standing-requires-clause-each : goal.add_standing-requires-clause-each
add_standing-requires-clause-each c = c.requires.each ∙ sym c.loop-source.invariant.each

pub loop-source-preserved : goal.loop-source-preserved
loop-source-preserved c =
    let places = c.args.places.now in
    let olds = source_lists c.args.lists.items in
    let lists = c.loop-source.lists.items in
    let last = c.args.last.now in
    let done = c.loop-source.yielded in
    let s = c.in-Some.source in
    let i = c.loop-source.i in
    let place = c.listed_index-place.result in
    let left = c.loop-source.invariant.left in
    let count = c.loop-source.invariant.count in
    let path = left-path done _ _ _ s c.in-Some.ensures.steps.0 left in
    let within = left-within done _ _ _ s c.in-Some.ensures.steps.0 left in
    let found = c.listed_index-place.ensures ∙ ap (listed_index places) c.as_str.ensures.value in
    let at : listed_index places (get_or (source_paths c.args.sources.items) i []) ≡ place =
    ap (λ n. listed_index places (get_or (source_paths c.args.sources.items) n [])) count ∙ ap (listed_index places) path ∙ sym found in
    let more : sources_in (source_lists lists) place (source_record s) ≡ sources_in olds (listed_index places (source_record s).path) (source_record s) =
    in-kept olds lists last i place (source_record s) c.loop-source.invariant.kept (λ k e. c.requires.last i k (omega (arith, count, within)) (at ∙ e))
    ∙ ap (λ o. sources_in olds o (source_record s)) found in
    let longer = length-append done (s ∷ []) in record {
      left = left-more done _ _ _ s c.in-Some.ensures.steps.0 left;
      count = omega (arith, count, longer);
      each = c.in_ok-add_standing.ensures.lists ∙ c.loop-source.invariant.each;
      kept = kept-next olds lists _ last i place c.loop-source.invariant.kept c.in_ok-add_standing.ensures.kept;
      all = stands-more (λ s. sources_in olds (listed_index places s.path) s) done s (source_records c.loop-source.all.items) _ _ c.loop-source.invariant.all c.in_ok-add_standing.ensures.added more;
    }

pub returns : goal.returns
returns c =
    let places = c.args.places.now in
    let olds = source_lists c.args.lists.items in
    c.loop-source.invariant.all
    ∙ ap (λ ss. flat_map (λ s. sources_in olds (listed_index places s.path) s) (source_records ss)) (left-none c.loop-source.yielded _ _ _ c.loop-source.source-iterator.rest.ok.0 c.in-None.ensures.steps.0 c.loop-source.invariant.left)
