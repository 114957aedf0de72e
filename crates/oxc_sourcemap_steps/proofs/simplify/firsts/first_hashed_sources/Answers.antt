use Rattle.std.proofs.Common.{◌≡◌, ◌∙◌, ◌<◌, ◌≤◌, refl, sym, ap, arith, map, length}
use Rattle.std.proofs.lemmas.List.{length-map, take_all}
use Rattle.std.specs.Cow.{cow_str_bytes}
use Rattle.std.specs.List.{position_from}
use Rattle.std.specs.Option.{unwrap_or}
use Rattle.oxc_sourcemap_parts.specs.Views.{texts_of, contents_of}
use Rattle.oxc_sourcemap_steps.proofs.SourceBlocks.{length-sources_of}
use Rattle.oxc_sourcemap_steps.specs.Same.{is_same_source}
use Rattle.oxc_sourcemap_steps.specs.SimplifySteps.{sources_in, lent_source, found_for}
use Rattle.oxc_sourcemap_steps.proofs.FirstOnes.{places-next, firsts-next}
use Rattle.oxc_sourcemap_steps.proofs.NextNumbers.{get-of}
use Rattle.oxc_sourcemap_steps.proofs.Same.{decides_source}
use Rattle.oxc_sourcemap_steps.proofs.simplify.firsts.first_hashed_sources.Goals as goal

pub loop-i-preserved : goal.loop-i-preserved
loop-i-preserved c =
    let parts = c.args.parts.now in
    let items = sources_in parts in
    let i = c.loop-i.i in
    let key = c.source_at.result in
    let m = c.loop-i.places in
    let inv = c.loop-i.invariant in
    let count : length items ≡ length parts.sources.items = length-sources_of (texts_of parts.sources) (contents_of parts.source_contents) ∙ length-map parts.sources.items cow_str_bytes in
    let here : i < length items = omega (arith, c.loop-i-test.true, c.len-i-end.ensures, count, parts.sources.ok.0) in
    let at = c.source_at.ensures in
    let s = lent_source key in
    let value = c.in_ok-keep_source.ensures.value in record {
      places = λ q. places-next items i key q (found_for m key) (found_for m q) _ here at (c.in_ok-keep_source.ensures.others q) (inv.places key) (inv.places q);
      firsts = firsts-next is_same_source items i s c.loop-i.firsts.items _ c.in_ok-keep_source.field-0 here (sym (get-of items i s s at)) ((decides_source s s).1 refl)
          c.in_ok-push.ensures.items (value ∙ ap (λ o. unwrap_or o i) (inv.places key)) inv.firsts;
    }

pub returns : goal.returns
returns c =
    let parts = c.args.parts.now in
    let items = sources_in parts in
    let count : length items ≡ length parts.sources.items = length-sources_of (texts_of parts.sources) (contents_of parts.source_contents) ∙ length-map parts.sources.items cow_str_bytes in
    let all : length items ≤ c.loop-i.i = omega (arith, c.loop-i-test.false, c.len-i-end.ensures, count, parts.sources.ok.0) in
    c.loop-i.invariant.firsts ∙ ap (map (λ s. position_from (is_same_source s) 0 items)) (take_all c.loop-i.i items all)
