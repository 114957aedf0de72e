use Rattle.std.proofs.Common.{◌+◌, Err, drop, ap, ◌∙◌, sym, ◌∷◌}
use Rattle.std.proofs.lemmas.List.{drop_more}
use Rattle.oxc_sourcemap_join.specs.Joined.{at_line, lent_maps}
use Rattle.oxc_sourcemap_join.proofs.Adding.{error-of-all}
use Rattle.oxc_sourcemap_tokens.proofs.Carried.{carried_error}
use Rattle.oxc_sourcemap_map.proofs.builders.concat_sourcemap_builder.ConcatSourceMapBuilder.from_sourcemaps.Goals as goal

pub returns-in_err-add_sourcemap-clause-error : goal.returns-in_err-add_sourcemap-clause-error
returns-in_err-add_sourcemap-clause-error c =
    let maps = c.args.sourcemap_and_line_offsets.now in
    let i = c.loop-sourcemap.sourcemap-index in
    let item = c.loop-sourcemap-item.result in
    let left = ap lent_maps (drop_more maps i item c.loop-sourcemap-test.true ∙ ap (λ x. x ∷ drop (i + 1) maps) (sym c.loop-sourcemap-item.is)) in
    carried_error c.from_residual-in_err-add_sourcemap.result c.in_err-add_sourcemap.field-0.0 _ c.from_residual-in_err-add_sourcemap.ensures.1
    (error-of-all c.loop-sourcemap.builder item.0.now (at_line item.1) _ (lent_maps (drop (i + 1) maps)) _ c.loop-sourcemap.invariant.all left c.in_err-add_sourcemap.field-0.0
    c.in_err-add_sourcemap.ensures.error (λ t. c.in_err-add_sourcemap.ensures.too_large.0 (ap (λ x. Err x) t)))
