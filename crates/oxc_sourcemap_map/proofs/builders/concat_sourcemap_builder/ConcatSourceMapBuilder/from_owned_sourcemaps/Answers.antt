use Rattle.std.proofs.Common.{ap, Err}
use Rattle.oxc_sourcemap_join.specs.Joined.{at_line, at_lines}
use Rattle.oxc_sourcemap_join.proofs.Adding.{error-of-all}
use Rattle.oxc_sourcemap_tokens.proofs.Carried.{carried_error}
use Rattle.oxc_sourcemap_map.proofs.builders.concat_sourcemap_builder.ConcatSourceMapBuilder.from_owned_sourcemaps.Goals as goal

pub returns-in_err-add_sourcemap_owned-clause-error :
    goal.returns-in_err-add_sourcemap_owned-clause-error
returns-in_err-add_sourcemap_owned-clause-error c =
    carried_error c.from_residual-in_err-add_sourcemap_owned.result c.in_err-add_sourcemap_owned.field-0.0 _ c.from_residual-in_err-add_sourcemap_owned.ensures.1
    (error-of-all c.loop-sourcemap.builder c.in-Some.sourcemap (at_line c.in-Some.line_offset) _ _ _ c.loop-sourcemap.invariant.all (ap at_lines c.in-Some.ensures.steps.0) c.in_err-add_sourcemap_owned.field-0.0
    c.in_err-add_sourcemap_owned.ensures.error (λ t. c.in_err-add_sourcemap_owned.ensures.too_large.0 (ap (λ x. Err x) t)))
