use Rattle.std.proofs.Common.{refl}
use Rattle.serde_json.specs.View.{view}
use Rattle.oxc_sourcemap_tokens.specs.declared.errors.error.Field.TheVariants.{File}
use Rattle.oxc_sourcemap_json.proofs.ShapeSpots.{as-within}
use Rattle.oxc_sourcemap_json.proofs.object.shape.read_file.Goals as goal

pub returns-clause-place : goal.returns-clause-place
returns-clause-place c = as-within File (λ x. refl) (view c.args.value.now) c.optional_text.result c.optional_text.ensures.fault
