use Rattle.std.proofs.Common.{refl}
use Rattle.oxc_sourcemap_tokens.specs.declared.errors.error.Field.TheVariants.{Version}
use Rattle.oxc_sourcemap_json.proofs.ShapeSpots.{at-member}
use Rattle.oxc_sourcemap_json.proofs.object.shape.read_version.Goals as goal

pub returns-in_default-clause-place : goal.returns-in_default-clause-place
returns-in_default-clause-place c = λ d n. at-member Version (λ x. refl) d c.misshapen.result c.misshapen.ensures
