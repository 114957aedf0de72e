use Rattle.oxc_sourcemap_text.proofs.Inverse.{inverse}
use Rattle.oxc_sourcemap_text.proofs.positions.laws.positions_and_offsets_inverse.Goals as goal

pub returns : goal.returns
returns c = inverse
