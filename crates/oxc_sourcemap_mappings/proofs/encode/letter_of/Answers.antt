use Rattle.std.proofs.Common.{refl}
use Rattle.oxc_sourcemap_mappings.specs.declared.encode.TheConstants.{LETTERS}
use Rattle.oxc_sourcemap_mappings.specs.Canonical.{letter}
use Rattle.oxc_sourcemap_mappings.proofs.Letters.{all_by, entry-by}
use Rattle.oxc_sourcemap_mappings.proofs.encode.letter_of.Goals as goal

pub returns : goal.returns
unfolding all_by letter
returns c = entry-by letter LETTERS 64 refl c.args.digit c.requires
