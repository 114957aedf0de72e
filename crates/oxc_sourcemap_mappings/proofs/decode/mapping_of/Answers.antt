use Rattle.std.proofs.Common.{refl, arith}
use Rattle.oxc_sourcemap_mappings.specs.declared.decode.TheConstants.{DIGITS}
use Rattle.oxc_sourcemap_mappings.specs.Number.{digit}
use Rattle.oxc_sourcemap_mappings.proofs.Table.{digit_entry, entry, entry-digit, entry-mark}
use Rattle.oxc_sourcemap_mappings.proofs.decode.mapping_of.Goals as goal

pub returns-clause-digit : goal.returns-clause-digit
unfolding digit
returns-clause-digit c = entry-digit c.args.byte _ (entry digit_entry DIGITS c.args.byte 0 refl (omega arith))

pub returns-clause-mark : goal.returns-clause-mark
unfolding digit
returns-clause-mark c = entry-mark c.args.byte _ (entry digit_entry DIGITS c.args.byte 0 refl (omega arith))
