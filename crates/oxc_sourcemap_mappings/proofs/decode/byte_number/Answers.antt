use Rattle.std.proofs.Common.{refl, arith}
use Rattle.oxc_sourcemap_mappings.specs.declared.decode.TheConstants.{NUMBERS}
use Rattle.oxc_sourcemap_mappings.specs.Number.{digit}
use Rattle.oxc_sourcemap_mappings.proofs.Table.{number_at, entry-number, entry-more, entry-end}
use Rattle.oxc_sourcemap_mappings.proofs.decode.byte_number.Goals as goal

pub returns-clause-number : goal.returns-clause-number
unfolding digit
returns-clause-number c = entry-number c.args.byte _ (number_at NUMBERS c.args.byte refl (omega arith))

pub returns-clause-more : goal.returns-clause-more
unfolding digit
returns-clause-more c = entry-more c.args.byte _ (number_at NUMBERS c.args.byte refl (omega arith))

pub returns-clause-mark : goal.returns-clause-mark
unfolding digit
returns-clause-mark c = entry-end c.args.byte _ (number_at NUMBERS c.args.byte refl (omega arith))
