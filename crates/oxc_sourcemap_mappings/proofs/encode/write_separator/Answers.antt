use Rattle.std.proofs.Common.{arith, refl}
use Rattle.oxc_sourcemap_mappings.proofs.Placing.{semicolons-placed}
use Rattle.oxc_sourcemap_mappings.proofs.encode.write_separator.Goals as goal

pub returns-else-lines-eq0-clause-bytes : goal.returns-else-lines-eq0-clause-bytes
returns-else-lines-eq0-clause-bytes c = semicolons-placed c.args.is_first c.args.buf.now c.copy_from_slice.new.self c.args.at _ _ c.args.lines (omega (arith, c.requires.room)) c.copy_from_slice.ensures.after refl c.requires.few (omega (arith, c.if-lines-eq0.false))
