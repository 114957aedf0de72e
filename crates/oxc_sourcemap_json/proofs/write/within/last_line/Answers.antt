use Rattle.std.proofs.Common.{sym, ◌∙◌}
use Rattle.oxc_sourcemap_json.proofs.ManyLines.{last_line-at}
use Rattle.oxc_sourcemap_json.proofs.write.within.last_line.Goals as goal

pub returns-in-Some : goal.returns-in-Some
returns-in-Some c = c.get_dst_line.ensures.value ∙ sym (last_line-at c.args.tokens.now c.in-Some.token.now (sym c.in-Some.ensures.value))
