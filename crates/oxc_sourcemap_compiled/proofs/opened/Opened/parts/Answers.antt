use Rattle.oxc_sourcemap_parts.specs.Words.{record_of_parts}
use Rattle.oxc_sourcemap_compiled.specs.Decompiled.{has_utf8_texts}
use Rattle.oxc_sourcemap_compiled.specs.Words.{map_in}
use Rattle.oxc_sourcemap_compiled.proofs.Counts.{few-made, tokens-few}
use Rattle.oxc_sourcemap_compiled.proofs.opened.Opened.parts.Goals as goal

pub returns-then-do_texts_follow-clause-few : goal.returns-then-do_texts_follow-clause-few
returns-then-do_texts_follow-clause-few c =
    let o = c.args.self.now in
    let r = map_in o.bytes.now o.header in
    few-made record_of_parts r o.header.tokens (has_utf8_texts r) c.all_parts.result c.all_parts.ensures (tokens-few o.bytes.now o.header (c.do_lines_follow.ensures.0 c.if-do_lines_follow.true))
