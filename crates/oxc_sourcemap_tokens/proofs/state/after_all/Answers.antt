use Rattle.std.proofs.Common.{ap, sym, ◌∙◌}
use Rattle.std.specs.Option.{unwrap_or}
use Rattle.oxc_sourcemap_tokens.specs.Steps.{state_of}
use Rattle.oxc_sourcemap_tokens.proofs.Last.{state-by-last}
use Rattle.oxc_sourcemap_tokens.proofs.state.after_all.Goals as goal

pub returns : goal.returns
returns c =
    let p = c.args.previous in
    state-by-last (state_of p) c.args.tokens.now c.in-Some.last.now c.get_dst_line.result c.get_dst_col.result c.unwrap_or-source_id.result c.unwrap_or.result
    c.get_dst_line.ensures.value c.get_dst_col.ensures (sym c.in-Some.ensures.value)
    (c.unwrap_or-source_id.ensures ∙ ap (λ o. unwrap_or o (p.source_id, p.src_line, p.src_col)) c.last_source.ensures)
    (c.unwrap_or.ensures ∙ ap (λ o. unwrap_or o p.name_id) c.last_name.ensures)
