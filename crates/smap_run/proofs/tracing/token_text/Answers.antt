use Rattle.std.proofs.Common.{ap, sym, ◌∙◌}
use Rattle.std.proofs.lemmas.Result.{IfOk-weaker}
use Rattle.oxc_sourcemap_tokens.specs.Results.{lent_item}
use Rattle.oxc_sourcemap_parts.specs.Views.{record_of_parts}
use Rattle.smap_run.proofs.Maps.{mapped_text, unmapped_text}
use Rattle.smap_run.proofs.tracing.token_text.Goals as goal

pub returns-in-Some-clause-text : goal.returns-in-Some-clause-text
returns-in-Some-clause-text c =
    let source = ap lent_item (sym c.in-Some.is) ∙ c.token_source.ensures in
    IfOk-weaker c.original_text.result _ _ (λ out e. e ∙ mapped_text (record_of_parts c.args.map.now) c.args.token.now c.in-Some.source.now c.get_src_line.result c.get_src_col.result (lent_item c.token_name.result) source
    c.get_src_line.ensures c.get_src_col.ensures c.token_name.ensures) c.original_text.ensures.text

pub returns-in_ok-from_str-in-None-clause-text : goal.returns-in_ok-from_str-in-None-clause-text
returns-in_ok-from_str-in-None-clause-text c =
    c.in_ok-from_str-in-None.ensures.ok ∙ unmapped_text (record_of_parts c.args.map.now) c.args.token.now (ap lent_item (sym c.in-None.is) ∙ c.token_source.ensures)
