use Rattle.std.proofs.Common.{◌∙◌, subst, List, map, slice_get, ℕ, Some}
use Rattle.std.specs.Option.{option_and_then}
use Rattle.oxc_sourcemap_steps.specs.SimplifySteps.{listed_once, IsNewId}
use Rattle.oxc_sourcemap_steps.specs.declared.simplify.sources.Source.{Source}
use Rattle.oxc_sourcemap_tokens.specs.Token.{kept_id}
use Rattle.oxc_sourcemap_steps.proofs.Renumbered.{renumbered-token, listed-name, fields-by}
use Rattle.oxc_sourcemap_steps.proofs.simplify.tokens.renumber_token.Goals as goal

pub returns-clause-token : goal.returns-clause-token
returns-clause-token c =
    let tables = c.args.tables.now in
    let names = tables.names.items in
    let t = c.args.token.now in
    let ks = c.source_id.new.ids.numbering.order.items in
    let ns = c.name_id.new.ids.numbering.order.items in
    let sources : List Source = tables.sources.items in
    let id = c.in_ok-source.source in
    let name = c.in_ok-name.name in
    let source : IsNewId ks (option_and_then (slice_get sources) t.source_id) id =
    subst (λ i. IsNewId ks (option_and_then (slice_get sources) i) id) c.get_source_id.ensures.value
    (subst (λ (ss : List Source). IsNewId ks (option_and_then (slice_get ss) c.get_source_id.result) id) c.as_slice-sources.ensures.value c.in_ok-source.ensures.id) in
    let named : IsNewId ns (option_and_then (slice_get (map listed_once names)) t.name_id) name =
    subst (λ i. IsNewId ns (option_and_then (slice_get (map listed_once names)) i) name) c.get_name_id.ensures.value
    (subst (λ (xs : List ℕ). IsNewId ns (option_and_then (slice_get (map listed_once xs)) c.get_name_id.result) name) c.as_slice.ensures.value c.in_ok-name.ensures.id) in
    c.new-2.ensures
    ∙ fields-by _ _ _ _ t.dst_line t.dst_col t.src_line t.src_col (kept_id (Some id)) (kept_id (Some name)) c.get_dst_line-line.ensures.value c.get_dst_col-col.ensures c.get_src_line-src_line.ensures c.get_src_col.ensures
    ∙ renumbered-token names ks ns t (option_and_then (slice_get sources) t.source_id) _ id name source c.if-source.false named (listed-name names t.name_id)
