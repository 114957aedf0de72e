use Rattle.std.proofs.Common.{sym, ap, ◌∙◌}
use Rattle.std.specs.Option.{option_map}
use Rattle.oxc_sourcemap_parts.specs.Views.{record_of_parts}
use Rattle.oxc_sourcemap_queries.specs.Originals.{source_of}
use Rattle.oxc_sourcemap_queries.proofs.Sources.{listed, source-none, source-some}
use Rattle.oxc_sourcemap_queries.proofs.differ.originals.source_at.Goals as goal

pub returns-in_err-path : goal.returns-in_err-path
returns-in_err-path c =
    let r = record_of_parts c.args.parts.now in
    ap (option_map source_of) c.from_residual.ensures ∙ sym (source-none r.sources r.source_contents c.args.id (sym c.in_err-path.ensures))

pub returns : goal.returns
returns c =
    let r = record_of_parts c.args.parts.now in
    let path = c.in_ok-path.path.now in
    ap (listed path) c.content_at.ensures ∙ sym (source-some r.sources r.source_contents c.args.id path (sym c.in_ok-path.ensures))
