use Rattle.std.proofs.Common.{ap, ◌∙◌}
use Rattle.oxc_sourcemap_parts.specs.Views.{texts_of, contents_of, record_of_parts}
use Rattle.oxc_sourcemap_tokens.specs.Results.{lent_item}
use Rattle.oxc_sourcemap_join.specs.Joined.{added}
use Rattle.oxc_sourcemap_join.specs.Joining.{map_of}
use Rattle.oxc_sourcemap_join.proofs.Adding.{as-added}
use Rattle.oxc_sourcemap_join.proofs.joined_parts.JoinedParts.add_copied.Goals as goal

pub returns : goal.returns
returns c =
    let p = c.args.parts.now in
    let strings = map_of (texts_of p.names) (texts_of p.sources) (contents_of p.source_contents) in
    let given = strings c.as_slice-tokens.result.now (lent_item c.as_deref-ignored.result) in
    let tokens = ap (λ ts. added c.args.self.now (strings ts (lent_item c.as_deref-ignored.result)) c.args.position) c.as_slice-tokens.ensures.value in
    let ignored = ap (λ is. added c.args.self.now (strings (record_of_parts p).tokens is) c.args.position) c.as_deref-ignored.ensures.value in
    as-added given (record_of_parts p) (tokens ∙ ignored) c.add.ensures
