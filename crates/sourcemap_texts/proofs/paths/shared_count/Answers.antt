use Rattle.std.proofs.Common.{◌∙◌, ap, arith}
use Rattle.std.specs.List.{common_prefix_len}
use Rattle.std.specs.Str.{bytes_eq}
use Rattle.std.proofs.lemmas.List.{length-map}
use Rattle.std.proofs.lemmas.List.Sums.{common_prefix_len-le}
use Rattle.oxc_sourcemap_tokens.specs.Results.{lent_items}
use Rattle.sourcemap_texts.proofs.Ways.{same_front, none_shared}
use Rattle.sourcemap_texts.proofs.paths.shared_count.Goals as goal

pub returns-clause-same : goal.returns-clause-same
returns-clause-same c = rw (c.common_count.ensures, c.as_slice.ensures.value) (same_front (lent_items c.args.base.now) (lent_items c.args.place.now.parts.items))

pub returns-clause-apart : goal.returns-clause-apart
returns-clause-apart c =
    rw (c.common_count.ensures, c.as_slice.ensures.value) (λ name from into. absurd (none_shared (lent_items c.args.base.now) (lent_items c.args.place.now.parts.items) name from into))

pub returns-clause-within : goal.returns-clause-within
returns-clause-within c =
    let base = c.args.base.now in
    let parts = c.args.place.now.parts.items in
    let fits = common_prefix_len-le bytes_eq (lent_items base) (lent_items parts) in
    let is = c.common_count.ensures ∙ ap (λ l. common_prefix_len bytes_eq (lent_items base) (lent_items l)) c.as_slice.ensures.value in
    (omega (arith, is, fits.0, length-map base (λ x. x.now)), omega (arith, is, fits.1, length-map parts (λ x. x.now)))
