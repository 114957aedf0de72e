use Rattle.std.proofs.Common.{ap, sym, ◌∙◌, ◌-◌, length, slice_get}
use Rattle.oxc_sourcemap_join.proofs.Moving.{last-slice_get}
use Rattle.oxc_sourcemap_join.proofs.joined_parts.JoinedParts.last_token.Goals as goal

pub returns : goal.returns
returns c =
    c.copied.ensures ∙ c.last.ensures.value
    ∙ ap (λ ts. slice_get ts (length ts - 1)) (c.as_slice.ensures.value ∙ ap (λ r. r.tokens) c.self.view_is)
    ∙ sym (last-slice_get c.args.self.now.tokens)
