use Rattle.std.proofs.Common.{◌∙◌, sym, ap}
use Rattle.oxc_sourcemap_tokens.specs.Chunks.{header}
use Rattle.oxc_sourcemap_tokens.specs.Steps.{advanced_all}
use Rattle.oxc_sourcemap_tokens.proofs.Fits.{last-fits, after-last}
use Rattle.oxc_sourcemap_tokens.proofs.chunks.after_chunks.Goals as goal

pub tokens_of-requires-clause-ordered : goal.tokens_of-requires-clause-ordered
tokens_of-requires-clause-ordered c = (last-fits c.args.tokens.now c.args.chunks.now c.in-Some.chunk.now c.requires (sym c.in-Some.ensures.value)).0.ordered

pub tokens_of-requires-clause-within : goal.tokens_of-requires-clause-within
tokens_of-requires-clause-within c = (last-fits c.args.tokens.now c.args.chunks.now c.in-Some.chunk.now c.requires (sym c.in-Some.ensures.value)).0.within

pub returns-in-Some : goal.returns-in-Some
returns-in-Some c =
    let fits = last-fits c.args.tokens.now c.args.chunks.now c.in-Some.chunk.now c.requires (sym c.in-Some.ensures.value) in
    c.after_all.ensures ∙ ap (λ s. advanced_all s c.tokens_of.result.now) c.header_of.ensures
    ∙ ap (advanced_all (header c.in-Some.chunk.now)) c.tokens_of.ensures ∙ after-last c.args.tokens.now c.in-Some.chunk.now fits.0 fits.1
