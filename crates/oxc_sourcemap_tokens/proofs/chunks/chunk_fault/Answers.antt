use Rattle.std.proofs.Common.{arith, ◌∙◌, sym, get_or}
use Rattle.std.proofs.lemmas.Grind.{common_steps}
use Rattle.oxc_sourcemap_tokens.specs.declared.token.TokenChunk.{TokenChunk}
use Rattle.oxc_sourcemap_tokens.specs.Steps.{state_of}
use Rattle.oxc_sourcemap_tokens.proofs.Fits.{first_misfit-header, first_misfit-step}
use Rattle.oxc_sourcemap_tokens.proofs.Fits.{first_misfit-fits, further}
use Rattle.oxc_sourcemap_tokens.proofs.chunks.chunk_fault.Goals as goal

abbrev none : TokenChunk
none = record { start = 0; end = 0; prev_dst_line = 0; prev_dst_col = 0; prev_src_line = 0; prev_src_col = 0; prev_name_id = 0; prev_source_id = 0 }

pub returns-then-not-is_header_of-clause-misfit : goal.returns-then-not-is_header_of-clause-misfit
returns-then-not-is_header_of-clause-misfit c =
    sym (first_misfit-header c.args.tokens.now c.loop-k.done c.args.chunks.now c.loop-k.k none c.loop-k-test.true (state_of c.loop-k.previous) c.if-start-done.false c.loop-k.invariant.state_is (sym c.is_header_of.ensures ∙ c.if-not-is_header_of.true))
    ∙ c.loop-k.invariant.rest

pub loop-k-preserved : goal.loop-k-preserved
loop-k-preserved c = record {
  state_is = c.after_all-previous.ensures ∙ further c.args.tokens.now (state_of c.loop-k.previous) c.loop-k.done (get_or c.args.chunks.now c.loop-k.k none).start (get_or c.args.chunks.now c.loop-k.k none).end c.if-start-done.false c.if-start-end.false c.loop-k.invariant.state_is;
  within = c.if-end-tokens.false;
  rest = sym (first_misfit-step c.args.tokens.now c.loop-k.done c.args.chunks.now c.loop-k.k none c.loop-k-test.true (state_of c.loop-k.previous) c.if-start-done.false c.if-start-end.false c.if-end-tokens.false c.loop-k.invariant.state_is (sym c.is_header_of.ensures ∙ c.if-not-is_header_of.false)) ∙ c.loop-k.invariant.rest;
}

pub returns-then-start-done-clause-misfit : goal.returns-then-start-done-clause-misfit
returns-then-start-done-clause-misfit c = grind (arith, common_steps)

pub returns-then-done-tokens-clause-misfit : goal.returns-then-done-tokens-clause-misfit
returns-then-done-tokens-clause-misfit c = grind (arith, common_steps)

pub returns-else-done-tokens-clause-misfit : goal.returns-else-done-tokens-clause-misfit
returns-else-done-tokens-clause-misfit c = grind (arith, common_steps)

pub returns-then-start-done-clause-fits : goal.returns-then-start-done-clause-fits
returns-then-start-done-clause-fits c = first_misfit-fits c.args.tokens.now c.args.chunks.now _ (returns-then-start-done-clause-misfit c)

pub returns-then-not-is_header_of-clause-fits : goal.returns-then-not-is_header_of-clause-fits
returns-then-not-is_header_of-clause-fits c = first_misfit-fits c.args.tokens.now c.args.chunks.now _ (returns-then-not-is_header_of-clause-misfit c)

pub returns-then-done-tokens-clause-fits : goal.returns-then-done-tokens-clause-fits
returns-then-done-tokens-clause-fits c = first_misfit-fits c.args.tokens.now c.args.chunks.now _ (returns-then-done-tokens-clause-misfit c)

pub returns-else-done-tokens-clause-fits : goal.returns-else-done-tokens-clause-fits
returns-else-done-tokens-clause-fits c = first_misfit-fits c.args.tokens.now c.args.chunks.now _ (returns-else-done-tokens-clause-misfit c)
