use Rattle.std.proofs.Common.{arith, ◌≡◌, true, ◌&&◌, nat_le, length, ◌==◌, ◌++◌, string_bytes, ◌∙◌}
use Rattle.std.proofs.Common.{sym, ap}
use Rattle.std.proofs.lemmas.Bool.Decides.{nat_tests}
use Rattle.oxc_sourcemap_tokens.specs.LineOrder.{back_from}
use Rattle.oxc_sourcemap_tokens.specs.Chunks.{header}
use Rattle.oxc_sourcemap_mappings.specs.Encoding.{text_from}
use Rattle.oxc_sourcemap_mappings.proofs.Pieces.{piece-clean, piece-is}
use Rattle.oxc_sourcemap_mappings.proofs.Writing.{written-weaker}
use Rattle.oxc_sourcemap_mappings.proofs.encode.push_chunk.Goals as goal

pub returns-clause-text : goal.returns-clause-text
returns-clause-text c =
    let start = c.args.chunk.now.start == 0 in
    let text = ap (λ s. text_from start s c.tokens_of.result.now) c.header_of-header.ensures
    ∙ ap (λ ts. text_from start (header c.args.chunk.now) ts) c.tokens_of.ensures
    ∙ sym (piece-is c.args.tokens.now c.args.chunk.now) in
    written-weaker c.push_tokens.result (λ p. p ∙ ap (λ t. string_bytes c.args.out.now ++ t) text) c.push_tokens.ensures.ok

pub returns-clause-clean : goal.returns-clause-clean
returns-clause-clean c =
    let chunk = c.args.chunk.now in
    let part : (nat_le chunk.start chunk.end && nat_le chunk.end (length c.args.tokens.now)) ≡ true = grind (arith, nat_tests, c.is_part.ensures, c.if-not-is_part.false) in
    let order = ap (λ s. back_from s.dst_line 0 c.tokens_of.result.now) (sym c.header_of-header.ensures) in
    let tokens = ap (λ ts. back_from chunk.prev_dst_line 0 ts) (sym c.tokens_of.ensures) in
    written-weaker c.push_tokens.result (λ p. piece-clean c.args.tokens.now chunk part (tokens ∙ order ∙ p)) c.push_tokens.ensures.order
