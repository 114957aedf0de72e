use Rattle.std.proofs.Common.{rules, arith, ◌≡◌, ◌++◌, ◌∙◌, sym, ap, Some, None, string_bytes}
use Rattle.oxc_sourcemap_tokens.specs.Chunks.{ChunksFit}
use Rattle.oxc_sourcemap_mappings.proofs.Writing.{extends-none, cut-back, cut-place}
use Rattle.oxc_sourcemap_mappings.proofs.Pieces.{pieces-is, chunks-clean}
use Rattle.oxc_sourcemap_mappings.proofs.encode.encode_chunks.Goals as goal

pub truncate-requires : goal.truncate-requires
truncate-requires c = λ h. cut-place (string_bytes c.args.out.now) _ _ (c.push_chunks.ensures.adds (string_bytes c.args.out.now) (extends-none _)) (c.len-start.ensures ∙ search rules)

pub returns-in-Ok-clause-text : goal.returns-in-Ok-clause-text
returns-in-Ok-clause-text c =
    let fit : ChunksFit c.args.tokens.now c.args.chunks.now = c.chunk_fault.ensures.fits.0 (sym c.is_some.ensures ∙ c.if-is_some.false) in
    c.in-Ok.ensures.text ∙ ap (λ text. string_bytes c.args.out.now ++ text) (pieces-is c.args.tokens.now c.args.chunks.now fit)

pub returns-in-Ok-clause-clean : goal.returns-in-Ok-clause-clean
returns-in-Ok-clause-clean c =
    let fit : ChunksFit c.args.tokens.now c.args.chunks.now = c.chunk_fault.ensures.fits.0 (sym c.is_some.ensures ∙ c.if-is_some.false) in
    chunks-clean c.args.tokens.now c.args.chunks.now fit c.in-Ok.ensures.written (omega (arith, c.if-tokens-gt4294967295.false))

pub returns-in-Ok-clause-reported : goal.returns-in-Ok-clause-reported
returns-in-Ok-clause-reported c = λ e h. (let none : None ≡ Some e = sym (returns-in-Ok-clause-clean c) ∙ h in cc)

pub returns-in-Err-clause-unchanged : goal.returns-in-Err-clause-unchanged
returns-in-Err-clause-unchanged c = c.truncate.ensures.bytes ∙ cut-back (string_bytes c.args.out.now) _ _ (c.push_chunks.ensures.adds (string_bytes c.args.out.now) (extends-none _)) (c.len-start.ensures ∙ search rules)
