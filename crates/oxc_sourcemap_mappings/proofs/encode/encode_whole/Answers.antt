use Rattle.std.proofs.Common.{arith, ◌≡◌, ◌≢◌, ◌++◌, ◌∙◌, subst, OnOk, IfErr, Some, None}
use Rattle.std.proofs.Common.{string_bytes}
use Rattle.oxc_sourcemap_tokens.specs.declared.errors.error.Error.TheVariants.{OutOfMemory}
use Rattle.oxc_sourcemap_mappings.proofs.Pieces.{whole-piece, whole-fault}
use Rattle.oxc_sourcemap_mappings.proofs.encode.encode_whole.Goals as goal

pub returns-clause-text : goal.returns-clause-text
returns-clause-text c =
    subst (λ text. OnOk c.encode_chunk.result (string_bytes c.encode_chunk.new.out ≡ string_bytes c.args.out.now ++ text))
    (whole-piece c.args.tokens.now c.next_chunk-whole.result c.next_chunk-whole.ensures) c.encode_chunk.ensures.text

pub returns-clause-clean : goal.returns-clause-clean
returns-clause-clean c =
    subst (λ fault. OnOk c.encode_chunk.result (fault ≡ None))
    (whole-fault c.args.tokens.now c.next_chunk-whole.result c.next_chunk-whole.ensures (omega arith)) c.encode_chunk.ensures.clean

pub returns-clause-fault : goal.returns-clause-fault
returns-clause-fault c =
    subst (λ fault. IfErr c.encode_chunk.result (λ e. (e ≢ OutOfMemory) → fault ≡ Some e))
    (whole-fault c.args.tokens.now c.next_chunk-whole.result c.next_chunk-whole.ensures (omega arith)) c.encode_chunk.ensures.fault

pub returns-clause-reported : goal.returns-clause-reported
returns-clause-reported c = λ e h. c.encode_chunk.ensures.reported e (whole-fault c.args.tokens.now c.next_chunk-whole.result c.next_chunk-whole.ensures (omega arith) ∙ h)
