use Rattle.std.proofs.Common.{◌≡◌, ap, subst, ◌∙◌}
use Rattle.std.specs.Prelude.{MatchOption}
use Rattle.oxc_sourcemap_c.specs.CallErrors.{call_error_text}
use Rattle.oxc_sourcemap_c.specs.Codes.{call_error_of}
use Rattle.oxc_sourcemap_c.specs.Messages.{IsMessage}
use Rattle.oxc_sourcemap_c.proofs.ReadBack.{read_back}
use Rattle.oxc_sourcemap_c.proofs.reading.messages.proved_message.Goals as goal

pub returns-clause-message : goal.returns-clause-message
returns-clause-message c =
    λ r small is. subst (λ o. MatchOption o ((c.write_message.result ≡ 0) × (c.write_message.new.out ≡ c.args.out.now)) (λ r. IsMessage (call_error_text r) c.args.out.now c.write_message.new.out c.write_message.result))
    (ap call_error_of is ∙ read_back r small) c.write_message.ensures
