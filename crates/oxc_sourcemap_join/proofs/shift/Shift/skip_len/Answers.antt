use Rattle.std.proofs.Common.{ap, sym, ◌∙◌}
use Rattle.oxc_sourcemap_join.specs.Joined.{shifted, is_same_token, without_repeat}
use Rattle.oxc_sourcemap_join.specs.Joining.{all_shifted}
use Rattle.oxc_sourcemap_join.proofs.Moving.{first-kept}
use Rattle.oxc_sourcemap_join.proofs.shift.Shift.skip_len.Goals as goal

pub returns-else-repeats-clause-kept : goal.returns-else-repeats-clause-kept
returns-else-repeats-clause-kept c =
    let f = shifted c.args.self.now.names c.args.self.now.sources c.args.self.now.position in
    first-kept f c.in-Some-Some.last_token c.args.tokens.now c.in-Some-Some.first.now (sym c.in-Some-Some.ensures.value)
    (sym c.repeats.ensures ∙ c.if-repeats.false)
    ∙ ap (λ o. without_repeat is_same_token o (all_shifted c.args.self.now c.args.tokens.now)) (sym c.in-Some-Some.is-0)
