use Rattle.std.proofs.Common.{◌++◌, ap, ◌∙◌, codes, string_bytes}
use Rattle.std.proofs.lemmas.Result.{on_ok_weaker}
use Rattle.sourcemap_run.specs.Texts.{position_members, number_member}
use Rattle.sourcemap_run.proofs.Appends.{three_appends}
use Rattle.sourcemap_run.proofs.answers.push_position_members.Goals as goal

pub returns-clause-text : goal.returns-clause-text
unfolding position_members
returns-clause-text c =
    let line = c.in_ok-push_number_member.ensures.text ∙ ap (λ n. string_bytes c.args.out.now ++ number_member (codes "sourceLine") n) c.from_base.ensures in
    let column = c.in_ok-push_number_member-2.ensures.text ∙ ap (λ n. string_bytes c.push_number_member.new.out ++ number_member (codes "sourceColumn") n) c.from_base-2.ensures in
    on_ok_weaker c.push_name_member.result (three_appends _ _ _ _ _ _ _ line column) c.push_name_member.ensures.text
