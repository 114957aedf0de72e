use Rattle.std.proofs.Common.{◌++◌, ◌∙◌, ap, decimal, string_bytes}
use Rattle.sourcemap_run.proofs.Appends.{three_appends}
use Rattle.sourcemap_run.proofs.covered.push_lcov_end.Goals as goal

pub returns-clause-text : goal.returns-clause-text
returns-clause-text c =
    let counted = c.in_ok-push_number-2.ensures.text ∙ ap (λ n. string_bytes c.push_str-2.new.self ++ decimal n) c.ran.ensures in
    three_appends _ _ _ _ _ _ _ c.in_ok-push_str.ensures.bytes c.in_ok-push_number.ensures.text
    (three_appends _ _ _ _ _ _ _ c.in_ok-push_str-2.ensures.bytes counted c.in_ok-push_str-3.ensures.bytes)
