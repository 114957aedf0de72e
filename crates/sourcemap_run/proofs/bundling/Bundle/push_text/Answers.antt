use Rattle.std.proofs.Common.{◌++◌, ap, ◌∙◌, subst, string_bytes}
use Rattle.std.specs.Str.{IsUtf8}
use Rattle.sourcemap_run.proofs.Standing.{stands-next}
use Rattle.sourcemap_run.proofs.bundling.Bundle.push_text.Goals as goal

pub invariant_of-self-2 : goal.invariant_of-self-2
invariant_of-self-2 c =
    let code = string_bytes c.self.inside.code in
    let whole = string_bytes c.in_ok-whole.whole in
    stands-next code whole c.args.text.now _ c.self.inside.line c.in_ok-whole.line (subst IsUtf8 c.as_str-before.ensures.value c.as_str-before.utf8) c.self.invariant
    c.in_ok-whole.ensures.ends c.in_ok-whole.ensures.next (c.in_ok-push_str.ensures.bytes ∙ ap (λ t. code ++ t) c.as_str.ensures.value)
