use Rattle.std.proofs.Common.{◌≡◌, ◌∙◌, sym, ap, true, Some, None, if◌then◌else◌}
use Rattle.std.specs.Str.{chars}
use Rattle.std.specs.Str.Iter.{chars_rest}
use Rattle.std.proofs.lemmas.Str.{chars_past_char}
use Rattle.oxc_sourcemap_text.specs.MappingUrls.{is_mark, behind_mark}
use Rattle.oxc_sourcemap_text.proofs.url.comment.behind_mark.Goals as goal

pub returns-then-is_mark : goal.returns-then-is_mark
returns-then-is_mark c =
    let past = chars_past_char c.args.comment.now _ c.in_ok-first.first c.utf8.comment (sym c.chars-rest.ensures.rest ∙ c.in_ok-first.ensures.steps.0) in
    let is : is_mark c.in_ok-first.first ≡ true = sym c.is_mark.ensures ∙ c.if-is_mark.true in
    rw c.as_str.ensures (sym (ap behind_mark past ∙ ap (λ b. if b then Some (chars (chars_rest c.next.new.self)) else None) is))
