use Rattle.std.proofs.Common.{◌≡◌, ◌∙◌, ◌||◌, sym, ap, true, false}
use Rattle.oxc_sourcemap_text.specs.MappingUrls.{is_quote}
use Rattle.std.specs.List.{list_any}
use Rattle.std.specs.Str.{chars}
use Rattle.std.specs.Str.Iter.{chars_rest}
use Rattle.std.proofs.lemmas.List.{nil_from_length}
use Rattle.std.proofs.lemmas.Str.{chars-nil, IsUtf8-past_char}
use Rattle.oxc_sourcemap_text.proofs.Chars.{list_any-next}
use Rattle.oxc_sourcemap_text.proofs.url.comment.has_quote.Goals as goal

pub returns-then-is_quote : goal.returns-then-is_quote
returns-then-is_quote c =
    let inv = c.loop-ch.invariant in
    let next = list_any-next is_quote _ _ c.in-Some.ch inv.utf8 c.in-Some.ensures.steps.0 in
    let is : is_quote c.in-Some.ch ≡ true = sym c.is_quote.ensures ∙ c.if-is_quote.true in
    sym (inv.found ∙ next ∙ ap (λ b. b || list_any is_quote (chars (chars_rest c.next.new.self))) is)

pub loop-ch-preserved : goal.loop-ch-preserved
loop-ch-preserved c =
    let inv = c.loop-ch.invariant in
    let next = list_any-next is_quote _ _ c.in-Some.ch inv.utf8 c.in-Some.ensures.steps.0 in
    let isnt : is_quote c.in-Some.ch ≡ false = sym c.is_quote.ensures ∙ c.if-is_quote.false in
    record {
      utf8 = IsUtf8-past_char _ _ c.in-Some.ch inv.utf8 c.in-Some.ensures.steps.0;
      found = inv.found ∙ next ∙ ap (λ b. b || list_any is_quote (chars (chars_rest c.next.new.self))) isnt;
    }

pub returns : goal.returns
returns c =
    let nothing = nil_from_length (chars_rest c.loop-ch.rest) c.in_default.ensures.steps.0.0 in
    sym (c.loop-ch.invariant.found ∙ ap (λ l. list_any is_quote (chars l)) nothing ∙ ap (list_any is_quote) chars-nil)
