use Rattle.std.proofs.Common.{◌≡◌, ◌&&◌, [], map, get_or, true, ap, ◌∙◌, sym, arith}
use Rattle.std.proofs.lemmas.List.{length-map, get_or-map}
use Rattle.std.proofs.lemmas.List.Folds.{list_all_more}
use Rattle.std.proofs.lemmas.Str.{is_utf8-from_IsUtf8}
use Rattle.std.specs.Cow.{cow_str_bytes}
use Rattle.std.specs.Str.{is_utf8}
use Rattle.oxc_sourcemap_compiled.proofs.writing.fitting.are_utf8_texts.Goals as goal

pub loop-text-preserved : goal.loop-text-preserved
loop-text-preserved c =
    let texts = c.args.texts.now in
    let xs = map cow_str_bytes texts in
    let i = c.loop-text.text-index in
    let text = c.text-item.result in
    let here : get_or xs i [] ≡ cow_str_bytes text = get_or-map cow_str_bytes texts i text [] c.loop-text-test.true ∙ ap cow_str_bytes (sym c.text-item.is) in
    let utf8 : is_utf8 (cow_str_bytes text) ≡ true = sym (ap is_utf8 c.as_str.ensures.value) ∙ is_utf8-from_IsUtf8 c.as_str.result.now c.as_str.utf8 in
    list_all_more is_utf8 xs i [] (omega (arith, length-map texts cow_str_bytes, c.loop-text-test.true)) ∙ ap (λ b. b && is_utf8 (get_or xs i [])) c.loop-text.invariant ∙ ap is_utf8 here ∙ utf8
