use Rattle.std.proofs.Common.{◌≡◌, ◌&&◌, map, get_or, None, ap, ◌∙◌, sym, arith}
use Rattle.std.proofs.lemmas.List.{length-map, get_or-map}
use Rattle.std.proofs.lemmas.List.Folds.{list_all_more}
use Rattle.oxc_sourcemap_parts.specs.Views.{text_of}
use Rattle.oxc_sourcemap_compiled.specs.Decompiled.{is_optional_utf8}
use Rattle.oxc_sourcemap_compiled.proofs.writing.fitting.are_utf8_contents.Goals as goal

pub loop-text-preserved : goal.loop-text-preserved
loop-text-preserved c =
    let texts = c.args.texts.now in
    let xs = map text_of texts in
    let i = c.loop-text.text-index in
    let text = c.text-item.result in
    let here : get_or xs i None ≡ text_of text = get_or-map text_of texts i text None c.loop-text-test.true ∙ ap text_of (sym c.text-item.is) in
    list_all_more is_optional_utf8 xs i None (omega (arith, length-map texts text_of, c.loop-text-test.true)) ∙ ap (λ b. b && is_optional_utf8 (get_or xs i None)) c.loop-text.invariant ∙ ap is_optional_utf8 here
    ∙ c.is_utf8_text.ensures
