use Rattle.std.proofs.Common.{◌+◌, ◌++◌, ap, ◌∙◌}
use Rattle.oxc_sourcemap_parts.specs.Views.{record_of_parts}
use Rattle.oxc_sourcemap_compiled.specs.Layout.{texts_base}
use Rattle.oxc_sourcemap_compiled.specs.Compiled.{header_bytes, header_of_map, parts_bytes}
use Rattle.oxc_sourcemap_compiled.proofs.writing.write_map.Goals as goal

pub returns : goal.returns
returns c =
    let r = record_of_parts c.args.parts.now in
    let made = c.args.made in
    let lines = made.lines.now in
    let listed = made.has_line_numbers in
    let blocks = made.blocks.now in
    let head = header_of_map r lines listed blocks in
    let long = c.layout_of.result.texts + made.text_bytes + 16 in
    let stamp = c.args.stamp.now in
    let number = c.args.text_length in
    let header = c.header_for-header.ensures in
    let length = ap (λ l. l.texts + made.text_bytes + 16) c.layout_of.ensures ∙ ap (λ h. texts_base h + made.text_bytes + 16) header ∙ ap (λ n. texts_base head + n + 16) c.requires.text_bytes in
    let front = c.in_ok-push_header.ensures ∙ ap (λ xs. xs ++ header_bytes c.header_for-header.result long number stamp) c.in_ok-out.ensures.items
    ∙ ap (λ h. header_bytes h long number stamp) header ∙ ap (λ n. header_bytes head n number stamp) length in
    c.in_ok-push_parts.ensures ∙ ap (λ xs. xs ++ parts_bytes r lines listed blocks) front
