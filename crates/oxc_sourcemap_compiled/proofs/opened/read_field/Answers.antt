use Rattle.std.proofs.Common.{◌≡◌, ◌+◌, ◌-◌, ◌*◌, ap, ◌∙◌, arith, take, drop, sum, get_or, min}
use Rattle.oxc_sourcemap_compiled.specs.Numbers.{number_at}
use Rattle.oxc_sourcemap_compiled.specs.Fields.{field_in, field_of, widths_in, row_base}
use Rattle.oxc_sourcemap_compiled.proofs.Blocks.{same-field}
use Rattle.oxc_sourcemap_compiled.proofs.opened.read_field.Goals as goal

pub returns-clause-value : goal.returns-clause-value
unfolding field_in
returns-clause-value c =
    let layout = c.args.layout.now in
    let h = c.args.header.now in
    let bytes = c.args.bytes.now in
    let b = c.args.b in
    let k = c.args.k in
    let row = layout.rows + 29 * b in
    let placed = c.requires.layout in
    let rows : row ≡ row_base h b = ap (λ l. l.rows + 29 * b) placed in
    let five : row + 29 - (row + 24) ≡ 5 = omega arith in
    let slice : take (row + 29 - (row + 24)) (drop (row + 24) bytes) ≡ widths_in bytes h b = ap (λ n. take n (drop (row + 24) bytes)) five ∙ ap (λ r. take 5 (drop (r + 24) bytes)) rows in
    let least = c.u32_at.ensures ∙ ap (λ r. number_at 4 bytes (r + 4 + 4 * k)) rows in
    let before = c.width_before.ensures.value ∙ ap (λ ws. sum (take k ws)) slice in
    let width = c.min-width.ensures ∙ ap (λ m. min m 32) c.from.ensures ∙ ap (λ ws. min (get_or ws k 0) 32) slice in
    let made : record { least = c.u32_at.result; first = c.width_before.result; width = c.min-width.result; mask = c.mask_of.result } ≡ field_of c.u32_at.result c.width_before.result c.min-width.result =
    ap (λ m. record { least = c.u32_at.result; first = c.width_before.result; width = c.min-width.result; mask = m }) c.mask_of.ensures in
    made ∙ same-field least before width
