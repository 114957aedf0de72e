use Rattle.std.proofs.Common.{List, ℕ, sym, ◌≡◌, ◌+◌, ◌-◌, ◌*◌, ◌<◌, ◌≤◌, true, false, nat_le, take}
use Rattle.std.proofs.Common.{drop, sum, arith, ap, ◌∙◌}
use Rattle.oxc_sourcemap_compiled.specs.Numbers.{number_at}
use Rattle.oxc_sourcemap_compiled.specs.Layout.{groups_in, groups_base}
use Rattle.oxc_sourcemap_compiled.specs.Fields.{widths_in, row_base, row_in, is_placed}
use Rattle.oxc_sourcemap_compiled.specs.declared.layout.Header.{Header}
use Rattle.oxc_sourcemap_compiled.proofs.Blocks.{row-placed, row-empty, same-row}
use Rattle.oxc_sourcemap_compiled.proofs.opened.read_row.Goals as goal

-- what is compared is what the definition compares
compared : (bytes : List ℕ) (h : Header) (b row place groups stride : ℕ) → row ≡ row_base h b → place ≡ number_at 4 bytes row → groups ≡ groups_in h b
    → stride ≡ sum (take (row + 29 - (row + 24)) (drop (row + 24) bytes))
    → (place ≡ number_at 4 bytes (row_base h b)) × (stride ≡ sum (widths_in bytes h b)) × (place + groups * stride ≡ number_at 4 bytes (row_base h b) + groups_in h b * sum (widths_in bytes h b))
compared bytes h b row place groups stride rows is counted each =
    let five : row + 29 - (row + 24) ≡ 5 = omega arith in
    let at = is ∙ ap (number_at 4 bytes) rows in
    let wide = each ∙ ap (λ n. sum (take n (drop (row + 24) bytes))) five ∙ ap (λ r. sum (take 5 (drop (r + 24) bytes))) rows in
    (at, wide, ap (λ p. p + groups * stride) at ∙ ap (λ n. number_at 4 bytes (row_base h b) + n * stride) counted ∙ ap (λ n. number_at 4 bytes (row_base h b) + groups_in h b * n) wide)

past : (n m : ℕ) → m < n → nat_le n m ≡ false
past n m lt = grind (arith, lt)

within : (n m : ℕ) → n ≤ m → nat_le n m ≡ true
within n m le = grind (arith, le)

pub returns-then-place-count_groups-clause-value : goal.returns-then-place-count_groups-clause-value
returns-then-place-count_groups-clause-value c =
    let h = c.args.header.now in
    let bytes = c.args.bytes.now in
    let b = c.args.b in
    let is = compared bytes h b (c.args.layout.now.rows + 29 * b) c.u32_at-place.result c.count_groups.result c.width_of_all-stride.result (ap (λ l. l.rows + 29 * b) c.requires.layout)
    c.u32_at-place.ensures c.count_groups.ensures.value c.width_of_all-stride.ensures.value in
    c.empty.ensures ∙ sym (row-empty bytes h b (past _ h.group_bytes (omega (arith, is.2, c.if-place-count_groups.true))))

pub returns-clause-value : goal.returns-clause-value
returns-clause-value c =
    let h = c.args.header.now in
    let bytes = c.args.bytes.now in
    let b = c.args.b in
    let is = compared bytes h b (c.args.layout.now.rows + 29 * b) c.u32_at-place.result c.count_groups.result c.width_of_all-stride.result (ap (λ l. l.rows + 29 * b) c.requires.layout)
    c.u32_at-place.ensures c.count_groups.ensures.value c.width_of_all-stride.ensures.value in
    let at = ap (λ l. l.groups + c.u32_at-place.result) c.requires.layout ∙ ap (λ n. groups_base h + n) is.0 in
    same-row at is.1 c.read_field.ensures.value c.read_field-2.ensures.value c.read_field-3.ensures.value c.read_field-4.ensures.value c.read_field-5.ensures.value
    ∙ sym (row-placed bytes h b (within _ h.group_bytes (omega (arith, is.2, c.if-place-count_groups.false))))
