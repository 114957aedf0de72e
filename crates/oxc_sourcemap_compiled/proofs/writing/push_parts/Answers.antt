use Rattle.std.proofs.Common.{◌≡◌, ◌+◌, ◌/◌, ◌++◌, length, ap, ◌∙◌, map}
use Rattle.std.specs.List.{flat_map, range_with_len}
use Rattle.oxc_sourcemap_compiled.proofs.Slices.{appended}
use Rattle.oxc_sourcemap_parts.specs.Views.{record_of_parts}
use Rattle.oxc_sourcemap_compiled.specs.Layout.{block_groups}
use Rattle.oxc_sourcemap_compiled.specs.Compiled.{table, bytes_of, line_starts, rows_of, groups_of}
use Rattle.oxc_sourcemap_compiled.specs.Compiled.{ignored_of, text_offset, stored_count}
use Rattle.oxc_sourcemap_compiled.specs.Compiled.{stored_text, listed_table}
use Rattle.oxc_sourcemap_compiled.proofs.writing.push_parts.Goals as goal

pub returns : goal.returns
returns c =
    let tokens = c.as_slice-tokens.ensures.value in
    let lines = c.args.lines.now in
    let blocks = c.args.blocks.now in
    let starts = c.in_ok-push_starts.ensures ∙ ap (λ ts. c.args.out.now.items ++ table (line_starts ts lines)) tokens in
    let rows = c.in_ok-push_rows.ensures ∙ ap (λ p. c.push_starts.new.out.items ++ rows_of 0 p ((length c.as_slice-tokens.result.now + 7) / 8) blocks) c.groups_in_block.ensures.value
    ∙ ap (λ ts. c.push_starts.new.out.items ++ rows_of 0 (block_groups (length ts)) ((length ts + 7) / 8) blocks) tokens in
    let ignored = c.in_ok-push_table.ensures ∙ ap (λ xs. c.push_rows.new.out.items ++ table xs) c.ignored_ids.ensures in
    let groups = c.in_ok-push_groups.ensures ∙ ap (λ ts. c.push_listed.new.out.items ++ groups_of blocks ts) tokens in
    let x6 : c.push_number.new.out.items ≡ c.push_groups.new.out.items ++ ((flat_map (stored_text (record_of_parts c.args.parts.now)) (range_with_len 0 (stored_count (record_of_parts c.args.parts.now)))) ++ (bytes_of 16 0)) = appended c.push_groups.new.out.items c.push_texts.new.out.items c.push_number.new.out.items (flat_map (stored_text (record_of_parts c.args.parts.now)) (range_with_len 0 (stored_count (record_of_parts c.args.parts.now)))) ((bytes_of 16 0)) (c.in_ok-push_texts.ensures) (c.in_ok-push_number.ensures) in
    let x5 : c.push_number.new.out.items ≡ c.push_listed.new.out.items ++ ((groups_of blocks (record_of_parts c.args.parts.now).tokens) ++ ((flat_map (stored_text (record_of_parts c.args.parts.now)) (range_with_len 0 (stored_count (record_of_parts c.args.parts.now)))) ++ (bytes_of 16 0))) = appended c.push_listed.new.out.items c.push_groups.new.out.items c.push_number.new.out.items (groups_of blocks (record_of_parts c.args.parts.now).tokens) (((flat_map (stored_text (record_of_parts c.args.parts.now)) (range_with_len 0 (stored_count (record_of_parts c.args.parts.now)))) ++ (bytes_of 16 0))) (groups) (x6) in
    let x4 : c.push_number.new.out.items ≡ c.push_offsets.new.out.items ++ ((listed_table c.args.has_line_numbers lines) ++ ((groups_of blocks (record_of_parts c.args.parts.now).tokens) ++ ((flat_map (stored_text (record_of_parts c.args.parts.now)) (range_with_len 0 (stored_count (record_of_parts c.args.parts.now)))) ++ (bytes_of 16 0)))) = appended c.push_offsets.new.out.items c.push_listed.new.out.items c.push_number.new.out.items (listed_table c.args.has_line_numbers lines) (((groups_of blocks (record_of_parts c.args.parts.now).tokens) ++ ((flat_map (stored_text (record_of_parts c.args.parts.now)) (range_with_len 0 (stored_count (record_of_parts c.args.parts.now)))) ++ (bytes_of 16 0)))) (c.in_ok-push_listed.ensures) (x5) in
    let x3 : c.push_number.new.out.items ≡ c.push_table.new.out.items ++ ((table (map (text_offset (record_of_parts c.args.parts.now)) (range_with_len 0 (stored_count (record_of_parts c.args.parts.now) + 1)))) ++ ((listed_table c.args.has_line_numbers lines) ++ ((groups_of blocks (record_of_parts c.args.parts.now).tokens) ++ ((flat_map (stored_text (record_of_parts c.args.parts.now)) (range_with_len 0 (stored_count (record_of_parts c.args.parts.now)))) ++ (bytes_of 16 0))))) = appended c.push_table.new.out.items c.push_offsets.new.out.items c.push_number.new.out.items (table (map (text_offset (record_of_parts c.args.parts.now)) (range_with_len 0 (stored_count (record_of_parts c.args.parts.now) + 1)))) (((listed_table c.args.has_line_numbers lines) ++ ((groups_of blocks (record_of_parts c.args.parts.now).tokens) ++ ((flat_map (stored_text (record_of_parts c.args.parts.now)) (range_with_len 0 (stored_count (record_of_parts c.args.parts.now)))) ++ (bytes_of 16 0))))) (c.in_ok-push_offsets.ensures) (x4) in
    let x2 : c.push_number.new.out.items ≡ c.push_rows.new.out.items ++ ((table (ignored_of (record_of_parts c.args.parts.now))) ++ ((table (map (text_offset (record_of_parts c.args.parts.now)) (range_with_len 0 (stored_count (record_of_parts c.args.parts.now) + 1)))) ++ ((listed_table c.args.has_line_numbers lines) ++ ((groups_of blocks (record_of_parts c.args.parts.now).tokens) ++ ((flat_map (stored_text (record_of_parts c.args.parts.now)) (range_with_len 0 (stored_count (record_of_parts c.args.parts.now)))) ++ (bytes_of 16 0)))))) = appended c.push_rows.new.out.items c.push_table.new.out.items c.push_number.new.out.items (table (ignored_of (record_of_parts c.args.parts.now))) (((table (map (text_offset (record_of_parts c.args.parts.now)) (range_with_len 0 (stored_count (record_of_parts c.args.parts.now) + 1)))) ++ ((listed_table c.args.has_line_numbers lines) ++ ((groups_of blocks (record_of_parts c.args.parts.now).tokens) ++ ((flat_map (stored_text (record_of_parts c.args.parts.now)) (range_with_len 0 (stored_count (record_of_parts c.args.parts.now)))) ++ (bytes_of 16 0)))))) (ignored) (x3) in
    let x1 : c.push_number.new.out.items ≡ c.push_starts.new.out.items ++ ((rows_of 0 (block_groups (length (record_of_parts c.args.parts.now).tokens)) ((length (record_of_parts c.args.parts.now).tokens + 7) / 8) blocks) ++ ((table (ignored_of (record_of_parts c.args.parts.now))) ++ ((table (map (text_offset (record_of_parts c.args.parts.now)) (range_with_len 0 (stored_count (record_of_parts c.args.parts.now) + 1)))) ++ ((listed_table c.args.has_line_numbers lines) ++ ((groups_of blocks (record_of_parts c.args.parts.now).tokens) ++ ((flat_map (stored_text (record_of_parts c.args.parts.now)) (range_with_len 0 (stored_count (record_of_parts c.args.parts.now)))) ++ (bytes_of 16 0))))))) = appended c.push_starts.new.out.items c.push_rows.new.out.items c.push_number.new.out.items (rows_of 0 (block_groups (length (record_of_parts c.args.parts.now).tokens)) ((length (record_of_parts c.args.parts.now).tokens + 7) / 8) blocks) (((table (ignored_of (record_of_parts c.args.parts.now))) ++ ((table (map (text_offset (record_of_parts c.args.parts.now)) (range_with_len 0 (stored_count (record_of_parts c.args.parts.now) + 1)))) ++ ((listed_table c.args.has_line_numbers lines) ++ ((groups_of blocks (record_of_parts c.args.parts.now).tokens) ++ ((flat_map (stored_text (record_of_parts c.args.parts.now)) (range_with_len 0 (stored_count (record_of_parts c.args.parts.now)))) ++ (bytes_of 16 0))))))) (rows) (x2) in
    appended c.args.out.now.items c.push_starts.new.out.items c.push_number.new.out.items (table (line_starts (record_of_parts c.args.parts.now).tokens lines)) (((rows_of 0 (block_groups (length (record_of_parts c.args.parts.now).tokens)) ((length (record_of_parts c.args.parts.now).tokens + 7) / 8) blocks) ++ ((table (ignored_of (record_of_parts c.args.parts.now))) ++ ((table (map (text_offset (record_of_parts c.args.parts.now)) (range_with_len 0 (stored_count (record_of_parts c.args.parts.now) + 1)))) ++ ((listed_table c.args.has_line_numbers lines) ++ ((groups_of blocks (record_of_parts c.args.parts.now).tokens) ++ ((flat_map (stored_text (record_of_parts c.args.parts.now)) (range_with_len 0 (stored_count (record_of_parts c.args.parts.now)))) ++ (bytes_of 16 0)))))))) (starts) (x1)
