use Rattle.std.proofs.Common.{◌≤◌, ◌+◌, ◌/◌, length, ap, ◌∙◌, sym, subst}
use Rattle.std.specs.List.{All}
use Rattle.oxc_sourcemap_parts.specs.Views.{record_of_parts}
use Rattle.oxc_sourcemap_parts.specs.Sorted.{are_tokens_sorted}
use Rattle.oxc_sourcemap_compiled.specs.Compiled.{AreLinesOf, AreBlocksOf, group_bytes_of}
use Rattle.oxc_sourcemap_compiled.specs.Compiled.{map_bytes}
use Rattle.oxc_sourcemap_compiled.specs.Layout.{block_groups}
use Rattle.oxc_sourcemap_compiled.proofs.Means.{compiled-means, compiled-in-order}
use Rattle.oxc_sourcemap_compiled.proofs.writing.compile.Goals as goal

pub returns-clause-bytes : goal.returns-clause-bytes
returns-clause-bytes c =
    let tokens = c.as_slice-tokens.ensures.value in
    let lines = c.in_ok-lines.lines.items in
    let blocks = c.in_ok-blocks.blocks.items in
    let small = c.has_large_counts.ensures.small c.if-has_large_counts.false in
    let r = record_of_parts c.args.parts.now in
    let listed = c.in_ok-lines.has_line_numbers in
    let number = c.args.text_length in
    let stamp = c.args.stamp.now in
    let groups = c.group_bytes-group_bytes.ensures.value ∙ ap (λ p. group_bytes_of p ((length c.as_slice-tokens.result.now + 7) / 8) c.as_slice.result.now) c.groups_in_block.ensures.value
    ∙ ap (λ ts. group_bytes_of (block_groups (length ts)) ((length ts + 7) / 8) c.as_slice.result.now) tokens
    ∙ ap (group_bytes_of (block_groups (length r.tokens)) ((length r.tokens + 7) / 8)) c.as_slice.ensures.value in
    record {
      lines = lines;
      listed = c.in_ok-lines.has_line_numbers;
      blocks = blocks;
      small = small;
      sorted = sym (c.are_sorted.ensures.sorted ∙ ap are_tokens_sorted tokens) ∙ c.if-not-are_sorted.false;
      lines_of = subst (λ ts. AreLinesOf ts lines) tokens c.in_ok-lines.ensures.lines;
      few_lines = c.in_ok-lines.ensures.few;
      small_lines = λ k lt. subst (λ xs. All (λ n. n ≤ 4294967295) xs) c.as_slice-4.ensures.value c.have_32_bits.ensures k 0 lt;
      all_listed = c.in_ok-lines.ensures.all;
      blocks_of = subst (λ ts. AreBlocksOf ts blocks) tokens c.in_ok-blocks.ensures;
      few_groups = subst (λ n. n ≤ 4294967295) groups c.if-group_bytes-gt4294967295.false;
      few_texts = subst (λ n. n ≤ 4294967295) (c.text_bytes-text_bytes.ensures.small c.if-text_bytes-gt4294967295.false) c.if-text_bytes-gt4294967295.false;
      are = c.in_ok-made.ensures ∙ ap (λ xs. map_bytes r xs listed c.as_slice-3.result.now number stamp) c.as_slice-2.ensures.value ∙ ap (λ bs. map_bytes r lines listed bs number stamp) c.as_slice-3.ensures.value;
    }

pub returns-clause-meaning : goal.returns-clause-meaning
returns-clause-meaning c = compiled-means (record_of_parts c.args.parts.now) c.args.text_length c.args.stamp.now c.in_ok-made.made.items c.parts_fit.ensures (returns-clause-bytes c)

pub returns-clause-order : goal.returns-clause-order
returns-clause-order c = compiled-in-order (record_of_parts c.args.parts.now) c.args.text_length c.args.stamp.now c.in_ok-made.made.items c.parts_fit.ensures (returns-clause-bytes c)

pub returns-clause-fits : goal.returns-clause-fits
returns-clause-fits c = c.parts_fit.ensures
