use Rattle.std.proofs.Common.{◌≡◌, ◌+◌, ◌++◌, map, length, refl, ap, ◌∙◌, sym, arith, append_assoc}
use Rattle.std.proofs.Common.{append-nil}
use Rattle.std.specs.List.{range_with_len}
use Rattle.oxc_sourcemap_parts.specs.Views.{record_of_parts}
use Rattle.oxc_sourcemap_compiled.specs.Compiled.{text_offset, table, bytes_of, stored_text}
use Rattle.oxc_sourcemap_compiled.specs.Compiled.{stored_count}
use Rattle.oxc_sourcemap_compiled.proofs.Slices.{table-more, offsets-grow, offset-next}
use Rattle.oxc_sourcemap_compiled.proofs.writing.texts.push_offsets.Goals as goal

pub loop-t-init : goal.loop-t-init
loop-t-init c = record {
  end = refl;
  out = c.in_ok-push_u32.ensures ∙ ap (λ xs. c.args.out.now.items ++ xs) (sym (append-nil (bytes_of 4 0)));
}

pub overflow_add-end : goal.overflow_add-end
overflow_add-end c =
    let r = record_of_parts c.args.parts.now in
    let t = c.loop-t.t in
    let size : c.length_of-end.result ≡ length (stored_text r t) = c.length_of-end.ensures ∙ ap length c.stored_at.ensures in
    let grow = offsets-grow r (t + 1) (stored_count r) (omega (arith, c.loop-t-test.true, c.count_texts-t-end.ensures)) in
    omega (arith, size, c.loop-t.invariant.end, offset-next r t, grow, c.requires.few)

pub loop-t-preserved : goal.loop-t-preserved
loop-t-preserved c =
    let r = record_of_parts c.args.parts.now in
    let t = c.loop-t.t in
    let f = text_offset r in
    let size : c.length_of-end.result ≡ length (stored_text r t) = c.length_of-end.ensures ∙ ap length c.stored_at.ensures in
    let end : c.loop-t.end + c.length_of-end.result ≡ f (t + 1) = omega (arith, size, c.loop-t.invariant.end, offset-next r t) in
    let old = table (map f (range_with_len 0 (t + 1))) in
    record {
      end = end;
      out = c.in_ok-push_u32-2.ensures ∙ ap (λ xs. xs ++ bytes_of 4 (c.loop-t.end + c.length_of-end.result)) c.loop-t.invariant.out
          ∙ append_assoc c.args.out.now.items old (bytes_of 4 (c.loop-t.end + c.length_of-end.result))
          ∙ ap (λ n. c.args.out.now.items ++ (old ++ bytes_of 4 n)) end ∙ ap (λ xs. c.args.out.now.items ++ xs) (sym (table-more f (t + 1)));
    }

pub returns : goal.returns
returns c =
    let r = record_of_parts c.args.parts.now in
    let all : c.loop-t.t ≡ stored_count r = omega (arith, c.loop-t-test.false, c.loop-t.auto.t-end, c.count_texts-t-end.ensures) in
    c.loop-t.invariant.out ∙ ap (λ n. c.args.out.now.items ++ table (map (text_offset r) (range_with_len 0 (n + 1)))) all
