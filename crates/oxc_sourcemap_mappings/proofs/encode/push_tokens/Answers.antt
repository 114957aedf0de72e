use Rattle.std.proofs.Common.{arith, ◌≡◌, false, ◌+◌, ◌-◌, ◌≤◌, ◌∷◌, ◌++◌, nat_lt, take, drop}
use Rattle.std.proofs.Common.{string_bytes, sym, ap, ◌∙◌, subst}
use Rattle.std.proofs.lemmas.Bool.Decides.{nat_tests}
use Rattle.std.proofs.lemmas.List.{drop_more}
use Rattle.oxc_sourcemap_tokens.specs.LineOrder.{back_from}
use Rattle.oxc_sourcemap_tokens.specs.Steps.{state_of}
use Rattle.oxc_sourcemap_tokens.proofs.Fits.{back-shift}
use Rattle.oxc_sourcemap_mappings.specs.Encoding.{text_from, line_marks, column_from}
use Rattle.oxc_sourcemap_mappings.proofs.Letters.{ArePlain, plain-append, line_marks-plain}
use Rattle.oxc_sourcemap_mappings.proofs.Letters.{fields_text-plain}
use Rattle.oxc_sourcemap_mappings.proofs.Placing.{one-more}
use Rattle.oxc_sourcemap_mappings.proofs.encode.push_tokens.Goals as goal

pub loop-token-preserved : goal.loop-token-preserved
loop-token-preserved c =
    let tokens = c.args.tokens.now in
    let i = c.loop-token.token-index in
    let t = c.token-item.result in
    let s = state_of c.loop-token.previous in
    let room = c.in_ok-at.ensures in
    let rest = drop (i + 1) tokens in
    let more : drop i tokens ≡ t ∷ rest = drop_more tokens i t c.loop-token-test.true ∙ ap (λ x. x ∷ rest) (sym c.token-item.is) in
    let below : s.dst_line ≤ t.dst_line = omega (arith, c.if-line-previous.false, c.get_dst_line-line.ensures.value) in
    let back : nat_lt t.dst_line s.dst_line ≡ false = grind (arith, nat_tests, below) in
    let after = c.after-previous.ensures in
    record {
      bytes = one-more (string_bytes c.loop-token.out) (take c.loop-token.len c.loop-token.buf) (string_bytes c.make_room.new.out) (take c.in_ok-at.at c.loop-token.buf) (take c.write_segment-len.result c.write_segment-len.new.buf) _ c.loop-token.is_first s (state_of c.after-previous.result) t rest (c.get_dst_line-line.result - c.loop-token.previous.dst_line) c.in_ok-at.left below (ap (λ n. n - s.dst_line) c.get_dst_line-line.ensures.value) room.fewer room.same_line room.ok c.write_segment-len.ensures.bytes after (ap (λ xs. (string_bytes c.loop-token.out ++ take c.loop-token.len c.loop-token.buf) ++ text_from c.loop-token.is_first s xs) (sym more) ∙ c.loop-token.invariant.bytes);
      order = λ e. c.loop-token.invariant.order (ap (back_from s.dst_line 0) more ∙ rw back (back-shift t.dst_line 0 1 rest (ap (λ q. back_from q.dst_line 0 rest) (sym after) ∙ e)));
      plain = subst ArePlain (sym c.write_segment-len.ensures.bytes) (plain-append (take c.in_ok-at.at c.loop-token.buf) _ room.plain (plain-append (line_marks c.loop-token.is_first c.in_ok-at.left) _ (line_marks-plain _ _) (fields_text-plain (column_from s t) s t)));
      room = omega (arith, c.write_segment-len.ensures.within, room.room);
      adds = λ base e. c.make_room.ensures.adds base (c.loop-token.invariant.adds base e);
    }
