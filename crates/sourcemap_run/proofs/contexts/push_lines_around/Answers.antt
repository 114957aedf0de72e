use Rattle.std.proofs.Common.{◌++◌, ◌∙◌, ap, sym, length, map, chars, string_bytes}
use Rattle.std.proofs.lemmas.List.{length-map}
use Rattle.oxc_sourcemap_text.specs.TextLines.{line_at}
use Rattle.sourcemap_run.specs.Contexts.{context_line}
use Rattle.sourcemap_run.proofs.Around.{around_at_first, around_next}
use Rattle.sourcemap_run.proofs.contexts.push_lines_around.Goals as goal

pub loop-number-init : goal.loop-number-init
loop-number-init c = record {
  bytes = around_at_first
      (λ n. context_line c.args.base c.args.position n (line_at (map (λ line. chars line.now) c.args.lines.now) n))
      (string_bytes c.args.out.now) c.args.position.line c.args.around c.saturating_sub-first.result c.near_end-end.result
      (length c.args.lines.now) (length (map (λ line. chars line.now) c.args.lines.now)) c.saturating_sub-first.ensures
      c.near_end-end.ensures (sym (length-map c.args.lines.now (λ line. chars line.now)));
  adds = λ front begins. begins;
}

pub loop-number-preserved : goal.loop-number-preserved
loop-number-preserved c = record {
  bytes = around_next
      (λ n. context_line c.args.base c.args.position n (line_at (map (λ line. chars line.now) c.args.lines.now) n))
      (string_bytes c.loop-number.out) (string_bytes c.push_context_line.new.out) _ c.loop-number.number c.near_end-end.result
      c.loop-number-test.true
      (c.in_ok-push_context_line.ensures.text ∙ ap (λ line. string_bytes c.loop-number.out ++ context_line c.args.base c.args.position c.loop-number.number line) c.line_at-line.ensures)
      c.loop-number.invariant.bytes;
  adds = λ front begins. c.in_ok-push_context_line.ensures.adds front (c.loop-number.invariant.adds front begins);
}
