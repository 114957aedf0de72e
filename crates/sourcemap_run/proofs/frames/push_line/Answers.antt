use Rattle.std.proofs.Common.{◌++◌, refl, ap, subst, sym, arith}
use Rattle.std.specs.Str.{IsUtf8}
use Rattle.std.proofs.lemmas.Str.{IsUtf8-drop, IsCharBoundary-from_drop}
use Rattle.sourcemap_run.specs.Frames.{painted, line_led_back}
use Rattle.sourcemap_run.proofs.CutRows.{one_more_cut, one_more_row}
use Rattle.sourcemap_run.proofs.frames.push_line.Goals as goal

pub loop-cut-init : goal.loop-cut-init
loop-cut-init c = record {
  text = ap (λ t. t ++ line_led_back (painted c.args.paint) c.args.tracers.now c.args.line.now 0 c.args.cuts.now) c.new-text.ensures.bytes;
  row = ((λ h. h), λ h. h);
  rest = refl;
  begins = IsCharBoundary-from_drop c.args.line.now 0 (omega arith) c.utf8.line;
  is_text = c.utf8.line;
}

pub loop-cut-preserved : goal.loop-cut-preserved
loop-cut-preserved c =
    let so_far = c.loop-cut.invariant in
    let line = c.args.line.now in
    let cut = (c.in-Some.ensures.cuts so_far.begins).0 refl in
    let pieces = c.in-Some.ensures.pieces in
    record {
      text = one_more_cut (painted c.args.paint) c.args.tracers.now line c.loop-cut.from c.args.cuts.now c.loop-cut.cut-index _ _ _ _ _ _ c.loop-cut-test.true
          pieces.0 pieces.1 c.in-Some.ensures.target c.in_ok-push_frame.ensures.text so_far.text;
      row = one_more_row line c.loop-cut.from c.args.cuts.now c.loop-cut.cut-index _ c.loop-cut-test.true cut so_far.row;
      rest = pieces.2;
      begins = cut.1.2;
      is_text = subst IsUtf8 (sym pieces.2) (IsUtf8-drop line _ c.utf8.line cut.1.2);
    }
