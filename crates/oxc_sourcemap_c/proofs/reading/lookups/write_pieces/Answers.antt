use Rattle.std.proofs.Common.{◌≡◌, ◌∙◌, ◌+◌, ◌<◌, ap, length, map, take, drop, get_or, slice_set}
use Rattle.std.proofs.Common.{None, arith}
use Rattle.std.proofs.lemmas.List.{length-map, drop-drop, get_or-drop}
use Rattle.oxc_sourcemap_queries.specs.declared.pieces.cuts.Piece.{Piece}
use Rattle.oxc_sourcemap_c.specs.Structs.{piece_numbers}
use Rattle.oxc_sourcemap_c.proofs.Filling.{filled-by, take_mapped, written-next, left-next}
use Rattle.oxc_sourcemap_c.proofs.reading.lookups.write_pieces.Goals as goal

-- what stands for a piece past the end
abbrev no_piece : Piece
no_piece = record {
  line = 0;
  col = 0;
  end_line = 0;
  end_col = 0;
  token = None;
  index = None;
}

pub loop-i-preserved : goal.loop-i-preserved
loop-i-preserved c =
    let i = c.loop-i.i in
    let pieces = c.args.pieces in
    let lt : i < length pieces = omega (arith, c.loop-i-test.true, c.min-i-end.ensures, c.len-count.ensures.value) in
    let room : i < length c.loop-i.out = omega (arith, c.loop-i-test.true, c.min-i-end.ensures, c.loop-i.auto.out) in
    let same : i + 0 ≡ i = omega arith in
    let entry : c.write_next.new.entry ≡ piece_numbers (get_or pieces i no_piece) =
    c.write_next.ensures.written no_piece ∙ ap (λ ps. piece_numbers (get_or ps 0 no_piece)) c.loop-i.invariant.more ∙ ap piece_numbers (get_or-drop i pieces 0 no_piece ∙ ap (λ j. get_or pieces j no_piece) same) in
    record {
      more = c.write_next.ensures.left ∙ ap (drop 1) c.loop-i.invariant.more ∙ drop-drop 1 i pieces;
      written = ap (λ x. take (i + 1) (slice_set c.loop-i.out i x)) entry ∙ written-next piece_numbers pieces c.loop-i.out i no_piece lt room c.loop-i.invariant.written;
      left = left-next c.loop-i.out c.args.out.now i c.write_next.new.entry c.loop-i.invariant.left room (omega arith);
    }

pub returns-clause-written : goal.returns-clause-written
returns-clause-written c =
    filled-by (map piece_numbers c.args.pieces) c.args.out.now c.loop-i.out c.loop-i.i (omega (arith, length-map c.args.pieces piece_numbers, c.min-i-end.ensures, c.len-count.ensures.value, c.loop-i.auto.i-end, c.loop-i-test.false)) (omega arith)
    (c.loop-i.invariant.written ∙ take_mapped piece_numbers c.args.pieces c.loop-i.i) c.loop-i.invariant.left
