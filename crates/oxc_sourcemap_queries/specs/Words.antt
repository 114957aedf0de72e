-- The words of this crate's clauses, from one place.
pub use Rattle.oxc_sourcemap_parts.specs.Sorted.{are_tokens_sorted}
pub use Rattle.oxc_sourcemap_tokens.specs.Token.{AreInBounds}
pub use Rattle.oxc_sourcemap_tokens.specs.Results.{lent_item}
pub use Rattle.oxc_sourcemap_parts.specs.DecodedMap.{name_of}
pub use Rattle.oxc_sourcemap_parts.specs.Views.{record_of_parts}
pub use Rattle.oxc_sourcemap_lookup.specs.Trace.{original_in}
pub use Rattle.oxc_sourcemap_queries.specs.RangePieces.{place, line_of, column_of, piece_of}
pub use Rattle.oxc_sourcemap_queries.specs.RangePieces.{pieces_of, DoCover}
pub use Rattle.oxc_sourcemap_queries.specs.Cuts.{token_position, holder, line_end, end_before}
pub use Rattle.oxc_sourcemap_queries.specs.Cuts.{run_end, cut_at, AreLeft, IsStart}
pub use Rattle.oxc_sourcemap_queries.specs.RangeLaws.{PiecesCover, PiecesHold, PiecesTrace}
pub use Rattle.oxc_sourcemap_queries.specs.RangeLaws.{PiecesIndex}
pub use Rattle.oxc_sourcemap_queries.specs.Differences.{HaveSameTraceEverywhere, IsFirstDifference}
pub use Rattle.oxc_sourcemap_queries.specs.Differences.{IfBothSorted}
pub use Rattle.oxc_sourcemap_queries.specs.Walk.{step_at, earlier}
pub use Rattle.oxc_sourcemap_queries.specs.Originals.{content_at, source_of, source_at, source_with}
pub use Rattle.oxc_sourcemap_queries.specs.Originals.{AreEqualSources, AreShared, is_shared}
pub use Rattle.oxc_sourcemap_queries.specs.Originals.{found_with}
