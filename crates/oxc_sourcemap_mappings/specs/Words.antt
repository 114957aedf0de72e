-- The words of this crate's clauses, from one place.
pub use Rattle.oxc_sourcemap_tokens.specs.Chunks.{header, lent_chunks}
pub use Rattle.oxc_sourcemap_tokens.specs.LineOrder.{back_from}
pub use Rattle.oxc_sourcemap_tokens.specs.Places.{fault_at, Reads, Locates}
pub use Rattle.oxc_sourcemap_tokens.specs.Results.{Answers, OnlyMemory, FailsBy, Reports, Pushes}
pub use Rattle.oxc_sourcemap_tokens.specs.Steps.{state_of}
pub use Rattle.oxc_sourcemap_tokens.specs.Token.{last_line}
pub use Rattle.oxc_sourcemap_tokens.specs.declared.errors.error.Error.{Error}
pub use Rattle.oxc_sourcemap_tokens.specs.declared.errors.error.Error.TheVariants.{TooLarge}
pub use Rattle.oxc_sourcemap_tokens.specs.declared.errors.error.Error.TheVariants.{OutOfMemory}
pub use Rattle.oxc_sourcemap_tokens.specs.declared.errors.fault.FaultSpot.TheVariants.{Segment}
pub use Rattle.oxc_sourcemap_mappings.specs.Canonical.{letter, vlq_text, raw_delta, delta_text}
pub use Rattle.oxc_sourcemap_mappings.specs.Canonical.{canonical}
pub use Rattle.oxc_sourcemap_mappings.specs.Decoding.{ends_segment, front_digits, front_segment}
pub use Rattle.oxc_sourcemap_mappings.specs.Decoding.{segments_after, is_over, IsNumberAt}
pub use Rattle.oxc_sourcemap_mappings.specs.Decoding.{AreFieldsOf, AreSmall, value, place_of}
pub use Rattle.oxc_sourcemap_mappings.specs.Decoding.{source_moved, moved, moved_by, IsFrontOf}
pub use Rattle.oxc_sourcemap_mappings.specs.Decoding.{at_line_start}
pub use Rattle.oxc_sourcemap_mappings.specs.Encoding.{text_from, OnlyAdds, line_marks, column_from}
pub use Rattle.oxc_sourcemap_mappings.specs.Encoding.{fields_text, raw_at, IfWritten, AreWritten}
pub use Rattle.oxc_sourcemap_mappings.specs.Faults.{digit_fault, range_fault, is_id_below, low_bits}
pub use Rattle.oxc_sourcemap_mappings.specs.Faults.{source_fault, place_fault, counts_of}
pub use Rattle.oxc_sourcemap_mappings.specs.Number.{digit, payload, signed}
pub use Rattle.oxc_sourcemap_mappings.specs.ChunkTexts.{chunk_text, chunk_text_fault, writing_fault}
pub use Rattle.oxc_sourcemap_mappings.specs.Places.{nothing_before, place}
pub use Rattle.oxc_sourcemap_mappings.specs.Reading.{token_at, segment_result, reading}
pub use Rattle.oxc_sourcemap_mappings.specs.Reasons.{IsReasonOf, moved_by_all}
pub use Rattle.oxc_sourcemap_mappings.specs.SegmentPlaces.{fault_place, mappings_place}
