-- The words of this crate's clauses, from one place.
pub use Rattle.oxc_sourcemap_tokens.specs.Results.{Answers, OnlyMemory, Pushes, lent_item}
pub use Rattle.oxc_sourcemap_tokens.specs.Results.{lent_items}
pub use Rattle.oxc_sourcemap_tokens.specs.declared.errors.error.Error.TheVariants.{OutOfMemory}
pub use Rattle.oxc_sourcemap_tokens.specs.declared.errors.error.Error.TheVariants.{TooLarge}
pub use Rattle.oxc_sourcemap_tokens.specs.declared.errors.plan_error.PlanError.TheVariants.{Map}
pub use Rattle.oxc_sourcemap_tokens.specs.declared.errors.plan_error.PlanError.TheVariants.{Unsorted}
pub use Rattle.oxc_sourcemap_json.specs.Words.{OnlyAdds}
pub use Rattle.oxc_sourcemap_parts.specs.DecodedMap.{name_of}
pub use Rattle.oxc_sourcemap_parts.specs.Sorted.{are_tokens_sorted}
pub use Rattle.oxc_sourcemap_lookup.specs.Biased.{token_by}
pub use Rattle.oxc_sourcemap_lookup.specs.Trace.{original_in}
pub use Rattle.sourcemap_run.specs.Answers.{content_at, pointed, map_answer, original_seen, seen}
pub use Rattle.sourcemap_run.specs.Answers.{lent_original}
pub use Rattle.sourcemap_run.specs.Texts.{number_part, original_text}
pub use Rattle.sourcemap_run.specs.Texts.{name_part, number_member, text_member, name_member}
pub use Rattle.sourcemap_run.specs.Texts.{answer_text, answer_members, position_members}
pub use Rattle.sourcemap_run.specs.Texts.{without_comma, object_text}
pub use Rattle.sourcemap_run.specs.Lines.{answer_object, answer_line}
pub use Rattle.sourcemap_run.specs.Frames.{answer_to, location_text, painted, led_back}
pub use Rattle.sourcemap_run.specs.Frames.{frame_position, IsCutAt, between, AreInRow}
pub use Rattle.sourcemap_run.specs.Frames.{line_led_back}
pub use Rattle.oxc_sourcemap_parts.specs.Views.{record_of_parts, cow_texts, text_of}
pub use Rattle.oxc_sourcemap_join.specs.Joined.{joined, at_line, IsWithinLimits}
pub use Rattle.oxc_sourcemap_queries.specs.RangePieces.{pieces_of}
pub use Rattle.oxc_sourcemap_text.specs.TextLines.{units_of, lines_of, line_at}
pub use Rattle.sourcemap_run.specs.Bundled.{HasLineEnds, StandsAt, IsInSize, IsEnded, IsTooLarge}
pub use Rattle.sourcemap_run.specs.Bundled.{IsNext, IsPushed}
pub use Rattle.sourcemap_run.specs.Marks.{mark_of}
pub use Rattle.sourcemap_run.specs.Page.{HasDataMark, IsFilled}
pub use Rattle.sourcemap_run.specs.Differences.{is_same_text, is_same_original, is_same_answer}
pub use Rattle.sourcemap_run.specs.Differences.{differ_at}
pub use Rattle.sourcemap_run.specs.Counts.{path_at, raised, original_count, count_at}
pub use Rattle.sourcemap_run.specs.Counts.{is_missed, missed_ranges, closed, opened}
pub use Rattle.sourcemap_run.specs.Totals.{with_count, with_counts, total_at, HaveLines}
pub use Rattle.sourcemap_run.specs.Totals.{TotalsAddUp}
pub use Rattle.sourcemap_run.specs.Covered.{ran, range_text, missed_text, lcov_line, lcov_end}
pub use Rattle.sourcemap_run.specs.Covered.{lcov_text, LcovTellsApart, missed_numbers}
pub use Rattle.sourcemap_run.specs.Covered.{covered_members, covered_line, CoveredTellsApart}
pub use Rattle.sourcemap_run.specs.Contexts.{is_line_end, line_char, line_text, blank_char}
pub use Rattle.sourcemap_run.specs.Contexts.{before_column, aligned, numbered_line, mark_line}
pub use Rattle.sourcemap_run.specs.Contexts.{below_number}
pub use Rattle.sourcemap_run.specs.Contexts.{context_line, lines_around, context_text}
pub use Rattle.sourcemap_run.specs.Contexts.{LinesAreCounted}
pub use Rattle.sourcemap_run.specs.RawLines.{spliced, are_in_row, IsMasked}
pub use Rattle.sourcemap_run.specs.Sizes.{source_of, begin_of, lengths_of, slot_of, bytes_at}
pub use Rattle.sourcemap_texts.specs.Paths.{IsMoved, IsRebased, written}
pub use Rattle.oxc_sourcemap_parts.specs.Roots.{rooted}
