-- The words of this crate's clauses, from one place.
pub use Rattle.oxc_sourcemap_compiled.specs.Compiled.{bytes_of, table, AreLinesOf, line_starts}
pub use Rattle.oxc_sourcemap_compiled.specs.Compiled.{id_number, field_number, IsPacked, ArePacked}
pub use Rattle.oxc_sourcemap_compiled.specs.Compiled.{AreBlocksOf, stride_of}
pub use Rattle.oxc_sourcemap_compiled.specs.Compiled.{group_bytes_of}
pub use Rattle.oxc_sourcemap_compiled.specs.Compiled.{all_group_bytes}
pub use Rattle.oxc_sourcemap_compiled.specs.Compiled.{row_of, FitsCompiled}
pub use Rattle.oxc_sourcemap_compiled.specs.Compiled.{rows_of, group_of, above_in}
pub use Rattle.oxc_sourcemap_compiled.specs.Compiled.{AreNarrow, FieldsFit, IsWritten}
pub use Rattle.oxc_sourcemap_compiled.specs.Compiled.{token_bits}
pub use Rattle.oxc_sourcemap_compiled.specs.Compiled.{groups_of, ignored_of, AreCountsOf}
pub use Rattle.oxc_sourcemap_compiled.specs.Compiled.{stored_text}
pub use Rattle.oxc_sourcemap_compiled.specs.Compiled.{stored_count, text_offset, header_bytes}
pub use Rattle.oxc_sourcemap_compiled.specs.Compiled.{parts_bytes, header_of_map, AreBytesOf}
pub use Rattle.oxc_sourcemap_compiled.specs.Compiled.{content_at}
pub use Rattle.oxc_sourcemap_compiled.specs.Stored.{stored_bytes}
pub use Rattle.oxc_sourcemap_compiled.specs.Cuts.{IsCut, IsCutFound, DoNotFall}
pub use Rattle.oxc_sourcemap_compiled.specs.Decompiled.{checked_texts, checked_contents}
pub use Rattle.oxc_sourcemap_compiled.specs.Decompiled.{checked_text, checked_map, is_optional_utf8}
pub use Rattle.oxc_sourcemap_compiled.specs.Decompiled.{DoLinesFollow, DoTextsFollow, DoesNotGoBack}
pub use Rattle.oxc_sourcemap_compiled.specs.Fields.{IsField, IsRow, HasRoom, value_at, value_in}
pub use Rattle.oxc_sourcemap_compiled.specs.Fields.{field_in, widths_in}
pub use Rattle.oxc_sourcemap_compiled.specs.Fields.{row_base, row_in, empty_row, empty_field}
pub use Rattle.oxc_sourcemap_compiled.specs.Layout.{header_in, layout_in, AreCounts, HasParts}
pub use Rattle.oxc_sourcemap_compiled.specs.Layout.{block_count, text_count, compiled_fault}
pub use Rattle.oxc_sourcemap_compiled.specs.Layout.{block_groups, blocks_for, groups_in}
pub use Rattle.oxc_sourcemap_compiled.specs.Layout.{listed_count}
pub use Rattle.oxc_sourcemap_compiled.specs.CompiledMeaning.{stored_id, token_at, token_in}
pub use Rattle.oxc_sourcemap_compiled.specs.CompiledMeaning.{start_in}
pub use Rattle.oxc_sourcemap_compiled.specs.CompiledMeaning.{number_in_list}
pub use Rattle.oxc_sourcemap_compiled.specs.CompiledMeaning.{line_in, entry_begin, entry_end}
pub use Rattle.oxc_sourcemap_compiled.specs.CompiledMeaning.{entry_tokens}
pub use Rattle.oxc_sourcemap_compiled.specs.CompiledMeaning.{tokens_in, offset_in, part_between}
pub use Rattle.oxc_sourcemap_compiled.specs.CompiledMeaning.{text_in}
pub use Rattle.oxc_sourcemap_compiled.specs.CompiledMeaning.{optional_in, ignored_in}
pub use Rattle.oxc_sourcemap_compiled.specs.CompiledMeaning.{compiled_meaning}
pub use Rattle.oxc_sourcemap_compiled.specs.CompiledMeaning.{compiled_in, listed_in, utf8_text}
pub use Rattle.oxc_sourcemap_compiled.specs.CompiledMeaning.{listed_text}
pub use Rattle.oxc_sourcemap_compiled.specs.CompiledMeaning.{optional_text, ignore_list_in, map_in}
pub use Rattle.oxc_sourcemap_compiled.specs.Means.{compiled_of, FitsFormat}
pub use Rattle.oxc_sourcemap_compiled.specs.Means.{CompiledMeansMap, CompiledIsInOrder}
pub use Rattle.oxc_sourcemap_compiled.specs.Means.{CompiledLooksUp, StoredMeansMap}
pub use Rattle.oxc_sourcemap_compiled.specs.Means.{CompiledIsTakenApart}
pub use Rattle.oxc_sourcemap_compiled.specs.CompiledMessages.{compiled_error_text}
pub use Rattle.oxc_sourcemap_compiled.specs.Numbers.{number_at}
pub use Rattle.oxc_sourcemap_compiled.specs.Opened.{IsOpened, IsSearchIn, IsColumnCut}
pub use Rattle.oxc_sourcemap_compiled.specs.Order.{columns_in, column_of, least_column_of}
pub use Rattle.oxc_sourcemap_compiled.specs.Order.{AreRowsExact}
pub use Rattle.oxc_sourcemap_compiled.specs.Order.{IsInEntry, IsSpan, IsUpToEnd, AreColumnsOf}
pub use Rattle.oxc_sourcemap_compiled.specs.Order.{AreInOrder, IsInOrder, IsOnLine}
pub use Rattle.oxc_sourcemap_compiled.specs.Order.{IsIndexIn, IsFoundIn}
pub use Rattle.oxc_sourcemap_compiled.specs.Order.{IsIndexFor, IsTokenAt, IsTokenOn}
