-- The words of this crate's clauses, from one place.
pub use Rattle.oxc_sourcemap_tokens.specs.Results.{Answers, GivesBut}
pub use Rattle.oxc_sourcemap_tokens.specs.declared.errors.error.Error.TheVariants.{OutOfMemory}
pub use Rattle.oxc_sourcemap_tokens.specs.declared.errors.error.Error.TheVariants.{TooLarge}
pub use Rattle.oxc_sourcemap_text.specs.TextLines.{units_of, lines_of, text_lines, ends_line}
pub use Rattle.oxc_sourcemap_text.specs.TextLines.{line_at}
pub use Rattle.oxc_sourcemap_text.specs.Positions.{line_start, column_count, is_inside_pair}
pub use Rattle.oxc_sourcemap_text.specs.Positions.{offset_of, line_of, position_of, in_size}
pub use Rattle.oxc_sourcemap_text.specs.Positions.{position_error_text}
pub use Rattle.oxc_sourcemap_text.specs.PositionLaws.{PositionsAndOffsetsInverse}
pub use Rattle.oxc_sourcemap_text.specs.Scans.{starts_from, second_halves, ends_line_alone, IsScan}
pub use Rattle.oxc_sourcemap_text.specs.DataUrlMessages.{data_url_error_text}
pub use Rattle.oxc_sourcemap_text.specs.DataUrls.{has_data_scheme, behind_scheme, head_of, data_of}
pub use Rattle.oxc_sourcemap_text.specs.DataUrls.{media_type, is_json_type, is_base64, is_json_url}
pub use Rattle.oxc_sourcemap_text.specs.DataUrls.{base64_fault_at, base64_bytes, data_bytes}
pub use Rattle.oxc_sourcemap_text.specs.DataUrls.{utf8_text, data_text, decoded_data_url}
pub use Rattle.oxc_sourcemap_text.specs.MappingUrls.{behind_mark, without_white_space, behind_key}
pub use Rattle.oxc_sourcemap_text.specs.MappingUrls.{named_url, is_mark, is_quote, begins_with}
pub use Rattle.oxc_sourcemap_text.specs.MappingUrls.{around_block_end, may_end_another}
pub use Rattle.oxc_sourcemap_text.specs.MappingUrls.{has_line_comments, pieces, known_after}
pub use Rattle.oxc_sourcemap_text.specs.MappingUrls.{mapping_url, url_known, lent_chars}
pub use Rattle.oxc_sourcemap_text.specs.MappingUrls.{IsMappingComment, all_pieces, IsQuiet}
pub use Rattle.oxc_sourcemap_text.specs.MappingUrls.{BeginsOutside}
pub use Rattle.oxc_sourcemap_text.specs.Comments.{IsCommentAt, IsKnownAfter, IsPlaced, url_of}
pub use Rattle.oxc_sourcemap_text.specs.Comments.{second_of, IsLastUpTo, IsLineOf, pieces_left}
pub use Rattle.oxc_sourcemap_text.specs.Comments.{AreReadApart}
pub use Rattle.oxc_sourcemap_text.specs.CommentLaws.{AppendedIsFound}
