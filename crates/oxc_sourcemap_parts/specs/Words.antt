-- The words of this crate's clauses, from one place.
pub use Rattle.oxc_sourcemap_tokens.specs.Chunks.{ChunksFit}
pub use Rattle.oxc_sourcemap_tokens.specs.LineOrder.{IsInLineOrder}
pub use Rattle.oxc_sourcemap_tokens.specs.Results.{OnlyMemory, lent_item}
pub use Rattle.oxc_sourcemap_parts.specs.Roots.{is_of_scheme, ends_scheme, has_scheme, is_absolute}
pub use Rattle.oxc_sourcemap_parts.specs.Roots.{needs_slash, rooted_source, rooted}
pub use Rattle.oxc_sourcemap_parts.specs.Sorted.{are_tokens_sorted, may_precede, token_line}
pub use Rattle.oxc_sourcemap_parts.specs.Sorted.{token_column}
pub use Rattle.oxc_sourcemap_parts.specs.Sound.{IsInRange, IsSound}
pub use Rattle.oxc_sourcemap_parts.specs.Views.{text_of, cow_texts, texts_of, contents_of}
pub use Rattle.oxc_sourcemap_parts.specs.Views.{record_of_parts, empty_record, chunks_of, ids_of}
