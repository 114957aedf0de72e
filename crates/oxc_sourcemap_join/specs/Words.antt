-- The words of this crate's clauses, from one place.
pub use Rattle.oxc_sourcemap_parts.specs.Views.{texts_of, contents_of, ids_of, record_of_parts}
pub use Rattle.oxc_sourcemap_parts.specs.Views.{cow_texts}
pub use Rattle.oxc_sourcemap_parts.specs.Record.{Text}
pub use Rattle.oxc_sourcemap_tokens.specs.Chunks.{ChunksFit}
pub use Rattle.oxc_sourcemap_tokens.specs.Results.{OnlyMemory, lent_item}
pub use Rattle.oxc_sourcemap_tokens.specs.Token.{TokenRecord, IsInBounds, AreInBounds, last}
pub use Rattle.oxc_sourcemap_tokens.specs.declared.errors.error.Error.TheVariants.{OutOfMemory}
pub use Rattle.oxc_sourcemap_tokens.specs.declared.errors.error.Error.TheVariants.{TooLarge}
pub use Rattle.oxc_sourcemap_join.specs.Joined.{fitted, raised_id, shifted_column, shifted}
pub use Rattle.oxc_sourcemap_join.specs.Joined.{is_same_token, without_repeat, raised_ignore_list}
pub use Rattle.oxc_sourcemap_join.specs.Joined.{appended_ignore_lists, added, nothing_joined}
pub use Rattle.oxc_sourcemap_join.specs.Joined.{AreEntriesInBounds, IsWithinLimits, position}
pub use Rattle.oxc_sourcemap_join.specs.Joined.{joined, owned_records, IsAdded}
pub use Rattle.oxc_sourcemap_join.specs.Joining.{all_shifted, id_limit, IsInReach, IsAddition}
pub use Rattle.oxc_sourcemap_join.specs.Joining.{map_of}
