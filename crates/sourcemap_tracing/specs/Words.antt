-- The words of this crate's clauses, from one place.
pub use Rattle.oxc_sourcemap_tokens.specs.Results.{OnlyMemory, Pushes}
pub use Rattle.oxc_sourcemap_json.specs.Words.{OnlyAdds}
pub use Rattle.oxc_sourcemap_map.specs.Reverse.{all_generated_for}
pub use Rattle.sourcemap_tracing.specs.Rows.{is_mark, is_return}
pub use Rattle.sourcemap_tracing.specs.Reversed.{opened_object, generated_text, separator}
pub use Rattle.sourcemap_tracing.specs.Reversed.{next_generated, generated_texts, is_there}
pub use Rattle.sourcemap_tracing.specs.Reversed.{line_end, reversed_object, reversed_line}
