-- The words of this crate's clauses, from one place.
pub use Rattle.oxc_sourcemap_scopes.specs.Faults.{OutOfMemory, error_at, Reads}
pub use Rattle.oxc_sourcemap_scopes.specs.Numbers.{base64_digit, numbers_of}
pub use Rattle.oxc_sourcemap_scopes.specs.Trees.{place_of, innermost, started, ended}
pub use Rattle.oxc_sourcemap_scopes.specs.Trees.{at_next_source}
pub use Rattle.oxc_sourcemap_scopes.specs.Trees.{nothing_grown, AreNested, AreWithin, start_key}
pub use Rattle.oxc_sourcemap_scopes.specs.Trees.{key}
pub use Rattle.oxc_sourcemap_scopes.specs.Items.{number_at, number_if, moved, index_moved, index_if}
pub use Rattle.oxc_sourcemap_scopes.specs.Items.{has_flag, small_at, source_at, range_end, room_in}
pub use Rattle.oxc_sourcemap_scopes.specs.Items.{nothing_read, scope_started, next_if_closed}
pub use Rattle.oxc_sourcemap_scopes.specs.Items.{source_passed, scope_ended, range_started}
pub use Rattle.oxc_sourcemap_scopes.specs.Items.{range_ended, indices_moved, with_indices}
pub use Rattle.oxc_sourcemap_scopes.specs.Items.{variables_read, value_read, all_values}
pub use Rattle.oxc_sourcemap_scopes.specs.Items.{with_others, values_read, value_to_split}
pub use Rattle.oxc_sourcemap_scopes.specs.Items.{first_piece, all_pieces, sub_ranges_read}
pub use Rattle.oxc_sourcemap_scopes.specs.Items.{call_site_read, item_read}
pub use Rattle.oxc_sourcemap_scopes.specs.Reading.{items_read, items_of, finished, scopes_of}
pub use Rattle.oxc_sourcemap_scopes.specs.Reading.{read_scopes, scopes_text, name_count}
pub use Rattle.oxc_sourcemap_scopes.specs.Reading.{scopes_of_value, has_sections}
pub use Rattle.serde_json.specs.View.{view}
pub use Rattle.oxc_sourcemap_scopes.specs.Asking.{place, scope_at, range_at, function_of}
pub use Rattle.oxc_sourcemap_scopes.specs.Asking.{function_at}
pub use Rattle.oxc_sourcemap_scopes.specs.Asking.{callers_of, frames_of, frames_at, frames_record}
pub use Rattle.oxc_sourcemap_scopes.specs.Asking.{with_frames}
pub use Rattle.oxc_sourcemap_scopes.specs.Asking.{scope_seen, range_seen, IsCalled}
pub use Rattle.oxc_sourcemap_scopes.specs.Asking.{variables_of, values_of, value_count}
pub use Rattle.oxc_sourcemap_scopes.specs.Asking.{value_seen, expression_of, starts_by}
pub use Rattle.oxc_sourcemap_scopes.specs.Asking.{last_expression, value_at}
pub use Rattle.oxc_sourcemap_scopes.specs.Trees.{span_at}
pub use Rattle.oxc_sourcemap_scopes.specs.Items.{no_range}
pub use Rattle.oxc_sourcemap_tokens.specs.Results.{lent_items}
pub use Rattle.oxc_sourcemap_scopes.specs.Messages.{fault_text, error_text}
pub use Rattle.oxc_sourcemap_scopes.specs.Asking.{around, is_code_of, code_of, chain_of}
pub use Rattle.oxc_sourcemap_scopes.specs.Asking.{definition_of, scope_chain, scope_chain_at}
pub use Rattle.oxc_sourcemap_scopes.specs.Asking.{frame_starts, caller_starts}
