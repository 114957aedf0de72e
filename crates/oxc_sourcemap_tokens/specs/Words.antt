-- The words of this crate's clauses, from one place.
pub use Rattle.oxc_sourcemap_tokens.specs.Chunks.{header, chunk_tokens, chunk_from, is_same_state}
pub use Rattle.oxc_sourcemap_tokens.specs.Chunks.{first_misfit, ChunksFit}
pub use Rattle.oxc_sourcemap_tokens.specs.LineOrder.{first_out_of_order, back_from}
pub use Rattle.oxc_sourcemap_tokens.specs.Messages.{key_of, json_fault_text, error_text}
pub use Rattle.oxc_sourcemap_tokens.specs.PlaceMessages.{name_of, spot_text, place_text}
pub use Rattle.oxc_sourcemap_tokens.specs.Places.{place_in, fault_at, no_place, fault_in}
pub use Rattle.oxc_sourcemap_tokens.specs.PlanMessages.{plan_error_text}
pub use Rattle.oxc_sourcemap_tokens.specs.Errors.{error_of_json}
pub use Rattle.oxc_sourcemap_tokens.specs.Results.{lent_item}
pub use Rattle.oxc_sourcemap_tokens.specs.State.{state_at, initial}
pub use Rattle.oxc_sourcemap_tokens.specs.Steps.{state_of, advanced, advanced_all, source_given}
pub use Rattle.oxc_sourcemap_tokens.specs.Steps.{last_given}
pub use Rattle.oxc_sourcemap_tokens.specs.Token.{AreInBounds, mapped_name, kept_id, IsInBounds}
pub use Rattle.oxc_sourcemap_tokens.specs.declared.errors.error.Error.TheVariants.{OutOfMemory}
pub use Rattle.oxc_sourcemap_tokens.specs.declared.errors.plan_error.PlanError.TheVariants.{Map}
