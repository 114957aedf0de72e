-- The words of this crate's clauses, from one place.
pub use Rattle.oxc_sourcemap_lookup.specs.Lookup.{token_for}
pub use Rattle.oxc_sourcemap_parts.specs.DecodedMap.{name_of}
pub use Rattle.oxc_sourcemap_tokens.specs.declared.errors.error.Error.TheVariants.{OutOfMemory}
pub use Rattle.oxc_sourcemap_json.specs.JsonText.{map_text}
pub use Rattle.oxc_sourcemap_tokens.specs.LineOrder.{IsInLineOrder}
pub use Rattle.oxc_sourcemap_tokens.specs.declared.errors.plan_error.PlanError.TheVariants.{Map}
pub use Rattle.oxc_sourcemap_mappings.specs.Reading.{reading}
pub use Rattle.oxc_sourcemap_parts.specs.Sorted.{are_tokens_sorted}
pub use Rattle.oxc_sourcemap_lookup.specs.Trace.{original_in}
pub use Rattle.oxc_sourcemap_parts.specs.Views.{record_of_parts}
pub use Rattle.oxc_sourcemap_plan.specs.PlanArguments.{parsed_plan}
pub use Rattle.oxc_sourcemap_plan.specs.PlanInputs.{inputs_of}
pub use Rattle.oxc_sourcemap_plan.specs.RunErrors.{out_of_memory}
pub use Rattle.oxc_sourcemap_tokens.specs.Results.{Answers, OnlyMemory, Pushes, lent_item}
pub use Rattle.oxc_sourcemap_tokens.specs.Results.{lent_items}
pub use Rattle.smap_run.specs.Answer.{without_line_feed, mappings_answer, normalised}
pub use Rattle.smap_run.specs.Answer.{normalised_url, IsPlanAnswer, IsPlanError, IsAnswer}
pub use Rattle.smap_run.specs.Answer.{FailsWith, IsInput, AppendsBeginning, of_map, of_plan}
pub use Rattle.smap_run.specs.Arguments.{two_numbers, without_arguments, parsed_command, command_of}
pub use Rattle.smap_run.specs.Arguments.{taken_where}
pub use Rattle.smap_run.specs.Flags.{read_flag, write_flag}
pub use Rattle.smap_run.specs.Request.{request_of}
pub use Rattle.smap_run.specs.Traced.{number_part, name_part, original_text, trace_text, traced_of}
pub use Rattle.smap_run.specs.Traced.{traced}
pub use Rattle.smap_run.specs.ErrorPlaces.{IsReadPlace, IsPlanPlaceIn, IsPlaceOfInput, IsPlacedBy}
pub use Rattle.oxc_sourcemap_mappings.specs.SegmentPlaces.{mappings_place}
pub use Rattle.oxc_sourcemap_plan.specs.PlanPlaces.{fault_place_in}
pub use Rattle.oxc_sourcemap_plan.specs.declared.run_error.RunError.TheVariants.{Plan}
pub use Rattle.oxc_sourcemap_tokens.specs.declared.errors.error.Error.{Error}
