-- The words of the clauses of this library's calls, from one place. Users import what they need from here.
pub use Rattle.oxc_sourcemap.specs.FoundView.{found_view}
pub use Rattle.oxc_sourcemap_found.specs.FoundMaps.{found}
pub use Rattle.oxc_sourcemap_map.specs.Building.{with_name, with_name_at, with_another_source}
pub use Rattle.oxc_sourcemap_map.specs.Building.{with_path, with_path_at, with_bare_path}
pub use Rattle.oxc_sourcemap_map.specs.Built.{nothing_built}
pub use Rattle.oxc_sourcemap_map.specs.NameLaws.{EqualIdsForEqualNames}
pub use Rattle.oxc_sourcemap_json.specs.Decoded.{decoded, json_fault}
pub use Rattle.oxc_sourcemap_json.specs.ReadMap.{read_value, read_map}
pub use Rattle.oxc_sourcemap_json.specs.ReadMap.{read_decoded_map}
pub use Rattle.oxc_sourcemap_queries.specs.Differences.{HaveSameTraceEverywhere, IsFirstDifference}
pub use Rattle.oxc_sourcemap_queries.specs.Differences.{IfBothSorted}
pub use Rattle.oxc_sourcemap_json.specs.Encoded.{encoded}
pub use Rattle.oxc_sourcemap_json.specs.JsonText.{map_text, map_url, appended}
pub use Rattle.oxc_sourcemap_json.specs.Within.{map_text_within, map_url_within, mappings_within}
pub use Rattle.oxc_sourcemap_join.specs.Joined.{joined, lent_maps, IsWithinLimits, at_line}
pub use Rattle.oxc_sourcemap_join.specs.Joined.{at_lines, added, nothing_joined, position}
pub use Rattle.oxc_sourcemap_join.specs.Joined.{at_positions}
pub use Rattle.oxc_sourcemap_json.specs.JsonRecord.{json_record}
pub use Rattle.oxc_sourcemap_plan.specs.ComposeLaws.{grouped_left, grouped_right, IsSeveralSources}
pub use Rattle.oxc_sourcemap_plan.specs.ComposedDecodedMaps.{composed_decoded_maps}
pub use Rattle.oxc_sourcemap_plan.specs.JoinLaws.{HaveSameTraces, without_chunks}
pub use Rattle.oxc_sourcemap_plan.specs.JoinLaws.{decoded_maps_of}
pub use Rattle.oxc_sourcemap_plan.specs.JoinedDecodedMaps.{joined_decoded_maps}
pub use Rattle.oxc_sourcemap_plan.specs.RemapLaws.{each_remapped}
pub use Rattle.oxc_sourcemap_plan.specs.RemappedDecodedMaps.{remapped_decoded_map}
pub use Rattle.oxc_sourcemap_plan.specs.Repeats.{EqualUpToRepeats}
pub use Rattle.oxc_sourcemap_steps.specs.Composed.{composition, composition_fault, SomeComposition}
pub use Rattle.oxc_sourcemap_steps.specs.Composed.{NoColumnGoesBack}
pub use Rattle.oxc_sourcemap_compiled.specs.Compiled.{AreBytesOf, FitsCompiled}
pub use Rattle.oxc_sourcemap_compiled.specs.CompiledMeaning.{CompiledRecord, compiled_in}
pub use Rattle.oxc_sourcemap_compiled.specs.CompiledMeaning.{compiled_meaning, token_in}
pub use Rattle.oxc_sourcemap_compiled.specs.Decompiled.{checked_map, DoesNotGoBack}
pub use Rattle.oxc_sourcemap_compiled.specs.Layout.{header_in}
pub use Rattle.oxc_sourcemap_compiled.specs.Means.{compiled_of, FitsFormat, CompiledMeansMap}
pub use Rattle.oxc_sourcemap_compiled.specs.Order.{IsInOrder, IsOnLine, IsTokenAt, IsTokenOn}
pub use Rattle.oxc_sourcemap_compiled.specs.Order.{IsIndexFor}
pub use Rattle.oxc_sourcemap_lookup.specs.Digits.{binary_digits}
pub use Rattle.oxc_sourcemap_lookup.specs.Lookup.{at, clamped_at, no_column_goes_back, token_for}
pub use Rattle.oxc_sourcemap_lookup.specs.Lookup.{clamped_token_for, IfOwnTable, table_fault}
pub use Rattle.oxc_sourcemap_lookup.specs.Lookup.{line_table, slice_of, at_or_after, token_after}
pub use Rattle.oxc_sourcemap_lookup.specs.Lookup.{index_for, clamped_index_for, index_after}
pub use Rattle.oxc_sourcemap_lookup.specs.Trace.{trace, clamped_trace}
pub use Rattle.oxc_sourcemap_map.specs.View.{view_of, view_original, seen_in, content_at}
pub use Rattle.oxc_sourcemap_map.specs.View.{source_and_content_at, view_name, view_source}
pub use Rattle.oxc_sourcemap_map.specs.View.{view_content, view_source_and_content}
pub use Rattle.oxc_sourcemap_map.specs.contracts.maps.owned_sourcemap.OwnedSourceMap.{the_row}
pub use Rattle.oxc_sourcemap_map.specs.contracts.maps.sourcemap.SourceMap.{the_row as map_row}
pub use Rattle.oxc_sourcemap_mappings.specs.Canonical.{as_written}
pub use Rattle.oxc_sourcemap_mappings.specs.Reading.{reading}
pub use Rattle.oxc_sourcemap_mappings.specs.SegmentPlaces.{fault_place}
pub use Rattle.oxc_sourcemap_parts.specs.DecodedMap.{DecodedMap, decoded_map_of}
pub use Rattle.oxc_sourcemap_parts.specs.Record.{MapRecord, Text}
pub use Rattle.oxc_sourcemap_parts.specs.Roots.{rooted}
pub use Rattle.oxc_sourcemap_steps.specs.Simplified.{simplified, simplification}
pub use Rattle.oxc_sourcemap_steps.specs.Sorting.{sorted_by, sorted_tokens, sorted_map}
pub use Rattle.oxc_sourcemap_steps.specs.Sorting.{sorted_decoded_map}
pub use Rattle.oxc_sourcemap_parts.specs.Sorted.{are_tokens_sorted, token_column}
pub use Rattle.oxc_sourcemap_parts.specs.Sound.{IsSound}
pub use Rattle.oxc_sourcemap_parts.specs.Texts.{index_of}
pub use Rattle.oxc_sourcemap_parts.specs.Views.{record_of_parts, empty_record, text_of, texts_of}
pub use Rattle.oxc_sourcemap_parts.specs.Views.{contents_of, chunks_of}
pub use Rattle.oxc_sourcemap_queries.specs.RangePieces.{place, pieces_of, DoCover}
pub use Rattle.oxc_sourcemap_scopes.specs.Asking.{frames_at, frames_record, scope_at, range_at}
pub use Rattle.oxc_sourcemap_scopes.specs.Asking.{function_at, scope_seen, range_seen}
pub use Rattle.oxc_sourcemap_scopes.specs.Asking.{variables_of, values_of, value_count, value_seen}
pub use Rattle.oxc_sourcemap_scopes.specs.Asking.{expression_of, value_at, scope_chain}
pub use Rattle.oxc_sourcemap_scopes.specs.Asking.{scope_chain_at}
pub use Rattle.oxc_sourcemap_scopes.specs.Reading.{scopes_of, read_scopes, ScopesRecord, AreSound}
pub use Rattle.oxc_sourcemap_scopes.specs.Faults.{Reads}
pub use Rattle.oxc_sourcemap_scopes.specs.Laws.{RangesAround, ScopesAround, FunctionsContain}
pub use Rattle.oxc_sourcemap_scopes.specs.Laws.{FramesContain, NamesLead, SourcesLead}
pub use Rattle.oxc_sourcemap_tokens.specs.PlaceMessages.{place_text, spot_text}
pub use Rattle.oxc_sourcemap_json.specs.ValuePlaces.{value_spot, value_place, IsBytePlace}
pub use Rattle.oxc_sourcemap_plan.specs.PlanPlaces.{texts_of as plan_texts_of, IsPlanPlace}
pub use Rattle.oxc_sourcemap_plan.specs.Depth.{depth}
pub use Rattle.oxc_sourcemap_plan.specs.Evaluated.{IsEvaluated, HasOutcome, IsErrorOf}
pub use Rattle.oxc_sourcemap_plan.specs.Meaning.{meaning, read_meaning, text_meaning, by_path}
pub use Rattle.oxc_sourcemap_plan.specs.Meaning.{join_meaning, composition_meaning, remap_meaning}
pub use Rattle.oxc_sourcemap_plan.specs.Meaning.{root_meaning, simplified_meaning}
pub use Rattle.oxc_sourcemap_plan.specs.Outcome.{is_within_limits, outcome, read_outcome}
pub use Rattle.oxc_sourcemap_plan.specs.Outcome.{composition_outcome, Outcome, rewrite_outcome}
pub use Rattle.oxc_sourcemap_plan.specs.Outcome.{join_outcome, outcome_of, outcomes}
pub use Rattle.oxc_sourcemap_plan.specs.Numbers.{number_of}
pub use Rattle.oxc_sourcemap_plan.specs.PlanArguments.{parsed_number, parsed_beginning}
pub use Rattle.oxc_sourcemap_plan.specs.PlanArguments.{parsed_input, parsed_join, parsed_part}
pub use Rattle.oxc_sourcemap_plan.specs.PlanArguments.{parsed_plan}
pub use Rattle.oxc_sourcemap_plan.specs.PlanInputs.{inputs_of}
pub use Rattle.oxc_sourcemap_plan.specs.RunErrors.{out_of_memory, run_error_text, status_of}
pub use Rattle.oxc_sourcemap_plan.specs.declared.run_error.RunError.TheVariants.{Plan}
pub use Rattle.oxc_sourcemap_steps.specs.Inputs.{lent_inputs, inputs_fault, NoInputColumnGoesBack}
pub use Rattle.oxc_sourcemap_steps.specs.Remapped.{remapping, SomeRemapping}
pub use Rattle.oxc_sourcemap_map.specs.Reverse.{generated_at, generated_for, generated_from}
pub use Rattle.oxc_sourcemap_map.specs.Reverse.{all_generated_for, all_generated_from}
pub use Rattle.oxc_sourcemap_map.specs.Reverse.{IsLineByColumn, index_fault, indexed}
pub use Rattle.oxc_sourcemap_tokens.specs.Chunks.{ChunksFit}
pub use Rattle.oxc_sourcemap_tokens.specs.LineOrder.{IsInLineOrder}
pub use Rattle.oxc_sourcemap_tokens.specs.Results.{Answers, Reports, OnlyMemory, lent_items}
pub use Rattle.oxc_sourcemap_tokens.specs.Results.{lent_item, Gives, Pushes, GivesBut, FailsBy}
pub use Rattle.oxc_sourcemap_tokens.specs.Token.{AreInBounds, kept_id}
pub use Rattle.oxc_sourcemap_tokens.specs.declared.errors.error.Error.TheVariants.{OutOfMemory}
pub use Rattle.oxc_sourcemap_tokens.specs.declared.errors.error.Error.TheVariants.{TooLarge}
pub use Rattle.oxc_sourcemap_tokens.specs.declared.errors.error.Error.TheVariants.{SeveralSources}
pub use Rattle.oxc_sourcemap_tokens.specs.declared.errors.plan_error.PlanError.TheVariants.{Map}
pub use Rattle.oxc_sourcemap_tokens.specs.declared.errors.plan_error.PlanError.TheVariants.{Unsorted}
pub use Rattle.oxc_sourcemap_map.specs.Link.{counted, map_link}
pub use Rattle.oxc_sourcemap_text.specs.TextLines.{units_of, lines_of, text_lines, ends_line}
pub use Rattle.oxc_sourcemap_text.specs.TextLines.{line_at}
pub use Rattle.oxc_sourcemap_text.specs.DataUrls.{decoded_data_url}
pub use Rattle.oxc_sourcemap_text.specs.MappingUrls.{mapping_url, lent_chars}
pub use Rattle.oxc_sourcemap_map.specs.VisualText.{is_within, dst_end, src_end, is_on_source_line}
pub use Rattle.oxc_sourcemap_map.specs.VisualText.{between, part_text, position_text, mark, heading}
pub use Rattle.oxc_sourcemap_map.specs.VisualText.{invalid_text, parts_text, mapping_text, shown}
pub use Rattle.oxc_sourcemap_map.specs.VisualText.{shown_source, visual_token_text, tokens_text}
pub use Rattle.oxc_sourcemap_map.specs.VisualText.{visual_text}
pub use Rattle.serde_json.specs.View.{view}
pub use mir.Syntax.{static}
