-- The words of this crate's clauses, from one place.
pub use Rattle.oxc_sourcemap_json.specs.JsonText.{map_text, map_url}
pub use Rattle.oxc_sourcemap_json.specs.Within.{map_text_within, map_url_within, mappings_within}
pub use Rattle.oxc_sourcemap_found.specs.MendText.{mend_text}
pub use Rattle.oxc_sourcemap_c.specs.CallErrors.{call_error_text, out_of_memory, IsNotText}
pub use Rattle.oxc_sourcemap_c.specs.CallErrors.{of_map, IsSimplifyError, IsUnsorted}
pub use Rattle.oxc_sourcemap_c.specs.Codes.{call_error_of, code_of, fault_of, no_fault}
pub use Rattle.oxc_sourcemap_c.specs.Codes.{IsErrorAs, fault_at, IsSmall}
pub use Rattle.oxc_sourcemap_c.specs.Holding.{HoldsMap, HoldsOwn, held_loaded, held_map}
pub use Rattle.oxc_sourcemap_c.specs.Holding.{own_loaded, own_map, shared_loaded}
pub use Rattle.oxc_sourcemap_c.specs.Holding.{held_mends, held_text, held_builder, held_join}
pub use Rattle.oxc_sourcemap_c.specs.Listed.{AreFilled, IsListed, IsListedBy, IsOptionListed}
pub use Rattle.oxc_sourcemap_c.specs.Listed.{cow_options, filled}
pub use Rattle.oxc_sourcemap_c.specs.Lists.{token_of, AreTexts, known_texts, AreContents}
pub use Rattle.oxc_sourcemap_c.specs.Lists.{IsNotContents, IsNotTexts}
pub use Rattle.oxc_sourcemap_c.specs.PlaceNumbers.{place_of_numbers}
pub use Rattle.oxc_sourcemap_c.specs.Structs.{LendsText, IsContentText, bytes_of_options}
pub use Rattle.oxc_sourcemap_c.specs.Structs.{bytes_of_texts}
pub use Rattle.oxc_sourcemap_c.specs.Structs.{capped, counts_of, map_bytes, numbers_of}
pub use Rattle.oxc_sourcemap_c.specs.Structs.{piece_numbers, token_numbers}
pub use Rattle.oxc_sourcemap_c.specs.Traces.{AreFoundIn, AreTracesOf, HasBias}
pub use Rattle.oxc_sourcemap_c.specs.Traces.{IsTraceAllError, IsTraceError, IsTraceOf}
pub use Rattle.oxc_sourcemap_c.specs.declared.numbers.call_error.CallError.TheVariants.{Lengths}
pub use Rattle.oxc_sourcemap_c.specs.declared.numbers.call_error.CallError.TheVariants.{NullHandle}
pub use Rattle.oxc_sourcemap_c.specs.declared.numbers.options.Direction.TheVariants.{OnLine}
pub use Rattle.oxc_sourcemap_lookup.specs.Lookup.{lines_through}
pub use Rattle.oxc_sourcemap_mappings.specs.Canonical.{canonical}
pub use Rattle.oxc_sourcemap_mappings.specs.ChunkTexts.{writing_fault}
pub use Rattle.oxc_sourcemap_parts.specs.Sorted.{are_tokens_sorted}
pub use Rattle.oxc_sourcemap_parts.specs.Sound.{IsSound}
pub use Rattle.oxc_sourcemap_parts.specs.Views.{cow_texts, ids_of, record_of_parts}
pub use Rattle.oxc_sourcemap_queries.specs.declared.pieces.cuts.Piece.{Piece}
pub use Rattle.oxc_sourcemap_tokens.specs.PlaceMessages.{place_text}
pub use Rattle.oxc_sourcemap_map.specs.Orders.{IsSourceOrderOf}
pub use Rattle.oxc_sourcemap_map.specs.Reverse.{indices_on, is_into}
pub use Rattle.oxc_sourcemap_tokens.specs.Chunks.{lent_chunks, ChunksFit}
pub use Rattle.oxc_sourcemap_tokens.specs.Errors.{unless}
pub use Rattle.oxc_sourcemap_tokens.specs.LineOrder.{IsInLineOrder}
pub use Rattle.oxc_sourcemap_tokens.specs.Results.{Answers, lent_item, lent_items}
pub use Rattle.oxc_sourcemap_tokens.specs.Token.{TokenRecord, last}
pub use Rattle.oxc_sourcemap_text.specs.DataUrls.{decoded_data_url}
pub use Rattle.oxc_sourcemap_map.specs.Link.{map_link}
pub use Rattle.oxc_sourcemap_map.specs.Building.{with_bare_path, with_name, with_path}
pub use Rattle.oxc_sourcemap_map.specs.Built.{nothing_built}
pub use Rattle.oxc_sourcemap_json.specs.Decoded.{first_not_below}
pub use Rattle.oxc_sourcemap_json.specs.ReadMap.{read_map}
pub use Rattle.oxc_sourcemap_found.specs.FoundMaps.{found, found_record}
pub use Rattle.oxc_sourcemap_c.specs.declared.numbers.call_error.CallError.{CallError}
pub use Rattle.oxc_sourcemap_join.specs.Joined.{IsWithinLimits, added, nothing_joined, position}
pub use Rattle.oxc_sourcemap_mappings.specs.Reading.{reading}
pub use Rattle.oxc_sourcemap_plan.specs.Outcome.{outcome}
pub use Rattle.oxc_sourcemap_plan.specs.PlanArguments.{parsed_plan}
pub use Rattle.oxc_sourcemap_steps.specs.Inputs.{lent_inputs}
pub use Rattle.oxc_sourcemap_plan.specs.Evaluated.{are_among}
pub use Rattle.oxc_sourcemap_plan.specs.PlanPlaces.{fault_place_in}
pub use Rattle.oxc_sourcemap_tokens.specs.declared.errors.error.Error.TheVariants.{OutOfMemory}
pub use Rattle.oxc_sourcemap_map.specs.View.{content_at}
pub use Rattle.oxc_sourcemap_parts.specs.Roots.{rooted}
pub use Rattle.oxc_sourcemap_steps.specs.Simplified.{simplification}
pub use Rattle.oxc_sourcemap_steps.specs.Sorting.{sorted_map}
pub use Rattle.oxc_sourcemap_c.specs.Answers.{IsTraced, IsFlagOf, IsFound, flag_of, known_flag}
pub use Rattle.oxc_sourcemap_c.specs.Answers.{known_flags}
pub use Rattle.oxc_sourcemap_c.specs.Answers.{text_at}
pub use Rattle.oxc_sourcemap_c.specs.Mends.{kind_numbers, kind_of_numbers, mend_of_numbers}
pub use Rattle.oxc_sourcemap_c.specs.Mends.{numbers_of_kind, numbers_of_mend}
pub use Rattle.oxc_sourcemap_c.specs.Messages.{IsMessage}
pub use Rattle.oxc_sourcemap_c.specs.Ranges.{ArePieces, IsDifference}
pub use Rattle.oxc_sourcemap_c.specs.Reverse.{AreAllGenerated, IsFirstGenerated, IsIndexError}
pub use Rattle.oxc_sourcemap_c.specs.Reverse.{answering}
pub use Rattle.oxc_sourcemap_c.specs.Writing.{IsDataUrlError, IsLinkError, IsTokensError, IsUrlIn}
pub use Rattle.oxc_sourcemap_c.specs.Writing.{IsUrlOf, IsVisualError, IsVisualText, IsWrittenAs}
pub use Rattle.oxc_sourcemap_c.specs.Writing.{call_error_of_data, language_of, mappings_text}
pub use Rattle.oxc_sourcemap_c.specs.Writing.{tokens_text, mappings_text_within}
pub use Rattle.oxc_sourcemap_c.specs.Writing.{IsTokensErrorWithin}
pub use Rattle.oxc_sourcemap_c.specs.Failures.{IsFailure, IsMappingsErrorAt, IsReadErrorAt}
pub use Rattle.oxc_sourcemap_c.specs.Failures.{IsFoundErrorAt, IsFoundTextErrorAt, IsSegmentErrorAt}
pub use Rattle.oxc_sourcemap_c.specs.Failures.{IsTextErrorAt, IsErrorAt}
pub use Rattle.oxc_sourcemap_c.specs.Builders.{Builds, IsBuilderError, IsFinished, IsNameError}
pub use Rattle.oxc_sourcemap_c.specs.Builders.{IsPathError, IsSourceError, IsStep, IsStepError}
pub use Rattle.oxc_sourcemap_c.specs.Builders.{with_file, with_tokens}
pub use Rattle.oxc_sourcemap_c.specs.Changes.{Changes, IsChange, IsChangeError, IsMapError}
pub use Rattle.oxc_sourcemap_c.specs.Changes.{IsSureError, IsUnchangeable, NeedsNoMemory}
pub use Rattle.oxc_sourcemap_c.specs.Sharing.{IsRetainError, IsShared, IsSharedOf}
pub use Rattle.oxc_sourcemap_c.specs.declared.holding.held.Held.TheVariants.{Map as HeldMap}
pub use Rattle.oxc_sourcemap_c.specs.Joining.{IsAddError, IsJoinFinished, IsJoined, IsNullJoin}
pub use Rattle.oxc_sourcemap_c.specs.Joining.{IsOneNull, IsPartsError}
pub use Rattle.oxc_sourcemap_c.specs.Making.{HasTexts, IsListsError, IsMapMissing, IsNotTextOf}
pub use Rattle.oxc_sourcemap_c.specs.Making.{has_too_long_list, id_not_below, ids_fault, ids_if_any}
pub use Rattle.oxc_sourcemap_c.specs.Making.{is_too_long, lists_fault, map_of_lists, map_of_tokens}
pub use Rattle.oxc_sourcemap_c.specs.Making.{token_fault, tokens_fault}
pub use Rattle.oxc_sourcemap_c.specs.MapsOfMaps.{HoldMaps, IsComposition, IsComposingError}
pub use Rattle.oxc_sourcemap_c.specs.MapsOfMaps.{IsCompositionError, IsJoinErrorOf, IsAddErrorOf}
pub use Rattle.oxc_sourcemap_c.specs.MapsOfMaps.{IsJoinOfLent, IsRemapError, IsRemapped}
pub use Rattle.oxc_sourcemap_c.specs.MapsOfMaps.{IsRemapping, IsRemappingError, all_lent, all_maps}
pub use Rattle.oxc_sourcemap_c.specs.MapsOfMaps.{IsSureComposeError, IsSureJoinError, by_path}
pub use Rattle.oxc_sourcemap_c.specs.MapsOfMaps.{IsSureRemapError}
pub use Rattle.oxc_sourcemap_steps.specs.Composed.{composition_fault}
pub use Rattle.oxc_sourcemap_c.specs.Plans.{IsEvaluationErrorAt, IsOutcomeErrorAt}
pub use Rattle.oxc_sourcemap_c.specs.Plans.{IsPlanErrorAt, IsPlanMap, call_error_of_run, of_plan}
pub use Rattle.oxc_sourcemap_c.specs.Exports.{Found, HoldsString, HoldsText, HoldsWritten, IsCodeOf}
pub use Rattle.oxc_sourcemap_c.specs.Exports.{IsError, IsUrlAnswer, IsWritingError}
pub use Rattle.oxc_sourcemap_c.specs.Reading.{DifferFrom, HasAll, HasFirst, Lists, ListsBy}
pub use Rattle.oxc_sourcemap_c.specs.Reading.{ListsOption, position_at, source_place}
pub use Rattle.oxc_sourcemap_tokens.specs.declared.errors.error.Error.{Error}
pub use Rattle.oxc_sourcemap_compiled.specs.Words.{compiled_fault, compiled_in}
pub use Rattle.oxc_sourcemap_c.specs.CompiledTraces.{IsCompiledIndex, IsCompiledTrace}
pub use Rattle.oxc_sourcemap_c.specs.Holding.{held_compiled}
pub use Rattle.oxc_sourcemap_c.specs.declared.numbers.call_error.CallError.TheVariants.{BadOption}
pub use Rattle.oxc_sourcemap_c.specs.declared.texts.text.Text.{Text as LentText}
pub use Rattle.oxc_sourcemap_c.specs.declared.texts.text.TokenNumbers.{TokenNumbers}
pub use Rattle.oxc_sourcemap_c.specs.Compiled.{HoldsCompiled, IsCompileError, IsCompiledAllError}
pub use Rattle.oxc_sourcemap_c.specs.Compiled.{IsCompiledError, IsCompiledFrom, IsCompiledText}
pub use Rattle.oxc_sourcemap_c.specs.Compiled.{IsCompiledToken, IsDecompileError, IsIgnoredFlag}
pub use Rattle.oxc_sourcemap_c.specs.Compiled.{IsOpenError, IsStamp, IsWrittenOut, asked_of}
pub use Rattle.oxc_sourcemap_c.specs.Compiled.{compiled_counts_of}
pub use Rattle.oxc_sourcemap_c.specs.Compiled.{IsUncompiled, IsSureCompileError, IsTakenApart}
pub use Rattle.oxc_sourcemap_c.specs.Compiled.{IsSureDecompileError}
pub use Rattle.oxc_sourcemap_lookup.specs.Biased.{index_by}
pub use Rattle.oxc_sourcemap_lookup.specs.LineSpans.{IsIndexOf, IsUsualIndexOf}
pub use Rattle.oxc_sourcemap_map.specs.View.{view_of, view_name, view_original}
pub use Rattle.oxc_sourcemap_parts.specs.DecodedMap.{name_of}
pub use Rattle.oxc_sourcemap_map.specs.Reverse.{index_fault}
pub use Rattle.oxc_sourcemap_tokens.specs.Results.{FailsBy, OnlyMemory, Reports}
pub use Rattle.oxc_sourcemap_tokens.specs.Token.{id_of}
pub use Rattle.oxc_sourcemap_tokens.specs.declared.errors.plan_error.PlanError.TheVariants.{Map}
pub use Rattle.std_alloc.specs.Box.Ownership.{box_owns}
pub use Rattle.oxc_sourcemap_lookup.specs.declared.bias.Bias.TheVariants.{Before}
pub use Rattle.oxc_sourcemap_c.specs.Codes.{error_of}
pub use Rattle.oxc_sourcemap_c.specs.Codes.{fault_of_error, fault_of_json}
pub use Rattle.oxc_sourcemap_c.specs.Codes.{fault_of_plan_error, fault_of_compiled}
pub use Rattle.oxc_sourcemap_c.specs.FieldNumbers.{field_of, number_of_field}
pub use Rattle.oxc_sourcemap_c.specs.Indices.{IsOutOfOrder, IsIndexed}
pub use Rattle.oxc_sourcemap_c.specs.Lists.{IsContent, IsNotContent}
pub use Rattle.oxc_sourcemap_c.specs.Lists.{known_text}
pub use Rattle.oxc_sourcemap_c.specs.Options.{bias_of, direction_of}
pub use Rattle.oxc_sourcemap_c.specs.PlaceNumbers.{no_place, number_told, numbers_of_place}
pub use Rattle.oxc_sourcemap_c.specs.PlaceNumbers.{numbers_of_spot}
pub use Rattle.oxc_sourcemap_c.specs.PlaceNumbers.{spot_of_numbers, told_number}
pub use Rattle.oxc_sourcemap_c.specs.Structs.{HasOriginal, IsSeen, IsShown, kind_by}
pub use Rattle.oxc_sourcemap_c.specs.Structs.{index_number, no_numbers, number_or_none}
pub use Rattle.oxc_sourcemap_c.specs.declared.numbers.call_error.CallError.TheVariants.{Compiled}
pub use Rattle.oxc_sourcemap_c.specs.declared.numbers.call_error.CallError.TheVariants.{NoIndex}
pub use Rattle.oxc_sourcemap_c.specs.declared.numbers.call_error.CallError.TheVariants.{Plan}
pub use Rattle.oxc_sourcemap_c.specs.CallErrors.{of_scopes}
pub use Rattle.oxc_sourcemap_c.specs.Holding.{held_scopes}
pub use Rattle.oxc_sourcemap_c.specs.ScopesKinds.{number_of_fault_kind, fault_kind_of}
pub use Rattle.oxc_sourcemap_c.specs.ScopeNumbers.{scopes_counts_of, scope_numbers, range_numbers}
pub use Rattle.oxc_sourcemap_c.specs.ScopeNumbers.{call_numbers, frame_numbers, name_of_scope}
pub use Rattle.oxc_sourcemap_c.specs.ScopeNumbers.{chain_entry_numbers}
pub use Rattle.oxc_sourcemap_c.specs.Scopes.{HoldsScopes, IsReadScopesError, IsDecodeScopesError}
pub use Rattle.oxc_sourcemap_c.specs.Scopes.{IsScopesAnswer, IsIndexAnswer, IsIndexWritten}
pub use Rattle.oxc_sourcemap_c.specs.Scopes.{ListsFrames, AreFrames, AreVariables, IsValue}
pub use Rattle.oxc_sourcemap_c.specs.Scopes.{IsChainAt, IsChainOf}
pub use Rattle.oxc_sourcemap_c.specs.declared.texts.scopes.ScopeNumbers.{ScopeNumbers}
pub use Rattle.oxc_sourcemap_c.specs.declared.texts.scopes.RangeNumbers.{RangeNumbers}
pub use Rattle.oxc_sourcemap_c.specs.declared.numbers.call_error.CallError.TheVariants.{NoEntry}
pub use Rattle.oxc_sourcemap_scopes.specs.Reading.{scopes_of, read_scopes, AreSound}
pub use Rattle.oxc_sourcemap_scopes.specs.Asking.{scope_seen, range_seen, scope_at, range_at}
pub use Rattle.oxc_sourcemap_scopes.specs.Asking.{function_at, frames_record}
