-- The words of this crate's clauses, from one place.
pub use Rattle.oxc_sourcemap_join.specs.Joined.{at_lines, at_positions, owned_records}
pub use Rattle.oxc_sourcemap_parts.specs.Record.{Text}
pub use Rattle.oxc_sourcemap_steps.specs.Sorting.{sorted_map}
pub use Rattle.oxc_sourcemap_steps.specs.Inputs.{owned_input_records}
pub use Rattle.oxc_sourcemap_parts.specs.Sorted.{are_tokens_sorted}
pub use Rattle.oxc_sourcemap_parts.specs.Views.{record_of_parts}
pub use Rattle.oxc_sourcemap_tokens.specs.Results.{Gives, OnlyMemory, lent_items, lent_item}
pub use Rattle.oxc_sourcemap_tokens.specs.declared.errors.error.Error.{Error}
pub use Rattle.oxc_sourcemap_tokens.specs.declared.errors.error.Error.TheVariants.{OutOfMemory}
pub use Rattle.oxc_sourcemap_tokens.specs.declared.errors.plan_error.PlanError.TheVariants.{Map}
pub use Rattle.oxc_sourcemap_tokens.specs.declared.errors.plan_error.PlanError.TheVariants.{Unsorted}
pub use Rattle.oxc_sourcemap_tokens.specs.declared.position.Position.{Position}
pub use Rattle.oxc_sourcemap_plan.specs.Depth.{depth, deepest}
pub use Rattle.oxc_sourcemap_plan.specs.Evaluated.{IsEvaluated, HasOutcome, IsErrorOf, are_among}
pub use Rattle.oxc_sourcemap_plan.specs.Meaning.{meaning, by_path}
pub use Rattle.oxc_sourcemap_plan.specs.Numbers.{number_of}
pub use Rattle.oxc_sourcemap_plan.specs.Outcome.{Outcome, read_outcome, rewrite_outcome}
pub use Rattle.oxc_sourcemap_plan.specs.Outcome.{root_outcome, join_outcome, composition_outcome}
pub use Rattle.oxc_sourcemap_plan.specs.Outcome.{sorted_outcome, simplified_outcome, remap_outcome}
pub use Rattle.oxc_sourcemap_plan.specs.Outcome.{outcome_of, outcomes, input_outcomes, outcome}
pub use Rattle.oxc_sourcemap_plan.specs.Outcome.{is_within_limits}
pub use Rattle.oxc_sourcemap_plan.specs.PlanArguments.{parsed_number, parsed_beginning}
pub use Rattle.oxc_sourcemap_plan.specs.PlanArguments.{parsed_input, parsed_join, parsed_part}
pub use Rattle.oxc_sourcemap_plan.specs.PlanArguments.{parsed_path, parsed_list, parsed_input_part}
pub use Rattle.oxc_sourcemap_plan.specs.PlanArguments.{parsed_remapping, parsed_text, parsed_sort}
pub use Rattle.oxc_sourcemap_plan.specs.PlanArguments.{parsed_plan}
pub use Rattle.oxc_sourcemap_plan.specs.PlanInputs.{inputs_of}
pub use Rattle.oxc_sourcemap_plan.specs.PlanPlaces.{texts_of, IsPlaceOf, IsPlanPlace, IsOfReading}
pub use Rattle.oxc_sourcemap_plan.specs.PlanPlaces.{IsTold, with_number, input_number}
pub use Rattle.oxc_sourcemap_plan.specs.PlanPlaces.{fault_place_in}
pub use Rattle.oxc_sourcemap_plan.specs.Realizes.{PartsRealize, FailsAs, AllRealize, InputsRealize}
pub use Rattle.oxc_sourcemap_plan.specs.RunErrors.{out_of_memory, run_error_text, status_of}
pub use Rattle.oxc_sourcemap_plan.specs.declared.run_error.RunError.TheVariants.{Plan}
pub use Rattle.oxc_sourcemap_json.specs.ReadLaws.{ReadIsInBounds, ReadIsInLineOrder}
pub use Rattle.oxc_sourcemap_mappings.specs.TextLaws.{CanonicalUnique, ReadsBack, ReadsAgain}
pub use Rattle.oxc_sourcemap_mappings.specs.TextLaws.{InPieces, ChunkTextsAreAscii}
pub use Rattle.oxc_sourcemap_plan.specs.ComposeLaws.{DecodedMapOfComposition}
pub use Rattle.oxc_sourcemap_plan.specs.ComposeLaws.{CompositionKeepsEqualUpToRepeats}
pub use Rattle.oxc_sourcemap_plan.specs.ComposeLaws.{CompositionStandsFor, DecodedMapsAssociative}
pub use Rattle.oxc_sourcemap_plan.specs.ComposeLaws.{ComposedMapsAssociative}
pub use Rattle.oxc_sourcemap_plan.specs.ComposeLaws.{CompositionAssociative, GroupingsFailTogether}
pub use Rattle.oxc_sourcemap_plan.specs.ComposeLaws.{GroupingsAnswered, GroupingsTell}
pub use Rattle.oxc_sourcemap_plan.specs.ComposeLaws.{CompositionInRange, CompositionNames}
pub use Rattle.oxc_sourcemap_plan.specs.ComposeLaws.{CompositionTokens, CompositionTooLarge}
pub use Rattle.oxc_sourcemap_plan.specs.ComposeLaws.{CompositionInBounds, SortedGoesOn}
pub use Rattle.oxc_sourcemap_plan.specs.JoinLaws.{RepeatsHarmless, TracesAgree, TestsAgree}
pub use Rattle.oxc_sourcemap_plan.specs.JoinLaws.{JoinKeepsEqualUpToRepeats, DecodedMapOfJoin}
pub use Rattle.oxc_sourcemap_plan.specs.JoinLaws.{JoinStandsFor, JoinInRange, JoinNames, JoinTokens}
pub use Rattle.oxc_sourcemap_plan.specs.JoinLaws.{JoinChunksFit, JoinsAssociative, JoinOneMore}
pub use Rattle.oxc_sourcemap_plan.specs.MapLaws.{SoundIsWritten, SoundIsTooLarge, SoundReadsBack}
pub use Rattle.oxc_sourcemap_plan.specs.MapLaws.{SoundStaysSound}
pub use Rattle.oxc_sourcemap_plan.specs.SectionLaws.{ValueOfSections, TextOfSections}
pub use Rattle.oxc_sourcemap_plan.specs.TraceLaws.{TracesOfComposition, TracesOfComposedMaps}
pub use Rattle.oxc_sourcemap_plan.specs.TraceLaws.{TracesOnOwnLine, TracesOfSortedJoin}
pub use Rattle.oxc_sourcemap_plan.specs.TraceLaws.{TracesWithinPart, TracesOfJoinedMaps}
pub use Rattle.oxc_sourcemap_plan.specs.TraceLaws.{TracesOnOwnLineOfMaps, TracesOfRemapping}
pub use Rattle.oxc_sourcemap_plan.specs.BundleLaws.{TracesOfBundle}
pub use Rattle.oxc_sourcemap_plan.specs.TraceLaws.{TracesOfRemappedMaps}
pub use Rattle.oxc_sourcemap_plan.specs.SimplifyTraces.{SimplifiedComposed, SimplifiedRemapped}
pub use Rattle.oxc_sourcemap_plan.specs.SimplifyTraces.{SimplifiedJoined}
pub use Rattle.oxc_sourcemap_plan.specs.SimplifiedMaps.{SimplifyingEndsRepeats}
pub use Rattle.oxc_sourcemap_plan.specs.SimplifiedMaps.{SimplifyingStandsFor, SimplifyingCounts}
pub use Rattle.oxc_sourcemap_plan.specs.SimplifiedMaps.{SimplifyingNames, SimplifyingInBounds}
pub use Rattle.oxc_sourcemap_plan.specs.RemapLaws.{DecodedMapOfRemapping, RemappingIgnores}
pub use Rattle.oxc_sourcemap_plan.specs.RemapLaws.{NothingRemapped, RemappedDecodedMapsAssociative}
pub use Rattle.oxc_sourcemap_plan.specs.RemapLaws.{RemappedMapsAssociative, JoinRemapped}
pub use Rattle.oxc_sourcemap_plan.specs.RemapLaws.{JoinedMapsRemapped, CompositionRemapped}
pub use Rattle.oxc_sourcemap_plan.specs.RemapLaws.{ComposedMapsRemapped, OneRemapped}
pub use Rattle.oxc_sourcemap_plan.specs.RemapLaws.{OneMapRemapped, RemappingStandsFor}
pub use Rattle.oxc_sourcemap_plan.specs.RemapLaws.{RemappingKeepsEqualUpToRepeats, RemappingSorted}
pub use Rattle.oxc_sourcemap_plan.specs.RemapLaws.{RemappingInRange, RemappingIsSound}
pub use Rattle.oxc_sourcemap_plan.specs.RemapLaws.{RemappingCounts, SomeRemappingIsSound}
pub use Rattle.oxc_sourcemap_plan.specs.RemapLaws.{RemappingNames, SortedInputsGoOn}
pub use Rattle.oxc_sourcemap_plan.specs.RemapLaws.{RemappingAnswered, RemappingTooLarge}
pub use Rattle.oxc_sourcemap_plan.specs.RemapLaws.{RemappingInBounds}
pub use Rattle.oxc_sourcemap_plan.specs.RootLaws.{DecodedMapOfRooting, RootingAgain}
pub use Rattle.oxc_sourcemap_plan.specs.RootLaws.{RootedDecodedMapsAgain, RootingKeeps}
pub use Rattle.oxc_sourcemap_plan.specs.RootLaws.{RootedDecodedMapsKeep, TracesOfRooting}
pub use Rattle.oxc_sourcemap_plan.specs.RootLaws.{RootingKeepsEqualUpToRepeats, RootingIsSound}
pub use Rattle.oxc_sourcemap_plan.specs.RootLaws.{RootingStandsFor}
pub use Rattle.oxc_sourcemap_plan.specs.DataUrlLaws.{TextsReadBack, MapsReadBack}
pub use Rattle.oxc_sourcemap_plan.specs.InputLaws.{FirstInputsCount, InputsMayBePermuted}
pub use Rattle.oxc_sourcemap_plan.specs.InputLaws.{InputsMayBeLeftOut}
pub use Rattle.oxc_sourcemap_plan.specs.SimplifiedWhole.{SimplifyingAgain, SimplificationAgain}
pub use Rattle.oxc_sourcemap_plan.specs.SimplifiedWhole.{SimplifiedNamesNeeded}
pub use Rattle.oxc_sourcemap_plan.specs.SimplifiedWhole.{SimplificationNeeded}
pub use Rattle.oxc_sourcemap_plan.specs.SimplifiedWhole.{SimplifiedSourcesNeeded}
pub use Rattle.oxc_sourcemap_plan.specs.DifferenceLaws.{SimplifiedTracesSame}
pub use Rattle.oxc_sourcemap_plan.specs.DifferenceLaws.{SimplificationTracesSame, SimplifiedIsLeast}
pub use Rattle.oxc_sourcemap_plan.specs.FaultLaws.{FaultIsThere}
pub use Rattle.oxc_sourcemap_plan.specs.CutLaws.{CommentIsCut, CommentIsCutApart}
pub use Rattle.oxc_sourcemap_plan.specs.CutLaws.{LineBeginsOutside}
