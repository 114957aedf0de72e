-- The words of this crate's clauses, from one place.
pub use Rattle.oxc_sourcemap_tokens.specs.Places.{Reads, Locates, Refuses}
pub use Rattle.oxc_sourcemap_tokens.specs.Results.{Answers, Reports, OnlyMemory, Pushes, Gives}
pub use Rattle.oxc_sourcemap_tokens.specs.declared.errors.error.Field.TheVariants.{Mappings}
pub use Rattle.oxc_sourcemap_tokens.specs.declared.errors.error.Field.TheVariants.{Sources}
pub use Rattle.oxc_sourcemap_tokens.specs.declared.errors.error.Field.TheVariants.{SourcesContent}
pub use Rattle.oxc_sourcemap_tokens.specs.declared.errors.error.Field.TheVariants.{Names}
pub use Rattle.oxc_sourcemap_tokens.specs.declared.errors.fault.FaultSpot.TheVariants.{Member}
pub use Rattle.oxc_sourcemap_tokens.specs.declared.errors.fault.FaultSpot.TheVariants.{Entry}
pub use Rattle.serde_json.specs.Find.{get, as_str}
pub use Rattle.serde_json.specs.Read.{number_of, read}
pub use Rattle.serde_json.specs.View.{view, items_view}
pub use Rattle.oxc_sourcemap_parts.specs.Views.{text_of, texts_of, contents_of, record_of_parts}
pub use Rattle.oxc_sourcemap_parts.specs.Views.{ids_of, cow_texts}
pub use Rattle.serde_json.specs.Data.{Data, Members, number, unsigned, string, object, no_members}
pub use Rattle.oxc_sourcemap_join.specs.Joined.{joined}
pub use Rattle.oxc_sourcemap_parts.specs.Record.{MapRecord}
pub use Rattle.oxc_sourcemap_tokens.specs.Token.{last, last_line}
pub use Rattle.oxc_sourcemap_tokens.specs.declared.errors.error.Error.{Error}
pub use Rattle.oxc_sourcemap_tokens.specs.declared.errors.error.Error.TheVariants.{OutOfMemory}
pub use Rattle.oxc_sourcemap_tokens.specs.declared.errors.error.Error.TheVariants.{BadSourceReference}
pub use Rattle.oxc_sourcemap_tokens.specs.declared.errors.error.Error.TheVariants.{BadJson}
pub use Rattle.oxc_sourcemap_tokens.specs.declared.errors.error.JsonFault.TheVariants.{Reading}
pub use Rattle.oxc_sourcemap_tokens.specs.declared.position.Position.{Position}
pub use Rattle.serde_json.specs.Errors.{IsMemory}
pub use Rattle.oxc_sourcemap_mappings.specs.Canonical.{canonical}
pub use Rattle.oxc_sourcemap_mappings.specs.ChunkTexts.{writing_fault}
pub use Rattle.oxc_sourcemap_tokens.specs.Chunks.{lent_chunks}
pub use Rattle.oxc_sourcemap_tokens.specs.Errors.{unless}
pub use Rattle.oxc_sourcemap_json.specs.JsonRecord.{json_record, json_texts, json_content_list}
pub use Rattle.oxc_sourcemap_json.specs.JsonRecord.{json_contents, json_ids, usual_record}
pub use Rattle.oxc_sourcemap_json.specs.Members.{lent_member, member_in}
pub use Rattle.oxc_sourcemap_json.specs.Shape.{present, optional, required, text_in, texts_in}
pub use Rattle.oxc_sourcemap_json.specs.Shape.{as_content, contents_in, names_of, shape, ids_in}
pub use Rattle.oxc_sourcemap_json.specs.Shape.{version_of, ignore_list_of, as_id, file_of}
pub use Rattle.oxc_sourcemap_json.specs.ShapeSpots.{list_spot, texts_spot, ids_spot, ignored_by}
pub use Rattle.oxc_sourcemap_json.specs.ShapeSpots.{ignored_field, misshapen, misshapen_ids}
pub use Rattle.oxc_sourcemap_json.specs.ShapeSpots.{FailsAs, FailsWithin}
pub use Rattle.oxc_sourcemap_json.specs.Usual.{Begins, BeginsAny, BeginItems, BeginMembers, IsAll}
pub use Rattle.oxc_sourcemap_json.specs.Usual.{text_data, texts_data, contents_data, content_data}
pub use Rattle.oxc_sourcemap_json.specs.Usual.{ids_data, HaveIds, members_held, with_held, AreHeld}
pub use Rattle.oxc_sourcemap_json.specs.Usual.{IsJsonOf}
pub use Rattle.oxc_sourcemap_json.specs.Decoded.{decoded, json_fault, first_not_below}
pub use Rattle.oxc_sourcemap_json.specs.ReadMap.{sections_in, indexed_form, indexed_record}
pub use Rattle.oxc_sourcemap_json.specs.ReadMap.{map_of_form, read_value, read_map}
pub use Rattle.oxc_sourcemap_json.specs.Section.{number_at, as_position, offset_in, is_indexed}
pub use Rattle.oxc_sourcemap_json.specs.Section.{is_plain}
pub use Rattle.oxc_sourcemap_json.specs.Sections.{position_of, may_follow, offset_after}
pub use Rattle.oxc_sourcemap_json.specs.Sections.{section_map, all_sections, joined_sections}
pub use Rattle.oxc_sourcemap_json.specs.ValuePlaces.{place_at, fields_spot, value_spot, read_alone}
pub use Rattle.oxc_sourcemap_json.specs.ValuePlaces.{plain_map, map_spot, offset_place, limit_place}
pub use Rattle.oxc_sourcemap_json.specs.ValuePlaces.{sections_place, indexed_place, value_place}
pub use Rattle.oxc_sourcemap_json.specs.TextBytes.{line_feeds, line_start}
pub use Rattle.oxc_sourcemap_json.specs.ValuePlaces.{IsBytePlace, IsBytePlaceFrom}
pub use Rattle.oxc_sourcemap_json.specs.ValuePlaces.{HasNoPlace, IsPlacedIn, LocatesIn}
pub use Rattle.oxc_sourcemap_json.specs.Appends.{OnlyAdds}
pub use Rattle.oxc_sourcemap_json.specs.Encoded.{encoded, written_contents, encoded_record}
pub use Rattle.oxc_sourcemap_json.specs.JsonParts.{head_text, lists_text, tail_text}
pub use Rattle.oxc_sourcemap_json.specs.JsonString.{escaped, json_string, comma_text, item_text}
pub use Rattle.oxc_sourcemap_json.specs.JsonText.{json_list, content_text, field_text}
pub use Rattle.oxc_sourcemap_json.specs.JsonText.{optional_field, json_text, map_text, map_url}
pub use Rattle.oxc_sourcemap_json.specs.JsonText.{appended}
pub use Rattle.oxc_sourcemap_json.specs.UnescapedBytes.{needs_escape, block_of}
pub use Rattle.oxc_sourcemap_json.specs.Room.{string_room, content_room, IsRoomFor}
pub use Rattle.oxc_sourcemap_json.specs.Within.{within, map_text_within, map_url_within}
pub use Rattle.oxc_sourcemap_json.specs.Within.{mappings_within, early_fault}
