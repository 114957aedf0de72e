-- The words of this crate's clauses, from one place.
pub use Rattle.oxc_sourcemap_tokens.specs.Results.{OnlyMemory, Pushes, lent_item, lent_items}
pub use Rattle.oxc_sourcemap_json.specs.Words.{OnlyAdds}
pub use Rattle.sourcemap_texts.specs.Texts.{is_hidden, unicode_escape, visible_char, visible}
pub use Rattle.sourcemap_texts.specs.Texts.{visible_string, is_plain, shown}
pub use Rattle.sourcemap_texts.specs.Texts.{VisibleStringsToldApart}
pub use Rattle.sourcemap_texts.specs.Positions.{IsNumber, IsPosition, IsSourcePosition, is_colon}
pub use Rattle.sourcemap_texts.specs.Paths.{parts_of, stepped, led, outer_folder, place_of, named}
pub use Rattle.sourcemap_texts.specs.Paths.{Way, gone_up, climbed, climbed_along, way_of, above}
pub use Rattle.sourcemap_texts.specs.Paths.{begins_with_slash, stands_by_itself}
pub use Rattle.sourcemap_texts.specs.Paths.{is_url, is_in_folder}
pub use Rattle.sourcemap_texts.specs.Paths.{IsMoved, IsRebased, IsDirect}
pub use Rattle.sourcemap_texts.specs.Paths.{is_name, begins_plainly, front_of, climbing, LeadsTo}
pub use Rattle.sourcemap_texts.specs.Paths.{is_here, way, written, joined, IsBelow}
pub use Rattle.sourcemap_texts.specs.Matching.{below_length, IsLongest, ends_in_folder, has_slash}
pub use Rattle.sourcemap_texts.specs.Matching.{tells_apart, determines, chosen}
