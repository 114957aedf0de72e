-- The sections of an indexed map: those in front of the first fault, and their join.
use Rattle.std.specs.Prelude.{◌+◌, Bool, true, ◌&&◌, List, [], ◌∷◌, ◌++◌, length, map, Option, Some}
use Rattle.std.specs.Prelude.{None, Result, Ok, Err, if◌then◌else◌}
use Rattle.std.specs.List.{flat_map}
use Rattle.std.specs.Option.{option_map}
use Rattle.serde_json.specs.Data.{Data, Items, no_items, item}
use Rattle.oxc_sourcemap_tokens.specs.declared.errors.error.Error.{Error}
use Rattle.oxc_sourcemap_tokens.specs.declared.errors.error.Error.TheVariants.{SectionOrder}
use Rattle.oxc_sourcemap_tokens.specs.declared.errors.error.Error.TheVariants.{TooLarge}
use Rattle.oxc_sourcemap_tokens.specs.Errors.{unless}
use Rattle.oxc_sourcemap_tokens.specs.Token.{TokenRecord, last}
use Rattle.oxc_sourcemap_parts.specs.Record.{MapRecord}
use Rattle.oxc_sourcemap_parts.specs.Sorted.{may_precede}
use Rattle.oxc_sourcemap_json.specs.Shape.{◌>>=◌, shape}
use Rattle.oxc_sourcemap_json.specs.Decoded.{decoded}
use Rattle.oxc_sourcemap_tokens.specs.declared.position.Position.{Position}
use Rattle.oxc_sourcemap_join.specs.Joined.{position, shifted_column, joined}
use Rattle.oxc_sourcemap_json.specs.Section.{offset_in, map_in}
use Rattle.oxc_sourcemap_json.specs.JoinLimits.{is_map_within_limits}

-- the generated position of a token
abbrev pub position_of : TokenRecord → Position
position_of t = record { line = t.dst_line; column = t.dst_col }

-- a position is not before another one, if there is another one
abbrev pub may_follow : Option Position → Position → Bool
may_follow None place = true
may_follow (Some before) place = may_precede (λ (p : Position). p.line) (λ (p : Position). p.column) before place

-- where a token of a map is whose code begins at this offset
abbrev pub moved_position : Position → TokenRecord → Position
moved_position offset t = position (t.dst_line + offset.line) (shifted_column offset t.dst_line t.dst_col)

-- where the tokens of sections are, in order
abbrev pub token_positions : List (MapRecord × Position) → List Position
token_positions sections = flat_map (λ s. map (moved_position s.1) s.0.tokens) sections

-- A section may begin at a position that is not before the offset of the section in front of it, and not before the last token
-- of the sections in front of it. Equal positions are allowed.
abbrev pub may_begin : List (MapRecord × Position) → Position → Bool
may_begin front place = may_follow (option_map (λ s. s.1) (last front)) place && may_follow (last (token_positions front)) place

-- the position, if a section may begin there
abbrev pub in_order : List (MapRecord × Position) → Position → Result Position Error
in_order front place = if may_begin front place then Ok place else Err (SectionOrder (length front))

-- the offset of a section after those in front of it, or its first fault
abbrev pub offset_after : List (MapRecord × Position) → Data → Result Position Error
offset_after front d = offset_in d >>= in_order front

-- the map of a section, or its first fault
abbrev pub section_map : Data → Result MapRecord Error
section_map d = do
  value ← map_in d
  fields ← shape value
  decoded fields

-- a section after those in front of it: its map and its offset, or its first fault
abbrev pub section_after : List (MapRecord × Position) → Data → Result (MapRecord × Position) Error
section_after front d = do
  place ← offset_after front d
  map ← section_map d
  Ok (map, place)

-- the sections of an indexed map, as they were read: the maps in front of the first fault, each at its offset, and that fault
pub record Sections : Type 0 where
  pub maps : List (MapRecord × Position)
  pub fault : Option Error

-- the sections after one that was read; if it has a fault, they end in front of it
abbrev pub onto_section : List (MapRecord × Position) → (MapRecord × Position → Sections) → Result (MapRecord × Position) Error → Sections
onto_section front more (Ok s) = more s
onto_section front more (Err fault) = record { maps = front; fault = Some fault }

-- these sections, after those in front of them
abbrev pub sections_after : List (MapRecord × Position) → Items → Sections
sections_after front no_items = record { maps = front; fault = None }
sections_after front (item d ds) = onto_section front (λ s. sections_after (front ++ s ∷ []) ds) (section_after front d)

-- all sections of a list
abbrev pub all_sections : Items → Sections
all_sections items = sections_after [] items

-- The join of sections. If the maps in front of the first fault make a join past the limits, its fault is `TooLarge`; else it is
-- the first fault of the sections, if there is one.
abbrev pub joined_sections : Sections → Result MapRecord Error
joined_sections found = if is_map_within_limits (joined found.maps) then unless found.fault (Ok (joined found.maps)) else Err TooLarge
