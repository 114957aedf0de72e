-- The sections of an indexed map, each mended as a map by itself, and cut if it reaches into the next one.
use Rattle.std.specs.Prelude.{ℕ, ◌+◌, Bool, false, not, List, [], ◌∷◌, ◌++◌, filter, count_by}
use Rattle.std.specs.Prelude.{Option, Some, None, Result, Ok, Err, if◌then◌else◌}
use Rattle.std.specs.Option.{option_map_or}
use Rattle.serde_json.specs.Data.{Data, Items, no_items, item}
use Rattle.serde_json.specs.Find.{as_object}
use Rattle.oxc_sourcemap_tokens.specs.declared.errors.error.Error.{Error}
use Rattle.oxc_sourcemap_tokens.specs.declared.errors.error.Error.TheVariants.{SectionOrder}
use Rattle.oxc_sourcemap_tokens.specs.declared.errors.error.Field.TheVariants.{Object}
use Rattle.oxc_sourcemap_tokens.specs.declared.position.Position.{Position}
use Rattle.oxc_sourcemap_tokens.specs.Token.{TokenRecord, last}
use Rattle.oxc_sourcemap_parts.specs.Record.{MapRecord}
use Rattle.oxc_sourcemap_json.specs.Shape.{◌>>=◌, or_misshapen}
use Rattle.oxc_sourcemap_json.specs.Section.{offset_in, map_in}
use Rattle.oxc_sourcemap_json.specs.Sections.{may_follow, moved_position}
use Rattle.oxc_sourcemap_found.specs.declared.mending.mend.Mend.{Mend}
use Rattle.oxc_sourcemap_found.specs.declared.mending.mend.MendKind.{MendKind}
use Rattle.oxc_sourcemap_found.specs.declared.mending.mend.MendKind.TheVariants.{Cut}
use Rattle.oxc_sourcemap_found.specs.MendedMaps.{MendedMap, plain_map, mends_in}

-- ---- sections, as they are read

-- A section: its map, mended, and its offset.
abbrev pub MendedSection : Type 0
MendedSection = MendedMap × Position

-- the offset of the section of this number, if it is not before that of the section in front of it
abbrev pub in_order_after : Option Position → ℕ → Position → Result Position Error
in_order_after before number place = if may_follow before place then Ok place else Err (SectionOrder number)

-- its offset, or the first fault of that
abbrev pub offset_from : Option Position → ℕ → Data → Result Position Error
offset_from before number d = offset_in d >>= in_order_after before number

-- the map of a section, mended, or its first fault
abbrev pub map_from : Data → Result MendedMap Error
map_from d = do
  value ← map_in d
  ms ← or_misshapen Object (as_object value)
  plain_map ms

-- the section of this number, behind one at this offset, or its first fault
abbrev pub section_from : Option Position → ℕ → Data → Result MendedSection Error
section_from before number d = do
  place ← offset_from before number d
  m ← map_from d
  Ok (m, place)

-- the sections of a list, the first of which has this number and is behind one at this offset, or their first fault
abbrev pub sections_from : Option Position → ℕ → Items → Result (List MendedSection) Error
sections_from before number no_items = Ok []
sections_from before number (item d ds) = do
  s ← section_from before number d
  ss ← sections_from (Some s.1) (number + 1) ds
  Ok (s ∷ ss)

-- ---- cut sections

-- a token of a section at this offset is behind the place where the next section begins
abbrev pub is_behind : Position → Position → TokenRecord → Bool
is_behind next offset t = not (may_follow (Some (moved_position offset t)) next)

-- Whether a section reaches into the next one: its last token, as listed, is behind the place where that begins. The exact reader
-- refuses this, and no other token there.
abbrev pub reaches_into : Position → Position → List TokenRecord → Bool
reaches_into next offset tokens = option_map_or (is_behind next offset) (last tokens) false

-- where the first of these sections begins
abbrev pub next_place : List MendedSection → Option Position
next_place [] = None
next_place (s ∷ ss) = Some s.1

-- the map of a section; if it reaches into the next one, without the tokens behind the place where that begins
abbrev pub cut_map : Option Position → Position → MapRecord → MapRecord
cut_map None offset r = r
cut_map (Some next) offset r =
    if reaches_into next offset r.tokens then record r { tokens = filter (λ t. not (is_behind next offset t)) r.tokens } else r

-- how many tokens are left out so
abbrev pub cut_kinds : Option Position → Position → MapRecord → List MendKind
cut_kinds None offset r = []
cut_kinds (Some next) offset r =
    if reaches_into next offset r.tokens then Cut (count_by (is_behind next offset) r.tokens) ∷ [] else []

-- the maps of sections, each cut if it reaches into the next one, at their offsets
abbrev pub cut_maps : List MendedSection → List (MapRecord × Position)
cut_maps [] = []
cut_maps (s ∷ ss) = (cut_map (next_place ss) s.1 s.0.map, s.1) ∷ cut_maps ss

-- what was mended in sections, the first of which has this number
abbrev pub section_mends : ℕ → List MendedSection → List Mend
section_mends number [] = []
section_mends number (s ∷ ss) =
    mends_in (Some number) (s.0.kinds ++ cut_kinds (next_place ss) s.1 s.0.map) ++ section_mends (number + 1) ss
