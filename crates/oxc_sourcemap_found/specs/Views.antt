-- What values of the code stand for.
use Rattle.std.specs.Prelude.{Vec}
use Rattle.std.specs.declared.alloc.Global.{Global}
use Rattle.serde_json.specs.View.{members_view}
use Rattle.oxc_sourcemap_parts.specs.Record.{Text}
use Rattle.oxc_sourcemap_found.specs.declared.found.FoundParts.{FoundParts}
use Rattle.oxc_sourcemap_found.specs.declared.mending.members.Mending.{Mending}
use Rattle.oxc_sourcemap_found.specs.declared.mending.mend.MendKind.{MendKind}
use Rattle.oxc_sourcemap_found.specs.declared.mending.plain.MendedParts.{MendedParts}
use Rattle.oxc_sourcemap_found.specs.declared.mending.sections.Section.{Section}
use Rattle.oxc_sourcemap_parts.specs.Views.{record_of_parts}
use Rattle.oxc_sourcemap_found.specs.FoundMaps.{FoundRecord}
use Rattle.oxc_sourcemap_found.specs.MendedMaps.{MendedMap}
use Rattle.oxc_sourcemap_found.specs.MendedSections.{MendedSection}
use Rattle.oxc_sourcemap_found.specs.Mended.{MendedMembers}
use Rattle.oxc_sourcemap_found.specs.Opening.{Opened}

-- the members of an object while they are mended
abbrev pub state_of : Mending → MendedMembers
state_of m = record { members = members_view m.object.entries; kinds = m.kinds.items }

-- a map as it was found
abbrev pub found_view : FoundParts → FoundRecord
found_view f = record { map = record_of_parts f.parts; mends = f.mends.items }

-- a text, and what was passed over and opened so far
abbrev pub opened_view : Text → Vec MendKind Global → Opened
opened_view text kinds = record { text = text; kinds = kinds.items }

-- a map by itself that was mended
abbrev pub mended_view : MendedParts → MendedMap
mended_view m = record { map = record_of_parts m.parts; kinds = m.kinds.items }

-- a section
abbrev pub section_view : Section → MendedSection
section_view s = (mended_view s.map, s.place)
