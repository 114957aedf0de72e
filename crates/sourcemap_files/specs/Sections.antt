-- The sources of maps that stand one after the other, as those of sections do.
use Rattle.std.specs.Prelude.{◌≡◌, List, map}
use Rattle.std.specs.List.{flat_map}
use Rattle.oxc_sourcemap_parts.specs.Record.{MapRecord, Text}
use Rattle.oxc_sourcemap_parts.specs.Roots.{rooted}

-- the sources of maps, one after the other
abbrev pub sources_of : List MapRecord → List Text
sources_of maps = flat_map (λ m. m.sources) maps

-- a map whose sources are those of these maps, one after the other, each behind the source root of its map; all else is as it was
abbrev pub IsRooted : List MapRecord → MapRecord → MapRecord → Type 0
IsRooted maps old new = new ≡ record old { sources = sources_of (map rooted maps) }
