-- Equality of what mappings point to, as a test: by texts, not by ids.
use Rattle.std.specs.Prelude.{Bool, ◌&&◌, ◌==◌}
use Rattle.std.specs.Str.{bytes_eq}
use Rattle.oxc_sourcemap_parts.specs.DecodedMap.{DecodedSource, OriginalPosition, DecodedMapping}
use Rattle.oxc_sourcemap_join.specs.Joined.{is_same_option}

-- equality of sources, as a test
abbrev pub is_same_source : DecodedSource → DecodedSource → Bool
is_same_source a b = bytes_eq a.path b.path && is_same_option bytes_eq a.content b.content

-- equality of original positions, as a test
abbrev pub is_same_original : OriginalPosition → OriginalPosition → Bool
is_same_original a b =
    is_same_source a.source b.source && (a.src_line == b.src_line && (a.src_col == b.src_col && is_same_option bytes_eq a.name b.name))

-- mappings point to the same: to equal original positions, or both to none
abbrev pub point_alike : DecodedMapping → DecodedMapping → Bool
point_alike a b = is_same_option is_same_original a.original b.original
