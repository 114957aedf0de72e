-- The places of faults as text, as bytes.
use Rattle.std.specs.Prelude.{ℕ, List, ◌++◌, codes, Option, Some, None}
use Rattle.std.specs.Option.{unwrap_or}
use Rattle.std.specs.Fmt.{decimal}
use Rattle.oxc_sourcemap_tokens.specs.Messages.{key_of}
use Rattle.oxc_sourcemap_tokens.specs.declared.errors.error.Field.{Field}
use Rattle.oxc_sourcemap_tokens.specs.declared.errors.fault.SegmentPlace.{SegmentPlace}
use Rattle.oxc_sourcemap_tokens.specs.declared.errors.fault.FaultPlace.{FaultPlace}
use Rattle.oxc_sourcemap_tokens.specs.declared.errors.fault.FaultSpot.{FaultSpot}
use Rattle.oxc_sourcemap_tokens.specs.declared.errors.fault.FaultSpot.TheVariants.{Segment, Reading}
use Rattle.oxc_sourcemap_tokens.specs.declared.errors.fault.FaultSpot.TheVariants.{Member, Entry}

-- the key of a member, and `the value` for the value itself
abbrev pub name_of : Field → List ℕ
name_of field = unwrap_or (key_of field) (codes "the value")

-- where a segment begins
abbrev pub segment_text : SegmentPlace → List ℕ
segment_text p = codes "line " ++ decimal p.line ++ codes ", segment " ++ decimal p.segment ++ codes " (byte " ++ decimal p.byte ++ codes ")"

-- where a text or a map has a fault
abbrev pub spot_text : FaultSpot → List ℕ
spot_text (Segment place) = segment_text place
spot_text (Reading line column byte) = codes "line " ++ decimal line ++ codes ", column " ++ decimal column ++ codes " (byte " ++ decimal byte ++ codes ")"
spot_text (Member field) = name_of field
spot_text (Entry field index) = codes "entry " ++ decimal index ++ codes " of " ++ name_of field

-- a number that is told if it is there
abbrev pub number_text : List ℕ → Option ℕ → List ℕ
number_text word None = codes ""
number_text word (Some n) = word ++ decimal n ++ codes ", "

-- where an input has a fault
abbrev pub place_text : FaultPlace → List ℕ
place_text place = number_text (codes "text ") place.text ++ (number_text (codes "section ") place.section ++ spot_text place.spot)
