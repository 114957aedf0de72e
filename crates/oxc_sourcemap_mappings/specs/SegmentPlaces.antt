-- Where the segments of a `mappings` text begin, and where the first with a fault does.
use Rattle.std.specs.Prelude.{ℕ, ◌+◌, Bool, true, false, List, [], ◌∷◌, Option, Some, None, Result}
use Rattle.std.specs.Prelude.{Ok, Err, if◌then◌else◌, ◌==◌}
use Rattle.std.specs.Option.{option_map}
use Rattle.oxc_sourcemap_tokens.specs.declared.errors.error.Error.{Error}
use Rattle.oxc_sourcemap_tokens.specs.Token.{TokenRecord}
use Rattle.oxc_sourcemap_tokens.specs.declared.errors.fault.FaultPlace.{FaultPlace}
use Rattle.oxc_sourcemap_tokens.specs.declared.errors.fault.FaultSpot.TheVariants.{Segment}
use Rattle.oxc_sourcemap_tokens.specs.declared.errors.fault.SegmentPlace.{SegmentPlace}
use Rattle.oxc_sourcemap_tokens.specs.Places.{place_in}
use Rattle.oxc_sourcemap_mappings.specs.Parts.{lines, is_semicolon, is_comma}
use Rattle.oxc_sourcemap_mappings.specs.Places.{nothing_before}
use Rattle.oxc_sourcemap_mappings.specs.Faults.{counts_of}
use Rattle.oxc_sourcemap_mappings.specs.Reading.{text_results}

abbrev pub text_start : SegmentPlace
text_start = record { byte = 0; line = 0; segment = 0 }

-- so many bytes further on
abbrev pub bytes_on : SegmentPlace → ℕ → SegmentPlace
bytes_on p n = record p { byte = p.byte + n }

-- behind a `;`
abbrev pub line_on : SegmentPlace → SegmentPlace
line_on p = record { byte = p.byte + 1; line = p.line + 1; segment = 0 }

-- behind the first byte of a segment
abbrev pub segment_on : SegmentPlace → SegmentPlace
segment_on p = record { byte = p.byte + 1; line = p.line; segment = p.segment + 1 }

-- The places at which the segments of these bytes begin, in order; the last is that of the `;` that begins line 4294967296, after
-- which nothing is read. The bytes begin at this place, and the byte before them belongs to a segment or does not.
unfoldable pub places_from : SegmentPlace → Bool → List ℕ → List SegmentPlace
places_from p is_inside [] = []
places_from p is_inside (byte ∷ bytes) =
    if is_semicolon byte then (if p.line == 4294967295 then p ∷ [] else places_from (line_on p) false bytes)
    else if is_comma byte then places_from (bytes_on p 1) false bytes
    else if is_inside then places_from (bytes_on p 1) true bytes
    else p ∷ places_from (segment_on p) true bytes

-- the place of the first fault, of these results of segments at these places
abbrev pub first_fault : List (Result TokenRecord Error) → List SegmentPlace → Option SegmentPlace
first_fault [] places = None
first_fault (result ∷ results) [] = None
first_fault (Ok token ∷ results) (p ∷ places) = first_fault results places
first_fault (Err fault ∷ results) (p ∷ places) = Some p

-- where the first segment with a fault begins
unfoldable pub fault_place : List ℕ → ℕ → ℕ → Option SegmentPlace
fault_place text names sources =
    first_fault (text_results (counts_of names sources) 0 nothing_before (lines text)) (places_from text_start false text)

-- that segment as the place of a fault
abbrev pub mappings_place : List ℕ → ℕ → ℕ → Option FaultPlace
mappings_place text names sources = option_map (λ p. place_in None (Segment p)) (fault_place text names sources)
