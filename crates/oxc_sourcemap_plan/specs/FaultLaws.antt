-- Which segment of a `mappings` text the place of its fault is that of.
use Rattle.std.specs.Prelude.{◌≡◌, ℕ, false, List, take, slice_get, Some, Result, Err, IsOk}
use Rattle.std.specs.List.{AllByRecursion}
use Rattle.oxc_sourcemap_tokens.specs.declared.errors.error.Error.{Error}
use Rattle.oxc_sourcemap_tokens.specs.Token.{TokenRecord}
use Rattle.oxc_sourcemap_tokens.specs.declared.errors.fault.SegmentPlace.{SegmentPlace}
use Rattle.oxc_sourcemap_mappings.specs.Parts.{lines}
use Rattle.oxc_sourcemap_mappings.specs.Places.{nothing_before}
use Rattle.oxc_sourcemap_mappings.specs.Faults.{counts_of}
use Rattle.oxc_sourcemap_mappings.specs.Reading.{text_results, reading}
use Rattle.oxc_sourcemap_mappings.specs.SegmentPlaces.{text_start, places_from, fault_place}

-- what each segment of a text gives, in order: its token or its error; the `;` that begins line 4294967296 counts as one
abbrev pub segment_results : List ℕ → ℕ → ℕ → List (Result TokenRecord Error)
segment_results text names sources = text_results (counts_of names sources) 0 nothing_before (lines text)

-- the places at which the segments of a text begin, in order
abbrev pub segment_places : List ℕ → List SegmentPlace
segment_places text = places_from text_start false text

-- The segment that begins at this place gives an error, no segment before it does, and the text is read with this error.
pub record FailsFirst (text : List ℕ) (names sources : ℕ) (p : SegmentPlace) : Type 0 where
  pub index : ℕ
  pub error : Error
  pub begins : slice_get (segment_places text) index ≡ Some p
  pub fails : slice_get (segment_results text names sources) index ≡ Some (Err error)
  pub before : AllByRecursion IsOk (take index (segment_results text names sources))
  pub read : reading text names sources ≡ Err error

-- The place of the first fault is that of the first segment that gives an error, and this is the error of the reading.
abbrev pub FaultIsThere : Type 0
FaultIsThere = (text : List ℕ) (names sources : ℕ) (p : SegmentPlace) → fault_place text names sources ≡ Some p
    → FailsFirst text names sources p
