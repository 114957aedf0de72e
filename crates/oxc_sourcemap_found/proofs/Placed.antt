-- The places of faults of texts as they are found, by what is read of them.
use Rattle.std.proofs.Common.{◌≡◌, ℕ, ◌+◌, true, true≢false, refl, ap, sym, ◌∙◌, Option, Some, None}
use Rattle.std.proofs.Common.{option_map, is_some, Result, Ok, Err, []}
use Rattle.std.specs.Option.{option_or}
use Rattle.serde_json.specs.Data.{Data, Items, item}
use Rattle.oxc_sourcemap_tokens.specs.declared.errors.error.Error.{Error}
use Rattle.oxc_sourcemap_tokens.specs.declared.errors.error.Field.{Field}
use Rattle.oxc_sourcemap_tokens.specs.declared.errors.fault.FaultPlace.{FaultPlace}
use Rattle.oxc_sourcemap_tokens.specs.declared.errors.fault.FaultSpot.{FaultSpot}
use Rattle.oxc_sourcemap_tokens.specs.declared.errors.fault.FaultSpot.TheVariants.{Segment}
use Rattle.oxc_sourcemap_tokens.specs.declared.errors.fault.SegmentPlace.{SegmentPlace}
use Rattle.oxc_sourcemap_tokens.specs.declared.position.Position.{Position}
use Rattle.oxc_sourcemap_tokens.specs.Places.{place_in}
use Rattle.oxc_sourcemap_mappings.specs.Reading.{text_results, line_results}
use Rattle.oxc_sourcemap_mappings.specs.SegmentPlaces.{fault_place, mappings_place, places_from}
use Rattle.oxc_sourcemap_json.specs.JsonRecord.{JsonRecord}
use Rattle.oxc_sourcemap_json.specs.Shape.{◌>>=◌, shape}
use Rattle.oxc_sourcemap_json.specs.ShapeSpots.{ignored_field}
use Rattle.oxc_sourcemap_json.specs.ValuePlaces.{place_at, ignored_spot, fields_spot, offset_place}
use Rattle.oxc_sourcemap_json.specs.ValuePlaces.{mappings_spot, or_place}
use Rattle.oxc_sourcemap_found.specs.FoundPlaces.{found_fields_spot, found_mappings_spot}
use Rattle.oxc_sourcemap_found.specs.FoundPlaces.{found_spot_in, section_place}
use Rattle.oxc_sourcemap_found.specs.FoundPlaces.{found_sections_place}
use Rattle.oxc_sourcemap_found.specs.MendedSections.{MendedSection, offset_from, map_from}
use Rattle.oxc_sourcemap_found.specs.MendedSections.{section_from}
use Rattle.oxc_sourcemap_found.proofs.Kept.{step}

-- ---- the fields of a map, whose mappings are read behind the others

-- a map without mappings
abbrev bare : JsonRecord → JsonRecord
bare j = record j { mappings = [] }

bare-placed : (names sources : ℕ) → fault_place [] names sources ≡ None
unfolding fault_place text_results line_results places_from
bare-placed names sources = refl

first-spot : (o x y : Option FaultSpot) (place : Option FaultPlace) → x ≡ None → option_map place_at (option_or o x) ≡ place → is_some place ≡ true
    → option_map place_at (option_or o y) ≡ place
first-spot None x y place none is some = absurd (true≢false (sym some ∙ ap is_some (sym is) ∙ ap (λ o. is_some (option_map place_at o)) none))
first-spot (Some s) x y place none is some = is

-- what is at fault without the mappings is at fault with them
pub bare-fault : (field : Field) (j : JsonRecord) (place : Option FaultPlace) → option_map place_at (fields_spot field (bare j)) ≡ place → is_some place ≡ true
    → option_map place_at (found_fields_spot field j) ≡ place
bare-fault field j place is some =
    first-spot (ignored_spot field j) (mappings_spot (bare j)) (found_mappings_spot j) place (ap (option_map Segment) (bare-placed _ _)) is some

no-spot : (o x : Option FaultSpot) → option_map place_at (option_or o x) ≡ None → o ≡ None
no-spot None x is = refl
no-spot (Some s) x is = cc

at-segment : (o : Option SegmentPlace) → option_map place_at (option_map Segment o) ≡ option_map (λ p. place_in None (Segment p)) o
at-segment None = refl
at-segment (Some p) = refl

-- else it is at fault in its mappings
pub then-mappings : (field : Field) (j : JsonRecord) → option_map place_at (fields_spot field (bare j)) ≡ None
    → option_map place_at (found_fields_spot field j) ≡ mappings_place j.mappings 4294967295 4294967295
then-mappings field j none =
    ap (λ o. option_map place_at (option_or o (found_mappings_spot j))) (no-spot (ignored_spot field j) (mappings_spot (bare j)) none)
    ∙ at-segment (fault_place j.mappings 4294967295 4294967295)

-- ---- a map by itself

-- a value that has this shape
pub shaped-place : (d : Data) (j : JsonRecord) (field : Field) → shape d ≡ Ok j → field ≡ ignored_field d → found_spot_in d (shape d) ≡ found_fields_spot field j
shaped-place d j field is same = ap (found_spot_in d) is ∙ ap (λ f. found_fields_spot f j) (sym same)

-- ---- sections

abbrev fine : MendedSection → Result MendedSection Error
fine s = Ok s

same-section : (a b : MendedSection) → fine a ≡ fine b → a ≡ b
same-section a b e = cc

by-section : (o rest place : Option FaultPlace) → o ≡ place → is_some place ≡ true → option_or o rest ≡ place
by-section None rest place is some = absurd (true≢false (sym some ∙ ap is_some (sym is)))
by-section (Some x) rest place is some = is

by-offset : (r : Result Position Error) (offset : FaultPlace) (section place : Option FaultPlace) (rest : Position → Option FaultPlace)
    → or_place r (λ fault. Some offset) (λ at. section) ≡ place → is_some place ≡ true → or_place r (λ fault. Some offset) (λ at. option_or section (rest at)) ≡ place
by-offset (Ok at) offset section place rest is some = by-section section (rest at) place is some
by-offset (Err fault) offset section place rest is some = is

-- the place of the fault of a section
abbrev pub place_of_section : Option Position → ℕ → Data → Option FaultPlace
place_of_section before number d = or_place (offset_from before number d) (λ fault. Some (offset_place number d)) (λ at. section_place number d)

-- sections are at fault where the first of them is
pub first-refused : (before : Option Position) (number : ℕ) (d : Data) (ds : Items) (place : Option FaultPlace) → place_of_section before number d ≡ place → is_some place ≡ true
    → found_sections_place before number (item d ds) ≡ place
first-refused before number d ds place is some =
    by-offset (offset_from before number d) (offset_place number d) (section_place number d) place (λ at. found_sections_place (Some at) (number + 1) ds) is some

-- else where the others are
pub then-others : (before : Option Position) (number : ℕ) (d : Data) (ds : Items) (s : MendedSection) → section_from before number d ≡ Ok s → place_of_section before number d ≡ None
    → found_sections_place before number (item d ds) ≡ found_sections_place (Some s.1) (number + 1) ds
then-others before number d ds s e none =
    let a = step (offset_from before number d) (λ place. map_from d >>= (λ m. Ok (m, place))) s e in
    let m = step (map_from d) (λ m. Ok (m, a.value)) s a.later in
    let at : a.value ≡ s.1 = ap (λ (q : MendedSection). q.1) (same-section (m.value, a.value) s m.later) in
    let section : section_place number d ≡ None = ap (λ r. or_place r (λ fault. Some (offset_place number d)) (λ at. section_place number d)) (sym a.first) ∙ none in
    ap (λ r. or_place r (λ fault. Some (offset_place number d)) (λ at. option_or (section_place number d) (found_sections_place (Some at) (number + 1) ds))) a.first
    ∙ ap (λ o. option_or o (found_sections_place (Some a.value) (number + 1) ds)) section
    ∙ ap (λ p. found_sections_place (Some p) (number + 1) ds) at
