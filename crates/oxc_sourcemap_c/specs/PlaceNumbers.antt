-- Places of faults as numbers, and back.
use Rattle.std.specs.Prelude.{ℕ, Option, Some, None, option_map, if◌then◌else◌, ◌==◌, ◌%◌}
use Rattle.std.specs.Option.{unwrap_or}
use Rattle.oxc_sourcemap_tokens.specs.declared.errors.fault.FaultPlace.{FaultPlace}
use Rattle.oxc_sourcemap_tokens.specs.declared.errors.fault.FaultSpot.{FaultSpot}
use Rattle.oxc_sourcemap_tokens.specs.declared.errors.fault.FaultSpot.TheVariants.{Segment, Reading}
use Rattle.oxc_sourcemap_tokens.specs.declared.errors.fault.FaultSpot.TheVariants.{Member, Entry}
use Rattle.oxc_sourcemap_c.specs.FieldNumbers.{number_of_field, field_of}
use Rattle.oxc_sourcemap_c.specs.declared.numbers.place_numbers.PlaceNumbers.{PlaceNumbers}

-- no place
abbrev pub no_place : PlaceNumbers
no_place = record { kind = 0; field = 0; text = 0; section = 0; line = 0; column = 0; byte = 0; entry = 0 }

-- the number of a text or a section; 18446744073709551615 stands for none
abbrev pub number_told : Option ℕ → ℕ
number_told n = unwrap_or n 18446744073709551615

-- the numbers of a spot in a text
abbrev pub numbers_of_spot : FaultSpot → PlaceNumbers
numbers_of_spot (Segment place) = record no_place { kind = 1; line = place.line; column = place.segment; byte = place.byte }
numbers_of_spot (Reading line column byte) = record no_place { kind = 2; line = line; column = column; byte = byte }
numbers_of_spot (Member field) = record no_place { kind = 3; field = number_of_field field }
numbers_of_spot (Entry field index) = record no_place { kind = 4; field = number_of_field field; entry = index }

-- the numbers of a place, if there is one
abbrev pub numbers_of_place : Option FaultPlace → PlaceNumbers
numbers_of_place None = no_place
numbers_of_place (Some p) = record (numbers_of_spot p.spot) { text = number_told p.text; section = number_told p.section }

-- the number of a text or a section, back
abbrev pub told_number : ℕ → Option ℕ
told_number n = if n == 18446744073709551615 then None else Some n

-- the spot with these numbers; of a line of mappings the low 32 bits count
abbrev pub spot_of_numbers : PlaceNumbers → Option FaultSpot
spot_of_numbers p =
    if p.kind == 1 then Some (Segment (record { byte = p.byte; line = p.line % 4294967296; segment = p.column }))
    else if p.kind == 2 then Some (Reading p.line p.column p.byte)
    else if p.kind == 3 then option_map (λ field. Member field) (field_of p.field)
    else if p.kind == 4 then option_map (λ field. Entry field p.entry) (field_of p.field)
    else None

-- the place with these numbers
abbrev pub place_of_numbers : PlaceNumbers → Option FaultPlace
place_of_numbers p = option_map (λ spot. record { text = told_number p.text; section = told_number p.section; spot = spot }) (spot_of_numbers p)
