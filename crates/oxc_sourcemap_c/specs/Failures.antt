-- Errors with the places of their faults.
use Rattle.std.specs.Prelude.{◌≡◌, ◌≢◌, ◌⊎◌, ℕ, List, Option, None, Err, IsUtf8}
use Rattle.std.specs.Prelude.{IsSomeAnd}
use Rattle.oxc_sourcemap_tokens.specs.declared.errors.error.Error.{Error}
use Rattle.oxc_sourcemap_parts.specs.Record.{Text}
use Rattle.oxc_sourcemap_mappings.specs.Reading.{reading}
use Rattle.oxc_sourcemap_mappings.specs.SegmentPlaces.{mappings_place}
use Rattle.oxc_sourcemap_json.specs.ReadMap.{read_map}
use Rattle.oxc_sourcemap_tokens.specs.declared.errors.fault.FaultPlace.{FaultPlace}
use Rattle.oxc_sourcemap_found.specs.FoundMaps.{found}
use Rattle.oxc_sourcemap_found.specs.FoundPlaces.{IsFoundPlace, HasPlaceIfRefused}
use Rattle.oxc_sourcemap_plan.specs.PlanPlaces.{IsTextPlace}
use Rattle.oxc_sourcemap_c.specs.declared.numbers.call_error.CallError.{CallError}
use Rattle.oxc_sourcemap_c.specs.declared.making.failure.Failure.{Failure}
use Rattle.oxc_sourcemap_c.specs.declared.numbers.fault.Fault.{Fault}
use Rattle.oxc_sourcemap_c.specs.CallErrors.{out_of_memory, of_map, IsNotText}
use Rattle.oxc_sourcemap_c.specs.Codes.{code_of, fault_at}

-- a failure for want of memory, which has no place, or with one of these errors and places
abbrev pub IsFailure : (CallError → Option FaultPlace → Type 0) → Failure → Type 0
IsFailure These f = (f.error ≡ out_of_memory → f.place ≡ None) × (f.error ≢ out_of_memory → These f.error f.place)

-- A call fails: its code and its fault are those of one such failure.
abbrev pub IsErrorAt : ℕ → Fault → (CallError → Option FaultPlace → Type 0) → Type 0
IsErrorAt code fault These = (f : Failure) × (fault ≡ fault_at f.error f.place) × (code ≡ code_of f.error) × IsFailure These f

-- an error of reading a text, and the place of the fault
abbrev pub IsTextErrorAt : Text → CallError → Option FaultPlace → Type 0
IsTextErrorAt text r place = (e : Error) × (read_map text ≡ Err e) × (r ≡ of_map e) × IsSomeAnd place (IsTextPlace text)

-- an error of reading bytes, and its place: they are not UTF-8, or their text has a fault
abbrev pub IsReadErrorAt : List ℕ → CallError → Option FaultPlace → Type 0
IsReadErrorAt bytes r place = (IsNotText bytes r × (place ≡ None)) ⊎ (IsUtf8 bytes × IsTextErrorAt bytes r place)

-- An error of reading a text as it is found, and the place of the fault. There is one, unless the error is `TooLarge`.
abbrev pub IsFoundTextErrorAt : Text → CallError → Option FaultPlace → Type 0
IsFoundTextErrorAt text r place =
    (e : Error) × (found text ≡ Err e) × (r ≡ of_map e) × IsFoundPlace text place × HasPlaceIfRefused (found text) place

-- the same of bytes: they are not UTF-8, or their text has a fault that is not mended
abbrev pub IsFoundErrorAt : List ℕ → CallError → Option FaultPlace → Type 0
IsFoundErrorAt bytes r place = (IsNotText bytes r × (place ≡ None)) ⊎ (IsUtf8 bytes × IsFoundTextErrorAt bytes r place)

-- an error of reading a mappings text, and its place
abbrev pub IsSegmentErrorAt : Text → ℕ → ℕ → CallError → Option FaultPlace → Type 0
IsSegmentErrorAt text names sources r place =
    (e : Error) × (reading text names sources ≡ Err e) × (r ≡ of_map e) × (place ≡ mappings_place text names sources)

-- an error of reading bytes as a mappings text, and its place: they are not UTF-8, or their text has a fault
abbrev pub IsMappingsErrorAt : List ℕ → ℕ → ℕ → CallError → Option FaultPlace → Type 0
IsMappingsErrorAt bytes names sources r place =
    (IsNotText bytes r × (place ≡ None)) ⊎ (IsUtf8 bytes × IsSegmentErrorAt bytes names sources r place)
