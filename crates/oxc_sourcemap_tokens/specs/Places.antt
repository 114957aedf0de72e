-- Errors with their places.
use Rattle.std.specs.Prelude.{◌≡◌, ◌≢◌, ℕ, true, Option, Some, None, is_some, Result, Ok, Err, IfOk}
use Rattle.std.specs.Prelude.{IfErr, IsErrAnd}
use Rattle.std.specs.Option.{option_map}
use Rattle.oxc_sourcemap_tokens.specs.declared.errors.error.Error.{Error}
use Rattle.oxc_sourcemap_tokens.specs.declared.errors.error.Error.TheVariants.{OutOfMemory}
use Rattle.oxc_sourcemap_tokens.specs.declared.errors.fault.Fault.{Fault}
use Rattle.oxc_sourcemap_tokens.specs.declared.errors.fault.FaultPlace.{FaultPlace}
use Rattle.oxc_sourcemap_tokens.specs.declared.errors.fault.FaultSpot.{FaultSpot}

-- a place in this section, or in a text without sections
abbrev pub place_in : Option ℕ → FaultSpot → FaultPlace
place_in section spot = record { text = None; section = section; spot = spot }

-- an error at this spot of a text without sections
abbrev pub fault_at : Error → FaultSpot → Fault
fault_at error spot = record { error = error; place = Some (place_in None spot) }

-- an error that has no place
abbrev pub no_place : Error → Fault
no_place error = record { error = error; place = None }

-- the place in the map of this section of a place in a map by itself
abbrev pub placed_in : ℕ → FaultPlace → FaultPlace
placed_in section place = place_in (Some section) place.spot

-- the fault of a map by itself as one of this section
abbrev pub fault_in : ℕ → Fault → Fault
fault_in section fault = record { error = fault.error; place = option_map (placed_in section) fault.place }

-- The call reads what is defined: its value is the defined one, as `view` sees it, and its error is the defined one; or it lacks memory.
abbrev pub Reads : {A B : Type 0} → (A → B) → Result A Fault → Result B Error → Type 0
Reads view result defined =
    IfOk result (λ x. defined ≡ Ok (view x)) × IfErr result (λ f. (f.error ≢ OutOfMemory) → defined ≡ Err f.error)

-- The error of the call has a place, and it is this one, if it does not lack memory; where it succeeds, there is no such place.
abbrev pub Locates : {A : Type 0} → Result A Fault → Option FaultPlace → Type 0
Locates result place =
    IfOk result (λ x. place ≡ None)
    × IfErr result (λ f. (f.error ≢ OutOfMemory) → (place ≡ f.place) × (is_some f.place ≡ true))

-- Where there is a fault, the call fails with its error.
abbrev pub Refuses : {A : Type 0} → Option Error → Result A Fault → Type 0
Refuses fault result = (e : Error) → fault ≡ Some e → IsErrAnd result (λ f. f.error ≡ e)
