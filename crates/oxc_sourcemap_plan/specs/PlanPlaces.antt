-- Where a plan has its first fault, if that is one of a text.
use Rattle.std.specs.Prelude.{◌≡◌, ◌≢◌, ℕ, ◌+◌, List, [], ◌∷◌, ◌++◌, Option, Some, None, Result}
use Rattle.std.specs.Prelude.{Bool, false, Ok, Err, IfSome, IsSomeAnd, MatchOption, position, ⊤}
use Rattle.std.specs.Option.{option_map, option_and_then}
use Rattle.std.specs.List.{flat_map}
use Rattle.std.specs.Str.{bytes_eq}
use Rattle.serde_json.specs.Data.{Data}
use Rattle.serde_json.specs.Read.{read}
use Rattle.oxc_sourcemap_tokens.specs.declared.errors.error.Error.{Error}
use Rattle.oxc_sourcemap_tokens.specs.declared.errors.error.Error.TheVariants.{SeveralSources}
use Rattle.oxc_sourcemap_tokens.specs.declared.errors.error.Error.TheVariants.{OutOfMemory}
use Rattle.oxc_sourcemap_tokens.specs.declared.errors.error.Error.TheVariants.{TooLarge}
use Rattle.oxc_sourcemap_tokens.specs.declared.errors.plan_error.PlanError.{PlanError}
use Rattle.oxc_sourcemap_tokens.specs.declared.errors.plan_error.PlanError.TheVariants.{Map}
use Rattle.oxc_sourcemap_parts.specs.Record.{Text, MapRecord}
use Rattle.oxc_sourcemap_json.specs.ReadMap.{read_map}
use Rattle.oxc_sourcemap_tokens.specs.declared.errors.fault.FaultPlace.{FaultPlace}
use Rattle.oxc_sourcemap_json.specs.ValuePlaces.{value_place, IsBytePlace}
use Rattle.oxc_sourcemap_plan.specs.declared.fault.PlanFault.{PlanFault}
use Rattle.oxc_sourcemap_plan.specs.Outcome.{Outcome}
use Rattle.oxc_sourcemap_plan.specs.declared.plan.Plan.{Plan}
use Rattle.oxc_sourcemap_plan.specs.declared.plan.Plan.TheOpen.{Plan-F}
use Rattle.oxc_sourcemap_plan.specs.declared.plan.Plan.TheFolds.{fold-Plan}

-- the texts of a plan, by those of its parts
abbrev pub texts_step : Plan-F (List Text) → List Text
texts_step (Plan-F.Read text) = text.now ∷ []
texts_step (Plan-F.ReadSorted text) = text.now ∷ []
texts_step (Plan-F.Rewrite part) = part.value
texts_step (Plan-F.ApplyRoot part) = part.value
texts_step (Plan-F.Simplify part) = part.value
texts_step (Plan-F.Join parts) = flat_map (λ p. p.0) parts.items
texts_step (Plan-F.JoinAt parts) = flat_map (λ p. p.0) parts.items
texts_step (Plan-F.Compose first second) = first.value ++ second.value
texts_step (Plan-F.Remap first inputs) = first.value ++ flat_map (λ p. p.1) inputs.items

-- the texts of a plan, in the order in which it is evaluated
abbrev pub texts_of : Plan → List Text
texts_of = fold-Plan (List Text) texts_step

-- a text that cannot be read: its number, itself, and its error
pub record Unread : Type 0 where
  pub number : ℕ
  pub text : Text
  pub error : Error

-- a text that is read like this, if it cannot be, or else what is found after it
abbrev pub unread_or : ℕ → Text → Result MapRecord Error → Option Unread → Option Unread
unread_or k text (Ok r) more = more
unread_or k text (Err e) more = Some (record { number = k; text = text; error = e })

-- the first text that cannot be read, of texts from this number on
abbrev pub unread_from : ℕ → List Text → Option Unread
unread_from k [] = None
unread_from k (text ∷ texts) = unread_or k text (read_map text) (unread_from (k + 1) texts)

abbrev pub first_unread : List Text → Option Unread
first_unread texts = unread_from 0 texts

-- the place of the first fault of a text
abbrev pub IsTextPlace : Text → FaultPlace → Type 0
IsTextPlace text place = ((d : Data) → read text ≡ Some d → value_place d ≡ Some place) × (read text ≡ None → IsBytePlace text place)

-- a place, with the number of the text
abbrev pub with_number : ℕ → FaultPlace → FaultPlace
with_number k place = record place { text = Some k }

-- such a place, with the number of the text
abbrev pub IsNumberPlace : ℕ → Text → FaultPlace → Type 0
IsNumberPlace k text place = (p : FaultPlace) × IsTextPlace text p × (place ≡ with_number k p)

-- The place of this error of texts: in the first that cannot be read, if its error is this one. There is none if that is another
-- one, or all can be read.
abbrev pub IsPlaceOf : List Text → Error → Option FaultPlace → Type 0
IsPlaceOf texts error None = IfSome (first_unread texts) (λ u. u.error ≢ error)
IsPlaceOf texts error (Some place) = IsSomeAnd (first_unread texts) (λ u. (u.error ≡ error) × IsNumberPlace u.number u.text place)

-- the place of an error of a plan over these texts
abbrev pub IsPlanPlace : List Text → PlanError → Option FaultPlace → Type 0
IsPlanPlace texts error None = (e : Error) → error ≡ Map e → IsPlaceOf texts e None
IsPlanPlace texts error (Some place) = (e : Error) × (error ≡ Map e) × IsPlaceOf texts e (Some place)

-- an error that reading a text can have: any but that of a composition
abbrev pub IsOfReading : Error → Type 0
IsOfReading (SeveralSources n) = ⊥
IsOfReading e = ⊤

-- ---- the fault of an evaluation
-- An error that comes from no text: none that reading can have, but for `TooLarge` of a part that passes a limit.
abbrev pub IsOfNoText : Bool → PlanError → Type 0
IsOfNoText is_within_limits error = (e : Error) → error ≡ Map e → IsOfReading e → (e ≡ TooLarge) × (is_within_limits ≡ false)

-- The text is the first of these that cannot be read, which is the error, and its first fault is at this place.
abbrev pub IsTextFault : List Text → PlanError → Text → FaultPlace → Type 0
IsTextFault texts error text place = IsSomeAnd (first_unread texts) (λ u. (u.text ≡ text) × (error ≡ Map u.error) × IsTextPlace text place)

-- A fault of a plan with this outcome, unless it is want of memory, tells the first of its texts that cannot be read, or it comes
-- from no text.
abbrev pub IsTold : Outcome → PlanFault → Type 0
IsTold o f = (f.error ≢ Map OutOfMemory) → MatchOption f.at (IsOfNoText o.is_within_limits f.error) (λ at. IsTextFault o.texts f.error at.0.now at.1)

-- ---- the place in an input
-- the number of the first of these inputs that is this text
abbrev pub input_number : List Text → Text → Option ℕ
input_number inputs text = position (bytes_eq text) inputs

-- a place in a text, with the number that the text has in these inputs
abbrev pub numbered_in : List Text → Text → FaultPlace → Option FaultPlace
numbered_in inputs text place = option_map (λ k. with_number k place) (input_number inputs text)

-- the place of a fault of a plan in these inputs, with the number of its text
abbrev pub fault_place_in : List Text → PlanFault → Option FaultPlace
fault_place_in inputs f = option_and_then (λ at. numbered_in inputs at.0.now at.1) f.at

-- the place in these inputs of an error of a plan of these texts: that of the first text that cannot be read
abbrev pub IsInputPlace : List Text → List Text → PlanError → FaultPlace → Type 0
IsInputPlace inputs texts error place =
    (text : Text) × (p : FaultPlace) × IsTextFault texts error text p × (numbered_in inputs text p ≡ Some place)

-- the place, or none, of an error of a plan with this outcome over these inputs
abbrev pub IsOutcomePlace : List Text → Outcome → PlanError → Option FaultPlace → Type 0
IsOutcomePlace inputs o error place = MatchOption place (IsOfNoText o.is_within_limits error) (IsInputPlace inputs o.texts error)
