-- The number of a text in the inputs of a plan.
use Rattle.std.proofs.Common.{◌≡◌, ◌≢◌, ℕ, ◌+◌, Bool, true, false, cond, ◌||◌, List, [], ◌∷◌, refl}
use Rattle.std.proofs.Common.{sym}
use Rattle.std.proofs.Common.{ap, ◌∙◌, subst, Option, Some, None, option_map, IsSomeAnd, drop}
use Rattle.std.proofs.Common.{length}
use Rattle.std.proofs.Common.{get_or, ◌<◌, ◌≤◌}
use Rattle.std.specs.List.{list_any, position_from}
use Rattle.std.specs.Option.{MatchOption, option_and_then}
use Rattle.std.specs.Str.{bytes_eq}
use Rattle.std.specs.Borrow.{Bor}
use Rattle.std.specs.Cmp.Lexicographic.{bytes_decides}
use Rattle.std.proofs.lemmas.Bool.{both_ways, false_from_ne_true}
use Rattle.std.proofs.lemmas.List.{drop_more, drop_all}
use Rattle.std.proofs.lemmas.Iterator.Adapters.{position_from-zero}
use Rattle.oxc_sourcemap_tokens.specs.Results.{lent_items}
use Rattle.oxc_sourcemap_tokens.specs.declared.errors.error.Error.TheVariants.{OutOfMemory}
use Rattle.oxc_sourcemap_tokens.specs.declared.errors.fault.FaultPlace.{FaultPlace}
use Rattle.oxc_sourcemap_tokens.specs.declared.errors.plan_error.PlanError.{PlanError}
use Rattle.oxc_sourcemap_tokens.specs.declared.errors.plan_error.PlanError.TheVariants.{Map}
use Rattle.oxc_sourcemap_parts.specs.Record.{Text}
use Rattle.oxc_sourcemap_plan.specs.declared.fault.PlanFault.{PlanFault}
use Rattle.oxc_sourcemap_plan.specs.Evaluated.{is_among, are_among}
use Rattle.oxc_sourcemap_plan.specs.Outcome.{Outcome}
use Rattle.oxc_sourcemap_plan.specs.PlanPlaces.{first_unread, IsTextPlace, IsTextFault, IsTold}
use Rattle.oxc_sourcemap_plan.specs.PlanPlaces.{IsOfNoText, input_number, numbered_in, with_number}
use Rattle.oxc_sourcemap_plan.specs.PlanPlaces.{IsOutcomePlace, fault_place_in}
use Rattle.oxc_sourcemap_plan.proofs.Unread.{first-is}
use Rattle.oxc_sourcemap_plan.proofs.KnownNames.{bytes-self}
use Rattle.oxc_sourcemap_plan.proofs.InputTexts.{all-get}

found : {A : Type 0} (p : A → Bool) (xs : List A) (i : ℕ) → list_any p xs ≡ true → (k : ℕ) × (position_from p i xs ≡ Some k)
found p [] i h = absurd (both_ways false refl h)
found p (x ∷ xs) i h =
    elim (p x) as (λ b. (b || list_any p xs) ≡ true → (k : ℕ) × (cond b (Some i) (position_from p (i + 1) xs) ≡ Some k)) [
      | true ↦ (λ h. (i, refl))
      | false ↦ (λ h. found p xs (i + 1) h)
    ] h

-- a text that is among the inputs has a number
has-number : (inputs : List Text) (text : Text) → is_among inputs text ≡ true → (k : ℕ) × (input_number inputs text ≡ Some k)
has-number inputs text h = let f = found (bytes_eq text) inputs 0 h in (f.0, position_from-zero (bytes_eq text) inputs ∙ f.1)

-- the text at fault is among the inputs that all texts are among
fault-input : (inputs texts : List Text) (error : PlanError) (text : Text) (place : FaultPlace) → are_among inputs texts ≡ true → IsTextFault texts error text place → is_among inputs text ≡ true
fault-input inputs texts error text place over h =
    elim (first_unread texts) as (λ o. first_unread texts ≡ o → IsSomeAnd o (λ u. (u.text ≡ text) × (error ≡ Map u.error) × IsTextPlace text place) → is_among inputs text ≡ true) [
      | None ↦ (λ is h. absurd h)
      | Some u ↦ (λ is h. subst (λ t. is_among inputs t ≡ true) h.0 (all-get (is_among inputs) texts u.number u.text over (first-is texts u is).0))
    ] refl h

outcome-place : (inputs : List Text) (o : Outcome) (error : PlanError) (at : Option (Bor Text × FaultPlace)) → are_among inputs o.texts ≡ true
    → MatchOption at (IsOfNoText o.is_within_limits error) (λ x. IsTextFault o.texts error x.0.now x.1) → IsOutcomePlace inputs o error (option_and_then (λ x. numbered_in inputs x.0.now x.1) at)
outcome-place inputs o error None over told = told
outcome-place inputs o error (Some x) over told =
    let k = has-number inputs x.0.now (fault-input inputs o.texts error x.0.now x.1 over told) in
    let is : numbered_in inputs x.0.now x.1 ≡ Some (with_number k.0 x.1) = ap (option_map (λ k. with_number k x.1)) k.1 in
    subst (IsOutcomePlace inputs o error) (sym is) (x.0.now, x.1, told, is)

-- the place in the inputs of the fault of a plan over them
pub told_place : (inputs : List Text) (o : Outcome) (f : PlanFault) (place : Option FaultPlace) → are_among inputs o.texts ≡ true → f.error ≢ Map OutOfMemory → IsTold o f
    → place ≡ fault_place_in inputs f → IsOutcomePlace inputs o f.error place
told_place inputs o f place over other told is = subst (IsOutcomePlace inputs o f.error) (sym is) (outcome-place inputs o f.error f.at over (told other))

-- ---- the search for the number, behind inputs that are not the text
module _ (inputs : List (Bor Text)) (k : ℕ) (d : Bor Text) (text : Text) (below : k < length inputs)
    (so_far : position_from (bytes_eq text) k (lent_items (drop k inputs)) ≡ position_from (bytes_eq text) 0 (lent_items inputs)) where
  abbrev rest : List Text
  rest = lent_items (drop (k + 1) inputs)

  cut : (b : Bool) → bytes_eq text (get_or inputs k d).now ≡ b → position_from (bytes_eq text) k (lent_items (drop k inputs)) ≡ cond b (Some k) (position_from (bytes_eq text) (k + 1) rest)
  cut b e = ap (λ xs. position_from (bytes_eq text) k (lent_items xs)) (drop_more inputs k d below) ∙ ap (λ b. cond b (Some k) (position_from (bytes_eq text) (k + 1) rest)) e

  pub number_here : (get_or inputs k d).now ≡ text → input_number (lent_items inputs) text ≡ Some k
  number_here same = position_from-zero (bytes_eq text) (lent_items inputs) ∙ sym so_far ∙ cut true (ap (bytes_eq text) same ∙ bytes-self text)

  pub number_later : (get_or inputs k d).now ≢ text → position_from (bytes_eq text) (k + 1) rest ≡ position_from (bytes_eq text) 0 (lent_items inputs)
  number_later other = sym (cut false (false_from_ne_true _ (λ t. other (sym ((bytes_decides text (get_or inputs k d).now).0 t))))) ∙ so_far

pub number_none : (inputs : List (Bor Text)) (k : ℕ) (text : Text) → position_from (bytes_eq text) k (lent_items (drop k inputs)) ≡ position_from (bytes_eq text) 0 (lent_items inputs) → length inputs ≤ k
    → input_number (lent_items inputs) text ≡ None
number_none inputs k text so_far past =
    position_from-zero (bytes_eq text) (lent_items inputs) ∙ sym so_far ∙ ap (λ xs. position_from (bytes_eq text) k (lent_items xs)) (drop_all k inputs past)
