-- The first text that cannot be read.
use Rattle.std.proofs.Common.{◌≡◌, ℕ, suc, ◌+◌, List, [], ◌∷◌, refl, ap, ◌∙◌, subst, Option, Some}
use Rattle.std.proofs.Common.{Ok, Err, slice_get, arith, None, sym, ◌≢◌, is_some, true, option_map}
use Rattle.std.proofs.Common.{IsSomeAnd, IfSome, drop, length, get_or, ◌<◌, ◌⊎◌, inl, inr, ◌++◌}
use Rattle.std.proofs.lemmas.List.{drop_more}
use Rattle.std.specs.Borrow.{Bor}
use Rattle.oxc_sourcemap_tokens.specs.Results.{lent_items}
use Rattle.serde_json.specs.Data.{Data}
use Rattle.serde_json.specs.Read.{read}
use Rattle.oxc_sourcemap_tokens.specs.declared.errors.error.Error.{Error}
use Rattle.oxc_sourcemap_tokens.specs.declared.errors.error.Error.TheVariants.{OutOfMemory}
use Rattle.oxc_sourcemap_tokens.specs.declared.errors.fault.Fault.{Fault}
use Rattle.oxc_sourcemap_tokens.specs.declared.errors.fault.FaultPlace.{FaultPlace}
use Rattle.oxc_sourcemap_tokens.specs.declared.errors.plan_error.PlanError.{PlanError}
use Rattle.oxc_sourcemap_tokens.specs.declared.errors.plan_error.PlanError.TheVariants.{Map}
use Rattle.oxc_sourcemap_parts.specs.Record.{Text, MapRecord}
use Rattle.oxc_sourcemap_json.specs.ReadMap.{read_map}
use Rattle.oxc_sourcemap_json.specs.ValuePlaces.{value_place, IsBytePlace, IsPlacedIn}
use Rattle.oxc_sourcemap_plan.specs.PlanPlaces.{Unread, unread_or, unread_from, first_unread}
use Rattle.oxc_sourcemap_plan.specs.PlanPlaces.{IsPlaceOf, IsNumberPlace, with_number}
use Rattle.oxc_sourcemap_plan.specs.PlanPlaces.{IsTextPlace, IsTextFault}
use Rattle.oxc_sourcemap_plan.specs.Realizes.{AreRead}

abbrev some : Unread → Option Unread
some x = Some x

same-some : (x y : Unread) → some x ≡ some y → x ≡ y
same-some x y e = cc

-- past a text that can be read
pub unread-more : (k : ℕ) (text : Text) (texts : List Text) (r : MapRecord) → read_map text ≡ Ok r → unread_from k (text ∷ texts) ≡ unread_from (k + 1) texts
unread-more k text texts r e = ap (λ x. unread_or k text x (unread_from (k + 1) texts)) e

-- at one that cannot
pub unread-here : (k : ℕ) (text : Text) (texts : List Text) (e : Error) → read_map text ≡ Err e
    → unread_from k (text ∷ texts) ≡ Some (record { number = k; text = text; error = e })
unread-here k text texts e h = ap (λ x. unread_or k text x (unread_from (k + 1) texts)) h

-- past texts that all can
pub past-read : (xs more : List Text) → AreRead xs → (k : ℕ) → (n : ℕ) × (unread_from k (xs ++ more) ≡ unread_from n more)
past-read [] more h k = (k, refl)
past-read (x ∷ xs) more h k = let f = past-read xs more h.1 (k + 1) in (f.0, unread-more k x (xs ++ more) h.0.0 h.0.1 ∙ f.1)

-- the same text is the first in front of others, and counted from another number
pub with-more : (xs more : List Text) (j k : ℕ) (u : Unread) → unread_from j xs ≡ Some u → (v : Unread) × (unread_from k (xs ++ more) ≡ Some v) × (v.text ≡ u.text) × (v.error ≡ u.error)
with-more [] more j k u e = cc
with-more (x ∷ xs) more j k u e =
    elim (read_map x) as (λ r. unread_or j x r (unread_from (j + 1) xs) ≡ Some u
    → (v : Unread) × (unread_or k x r (unread_from (k + 1) (xs ++ more)) ≡ Some v) × (v.text ≡ u.text) × (v.error ≡ u.error)) [
      | Ok m ↦ (λ q. with-more xs more (j + 1) (k + 1) u q)
      | Err f ↦ (λ q. let is : record { number = j; text = x; error = f } ≡ u = same-some _ u q in
          (record { number = k; text = x; error = f }, refl, ap (λ (u : Unread). u.text) is, ap (λ (u : Unread). u.error) is))
    ] e

-- a text at fault is the first that cannot be read behind texts that can, and in front of others
pub fault-among : (front texts rest : List Text) (error : PlanError) (text : Text) (place : FaultPlace) → AreRead front → IsTextFault texts error text place
    → IsTextFault (front ++ (texts ++ rest)) error text place
fault-among front texts rest error text place read h =
    elim (first_unread texts) as (λ o. first_unread texts ≡ o → IsSomeAnd o (λ u. (u.text ≡ text) × (error ≡ Map u.error) × IsTextPlace text place)
    → IsTextFault (front ++ (texts ++ rest)) error text place) [
      | None ↦ (λ is h. absurd h)
      | Some u ↦ (λ is h.
          let p = past-read front (texts ++ rest) read 0 in
          let v = with-more texts rest 0 p.0 u is in
          subst (λ o. IsSomeAnd o (λ u. (u.text ≡ text) × (error ≡ Map u.error) × IsTextPlace text place)) (sym (p.1 ∙ v.1)) (v.2 ∙ h.0, h.1 ∙ ap (λ e. Map e) (sym v.3), h.2))
    ] refl h

-- it is the text with its number, and has its error
pub unread-is : (k : ℕ) (texts : List Text) (u : Unread) → unread_from k texts ≡ Some u
    → (i : ℕ) × (u.number ≡ k + i) × (slice_get texts i ≡ Some u.text) × (read_map u.text ≡ Err u.error)
unread-is k [] u e = cc
unread-is k (text ∷ texts) u e =
    elim (read_map text) as (λ r. read_map text ≡ r → unread_or k text r (unread_from (k + 1) texts) ≡ Some u
    → (i : ℕ) × (u.number ≡ k + i) × (slice_get (text ∷ texts) i ≡ Some u.text) × (read_map u.text ≡ Err u.error)) [
      | Ok m ↦ (λ h q. let more = unread-is (k + 1) texts u q in (suc more.0, omega (arith, more.1), more.2, more.3))
      | Err f ↦ (λ h q. let is : record { number = k; text = text; error = f } ≡ u = same-some _ u q in
          subst (λ (u : Unread). (i : ℕ) × (u.number ≡ k + i) × (slice_get (text ∷ texts) i ≡ Some u.text) × (read_map u.text ≡ Err u.error)) is
          (0, omega arith, refl, h))
    ] refl e

pub first-is : (texts : List Text) (u : Unread) → first_unread texts ≡ Some u → (slice_get texts u.number ≡ Some u.text) × (read_map u.text ≡ Err u.error)
first-is texts u e =
    let found = unread-is 0 texts u e in
    let same : u.number ≡ found.0 = omega (arith, found.1) in
    (ap (slice_get texts) same ∙ found.2, found.3)

placed : (texts : List Text) (u : Unread) (error : Error) (place : Option FaultPlace) → first_unread texts ≡ Some u → u.error ≡ error
    → ((d : Data) → read u.text ≡ Some d → value_place d ≡ place) → (read u.text ≡ None → IsSomeAnd place (IsBytePlace u.text)) → is_some place ≡ true
    → IsPlaceOf texts error (option_map (with_number u.number) place)
placed texts u error None first same json bad there = absurd (cc (there))
placed texts u error (Some p) first same json bad there =
    subst (λ o. IsSomeAnd o (λ x. (x.error ≡ error) × IsNumberPlace x.number x.text (with_number u.number p))) (sym first) (same, (p, (json, bad), refl))

-- The place of this error of texts whose first ones can be read, if the text behind these cannot.
pub placed_at : (texts : List (Bor Text)) (k : ℕ) (none : Bor Text) (f : Fault) (error : Error) (place : Option FaultPlace) → k < length texts
    → unread_from k (lent_items (drop k texts)) ≡ first_unread (lent_items texts) → f.error ≢ OutOfMemory → (f.error ≢ OutOfMemory → read_map (get_or texts k none).now ≡ Err f.error)
    → IsPlacedIn (get_or texts k none).now f → ((f.error ≡ error) × (place ≡ option_map (with_number k) f.place)) ⊎ ((f.error ≢ error) × (place ≡ None))
    → IsPlaceOf (lent_items texts) error place
placed_at texts k none f error place below so_far other reads is told =
    let text = get_or texts k none in
    let u : Unread = record { number = k; text = text.now; error = f.error } in
    let there = is other in
    let rest = lent_items (drop (k + 1) texts) in
    let cut : lent_items (drop k texts) ≡ text.now ∷ rest = ap lent_items (drop_more texts k none below) in
    let first : first_unread (lent_items texts) ≡ Some u = sym so_far ∙ ap (unread_from k) cut ∙ unread-here k text.now rest f.error (reads other) in
    elim told [
      | inl same ↦ subst (IsPlaceOf (lent_items texts) error) (sym same.1) (placed (lent_items texts) u error f.place first same.0 there.0 there.1 there.2)
      | inr not ↦ subst (IsPlaceOf (lent_items texts) error) (sym not.1) (subst (λ o. IfSome o (λ x. x.error ≢ error)) (sym first) not.0)
    ]
