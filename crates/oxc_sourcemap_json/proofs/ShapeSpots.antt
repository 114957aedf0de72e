-- The spot of a fault of the shape of a value.
use Rattle.std.proofs.Common.{◌≡◌, ◌+◌, Bool, true, codes, refl, ap, ◌∙◌, sym, Option, Some, None}
use Rattle.std.proofs.Common.{Result, Ok, Err}
use Rattle.std.specs.Option.{option_map, option_and_then}
use Rattle.serde_json.specs.Data.{Data, Items, no_items, item, null, boolean, number, string, array}
use Rattle.serde_json.specs.Data.{object}
use Rattle.serde_json.specs.Find.{get, as_array}
use Rattle.oxc_sourcemap_tokens.specs.declared.errors.error.Error.TheVariants.{BadJson}
use Rattle.oxc_sourcemap_tokens.specs.declared.errors.error.JsonFault.TheVariants.{Shape, Version}
use Rattle.oxc_sourcemap_tokens.specs.declared.errors.error.Field.{Field}
use Rattle.oxc_sourcemap_tokens.specs.declared.errors.error.Field.TheVariants.{IgnoreList}
use Rattle.oxc_sourcemap_tokens.specs.declared.errors.error.Field.TheVariants.{GoogleIgnoreList}
use Rattle.oxc_sourcemap_tokens.specs.declared.errors.fault.Fault.{Fault}
use Rattle.oxc_sourcemap_tokens.specs.declared.errors.fault.FaultSpot.{FaultSpot}
use Rattle.oxc_sourcemap_tokens.specs.declared.errors.fault.FaultSpot.TheVariants.{Member}
use Rattle.oxc_sourcemap_tokens.specs.PlaceMessages.{name_of}
use Rattle.oxc_sourcemap_tokens.specs.Places.{place_in}
use Rattle.oxc_sourcemap_json.specs.Shape.{present}
use Rattle.oxc_sourcemap_json.specs.ShapeSpots.{is_entry, first_failing, entry_or_member, list_spot}
use Rattle.oxc_sourcemap_json.specs.ShapeSpots.{shape_spot, misshapen, misshapen_ids, FailsAs}
use Rattle.oxc_sourcemap_json.specs.ShapeSpots.{FailsWithin}

-- the place of a fault is the one that its error has in this value
abbrev pub IsWithin : Data → Fault → Type 0
IsWithin d f = f.place ≡ Some (place_in None (shape_spot d f.error))

none_failing : (passes : Data → Bool) → ((d : Data) → passes d ≡ true) → (ds : Items) → first_failing passes ds ≡ None
none_failing passes all no_items = refl
none_failing passes all (item d ds) = rw (all d) (ap (option_map (λ i. i + 1)) (none_failing passes all ds))

in_list : (field : Field) → ((d : Data) → is_entry field d ≡ true) → (o : Option Items) → entry_or_member field (option_and_then (first_failing (is_entry field)) o) ≡ Member field
in_list field all None = refl
in_list field all (Some ds) = ap (entry_or_member field) (none_failing (is_entry field) all ds)

-- a member that is no list is at fault as a whole
whole : (field : Field) → ((d : Data) → is_entry field d ≡ true) → (o : Option Data) → list_spot field o ≡ Member field
whole field all None = refl
whole field all (Some d) = in_list field all (as_array d)

pub at-list : (field : Field) (d : Data) (o : Option Data) (f : Fault) → get (name_of field) d ≡ o → f ≡ misshapen field (list_spot field o) → IsWithin d f
at-list field d o f at is = rw is (ap (λ m. Some (place_in None (list_spot field m))) (sym at))

pub at-member : (field : Field) → ((d : Data) → is_entry field d ≡ true) → (d : Data) (f : Fault) → f ≡ misshapen field (Member field) → IsWithin d f
at-member field all d f is = rw is (ap (λ s. Some (place_in None s)) (sym (whole field all (get (name_of field) d))))

-- null is no list
pub present-spot : (field : Field) (o : Option Data) → list_spot field (present o) ≡ list_spot field o
present-spot field None = refl
present-spot field (Some null) = refl
present-spot field (Some (boolean b)) = refl
present-spot field (Some (number n)) = refl
present-spot field (Some (string s)) = refl
present-spot field (Some (array ds)) = refl
present-spot field (Some (object ms)) = refl

pub at-present : (field : Field) (d : Data) (o : Option Data) (f : Fault) → get (name_of field) d ≡ o → f ≡ misshapen field (list_spot field (present o)) → IsWithin d f
at-present field d o f at is = at-list field d o f at (is ∙ ap (misshapen field) (present-spot field o))

-- the ignore list, or the older one
pub at-ids : (d : Data) (o p : Option Data) (f : Fault) → get (codes "ignoreList") d ≡ o → get (codes "x_google_ignoreList") d ≡ p
    → f ≡ misshapen_ids (present o) (present p) → IsWithin d f
at-ids d None p f at older is = at-present GoogleIgnoreList d p f older is
at-ids d (Some null) p f at older is = at-present GoogleIgnoreList d p f older is
at-ids d (Some (boolean b)) p f at older is = at-list IgnoreList d (Some (boolean b)) f at is
at-ids d (Some (number n)) p f at older is = at-list IgnoreList d (Some (number n)) f at is
at-ids d (Some (string s)) p f at older is = at-list IgnoreList d (Some (string s)) f at is
at-ids d (Some (array ds)) p f at older is = at-list IgnoreList d (Some (array ds)) f at is
at-ids d (Some (object ms)) p f at older is = at-list IgnoreList d (Some (object ms)) f at is

pub as-within : {A : Type 0} (field : Field) → ((d : Data) → is_entry field d ≡ true) → (d : Data) (r : Result A Fault) → FailsAs (misshapen field (Member field)) r → FailsWithin d r
as-within field all d (Ok x) h = tt
as-within field all d (Err f) h = λ n. at-member field all d f (h n)
