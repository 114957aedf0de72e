-- Where a JSON value, as a map by itself, has a fault of its shape.
use Rattle.std.specs.Prelude.{◌≡◌, ◌≢◌, ℕ, ◌+◌, Bool, true, codes, Option, Some, None, Result}
use Rattle.std.specs.Prelude.{IfErr, if◌then◌else◌, is_some}
use Rattle.std.specs.Option.{option_map, option_and_then}
use Rattle.serde_json.specs.Data.{Data, Items, no_items, item, null}
use Rattle.serde_json.specs.Find.{get, as_str, as_array}
use Rattle.oxc_sourcemap_tokens.specs.declared.errors.error.Error.{Error}
use Rattle.oxc_sourcemap_tokens.specs.declared.errors.error.Error.TheVariants.{BadJson, OutOfMemory}
use Rattle.oxc_sourcemap_tokens.specs.declared.errors.error.JsonFault.{JsonFault}
use Rattle.oxc_sourcemap_tokens.specs.declared.errors.error.JsonFault.TheVariants.{Reading, Shape}
use Rattle.oxc_sourcemap_tokens.specs.declared.errors.error.JsonFault.TheVariants.{Version}
use Rattle.oxc_sourcemap_tokens.specs.declared.errors.error.Field.{Field}
use Rattle.oxc_sourcemap_tokens.specs.declared.errors.error.Field.TheVariants.{Sources}
use Rattle.oxc_sourcemap_tokens.specs.declared.errors.error.Field.TheVariants.{SourcesContent}
use Rattle.oxc_sourcemap_tokens.specs.declared.errors.error.Field.TheVariants.{Names, IgnoreList}
use Rattle.oxc_sourcemap_tokens.specs.declared.errors.error.Field.TheVariants.{GoogleIgnoreList}
use Rattle.oxc_sourcemap_tokens.specs.declared.errors.error.Field.TheVariants.{Object}
use Rattle.oxc_sourcemap_tokens.specs.declared.errors.error.Field.TheVariants.{Version as VersionField}
use Rattle.oxc_sourcemap_tokens.specs.declared.errors.fault.Fault.{Fault}
use Rattle.oxc_sourcemap_tokens.specs.declared.errors.fault.FaultSpot.{FaultSpot}
use Rattle.oxc_sourcemap_tokens.specs.declared.errors.fault.FaultSpot.TheVariants.{Member, Entry}
use Rattle.oxc_sourcemap_tokens.specs.PlaceMessages.{name_of}
use Rattle.oxc_sourcemap_tokens.specs.Places.{place_in, fault_at}
use Rattle.oxc_sourcemap_json.specs.Shape.{as_content, as_id}

-- the value may be an entry of the list that this member is
abbrev pub is_entry : Field → Data → Bool
is_entry Sources d = is_some (as_str d)
is_entry SourcesContent d = is_some (as_content d)
is_entry Names d = is_some (as_str d)
is_entry IgnoreList d = is_some (as_id d)
is_entry GoogleIgnoreList d = is_some (as_id d)
is_entry field d = true

-- the index of the first item that fails a test
abbrev pub first_failing : (Data → Bool) → Items → Option ℕ
first_failing passes no_items = None
first_failing passes (item d ds) = if passes d then option_map (λ i. i + 1) (first_failing passes ds) else Some 0

-- the index of the first entry of the wrong type, if this member is a list with one
abbrev pub bad_entry : Field → Data → Option ℕ
bad_entry field list = option_and_then (first_failing (is_entry field)) (as_array list)

-- where a member is misshapen: at an entry, or as a whole
abbrev pub entry_or_member : Field → Option ℕ → FaultSpot
entry_or_member field None = Member field
entry_or_member field (Some index) = Entry field index

-- the same of this member, or of one that is missing
abbrev pub list_spot : Field → Option Data → FaultSpot
list_spot field member = entry_or_member field (option_and_then (bad_entry field) member)

-- where a list of strings is misshapen
abbrev pub texts_spot : Field → Data → FaultSpot
texts_spot field list = entry_or_member field (option_and_then (first_failing (λ d. is_some (as_str d))) (as_array list))

-- the same of a list of ids
abbrev pub ids_spot : Field → Data → FaultSpot
ids_spot field list = entry_or_member field (option_and_then (first_failing (λ d. is_some (as_id d))) (as_array list))

abbrev pub member_spot : Field → Data → FaultSpot
member_spot field d = list_spot field (get (name_of field) d)

-- where a value has this fault of its shape; there are no others
abbrev pub json_spot : Data → JsonFault → FaultSpot
json_spot d Reading = Member Object
json_spot d (Shape field) = member_spot field d
json_spot d (Version n) = Member VersionField

abbrev pub shape_spot : Data → Error → FaultSpot
shape_spot d (BadJson fault) = json_spot d fault
shape_spot d error = Member Object

-- the member that is the ignore list of a map: the older one, if the other is null or missing
abbrev pub ignored_by : Option Data → Field
ignored_by None = GoogleIgnoreList
ignored_by (Some null) = GoogleIgnoreList
ignored_by (Some list) = IgnoreList

abbrev pub ignored_field : Data → Field
ignored_field d = ignored_by (get (codes "ignoreList") d)

-- the fault of this field, at this spot
abbrev pub misshapen : Field → FaultSpot → Fault
misshapen field spot = fault_at (BadJson (Shape field)) spot

-- the fault of an ignore list, and of the older one that stands in for it
abbrev pub misshapen_ids : Option Data → Option Data → Fault
misshapen_ids (Some list) older = misshapen IgnoreList (list_spot IgnoreList (Some list))
misshapen_ids None older = misshapen GoogleIgnoreList (list_spot GoogleIgnoreList older)

-- If the call fails, it is with this fault or for want of memory.
abbrev pub FailsAs : {A : Type 0} → Fault → Result A Fault → Type 0
FailsAs fault result = IfErr result (λ f. (f.error ≢ OutOfMemory) → f ≡ fault)

-- If the call fails, and not for want of memory, it is at the spot that its error has in this value.
abbrev pub FailsWithin : {A : Type 0} → Data → Result A Fault → Type 0
FailsWithin d result = IfErr result (λ f. (f.error ≢ OutOfMemory) → f.place ≡ Some (place_in None (shape_spot d f.error)))
