-- A JSON value with the members mended that the exact reader refuses, and what was mended.
use Rattle.std.specs.Prelude.{ℕ, ◌+◌, Bool, false, not, List, [], ◌∷◌, ◌++◌, codes, length, Option}
use Rattle.std.specs.Prelude.{Some, None, is_some, if◌then◌else◌, nat_lt}
use Rattle.std.specs.Float.Ieee.{eq}
use Rattle.std.specs.List.{flat_map}
use Rattle.std.specs.Option.{option_and_then, option_map_or, option_to_list}
use Rattle.std.specs.Str.{bytes_eq}
use Rattle.serde_json.specs.Data.{Num, unsigned, negative, float, Data, null, boolean, number}
use Rattle.serde_json.specs.Data.{string, array, object, Items, no_items, item, Members, put}
use Rattle.serde_json.specs.Find.{get_member, as_null, as_array}
use Rattle.serde_json.specs.View.{items_of}
use Rattle.oxc_sourcemap_json.specs.Shape.{present, as_content, as_id}
use Rattle.oxc_sourcemap_found.specs.declared.mending.members.TheConstants.{THREE}
use Rattle.oxc_sourcemap_found.specs.declared.mending.members.Entries.{Entries}
use Rattle.oxc_sourcemap_found.specs.declared.mending.members.Entries.TheVariants.{Sources}
use Rattle.oxc_sourcemap_found.specs.declared.mending.members.Entries.TheVariants.{Contents, Ids}
use Rattle.oxc_sourcemap_found.specs.declared.mending.members.Entries.TheVariants.{GoogleIds}
use Rattle.oxc_sourcemap_found.specs.declared.mending.mend.MendKind.{MendKind}
use Rattle.oxc_sourcemap_found.specs.declared.mending.mend.MendKind.TheVariants.{Version, NoSources}
use Rattle.oxc_sourcemap_found.specs.declared.mending.mend.MendKind.TheVariants.{NullSource}
use Rattle.oxc_sourcemap_found.specs.declared.mending.mend.MendKind.TheVariants.{NoContents}
use Rattle.oxc_sourcemap_found.specs.declared.mending.mend.MendKind.TheVariants.{BadContent}
use Rattle.oxc_sourcemap_found.specs.declared.mending.mend.MendKind.TheVariants.{NullNames}
use Rattle.oxc_sourcemap_found.specs.declared.mending.mend.MendKind.TheVariants.{NoIgnoreList}
use Rattle.oxc_sourcemap_found.specs.declared.mending.mend.MendKind.TheVariants.{BadIgnoredId}
use Rattle.oxc_sourcemap_found.specs.declared.mending.mend.MendKind.TheVariants.{NoGoogleIgnoreList}
use Rattle.oxc_sourcemap_found.specs.declared.mending.mend.MendKind.TheVariants.{BadGoogleIgnoredId}

-- ---- members

-- What stands in place of a member, and what was mended in it.
pub record Change : Type 0 where
  pub value : Data
  pub kinds : List MendKind

-- a value in place of a member, for one reason
abbrev pub replaced : Data → MendKind → Option Change
replaced value kind = Some (record { value = value; kinds = kind ∷ [] })

abbrev pub is_null : Data → Bool
is_null d = is_some (as_null d)

-- a number that is 3 as a float, as 3.0 is
abbrev pub is_float_three : Num → Bool
is_float_three (unsigned n) = false
is_float_three (negative z) = false
is_float_three (float x) = eq x THREE

-- the number 3.0, or the text 3
abbrev pub is_other_three : Data → Bool
is_other_three null = false
is_other_three (boolean b) = false
is_other_three (number n) = is_float_three n
is_other_three (string s) = bytes_eq s (codes "3")
is_other_three (array ds) = false
is_other_three (object ms) = false

-- the version: 3 in place of 3.0 and of a text
abbrev pub version_change : Option Data → Option Change
version_change None = None
version_change (Some d) = if is_other_three d then replaced (number (unsigned 3)) Version else None

-- the names: an empty list in place of null
abbrev pub names_change : Option Data → Option Change
names_change None = None
names_change (Some d) = if is_null d then replaced (array no_items) NullNames else None

-- ---- lists

-- the entries of a list
abbrev pub entries : Items → List Data
entries no_items = []
entries (item d ds) = d ∷ entries ds

-- the id of one of so many sources
abbrev pub is_id_of : ℕ → Data → Bool
is_id_of count d = option_map_or (λ id. nat_lt id count) (as_id d) false

-- whether an entry may stay in a list: a source that is not null, a content that is a text or null, the id of a source
abbrev pub may_stay : Entries → Data → Bool
may_stay Sources d = not (is_null d)
may_stay Contents d = is_some (as_content d)
may_stay (Ids count) d = is_id_of count d
may_stay (GoogleIds count) d = is_id_of count d

-- what stands in place of an entry that may not stay: an empty text for a source, null for a content, nothing for an id
abbrev pub stand_in : Entries → Option Data
stand_in Sources = Some (string [])
stand_in Contents = Some null
stand_in (Ids count) = None
stand_in (GoogleIds count) = None

-- what was mended at the entry of this index
abbrev pub entry_kind : Entries → ℕ → MendKind
entry_kind Sources k = NullSource k
entry_kind Contents k = BadContent k
entry_kind (Ids count) k = BadIgnoredId k
entry_kind (GoogleIds count) k = BadGoogleIgnoredId k

-- what was mended if there is no list
abbrev pub list_kind : Entries → MendKind
list_kind Sources = NoSources
list_kind Contents = NoContents
list_kind (Ids count) = NoIgnoreList
list_kind (GoogleIds count) = NoGoogleIgnoreList

-- an entry if it may stay, else what stands in its place
abbrev pub mended_entry : Entries → Data → List Data
mended_entry list d = if may_stay list d then d ∷ [] else option_to_list (stand_in list)

-- a list with its entries mended
abbrev pub mended_items : Entries → Items → Items
mended_items list items = items_of (flat_map (mended_entry list) (entries items))

-- what was mended in entries, the first of which has this index
abbrev pub kinds_from : Entries → ℕ → List Data → List MendKind
kinds_from list k [] = []
kinds_from list k (d ∷ ds) = if may_stay list d then kinds_from list (k + 1) ds else entry_kind list k ∷ kinds_from list (k + 1) ds

-- a value in place of a member, if there is a reason
abbrev pub replaced_if : Data → List MendKind → Option Change
replaced_if value [] = None
replaced_if value (kind ∷ kinds) = Some (record { value = value; kinds = kind ∷ kinds })

-- a list in whose entries something is mended
abbrev pub list_change : Entries → Items → Option Change
list_change list items = replaced_if (array (mended_items list items)) (kinds_from list 0 (entries items))

-- the sources: an empty list where they are missing
abbrev pub sources_change : Option Data → Option Change
sources_change None = replaced (array no_items) NoSources
sources_change (Some d) = option_and_then (list_change Sources) (as_array d)

-- a list that may be missing: null in place of what is no list
abbrev pub list_or_null_change : Entries → Option Items → Option Change
list_or_null_change list None = replaced null (list_kind list)
list_or_null_change list (Some items) = list_change list items

abbrev pub optional_list_change : Entries → Option Data → Option Change
optional_list_change list member = option_and_then (λ d. list_or_null_change list (as_array d)) (present member)

-- ---- objects

-- the members of an object, and what was mended in them so far
pub record MendedMembers : Type 0 where
  pub members : Members
  pub kinds : List MendKind

-- the members with a change at this key, if there is one
abbrev pub changed : List ℕ → Option Change → MendedMembers → MendedMembers
changed key None m = m
changed key (Some change) m = record { members = put key change.value m.members; kinds = m.kinds ++ change.kinds }

abbrev pub with_version : MendedMembers → MendedMembers
with_version m = changed (codes "version") (version_change (get_member (codes "version") m.members)) m

abbrev pub with_sources : MendedMembers → MendedMembers
with_sources m = changed (codes "sources") (sources_change (get_member (codes "sources") m.members)) m

abbrev pub with_contents : MendedMembers → MendedMembers
with_contents m = changed (codes "sourcesContent") (optional_list_change Contents (get_member (codes "sourcesContent") m.members)) m

abbrev pub with_names : MendedMembers → MendedMembers
with_names m = changed (codes "names") (names_change (get_member (codes "names") m.members)) m

-- the number of sources
abbrev pub source_count : Members → ℕ
source_count ms = option_map_or (λ items. length (entries items)) (option_and_then as_array (get_member (codes "sources") ms)) 0

abbrev pub with_ignore_list : MendedMembers → MendedMembers
with_ignore_list m =
    changed (codes "ignoreList") (optional_list_change (Ids (source_count m.members)) (get_member (codes "ignoreList") m.members)) m

-- the older key of the ignore list, which is read only if `ignoreList` is missing or null
abbrev pub with_google_ignore_list : MendedMembers → MendedMembers
with_google_ignore_list m =
    if is_some (present (get_member (codes "ignoreList") m.members))
    then m
    else changed (codes "x_google_ignoreList") (optional_list_change (GoogleIds (source_count m.members)) (get_member (codes "x_google_ignoreList") m.members)) m

-- members of which nothing is mended so far
abbrev pub as_found : Members → MendedMembers
as_found ms = record { members = ms; kinds = [] }

-- the members of a map by itself, mended one after the other
abbrev pub mended_members : Members → MendedMembers
mended_members ms =
    with_google_ignore_list (with_ignore_list (with_names (with_contents (with_sources (with_version (as_found ms))))))
