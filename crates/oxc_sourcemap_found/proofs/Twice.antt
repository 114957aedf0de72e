-- What is mended has nothing to mend.
use Rattle.std.proofs.Common.{◌≡◌, ℕ, ◌+◌, Bool, true, false, cond, bytes_eq, true≢false, List, []}
use Rattle.std.proofs.Common.{◌∷◌, ◌++◌, length, codes, refl, ap, sym, ◌∙◌, Option, Some, None}
use Rattle.std.proofs.lemmas.Slice.Eq.{bytes_eq-Decides}
use Rattle.std.specs.List.{flat_map}
use Rattle.std.specs.Option.{is_some, option_and_then, option_map_or, option_to_list}
use Rattle.serde_json.specs.Data.{unsigned, Data, null, boolean, number, string, array, object}
use Rattle.serde_json.specs.Data.{Items, no_items, Members}
use Rattle.serde_json.specs.Find.{get_member, as_array}
use Rattle.serde_json.proofs.Views.{get_member-put, get_member-put_other}
use Rattle.oxc_sourcemap_json.specs.Shape.{present}
use Rattle.oxc_sourcemap_found.specs.declared.mending.members.Entries.{Entries}
use Rattle.oxc_sourcemap_found.specs.declared.mending.members.Entries.TheVariants.{Sources}
use Rattle.oxc_sourcemap_found.specs.declared.mending.members.Entries.TheVariants.{Contents, Ids}
use Rattle.oxc_sourcemap_found.specs.declared.mending.members.Entries.TheVariants.{GoogleIds}
use Rattle.oxc_sourcemap_found.specs.declared.mending.mend.MendKind.{MendKind}
use Rattle.oxc_sourcemap_found.specs.Mended.{Change, is_null, is_other_three, version_change}
use Rattle.oxc_sourcemap_found.specs.Mended.{names_change, entries, may_stay, stand_in}
use Rattle.oxc_sourcemap_found.specs.Mended.{mended_entry, mended_items, kinds_from, replaced_if}
use Rattle.oxc_sourcemap_found.specs.Mended.{list_change, sources_change, optional_list_change}
use Rattle.oxc_sourcemap_found.specs.Mended.{MendedMembers, changed, as_found, with_version}
use Rattle.oxc_sourcemap_found.specs.Mended.{with_sources, with_contents, with_names, source_count}
use Rattle.oxc_sourcemap_found.specs.Mended.{with_ignore_list, with_google_ignore_list}
use Rattle.oxc_sourcemap_found.specs.Mended.{mended_members}
use Rattle.oxc_sourcemap_found.proofs.Entries.{entries-items_of}
use Rattle.oxc_sourcemap_found.proofs.Kept.{nothing-mended}

-- ---- members at keys

apart : (a b : List ℕ) → bytes_eq a b ≡ false → a ≡ b → ⊥
apart a b differ same = true≢false (sym ((bytes_eq-Decides a b).1 same) ∙ differ)

-- a change at one key leaves the others
others : (q key : List ℕ) (c : Option Change) (m : MendedMembers) → bytes_eq q key ≡ false → get_member q (changed key c m).members ≡ get_member q m.members
others q key None m differ = refl
others q key (Some c) m differ = get_member-put_other q key c.value m.members (apart q key differ)

-- a change that is made has nothing more to change
abbrev IsDone : (Option Data → Option Change) → Type 0
IsDone change = (o : Option Data) (c : Change) → change o ≡ Some c → change (Some c.value) ≡ None

done-if : (change : Option Data → Option Change) (key : List ℕ) (m : MendedMembers) (c : Option Change) → IsDone change → change (get_member key m.members) ≡ c
    → change (get_member key (changed key c m).members) ≡ None
done-if change key m None done e = e
done-if change key m (Some c) done e = ap change (get_member-put key c.value m.members) ∙ done _ c e

-- after a change at a key there is nothing more to change there
done-at : (change : Option Data → Option Change) (key : List ℕ) (m : MendedMembers) → IsDone change
    → change (get_member key (changed key (change (get_member key m.members)) m).members) ≡ None
done-at change key m done = done-if change key m _ done refl

-- ---- each change

value-of : (value : Data) (kind : MendKind) (c : Change) (change : Data → Option Change) → change value ≡ None → Some (record { value = value; kinds = kind ∷ [] }) ≡ Some c
    → change c.value ≡ None
value-of value kind c change none e = let same : record { value = value; kinds = kind ∷ [] } ≡ c = cc in ap (λ (x : Change). change x.value) (sym same) ∙ none

value-if : (value : Data) (kinds : List MendKind) (c : Change) (change : Data → Option Change) → change value ≡ None → replaced_if value kinds ≡ Some c → change c.value ≡ None
value-if value [] c change none e = cc
value-if value (kind ∷ kinds) c change none e =
    let same : record { value = value; kinds = kind ∷ kinds } ≡ c = cc in ap (λ (x : Change). change x.value) (sym same) ∙ none

version-if : (b : Bool) (kind : MendKind) (c : Change) → cond b (Some (record { value = number (unsigned 3); kinds = kind ∷ [] })) None ≡ Some c → version_change (Some c.value) ≡ None
version-if true kind c e = value-of (number (unsigned 3)) kind c (λ d. version_change (Some d)) refl e
version-if false kind c e = cc

version-done : IsDone version_change
version-done None c e = cc
version-done (Some d) c e = version-if (is_other_three d) _ c e

names-if : (b : Bool) (kind : MendKind) (c : Change) → cond b (Some (record { value = array no_items; kinds = kind ∷ [] })) None ≡ Some c → names_change (Some c.value) ≡ None
names-if true kind c e = value-of (array no_items) kind c (λ d. names_change (Some d)) refl e
names-if false kind c e = cc

names-done : IsDone names_change
names-done None c e = cc
names-done (Some d) c e = names-if (is_null d) _ c e

-- ---- lists

stay-more : (list : Entries) (b : Bool) (d : Data) (ds : List Data) → may_stay list d ≡ b → ((k : ℕ) → kinds_from list k ds ≡ []) → (k : ℕ) → kinds_from list k (cond b (d ∷ []) (option_to_list (stand_in list)) ++ ds) ≡ []
stay-more list true d ds t h k = rw t (h (k + 1))
stay-more Sources false d ds t h k = h (k + 1)
stay-more Contents false d ds t h k = h (k + 1)
stay-more (Ids count) false d ds t h k = h k
stay-more (GoogleIds count) false d ds t h k = h k

all-stay : (list : Entries) (ds : List Data) (k : ℕ) → kinds_from list k (flat_map (mended_entry list) ds) ≡ []
all-stay list [] k = refl
all-stay list (d ∷ ds) k = stay-more list (may_stay list d) d (flat_map (mended_entry list) ds) refl (all-stay list ds) k

list-done : (list : Entries) (items : Items) → list_change list (mended_items list items) ≡ None
list-done list items = rw (entries-items_of, all-stay list (entries items) 0) refl

sources-done : IsDone sources_change
sources-done None c e = value-of (array no_items) _ c (λ d. sources_change (Some d)) refl e
sources-done (Some null) c e = cc
sources-done (Some (boolean b)) c e = cc
sources-done (Some (number n)) c e = cc
sources-done (Some (string s)) c e = cc
sources-done (Some (array ds)) c e = value-if (array (mended_items Sources ds)) _ c (λ d. sources_change (Some d)) (list-done Sources ds) e
sources-done (Some (object ms)) c e = cc

optional-done : (list : Entries) → IsDone (optional_list_change list)
optional-done list None c e = cc
optional-done list (Some null) c e = cc
optional-done list (Some (boolean b)) c e = value-of null _ c (λ d. optional_list_change list (Some d)) refl e
optional-done list (Some (number n)) c e = value-of null _ c (λ d. optional_list_change list (Some d)) refl e
optional-done list (Some (string s)) c e = value-of null _ c (λ d. optional_list_change list (Some d)) refl e
optional-done list (Some (array ds)) c e = value-if (array (mended_items list ds)) _ c (λ d. optional_list_change list (Some d)) (list-done list ds) e
optional-done list (Some (object ms)) c e = value-of null _ c (λ d. optional_list_change list (Some d)) refl e

-- ---- the object

google-others : (b : Bool) (q : List ℕ) (c : Option Change) (m : MendedMembers) → bytes_eq q (codes "x_google_ignoreList") ≡ false
    → get_member q (cond b m (changed (codes "x_google_ignoreList") c m)).members ≡ get_member q m.members
google-others true q c m differ = refl
google-others false q c m differ = others q (codes "x_google_ignoreList") c m differ

google-done : (b : Bool) (n : ℕ) (m : MendedMembers) (final : Members)
    → final ≡ (cond b m (changed (codes "x_google_ignoreList") (optional_list_change (GoogleIds n) (get_member (codes "x_google_ignoreList") m.members)) m)).members
    → cond b (as_found final) (changed (codes "x_google_ignoreList") (optional_list_change (GoogleIds n) (get_member (codes "x_google_ignoreList") final)) (as_found final)) ≡ as_found final
google-done true n m final is = refl
google-done false n m final is =
    let none = done-at (optional_list_change (GoogleIds n)) (codes "x_google_ignoreList") m (optional-done (GoogleIds n)) in
    let here : optional_list_change (GoogleIds n) (get_member (codes "x_google_ignoreList") final) ≡ None = ap (λ ms. optional_list_change (GoogleIds n) (get_member (codes "x_google_ignoreList") ms)) is ∙ none in
    ap (λ c. changed (codes "x_google_ignoreList") c (as_found final)) here

count-same : (a b : Members) → get_member (codes "sources") a ≡ get_member (codes "sources") b → source_count a ≡ source_count b
count-same a b same = ap (λ o. option_map_or (λ items. length (entries items)) (option_and_then as_array o) 0) same

-- The members of a mended object have nothing to mend.
pub mended-twice : (ms : Members) → mended_members (mended_members ms).members ≡ as_found (mended_members ms).members
mended-twice ms =
    let m1 : MendedMembers = with_version (as_found ms) in
    let m2 : MendedMembers = with_sources m1 in
    let m3 : MendedMembers = with_contents m2 in
    let m4 : MendedMembers = with_names m3 in
    let m5 : MendedMembers = with_ignore_list m4 in
    let m6 : MendedMembers = with_google_ignore_list m5 in
    let from5 : (q : List ℕ) → bytes_eq q (codes "x_google_ignoreList") ≡ false → get_member q m6.members ≡ get_member q m5.members = λ q d. google-others _ q _ m5 d in
    let from4 : (q : List ℕ) → bytes_eq q (codes "ignoreList") ≡ false → get_member q m5.members ≡ get_member q m4.members = λ q d. others q (codes "ignoreList") _ m4 d in
    let from3 : (q : List ℕ) → bytes_eq q (codes "names") ≡ false → get_member q m4.members ≡ get_member q m3.members = λ q d. others q (codes "names") _ m3 d in
    let from2 : (q : List ℕ) → bytes_eq q (codes "sourcesContent") ≡ false → get_member q m3.members ≡ get_member q m2.members = λ q d. others q (codes "sourcesContent") _ m2 d in
    let from1 : (q : List ℕ) → bytes_eq q (codes "sources") ≡ false → get_member q m2.members ≡ get_member q m1.members = λ q d. others q (codes "sources") _ m1 d in
    let version = from5 (codes "version") refl ∙ from4 (codes "version") refl ∙ from3 (codes "version") refl ∙ from2 (codes "version") refl ∙ from1 (codes "version") refl in
    let sources = from5 (codes "sources") refl ∙ from4 (codes "sources") refl ∙ from3 (codes "sources") refl ∙ from2 (codes "sources") refl in
    let contents = from5 (codes "sourcesContent") refl ∙ from4 (codes "sourcesContent") refl ∙ from3 (codes "sourcesContent") refl in
    let names = from5 (codes "names") refl ∙ from4 (codes "names") refl in
    let ids = from5 (codes "ignoreList") refl in
    let count : source_count m6.members ≡ source_count m4.members = count-same m6.members m4.members (from5 (codes "sources") refl ∙ from4 (codes "sources") refl) in
    let count5 : source_count m6.members ≡ source_count m5.members = count-same m6.members m5.members (from5 (codes "sources") refl) in
    nothing-mended m6.members
    (ap version_change version ∙ done-at version_change (codes "version") (as_found ms) version-done)
    (ap sources_change sources ∙ done-at sources_change (codes "sources") m1 sources-done)
    (ap (optional_list_change Contents) contents ∙ done-at (optional_list_change Contents) (codes "sourcesContent") m2 (optional-done Contents))
    (ap names_change names ∙ done-at names_change (codes "names") m3 names-done)
    (ap (λ n. optional_list_change (Ids n) (get_member (codes "ignoreList") m6.members)) count ∙ ap (optional_list_change (Ids (source_count m4.members))) ids
    ∙ done-at (optional_list_change (Ids (source_count m4.members))) (codes "ignoreList") m4 (optional-done (Ids (source_count m4.members))))
    (ap (λ n. cond (is_some (present (get_member (codes "ignoreList") m6.members))) (as_found m6.members) (changed (codes "x_google_ignoreList") (optional_list_change (GoogleIds n) (get_member (codes "x_google_ignoreList") m6.members)) (as_found m6.members))) count5
    ∙ ap (λ o. cond (is_some (present o)) (as_found m6.members) (changed (codes "x_google_ignoreList") (optional_list_change (GoogleIds (source_count m5.members)) (get_member (codes "x_google_ignoreList") m6.members)) (as_found m6.members))) ids
    ∙ google-done (is_some (present (get_member (codes "ignoreList") m5.members))) (source_count m5.members) m5 m6.members refl)
