-- Entries of lists, and members that are replaced.
use Rattle.std.proofs.Common.{◌≡◌, ℕ, List, [], ◌∷◌, ◌++◌, map, length, refl, ap, sym, ◌∙◌}
use Rattle.std.proofs.Common.{Ordering, Less, Equal, Greater, nat_cmp, Option, Some, None, rules}
use Rattle.std.proofs.Common.{cond, Result, Ok, Err}
use Rattle.std.specs.Result.{OnOk, is_ok}
use Rattle.std.proofs.lemmas.List.{length-map}
use Rattle.std.proofs.lemmas.Cmp.{nat_list_cmp_total, tied_itself}
use Rattle.std.specs.Cmp.Lexicographic.{slice_cmp}
use Rattle.std.specs.Ordering.{match_ordering}
use Rattle.std.specs.List.{flat_map}
use Rattle.std.specs.Option.{option_and_then}
use Rattle.serde_json.specs.Data.{Data, null, boolean, number, string, array, object, Items}
use Rattle.serde_json.specs.Data.{Members, no_members, member, put}
use Rattle.serde_json.specs.Find.{get_member, as_array}
use Rattle.serde_json.specs.View.{view, items_view, items_of}
use Rattle.serde_json.specs.declared.value.Value.{Value, Null, the_lemmas}
use Rattle.oxc_sourcemap_found.specs.declared.mending.members.Entries.{Entries}
use Rattle.oxc_sourcemap_found.specs.declared.mending.mend.MendKind.{MendKind}
use Rattle.oxc_sourcemap_found.specs.Mended.{entries, kinds_from, list_change, replaced_if, changed}
use Rattle.oxc_sourcemap_found.specs.Mended.{MendedMembers, mended_entry, mended_items}

pub entries-items_of : (ds : List Data) → entries (items_of ds) ≡ ds
entries-items_of [] = refl
entries-items_of (d ∷ ds) = ap (λ es. d ∷ es) (entries-items_of ds)

pub entries-items_view : (vs : List Value) → entries (items_view vs) ≡ map view vs
entries-items_view vs = entries-items_of (map view vs)

same_key : (k : List ℕ) → slice_cmp nat_cmp k k ≡ Equal
same_key k = tied_itself nat_list_cmp_total k

put-put_at : (o : Ordering) (k l : List ℕ) (d e f : Data) (ms : Members) → slice_cmp nat_cmp k l ≡ o → put k d (put k e ms) ≡ put k d ms
    → put k d (match_ordering o (member k e (member l f ms)) (member l e ms) (member l f (put k e ms)))
    ≡ match_ordering o (member k d (member l f ms)) (member l d ms) (member l f (put k d ms))
put-put_at Less k l d e f ms is later = rw same_key refl
put-put_at Equal k l d e f ms is later = rw is refl
put-put_at Greater k l d e f ms is later = rw is (ap (member l f) later)

-- of two values that are put at one key, the second stays
pub put-put : (k : List ℕ) (d e : Data) (ms : Members) → put k d (put k e ms) ≡ put k d ms
put-put k d e no_members = rw same_key refl
put-put k d e (member l f ms) = put-put_at _ k l d e f ms refl (put-put k d e ms)

pub count-entries : (vs : List Value) → length (entries (items_view vs)) ≡ length vs
count-entries vs = rw entries-items_view (length-map vs view)

pub some-array : (o : Option Data) (items : Items) → Some items ≡ option_and_then as_array o → o ≡ Some (array items)
some-array None items e = cc
some-array (Some null) items e = cc
some-array (Some (boolean b)) items e = cc
some-array (Some (number n)) items e = cc
some-array (Some (string s)) items e = cc
some-array (Some (array ds)) items e = cc
some-array (Some (object ms)) items e = cc

-- entries of which nothing is mended
pub entries-kept : (list : Entries) (key : List ℕ) (m : MendedMembers) (vs : List Value) → Some (items_view vs) ≡ option_and_then as_array (get_member key m.members)
    → kinds_from list 0 (map view vs) ≡ []
    → m ≡ changed key (option_and_then (list_change list) (option_and_then as_array (get_member key m.members))) m
entries-kept list key m vs here none = rw (sym here, entries-items_view vs, none) refl

kinds-changed : (list : Entries) (key : List ℕ) (m : MendedMembers) (kinds : List MendKind) (items : Items) → (kinds ≡ [] → ⊥)
    → record { members = put key (array items) (put key null m.members); kinds = m.kinds ++ kinds } ≡ changed key (replaced_if (array items) kinds) m
kinds-changed list key m [] items some = absurd (some refl)
kinds-changed list key m (kind ∷ kinds) items some = ap (λ ms. record { members = ms; kinds = m.kinds ++ kind ∷ kinds }) (put-put key (array items) null m.members)

-- entries that are mended
pub entries-changed : (list : Entries) (key : List ℕ) (m : MendedMembers) (vs ws : List Value) (kinds : List MendKind) (items : Items)
    → Some (items_view vs) ≡ option_and_then as_array (get_member key m.members) → Some (array (items_view ws)) ≡ get_member key m.members
    → kinds ≡ kinds_from list 0 (map view vs) → (kinds ≡ [] → ⊥) → items ≡ mended_items list (items_view ws)
    → record { members = put key (array items) (put key null m.members); kinds = m.kinds ++ kinds }
    ≡ changed key (option_and_then (list_change list) (option_and_then as_array (get_member key m.members))) m
entries-changed list key m vs ws kinds items here old are some is =
    let same : items_view ws ≡ items_view vs = cc in
    let list_is : list_change list (items_view vs) ≡ replaced_if (array (mended_items list (items_view vs))) (kinds_from list 0 (map view vs)) =
    ap (λ ds. replaced_if (array (mended_items list (items_view vs))) (kinds_from list 0 ds)) (entries-items_view vs) in
    let items_are : items ≡ mended_items list (items_view vs) = is ∙ ap (mended_items list) same in
    kinds-changed list key m kinds items some
    ∙ ap (λ i. changed key (replaced_if (array i) kinds) m) items_are
    ∙ ap (λ k. changed key (replaced_if (array (mended_items list (items_view vs))) k) m) are
    ∙ ap (λ c. changed key c m) (sym list_is)
    ∙ ap (λ o. changed key (option_and_then (list_change list) o) m) here

-- entries that were mended one by one
pub items-mended : (list : Entries) (vs ws : List Value) → map view ws ≡ flat_map (mended_entry list) (map view vs) → items_view ws ≡ mended_items list (items_view vs)
items-mended list vs ws e = ap items_of e ∙ ap (λ ds. items_of (flat_map (mended_entry list) ds)) (sym (entries-items_view vs))

pub view-Null : view Null ≡ null
view-Null = search (rules, the_lemmas)

-- members and what was mended in them
abbrev pub mended_of : Members → List MendKind → MendedMembers
mended_of ms kinds = record { members = ms; kinds = kinds }

-- what a value is if a call succeeds
pub on_ok_if : {A T E : Type 0} (r : Result T E) (x a b : A) → x ≡ cond (is_ok r) a b → OnOk r (x ≡ a)
on_ok_if (Ok y) x a b e = e
on_ok_if (Err fault) x a b e = tt
