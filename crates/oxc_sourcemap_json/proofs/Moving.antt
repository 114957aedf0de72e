-- Members that are moved out of an object, and lists that are moved item by item.
use Rattle.std.proofs.Common.{◌≡◌, ℕ, List, [], ◌∷◌, ◌++◌, length, option_map, Option, Some, None}
use Rattle.std.proofs.Common.{cond, Bool, true, false, bytes_eq, string_bytes, nat_cmp, is_eq, refl}
use Rattle.std.proofs.Common.{sym, ap, ◌∙◌, append_assoc, append-nil, true≢false, arith, ◌+◌}
use Rattle.std.proofs.Common.{add-zero, is_some}
use Rattle.std.proofs.lemmas.Map.Text.{is_eq-slice_cmp}
use Rattle.std.proofs.lemmas.Slice.Eq.{bytes_eq-Decides}
use Rattle.std.specs.Cmp.Lexicographic.{slice_cmp}
use Rattle.std.specs.Ordering.{match_ordering}
use Rattle.std.specs.Map.{remove_entry}
use Rattle.std.specs.BTreeMap.{is_at}
use Rattle.serde_json.specs.Data.{Data}
use Rattle.serde_json.specs.Find.{get_member}
use Rattle.serde_json.specs.View.{view, items_view, members_view}
use Rattle.serde_json.specs.declared.value.Value.{Value}
use Rattle.serde_json.proofs.Views.{member_later, Entry}
use Rattle.oxc_sourcemap_json.specs.Shape.{all_items, onto_read}
use Rattle.oxc_sourcemap_json.specs.ShapeSpots.{first_failing}

unlike : (other name key : List ℕ) → bytes_eq other name ≡ false → is_eq (slice_cmp nat_cmp name key) ≡ true → other ≡ key → ⊥
unlike other name key apart here same =
    let named : name ≡ key = (bytes_eq-Decides name key).0 (sym (is_eq-slice_cmp name key) ∙ here) in
    true≢false (sym ((bytes_eq-Decides other name).1 (same ∙ sym named)) ∙ apart)

removed_at : (b : Bool) (other name : List ℕ) (e : Entry) (es rest : List Entry) → bytes_eq other name ≡ false → is_eq (slice_cmp nat_cmp name (string_bytes e.0)) ≡ b
    → get_member other (members_view rest) ≡ get_member other (members_view es)
    → get_member other (members_view (cond b es (e ∷ rest))) ≡ get_member other (members_view (e ∷ es))
removed_at true other name e es rest apart here later = sym (member_later other e es (unlike other name (string_bytes e.0) apart here))
removed_at false other name e es rest apart here later = ap (λ r. match_ordering (slice_cmp nat_cmp other (string_bytes e.0)) r (Some (view e.1)) r) later

-- an object without the entry of one name has the same members of other names
pub others_stay : (other name : List ℕ) (es : List Entry) → bytes_eq other name ≡ false
    → get_member other (members_view (remove_entry (is_at (λ k. slice_cmp nat_cmp name (string_bytes k))) es)) ≡ get_member other (members_view es)
others_stay other name [] apart = refl
others_stay other name (e ∷ es) apart = removed_at _ other name e es _ apart refl (others_stay other name es apart)

-- the items read so far, and then what is read of those that are left, are all items
abbrev pub AreAll : {A : Type 0} → (Data → Option A) → List Value → List A → List Value → Type 0
AreAll read all done left = all_items read (items_view all) ≡ option_map (λ rest. done ++ rest) (all_items read (items_view left))

before_all : {A : Type 0} (o : Option (List A)) → o ≡ option_map (λ rest. [] ++ rest) o
before_all None = refl
before_all (Some xs) = refl

-- at first all items are left
pub all_left : {A : Type 0} (read : Data → Option A) (all : List Value) → AreAll read all [] all
all_left read all = before_all (all_items read (items_view all))

-- once none are left, all items were read
pub none_left : {A : Type 0} (read : Data → Option A) (all : List Value) (done : List A) (left : List Value) → length left ≡ 0
    → AreAll read all done left → all_items read (items_view all) ≡ Some done
none_left read all done [] empty h = h ∙ ap Some (append-nil done)
none_left read all done (v ∷ left) empty h = absurd (omega arith)

moved_on : {A : Type 0} (done : List A) (x : A) (o : Option (List A))
    → option_map (λ rest. done ++ rest) (onto_read (Some x) o) ≡ option_map (λ rest. (done ++ x ∷ []) ++ rest) o
moved_on done x None = refl
moved_on done x (Some rest) = ap Some (sym (append_assoc done (x ∷ []) rest))

-- one step, if the next item can be read
pub next_read : {A : Type 0} (read : Data → Option A) (all : List Value) (done : List A) (left : List Value) (v : Value) (x : A) (more : List Value)
    → left ≡ v ∷ more → read (view v) ≡ Some x → AreAll read all done left → AreAll read all (done ++ x ∷ []) more
next_read read all done left v x more is here h =
    h ∙ ap (λ l. option_map (λ rest. done ++ rest) (all_items read (items_view l))) is
    ∙ ap (λ r. option_map (λ rest. done ++ rest) (onto_read r (all_items read (items_view more)))) here
    ∙ moved_on done x (all_items read (items_view more))

-- one step, if the next item cannot be read: nor can the list
pub next_bad : {A : Type 0} (read : Data → Option A) (all : List Value) (done : List A) (left : List Value) (v : Value) (more : List Value)
    → left ≡ v ∷ more → read (view v) ≡ None → AreAll read all done left → all_items read (items_view all) ≡ None
next_bad read all done left v more is here h =
    h ∙ ap (λ l. option_map (λ rest. done ++ rest) (all_items read (items_view l))) is
    ∙ ap (λ r. option_map (λ rest. done ++ rest) (onto_read r (all_items read (items_view more)))) here

-- ---- the first item that cannot be read

-- it is not among the first so many items, but is the first one of those that are left
abbrev pub IsLeft : {A : Type 0} → (Data → Option A) → List Value → ℕ → List Value → Type 0
IsLeft read all n left =
    first_failing (λ d. is_some (read d)) (items_view all) ≡ option_map (λ i. i + n) (first_failing (λ d. is_some (read d)) (items_view left))

at_once : (o : Option ℕ) → o ≡ option_map (λ i. i + 0) o
at_once None = refl
at_once (Some i) = ap Some (sym (add-zero i))

pub first_left : {A : Type 0} (read : Data → Option A) (all : List Value) → IsLeft read all 0 all
first_left read all = at_once (first_failing (λ d. is_some (read d)) (items_view all))

one_later : (n m : ℕ) (o : Option ℕ) → m ≡ n + 1 → option_map (λ i. i + n) (option_map (λ i. i + 1) o) ≡ option_map (λ i. i + m) o
one_later n m None is = refl
one_later n m (Some i) is = ap Some (omega (arith, is))

-- past an item that can be read
pub left_next : {A : Type 0} (read : Data → Option A) (all : List Value) (n m : ℕ) (left : List Value) (v : Value) (x : A) (more : List Value)
    → left ≡ v ∷ more → read (view v) ≡ Some x → m ≡ n + 1 → IsLeft read all n left → IsLeft read all m more
left_next read all n m left v x more is here next h =
    h ∙ ap (λ l. option_map (λ i. i + n) (first_failing (λ d. is_some (read d)) (items_view l))) is
    ∙ ap (λ r. option_map (λ i. i + n) (cond (is_some r) (option_map (λ i. i + 1) (first_failing (λ d. is_some (read d)) (items_view more))) (Some 0))) here
    ∙ one_later n m (first_failing (λ d. is_some (read d)) (items_view more)) next

-- at an item that cannot
pub left_bad : {A : Type 0} (read : Data → Option A) (all : List Value) (n : ℕ) (left : List Value) (v : Value) (more : List Value)
    → left ≡ v ∷ more → read (view v) ≡ None → IsLeft read all n left → first_failing (λ d. is_some (read d)) (items_view all) ≡ Some n
left_bad read all n left v more is here h =
    h ∙ ap (λ l. option_map (λ i. i + n) (first_failing (λ d. is_some (read d)) (items_view l))) is
    ∙ ap (λ r. option_map (λ i. i + n) (cond (is_some r) (option_map (λ i. i + 1) (first_failing (λ d. is_some (read d)) (items_view more))) (Some 0))) here
    ∙ ap Some (omega arith)
