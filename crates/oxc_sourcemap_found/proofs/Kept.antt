-- In the object of a map that the exact reader reads, nothing is mended.
use Rattle.std.proofs.Common.{◌≡◌, ℕ, suc, ◌+◌, true, false, cond, not, nat_lt, List, [], ◌∷◌}
use Rattle.std.proofs.Common.{length, codes, refl, ap, ◌∙◌, inl, inr, arith, Option, Some, None}
use Rattle.std.proofs.Common.{Result, Ok, Err}
use Rattle.std.proofs.lemmas.Bool.{cases_lt}
use Rattle.std.proofs.lemmas.Bool.Decides.{nat_tests}
use Rattle.std.specs.Option.{is_some, option_and_then, option_map_or}
use Rattle.serde_json.specs.Data.{unsigned, negative, float, Data, null, boolean, number, string}
use Rattle.serde_json.specs.Data.{array, object, Items, no_items, item, Members}
use Rattle.serde_json.specs.Find.{get_member, as_str, as_array}
use Rattle.oxc_sourcemap_tokens.specs.declared.errors.error.Error.{Error}
use Rattle.oxc_sourcemap_tokens.specs.declared.errors.error.Field.{Field}
use Rattle.oxc_sourcemap_tokens.specs.declared.errors.error.Field.TheVariants.{Version as VersionField}
use Rattle.oxc_sourcemap_tokens.specs.declared.errors.error.Field.TheVariants.{Sources as SourcesField}
use Rattle.oxc_sourcemap_tokens.specs.declared.errors.error.Field.TheVariants.{Names}
use Rattle.oxc_sourcemap_tokens.specs.declared.errors.error.Field.TheVariants.{SourcesContent}
use Rattle.oxc_sourcemap_tokens.specs.declared.errors.error.Field.TheVariants.{IgnoreList}
use Rattle.oxc_sourcemap_tokens.specs.declared.errors.error.Field.TheVariants.{GoogleIgnoreList}
use Rattle.oxc_sourcemap_tokens.specs.declared.errors.error.Field.TheVariants.{File, Mappings}
use Rattle.oxc_sourcemap_tokens.specs.declared.errors.error.Field.TheVariants.{SourceRoot, DebugId}
use Rattle.oxc_sourcemap_json.specs.JsonRecord.{JsonRecord}
use Rattle.oxc_sourcemap_json.specs.Shape.{◌>>=◌, or_misshapen, present, optional, onto_read}
use Rattle.oxc_sourcemap_json.specs.Shape.{all_items, as_list, as_content, as_id, texts_in}
use Rattle.oxc_sourcemap_json.specs.Shape.{contents_in, ids_in, required, version_of, names_of}
use Rattle.oxc_sourcemap_json.specs.Shape.{ignore_list_of, shape, text_in, version_three}
use Rattle.oxc_sourcemap_found.specs.declared.mending.members.Entries.{Entries}
use Rattle.oxc_sourcemap_found.specs.declared.mending.members.Entries.TheVariants.{Sources}
use Rattle.oxc_sourcemap_found.specs.declared.mending.members.Entries.TheVariants.{Contents, Ids}
use Rattle.oxc_sourcemap_found.specs.declared.mending.members.Entries.TheVariants.{GoogleIds}
use Rattle.oxc_sourcemap_found.specs.Mended.{is_null, is_other_three, version_change, names_change}
use Rattle.oxc_sourcemap_found.specs.Mended.{entries, is_id_of, may_stay, kinds_from, list_change}
use Rattle.oxc_sourcemap_found.specs.Mended.{sources_change, list_or_null_change}
use Rattle.oxc_sourcemap_found.specs.Mended.{optional_list_change, changed, as_found, with_version}
use Rattle.oxc_sourcemap_found.specs.Mended.{with_sources, with_contents, with_names, source_count}
use Rattle.oxc_sourcemap_found.specs.Mended.{with_ignore_list, with_google_ignore_list}
use Rattle.oxc_sourcemap_found.specs.Mended.{mended_members}
use Rattle.oxc_sourcemap_json.specs.Decoded.{first_not_below}

-- ---- steps that were taken

pub record Step {A B : Type 0} (x : Result A Error) (f : A → Result B Error) (b : B) : Type 0 where
  pub value : A
  pub first : x ≡ Ok value
  pub later : f value ≡ Ok b

pub step : {A B : Type 0} (x : Result A Error) (f : A → Result B Error) (b : B) → (x >>= f) ≡ Ok b → Step x f b
step (Ok a) f b e = record { value = a; first = refl; later = e }
step (Err fault) f b e = cc

abbrev fine : {A : Type 0} → A → Result A Error
fine x = Ok x

same-ok : {A : Type 0} (x y : A) → fine x ≡ fine y → x ≡ y
same-ok x y e = cc

some-of : {A : Type 0} (field : Field) (o : Option A) (x : A) → or_misshapen field o ≡ Ok x → o ≡ Some x
some-of field None x e = cc
some-of field (Some y) x e = cc

-- ---- lists that are read

record Listed {A : Type 0} (read : Data → Option A) (d : Data) (xs : List A) : Type 0 where
  items : Items
  is : as_array d ≡ Some items
  all : all_items read items ≡ Some xs

listed : {A : Type 0} (read : Data → Option A) (d : Data) (xs : List A) → as_list read d ≡ Some xs → Listed read d xs
listed read null xs e = cc
listed read (boolean b) xs e = cc
listed read (number n) xs e = cc
listed read (string s) xs e = cc
listed read (array ds) xs e = record { items = ds; is = refl; all = e }
listed read (object ms) xs e = cc

record First {A : Type 0} (o : Option A) (r : Option (List A)) (xs : List A) : Type 0 where
  item : A
  rest : List A
  here : o ≡ Some item
  more : r ≡ Some rest
  is : item ∷ rest ≡ xs

first_of_read : {A : Type 0} (o : Option A) (r : Option (List A)) (xs : List A) → onto_read o r ≡ Some xs → First o r xs
first_of_read None r xs e = cc
first_of_read (Some x) None xs e = cc
first_of_read (Some x) (Some rest) xs e = record { item = x; rest = rest; here = refl; more = refl; is = cc }

all-stay : {A : Type 0} (list : Entries) (read : Data → Option A) (k : ℕ) (items : Items) (xs : List A)
    → ((d : Data) (x : A) → read d ≡ Some x → may_stay list d ≡ true) → all_items read items ≡ Some xs → kinds_from list k (entries items) ≡ []
all-stay list read k no_items xs may e = refl
all-stay list read k (item d ds) xs may e =
    let f = first_of_read (read d) (all_items read ds) xs e in
    let here = may d f.item f.here in
    rw here (all-stay list read (k + 1) ds f.rest may f.more)

count-read : {A : Type 0} (read : Data → Option A) (items : Items) (xs : List A) → all_items read items ≡ Some xs → length (entries items) ≡ length xs
count-read read no_items xs e = let h : [] ≡ xs = cc in ap length h
count-read read (item d ds) xs e =
    let f = first_of_read (read d) (all_items read ds) xs e in
    let later = count-read read ds f.rest f.more in
    ap (λ n. suc n) later ∙ ap length f.is

list-kept : {A : Type 0} (list : Entries) (read : Data → Option A) (items : Items) (xs : List A)
    → ((d : Data) (x : A) → read d ≡ Some x → may_stay list d ≡ true) → all_items read items ≡ Some xs → list_change list items ≡ None
list-kept list read items xs may e = let none = all-stay list read 0 items xs may e in rw none refl

-- ---- members that are read

text-stays : (d : Data) (x : List ℕ) → as_str d ≡ Some x → not (is_null d) ≡ true
text-stays null x e = cc
text-stays (boolean b) x e = refl
text-stays (number n) x e = refl
text-stays (string s) x e = refl
text-stays (array ds) x e = refl
text-stays (object ms) x e = refl

content-stays : (d : Data) (x : Option (List ℕ)) → as_content d ≡ Some x → is_some (as_content d) ≡ true
content-stays d x e = ap is_some e

not-three : (d : Data) (n : ℕ) → as_id d ≡ Some n → is_other_three d ≡ false
not-three null n e = refl
not-three (boolean b) n e = refl
not-three (number (unsigned m)) n e = refl
not-three (number (negative z)) n e = refl
not-three (number (float x)) n e = cc
not-three (string s) n e = cc
not-three (array ds) n e = refl
not-three (object ms) n e = refl

pub version-kept : (o : Option Data) (n : ℕ) → version_of o ≡ Ok n → version_change o ≡ None
version-kept None n e = refl
version-kept (Some d) n e =
    let s = step (or_misshapen VersionField (as_id d)) version_three n e in
    let t = not-three d s.value (some-of VersionField (as_id d) s.value s.first) in
    rw t refl

record SourcesKept (o : Option Data) (xs : List (List ℕ)) : Type 0 where
  change : sources_change o ≡ None
  count : option_map_or (λ items. length (entries items)) (option_and_then as_array o) 0 ≡ length xs

sources-kept : (o : Option Data) (xs : List (List ℕ)) → required SourcesField (texts_in SourcesField) o ≡ Ok xs → SourcesKept o xs
sources-kept None xs e = cc
sources-kept (Some d) xs e =
    let l = listed as_str d xs (some-of SourcesField (as_list as_str d) xs e) in
    record {
      change = rw l.is (list-kept Sources as_str l.items xs text-stays l.all);
      count = rw l.is (count-read as_str l.items xs l.all);
    }

-- a list that may be missing
contents-kept : (o : Option Data) (c : Option (List (Option (List ℕ)))) → optional (contents_in SourcesContent) o ≡ Ok c
    → option_and_then (λ d. list_or_null_change Contents (as_array d)) o ≡ None
contents-kept None c e = refl
contents-kept (Some d) c e =
    let s = step (contents_in SourcesContent d) (λ x. Ok (Some x)) c e in
    let l = listed as_content d s.value (some-of SourcesContent (as_list as_content d) s.value s.first) in
    rw l.is (list-kept Contents as_content l.items s.value content-stays l.all)

list-not-null : (d : Data) (items : Items) → as_array d ≡ Some items → is_null d ≡ false
list-not-null null items e = cc
list-not-null (boolean b) items e = refl
list-not-null (number n) items e = refl
list-not-null (string s) items e = refl
list-not-null (array ds) items e = refl
list-not-null (object ms) items e = refl

names-kept : (o : Option Data) (xs : List (List ℕ)) → names_of o ≡ Ok xs → names_change o ≡ None
names-kept None xs e = refl
names-kept (Some d) xs e =
    let l = listed as_str d xs (some-of Names (as_list as_str d) xs e) in
    let t = list-not-null d l.items l.is in
    rw t refl

-- ids that are below a count stay
ids-stay : (list : Entries) (count k : ℕ) (items : Items) (ids : List ℕ) → ((d : Data) → may_stay list d ≡ is_id_of count d)
    → all_items as_id items ≡ Some ids → first_not_below count ids ≡ None → kinds_from list k (entries items) ≡ []
ids-stay list count k no_items ids is e below = refl
ids-stay list count k (item d ds) ids is e below =
    let f = first_of_read (as_id d) (all_items as_id ds) ids e in
    let low : cond (nat_lt f.item count) (first_not_below count f.rest) (Some f.item) ≡ None = ap (first_not_below count) f.is ∙ below in
    elim (cases_lt f.item count) [
      | inl l ↦ (
          let t : nat_lt f.item count ≡ true = grind (arith, nat_tests) in
          let here : may_stay list d ≡ true = is d ∙ ap (λ o. option_map_or (λ id. nat_lt id count) o false) f.here ∙ t in
          rw here (ids-stay list count (k + 1) ds f.rest is f.more (rw t at low))
          )
      | inr g ↦ (let t : nat_lt f.item count ≡ false = grind (arith, nat_tests) in let h = rw t at low in cc)
    ]

ids-kept : (list : Entries) (count : ℕ) (field : Field) (d : Data) (ids : List ℕ) → ((d : Data) → may_stay list d ≡ is_id_of count d)
    → ids_in field d ≡ Ok ids → first_not_below count ids ≡ None → list_or_null_change list (as_array d) ≡ None
ids-kept list count field d ids is e below =
    let l = listed as_id d ids (some-of field (as_list as_id d) ids e) in
    let none = ids-stay list count 0 l.items ids is l.all below in
    rw (l.is, none) refl

-- what is known of an ignore list whose entries are below the number of sources
record IgnoreListKept (count : ℕ) (o p : Option Data) : Type 0 where
  newer : option_and_then (λ d. list_or_null_change (Ids count) (as_array d)) o ≡ None
  older : o ≡ None → option_and_then (λ d. list_or_null_change (GoogleIds count) (as_array d)) p ≡ None

ignore_list-kept : (count : ℕ) (o p : Option Data) (list : Option (List ℕ)) → ignore_list_of o p ≡ Ok list → option_map_or (first_not_below count) list None ≡ None → IgnoreListKept count o p
ignore_list-kept count (Some d) p list e below =
    let s = step (ids_in IgnoreList d) (λ ids. Ok (Some ids)) list e in
    let h = same-ok (Some s.value) list s.later in
    let low : first_not_below count s.value ≡ None = ap (λ l. option_map_or (first_not_below count) l None) h ∙ below in
    record { newer = ids-kept (Ids count) count IgnoreList d s.value (λ d. refl) s.first low; older = λ n. cc }
ignore_list-kept count None None list e below = record { newer = refl; older = λ n. refl }
ignore_list-kept count None (Some d) list e below =
    let s = step (ids_in GoogleIgnoreList d) (λ x. Ok (Some x)) list e in
    let h = same-ok (Some s.value) list s.later in
    let low : first_not_below count s.value ≡ None = ap (λ l. option_map_or (first_not_below count) l None) h ∙ below in
    record { newer = refl; older = λ n. ids-kept (GoogleIds count) count GoogleIgnoreList d s.value (λ d. refl) s.first low }

-- ---- the object

-- what is known of an object with the fields of a map
record Shaped (ms : Members) (j : JsonRecord) : Type 0 where
  version : version_change (get_member (codes "version") ms) ≡ None
  sources : SourcesKept (get_member (codes "sources") ms) j.sources
  contents : option_and_then (λ d. list_or_null_change Contents (as_array d)) (present (get_member (codes "sourcesContent") ms)) ≡ None
  names : names_change (get_member (codes "names") ms) ≡ None
  ignore_list : ignore_list_of (present (get_member (codes "ignoreList") ms)) (present (get_member (codes "x_google_ignoreList") ms)) ≡ Ok j.ignore_list

-- the results of the steps of a shape that was read
record Walked (v : Result ℕ Error) (s : Result (List (List ℕ)) Error) (c : Result (Option (List (Option (List ℕ)))) Error) (n : Result (List (List ℕ)) Error)
    (i : Result (Option (List ℕ)) Error) (j : JsonRecord) : Type 0 where
  version : ℕ
  version_is : v ≡ Ok version
  sources_is : s ≡ Ok j.sources
  contents : Option (List (Option (List ℕ)))
  contents_is : c ≡ Ok contents
  names : List (List ℕ)
  names_is : n ≡ Ok names
  ids_is : i ≡ Ok j.ignore_list

abbrev made : ℕ → Option (List ℕ) → List ℕ → Option (List ℕ) → List (List ℕ) → Option (List (Option (List ℕ))) → List (List ℕ) → Option (List ℕ) → Option (List ℕ) → JsonRecord
made version file mappings source_root sources contents names debug_id ignore_list = record {
  version = version;
  file = file;
  mappings = mappings;
  source_root = source_root;
  sources = sources;
  sources_content = contents;
  names = names;
  debug_id = debug_id;
  ignore_list = ignore_list;
}

walked : (v : Result ℕ Error) (f : Result (Option (List ℕ)) Error) (m : Result (List ℕ) Error) (r : Result (Option (List ℕ)) Error) (s : Result (List (List ℕ)) Error)
    (c : Result (Option (List (Option (List ℕ)))) Error) (n : Result (List (List ℕ)) Error) (d : Result (Option (List ℕ)) Error) (i : Result (Option (List ℕ)) Error) (j : JsonRecord)
    → (v >>= (λ version. f >>= (λ file. m >>= (λ mappings. r >>= (λ source_root. s >>= (λ sources. c >>= (λ contents. n >>= (λ names. d >>= (λ debug_id. i >>= (λ ignore_list.
    fine (made version file mappings source_root sources contents names debug_id ignore_list))))))))))) ≡ fine j → Walked v s c n i j
walked (Err x) f m r s c n d i j e = cc
walked (Ok v) (Err x) m r s c n d i j e = cc
walked (Ok v) (Ok f) (Err x) r s c n d i j e = cc
walked (Ok v) (Ok f) (Ok m) (Err x) s c n d i j e = cc
walked (Ok v) (Ok f) (Ok m) (Ok r) (Err x) c n d i j e = cc
walked (Ok v) (Ok f) (Ok m) (Ok r) (Ok s) (Err x) n d i j e = cc
walked (Ok v) (Ok f) (Ok m) (Ok r) (Ok s) (Ok c) (Err x) d i j e = cc
walked (Ok v) (Ok f) (Ok m) (Ok r) (Ok s) (Ok c) (Ok n) (Err x) i j e = cc
walked (Ok v) (Ok f) (Ok m) (Ok r) (Ok s) (Ok c) (Ok n) (Ok d) (Err x) j e = cc
walked (Ok v) (Ok f) (Ok m) (Ok r) (Ok s) (Ok c) (Ok n) (Ok d) (Ok i) j e =
    let is = same-ok (made v f m r s c n d i) j e in
    record {
      version = v;
      version_is = refl;
      sources_is = ap (λ (q : JsonRecord). fine q.sources) is;
      contents = c;
      contents_is = refl;
      names = n;
      names_is = refl;
      ids_is = ap (λ (q : JsonRecord). fine q.ignore_list) is;
    }

shaped : (ms : Members) (j : JsonRecord) → shape (object ms) ≡ Ok j → Shaped ms j
unfolding shape
shaped ms j e =
    let w = walked (version_of (get_member (codes "version") ms)) (optional (text_in File) (present (get_member (codes "file") ms)))
    (required Mappings (text_in Mappings) (get_member (codes "mappings") ms)) (optional (text_in SourceRoot) (present (get_member (codes "sourceRoot") ms)))
    (required SourcesField (texts_in SourcesField) (get_member (codes "sources") ms))
    (optional (contents_in SourcesContent) (present (get_member (codes "sourcesContent") ms))) (names_of (get_member (codes "names") ms))
    (optional (text_in DebugId) (present (get_member (codes "debugId") ms)))
    (ignore_list_of (present (get_member (codes "ignoreList") ms)) (present (get_member (codes "x_google_ignoreList") ms))) j e in
    record {
      version = version-kept (get_member (codes "version") ms) w.version w.version_is;
      sources = sources-kept (get_member (codes "sources") ms) j.sources w.sources_is;
      contents = contents-kept (present (get_member (codes "sourcesContent") ms)) w.contents w.contents_is;
      names = names-kept (get_member (codes "names") ms) w.names w.names_is;
      ignore_list = w.ids_is;
    }

-- an object none of whose members changes is mended as it is
pub nothing-mended : (ms : Members) → version_change (get_member (codes "version") ms) ≡ None → sources_change (get_member (codes "sources") ms) ≡ None
    → optional_list_change Contents (get_member (codes "sourcesContent") ms) ≡ None → names_change (get_member (codes "names") ms) ≡ None
    → optional_list_change (Ids (source_count ms)) (get_member (codes "ignoreList") ms) ≡ None → with_google_ignore_list (as_found ms) ≡ as_found ms
    → mended_members ms ≡ as_found ms
nothing-mended ms v s c n i google =
    let version : with_version (as_found ms) ≡ as_found ms = ap (λ c. changed (codes "version") c (as_found ms)) v in
    let sources : with_sources (as_found ms) ≡ as_found ms = ap (λ c. changed (codes "sources") c (as_found ms)) s in
    let contents : with_contents (as_found ms) ≡ as_found ms = ap (λ c. changed (codes "sourcesContent") c (as_found ms)) c in
    let names : with_names (as_found ms) ≡ as_found ms = ap (λ c. changed (codes "names") c (as_found ms)) n in
    let ids : with_ignore_list (as_found ms) ≡ as_found ms = ap (λ c. changed (codes "ignoreList") c (as_found ms)) i in
    ap (λ m. with_google_ignore_list (with_ignore_list (with_names (with_contents (with_sources m))))) version
    ∙ ap (λ m. with_google_ignore_list (with_ignore_list (with_names (with_contents m)))) sources
    ∙ ap (λ m. with_google_ignore_list (with_ignore_list (with_names m))) contents
    ∙ ap (λ m. with_google_ignore_list (with_ignore_list m)) names ∙ ap with_google_ignore_list ids ∙ google

google-kept : (ms : Members) (o p : Option Data) (count : ℕ) → IgnoreListKept count o p
    → cond (is_some o) (as_found ms) (changed (codes "x_google_ignoreList") (option_and_then (λ d. list_or_null_change (GoogleIds count) (as_array d)) p) (as_found ms)) ≡ as_found ms
google-kept ms None p count k = let h = k.older refl in rw h refl
google-kept ms (Some d) p count k = refl

-- Nothing is mended in an object that has the fields of a map, if its ignore list is in range.
pub members-kept : (ms : Members) (j : JsonRecord) → shape (object ms) ≡ Ok j → option_map_or (first_not_below (length j.sources)) j.ignore_list None ≡ None
    → mended_members ms ≡ as_found ms
members-kept ms j e below =
    let s = shaped ms j e in
    let k = ignore_list-kept (length j.sources) (present (get_member (codes "ignoreList") ms)) (present (get_member (codes "x_google_ignoreList") ms)) j.ignore_list s.ignore_list below in
    let ids : optional_list_change (Ids (source_count ms)) (get_member (codes "ignoreList") ms) ≡ None =
    ap (λ n. optional_list_change (Ids n) (get_member (codes "ignoreList") ms)) s.sources.count ∙ k.newer in
    let google : with_google_ignore_list (as_found ms) ≡ as_found ms =
    ap (λ n. cond (is_some (present (get_member (codes "ignoreList") ms))) (as_found ms) (changed (codes "x_google_ignoreList") (optional_list_change (GoogleIds n) (get_member (codes "x_google_ignoreList") ms)) (as_found ms))) s.sources.count
    ∙ google-kept ms (present (get_member (codes "ignoreList") ms)) (present (get_member (codes "x_google_ignoreList") ms)) (length j.sources) k in
    nothing-mended ms s.version s.sources.change s.contents s.names ids google
