-- The places of faults of maps by themselves, by what is read of them.
use Rattle.std.proofs.Common.{◌≡◌, ◌+◌, ◌<◌, ◌≤◌, ℕ, suc, Bool, true, false, true≢false, cond}
use Rattle.std.proofs.Common.{nat_lt, nat_le, position, List, [], ◌∷◌, length, get_or, refl, ap}
use Rattle.std.proofs.Common.{sym, ◌∙◌, arith, Option, Some, None, option_map, Result, Ok, Err}
use Rattle.std.proofs.Common.{codes, is_some, subst}
use Rattle.std.specs.Option.{option_and_then, option_or}
use Rattle.std.specs.List.{position_or_len}
use Rattle.std.proofs.lemmas.Bool.Decides.{nat_tests}
use Rattle.serde_json.specs.Data.{Data}
use Rattle.serde_json.specs.Find.{get, as_object}
use Rattle.serde_json.specs.Read.{read}
use Rattle.oxc_sourcemap_tokens.specs.declared.errors.error.Error.{Error}
use Rattle.oxc_sourcemap_tokens.specs.declared.errors.fault.Fault.{Fault}
use Rattle.oxc_sourcemap_tokens.specs.declared.errors.error.Field.{Field}
use Rattle.oxc_sourcemap_tokens.specs.declared.errors.error.Field.TheVariants.{Version as VersionField}
use Rattle.oxc_sourcemap_tokens.specs.declared.errors.error.Field.TheVariants.{Object, File}
use Rattle.oxc_sourcemap_tokens.specs.declared.errors.error.Field.TheVariants.{Mappings, SourceRoot}
use Rattle.oxc_sourcemap_tokens.specs.declared.errors.error.Field.TheVariants.{Sources}
use Rattle.oxc_sourcemap_tokens.specs.declared.errors.error.Field.TheVariants.{SourcesContent}
use Rattle.oxc_sourcemap_tokens.specs.declared.errors.error.Field.TheVariants.{DebugId}
use Rattle.oxc_sourcemap_tokens.specs.declared.errors.fault.FaultPlace.{FaultPlace}
use Rattle.oxc_sourcemap_tokens.specs.declared.errors.fault.FaultSpot.{FaultSpot}
use Rattle.oxc_sourcemap_tokens.specs.declared.errors.fault.FaultSpot.TheVariants.{Segment, Entry}
use Rattle.oxc_sourcemap_tokens.specs.declared.errors.fault.SegmentPlace.{SegmentPlace}
use Rattle.oxc_sourcemap_tokens.specs.Places.{place_in, placed_in, Locates}
use Rattle.oxc_sourcemap_mappings.specs.SegmentPlaces.{fault_place, mappings_place}
use Rattle.oxc_sourcemap_parts.specs.Record.{Text}
use Rattle.oxc_sourcemap_json.specs.JsonRecord.{JsonRecord}
use Rattle.oxc_sourcemap_json.specs.Shape.{◌>>=◌, shape, version_three, version_of, as_id, present}
use Rattle.oxc_sourcemap_json.specs.Shape.{or_misshapen, optional, required, text_in, texts_in}
use Rattle.oxc_sourcemap_json.specs.Shape.{contents_in, names_of, ignore_list_of}
use Rattle.oxc_sourcemap_json.specs.Decoded.{first_not_below}
use Rattle.oxc_sourcemap_json.specs.ShapeSpots.{ignored_field}
use Rattle.oxc_sourcemap_json.specs.Usual.{IsJsonOf}
use Rattle.oxc_sourcemap_json.specs.ValuePlaces.{place_at, ignored_spot, mappings_spot, fields_spot}
use Rattle.oxc_sourcemap_json.specs.ValuePlaces.{spot_in, value_spot, indexed_place, value_place}
use Rattle.oxc_sourcemap_json.specs.ValuePlaces.{LocatesIn}

-- ---- the ignore list

-- the first id that is not below a count is at the first index of such ids
pub first-at : (count : ℕ) (ids : List ℕ) (i : ℕ) → position_or_len (λ id. nat_le count id) ids ≡ i → i < length ids → first_not_below count ids ≡ Some (get_or ids i 0)
first-at count [] i is less = absurd (omega arith)
first-at count (id ∷ ids) i is less =
    elim (nat_lt id count) as (λ b. nat_lt id count ≡ b → cond b (first_not_below count ids) (Some id) ≡ Some (get_or (id ∷ ids) i 0)) [
      | true ↦ (λ e.
          let high : nat_le count id ≡ false = grind (arith, nat_tests) in
          let raw : 1 + position_or_len (λ id. nat_le count id) ids ≡ i = rw high at is in
          let next : suc (position_or_len (λ id. nat_le count id) ids) ≡ i = omega (arith, raw) in
          first-at count ids (position_or_len (λ id. nat_le count id) ids) refl (omega (arith, next, less)) ∙ ap (λ n. Some (get_or (id ∷ ids) n 0)) next)
      | false ↦ (λ e.
          let high : nat_le count id ≡ true = grind (arith, nat_tests) in
          let here : 0 ≡ i = rw high at is in
          ap (λ n. Some (get_or (id ∷ ids) n 0)) here)
    ] refl

-- and there is none if there is no such index
pub none-past : (count : ℕ) (ids : List ℕ) → length ids ≤ position_or_len (λ id. nat_le count id) ids → first_not_below count ids ≡ None
none-past count [] none = refl
none-past count (id ∷ ids) none =
    elim (nat_lt id count) as (λ b. nat_lt id count ≡ b → cond b (first_not_below count ids) (Some id) ≡ None) [
      | true ↦ (λ e.
          let high : nat_le count id ≡ false = grind (arith, nat_tests) in
          let more : length (id ∷ ids) ≤ 1 + position_or_len (λ id. nat_le count id) ids = rw high at none in
          none-past count ids (omega (arith, more)))
      | false ↦ (λ e.
          let high : nat_le count id ≡ true = grind (arith, nat_tests) in
          let zero : length (id ∷ ids) ≤ 0 = rw high at none in
          absurd (omega (arith, zero)))
    ] refl

past-by : (count : ℕ) (ids : List ℕ) (i k : ℕ) (b : Bool) → position_or_len (λ id. nat_le count id) ids ≡ k → nat_lt k (length ids) ≡ b → cond b (Some k) None ≡ Some i
    → first_not_below count ids ≡ Some (get_or ids i 0)
past-by count ids i k true at less is =
    let same : k ≡ i = cc in
    let within : k < length ids = grind (arith, nat_tests) in
    first-at count ids i (at ∙ same) (omega (arith, same, within))
past-by count ids i k false at less is = cc

pub past-some : (count : ℕ) (ids : List ℕ) (i : ℕ) → position (λ id. nat_le count id) ids ≡ Some i → first_not_below count ids ≡ Some (get_or ids i 0)
past-some count ids i is = past-by count ids i (position_or_len (λ id. nat_le count id) ids) _ refl refl is

past-none-by : (count : ℕ) (ids : List ℕ) (k : ℕ) (b : Bool) → position_or_len (λ id. nat_le count id) ids ≡ k → nat_lt k (length ids) ≡ b → option_map (λ (n : ℕ). n) (cond b (Some k) None) ≡ None
    → first_not_below count ids ≡ None
past-none-by count ids k true at less is = cc
past-none-by count ids k false at less is =
    let beyond : length ids ≤ k = grind (arith, nat_tests) in
    none-past count ids (omega (arith, at, beyond))

pub past-none : (count : ℕ) (ids : List ℕ) → position (λ id. nat_le count id) ids ≡ None → first_not_below count ids ≡ None
past-none count ids is = past-none-by count ids (position_or_len (λ id. nat_le count id) ids) _ refl refl (ap (option_map (λ (n : ℕ). n)) is)

-- ---- the fields of a map

-- the place of the first id that is not below this count, in the list that this member is
abbrev pub entry_place : Field → ℕ → Option (List ℕ) → Option FaultPlace
entry_place ignored count ids = option_map (λ i. place_at (Entry ignored i)) (option_and_then (position (λ id. nat_le count id)) ids)

by-entry : (ignored : Field) (j : JsonRecord) (o : Option ℕ) (place : Option FaultPlace) → option_and_then (position (λ id. nat_le (length j.sources) id)) j.ignore_list ≡ o
    → place ≡ option_map (λ i. place_at (Entry ignored i)) o → is_some place ≡ true → option_map place_at (fields_spot ignored j) ≡ place
by-entry ignored j None place same is some = absurd (true≢false (sym some ∙ ap is_some is))
by-entry ignored j (Some i) place same is some =
    ap (λ o. option_map place_at (option_or (option_map (Entry ignored) o) (mappings_spot j))) same ∙ sym is

-- a map is at fault in its ignore list, if that has a fault
pub at-entry : (ignored : Field) (j : JsonRecord) (count : ℕ) (place : Option FaultPlace) → count ≡ length j.sources → place ≡ entry_place ignored count j.ignore_list
    → is_some place ≡ true → option_map place_at (fields_spot ignored j) ≡ place
at-entry ignored j count place size is some =
    by-entry ignored j _ place refl (is ∙ ap (λ n. entry_place ignored n j.ignore_list) size) some

no-spot : (ignored : Field) (o : Option ℕ) → None ≡ option_map (λ i. place_at (Entry ignored i)) o → option_map (Entry ignored) o ≡ None
no-spot ignored None is = refl
no-spot ignored (Some i) is = cc

pub no-entry : (ignored : Field) (j : JsonRecord) (count : ℕ) → count ≡ length j.sources → None ≡ entry_place ignored count j.ignore_list → ignored_spot ignored j ≡ None
no-entry ignored j count size is = no-spot ignored _ (is ∙ ap (λ n. entry_place ignored n j.ignore_list) size)

at-segment : (o : Option SegmentPlace) → option_map place_at (option_map Segment o) ≡ option_map (λ p. place_in None (Segment p)) o
at-segment None = refl
at-segment (Some p) = refl

-- a map whose ignore list has no fault is at fault in its mappings
pub at-mappings : (ignored : Field) (j : JsonRecord) → ignored_spot ignored j ≡ None
    → option_map place_at (fields_spot ignored j) ≡ mappings_place j.mappings (length j.names) (length j.sources)
at-mappings ignored j none =
    ap (λ o. option_map place_at (option_or o (mappings_spot j))) none
    ∙ at-segment (fault_place j.mappings (length j.names) (length j.sources))

-- ---- the version of a map that has the shape of one
abbrev fine : {A : Type 0} → A → Result A Error
fine x = Ok x

same-ok : {A : Type 0} (x y : A) → fine x ≡ fine y → x ≡ y
same-ok x y e = cc

is-three : (n m : ℕ) → version_three n ≡ Ok m → m ≡ 3
is-three n m e = grind (arith, nat_tests)

of-three : (x : Result ℕ Error) (m : ℕ) → (x >>= version_three) ≡ Ok m → m ≡ 3
of-three (Ok n) m e = is-three n m e
of-three (Err f) m e = cc

version-is : (o : Option Data) (m : ℕ) → version_of o ≡ Ok m → m ≡ 3
version-is None m e = cc
version-is (Some d) m e = of-three (or_misshapen VersionField (as_id d)) m e

abbrev made : ℕ → Option Text → Text → Option Text → List Text → Option (List (Option Text)) → List Text → Option Text → Option (List ℕ) → JsonRecord
made version file mappings source_root sources contents names debug_id ignore_list = record {
  version = version;
  file = file;
  mappings = mappings;
  source_root = source_root;
  sources = sources;
  sources_content = contents;
  names = names;
  debug_id = debug_id;
  ignore_list = ignore_list;
}

-- the version of a map is the one that is read
walked : (v : Result ℕ Error) (f : Result (Option Text) Error) (m : Result Text Error) (r : Result (Option Text) Error) (s : Result (List Text) Error)
    (c : Result (Option (List (Option Text))) Error) (n : Result (List Text) Error) (d : Result (Option Text) Error) (i : Result (Option (List ℕ)) Error) (j : JsonRecord)
    → (v >>= (λ version. f >>= (λ file. m >>= (λ mappings. r >>= (λ source_root. s >>= (λ sources. c >>= (λ contents. n >>= (λ names. d >>= (λ debug_id. i >>= (λ ignore_list.
    fine (made version file mappings source_root sources contents names debug_id ignore_list))))))))))) ≡ fine j → v ≡ Ok j.version
walked (Err x) f m r s c n d i j e = cc
walked (Ok v) (Err x) m r s c n d i j e = cc
walked (Ok v) (Ok f) (Err x) r s c n d i j e = cc
walked (Ok v) (Ok f) (Ok m) (Err x) s c n d i j e = cc
walked (Ok v) (Ok f) (Ok m) (Ok r) (Err x) c n d i j e = cc
walked (Ok v) (Ok f) (Ok m) (Ok r) (Ok s) (Err x) n d i j e = cc
walked (Ok v) (Ok f) (Ok m) (Ok r) (Ok s) (Ok c) (Err x) d i j e = cc
walked (Ok v) (Ok f) (Ok m) (Ok r) (Ok s) (Ok c) (Ok n) (Err x) i j e = cc
walked (Ok v) (Ok f) (Ok m) (Ok r) (Ok s) (Ok c) (Ok n) (Ok d) (Err x) j e = cc
walked (Ok v) (Ok f) (Ok m) (Ok r) (Ok s) (Ok c) (Ok n) (Ok d) (Ok i) j e =
    ap (λ (q : JsonRecord). fine q.version) (same-ok (made v f m r s c n d i) j e)

after-object : {A : Type 0} (x : Result A Error) (rest : Result JsonRecord Error) (j : JsonRecord) → (x >>= (λ _. rest)) ≡ Ok j → rest ≡ Ok j
after-object (Ok a) rest j e = e
after-object (Err f) rest j e = cc

pub shape-version : (d : Data) (j : JsonRecord) → shape d ≡ Ok j → j.version ≡ 3
unfolding shape
shape-version d j e =
    version-is (get (codes "version") d) j.version
    (walked (version_of (get (codes "version") d)) (optional (text_in File) (present (get (codes "file") d)))
    (required Mappings (text_in Mappings) (get (codes "mappings") d)) (optional (text_in SourceRoot) (present (get (codes "sourceRoot") d)))
    (required Sources (texts_in Sources) (get (codes "sources") d)) (optional (contents_in SourcesContent) (present (get (codes "sourcesContent") d)))
    (names_of (get (codes "names") d)) (optional (text_in DebugId) (present (get (codes "debugId") d)))
    (ignore_list_of (present (get (codes "ignoreList") d)) (present (get (codes "x_google_ignoreList") d))) j
    (after-object (or_misshapen Object (as_object d)) _ j e))

-- ---- the place of a section

-- a place in a map by itself, in this section
pub in-place : (k : ℕ) (o : Option FaultSpot) → option_map (placed_in k) (option_map place_at o) ≡ option_map (place_in (Some k)) o
in-place k None = refl
in-place k (Some spot) = refl

pub some-place : (k : ℕ) (o : Option FaultPlace) → is_some (option_map (placed_in k) o) ≡ is_some o
some-place k None = refl
some-place k (Some place) = refl

-- ---- the place of a text

some-data : (a b : Data) (o : Option Data) → o ≡ Some a → o ≡ Some b → a ≡ b
some-data a b o e f = cc

none-some : (o : Option Data) (a : Data) → o ≡ None → o ≡ Some a → ⊥
none-some o a e f = cc

-- a text that reads as a map by itself is at fault where its fields are
pub usual-place : (text : Text) (fields : JsonRecord) (ignored : Field) → IsJsonOf text fields ignored → (d : Data) → read text ≡ Some d
    → value_place d ≡ option_map place_at (fields_spot ignored fields)
unfolding value_place value_spot
usual-place text fields ignored is d e =
    let same : is.0 ≡ d = some-data is.0 d (read text) is.1 e in
    let alone : get (codes "sections") d ≡ None = subst (λ x. get (codes "sections") x ≡ None) same is.2 in
    let shaped : shape d ≡ Ok fields = subst (λ x. shape x ≡ Ok fields) same is.3 in
    let listed : ignored_field d ≡ ignored = subst (λ x. ignored_field x ≡ ignored) same is.4 in
    ap (λ o. cond (is_some (present o)) (indexed_place d) (option_map place_at (spot_in d (shape d)))) alone
    ∙ ap (λ r. option_map place_at (spot_in d r)) shaped
    ∙ ap (λ i. option_map place_at (fields_spot i fields)) listed

pub usual-located : {A : Type 0} (text : Text) (fields : JsonRecord) (ignored : Field) (r : Result A Fault) → IsJsonOf text fields ignored
    → Locates r (option_map place_at (fields_spot ignored fields)) → LocatesIn text r
usual-located text fields ignored (Ok x) is h = ((λ d e. usual-place text fields ignored is d e ∙ h.0), tt)
usual-located text fields ignored (Err f) is h = (
  tt,
  λ n. (
    λ d e. usual-place text fields ignored is d e ∙ (h.1 n).0,
    λ none. absurd (none-some (read text) is.0 none is.1),
    (h.1 n).1,
  ),
)

-- the place of the value of a text
pub value-located : {A : Type 0} (text : Text) (v : Data) (r : Result A Fault) → read text ≡ Some v → Locates r (value_place v) → LocatesIn text r
value-located text v (Ok x) is h = ((λ d e. ap value_place (some-data d v (read text) e is) ∙ h.0), tt)
value-located text v (Err f) is h = (
  tt,
  λ n. (
    λ d e. ap value_place (some-data d v (read text) e is) ∙ (h.1 n).0,
    λ none. absurd (none-some (read text) v none is),
    (h.1 n).1,
  ),
)

-- the spot of a value that has the shape of a map
pub spot-is : (d : Data) (j : JsonRecord) → shape d ≡ Ok j → value_spot d ≡ fields_spot (ignored_field d) j
unfolding value_spot
spot-is d j is = ap (spot_in d) is
