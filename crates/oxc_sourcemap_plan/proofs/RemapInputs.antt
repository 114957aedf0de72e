-- Which inputs a remapping needs, and in which order.
use Rattle.std.proofs.Common.{◌≡◌, refl, sym, ap, ◌∙◌, ℕ, zero, suc, ◌+◌, Bool, true, false, cond}
use Rattle.std.proofs.Common.{◌||◌}
use Rattle.std.proofs.Common.{List, [], ◌∷◌, ◌++◌, map, filter, length, take, Option, Some, None}
use Rattle.std.proofs.Common.{Result, Ok, Err, arith, if◌then◌else◌}
use Rattle.std.specs.List.{slice_get, flat_map, list_any, position_from, AllByRecursion, Contains}
use Rattle.std.specs.List.Sorted.{IsPermutation}
use Rattle.std.specs.Option.{IfSome, option_map, option_and_then}
use Rattle.std.specs.Str.{bytes_eq}
use Rattle.std.proofs.lemmas.Slice.Eq.{bytes_eq-Decides}
use Rattle.std.proofs.lemmas.List.Elements.{recursion_from_All, All-from_recursion}
use Rattle.std.proofs.lemmas.List.Elements.{All-contains}
use Rattle.std.proofs.lemmas.List.Sorted.{IsPermutation-map, IsPermutation-sym}
use Rattle.std.proofs.lemmas.List.Sorted.{Contains-permutation}
use Rattle.std.proofs.lemmas.List.Sorted.{All-permutation, list_any-IsPermutation}
use Rattle.std.proofs.lemmas.Map.Keys.{IsDistinct-IsPermutation, IsDistinct-head, IsDistinct-tail}
use Rattle.oxc_sourcemap_tokens.specs.declared.errors.error.Error.TheVariants.{TooLarge}
use Rattle.oxc_sourcemap_tokens.specs.declared.errors.error.Error.{Error}
use Rattle.oxc_sourcemap_tokens.specs.Errors.{unless}
use Rattle.oxc_sourcemap_tokens.specs.Token.{TokenRecord}
use Rattle.oxc_sourcemap_parts.specs.DecodedMap.{DecodedSource, sources_of, decoded_map_of}
use Rattle.oxc_sourcemap_parts.specs.Record.{Text, MapRecord}
use Rattle.oxc_sourcemap_steps.specs.Blocks.{sources_by, sources_for, remapped_sources, marked_from}
use Rattle.oxc_sourcemap_steps.specs.Blocks.{marked_sources, marked_by, marked_for, ignored_ids}
use Rattle.oxc_sourcemap_steps.specs.Blocks.{remapped_ignore_list}
use Rattle.oxc_sourcemap_steps.specs.Composed.{Target, NoColumnGoesBack}
use Rattle.oxc_sourcemap_steps.specs.Inputs.{input_for, decoded_inputs, goes_back, inputs_fault}
use Rattle.oxc_sourcemap_steps.specs.Inputs.{NoInputColumnGoesBack}
use Rattle.oxc_sourcemap_steps.specs.Remapped.{listed_sources, source_of, input_of, target_by}
use Rattle.oxc_sourcemap_steps.specs.Remapped.{remap_targets, original_by, block_start}
use Rattle.oxc_sourcemap_steps.specs.Remapped.{original_at, original, needed_names, token_to}
use Rattle.oxc_sourcemap_steps.specs.Remapped.{remapped_token, remapped_names, remapped_by}
use Rattle.oxc_sourcemap_steps.specs.Remapped.{remapped}
use Rattle.oxc_sourcemap_steps.specs.Remapped.{has_few, remapping}
use Rattle.oxc_sourcemap_steps.proofs.InputPlaces.{input_for-map}
use Rattle.oxc_sourcemap_steps.proofs.Means.{unmapped}
use Rattle.oxc_sourcemap_plan.specs.InputLaws.{RemapsAlike}
use Rattle.oxc_sourcemap_plan.specs.InputLaws.{input_paths, AreForDistinctPaths, is_for_source}
use Rattle.oxc_sourcemap_plan.specs.InputLaws.{inputs_for_sources, HaveSameFirstInputs}
use Rattle.oxc_sourcemap_plan.specs.InputLaws.{FirstInputsCount, InputsMayBePermuted}
use Rattle.oxc_sourcemap_plan.specs.InputLaws.{InputsMayBeLeftOut}

-- ---- functions that agree
map-same : {A B : Type 0} (f g : A → B) → ((x : A) → f x ≡ g x) → (xs : List A) → map f xs ≡ map g xs
map-same f g e [] = refl
map-same f g e (x ∷ xs) = ap (λ y. y ∷ map f xs) (e x) ∙ ap (λ ys. g x ∷ ys) (map-same f g e xs)

then-same : {A B : Type 0} (f g : A → Option B) → ((x : A) → f x ≡ g x) → (o : Option A) → option_and_then f o ≡ option_and_then g o
then-same f g e None = refl
then-same f g e (Some x) = e x

module _ {A B : Type 0} (P : A → Type 0) where
  then-within : (f g : A → Option B) → ((x : A) → P x → f x ≡ g x) → (o : Option A) → IfSome o P → option_and_then f o ≡ option_and_then g o
  then-within f g e None h = refl
  then-within f g e (Some x) h = e x h

  flat-within : (f g : A → List B) → ((x : A) → P x → f x ≡ g x) → (xs : List A) → AllByRecursion P xs → flat_map f xs ≡ flat_map g xs
  flat-within f g e [] h = refl
  flat-within f g e (x ∷ xs) h = ap (λ ys. ys ++ flat_map f xs) (e x h.0) ∙ ap (λ ys. g x ++ ys) (flat-within f g e xs h.1)

module _ {A : Type 0} (P : A → Type 0) where
  at-index : (xs : List A) (i : ℕ) → AllByRecursion P xs → IfSome (slice_get xs i) P
  at-index [] i h = tt
  at-index (x ∷ xs) zero h = h.0
  at-index (x ∷ xs) (suc i) h = at-index xs i h.1

  at-id : (xs : List A) (id : Option ℕ) → AllByRecursion P xs → IfSome (option_and_then (slice_get xs) id) P
  at-id xs None h = tt
  at-id xs (Some i) h = at-index xs i h

  all-taken : (i : ℕ) (xs : List A) → AllByRecursion P xs → AllByRecursion P (take i xs)
  all-taken zero xs h = tt
  all-taken (suc i) [] h = tt
  all-taken (suc i) (x ∷ xs) h = (h.0, all-taken i xs h.1)

-- ---- inputs that count alike
module _ (bs cs : List (Text × MapRecord)) where
  abbrev Alike : Text → Type 0
  Alike path = input_for bs path ≡ input_for cs path

  abbrev IsAlike : DecodedSource → Type 0
  IsAlike source = Alike source.path

  all-alike : (paths : List Text) (contents : List (Option Text)) → AllByRecursion Alike paths → AllByRecursion IsAlike (sources_of paths contents)
  all-alike [] contents h = tt
  all-alike (path ∷ paths) [] h = (h.0, all-alike paths [] h.1)
  all-alike (path ∷ paths) (content ∷ contents) h = (h.0, all-alike paths contents h.1)

  all-marked : (i : ℕ) (ss : List DecodedSource) (l : Option (List ℕ)) → AllByRecursion IsAlike ss → AllByRecursion (λ (m : DecodedSource × Bool). IsAlike m.0) (marked_from i ss l)
  all-marked i [] l h = tt
  all-marked i (s ∷ ss) l h = (h.0, all-marked (i + 1) ss l h.1)

  decoded-alike : (path : Text) → Alike path → input_for (decoded_inputs bs) path ≡ input_for (decoded_inputs cs) path
  decoded-alike path e = input_for-map decoded_map_of bs path ∙ ap (option_map decoded_map_of) e ∙ sym (input_for-map decoded_map_of cs path)

  sources-alike : (ss : List DecodedSource) → AllByRecursion IsAlike ss → remapped_sources (decoded_inputs bs) ss ≡ remapped_sources (decoded_inputs cs) ss
  sources-alike ss h = flat-within IsAlike (sources_for (decoded_inputs bs)) (sources_for (decoded_inputs cs)) (λ s e. ap (λ q. sources_by q s) (decoded-alike s.path e)) ss h

  module _ (a : MapRecord) (h : HaveSameFirstInputs a bs cs) where
    listed : AllByRecursion IsAlike (listed_sources a)
    listed = all-alike a.sources a.source_contents h

    input-alike : (t : TokenRecord) → input_of bs a t ≡ input_of cs a t
    input-alike t = then-within IsAlike (λ s. input_for bs s.path) (λ s. input_for cs s.path) (λ s e. e) (source_of a t) (at-id IsAlike (listed_sources a) t.source_id listed)

    targets-alike : remap_targets a bs ≡ remap_targets a cs
    targets-alike = map-same (λ t. target_by (input_of bs a t) t) (λ t. target_by (input_of cs a t) t) (λ t. ap (λ b. target_by b t) (input-alike t)) a.tokens

    start-alike : (i : ℕ) → block_start bs a i ≡ block_start cs a i
    start-alike i = ap length (sources-alike (take i (listed_sources a)) (all-taken IsAlike i (listed_sources a) listed))

    at-alike : (l : Target) (i : ℕ) → original_at bs a l i ≡ original_at cs a l i
    at-alike l i =
        then-within IsAlike (λ s. original_by (input_for bs s.path) (block_start bs a i) a.names l) (λ s. original_by (input_for cs s.path) (block_start cs a i) a.names l)
        (λ s e. ap (λ b. original_by b (block_start bs a i) a.names l) e ∙ ap (λ n. original_by (input_for cs s.path) n a.names l) (start-alike i))
        (slice_get (listed_sources a) i) (at-index IsAlike (listed_sources a) i listed)

    original-alike : (l : Target) → original bs a l ≡ original cs a l
    original-alike l = then-same (original_at bs a l) (original_at cs a l) (at-alike l) l.token.source_id

    names-alike : (ls : List Target) → remapped_names ls a bs ≡ remapped_names ls a cs
    names-alike ls = ap needed_names (map-same (original bs a) (original cs a) original-alike ls)

    tokens-alike : (names : List Text) (ls : List Target) → map (remapped_token bs a names) ls ≡ map (remapped_token cs a names) ls
    tokens-alike names ls = map-same (remapped_token bs a names) (remapped_token cs a names) (λ l. ap (token_to names l.token) (original-alike l)) ls

    ignored-alike : remapped_ignore_list (decoded_inputs bs) (decoded_map_of a) ≡ remapped_ignore_list (decoded_inputs cs) (decoded_map_of a)
    ignored-alike =
        ap ignored_ids (flat-within (λ (m : DecodedSource × Bool). IsAlike m.0) (marked_for (decoded_inputs bs)) (marked_for (decoded_inputs cs)) (λ m e. ap (λ q. marked_by q m) (decoded-alike m.0.path e))
        (marked_sources (decoded_map_of a)) (all-marked 0 (listed_sources a) a.ignore_list listed))

    maps-alike : remapped a bs ≡ remapped a cs
    maps-alike =
        let ls = remap_targets a cs in
        let whole : List Text → List DecodedSource → List TokenRecord → Option (List ℕ) → MapRecord = λ names sources tokens ignored. record {
          file = a.file;
          names = names;
          source_root = None;
          sources = map (λ s. s.path) sources;
          source_contents = map (λ s. s.content) sources;
          tokens = tokens;
          token_chunks = None;
          ignore_list = ignored;
          debug_id = a.debug_id;
        } in
        let sources = remapped_sources (decoded_inputs bs) (listed_sources a) in
        let others = remapped_sources (decoded_inputs cs) (listed_sources a) in
        let names = remapped_names ls a cs in
        let ignored = remapped_ignore_list (decoded_inputs bs) (decoded_map_of a) in
        ap (λ ls. remapped_by ls a bs) targets-alike
        ∙ ap (λ names. whole names sources (map (remapped_token bs a names) ls) ignored) (names-alike ls)
        ∙ ap (λ tokens. whole names sources tokens ignored) (tokens-alike names ls)
        ∙ ap (λ sources. whole names sources (map (remapped_token cs a names) ls) ignored) (sources-alike (listed_sources a) listed)
        ∙ ap (whole names others (map (remapped_token cs a names) ls)) ignored-alike

pub first_inputs_count : FirstInputsCount
first_inputs_count a bs cs h = maps-alike bs cs a h

-- ---- faults
-- nothing passes exactly if there is no first index
none-by : {A : Type 0} (test : A → Bool) (k : ℕ) (xs : List A) → list_any test xs ≡ false → position_from test k xs ≡ None
none-by test k [] e = refl
none-by test k (x ∷ xs) e =
    elim (test x) as (λ b. (b || list_any test xs) ≡ false → cond b (Some k) (position_from test (k + 1) xs) ≡ None) [
      | true ↦ (λ e. cc (e))
      | false ↦ (λ e. none-by test (k + 1) xs e)
    ] e

pub by-none : {A : Type 0} (test : A → Bool) (k : ℕ) (xs : List A) → position_from test k xs ≡ None → list_any test xs ≡ false
by-none test k [] e = refl
by-none test k (x ∷ xs) e =
    elim (test x) as (λ b. cond b (Some k) (position_from test (k + 1) xs) ≡ None → (b || list_any test xs) ≡ false) [
      | true ↦ (λ e. cc (e))
      | false ↦ (λ e. by-none test (k + 1) xs e)
    ] e

not-any : {A B : Type 0} (f : A → B) (o : Option A) → option_map f o ≡ None → o ≡ None
not-any f None e = refl
not-any f (Some x) e = cc (e)

no-fault : (inputs : List (Text × MapRecord)) → list_any goes_back inputs ≡ false → inputs_fault inputs ≡ None
no-fault inputs e = rw (none-by goes_back 0 inputs e) refl

from-fault : (inputs : List (Text × MapRecord)) → inputs_fault inputs ≡ None → list_any goes_back inputs ≡ false
from-fault inputs e = by-none goes_back 0 inputs (not-any _ (position_from goes_back 0 inputs) e)

results : (a : MapRecord) (bs cs : List (Text × MapRecord)) → remapped a bs ≡ remapped a cs → inputs_fault bs ≡ None → inputs_fault cs ≡ None → remapping a bs ≡ remapping a cs
results a bs cs e f g =
    let whole : MapRecord → _ = λ m. if has_few m then Ok m else Err TooLarge in
    ap (λ o. unless o (whole (remapped a bs))) f ∙ ap whole e ∙ sym (ap (λ o. unless o (whole (remapped a cs))) g)

-- a result that is a map tells that no input has a fault
made-by : (o : Option Error) (q : Result MapRecord Error) (m : MapRecord) → unless o q ≡ Ok m → o ≡ None
made-by None q m e = refl
made-by (Some fault) q m e = absurd (cc (e))

alike : (a : MapRecord) (bs cs : List (Text × MapRecord)) → HaveSameFirstInputs a bs cs → (inputs_fault bs ≡ None → inputs_fault cs ≡ None) → (NoInputColumnGoesBack bs → NoInputColumnGoesBack cs) → RemapsAlike a bs cs
alike a bs cs h fault on =
    let same = first_inputs_count a bs cs h in
    let result : inputs_fault bs ≡ None → remapping a bs ≡ remapping a cs = λ f. results a bs cs same f (fault f) in record {
      map = same;
      fault = fault;
      result = result;
      made = λ m e. sym (result (made-by (inputs_fault bs) _ m e)) ∙ e;
      goes_on = on;
    }

-- ---- permutations
exact : (x y : Text) → bytes_eq x y ≡ true → x ≡ y
exact x y e = (bytes_eq-Decides x y).0 e

flips : (x y : Text) → bytes_eq x y ≡ bytes_eq y x
flips x y =
    elim (bytes_eq x y) as (λ b. bytes_eq x y ≡ b → b ≡ bytes_eq y x) [
      | true ↦ (λ e. sym ((bytes_eq-Decides y x).1 (sym (exact x y e))))
      | false ↦ (λ e. elim (bytes_eq y x) as (λ c. bytes_eq y x ≡ c → false ≡ c) [
        | true ↦ (λ f. sym e ∙ (bytes_eq-Decides x y).1 (sym (exact y x f)))
        | false ↦ (λ f. refl)
      ] refl)
    ] refl

pair-by : {A B : Type 0} (x : A × B) (a : A) (b : B) → x.0 ≡ a → x.1 ≡ b → x ≡ (a, b)
pair-by (c, d) a b e f = cc (e, f)

some-same : {A : Type 0} {x y : A} → Some x ≡ Some y → x ≡ y
some-same e = cc

-- an input that is found is one of the inputs
found-in : (inputs : List (Text × MapRecord)) (path : Text) (b : MapRecord) → input_for inputs path ≡ Some b → Contains inputs (path, b)
found-in [] path b e = absurd (cc (e))
found-in (input ∷ inputs) path b e =
    elim (bytes_eq path input.0) as (λ c. bytes_eq path input.0 ≡ c → cond c (Some input.1) (input_for inputs path) ≡ Some b → Contains (input ∷ inputs) (path, b)) [
      | true ↦ (λ f e. (0, omega arith, pair-by input path b (sym (exact path input.0 f)) (some-same e)))
      | false ↦ (λ f e. let r = found-in inputs path b e in let lt = r.1 in (suc r.0, omega (arith, lt), r.2))
    ] refl e

-- and each of the inputs is found, if no two are for one path
apart : (p path : Text) (b : MapRecord) (inputs : List (Text × MapRecord)) → AllByRecursion (λ y. bytes_eq p y ≡ false) (input_paths inputs) → Contains inputs (path, b) → bytes_eq p path ≡ false
apart p path b inputs h c =
    All-contains (λ (i : Text × MapRecord). bytes_eq p i.0 ≡ false) inputs (path, b) (All-from_recursion _ inputs (unmapped (λ y. bytes_eq p y ≡ false) (λ (i : Text × MapRecord). i.0) inputs h)) c

found-by : (inputs : List (Text × MapRecord)) (path : Text) (b : MapRecord) → AreForDistinctPaths inputs → Contains inputs (path, b) → input_for inputs path ≡ Some b
found-by [] path b d (k, lt, e) = absurd (omega (arith, lt))
found-by (input ∷ inputs) path b d (zero, lt, e) =
    let here : bytes_eq path input.0 ≡ true = (bytes_eq-Decides path input.0).1 (sym (ap (λ (i : Text × MapRecord). i.0) e)) in
    rw here (ap (λ (i : Text × MapRecord). Some i.1) e)
found-by (input ∷ inputs) path b d (suc k, lt, e) =
    let more : Contains inputs (path, b) = (k, omega (arith, lt), e) in
    let off : bytes_eq path input.0 ≡ false = flips path input.0 ∙ apart input.0 path b inputs (IsDistinct-head bytes_eq input.0 (input_paths inputs) d) more in
    rw off (found-by inputs path b (IsDistinct-tail bytes_eq input.0 (input_paths inputs) d) more)

all-of : {A : Type 0} (P : A → Type 0) → ((x : A) → P x) → (xs : List A) → AllByRecursion P xs
all-of P h [] = tt
all-of P h (x ∷ xs) = (h x, all-of P h xs)

module _ (bs cs : List (Text × MapRecord)) (p : IsPermutation bs cs) (d : AreForDistinctPaths bs) where
  back : IsPermutation cs bs
  back = IsPermutation-sym bs cs p

  distinct : AreForDistinctPaths cs
  distinct = IsDistinct-IsPermutation bytes_eq flips (input_paths bs) (input_paths cs) (IsPermutation-map (λ (i : Text × MapRecord). i.0) bs cs p) d

  same-input : (path : Text) → input_for bs path ≡ input_for cs path
  same-input path =
      elim (input_for bs path) as (λ o. input_for bs path ≡ o → o ≡ input_for cs path) [
        | Some b ↦ (λ e. sym (found-by cs path b distinct (Contains-permutation bs cs (path, b) p (found-in bs path b e))))
        | None ↦ (λ e. elim (input_for cs path) as (λ q. input_for cs path ≡ q → None ≡ q) [
          | None ↦ (λ f. refl)
          | Some c ↦ (λ f. sym e ∙ found-by bs path c d (Contains-permutation cs bs (path, c) back (found-in cs path c f)))
        ] refl)
      ] refl

  same-fault : list_any goes_back bs ≡ list_any goes_back cs
  same-fault = list_any-IsPermutation goes_back bs cs p

goes-on : (bs cs : List (Text × MapRecord)) → IsPermutation bs cs → NoInputColumnGoesBack bs → NoInputColumnGoesBack cs
goes-on bs cs p h =
    let P : Text × MapRecord → Type 0 = λ input. NoColumnGoesBack input.1.tokens in
    recursion_from_All P cs (All-permutation P bs cs p (All-from_recursion P bs h))

alike-by : (a : MapRecord) (bs cs : List (Text × MapRecord)) → HaveSameFirstInputs a bs cs → list_any goes_back bs ≡ list_any goes_back cs → IsPermutation bs cs → RemapsAlike a bs cs
alike-by a bs cs h e p = alike a bs cs h (λ f. no-fault cs (sym e ∙ from-fault bs f)) (goes-on bs cs p)

pub inputs_may_be_permuted : InputsMayBePermuted
inputs_may_be_permuted a bs cs d p =
    let e = same-fault bs cs p d in (
      alike-by a bs cs (all-of _ (same-input bs cs p d) a.sources) e p,
      alike-by a cs bs (all-of _ (λ path. sym (same-input bs cs p d path)) a.sources) (sym e) (IsPermutation-sym bs cs p),
    )

-- ---- inputs for no source
kept-input : (test : Text × MapRecord → Bool) (path : Text) → ((i : Text × MapRecord) → bytes_eq path i.0 ≡ true → test i ≡ true) → (inputs : List (Text × MapRecord)) → input_for inputs path ≡ input_for (filter test inputs) path
kept-input test path h [] = refl
kept-input test path h (i ∷ is) =
    let more = kept-input test path h is in
    elim (test i) as (λ b. test i ≡ b → input_for (i ∷ is) path ≡ input_for (cond b (i ∷ filter test is) (filter test is)) path) [
      | true ↦ (λ e. ap (λ o. cond (bytes_eq path i.0) (Some i.1) o) more)
      | false ↦ (λ e. elim (bytes_eq path i.0) as (λ c. bytes_eq path i.0 ≡ c → cond c (Some i.1) (input_for is path) ≡ input_for (filter test is) path) [
        | true ↦ (λ f. let no : true ≡ false = sym (h i f) ∙ e in cc (no))
        | false ↦ (λ f. more)
      ] refl)
    ] refl

-- a path is one of these, by whatever is equal to it
abbrev IsAmong : List Text → Text → Type 0
IsAmong paths path = (q : Text) → bytes_eq path q ≡ true → list_any (λ p. bytes_eq p q) paths ≡ true

all-weaker : {A : Type 0} (P Q : A → Type 0) → ((x : A) → P x → Q x) → (xs : List A) → AllByRecursion P xs → AllByRecursion Q xs
all-weaker P Q f [] h = tt
all-weaker P Q f (x ∷ xs) h = (f x h.0, all-weaker P Q f xs h.1)

or-right : (a b : Bool) → b ≡ true → (a || b) ≡ true
or-right true b e = refl
or-right false b e = e

all-among : (paths : List Text) → AllByRecursion (IsAmong paths) paths
all-among [] = tt
all-among (path ∷ paths) =
    (λ q e. rw e refl, all-weaker (IsAmong paths) (IsAmong (path ∷ paths)) (λ x h q e. or-right (bytes_eq path q) _ (h q e)) paths (all-among paths))

none-kept : {A : Type 0} (p test : A → Bool) (xs : List A) → list_any p xs ≡ false → list_any p (filter test xs) ≡ false
none-kept p test [] e = refl
none-kept p test (x ∷ xs) e =
    elim (p x) as (λ b. p x ≡ b → (b || list_any p xs) ≡ false → list_any p (cond (test x) (x ∷ filter test xs) (filter test xs)) ≡ false) [
      | true ↦ (λ f e. cc (e))
      | false ↦ (λ f e. elim (test x) as (λ c. list_any p (cond c (x ∷ filter test xs) (filter test xs)) ≡ false) [
        | true ↦ rw f (none-kept p test xs e)
        | false ↦ none-kept p test xs e
      ])
    ] refl e

kept-go-on : (test : Text × MapRecord → Bool) (inputs : List (Text × MapRecord)) → NoInputColumnGoesBack inputs → NoInputColumnGoesBack (filter test inputs)
kept-go-on test [] h = tt
kept-go-on test (i ∷ is) h =
    let more = kept-go-on test is h.1 in
    elim (test i) as (λ b. NoInputColumnGoesBack (cond b (i ∷ filter test is) (filter test is))) [
      | true ↦ (h.0, more)
      | false ↦ more
    ]

pub inputs_may_be_left_out : InputsMayBeLeftOut
inputs_may_be_left_out a inputs =
    let few = inputs_for_sources a inputs in
    let h : HaveSameFirstInputs a inputs few = all-weaker (IsAmong a.sources) _ (λ path among. kept-input (is_for_source a) path (λ i e. among i.0 e) inputs) a.sources (all-among a.sources) in
    alike a inputs few h (λ f. no-fault few (none-kept goes_back (is_for_source a) inputs (from-fault inputs f))) (kept-go-on (is_for_source a) inputs)
