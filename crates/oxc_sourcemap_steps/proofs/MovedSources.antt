-- What stands for sources, moved out of the inputs.
use Rattle.std.proofs.Common.{◌≡◌, ◌≢◌, refl, sym, ap, subst, ◌∙◌, ℕ, suc, ◌+◌, ◌<◌, ◌≤◌, Bool}
use Rattle.std.proofs.Common.{true, false, cond, ◌==◌, List, [], ◌∷◌, ◌++◌, map, length, get_or}
use Rattle.std.proofs.Common.{set, Vec, Option, Some, None, option_map, Result, Ok, Err, Bor, arith}
use Rattle.std.proofs.Common.{IfSome, inl, inr, MatchOption, append_assoc, zero, take, slice_get}
use Rattle.std.proofs.lemmas.Grind.{flat_map-append}
use Rattle.std.proofs.lemmas.List.{append-nil, map-append, map-set, set-get_or, length-map}
use Rattle.std.proofs.lemmas.List.{get_or-set_same, get_or-set_other, length-set, get_or-map}
use Rattle.std.proofs.lemmas.List.{length-append}
use Rattle.std.proofs.Math.Seq.{get_or-append_seam}
use Rattle.std.specs.Cow.{cow_str_bytes}
use Rattle.std.specs.Option.{option_and_then, unwrap_or}
use Rattle.std.specs.declared.borrow.CowStr.{CowStr}
use Rattle.std.specs.declared.alloc.Global.{Global}
use Rattle.std.specs.HashMap.{HashMap}
use Rattle.std.specs.List.{position_from, flat_map}
use Rattle.std.specs.Str.{bytes_eq}
use Rattle.oxc_sourcemap_tokens.specs.declared.errors.error.Error.{Error}
use Rattle.oxc_sourcemap_tokens.specs.declared.errors.error.Error.TheVariants.{TooLarge}
use Rattle.oxc_sourcemap_tokens.specs.Errors.{unless}
use Rattle.oxc_sourcemap_parts.specs.DecodedMap.{DecodedSource, decoded_map_of, sources_of}
use Rattle.oxc_sourcemap_parts.specs.declared.parts.SourceMapParts.{SourceMapParts}
use Rattle.oxc_sourcemap_parts.specs.Record.{Text, MapRecord}
use Rattle.oxc_sourcemap_parts.specs.Views.{record_of_parts, text_of}
use Rattle.oxc_sourcemap_steps.specs.InheritSteps.{HasIndices}
use Rattle.oxc_sourcemap_steps.specs.Blocks.{sources_by, sources_for, remapped_sources}
use Rattle.oxc_sourcemap_steps.specs.Inputs.{input_for, decoded_inputs, owned_input_records}
use Rattle.oxc_sourcemap_steps.specs.Inputs.{inputs_fault}
use Rattle.oxc_sourcemap_steps.specs.Remapped.{listed_sources, remapped_by, has_few, SomeRemapping}
use Rattle.oxc_sourcemap_steps.specs.RemapSteps.{source_record, source_records, source_lists}
use Rattle.oxc_sourcemap_steps.specs.RemapSteps.{listed_index, AreBelow, AreLastUses, sources_in}
use Rattle.oxc_sourcemap_steps.specs.RemapSteps.{with_last, KeepsOthers, HasNext, source_paths}
use Rattle.oxc_sourcemap_steps.specs.RemapSteps.{without_sources}
use Rattle.oxc_sourcemap_steps.specs.declared.remap.moving.Source.{Source}

-- ---- sources with their contents
nil-of : {A : Type 0} (xs : List A) → length xs ≡ 0 → xs ≡ []
nil-of [] e = refl
nil-of (x ∷ xs) e = absurd (omega (arith, e))

-- the content that an iterator gives
pub has-next : (olds news : List (Option (CowStr Global))) (n m : ℕ) (r : Option (Option (CowStr Global))) → n ≡ length olds → m ≡ length news
    → MatchOption r ((n ≡ 0) × (m ≡ 0)) (λ x. (olds ≡ x ∷ news) × (m + 1 ≡ n)) → HasNext (map text_of olds) (text_of (unwrap_or r None)) (map text_of news)
has-next olds news n m None e f h = inr (ap (map text_of) (nil-of olds (sym e ∙ h.0)), ap (map text_of) (nil-of news (sym f ∙ h.1)), refl)
has-next olds news n m (Some x) e f h = inl (ap (map text_of) h.0)

sources-step : (p : Text) (ps : List Text) (cs ds : List (Option Text)) (c : Option Text) → HasNext cs c ds → sources_of (p ∷ ps) cs ≡ record { path = p; content = c } ∷ sources_of ps ds
sources-step p ps cs ds c (inl e) = ap (sources_of (p ∷ ps)) e
sources-step p ps cs ds c (inr h) =
    ap (sources_of (p ∷ ps)) h.0 ∙ ap (λ xs. record { path = p; content = None } ∷ sources_of ps xs) (sym h.1)
    ∙ ap (λ x. record { path = p; content = x } ∷ sources_of ps ds) (sym h.2)

-- one more source is taken
pub taken-more : (done more : List DecodedSource) (p : Text) (ps qs : List Text) (cs ds : List (Option Text)) (c : Option Text) (whole : List DecodedSource) → qs ≡ p ∷ ps → HasNext cs c ds
    → more ≡ done ++ record { path = p; content = c } ∷ [] → done ++ sources_of qs cs ≡ whole → more ++ sources_of ps ds ≡ whole
taken-more done more p ps qs cs ds c whole e next m h =
    ap (λ xs. xs ++ sources_of ps ds) m ∙ append_assoc done (record { path = p; content = c } ∷ []) (sources_of ps ds)
    ∙ ap (λ xs. done ++ xs) (sym (sources-step p ps cs ds c next)) ∙ ap (λ xs. done ++ sources_of xs cs) (sym e) ∙ h

-- all are taken
pub taken-all : {A : Type 0} (f : A → Text) (done : List DecodedSource) (xs : List A) (n : ℕ) (cs : List (Option Text)) (whole : List DecodedSource) → n ≡ length xs → n ≡ 0
    → done ++ sources_of (map f xs) cs ≡ whole → done ≡ whole
taken-all f done xs n cs whole e none h =
    sym (append-nil done) ∙ ap (λ ys. done ++ sources_of (map f ys) cs) (sym (nil-of xs (sym e ∙ none))) ∙ h

-- one source more of a list
pub one-listed : (ps : List Text) (cs : List (Option Text)) (i : ℕ) → i < length ps
    → take (i + 1) (sources_of ps cs) ≡ take i (sources_of ps cs) ++ record { path = get_or ps i []; content = option_and_then (λ c. c) (slice_get cs i) } ∷ []
one-listed [] cs i h = absurd (omega (arith, h))
one-listed (p ∷ ps) [] zero h = refl
one-listed (p ∷ ps) (c ∷ cs) zero h = refl
one-listed (p ∷ ps) [] (suc i) h =
    let n : suc i + 1 ≡ suc (i + 1) = omega arith in
    ap (λ m. take m (sources_of (p ∷ ps) [])) n ∙ ap (λ xs. record { path = p; content = None } ∷ xs) (one-listed ps [] i (omega (arith, h)))
one-listed (p ∷ ps) (c ∷ cs) (suc i) h =
    let n : suc i + 1 ≡ suc (i + 1) = omega arith in
    ap (λ m. take m (sources_of (p ∷ ps) (c ∷ cs))) n ∙ ap (λ xs. record { path = p; content = c } ∷ xs) (one-listed ps cs i (omega (arith, h)))

-- the path of a source, by its index
pub path-at : (sources : List Source) (i : ℕ) (s : Source) → i < length sources → s ≡ get_or sources i s → get_or (source_paths sources) i [] ≡ cow_str_bytes s.path
path-at sources i s h is = get_or-map (λ (s : Source). cow_str_bytes s.path) sources i s [] h ∙ ap (λ (s : Source). cow_str_bytes s.path) (sym is)

-- what is left of sources
pub left-more : {A : Type 0} (done rest more all : List A) (x : A) → rest ≡ x ∷ more → done ++ rest ≡ all → (done ++ x ∷ []) ++ more ≡ all
left-more done rest more all x e h = append_assoc done (x ∷ []) more ∙ ap (λ xs. done ++ xs) (sym e) ∙ h

pub left-none : {A : Type 0} (done rest all : List A) (n : ℕ) → n ≡ length rest → n ≡ 0 → done ++ rest ≡ all → done ≡ all
left-none done rest all n e none h = sym (append-nil done) ∙ ap (λ xs. done ++ xs) (sym (nil-of rest (sym e ∙ none))) ∙ h

-- the source at an index among all of them
pub left-within : (done rest more all : List Source) (x : Source) → rest ≡ x ∷ more → done ++ rest ≡ all → length done < length all
left-within done rest more all x e h =
    let one = ap length (sym h ∙ ap (λ xs. done ++ xs) e) in
    let two = length-append done (x ∷ more) in
    omega (arith, one, two)

pub left-path : (done rest more all : List Source) (x : Source) → rest ≡ x ∷ more → done ++ rest ≡ all → get_or (source_paths all) (length done) [] ≡ cow_str_bytes x.path
left-path done rest more all x e h =
    let is : x ≡ get_or all (length done) x = sym (ap (λ xs. get_or xs (length done) x) (sym h ∙ ap (λ xs. done ++ xs) e) ∙ get_or-append_seam done x more x) in
    path-at all (length done) x (left-within done rest more all x e h) is

-- ---- the last use of an input
module _ {S : Type 0} (places : HashMap (Bor Text) ℕ S) (paths : List Text) (last : List ℕ) (n : ℕ) (h : AreLastUses n places paths last) where
  before : (i k : ℕ) → i < n + 1 → (listed_index places (get_or paths n []) ≢ Some k) → listed_index places (get_or paths i []) ≡ Some k → i < n
  before i k f differs g =
      let apart : i ≢ n = λ q. differs (sym (ap (λ x. listed_index places (get_or paths x [])) q) ∙ g) in
      grind (arith, f, apart)

  last-by : (p : ℕ) → listed_index places (get_or paths n []) ≡ Some p → p < length last → (b : Bool) (i k : ℕ) → (k == p) ≡ b → i < n + 1
      → listed_index places (get_or paths i []) ≡ Some k → i ≤ get_or (set last p n) k 0
  last-by p at a true i k e f g =
      let same : k ≡ p = grind (arith, e) in
      let is : get_or (set last p n) k 0 ≡ n = ap (λ x. get_or (set last p n) x 0) same ∙ get_or-set_same last p n 0 a in
      omega (arith, is, f)
  last-by p at a false i k e f g =
      let apart : k ≢ p = grind (arith, e) in
      let sooner = before i k f (λ q. apart (cc (at, q))) g in
      let was = h i k sooner g in
      let is = get_or-set_other last p k n 0 apart in
      omega (arith, was, is)

  -- one more source, with an input
  pub last-more : (p : ℕ) → listed_index places (get_or paths n []) ≡ Some p → p < length last → AreLastUses (n + 1) places paths (set last p n)
  last-more p at a i k f g = last-by p at a (k == p) i k refl f g

  -- one more source, without one
  pub last-none : listed_index places (get_or paths n []) ≡ None → AreLastUses (n + 1) places paths last
  last-none none i k f g = h i k (before i k f (λ q. absurd (cc (none, q))) g) g

  -- one more source
  pub last-next : (o : Option ℕ) → listed_index places (get_or paths n []) ≡ o → IfSome o (λ k. k < length last) → AreLastUses (n + 1) places paths (with_last last o n)
  last-next None at a = last-none at
  last-next (Some p) at a = last-more p at a

pub length-with_last : (last : List ℕ) (o : Option ℕ) (i : ℕ) → length (with_last last o i) ≡ length last
length-with_last last None i = refl
length-with_last last (Some k) i = length-set last k i

-- an index that a map of indices has is below their number
pub is-below : (o p : Option ℕ) (n m : ℕ) → o ≡ p → ((k : ℕ) → p ≡ Some k → k < n) → n ≡ m → IfSome o (λ k. k < m)
is-below None p n m e h f = tt
is-below (Some k) p n m e h f = let small = h k (sym e) in omega (arith, small, f)

-- ---- the sources of inputs, some of which are moved
-- each list that is used at this index or later is as it was
abbrev pub AreKept : List (List DecodedSource) → List (Vec Source Global) → List ℕ → ℕ → Type 0
AreKept olds lists last i = (k : ℕ) → i ≤ get_or last k 0 → get_or (source_lists lists) k [] ≡ get_or olds k []

module _ (olds : List (List DecodedSource)) (lists : List (Vec Source Global)) (last : List ℕ) (i p : ℕ) (new : Vec Source Global) (h : AreKept olds lists last i)
    (keep : (get_or last p 0 == i) ≡ false → source_records new.items ≡ get_or (source_lists lists) p []) where
  with-new : source_lists (set lists p new) ≡ set (source_lists lists) p (source_records new.items)
  with-new = map-set (λ (sources : Vec Source Global). source_records sources.items) lists p new

  kept-by : (b : Bool) (k : ℕ) → (k == p) ≡ b → i + 1 ≤ get_or last k 0 → get_or (source_lists (set lists p new)) k [] ≡ get_or olds k []
  kept-by true k e f =
      let same : k ≡ p = grind (arith, e) in
      let at : get_or last k 0 ≡ get_or last p 0 = ap (λ x. get_or last x 0) same in
      let later : (get_or last p 0 == i) ≡ false = grind (arith, f, at) in
      ap (λ ls. get_or ls k []) (with-new ∙ ap (λ xs. set (source_lists lists) p xs) (keep later) ∙ set-get_or (source_lists lists) p []) ∙ h k (omega (arith, f))
  kept-by false k e f =
      let apart : k ≢ p = grind (arith, e) in
      ap (λ ls. get_or ls k []) with-new ∙ get_or-set_other (source_lists lists) p k (source_records new.items) [] apart ∙ h k (omega (arith, f))

  pub kept-more : AreKept olds (set lists p new) last (i + 1)
  kept-more k f = kept-by (k == p) k refl f

-- the lists after one more source
pub kept-next : (olds : List (List DecodedSource)) (lists news : List (Vec Source Global)) (last : List ℕ) (i : ℕ) (o : Option ℕ) → AreKept olds lists last i
    → KeepsOthers o last i lists news → AreKept olds news last (i + 1)
kept-next olds lists news last i None h same k f = ap (λ ls. get_or (source_lists ls) k []) same ∙ h k (omega (arith, f))
kept-next olds lists news last i (Some p) h keeps k f =
    ap (λ ls. get_or (source_lists ls) k []) keeps.1 ∙ kept-more olds lists last i p keeps.0 h keeps.2 k f

-- what stands for a source, of lists that are as they were where it is
pub in-kept : (olds : List (List DecodedSource)) (lists : List (Vec Source Global)) (last : List ℕ) (i : ℕ) (o : Option ℕ) (s : DecodedSource) → AreKept olds lists last i
    → ((k : ℕ) → o ≡ Some k → i ≤ get_or last k 0) → sources_in (source_lists lists) o s ≡ sources_in olds o s
in-kept olds lists last i None s h later = refl
in-kept olds lists last i (Some k) s h later = h k (later k refl)

-- the sources of a list among lists
pub list-at : (lists : List (Vec Source Global)) (k : ℕ) (l : Vec Source Global) → k < length lists → l ≡ get_or lists k l → source_records l.items ≡ get_or (source_lists lists) k []
list-at lists k l h is =
    ap (λ (sources : Vec Source Global). source_records sources.items) is ∙ sym (get_or-map (λ (sources : Vec Source Global). source_records sources.items) lists k l [] h)

-- ---- what stands for sources
-- what stands for one more source
pub stands-more : (f : DecodedSource → List DecodedSource) (ss : List Source) (s : Source) (all new more : List DecodedSource) → all ≡ flat_map f (source_records ss)
    → new ≡ all ++ more → more ≡ f (source_record s) → new ≡ flat_map f (source_records (ss ++ s ∷ []))
stands-more f ss s all new more h g e =
    g ∙ ap (λ xs. xs ++ more) h ∙ ap (λ ys. flat_map f (source_records ss) ++ ys) (e ∙ sym (append-nil (f (source_record s))))
    ∙ sym (flat_map-append f (source_records ss) (source_record s ∷ [])) ∙ ap (flat_map f) (sym (map-append source_record ss (s ∷ [])))

position-next : {A : Type 0} (t : A → Bool) (i : ℕ) (xs : List A) → position_from t (i + 1) xs ≡ option_map (λ n. suc n) (position_from t i xs)
position-next t i [] = refl
position-next t i (x ∷ xs) =
    elim (t x) as (λ b. cond b (Some (i + 1)) (position_from t (i + 1 + 1) xs) ≡ option_map (λ n. suc n) (cond b (Some i) (position_from t (i + 1) xs))) [
      | true ↦ ap (λ n. Some n) (omega arith)
      | false ↦ position-next t (i + 1) xs
    ]

pub position-within : {A : Type 0} (t : A → Bool) (i k : ℕ) (xs : List A) → position_from t i xs ≡ Some k → k < i + length xs
position-within t i k [] e = absurd (cc (e))
position-within t i k (x ∷ xs) e =
    elim (t x) as (λ b. cond b (Some i) (position_from t (i + 1) xs) ≡ Some k → k < i + suc (length xs)) [
      | true ↦ (λ q. let same : i ≡ k = cc (q) in omega (arith, same))
      | false ↦ (λ q. let more = position-within t (i + 1) k xs q in omega (arith, more))
    ] e

one-further : (l : List DecodedSource) (ls : List (List DecodedSource)) (o : Option ℕ) (s : DecodedSource) → sources_in (l ∷ ls) (option_map (λ n. suc n) o) s ≡ sources_in ls o s
one-further l ls None s = refl
one-further l ls (Some k) s = refl

abbrev pub input_lists : List (Bor Text × SourceMapParts) → List (List DecodedSource)
input_lists inputs = map (λ input. listed_sources (record_of_parts input.1)) inputs

abbrev pub paths_of : List (Bor Text × SourceMapParts) → List Text
paths_of inputs = map (λ input. input.0.now) inputs

stands-at : (inputs : List (Bor Text × SourceMapParts)) (s : DecodedSource)
    → sources_in (input_lists inputs) (position_from (bytes_eq s.path) 0 (paths_of inputs)) s ≡ sources_for (decoded_inputs (owned_input_records inputs)) s
stands-at [] s = refl
stands-at (i ∷ inputs) s =
    let l = listed_sources (record_of_parts i.1) in
    let found = position_from (bytes_eq s.path) 0 (paths_of inputs) in
    ap (λ o. sources_in (l ∷ input_lists inputs) (cond (bytes_eq s.path i.0.now) (Some 0) o) s) (position-next (bytes_eq s.path) 0 (paths_of inputs))
    ∙ elim (bytes_eq s.path i.0.now) as (λ b. sources_in (l ∷ input_lists inputs) (cond b (Some 0) (option_map (λ n. suc n) found)) s
    ≡ sources_by (cond b (Some (decoded_map_of (record_of_parts i.1))) (input_for (decoded_inputs (owned_input_records inputs)) s.path)) s) [
      | true ↦ refl
      | false ↦ one-further l (input_lists inputs) found s ∙ stands-at inputs s
    ]

flat-same : {A B : Type 0} (f g : A → List B) → ((x : A) → f x ≡ g x) → (xs : List A) → flat_map f xs ≡ flat_map g xs
flat-same f g h [] = refl
flat-same f g h (x ∷ xs) = ap (λ ys. ys ++ flat_map f xs) (h x) ∙ ap (λ ys. g x ++ ys) (flat-same f g h xs)

module _ {S : Type 0} (inputs : List (Bor Text × SourceMapParts)) (places : HashMap (Bor Text) ℕ S) (has : HasIndices (paths_of inputs) places) where
  pub stands-all : (lists : List (List DecodedSource)) (ss : List DecodedSource) → lists ≡ input_lists inputs
      → flat_map (λ s. sources_in lists (listed_index places s.path) s) ss ≡ remapped_sources (decoded_inputs (owned_input_records inputs)) ss
  stands-all lists ss e =
      ap (λ ls. flat_map (λ s. sources_in ls (listed_index places s.path) s) ss) e
      ∙ flat-same (λ s. sources_in (input_lists inputs) (listed_index places s.path) s) (sources_for (decoded_inputs (owned_input_records inputs)))
      (λ s. ap (λ o. sources_in (input_lists inputs) o s) (has s.path) ∙ stands-at inputs s) ss

  pub all-below : (lists : List (Vec Source Global)) (n : ℕ) → source_lists lists ≡ input_lists inputs → n ≡ length lists → AreBelow n places
  all-below lists n e count path k at =
      let within = position-within (bytes_eq path) 0 k (paths_of inputs) (sym (has path) ∙ at) in
      let one : length (paths_of inputs) ≡ length inputs = length-map inputs (λ input. input.0.now) in
      let two : length (input_lists inputs) ≡ length inputs = length-map inputs (λ input. listed_sources (record_of_parts input.1)) in
      let three : length (source_lists lists) ≡ length lists = length-map lists (λ (sources : Vec Source Global). source_records sources.items) in
      let four = ap length e in
      omega (arith, within, one, two, three, four, count)

-- ---- the map that is put together
made-is : (f : Option Error) (b : Bool) (x m : MapRecord) → unless f (cond b (Ok x) (Err TooLarge)) ≡ Ok m → x ≡ m
made-is (Some e) b x m h = absurd (cc (h))
made-is None true x m h = cc (h)
made-is None false x m h = absurd (cc (h))

-- the sources of a remapped map, for whatever targets
pub remapped-sources-are : (a : MapRecord) (inputs : List (Text × MapRecord)) (m : MapRecord) → SomeRemapping a inputs (Ok m)
    → (m.sources ≡ map (λ s. s.path) (remapped_sources (decoded_inputs inputs) (listed_sources a)))
    × (m.source_contents ≡ map (λ s. s.content) (remapped_sources (decoded_inputs inputs) (listed_sources a)))
remapped-sources-are a inputs m some =
    let is = made-is (inputs_fault inputs) (has_few (remapped_by some.0 a inputs)) (remapped_by some.0 a inputs) m some.2 in
    (sym (ap (λ r. r.sources) is), sym (ap (λ r. r.source_contents) is))

-- a map without sources, with those of the remapped map
pub put-sources : (a : MapRecord) (inputs : List (Text × MapRecord)) (made bare : MapRecord) (ss : List DecodedSource) (paths : List Text) (contents : List (Option Text))
    → SomeRemapping a inputs (Ok made) → bare ≡ without_sources made → ss ≡ remapped_sources (decoded_inputs inputs) (listed_sources a)
    → paths ≡ map (λ s. s.path) ss → contents ≡ map (λ s. s.content) ss → record bare { sources = paths; source_contents = contents } ≡ made
put-sources a inputs made bare ss paths contents some e all p c =
    let are = remapped-sources-are a inputs made some in
    ap (λ (r : MapRecord). record r { sources = paths; source_contents = contents }) e
    ∙ ap (λ ps. record made { sources = ps; source_contents = contents }) (p ∙ ap (map (λ s. s.path)) all ∙ sym are.0)
    ∙ ap (λ cs. record made { source_contents = cs }) (c ∙ ap (map (λ s. s.content)) all ∙ sym are.1)
