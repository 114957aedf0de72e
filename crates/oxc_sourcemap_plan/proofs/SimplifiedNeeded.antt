-- What is left of the names and the sources of a simplified map is needed.
use Rattle.std.proofs.Common.{◌≡◌, ◌⊎◌, inl, inr, refl, sym, ap, ◌∙◌, subst, ℕ, Bool, true, false}
use Rattle.std.proofs.Common.{cond}
use Rattle.std.proofs.Common.{◌&&◌, List, [], ◌∷◌, ◌++◌, map, Option, Some, None}
use Rattle.std.specs.Bool.{beq, Decides}
use Rattle.std.specs.Cmp.{IsEquivalence}
use Rattle.std.specs.Cmp.Lexicographic.{bytes_decides}
use Rattle.std.specs.List.{slice_get, filter_map, flat_map, list_any, AllByRecursion, Contains}
use Rattle.std.specs.List.{IsDistinct, cons_option}
use Rattle.std.specs.Option.{option_map, option_and_then}
use Rattle.std.specs.Str.{bytes_eq}
use Rattle.std.proofs.lemmas.List.Elements.{recursion_from_All, All-contains_itself}
use Rattle.std.proofs.lemmas.Map.Keys.{IsDistinct-push, IsDistinct-head, IsDistinct-tail}
use Rattle.std.proofs.lemmas.Map.Keys.{IsDistinct-cons}
use Rattle.std.proofs.lemmas.Option.{slice_get-map}
use Rattle.oxc_sourcemap_tokens.specs.Token.{TokenRecord}
use Rattle.oxc_sourcemap_parts.specs.DecodedMap.{DecodedSource, sources_of}
use Rattle.oxc_sourcemap_parts.specs.DecodedMap.{name_of, original_at}
use Rattle.oxc_sourcemap_parts.specs.Record.{Text, MapRecord}
use Rattle.oxc_sourcemap_parts.specs.Texts.{index_of, with_text_at, with_text, with_texts}
use Rattle.oxc_sourcemap_lookup.specs.Trace.{original_in}
use Rattle.oxc_sourcemap_steps.specs.Blocks.{marked_from}
use Rattle.oxc_sourcemap_steps.specs.Same.{is_same_source}
use Rattle.oxc_sourcemap_steps.specs.Simplified.{is_same_marked, listings, with_source}
use Rattle.oxc_sourcemap_steps.specs.Simplified.{with_sources}
use Rattle.oxc_sourcemap_steps.specs.Simplified.{source_in, needed_sources, found_originals}
use Rattle.oxc_sourcemap_steps.specs.Simplified.{name_in}
use Rattle.oxc_sourcemap_steps.specs.Simplified.{simple_tokens, simple_names, simple_sources_of}
use Rattle.oxc_sourcemap_steps.specs.Simplified.{marked_source_of, token_among, renumbered}
use Rattle.oxc_sourcemap_steps.specs.Simplified.{simplified}
use Rattle.oxc_sourcemap_steps.proofs.Flags.{marked-unmarked}
use Rattle.oxc_sourcemap_steps.proofs.Means.{IsReady, Placed, all-ready}
use Rattle.oxc_sourcemap_steps.proofs.NeededNames.{name-back}
use Rattle.oxc_sourcemap_steps.proofs.Same.{decides_source}
use Rattle.oxc_sourcemap_plan.proofs.RemapInputs.{by-none}
use Rattle.oxc_sourcemap_plan.proofs.SimplifiedWhole.{needs-names, needs-sources, kept-again}
use Rattle.oxc_sourcemap_plan.proofs.SimplifiedWhole.{marked-new, points, listings_by}
use Rattle.oxc_sourcemap_plan.specs.SimplifiedWhole.{IsNameOfToken, names_of_tokens, AreNamesNeeded}
use Rattle.oxc_sourcemap_plan.specs.SimplifiedWhole.{SimplifiedNamesNeeded, marked_in, twin}
use Rattle.oxc_sourcemap_plan.specs.SimplifiedWhole.{IsSourceOfToken, first_needed}
use Rattle.oxc_sourcemap_plan.specs.SimplifiedWhole.{AreSourcesNeeded}
use Rattle.oxc_sourcemap_plan.specs.SimplifiedWhole.{SimplifiedSourcesNeeded}
use Rattle.oxc_sourcemap_plan.specs.SimplifiedWhole.{SimplificationNeeded}
use Rattle.oxc_sourcemap_plan.proofs.SimplifiedWhole.{simplified-by}

-- ---- lists without repeats
none-distinct : {A : Type 0} (same : A → A → Bool) → IsDistinct same []
unfolding IsDistinct
none-distinct same = tt

module _ {A : Type 0} (same : A → A → Bool) (decides : (x y : A) → Decides (same x y) (x ≡ y)) where
  itself : (x : A) → same x x ≡ true
  itself x = (decides x x).1 refl

  flips : (x y : A) → same x y ≡ same y x
  flips x y =
      elim (same x y) as (λ b. same x y ≡ b → b ≡ same y x) [
        | true ↦ (λ e. sym ((decides y x).1 (sym ((decides x y).0 e))))
        | false ↦ (λ e. elim (same y x) as (λ c. same y x ≡ c → false ≡ c) [
          | true ↦ (λ f. sym e ∙ (decides x y).1 (sym ((decides y x).0 f)))
          | false ↦ (λ f. refl)
        ] refl)
      ] refl

  equivalence : IsEquivalence same
  equivalence = record { refl = itself; symm = flips; congr = λ x y z e. ap (λ w. same w z) ((decides x y).0 e) }

name-distinct : (x : Text) (xs : List Text) → IsDistinct bytes_eq xs → IsDistinct bytes_eq (with_text xs x)
name-distinct x xs d =
    elim (index_of x xs) as (λ o. index_of x xs ≡ o → IsDistinct bytes_eq (with_text_at o xs x)) [
      | Some i ↦ (λ e. d)
      | None ↦ (λ e. IsDistinct-push (equivalence bytes_eq bytes_decides) xs x d (by-none (bytes_eq x) 0 xs e))
    ] refl

names-distinct : (xs ys : List Text) → IsDistinct bytes_eq xs → IsDistinct bytes_eq (with_texts xs ys)
names-distinct xs [] d = d
names-distinct xs (y ∷ ys) d = names-distinct (with_text xs y) ys (name-distinct y xs d)

source-distinct : (x : DecodedSource) (xs : List DecodedSource) → IsDistinct is_same_source xs → IsDistinct is_same_source (with_source xs x)
source-distinct x xs d =
    elim (list_any (is_same_source x) xs) as (λ b. list_any (is_same_source x) xs ≡ b → IsDistinct is_same_source (cond b xs (xs ++ x ∷ []))) [
      | true ↦ (λ e. d)
      | false ↦ (λ e. IsDistinct-push (equivalence is_same_source decides_source) xs x d e)
    ] refl

sources-distinct : (xs ys : List DecodedSource) → IsDistinct is_same_source xs → IsDistinct is_same_source (with_sources xs ys)
sources-distinct xs [] d = d
sources-distinct xs (y ∷ ys) d = sources-distinct (with_source xs y) ys (source-distinct y xs d)

-- ---- listings
all-append : {A : Type 0} (P : A → Type 0) (xs ys : List A) → AllByRecursion P xs → AllByRecursion P ys → AllByRecursion P (xs ++ ys)
all-append P [] ys h k = k
all-append P (x ∷ xs) ys h k = (h.0, all-append P xs ys h.1 k)

and-off : (b : Bool) → (b && false) ≡ false
and-off true = refl
and-off false = refl

all-listed : (P : DecodedSource × Bool → Type 0) (c d : Bool) (x : DecodedSource) → P (x, false) → P (x, true) → AllByRecursion P (listings_by c d x)
all-listed P true true x h k = (h, (k, tt))
all-listed P true false x h k = (h, tt)
all-listed P false true x h k = (k, tt)
all-listed P false false x h k = tt

module _ (marked : List (DecodedSource × Bool)) where
  abbrev listed : Bool → DecodedSource → Bool
  listed b x = list_any (is_same_marked (x, b)) marked

  -- what holds of a source with either mark holds of all listings
  all-listings : (P : DecodedSource × Bool → Type 0) (Q : DecodedSource → Type 0) → ((x : DecodedSource) (b : Bool) → Q x → P (x, b)) → (xs : List DecodedSource) → AllByRecursion Q xs → AllByRecursion P (flat_map (listings marked) xs)
  all-listings P Q f [] h = tt
  all-listings P Q f (x ∷ xs) h =
      all-append P (listings marked x) (flat_map (listings marked) xs) (all-listed P (listed false x) (listed true x) x (f x false h.0) (f x true h.0)) (all-listings P Q f xs h.1)

  listings-distinct : (c d : Bool) (x : DecodedSource) (rest : List (DecodedSource × Bool)) → ((b : Bool) → AllByRecursion (λ m. is_same_marked (x, b) m ≡ false) rest) → IsDistinct is_same_marked rest
      → IsDistinct is_same_marked (listings_by c d x ++ rest)
  listings-distinct true true x rest h e =
      IsDistinct-cons is_same_marked (x, false) ((x, true) ∷ rest) (and-off (is_same_source x x), h false) (IsDistinct-cons is_same_marked (x, true) rest (h true) e)
  listings-distinct true false x rest h e = IsDistinct-cons is_same_marked (x, false) rest (h false) e
  listings-distinct false true x rest h e = IsDistinct-cons is_same_marked (x, true) rest (h true) e
  listings-distinct false false x rest h e = e

  marked-distinct : (xs : List DecodedSource) → IsDistinct is_same_source xs → IsDistinct is_same_marked (flat_map (listings marked) xs)
  marked-distinct [] d = none-distinct is_same_marked
  marked-distinct (x ∷ xs) d =
      listings-distinct (listed false x) (listed true x) x (flat_map (listings marked) xs)
      (λ b. all-listings (λ m. is_same_marked (x, b) m ≡ false) (λ y. is_same_source x y ≡ false) (λ y c e. ap (λ a. a && beq b c) e) xs (IsDistinct-head is_same_source x xs d))
      (marked-distinct xs (IsDistinct-tail is_same_source x xs d))

-- ---- what a token points to, by its marked source
source-by : (ss : List DecodedSource) (l : Option (List ℕ)) (id : Option ℕ)
    → option_and_then (slice_get ss) id ≡ option_map (λ m. m.0) (option_and_then (slice_get (marked_from 0 ss l)) id)
source-by ss l None = refl
source-by ss l (Some i) = ap (λ ss. slice_get ss i) (sym (marked-unmarked 0 ss l)) ∙ slice_get-map (λ (m : DecodedSource × Bool). m.0) (marked_from 0 ss l) i

points-by : (r : MapRecord) (t : TokenRecord) → original_in r t ≡ option_map (original_at r.names t) (option_map (λ m. m.0) (marked_source_of r t))
points-by r t = ap (option_map (original_at r.names t)) (source-by (sources_of r.sources r.source_contents) r.ignore_list t.source_id)

-- ---- names
with-all : (P : Text → Type 0) (xs ys : List Text) → AllByRecursion P xs → AllByRecursion P ys → AllByRecursion P (with_texts xs ys)
with-all P xs [] h k = h
with-all P xs (y ∷ ys) h k =
    with-all P (with_text xs y) ys
    (elim (index_of y xs) as (λ o. AllByRecursion P (with_text_at o xs y)) [
      | Some i ↦ h
      | None ↦ all-append P xs (y ∷ []) h (k.0, tt)
    ]) k.1

each-name : (m : MapRecord) (ts : List TokenRecord) → AllByRecursion (Contains m.tokens) ts → AllByRecursion (IsNameOfToken m) (filter_map (name_of m.names) ts)
each-name m [] h = tt
each-name m (t ∷ ts) h =
    let more = each-name m ts h.1 in
    elim (name_of m.names t) as (λ o. name_of m.names t ≡ o → AllByRecursion (IsNameOfToken m) (cons_option o (filter_map (name_of m.names) ts))) [
      | None ↦ (λ e. more)
      | Some x ↦ (λ e. ((t, h.0, e), more))
    ] refl

filter-both : {A B C D : Type 0} (P : A → Type 0) (k : A → B) (l : A → C) (f : B → Option D) (g : C → Option D) → ((x : A) → P x → f (k x) ≡ g (l x)) → (xs : List A) → AllByRecursion P xs
    → filter_map f (map k xs) ≡ filter_map g (map l xs)
filter-both P k l f g e [] h = refl
filter-both P k l f g e (x ∷ xs) h = ap (λ o. cons_option o (filter_map f (map k xs))) (e x h.0) ∙ ap (cons_option (g (l x))) (filter-both P k l f g e xs h.1)

module _ (r : MapRecord) where
  abbrev m : MapRecord
  m = simplified r

  abbrev sources : List (DecodedSource × Bool)
  sources = simple_sources_of r

  abbrev names : List Text
  names = simple_names r

  name-by : (t : TokenRecord) (q : Option (DecodedSource × Bool)) → Placed r (name_of r.names t) q
      → name_of names (token_among sources names (name_of r.names t) t q) ≡ name_in (option_map (original_at r.names t) (option_map (λ m. m.0) q))
  name-by t None h = refl
  name-by t (Some x) h = name-back names (name_of r.names t) h.1

  name-stays : (t : TokenRecord) → IsReady r t → name_of names (renumbered r sources names t) ≡ name_in (original_in r t)
  name-stays t h = name-by t (marked_source_of r t) h ∙ ap name_in (sym (points-by r t))

  in-order : m.names ≡ with_texts [] (names_of_tokens m)
  in-order = sym (ap (with_texts []) (filter-both (IsReady r) (renumbered r sources names) (original_in r) (name_of names) name_in name-stays (simple_tokens r) (all-ready r)) ∙ needs-names r)

  own : AllByRecursion (Contains m.tokens) m.tokens
  own = recursion_from_All (Contains m.tokens) m.tokens (All-contains_itself m.tokens)

  names-needed : AreNamesNeeded m
  names-needed = record {
    distinct = subst (IsDistinct bytes_eq) (sym in-order) (names-distinct [] (names_of_tokens m) (none-distinct bytes_eq));
    used = subst (AllByRecursion (IsNameOfToken m)) (sym in-order) (with-all (IsNameOfToken m) [] (names_of_tokens m) tt (each-name m m.tokens own));
    in_order = in-order;
  }

pub simplified_names_needed : SimplifiedNamesNeeded
simplified_names_needed r = names-needed r

-- ---- sources
-- a token points to this source, whatever its mark is
abbrev IsPointedTo : MapRecord → DecodedSource → Type 0
IsPointedTo m x = (t : TokenRecord) × Contains m.tokens t × (source_in (original_in m t) ≡ Some x)

each-source : (m : MapRecord) (ts : List TokenRecord) → AllByRecursion (Contains m.tokens) ts → AllByRecursion (IsPointedTo m) (filter_map source_in (map (original_in m) ts))
each-source m [] h = tt
each-source m (t ∷ ts) h =
    let more = each-source m ts h.1 in
    elim (source_in (original_in m t)) as (λ o. source_in (original_in m t) ≡ o → AllByRecursion (IsPointedTo m) (cons_option o (filter_map source_in (map (original_in m) ts)))) [
      | None ↦ (λ e. more)
      | Some x ↦ (λ e. ((t, h.0, e), more))
    ] refl

with-sources-all : (P : DecodedSource → Type 0) (xs ys : List DecodedSource) → AllByRecursion P xs → AllByRecursion P ys → AllByRecursion P (with_sources xs ys)
with-sources-all P xs [] h k = h
with-sources-all P xs (y ∷ ys) h k =
    with-sources-all P (with_source xs y) ys
    (elim (list_any (is_same_source y) xs) as (λ b. AllByRecursion P (cond b xs (xs ++ y ∷ []))) [
      | true ↦ h
      | false ↦ all-append P xs (y ∷ []) h (k.0, tt)
    ]) k.1

abbrev IsUsed : MapRecord → DecodedSource × Bool → Type 0
IsUsed m source = IsSourceOfToken m source ⊎ IsSourceOfToken m (twin source)

used-as : (m : MapRecord) (t : TokenRecord) (x : DecodedSource) (b c : Bool) → Contains m.tokens t → marked_source_of m t ≡ Some (x, c) → IsUsed m (x, b)
used-as m t x true true k e = inl (t, k, e)
used-as m t x true false k e = inr (t, k, e)
used-as m t x false true k e = inr (t, k, e)
used-as m t x false false k e = inl (t, k, e)

some-same : {A : Type 0} {x y : A} → Some x ≡ Some y → x ≡ y
some-same e = cc

used-by : (m : MapRecord) (x : DecodedSource) (b : Bool) (t : TokenRecord) → Contains m.tokens t → (q : Option (DecodedSource × Bool)) → marked_source_of m t ≡ q
    → source_in (option_map (original_at m.names t) (option_map (λ m. m.0) q)) ≡ Some x → IsUsed m (x, b)
used-by m x b t k None f e = absurd (cc (e))
used-by m x b t k (Some (y, c)) f e = used-as m t x b c k (f ∙ ap (λ z. Some (z, c)) (some-same e))

used : (m : MapRecord) (x : DecodedSource) (b : Bool) → IsPointedTo m x → IsUsed m (x, b)
used m x b (t, k, e) = used-by m x b t k (marked_source_of m t) refl (ap source_in (sym (points-by m t)) ∙ e)

module _ (r : MapRecord) where
  abbrev s : MapRecord
  s = simplified r

  first-needed : first_needed s ≡ needed_sources (found_originals r)
  first-needed = ap needed_sources (points r) ∙ needs-sources r

  all-pointed : AllByRecursion (IsPointedTo s) (needed_sources (found_originals r))
  all-pointed =
      subst (AllByRecursion (IsPointedTo s)) first-needed
      (with-sources-all (IsPointedTo s) [] (filter_map source_in (map (original_in s) s.tokens)) tt (each-source s s.tokens (recursion_from_All (Contains s.tokens) s.tokens (All-contains_itself s.tokens))))

  sources-needed : AreSourcesNeeded s
  sources-needed = record {
    distinct = subst (IsDistinct is_same_marked) (sym (marked-new r)) (marked-distinct (marked_in r) (needed_sources (found_originals r)) (sources-distinct [] (filter_map source_in (found_originals r)) (none-distinct is_same_source)));
    used = subst (AllByRecursion (IsUsed s)) (sym (marked-new r)) (all-listings (marked_in r) (IsUsed s) (IsPointedTo s) (λ x b. used s x b) (needed_sources (found_originals r)) all-pointed);
    in_order =
        marked-new r
        ∙ sym (kept-again (marked_in r) (needed_sources (found_originals r)))
        ∙ ap (λ ms. flat_map (listings ms) (needed_sources (found_originals r))) (sym (marked-new r))
        ∙ ap (flat_map (listings (marked_in s))) (sym first-needed);
  }

pub simplified_sources_needed : SimplifiedSourcesNeeded
simplified_sources_needed r = sources-needed r

pub simplification_needed : SimplificationNeeded
simplification_needed r m e = subst (λ m. AreNamesNeeded m × AreSourcesNeeded m) (simplified-by r m e).2 (names-needed r, sources-needed r)
