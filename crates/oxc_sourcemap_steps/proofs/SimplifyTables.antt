-- What tokens point to by the tables of a map, and by the map.
use Rattle.std.proofs.Common.{◌≡◌, refl, sym, ap, subst, ◌∙◌, ℕ, zero, suc, Bool, true, false, cond}
use Rattle.std.proofs.Common.{◌&&◌, ◌||◌, ◌==◌, List, [], ◌∷◌, ◌++◌, map, slice_get, Option, Some}
use Rattle.std.proofs.Common.{None, is_some, option_map}
use Rattle.std.specs.Bool.{Decides}
use Rattle.std.proofs.lemmas.Bool.Decides.{Decides-eqb}
use Rattle.std.specs.Cmp.Lexicographic.{bytes_decides}
use Rattle.std.specs.List.{position_from, list_any, flat_map, filter_map}
use Rattle.std.specs.Option.{option_and_then}
use Rattle.std.specs.Str.{bytes_eq}
use Rattle.oxc_sourcemap_tokens.specs.Token.{TokenRecord}
use Rattle.oxc_sourcemap_parts.specs.DecodedMap.{DecodedSource, OriginalPosition, original_at}
use Rattle.oxc_sourcemap_parts.specs.DecodedMap.{name_of, sources_of}
use Rattle.oxc_sourcemap_parts.specs.Record.{Text, MapRecord}
use Rattle.oxc_sourcemap_parts.specs.Sorted.{token_line, token_column}
use Rattle.oxc_sourcemap_parts.specs.Texts.{index_of, with_text_at, with_text, with_texts}
use Rattle.oxc_sourcemap_lookup.specs.Trace.{original_in}
use Rattle.oxc_sourcemap_join.specs.Joined.{is_same_option, is_same_id}
use Rattle.oxc_sourcemap_join.proofs.SameToken.{decides_option}
use Rattle.oxc_sourcemap_steps.proofs.Flags.{marked-unmarked}
use Rattle.oxc_sourcemap_steps.specs.Same.{is_same_source, is_same_original}
use Rattle.oxc_sourcemap_steps.specs.Simple.{is_repeat, is_after_repeat, kept_after, kept_item}
use Rattle.oxc_sourcemap_steps.specs.Simple.{are_together}
use Rattle.oxc_sourcemap_steps.specs.Simplified.{is_same_marked, index_of_marked, listings}
use Rattle.oxc_sourcemap_steps.specs.Simplified.{with_sources, source_in, name_in, are_alike_in}
use Rattle.oxc_sourcemap_steps.specs.Simplified.{token_at_next_column, marked_source_of}
use Rattle.oxc_sourcemap_steps.specs.Simplified.{token_among}
use Rattle.oxc_sourcemap_steps.specs.SimplifySteps.{index_in, with_any, listed_in, source_among}
use Rattle.oxc_sourcemap_steps.specs.SimplifySteps.{own_index, AreTables, target_at, target_by}
use Rattle.oxc_sourcemap_steps.specs.SimplifySteps.{is_same_target, are_alike_by, is_behind}
use Rattle.oxc_sourcemap_steps.specs.SimplifySteps.{repeats_by, kept_from, with_name, with_source}
use Rattle.oxc_sourcemap_steps.specs.SimplifySteps.{with_all, token_to}
use Rattle.oxc_sourcemap_steps.specs.declared.simplify.sources.Source.{Source}
use Rattle.oxc_sourcemap_steps.specs.declared.simplify.tokens.Tables.{Tables}
use Rattle.oxc_sourcemap_steps.proofs.Same.{decides_source}
use Rattle.oxc_sourcemap_steps.proofs.Codes.{AreCodes, IsAnyCode, any-code-at, any-is, same-code}
use Rattle.oxc_sourcemap_steps.proofs.Codes.{eq-codes, place-same, codes-with, with_one}
use Rattle.oxc_sourcemap_steps.proofs.Listed.{decides_marked, AreMarkedCodes, codes-source}

pub get-map : {A B : Type 0} (f : A → B) (xs : List A) (i : ℕ) → slice_get (map f xs) i ≡ option_map f (slice_get xs i)
get-map f [] i = refl
get-map f (x ∷ xs) zero = refl
get-map f (x ∷ xs) (suc i) = get-map f xs i

get-any : {A B : Type 0} (f : A → B) (xs : List A) (o : Option ℕ) → option_and_then (slice_get (map f xs)) o ≡ option_map f (option_and_then (slice_get xs) o)
get-any f xs None = refl
get-any f xs (Some i) = get-map f xs i

map-twice : {A B C : Type 0} (f : A → B) (g : B → C) (o : Option A) → option_map g (option_map f o) ≡ option_map (λ x. g (f x)) o
map-twice f g None = refl
map-twice f g (Some x) = refl

-- an item of a list has an index
has-any : {A : Type 0} (same : A → A → Bool) (decides : (x y : A) → Decides (same x y) (x ≡ y)) (xs : List A) (i : ℕ) (x : A) → slice_get xs i ≡ Some x → list_any (same x) xs ≡ true
has-any same decides [] i x e = absurd (cc (e))
has-any same decides (y ∷ ys) zero x e = let h : y ≡ x = cc (e) in rw ((decides x y).1 (sym h)) refl
has-any same decides (y ∷ ys) (suc i) x e =
    elim (same x y) as (λ b. (b || list_any (same x) ys) ≡ true) [ true ↦ refl | false ↦ has-any same decides ys i x e ]

some-of : {A : Type 0} (o : Option A) → is_some o ≡ true → (x : A) × (o ≡ Some x)
some-of None e = absurd (cc (e))
some-of (Some x) e = (x, refl)

pub code-of : {A : Type 0} (same : A → A → Bool) (decides : (x y : A) → Decides (same x y) (x ≡ y)) (xs : List A) (i : ℕ) (x : A) → slice_get xs i ≡ Some x → (k : ℕ) × (position_from (same x) 0 xs ≡ Some k)
code-of same decides xs i x e = some-of (position_from (same x) 0 xs) (sym (any-is (same x) 0 xs) ∙ has-any same decides xs i x e)

module _ (r : MapRecord) where
  abbrev listed : List (DecodedSource × Bool)
  listed = listed_in r

  abbrev among : DecodedSource × Bool → Source
  among m = source_among listed m

  -- a token by its marked source
  original-is : (t : TokenRecord) → original_in r t ≡ option_map (λ m. original_at r.names t m.0) (marked_source_of r t)
  original-is t =
      let ss = sources_of r.sources r.source_contents in
      let un : map (λ m. m.0) listed ≡ ss = marked-unmarked 0 ss r.ignore_list in
      ap (λ xs. option_map (original_at r.names t) (option_and_then (slice_get xs) t.source_id)) (sym un)
      ∙ ap (option_map (original_at r.names t)) (get-any (λ (m : DecodedSource × Bool). m.0) listed t.source_id)
      ∙ map-twice (λ (m : DecodedSource × Bool). m.0) (original_at r.names t) (marked_source_of r t)

  module _ (tables : Tables) (are : AreTables r tables) where
    target-is : (t : TokenRecord) → target_by tables t ≡ option_map (λ m. target_at tables.names.items t (among m)) (marked_source_of r t)
    target-is t =
        ap (λ ss. option_map (target_at tables.names.items t) (option_and_then (slice_get ss) t.source_id)) are.sources
        ∙ ap (option_map (target_at tables.names.items t)) (get-any among listed t.source_id)
        ∙ map-twice among (target_at tables.names.items t) (marked_source_of r t)

    name-code : (t : TokenRecord) → IsAnyCode bytes_eq bytes_decides r.names (option_and_then (slice_get tables.names.items) t.name_id) (name_of r.names t)
    name-code t = any-code-at bytes_eq bytes_decides r.names tables.names.items are.names t.name_id

    -- a marked source that a token has is listed
    listed-at : (id : Option ℕ) (m : DecodedSource × Bool) → option_and_then (slice_get listed) id ≡ Some m → (k : ℕ) × (index_of_marked m listed ≡ Some k)
    listed-at None m e = absurd (cc (e))
    listed-at (Some i) m e = code-of is_same_marked decides_marked listed i m e

    -- ---- tokens that point alike
    names-same : (a b : Option ℕ) (x y : Option Text) → IsAnyCode bytes_eq bytes_decides r.names a x → IsAnyCode bytes_eq bytes_decides r.names b y → is_same_id a b ≡ is_same_option bytes_eq x y
    names-same None None None None h g = refl
    names-same None None None (Some y) h g = elim g [ ]
    names-same None None (Some x) y h g = elim h [ ]
    names-same None (Some b) None None h g = elim g [ ]
    names-same None (Some b) None (Some y) h g = refl
    names-same None (Some b) (Some x) y h g = elim h [ ]
    names-same (Some a) b None y h g = elim h [ ]
    names-same (Some a) None (Some x) None h g = refl
    names-same (Some a) None (Some x) (Some y) h g = elim g [ ]
    names-same (Some a) (Some b) (Some x) None h g = elim g [ ]
    names-same (Some a) (Some b) (Some x) (Some y) h g = eq-codes bytes_eq bytes_decides r.names a b x y h g

    own-mark : (b : Bool) (s : DecodedSource) → cond b (index_of_marked (s, true) listed) (index_of_marked (s, false) listed) ≡ index_of_marked (s, b) listed
    own-mark true s = refl
    own-mark false s = refl

    decides_id : (a b : Option ℕ) → Decides (is_same_id a b) (a ≡ b)
    decides_id a b = decides_option (λ i j. i == j) Decides-eqb a b

    ids-by : (b : Bool) (p q x y : Option ℕ) → is_same_id p q ≡ true → is_same_id x y ≡ true → cond b x p ≡ cond b y q
    ids-by true p q x y e f = (decides_id x y).0 f
    ids-by false p q x y e f = (decides_id p q).0 e

    abbrev places-same : DecodedSource → DecodedSource → Bool
    places-same s t =
        is_same_id (index_of_marked (s, false) listed) (index_of_marked (t, false) listed)
        && is_same_id (index_of_marked (s, true) listed) (index_of_marked (t, true) listed)

    and-both : (a b : Bool) → (a && b) ≡ true → (a ≡ true) × (b ≡ true)
    and-both true true e = (refl, refl)
    and-both true false e = absurd (cc (e))
    and-both false b e = absurd (cc (e))

    and-from : (a b : Bool) → a ≡ true → b ≡ true → (a && b) ≡ true
    and-from a b e f = rw e f

    -- sources are equal exactly if they are listed at the same places
    sources-same : (m : DecodedSource × Bool) (t : DecodedSource) (k : ℕ) → index_of_marked m listed ≡ Some k → places-same m.0 t ≡ is_same_source m.0 t
    sources-same m t k e =
        elim (is_same_source m.0 t) as (λ b. is_same_source m.0 t ≡ b → places-same m.0 t ≡ b) [
          | true ↦ (λ q.
              let same : m.0 ≡ t = (decides_source m.0 t).0 q in
              and-from _ _
              ((decides_id _ _).1 (ap (λ (s : DecodedSource). index_of_marked (s, false) listed) same))
              ((decides_id _ _).1 (ap (λ (s : DecodedSource). index_of_marked (s, true) listed) same)))
          | false ↦ (λ q. elim (places-same m.0 t) as (λ b. places-same m.0 t ≡ b → b ≡ false) [
            | true ↦ (λ p.
                let both = and-both _ _ p in
                let own : index_of_marked (m.0, m.1) listed ≡ index_of_marked (t, m.1) listed =
                sym (own-mark m.1 m.0) ∙ ids-by m.1 _ _ _ _ both.0 both.1 ∙ own-mark m.1 t in
                let same : (m.0, m.1) ≡ (t, m.1) = same-code is_same_marked decides_marked listed (m.0, m.1) (t, m.1) k e (sym own ∙ e) in
                let is : is_same_source m.0 t ≡ true = (decides_source m.0 t).1 (ap (λ (n : DecodedSource × Bool). n.0) same) in
                cc (is, q))
            | false ↦ (λ p. refl)
          ] refl)
        ] refl

    and-assoc : (a b c : Bool) → (a && (b && c)) ≡ ((a && b) && c)
    and-assoc true b c = refl
    and-assoc false b c = refl

    targets-same : (t u : TokenRecord) (m n : DecodedSource × Bool) (k : ℕ) → index_of_marked m listed ≡ Some k
        → is_same_target (target_at tables.names.items t (among m)) (target_at tables.names.items u (among n)) ≡ is_same_original (original_at r.names t m.0) (original_at r.names u n.0)
    targets-same t u m n k e =
        let rest = t.src_line == u.src_line && (t.src_col == u.src_col && is_same_id (option_and_then (slice_get tables.names.items) t.name_id) (option_and_then (slice_get tables.names.items) u.name_id)) in
        and-assoc (is_same_id (index_of_marked (m.0, false) listed) (index_of_marked (n.0, false) listed)) (is_same_id (index_of_marked (m.0, true) listed) (index_of_marked (n.0, true) listed)) rest
        ∙ ap (λ b. b && rest) (sources-same m n.0 k e)
        ∙ ap (λ b. is_same_source m.0 n.0 && (t.src_line == u.src_line && (t.src_col == u.src_col && b))) (names-same _ _ _ _ (name-code t) (name-code u))

    alike-by : (t u : TokenRecord) (m n : Option (DecodedSource × Bool)) → marked_source_of r t ≡ m
        → is_same_option is_same_target (option_map (λ m. target_at tables.names.items t (among m)) m) (option_map (λ m. target_at tables.names.items u (among m)) n)
        ≡ is_same_option is_same_original (option_map (λ m. original_at r.names t m.0) m) (option_map (λ m. original_at r.names u m.0) n)
    alike-by t u None None e = refl
    alike-by t u None (Some n) e = refl
    alike-by t u (Some m) None e = refl
    alike-by t u (Some m) (Some n) e = let k = listed-at t.source_id m e in targets-same t u m n k.0 k.1

    -- tokens point alike by the tables exactly if they do in the map
    pub alike-is : (t u : TokenRecord) → are_alike_by tables t u ≡ are_alike_in r t u
    alike-is t u =
        ap (λ o. is_same_option is_same_target o (target_by tables u)) (target-is t)
        ∙ ap (is_same_option is_same_target (option_map (λ m. target_at tables.names.items t (among m)) (marked_source_of r t))) (target-is u)
        ∙ alike-by t u (marked_source_of r t) (marked_source_of r u) refl
        ∙ ap (λ o. is_same_option is_same_original o (option_map (λ m. original_at r.names u m.0) (marked_source_of r u))) (sym (original-is t))
        ∙ ap (is_same_option is_same_original (original_in r t)) (sym (original-is u))

    -- ---- what is kept
    abbrev nearest : List TokenRecord → Option TokenRecord
    nearest [] = None
    nearest (p ∷ before) = Some p

    abbrev is-known : List TokenRecord → Bool → Type 0
    is-known [] b = Unit {0}
    is-known (p ∷ before) b = b ≡ is_repeat token_line (are_alike_in r) before p

    repeats-is : (before : List TokenRecord) (t : TokenRecord) → repeats_by tables (nearest before) t ≡ is_repeat token_line (are_alike_in r) before t
    repeats-is [] t = refl
    repeats-is (p ∷ before) t = ap (λ b. token_line p == token_line t && b) (alike-is p t)

    moves-is : (before : List TokenRecord) (b : Bool) (t : TokenRecord) → is-known before b → (is_behind (nearest before) t && b) ≡ is_after_repeat token_line token_column (are_alike_in r) before t
    moves-is [] b t h = refl
    moves-is (p ∷ before) b t h = ap (λ c. are_together token_line token_column p t && c) h

    abbrev kept : List TokenRecord → List TokenRecord → List TokenRecord
    kept before ts = kept_after token_line (are_alike_in r) token_at_next_column (is_after_repeat token_line token_column (are_alike_in r)) before ts

    kept-is-from : (before : List TokenRecord) (b : Bool) (ts : List TokenRecord) → is-known before b → kept_from tables (nearest before) b ts ≡ kept before ts
    kept-is-from before b [] h = refl
    kept-is-from before b (t ∷ ts) h =
        let p = nearest before in
        let rep = repeats_by tables p t in
        let more = kept_from tables (Some t) rep ts in
        ap (λ c. cond rep [] ((cond c (token_at_next_column t) t) ∷ []) ++ more) (moves-is before b t h)
        ∙ ap (λ c. cond c [] ((cond (is_after_repeat token_line token_column (are_alike_in r) before t) (token_at_next_column t) t) ∷ []) ++ more) (repeats-is before t)
        ∙ ap (λ zs. kept_item token_line (are_alike_in r) token_at_next_column (is_after_repeat token_line token_column (are_alike_in r)) before t ++ zs) (kept-is-from (t ∷ before) rep ts (repeats-is before t))

    pub kept-is : (ts : List TokenRecord) → kept_from tables None false ts ≡ kept [] ts
    kept-is ts = kept-is-from [] false ts tt

    -- ---- what is needed
    abbrev AreNameCodes : List ℕ → List Text → Type 0
    AreNameCodes ks xs = AreCodes bytes_eq bytes_decides r.names ks xs

    text-by : (o : Option ℕ) (xs : List Text) (x : Text) → with_text_at o xs x ≡ cond (is_some o) xs (xs ++ x ∷ [])
    text-by None xs x = refl
    text-by (Some i) xs x = refl

    one-text : (xs : List Text) (x : Text) → with_one bytes_eq bytes_decides xs x ≡ with_text xs x
    one-text xs x = ap (λ b. cond b xs (xs ++ x ∷ [])) (any-is (bytes_eq x) 0 xs) ∙ sym (text-by (index_of x xs) xs x)

    abbrev with-any-text : List Text → Option Text → List Text
    with-any-text xs None = xs
    with-any-text xs (Some x) = with_text xs x

    codes-name : (o : Option ℕ) (x : Option Text) (ks : List ℕ) (xs : List Text) → IsAnyCode bytes_eq bytes_decides r.names o x → AreNameCodes ks xs → AreNameCodes (with_any ks o) (with-any-text xs x)
    codes-name None None ks xs h g = g
    codes-name None (Some x) ks xs h g = elim h [ ]
    codes-name (Some k) None ks xs h g = elim h [ ]
    codes-name (Some k) (Some x) ks xs h g = subst (AreNameCodes (with_any ks (Some k))) (one-text xs x) (codes-with bytes_eq bytes_decides r.names k x ks xs h g)

    texts-cons : (o : Option OriginalPosition) (xs : List Text) (os : List (Option OriginalPosition)) (n : Option Text) → name_in o ≡ n → with_texts xs (filter_map name_in (o ∷ os)) ≡ with_texts (with-any-text xs n) (filter_map name_in os)
    texts-cons o xs os None e = rw e refl
    texts-cons o xs os (Some x) e = rw e refl

    -- the name of a token that points to a source
    target-name : (t : TokenRecord) (m : Option (DecodedSource × Bool)) →
        IsAnyCode bytes_eq bytes_decides r.names (option_and_then (λ target. target.name) (option_map (λ m. target_at tables.names.items t (among m)) m)) (name_in (option_map (λ m. original_at r.names t m.0) m))
    target-name t None = tt
    target-name t (Some m) = name-code t

    needed-name : (t : TokenRecord) → IsAnyCode bytes_eq bytes_decides r.names (option_and_then (λ target. target.name) (target_by tables t)) (name_in (original_in r t))
    needed-name t = rw (target-is t, original-is t) (target-name t (marked_source_of r t))

    pub names-are : (ks : List ℕ) (xs : List Text) (ts : List TokenRecord) → AreNameCodes ks xs → AreNameCodes (with_all (with_name tables) ks ts) (with_texts xs (filter_map name_in (map (original_in r) ts)))
    names-are ks xs [] h = h
    names-are ks xs (t ∷ ts) h =
        subst (AreNameCodes (with_all (with_name tables) ks (t ∷ ts))) (sym (texts-cons (original_in r t) xs (map (original_in r) ts) (name_in (original_in r t)) refl))
        (names-are (with_name tables ks t) (with-any-text xs (name_in (original_in r t))) ts (codes-name _ _ ks xs (needed-name t) h))

    abbrev all-of : List DecodedSource → List (DecodedSource × Bool)
    all-of ss = flat_map (listings listed) ss

    sources-by : (t : TokenRecord) (ks : List ℕ) (ss : List DecodedSource) (os : List (Option OriginalPosition)) (m : Option (DecodedSource × Bool)) → marked_source_of r t ≡ m → AreMarkedCodes listed ks (all-of ss)
        → (zs : List DecodedSource) × AreMarkedCodes listed (with_source tables ks t) (all-of zs) × (with_sources ss (filter_map source_in (original_in r t ∷ os)) ≡ with_sources zs (filter_map source_in os))
    sources-by t ks ss os None e h = (ss, rw (target-is t, e) h, rw (original-is t, e) refl)
    sources-by t ks ss os (Some m) e h = (
      with_one is_same_source decides_source ss m.0,
      rw (target-is t, e) (codes-source listed ks ss m.0 h),
      rw (original-is t, e) refl,
    )

    pub sources-are : (ks : List ℕ) (ss : List DecodedSource) (ts : List TokenRecord) → AreMarkedCodes listed ks (all-of ss)
        → AreMarkedCodes listed (with_all (with_source tables) ks ts) (all-of (with_sources ss (filter_map source_in (map (original_in r) ts))))
    sources-are ks ss [] h = h
    sources-are ks ss (t ∷ ts) h =
        let one = sources-by t ks ss (map (original_in r) ts) (marked_source_of r t) refl h in
        subst (λ zs. AreMarkedCodes listed (with_all (with_source tables) ks (t ∷ ts)) (all-of zs)) (sym one.2) (sources-are (with_source tables ks t) one.0 ts one.1)

    -- ---- new ids
    module _ (ks : List ℕ) (ms : List (DecodedSource × Bool)) (ns : List ℕ) (xs : List Text) (sources : AreMarkedCodes listed ks ms) (names : AreNameCodes ns xs) where
      name-id : (o : Option ℕ) (x : Option Text) → IsAnyCode bytes_eq bytes_decides r.names o x → option_and_then (λ k. index_in k ns) o ≡ option_and_then (λ name. index_of name xs) x
      name-id None None h = refl
      name-id None (Some x) h = elim h [ ]
      name-id (Some k) None h = elim h [ ]
      name-id (Some k) (Some x) h = place-same bytes_eq bytes_decides r.names k x ns xs h names

      token-by : (t : TokenRecord) (m : Option (DecodedSource × Bool)) → marked_source_of r t ≡ m
          → token_to ks ns t (option_map (λ m. target_at tables.names.items t (among m)) m) ≡ token_among ms xs (name_of r.names t) t m
      token-by t None e = refl
      token-by t (Some m) e =
          let k = listed-at t.source_id m e in
          let own : own_index (among m) ≡ Some k.0 = own-mark m.1 m.0 ∙ k.1 in
          let source : option_and_then (λ k. index_in k ks) (own_index (among m)) ≡ index_of_marked m ms =
          ap (option_and_then (λ k. index_in k ks)) own ∙ place-same is_same_marked decides_marked listed k.0 m ks ms k.1 sources in
          let name = name-id _ _ (name-code t) in
          ap (λ id. record t { source_id = id; name_id = option_and_then (λ k. index_in k ns) (option_and_then (slice_get tables.names.items) t.name_id) }) source
          ∙ ap (λ id. record t { source_id = index_of_marked m ms; name_id = id }) name

      pub token-is : (t : TokenRecord) → token_to ks ns t (target_by tables t) ≡ token_among ms xs (name_of r.names t) t (marked_source_of r t)
      token-is t = ap (token_to ks ns t) (target-is t) ∙ token-by t (marked_source_of r t) refl
