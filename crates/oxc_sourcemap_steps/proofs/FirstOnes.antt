-- The first of equal texts and of equal sources.
use Rattle.std.proofs.Common.{◌≡◌, refl, sym, ap, ◌∙◌, ℕ, zero, suc, ◌+◌, ◌<◌, List, [], ◌∷◌, ◌++◌}
use Rattle.std.proofs.Common.{map, length, get_or, slice_get, take, Option, Some, None, Bool, true}
use Rattle.std.proofs.Common.{cond, arith, drop, false, Bor, nat_eq, option_map, ◌&&◌}
use Rattle.std.specs.List.{zip, position_from, AllByRecursion}
use Rattle.std.specs.Cmp.Lexicographic.{pointwise}
use Rattle.std.specs.Option.{option_and_then, option_or, option_eq, unwrap_or}
use Rattle.std.specs.Str.{bytes_eq}
use Rattle.std.proofs.lemmas.List.{length-map, length-take-le, map-append, take-append-drop}
use Rattle.std.proofs.lemmas.List.{take-map, take_more}
use Rattle.oxc_sourcemap_parts.specs.DecodedMap.{DecodedSource, sources_of}
use Rattle.oxc_sourcemap_parts.specs.Record.{Text}
use Rattle.oxc_sourcemap_join.specs.Joined.{is_same_option}
use Rattle.oxc_sourcemap_steps.proofs.Indices.{take-one}
use Rattle.oxc_sourcemap_steps.specs.Same.{is_same_source}
use Rattle.oxc_sourcemap_steps.specs.SimplifySteps.{lent_source, SourceKey, is_same_key}
use Rattle.oxc_sourcemap_steps.proofs.Same.{decides_source}
use Rattle.oxc_sourcemap_steps.proofs.NextNumbers.{position-append, position-push}

-- a source of a map, by its path and its content
pub source-seen : {A B : Type 0} (f : A → Text) (g : B → Option Text) (ts : List A) (cs : List B) (i : ℕ) (t : A) → i < length ts → t ≡ get_or ts i t
    → slice_get (sources_of (map f ts) (map g cs)) i ≡ Some (record { path = f t; content = option_and_then g (slice_get cs i) })
source-seen f g [] cs i t h e = absurd (omega (arith, h))
source-seen f g (s ∷ ts) [] zero t h e = ap (λ z. Some (record { path = f z; content = None })) (sym e)
source-seen f g (s ∷ ts) [] (suc i) t h e = source-seen f g ts [] i t (omega (arith, h)) e
source-seen f g (s ∷ ts) (c ∷ cs) zero t h e = ap (λ z. Some (record { path = f z; content = g c })) (sym e)
source-seen f g (s ∷ ts) (c ∷ cs) (suc i) t h e = source-seen f g ts cs i t (omega (arith, h)) e

-- one pair more
pub zip-at : {A B : Type 0} (xs : List A) (ys : List B) (i : ℕ) (x : A) (y : B) → i < length xs → i < length ys → x ≡ get_or xs i x → y ≡ get_or ys i y → slice_get (zip xs ys) i ≡ Some (x, y)
zip-at [] ys i x y h g e f = absurd (omega (arith, h))
zip-at (a ∷ xs) [] i x y h g e f = absurd (omega (arith, g))
zip-at {A = A} {B = B} (a ∷ xs) (b ∷ ys) zero x y h g e f = ap (λ (z : A). Some (z, b)) (sym e) ∙ ap (λ (z : B). Some (x, z)) (sym f)
zip-at (a ∷ xs) (b ∷ ys) (suc i) x y h g e f = zip-at xs ys i x y (omega (arith, h)) (omega (arith, g)) e f

pub count-zip : {A B : Type 0} (xs : List A) (ys : List B) → length ys ≡ length xs → length (zip xs ys) ≡ length xs
count-zip [] ys e = refl
count-zip (x ∷ xs) [] e = absurd (omega (arith, e))
count-zip (x ∷ xs) (y ∷ ys) e = ap suc (count-zip xs ys (omega (arith, e)))

-- the first equal one of those up to an item is the first of all
up-to : (o p : Option ℕ) (n : ℕ) → option_or (option_or o (Some n)) p ≡ Some (unwrap_or o n)
up-to None p n = refl
up-to (Some i) p n = refl

pub first-of-all : {A : Type 0} (t : A → Bool) (before after all : List A) (x : A) (n : ℕ) → t x ≡ true → n ≡ length before → all ≡ (before ++ x ∷ []) ++ after
    → Some (unwrap_or (position_from t 0 before) n) ≡ position_from t 0 all
first-of-all t before after all x n e c is =
    sym (ap (position_from t 0) is ∙ position-append t 0 (before ++ x ∷ []) after
    ∙ ap (λ o. option_or o (position_from t (0 + length (before ++ x ∷ [])) after)) (position-push t before x n c ∙ ap (λ b. option_or (position_from t 0 before) (cond b (Some n) None)) e)
    ∙ up-to (position_from t 0 before) _ n)

-- what holds of all holds of one
pub all-at : {A : Type 0} (P : A → Type 0) (xs : List A) (i : ℕ) (d : A) → i < length xs → AllByRecursion P xs → P (get_or xs i d)
all-at P [] i d h a = absurd (omega (arith, h))
all-at P (x ∷ xs) zero d h a = a.0
all-at P (x ∷ xs) (suc i) d h a = all-at P xs i d (omega (arith, h)) a.1

-- one more item with the index of its first equal one
pub firsts-next : {A : Type 0} (same : A → A → Bool) (items : List A) (i : ℕ) (item : A) (old new : List ℕ) (k : ℕ) → i < length items → item ≡ get_or items i item → same item item ≡ true
    → new ≡ old ++ k ∷ [] → k ≡ unwrap_or (position_from (same item) 0 (take i items)) i
    → map (λ n. Some n) old ≡ map (λ x. position_from (same x) 0 items) (take i items)
    → map (λ n. Some n) new ≡ map (λ x. position_from (same x) 0 items) (take (i + 1) items)
firsts-next same items i item old new k h at self more is inv =
    let before = take i items in
    let one : take (i + 1) items ≡ before ++ item ∷ [] = take_more items i item h ∙ ap (λ z. before ++ z ∷ []) (sym at) in
    let whole : items ≡ (before ++ item ∷ []) ++ drop (i + 1) items = sym (take-append-drop (i + 1) items) ∙ ap (λ zs. zs ++ drop (i + 1) items) one in
    let count : i ≡ length before = sym (length-take-le i items (omega (arith, h))) in
    let last : Some k ≡ position_from (same item) 0 items = ap (λ n. Some n) is ∙ first-of-all (same item) before (drop (i + 1) items) items item i self count whole in
    ap (map (λ n. Some n)) more ∙ map-append (λ n. Some n) old (k ∷ [])
    ∙ ap (λ zs. zs ++ Some k ∷ []) inv ∙ ap (λ o. map (λ x. position_from (same x) 0 items) before ++ o ∷ []) last
    ∙ sym (map-append (λ x. position_from (same x) 0 items) before (item ∷ [])) ∙ ap (map (λ x. position_from (same x) 0 items)) (sym one)

get-map-at : {A B : Type 0} (f : A → B) (xs : List A) (i : ℕ) (x : A) (d : B) → i < length xs → x ≡ get_or xs i x → f x ≡ get_or (map f xs) i d
get-map-at f [] i x d h e = absurd (omega (arith, h))
get-map-at f (y ∷ ys) zero x d h e = ap f e
get-map-at f (y ∷ ys) (suc i) x d h e = get-map-at f ys i x d (omega (arith, h)) e

-- the same of what items are seen as
pub firsts-more : {A B : Type 0} (same : B → B → Bool) (f : A → B) (xs : List A) (i : ℕ) (item : A) (old new : List ℕ) (k : ℕ) → i < length xs → item ≡ get_or xs i item → same (f item) (f item) ≡ true
    → new ≡ old ++ k ∷ [] → k ≡ unwrap_or (position_from (same (f item)) 0 (map f (take i xs))) i
    → map (λ n. Some n) old ≡ map (λ x. position_from (same x) 0 (map f xs)) (map f (take i xs))
    → map (λ n. Some n) new ≡ map (λ x. position_from (same x) 0 (map f xs)) (map f (take (i + 1) xs))
firsts-more same f xs i item old new k h at self more is inv =
    let count = length-map xs f in
    firsts-next same (map f xs) i (f item) old new k (omega (arith, h, count)) (get-map-at f xs i item (f item) h at) self more
    (is ∙ ap (λ zs. unwrap_or (position_from (same (f item)) 0 zs) i) (sym (take-map f i xs)))
    (inv ∙ ap (map (λ x. position_from (same x) 0 (map f xs))) (sym (take-map f i xs)))
    ∙ ap (map (λ x. position_from (same x) 0 (map f xs))) (take-map f (i + 1) xs)

-- ---- sources as keys
key-by : (x y : Option (Bor Text)) → option_eq (λ a b. pointwise nat_eq a.now b.now) x y ≡ is_same_option bytes_eq (option_map (λ t. t.now) x) (option_map (λ t. t.now) y)
key-by None None = refl
key-by None (Some y) = refl
key-by (Some x) None = refl
key-by (Some x) (Some y) = refl

pub key-is : (a b : SourceKey) → is_same_key a b ≡ is_same_source (lent_source a) (lent_source b)
key-is a b = ap (λ c. bytes_eq a.0.now b.0.now && c) (key-by a.1 b.1)

both-ways : (b c : Bool) → (b ≡ true → c ≡ true) → (c ≡ true → b ≡ true) → b ≡ c
both-ways true c f g = sym (f refl)
both-ways false true f g = g refl
both-ways false false f g = refl

turned : (s t : DecodedSource) → is_same_source s t ≡ is_same_source t s
turned s t = both-ways (is_same_source s t) (is_same_source t s)
    (λ e. (decides_source t s).1 (sym ((decides_source s t).0 e)))
    (λ e. (decides_source s t).1 (sym ((decides_source t s).0 e)))

step-by : (b c : Bool) (o p : Option ℕ) (i : ℕ) → b ≡ c → (b ≡ true → o ≡ p) → cond b (Some (unwrap_or o i)) p ≡ option_or p (cond c (Some i) None)
step-by true true o None i e h = ap (λ z. Some (unwrap_or z i)) (h refl)
step-by true true o (Some j) i e h = ap (λ z. Some (unwrap_or z i)) (h refl)
step-by true false o p i e h = absurd (cc (e))
step-by false true o p i e h = absurd (cc (e))
step-by false false o None i e h = refl
step-by false false o (Some j) i e h = refl

-- one more source with its place
pub places-next : (items : List DecodedSource) (i : ℕ) (key q : SourceKey) (got before : Option ℕ) (now : Option ℕ) → i < length items → slice_get items i ≡ Some (lent_source key)
    → now ≡ cond (is_same_key key q) (Some (unwrap_or got i)) before
    → got ≡ position_from (is_same_source (lent_source key)) 0 (take i items) → before ≡ position_from (is_same_source (lent_source q)) 0 (take i items)
    → now ≡ position_from (is_same_source (lent_source q)) 0 (take (i + 1) items)
places-next items i key q got before now h at upd g b =
    let s = lent_source key in
    let count : i ≡ length (take i items) = sym (length-take-le i items (omega (arith, h))) in
    let same-key : is_same_key key q ≡ is_same_source (lent_source q) s = key-is key q ∙ turned s (lent_source q) in
    let equal : is_same_key key q ≡ true → got ≡ before = λ e.
    let is : s ≡ lent_source q = (decides_source s (lent_source q)).0 (sym (key-is key q) ∙ e) in
    g ∙ ap (λ z. position_from (is_same_source z) 0 (take i items)) is ∙ sym b in
    upd ∙ step-by (is_same_key key q) (is_same_source (lent_source q) s) got before i same-key equal
    ∙ ap (λ o. option_or o (cond (is_same_source (lent_source q) s) (Some i) None)) b
    ∙ sym (position-push (is_same_source (lent_source q)) (take i items) s i count)
    ∙ ap (position_from (is_same_source (lent_source q)) 0) (sym (take-one items i s at))
