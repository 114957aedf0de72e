-- The numbers of places with indices behind them: what stands at the index, and which numbers there are for a place.
use Rattle.std.proofs.Common.{◌≡◌, refl, sym, ap, subst, ◌∙◌, ℕ, zero, suc, ◌+◌, ◌*◌, ◌/◌, ◌%◌, ◌<◌}
use Rattle.std.proofs.Common.{◌≤◌, Bool, true, false, cond, not, ◌&&◌, ◌==◌, nat_lt, List, [], ◌∷◌}
use Rattle.std.proofs.Common.{length, get_or, drop, map, Option, Some, None, arith}
use Rattle.std.proofs.lemmas.Bool.Decides.{nat_tests}
use Rattle.std.proofs.lemmas.List.{length-map, get_or-map}
use Rattle.std.proofs.lemmas.List.Elements.{All-map, All-from_recursion, recursion_from_All}
use Rattle.std.proofs.lemmas.List.Sorted.{All-permutation}
use Rattle.std.specs.List.{filter, All, AllByRecursion}
use Rattle.std.specs.List.Sorted.{IsNonDecreasingBy, IsStableByKey, IsPermutation}
use Rattle.std.specs.Ordering.{is_lt, nat_cmp}
use Rattle.oxc_sourcemap_tokens.specs.Token.{TokenRecord, IsInBounds, is_mapped, AreInBounds}
use Rattle.oxc_sourcemap_map.specs.Reverse.{is_at, passing_from}
use Rattle.oxc_sourcemap_map.specs.Places.{original_number, token_original, numbered_from, no_token}
use Rattle.oxc_sourcemap_map.specs.Places.{listed, IsOrderOf}

-- the number before the 32 digits, and the digits
pub front_of : (p i : ℕ) → i < 4294967296 → (p * 4294967296 + i) / 4294967296 ≡ p
front_of p i h = omega (arith, h)

pub digits_of : (p i : ℕ) → i < 4294967296 → (p * 4294967296 + i) % 4294967296 ≡ i
digits_of p i h = omega (arith, h)

-- the token whose index is behind a number
abbrev pub behind : List TokenRecord → ℕ → TokenRecord
behind tokens n = get_or tokens (n % 4294967296) no_token

pub drop_next : {A : Type 0} (xs : List A) (n : ℕ) (y : A) (ys : List A) → drop n xs ≡ y ∷ ys → drop (n + 1) xs ≡ ys
drop_next [] zero y ys h = cc (h)
drop_next [] (suc n) y ys h = cc (h)
drop_next (x ∷ xs) zero y ys h = grind (arith, h)
drop_next (x ∷ xs) (suc n) y ys h = (let next : suc n + 1 ≡ suc (n + 1) = omega arith in ap (λ k. drop k (x ∷ xs)) next ∙ drop_next xs n y ys h)

pub drop_here : {A : Type 0} (xs : List A) (n : ℕ) (d y : A) (ys : List A) → drop n xs ≡ y ∷ ys → get_or xs n d ≡ y
drop_here [] zero d y ys h = cc (h)
drop_here [] (suc n) d y ys h = cc (h)
drop_here (x ∷ xs) zero d y ys h = grind (arith, h)
drop_here (x ∷ xs) (suc n) d y ys h = drop_here xs n d y ys h

pub drop_long : {A : Type 0} (xs : List A) (n : ℕ) (y : A) (ys : List A) → drop n xs ≡ y ∷ ys → n < length xs
drop_long [] zero y ys h = cc (h)
drop_long [] (suc n) y ys h = cc (h)
drop_long (x ∷ xs) zero y ys h = omega arith
drop_long (x ∷ xs) (suc n) y ys h = omega (arith, drop_long xs n y ys h)

-- a number has its place in front, and its index behind is within the tokens
abbrev pub IsNumbered : List TokenRecord → ℕ → Type 0
IsNumbered tokens n = (n % 4294967296 < length tokens) × (token_original (behind tokens n) ≡ n / 4294967296)

numbered-here : (tokens : List TokenRecord) (n : ℕ) (t : TokenRecord) → n < length tokens → n < 4294967296 → get_or tokens n no_token ≡ t → IsNumbered tokens (token_original t * 4294967296 + n)
numbered-here tokens n t h k e =
    let d = digits_of (token_original t) n k in
    (omega (arith, h, d), ap token_original (ap (λ i. get_or tokens i no_token) d ∙ e) ∙ sym (front_of (token_original t) n k))

numbered-by : (b : Bool) (tokens : List TokenRecord) (n : ℕ) (ns : List ℕ) → IsNumbered tokens n → AllByRecursion (IsNumbered tokens) ns → AllByRecursion (IsNumbered tokens) (cond b (n ∷ ns) ns)
numbered-by true tokens n ns h all = (h, all)
numbered-by false tokens n ns h all = all

pub all_numbered : (tokens ts : List TokenRecord) (n : ℕ) → length tokens < 4294967296 → drop n tokens ≡ ts → AllByRecursion (IsNumbered tokens) (numbered_from n ts)
all_numbered tokens [] n h e = tt
all_numbered tokens (t ∷ ts) n h e =
    let lt = drop_long tokens n t ts e in
    numbered-by (is_mapped t) tokens (token_original t * 4294967296 + n) (numbered_from (n + 1) ts) (numbered-here tokens n t lt (omega (arith, lt, h)) (drop_here tokens n no_token t ts e)) (all_numbered tokens ts (n + 1) h (drop_next tokens n t ts e))

fewer-by : (b : Bool) (n m : ℕ) (ns : List ℕ) → length ns ≤ m → length (cond b (n ∷ ns) ns) ≤ suc m
fewer-by true n m ns h = omega (arith, h)
fewer-by false n m ns h = omega (arith, h)

pub fewer_numbered : (ts : List TokenRecord) (n : ℕ) → length (numbered_from n ts) ≤ length ts
fewer_numbered [] n = omega arith
fewer_numbered (t ∷ ts) n = fewer-by (is_mapped t) _ (length ts) (numbered_from (n + 1) ts) (fewer_numbered ts (n + 1))

-- whether a number has this place in front
abbrev pub is_front : ℕ → ℕ → Bool
is_front place n = n / 4294967296 == place

kept-by : (b c : Bool) (place : ℕ) (tokens ts : List TokenRecord) (n : ℕ) (t : TokenRecord) (ns : List ℕ) → is_front place n ≡ c → behind tokens n ≡ t
    → map (behind tokens) (filter (is_front place) ns) ≡ ts
    → map (behind tokens) (filter (is_front place) (cond b (n ∷ ns) ns)) ≡ cond (b && c) (t ∷ ts) ts
kept-by true true place tokens ts n t ns f e more = ap (λ b. map (behind tokens) (cond b (n ∷ filter (is_front place) ns) (filter (is_front place) ns))) f ∙ ap (λ x. x ∷ map (behind tokens) (filter (is_front place) ns)) e ∙ ap (λ xs. t ∷ xs) more
kept-by true false place tokens ts n t ns f e more = ap (λ b. map (behind tokens) (cond b (n ∷ filter (is_front place) ns) (filter (is_front place) ns))) f ∙ more
kept-by false c place tokens ts n t ns f e more = more

-- the tokens behind the numbers of a place are those that point there
pub kept_numbered : (place : ℕ) (tokens ts : List TokenRecord) (n : ℕ) → length tokens < 4294967296 → drop n tokens ≡ ts
    → map (behind tokens) (filter (is_front place) (numbered_from n ts)) ≡ filter (λ t. is_mapped t && token_original t == place) ts
kept_numbered place tokens [] n h e = refl
kept_numbered place tokens (t ∷ ts) n h e =
    let lt : n < 4294967296 = omega (arith, drop_long tokens n t ts e, h) in
    kept-by (is_mapped t) (token_original t == place) place tokens (filter (λ t. is_mapped t && token_original t == place) ts) (token_original t * 4294967296 + n) t (numbered_from (n + 1) ts)
    (ap (λ p. p == place) (front_of (token_original t) n lt))
    (ap (λ i. get_or tokens i no_token) (digits_of (token_original t) n lt) ∙ drop_here tokens n no_token t ts e)
    (kept_numbered place tokens ts (n + 1) h (drop_next tokens n t ts e))

-- the index behind a number
abbrev pub rest : ℕ → ℕ
rest n = n % 4294967296

index-by : (b c : Bool) (place n i : ℕ) (is ns : List ℕ) → is_front place n ≡ c → rest n ≡ i → map rest (filter (is_front place) ns) ≡ is
    → map rest (filter (is_front place) (cond b (n ∷ ns) ns)) ≡ cond (b && c) (i ∷ is) is
index-by true true place n i is ns f e more = ap (λ b. map rest (cond b (n ∷ filter (is_front place) ns) (filter (is_front place) ns))) f ∙ ap (λ x. x ∷ map rest (filter (is_front place) ns)) e ∙ ap (λ xs. i ∷ xs) more
index-by true false place n i is ns f e more = ap (λ b. map rest (cond b (n ∷ filter (is_front place) ns) (filter (is_front place) ns))) f ∙ more
index-by false c place n i is ns f e more = more

-- the indices behind the numbers of a place are those of the tokens that point there
pub index_numbered : (place : ℕ) (ts : List TokenRecord) (n : ℕ) → n + length ts ≤ 4294967296
    → map rest (filter (is_front place) (numbered_from n ts)) ≡ passing_from n (λ t. is_mapped t && token_original t == place) ts
index_numbered place [] n h = refl
index_numbered place (t ∷ ts) n h =
    let lt : n < 4294967296 = omega (arith, h) in
    index-by (is_mapped t) (token_original t == place) place (token_original t * 4294967296 + n) n (passing_from (n + 1) (λ t. is_mapped t && token_original t == place) ts) (numbered_from (n + 1) ts)
    (ap (λ p. p == place) (front_of (token_original t) n lt)) (digits_of (token_original t) n lt) (index_numbered place ts (n + 1) (omega (arith, h)))

pub filter_same : {A : Type 0} (P : A → Type 0) (p q : A → Bool) → ((x : A) → P x → p x ≡ q x) → (xs : List A) → AllByRecursion P xs → filter p xs ≡ filter q xs
filter_same P p q h [] a = refl
filter_same P p q h (x ∷ xs) a = ap (λ b. cond b (x ∷ filter p xs) (filter p xs)) (h x a.0) ∙ ap (λ ys. cond (q x) (x ∷ ys) ys) (filter_same P p q h xs a.1)

pub filter_ext : {A : Type 0} (p q : A → Bool) → ((x : A) → p x ≡ q x) → (xs : List A) → filter p xs ≡ filter q xs
filter_ext p q h [] = refl
filter_ext p q h (x ∷ xs) = ap (λ b. cond b (x ∷ filter p xs) (filter p xs)) (h x) ∙ ap (λ ys. cond (q x) (x ∷ ys) ys) (filter_ext p q h xs)

filter_map-by : {A B : Type 0} (b : Bool) (f : A → B) (x : A) (xs : List A) → cond b (f x ∷ map f xs) (map f xs) ≡ map f (cond b (x ∷ xs) xs)
filter_map-by true f x xs = refl
filter_map-by false f x xs = refl

pub filter_of_map : {A B : Type 0} (p : B → Bool) (f : A → B) (xs : List A) → filter p (map f xs) ≡ map f (filter (λ x. p (f x)) xs)
filter_of_map p f [] = refl
filter_of_map p f (x ∷ xs) = ap (λ ys. cond (p (f x)) (f x ∷ ys) ys) (filter_of_map p f xs) ∙ filter_map-by (p (f x)) f x (filter (λ y. p (f y)) xs)

pub map_of_map : {A B C : Type 0} (g : B → C) (f : A → B) (xs : List A) → map g (map f xs) ≡ map (λ x. g (f x)) xs
map_of_map g f [] = refl
map_of_map g f (x ∷ xs) = ap (λ ys. g (f x) ∷ ys) (map_of_map g f xs)

-- what a sort by a number takes for equal
pub tie_key : (k n : ℕ) → (not (is_lt (nat_cmp k n)) && not (is_lt (nat_cmp n k))) ≡ (n == k)
tie_key k n =
    elim (nat_lt k n) as (λ b. nat_lt k n ≡ b → (not (is_lt (nat_cmp k n)) && not (is_lt (nat_cmp n k))) ≡ (n == k)) [
      | true ↦ (λ e. let d : (n == k) ≡ false = grind (arith, nat_tests, e) in rw (e, d) refl)
      | false ↦ (λ e. elim (nat_lt n k) as (λ b. nat_lt n k ≡ b → (not (is_lt (nat_cmp k n)) && not (is_lt (nat_cmp n k))) ≡ (n == k)) [
        | true ↦ (λ f. let d : (n == k) ≡ false = grind (arith, nat_tests, f) in let g : (k == n) ≡ false = grind (arith, nat_tests, f) in rw (e, f, d, g) refl)
        | false ↦ (λ f. let d : (n == k) ≡ true = grind (arith, nat_tests, e, f) in let g : (k == n) ≡ true = grind (arith, nat_tests, e, f) in rw (e, f, d, g) refl)
      ] refl)
    ] refl

-- the key of the sort
abbrev pub front : ℕ → ℕ
front n = n / 4294967296

pub stable_front : (xs ys : List ℕ) → IsStableByKey front nat_cmp xs ys → (place : ℕ) → filter (is_front place) ys ≡ filter (is_front place) xs
stable_front xs ys stable place =
    let x = place * 4294967296 + 0 in
    let e : (y : ℕ) → (not (is_lt (nat_cmp (front x) (front y))) && not (is_lt (nat_cmp (front y) (front x)))) ≡ is_front place y =
    λ y. tie_key (front x) (front y) ∙ ap (λ p. front y == p) (front_of place 0 (omega arith)) in
    filter_ext _ _ (λ y. sym (e y)) ys ∙ stable x ∙ filter_ext _ _ e xs

-- whether a mapped token points to a place, by the numbers of both
key-by : (s l c sl sc : ℕ) (so : Option ℕ) → l < 4294967296 → c < 4294967296 → sl < 4294967296 → sc < 4294967296 → (id : ℕ) → so ≡ Some id
    → (original_number id sl sc == original_number s l c) ≡ ((id == s && sl == l) && sc == c)
key-by s l c sl sc so hl hc h k id e0 =
    elim (id == s) as (λ b. (id == s) ≡ b → (original_number id sl sc == original_number s l c) ≡ ((b && sl == l) && sc == c)) [
      | true ↦ (λ e. elim (sl == l) as (λ b. (sl == l) ≡ b → (original_number id sl sc == original_number s l c) ≡ (b && sc == c)) [
        | true ↦ (λ f. grind (arith, nat_tests, e, f))
        | false ↦ (λ f. grind (arith, nat_tests, e, f))
      ] refl)
      | false ↦ (λ e. grind (arith, nat_tests, e))
    ] refl

is_at-by : (s l c fl fc sl sc : ℕ) (so nm : Option ℕ) → l < 4294967296 → c < 4294967296 → sl < 4294967296 → sc < 4294967296
    → let t : TokenRecord = record { dst_line = fl; dst_col = fc; src_line = sl; src_col = sc; source_id = so; name_id = nm } in
    (is_mapped t && token_original t == original_number s l c) ≡ is_at s l c t
is_at-by s l c fl fc sl sc None nm hl hc h k = refl
is_at-by s l c fl fc sl sc (Some id) nm hl hc h k = key-by s l c sl sc (Some id) hl hc h k id refl

pub is_at_place : (s l c : ℕ) (t : TokenRecord) → l < 4294967296 → c < 4294967296 → IsInBounds t → (is_mapped t && token_original t == original_number s l c) ≡ is_at s l c t
is_at_place s l c t hl hc h = is_at-by s l c t.dst_line t.dst_col t.src_line t.src_col t.source_id t.name_id hl hc h.src_line h.src_col

-- the indices behind the sorted numbers
pub order_from : (tokens : List TokenRecord) (sorted order : List ℕ) → AreInBounds tokens → length tokens < 4294967296 → IsPermutation (numbered_from 0 tokens) sorted → length sorted ≡ length (numbered_from 0 tokens)
    → IsNonDecreasingBy front sorted → IsStableByKey front nat_cmp (numbered_from 0 tokens) sorted → order ≡ map (λ n. n % 4294967296) sorted → IsOrderOf tokens order
order_from tokens sorted order bounds h perm len up stable e =
    let ns = numbered_from 0 tokens in
    let start : All (IsNumbered tokens) ns = All-from_recursion (IsNumbered tokens) ns (all_numbered tokens tokens 0 h refl) in
    let all : All (IsNumbered tokens) sorted = All-permutation (IsNumbered tokens) ns sorted perm start in
    let each = recursion_from_All (IsNumbered tokens) sorted all in
    let listing : listed tokens order ≡ map (behind tokens) sorted = ap (listed tokens) e ∙ map_of_map (λ i. get_or tokens i no_token) (λ n. n % 4294967296) sorted in
    let long : length (map (behind tokens) sorted) ≡ length sorted = length-map sorted (behind tokens) in
    let rising : IsNonDecreasingBy token_original (map (behind tokens) sorted) = λ i j d le lt.
    let jn : j < length sorted = omega (arith, lt, long) in
    let in_ : i < length sorted = omega (arith, le, jn) in
    omega (arith, up i j 0 le jn, (all i 0 in_).1, (all j 0 jn).1, ap token_original (get_or-map (behind tokens) sorted i 0 d in_), ap token_original (get_or-map (behind tokens) sorted j 0 d jn)) in
    record {
      in_bounds = bounds;
      few = h;
      within = subst (λ xs. All (λ i. i < length tokens) xs) (sym e) (All-map (λ i. i < length tokens) (λ n. n % 4294967296) sorted (λ k d lt. (all k d lt).0));
      fewer = omega (arith, ap length e, length-map sorted (λ n. n % 4294967296), len, fewer_numbered tokens 0);
      rises = subst (λ xs. IsNonDecreasingBy token_original xs) (sym listing) rising;
      each = λ place.
          ap (filter (λ t. token_original t == place)) listing ∙ filter_of_map (λ t. token_original t == place) (behind tokens) sorted
          ∙ ap (map (behind tokens)) (filter_same (IsNumbered tokens) (λ n. token_original (behind tokens n) == place) (is_front place) (λ n w. ap (λ p. p == place) w.1) sorted each ∙ stable_front ns sorted stable place)
          ∙ kept_numbered place tokens tokens 0 h refl;
      each_index = λ place.
          ap (filter (λ i. token_original (get_or tokens i no_token) == place)) e ∙ filter_of_map (λ i. token_original (get_or tokens i no_token) == place) rest sorted
          ∙ ap (map rest) (filter_same (IsNumbered tokens) (λ n. token_original (behind tokens n) == place) (is_front place) (λ n w. ap (λ p. p == place) w.1) sorted each ∙ stable_front ns sorted stable place)
          ∙ index_numbered place tokens 0 (omega (arith, h));
    }
