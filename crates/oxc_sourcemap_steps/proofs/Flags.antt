-- Which sources are ignored, as flags.
use Rattle.std.proofs.Common.{◌≡◌, refl, sym, ap, ◌∙◌, ℕ, zero, suc, ◌+◌, ◌<◌, ◌≤◌, Bool, true}
use Rattle.std.proofs.Common.{false, ◌||◌, ◌==◌, List, [], ◌∷◌, ◌++◌, map, length, set, replicate}
use Rattle.std.proofs.Common.{Option, Some, None, arith, cond}
use Rattle.std.proofs.lemmas.Bool.Decides.{nat_tests}
use Rattle.std.proofs.lemmas.List.FromFn.{length-map-range_with_len}
use Rattle.std.specs.List.{list_any, range_with_len}
use Rattle.oxc_sourcemap_parts.specs.DecodedMap.{DecodedSource}
use Rattle.oxc_sourcemap_steps.specs.Blocks.{is_listed, listed_flags, marked_from, ignored_from}
use Rattle.oxc_sourcemap_steps.specs.RemapSteps.{set_from}

any-last : (p : ℕ → Bool) (xs : List ℕ) (y : ℕ) → list_any p (xs ++ y ∷ []) ≡ (list_any p xs || p y)
any-last p [] y = elim (p y) as (λ b. (b || false) ≡ b) [ true ↦ refl | false ↦ refl ]
any-last p (x ∷ xs) y = elim (p x) as (λ b. (b || list_any p (xs ++ y ∷ [])) ≡ ((b || list_any p xs) || p y)) [ true ↦ refl | false ↦ any-last p xs y ]

or-false : (b : Bool) → (b || false) ≡ b
or-false true = refl
or-false false = refl

or-true : (b : Bool) → (b || true) ≡ true
or-true true = refl
or-true false = refl

listed-here : (ids : List ℕ) (x i : ℕ) → x ≡ i → is_listed (Some (ids ++ x ∷ [])) i ≡ true
listed-here ids x i e =
    let same : (x == i) ≡ true = grind (arith, nat_tests, e) in
    any-last (λ id. id == i) ids x ∙ ap (λ b. list_any (λ id. id == i) ids || b) same ∙ or-true (list_any (λ id. id == i) ids)

listed-other : (ids : List ℕ) (x i : ℕ) → (x == i) ≡ false → is_listed (Some (ids ++ x ∷ [])) i ≡ is_listed (Some ids) i
listed-other ids x i e = any-last (λ id. id == i) ids x ∙ ap (λ b. list_any (λ id. id == i) ids || b) e ∙ or-false (list_any (λ id. id == i) ids)

abbrev flags : List ℕ → ℕ → ℕ → List Bool
flags ids k n = map (is_listed (Some ids)) (range_with_len k n)

-- an id before the indices, or past them, changes no flag
flags-below : (ids : List ℕ) (x k n : ℕ) → x < k → flags (ids ++ x ∷ []) k n ≡ flags ids k n
flags-below ids x k zero h = refl
flags-below ids x k (suc n) h =
    let other : (x == k) ≡ false = grind (arith, nat_tests, h) in
    ap (λ b. b ∷ flags (ids ++ x ∷ []) (k + 1) n) (listed-other ids x k other) ∙ ap (λ fs. is_listed (Some ids) k ∷ fs) (flags-below ids x (k + 1) n (omega (arith, h)))

flags-past : (ids : List ℕ) (x k n : ℕ) → k + n ≤ x → flags (ids ++ x ∷ []) k n ≡ flags ids k n
flags-past ids x k zero h = refl
flags-past ids x k (suc n) h =
    let other : (x == k) ≡ false = grind (arith, nat_tests, h) in
    ap (λ b. b ∷ flags (ids ++ x ∷ []) (k + 1) n) (listed-other ids x k other) ∙ ap (λ fs. is_listed (Some ids) k ∷ fs) (flags-past ids x (k + 1) n (omega (arith, h)))

-- one more id sets one flag
flags-set : (ids : List ℕ) (x k i n : ℕ) → x ≡ k + i → i < n → set (flags ids k n) i true ≡ flags (ids ++ x ∷ []) k n
flags-set ids x k i zero e h = absurd (omega (arith, h))
flags-set ids x k zero (suc n) e h =
    let here : is_listed (Some (ids ++ x ∷ [])) k ≡ true = listed-here ids x k (omega (arith, e)) in
    ap (λ b. b ∷ flags ids (k + 1) n) (sym here) ∙ ap (λ fs. is_listed (Some (ids ++ x ∷ [])) k ∷ fs) (sym (flags-below ids x (k + 1) n (omega (arith, e))))
flags-set ids x k (suc i) (suc n) e h =
    let other : (x == k) ≡ false = grind (arith, nat_tests, e) in
    ap (λ b. b ∷ set (flags ids (k + 1) n) i true) (sym (listed-other ids x k other))
    ∙ ap (λ fs. is_listed (Some (ids ++ x ∷ [])) k ∷ fs) (flags-set ids x (k + 1) i n (omega (arith, e)) (omega (arith, h)))

pub flag-set : (ids : List ℕ) (x n : ℕ) → x < n → set (listed_flags (Some ids) n) x true ≡ listed_flags (Some (ids ++ x ∷ [])) n
flag-set ids x n h = flags-set ids x 0 x n (omega arith) h

pub flag-past : (ids : List ℕ) (x n : ℕ) → n ≤ x → listed_flags (Some (ids ++ x ∷ [])) n ≡ listed_flags (Some ids) n
flag-past ids x n h = flags-past ids x 0 n (omega (arith, h))

-- without entries no flag is set
unset-from : (ignore_list : Option (List ℕ)) (k n : ℕ) → ((i : ℕ) → is_listed ignore_list i ≡ false) → map (is_listed ignore_list) (range_with_len k n) ≡ replicate n false
unset-from ignore_list k zero h = refl
unset-from ignore_list k (suc n) h = ap (λ b. b ∷ map (is_listed ignore_list) (range_with_len (k + 1) n)) (h k) ∙ ap (λ fs. false ∷ fs) (unset-from ignore_list (k + 1) n h)

pub unset : (n : ℕ) → listed_flags None n ≡ replicate n false
unset n = unset-from None 0 n (λ i. refl)

pub unset-empty : (n : ℕ) → listed_flags (Some []) n ≡ replicate n false
unset-empty n = unset-from (Some []) 0 n (λ i. refl)

-- ---- flags of marked sources
flags-marked : (k : ℕ) (ss : List DecodedSource) (ignore_list : Option (List ℕ)) → map (λ s. s.1) (marked_from k ss ignore_list) ≡ map (is_listed ignore_list) (range_with_len k (length ss))
flags-marked k [] ignore_list = refl
flags-marked k (s ∷ ss) ignore_list = ap (λ fs. is_listed ignore_list k ∷ fs) (flags-marked (k + 1) ss ignore_list)

pub marked-flags : (ss : List DecodedSource) (ignore_list : Option (List ℕ)) → map (λ s. s.1) (marked_from 0 ss ignore_list) ≡ listed_flags ignore_list (length ss)
marked-flags ss ignore_list = flags-marked 0 ss ignore_list

pub marked-unmarked : (k : ℕ) (ss : List DecodedSource) (ignore_list : Option (List ℕ)) → map (λ s. s.0) (marked_from k ss ignore_list) ≡ ss
marked-unmarked k [] ignore_list = refl
marked-unmarked k (s ∷ ss) ignore_list = ap (λ zs. s ∷ zs) (marked-unmarked (k + 1) ss ignore_list)

set-ignored-by : (f : Bool) (i : ℕ) (xs ys : List ℕ) → xs ≡ ys → cond f (i ∷ xs) xs ≡ cond f (i ∷ ys) ys
set-ignored-by f i xs ys e = ap (λ zs. cond f (i ∷ zs) zs) e

-- the ids of the flags that are set are those of the ignored sources
pub set-ignored : (i : ℕ) (ms : List (DecodedSource × Bool)) → set_from i (map (λ s. s.1) ms) ≡ ignored_from i ms
set-ignored i [] = refl
set-ignored i (m ∷ ms) = set-ignored-by m.1 i _ _ (set-ignored (i + 1) ms)

ignored-append-by : (f : Bool) (i : ℕ) (xs ys zs : List ℕ) → xs ≡ ys ++ zs → cond f (i ∷ xs) xs ≡ cond f (i ∷ ys) ys ++ zs
ignored-append-by true i xs ys zs e = ap (λ us. i ∷ us) e
ignored-append-by false i xs ys zs e = e

pub ignored-append : (i k : ℕ) (ms ns : List (DecodedSource × Bool)) → k ≡ i + length ms → ignored_from i (ms ++ ns) ≡ ignored_from i ms ++ ignored_from k ns
ignored-append i k [] ns e = ap (λ j. ignored_from j ns) (omega (arith, e))
ignored-append i k (m ∷ ms) ns e = ignored-append-by m.1 i _ _ (ignored_from k ns) (ignored-append (i + 1) k ms ns (omega (arith, e)))

pub count-listed : (ignore_list : Option (List ℕ)) (n : ℕ) → length (listed_flags ignore_list n) ≡ n
count-listed ignore_list n = length-map-range_with_len (is_listed ignore_list) 0 n
