-- Tokens moved to their positions in a join, and contents fitted to sources.
use Rattle.std.proofs.Common.{◌≡◌, ℕ, zero, suc, ◌+◌, ◌-◌, ◌<◌, List, [], ◌∷◌, ◌++◌, map, length}
use Rattle.std.proofs.Common.{take, replicate, get_or, refl, sym, ap, ◌∙◌, subst, arith, Option}
use Rattle.std.proofs.Common.{Some, None, slice_get, true, false, cond, append_assoc, ◌==◌, ◌≤◌}
use Rattle.std.specs.List.{All, AllByRecursion}
use Rattle.std.specs.Option.{IfSome, option_map, unwrap_or}
use Rattle.std.specs.Iterator.{YieldsFirstBy}
use Rattle.std.proofs.lemmas.List.{get_or-map, take-map, take_more, map-append}
use Rattle.std.proofs.lemmas.List.Elements.{All-get_or, All-from_recursion, recursion_from_All}
use Rattle.std.proofs.lemmas.List.Elements.{All-map, All-pop, All-weaker}
use Rattle.oxc_sourcemap_tokens.specs.Token.{TokenRecord, IsInBounds, AreInBounds, last}
use Rattle.oxc_sourcemap_parts.specs.Record.{Text}
use Rattle.oxc_sourcemap_tokens.specs.declared.position.Position.{Position}
use Rattle.oxc_sourcemap_join.specs.Joined.{fitted, raised_id, shifted_column, shifted}
use Rattle.oxc_sourcemap_join.specs.Joined.{is_same_token, without_repeat}
use Rattle.oxc_sourcemap_join.specs.Joining.{all_shifted, IsInReach}
use Rattle.oxc_sourcemap_join.specs.declared.reach.Reach.{Reach}
use Rattle.oxc_sourcemap_join.specs.declared.shift.Shift.{Shift}
use Rattle.oxc_sourcemap_join.proofs.SameToken.{token_by, decides_token}

pub length-mapped : {A B : Type 0} (f : A → B) (xs : List A) → length (map f xs) ≡ length xs
length-mapped f [] = refl
length-mapped f (x ∷ xs) = ap suc (length-mapped f xs)

-- what holds of all items of a mapped list holds of each
pub all-mapped-at : {A B : Type 0} (P : B → Type 0) (f : A → B) (xs : List A) (i : ℕ) (d : A) → i < length xs → All P (map f xs) → P (f (get_or xs i d))
all-mapped-at P f xs i d h a = subst P (get_or-map f xs i d (f d) h) (All-get_or P (map f xs) i (f d) (omega (arith, length-mapped f xs)) a)

unmoved-id : (n : ℕ) (o : Option ℕ) → n ≡ 0 → raised_id n o ≡ o
unmoved-id n None e = refl
unmoved-id n (Some i) e = let same : i + n ≡ i = omega (arith, e) in ap (λ j. Some j) same

pub unmoved-column : (offset : Position) (line column : ℕ) → offset.column ≡ 0 → shifted_column offset line column ≡ column
unmoved-column offset line column e = elim (line == 0) as (λ q. cond q (column + offset.column) column ≡ column) [ true ↦ omega (arith, e) | false ↦ refl ]

-- where nothing is added, tokens stay as they are
pub unmoved : (s : Shift) → s.names ≡ 0 → s.sources ≡ 0 → s.position.line ≡ 0 → s.position.column ≡ 0 → (ts : List TokenRecord) → all_shifted s ts ≡ ts
unmoved s n o l c [] = refl
unmoved s n o l c (t ∷ ts) =
    let f = shifted s.names s.sources s.position in
    let line : t.dst_line + s.position.line ≡ t.dst_line = omega (arith, l) in
    let one = token_by (f t) t.dst_line t.dst_col t.src_line t.src_col t.source_id t.name_id line (unmoved-column s.position t.dst_line t.dst_col c) refl refl (unmoved-id s.sources t.source_id o) (unmoved-id s.names t.name_id n) in
    ap (λ u. u ∷ map f ts) one ∙ ap (λ us. t ∷ us) (unmoved s n o l c ts)

-- all tokens of a reach, moved, are in bounds if each is
pub all-in-bounds : (s : Shift) (r : Reach) → ((t : TokenRecord) → IsInReach r t → IsInBounds (shifted s.names s.sources s.position t)) → (ts : List TokenRecord) → All (IsInReach r) ts → AreInBounds (all_shifted s ts)
all-in-bounds s r each ts h =
    let f = shifted s.names s.sources s.position in
    All-map IsInBounds f ts (All-weaker (IsInReach r) (λ t. IsInBounds (f t)) each ts h)

-- Items pushed one by one, each mapped if that is as wanted: where all are, they are the mapped list.
pub mapped-next : {A B : Type 0} (P : B → Type 0) (f : A → B) (xs : List A) (i : ℕ) (x : A) (y : B) (old new : List B) → i < length xs → x ≡ get_or xs i x → (P (f x) → y ≡ f x)
    → (All P (map f (take i xs)) → new ≡ old ++ map f (take i xs)) → All P (map f (take (i + 1) xs)) → new ++ y ∷ [] ≡ old ++ map f (take (i + 1) xs)
mapped-next P f xs i x y old new h is one all a =
    let next : map f (take (i + 1) xs) ≡ map f (take i xs) ++ f x ∷ [] = ap (map f) (take_more xs i x h ∙ ap (λ z. take i xs ++ z ∷ []) (sym is)) ∙ map-append f (take i xs) (x ∷ []) in
    let parts = All-pop P (map f (take (i + 1) xs)) (map f (take i xs)) (Some (f x)) next a in
    ap (λ zs. zs ++ y ∷ []) (all parts.0) ∙ append_assoc old (map f (take i xs)) (y ∷ [])
    ∙ ap (λ z. old ++ (map f (take i xs) ++ z ∷ [])) (one parts.1) ∙ ap (λ zs. old ++ zs) (sym next)

fitted-none : (n : ℕ) → fitted n [] ≡ replicate n None
fitted-none zero = refl
fitted-none (suc n) = ap (λ cs. None ∷ cs) (fitted-none n)

-- contents, padded or cut
pub fitted-parts : (n : ℕ) (cs : List (Option Text)) → fitted n cs ≡ take n cs ++ replicate (n - length (take n cs)) None
fitted-parts zero cs = refl
fitted-parts (suc n) [] = let e : suc n ≡ suc n - 0 = omega arith in fitted-none (suc n) ∙ ap (λ k. replicate k None) e
fitted-parts (suc n) (c ∷ cs) =
    let e : n - length (take n cs) ≡ suc n - suc (length (take n cs)) = omega arith in
    ap (λ ds. c ∷ ds) (fitted-parts n cs ∙ ap (λ k. take n cs ++ replicate k None) e)

-- contents cut, and as many unknown ones as are missing
pub fitted-cut : {A : Type 0} (f : A → Option Text) (n k : ℕ) (xs : List A) → k ≡ length (take n xs) → map f (take n xs) ++ replicate (n - k) None ≡ fitted n (map f xs)
fitted-cut f n k xs e =
    ap (λ j. map f (take n xs) ++ replicate (n - j) None) (e ∙ sym (length-mapped f (take n xs)))
    ∙ ap (λ ys. ys ++ replicate (n - length ys) None) (sym (take-map f n xs)) ∙ sym (fitted-parts n (map f xs))

-- contents, padded or cut, by what the next call on their iterator gives
pub fitted-next : {A : Type 0} (view : A → Option Text) (n : ℕ) (cs ds : List (Option Text)) (r : Option A) → YieldsFirstBy view (λ left. left) cs r ds
    → fitted (suc n) cs ≡ unwrap_or (option_map view r) None ∷ fitted n ds
fitted-next view n cs ds None h = ap (fitted (suc n)) h.0 ∙ ap (λ es. None ∷ fitted n es) (sym h.1)
fitted-next view n cs ds (Some x) h = ap (fitted (suc n)) h

-- the last item, by its index
pub last-slice_get : {A : Type 0} (xs : List A) → last xs ≡ slice_get xs (length xs - 1)
last-slice_get [] = refl
last-slice_get (x ∷ []) = refl
last-slice_get (x ∷ y ∷ xs) =
    let e : length (y ∷ xs) - 1 ≡ length xs = omega arith in
    let f : length (x ∷ y ∷ xs) - 1 ≡ suc (length xs) = omega arith in
    last-slice_get (y ∷ xs) ∙ ap (slice_get (y ∷ xs)) e ∙ sym (ap (slice_get (x ∷ y ∷ xs)) f)

-- ---- bounds
all-after : {A : Type 0} (P : A → Type 0) (xs ys : List A) → AllByRecursion P (xs ++ ys) → AllByRecursion P ys
all-after P [] ys h = h
all-after P (x ∷ xs) ys h = all-after P xs ys h.1

last-holds : {A : Type 0} (P : A → Type 0) (xs : List A) → AllByRecursion P xs → IfSome (last xs) P
last-holds P [] h = tt
last-holds P (x ∷ []) h = h.0
last-holds P (x ∷ y ∷ xs) h = last-holds P (y ∷ xs) h.1

with-repeat : (o : Option TokenRecord) (us : List TokenRecord) → IfSome o IsInBounds → AllByRecursion IsInBounds (without_repeat is_same_token o us) → AllByRecursion IsInBounds us
with-repeat None us h g = g
with-repeat (Some x) [] h g = g
with-repeat (Some x) (u ∷ us) h g =
    elim (is_same_token x u) as (λ b. is_same_token x u ≡ b → AllByRecursion IsInBounds (cond b us (u ∷ us)) → AllByRecursion IsInBounds (u ∷ us)) [
      | true ↦ (λ e k. (subst IsInBounds ((decides_token x u).0 e) h, k))
      | false ↦ (λ e k. k)
    ] refl g

-- if tokens without a repeat are in bounds, so are they with it
pub repeat-in-bounds : (ts us : List TokenRecord) → AreInBounds (ts ++ without_repeat is_same_token (last ts) us) → AreInBounds ts → AreInBounds us
repeat-in-bounds ts us g h =
    All-from_recursion IsInBounds us (with-repeat (last ts) us (last-holds IsInBounds ts (recursion_from_All IsInBounds ts h))
    (all-after IsInBounds ts (without_repeat is_same_token (last ts) us) (recursion_from_All IsInBounds (ts ++ without_repeat is_same_token (last ts) us) g)))

-- a first token that does not equal the one before is kept
pub first-kept : (f : TokenRecord → TokenRecord) (x : TokenRecord) (ts : List TokenRecord) (t : TokenRecord) → slice_get ts 0 ≡ Some t → is_same_token x (f t) ≡ false
    → map f ts ≡ without_repeat is_same_token (Some x) (map f ts)
first-kept f x [] t e h = refl
first-kept f x (u ∷ ts) t e h =
    let same : u ≡ t = cc in
    let other : is_same_token x (f u) ≡ false = ap (λ v. is_same_token x (f v)) same ∙ h in
    rw other

pub take-take : {A : Type 0} (m n : ℕ) (xs : List A) → m ≤ n → take m (take n xs) ≡ take m xs
take-take zero n xs h = refl
take-take (suc m) zero xs h = absurd (omega (arith, h))
take-take (suc m) (suc n) [] h = refl
take-take (suc m) (suc n) (x ∷ xs) h = ap (λ ys. x ∷ ys) (take-take m n xs (omega (arith, h)))

-- the first items of a list, where others follow it
pub take-before : {A : Type 0} (n : ℕ) (xs ys : List A) → n ≤ length xs → take n (xs ++ ys) ≡ take n xs
take-before zero xs ys h = refl
take-before (suc n) [] ys h = absurd (omega (arith, h))
take-before (suc n) (x ∷ xs) ys h = ap (λ zs. x ∷ zs) (take-before n xs ys (omega (arith, h)))

take-whole : {A : Type 0} (xs : List A) → take (length xs) xs ≡ xs
take-whole [] = refl
take-whole (x ∷ xs) = ap (λ zs. x ∷ zs) (take-whole xs)

-- a list, as the front of one that goes on
pub take-front : {A : Type 0} (n : ℕ) (xs ys zs : List A) → n ≡ length xs → zs ≡ xs ++ ys → take n zs ≡ xs
take-front n xs ys zs e q = ap (take n) q ∙ take-before n xs ys (omega (arith, e)) ∙ ap (λ k. take k xs) e ∙ take-whole xs
