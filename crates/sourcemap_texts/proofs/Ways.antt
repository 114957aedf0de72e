-- Where paths lead that are made of parts.
use Rattle.std.proofs.Common.{◌≡◌, ℕ, zero, suc, ◌+◌, ◌-◌, ◌==◌, ◌≤◌, ◌<◌, Bool, true, false, cond}
use Rattle.std.proofs.Common.{not, ◌&&◌, ◌||◌}
use Rattle.std.proofs.Common.{List, [], ◌∷◌, ◌++◌, length, take, drop, map, codes, refl, sym}
use Rattle.std.proofs.Common.{ap, ap₂, ◌∙◌}
use Rattle.std.proofs.Common.{arith, append_assoc, append-nil, take_all, take-take, length-take-le}
use Rattle.std.proofs.Common.{take-append-drop}
use Rattle.std.proofs.Common.{true≢false, Bor, Option, Some, slice_get}
use Rattle.std.specs.List.{fold, flat_map, list_any, list_all}
use Rattle.std.specs.List.{onto_first, join_by, repeat, common_prefix_len}
use Rattle.std.specs.Str.{bytes_eq}
use Rattle.std.proofs.lemmas.Bool.{not-true, or_parts, or_from, and_parts, and_from}
use Rattle.std.proofs.lemmas.Option.{none-some}
use Rattle.std.specs.Option.{unwrap_or}
use Rattle.std.proofs.lemmas.List.Folds.{list_all-append, flat_map-map}
use Rattle.std.proofs.lemmas.List.Splits.{slice_split-cons_yes, slice_split-cons_no}
use Rattle.std.proofs.lemmas.Slice.Eq.{bytes_eq-Decides}
use Rattle.sourcemap_texts.specs.Paths.{is_slash, parts_of, is_here, stepped, led, is_name, joined}
use Rattle.sourcemap_texts.specs.Paths.{begins_plainly, begins_with_slash}
use Rattle.sourcemap_texts.specs.Paths.{stands_by_itself, is_in_folder}
use Rattle.oxc_sourcemap_parts.specs.Roots.{is_of_scheme, ends_scheme, has_scheme}
use Rattle.std.specs.Char.{is_ascii_alphabetic}
use Rattle.sourcemap_texts.specs.Paths.{climbing, LeadsTo}
use Rattle.std.proofs.Common.{String, string_bytes, Global}

-- ---- parts of a path
pub split_none : (xs : List ℕ) → list_any is_slash xs ≡ false → parts_of xs ≡ xs ∷ []
split_none [] e = refl
split_none (x ∷ xs) e =
    let both = or_parts (is_slash x) (list_any is_slash xs) e in
    slice_split-cons_no is_slash x xs both.0 ∙ ap (onto_first x) (split_none xs both.1)

pub split_at : (xs ys : List ℕ) → list_any is_slash xs ≡ false → parts_of (xs ++ 47 ∷ ys) ≡ xs ∷ parts_of ys
split_at [] ys e = slice_split-cons_yes is_slash 47 ys refl
split_at (x ∷ xs) ys e =
    let both = or_parts (is_slash x) (list_any is_slash xs) e in
    slice_split-cons_no is_slash x (xs ++ 47 ∷ ys) both.0 ∙ ap (onto_first x) (split_at xs ys both.1)

-- no part has a slash
abbrev is_free : List ℕ → Bool
is_free part = not (list_any is_slash part)

free_onto : (x : ℕ) (parts : List (List ℕ)) → is_slash x ≡ false → list_all is_free parts ≡ true → list_all is_free (onto_first x parts) ≡ true
free_onto x [] e h = ap (λ t. not (t || false) && true) e
free_onto x (part ∷ parts) e h = ap (λ t. not (t || list_any is_slash part) && list_all is_free parts) e ∙ h

free_split : (x : ℕ) (xs : List ℕ) (b : Bool) → is_slash x ≡ b → list_all is_free (parts_of xs) ≡ true → list_all is_free (parts_of (x ∷ xs)) ≡ true
free_split x xs true e h = ap (list_all is_free) (slice_split-cons_yes is_slash x xs e) ∙ h
free_split x xs false e h = ap (list_all is_free) (slice_split-cons_no is_slash x xs e) ∙ free_onto x (parts_of xs) e h

pub parts_free : (path : List ℕ) → list_all is_free (parts_of path) ≡ true
parts_free [] = refl
parts_free (x ∷ xs) = free_split x xs (is_slash x) refl (parts_free xs)

-- ---- names
pub three : (a b c : Bool) → not (a || b || c) ≡ true → (a ≡ false) × (b ≡ false) × (c ≡ false)
three true b c e = absurd (true≢false (sym e))
three false true c e = absurd (true≢false (sym e))
three false false true e = absurd (true≢false (sym e))
three false false false e = (refl, refl, refl)

name_parts : (part : List ℕ) → is_name part ≡ true → (is_here part ≡ false) × (bytes_eq part (codes "..") ≡ false) × (list_any is_slash part ≡ false)
name_parts part e = three (is_here part) (bytes_eq part (codes "..")) (list_any is_slash part) e

third : {A : Type 0} (a b : Bool) (x y z : A) → a ≡ false → b ≡ false → cond a x (cond b y z) ≡ z
third a b x y z e f = ap (λ t. cond t x (cond b y z)) e ∙ ap (λ t. cond t y z) f

step_name : (place : List (List ℕ)) (part : List ℕ) → is_name part ≡ true → stepped place part ≡ place ++ part ∷ []
step_name place part e =
    let h = name_parts part e in
    third (is_here part) (bytes_eq part (codes "..")) place (take (length place - 1) place) (place ++ part ∷ []) h.0 h.1

fold_names : (place parts : List (List ℕ)) → list_all is_name parts ≡ true → fold stepped place parts ≡ place ++ parts
fold_names place [] h = sym (append-nil place)
fold_names place (x ∷ xs) h =
    let both = and_parts (is_name x) (list_all is_name xs) h in
    ap (λ p. fold stepped p xs) (step_name place x both.0) ∙ fold_names (place ++ x ∷ []) xs both.1 ∙ append_assoc place (x ∷ []) xs

pub names_take : (n : ℕ) (parts : List (List ℕ)) → list_all is_name parts ≡ true → list_all is_name (take n parts) ≡ true
names_take zero parts h = refl
names_take (suc n) [] h = refl
names_take (suc n) (x ∷ xs) h =
    let both = and_parts (is_name x) (list_all is_name xs) h in
    and_from (is_name x) (list_all is_name (take n xs)) both.0 (names_take n xs both.1)

names_drop : (n : ℕ) (parts : List (List ℕ)) → list_all is_name parts ≡ true → list_all is_name (drop n parts) ≡ true
names_drop zero parts h = h
names_drop (suc n) [] h = refl
names_drop (suc n) (x ∷ xs) h = names_drop n xs (and_parts (is_name x) (list_all is_name xs) h).1

made_name : (a b c : Bool) → a ≡ false → b ≡ false → c ≡ false → (not (a || b || c) && true) ≡ true
made_name a b c e f g = ap (λ t. not (t || b || c) && true) e ∙ ap (λ t. not (false || t || c) && true) f ∙ ap (λ t. not (false || false || t) && true) g

names_step : (place : List (List ℕ)) (part : List ℕ) → list_all is_name place ≡ true → is_free part ≡ true → list_all is_name (stepped place part) ≡ true
names_step place part h free = by (is_here part) (bytes_eq part (codes "..")) refl refl
  where
    by : (a b : Bool) → is_here part ≡ a → bytes_eq part (codes "..") ≡ b
        → list_all is_name (cond a place (cond b (take (length place - 1) place) (place ++ part ∷ []))) ≡ true
    by true b e f = h
    by false true e f = names_take (length place - 1) place h
    by false false e f =
        list_all-append is_name place (part ∷ [])
        ∙ and_from (list_all is_name place) (is_name part && true) h
        (made_name (is_here part) (bytes_eq part (codes "..")) (list_any is_slash part) e f (not-true (list_any is_slash part) free))

names_fold : (place parts : List (List ℕ)) → list_all is_name place ≡ true → list_all is_free parts ≡ true → list_all is_name (fold stepped place parts) ≡ true
names_fold place [] h free = h
names_fold place (x ∷ xs) h free =
    let both = and_parts (is_free x) (list_all is_free xs) free in
    names_fold (stepped place x) xs (names_step place x h both.0) both.1

-- a place that paths lead to from the root has names
pub names_led : (place : List (List ℕ)) (path : List ℕ) → list_all is_name place ≡ true → list_all is_name (led place path) ≡ true
names_led place path h = names_fold place (parts_of path) h (parts_free path)

-- ---- paths of parts
split_join : (x : List ℕ) (xs : List (List ℕ)) → list_all is_name (x ∷ xs) ≡ true → parts_of (joined (x ∷ xs)) ≡ x ∷ xs
split_join x [] h =
    let own = name_parts x (and_parts (is_name x) true h).0 in
    ap parts_of (append-nil x) ∙ split_none x own.2
split_join x (y ∷ ys) h =
    let both = and_parts (is_name x) (list_all is_name (y ∷ ys)) h in
    split_at x (joined (y ∷ ys)) (name_parts x both.0).2 ∙ ap (λ t. x ∷ t) (split_join y ys both.1)

led_joined : (place parts : List (List ℕ)) → list_all is_name parts ≡ true → led place (joined parts) ≡ place ++ parts
led_joined place [] h = sym (append-nil place)
led_joined place (x ∷ xs) h = ap (fold stepped place) (split_join x xs h) ∙ fold_names place (x ∷ xs) h

split_dot : (rest : List ℕ) → parts_of (codes "./" ++ rest) ≡ codes "." ∷ parts_of rest
split_dot rest = split_at (codes ".") rest refl

split_up : (n : ℕ) (rest : List ℕ) → parts_of (repeat (suc n) (codes "../") ++ rest) ≡ codes ".." ∷ parts_of (repeat n (codes "../") ++ rest)
split_up n rest = split_at (codes "..") (repeat n (codes "../") ++ rest) refl

cut_again : (n : ℕ) (l : List (List ℕ)) → take (length (take (length l - 1) l) - n) (take (length l - 1) l) ≡ take (length l - suc n) l
cut_again n l =
    let long : length (take (length l - 1) l) ≡ length l - 1 = length-take-le (length l - 1) l (omega arith) in
    let less : (length l - 1) - n ≡ length l - suc n = omega arith in
    ap (λ k. take (k - n) (take (length l - 1) l)) long ∙ take-take ((length l - 1) - n) (length l - 1) l (omega arith) ∙ ap (λ k. take k l) less

led_up : (place : List (List ℕ)) (n : ℕ) (rest : List ℕ) → led place (repeat n (codes "../") ++ rest) ≡ led (take (length place - n) place) rest
led_up place zero rest = ap (λ p. led p rest) (sym (take_all (length place - 0) place (omega arith)))
led_up place (suc n) rest =
    ap (fold stepped place) (split_up n rest) ∙ led_up (take (length place - 1) place) n rest ∙ ap (λ p. led p rest) (cut_again n place)

led_front : (b : Bool) (place : List (List ℕ)) (rest : List ℕ) → led place (cond b (codes "./") [] ++ rest) ≡ led place rest
led_front true place rest = ap (fold stepped place) (split_dot rest)
led_front false place rest = refl

led_climbing : (base parts : List (List ℕ)) (up : ℕ) → list_all is_name parts ≡ true → led base (climbing up parts) ≡ take (length base - up) base ++ parts
led_climbing base parts up h =
    led_up base up _ ∙ led_front (up == 0 && not (begins_plainly parts)) (take (length base - up) base) (joined parts)
    ∙ led_joined (take (length base - up) base) parts h

-- ---- paths that begin with no scheme
and_still : (t x y : Bool) → t && x ≡ false → (x ≡ false → y ≡ false) → t && y ≡ false
and_still true x y h f = f h
and_still false x y h f = refl

-- what a scheme does not end in does not end one with more behind it
more_scheme : (cs rest : List ℕ) → ends_scheme cs ≡ false → ends_scheme rest ≡ false → ends_scheme (cs ++ rest) ≡ false
more_scheme [] rest none after = after
more_scheme (b ∷ bs) rest none after =
    let two = or_parts (b == 58) (is_of_scheme b && ends_scheme bs) none in
    or_from (b == 58) (is_of_scheme b && ends_scheme (bs ++ rest)) two.0
    (and_still (is_of_scheme b) (ends_scheme bs) (ends_scheme (bs ++ rest)) two.1 (λ e. more_scheme bs rest e after))

more_in_folder : (path rest : List ℕ) → is_in_folder path ≡ true → ends_scheme rest ≡ false → is_in_folder (path ++ rest) ≡ true
more_in_folder [] rest h after = absurd (true≢false (sym h))
more_in_folder (c ∷ cs) rest h after =
    let two = or_parts (begins_with_slash (c ∷ cs)) (has_scheme (c ∷ cs)) (not-true (stands_by_itself (c ∷ cs)) h) in
    ap not (or_from (begins_with_slash (c ∷ cs)) (has_scheme (c ∷ (cs ++ rest))) two.0
    (and_still (is_ascii_alphabetic c) (ends_scheme cs) (ends_scheme (cs ++ rest)) two.1 (λ e. more_scheme cs rest e after)))

no_scheme_behind : (parts : List (List ℕ)) → ends_scheme (flat_map (λ part. codes "/" ++ part) parts) ≡ false
no_scheme_behind [] = refl
no_scheme_behind (x ∷ xs) = refl

plain_joined : (parts : List (List ℕ)) → begins_plainly parts ≡ true → is_in_folder (joined parts) ≡ true
plain_joined [] e = absurd (true≢false (sym e))
plain_joined (x ∷ xs) e = more_in_folder x (flat_map (λ part. codes "/" ++ part) xs) e (no_scheme_behind xs)

plain_front : (b : Bool) (parts : List (List ℕ)) → begins_plainly parts ≡ b → is_in_folder (cond (not b) (codes "./") [] ++ joined parts) ≡ true
plain_front true parts e = plain_joined parts e
plain_front false parts e = refl

plain_climbing : (parts : List (List ℕ)) (up : ℕ) → is_in_folder (climbing up parts) ≡ true
plain_climbing parts zero = plain_front (begins_plainly parts) parts refl
plain_climbing parts (suc n) = refl

-- ---- no detour
first_of_rest : (k : ℕ) (xs : List (List ℕ)) → slice_get (drop k xs) 0 ≡ slice_get xs k
first_of_rest zero xs = refl
first_of_rest (suc k) [] = refl
first_of_rest (suc k) (x ∷ xs) = first_of_rest k xs

next_in : (x : List ℕ) (xs : List (List ℕ)) (n : ℕ) → slice_get (x ∷ xs) (1 + n) ≡ slice_get xs n
next_in x xs n =
    let next : 1 + n ≡ suc n = omega arith in
    ap (slice_get (x ∷ xs)) next

shared_by : (b : Bool) (x y : List ℕ) (xs ys : List (List ℕ)) (n : ℕ) (z : List ℕ) → bytes_eq x y ≡ b
    → (slice_get xs n ≡ Some z → slice_get ys n ≡ Some z → ⊥) → slice_get (x ∷ xs) (cond b (1 + n) 0) ≡ Some z
    → slice_get (y ∷ ys) (cond b (1 + n) 0) ≡ Some z → ⊥
shared_by true x y xs ys n z s later p q = later (sym (next_in x xs n) ∙ p) (sym (next_in y ys n) ∙ q)
shared_by false x y xs ys n z s later p q =
    let same : x ≡ y = ap (λ (o : Option (List ℕ)). unwrap_or o []) (p ∙ sym q) in
    true≢false (sym ((bytes_eq-Decides x y).1 same) ∙ s)

-- what stands in two lists behind all that they have in common at their front is not the same
pub none_shared : (xs ys : List (List ℕ)) (z : List ℕ) → slice_get xs (common_prefix_len bytes_eq xs ys) ≡ Some z
    → slice_get ys (common_prefix_len bytes_eq xs ys) ≡ Some z → ⊥
none_shared [] ys z p q = none-some z p
none_shared (x ∷ xs) [] z p q = none-some z q
none_shared (x ∷ xs) (y ∷ ys) z p q =
    shared_by (bytes_eq x y) x y xs ys (common_prefix_len bytes_eq xs ys) z refl (λ e f. none_shared xs ys z e f) p q

-- ---- what two places have in common
same_step : (b : Bool) (x y : List ℕ) (xs ys : List (List ℕ)) (n : ℕ) → bytes_eq x y ≡ b → take n xs ≡ take n ys
    → take (cond b (1 + n) 0) (x ∷ xs) ≡ take (cond b (1 + n) 0) (y ∷ ys)
same_step false x y xs ys n e h = refl
same_step true x y xs ys n e h =
    let one : 1 + n ≡ suc n = omega arith in
    ap (λ k. take k (x ∷ xs)) one ∙ ap₂ (λ z zs. z ∷ zs) ((bytes_eq-Decides x y).0 e) h ∙ ap (λ k. take k (y ∷ ys)) (sym one)

pub same_front : (xs ys : List (List ℕ)) → take (common_prefix_len bytes_eq xs ys) xs ≡ take (common_prefix_len bytes_eq xs ys) ys
same_front [] ys = refl
same_front (x ∷ xs) [] = refl
same_front (x ∷ xs) (y ∷ ys) = same_step (bytes_eq x y) x y xs ys (common_prefix_len bytes_eq xs ys) refl (same_front xs ys)

-- the parts behind borrows, joined
pub join_lent : (parts : List (Bor (List ℕ))) → join_by (λ part. part.now) (codes "/") parts ≡ joined (map (λ part. part.now) parts)
join_lent [] = refl
join_lent (x ∷ xs) = ap (λ t. x.now ++ t) (sym (flat_map-map (λ y. codes "/" ++ y) (λ part. part.now) xs))

-- texts, joined
pub join_texts : (texts : List (String Global)) → join_by string_bytes (codes "/") texts ≡ joined (map string_bytes texts)
join_texts [] = refl
join_texts (x ∷ xs) = ap (λ t. string_bytes x ++ t) (sym (flat_map-map (λ y. codes "/" ++ y) string_bytes xs))

goes_back : (n s a : ℕ) → s ≤ n → (0 < a → s ≡ 0) → n - (a + (n - s)) ≡ s
goes_back n s zero inside none = omega arith
goes_back n s (suc a) inside none = let e : s ≡ 0 = none (omega arith) in omega arith

not_above : (n s a : ℕ) → (0 < a → s ≡ 0) → a + (n - s) ≤ n → 0 < a → ⊥
not_above n s a none below high = let e : s ≡ 0 = none high in omega (arith, e, below, high)

below_root : (n s a : ℕ) → a ≡ 0 → a + (n - s) ≤ n
below_root n s a e = omega (arith, e)

as_far : (n s a : ℕ) → (0 < a → s ≡ 0) → 0 < a → a + (n - s) ≡ n + a
as_far n s a none high = let e : s ≡ 0 = none high in omega (arith, e)

-- the path from `base` up to what it has in common with a place that is so often above the root, and down from there
pub leads_from : (base parts : List (List ℕ)) (shared above : ℕ) → list_all is_name parts ≡ true → shared ≤ length base
    → take shared base ≡ take shared parts → (0 < above → shared ≡ 0)
    → ((name : List ℕ) → slice_get base shared ≡ Some name → slice_get parts shared ≡ Some name → 0 < above)
    → LeadsTo base (above, parts) (climbing (above + (length base - shared)) (drop shared parts))
leads_from base parts shared above h inside same none apart =
    let up = above + (length base - shared) in
    let rest = names_drop shared parts h in
    let back = goes_back (length base) shared above inside none in
    record {
      there =
          led_climbing base (drop shared parts) up rest ∙ ap (λ l. l ++ drop shared parts) (ap (λ n. take n base) back ∙ same)
          ∙ take-append-drop shared parts;
      direct = record {
        up = up;
        names = drop shared parts;
        is_path = refl;
        are_names = rest;
        apart = λ name below from into.
            not_above (length base) shared above none below
            (apart name (ap (slice_get base) (sym back) ∙ from) (sym (first_of_rest shared parts) ∙ into));
        no_higher = λ e. below_root (length base) shared above e;
        as_high = λ high. as_far (length base) shared above none high;
      };
      plain = plain_climbing (drop shared parts) up;
    }

-- ---- texts of paths
repeat_sum : (m n : ℕ) (xs : List ℕ) → repeat (m + n) xs ≡ repeat m xs ++ repeat n xs
repeat_sum zero n xs = let none : zero + n ≡ n = omega arith in ap (λ k. repeat k xs) none
repeat_sum (suc m) n xs =
    let more : suc m + n ≡ suc (m + n) = omega arith in
    ap (λ k. repeat k xs) more ∙ ap (λ l. xs ++ l) (repeat_sum m n xs) ∙ sym (append_assoc xs (repeat m xs) (repeat n xs))

pub goes_up : (above up : ℕ) (first both : List ℕ) → first ≡ repeat above (codes "../") → both ≡ first ++ repeat up (codes "../")
    → both ≡ repeat (above + up) (codes "../")
goes_up above up first both e f = f ∙ ap (λ t. t ++ repeat up (codes "../")) e ∙ sym (repeat_sum above up (codes "../"))

pub two_parts : (new mid x y z : List ℕ) → mid ≡ x ++ y → new ≡ mid ++ z → new ≡ x ++ (y ++ z)
two_parts new mid x y z e f = f ∙ ap (λ t. t ++ z) e ∙ append_assoc x y z
