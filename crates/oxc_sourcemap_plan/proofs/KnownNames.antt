-- Lists of names that are among other names, and lists of which a test holds.
use Rattle.std.proofs.Common.{◌≡◌, Bool, true, false, ◌||◌, List, [], ◌∷◌, ◌++◌, refl, ◌∙◌}
use Rattle.std.specs.List.{list_all, AllByRecursion}
use Rattle.std.specs.Str.{bytes_eq}
use Rattle.std.specs.Cmp.Lexicographic.{bytes_decides}
use Rattle.std.proofs.lemmas.Bool.{and_parts}
use Rattle.std.proofs.lemmas.List.Folds.{list_all-append, list_any-append}
use Rattle.oxc_sourcemap_parts.specs.Record.{Text}
use Rattle.oxc_sourcemap_plan.specs.Evaluated.{is_among, are_among}

pub or-left : (a b : Bool) → a ≡ true → (a || b) ≡ true
or-left a b e = rw e refl

pub or-right : (a b : Bool) → b ≡ true → (a || b) ≡ true
or-right true b e = refl
or-right false b e = e

pub list_all-weaker : {A : Type 0} (p q : A → Bool) → ((x : A) → p x ≡ true → q x ≡ true) → (xs : List A) → list_all p xs ≡ true → list_all q xs ≡ true
list_all-weaker p q f [] h = refl
list_all-weaker p q f (x ∷ xs) h = let k = and_parts (p x) (list_all p xs) h in rw (f x k.0, list_all-weaker p q f xs k.1) refl

pub among-left : (xs ys ns : List Text) → are_among xs ns ≡ true → are_among (xs ++ ys) ns ≡ true
among-left xs ys ns h = list_all-weaker (is_among xs) (is_among (xs ++ ys)) (λ n k. list_any-append (bytes_eq n) xs ys ∙ or-left (is_among xs n) (is_among ys n) k) ns h

pub among-right : (xs ys ns : List Text) → are_among ys ns ≡ true → are_among (xs ++ ys) ns ≡ true
among-right xs ys ns h = list_all-weaker (is_among ys) (is_among (xs ++ ys)) (λ n k. list_any-append (bytes_eq n) xs ys ∙ or-right (is_among xs n) (is_among ys n) k) ns h

pub among-both : (xs ns ms : List Text) → are_among xs ns ≡ true → are_among xs ms ≡ true → are_among xs (ns ++ ms) ≡ true
among-both xs ns ms h k = list_all-append (is_among xs) ns ms ∙ rw (h, k) refl

pub bytes-self : (n : Text) → bytes_eq n n ≡ true
bytes-self n = (bytes_decides n n).1 refl

pub among-self : (ns : List Text) → are_among ns ns ≡ true
among-self [] = refl
among-self (n ∷ ns) = rw (bytes-self n, among-right (n ∷ []) ns ns (among-self ns)) refl

pub all-more : {A : Type 0} (P : A → Type 0) (xs ys : List A) → AllByRecursion P xs → AllByRecursion P ys → AllByRecursion P (xs ++ ys)
all-more P [] ys h k = k
all-more P (x ∷ xs) ys h k = (h.0, all-more P xs ys h.1 k)

pub all-weaker : {A : Type 0} (P Q : A → Type 0) → ((x : A) → P x → Q x) → (xs : List A) → AllByRecursion P xs → AllByRecursion Q xs
all-weaker P Q f [] h = tt
all-weaker P Q f (x ∷ xs) h = (f x h.0, all-weaker P Q f xs h.1)
