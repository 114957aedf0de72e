-- How often ways go above the root.
use Rattle.std.proofs.Common.{◌≡◌, ℕ, zero, suc, ◌+◌, ◌-◌, ◌==◌, ◌<◌, Bool, not, true, false, cond}
use Rattle.std.proofs.Common.{List, [], ◌∷◌, ◌++◌, length, take, codes, refl, sym, ap, ◌∙◌}
use Rattle.std.proofs.Common.{arith, Bor, true≢false}
use Rattle.std.proofs.lemmas.Bool.Decides.{nat_tests}
use Rattle.std.specs.List.{fold}
use Rattle.std.specs.Str.{bytes_eq}
use Rattle.std.proofs.lemmas.List.{length-map, take-map}
use Rattle.oxc_sourcemap_tokens.specs.Results.{lent_items}
use Rattle.oxc_sourcemap_parts.specs.Record.{Text}
use Rattle.sourcemap_texts.specs.Paths.{is_here, stepped, parts_of, led, outer_folder, place_of}
use Rattle.sourcemap_texts.specs.Paths.{Way, gone_up, climbed, climbed_along, way_of}

-- ---- the place of a way
abbrev pub pair : ℕ → List Text → Way
pair n place = (n, place)

not_empty : (n : ℕ) → (suc n == 0) ≡ false
not_empty n = grind (arith, nat_tests)

up_from : (n : ℕ) (place : List Text) → 0 < length place → gone_up (pair n place) ≡ pair n (take (length place - 1) place)
up_from n [] some = absurd (omega (arith, some))
up_from n (x ∷ xs) some =
    ap (λ b. cond b (pair (n + 1) []) (pair n (take (length (x ∷ xs) - 1) (x ∷ xs)))) (not_empty (length xs))

up_place : (n : ℕ) (place : List Text) → (gone_up (pair n place)).1 ≡ take (length place - 1) place
up_place n [] = refl
up_place n (x ∷ xs) = ap (λ (w : Way). w.1) (up_from n (x ∷ xs) (omega arith))

step_place : (w : Way) (part : Text) → (climbed w part).1 ≡ stepped w.1 part
step_place w part = by (is_here part) (bytes_eq part (codes ".."))
  where
    by : (a b : Bool)
        → (cond a w (cond b (gone_up w) (w.0, w.1 ++ part ∷ []))).1 ≡ cond a w.1 (cond b (take (length w.1 - 1) w.1) (w.1 ++ part ∷ []))
    by true b = refl
    by false true = up_place w.0 w.1
    by false false = refl

fold_place : (w : Way) (parts : List Text) → (fold climbed w parts).1 ≡ fold stepped w.1 parts
fold_place w [] = refl
fold_place w (x ∷ xs) = fold_place (climbed w x) xs ∙ ap (λ place. fold stepped place xs) (step_place w x)

pub along_place : (w : Way) (path : Text) → (climbed_along w path).1 ≡ led w.1 path
along_place w path = fold_place w (parts_of path)

pub way_place : (current folder : Text) → (way_of current folder).1 ≡ place_of current folder
way_place current folder =
    let outer = outer_folder current folder in
    along_place (climbed_along (0, []) outer) folder ∙ ap (λ place. led place folder) (along_place (0, []) outer)

-- ---- steps of a way, behind borrows
second : (a b : Bool) (x y z : Way) → a ≡ false → b ≡ true → cond a x (cond b y z) ≡ y
second a b x y z e f = ap (λ t. cond t x (cond b y z)) e ∙ ap (λ t. cond t y z) f

pub steps_nowhere : (w : Way) (part : Text) → is_here part ≡ true → w ≡ climbed w part
steps_nowhere w part e = sym (ap (λ t. cond t w (cond (bytes_eq part (codes "..")) (gone_up w) (pair w.0 (w.1 ++ part ∷ [])))) e)

pub steps_up : (w : Way) (part : Text) → is_here part ≡ false → bytes_eq part (codes "..") ≡ true → gone_up w ≡ climbed w part
steps_up w part e f = sym (second (is_here part) (bytes_eq part (codes "..")) w (gone_up w) (pair w.0 (w.1 ++ part ∷ [])) e f)

pub leaves_folder : (n : ℕ) (old new : List (Bor Text)) → 0 < length old → new ≡ take (length old - 1) old
    → pair n (lent_items new) ≡ gone_up (pair n (lent_items old))
leaves_folder n [] new some is = absurd (omega (arith, some))
leaves_folder n (x ∷ xs) new some is =
    let all = x ∷ xs in
    let same : length (lent_items all) ≡ length all = length-map all (λ s. s.now) in
    ap (λ l. pair n l)
    (ap lent_items is ∙ sym (take-map (λ (s : Bor Text). s.now) (length all - 1) all) ∙ ap (λ k. take (k - 1) (lent_items all)) (sym same))
    ∙ sym (up_from n (lent_items all) (omega (arith, some, same)))

pub leaves_root : (n m : ℕ) (old new : List (Bor Text)) → length old ≡ 0 → new ≡ take (length old - 1) old → m ≡ n + 1
    → pair m (lent_items new) ≡ gone_up (pair n (lent_items old))
leaves_root n m [] new none is more = ap (λ k. pair k (lent_items new)) more ∙ ap (λ l. pair (n + 1) (lent_items l)) is
leaves_root n m (x ∷ xs) new none is more = absurd (omega (arith, none))

pub none_left : (some : Bool) (n : ℕ) → (0 < n → some ≡ true) → some ≡ false → n ≡ 0
none_left some zero is e = refl
none_left some (suc n) is e = absurd (true≢false (sym (is (omega arith)) ∙ e))

pub not_other : (other : Bool) → not other ≡ false → other ≡ true
not_other true e = refl
not_other false e = sym e
