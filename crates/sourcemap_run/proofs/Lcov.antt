-- The text for lcov tells originals apart.
use Rattle.std.proofs.Common.{◌≡◌, ℕ, ◌+◌, ◌<◌, ◌≤◌, ◌^◌, false, ◌==◌, List, [], ◌∷◌, ◌++◌, refl}
use Rattle.std.proofs.Common.{sym, ap}
use Rattle.std.proofs.Common.{◌∙◌, arith, append_assoc, decimal, codes, length}
use Rattle.std.specs.List.{flat_map, list_any, AllByRecursion}
use Rattle.std.specs.Str.Parse.{AllDigits}
use Rattle.std.proofs.lemmas.Str.Parse.{digit_from_value}
use Rattle.std.proofs.lemmas.Fmt.{decimal_is_IsNumeral, decimal_injective}
use Rattle.std.proofs.lemmas.List.{append_cancel_left}
use Rattle.oxc_sourcemap_parts.specs.Record.{Text}
use Rattle.sourcemap_run.specs.Covered.{ran, lcov_line, lcov_end, lcov_text, lcov_texts, FitsLcov}
use Rattle.sourcemap_run.specs.Covered.{CanBeTold, LcovTellsApart}

abbrev Lacks : ℕ → List ℕ → Type 0
Lacks b bs = list_any (λ c. c == b) bs ≡ false

apart : (b c : ℕ) → b < 48 → 48 ≤ c → (c == b) ≡ false
apart b c low high = grind arith

no_digit : (b : ℕ) (ds : List ℕ) → b < 48 → AllDigits 10 ds → Lacks b ds
no_digit b [] low all = refl
no_digit b (c ∷ cs) low all = rw (apart b c low (digit_from_value c all.0).0) (no_digit b cs low all.1)

in_no_numeral : (b n : ℕ) → b < 48 → n < 2 ^ 64 → Lacks b (decimal n)
in_no_numeral b n low fits = no_digit b (decimal n) low (decimal_is_IsNumeral n fits).0.1

is_there : (b : ℕ) (bs : List ℕ) → Lacks b (b ∷ bs) → ⊥
is_there b bs e = grind (arith, e)

-- What is before the first of these bytes, and what is behind it, are the same in equal texts.
same_front : (b : ℕ) (xs ys s t : List ℕ) → Lacks b xs → Lacks b ys → xs ++ b ∷ s ≡ ys ++ b ∷ t → (xs ≡ ys) × (s ≡ t)
same_front b [] [] s t p q e = (refl, cc)
same_front b [] (y ∷ ys) s t p q e =
    let first : b ≡ y = cc in
    absurd (is_there b ys (rw (← first) at q))
same_front b (x ∷ xs) [] s t p q e =
    let first : b ≡ x = cc in
    absurd (is_there b xs (rw (← first) at p))
same_front b (x ∷ xs) (y ∷ ys) s t p q e =
    let first : x ≡ y = cc in
    let rest : xs ++ b ∷ s ≡ ys ++ b ∷ t = cc in
    let same = same_front b xs ys s t (behind b x xs p) (behind b y ys q) rest in
    (ap (λ c. c ∷ xs) first ∙ ap (λ cs. y ∷ cs) same.0, same.1)
  where
    behind : (b c : ℕ) (cs : List ℕ) → Lacks b (c ∷ cs) → Lacks b cs
    behind b c cs e = grind (arith, e)

spelt : (x : ℕ × ℕ) (s : List ℕ) → lcov_line x ++ s ≡ 68 ∷ 65 ∷ 58 ∷ (decimal (x.0 + 1) ++ 44 ∷ (decimal x.1 ++ 10 ∷ s))
spelt x s = simp append_assoc

-- equal lines, and what is behind them
same_line : (x y : ℕ × ℕ) (s t : List ℕ) → FitsLcov x → FitsLcov y → lcov_line x ++ s ≡ lcov_line y ++ t → (x ≡ y) × (s ≡ t)
same_line x y s t f g e =
    let whole = sym (spelt x s) ∙ e ∙ spelt y t in
    let numbers : decimal (x.0 + 1) ++ 44 ∷ (decimal x.1 ++ 10 ∷ s) ≡ decimal (y.0 + 1) ++ 44 ∷ (decimal y.1 ++ 10 ∷ t) = cc whole in
    let line =
    same_front 44 (decimal (x.0 + 1)) (decimal (y.0 + 1)) (decimal x.1 ++ 10 ∷ s) (decimal y.1 ++ 10 ∷ t) (in_no_numeral 44 (x.0 + 1) (omega arith) f.0) (in_no_numeral 44 (y.0 + 1) (omega arith) g.0) numbers in
    let count = same_front 10 (decimal x.1) (decimal y.1) s t (in_no_numeral 10 x.1 (omega arith) f.1) (in_no_numeral 10 y.1 (omega arith) g.1) line.1 in
    let next : x.0 + 1 ≡ y.0 + 1 = decimal_injective (x.0 + 1) (y.0 + 1) f.0 g.0 line.0 in
    let number : x.0 ≡ y.0 = omega arith in
    (ap (λ n. (n, x.1)) number ∙ ap (λ n. (y.0, n)) (decimal_injective x.1 y.1 f.1 g.1 count.0), count.1)

first_differs : (a b : ℕ) (s t : List ℕ) → a < b → a ∷ s ≡ b ∷ t → ⊥
first_differs a b s t lt e =
    let same : a ≡ b = cc e in
    absurd (omega arith)

same_lines : (xs ys : List (ℕ × ℕ)) (s t : List ℕ) → AllByRecursion FitsLcov xs → AllByRecursion FitsLcov ys
    → flat_map lcov_line xs ++ 76 ∷ s ≡ flat_map lcov_line ys ++ 76 ∷ t → (xs ≡ ys) × (s ≡ t)
same_lines [] [] s t f g e = (refl, cc)
same_lines [] (y ∷ ys) s t f g e = absurd (first_differs 68 76 _ _ (omega arith) (sym e))
same_lines (x ∷ xs) [] s t f g e = absurd (first_differs 68 76 _ _ (omega arith) e)
same_lines (x ∷ xs) (y ∷ ys) s t f g e =
    let whole =
    sym (append_assoc (lcov_line x) (flat_map lcov_line xs) (76 ∷ s)) ∙ e ∙ append_assoc (lcov_line y) (flat_map lcov_line ys) (76 ∷ t) in
    let line = same_line x y _ _ f.0 g.0 whole in
    let lines = same_lines xs ys s t f.1 g.1 line.1 in
    (ap (λ z. z ∷ xs) line.0 ∙ ap (λ zs. y ∷ zs) lines.0, lines.1)

-- the numbers behind the lines, without the first letter
abbrev numbers_behind : List (ℕ × ℕ) → List ℕ
numbers_behind xs = 70 ∷ 58 ∷ (decimal (length xs) ++ (codes "\nLH:" ++ (decimal (ran xs) ++ codes "\nend_of_record\n")))

spelt_text : (p : Text) (xs : List (ℕ × ℕ)) (s : List ℕ)
    → lcov_text p xs ++ s ≡ 84 ∷ 78 ∷ 58 ∷ 10 ∷ 83 ∷ 70 ∷ 58 ∷ (p ++ 10 ∷ (flat_map lcov_line xs ++ 76 ∷ (numbers_behind xs ++ s)))
spelt_text p xs s =
    ap (λ l. 84 ∷ 78 ∷ 58 ∷ 10 ∷ 83 ∷ 70 ∷ 58 ∷ l)
    (append_assoc p (10 ∷ (flat_map lcov_line xs ++ lcov_end xs)) s ∙ ap (λ l. p ++ 10 ∷ l) (append_assoc (flat_map lcov_line xs) (lcov_end xs) s))

-- equal texts of an original, and what is behind them
same_text : (p q : Text) (xs ys : List (ℕ × ℕ)) (s t : List ℕ) → CanBeTold (p, xs) → CanBeTold (q, ys) → lcov_text p xs ++ s ≡ lcov_text q ys ++ t
    → (p ≡ q) × (xs ≡ ys) × (s ≡ t)
same_text p q xs ys s t f g e =
    let whole = sym (spelt_text p xs s) ∙ e ∙ spelt_text q ys t in
    let paths : p ++ 10 ∷ (flat_map lcov_line xs ++ 76 ∷ (numbers_behind xs ++ s)) ≡ q ++ 10 ∷ (flat_map lcov_line ys ++ 76 ∷ (numbers_behind ys ++ t)) = cc whole in
    let front = same_front 10 p q _ _ f.0 g.0 paths in
    let lines = same_lines xs ys _ _ f.1 g.1 front.1 in
    (front.0, lines.0, append_cancel_left (numbers_behind ys) s t (ap (λ l. numbers_behind l ++ s) (sym lines.0) ∙ lines.1))

same_texts : (first second : List (Text × List (ℕ × ℕ))) → AllByRecursion CanBeTold first → AllByRecursion CanBeTold second
    → lcov_texts first ≡ lcov_texts second → first ≡ second
same_texts [] [] f g e = refl
same_texts [] (o ∷ os) f g e = cc
same_texts (o ∷ os) [] f g e = cc
same_texts (o ∷ os) (u ∷ us) f g e =
    let same = same_text o.0 u.0 o.1 u.1 (lcov_texts os) (lcov_texts us) f.0 g.0 e in
    let rest = same_texts os us f.1 g.1 same.2 in
    ap (λ p. (p, o.1) ∷ os) same.0 ∙ ap (λ ls. (u.0, ls) ∷ os) same.1 ∙ ap (λ l. u ∷ l) rest

pub tells_apart : LcovTellsApart
tells_apart = same_texts
