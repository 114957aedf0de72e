-- The lines of `--json` tell originals apart.
use Rattle.std.proofs.Common.{◌≡◌, ℕ, ◌+◌, ◌-◌, ◌<◌, ◌≤◌, ◌^◌, Bool, true, false, cond, nat_lt}
use Rattle.std.proofs.Common.{List, [], ◌∷◌, ◌++◌, map, length, filter, decimal, codes, refl, sym}
use Rattle.std.proofs.Common.{ap, ◌∙◌, subst, arith, append_assoc}
use Rattle.std.specs.Char.{digit_value}
use Rattle.std.specs.List.{flat_map, join_by, AllByRecursion}
use Rattle.std.specs.Str.Parse.{AllDigits}
use Rattle.std.proofs.lemmas.Fmt.{decimal_is_IsNumeral, decimal_injective, decimal_nonempty}
use Rattle.std.proofs.lemmas.List.Sums.{count_by-le-length}
use Rattle.oxc_sourcemap_parts.specs.Record.{Text}
use Rattle.sourcemap_texts.specs.Texts.{visible_string}
use Rattle.sourcemap_texts.proofs.ToldApart.{told_apart}
use Rattle.sourcemap_run.specs.Counts.{is_missed}
use Rattle.sourcemap_run.specs.Texts.{object_text, text_member, number_member}
use Rattle.sourcemap_run.specs.Covered.{ran, missed_numbers, covered_members, covered_line}
use Rattle.sourcemap_run.specs.Covered.{covered_lines, FitsCovered, told, CoveredTellsApart}

-- ---- numbers

-- a text that does not begin with a digit
abbrev IsNoDigit : Text → Type 0
IsNoDigit [] = Unit {0}
IsNoDigit (b ∷ bs) = 10 ≤ digit_value b

heads : (a b : ℕ) (s t : Text) → a ∷ s ≡ b ∷ t → (a ≡ b) × (s ≡ t)
heads a b s t e = (cc, cc)

no_digit : (y : ℕ) (s t : Text) → digit_value y < 10 → IsNoDigit s → s ≡ y ∷ t → ⊥
no_digit y s t digit none e =
    let not_it : 10 ≤ digit_value y = subst IsNoDigit e none in
    absurd (omega arith)

-- Digits and what is behind them are the same in equal texts.
same_digits : (xs ys s t : Text) → AllDigits 10 xs → AllDigits 10 ys → IsNoDigit s → IsNoDigit t → xs ++ s ≡ ys ++ t → (xs ≡ ys) × (s ≡ t)
same_digits [] [] s t p q f g e = (refl, e)
same_digits [] (y ∷ ys) s t p q f g e = absurd (no_digit y s (ys ++ t) q.0 f e)
same_digits (x ∷ xs) [] s t p q f g e = absurd (no_digit x t (xs ++ s) p.0 g (sym e))
same_digits (x ∷ xs) (y ∷ ys) s t p q f g e =
    let one = heads x y (xs ++ s) (ys ++ t) e in
    let more = same_digits xs ys s t p.1 q.1 f g one.1 in
    (ap (λ c. c ∷ xs) one.0 ∙ ap (λ cs. y ∷ cs) more.0, more.1)

are_digits : (n : ℕ) → n < 2 ^ 64 → AllDigits 10 (decimal n)
are_digits n fits = (decimal_is_IsNumeral n fits).0.1

same_number : (m n : ℕ) (s t : Text) → m < 2 ^ 64 → n < 2 ^ 64 → IsNoDigit s → IsNoDigit t → decimal m ++ s ≡ decimal n ++ t → (m ≡ n) × (s ≡ t)
same_number m n s t f g h k e =
    let same = same_digits (decimal m) (decimal n) s t (are_digits m f) (are_digits n g) h k e in
    (decimal_injective m n f g same.0, same.1)

-- ---- the numbers of lines, up to the bracket

abbrev Fits : ℕ × ℕ → Type 0
Fits line = line.0 + 1 < 2 ^ 64

abbrev numbers : List (ℕ × ℕ) → List ℕ
numbers lines = map (λ line. line.0) lines

-- behind the first number
abbrev behind : List (ℕ × ℕ) → Text → Text
behind lines s = flat_map (λ line. codes "," ++ decimal (line.0 + 1)) lines ++ 93 ∷ s

no_digit_behind : (xs : List (ℕ × ℕ)) (s : Text) → IsNoDigit (behind xs s)
no_digit_behind [] s = omega arith
no_digit_behind (x ∷ xs) s = omega arith

next : (x : ℕ × ℕ) (xs : List (ℕ × ℕ)) (s : Text) → behind (x ∷ xs) s ≡ 44 ∷ (decimal (x.0 + 1) ++ behind xs s)
next x xs s = ap (λ l. 44 ∷ l) (append_assoc (decimal (x.0 + 1)) (flat_map (λ line. codes "," ++ decimal (line.0 + 1)) xs) (93 ∷ s))

same_first : (x y : ℕ × ℕ) (xs ys : List (ℕ × ℕ)) (s t : Text) → Fits x → Fits y
    → decimal (x.0 + 1) ++ behind xs s ≡ decimal (y.0 + 1) ++ behind ys t → (x.0 ≡ y.0) × (behind xs s ≡ behind ys t)
same_first x y xs ys s t f g e =
    let same = same_number (x.0 + 1) (y.0 + 1) _ _ f g (no_digit_behind xs s) (no_digit_behind ys t) e in
    let after : x.0 + 1 ≡ y.0 + 1 = same.0 in
    (omega arith, same.1)

one_more : (x y : ℕ × ℕ) (xs ys : List (ℕ × ℕ)) → x.0 ≡ y.0 → numbers xs ≡ numbers ys → numbers (x ∷ xs) ≡ numbers (y ∷ ys)
one_more x y xs ys e f = ap (λ n. n ∷ numbers xs) e ∙ ap (λ ns. y.0 ∷ ns) f

comma_or_bracket : (a b : ℕ) (s t : Text) → a < b → a ∷ s ≡ b ∷ t → ⊥
comma_or_bracket a b s t less e =
    let same = (heads a b s t e).0 in
    absurd (omega arith)

same_behind : (xs ys : List (ℕ × ℕ)) (s t : Text) → AllByRecursion Fits xs → AllByRecursion Fits ys → behind xs s ≡ behind ys t
    → (numbers xs ≡ numbers ys) × (s ≡ t)
same_behind [] [] s t f g e = (refl, (heads 93 93 s t e).1)
same_behind [] (y ∷ ys) s t f g e = absurd (comma_or_bracket 44 93 _ s (omega arith) (sym (next y ys t) ∙ sym e))
same_behind (x ∷ xs) [] s t f g e = absurd (comma_or_bracket 44 93 _ t (omega arith) (sym (next x xs s) ∙ e))
same_behind (x ∷ xs) (y ∷ ys) s t f g e =
    let rest = (heads 44 44 _ _ (sym (next x xs s) ∙ e ∙ next y ys t)).1 in
    let one = same_first x y xs ys s t f.0 g.0 rest in
    let more = same_behind xs ys s t f.1 g.1 one.1 in
    (one_more x y xs ys one.0 more.0, more.1)

-- with the first one
abbrev listed : List (ℕ × ℕ) → Text → Text
listed lines s = join_by (λ line. decimal (line.0 + 1)) (codes ",") lines ++ 93 ∷ s

opened : (x : ℕ × ℕ) (xs : List (ℕ × ℕ)) (s : Text) → listed (x ∷ xs) s ≡ decimal (x.0 + 1) ++ behind xs s
opened x xs s = append_assoc (decimal (x.0 + 1)) (flat_map (λ line. codes "," ++ decimal (line.0 + 1)) xs) (93 ∷ s)

none_or_some : (x : ℕ × ℕ) (xs : List (ℕ × ℕ)) (s t : Text) → Fits x → 93 ∷ t ≡ listed (x ∷ xs) s → ⊥
none_or_some x xs s t f e =
    let same = same_digits [] (decimal (x.0 + 1)) (93 ∷ t) (behind xs s) tt (are_digits (x.0 + 1) f) (omega arith) (no_digit_behind xs s) (e ∙ opened x xs s) in
    absurd (omega (arith, ap length same.0, decimal_nonempty (x.0 + 1) f))

same_listed : (xs ys : List (ℕ × ℕ)) (s t : Text) → AllByRecursion Fits xs → AllByRecursion Fits ys → listed xs s ≡ listed ys t
    → (numbers xs ≡ numbers ys) × (s ≡ t)
same_listed [] [] s t f g e = (refl, (heads 93 93 s t e).1)
same_listed [] (y ∷ ys) s t f g e = absurd (none_or_some y ys t s g.0 e)
same_listed (x ∷ xs) [] s t f g e = absurd (none_or_some x xs s t f.0 (sym e))
same_listed (x ∷ xs) (y ∷ ys) s t f g e =
    let one = same_first x y xs ys s t f.0 g.0 (sym (opened x xs s) ∙ e ∙ opened y ys t) in
    let more = same_behind xs ys s t f.1 g.1 one.1 in
    (one_more x y xs ys one.0 more.0, more.1)

kept : (b : Bool) (x : ℕ × ℕ) (xs : List (ℕ × ℕ)) → Fits x → AllByRecursion Fits xs → AllByRecursion Fits (cond b (x ∷ xs) xs)
kept true x xs f g = (f, g)
kept false x xs f g = g

missed_fit : (xs : List (ℕ × ℕ)) → AllByRecursion Fits xs → AllByRecursion Fits (filter is_missed xs)
missed_fit [] f = tt
missed_fit (x ∷ xs) f = kept (is_missed x) x (filter is_missed xs) f.0 (missed_fit xs f.1)

-- ---- a line

-- what is behind the number of missed lines, behind that of the lines that ran, and behind the path
abbrev after_missed : List (ℕ × ℕ) → Text → Text
after_missed lines s = codes ",\"lines\":[" ++ listed (filter is_missed lines) (125 ∷ 10 ∷ s)

abbrev after_ran : List (ℕ × ℕ) → Text → Text
after_ran lines s = codes ",\"missed\":" ++ (decimal (length lines - ran lines) ++ after_missed lines s)

abbrev after_path : List (ℕ × ℕ) → Text → Text
after_path lines s = codes ",\"ran\":" ++ (decimal (ran lines) ++ after_ran lines s)

in_a_row : (v k a l b n m s : Text) → (((v ++ (k ++ (a ++ (l ++ (b ++ (n ++ (m ++ 93 ∷ []))))))) ++ 125 ∷ []) ++ 10 ∷ []) ++ s
    ≡ v ++ (k ++ (a ++ (l ++ (b ++ (n ++ (m ++ 93 ∷ 125 ∷ 10 ∷ s))))))
in_a_row v k a l b n m s = simp append_assoc

spelt : (path : Text) (lines : List (ℕ × ℕ)) (s : Text) → covered_line path lines ++ s ≡ codes "{\"source\":" ++ (visible_string path ++ after_path lines s)
unfolding covered_members object_text text_member number_member
spelt path lines s =
    ap (λ l. codes "{\"source\":" ++ l)
    (in_a_row (visible_string path) (codes ",\"ran\":") (decimal (ran lines)) (codes ",\"missed\":") (decimal (length lines - ran lines)) (codes ",\"lines\":[") (missed_numbers lines) s)

ran_fit : (xs : List (ℕ × ℕ)) → length xs < 2 ^ 64 → ran xs < 2 ^ 64
ran_fit xs fits = omega (arith, count_by-le-length (λ (line : ℕ × ℕ). nat_lt 0 line.1) xs)

same_told : (p q : Text) (a b c d : ℕ) (ls ms : List ℕ) → p ≡ q → a ≡ b → c ≡ d → ls ≡ ms → ◌≡◌ {A = Text × ℕ × ℕ × List ℕ} (p, a, c, ls) (q, b, d, ms)
same_told p q a b c d ls ms e f g h = rw (e, f, g, h) refl

same_line : (p q : Text) (xs ys : List (ℕ × ℕ)) (s t : Text) → FitsCovered (p, xs) → FitsCovered (q, ys) → covered_line p xs ++ s ≡ covered_line q ys ++ t
    → (told (p, xs) ≡ told (q, ys)) × (s ≡ t)
same_line p q xs ys s t f g e =
    let whole = sym (spelt p xs s) ∙ e ∙ spelt q ys t in
    let paths = told_apart p q (after_path xs s) (after_path ys t) f.0 g.0 (cc whole) in
    let runs = same_number (ran xs) (ran ys) (after_ran xs s) (after_ran ys t) (ran_fit xs f.1) (ran_fit ys g.1) (omega arith) (omega arith) (cc paths.1) in
    let misses = same_number (length xs - ran xs) (length ys - ran ys) (after_missed xs s) (after_missed ys t) (omega arith) (omega arith) (omega arith) (omega arith) (cc runs.1) in
    let lines = same_listed (filter is_missed xs) (filter is_missed ys) (125 ∷ 10 ∷ s) (125 ∷ 10 ∷ t) (missed_fit xs f.2) (missed_fit ys g.2) (cc misses.1) in
    (same_told p q _ _ _ _ _ _ paths.0 runs.0 misses.0 lines.0, cc lines.1)

-- ---- all lines

nothing : (b : ℕ) (s : Text) → [] ≡ b ∷ s → ⊥
nothing b s e = cc

same_lines : (first second : List (Text × List (ℕ × ℕ))) → AllByRecursion FitsCovered first → AllByRecursion FitsCovered second
    → covered_lines first ≡ covered_lines second → map told first ≡ map told second
same_lines [] [] f g e = refl
same_lines [] (o ∷ os) f g e = absurd (nothing _ _ (e ∙ spelt o.0 o.1 (covered_lines os)))
same_lines (o ∷ os) [] f g e = absurd (nothing _ _ (sym e ∙ spelt o.0 o.1 (covered_lines os)))
same_lines (o ∷ os) (u ∷ us) f g e =
    let one = same_line o.0 u.0 o.1 u.1 (covered_lines os) (covered_lines us) f.0 g.0 e in
    let more = same_lines os us f.1 g.1 one.1 in
    ap (λ x. x ∷ map told os) one.0 ∙ ap (λ l. told u ∷ l) more

pub lines_told_apart : CoveredTellsApart
lines_told_apart = same_lines
