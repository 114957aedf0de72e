-- The parts of a text that is put together.
use Rattle.std.proofs.Common.{◌≡◌, ℕ, zero, suc, ◌<◌, Bool, true, false, cond, ◌==◌, List, [], ◌∷◌}
use Rattle.std.proofs.Common.{◌++◌, map, replicate, filter, arith, refl, sym, ap, ◌∙◌}
use Rattle.std.specs.List.{AllByRecursion, onto_first, slice_split}
use Rattle.std.proofs.lemmas.Bool.Decides.{nat_tests}
use Rattle.std.proofs.lemmas.List.{append-nil}
use Rattle.oxc_sourcemap_mappings.specs.Parts.{Segment, segment, segments, lines, is_filled}
use Rattle.oxc_sourcemap_mappings.specs.Canonical.{digits, vlq_text, letter}
use Rattle.oxc_sourcemap_mappings.proofs.Digits.{digits-below}

-- a byte that is neither `,` nor `;`
pub record IsInside (b : ℕ) : Type 0 where
  pub comma : (b == 44) ≡ false
  pub semicolon : (b == 59) ≡ false

abbrev pub AreInside : List ℕ → Type 0
AreInside bs = AllByRecursion IsInside bs

inside-letter : (d : ℕ) → d < 64 → IsInside (letter d)
unfolding letter
inside-letter d h = record { comma = grind (arith, nat_tests); semicolon = grind (arith, nat_tests) }

inside-letters : (ds : List ℕ) → AllByRecursion (λ d. d < 64) ds → AreInside (map letter ds)
inside-letters [] h = tt
inside-letters (d ∷ ds) h = (inside-letter d h.0, inside-letters ds h.1)

pub inside-vlq_text : (n : ℕ) → AreInside (vlq_text n)
unfolding vlq_text
inside-vlq_text n = inside-letters (digits n n) (digits-below n n (omega arith))

pub inside-append : (xs ys : List ℕ) → AreInside xs → AreInside ys → AreInside (xs ++ ys)
inside-append [] ys h k = k
inside-append (x ∷ xs) ys h k = (h.0, inside-append xs ys h.1 k)

-- ---- a front without `,` or `;`
onto_parts : List ℕ → List (List ℕ) → List (List ℕ)
onto_parts x [] = x ∷ []
onto_parts x (p ∷ ps) = (x ++ p) ∷ ps

onto_first-parts : (b : ℕ) (x : List ℕ) (ps : List (List ℕ)) → onto_first b (onto_parts x ps) ≡ onto_parts (b ∷ x) ps
unfolding onto_parts
onto_first-parts b x [] = refl
onto_first-parts b x (p ∷ ps) = refl

onto-none : (b : ℕ) (ps : List (List ℕ)) → onto_parts [] (onto_first b ps) ≡ onto_first b ps
unfolding onto_parts
onto-none b [] = refl
onto-none b (p ∷ ps) = refl

split-cons : (test : ℕ → Bool) (r : List ℕ) → onto_parts [] (slice_split test r) ≡ slice_split test r
unfolding onto_parts
split-cons test [] = refl
split-cons test (b ∷ r) = elim (test b) as (λ v. onto_parts [] (cond v ([] ∷ slice_split test r) (onto_first b (slice_split test r))) ≡ cond v ([] ∷ slice_split test r) (onto_first b (slice_split test r))) [ true ↦ refl | false ↦ onto-none b (slice_split test r) ]

split-front : (test : ℕ → Bool) (x r : List ℕ) → AllByRecursion (λ b. test b ≡ false) x → slice_split test (x ++ r) ≡ onto_parts x (slice_split test r)
split-front test [] r h = sym (split-cons test r)
split-front test (b ∷ x) r h = rw (h.0, split-front test x r h.1) (onto_first-parts b x (slice_split test r))

inside-no_line : (x : List ℕ) → AreInside x → AllByRecursion (λ b. (b == 59) ≡ false) x
inside-no_line [] h = tt
inside-no_line (b ∷ x) h = (h.0.semicolon, inside-no_line x h.1)

inside-no_comma : (x : List ℕ) → AreInside x → AllByRecursion (λ b. (b == 44) ≡ false) x
inside-no_comma [] h = tt
inside-no_comma (b ∷ x) h = (h.0.comma, inside-no_comma x h.1)

-- a line that begins with no segment of its own
abbrev pub Opens : List ℕ → Type 0
Opens [] = Unit {0}
Opens (b ∷ bs) = b ≡ 44

segments-front : (x part : List ℕ) → AreInside x → is_filled x ≡ true → Opens part → segments (x ++ part) ≡ segment x ∷ segments part
unfolding onto_parts
segments-front x [] h f o =
    ap (λ ps. map segment (filter is_filled ps)) (split-front (λ b. b == 44) x [] (inside-no_comma x h)) ∙ rw (append-nil x, f)
segments-front x (b ∷ bs) h f o =
    rw o (ap (λ ps. map segment (filter is_filled ps)) (split-front (λ b'. b' == 44) x (44 ∷ bs) (inside-no_comma x h)) ∙ rw (append-nil x, f))

-- a text of these lines, the first of which begins with no segment of its own
pub record Splits (text : List ℕ) (here : List Segment) (below : List (List Segment)) : Type 0 where
  pub part : List ℕ
  pub parts : List (List ℕ)
  pub whole : slice_split (λ b. b == 59) text ≡ part ∷ parts
  pub opens : Opens part
  pub here_is : segments part ≡ here
  pub below_is : map segments parts ≡ below

pub splits-lines : (text : List ℕ) (here : List Segment) (below : List (List Segment)) → Splits text here below → lines text ≡ here ∷ below
splits-lines text here below s = rw (s.whole, s.here_is, s.below_is)

pub splits-none : Splits [] [] []
splits-none = record { part = []; parts = []; whole = refl; opens = tt; here_is = refl; below_is = refl }

module _ (text : List ℕ) (here : List Segment) (below : List (List Segment)) (s : Splits text here below) (x : List ℕ) (inside : AreInside x) (filled : is_filled x ≡ true) where
  front-whole : slice_split (λ b. b == 59) (x ++ text) ≡ (x ++ s.part) ∷ s.parts
  unfolding onto_parts
  front-whole = split-front (λ b. b == 59) x text (inside-no_line x inside) ∙ ap (onto_parts x) s.whole

  front-here : segments (x ++ s.part) ≡ segment x ∷ here
  front-here = segments-front x s.part inside filled s.opens ∙ ap (λ h. segment x ∷ h) s.here_is

  -- a segment at the front of the text
  pub front-lines : lines (x ++ text) ≡ (segment x ∷ here) ∷ below
  front-lines = rw (front-whole, front-here, s.below_is)

  pub splits-comma : Splits (44 ∷ (x ++ text)) (segment x ∷ here) below
  splits-comma = record { part = 44 ∷ (x ++ s.part); parts = s.parts; whole = rw front-whole; opens = refl; here_is = front-here; below_is = s.below_is }

  ends_run-whole : (k : ℕ) → slice_split (λ b. b == 59) (replicate k 59 ++ (x ++ text)) ≡ replicate k [] ++ ((x ++ s.part) ∷ s.parts)
  ends_run-whole zero = front-whole
  ends_run-whole (suc k) = ap (λ ps. [] ∷ ps) (ends_run-whole k)

  ends_run-below : (k : ℕ) → map segments (replicate k [] ++ ((x ++ s.part) ∷ s.parts)) ≡ replicate k [] ++ ((segment x ∷ here) ∷ below)
  ends_run-below zero = rw (front-here, s.below_is)
  ends_run-below (suc k) = ap (λ ls. [] ∷ ls) (ends_run-below k)

  -- a segment at the front of the text, after k + 1 `;`
  pub splits-lines-before : (k : ℕ) → Splits (replicate (suc k) 59 ++ (x ++ text)) [] (replicate k [] ++ ((segment x ∷ here) ∷ below))
  splits-lines-before k = record { part = []; parts = replicate k [] ++ ((x ++ s.part) ∷ s.parts); whole = ap (λ ps. [] ∷ ps) (ends_run-whole k); opens = tt; here_is = refl; below_is = ends_run-below k }
