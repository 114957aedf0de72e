-- Ranges of lines that did not run, up to one that is open.
use Rattle.std.proofs.Common.{◌≡◌, ℕ, Bool, true, false, cond, List, [], ◌∷◌, ◌++◌, Option}
use Rattle.std.proofs.Common.{Some, None, refl, sym, ap}
use Rattle.std.proofs.Common.{◌∙◌, append_assoc, drop, length, ◌<◌, ◌+◌, get_or, suc, arith}
use Rattle.std.proofs.Math.Seq.{drop-cons}
use Rattle.sourcemap_run.specs.Counts.{is_missed, begins_missed, first_from, missed_ranges, closed}
use Rattle.sourcemap_run.specs.Counts.{opened}

-- the ranges that are left, after one that may be open
abbrev pub left : Option (ℕ × ℕ) → List (ℕ × ℕ) → List (ℕ × ℕ)
left None lines = missed_ranges lines
left (Some range) lines = cond (begins_missed lines) (first_from range.0 (missed_ranges lines)) (range ∷ missed_ranges lines)

at_end : (range : Option (ℕ × ℕ)) → left range [] ≡ closed range
at_end None = refl
at_end (Some range) = refl

ran_by : (range : Option (ℕ × ℕ)) (line : ℕ × ℕ) (lines : List (ℕ × ℕ)) → is_missed line ≡ false → left range (line ∷ lines) ≡ closed range ++ left None lines
ran_by None line lines e = rw e refl
ran_by (Some range) line lines e = rw e refl

twice_from : (f n : ℕ) (ranges : List (ℕ × ℕ)) → first_from f (first_from n ranges) ≡ first_from f ranges
twice_from f n [] = refl
twice_from f n (r ∷ rs) = refl

opens_by : (b : Bool) (f n : ℕ) (ranges : List (ℕ × ℕ))
    → first_from f (cond b (first_from n ranges) ((n, n) ∷ ranges)) ≡ cond b (first_from f ranges) ((f, n) ∷ ranges)
opens_by true f n ranges = twice_from f n ranges
opens_by false f n ranges = refl

missed_by : (range : Option (ℕ × ℕ)) (line : ℕ × ℕ) (lines : List (ℕ × ℕ)) → is_missed line ≡ true → left range (line ∷ lines) ≡ left (Some (opened range line.0)) lines
missed_by None line lines e = rw e refl
missed_by (Some range) line lines e = rw e (opens_by (begins_missed lines) range.0 line.0 (missed_ranges lines))

next_of : (lines : List (ℕ × ℕ)) (i : ℕ) → i < length lines → drop i lines ≡ get_or lines i (0, 0) ∷ drop (i + 1) lines
next_of lines i lt =
    let next : suc i ≡ i + 1 = omega arith in
    drop-cons lines i (0, 0) lt ∙ ap (λ n. get_or lines i (0, 0) ∷ drop n lines) next

-- a line that ran closes the range
pub ran : (ranges new : List (ℕ × ℕ)) (range : Option (ℕ × ℕ)) (lines : List (ℕ × ℕ)) (i : ℕ) (all : List (ℕ × ℕ)) → i < length lines → is_missed (get_or lines i (0, 0)) ≡ false
    → new ≡ ranges ++ closed range → ranges ++ left range (drop i lines) ≡ all → new ++ left None (drop (i + 1) lines) ≡ all
ran ranges new range lines i all lt e f so_far =
    ap (λ t. t ++ missed_ranges (drop (i + 1) lines)) f ∙ append_assoc ranges (closed range) (missed_ranges (drop (i + 1) lines))
    ∙ ap (λ t. ranges ++ t) (sym (ap (left range) (next_of lines i lt) ∙ ran_by range (get_or lines i (0, 0)) (drop (i + 1) lines) e)) ∙ so_far

-- one that did not run opens a range, or is its last line so far
pub missed : (ranges : List (ℕ × ℕ)) (range : Option (ℕ × ℕ)) (lines : List (ℕ × ℕ)) (i : ℕ) (all : List (ℕ × ℕ)) → i < length lines → is_missed (get_or lines i (0, 0)) ≡ true
    → ranges ++ left range (drop i lines) ≡ all → ranges ++ left (Some (opened range (get_or lines i (0, 0)).0)) (drop (i + 1) lines) ≡ all
missed ranges range lines i all lt e so_far =
    ap (λ t. ranges ++ t) (sym (ap (left range) (next_of lines i lt) ∙ missed_by range (get_or lines i (0, 0)) (drop (i + 1) lines) e)) ∙ so_far

-- after the last line
pub ended : (ranges new : List (ℕ × ℕ)) (range : Option (ℕ × ℕ)) (rest all : List (ℕ × ℕ)) → rest ≡ [] → new ≡ ranges ++ closed range → ranges ++ left range rest ≡ all → new ≡ all
ended ranges new range rest all e f so_far = f ∙ ap (λ t. ranges ++ t) (sym (ap (left range) e ∙ at_end range)) ∙ so_far
